-- The text of events by which a world ends, and why a world isn't led to its end.
use Rattle.std.proofs.Common.{◌≡◌, ℕ, ◌≤◌, inl, inr, List, refl, subst}
use Rattle.runner.specs.FinishText.{IsFinishText, IsWithoutEnd, refusal_of_end}
use Rattle.runner.specs.declared.commands.refusal.Refusal.{Refusal}
use Rattle.runner.specs.declared.commands.refusal.Refusal.TheVariants as refusal
use Rattle.world_model.specs.EventsText.Written.{events_text}
use Rattle.bare_world.specs.Finished.{ComesTo, IsAfter, LeadsTo, steps_in}
use Rattle.bare_world.specs.Sequences.{FollowsAll}
use Rattle.bare_world.specs.World.{WorldValue}
use Rattle.bare_world.specs.declared.event.WorldEvent.{WorldEvent}
use Rattle.bare_world.specs.declared.finish.FinishEnd.{FinishEnd}
use Rattle.bare_world.specs.declared.finish.FinishEnd.TheVariants as finish
use Rattle.bare_world.specs.declared.reply.Reply.{Reply}

-- a text of events that came to the end, from where others led
pub is_finish_text : (steps : ℕ) (before reached after : WorldValue) (events list : List WorldEvent) (replies : List Reply) (end : FinishEnd)
    (text : List ℕ) → FollowsAll before events replies reached → LeadsTo reached list end after → IsAfter reached after
    → ComesTo reached after steps list end → ((r : ℕ) → steps_in r list ≤ steps) → end ≡ finish.Ended → text ≡ events_text list
    → IsFinishText steps before events after text
is_finish_text steps before reached after events list replies end text follows leads later comes few same written = record {
  replies = replies;
  reached = reached;
  follows = follows;
  list = list;
  ends = record {
    leads = subst (λ e. LeadsTo reached list e after) same leads;
    after = later;
    ended = (subst (λ e. ComesTo reached after steps list e) same comes).0;
    rest = (subst (λ e. ComesTo reached after steps list e) same comes).1;
    few = few;
  };
  written = written;
}

-- the refusal of a world that was played and came to something else
pub is_without_end : (steps : ℕ) (before reached after : WorldValue) (events list : List WorldEvent) (replies : List Reply) (end : FinishEnd)
    (refused : Refusal) → FollowsAll before events replies reached → ComesTo reached after steps list end → refused ≡ refusal_of_end steps end
    → IsWithoutEnd steps before events after refused
is_without_end steps before reached after events list replies end refused follows comes told =
    inl (record { replies = replies; reached = reached; follows = follows; list = list; end = end; comes = comes; told = told })

-- if there is no memory, nothing more is said
pub without_memory : (steps : ℕ) (before : WorldValue) (events : List WorldEvent) (after : WorldValue)
    → IsWithoutEnd steps before events after refusal.Memory
without_memory steps before events after = inr refl
