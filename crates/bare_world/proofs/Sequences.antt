-- Events one after another.
use Rattle.std.proofs.Common.{ℕ, ◌<◌, inl, inr, List, [], ◌∷◌, ◌++◌, length, take, get_or, Result, Ok, Err, IfOk, OnErr, refl, subst}
use Rattle.std.proofs.lemmas.Option.{slice_get-get_or}
use Rattle.std.specs.declared.alloc.AllocError.{AllocError}
use Rattle.rank_language.specs.Program.{ProgramValue}
use Rattle.bare_world.specs.Onward.{IsWorld}
use Rattle.bare_world.proofs.Headline.{stands_after, stands_for}
use Rattle.bare_world.proofs.HeadlineKept.{stands_unchanged, stands_fresh}
use Rattle.bare_world.proofs.Covers.NothingGone.{nothing_gone}
use Rattle.bare_world.proofs.Onward.KeptByEvents.{fresh_onward, onward_after, onward_unchanged}
use Rattle.bare_world.proofs.Onward.OnItsWire.{wired_after, wired_unchanged, wired_fresh}
use Rattle.bare_world.specs.World.{WorldValue}
use Rattle.bare_world.specs.Headline.{StandsFor, IsFresh}
use Rattle.bare_world.specs.Retained.{NothingGone}
use Rattle.bare_world.specs.Follows.{CanNot, Follows}
use Rattle.bare_world.specs.Memory.{TakesNoMemory, Unchanged}
use Rattle.bare_world.specs.Sequences.{FollowsAll, Stops}
use Rattle.bare_world.specs.declared.event.WorldEvent.{WorldEvent}
use Rattle.bare_world.specs.declared.reply.Reply.{Reply}

-- one more event after others
pub follows_push : (w mid w' : WorldValue) (events : List WorldEvent) (replies : List Reply) (event : WorldEvent) (answer : Reply)
    → FollowsAll w events replies mid → Follows mid event answer w' → StandsFor w' w'.run → NothingGone w' w'.run
    → FollowsAll w (events ++ event ∷ []) (replies ++ answer ∷ []) w'
follows_push w mid w' [] [] event answer all f s g = (w', subst (λ z. Follows z event answer w') all f, s, g, refl)
follows_push w mid w' [] (a ∷ answers) event answer all f s g = absurd all
follows_push w mid w' (e ∷ events) [] event answer all f s g = absurd all
follows_push w mid w' (e ∷ events) (a ∷ answers) event answer all f s g =
    (all.0, all.1, all.2, all.3, follows_push all.0 mid w' events answers event answer all.4 f s g)

-- a new world is one
pub world_fresh : (program : ProgramValue) (n : ℕ) (w : WorldValue) → IsFresh program n w → IsWorld w
world_fresh program n w f = record { stands = stands_fresh program n w f; onward = fresh_onward program n w f; wired = wired_fresh program n w f }

-- a world stands for its run
pub world_stands : (w : WorldValue) → IsWorld w → StandsFor w w.run
world_stands w i = stands_for w i.stands

-- and nothing that is needed is gone
pub world_retains : (w : WorldValue) → IsWorld w → NothingGone w w.run
world_retains w i = nothing_gone w i.stands

-- after an event, or where memory ended, a world is one still
pub kept : (w w' : WorldValue) (event : WorldEvent) (answer : Result Reply AllocError) → IsWorld w
    → IfOk answer (λ reply. Follows w event reply w') → OnErr answer (Unchanged w event w') → IsWorld w'
kept w w' event (Ok answer) i f e =
    record {
      stands = stands_after w event answer w' i.stands f;
      onward = onward_after w event answer w' f i.stands i.onward;
      wired = wired_after w event answer w' f i.stands i.onward i.wired;
    }
kept w w' event (Err refused) i f u =
    record {
      stands = stands_unchanged w event w' i.stands u;
      onward = onward_unchanged w event w' u i.onward;
      wired = wired_unchanged w event w' u i.wired;
    }

-- memory ends before the first event of a list
pub stops_before : (w : WorldValue) (events : List WorldEvent) → Stops w events 0 w
stops_before w events = inl (record { none = refl; same = refl })

-- or at the next one
pub stops : (w mid w' : WorldValue) (events : List WorldEvent) (replies : List Reply) (k : ℕ) (d : WorldEvent) → k < length events
    → FollowsAll w (take k events) replies mid → (CanNot mid (get_or events k d) → ⊥) → (TakesNoMemory mid (get_or events k d) → ⊥)
    → Unchanged mid (get_or events k d) w' → Stops w events k w'
stops w mid w' events replies k d l followed possible frugal unchanged = inr (record {
  replies = replies;
  middle = mid;
  followed = followed;
  event = get_or events k d;
  next = slice_get-get_or events k d l;
  possible = possible;
  frugal = frugal;
  unchanged = unchanged;
})

-- what a list of events comes to, and where it may stop
pub ruleset run_laws = (world_stands, world_retains, follows_push, stops, stops_before)
