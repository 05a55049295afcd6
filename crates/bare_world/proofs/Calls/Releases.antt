-- What a release comes to.
use Rattle.std.proofs.Common.{◌≡◌, ℕ, ◌≤◌, List, [], Option, Some, None, refl, sym}
use Rattle.std.proofs.Common.{ap, subst, ◌∙◌, slice_get, slice_set, IsSome, IsSomeAnd, option_and_then}
use Rattle.rank_machine.specs.Acts.{Act}
use Rattle.rank_node.specs.declared.waiting.Waiting.{Waiting}
use Rattle.rank_node.specs.declared.waiting.Waiting.TheVariants as waits
use Rattle.rank_node.specs.Waiting.{effect_clock}
use Rattle.rank_node.specs.Releasing.{effect_of, next_effect, released, ShowsEffect}
use Rattle.bare_world.specs.World.{Rank, Live, WorldValue, size}
use Rattle.bare_world.specs.Seats.{at_work, AtRank, IsNotAtWork, IsReleased}
use Rattle.bare_world.specs.Follows.{CanNot, Follows, passed_at, lines_released, released_act}
use Rattle.bare_world.specs.Stands.{Stands}
use Rattle.bare_world.proofs.Plain.Worlds.{rank_of}
use Rattle.bare_world.specs.declared.event.WorldEvent.TheVariants.{Release}
use Rattle.bare_world.specs.declared.reply.Reply.TheVariants as reply
use Rattle.bare_world.proofs.Calls.RankOfEvent.{none_live, same_live, at_value, value_at, live_in_replay, same_world}
use Rattle.bare_world.proofs.Calls.Console.{Shows, shown_effect}

-- no rank is there to release anything
pub release_nowhere : (w : WorldValue) (r : ℕ) → size w ≤ r → Follows w (Release r) reply.Refused w
release_nowhere w r past = (λ v live. absurd (none_live w r v past live), refl)

-- a rank that is down or replays releases nothing
pub release_idle : (w : WorldValue) (r : ℕ) → IsSomeAnd (slice_get w.ranks r) IsNotAtWork → Follows w (Release r) reply.Refused w
release_idle w r h = (λ v live running. absurd (live_in_replay w r v h live running), refl)

-- a rank where no effect stands first releases nothing
pub release_none : (w : WorldValue) (r : ℕ) (x : Rank) → slice_get w.ranks r ≡ Some (at_work x) → None ≡ next_effect x → Follows w (Release r) reply.Refused w
release_none w r x at none = (λ v live running. subst (λ z. next_effect z.rank ≡ None) (sym (same_live w r x v at live)) (sym none), refl)

-- an effect is released
pub release_some : (w w' : WorldValue) (r : ℕ) (x : Rank) (effect : Waiting) (act : Act) (before clock : ℕ) → Stands w
    → slice_get w.ranks r ≡ Some (at_work x) → Some effect ≡ next_effect x → released_act x effect ≡ Some act
    → AtRank w.ranks r (λ v. (y : Option Live) × IsReleased w.lines w'.lines clock v y × (w'.ranks ≡ slice_set w.ranks r y))
    → effect_clock effect ≡ Some before → w'.run ≡ passed_at w.run r before (Some act)
    → w'.program ≡ w.program → w'.images ≡ w.images → w'.logger ≡ w.logger → w'.wires ≡ w.wires
    → Follows w (Release r) (reply.Released clock) w'
release_some w w' r x effect act before clock s at oldest acts ranks is_before run program images logger wires =
    record {
      before = record { rank = x; left = [] };
      live = at;
      effect = effect;
      oldest = sym oldest;
      clock = clock;
      of_it = of_it;
      answered = refl;
      act = act;
      passes = acts;
      after =
          same_world w' _ program (is.2 ∙ ap (λ z. slice_set w.ranks r z) (is.1.1 ∙ ap (λ z. at_work (released x z)) (sym oldest))) images logger wires
          (shown_effect x effect w.lines w'.lines (subst (λ z. ShowsEffect Shows x z w.lines w'.lines) (sym oldest) is.1.2)
          ∙ ap (λ z. lines_released w.lines z effect) (rank_of s r (record { rank = x; left = [] }) at).number)
          (run ∙ ap (λ z. passed_at w.run r z (Some act)) (let q : Some before ≡ Some clock = sym is_before ∙ of_it in cc));
    }
  where
    is : (y : Option Live) × IsReleased w.lines w'.lines clock (record { rank = x; left = [] }) y × (w'.ranks ≡ slice_set w.ranks r y)
    is = at_value w.ranks r x _ at ranks

    of_it : effect_clock effect ≡ Some clock
    of_it = ap (λ z. option_and_then effect_clock z) oldest ∙ is.1.0

-- where memory ends a release could happen
pub release_possible : (w : WorldValue) (r : ℕ) (x : Rank) (effect : Waiting) → slice_get w.ranks r ≡ Some (at_work x) → Some effect ≡ next_effect x
    → CanNot w (Release r) → ⊥
release_possible w r x effect at oldest cannot = let none : Some effect ≡ None = oldest ∙ cannot (record { rank = x; left = [] }) at refl in cc

-- what is released was due
pub release_due : (ranks : List (Option Live)) (r : ℕ) (x : Rank) (effect : Waiting) → slice_get ranks r ≡ Some (at_work x) → Some effect ≡ next_effect x
    → AtRank ranks r (λ v. IsSome (next_effect v.rank))
release_due ranks r x effect at oldest = value_at ranks r x (λ v. IsSome (next_effect v.rank)) at (subst (λ z. IsSome z) oldest refl)

-- what may be released has a clock
pub release_clock : (x : Rank) (effect : Waiting) → Some effect ≡ next_effect x → IsSome (effect_clock effect)
release_clock x effect oldest = go (slice_get x.pending 0) (sym oldest)
  where
    go : (o : Option Waiting) → option_and_then effect_of o ≡ Some effect → IsSome (effect_clock effect)
    go None e = absurd cc
    go (Some (waits.Event y)) e = absurd cc
    go (Some (waits.Send d c)) e = (let q : waits.Send d c ≡ effect = cc in subst (λ z. IsSome (effect_clock z)) q refl)
    go (Some (waits.Line c v)) e = (let q : waits.Line c v ≡ effect = cc in subst (λ z. IsSome (effect_clock z)) q refl)

-- what a release comes to, and what its calls ask for
pub ruleset release_laws = (release_nowhere, release_idle, release_none, release_some, release_due, release_clock, release_possible)
