-- What the console has after a step, a replayed step and a release.
use Rattle.std.proofs.Common.{◌≡◌, ℕ, ℤ, ◌+◌, Bool, true, false, if◌then◌else◌, MatchBool, List, [], ◌∷◌, Some, refl, ap}
use Rattle.matching.specs.declared.line.Line.{Line}
use Rattle.ports.specs.Console.{after_line}
use Rattle.rank_machine.specs.declared.want.Want.{Want}
use Rattle.rank_machine.specs.declared.want.Want.TheVariants as want
use Rattle.rank_machine.specs.Machine.{machine_want}
use Rattle.rank_node.specs.declared.turn.Turn.TheVariants.{Moved, Held}
use Rattle.rank_node.specs.declared.waiting.Waiting.{Waiting}
use Rattle.rank_node.specs.declared.waiting.Waiting.TheVariants as waits
use Rattle.rank_node.specs.Waiting.{is_settled, has_room}
use Rattle.rank_node.specs.Steps.{turn_at, ShowsAt, ShowsStep, turn_of, after_step, MachineStep}
use Rattle.rank_node.specs.Releasing.{ShowsEffect}
use Rattle.bare_world.specs.World.{Rank}
use Rattle.bare_world.specs.Follows.{lines_after, lines_released}
use Rattle.bare_world.specs.Seats.{at_work, IsStep}

-- the console shows a line where it is new
abbrev pub Shows : List Line → ℕ → ℕ → ℤ → List Line → Type 0
Shows old rank clock value new = new ≡ after_line old rank clock value

-- a list with nothing has room, and one that isn't settled shows nothing
printed : (xs : List Waiting) (old new : List Line) (shown : List Line) → MatchBool (is_settled xs) (new ≡ shown) (new ≡ old)
    → (has : Bool) → has_room xs ≡ has → (MatchBool has (new ≡ (if is_settled xs then shown else old)) (new ≡ old))
printed [] old new shown m true e = m
printed [] old new shown m false e = absurd cc
printed (x ∷ xs) old new shown m true e = m
printed (x ∷ xs) old new shown m false e = m

-- whatever it wants
shown_at : (v : Rank) (w : Want) (old new : List Line) → ShowsAt Shows v w old new → new ≡ lines_after old v.stable.rank v w (turn_at v w)
shown_at v want.Internal old new e = e
shown_at v (want.Send d c t) old new e = e
shown_at v (want.Receive selector) old new e = e
shown_at v (want.Probe selector) old new e = e
shown_at v (want.TryProbe selector) old new e = e
shown_at v (want.Print value) old new e =
    go (has_room v.pending) (printed v.pending old new (after_line old v.stable.rank (v.clock + 1) value) e (has_room v.pending) refl)
  where
    go : (b : Bool) → MatchBool b (new ≡ (if is_settled v.pending then after_line old v.stable.rank (v.clock + 1) value else old)) (new ≡ old)
        → new ≡ lines_after old v.stable.rank v (want.Print value) (if b then Moved else Held)
    go true m = m
    go false m = m
shown_at v want.Halted old new e = e
shown_at v (want.Faulted k) old new e = e

-- what a step shows
shown_step : (v : Rank) (old new : List Line) → ShowsStep Shows v old new → new ≡ lines_after old v.stable.rank v (machine_want v.machine) (turn_of v)
shown_step v old new e = shown_at v (machine_want v.machine) old new e

-- what a release shows
pub shown_effect : (v : Rank) (x : Waiting) (old new : List Line) → ShowsEffect Shows v (Some x) old new → new ≡ lines_released old v.stable.rank x
shown_effect v (waits.Event y) old new e = e
shown_effect v (waits.Send d c) old new e = e
shown_effect v (waits.Line c value) old new e = e

-- a step of a rank at work, as a world sees it
pub step_is : (v x : Rank) (old new : List Line) → x ≡ after_step v x.machine → MachineStep v x.machine → ShowsStep Shows v old new
    → IsStep (record { rank = v; left = [] }) (at_work x) old new
step_is v x old new is steps shows = record { machine = x.machine; steps = steps; after = ap at_work is; shown = shown_step v old new shows }
