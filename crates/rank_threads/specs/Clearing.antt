-- When a turn leaves what waits at its rank's gate (output commit) unstored, so that further misses
-- join it; and what clearing the gate leaves of the life.
use Rattle.std.specs.Prelude.{◌≡◌, Bool, true, false, not, ◌&&◌, Result, Ok, drop}
use Rattle.rank_node.specs.Phases.{clock_in}
use Rattle.rank_node.specs.declared.fault.NodeFault.{NodeFault}
use Rattle.rank_threads.specs.Lives.{SameLife}
use Rattle.rank_threads.specs.Phases.{HasImage, SameShelf, is_running}
use Rattle.rank_threads.specs.Used.{MayUseOne}
use Rattle.rank_threads.specs.declared.life.Life.{Life}
use Rattle.rank_threads.specs.Phases.{misses_only_in}
use Rattle.rank_threads.specs.Phases.{Phase}
use Rattle.rank_threads.specs.declared.turn.stepping.Stepped.{Stepped}
use Rattle.rank_threads.specs.declared.turn.stepping.Stepped.TheVariants as stepped

-- the rank's machine made steps in the turn, of its own or an act
abbrev pub has_stepped : Stepped → Bool
has_stepped stepped.Moved = true
has_stepped stepped.Acted = true
has_stepped stepped.Blocked = false
has_stepped stepped.Held = false
has_stepped stepped.Ended = false

-- Just one miss or run of misses is left at the gate, unless the rank made no step, is to take an
-- image, or was stopped by a limit.
abbrev pub leaves_misses : Stepped → Bool → Bool → Phase → Bool
leaves_misses stepped is_imaged is_spent p = has_stepped stepped && not is_imaged && not is_spent && misses_only_in p

-- The gate of a rank was cleared, in a turn that is to take an image or isn't, as a line of the
-- script asks for it or none does. If the rank runs, and the logger has refused no event of it, its
-- shelf then holds its image, and that line is used up. A rank that replays keeps its shelf and its
-- lines. The rank's clock, and whether it runs, are as they were.
pub record ClearsGate (is_imaged is_asked : Bool) (old new : Life) (result : Result (Unit {0}) NodeFault) : Type 0 where
  pub image : result ≡ Ok tt → is_imaged ≡ true → new.kit.tally.is_refused ≡ false → is_running new.node.phase ≡ true → HasImage new.node.phase
  pub clock : clock_in new.node.phase ≡ clock_in old.node.phase
  pub unimaged : is_imaged ≡ false → SameShelf old.node.phase new.node.phase
  pub replays : is_running new.node.phase ≡ false → SameShelf old.node.phase new.node.phase
  pub used : result ≡ Ok tt → is_imaged ≡ true → is_asked ≡ true → new.kit.tally.is_refused ≡ false → is_running new.node.phase ≡ true
      → new.kit.plan ≡ drop 1 old.kit.plan
  pub kept : is_running new.node.phase ≡ false → new.kit.plan ≡ old.kit.plan
  pub unasked : is_asked ≡ false → new.kit.plan ≡ old.kit.plan
  pub lines : MayUseOne is_asked old.kit.plan new.kit.plan
  pub owing : old.kit.tally.may_owe ≡ true → new.kit.tally.may_owe ≡ true
  pub runs : is_running new.node.phase ≡ is_running old.node.phase
  pub same : SameLife old new
