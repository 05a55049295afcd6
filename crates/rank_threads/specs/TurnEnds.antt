-- What the end of a turn does: it goes by the script's next line, takes an image if one is asked
-- for or due, and clears the gate (output commit) unless misses alone wait there.
use Rattle.std.specs.Prelude.{◌≡◌, Bool, true, false, None, Result, drop}
use Rattle.std.specs.Prelude.{IfOk, OnOk, OnErr}
use Rattle.rank_node.specs.Phases.{clock_in}
use Rattle.rank_node.specs.declared.fault.NodeFault.{NodeFault}
use Rattle.rank_threads.specs.Endings.{GoesDownAt, goes_down, is_down, is_leave}
use Rattle.rank_threads.specs.Lives.{SameLife}
use Rattle.rank_threads.specs.Orders.{is_kill, order_after}
use Rattle.rank_threads.specs.Phases.{NoneWaits, SameShelf, TookImage, gate_in, is_running, misses_only_in}
use Rattle.rank_threads.specs.Putting.{NothingBelow}
use Rattle.rank_threads.specs.Used.{MayUseImage, MayUseOne, UsesLine}
use Rattle.rank_threads.specs.declared.life.Life.{Life}
use Rattle.rank_threads.specs.declared.turn.After.{After}
use Rattle.rank_threads.specs.declared.turn.stepping.Stepped.{Stepped}

-- After this step a rank crashes just if the script's next line kills it at its clock; that line is
-- then used up. Else it uses no line, or one that asks for an image.
pub record FollowsScript (stepped : Stepped) (old new : Life) (result : Result After NodeFault) : Type 0 where
  pub killed : goes_down result ≡ is_kill (order_after stepped old.kit.plan old.node.phase)
  pub at : IfOk result (λ after. GoesDownAt after new.node.phase)
  pub used : goes_down result ≡ true → new.kit.plan ≡ drop 1 old.kit.plan
  pub lines : IfOk result (λ after. UsesLine after old.kit.plan new.kit.plan)
  pub err_lines : OnErr result (MayUseImage old.kit.plan new.kit.plan)
  pub unasked : order_after stepped old.kit.plan old.node.phase ≡ None → new.kit.plan ≡ old.kit.plan

-- A rank that is to take an image has one of its clock on its shelf, if it runs, doesn't crash, and
-- the logger has refused no event of it. The shelf of any other rank, and of one that crashes,
-- stays as it was.
pub record TakesImage (is_imaged : Bool) (old new : Life) (result : Result After NodeFault) : Type 0 where
  pub image : is_imaged ≡ true → is_running old.node.phase ≡ true → new.kit.tally.is_refused ≡ false
      → IfOk result (λ after. is_down after ≡ false → TookImage (clock_in old.node.phase) new.node.phase)
  pub unimaged : is_imaged ≡ false → SameShelf old.node.phase new.node.phase
  pub replays : is_running old.node.phase ≡ false → SameShelf old.node.phase new.node.phase
  pub crashed : goes_down result ≡ true → SameShelf old.node.phase new.node.phase

-- Misses are left at the gate as they are; or else nothing waits there. Nothing waits at the gate
-- of a rank that leaves. Of one that crashes nothing is said, nor of one of which the logger
-- refused an event.
pub record LeavesGate (leaves : Bool) (old new : Life) (result : Result After NodeFault) : Type 0 where
  pub settled : leaves ≡ false → IfOk result (λ after. is_down after ≡ false → new.kit.tally.is_refused ≡ false → NoneWaits new.node.phase)
  pub kept : leaves ≡ true → IfOk result (λ after. is_down after ≡ false → gate_in new.node.phase ≡ gate_in old.node.phase)
  pub left : IfOk result (λ after. is_leave after ≡ true → new.kit.tally.is_refused ≡ false → NoneWaits new.node.phase)

-- What waits passed, unless misses alone are left there, and then what is outgoing went out. A rank
-- that was to take an image took it between, if it runs and the logger has refused no event of it.
-- A rank that owed a frame, and owes none any more, has none outgoing. Only a line that asked for
-- an image may be used up.
pub record LetsOut (leaves is_imaged is_asked : Bool) (old new : Life) (result : Result Bool NodeFault) : Type 0 where
  pub nothing : OnOk result (old.kit.tally.may_owe ≡ true → new.kit.tally.may_owe ≡ false → NothingBelow new.node.size new.node.phase)
  pub settled : leaves ≡ false → OnOk result (new.kit.tally.is_refused ≡ false → NoneWaits new.node.phase)
  pub kept : leaves ≡ true → OnOk result (gate_in new.node.phase ≡ gate_in old.node.phase)
  pub image : is_imaged ≡ true → is_running old.node.phase ≡ true → new.kit.tally.is_refused ≡ false
      → OnOk result (TookImage (clock_in old.node.phase) new.node.phase)
  pub unimaged : is_imaged ≡ false → SameShelf old.node.phase new.node.phase
  pub replays : is_running old.node.phase ≡ false → SameShelf old.node.phase new.node.phase
  pub unasked : is_asked ≡ false → new.kit.plan ≡ old.kit.plan
  pub lines : MayUseOne is_asked old.kit.plan new.kit.plan
  pub same : SameLife old new

-- At the end of a turn nothing waits at the gate of a rank but misses, and nothing at all if a
-- limit had stopped the rank, or if it leaves. Of a rank that crashes nothing is said, nor of one
-- that has a fault, or of which the logger refused an event.
pub record ClearsTurn (old new : Life) (after : After) : Type 0 where
  pub settled : is_down after ≡ false → new.kit.tally.fault ≡ None → new.kit.tally.is_refused ≡ false → misses_only_in new.node.phase ≡ false
      → NoneWaits new.node.phase
  pub spent : is_down after ≡ false → new.kit.tally.fault ≡ None → new.kit.tally.is_refused ≡ false → old.kit.tally.is_spent ≡ true
      → NoneWaits new.node.phase
  pub left : is_leave after ≡ true → new.kit.tally.fault ≡ None → new.kit.tally.is_refused ≡ false → NoneWaits new.node.phase
