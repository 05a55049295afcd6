-- What one step of a rank's machine leaves of the rank at its logger.
use Rattle.std.specs.Prelude.{◌≡◌, ◌≢◌, ◌+◌, Result, Err}
use Rattle.std.specs.Prelude.{IfOk, OnErr}
use Rattle.rank_node.specs.Phases.{clock_in}
use Rattle.rank_node.specs.declared.fault.NodeFault.{NodeFault}
use Rattle.rank_node.specs.declared.fault.NodeFault.TheVariants.{Memory}
use Rattle.rank_node.specs.declared.turn.Turn.{Turn}
use Rattle.rank_threads.specs.Lives.{SameNode}
use Rattle.rank_threads.specs.Phases.{want_in}
use Rattle.rank_threads.specs.Steps.{acts_made, turn_in}
use Rattle.rank_threads.specs.declared.node.Node.{Node}

-- A step answers what the state of the rank says, as long as there is memory. Its clock grows by
-- the acts that were made; a step that is refused leaves the rank as it was. The rank stays at its
-- desk.
pub record IsNodeStep (old new : Node) (result : Result Turn NodeFault) : Type 0 where
  pub answer : result ≢ Err Memory → result ≡ turn_in old.phase
  pub clock : IfOk result (λ turn. clock_in new.phase ≡ clock_in old.phase + acts_made (want_in old.phase) turn)
  pub err : OnErr result (new.phase ≡ old.phase)
  pub same : SameNode old new
