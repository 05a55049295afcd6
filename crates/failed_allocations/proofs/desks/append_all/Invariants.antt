use Rattle.event_logger.specs.Desks.{IsSameDesk}
use Rattle.failed_allocations.proofs.desks.append_all.Given as goal

-- the desk stays the same
abbrev pub invariant-loop-clock : goal.invariant-loop-clock
invariant-loop-clock l = IsSameDesk l.initial.desk l.desk
