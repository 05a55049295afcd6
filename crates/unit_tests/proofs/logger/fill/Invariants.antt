use Rattle.event_logger.specs.Desks.{IsSameDesk}
use Rattle.unit_tests.proofs.logger.fill.Given as goal

-- the desk stays the same
abbrev pub invariant-loop-clock : goal.invariant-loop-clock
invariant-loop-clock g l = IsSameDesk l.initial.desk l.desk
