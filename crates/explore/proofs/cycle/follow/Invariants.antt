use Rattle.explore.specs.Cycles.{GoesFurther, WentOnFrom}
use Rattle.explore.proofs.cycle.follow.Given as goal

-- the ranks went further, the last time from where the mark is
abbrev pub invariant-loop : goal.invariant-loop
invariant-loop l = record {
  further : GoesFurther l.mode l.initial.path.sim l.path.sim;
  from : WentOnFrom l.path.sim l.mark.standing l.mark.made;
}
