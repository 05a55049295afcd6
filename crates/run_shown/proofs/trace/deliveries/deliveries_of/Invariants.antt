use Rattle.crash_free.specs.SendIndex.Sends.{run_before}
use Rattle.crash_free.specs.SendIndex.Tables.{HasSends}
use Rattle.run_shown.specs.Trace.Deliveries.{AreFoundUpTo}
use Rattle.run_shown.proofs.trace.deliveries.deliveries_of.Given as goal

-- the acts so far are followed
abbrev pub invariant-loop-index : goal.invariant-loop-index
invariant-loop-index l = record {
  found : AreFoundUpTo l.acts l.index l.found.items;
  noted : HasSends (run_before l.acts l.index) l.sends;
}
