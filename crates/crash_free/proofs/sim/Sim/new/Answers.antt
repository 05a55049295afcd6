use Rattle.crash_free.proofs.Printing.{no_lines}
use Rattle.crash_free.proofs.Keeping.{kept_begun}
use Rattle.crash_free.proofs.Agreeing.{agrees}
use Rattle.crash_free.proofs.sim.Sim.new.Goals as goal

pub invariant_of-result : goal.invariant_of-result
invariant_of-result c = (
  rw (c.in_ok-new.ensures, c.new.ensures.items) (kept_begun _ _ _ c.requires.some c.requires.few c.in_ok-machines.ensures.ranks
      c.in_ok-machines.ensures.begins),
  rw (c.in_ok-new-2.ensures, c.new.ensures.items) no_lines,
)

pub returns-clause-stands : goal.returns-clause-stands
returns-clause-stands c =
    let kept = kept_begun _ _ _ c.requires.some c.requires.few c.in_ok-machines.ensures.ranks c.in_ok-machines.ensures.begins in
    rw c.new.ensures.items kept.simulates

pub returns-clause-collectives : goal.returns-clause-collectives
returns-clause-collectives c =
    let kept = kept_begun _ _ _ c.requires.some c.requires.few c.in_ok-machines.ensures.ranks c.in_ok-machines.ensures.begins in
    rw c.new.ensures.items (agrees _ kept.simulates)
