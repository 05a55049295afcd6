use Rattle.std.proofs.Common.{length, sym, subst}
use Rattle.explore.specs.Cycles.{MayGoOnForEver, WentOnFrom}
use Rattle.explore.specs.Sending.{HasRunUnder}
use Rattle.explore.proofs.Cycles.{further_on, from_further}
use Rattle.explore.proofs.cycle.follow.Goals as goal

pub is_met-requires-clause-from : goal.is_met-requires-clause-from
is_met-requires-clause-from c =
    subst (λ z. WentOnFrom z c.loop.mark.standing c.loop.mark.made) (sym c.as_sim-in-loop.ensures)
    (from_further c.args.mode c.loop.path.sim c.round.new.path.sim c.loop.mark.standing c.loop.mark.made c.loop.invariant.from c.in_ok-round.ensures)

pub returns-then-branch : goal.returns-then-branch
returns-then-branch c =
    let on = further_on c.args.mode c.args.path.now.sim c.loop.path.sim c.round.new.path.sim c.loop.invariant.further c.in_ok-round.ensures in
    subst (λ n. MayGoOnForEver c.args.mode c.args.path.now.sim.program n) on.ranks
    (subst (λ p. MayGoOnForEver c.args.mode p (length c.round.new.path.sim.machines)) on.program (rw c.as_sim-in-loop.ensures at (c.in_ok-is_met.ensures.yes (search))))

pub pass-requires-clause-from : goal.pass-requires-clause-from
pass-requires-clause-from c =
    let met = c.is_met.ensures in
    subst (λ z. WentOnFrom z c.is_met.new.self.standing c.is_met.new.self.made) (sym c.as_sim-in-loop-2.ensures)
    (subst (λ made. WentOnFrom c.round.new.path.sim c.is_met.new.self.standing made) (sym met.made)
    (subst (λ rows. WentOnFrom c.round.new.path.sim rows c.loop.mark.made) (sym met.standing)
    (from_further c.args.mode c.loop.path.sim c.round.new.path.sim c.loop.mark.standing c.loop.mark.made c.loop.invariant.from
    c.in_ok-round.ensures)))

pub loop-preserved : goal.loop-preserved
loop-preserved c = record {
  further = further_on c.args.mode c.args.path.now.sim c.loop.path.sim c.round.new.path.sim c.loop.invariant.further c.in_ok-round.ensures;
  from = rw c.as_sim-in-loop-2.ensures at c.in_ok-pass.ensures;
}

pub is_met-requires-clause-is_run : goal.is_met-requires-clause-is_run
is_met-requires-clause-is_run c =
    subst (λ z. HasRunUnder c.args.mode z) (sym c.as_sim-in-loop.ensures)
    ((further_on c.args.mode c.args.path.now.sim c.loop.path.sim c.round.new.path.sim c.loop.invariant.further c.in_ok-round.ensures).runs
    c.requires.is_run)
