use Rattle.std.proofs.Common.{◌≡◌, suc, refl, subst, arith}
use Rattle.crash_free.specs.Runs.{history, IsEligible}
use Rattle.crash_free.specs.Sim.{inbound_of}
use Rattle.explore.proofs.Moving.{takes_none, takes_one}
use Rattle.explore.proofs.moves.add_take.Goals as goal

pub returns : goal.returns
returns c = λ before adds.
    (let place : suc c.in-Some.index ≡ c.in-Some-checked_add.index = omega (arith, c.in-Some-checked_add.ensures.1) in
    rw (c.in_ok-push.ensures.items, c.from-source.ensures)
    (takes_one c.args.sim.now c.args.rank c.args.selector.now c.args.source c.in-Some-checked_add.index before c.args.moves.now.items adds
    (subst (λ j. IsEligible (inbound_of c.args.sim.now.run c.args.rank) (history c.args.sim.now.run c.args.rank) c.args.source j c.args.selector.now) place
    c.in-Some.ensures.some)))

pub returns-in_default : goal.returns-in_default
returns-in_default c = λ before adds.
    takes_none c.args.sim.now c.args.rank c.args.selector.now c.args.source before c.args.moves.now.items adds
    (rw c.in_default.is at c.eligible.ensures.none refl)
