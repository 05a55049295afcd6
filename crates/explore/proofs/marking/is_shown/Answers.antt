use Rattle.std.proofs.Common.{suc, refl, sym, subst, ◌∙◌}
use Rattle.crash_free.specs.Runs.{history, IsEligible}
use Rattle.crash_free.specs.Sim.{inbound_of}
use Rattle.explore.proofs.Shown.{past_there, past_nowhere}
use Rattle.explore.proofs.marking.is_shown.Goals as goal

pub returns-in_default-clause-no : goal.returns-in_default-clause-no
returns-in_default-clause-no c = λ e past same.
    c.eligible.ensures.none (rw c.in_default.is refl) (suc past.index)
    (subst (λ s. IsEligible (inbound_of c.args.sim.now.run c.args.rank) (history c.args.sim.now.run c.args.rank) s (suc past.index) c.args.selector.now) same
    past.eligible)

pub returns-clause-yes : goal.returns-clause-yes
returns-clause-yes c = λ e.
    past_there c.args.sim.now.run c.args.rank c.args.source c.in-Some.index c.args.selector.now (rw c.in-Some.is at c.eligible.ensures.some)
    (sym (c.has.ensures c.args.sim.now.run c.requires.knows) ∙ e)

pub returns-clause-no : goal.returns-clause-no
returns-clause-no c = λ e past same.
    past_nowhere c.args.sim.now.run c.args.rank c.args.source c.in-Some.index c.args.selector.now (rw c.in-Some.is at c.eligible.ensures.some)
    (sym (c.has.ensures c.args.sim.now.run c.requires.knows) ∙ e) past same
