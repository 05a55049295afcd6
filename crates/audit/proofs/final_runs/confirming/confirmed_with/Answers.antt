use Rattle.std.proofs.Common.{◌≡◌, length, refl, sym, ap, subst, ◌∙◌}
use Rattle.std.specs.Prelude.{Some, slice_get}
use Rattle.crash_free.specs.Sim.{start_of}
use Rattle.audit.specs.declared.outcome.End.TheVariants as end
use Rattle.audit.specs.Outcome.{OutcomeValue}
use Rattle.audit.specs.FinalRuns.Final.{AreWaiting, HasNotStalled, HaveStalled}
use Rattle.audit.proofs.FinalRunsLaws.Finding.{are_waiting, is_confirmed, never_stalled}
use Rattle.audit.proofs.final_runs.confirming.confirmed_with.Goals as goal

pub not_stalled-requires : goal.not_stalled-requires
not_stalled-requires g c =
    let ends = c.as_slice.ensures.value ∙ ap (λ (o : OutcomeValue). o.ends) c.outcome.view_is in
    subst (λ es. AreWaiting c.in-Ok.run' es) (sym ends)
    (are_waiting c.args.ahead.program c.args.ahead.ranks c.args.outcome.now c.args.ahead.steps c.in-Ok.run' c.in-Ok.ensures.ok)

pub returns-in-None-clause-ok : goal.returns-in-None-clause-ok
returns-in-None-clause-ok g c =
    let ends = c.as_slice.ensures.value ∙ ap (λ (o : OutcomeValue). o.ends) c.outcome.view_is in
    is_confirmed c.args.ahead.program c.args.ahead.ranks c.args.outcome.now c.args.ahead.steps c.in-Ok.run' c.in-Ok.ensures.ok
    (subst (λ es. HaveStalled (start_of c.in-Ok.run'.program (length c.in-Ok.run'.machines)) (length c.in-Ok.run'.machines) c.in-Ok.run'.run es) ends
    (c.in-None.ensures.none refl))

pub returns-in-Ok-clause-err : goal.returns-in-Ok-clause-err
returns-in-Ok-clause-err g c =
    let ends = c.as_slice.ensures.value ∙ ap (λ (o : OutcomeValue). o.ends) c.outcome.view_is in
    let said = subst (λ es. slice_get es c.in-Some.rank ≡ Some end.Stalled) ends c.in-Some.ensures.said in
    let may =
    subst (λ es. HasNotStalled (start_of c.in-Ok.run'.program (length c.in-Ok.run'.machines)) (length c.in-Ok.run'.machines) c.in-Ok.run'.run es c.in-Some.rank)
    ends c.in-Some.ensures.may in
    (said, never_stalled c.args.ahead.program c.args.ahead.ranks c.args.outcome.now c.args.ahead.steps c.in-Ok.run' c.in-Ok.ensures.ok c.in-Some.rank said may)
