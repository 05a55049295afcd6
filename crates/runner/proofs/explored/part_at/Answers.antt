use Rattle.std.proofs.Common.{◌-◌, Some, ap, arith, sym, ◌∙◌}
use Rattle.std.proofs.lemmas.Result.{on_ok_weaker}
use Rattle.explore.specs.Explored.{FoundOutcomeValue}
use Rattle.runner.proofs.Partings.{parted_on}
use Rattle.runner.proofs.explored.part_at.Goals as goal

pub returns : goal.returns
returns c =
    on_ok_weaker c.part.result
    (λ on.
    parted_on c.args.found.now.choices c.args.index (c.args.index - 1) c.as_slice.result.now c.as_slice-2.result.now c.args.parted.now.items
    c.part.new.parted.items c.requires.last (omega (arith, c.if-index-eq0.false))
    (c.outcome_at-last.ensures.choices ∙ ap (λ (o : FoundOutcomeValue). Some o.choices) (sym c.last.view_is) ∙ ap (λ x. Some x) (sym c.as_slice.ensures.value))
    (c.outcome_at-outcome.ensures.choices ∙ ap (λ (o : FoundOutcomeValue). Some o.choices) (sym c.outcome.view_is)
    ∙ ap (λ x. Some x) (sym c.as_slice-2.ensures.value)) on)
    c.part.ensures
