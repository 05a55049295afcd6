use Rattle.std.proofs.Common.{◌≡◌, ◌+◌, ◌++◌, refl, string_bytes, subst}
use Rattle.runner.proofs.Partings.{of_next}
use Rattle.runner.proofs.Written.{one_more}
use Rattle.runner.specs.OutcomesText.{one_text}
use Rattle.runner.proofs.explored.print_outcomes.Goals as goal

-- the outcome at this place is written too, with what is listed of it
pub loop-index-preserved : goal.loop-index-preserved
loop-index-preserved c = record {
  written =
      one_more _ _ _ _ _ _ _ _ _ c.loop-index.invariant.written c.outcome_at-outcome.ensures.outcome c.in_ok-part_at.ensures
      (subst (λ listed. string_bytes c.print_one.new.text
      ≡ string_bytes c.loop-index.text ++ one_text (c.loop-index.index + 1) c.outcome_at-outcome.result.now.ranks c.args.lines.now c.part_at.new.parted.items
      listed)
      c.left_at-listed.ensures (subst (λ parted. string_bytes c.print_one.new.text
      ≡ string_bytes c.loop-index.text ++ one_text (c.loop-index.index + 1) c.outcome_at-outcome.result.now.ranks c.args.lines.now parted
      c.left_at-listed.result.now)
      c.as_slice.ensures.value c.in_ok-print_one.ensures));
  parted = of_next _ _ _ _ c.in_ok-part_at.ensures refl;
}
