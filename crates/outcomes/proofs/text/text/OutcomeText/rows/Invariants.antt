use Rattle.std.proofs.Common.{◌≡◌, map}
use Rattle.outcomes.specs.Text.Outcomes.{rows_to}
use Rattle.outcomes.proofs.text.text.OutcomeText.rows.Given as goal

-- the rows of the ranks so far
abbrev pub invariant-loop-rank : goal.invariant-loop-rank
invariant-loop-rank l = map (λ row. row.items) l.rows.items ≡ rows_to l.rank l.self.entries
