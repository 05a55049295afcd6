use Rattle.std.proofs.Common.{◌≡◌, ◌++◌, length}
use Rattle.outcomes.specs.Text.Outcomes.{row_of}
use Rattle.outcomes.proofs.text.text.OutcomeText.row.Given as goal

-- what was gathered and what is left are the whole
abbrev pub invariant-loop-rest : goal.invariant-loop-rest
invariant-loop-rest l = l.row.items ++ row_of l.rank l.rest ≡ row_of l.rank l.self.entries

abbrev pub decreases-loop-rest : goal.decreases-loop-rest
decreases-loop-rest l = length l.rest
