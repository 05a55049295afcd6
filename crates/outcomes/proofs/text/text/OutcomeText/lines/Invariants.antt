use Rattle.std.proofs.Common.{◌≡◌, ◌++◌, length}
use Rattle.outcomes.specs.Text.Outcomes.{lines_in}
use Rattle.outcomes.proofs.text.text.OutcomeText.lines.Given as goal

-- what was gathered and what is left are the whole
abbrev pub invariant-loop-rest : goal.invariant-loop-rest
invariant-loop-rest l = l.lines.items ++ lines_in l.rest ≡ lines_in l.self.entries

abbrev pub decreases-loop-rest : goal.decreases-loop-rest
decreases-loop-rest l = length l.rest
