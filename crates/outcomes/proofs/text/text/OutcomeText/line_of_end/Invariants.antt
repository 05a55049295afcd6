use Rattle.std.proofs.Common.{◌≡◌, length}
use Rattle.outcomes.specs.Text.Outcomes.{end_line}
use Rattle.outcomes.proofs.text.text.OutcomeText.line_of_end.Given as goal

-- what is left decides
abbrev pub invariant-loop-rest : goal.invariant-loop-rest
invariant-loop-rest l = end_line l.rank l.rest ≡ end_line l.rank l.self.entries

abbrev pub decreases-loop-rest : goal.decreases-loop-rest
decreases-loop-rest l = length l.rest
