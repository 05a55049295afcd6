use Rattle.std.proofs.Common.{◌≡◌, length}
use Rattle.outcomes.specs.Text.Outcomes.{end_of}
use Rattle.outcomes.proofs.text.text.OutcomeText.end.Given as goal

-- what is left decides
abbrev pub invariant-loop-rest : goal.invariant-loop-rest
invariant-loop-rest l = end_of l.rank l.rest ≡ end_of l.rank l.self.entries

abbrev pub decreases-loop-rest : goal.decreases-loop-rest
decreases-loop-rest l = length l.rest
