use Rattle.std.proofs.Common.{◌≡◌, length}
use Rattle.outcomes.specs.Text.Outcomes.{act_line}
use Rattle.outcomes.proofs.text.text.OutcomeText.line_of_act.Given as goal

-- what is left decides
abbrev pub invariant-loop-rest : goal.invariant-loop-rest
invariant-loop-rest l = act_line l.rank l.clock l.rest ≡ act_line l.rank l.clock l.self.entries

abbrev pub decreases-loop-rest : goal.decreases-loop-rest
decreases-loop-rest l = length l.rest
