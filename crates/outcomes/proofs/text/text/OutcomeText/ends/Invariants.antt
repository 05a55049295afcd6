use Rattle.std.proofs.Common.{◌≡◌}
use Rattle.outcomes.specs.Text.Outcomes.{ends_to}
use Rattle.outcomes.proofs.text.text.OutcomeText.ends.Given as goal

-- the ends of the ranks so far
abbrev pub invariant-loop-rank : goal.invariant-loop-rank
invariant-loop-rank l = l.ends.items ≡ ends_to l.rank l.self.entries
