use Rattle.std.proofs.Common.{◌≡◌, ◌++◌, ℕ, ℤ, length, map}
use Rattle.audit.specs.Outcome.{lines_of}
use Rattle.outcomes.proofs.soak.seen.values_of.Given as goal

-- the values so far and those of the lines that are left are the whole
abbrev pub invariant-loop-rest : goal.invariant-loop-rest
invariant-loop-rest l =
    l.values.items ++ map (λ (line : ℕ × ℤ). line.1) (lines_of l.rank l.rest) ≡ map (λ (line : ℕ × ℤ). line.1) (lines_of l.rank l.lines)

abbrev pub decreases-loop-rest : goal.decreases-loop-rest
decreases-loop-rest l = length l.rest
