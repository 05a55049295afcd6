use Rattle.std.proofs.Common.{◌≡◌, ◌+◌, ◌++◌, length}
use Rattle.outcomes.specs.Soak.Seen.{seen_on}
use Rattle.outcomes.proofs.soak.seen.seen_of.Given as goal

-- what was seen and what is left to see are the whole
abbrev pub invariant-loop-rest : goal.invariant-loop-rest
invariant-loop-rest l = record {
  within : l.rank + length l.rest ≡ length l.outcome.ends;
  whole : l.seen.items ++ seen_on l.rank l.outcome.lines l.rest ≡ seen_on 0 l.outcome.lines l.outcome.ends;
}

abbrev pub decreases-loop-rest : goal.decreases-loop-rest
decreases-loop-rest l = length l.rest
