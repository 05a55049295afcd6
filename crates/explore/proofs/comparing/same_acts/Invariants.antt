use Rattle.std.proofs.Common.{◌≡◌, length}
use Rattle.explore.specs.Own.{own}
use Rattle.explore.proofs.comparing.same_acts.Given as goal

-- it comes down to those that are left
abbrev pub invariant-loop-act : goal.invariant-loop-act
invariant-loop-act l = record {
  same : own l.rank l.rest ≡ own l.rank l.left → own l.rank l.acts ≡ own l.rank l.others;
  apart : own l.rank l.acts ≡ own l.rank l.others → own l.rank l.rest ≡ own l.rank l.left;
}

abbrev pub decreases-loop-act : goal.decreases-loop-act
decreases-loop-act l = length l.rest
