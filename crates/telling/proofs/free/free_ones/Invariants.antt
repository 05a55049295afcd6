use Rattle.std.proofs.Common.{◌≡◌, ◌≤◌, ◌<◌, ◌-◌, ℕ, true}
use Rattle.rank_text.specs.Checker.SeenLines.{forms_seen}
use Rattle.telling.specs.Free.{is_taken}
use Rattle.telling.proofs.free.free_ones.Given as goal

-- with each digit so far a name is taken
abbrev pub invariant-loop-ones : goal.invariant-loop-ones
invariant-loop-ones l = record {
  taken : (n : ℕ) → 48 ≤ n → n < l.ones → is_taken l.tens n (forms_seen l.forms) ≡ true;
  low : 48 ≤ l.ones;
  bound : l.ones ≤ 58;
}

abbrev pub decreases-loop-ones : goal.decreases-loop-ones
decreases-loop-ones l = 58 - l.ones
