use Rattle.std.proofs.Common.{◌≡◌, ◌≤◌, ◌<◌, ◌-◌, ℕ, true}
use Rattle.rank_text.specs.Checker.SeenLines.{forms_seen}
use Rattle.telling.specs.Free.{IsDigit, is_taken}
use Rattle.telling.proofs.free.free_name.Given as goal

-- with each digit so far a name is taken, whatever the second is
abbrev pub invariant-loop-tens : goal.invariant-loop-tens
invariant-loop-tens l = record {
  taken : (n ones : ℕ) → 48 ≤ n → n < l.tens → IsDigit ones → is_taken n ones (forms_seen l.forms) ≡ true;
  low : 48 ≤ l.tens;
  bound : l.tens ≤ 58;
}

abbrev pub decreases-loop-tens : goal.decreases-loop-tens
decreases-loop-tens l = 58 - l.tens
