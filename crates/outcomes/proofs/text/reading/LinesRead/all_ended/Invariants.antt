use Rattle.std.proofs.Common.{◌≡◌, ◌≤◌, ◌-◌, true}
use Rattle.outcomes.specs.Text.Texts.{all_ended}
use Rattle.outcomes.proofs.text.reading.LinesRead.all_ended.Given as goal

-- the ranks so far have ended
abbrev pub invariant-loop-rank : goal.invariant-loop-rank
invariant-loop-rank l = record {
  low : l.rank ≤ l.ranks;
  ended : all_ended l.rank l.self.entries.items ≡ true;
}

abbrev pub decreases-loop-rank : goal.decreases-loop-rank
decreases-loop-rank l = l.ranks - l.rank
