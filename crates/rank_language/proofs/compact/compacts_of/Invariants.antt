use Rattle.std.proofs.Common.{◌≡◌, length, map}
use Rattle.rank_language.specs.Compact.{AreCompact}
use Rattle.rank_language.specs.Seen.{line_of}
use Rattle.rank_language.proofs.compact.compacts_of.Given as goal

-- the statements so far have their compact forms
abbrev pub invariant-loop-statement : goal.invariant-loop-statement
invariant-loop-statement l = record {
  each : AreCompact l.compacts.items (map line_of l.statements);
  count : length l.compacts.items ≡ l.statement-index;
}
