use Rattle.std.proofs.Common.{◌≡◌, ◌≤◌, length, Some, drop, map, reverse}
use Rattle.rank_text.specs.Checker.SeenLines.{forms_seen}
use Rattle.rank_language.specs.Ends.{ends_from, lines_from}
use Rattle.rank_language.specs.Seen.{line_of}
use Rattle.rank_language.specs.SeenTables.{tables_seen}
use Rattle.rank_language.proofs.build.statements_of.Given as goal

-- what stands from the position on has its lines, and these are the ends in front of it
abbrev pub invariant-loop-position : goal.invariant-loop-position
invariant-loop-position l = record {
  within : l.position ≤ length l.forms;
  ends : reverse l.ends.items ≡ ends_from l.position (forms_seen (drop l.position l.forms));
  lines : lines_from (tables_seen l.tables) l.position (forms_seen (drop l.position l.forms)) ≡ Some (map line_of (reverse l.statements.items));
}

abbrev pub decreases-loop-position : goal.decreases-loop-position
decreases-loop-position l = l.position
