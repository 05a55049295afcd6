use Rattle.explore.specs.Silences.{IsTableOf}
use Rattle.explore.proofs.silences.add_rows.Given as goal

-- the rows so far are right
abbrev pub invariant-loop-tag : goal.invariant-loop-tag
invariant-loop-tag l = record {
  right : IsTableOf l.program l.rows.items;
}
