use Rattle.explore.specs.Silences.{IsTableOf}
use Rattle.explore.proofs.silences.Silences.of.Given as goal

-- the rows so far are right
abbrev pub invariant-loop-sender : goal.invariant-loop-sender
invariant-loop-sender l = record {
  right : IsTableOf l.program l.rows.items;
}

abbrev pub invariant-loop-receiver : goal.invariant-loop-receiver
invariant-loop-receiver l = record {
  right : IsTableOf l.program l.rows.items;
}
