use Rattle.std.proofs.Common.{refl}
use Rattle.rank_language.proofs.Compacting.{counted_more, none_more, statement_more}
use Rattle.rank_language.proofs.compact.compacts_of.Goals as goal

pub loop-statement-preserved : goal.loop-statement-preserved
loop-statement-preserved c =
    let h = c.loop-statement.invariant in
    let more = (c.in_ok-push.ensures {u = tt}).items in
    record {
      each =
          statement_more c.args.statements.now c.loop-statement.statement-index _ c.loop-statement.compacts.items _ c.compact_of.result
          c.loop-statement-test.true c.statement-item.is h.count h.each c.compact_of.ensures more;
      count = counted_more c.loop-statement.compacts.items _ c.compact_of.result c.loop-statement.statement-index h.count more;
    }

pub returns-clause-each : goal.returns-clause-each
returns-clause-each c =
    let h = c.loop-statement.invariant in
    none_more c.args.statements.now c.loop-statement.statement-index c.loop-statement.compacts.items _ _ c.loop-statement-test.false h.count h.each
    refl (c.in_ok-push-2.ensures {u = tt}).items
