use Rattle.std.proofs.Common.{rules, ◌≡◌, subst, arith, w64, to_z, of_z}
use Rattle.crash_free.specs.Standing.{and_value}
use Rattle.crash_free.proofs.Overwriting.{value_more, all_values}
use Rattle.crash_free.proofs.standing.writing.write_values.Goals as goal

pub loop-index-preserved : goal.loop-index-preserved
loop-index-preserved g c =
    let same : to_z w64 (of_z w64 c.value_at.result) ≡ c.value_at.result = search rules in
    value_more (g.O.RowSink.rows c.number.new.self) (g.O.RowSink.rows c.loop-index.out) (g.O.RowSink.rows c.value.new.self) c.args.values.now
    c.loop-index.index c.value_at.result _ c.loop-index-test.true c.loop-index.invariant c.value_at.ensures
    (subst (λ x. g.O.RowSink.rows c.value.new.self ≡ and_value (g.O.RowSink.rows c.loop-index.out) x) same c.in_ok-value.ensures)

pub returns : goal.returns
returns g c =
    let all = c.loop-index-test.false in
    all_values (g.O.RowSink.rows c.args.out.now) (g.O.RowSink.rows c.number.new.self) (g.O.RowSink.rows c.loop-index.out) c.args.values.now
    c.loop-index.index (omega (arith, all)) c.in_ok-number.ensures c.loop-index.invariant
