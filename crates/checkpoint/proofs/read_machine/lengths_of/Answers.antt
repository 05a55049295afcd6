use Rattle.std.proofs.lemmas.Result.{err_from_is_err_and}
use Rattle.rank_text.specs.Checker.SeenLines.{arrays_seen}
use Rattle.checkpoint.specs.Reading.{lengths_at}
use Rattle.checkpoint.proofs.Arrays.{lengths_on, lengths_end}
use Rattle.checkpoint.proofs.read_machine.lengths_of.Goals as goal

pub returns-in_err-rest : goal.returns-in_err-rest
returns-in_err-rest c =
    let p = err_from_is_err_and c.from_residual.result c.from_residual.ensures.1 in
    rw (p.1, p.2) (lengths_end c.in_err-rest.field-0.0 c.args.arrays.now c.loop-array.array-index _ c.array-item.result
    c.loop-array.rest.now (lengths_at (arrays_seen c.args.arrays.now) c.args.bytes.now) c.loop-array-test.true c.array-item.is
    c.in_err-rest.ensures c.loop-array.invariant)

pub loop-array-preserved : goal.loop-array-preserved
loop-array-preserved c =
    lengths_on c.args.arrays.now c.loop-array.array-index _ c.array-item.result c.loop-array.rest.now c.in_ok-rest.rest.now
    (lengths_at (arrays_seen c.args.arrays.now) c.args.bytes.now) c.loop-array-test.true c.array-item.is c.in_ok-rest.ensures
    c.loop-array.invariant
