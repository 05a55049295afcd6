use Rattle.std.specs.Prelude.{All, FitsSigned}
use Rattle.std.specs.Int.{w64}
use Rattle.checkpoint.specs.Spelling.{values}
use Rattle.checkpoint.proofs.Written.{begins, writes, spelled_all, legal_all}
use Rattle.checkpoint.proofs.write_image.put_arrays.Goals as goal

pub loop-array-init : goal.loop-array-init
loop-array-init c = begins values (All (FitsSigned w64)) c.args.out.now.items c.args.arrays.now

pub loop-array-preserved : goal.loop-array-preserved
loop-array-preserved c =
    writes values (All (FitsSigned w64)) c.args.out.now.items c.loop-array.out.items c.put_items.new.out.items c.args.arrays.now
    c.loop-array.array-index _ c.array-item.result
    c.loop-array-test.true c.array-item.is c.in_ok-put_items.ensures.spelled c.in_ok-put_items.ensures.range c.loop-array.invariant

pub returns-clause-spelled : goal.returns-clause-spelled
returns-clause-spelled c =
    spelled_all values (All (FitsSigned w64)) c.args.out.now.items c.loop-array.out.items c.args.arrays.now c.loop-array.array-index
    c.loop-array-test.false c.loop-array.invariant

pub returns-clause-range : goal.returns-clause-range
returns-clause-range c =
    legal_all values (All (FitsSigned w64)) c.args.out.now.items c.loop-array.out.items c.args.arrays.now c.loop-array.array-index
    c.loop-array-test.false c.loop-array.invariant
