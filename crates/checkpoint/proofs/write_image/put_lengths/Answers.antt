use Rattle.std.proofs.Common.{◌∙◌}
use Rattle.checkpoint.proofs.Arrays.{is_sized, lengths_more}
use Rattle.checkpoint.proofs.write_image.put_lengths.Goals as goal

pub put_length-requires : goal.put_length-requires
put_length-requires c = (is_sized c.args.arrays.now c.loop-array.array-index _ c.array-item.result c.loop-array-test.true c.array-item.is
    c.requires).1

pub loop-array-preserved : goal.loop-array-preserved
loop-array-preserved c = c.in_ok-put_length.ensures ∙ lengths_more c.args.arrays.now c.loop-array.array-index _ c.array-item.result
    c.loop-array.out.items c.args.out.now.items c.loop-array-test.true c.array-item.is c.loop-array.invariant
