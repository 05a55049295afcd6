use Rattle.std.proofs.Common.{◌<◌, ◌-◌, length, get_or, arith}
use Rattle.crash_free.specs.declared.choice.Choice.TheVariants.{Next}
use Rattle.explore.specs.Moves.{move_of}
use Rattle.explore.proofs.Among.{among_index}
use Rattle.explore.proofs.races.Races.note.Goals as goal

pub add-requires : goal.add-requires
add-requires c =
    let low : c.loop-at.at - 1 < length c.args.moves.now = omega (arith, c.loop-at.invariant, c.loop-at-test.true) in
    c.requires (get_or c.args.moves.now (c.loop-at.at - 1) (move_of 0 Next)) (among_index c.args.moves.now (c.loop-at.at - 1) (move_of 0 Next) low)

pub add-requires-then-before-next : goal.add-requires-then-before-next
add-requires-then-before-next c =
    c.requires (get_or c.args.moves.now c.loop-at.at (move_of 0 Next)) (among_index c.args.moves.now c.loop-at.at (move_of 0 Next) c.loop-at-test.true)
