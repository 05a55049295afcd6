use Rattle.std.proofs.Common.{◌<◌, get_or, subst, arith}
use Rattle.std.specs.Prelude.{slice_index}
use Rattle.std.proofs.lemmas.Option.{slice_get_within}
use Rattle.crash_free.specs.declared.choice.Choice.TheVariants.{Next}
use Rattle.explore.specs.Moves.{move_of}
use Rattle.explore.proofs.Among.{among_index, left_more}
use Rattle.explore.proofs.play.is_spent.Goals as goal

pub bounds-left-from : goal.bounds-left-from
bounds-left-from c =
    let it = c.requires (get_or c.args.moves.now c.loop-each.each-index (move_of 0 Next))
    (among_index c.args.moves.now c.loop-each.each-index (move_of 0 Next) c.loop-each-test.true) in
    omega (arith, it, c.from.ensures)

pub loop-each-preserved : goal.loop-each-preserved
loop-each-preserved c =
    let here : 0 < slice_index c.args.left.now c.from.result = omega (arith, c.if-left-from-eq0.false) in
    left_more c.args.left.now c.args.moves.now c.loop-each.each-index (move_of 0 Next) c.loop-each-test.true c.loop-each.invariant
    (subst (λ k. 0 < slice_index c.args.left.now k) c.from.ensures here)

pub returns-clause-no : goal.returns-clause-no
returns-clause-no c = λ e m a.
    (let low = slice_get_within c.args.moves.now a.0 m a.1 in
    c.loop-each.invariant a.0 m (omega (arith, low, c.loop-each-test.false)) a.1)
