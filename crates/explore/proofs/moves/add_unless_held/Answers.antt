use Rattle.explore.proofs.AfterTheEnd.{adds_ended}
use Rattle.explore.proofs.Moving.{adds_free, adds_held}
use Rattle.explore.proofs.Still.{if_so}
use Rattle.explore.proofs.moves.add_unless_held.Goals as goal

pub returns-then-has_ended-clause-adds : goal.returns-then-has_ended-clause-adds
returns-then-has_ended-clause-adds c = λ e.
    adds_ended c.args.mode c.args.sim.now c.args.rank c.args.moves.now.items c.requires.stands (c.has_ended.ensures c.if-has_ended.true)

pub returns-then-not-is_released-clause-adds : goal.returns-then-not-is_released-clause-adds
returns-then-not-is_released-clause-adds c = λ e.
    adds_held c.args.mode c.args.sim.now c.args.rank c.args.moves.now.items (c.is_released.ensures.no c.if-not-is_released.true)

pub returns-clause-adds : goal.returns-clause-adds
returns-clause-adds c =
    if_so c.add_moves.result _ _ c.add_moves.ensures.adds
    (λ whole adds e. adds_free c.args.mode c.args.sim.now c.args.rank c.args.moves.now.items c.add_moves.new.moves.items
    (c.is_released.ensures.yes c.if-not-is_released.false) (adds e))

pub returns-clause-inside : goal.returns-clause-inside
returns-clause-inside c =
    if_so c.add_moves.result _ _ c.add_moves.ensures.inside
    (λ whole inside e. (inside e, c.is_released.ensures.yes c.if-not-is_released.false))
