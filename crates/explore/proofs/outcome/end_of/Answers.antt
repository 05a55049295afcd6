use Rattle.explore.proofs.Still.{if_both, if_so, seen_free, seen_held}
use Rattle.explore.proofs.outcome.end_of.Goals as goal

pub returns-then-is_released : goal.returns-then-is_released
returns-then-is_released c =
    if_so c.rank_end.result _ _ c.rank_end.ensures
    (λ x ends. seen_free c.args.mode c.args.sim.now c.args.rank x c.requires.stands (c.is_released.ensures.yes c.if-is_released.true) c.requires.still ends)

pub returns-else-is_released : goal.returns-else-is_released
returns-else-is_released c =
    if_both c.held_end.result _ _ _ c.held_end.ensures.lines c.held_end.ensures.stalled
    (λ x lines stalled. seen_held c.args.mode c.args.sim.now c.args.rank x (c.is_released.ensures.no c.if-is_released.false) lines stalled)
