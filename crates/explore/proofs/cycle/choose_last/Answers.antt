use Rattle.explore.specs.Sending.{IsReleasedAt}
use Rattle.explore.specs.declared.send_mode.SendMode.TheVariants.{Buffered}
use Rattle.std.proofs.Common.{◌<◌, length, sym, subst}
use Rattle.std.specs.Prelude.{slice_index}
use Rattle.crash_free.specs.Wanted.{StandsAtAct}
use Rattle.explore.specs.Outcomes.{IsAmong}
use Rattle.explore.proofs.Cycles.{chosen_further_on, of_rank}
use Rattle.explore.proofs.cycle.choose_last.Goals as goal

pub choose-requires-clause-rank : goal.choose-requires-clause-rank
choose-requires-clause-rank c =
    let own = of_rank Buffered c.args.path.now.sim c.args.rank _ _ c.in-Some.last (rw c.as_sim.ensures at (c.in_ok-add_moves.ensures.adds (search))) c.new-found.ensures.items
    (subst (λ xs. IsAmong xs c.in-Some.last) c.deref.ensures.value c.in-Some.ensures) in
    subst (λ r. r < length c.args.path.now.sim.machines) (sym own.0) c.requires.rank

pub choose-requires-clause-at : goal.choose-requires-clause-at
choose-requires-clause-at c =
    let own = of_rank Buffered c.args.path.now.sim c.args.rank _ _ c.in-Some.last (rw c.as_sim.ensures at (c.in_ok-add_moves.ensures.adds (search))) c.new-found.ensures.items
    (subst (λ xs. IsAmong xs c.in-Some.last) c.deref.ensures.value c.in-Some.ensures) in
    subst (λ r. StandsAtAct c.args.path.now.sim.machines r) (sym own.0) own.1

pub choose-requires-clause-left : goal.choose-requires-clause-left
choose-requires-clause-left c =
    let own = of_rank Buffered c.args.path.now.sim c.args.rank _ _ c.in-Some.last (rw c.as_sim.ensures at (c.in_ok-add_moves.ensures.adds (search))) c.new-found.ensures.items
    (subst (λ xs. IsAmong xs c.in-Some.last) c.deref.ensures.value c.in-Some.ensures) in
    subst (λ r. 0 < slice_index c.args.path.now.left r) (sym own.0) c.requires.left

pub returns : goal.returns
returns c =
    let own = of_rank Buffered c.args.path.now.sim c.args.rank _ _ c.in-Some.last (rw c.as_sim.ensures at (c.in_ok-add_moves.ensures.adds (search))) c.new-found.ensures.items
    (subst (λ xs. IsAmong xs c.in-Some.last) c.deref.ensures.value c.in-Some.ensures) in
    chosen_further_on c.args.mode c.args.path.now.sim c.choose.new.self.sim c.in-Some.last.rank c.in-Some.last.choice c.requires.stands c.in_ok-choose.ensures.stands
    (subst (λ r. StandsAtAct c.args.path.now.sim.machines r) (sym own.0) own.1)
    (subst (λ r. IsReleasedAt c.args.mode c.args.path.now.sim r) (sym own.0) c.requires.released) c.in_ok-choose.ensures.allowed
