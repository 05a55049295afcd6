use Rattle.std.proofs.Common.{sym, ap, subst, ◌∙◌}
use Rattle.rank_node.specs.Image.{image_on}
use Rattle.rank_node.specs.declared.phase.Phase.TheVariants.{Replaying}
use Rattle.bare_world.specs.Seat.{live_of, shelf_of, IsStanding}
use Rattle.bare_world.specs.Seats.{IsRestarted}
use Rattle.bare_world.proofs.Calls.SeatStays.{of_restart, restarted_is}
use Rattle.bare_world.proofs.Calls.SettlesAtTheEnd.{settled_live, settled_standing}
use Rattle.bare_world.proofs.seat.living.restarted.Goals as goal

-- src/seat/living.rt
pub returns-clause-ok : goal.returns-clause-ok
returns-clause-ok c = λ r n own.
    subst (λ z. IsRestarted c.args.program.now n r (image_on c.args.program.now r n (shelf_of c.args.down)) c.args.row.items z)
    (sym (ap live_of c.settled.ensures.settled ∙ settled_live (Replaying c.in_ok-replaying.replaying)))
    (restarted_is c.args.program.now r n c.args.row.items c.args.down c.in_ok-replaying.replaying c.in_ok-replaying.ensures.ok own)

-- src/seat/living.rt
pub returns-clause-standing : goal.returns-clause-standing
returns-clause-standing c = λ r n own.
    subst (λ z. IsStanding c.args.program.now r n z) (sym c.settled.ensures.settled)
    (settled_standing c.args.program.now r n (Replaying c.in_ok-replaying.replaying)
    (of_restart c.args.program.now r n c.args.row.items c.args.down c.in_ok-replaying.replaying c.in_ok-replaying.ensures.ok own))
