use Rattle.std.proofs.Common.{refl}
use Rattle.std.proofs.lemmas.Option.{slice_get_read}
use Rattle.bare_world.proofs.Alike.Copies.{copy_more}
use Rattle.bare_world.proofs.seats.copying.copied.Goals as goal

-- src/seats/copying.rt
pub loop-seat-preserved : goal.loop-seat-preserved
loop-seat-preserved c =
    copy_more c.args.seats.now c.loop-seat.copies.items _ c.loop-seat.seat-index c.seat-item.result _ c.in_default.ensures.items
    (slice_get_read _ _ _ _ refl c.loop-seat-test.true c.seat-item.is) c.in-Ok.ensures c.loop-seat.invariant
