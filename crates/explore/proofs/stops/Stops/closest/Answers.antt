use Rattle.std.proofs.Common.{◌≡◌, ◌+◌, Some, length, refl, sym, ap, subst, arith}
use Rattle.std.specs.Prelude.{slice_get}
use Rattle.std.proofs.lemmas.Option.{slice_get_read}
use Rattle.explore.specs.declared.stops.Stop.{Stop}
use Rattle.explore.proofs.Stopping.{IsClosestBy, closest_all, closest_first, closest_next, closest_still}
use Rattle.explore.proofs.stops.Stops.closest.Goals.{then-made, else-made}
use Rattle.explore.proofs.stops.Stops.closest.Goals as goal

pub loop-stop-init : goal.loop-stop-init
loop-stop-init c = closest_first c.args.self.now c.as_slice-stop-items.result.now

pub loop-stop-preserved : goal.loop-stop-preserved
loop-stop-preserved c =
    let stops = c.args.self.now in
    let items = c.as_slice-stop-items.result.now in
    let next = c.stop-item.result in
    let there : slice_get items c.loop-stop.stop-index ≡ Some next =
    slice_get_read items (length items) c.loop-stop.stop-index next refl c.loop-stop-test.true c.stop-item.is in
    elim c.if-made.branch as (λ _. IsClosestBy c.args.self.now c.as_slice-stop-items.result.now (c.loop-stop.stop-index + 1) c.if-made.closest.now) [
      | then-made w ↦
          subst (λ (z : Stop). IsClosestBy stops items (c.loop-stop.stop-index + 1) z) (sym (ap (λ b. b.now) w.closest-is))
          (closest_next stops items c.loop-stop.stop-index c.loop-stop.closest.now next there c.loop-stop.invariant c.as_slice-stop-items.ensures.value
          (let more = w.if-made.true in omega (arith, more, c.made.ensures, c.made-in-loop-stop.ensures)))
      | else-made w ↦
          subst (λ (z : Stop). IsClosestBy stops items (c.loop-stop.stop-index + 1) z) (sym (ap (λ b. b.now) w.closest-is))
          (closest_still stops items c.loop-stop.stop-index c.loop-stop.closest.now next there c.loop-stop.invariant
          (let no = w.if-made.false in omega (arith, no, c.made.ensures, c.made-in-loop-stop.ensures)))
    ]

pub returns : goal.returns
returns c =
    closest_all c.args.self.now c.as_slice-stop-items.result.now c.loop-stop.stop-index c.loop-stop.closest.now c.loop-stop.invariant
    c.as_slice-stop-items.ensures.value c.loop-stop-test.false
