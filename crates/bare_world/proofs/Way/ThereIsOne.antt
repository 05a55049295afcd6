-- From every world there is a way on: its events are driven one after another as the way is found, and none asks for memory.
use Rattle.std.proofs.Common.{ℕ, ◌<◌, List, [], length}
use Rattle.std.proofs.Common.{refl, arith}
use Rattle.bare_world.specs.declared.event.WorldEvent.{WorldEvent}
use Rattle.bare_world.specs.World.{WorldValue, size}
use Rattle.bare_world.specs.Onward.{IsWorld}
use Rattle.bare_world.specs.Stocked.{IsStocked}
use Rattle.bare_world.specs.Way.{IsWayOn}
use Rattle.bare_world.specs.Driven.{Heard}
use Rattle.bare_world.proofs.Way.AllAreLive.{live_all}
use Rattle.bare_world.proofs.Again.EachActIsMade.{make_last}
use Rattle.bare_world.proofs.Again.WholeWay.{ready_start, way_found, alike_self}
use Rattle.bare_world.proofs.Way.AllIsDelivered.{restart_to, flush_all}
use Rattle.bare_world.proofs.Way.AsksAreAnswered.{hear_all_to}
use Rattle.bare_world.proofs.Way.ActsAreMade.{make_to}

-- from every world there is a way on
pub way_exists : (w : WorldValue) → IsWorld w → IsStocked w → (events : List WorldEvent) × IsWayOn w events
way_exists w i t =
    let b = restart_to w [] i t (size w) (omega arith) in
    let f = b.2.0 in
    let all = live_all b.0 (size w) (let n = f.same_size in omega (arith, n)) b.2.1 in
    let c = flush_all b.0 b.1 f.is_world b.3 all in
    let g = c.2.0 in
    let d = hear_all_to c.0 c.1 g.advanced.is_world c.3 (g.keeps.all_live all) (size c.0) (omega arith) in
    let h = d.2.0 in
    let heard : (r s : ℕ) → r < size d.0 → s < size d.0 → Heard r s d.0 =
    λ r s lr ls. d.2.1 r s (let n = h.advanced.same_size in omega (arith, lr, n)) ls in
    let e = flush_all d.0 d.1 h.advanced.is_world d.3 (h.keeps.all_live (g.keeps.all_live all)) in
    let ready = ready_start b.0 c.0 d.0 e.0 b.1 c.1 d.1 e.1 all g c.2.1 h heard e.2.0 e.2.1 in
    let m = make_to e.0 e.1 ready e.3 (length e.0.run) (omega arith) in (
      m.1,
      way_found w b.0 c.0 d.0 e.0 m.0 [] b.1 c.1 d.1 e.1 m.1 refl i f g h e.2.0 m.2.0
          (make_last e.0 m.0 e.1 m.1 (length e.0.run) m.2.0 (omega arith) m.2.1) w (alike_self w),
    )
