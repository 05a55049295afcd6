-- The whole way, from a world like the start to where every rank has caught up.
use Rattle.std.proofs.Common.{◌≡◌, ℕ, ◌<◌, ◌≤◌, List, [], ◌∷◌, Option, Some, None, length, refl, sym, ap, subst, ◌∙◌, arith, slice_get}
use Rattle.rank_node.specs.declared.frame.Frame.{Frame}
use Rattle.bare_world.specs.declared.event.WorldEvent.{WorldEvent}
use Rattle.bare_world.specs.World.{Live, WorldValue, size, IsWire}
use Rattle.bare_world.specs.Onward.{IsWorld}
use Rattle.bare_world.specs.Way.{CaughtUp, IsWayOn}
use Rattle.bare_world.specs.Driven.{Alike, AreAlike, Driven, AllLive, Heard, Ready, Advanced, Flushed, Emptied, Listened}
use Rattle.bare_world.proofs.Alike.ListLeadsToo.{alike_size}
use Rattle.bare_world.proofs.Way.AsksAreHeard.{heard_no_gaps, same_wire}
use Rattle.bare_world.proofs.Again.GoesOn.{caught_up_at_end}
use Rattle.bare_world.proofs.Again.NextActIsMade.{ready_first, way_ends}

-- a world like the start was driven by no events yet
driven_none : (start w : WorldValue) → Alike start w → IsWorld w → Driven start [] w
driven_none start w k i =
    record {
      first = w;
      alike = k;
      drove = refl;
      is_world = i;
      same_run = k.run;
      same_size = alike_size start w k;
      longer = λ s d old frames x y. same s d old frames x y;
    }
  where
    same : (s d : ℕ) (old frames : List Frame) → IsWire start s d old → IsWire w s d frames → length old ≤ length frames
    same s d old frames x y =
        let e = ap length (same_wire start s d old frames x (y.0, ap (λ z. slice_get z s) (sym k.wires) ∙ y.1, y.2)) in
        omega (arith, e)

-- once each rank has asked each, each Ask was heard and what was outgoing has arrived, the way is ready for the first act
pub ready_start : (b c d e : WorldValue) (x y z u : List WorldEvent) → AllLive b → Flushed b x c y → ((r s : ℕ) → r < size c → s < size c → Emptied r s b c)
    → Listened c y d z → ((r s : ℕ) → r < size d → s < size d → Heard r s d) → Flushed d z e u
    → ((r s : ℕ) → r < size e → s < size e → Emptied r s d e) → Ready e []
ready_start b c d e x y z u all f emptied g heard h emptied2 =
    let gaps = heard_no_gaps d g.advanced.is_world
    (λ r s lr ls. g.keeps.asks r s
    (emptied r s (let n = g.advanced.same_size in omega (arith, lr, n)) (let n = g.advanced.same_size in omega (arith, ls, n))).asks) heard in
    ready_first e h.advanced.is_world (h.keeps.all_live (g.keeps.all_live (f.keeps.all_live all))) (h.keeps.no_gaps gaps)
    (λ s t ls lt. (emptied2 s t ls lt).drained gaps)

-- what happened on the way is a way on
pub way_found : (a b c d e f : WorldValue) (none x y z u v : List WorldEvent) → none ≡ [] → IsWorld a → Advanced a none b x → Flushed b x c y → Listened c y d z
    → Flushed d z e u → Advanced e u f v
    → Ready f f.run → (start : WorldValue) → Alike start a → IsWayOn start v
way_found a b c d e f none x y z u v nothing i g h j k l ready start alike =
    way_ends start v f
    (l.driven start (k.advanced.driven start
    (j.advanced.driven start (h.advanced.driven start (g.driven start (subst (λ q. Driven start q a) (sym nothing) (driven_none start a alike i))))))) ready

-- and after it every rank has caught up
pub way_caught_up : (a b c d e f : WorldValue) (none x y z u v : List WorldEvent) → Advanced a none b x → Flushed b x c y → Listened c y d z → Flushed d z e u
    → Advanced e u f v
    → Ready f f.run → CaughtUp a.run f
way_caught_up a b c d e f none x y z u v g h j k l ready =
    subst (λ C. CaughtUp C f) (l.same_run ∙ k.advanced.same_run ∙ j.advanced.same_run ∙ h.advanced.same_run ∙ g.same_run) (caught_up_at_end f ready)

-- a world is like itself
pub alike_self : (w : WorldValue) → Alike w w
alike_self w = record { program = refl; ranks = same w.ranks; images = refl; rows = refl; wires = refl; lines = refl; run = refl }
  where
    same : (xs : List (Option Live)) → AreAlike xs xs
    same [] = tt
    same (None ∷ xs) = (tt, same xs)
    same (Some v ∷ xs) = ((v.rank.stable.shelf, refl), same xs)
