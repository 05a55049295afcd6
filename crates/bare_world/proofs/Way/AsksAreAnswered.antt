-- The asks on all wires are heard, one after another.
use Rattle.std.proofs.Common.{◌≡◌, ℕ, zero, suc, ◌+◌, ◌<◌, ◌≤◌, List, [], ◌∷◌, Some, length}
use Rattle.std.proofs.Common.{refl, ap, subst, arith, add-one, slice_get}
use Rattle.rank_node.specs.declared.frame.Frame.{Frame}
use Rattle.rank_node.specs.declared.frame.Frame.TheVariants as frame
use Rattle.bare_world.specs.declared.event.WorldEvent.{WorldEvent}
use Rattle.bare_world.specs.declared.event.WorldEvent.TheVariants.{Arrive}
use Rattle.bare_world.specs.World.{WorldValue, size, IsWire}
use Rattle.bare_world.specs.Wires.{wire_of}
use Rattle.bare_world.specs.Onward.{IsWorld}
use Rattle.bare_world.specs.Stocked.{IsStocked}
use Rattle.bare_world.specs.Driven.{AllLive, HeardTo, Heard, listed, Listened}
use Rattle.bare_world.proofs.Calls.Frames.{the_wire}
use Rattle.bare_world.proofs.Way.AsksAreHeard.{hear_first}
use Rattle.bare_world.proofs.Again.Calls.{listened_none}
use Rattle.bare_world.proofs.Way.EachAskIsHeard.{wire_kept, hear_true, hear_false, heard_end, hear_from_next, hear_all_next}
use Rattle.bare_world.proofs.Way.EventIsAnswered.{arrive_drive}
use Rattle.bare_world.proofs.Way.AllIsDelivered.{Reach}

-- one frame more
hear_on : (w : WorldValue) (x : List WorldEvent) (r s : ℕ) → IsWorld w → AllLive w → r < size w → s < size w → (i : ℕ) → i < length (wire_of w.wires r s)
    → Reach (λ w' z. Listened w x w' z × HeardTo i r s w') → Reach (λ w' z. Listened w x w' z × HeardTo (i + 1) r s w')
hear_on w x r s world all lr ls i l p = go there.0 there.1
  where
    n : size p.0 ≡ size w
    n = p.2.0.advanced.same_size

    wire : IsWire p.0 r s (wire_of p.0.wires r s)
    wire = the_wire p.0 r s (wire_kept w p.0 x p.1 r s lr ls p.2.0)

    some : (fs : List Frame) (j : ℕ) → j < length fs → (f : Frame) × (slice_get fs j ≡ Some f)
    some [] j m = absurd (omega (arith, m))
    some (f ∷ fs) zero m = (f, refl)
    some (f ∷ fs) (suc j) m = some fs j (omega (arith, m))

    there : (f : Frame) × (slice_get (wire_of p.0.wires r s) i ≡ Some f)
    there = some (wire_of p.0.wires r s) i (let e = ap (λ z. length (wire_of z r s)) p.2.0.keeps.wires in omega (arith, l, e))

    other : (f : Frame) → slice_get (wire_of p.0.wires r s) i ≡ Some f → ((m : ℕ) → f ≡ frame.Ask m → ⊥)
        → Reach (λ w' z. Listened w x w' z × HeardTo (i + 1) r s w')
    other f at never = (p.0, p.1, (p.2.0, hear_false w p.0 x p.1 r s i lr ls p.2.0 p.2.1 (f, at, never)), p.3)

    go : (f : Frame) → slice_get (wire_of p.0.wires r s) i ≡ Some f → Reach (λ w' z. Listened w x w' z × HeardTo (i + 1) r s w')
    go (frame.Data q) at = other (frame.Data q) at (λ m e. (let z : frame.Data q ≡ frame.Ask m = e in cc))
    go (frame.Kept q) at = other (frame.Kept q) at (λ m e. (let z : frame.Kept q ≡ frame.Ask m = e in cc))
    go (frame.Ask m) at =
        let v = p.2.0.keeps.all_live all s (omega (arith, ls, n)) in
        let d = arrive_drive p.0 r s i v.0 (wire_of p.0.wires r s) (frame.Ask m) p.2.0.advanced.is_world p.3 v.1 wire at in
        let z = listed p.1 (Arrive r s i) d.0 in
        let h = hear_true w p.0 d.1 x p.1 z r s r s i i d.0 refl refl refl world all lr ls p.2.0 p.2.1 (frame.Ask m, at, (m, refl)) d.2 refl in
        (d.1, z, h, d.3)

-- those among the first i frames of a wire
hear_to : (w : WorldValue) (x : List WorldEvent) (r s : ℕ) → IsWorld w → IsStocked w → AllLive w → r < size w → s < size w
    → (i : ℕ) → i ≤ length (wire_of w.wires r s) → Reach (λ w' z. Listened w x w' z × HeardTo i r s w')
hear_to w x r s world t all lr ls zero l = (w, x, (listened_none w x world, hear_first w r s), t)
hear_to w x r s world t all lr ls (suc i) l =
    let h = hear_on w x r s world all lr ls i (omega (arith, l)) (hear_to w x r s world t all lr ls i (omega (arith, l))) in
    (h.0, h.1, (h.2.0, subst (λ k. HeardTo k r s h.0) (add-one i) h.2.1), h.3)

-- those on one wire
hear : (w : WorldValue) (x : List WorldEvent) (r s : ℕ) → IsWorld w → IsStocked w → AllLive w → r < size w → s < size w
    → Reach (λ w' z. Listened w x w' z × Heard r s w')
hear w x r s world t all lr ls =
    let p = hear_to w x r s world t all lr ls (length (wire_of w.wires r s)) (omega arith) in (
      p.0,
      p.1,
      (p.2.0, heard_end w p.0 x p.1 r s (length (wire_of w.wires r s)) (length (wire_of w.wires r s)) lr ls p.2.0 refl (omega arith) p.2.1),
      p.3,
    )

-- those from one rank to the first k
hear_from_to : (w : WorldValue) (x : List WorldEvent) (r : ℕ) → IsWorld w → IsStocked w → AllLive w → r < size w → (k : ℕ) → k ≤ size w
    → Reach (λ w' z. Listened w x w' z × ((s : ℕ) → s < k → Heard r s w'))
hear_from_to w x r i t all lr zero l = (w, x, (listened_none w x i, λ s m. absurd (omega (arith, m))), t)
hear_from_to w x r i t all lr (suc k) l =
    let p = hear_from_to w x r i t all lr k (omega (arith, l)) in
    let f = p.2.0 in
    let n = f.advanced.same_size in
    let q = hear p.0 p.1 r k f.advanced.is_world p.3 (f.keeps.all_live all) (omega (arith, lr, n)) (omega (arith, l, n)) in
    let h = hear_from_next w p.0 q.0 x p.1 q.1 r k f p.2.1 q.2.0 q.2.1 in
    (q.0, q.1, (h.0, λ s m. h.1 s (omega (arith, m))), q.3)

-- those from the first k to each
pub hear_all_to : (w : WorldValue) (x : List WorldEvent) → IsWorld w → IsStocked w → AllLive w → (k : ℕ) → k ≤ size w
    → Reach (λ w' z. Listened w x w' z × ((r s : ℕ) → r < k → s < size w' → Heard r s w'))
hear_all_to w x i t all zero l = (w, x, (listened_none w x i, λ r s m j. absurd (omega (arith, m))), t)
hear_all_to w x i t all (suc k) l =
    let p = hear_all_to w x i t all k (omega (arith, l)) in
    let f = p.2.0 in
    let n = f.advanced.same_size in
    let q = hear_from_to p.0 p.1 k f.advanced.is_world p.3 (f.keeps.all_live all) (omega (arith, l, n)) (size p.0) (omega arith) in
    let m = q.2.0.advanced.same_size in
    let h = hear_all_next w p.0 q.0 x p.1 q.1 k f p.2.1 q.2.0 (λ s j. q.2.1 s (omega (arith, j, m))) in
    (q.0, q.1, (h.0, λ r s j o. h.1 r s (omega (arith, j)) o), q.3)
