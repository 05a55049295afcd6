-- Asks that arrive one after another.
use Rattle.std.proofs.Common.{◌≡◌, ℕ, ◌+◌, ◌<◌, ◌≤◌, ◌⊎◌, inl, inr, true, false, List, Some, length, sym, ap, subst, ◌∙◌, arith}
use Rattle.std.proofs.lemmas.Bool.{cases_lt}
use Rattle.bare_world.specs.declared.event.WorldEvent.{WorldEvent}
use Rattle.bare_world.specs.declared.event.WorldEvent.TheVariants.{Arrive}
use Rattle.bare_world.specs.declared.reply.Reply.{Reply}
use Rattle.bare_world.specs.World.{WorldValue, size}
use Rattle.bare_world.specs.Wires.{HasWire, wire_of}
use Rattle.bare_world.specs.Follows.{Follows}
use Rattle.bare_world.specs.Onward.{IsWorld}
use Rattle.bare_world.specs.Driven.{AllLive, HeardTo, Heard, Listened, listed, IsAskAt}
use Rattle.bare_world.proofs.Calls.Frames.{has_wire, the_wire}
use Rattle.bare_world.proofs.Way.AsksAreHeard.{hear_other, heard_all}
use Rattle.bare_world.proofs.Again.Calls.{listened_more}
use Rattle.bare_world.proofs.Again.Loops.{hear_ask}

-- there is a wire still, with as many frames
pub wire_kept : (a b : WorldValue) (x y : List WorldEvent) (r s : ℕ) → r < size a → s < size a → Listened a x b y → HasWire b.wires r s
wire_kept a b x y r s lr ls f = (let n = f.advanced.same_size in has_wire b r s f.advanced.is_world.stands (omega (arith, lr, n)) (omega (arith, ls, n)))

-- a frame that is an Ask arrives
pub hear_true : (a b c : WorldValue) (x y z : List WorldEvent) (r s r1 s1 i j : ℕ) (answer : Reply) → r1 ≡ r → s1 ≡ s → j ≡ i → IsWorld a → AllLive a
    → r < size a → s < size a
    → Listened a x b y → HeardTo i r s b → IsAskAt (wire_of b.wires r s) i true → Follows b (Arrive r1 s1 j) answer c → z ≡ listed y (Arrive r1 s1 j) answer
    → Listened a x c z × HeardTo (i + 1) r s c
hear_true a b c x y z r s r1 s1 i j answer e1 e2 e3 world all lr ls f heard ask g ez =
    let at : IsAskAt (wire_of a.wires r s) i true = subst (λ q. IsAskAt (wire_of q r s) i true) f.keeps.wires ask in
    hear_ask a b c x y z r s r1 s1 i j at.2.0 (wire_of a.wires r s) answer e1 e2 e3 all lr ls f heard (the_wire a r s (has_wire a r s world.stands lr ls))
    (at.1 ∙ ap Some at.2.1) g ez

-- another stays
pub hear_false : (a b : WorldValue) (x y : List WorldEvent) (r s i : ℕ) → r < size a → s < size a → Listened a x b y → HeardTo i r s b
    → IsAskAt (wire_of b.wires r s) i false
    → HeardTo (i + 1) r s b
hear_false a b x y r s i lr ls f heard ask =
    hear_other b r s i (wire_of b.wires r s) ask.0 (the_wire b r s (wire_kept a b x y r s lr ls f)) ask.1 ask.2 heard

-- after the last
pub heard_end : (a b : WorldValue) (x y : List WorldEvent) (r s i n : ℕ) → r < size a → s < size a → Listened a x b y → n ≡ length (wire_of a.wires r s) → n ≤ i
    → HeardTo i r s b
    → Heard r s b
heard_end a b x y r s i n lr ls f e l h =
    heard_all b r s (wire_of b.wires r s) (the_wire b r s (wire_kept a b x y r s lr ls f))
    (λ j from frames u m. h j from frames u (let q = ap (λ z. length (wire_of z r s)) f.keeps.wires in omega (arith, q, e, l, m)))

-- what was heard stays so
heard_kept : (a b : WorldValue) (x y : List WorldEvent) (r s : ℕ) → Listened a x b y → Heard r s a → Heard r s b
heard_kept a b x y r s f h k = f.keeps.heard k r s (h k)

-- one wire after others from a rank
pub hear_from_next : (a b c : WorldValue) (x y z : List WorldEvent) (r k : ℕ) → Listened a x b y → ((s : ℕ) → s < k → Heard r s b) → Listened b y c z
    → Heard r k c
    → Listened a x c z × ((s : ℕ) → s < k + 1 → Heard r s c)
hear_from_next a b c x y z r k f all g h = (listened_more a b c x y z f g, λ s l. go s l (cases_lt s k))
  where
    go : (s : ℕ) → s < k + 1 → (s < k) ⊎ (k ≤ s) → Heard r s c
    go s l (inl m) = heard_kept b c y z r s g (all s m)
    go s l (inr m) = (let q : s ≡ k = omega (arith, l, m) in subst (λ j. Heard r j c) (sym q) h)

-- and those from one rank after those from others
pub hear_all_next : (a b c : WorldValue) (x y z : List WorldEvent) (k : ℕ) → Listened a x b y → ((r s : ℕ) → r < k → s < size b → Heard r s b)
    → Listened b y c z
    → ((s : ℕ) → s < size c → Heard k s c) → Listened a x c z × ((r s : ℕ) → r < k + 1 → s < size c → Heard r s c)
hear_all_next a b c x y z k f all g h = (listened_more a b c x y z f g, λ r s l m. go r s l m (cases_lt r k))
  where
    go : (r s : ℕ) → r < k + 1 → s < size c → (r < k) ⊎ (k ≤ r) → Heard r s c
    go r s l m (inl j) = (let n = g.advanced.same_size in heard_kept b c y z r s g (all r s j (omega (arith, m, n))))
    go r s l m (inr j) = (let q : r ≡ k = omega (arith, l, j) in subst (λ e. Heard e s c) (sym q) (h s m))

-- what is so of a world is so of one that is the same
pub hear_moved : (a s c : WorldValue) (x y z : List WorldEvent) (k r d : ℕ) → s ≡ c → y ≡ z → Listened a x c z × HeardTo k r d c
    → Listened a x s y × HeardTo k r d s
hear_moved a s c x y z k r d e f h =
    subst (λ q. Listened a x q y × HeardTo k r d q) (sym e) (subst (λ q. Listened a x c q × HeardTo k r d c) (sym f) h)
