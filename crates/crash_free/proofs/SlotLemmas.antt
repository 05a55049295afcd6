-- Slots of a pair of ranks: the first that the selector names is the message that may be taken, and what becomes of the
-- slots where a message is sent or taken.
use Rattle.std.proofs.Common.{◌≡◌, ℕ, zero, suc, ◌+◌, ◌<◌, ◌==◌, ◌&&◌, ◌||◌, Bool, true, false, List, [], ◌∷◌, ◌++◌, Option, Some, None, length, refl}
use Rattle.std.proofs.Common.{sym, ap, ◌∙◌, subst, arith, slice_get, get_or, cond}
use Rattle.std.specs.Prelude.{slice_set, position, nat_lt}
use Rattle.std.proofs.lemmas.Bool.{eq-eqb, ne_eqb, false≢true, and_parts}
use Rattle.std.proofs.lemmas.List.Quantifiers.{position-Some}
use Rattle.std.proofs.lemmas.List.Sums.{position_or_len_is}
use Rattle.std.proofs.lemmas.Option.{slice_get_within, get_or_from_slice_get}
use Rattle.matching.specs.Matching.{matches, same_context, allows}
use Rattle.matching.specs.declared.packet.Context.{Context}
use Rattle.matching.specs.declared.packet.Context.TheVariants.{PointToPoint, Collective}
use Rattle.matching.specs.declared.selector.Selector.{Selector}
use Rattle.rank_machine.specs.Acts.{Message, Matches, IsNamed}
use Rattle.rank_machine.proofs.Making.{same_contexts, allowed}
use Rattle.crash_free.specs.Runs.{History, at_place, taken, IsEligible}
use Rattle.crash_free.specs.Slots.{packet_of, slot_of, slots_from, passes}

-- a packet's test and the definition's agree

-- the same contexts pass the test
contexts_same : (a b : Context) → b ≡ a → same_context a b ≡ true
contexts_same a b e = subst (λ z. same_context a z ≡ true) (sym e) (own a)
  where
    own : (a : Context) → same_context a a ≡ true
    own PointToPoint = refl
    own Collective = refl

-- and one that the selector names is allowed
pub named : (o : Option ℕ) (n : ℕ) → IsNamed o n → allows o n ≡ true
named None n h = refl
named (Some x) n h = eq-eqb x n (sym h)

-- a message whose packet passes the test matches by the definition
matching_packet : (w : Selector) (s : ℕ) (m : Message) → matches w (packet_of s m) ≡ true → Matches w s m
matching_packet w s m h =
    let r = and_parts (same_context w.context m.context && allows w.source s) (allows w.tag m.tag) h in
    let q = and_parts (same_context w.context m.context) (allows w.source s) r.0 in
    (same_contexts w.context m.context q.0, allowed w.source s q.1, allowed w.tag m.tag r.1)

-- and one that matches by the definition passes the test
pub packet_matching : (w : Selector) (s : ℕ) (m : Message) → Matches w s m → matches w (packet_of s m) ≡ true
packet_matching w s m h = rw (contexts_same w.context m.context h.0, named w.source s h.1, named w.tag m.tag h.2) refl

-- the slot at a place

-- a message has its slot at the place where it stands
slot_at : (k s : ℕ) (h : History) (ms : List Message) (i : ℕ) (m : Message) → slice_get ms i ≡ Some m
    → slice_get (slots_from k s h ms) i ≡ Some (slot_of s (taken h s (k + i + 1)) m)
slot_at k s h [] i m e = cc
slot_at k s h (x ∷ ms) zero m e =
    let same : x ≡ m = cc in
    let z : k + 0 + 1 ≡ k + 1 = omega arith in
    rw (z, same) refl
slot_at k s h (x ∷ ms) (suc i) m e =
    let z : k + suc i + 1 ≡ k + 1 + i + 1 = omega arith in
    rw z (slot_at (k + 1) s h ms i m e)

-- there are as many slots as messages
length-slots : (k s : ℕ) (h : History) (ms : List Message) → length (slots_from k s h ms) ≡ length ms
length-slots k s h [] = refl
length-slots k s h (x ∷ ms) = ap suc (length-slots (k + 1) s h ms)

-- the message of a place within
message_at : (ms : List Message) (i : ℕ) → i < length ms → (m : Message) × (slice_get ms i ≡ Some m)
message_at [] i low = absurd (omega arith)
message_at (x ∷ ms) zero low = (x, refl)
message_at (x ∷ ms) (suc i) low = message_at ms i (omega arith)

-- a slot passes where its message isn't taken and is one that the selector names
passes_slot : (w : Selector) (s : ℕ) (b : Bool) (m : Message) → passes w (slot_of s b m) ≡ true → (b ≡ false) × Matches w s m
passes_slot w s true m h = cc
passes_slot w s false m h = (refl, matching_packet w s m h)

-- and where both are so the slot passes
slot_passes : (w : Selector) (s : ℕ) (b : Bool) (m : Message) → b ≡ false → Matches w s m → passes w (slot_of s b m) ≡ true
slot_passes w s true m e h = cc
slot_passes w s false m e h = packet_matching w s m h

-- so where the slot of a message that is named fails, it was taken
slot_fails : (w : Selector) (s : ℕ) (b : Bool) (m : Message) → passes w (slot_of s b m) ≡ false → Matches w s m → b ≡ true
slot_fails w s true m e h = refl
slot_fails w s false m e h = absurd (differ (sym (packet_matching w s m h) ∙ e))
  where
    differ : true ≡ false → ⊥
    differ p = cc

-- the first slot that passes is the first that the selector names and that isn't taken
pub eligible_first : (inbound : ℕ → List Message) (h : History) (s i : ℕ) (w : Selector)
    → position (passes w) (slots_from 0 s h (inbound s)) ≡ Some i → IsEligible inbound h s (suc i) w
eligible_first inbound h s i w e =
    let all = position-Some (passes w) (slots_from 0 s h (inbound s)) i None e in
    let long = length-slots 0 s h (inbound s) in
    let low : i < length (inbound s) = let l = all.0 in omega (arith, l, long) in
    let m = message_at (inbound s) i low in
    let here = get_or_from_slice_get (slots_from 0 s h (inbound s)) i _ None (slot_at 0 s h (inbound s) i m.0 m.1) in
    let good = passes_slot w s (taken h s (0 + i + 1)) m.0 (ap (passes w) (sym here) ∙ all.1) in
    let place : 0 + i + 1 ≡ suc i = omega arith in
    record {
      message = m.0;
      there = m.1;
      untaken = subst (λ z. taken h s z ≡ false) place good.0;
      matching = good.1;
      not_overtaking = λ k x l f q. earlier all.2 k x l f q;
    }
  where
    earlier : ((k : ℕ) → k < i → passes w (get_or (slots_from 0 s h (inbound s)) k None) ≡ false)
        → (k : ℕ) (x : Message) → k < suc i → at_place (inbound s) k ≡ Some x → Matches w s x → taken h s k ≡ true
    earlier none zero x l f q = absurd cc
    earlier none (suc k) x l f q =
        let here = get_or_from_slice_get (slots_from 0 s h (inbound s)) k _ None (slot_at 0 s h (inbound s) k x f) in
        let place : 0 + k + 1 ≡ suc k = omega arith in
        subst (λ z. taken h s z ≡ true) place (slot_fails w s (taken h s (0 + k + 1)) x (ap (passes w) (sym here) ∙ none k (omega arith)) q)

-- where none passes there is no position
pub no_position : {A : Type 0} (p : A → Bool) (xs : List A) (d : A) → ((k : ℕ) → k < length xs → p (get_or xs k d) ≡ false) → position p xs ≡ None
no_position p xs d none = go (position p xs) refl
  where
    go : (found : Option ℕ) → position p xs ≡ found → position p xs ≡ None
    go None e = e
    go (Some i) e =
        let all = position-Some p xs i d e in
        absurd (false≢true (sym (none i all.0) ∙ all.1))

-- the first that passes is at the position
pub is_position : {A : Type 0} (p : A → Bool) (xs : List A) (i : ℕ) (d : A) → i < length xs → p (get_or xs i d) ≡ true
    → ((k : ℕ) → k < i → p (get_or xs k d) ≡ false) → position p xs ≡ Some i
is_position p xs i d low here before =
    let at = position_or_len_is p xs i d (omega (arith, low)) before (λ _. here) in
    rw at (within i (length xs) low)
  where
    within : (i n : ℕ) → i < n → cond (nat_lt i n) (Some i) None ≡ Some i
    within i n l = grind arith

-- and what may be taken is the first slot that passes
pub first_eligible : (inbound : ℕ → List Message) (h : History) (s i : ℕ) (w : Selector)
    → IsEligible inbound h s (suc i) w → position (passes w) (slots_from 0 s h (inbound s)) ≡ Some i
first_eligible inbound h s i w e =
    let low = slice_get_within (inbound s) i e.message e.there in
    let long = length-slots 0 s h (inbound s) in
    let here = get_or_from_slice_get (slots_from 0 s h (inbound s)) i _ None (slot_at 0 s h (inbound s) i e.message e.there) in
    let place : suc i ≡ 0 + i + 1 = omega arith in
    is_position (passes w) (slots_from 0 s h (inbound s)) i None (omega (arith, low, long))
    (ap (passes w) here ∙ slot_passes w s (taken h s (0 + i + 1)) e.message (subst (λ z. taken h s z ≡ false) place e.untaken) e.matching)
    (λ k l. before k l (message_at (inbound s) k (omega (arith, low, l))))
  where
    before : (k : ℕ) → k < i → (m : Message) × (slice_get (inbound s) k ≡ Some m) → passes w (get_or (slots_from 0 s h (inbound s)) k None) ≡ false
    before k l m =
        let here = get_or_from_slice_get (slots_from 0 s h (inbound s)) k _ None (slot_at 0 s h (inbound s) k m.0 m.1) in
        ap (passes w) here ∙ fails (taken h s (0 + k + 1)) m.0
        (λ q. let place : suc k ≡ 0 + k + 1 = omega arith in subst (λ z. taken h s z ≡ true) place (e.not_overtaking (suc k) m.0 (omega arith) m.1 q))
      where
        fails : (b : Bool) (m : Message) → (Matches w s m → b ≡ true) → passes w (slot_of s b m) ≡ false
        fails true m f = refl
        fails false m f = go (matches w (packet_of s m)) refl
          where
            go : (b : Bool) → matches w (packet_of s m) ≡ b → matches w (packet_of s m) ≡ false
            go true q = absurd (let z : false ≡ true = f (matching_packet w s m q) in differ z)
              where
                differ : false ≡ true → ⊥
                differ p = cc
            go false q = q

-- the message of the first slot that passes is in it
pub packet_first : (inbound : ℕ → List Message) (h : History) (s i : ℕ) (w : Selector) (e : IsEligible inbound h s (suc i) w)
    → slice_get (slots_from 0 s h (inbound s)) i ≡ Some (Some (packet_of s e.message))
packet_first inbound h s i w e =
    let place : suc i ≡ 0 + i + 1 = omega arith in
    let free : taken h s (0 + i + 1) ≡ false = subst (λ z. taken h s z ≡ false) place e.untaken in
    slot_at 0 s h (inbound s) i e.message e.there ∙ ap (λ b. Some (slot_of s b e.message)) free

-- where nothing else is taken of what stands there the slots stay
pub slots_same : (k s : ℕ) (h h' : History) (ms : List Message) → ((j : ℕ) → k < j → taken h' s j ≡ taken h s j) → slots_from k s h' ms ≡ slots_from k s h ms
slots_same k s h h' [] same = refl
slots_same k s h h' (m ∷ ms) same =
    let first : taken h' s (k + 1) ≡ taken h s (k + 1) = same (k + 1) (omega arith) in
    rw (first, slots_same (k + 1) s h h' ms (λ j l. same j (omega (arith, l)))) refl

-- one more message has one more slot
pub slots-push : (k s : ℕ) (h : History) (ms : List Message) (m : Message)
    → slots_from k s h (ms ++ m ∷ []) ≡ slots_from k s h ms ++ slot_of s (taken h s (k + length ms + 1)) m ∷ []
slots-push k s h [] m =
    let z : k + 1 ≡ k + 0 + 1 = omega arith in
    rw z refl
slots-push k s h (x ∷ ms) m =
    let z : k + suc (length ms) + 1 ≡ k + 1 + length ms + 1 = omega arith in
    rw (z, slots-push (k + 1) s h ms m) refl

-- where one more is taken its slot is empty
pub slots_take : (k s i : ℕ) (h h' : History) (ms : List Message) → ((j : ℕ) → taken h' s j ≡ (taken h s j || (k + i + 1 == j)))
    → slots_from k s h' ms ≡ slice_set (slots_from k s h ms) i None
slots_take k s i h h' [] one = refl
slots_take k s zero h h' (m ∷ ms) one =
    let here : (k + 0 + 1 == k + 1) ≡ true = eq-eqb (k + 0 + 1) (k + 1) (omega arith) in
    let first : taken h' s (k + 1) ≡ true = one (k + 1) ∙ ap (λ b. taken h s (k + 1) || b) here ∙ or_true (taken h s (k + 1)) in
    rw (
      first,
      slots_same (k + 1) s h h' ms (λ j l. one j ∙ ap (λ b. taken h s j || b) (ne_eqb (k + 0 + 1) j (λ e. omega (arith, l, e)))
          ∙ or_false (taken h s j)),
    ) refl
  where
    or_true : (b : Bool) → (b || true) ≡ true
    or_true true = refl
    or_true false = refl

    or_false : (b : Bool) → (b || false) ≡ b
    or_false true = refl
    or_false false = refl
slots_take k s (suc i) h h' (m ∷ ms) one =
    let here : (k + suc i + 1 == k + 1) ≡ false = ne_eqb (k + suc i + 1) (k + 1) (λ e. omega (arith, e)) in
    let first : taken h' s (k + 1) ≡ taken h s (k + 1) = one (k + 1) ∙ ap (λ b. taken h s (k + 1) || b) here ∙ or_false (taken h s (k + 1)) in
    let z : k + suc i + 1 ≡ k + 1 + i + 1 = omega arith in
    rw (first, slots_take (k + 1) s i h h' ms (λ j. subst (λ x. taken h' s j ≡ (taken h s j || (x == j))) z (one j))) refl
  where
    or_false : (b : Bool) → (b || false) ≡ b
    or_false true = refl
    or_false false = refl
