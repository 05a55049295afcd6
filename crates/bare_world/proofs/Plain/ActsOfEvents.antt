-- Events and the acts that they stand for: an event ends with the last of its acts, so what is said of the acts above a clock
-- is said of the events that end above it.
use Rattle.std.proofs.Common.{◌≡◌, ℕ, zero, suc, ◌+◌, ◌-◌, ◌<◌, ◌≤◌, ◌⊎◌, inl, inr, Bool, true, false, ◌&&◌, ◌||◌, nat_le, nat_lt, if◌then◌else◌, List, [], ◌∷◌}
use Rattle.std.proofs.Common.{◌++◌}
use Rattle.std.proofs.Common.{Option, Some, None, length, slice_get, refl, sym, ap, subst, ◌∙◌, arith}
use Rattle.std.specs.List.{list_any}
use Rattle.std.proofs.lemmas.Bool.{cases_lt, lt-ltb, le-ltb, lt-leb}
use Rattle.std.proofs.lemmas.Option.{slice_get_within}
use Rattle.event_logger.specs.Sequential.Event.{EventValue, event_of, first_clock}
use Rattle.event_logger.specs.Sequential.Misses.{misses_after, parts_of, expand, IsCounted, IsCountedAt}
use Rattle.event_logger.specs.Sequential.History.{above, last_clock}
use Rattle.event_logger.specs.declared.sequential.kind.Kind.{Kind}
use Rattle.event_logger.specs.declared.sequential.kind.Kind.TheVariants as kind
use Rattle.event_logger.proofs.SequentialLaws.Misses.{misses_push, above_append}
use Rattle.rank_node.specs.Replay.{is_cut, cuts}
use Rattle.crash_free.specs.Runs.{History}
use Rattle.bare_world.specs.Rows.{event_at, events_from, cons_some}
use Rattle.bare_world.specs.Plain.{AllCounted}
use Rattle.bare_world.proofs.Rows.{event_clock}
use Rattle.bare_world.proofs.Lists.Places.{get_last}
use Rattle.rank_machine.proofs.CollectiveParts.{longer_at}

-- ---- places in a list

-- what stands in the second part stands behind the first
get_right : {A : Type 0} (xs ys : List A) (i : ℕ) (y : A) → slice_get ys i ≡ Some y → slice_get (xs ++ ys) (length xs + i) ≡ Some y
get_right [] ys i y e = (let z : i ≡ 0 + i = omega arith in subst (λ j. slice_get ys j ≡ Some y) z e)
get_right (x ∷ xs) ys i y e =
    (let z : suc (length xs + i) ≡ suc (length xs) + i = omega arith in
    subst (λ j. slice_get (x ∷ (xs ++ ys)) j ≡ Some y) z (get_right xs ys i y e))

-- ---- the parts of an event

-- the last of them
pub record LastPart (e : EventValue) : Type 0 where
  pub front : List EventValue
  pub last : EventValue
  pub parts : parts_of e ≡ front ++ last ∷ []
  pub clock : last.receiver_clock ≡ e.receiver_clock

-- an event ends with its last part
pub last_part : (e : EventValue) → IsCounted e → LastPart e
last_part e counted = go e.kind e.sender e.sender_clock e.receiver_clock counted
  where
    run : (s n r : ℕ) → 1 ≤ n → n ≤ r → LastPart (event_of kind.Misses s n r)
    run s zero r some low = absurd (omega (arith, some))
    run s (suc n) r some low = record {
      front = misses_after (r - suc n) n;
      last = event_of kind.Miss 0 0 (r - suc n + n + 1);
      parts = misses_push (r - suc n) n;
      clock = omega (arith, low);
    }

    go : (k : Kind) (s n r : ℕ) → IsCountedAt k s n r → LastPart (event_of k s n r)
    go kind.Reception s n r c = record { front = []; last = event_of kind.Reception s n r; parts = refl; clock = refl }
    go kind.Hit s n r c = record { front = []; last = event_of kind.Hit s n r; parts = refl; clock = refl }
    go kind.Miss s n r c = record { front = []; last = event_of kind.Miss s n r; parts = refl; clock = refl }
    go kind.Misses s n r c = run s n r c.0 c.1

-- the first of them
pub record FirstPart (e : EventValue) : Type 0 where
  pub first : EventValue
  pub others : List EventValue
  pub parts : parts_of e ≡ first ∷ others
  pub clock : first.receiver_clock ≡ first_clock e

-- an event begins with its first part
pub first_part : (e : EventValue) → IsCounted e → FirstPart e
first_part e counted = go e.kind e.sender e.sender_clock e.receiver_clock counted
  where
    run : (s n r : ℕ) → 1 ≤ n → n ≤ r → FirstPart (event_of kind.Misses s n r)
    run s zero r some low = absurd (omega (arith, some))
    run s (suc n) r some low = record {
      first = event_of kind.Miss 0 0 (r - suc n + 1);
      others = misses_after (r - suc n + 1) n;
      parts = refl;
      clock = omega (arith, low);
    }

    go : (k : Kind) (s n r : ℕ) → IsCountedAt k s n r → FirstPart (event_of k s n r)
    go kind.Reception s n r c = record { first = event_of kind.Reception s n r; others = []; parts = refl; clock = refl }
    go kind.Hit s n r c = record { first = event_of kind.Hit s n r; others = []; parts = refl; clock = refl }
    go kind.Miss s n r c = record { first = event_of kind.Miss s n r; others = []; parts = refl; clock = refl }
    go kind.Misses s n r c = run s n r c.0 c.1

-- ---- above a clock

-- one event that ends above it
one_in : (c : ℕ) (e : EventValue) → c < e.receiver_clock → above c (e ∷ []) ≡ e ∷ []
one_in c e l = ap (λ b. if b then e ∷ [] else []) (lt-ltb c e.receiver_clock l)

-- where an event ends above it, its last part is there
last_above : (c : ℕ) (e : EventValue) → IsCounted e → c < e.receiver_clock
    → (i : ℕ) × (p : EventValue) × (slice_get (above c (parts_of e)) i ≡ Some p) × (p.receiver_clock ≡ e.receiver_clock)
last_above c e counted l =
    let z = last_part e counted in
    let clock = z.clock in (
      length (above c z.front),
      z.last,
      ap (λ y. slice_get (above c y) (length (above c z.front))) z.parts
          ∙ ap (λ y. slice_get y (length (above c z.front)))
          (above_append c z.front (z.last ∷ []) ∙ ap (λ y. above c z.front ++ y) (one_in c z.last (omega (arith, clock, l))))
          ∙ get_last (above c z.front) z.last,
      clock,
    )

-- of several too
part_above : (c : ℕ) (es : List EventValue) (k : ℕ) (e : EventValue) → AllCounted es → slice_get es k ≡ Some e → c < e.receiver_clock
    → (i : ℕ) × (p : EventValue) × (slice_get (above c (expand es)) i ≡ Some p) × (p.receiver_clock ≡ e.receiver_clock)
part_above c [] k e counted at l = absurd cc
part_above c (x ∷ es) zero e counted at l =
    let q : x ≡ e = cc in
    let n = last_above c x (counted 0 x refl) (subst (λ z. c < z.receiver_clock) (sym q) l) in (
      n.0,
      n.1,
      ap (λ z. slice_get z n.0) (above_append c (parts_of x) (expand es)) ∙ longer_at (above c (parts_of x)) (above c (expand es)) n.0 n.1 n.2,
      n.3 ∙ ap (λ z. z.receiver_clock) q,
    )
part_above c (x ∷ es) (suc k) e counted at l =
    let n = part_above c es k e (λ j y f. counted (suc j) y f) at l in (
      length (above c (parts_of x)) + n.0,
      n.1,
      ap (λ z. slice_get z (length (above c (parts_of x)) + n.0)) (above_append c (parts_of x) (expand es))
          ∙ get_right (above c (parts_of x)) (above c (expand es)) n.0 n.1 n.2,
      n.3,
    )

-- where all end above it, all are
pub above_all : (c : ℕ) (es : List EventValue) → ((k : ℕ) (e : EventValue) → slice_get es k ≡ Some e → c < e.receiver_clock) → above c es ≡ es
above_all c [] all = refl
above_all c (e ∷ es) all =
    ap (λ b. if b then e ∷ above c es else above c es) (lt-ltb c e.receiver_clock (all 0 e refl))
    ∙ ap (λ z. e ∷ z) (above_all c es (λ k x at. all (suc k) x at))

-- where no act is above it, no event ends above it
pub none_above : (c : ℕ) (es : List EventValue) → AllCounted es → above c (expand es) ≡ [] → (k : ℕ) (e : EventValue) → slice_get es k ≡ Some e
    → e.receiver_clock ≤ c
none_above c es counted none k e at = go (cases_lt c e.receiver_clock)
  where
    go : (c < e.receiver_clock) ⊎ (e.receiver_clock ≤ c) → e.receiver_clock ≤ c
    go (inr l) = l
    go (inl l) =
        absurd (let n = part_above c es k e counted at l in
        let q : slice_get [] n.0 ≡ Some n.1 = ap (λ z. slice_get z n.0) (sym none) ∙ n.2 in cc)

-- each event that ends above it is one of them
pub above_each : (c : ℕ) (es : List EventValue) (k : ℕ) (e : EventValue) → slice_get (above c es) k ≡ Some e
    → (c < e.receiver_clock) × ((j : ℕ) × (slice_get es j ≡ Some e))
above_each c [] k e at = absurd cc
above_each c (x ∷ es) k e at = go (cases_lt c x.receiver_clock) k at (λ i f. above_each c es i e f)
  where
    more : (c < e.receiver_clock) × ((j : ℕ) × (slice_get es j ≡ Some e)) → (c < e.receiver_clock) × ((j : ℕ) × (slice_get (x ∷ es) j ≡ Some e))
    more h = (h.0, (suc h.1.0, h.1.1))

    go : (c < x.receiver_clock) ⊎ (x.receiver_clock ≤ c) → (k : ℕ) → slice_get (above c (x ∷ es)) k ≡ Some e
        → ((i : ℕ) → slice_get (above c es) i ≡ Some e → (c < e.receiver_clock) × ((j : ℕ) × (slice_get es j ≡ Some e)))
        → (c < e.receiver_clock) × ((j : ℕ) × (slice_get (x ∷ es) j ≡ Some e))
    go (inr l) k f ih = more (ih k (ap (λ b. slice_get (if b then x ∷ above c es else above c es) k) (sym (le-ltb c x.receiver_clock l)) ∙ f))
    go (inl l) k f ih = place k (ap (λ b. slice_get (if b then x ∷ above c es else above c es) k) (sym (lt-ltb c x.receiver_clock l)) ∙ f)
      where
        place : (k : ℕ) → slice_get (x ∷ above c es) k ≡ Some e → (c < e.receiver_clock) × ((j : ℕ) × (slice_get (x ∷ es) j ≡ Some e))
        place zero g = (let q : x ≡ e = cc in (subst (λ z. c < z.receiver_clock) q l, (0, ap Some q)))
        place (suc k) g = more (ih k g)

-- ---- a history's events

-- each of them has a clock after those before it
events_late : (k : ℕ) (h : History) (i : ℕ) (e : EventValue) → slice_get (events_from k h) i ≡ Some e → k + i < e.receiver_clock
events_late k [] i e f = absurd cc
events_late k (x ∷ h) i e f = go (event_at (k + 1) x.0 x.1) refl i f (λ j g. events_late (k + 1) h j e g)
  where
    go : (o : Option EventValue) → event_at (k + 1) x.0 x.1 ≡ o → (i : ℕ) → slice_get (cons_some o (events_from (k + 1) h)) i ≡ Some e
        → ((j : ℕ) → slice_get (events_from (k + 1) h) j ≡ Some e → k + 1 + j < e.receiver_clock) → k + i < e.receiver_clock
    go None is i g ih = (let z = ih i g in omega (arith, z))
    go (Some y) is zero g ih =
        let q : y ≡ e = cc in
        let c = event_clock (k + 1) x.0 x.1 y is in
        let s = ap (λ z. z.receiver_clock) q in
        omega (arith, c, s)
    go (Some y) is (suc i) g ih = (let z = ih i g in omega (arith, z))

-- the last part of an event of several is among their parts
part_in : (es : List EventValue) (k : ℕ) (e : EventValue) → AllCounted es → slice_get es k ≡ Some e
    → (i : ℕ) × (p : EventValue) × (slice_get (expand es) i ≡ Some p) × (p.receiver_clock ≡ e.receiver_clock)
part_in [] k e counted at = absurd cc
part_in (x ∷ es) zero e counted at =
    let q : x ≡ e = cc in
    let z = last_part x (counted 0 x refl) in (
      length z.front,
      z.last,
      longer_at (parts_of x) (expand es) (length z.front) z.last (ap (λ y. slice_get y (length z.front)) z.parts ∙ get_last z.front z.last),
      z.clock ∙ ap (λ y. y.receiver_clock) q,
    )
part_in (x ∷ es) (suc k) e counted at =
    let n = part_in es k e (λ j y f. counted (suc j) y f) at in
    (length (parts_of x) + n.0, n.1, get_right (parts_of x) (expand es) n.0 n.1 n.2, n.3)

-- so each event of a row comes after the first act
pub row_late : (h : History) (es : List EventValue) → AllCounted es → expand es ≡ events_from 0 h → (k : ℕ) (e : EventValue) → slice_get es k ≡ Some e
    → 0 < e.receiver_clock
row_late h es counted is k e at =
    let n = part_in es k e counted at in
    let same = n.3 in
    let late = events_late 0 h n.0 n.1 (ap (λ z. slice_get z n.0) (sym is) ∙ n.2) in
    omega (arith, late, same)

-- of what is left, what comes behind the first ends later than the next act
pub left_late : (c : ℕ) (e : EventValue) (rest : List EventValue) (h : History) → AllCounted (e ∷ rest) → c < e.receiver_clock
    → above c (expand (e ∷ rest)) ≡ events_from c h → (k : ℕ) (y : EventValue) → slice_get rest k ≡ Some y → c < y.receiver_clock
    → c + 1 < y.receiver_clock
left_late c e rest h counted low is k y at l =
    let first = last_above c e (counted 0 e refl) low in
    let some = slice_get_within (above c (parts_of e)) first.0 first.1 first.2 in
    let n = part_above c rest k y (λ j z f. counted (suc j) z f) at l in
    let same = n.3 in
    let late = events_late c h (length (above c (parts_of e)) + n.0) n.1
    (ap (λ z. slice_get z (length (above c (parts_of e)) + n.0)) (sym is ∙ above_append c (parts_of e) (expand rest))
    ∙ get_right (above c (parts_of e)) (above c (expand rest)) n.0 n.1 n.2) in
    omega (arith, late, some, same)

-- the last of events that end early has an early clock
pub last_clock_early : (n : ℕ) (es : List EventValue) → ((k : ℕ) (e : EventValue) → slice_get es k ≡ Some e → e.receiver_clock ≤ n) → last_clock es ≤ n
last_clock_early n [] all = omega arith
last_clock_early n (e ∷ []) all = all 0 e refl
last_clock_early n (e ∷ (f ∷ es)) all = last_clock_early n (f ∷ es) (λ k x at. all (suc k) x at)

-- ---- cut events

-- an event that ends by a clock isn't cut by it
pub uncut_early : (c : ℕ) (e : EventValue) → e.receiver_clock ≤ c → is_cut c e ≡ false
uncut_early c e l = ap (λ b. nat_le (first_clock e) c && b) (le-ltb c e.receiver_clock l) ∙ nothing (nat_le (first_clock e) c)
  where
    nothing : (b : Bool) → (b && false) ≡ false
    nothing true = refl
    nothing false = refl

-- nor is one that begins after it
pub uncut_late : (c : ℕ) (e : EventValue) → c < first_clock e → is_cut c e ≡ false
uncut_late c e l = ap (λ b. b && nat_lt c e.receiver_clock) (lt-leb (first_clock e) c l)

-- where none is cut
pub cuts_none : (c : ℕ) (es : List EventValue) → ((k : ℕ) (e : EventValue) → slice_get es k ≡ Some e → is_cut c e ≡ false) → cuts c es ≡ false
cuts_none c [] all = refl
cuts_none c (e ∷ es) all =
    ap (λ b. b || list_any (is_cut c) es) (all 0 e refl) ∙ cuts_none c es (λ k x at. all (suc k) x at)
