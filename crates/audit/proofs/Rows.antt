-- The rows of a run after one more act: an act that is an event adds it to its rank's row, and any other leaves all rows.
-- The receiver's clock of each event of a row is at most the number of the rank's acts.
use Rattle.std.proofs.Common.{◌≡◌, ℕ, suc, ◌+◌, false, List, [], ◌∷◌, ◌++◌, Option, Some, None, length, refl, ap, subst, ◌∙◌, arith, ◌⊎◌, inl, inr}
use Rattle.std.proofs.lemmas.List.{append-nil}
use Rattle.std.proofs.lemmas.Bool.{cases_eq}
use Rattle.event_logger.specs.Sequential.Event.{EventValue}
use Rattle.rank_machine.specs.Acts.{Act, Message, sends, takes, hits, misses, prints}
use Rattle.crash_free.specs.Runs.{Passed, History, history, sent, send_at, print_at, looked_up, takes_it}
use Rattle.crash_free.proofs.Lists.{history-own, history-other}
use Rattle.audit.specs.Rows.{row, event_at, events_from, cons_some}

-- what stands in front stays in front
cons_some-append : {A : Type 0} (o : Option A) (xs ys : List A) → cons_some o (xs ++ ys) ≡ cons_some o xs ++ ys
cons_some-append None xs ys = refl
cons_some-append (Some x) xs ys = refl

-- the events after one more act
pub events_from-push : (k : ℕ) (h : History) (x : Act × Option Message)
    → events_from k (h ++ x ∷ []) ≡ events_from k h ++ cons_some (event_at (k + length h + 1) x.0 x.1) []
events_from-push k [] x =
    let e : k + 1 ≡ k + 0 + 1 = omega arith in
    rw e refl
events_from-push k (y ∷ h) x =
    let e : k + 1 + length h + 1 ≡ k + suc (length h) + 1 = omega arith in
    rw (events_from-push (k + 1) h x, e) (cons_some-append (event_at (k + 1) y.0 y.1) _ _)

-- the row of the rank that makes an act
pub row-own : (C : List Passed) (r : ℕ) (a : Act)
    → row (record { rank = r; act = a } ∷ C) r ≡ row C r ++ cons_some (event_at (length (history C r) + 1) a (looked_up (λ s. sent C s r) a)) []
row-own C r a =
    ap (λ h. events_from 0 h) (history-own C r a) ∙ events_from-push 0 (history C r) (a, looked_up (λ s. sent C s r) a)
    ∙ (let z : 0 + length (history C r) ≡ length (history C r) = omega arith in rw z refl)

-- the rows of the other ranks stay
pub row-other : (C : List Passed) (p : Passed) (q : ℕ) → (p.rank ≡ q → ⊥) → row (p ∷ C) q ≡ row C q
row-other C p q ne = ap (λ h. events_from 0 h) (history-other C p q ne)

-- an act that is an event adds it
pub row_one_more : (C : List Passed) (r : ℕ) (a : Act) (x : EventValue) → event_at (length (history C r) + 1) a (looked_up (λ s. sent C s r) a) ≡ Some x
    → row (record { rank = r; act = a } ∷ C) r ≡ row C r ++ x ∷ []
row_one_more C r a x e = row-own C r a ∙ rw e refl

-- an act that is no event
abbrev pub IsEffect : Act → Type 0
IsEffect (sends d context t items) = Unit {0}
IsEffect (takes s j) = ⊥
IsEffect (hits s j) = ⊥
IsEffect misses = ⊥
IsEffect (prints v) = Unit {0}

-- an effect is no event
pub no_event : (c : ℕ) (a : Act) (m : Option Message) → IsEffect a → event_at c a m ≡ None
no_event c (sends d context t items) m e = refl
no_event c (takes s' j') m e = absurd e
no_event c (hits s' j') m e = absurd e
no_event c misses m e = absurd e
no_event c (prints v) m e = refl

-- an effect leaves all rows
pub row_of_effect : (C : List Passed) (r q : ℕ) (a : Act) → IsEffect a → row (record { rank = r; act = a } ∷ C) q ≡ row C q
row_of_effect C r q a e = go (cases_eq r q)
  where
    own : row (record { rank = r; act = a } ∷ C) r ≡ row C r
    own = row-own C r a ∙ rw (no_event _ a (looked_up (λ s. sent C s r) a) e) (append-nil _)

    go : (r ≡ q) ⊎ (r ≡ q → ⊥) → row (record { rank = r; act = a } ∷ C) q ≡ row C q
    go (inl z) = subst (λ y. row (record { rank = r; act = a } ∷ C) y ≡ row C y) z own
    go (inr ne) = row-other C (record { rank = r; act = a }) q ne

-- an effect takes and hits nothing
pub effect_finds : (inbound : ℕ → List Message) (a : Act) → IsEffect a → looked_up inbound a ≡ None
effect_finds inbound (sends d context t items) e = refl
effect_finds inbound (takes s j) e = absurd e
effect_finds inbound (hits s j) e = absurd e
effect_finds inbound misses e = absurd e
effect_finds inbound (prints v) e = refl

-- an effect takes no message
pub effect_takes_none : (a : Act) (s j : ℕ) → IsEffect a → takes_it s j a ≡ false
effect_takes_none (sends d context t items) s j e = refl
effect_takes_none (takes s' j') s j e = absurd e
effect_takes_none (hits s' j') s j e = absurd e
effect_takes_none misses s j e = absurd e
effect_takes_none (prints v) s j e = refl

-- an event sends nothing
pub event_sends_none : (c d c' : ℕ) (a : Act) (m : Option Message) (x : EventValue) → event_at c a m ≡ Some x → send_at c' d a [] ≡ []
event_sends_none c d c' (sends d' context t items) m x e = absurd cc
event_sends_none c d c' (takes s j) m x e = refl
event_sends_none c d c' (hits s j) m x e = refl
event_sends_none c d c' misses m x e = refl
event_sends_none c d c' (prints v) m x e = refl

-- an event prints nothing
pub event_prints_none : (c c' : ℕ) (a : Act) (m : Option Message) (x : EventValue) → event_at c a m ≡ Some x → print_at c' a [] ≡ []
event_prints_none c c' (sends d' context t items) m x e = absurd cc
event_prints_none c c' (takes s j) m x e = refl
event_prints_none c c' (hits s j) m x e = refl
event_prints_none c c' misses m x e = refl
event_prints_none c c' (prints v) m x e = absurd cc

-- the receiver's clock of an event is that of its act
pub event_clock : (c : ℕ) (a : Act) (m : Option Message) (x : EventValue) → event_at c a m ≡ Some x → x.receiver_clock ≡ c
event_clock c (sends d context t items) m x e = absurd cc
event_clock c (takes s j) (Some y) x e = cc
event_clock c (takes s j) None x e = absurd cc
event_clock c (hits s j) (Some y) x e = cc
event_clock c (hits s j) None x e = absurd cc
event_clock c misses m x e = cc
event_clock c (prints v) m x e = absurd cc
