-- What a rank has made that hasn't passed: acts of other ranks keep it, an act more goes to its end, and with it the run
-- goes on as a run. What waits may send, so the run that goes on sends more.
use Rattle.std.proofs.Common.{◌≡◌, ℕ, zero, suc, ◌+◌, ◌<◌, false, List, [], ◌∷◌, ◌++◌, Some, None, length, refl, sym, ap, subst, ◌∙◌}
use Rattle.std.proofs.Common.{append_assoc, arith, slice_get}
use Rattle.std.proofs.lemmas.List.{append-nil}
use Rattle.event_logger.specs.Sequential.Event.{EventValue}
use Rattle.rank_machine.specs.States.{State}
use Rattle.rank_machine.specs.Wants.{wants, payload}
use Rattle.rank_machine.specs.Acts.{Act, sends, takes, hits, misses, prints, Runs}
use Rattle.crash_free.specs.Runs.{Passed, history, sent, send_at, looked_up, taken, MayMake, IsRun, continue}
use Rattle.crash_free.specs.Grows.{Grows, Extends}
use Rattle.crash_free.proofs.Lists.{send_at-append, at_place-append}
use Rattle.crash_free.proofs.Going.{looked_up_longer, MayMake-longer, Extends-both, sent_grows, free_silent}
use Rattle.bare_world.specs.Rows.{row}
use Rattle.bare_world.proofs.Rows.{IsEffect, row_one_more, row_of_effect}
use Rattle.rank_node.specs.declared.waiting.Waiting.{Waiting}
use Rattle.rank_node.specs.Waiting.{events_in, effects, event_in, BeginsWithEvents}
use Rattle.rank_node.specs.declared.waiting.Waiting.TheVariants as waits
use Rattle.bare_world.specs.Misses.{IsShown, MissesNoneShown}
use Rattle.bare_world.specs.Stands.{IsFor, Pending, sends_of}

-- an act is still what waits, where its rank has the same acts and its message is found still
IsFor-same : (C C' : List Passed) (r : ℕ) (a : Act) (x : Waiting) → history C' r ≡ history C r → looked_up (λ s. sent C' s r) a ≡ looked_up (λ s. sent C s r) a
    → IsFor C r a x → IsFor C' r a x
IsFor-same C C' r a (waits.Event e) h l f = rw (h, l) f
IsFor-same C C' r (sends d c t i) (waits.Send dest clock) h l f = (f.0, rw h f.1)
IsFor-same C C' r (takes s j) (waits.Send dest clock) h l f = absurd f
IsFor-same C C' r (hits s j) (waits.Send dest clock) h l f = absurd f
IsFor-same C C' r misses (waits.Send dest clock) h l f = absurd f
IsFor-same C C' r (prints v) (waits.Send dest clock) h l f = absurd f
IsFor-same C C' r (prints v) (waits.Line clock value) h l f = (f.0, rw h f.1)
IsFor-same C C' r (sends d c t i) (waits.Line clock value) h l f = absurd f
IsFor-same C C' r (takes s j) (waits.Line clock value) h l f = absurd f
IsFor-same C C' r (hits s j) (waits.Line clock value) h l f = absurd f
IsFor-same C C' r misses (waits.Line clock value) h l f = absurd f

-- a miss that misses nothing that was shown still does after acts of others
MissesNoneShown-extended : (start : ℕ → State) (C C' : List Passed) (r : ℕ) (a : Act) → Extends r C C' → MissesNoneShown start C r a
    → MissesNoneShown start C' r a
MissesNoneShown-extended start C C' r a e fair is may selector wanted s j one shown free =
    let was : MayMake (start r) (λ q. sent C q r) (history C r) misses =
    record {
      after = may.after;
      stands = may.stands;
      reached = subst (λ h. Runs (start r) h may.after) e.same may.reached;
      inner = may.inner;
      makes = may.makes;
      free = free_silent (wants may.stands) misses (λ q. sent C q r) (history C r) tt;
    } in
    let m = fair is was selector wanted s j one (subst (λ h. IsShown h s j) e.same shown) (subst (λ h. taken h s j ≡ false) e.same free) in
    (m.0, rw (e.grows s).1 (at_place-append (sent C s r) (e.grows s).0 j m.0 m.1), m.2)

-- acts of other ranks keep what a rank has pending
pub Pending-extended : (start : ℕ → State) (C C' : List Passed) (r : ℕ) (acts : List Act) (xs : List Waiting)
    → Extends r C C' → Pending start C r acts xs → Pending start C' r acts xs × Extends r (continue C r acts) (continue C' r acts)
Pending-extended start C C' r [] [] e p = (tt, e)
Pending-extended start C C' r [] (x ∷ xs) e p = absurd p
Pending-extended start C C' r (a ∷ acts) [] e p = absurd p
Pending-extended start C C' r (a ∷ acts) (x ∷ xs) e p =
    let both = Extends-both r C C' a (wants p.0.stands) (payload p.0.stands) p.0.makes e in
    let rest = Pending-extended start (record { rank = r; act = a } ∷ C) (record { rank = r; act = a } ∷ C') r acts xs both p.2 in
    let l : looked_up (λ s. sent C' s r) a ≡ looked_up (λ s. sent C s r) a =
    looked_up_longer (wants p.0.stands) (payload p.0.stands) (λ s. sent C s r) (λ s. sent C' s r) a p.0.makes e.grows in (
      (
        rw e.same (MayMake-longer (start r) (λ s. sent C s r) (λ s. sent C' s r) (history C r) a e.grows p.0),
        IsFor-same C C' r a x e.same l p.1,
        rest.0,
        MissesNoneShown-extended start C C' r a e p.3,
      ),
      rest.1,
    )

-- one more act that waits
pub Pending-push : (start : ℕ → State) (C : List Passed) (r : ℕ) (acts : List Act) (xs : List Waiting) (a : Act) (x : Waiting)
    → Pending start C r acts xs
    → MayMake (start r) (λ s. sent (continue C r acts) s r) (history (continue C r acts) r) a
    → IsFor (continue C r acts) r a x
    → MissesNoneShown start (continue C r acts) r a
    → Pending start C r (acts ++ a ∷ []) (xs ++ x ∷ [])
Pending-push start C r [] [] a x p c e f = (c, e, tt, f)
Pending-push start C r [] (y ∷ xs) a x p c e f = absurd p
Pending-push start C r (b ∷ acts) [] a x p c e f = absurd p
Pending-push start C r (b ∷ acts) (y ∷ xs) a x p c e f =
    (p.0, p.1, Pending-push start (record { rank = r; act = b } ∷ C) r acts xs a x p.2 c e f, p.3)

-- the run with what is pending is a run
pub continue_is_run : (start : ℕ → State) (n : ℕ) (C : List Passed) (r : ℕ) (acts : List Act) (xs : List Waiting)
    → r < n → IsRun start n C → Pending start C r acts xs → IsRun start n (continue C r acts)
continue_is_run start n C r [] xs l i p = i
continue_is_run start n C r (a ∷ acts) [] l i p = absurd p
continue_is_run start n C r (a ∷ acts) (x ∷ xs) l i p =
    continue_is_run start n (record { rank = r; act = a } ∷ C) r acts xs l (i, l, p.0) p.2

-- what waits and is no event is of an effect
pub effect_for : (C : List Passed) (r : ℕ) (a : Act) (x : Waiting) → event_in x ≡ None → IsFor C r a x → IsEffect a
effect_for C r a (waits.Event e) n f = absurd cc
effect_for C r (sends d c t i) (waits.Send dest clock) n f = tt
effect_for C r (takes s j) (waits.Send dest clock) n f = absurd f
effect_for C r (hits s j) (waits.Send dest clock) n f = absurd f
effect_for C r misses (waits.Send dest clock) n f = absurd f
effect_for C r (prints v) (waits.Send dest clock) n f = absurd f
effect_for C r (prints v) (waits.Line clock value) n f = tt
effect_for C r (sends d c t i) (waits.Line clock value) n f = absurd f
effect_for C r (takes s j) (waits.Line clock value) n f = absurd f
effect_for C r (hits s j) (waits.Line clock value) n f = absurd f
effect_for C r misses (waits.Line clock value) n f = absurd f

-- the row grows by the events among what is pending
pub row_with_pending : (start : ℕ → State) (C : List Passed) (r : ℕ) (acts : List Act) (xs : List Waiting)
    → Pending start C r acts xs → row (continue C r acts) r ≡ row C r ++ events_in xs
row_with_pending start C r [] [] p = sym (append-nil _)
row_with_pending start C r [] (x ∷ xs) p = absurd p
row_with_pending start C r (a ∷ acts) [] p = absurd p
row_with_pending start C r (a ∷ acts) (waits.Event e ∷ xs) p =
    row_with_pending start (record { rank = r; act = a } ∷ C) r acts xs p.2
    ∙ ap (λ z. z ++ events_in xs) (row_one_more C r a e p.1)
    ∙ append_assoc (row C r) (e ∷ []) (events_in xs)
row_with_pending start C r (a ∷ acts) (waits.Send d c ∷ xs) p =
    row_with_pending start (record { rank = r; act = a } ∷ C) r acts xs p.2
    ∙ ap (λ z. z ++ events_in xs) (row_of_effect C r r a (effect_for C r a (waits.Send d c) refl p.1))
row_with_pending start C r (a ∷ acts) (waits.Line c v ∷ xs) p =
    row_with_pending start (record { rank = r; act = a } ∷ C) r acts xs p.2
    ∙ ap (λ z. z ++ events_in xs) (row_of_effect C r r a (effect_for C r a (waits.Line c v) refl p.1))

-- each pending act waits
pub as_many_acts : (start : ℕ → State) (C : List Passed) (r : ℕ) (acts : List Act) (xs : List Waiting) → Pending start C r acts xs
    → length acts ≡ length (events_in xs) + effects xs
as_many_acts start C r [] [] p = refl
as_many_acts start C r [] (x ∷ xs) p = absurd p
as_many_acts start C r (a ∷ acts) [] p = absurd p
as_many_acts start C r (a ∷ acts) (waits.Event e ∷ xs) p = (let z = as_many_acts start (record { rank = r; act = a } ∷ C) r acts xs p.2 in omega (arith, z))
as_many_acts start C r (a ∷ acts) (waits.Send d c ∷ xs) p = (let z = as_many_acts start (record { rank = r; act = a } ∷ C) r acts xs p.2 in omega (arith, z))
as_many_acts start C r (a ∷ acts) (waits.Line c v ∷ xs) p = (let z = as_many_acts start (record { rank = r; act = a } ∷ C) r acts xs p.2 in omega (arith, z))

-- where nothing waits no act is pending
pub none_pending : (start : ℕ → State) (C : List Passed) (r : ℕ) (acts : List Act) (xs : List Waiting) → Pending start C r acts xs → xs ≡ [] → acts ≡ []
none_pending start C r [] xs p e = refl
none_pending start C r (a ∷ acts) [] p e = absurd p
none_pending start C r (a ∷ acts) (x ∷ xs) p e = absurd cc

-- a run that goes on sends more
pub sent_continued : (C : List Passed) (r : ℕ) (acts : List Act) (s d : ℕ) → Grows (sent C s d) (sent (continue C r acts) s d)
sent_continued C r [] s d = ([], sym (append-nil _))
sent_continued C r (a ∷ acts) s d =
    let one = sent_grows C (record { rank = r; act = a }) s d in
    let more = sent_continued (record { rank = r; act = a } ∷ C) r acts s d in
    (one.0 ++ more.0, more.1 ∙ ap (λ z. z ++ more.0) one.1 ∙ append_assoc (sent C s d) one.0 more.0)

-- what acts and one more send
pub sends_of-push : (k d : ℕ) (acts : List Act) (a : Act) → sends_of k d (acts ++ a ∷ []) ≡ sends_of k d acts ++ send_at (k + length acts + 1) d a []
sends_of-push k d [] a = (let e : k + 1 ≡ k + 0 + 1 = omega arith in ap (λ z. send_at z d a []) e)
sends_of-push k d (b ∷ acts) a =
    ap (λ z. send_at (k + 1) d b z) (sends_of-push (k + 1) d acts a)
    ∙ send_at-append (k + 1) d b (sends_of (k + 1) d acts) (send_at (k + 1 + length acts + 1) d a [])
    ∙ (let e : k + 1 + length acts + 1 ≡ k + suc (length acts) + 1 = omega arith in
    ap (λ z. send_at (k + 1) d b (sends_of (k + 1) d acts) ++ send_at z d a []) e)

-- ---- the events that stand first

-- the event right behind them is one of them then
pub begins_more : (k : ℕ) (xs : List Waiting) (e : EventValue) → BeginsWithEvents k xs → slice_get xs k ≡ Some (waits.Event e) → BeginsWithEvents (k + 1) xs
begins_more zero [] e b f = absurd cc
begins_more zero (x ∷ xs) e b f = (let q : x ≡ waits.Event e = cc in subst (λ z. BeginsWithEvents 1 (z ∷ xs)) (sym q) tt)
begins_more (suc k) [] e b f = absurd b
begins_more (suc k) (waits.Event x ∷ xs) e b f =
    (let z : suc (k + 1) ≡ suc k + 1 = omega arith in subst (λ y. BeginsWithEvents y (waits.Event x ∷ xs)) z (begins_more k xs e b f))
begins_more (suc k) (waits.Send d c ∷ xs) e b f = absurd b
begins_more (suc k) (waits.Line c v ∷ xs) e b f = absurd b

-- where an effect stands first nothing is stored
pub begins_effect : (k : ℕ) (x : Waiting) (xs : List Waiting) → event_in x ≡ None → BeginsWithEvents k (x ∷ xs) → k ≡ 0
begins_effect zero x xs n b = refl
begins_effect (suc k) (waits.Event e) xs n b = absurd cc
begins_effect (suc k) (waits.Send d c) xs n b = absurd b
begins_effect (suc k) (waits.Line c v) xs n b = absurd b
