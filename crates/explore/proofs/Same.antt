-- Two runs in which each rank makes the same acts have the same histories: a message is named by its source and its place there, and what a
-- source sent is told by its acts.
use Rattle.std.proofs.Common.{◌≡◌, ℕ, ◌+◌, ◌<◌, ◌≤◌, ◌==◌, Bool, true, false, List, [], ◌∷◌, ◌++◌, Option, ◌⊎◌, inl, inr, refl, sym, ap, ◌∙◌}
use Rattle.std.specs.Prelude.{reverse}
use Rattle.std.proofs.lemmas.Bool.{cases_eq, cases_lt}
use Rattle.std.proofs.lemmas.List.{append-nil, append_assoc, reverse-append}
use Rattle.rank_machine.specs.States.{State}
use Rattle.rank_machine.specs.Wants.{wants, payload}
use Rattle.rank_machine.specs.Acts.{Act, Message}
use Rattle.crash_free.specs.Runs.{Passed, History, add_if, cons_if, history, sent, sends_from, send_at, looked_up, IsRun}
use Rattle.crash_free.specs.Grows.{Grows}
use Rattle.crash_free.proofs.Lists.{history-own, history-other}
use Rattle.crash_free.proofs.Going.{looked_up_longer, sent_grows}
use Rattle.crash_free.proofs.Taking.{no_history}
use Rattle.explore.specs.Own.{own}

-- the acts of a history
abbrev acts_in : History → List Act
acts_in [] = []
acts_in (x ∷ h) = x.0 ∷ acts_in h

-- these acts, each with what it takes or hits of what was sent
abbrev told : (ℕ → List Message) → List Act → History
told inbound [] = []
told inbound (a ∷ acts) = (a, looked_up inbound a) ∷ told inbound acts

-- the acts of a history with one more
acts_in-push : (h : History) (x : Act × Option Message) → acts_in (h ++ x ∷ []) ≡ acts_in h ++ x.0 ∷ []
acts_in-push [] x = refl
acts_in-push (y ∷ h) x = ap (λ z. y.0 ∷ z) (acts_in-push h x)

-- one more is told
told-push : (inbound : ℕ → List Message) (acts : List Act) (a : Act) → told inbound (acts ++ a ∷ []) ≡ told inbound acts ++ (a, looked_up inbound a) ∷ []
told-push inbound [] a = refl
told-push inbound (b ∷ acts) a = ap (λ z. (b, looked_up inbound b) ∷ z) (told-push inbound acts a)

-- what grows twice grows
pub grows_on : (xs ys zs : List Message) → Grows xs ys → Grows ys zs → Grows xs zs
grows_on xs ys zs a b = (a.0 ++ b.0, b.1 ∙ ap (λ z. z ++ b.0) a.1 ∙ append_assoc xs a.0 b.0)

-- in a run each act of a rank has what it finds among what was sent to it, and among more than that too
found : (start : ℕ → State) (n : ℕ) (C : List Passed) → IsRun start n C → (r : ℕ) (inbound : ℕ → List Message) → ((s : ℕ) → Grows (sent C s r) (inbound s))
    → history C r ≡ told inbound (acts_in (history C r))
found start n [] run r inbound g = refl
found start n (p ∷ C) run r inbound g = by_rank (found start n C run.0 r inbound before) (cases_eq p.rank r)
  where
    before : (s : ℕ) → Grows (sent C s r) (inbound s)
    before s = grows_on (sent C s r) (sent (p ∷ C) s r) (inbound s) (sent_grows C p s r) (g s)

    found_last : p.rank ≡ r → looked_up inbound p.act ≡ looked_up (λ s. sent C s p.rank) p.act
    found_last e =
        looked_up_longer (wants run.2.stands) (payload run.2.stands) (λ s. sent C s p.rank) inbound p.act run.2.makes
        (λ s. rw e (before s))

    by_rank : history C r ≡ told inbound (acts_in (history C r)) → (p.rank ≡ r) ⊎ (p.rank ≡ r → ⊥)
        → history (p ∷ C) r ≡ told inbound (acts_in (history (p ∷ C) r))
    by_rank so_far (inl e) =
        let last : Act × Option Message = (p.act, looked_up (λ s. sent C s p.rank) p.act) in
        let whole : history (p ∷ C) r ≡ history C r ++ last ∷ [] = rw (sym e) (history-own C p.rank p.act) in
        rw (whole, acts_in-push (history C r) last, told-push inbound (acts_in (history C r)) p.act, found_last e, sym so_far) refl
    by_rank so_far (inr other) = rw (history-other C p r other) so_far

-- what a history sends is told by its acts
sends_told : (k r : ℕ) (h : History) (inbound : ℕ → List Message) → sends_from k r h ≡ sends_from k r (told inbound (acts_in h))
sends_told k r [] inbound = refl
sends_told k r (x ∷ h) inbound = ap (λ z. send_at (k + 1) r x.0 z) (sends_told (k + 1) r h inbound)

-- so histories with the same acts send the same
same_sends : (r : ℕ) (h h' : History) → acts_in h ≡ acts_in h' → sends_from 0 r h ≡ sends_from 0 r h'
same_sends r h h' e =
    sends_told 0 r h (λ s. []) ∙ ap (λ acts. sends_from 0 r (told (λ s. []) acts)) e ∙ sym (sends_told 0 r h' (λ s. []))

-- what doesn't grow
grows_not : (xs : List Message) → Grows xs xs
grows_not xs = ([], sym (append-nil xs))

-- where each rank makes the same acts in both runs, the histories are the same
same_histories : (start start' : ℕ → State) (n n' : ℕ) (C D : List Passed) → IsRun start n C → IsRun start' n' D
    → ((r : ℕ) → acts_in (history C r) ≡ acts_in (history D r)) → (r : ℕ) → history C r ≡ history D r
same_histories start start' n n' C D run run' same r =
    found start n C run r (λ s. sent D s r) grows ∙ ap (told (λ s. sent D s r)) (same r)
    ∙ sym (found start' n' D run' r (λ s. sent D s r) (λ s. grows_not (sent D s r)))
  where
    grows : (s : ℕ) → Grows (sent C s r) (sent D s r)
    grows s = ([], sym (same_sends r (history C s) (history D s) (same s)) ∙ sym (append-nil (sent C s r)))

-- a rank's own acts, after one more act
own-push : (r : ℕ) (ps : List Passed) (p : Passed) → own r (ps ++ p ∷ []) ≡ add_if (p.rank == r) (own r ps) p.act
own-push r [] p = by_test (p.rank == r)
  where
    by_test : (b : Bool) → cons_if b p.act [] ≡ add_if b [] p.act
    by_test true = refl
    by_test false = refl
own-push r (q ∷ ps) p = ap (cons_if (q.rank == r) q.act) (own-push r ps p) ∙ in_front (q.rank == r) (p.rank == r)
  where
    in_front : (b c : Bool) → cons_if b q.act (add_if c (own r ps) p.act) ≡ add_if c (cons_if b q.act (own r ps)) p.act
    in_front true true = refl
    in_front true false = refl
    in_front false true = refl
    in_front false false = refl

-- the acts of a list with one more, or without
acts_in-add : (b : Bool) (h : History) (x : Act × Option Message) → acts_in (add_if b h x) ≡ add_if b (acts_in h) x.0
acts_in-add true h x = acts_in-push h x
acts_in-add false h x = refl

-- the acts of a rank's history are its own among those of the run, the oldest first
own_acts : (r : ℕ) (C : List Passed) → acts_in (history C r) ≡ own r (reverse C)
own_acts r [] = refl
own_acts r (p ∷ C) =
    acts_in-add (p.rank == r) (history C r) (p.act, looked_up (λ s. sends_from 0 p.rank (history C s)) p.act)
    ∙ ap (λ acts. add_if (p.rank == r) acts p.act) (own_acts r C) ∙ sym (own-push r (reverse C) p)
    ∙ sym (ap (own r) (reverse-append (p ∷ []) C))

-- So where each of n ranks makes the same acts in both runs, in its own order, the histories of all are the same.
pub same_runs : (start start' : ℕ → State) (n : ℕ) (C D : List Passed) → IsRun start n C → IsRun start' n D
    → ((r : ℕ) → r < n → own r (reverse C) ≡ own r (reverse D)) → (r : ℕ) → history C r ≡ history D r
same_runs start start' n C D run run' same = same_histories start start' n n C D run run' each
  where
    by_rank : (r : ℕ) → (r < n) ⊎ (n ≤ r) → acts_in (history C r) ≡ acts_in (history D r)
    by_rank r (inl low) = own_acts r C ∙ same r low ∙ sym (own_acts r D)
    by_rank r (inr high) = ap acts_in (no_history start n C run r high ∙ sym (no_history start' n D run' r high))

    each : (r : ℕ) → acts_in (history C r) ≡ acts_in (history D r)
    each r = by_rank r (cases_lt r n)
