-- What is taken and what was sent after one more act of a run, and that a run names only ranks and messages that there are.
use Rattle.std.proofs.Common.{◌≡◌, ℕ, zero, suc, ◌+◌, ◌<◌, ◌≤◌, ◌==◌, ◌&&◌, ◌||◌, Bool, true, false, List, [], ◌∷◌, ◌++◌, Some, length, refl, sym, ap}
use Rattle.std.proofs.Common.{◌∙◌, subst, arith, ◌⊎◌, inl, inr}
use Rattle.std.proofs.lemmas.Bool.{eq-eqb, ne_eqb, cases_eq}
use Rattle.std.proofs.lemmas.List.{append-nil, length-append}
use Rattle.std.proofs.lemmas.Option.{slice_get_within}
use Rattle.rank_machine.specs.declared.want.Want.{Want}
use Rattle.rank_machine.specs.declared.want.Want.TheVariants as want
use Rattle.rank_machine.specs.States.{State}
use Rattle.rank_machine.specs.Wants.{wants}
use Rattle.rank_machine.specs.Acts.{Act, Message, sends, takes, hits, misses, prints}
use Rattle.crash_free.specs.Runs.{Passed, History, at_place, history, sent, send_at, taken, takes_it, IsFree, IsRun}
use Rattle.crash_free.proofs.Lists.{taken-push, history-own, history-other, sent-own, sent-other}

-- a test that fails adds nothing to another
or_false : (b : Bool) → b ≡ (b || false)
or_false true = refl
or_false false = refl

-- what is taken after one more act: what was, and what the act takes where it is of this rank
pub taken_after : (C : List Passed) (q : ℕ) (a : Act) (r s j : ℕ)
    → taken (history (record { rank = q; act = a } ∷ C) r) s j ≡ (taken (history C r) s j || (q == r && takes_it s j a))
taken_after C q a r s j = go (cases_eq q r)
  where
    go : (q ≡ r) ⊎ (q ≡ r → ⊥) → taken (history (record { rank = q; act = a } ∷ C) r) s j ≡ (taken (history C r) s j || (q == r && takes_it s j a))
    go (inl e) =
        subst (λ z. taken (history (record { rank = q; act = a } ∷ C) z) s j ≡ (taken (history C z) s j || (q == z && takes_it s j a))) e
        (ap (λ h. taken h s j) (history-own C q a) ∙ taken-push (history C q) _ s j
        ∙ ap (λ b. taken (history C q) s j || (b && takes_it s j a)) (sym (eq-eqb q q refl)))
    go (inr never) =
        ap (λ h. taken h s j) (history-other C (record { rank = q; act = a }) r never) ∙ or_false (taken (history C r) s j)
        ∙ ap (λ b. taken (history C r) s j || (b && takes_it s j a)) (sym (ne_eqb q r never))

-- an act that is no send to a rank leaves what was sent to it
pub sent_same : (C : List Passed) (q : ℕ) (a : Act) (s d : ℕ) → ((k : ℕ) → send_at k d a [] ≡ []) → sent (record { rank = q; act = a } ∷ C) s d ≡ sent C s d
sent_same C q a s d silent = go (cases_eq q s)
  where
    go : (q ≡ s) ⊎ (q ≡ s → ⊥) → sent (record { rank = q; act = a } ∷ C) s d ≡ sent C s d
    go (inl e) =
        subst (λ z. sent (record { rank = q; act = a } ∷ C) z d ≡ sent C z d) e
        (sent-own C q d a ∙ ap (λ xs. sent C q d ++ xs) (silent (length (history C q) + 1)) ∙ append-nil (sent C q d))
    go (inr never) = sent-other C (record { rank = q; act = a }) s d never

-- what was sent is still there after one more act
sent_longer : (C : List Passed) (p : Passed) (s d : ℕ) → length (sent C s d) ≤ length (sent (p ∷ C) s d)
sent_longer C p s d = go (cases_eq p.rank s)
  where
    go : (p.rank ≡ s) ⊎ (p.rank ≡ s → ⊥) → length (sent C s d) ≤ length (sent (p ∷ C) s d)
    go (inl e) =
        subst (λ z. length (sent C z d) ≤ length (sent (p ∷ C) z d)) e
        (let now = ap length (sent-own C p.rank d p.act) in
        let sum = length-append (sent C p.rank d) (send_at (length (history C p.rank) + 1) d p.act []) in
        omega (arith, now, sum))
    go (inr never) = let now = ap length (sent-other C p s d never) in omega (arith, now)

-- what may be taken is there
free_within : (w : Want) (s j : ℕ) (inbound : ℕ → List Message) (h : History) → IsFree w (takes s j) inbound h → j ≤ length (inbound s)
free_within (want.Receive x) s j inbound h f = place_within (inbound s) j f.message f.there
  where
    place_within : (xs : List Message) (j : ℕ) (m : Message) → at_place xs j ≡ Some m → j ≤ length xs
    place_within xs zero m e = omega arith
    place_within xs (suc j) m e = let low = slice_get_within xs j m e in omega (arith, low)
free_within want.Internal s j inbound h f = absurd f
free_within (want.Send d c t) s j inbound h f = absurd f
free_within (want.Probe x) s j inbound h f = absurd f
free_within (want.TryProbe x) s j inbound h f = absurd f
free_within (want.Print v) s j inbound h f = absurd f
free_within want.Halted s j inbound h f = absurd f
free_within (want.Faulted k) s j inbound h f = absurd f

-- what an act takes, if it is free, is no message beyond those that were sent
none_beyond : (w : Want) (a : Act) (inbound : ℕ → List Message) (h : History) (s j : ℕ) → IsFree w a inbound h → length (inbound s) < j → takes_it s j a ≡ false
none_beyond w (takes s' j') inbound h s j f low = go (cases_eq s' s) (cases_eq j' j)
  where
    go : (s' ≡ s) ⊎ (s' ≡ s → ⊥) → (j' ≡ j) ⊎ (j' ≡ j → ⊥) → (s' == s && j' == j) ≡ false
    go (inl e) (inl d) =
        let within = free_within w s' j' inbound h f in
        let same = ap (λ z. length (inbound z)) e in
        absurd (omega (arith, within, same))
    go (inl e) (inr never) = rw (ne_eqb j' j never) (and_false (s' == s))
      where
        and_false : (b : Bool) → (b && false) ≡ false
        and_false true = refl
        and_false false = refl
    go (inr never) _ = rw (ne_eqb s' s never) refl
none_beyond w (hits s' j') inbound h s j f low = refl
none_beyond w (sends d c t items) inbound h s j f low = refl
none_beyond w misses inbound h s j f low = refl
none_beyond w (prints v) inbound h s j f low = refl

-- in a run no message is taken that wasn't sent
pub untaken_beyond : (start : ℕ → State) (n : ℕ) (C : List Passed) → IsRun start n C → (r s j : ℕ) → length (sent C s r) < j → taken (history C r) s j ≡ false
untaken_beyond start n [] run r s j low = refl
untaken_beyond start n (p ∷ C) run r s j low = taken_after C p.rank p.act r s j ∙ both (untaken_beyond start n C run.0 r s j shorter) (go (cases_eq p.rank r))
  where
    shorter : length (sent C s r) < j
    shorter = let longer = sent_longer C p s r in omega (arith, longer)

    both : taken (history C r) s j ≡ false → (p.rank == r && takes_it s j p.act) ≡ false
        → (taken (history C r) s j || (p.rank == r && takes_it s j p.act)) ≡ false
    both e f = rw (e, f) refl

    go : (p.rank ≡ r) ⊎ (p.rank ≡ r → ⊥) → (p.rank == r && takes_it s j p.act) ≡ false
    go (inl e) =
        let own : length (sent C s p.rank) < j = subst (λ z. length (sent C s z) < j) (sym e) shorter in
        rw (eq-eqb p.rank r e) (none_beyond (wants run.2.stands) p.act (λ z. sent C z p.rank) (history C p.rank) s j run.2.free own)
    go (inr never) = rw (ne_eqb p.rank r never) refl

-- who is no rank has made no act
pub no_history : (start : ℕ → State) (n : ℕ) (C : List Passed) → IsRun start n C → (s : ℕ) → n ≤ s → history C s ≡ []
no_history start n [] run s high = refl
no_history start n (p ∷ C) run s high =
    let rank : p.rank < n = run.1 in
    history-other C p s (λ e. omega (arith, e)) ∙ no_history start n C run.0 s high
