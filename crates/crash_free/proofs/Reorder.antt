-- The acts of a run may be made in another order. A run that has of each rank a beginning of its history in another run, but not
-- all of it, can go on: the oldest act of the other run that isn't made yet is one that its rank may make. For all that was done
-- before it in the other run is done, so what it takes or hits is there, at the same place, as places are counted by the
-- source's sends; and its rank's history is the same, so what is taken of it is the same.
use Rattle.std.proofs.Common.{◌≡◌, ℕ, ◌+◌, List, [], ◌∷◌, ◌++◌, Option, Some, length, slice_get, ◌⊎◌, inl, inr, refl, sym, ap, subst, ◌∙◌}
use Rattle.std.proofs.lemmas.Bool.{cases_eq}
use Rattle.std.proofs.lemmas.List.{append-nil, append_assoc, append_cancel_left}
use Rattle.rank_machine.specs.States.{State}
use Rattle.rank_machine.specs.Wants.{wants, payload}
use Rattle.rank_machine.specs.Acts.{Act, Message, sends, takes, hits, misses, prints}
use Rattle.crash_free.specs.Runs.{Passed, History, at_place, history, sent, sends_from, send_at, looked_up, MayMake, IsRun}
use Rattle.crash_free.specs.Grows.{Grows}
use Rattle.crash_free.specs.Parts.{IsBeginning, IsPartOf, IsAlong, IsNext}
use Rattle.crash_free.proofs.Lists.{at_place-append, push_cases, history-own, history-other, sends_from-push}
use Rattle.crash_free.proofs.Clocks.{one_clock}
use Rattle.crash_free.proofs.Going.{looked_up_longer, MayMake-longer, sent_grows}
use Rattle.crash_free.proofs.Sound.{Has}

-- a beginning of a beginning
pub IsBeginning-trans : {A : Type 0} (h k l : List A) → IsBeginning h k → IsBeginning k l → IsBeginning h l
IsBeginning-trans h k l a b = (a.0 ++ b.0, b.1 ∙ ap (λ z. z ++ b.0) a.1 ∙ append_assoc h a.0 b.0)

-- what a longer history sends begins with what the shorter one does
pub sends_grow : (r : ℕ) (h later : History) → Grows (sends_from 0 r h) (sends_from 0 r (h ++ later))
sends_grow r h [] = ([], ap (λ z. sends_from 0 r z) (append-nil h) ∙ sym (append-nil (sends_from 0 r h)))
sends_grow r h (x ∷ later) =
    let more = sends_grow r (h ++ x ∷ []) later in
    let one : List Message = send_at (0 + length h + 1) r x.0 [] in (
      one ++ more.0,
      ap (λ z. sends_from 0 r z) (sym (append_assoc h (x ∷ []) later)) ∙ more.1 ∙ ap (λ z. z ++ more.0) (sends_from-push 0 r h x)
          ∙ append_assoc (sends_from 0 r h) one more.0,
    )

-- so does what was sent in a longer history of the sender
pub sent_of_beginning : (P D : List Passed) (s r : ℕ) → IsBeginning (history D s) (history P s) → Grows (sent D s r) (sent P s r)
sent_of_beginning P D s r b = subst (λ h. Grows (sent D s r) (sends_from 0 r h)) (sym b.1) (sends_grow r (history D s) b.0)

-- a run with one more act has of each rank what it had
pub history_grows : (D : List Passed) (p : Passed) (r : ℕ) → IsBeginning (history D r) (history (p ∷ D) r)
history_grows D p r = go (cases_eq p.rank r)
  where
    go : (p.rank ≡ r) ⊎ (p.rank ≡ r → ⊥) → IsBeginning (history D r) (history (p ∷ D) r)
    go (inl own) =
        subst (λ z. IsBeginning (history D z) (history (p ∷ D) z)) own
        ((p.act, looked_up (λ s. sent D s p.rank) p.act) ∷ [], history-own D p.rank p.act)
    go (inr other) = ([], history-other D p r other ∙ sym (append-nil (history D r)))

-- what is found is found among more messages too
found_longer : (inbound inbound' : ℕ → List Message) (a : Act) (m : Message) → ((s : ℕ) → Grows (inbound s) (inbound' s))
    → looked_up inbound a ≡ Some m → looked_up inbound' a ≡ Some m
found_longer inbound inbound' (takes s j) m g e = rw (g s).1 (at_place-append (inbound s) (g s).0 j m e)
found_longer inbound inbound' (hits s j) m g e = rw (g s).1 (at_place-append (inbound s) (g s).0 j m e)
found_longer inbound inbound' (sends d c t items) m g e = absurd cc
found_longer inbound inbound' misses m g e = absurd cc
found_longer inbound inbound' (prints v) m g e = absurd cc

-- what an act of a history takes or hits is among what was sent to its rank
pub found_there : (C : List Passed) (r : ℕ) (a : Act) (m : Message) → Has (history C r) (a, Some m) → looked_up (λ s. sent C s r) a ≡ Some m
found_there [] r a m h = absurd (let e = h.1 in cc)
found_there (p ∷ C) r a m h =
    found_longer (λ s. sent C s r) (λ s. sent (p ∷ C) s r) a m (λ s. sent_grows C p s r) (by_rank (λ b. found_there C r a m b) (cases_eq p.rank r))
  where
    own : Act × Option Message
    own = (a, Some m)

    made : Act → Act × Option Message
    made act = (act, looked_up (λ s. sent C s r) act)

    new : (act : Act) → own ≡ made act → looked_up (λ s. sent C s r) a ≡ Some m
    new act e =
        let same : a ≡ act = ap (λ x. x.0) e in
        let found : Some m ≡ looked_up (λ s. sent C s r) act = ap (λ x. x.1) e in
        ap (looked_up (λ s. sent C s r)) same ∙ sym found

    old_or_new : (Has (history C r) own → looked_up (λ s. sent C s r) a ≡ Some m)
        → (slice_get (history C r) h.0 ≡ Some own) ⊎ ((h.0 ≡ length (history C r)) × (own ≡ made p.act)) → looked_up (λ s. sent C s r) a ≡ Some m
    old_or_new before (inl e) = before (h.0, e)
    old_or_new before (inr e) = new p.act e.1

    by_rank : (Has (history C r) own → looked_up (λ s. sent C s r) a ≡ Some m) → (p.rank ≡ r) ⊎ (p.rank ≡ r → ⊥) → looked_up (λ s. sent C s r) a ≡ Some m
    by_rank before (inl e) =
        let all : history (p ∷ C) r ≡ history C r ++ made p.act ∷ [] =
        subst (λ z. history (p ∷ C) z ≡ history C z ++ (p.act, looked_up (λ s. sent C s z) p.act) ∷ []) e (history-own C p.rank p.act) in
        old_or_new before (push_cases (history C r) (made p.act) h.0 own (rw all at h.1))
    by_rank before (inr ne) = before (h.0, rw (history-other C p r ne) at h.1)

-- where of two runs one has of the sender a beginning of what the other has, a message's clock names its place in both
pub same_place : (P C : List Passed) (s r j j' : ℕ) (m m' : Message)
    → IsBeginning (history P s) (history C s) ⊎ IsBeginning (history C s) (history P s)
    → at_place (sent P s r) j ≡ Some m → at_place (sent C s r) j' ≡ Some m' → m.clock ≡ m'.clock → (j ≡ j') × (m ≡ m')
same_place P C s r j j' m m' (inl b) e e' clock =
    let g : Grows (sent P s r) (sent C s r) = sent_of_beginning C P s r b in
    let there : at_place (sent C s r) j ≡ Some m = rw g.1 (at_place-append (sent P s r) g.0 j m e) in
    let place : j ≡ j' = one_clock 0 r (history C s) j j' m m' there e' clock in
    (place, (let again : at_place (sent C s r) j' ≡ Some m = subst (λ i. at_place (sent C s r) i ≡ Some m) place there in cc))
same_place P C s r j j' m m' (inr b) e e' clock =
    let g : Grows (sent C s r) (sent P s r) = sent_of_beginning P C s r b in
    let there : at_place (sent P s r) j' ≡ Some m' = rw g.1 (at_place-append (sent C s r) g.0 j' m' e') in
    let place : j ≡ j' = one_clock 0 r (history P s) j j' m m' e there clock in
    (place, (let again : at_place (sent P s r) j' ≡ Some m = subst (λ i. at_place (sent P s r) i ≡ Some m) place e in cc))

-- where a list goes on with x, and another that begins with it stands along with it, that is no longer, or goes on with x too
one_further : (h p whole : History) (x : Act × Option Message) → IsBeginning h p → IsBeginning (h ++ x ∷ []) whole
    → IsBeginning p whole ⊎ IsBeginning whole p → (p ≡ h) ⊎ IsBeginning (h ++ x ∷ []) p
one_further h p whole x begun further (inr over) = inr (IsBeginning-trans (h ++ x ∷ []) whole p further over)
one_further h p whole x begun further (inl under) = by_rest begun.0 begun.1
  where
    by_rest : (rest : History) → p ≡ h ++ rest → (p ≡ h) ⊎ IsBeginning (h ++ x ∷ []) p
    by_rest [] e = inl (e ∙ append-nil h)
    by_rest (y ∷ rest) e =
        let same : x ∷ further.0 ≡ y ∷ (rest ++ under.0) =
        append_cancel_left h (x ∷ further.0) (y ∷ (rest ++ under.0))
        (sym (append_assoc h (x ∷ []) further.0) ∙ sym further.1 ∙ under.1 ∙ ap (λ z. z ++ under.0) e ∙ append_assoc h (y ∷ rest) under.0) in
        let first : y ≡ x = cc in
        inr (rest, e ∙ ap (λ z. h ++ z ∷ rest) first ∙ sym (append_assoc h (x ∷ []) rest))

-- Of a run that has of each rank no more than this history, each act is made in P, or there is one that P may go on with: the
-- oldest that isn't.
pub next_act : (start : ℕ → State) (n : ℕ) (P : List Passed) (H : ℕ → History) (D : List Passed) → IsRun start n D
    → ((r : ℕ) → IsBeginning (history D r) (H r)) → IsAlong P H
    → ((r : ℕ) → IsBeginning (history D r) (history P r)) ⊎ ((r : ℕ) × (act : Act) × IsNext start n P H r act)
next_act start n P H [] run parts along = inl (λ r. (history P r, refl))
next_act start n P H (p ∷ D) run parts along =
    by_older (next_act start n P H D run.0 (λ r. IsBeginning-trans (history D r) (history (p ∷ D) r) (H r) (history_grows D p r) (parts r)) along)
  where
    found : Act × Option Message
    found = (p.act, looked_up (λ s. sent D s p.rank) p.act)

    further : IsBeginning (history D p.rank ++ found ∷ []) (H p.rank)
    further = subst (λ h. IsBeginning h (H p.rank)) (history-own D p.rank p.act) (parts p.rank)

    next : ((r : ℕ) → IsBeginning (history D r) (history P r)) → history P p.rank ≡ history D p.rank → IsNext start n P H p.rank p.act
    next all same =
        let may : MayMake (start p.rank) (λ s. sent D s p.rank) (history D p.rank) p.act = run.2 in
        let grows : (s : ℕ) → Grows (sent D s p.rank) (sent P s p.rank) = λ s. sent_of_beginning P D s p.rank (all s) in
        let found_too : looked_up (λ s. sent P s p.rank) p.act ≡ looked_up (λ s. sent D s p.rank) p.act =
        looked_up_longer (wants may.stands) (payload may.stands) (λ s. sent D s p.rank) (λ s. sent P s p.rank) p.act may.makes grows in
        record {
          low = run.1;
          may = subst (λ h. MayMake (start p.rank) (λ s. sent P s p.rank) h p.act) (sym same)
              (MayMake-longer (start p.rank) (λ s. sent D s p.rank) (λ s. sent P s p.rank) (history D p.rank) p.act grows may);
          later = further.0;
          whole = further.1 ∙ append_assoc (history D p.rank) (found ∷ []) further.0
              ∙ ap (λ z. z ++ found ∷ further.0) (sym same) ∙ ap (λ z. history P p.rank ++ (p.act, z) ∷ further.0) (sym found_too);
        }

    made : ((r : ℕ) → IsBeginning (history D r) (history P r)) → IsBeginning (history D p.rank ++ found ∷ []) (history P p.rank)
        → (r : ℕ) → (p.rank ≡ r) ⊎ (p.rank ≡ r → ⊥) → IsBeginning (history (p ∷ D) r) (history P r)
    made all more r (inl own) =
        subst (λ z. IsBeginning (history (p ∷ D) z) (history P z)) own
        (subst (λ h. IsBeginning h (history P p.rank)) (sym (history-own D p.rank p.act)) more)
    made all more r (inr other) = subst (λ h. IsBeginning h (history P r)) (sym (history-other D p r other)) (all r)

    by_older : ((r : ℕ) → IsBeginning (history D r) (history P r)) ⊎ ((r : ℕ) × (act : Act) × IsNext start n P H r act)
        → ((r : ℕ) → IsBeginning (history (p ∷ D) r) (history P r)) ⊎ ((r : ℕ) × (act : Act) × IsNext start n P H r act)
    by_older (inr older) = inr older
    by_older (inl all) = by_rest (one_further (history D p.rank) (history P p.rank) (H p.rank) found (all p.rank) further (along p.rank))
      where
        by_rest : (history P p.rank ≡ history D p.rank) ⊎ IsBeginning (history D p.rank ++ found ∷ []) (history P p.rank)
            → ((r : ℕ) → IsBeginning (history (p ∷ D) r) (history P r)) ⊎ ((r : ℕ) × (act : Act) × IsNext start n P H r act)
        by_rest (inl same) = inr (p.rank, p.act, next all same)
        by_rest (inr more) = inl (λ r. made all more r (cases_eq p.rank r))

-- the act that goes on makes a run, of which each rank has a beginning of its history still
pub further_along : (start : ℕ → State) (n : ℕ) (P C : List Passed) (r : ℕ) (act : Act) → IsRun start n P → IsPartOf P C
    → IsNext start n P (λ q. history C q) r act → IsRun start n (record { rank = r; act = act } ∷ P) × IsPartOf (record { rank = r; act = act } ∷ P) C
further_along start n P C r act run part next = ((run, next.low, next.may), λ q. go q (cases_eq r q))
  where
    go : (q : ℕ) → (r ≡ q) ⊎ (r ≡ q → ⊥) → IsBeginning (history (record { rank = r; act = act } ∷ P) q) (history C q)
    go q (inl own) =
        subst (λ z. IsBeginning (history (record { rank = r; act = act } ∷ P) z) (history C z)) own
        (subst (λ h. IsBeginning h (history C r)) (sym (history-own P r act))
        (next.later, next.whole ∙ sym (append_assoc (history P r) ((act, looked_up (λ s. sent P s r) act) ∷ []) next.later)))
    go q (inr other) =
        subst (λ h. IsBeginning h (history C q)) (sym (history-other P (record { rank = r; act = act }) q other)) (part q)
