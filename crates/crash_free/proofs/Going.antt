-- What a rank may do it may do still after acts of other ranks: they change nothing of its history, and what was sent to
-- it only grows, while eligibility looks only at places up to the message itself.
use Rattle.std.proofs.Common.{◌≡◌, ℕ, ℤ, ◌+◌, ◌⊎◌, inl, inr, List, [], ◌∷◌, ◌++◌, Option, Some, None, length, refl, sym, ap, subst, ◌∙◌, arith}
use Rattle.std.proofs.lemmas.Bool.{cases_eq}
use Rattle.std.proofs.lemmas.List.{append-nil, length_push}
use Rattle.matching.specs.declared.selector.Selector.{Selector}
use Rattle.rank_machine.specs.declared.want.Want.{Want}
use Rattle.rank_machine.specs.declared.want.Want.TheVariants as want
use Rattle.rank_machine.specs.States.{State}
use Rattle.rank_machine.specs.Wants.{wants, payload}
use Rattle.rank_machine.specs.Acts.{Act, Message, sends, takes, hits, misses, prints, Fits}
use Rattle.crash_free.specs.Runs.{Passed, History, at_place, history, sent, sends_from, send_at, looked_up, IsEligible, IsFree}
use Rattle.crash_free.specs.Runs.{MayMake, continue}
use Rattle.crash_free.specs.Grows.{Grows, Extends}
use Rattle.crash_free.proofs.Lists.{at_place-append, at_place-append_before, history-own, history-other, sent-own}

-- a reception takes a message
takes_some : (w : Want) (items : List ℤ) (s j : ℕ) → Fits w items (takes s j) None → ⊥
takes_some want.Internal items s j f = f
takes_some (want.Send d c t) items s j f = f
takes_some (want.Receive x) items s j f = f
takes_some (want.Probe x) items s j f = f
takes_some (want.TryProbe x) items s j f = f
takes_some (want.Print v) items s j f = f
takes_some want.Halted items s j f = f
takes_some (want.Faulted k) items s j f = f

-- a hit hits one
hits_some : (w : Want) (items : List ℤ) (s j : ℕ) → Fits w items (hits s j) None → ⊥
hits_some want.Internal items s j f = f
hits_some (want.Send d c t) items s j f = f
hits_some (want.Receive x) items s j f = f
hits_some (want.Probe x) items s j f = f
hits_some (want.TryProbe x) items s j f = f
hits_some (want.Print v) items s j f = f
hits_some want.Halted items s j f = f
hits_some (want.Faulted k) items s j f = f

-- a message that was found is found in a longer list too
found_longer : (xs ys : List Message) (j : ℕ) (P : Option Message → Type 0) → (P None → ⊥) → P (at_place xs j) → Grows xs ys → at_place ys j ≡ at_place xs j
found_longer xs ys j P never f g = go (at_place xs j) refl
  where
    go : (o : Option Message) → at_place xs j ≡ o → at_place ys j ≡ at_place xs j
    go None e = absurd (never (rw e at f))
    go (Some m) e = rw (g.1, e) (at_place-append xs g.0 j m e)

-- the act finds the same message where other ranks sent more
pub looked_up_longer : (w : Want) (items : List ℤ) (inbound inbound' : ℕ → List Message) (a : Act)
    → Fits w items a (looked_up inbound a) → ((s : ℕ) → Grows (inbound s) (inbound' s)) → looked_up inbound' a ≡ looked_up inbound a
looked_up_longer w items inbound inbound' (sends d c t is) f g = refl
looked_up_longer w items inbound inbound' (takes s j) f g =
    found_longer (inbound s) (inbound' s) j (λ o. Fits w items (takes s j) o) (takes_some w items s j) f (g s)
looked_up_longer w items inbound inbound' (hits s j) f g =
    found_longer (inbound s) (inbound' s) j (λ o. Fits w items (hits s j) o) (hits_some w items s j) f (g s)
looked_up_longer w items inbound inbound' misses f g = refl
looked_up_longer w items inbound inbound' (prints v) f g = refl

-- an eligible message stays eligible
pub IsEligible-longer : (inbound inbound' : ℕ → List Message) (h : History) (s j : ℕ) (w : Selector) → Grows (inbound s) (inbound' s)
    → IsEligible inbound h s j w → IsEligible inbound' h s j w
IsEligible-longer inbound inbound' h s j w g e =
    record {
      message = e.message;
      there = rw g.1 (at_place-append (inbound s) g.0 j e.message e.there);
      untaken = e.untaken;
      matching = e.matching;
      not_overtaking = λ i m l f k. e.not_overtaking i m l (at_place-append_before (inbound s) g.0 i j m e.message l e.there (rw g.1 at f)) k;
    }

-- an act that takes and hits nothing is free
abbrev pub IsSilent : Act → Type 0
IsSilent (takes s j) = ⊥
IsSilent (hits s j) = ⊥
IsSilent (sends d c t items) = Unit {0}
IsSilent misses = Unit {0}
IsSilent (prints v) = Unit {0}

-- so it is free whatever was sent and taken before
pub free_silent : (w : Want) (a : Act) (inbound : ℕ → List Message) (h : History) → IsSilent a → IsFree w a inbound h
free_silent w (takes s j) inbound h i = absurd i
free_silent w (hits s j) inbound h i = absurd i
free_silent want.Internal (sends dest context tag items) inbound h i = tt
free_silent (want.Send d c t) (sends dest context tag items) inbound h i = tt
free_silent (want.Receive x) (sends dest context tag items) inbound h i = tt
free_silent (want.Probe x) (sends dest context tag items) inbound h i = tt
free_silent (want.TryProbe x) (sends dest context tag items) inbound h i = tt
free_silent (want.Print v) (sends dest context tag items) inbound h i = tt
free_silent want.Halted (sends dest context tag items) inbound h i = tt
free_silent (want.Faulted k) (sends dest context tag items) inbound h i = tt
free_silent want.Internal misses inbound h i = tt
free_silent (want.Send d c t) misses inbound h i = tt
free_silent (want.Receive x) misses inbound h i = tt
free_silent (want.Probe x) misses inbound h i = tt
free_silent (want.TryProbe x) misses inbound h i = tt
free_silent (want.Print v) misses inbound h i = tt
free_silent want.Halted misses inbound h i = tt
free_silent (want.Faulted k) misses inbound h i = tt
free_silent want.Internal (prints value) inbound h i = tt
free_silent (want.Send d c t) (prints value) inbound h i = tt
free_silent (want.Receive x) (prints value) inbound h i = tt
free_silent (want.Probe x) (prints value) inbound h i = tt
free_silent (want.TryProbe x) (prints value) inbound h i = tt
free_silent (want.Print v) (prints value) inbound h i = tt
free_silent want.Halted (prints value) inbound h i = tt
free_silent (want.Faulted k) (prints value) inbound h i = tt

-- an act that is free stays free where others have sent more
IsFree-longer : (w : Want) (a : Act) (inbound inbound' : ℕ → List Message) (h : History) → ((s : ℕ) → Grows (inbound s) (inbound' s))
    → IsFree w a inbound h → IsFree w a inbound' h
IsFree-longer (want.Receive x) (takes s j) inbound inbound' h g e = IsEligible-longer inbound inbound' h s j x (g s) e
IsFree-longer (want.Probe x) (hits s j) inbound inbound' h g e = IsEligible-longer inbound inbound' h s j x (g s) e
IsFree-longer (want.TryProbe x) (hits s j) inbound inbound' h g e = IsEligible-longer inbound inbound' h s j x (g s) e
IsFree-longer want.Internal (takes s j) inbound inbound' h g e = absurd e
IsFree-longer (want.Send d c t) (takes s j) inbound inbound' h g e = absurd e
IsFree-longer (want.Probe x) (takes s j) inbound inbound' h g e = absurd e
IsFree-longer (want.TryProbe x) (takes s j) inbound inbound' h g e = absurd e
IsFree-longer (want.Print v) (takes s j) inbound inbound' h g e = absurd e
IsFree-longer want.Halted (takes s j) inbound inbound' h g e = absurd e
IsFree-longer (want.Faulted k) (takes s j) inbound inbound' h g e = absurd e
IsFree-longer want.Internal (hits s j) inbound inbound' h g e = absurd e
IsFree-longer (want.Send d c t) (hits s j) inbound inbound' h g e = absurd e
IsFree-longer (want.Receive x) (hits s j) inbound inbound' h g e = absurd e
IsFree-longer (want.Print v) (hits s j) inbound inbound' h g e = absurd e
IsFree-longer want.Halted (hits s j) inbound inbound' h g e = absurd e
IsFree-longer (want.Faulted k) (hits s j) inbound inbound' h g e = absurd e
IsFree-longer w (sends d c t items) inbound inbound' h g e = free_silent w (sends d c t items) inbound' h tt
IsFree-longer w misses inbound inbound' h g e = free_silent w misses inbound' h tt
IsFree-longer w (prints v) inbound inbound' h g e = free_silent w (prints v) inbound' h tt

-- what a rank may do it may do still where others sent it more
pub MayMake-longer : (start : State) (inbound inbound' : ℕ → List Message) (h : History) (a : Act) → ((s : ℕ) → Grows (inbound s) (inbound' s))
    → MayMake start inbound h a → MayMake start inbound' h a
MayMake-longer start inbound inbound' h a g c =
    record {
      after = c.after;
      stands = c.stands;
      reached = c.reached;
      inner = c.inner;
      makes = rw (looked_up_longer (wants c.stands) (payload c.stands) inbound inbound' a c.makes g) c.makes;
      free = IsFree-longer (wants c.stands) a inbound inbound' h g c.free;
    }

-- what one rank sent another only grows
pub sent_grows : (C : List Passed) (p : Passed) (s r : ℕ) → Grows (sent C s r) (sent (p ∷ C) s r)
sent_grows C p s r = more (cases_eq p.rank s)
  where
    more : (p.rank ≡ s) ⊎ (p.rank ≡ s → ⊥) → Grows (sent C s r) (sent (p ∷ C) s r)
    more (inl e) = (
      send_at (length (history C s) + 1) r p.act [],
      subst (λ z. sent (p ∷ C) z r ≡ sent C z r ++ send_at (length (history C z) + 1) r p.act []) e (sent-own C p.rank r p.act),
    )
    more (inr never) = ([], rw (history-other C p s never) (sym (append-nil _)))

-- an act of another rank
pub Extends-by_other : (r : ℕ) (C : List Passed) (p : Passed) → (p.rank ≡ r → ⊥) → Extends r C (p ∷ C)
Extends-by_other r C p ne = record { same = history-other C p r ne; grows = λ s. sent_grows C p s r }

-- the same act of r after both
pub Extends-both : (r : ℕ) (C C' : List Passed) (a : Act) (w : Want) (items : List ℤ) → Fits w items a (looked_up (λ s. sent C s r) a)
    → Extends r C C' → Extends r (record { rank = r; act = a } ∷ C) (record { rank = r; act = a } ∷ C')
Extends-both r C C' a w items f e = record { same = now; grows = λ s. more s (cases_eq r s) }
  where
    now : history (record { rank = r; act = a } ∷ C') r ≡ history (record { rank = r; act = a } ∷ C) r
    now =
        let l : looked_up (λ s. sent C' s r) a ≡ looked_up (λ s. sent C s r) a = looked_up_longer w items (λ s. sent C s r) (λ s. sent C' s r) a f e.grows in
        rw (history-own C' r a, history-own C r a, e.same, l) refl

    more : (s : ℕ) → (r ≡ s) ⊎ (r ≡ s → ⊥) → Grows (sent (record { rank = r; act = a } ∷ C) s r) (sent (record { rank = r; act = a } ∷ C') s r)
    more s (inl q) =
        let same : history (record { rank = r; act = a } ∷ C') s ≡ history (record { rank = r; act = a } ∷ C) s =
        subst (λ x. history (record { rank = r; act = a } ∷ C') x ≡ history (record { rank = r; act = a } ∷ C) x) q now in
        ([], ap (λ x. sends_from 0 r x) same ∙ sym (append-nil _))
    more s (inr never) = rw (history-other C (record { rank = r; act = a }) s never, history-other C' (record { rank = r; act = a }) s never) (e.grows s)

-- one more act after others of the same rank
pub continue-push : (C : List Passed) (r : ℕ) (acts : List Act) (a : Act) → continue C r (acts ++ a ∷ []) ≡ record { rank = r; act = a } ∷ continue C r acts
continue-push C r [] a = refl
continue-push C r (b ∷ acts) a = continue-push (record { rank = r; act = b } ∷ C) r acts a

-- how many acts a rank has made after these
pub count_continued : (C : List Passed) (r : ℕ) (acts : List Act) → length (history (continue C r acts) r) ≡ length (history C r) + length acts
count_continued C r [] = omega arith
count_continued C r (a ∷ acts) =
    count_continued (record { rank = r; act = a } ∷ C) r acts
    ∙ rw (history-own C r a, length_push (history C r) (a, looked_up (λ s. sent C s r) a)) (omega arith)
