-- Clocks of ranks, counted act by act.
use Rattle.std.proofs.Common.{◌≡◌, ℕ, ◌+◌, ◌<◌, List, [], ◌∷◌, ◌++◌, ◌⊎◌, inl, inr, refl, sym, ap, ◌∙◌, arith, length, min}
use Rattle.std.proofs.lemmas.Bool.{cases_eq}
use Rattle.std.specs.Prelude.{slice_index_or, slice_set}
use Rattle.std.proofs.lemmas.Bool.{eq-eqb, ne_eqb}
use Rattle.std.proofs.lemmas.List.{length_push, get_or-set_same, get_or-set_other}
use Rattle.limits.specs.Limits.{most_ranks}
use Rattle.crash_free.specs.Runs.{Passed, history, looked_up, sends_from}
use Rattle.run_shown.specs.Trace.Places.{clock_of, greatest_told}
use Rattle.run_shown.specs.Trace.Clocks.{AreCounted}

-- one more, but no more than the greatest
one_more : (count : ℕ) → min (min count greatest_told + 1) greatest_told ≡ min (count + 1) greatest_told
one_more count = omega arith

-- an act counts for its rank
clock_own : (p : Passed) (C : List Passed) → clock_of (p ∷ C) p.rank ≡ min (clock_of C p.rank + 1) greatest_told
clock_own p C =
    let own : history (p ∷ C) p.rank ≡ history C p.rank ++ (p.act, looked_up (λ s. sends_from 0 p.rank (history C s)) p.act) ∷ [] =
    rw (eq-eqb p.rank p.rank refl) refl in
    ap (λ h. min (length h) greatest_told) own
    ∙ ap (λ n. min n greatest_told) (length_push (history C p.rank) (p.act, looked_up (λ s. sends_from 0 p.rank (history C s)) p.act))
    ∙ sym (one_more (length (history C p.rank)))

-- and for no other
clock_other : (p : Passed) (C : List Passed) (r : ℕ) → (p.rank ≡ r → ⊥) → clock_of (p ∷ C) r ≡ clock_of C r
clock_other p C r ne = rw (ne_eqb p.rank r ne) refl

-- the clock that a count gives is that of the act
pub next_is : (C run : List Passed) (clocks : List ℕ) (p : Passed) (clock : ℕ) → AreCounted C clocks → p.rank < most_ranks → run ≡ p ∷ C
    → clock ≡ min (slice_index_or clocks p.rank 0 + 1) greatest_told → clock ≡ clock_of run p.rank
next_is C run clocks p clock counted few more is =
    is ∙ ap (λ n. min (n + 1) greatest_told) (counted p.rank few) ∙ sym (clock_own p C) ∙ ap (λ z. clock_of z p.rank) (sym more)

-- the clocks after it are counted
pub counts_on : (C run : List Passed) (clocks now : List ℕ) (p : Passed) (clock : ℕ) → AreCounted C clocks → p.rank < most_ranks
    → length clocks ≡ most_ranks → run ≡ p ∷ C → clock ≡ clock_of run p.rank → now ≡ slice_set clocks p.rank clock → AreCounted run now
counts_on C run clocks now p clock counted few long more is set r lt =
    ap (λ z. slice_index_or z r 0) set ∙ go (cases_eq r p.rank) ∙ ap (λ z. clock_of z r) (sym more)
  where
    go : (r ≡ p.rank) ⊎ (r ≡ p.rank → ⊥) → slice_index_or (slice_set clocks p.rank clock) r 0 ≡ clock_of (p ∷ C) r
    go (inl same) = rw (same) (get_or-set_same clocks p.rank clock 0 (omega (arith, long)) ∙ is ∙ ap (λ z. clock_of z p.rank) more)
    go (inr ne) = get_or-set_other clocks p.rank r clock 0 ne ∙ counted r lt ∙ sym (clock_other p C r (λ e. ne (sym e)))
