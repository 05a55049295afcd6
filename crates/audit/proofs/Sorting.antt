-- Lines sorted by rank, after one more line.
use Rattle.std.proofs.Common.{◌≡◌, ℕ, ℤ, zero, suc, ◌+◌, ◌<◌, ◌==◌, Bool, true, false, List, [], ◌∷◌, ◌++◌, length, take}
use Rattle.std.proofs.Common.{slice_get, slice_set, get_or, Some, ◌⊎◌, inl, inr, refl, sym, ap, ◌∙◌, arith, length-set, eq-eqb, ne_eqb}
use Rattle.std.proofs.lemmas.List.{append-nil, take_more}
use Rattle.std.proofs.lemmas.Option.{slice_get-get_or, get_or_from_slice_get, slice_get_read}
use Rattle.matching.specs.declared.line.Line.{Line}
use Rattle.crash_free.specs.Runs.{cons_if}
use Rattle.crash_free.proofs.Keeping.{set_cases}
use Rattle.audit.specs.Outcome.{lines_of}
use Rattle.audit.specs.Lines.{IsSorted}

-- the lines of a rank, after one more line
pub lines_of-push : (q : ℕ) (lines : List Line) (x : Line) → lines_of q (lines ++ x ∷ []) ≡ lines_of q lines ++ cons_if (x.rank == q) (x.clock, x.value) []
lines_of-push q [] x = refl
lines_of-push q (y ∷ lines) x = rw (lines_of-push q lines x) (go (y.rank == q))
  where
    go : (b : Bool) → cons_if b (y.clock, y.value) (lines_of q lines ++ cons_if (x.rank == q) (x.clock, x.value) [])
        ≡ cons_if b (y.clock, y.value) (lines_of q lines) ++ cons_if (x.rank == q) (x.clock, x.value) []
    go true = refl
    go false = refl

-- a line of the rank comes last
lines_of-own : (q : ℕ) (lines : List Line) (x : Line) → x.rank ≡ q → lines_of q (lines ++ x ∷ []) ≡ lines_of q lines ++ (x.clock, x.value) ∷ []
lines_of-own q lines x own = lines_of-push q lines x ∙ ap (λ b. lines_of q lines ++ cons_if b (x.clock, x.value) []) (eq-eqb x.rank q own)

-- a line of another rank adds nothing
lines_of-other : (q : ℕ) (lines : List Line) (x : Line) → (x.rank ≡ q → ⊥) → lines_of q (lines ++ x ∷ []) ≡ lines_of q lines
lines_of-other q lines x other =
    lines_of-push q lines x ∙ ap (λ b. lines_of q lines ++ cons_if b (x.clock, x.value) []) (ne_eqb x.rank q other) ∙ append-nil (lines_of q lines)

-- one more line
IsSorted-push : (n : ℕ) (lines : List Line) (x : Line) (sorted : List (List (ℕ × ℤ))) → IsSorted n lines sorted → x.rank < n
    → IsSorted n (lines ++ x ∷ []) (slice_set sorted x.rank (get_or sorted x.rank [] ++ (x.clock, x.value) ∷ []))
IsSorted-push n lines x sorted kept low = record {
  width = length-set sorted x.rank _ ∙ kept.width;
  each = λ r xs there. each r xs (set_cases sorted x.rank (get_or sorted x.rank [] ++ (x.clock, x.value) ∷ []) r xs there);
  no_more = λ r beyond. lines_of-other r lines x (λ own. omega (arith, own, low, beyond)) ∙ kept.no_more r beyond;
}
  where
    each : (r : ℕ) (xs : List (ℕ × ℤ))
        → ((x.rank ≡ r) × (xs ≡ get_or sorted x.rank [] ++ (x.clock, x.value) ∷ [])) ⊎ ((x.rank ≡ r → ⊥) × (slice_get sorted r ≡ Some xs))
        → xs ≡ lines_of r (lines ++ x ∷ [])
    each r xs (inl own) =
        let wide = kept.width in
        let old = kept.each x.rank (get_or sorted x.rank []) (slice_get-get_or sorted x.rank [] (omega (arith, low, wide))) in
        own.1 ∙ ap (λ z. z ++ (x.clock, x.value) ∷ []) old ∙ ap (λ q. lines_of q lines ++ (x.clock, x.value) ∷ []) own.0 ∙ sym (lines_of-own r lines x own.0)
    each r xs (inr others) = kept.each r xs others.1 ∙ sym (lines_of-other r lines x others.0)

-- the next of some lines
pub sorted_more : (n : ℕ) (lines : List Line) (i k : ℕ) (d : Line) (sorted : List (List (ℕ × ℤ))) (old new : List (ℕ × ℤ))
    → IsSorted n (take i lines) sorted → i < length lines → k ≡ (get_or lines i d).rank → k < length sorted → old ≡ get_or sorted k old
    → new ≡ old ++ ((get_or lines i d).clock, (get_or lines i d).value) ∷ [] → IsSorted n (take (i + 1) lines) (slice_set sorted k new)
sorted_more n lines i k d sorted old new kept low at within is longer =
    let x : Line = get_or lines i d in
    let wide = kept.width in
    let there : get_or sorted k [] ≡ old = get_or_from_slice_get sorted k old [] (slice_get_read sorted (length sorted) k old refl within is) in
    let few : x.rank < n = omega (arith, wide, within, at) in
    let same : new ≡ get_or sorted x.rank [] ++ (x.clock, x.value) ∷ [] =
    longer ∙ ap (λ z. z ++ (x.clock, x.value) ∷ []) (sym there ∙ ap (λ q. get_or sorted q []) at) in
    rw (take_more lines i d low, same, at) (IsSorted-push n (take i lines) x sorted kept few)

-- the rank of each line has a line
pub line_of_its_rank : (lines : List Line) (i k : ℕ) (d : Line) → i < length lines → k ≡ (get_or lines i d).rank → lines_of k lines ≡ [] → ⊥
line_of_its_rank [] i k d low at none = omega arith
line_of_its_rank (l ∷ lines) zero k d low at none = (let more = rw (eq-eqb l.rank k (sym at)) at none in cc)
line_of_its_rank (l ∷ lines) (suc i) k d low at none = line_of_its_rank lines i k d (omega (arith, low)) at (rest (l.rank == k) none)
  where
    rest : (b : Bool) → cons_if b (l.clock, l.value) (lines_of k lines) ≡ [] → lines_of k lines ≡ []
    rest true e = absurd cc
    rest false e = e
