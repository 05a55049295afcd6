-- What a user sees of an outcome, rank by rank.
use Rattle.std.proofs.Common.{◌≡◌, ℕ, ℤ, zero, suc, ◌+◌, List, [], ◌∷◌, Some, length, slice_get, refl, sym, ap, ◌∙◌, arith}
use Rattle.std.specs.Prelude.{map}
use Rattle.matching.specs.declared.line.Line.{Line}
use Rattle.audit.specs.declared.outcome.End.{End}
use Rattle.audit.specs.Outcome.{lines_of}
use Rattle.audit.specs.FinalRuns.Maximal.{RankOutcome}
use Rattle.audit.specs.FinalRuns.Final.{seen_from}

-- as many ranks are seen as there are ends
pub length_seen : (k : ℕ) (lines : List Line) (ends : List End) → length (seen_from k lines ends) ≡ length ends
length_seen k lines [] = refl
length_seen k lines (e ∷ ends) = ap suc (length_seen (suc k) lines ends)

-- the values of a rank's lines
abbrev pub values_of : ℕ → List Line → List ℤ
values_of r lines = map (λ (line : ℕ × ℤ). line.1) (lines_of r lines)

-- what is seen of this rank
abbrev one_seen : ℕ → List Line → End → RankOutcome
one_seen k lines e = record { lines = values_of k lines; end = e }

-- of a rank its own lines are seen, and its own end
pub seen_there : (k : ℕ) (lines : List Line) (ends : List End) (r : ℕ) (x : RankOutcome) → slice_get (seen_from k lines ends) r ≡ Some x
    → (x.lines ≡ values_of (k + r) lines) × (slice_get ends r ≡ Some x.end)
seen_there k lines [] r x there = absurd cc
seen_there k lines (e ∷ ends) zero x there =
    let first : one_seen k lines e ≡ x = cc in
    let here : k ≡ k + 0 = omega arith in (
      ap (λ (z : RankOutcome). z.lines) (sym first) ∙ ap (λ r. values_of r lines) here,
      ap (λ (z : RankOutcome). Some z.end) first,
    )
seen_there k lines (e ∷ ends) (suc r) x there =
    let more = seen_there (suc k) lines ends r x there in
    let here : suc k + r ≡ k + suc r = omega arith in
    (more.0 ∙ ap (λ r. values_of r lines) here, more.1)
