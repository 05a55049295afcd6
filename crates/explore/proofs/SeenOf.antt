-- Outcomes that were found, and what is seen of their ranks and noted of their choices.
use Rattle.std.proofs.Common.{◌≡◌, ℕ, zero, suc, List, [], ◌∷◌, ◌++◌, Some, slice_get, refl, ap, ◌∙◌}
use Rattle.std.specs.Prelude.{option_map}
use Rattle.std.proofs.lemmas.Option.{slice_get-map}
use Rattle.audit.specs.FinalRuns.Maximal.{RankOutcome}
use Rattle.explore.specs.Explored.{FoundOutcomeValue, noted_choices, rank_outcomes}

-- what is seen of an outcome at a place stands there
pub seen_at : (xs : List FoundOutcomeValue) (i : ℕ) (x : FoundOutcomeValue) → slice_get xs i ≡ Some x → slice_get (rank_outcomes xs) i ≡ Some x.ranks
seen_at xs i x there = slice_get-map (λ (o : FoundOutcomeValue). o.ranks) xs i ∙ ap (option_map (λ (o : FoundOutcomeValue). o.ranks)) there

-- so do its choices
pub choices_at : (xs : List FoundOutcomeValue) (i : ℕ) (x : FoundOutcomeValue) → slice_get xs i ≡ Some x → slice_get (noted_choices xs) i ≡ Some x.choices
choices_at xs i x there = slice_get-map (λ (o : FoundOutcomeValue). o.choices) xs i ∙ ap (option_map (λ (o : FoundOutcomeValue). o.choices)) there

-- what is seen at a place is seen of the outcome there
pub seen_back : (xs : List FoundOutcomeValue) (i : ℕ) (o : List RankOutcome) → slice_get (rank_outcomes xs) i ≡ Some o
    → (x : FoundOutcomeValue) × (slice_get xs i ≡ Some x) × (x.ranks ≡ o)
seen_back [] i o e = absurd cc
seen_back (x ∷ xs) zero o e = (x, refl, cc)
seen_back (x ∷ xs) (suc i) o e = seen_back xs i o e

-- behind others it comes last
pub seen_push : (xs : List FoundOutcomeValue) (x : FoundOutcomeValue) → rank_outcomes (xs ++ x ∷ []) ≡ rank_outcomes xs ++ x.ranks ∷ []
seen_push [] x = refl
seen_push (y ∷ xs) x = ap (λ (r : List (List RankOutcome)). y.ranks ∷ r) (seen_push xs x)
