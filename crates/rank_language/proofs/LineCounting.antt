-- A line more is counted: with its number where it isn't skipped.
use Rattle.std.specs.Prelude.{◌≡◌, ℕ, ◌+◌, List, ◌∷◌, true, false}
use Rattle.std.proofs.Common.{refl}
use Rattle.rank_text.specs.Checker.Lines.{is_skipped}
use Rattle.rank_language.specs.LineNumbers.{numbers_from}

-- a skipped line has no number
pub past_skipped : (n : ℕ) (l : List ℕ) (ls : List (List ℕ)) → is_skipped l ≡ true → numbers_from n (l ∷ ls) ≡ numbers_from (n + 1) ls
past_skipped n l ls q = rw q refl

-- any other line has its own
pub past_stated : (n : ℕ) (l : List ℕ) (ls : List (List ℕ)) → is_skipped l ≡ false → numbers_from n (l ∷ ls) ≡ n ∷ numbers_from (n + 1) ls
past_stated n l ls q = rw q refl
