-- How a line of costs is written, and how many events a rank has stored.
use Rattle.std.proofs.Common.{◌≡◌, ℕ, zero, suc, ◌-◌, ◌^◌, ◌<◌, ◌≤◌, List, [], ◌∷◌, length, map, slice_index_or, refl, ◌∙◌, arith, Vec}
use Rattle.std.specs.Fmt.{decimal, styled_decimal, format_spec}
use Rattle.std.proofs.Padding.{padded_integral_right, styled_decimal_is}
use Rattle.runner.specs.CostsText.{right_in}
use Rattle.event_logger.specs.Sequential.Event.{EventValue}
use Rattle.rank_threads.specs.Causes.{events_at}

-- what the options for a column write is the number with spaces in front
pub padded_right : (width n : ℕ) → styled_decimal (format_spec 32 3 0 width (2 ^ 64 - 1)) n ≡ right_in width n
unfolding right_in
padded_right width n = styled_decimal_is (format_spec 32 3 0 width (2 ^ 64 - 1)) n
    ∙ padded_integral_right (format_spec 32 3 0 width (2 ^ 64 - 1)) (decimal n) refl refl (λ e. omega (arith, e)) (λ e. omega (arith, e)) (omega arith)

module _ {A : Type 0} where
  -- a row that is there
  pub row_there : (rows : List (Vec EventValue A)) (k : ℕ) (d : Vec EventValue A) → k < length rows
      → length (slice_index_or rows k d).items ≡ events_at (map (λ row. row.items) rows) k
  row_there [] k d low = absurd (omega (arith, low))
  row_there (row ∷ rows) zero d low = refl
  row_there (row ∷ rows) (suc k) d low = row_there rows k d (omega (arith, low))

  -- behind the last row there are no events
  pub row_past : (rows : List (Vec EventValue A)) (k : ℕ) → length rows ≤ k → 0 ≡ events_at (map (λ row. row.items) rows) k
  row_past [] k past = refl
  row_past (row ∷ rows) zero past = absurd (omega (arith, past))
  row_past (row ∷ rows) (suc k) past = row_past rows k (omega (arith, past))
