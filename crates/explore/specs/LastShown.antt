-- What is kept of a run so that nobody walks it: for each rank and source the last message that was
-- shown.
use Rattle.std.specs.Prelude.{◌≡◌, ◌⊎◌, ◌≤◌, ℕ, nat_lt, List, Option}
use Rattle.std.specs.declared.cmp.Ordering.{Ordering}
use Rattle.std.specs.declared.option.Option.TheVariants.{None, Some}
use Rattle.std.specs.Ordering.{nat_cmp, ordering_then}
use Rattle.std.specs.BTreeMap as tree
use Rattle.std.specs.BTreeMap.{BTreeMap}
use Rattle.crash_free.specs.Runs.{Passed}
use Rattle.explore.specs.Shown.{was_shown}

-- the order of pairs of a rank and a source
abbrev pub pair_cmp : ℕ × ℕ → ℕ × ℕ → Ordering
pair_cmp a b = ordering_then (nat_cmp a.0 b.0) (nat_cmp a.1 b.1)

-- a place, or 0 for none
abbrev pub place_or_none : Option ℕ → ℕ
place_or_none None = 0
place_or_none (Some place) = place

-- the place that is kept for this rank and source
abbrev pub last_of : BTreeMap (ℕ × ℕ) ℕ → ℕ → ℕ → ℕ
last_of last r source = place_or_none (tree.get pair_cmp last (r, source))

-- by what is kept one knows what these acts showed
abbrev pub KnowsShown : List Passed → BTreeMap (ℕ × ℕ) ℕ → Type 0
KnowsShown acts last = (r source index : ℕ) → was_shown acts r source index ≡ nat_lt index (last_of last r source)

-- this place is kept for that rank and source too, unless a later one is
pub record Raises (old : BTreeMap (ℕ × ℕ) ℕ) (rank source place : ℕ) (new : BTreeMap (ℕ × ℕ) ℕ) : Type 0 where
  pub keeps : (r s : ℕ) → last_of old r s ≤ last_of new r s
  pub notes : place ≤ last_of new rank source
  pub only : (r s : ℕ) → (last_of new r s ≡ last_of old r s) ⊎ ((r ≡ rank) × (s ≡ source) × (last_of new r s ≡ place))
