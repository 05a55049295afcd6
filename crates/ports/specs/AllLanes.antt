-- The lanes of a run: from each rank to each rank, itself included (the bounded buffer: Lamport,
-- "Specifying Concurrent Program Modules", 1983).
use Rattle.std.specs.Prelude.{◌≡◌, ℕ, ◌<◌, List, [], length, map, min, replicate, slice_index_or, Vec}
use Rattle.std.specs.List.{All, sum_by}
use Rattle.limits.specs.Limits.{most_frames}
use Rattle.ports.specs.Lanes.{Lane, TxValue, RxValue, lane_to, lane_from, put_of, room_of, taken_of}
use Rattle.ports.specs.Crossed.{grow_all}

-- each of these columns has an element for each rank
abbrev pub AreWhole : ℕ → List (List Lane) → Type 0
AreWhole ranks columns = All (λ column. length column ≡ ranks) columns

-- these rows and these columns are one table of lanes, and no column is longer or shorter than the
-- table is high
pub record IsCrossed (rows columns : List (List Lane)) : Type 0 where
  pub whole : AreWhole (length rows) columns
  pub same : rows ≡ grow_all (replicate (length rows) []) columns

-- what each of so many ranks puts into the lane for another, that one takes from the lane from it
abbrev pub ArePairs : ℕ → List (List Lane) → List (List Lane) → Type 0
ArePairs ranks rows columns = (source : ℕ) (d : Lane) → source < ranks
    → slice_index_or rows source [] ≡ map (λ column. slice_index_or column source d) columns

-- a count up to the greatest `u64`
abbrev pub counted_to : ℕ → ℕ
counted_to count = min count 18446744073709551615

module _ {A : Type 0} where
  -- into which lanes each rank puts, by destination
  abbrev pub to_names : List (Vec TxValue A) → List (List Lane)
  to_names to = map (λ ends. map lane_to ends.items) to

  -- from which lanes each rank takes, by source
  abbrev pub from_names : List (Vec RxValue A) → List (List Lane)
  from_names from = map (λ ends. map lane_from ends.items) from

  -- what one rank puts into the lane to another, the other takes from the lane from that one
  abbrev pub AreCrossed : List (Vec TxValue A) → List (Vec RxValue A) → Type 0
  AreCrossed to from = IsCrossed (to_names to) (from_names from)

  -- nothing was put into any of these lanes
  abbrev pub NonePut : List (Vec TxValue A) → Type 0
  NonePut to = All (λ ends. All (λ t. put_of t ≡ []) ends.items) to

  -- each of these lanes holds so many frames
  abbrev pub HaveRoom : List (Vec TxValue A) → Type 0
  HaveRoom to = All (λ ends. All (λ t. room_of (lane_to t) ≡ most_frames) ends.items) to

  -- nothing was taken from any of these lanes
  abbrev pub NoneTaken : List (Vec RxValue A) → Type 0
  NoneTaken from = All (λ ends. All (λ r. taken_of r ≡ []) ends.items) from

  -- how many frames one rank put, into all its lanes
  abbrev pub put_by : Vec TxValue A → ℕ
  put_by ends = sum_by (λ t. length (put_of t)) ends.items

  -- how many frames one rank took, from all its lanes
  abbrev pub taken_by : Vec RxValue A → ℕ
  taken_by ends = sum_by (λ r. length (taken_of r)) ends.items

  -- how many frames all ranks put
  abbrev pub all_put : List (Vec TxValue A) → ℕ
  all_put to = sum_by put_by to

  -- how many frames all ranks took
  abbrev pub all_taken : List (Vec RxValue A) → ℕ
  all_taken from = sum_by taken_by from
