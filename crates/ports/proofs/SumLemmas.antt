-- What all ranks put and took, as lanes are closed one after another: the counts so far and what is left are all that was.
use Rattle.std.proofs.Common.{◌≡◌, ℕ, zero, suc, ◌+◌, ◌<◌, List, [], ◌∷◌, ◌++◌, length, map, replicate, slice_set, slice_index_or}
use Rattle.std.proofs.Common.{refl, ap, ◌∙◌, arith, rules, Vec}
use Rattle.std.proofs.lemmas.List.Sums.{sum_by_push, sum_by-set, sum_by-cons}
use Rattle.std.specs.List.{sum_by}
use Rattle.ports.specs.Lanes.{TxValue, RxValue, lane_to, put_of, taken_of}
use Rattle.ports.specs.AllLanes.{to_names, put_by, taken_by, all_put, all_taken, counted_to}

-- what a lane carried goes from what is left to the count
pub counted_more : (count more left before whole : ℕ) → left + more ≡ before → counted_to (count + before) ≡ whole
    → counted_to (counted_to (count + counted_to more) + left) ≡ whole
counted_more count more left before whole split was = omega arith

-- a list of no length is empty
pub nothing_is : {X : Type 0} (xs : List X) → length xs ≡ 0 → xs ≡ []
nothing_is [] none = refl
nothing_is (x ∷ xs) none = absurd (omega arith)

-- ends of which none names a lane are none
no_ends : (ends : List TxValue) → map lane_to ends ≡ [] → ends ≡ []
no_ends [] none = refl
no_ends (t ∷ ends) none = absurd (grind rules)

module _ {A : Type 0} where
  -- without its last end, a rank has that much less put
  pub put_less : (to : List (Vec TxValue A)) (source : ℕ) (row : Vec TxValue A) (tx : TxValue) (d : Vec TxValue A) → source < length to
      → (slice_index_or to source d).items ≡ row.items ++ tx ∷ [] → all_put (slice_set to source row) + length (put_of tx) ≡ all_put to
  put_less to source row tx d low row_is =
      let changed = sum_by-set put_by to source row d low in
      let one : put_by (slice_index_or to source d) ≡ put_by row + length (put_of tx)
      = ap (sum_by (λ t. length (put_of t))) row_is ∙ sum_by_push (λ t. length (put_of t)) row.items tx in
      omega (arith, changed, one)

  -- without the last rank, that much less was taken
  pub taken_less : (from : List (Vec RxValue A)) (column : Vec RxValue A) → all_taken (from ++ column ∷ []) ≡ all_taken from + taken_by column
  taken_less from column = sum_by_push taken_by from column

  -- where no end is left, nothing is left that was put
  pub none_left : (ranks : ℕ) (to : List (Vec TxValue A)) → to_names to ≡ replicate ranks [] → all_put to ≡ 0
  none_left ranks [] none = refl
  none_left zero (ends ∷ to) none = absurd (grind rules)
  none_left (suc ranks) (ends ∷ to) none =
      let first : map lane_to ends.items ≡ [] = grind rules in
      let others : to_names to ≡ replicate ranks [] = grind rules in
      let nothing : put_by ends ≡ 0 = ap (sum_by (λ t. length (put_of t))) (no_ends ends.items first) in
      let rest = none_left ranks to others in
      sum_by-cons put_by ends to ∙ omega (arith, nothing, rest)

-- without the last end, that much less was taken
pub taken_one : (column : List RxValue) (rx : RxValue)
    → sum_by (λ r. length (taken_of r)) (column ++ rx ∷ []) ≡ sum_by (λ r. length (taken_of r)) column + length (taken_of rx)
taken_one column rx = sum_by_push (λ r. length (taken_of r)) column rx
