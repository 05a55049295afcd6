-- A table by rows, read by its columns: each row has, of each column in turn, the element at the row's place.
use Rattle.std.proofs.Common.{◌≡◌, ℕ, zero, suc, ◌<◌, ◌+◌, List, [], ◌∷◌, ◌++◌, length, map, replicate, slice_index_or}
use Rattle.std.proofs.Common.{refl, sym, ◌∙◌, ap, arith, append_assoc, append-nil, length-append, Vec}
use Rattle.std.proofs.lemmas.List.{length-map, length-replicate, get_or-replicate}
use Rattle.std.proofs.lemmas.List.Elements.{recursion_from_All}
use Rattle.std.proofs.Math.ListN.{get_or-map}
use Rattle.std.specs.List.{All, AllByRecursion}
use Rattle.ports.specs.Lanes.{Lane, TxValue, RxValue, lane_to, lane_from}
use Rattle.ports.specs.Crossed.{grow, grow_all}
use Rattle.ports.specs.AllLanes.{IsCrossed, ArePairs, AreWhole, to_names, from_names}
use Rattle.ports.proofs.GrowLemmas.{grow_length}

module _ {X : Type 0} where
  -- the row at this place with a column more
  grow_at : (rows : List (List X)) (column : List X) (place : ℕ) (d : X) → place < length rows → place < length column
      → slice_index_or (grow rows column) place [] ≡ slice_index_or rows place [] ++ slice_index_or column place d ∷ []
  grow_at [] column place d low low' = absurd (omega arith)
  grow_at (row ∷ rows) [] place d low low' = absurd (omega arith)
  grow_at (row ∷ rows) (x ∷ column) zero d low low' = refl
  grow_at (row ∷ rows) (x ∷ column) (suc place) d low low' = grow_at rows column place d (omega arith) (omega arith)

  -- the row at this place with all columns more
  row_of : (high : ℕ) (rows columns : List (List X)) (place : ℕ) (d : X) → length rows ≡ high → place < high
      → AllByRecursion (λ column. length column ≡ high) columns
      → slice_index_or (grow_all rows columns) place [] ≡ slice_index_or rows place [] ++ map (λ column. slice_index_or column place d) columns
  row_of high rows [] place d size low whole = sym (append-nil (slice_index_or rows place []))
  row_of high rows (column ∷ columns) place d size low whole =
      let others : List X = map (λ c. slice_index_or c place d) columns in
      let last = slice_index_or column place d in
      let one = whole.0 in
      row_of high (grow rows column) columns place d (grow_length rows column ∙ size) low whole.1
      ∙ ap (λ front. front ++ others) (grow_at rows column place d (omega (arith, size)) (omega (arith, one)))
      ∙ append_assoc (slice_index_or rows place []) (last ∷ []) others

  -- a column more makes the row at this place longer by one
  grow_long : (rows : List (List X)) (column : List X) (place : ℕ) (e : List X) → place < length rows → place < length column
      → length (slice_index_or (grow rows column) place e) ≡ length (slice_index_or rows place e) + 1
  grow_long [] column place e low low' = absurd (omega arith)
  grow_long (row ∷ rows) [] place e low low' = absurd (omega arith)
  grow_long (row ∷ rows) (x ∷ column) zero e low low' = length-append row (x ∷ [])
  grow_long (row ∷ rows) (x ∷ column) (suc place) e low low' = grow_long rows column place e (omega arith) (omega arith)

  -- all columns make it longer by as many as they are
  row_long : (high : ℕ) (rows columns : List (List X)) (place : ℕ) (e : List X) → length rows ≡ high → place < high
      → AllByRecursion (λ column. length column ≡ high) columns
      → length (slice_index_or (grow_all rows columns) place e) ≡ length (slice_index_or rows place e) + length columns
  row_long high rows [] place e size low whole = omega arith
  row_long high rows (column ∷ columns) place e size low whole =
      let one = whole.0 in
      let rest = row_long high (grow rows column) columns place e (grow_length rows column ∙ size) low whole.1 in
      let more = grow_long rows column place e (omega (arith, size)) (omega (arith, one)) in
      omega (arith, rest, more)

-- so what one rank puts into is what another takes from
pub pairs_of : (ranks : ℕ) (rows columns : List (List Lane)) → IsCrossed rows columns → length rows ≡ ranks → ArePairs ranks rows columns
pairs_of ranks rows columns crossed size = λ source d low.
    let high : ℕ = length rows in
    let low' : source < high = omega (arith, size) in
    let none : List (List Lane) = replicate high [] in
    ap (λ table. slice_index_or table source []) crossed.same
    ∙ row_of high none columns source d (length-replicate high []) low' (recursion_from_All (λ c. length c ≡ high) columns crossed.whole)
    ∙ ap (λ front. front ++ map (λ column. slice_index_or column source d) columns) (get_or-replicate high source [] [] low')

module _ {A : Type 0} where
  -- each rank puts into as many lanes as there are columns
  pub to_wide : (ranks : ℕ) (to : List (Vec TxValue A)) (columns : List (List Lane)) → IsCrossed (to_names to) columns
      → length columns ≡ ranks → All (λ ends. length ends.items ≡ ranks) to
  to_wide ranks to columns crossed size = λ k d low.
      let high : ℕ = length (to_names to) in
      let e : List Lane = map lane_to d.items in
      let rows = length-map to (λ (ends : Vec TxValue A). map lane_to ends.items) in
      let low' : k < high = omega (arith, rows) in
      let long = row_long high (replicate high []) columns k e (length-replicate high []) low'
      (recursion_from_All (λ c. length c ≡ high) columns crossed.whole) in
      let none = ap length (get_or-replicate high k [] e low') in
      let same = ap (λ table. length (slice_index_or table k e)) crossed.same in
      let named = ap length (get_or-map (λ (ends : Vec TxValue A). map lane_to ends.items) to k d) in
      let count = length-map (slice_index_or to k d).items lane_to in
      omega (arith, long, none, same, named, count, size)

  -- each rank takes from as many lanes as its column is high
  pub from_high : (ranks : ℕ) (from : List (Vec RxValue A)) → AreWhole ranks (from_names from) → All (λ ends. length ends.items ≡ ranks) from
  from_high ranks from whole = λ k d low.
      let columns = length-map from (λ (ends : Vec RxValue A). map lane_from ends.items) in
      let one = whole k (map lane_from d.items) (omega (arith, columns)) in
      let named = ap length (get_or-map (λ (ends : Vec RxValue A). map lane_from ends.items) from k d) in
      let count = length-map (slice_index_or from k d).items lane_from in
      omega (arith, one, named, count)
