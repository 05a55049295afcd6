-- The ends of lanes, one more at a time, and one less.
--
-- A lane that is opened puts its two ends last: one in its source's row, one in its destination's column. So the table by
-- rows grows by the column's next name. Closing takes the last end of each off again, and these are of one lane.
use Rattle.std.proofs.Common.{◌≡◌, ℕ, List, [], ◌∷◌, ◌++◌, ◌<◌, Some, length, map, replicate, slice_set, slice_index_or}
use Rattle.std.proofs.Common.{sym, ◌∙◌, ap, arith, length-append, Vec}
use Rattle.std.proofs.lemmas.List.{map-set, map-append, length-map}
use Rattle.std.proofs.lemmas.List.Elements.{All-same, All-push, All-pop, All-set, All-get_or}
use Rattle.std.proofs.Math.ListN.{get_or-map}
use Rattle.std.specs.List.{All}
use Rattle.limits.specs.Limits.{most_frames}
use Rattle.ports.specs.Lanes.{Lane, TxValue, RxValue, lane_to, lane_from, put_of, room_of}
use Rattle.ports.specs.Crossed.{grow, grow_all}
use Rattle.ports.specs.AllLanes.{to_names, from_names, AreWhole, AreCrossed, NonePut, HaveRoom}
use Rattle.ports.proofs.GrowLemmas.{grow_all_snoc, grow_push, grow_last, grow_pop, grow_length, snoc_parts}

module _ {A : Type 0} where
  -- the lanes into which one rank puts
  abbrev names : Vec TxValue A → List Lane
  names ends = map lane_to ends.items

  -- the ends of one more rank name one more column
  from_names_more : (from : List (Vec RxValue A)) (column : Vec RxValue A)
      → from_names (from ++ column ∷ []) ≡ from_names from ++ map lane_from column.items ∷ []
  from_names_more from column = map-append (λ (ends : Vec RxValue A). map lane_from ends.items) from (column ∷ [])

  -- the ends of one more rank go last
  pub columns_more : (rows : List (List Lane)) (from : List (Vec RxValue A)) (column : Vec RxValue A)
      → grow_all rows (from_names (from ++ column ∷ [])) ≡ grow (grow_all rows (from_names from)) (map lane_from column.items)
  columns_more rows from column =
      ap (grow_all rows) (from_names_more from column) ∙ grow_all_snoc rows (from_names from) (map lane_from column.items)

  -- one more column is whole too
  pub whole_more : (ranks : ℕ) (from : List (Vec RxValue A)) (column : Vec RxValue A)
      → AreWhole ranks (from_names from) → length column.items ≡ ranks → AreWhole ranks (from_names (from ++ column ∷ []))
  whole_more ranks from column whole size =
      All-same (λ c. length c ≡ ranks) (from_names (from ++ column ∷ [])) (from_names from ++ map lane_from column.items ∷ [])
      (from_names_more from column)
      (All-push (λ c. length c ≡ ranks) (from_names from) (map lane_from column.items) whole (length-map column.items lane_from ∙ size))

  -- of columns that are whole the last one is, and so are the others
  pub whole_less : (ranks : ℕ) (from : List (Vec RxValue A)) (column : Vec RxValue A)
      → AreWhole ranks (from_names (from ++ column ∷ [])) → AreWhole ranks (from_names from) × (length column.items ≡ ranks)
  whole_less ranks from column whole =
      let both = All-pop (λ c. length c ≡ ranks) (from_names (from ++ column ∷ [])) (from_names from) (Some (map lane_from column.items))
      (from_names_more from column) whole in
      (both.0, sym (length-map column.items lane_from) ∙ both.1)

  -- an end more of which holds what holds of the others
  one_more : (Q : TxValue → Type 0) (to : List (Vec TxValue A)) (source : ℕ) (row : Vec TxValue A) (tx : TxValue) (d : Vec TxValue A)
      → All (λ ends. All Q ends.items) to → source < length to → row.items ≡ (slice_index_or to source d).items ++ tx ∷ [] → Q tx
      → All (λ ends. All Q ends.items) (slice_set to source row)
  one_more Q to source row tx d all low row_is new =
      let P = λ (ends : Vec TxValue A). All Q ends.items in
      let old : P (slice_index_or to source d) = All-get_or P to source d low all in
      All-set P to source row
      (All-same Q row.items ((slice_index_or to source d).items ++ tx ∷ []) row_is
      (All-push Q (slice_index_or to source d).items tx old new))
      all

  -- an end more into which nothing was put
  pub none_put_more : (to : List (Vec TxValue A)) (source : ℕ) (row : Vec TxValue A) (tx : TxValue) (d : Vec TxValue A)
      → NonePut to → source < length to → row.items ≡ (slice_index_or to source d).items ++ tx ∷ [] → put_of tx ≡ []
      → NonePut (slice_set to source row)
  none_put_more = one_more (λ t. put_of t ≡ [])

  -- an end more of a lane of that room
  pub room_more : (to : List (Vec TxValue A)) (source : ℕ) (row : Vec TxValue A) (tx : TxValue) (d : Vec TxValue A)
      → HaveRoom to → source < length to → row.items ≡ (slice_index_or to source d).items ++ tx ∷ [] → room_of (lane_to tx) ≡ most_frames
      → HaveRoom (slice_set to source row)
  room_more = one_more (λ t. room_of (lane_to t) ≡ most_frames)

  -- a lane more in the column
  pub opened_more : (to : List (Vec TxValue A)) (source : ℕ) (row : Vec TxValue A) (tx : TxValue)
      (rows : List (List Lane)) (column : List RxValue) (rx : RxValue) (d : Vec TxValue A)
      → to_names to ≡ grow rows (map lane_from column) → length column ≡ source
      → row.items ≡ (slice_index_or to source d).items ++ tx ∷ [] → lane_to tx ≡ lane_from rx
      → to_names (slice_set to source row) ≡ grow rows (map lane_from (column ++ rx ∷ []))
  opened_more to source row tx rows column rx d before at row_is lane =
      let C : List Lane = map lane_from column in
      let place : length C ≡ source = length-map column lane_from ∙ at in
      let D : List Lane = names (slice_index_or to source d) in
      let old : slice_index_or (grow rows C) source (names d) ≡ D
      = ap (λ table. slice_index_or table source (names d)) (sym before) ∙ get_or-map names to source d in
      let longer : names row ≡ slice_index_or (grow rows C) source (names d) ++ lane_from rx ∷ []
      = ap (map lane_to) row_is ∙ map-append lane_to (slice_index_or to source d).items (tx ∷ [])
      ∙ ap (λ end. D ++ end ∷ []) lane ∙ ap (λ front. front ++ lane_from rx ∷ []) (sym old) in
      map-set names to source row
      ∙ ap (λ table. slice_set table source (names row)) before
      ∙ ap (slice_set (grow rows C) source) longer
      ∙ ap (λ p. slice_set (grow rows C) p (slice_index_or (grow rows C) p (names d) ++ lane_from rx ∷ [])) (sym place)
      ∙ grow_push rows C (lane_from rx) (names d)
      ∙ ap (grow rows) (sym (map-append lane_from column (rx ∷ [])))

  -- the row of the column's last lane ends with that lane
  row_of_last : (to : List (Vec TxValue A)) (source : ℕ) (rows : List (List Lane)) (column : List RxValue) (rx : RxValue) (d : Vec TxValue A)
      → to_names to ≡ grow rows (map lane_from (column ++ rx ∷ [])) → length column ≡ source → source < length to
      → names (slice_index_or to source d) ≡ slice_index_or rows source (names d) ++ lane_from rx ∷ []
  row_of_last to source rows column rx d before at low =
      let C : List Lane = map lane_from column in
      let place : length C ≡ source = length-map column lane_from ∙ at in
      let table : to_names to ≡ grow rows (C ++ lane_from rx ∷ []) = before ∙ ap (grow rows) (map-append lane_from column (rx ∷ [])) in
      let size : length to ≡ length rows = sym (length-map to names) ∙ ap length table ∙ grow_length rows (C ++ lane_from rx ∷ []) in
      let within : length C < length rows = rw (place, sym size) low in
      sym (get_or-map names to source d) ∙ ap (λ t. slice_index_or t source (names d)) table
      ∙ ap (λ p. slice_index_or (grow rows (C ++ lane_from rx ∷ [])) p (names d)) (sym place)
      ∙ grow_last rows C (lane_from rx) (names d) within
      ∙ ap (λ p. slice_index_or rows p (names d) ++ lane_from rx ∷ []) place

  -- so that row isn't empty
  pub row_is_there : (to : List (Vec TxValue A)) (source : ℕ) (rows : List (List Lane)) (column : List RxValue) (rx : RxValue) (d : Vec TxValue A)
      → to_names to ≡ grow rows (map lane_from (column ++ rx ∷ [])) → length column ≡ source → source < length to
      → 0 < length (slice_index_or to source d).items
  row_is_there to source rows column rx d before at low =
      let last = row_of_last to source rows column rx d before at low in
      let long = length-append (slice_index_or rows source (names d)) (lane_from rx ∷ []) in
      let same = length-map (slice_index_or to source d).items lane_to in
      omega (arith, ap length last, long, same)

  -- a lane less in the column: the two ends are of one lane, and the rest is as before it was opened
  pub closed_one : (to : List (Vec TxValue A)) (source : ℕ) (row : Vec TxValue A) (tx : TxValue)
      (rows : List (List Lane)) (column : List RxValue) (rx : RxValue) (d : Vec TxValue A)
      → to_names to ≡ grow rows (map lane_from (column ++ rx ∷ [])) → length column ≡ source → source < length to
      → (slice_index_or to source d).items ≡ row.items ++ tx ∷ []
      → (lane_to tx ≡ lane_from rx) × (to_names (slice_set to source row) ≡ grow rows (map lane_from column))
  closed_one to source row tx rows column rx d before at low row_is =
      let C : List Lane = map lane_from column in
      let place : length C ≡ source = length-map column lane_from ∙ at in
      let table : to_names to ≡ grow rows (C ++ lane_from rx ∷ []) = before ∙ ap (grow rows) (map-append lane_from column (rx ∷ [])) in
      let new : names row ++ lane_to tx ∷ [] ≡ slice_index_or rows source (names d) ++ lane_from rx ∷ []
      = sym (map-append lane_to row.items (tx ∷ [])) ∙ ap (map lane_to) (sym row_is) ∙ row_of_last to source rows column rx d before at low in
      let parts = snoc_parts (names row) (slice_index_or rows source (names d)) (lane_to tx) (lane_from rx) new in (
        parts.1,
        map-set names to source row
            ∙ ap (λ t. slice_set t source (names row)) table
            ∙ ap (slice_set (grow rows (C ++ lane_from rx ∷ [])) source) parts.0
            ∙ ap (λ p. slice_set (grow rows (C ++ lane_from rx ∷ [])) p (slice_index_or rows p (names d))) (sym place)
            ∙ grow_pop rows C (lane_from rx) (names d),
      )

  -- a rank has a row
  pub a_row_each : (to : List (Vec TxValue A)) → length (to_names to) ≡ length to
  a_row_each to = length-map to names

  -- the tables of so many ranks are crossed
  pub crossed_of : (ranks : ℕ) (to : List (Vec TxValue A)) (from : List (Vec RxValue A)) → length to ≡ ranks
      → to_names to ≡ grow_all (replicate ranks []) (from_names from) → AreWhole ranks (from_names from) → AreCrossed to from
  crossed_of ranks to from size same whole =
      let rows : length (to_names to) ≡ ranks = a_row_each to ∙ size in
      record { whole = rw rows whole; same = rw rows same }
