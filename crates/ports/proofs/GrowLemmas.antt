-- A table of rows that grows by columns.
use Rattle.std.proofs.Common.{◌≡◌, List, [], ◌∷◌, ◌++◌, ◌<◌, length, slice_set, slice_index_or, refl, arith, rules}
use Rattle.ports.specs.Crossed.{grow, grow_all}

module _ {X : Type 0} where
  -- a further column grows last
  pub grow_all_snoc : (rows columns : List (List X)) (column : List X) → grow_all rows (columns ++ column ∷ []) ≡ grow (grow_all rows columns) column
  grow_all_snoc rows [] column = refl
  grow_all_snoc rows (c ∷ columns) column = grow_all_snoc (grow rows c) columns column

  -- one more element of the column makes the row at its place longer
  pub grow_push : (rows : List (List X)) (column : List X) (x : X) (d : List X)
      → slice_set (grow rows column) (length column) (slice_index_or (grow rows column) (length column) d ++ x ∷ []) ≡ grow rows (column ++ x ∷ [])
  grow_push [] [] x d = refl
  grow_push [] (y ∷ column) x d = refl
  grow_push (row ∷ rows) [] x d = refl
  grow_push (row ∷ rows) (y ∷ column) x d = rw (grow_push rows column x d) refl

  -- the row at the place of the column's last element ends with it
  pub grow_last : (rows : List (List X)) (column : List X) (x : X) (d : List X) → length column < length rows
      → slice_index_or (grow rows (column ++ x ∷ [])) (length column) d ≡ slice_index_or rows (length column) d ++ x ∷ []
  grow_last [] column x d low = absurd (omega arith)
  grow_last (row ∷ rows) [] x d low = refl
  grow_last (row ∷ rows) (y ∷ column) x d low = grow_last rows column x d (omega arith)

  -- without the last element, that row is as it was
  pub grow_pop : (rows : List (List X)) (column : List X) (x : X) (d : List X)
      → slice_set (grow rows (column ++ x ∷ [])) (length column) (slice_index_or rows (length column) d) ≡ grow rows column
  grow_pop [] [] x d = refl
  grow_pop [] (y ∷ column) x d = refl
  grow_pop (row ∷ rows) [] x d = refl
  grow_pop (row ∷ rows) (y ∷ column) x d = rw (grow_pop rows column x d) refl

  -- a column makes rows longer, not more
  pub grow_length : (rows : List (List X)) (column : List X) → length (grow rows column) ≡ length rows
  grow_length [] [] = refl
  grow_length [] (y ∷ column) = refl
  grow_length (row ∷ rows) [] = refl
  grow_length (row ∷ rows) (y ∷ column) = rw (grow_length rows column) refl

  -- two lists with an element more at their ends are the same only as both parts are
  pub snoc_parts : (xs ys : List X) (x y : X) → xs ++ x ∷ [] ≡ ys ++ y ∷ [] → (xs ≡ ys) × (x ≡ y)
  snoc_parts [] [] x y same = (refl, grind rules)
  snoc_parts [] (b ∷ []) x y same = absurd (grind rules)
  snoc_parts [] (b ∷ c ∷ ys) x y same = absurd (grind rules)
  snoc_parts (a ∷ []) [] x y same = absurd (grind rules)
  snoc_parts (a ∷ b ∷ xs) [] x y same = absurd (grind rules)
  snoc_parts (a ∷ xs) (b ∷ ys) x y same =
      let head : a ≡ b = grind rules in
      let tail : xs ++ x ∷ [] ≡ ys ++ y ∷ [] = grind rules in
      let rest = snoc_parts xs ys x y tail in
      (rw (head, rest.0) refl, rest.1)
