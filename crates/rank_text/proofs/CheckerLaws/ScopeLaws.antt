-- The blocks that are open, in the code and as they are seen. The code has the innermost last and the definition
-- has it first, so each change at the end of the one is a change at the front of the other.
use Rattle.std.specs.Prelude.{◌≡◌, ◌-◌, ◌<◌, List, [], ◌∷◌, ◌++◌, length, Option, Some, None, Bool, true}
use Rattle.std.specs.Prelude.{false, nat_eq, slice_get, slice_set, option_to_list, IsSome}
use Rattle.std.proofs.Common.{refl, sym, ap, ◌∙◌, arith, length-append, append-nil}
use Rattle.std.proofs.lemmas.Bool.Decides.{nat_tests}
use Rattle.rank_text.specs.declared.checker.scope.Opened as source_opened
use Rattle.rank_text.specs.Checker.Scope.{Opened, in_if, in_else, in_while, other_branch, outer, is_open_if, is_empty}
use Rattle.rank_text.specs.declared.checker.scope.Array.{Array}
use Rattle.rank_text.specs.Checker.SeenLines.{opened_seen, blocks_seen, arrays_seen}

-- the last block is seen first
pub blocks_push : (bs : List source_opened.Opened) (b : source_opened.Opened) → blocks_seen (bs ++ b ∷ []) ≡ opened_seen b ∷ blocks_seen bs
blocks_push [] b = refl
blocks_push (c ∷ bs) b = ap (λ z. z ++ opened_seen c ∷ []) (blocks_push bs b)

-- as many are seen as are open
pub blocks_length : (bs : List source_opened.Opened) → length (blocks_seen bs) ≡ length bs
blocks_length [] = refl
blocks_length (b ∷ bs) = let h = blocks_length bs in omega (arith, length-append (blocks_seen bs) (opened_seen b ∷ []))

-- a list with something behind it isn't empty, and begins as it did
front_if : (xs : List Opened) (x y : Opened) → is_open_if ((xs ++ x ∷ []) ++ y ∷ []) ≡ is_open_if (xs ++ x ∷ [])
front_if [] in_if y = refl
front_if [] in_else y = refl
front_if [] in_while y = refl
front_if (in_if ∷ xs) x y = refl
front_if (in_else ∷ xs) x y = refl
front_if (in_while ∷ xs) x y = refl

-- a block is an `if` without its `else`
abbrev pub is_if : Option source_opened.Opened → Bool
is_if None = false
is_if (Some source_opened.TheVariants.If) = true
is_if (Some source_opened.TheVariants.Else) = false
is_if (Some source_opened.TheVariants.While) = false

-- the first of some blocks is seen last, and the last one first
innermost_of : (b : source_opened.Opened) (bs : List source_opened.Opened)
    → is_open_if (blocks_seen (b ∷ bs)) ≡ is_if (slice_get (b ∷ bs) (length bs))
innermost_of source_opened.TheVariants.If [] = refl
innermost_of source_opened.TheVariants.Else [] = refl
innermost_of source_opened.TheVariants.While [] = refl
innermost_of b (c ∷ bs) = front_if (blocks_seen bs) (opened_seen c) (opened_seen b) ∙ innermost_of c bs

-- the innermost block is the last of the code
pub innermost : (bs : List source_opened.Opened) (o : Option source_opened.Opened) → o ≡ slice_get bs (length bs - 1)
    → is_open_if (blocks_seen bs) ≡ is_if o
innermost [] o q = ap is_if (sym q)
innermost (b ∷ bs) o q =
    let e : length (b ∷ bs) - 1 ≡ length bs = omega arith in
    innermost_of b bs ∙ ap is_if (sym (q ∙ ap (slice_get (b ∷ bs)) e))

-- a list with something at its end isn't empty
empty_push : (xs : List Opened) (x : Opened) → is_empty (xs ++ x ∷ []) ≡ false
empty_push [] x = refl
empty_push (y ∷ xs) x = refl

-- nor is its length 0
some_length : (b : source_opened.Opened) (bs : List source_opened.Opened) → nat_eq (length (b ∷ bs)) 0 ≡ false
some_length b bs = grind (arith, nat_tests)

-- where nothing was taken nothing was there
popped_none : (old new : List source_opened.Opened) → old ≡ new → (0 < length old → ⊥) → outer (blocks_seen old) ≡ blocks_seen new
popped_none [] new q h = ap blocks_seen q
popped_none (b ∷ old) new q h = absurd (h (omega arith))

-- no block is seen where none is open
pub blocks_empty : (bs : List source_opened.Opened) → is_empty (blocks_seen bs) ≡ nat_eq (length bs) 0
blocks_empty [] = refl
blocks_empty (b ∷ bs) = empty_push (blocks_seen bs) (opened_seen b) ∙ sym (some_length b bs)

-- the innermost block closes
pub blocks_pop : (old new : List source_opened.Opened) (o : Option source_opened.Opened) → old ≡ new ++ option_to_list o
    → (0 < length old → IsSome o) → outer (blocks_seen old) ≡ blocks_seen new
blocks_pop old new None q h = popped_none old new (q ∙ append-nil new) (λ k. (let z = h k in cc))
blocks_pop old new (Some b) q h = ap (λ z. outer (blocks_seen z)) q ∙ ap outer (blocks_push new b)

-- what stands behind the first block doesn't change with it
front_turn : (xs : List Opened) (x y : Opened) → other_branch (xs ++ x ∷ []) ++ y ∷ [] ≡ other_branch ((xs ++ x ∷ []) ++ y ∷ [])
front_turn [] x y = refl
front_turn (z ∷ xs) x y = refl

-- the last of some blocks goes on with its other branch
turned : (b : source_opened.Opened) (bs : List source_opened.Opened)
    → blocks_seen (slice_set (b ∷ bs) (length bs) source_opened.TheVariants.Else) ≡ other_branch (blocks_seen (b ∷ bs))
turned b [] = refl
turned b (c ∷ bs) = ap (λ z. z ++ opened_seen b ∷ []) (turned c bs) ∙ front_turn (blocks_seen bs) (opened_seen c) (opened_seen b)

-- the innermost block goes on with its other branch
pub blocks_turn : (bs : List source_opened.Opened) → 0 < length bs
    → blocks_seen (slice_set bs (length bs - 1) source_opened.TheVariants.Else) ≡ other_branch (blocks_seen bs)
blocks_turn [] h = absurd (omega arith)
blocks_turn (b ∷ bs) h =
    let e : length (b ∷ bs) - 1 ≡ length bs = omega arith in
    ap (λ z. blocks_seen (slice_set (b ∷ bs) z source_opened.TheVariants.Else)) e ∙ turned b bs

-- where no block is open none goes on
pub blocks_none : (bs : List source_opened.Opened) → length bs ≡ 0 → other_branch (blocks_seen bs) ≡ blocks_seen bs
blocks_none [] h = refl
blocks_none (b ∷ bs) h = absurd (omega arith)

-- an array behind others is seen behind them
pub arrays_push : (xs : List Array) (a : Array) → arrays_seen (xs ++ a ∷ []) ≡ arrays_seen xs ++ (a.name, a.length) ∷ []
arrays_push [] a = refl
arrays_push (x ∷ xs) a = ap (λ z. (x.name, x.length) ∷ z) (arrays_push xs a)

-- as many arrays are seen as there are
pub arrays_length : (xs : List Array) → length (arrays_seen xs) ≡ length xs
arrays_length [] = refl
arrays_length (x ∷ xs) = let h = arrays_length xs in omega arith
