-- Names and their places. Two names are the same where their bytes are: the zeros behind them differ in number only
-- where their lengths do. A name that stands among others has a first place, which is below their number.
use Rattle.std.proofs.Common.{◌≡◌, ℕ, ◌+◌, ◌-◌, List, [], ◌∷◌, ◌++◌, length, replicate, true}
use Rattle.std.proofs.Common.{false, ◌&&◌, ◌||◌, nat_eq, Some, None, cond, map, refl, ap, ◌∙◌, sym}
use Rattle.std.specs.List.{position, position_from}
use Rattle.std.specs.Str.{bytes_eq}
use Rattle.std.proofs.lemmas.List.{append_cancel_right}
use Rattle.std.proofs.lemmas.Slice.Eq.{bytes_eq-Decides}
use Rattle.std.proofs.lemmas.Bool.Decides.{same_from_decides, Decides-and, Decides-like, Decides-eqb}
use Rattle.std.proofs.lemmas.Iterator.Adapters.{position_from-zero}
use Rattle.rank_text.specs.Grammar.Name.{padded}
use Rattle.rank_text.specs.declared.checker.scope.Array.{Array}
use Rattle.rank_text.specs.Checker.Scope.{is_name_in}
use Rattle.rank_text.specs.Checker.SeenLines.{arrays_seen}
use Rattle.rank_language.specs.Resolved.{place_in}

-- equal bytes with zeros behind them, and equal lengths: the same bytes
unpadded : (xs ys : List ℕ) → (padded xs ≡ padded ys) × (length xs ≡ length ys) → xs ≡ ys
unpadded xs ys h =
    let q : padded ys ≡ ys ++ replicate (17 - length xs) 0 = ap (λ n. ys ++ replicate (17 - n) 0) (sym h.1) in
    append_cancel_right xs ys (replicate (17 - length xs) 0) (h.0 ∙ q)

-- names are the same where their bytes are
pub same_names : (xs ys : List ℕ) → (bytes_eq (padded xs) (padded ys) && nat_eq (length xs) (length ys)) ≡ bytes_eq xs ys
same_names xs ys =
    same_from_decides _ _
    (Decides-like _ (unpadded xs ys) (λ q. (ap padded q, ap length q))
    (Decides-and _ _ (bytes_eq-Decides (padded xs) (padded ys)) (Decides-eqb (length xs) (length ys))))
    (bytes_eq-Decides xs ys)

-- a name that stands nowhere is not found, wherever counting begins
missing_from : (names : List (List ℕ)) (x : List ℕ) (i : ℕ) → is_name_in names x ≡ false → position_from (λ y. bytes_eq y x) i names ≡ None
missing_from [] x i h = refl
missing_from (y ∷ ys) x i h =
    elim (bytes_eq y x) as (λ b. (b || is_name_in ys x) ≡ false → cond b (Some i) (position_from (λ z. bytes_eq z x) (i + 1) ys) ≡ None)
    [ true ↦ λ q. cc | false ↦ λ q. missing_from ys x (i + 1) q ] h

-- a name that stands somewhere is found, wherever counting begins
found_from : (names : List (List ℕ)) (x : List ℕ) (i : ℕ) → is_name_in names x ≡ true → (p : ℕ) × (position_from (λ y. bytes_eq y x) i names ≡ Some p)
found_from [] x i h = cc
found_from (y ∷ ys) x i h =
    elim (bytes_eq y x) as (λ b. (b || is_name_in ys x) ≡ true → (p : ℕ) × (cond b (Some i) (position_from (λ z. bytes_eq z x) (i + 1) ys) ≡ Some p))
    [ true ↦ λ q. (i, refl) | false ↦ λ q. found_from ys x (i + 1) q ] h

-- a name that stands among others has a place
pub place_of_named : (names : List (List ℕ)) (x : List ℕ) → is_name_in names x ≡ true → (p : ℕ) × (place_in names x ≡ Some p)
place_of_named names x h =
    let (p, q) = found_from names x 0 h in
    (p, position_from-zero (λ y. bytes_eq y x) names ∙ q)

-- a name that doesn't stand among others has none
pub place_of_other : (names : List (List ℕ)) (x : List ℕ) → is_name_in names x ≡ false → place_in names x ≡ None
place_of_other names x h =
    position_from-zero (λ y. bytes_eq y x) names ∙ missing_from names x 0 h

-- a name that stands among others isn't without a place
pub unplaced : (names : List (List ℕ)) (x : List ℕ) → is_name_in names x ≡ true → place_in names x ≡ None → ⊥
unplaced names x h q =
    let (p, e) = place_of_named names x h in
    cc

-- arrays are looked up by their names
place_from-map : (arrays : List Array) (x : List ℕ) (i : ℕ)
    → position_from (λ a. bytes_eq a.name x) i arrays ≡ position_from (λ y. bytes_eq y x) i (map (λ a. a.name) arrays)
place_from-map [] x i = refl
place_from-map (a ∷ as') x i = ap (cond (bytes_eq a.name x) (Some i)) (place_from-map as' x (i + 1))

-- the names of arrays are the same with their lengths and without
names_of_arrays : (arrays : List Array) → map (λ a. a.0) (arrays_seen arrays) ≡ map (λ a. a.name) arrays
names_of_arrays [] = refl
names_of_arrays (a ∷ as') = ap (λ names. a.name ∷ names) (names_of_arrays as')

-- the place of an array is that of its name among the names
pub array_placed : (arrays : List Array) (x : List ℕ) → position (λ a. bytes_eq a.name x) arrays ≡ place_in (map (λ a. a.0) (arrays_seen arrays)) x
array_placed arrays x =
    position_from-zero (λ a. bytes_eq a.name x) arrays
    ∙ place_from-map arrays x 0
    ∙ sym (position_from-zero (λ y. bytes_eq y x) (map (λ a. a.name) arrays))
    ∙ ap (λ names. place_in names x) (sym (names_of_arrays arrays))

-- an array that stands among others isn't without a place
pub array_unplaced : (arrays : List Array) (x : List ℕ) → is_name_in (map (λ a. a.0) (arrays_seen arrays)) x ≡ true
    → position (λ a. bytes_eq a.name x) arrays ≡ None → ⊥
array_unplaced arrays x h q = unplaced (map (λ a. a.0) (arrays_seen arrays)) x h (sym (array_placed arrays x) ∙ q)
