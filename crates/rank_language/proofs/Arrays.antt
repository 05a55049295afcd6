-- The arrays of a whole program stand at their places: an array is put last where none of its name stands yet, and later ones
-- stand behind it.
use Rattle.std.proofs.Common.{◌≡◌, ℕ, suc, ◌+◌, List, [], ◌∷◌, ◌++◌, length, map, true, false}
use Rattle.std.proofs.Common.{cond, ◌||◌, Some, refl, ap, ◌∙◌, sym, arith, append_assoc, append-nil}
use Rattle.std.specs.Prelude.{slice_index_or}
use Rattle.std.specs.List.{position_from}
use Rattle.std.specs.Str.{bytes_eq}
use Rattle.std.proofs.lemmas.Slice.Eq.{bytes_eq-Decides}
use Rattle.std.proofs.lemmas.Iterator.Adapters.{position_from-zero}
use Rattle.std.proofs.lemmas.Bool.{or_parts}
use Rattle.rank_text.specs.Grammar.Forms.{Form, var_form, array_form, let_form, item_form, if_form, else_form, end_form, while_form}
use Rattle.rank_text.specs.Grammar.Forms.{send_form, recv_form, probe_form, try_probe_form, print_form, barrier_form, bcast_form, reduce_form}
use Rattle.rank_text.specs.Checker.Scope.{Scope, nothing_yet, is_name_in, is_variable, is_array, after, after_all, MayStand, AllMayStand, IsWhole}
use Rattle.rank_language.specs.Resolved.{place_in, array_place}
use Rattle.rank_language.specs.Named.{array_at}
use Rattle.rank_language.proofs.Back.{ArrayStands, AllArraysStand}

-- behind arrays that haven't got the name it stands at their number, wherever counting begins
behind_from : (as' bs : List (List ℕ × ℕ)) (x : List ℕ) (n i : ℕ) → is_name_in (map (λ a. a.0) as') x ≡ false
    → position_from (λ y. bytes_eq y x) i (map (λ a. a.0) (as' ++ (x, n) ∷ bs)) ≡ Some (i + length as')
behind_from [] bs x n i h =
    ap (λ b. cond b (Some i) (position_from (λ y. bytes_eq y x) (i + 1) (map (λ a. a.0) bs))) ((bytes_eq-Decides x x).1 refl)
    ∙ ap Some (let e : i ≡ i + 0 = omega arith in e)
behind_from (a ∷ as') bs x n i h =
    elim (bytes_eq a.0 x) as (λ b. (b || is_name_in (map (λ z. z.0) as') x) ≡ false
    → cond b (Some i) (position_from (λ y. bytes_eq y x) (i + 1) (map (λ z. z.0) (as' ++ (x, n) ∷ bs))) ≡ Some (i + suc (length as'))) [
      | true ↦ λ q. absurd (cc)
      | false ↦ λ q. (behind_from as' bs x n (i + 1) q ∙ ap Some (let e : (i + 1) + length as' ≡ i + suc (length as') = omega arith in e))
    ] h

-- what stands behind so many stands at their number
at_behind : (as' bs : List (List ℕ × ℕ)) (a : List ℕ × ℕ) → slice_index_or (as' ++ a ∷ bs) (length as') ([], 0) ≡ a
at_behind [] bs a = refl
at_behind (b ∷ as') bs a = at_behind as' bs a

-- the arrays that a statement declares
abbrev added : Form → List (List ℕ × ℕ)
added (array_form x n) = (x, n) ∷ []
added (var_form x) = []
added (let_form x e) = []
added (item_form x i e) = []
added (if_form e) = []
added else_form = []
added end_form = []
added (while_form e) = []
added (send_form d t p) = []
added (recv_form c t x) = []
added (probe_form c t) = []
added (try_probe_form c t x) = []
added (print_form e) = []
added barrier_form = []
added (bcast_form r x) = []
added (reduce_form o r e x) = []

-- they go last
after_arrays : (s : Scope) (f : Form) → (after s f).arrays ≡ s.arrays ++ added f
after_arrays s (var_form x) = sym (append-nil s.arrays)
after_arrays s (array_form x n) = refl
after_arrays s (let_form x e) = sym (append-nil s.arrays)
after_arrays s (item_form x i e) = sym (append-nil s.arrays)
after_arrays s (if_form e) = sym (append-nil s.arrays)
after_arrays s (while_form e) = sym (append-nil s.arrays)
after_arrays s else_form = sym (append-nil s.arrays)
after_arrays s end_form = sym (append-nil s.arrays)
after_arrays s (send_form d t p) = sym (append-nil s.arrays)
after_arrays s (recv_form c t x) = sym (append-nil s.arrays)
after_arrays s (probe_form c t) = sym (append-nil s.arrays)
after_arrays s (try_probe_form c t x) = sym (append-nil s.arrays)
after_arrays s (print_form e) = sym (append-nil s.arrays)
after_arrays s barrier_form = sym (append-nil s.arrays)
after_arrays s (bcast_form r x) = sym (append-nil s.arrays)
after_arrays s (reduce_form o r e x) = sym (append-nil s.arrays)

-- the arrays behind statements begin with those in front
arrays_go_on : (s : Scope) (fs : List Form) → (bs : List (List ℕ × ℕ)) × ((after_all s fs).arrays ≡ s.arrays ++ bs)
arrays_go_on s [] = ([], sym (append-nil s.arrays))
arrays_go_on s (f ∷ fs) =
    let (bs, q) = arrays_go_on (after s f) fs in
    (added f ++ bs, q ∙ ap (λ z. z ++ bs) (after_arrays s f) ∙ append_assoc s.arrays (added f) bs)

-- an array that is declared where none of its name is stands at its place behind all statements
declared_there : (s : Scope) (x : List ℕ) (n : ℕ) (fs : List Form) → MayStand s (array_form x n) → (p : ℕ)
    → array_place (after_all (after s (array_form x n)) fs) x ≡ Some p → array_at (after_all (after s (array_form x n)) fs) p ≡ (x, n)
declared_there s x n fs h p q =
    let end = after_all (after s (array_form x n)) fs in
    let (bs, e) = arrays_go_on (after s (array_form x n)) fs in
    let all : end.arrays ≡ s.arrays ++ (x, n) ∷ bs = e ∙ append_assoc s.arrays ((x, n) ∷ []) bs in
    let found : place_in (map (λ a. a.0) end.arrays) x ≡ Some (length s.arrays) =
    ap (λ z. place_in (map (λ a. a.0) z) x) all
    ∙ position_from-zero (λ y. bytes_eq y x) (map (λ a. a.0) (s.arrays ++ (x, n) ∷ bs))
    ∙ behind_from s.arrays bs x n 0 (or_parts (is_variable s x) (is_array s x) h.once).1
    ∙ ap Some (let k : 0 + length s.arrays ≡ length s.arrays = omega arith in k) in
    let same : Some (length s.arrays) ≡ Some p = sym found ∙ q in
    let place : length s.arrays ≡ p = cc in
    ap (λ z. slice_index_or end.arrays z ([], 0)) (sym place)
    ∙ ap (λ z. slice_index_or z (length s.arrays) ([], 0)) all
    ∙ at_behind s.arrays bs (x, n)

-- a statement that may stand: an array that it declares stands at its place behind all statements
stands_there : (s : Scope) (f : Form) (fs : List Form) → MayStand s f → ArrayStands (after_all (after s f) fs) f
stands_there s (var_form x) fs h = tt
stands_there s (array_form x n) fs h = declared_there s x n fs h
stands_there s (let_form x e) fs h = tt
stands_there s (item_form x i e) fs h = tt
stands_there s (if_form e) fs h = tt
stands_there s (while_form e) fs h = tt
stands_there s else_form fs h = tt
stands_there s end_form fs h = tt
stands_there s (send_form d t p) fs h = tt
stands_there s (recv_form c t x) fs h = tt
stands_there s (probe_form c t) fs h = tt
stands_there s (try_probe_form c t x) fs h = tt
stands_there s (print_form e) fs h = tt
stands_there s barrier_form fs h = tt
stands_there s (bcast_form r x) fs h = tt
stands_there s (reduce_form o r e x) fs h = tt

-- and so does the array of each statement in turn, whatever the tables in front hold
stand_from : (s : Scope) (fs : List Form) → AllMayStand s fs → AllArraysStand (after_all s fs) fs
stand_from s [] h = tt
stand_from s (f ∷ fs) h = (stands_there s f fs h.0, stand_from (after s f) fs h.1)

-- the arrays of a whole program stand at their places
pub arrays_stand : (fs : List Form) → IsWhole fs → AllArraysStand (after_all nothing_yet fs) fs
arrays_stand fs h = stand_from nothing_yet fs h.standing
