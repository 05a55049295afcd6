-- Where sends and receptions stand among the parts of each kind.
use Rattle.std.proofs.Common.{◌≡◌, ℕ, zero, suc, ◌+◌, ◌<◌, List, [], ◌∷◌, ◌++◌, Some, length, map, refl, sym, ap, ◌∙◌, arith, slice_get, ◌⊎◌, inl, inr}
use Rattle.std.proofs.lemmas.Bool.{eq-eqb, ne_eqb, cases_eq}
use Rattle.std.proofs.lemmas.List.{length-append, length-map}
use Rattle.rank_text.specs.declared.grammar.token.Reduction.{Reduction}
use Rattle.rank_machine.specs.Collectives.{CollectiveKind, barriers, broadcasts, folds, Part, gives, gets, ends, others, parts, parts_among}
use Rattle.rank_machine.proofs.CollectiveParts.{ends_behind, one_more, longer_at, mapped_at, gives_behind, length_others, other_place, within_at, ends_last}

-- a list of one has one place
lone : {A : Type 0} (x y : A) (i : ℕ) → slice_get (x ∷ []) i ≡ Some y → (i ≡ 0) × (x ≡ y)
lone x y zero e = (refl, cc)
lone x y (suc i) e = absurd cc

-- no reception stands among sends
no_gets : (xs : List ℕ) (i q : ℕ) → slice_get (map gives xs) i ≡ Some (gets q) → ⊥
no_gets [] i q e = cc
no_gets (x ∷ xs) zero q e = cc
no_gets (x ∷ xs) (suc i) q e = no_gets xs i q e

-- the parts with more than one rank, and with one
pub many : (kind : CollectiveKind) (root n r : ℕ) → (n ≡ 1 → ⊥) → parts kind root n r ≡ parts_among kind root n r
many kind root n r ne = rw (ne_eqb n 1 ne) refl

-- a single rank has nothing but the step of its own
pub single : (kind : CollectiveKind) (root n r : ℕ) → n ≡ 1 → parts kind root n r ≡ ends ∷ []
single kind root n r e = rw (eq-eqb n 1 e) refl

-- A reception of a broadcast is its one part, and from its root.
pub broadcast_gets : (root n r i q : ℕ) → slice_get (parts broadcasts root n r) i ≡ Some (gets q)
    → (i ≡ 0) × (q ≡ root) × (length (parts broadcasts root n r) ≡ 1)
broadcast_gets root n r i q e = by_size (cases_eq n 1)
  where
    by_size : (n ≡ 1) ⊎ (n ≡ 1 → ⊥) → (i ≡ 0) × (q ≡ root) × (length (parts broadcasts root n r) ≡ 1)
    by_size (inl one) =
        absurd (let f : slice_get (ends ∷ []) i ≡ Some (gets q) = rw (single broadcasts root n r one) at e in
        let l = lone ends (gets q) i f in (let h = l.1 in cc))
    by_size (inr ne) = by_root (cases_eq r root)
      where
        by_root : (r ≡ root) ⊎ (r ≡ root → ⊥) → (i ≡ 0) × (q ≡ root) × (length (parts broadcasts root n r) ≡ 1)
        by_root (inl same) = absurd (no_gets (others r 0 n) i q (rw (many broadcasts root n r ne, eq-eqb r root same) at e))
        by_root (inr other) =
            let l = lone (gets root) (gets q) i (rw (many broadcasts root n r ne, ne_eqb r root other) at e) in
            (l.0, (let h = l.1 in let z : root ≡ q = cc in sym z), rw (many broadcasts root n r ne, ne_eqb r root other) refl)

-- A send of a reduce is its one part.
pub reduce_gives : (f : Reduction) (root n r i d : ℕ) → slice_get (parts (folds f) root n r) i ≡ Some (gives d) → i + 1 ≡ length (parts (folds f) root n r)
reduce_gives f root n r i d e = by_size (cases_eq n 1)
  where
    by_size : (n ≡ 1) ⊎ (n ≡ 1 → ⊥) → i + 1 ≡ length (parts (folds f) root n r)
    by_size (inl one) =
        absurd (let g : slice_get (ends ∷ []) i ≡ Some (gives d) = rw (single (folds f) root n r one) at e in
        let l = lone ends (gives d) i g in (let h = l.1 in cc))
    by_size (inr ne) = by_root (cases_eq r root)
      where
        by_root : (r ≡ root) ⊎ (r ≡ root → ⊥) → i + 1 ≡ length (parts (folds f) root n r)
        by_root (inl same) = absurd (ends_behind (others r 0 n) i d (rw (many (folds f) root n r ne, eq-eqb r root same) at e))
        by_root (inr other) =
            let l = lone (gives root) (gives d) i (rw (many (folds f) root n r ne, ne_eqb r root other) at e) in
            rw (many (folds f) root n r ne, ne_eqb r root other) (let z = l.0 in omega (arith, z))

-- With more than one rank, rank 0 of a barrier gets from each other before it sends.
pub barrier_gets : (n s : ℕ) → (n ≡ 1 → ⊥) → 0 < n → s < n → (s ≡ 0 → ⊥) → (i : ℕ) × (slice_get (parts barriers 0 n 0) i ≡ Some (gets s))
    × (i + 1 < length (parts barriers 0 n 0)) × ((j d : ℕ) → slice_get (parts barriers 0 n 0) j ≡ Some (gives d) → i < j)
barrier_gets n s ne l m nz =
    let p = other_place 0 n s l m nz in
    let w = within_at (others 0 0 n) p.0 s p.1 in
    let there = longer_at (map gets (others 0 0 n)) (map gives (others 0 0 n)) p.0 (gets s) (mapped_at gets (others 0 0 n) p.0 s p.1) in
    let longer : length (parts barriers 0 n 0) ≡ length (others 0 0 n) + length (others 0 0 n) =
    rw (
      many barriers 0 n 0 ne,
      length-append (map gets (others 0 0 n)) (map gives (others 0 0 n)),
      length-map (others 0 0 n) gets,
      length-map (others 0 0 n) gives,
    ) refl in (
      p.0,
      rw (many barriers 0 n 0 ne) there,
      rw longer (omega (arith, w)),
      λ j d e. (let b = gives_behind (others 0 0 n) (map gives (others 0 0 n)) j d (rw (many barriers 0 n 0 ne) at e) in omega (arith, b, w)),
    )

-- Another rank first sends to rank 0, and then gets from it.
pub barrier_other : (n r : ℕ) → (n ≡ 1 → ⊥) → (r ≡ 0 → ⊥) → parts barriers 0 n r ≡ gives 0 ∷ gets 0 ∷ []
barrier_other n r ne nz = rw (many barriers 0 n r ne, ne_eqb r 0 nz) refl

-- another rank than the root of a broadcast gets
broadcast_other : (root n r : ℕ) → (n ≡ 1 → ⊥) → (r ≡ root → ⊥) → parts broadcasts root n r ≡ gets root ∷ []
broadcast_other root n r ne other = rw (many broadcasts root n r ne, ne_eqb r root other) refl

-- The root of a reduce gets from each other rank, and then folds.
reduce_root : (f : Reduction) (n r : ℕ) → r < n → parts (folds f) r n r ≡ map gets (others r 0 n) ++ ends ∷ []
reduce_root f n r l = by_size (cases_eq n 1)
  where
    by_size : (n ≡ 1) ⊎ (n ≡ 1 → ⊥) → parts (folds f) r n r ≡ map gets (others r 0 n) ++ ends ∷ []
    by_size (inl one) =
        let z : length (others r 0 n) ≡ 0 = (let e = length_others r 0 n (omega arith) (omega (arith, l)) in omega (arith, e, one)) in
        rw (single (folds f) r n r one, empty_list (others r 0 n) z) refl
      where
        empty_list : {A : Type 0} (xs : List A) → length xs ≡ 0 → xs ≡ []
        empty_list [] e = refl
        empty_list (x ∷ xs) e = absurd (omega (arith, e))
    by_size (inr ne) = rw (many (folds f) r n r ne, eq-eqb r r refl) refl

-- so the root has as many parts as there are ranks
pub reduce_length : (f : Reduction) (n r : ℕ) → r < n → length (parts (folds f) r n r) ≡ n
reduce_length f n r l =
    let e = length_others r 0 n (omega arith) (omega (arith, l)) in
    rw (reduce_root f n r l, one_more (map gets (others r 0 n)) ends, length-map (others r 0 n) gets) (omega (arith, e))

-- a reduce's root gets from a rank at the place of that rank among the others
pub reduce_gets : (f : Reduction) (n r i s : ℕ) → r < n → slice_get (others r 0 n) i ≡ Some s → slice_get (parts (folds f) r n r) i ≡ Some (gets s)
reduce_gets f n r i s l e = rw (reduce_root f n r l) (longer_at (map gets (others r 0 n)) (ends ∷ []) i (gets s) (mapped_at gets (others r 0 n) i s e))

-- no step of the rank's own stands among sends
no_ends : (xs : List ℕ) (i : ℕ) → slice_get (map gives xs) i ≡ Some ends → ⊥
no_ends [] i e = cc
no_ends (x ∷ xs) zero e = cc
no_ends (x ∷ xs) (suc i) e = no_ends xs i e

-- nor among receptions with sends behind them
no_ends_behind : (xs ys : List ℕ) (i : ℕ) → slice_get (map gets xs ++ map gives ys) i ≡ Some ends → ⊥
no_ends_behind [] ys i e = no_ends ys i e
no_ends_behind (x ∷ xs) ys zero e = cc
no_ends_behind (x ∷ xs) ys (suc i) e = no_ends_behind xs ys i e

-- the step of a reduce's root stands nowhere but behind its receptions
ends_place : (xs : List ℕ) (i : ℕ) → slice_get (map gets xs ++ ends ∷ []) i ≡ Some ends → i ≡ length xs
ends_place [] zero e = refl
ends_place [] (suc i) e = absurd cc
ends_place (x ∷ xs) zero e = absurd cc
ends_place (x ∷ xs) (suc i) e = ap suc (ends_place xs i e)

-- A step of the rank's own is the last part.
pub ends_is_last : (kind : CollectiveKind) (root n r i : ℕ) → slice_get (parts kind root n r) i ≡ Some ends → i + 1 ≡ length (parts kind root n r)
ends_is_last kind root n r i e = by_size (cases_eq n 1)
  where
    one : (i : ℕ) → slice_get (ends ∷ []) i ≡ Some ends → i + 1 ≡ 1
    one zero f = refl
    one (suc i) f = absurd cc

    two : (x y : ℕ) (i : ℕ) → slice_get (gives x ∷ gets y ∷ []) i ≡ Some ends → ⊥
    two x y zero f = cc
    two x y (suc zero) f = cc
    two x y (suc (suc i)) f = cc

    of_kind : (kind : CollectiveKind) → slice_get (parts_among kind root n r) i ≡ Some ends → i + 1 ≡ length (parts_among kind root n r)
    of_kind barriers f = absurd (at (cases_eq r 0))
      where
        at : (r ≡ 0) ⊎ (r ≡ 0 → ⊥) → ⊥
        at (inl q) = no_ends_behind (others 0 0 n) (others 0 0 n) i (rw (eq-eqb r 0 q) at f)
        at (inr q) = two 0 0 i (rw (ne_eqb r 0 q) at f)
    of_kind broadcasts f = absurd (at (cases_eq r root))
      where
        at : (r ≡ root) ⊎ (r ≡ root → ⊥) → ⊥
        at (inl q) = no_ends (others r 0 n) i (rw (eq-eqb r root q) at f)
        at (inr q) = (let l = lone (gets root) ends i (rw (ne_eqb r root q) at f) in let h = l.1 in cc)
    of_kind (folds g) f = at (cases_eq r root)
      where
        at : (r ≡ root) ⊎ (r ≡ root → ⊥) → i + 1 ≡ length (parts_among (folds g) root n r)
        at (inl q) =
            let w = ends_place (others r 0 n) i (rw (eq-eqb r root q) at f) in
            rw (eq-eqb r root q, one_more (map gets (others r 0 n)) ends, length-map (others r 0 n) gets) (omega (arith, w))
        at (inr q) = absurd (let l = lone (gives root) ends i (rw (ne_eqb r root q) at f) in let h = l.1 in cc)

    by_size : (n ≡ 1) ⊎ (n ≡ 1 → ⊥) → i + 1 ≡ length (parts kind root n r)
    by_size (inl s) = rw (single kind root n r s) (one i (rw (single kind root n r s) at e))
    by_size (inr ne) = rw (many kind root n r ne) (of_kind kind (rw (many kind root n r ne) at e))

-- only the root of a broadcast sends
pub broadcast_gives : (root n r i d : ℕ) → slice_get (parts broadcasts root n r) i ≡ Some (gives d) → r ≡ root
broadcast_gives root n r i d e = by_size (cases_eq n 1)
  where
    by_root : (n ≡ 1 → ⊥) → (r ≡ root) ⊎ (r ≡ root → ⊥) → r ≡ root
    by_root ne (inl q) = q
    by_root ne (inr q) = absurd (let l = lone (gets root) (gives d) i (rw (broadcast_other root n r ne q) at e) in let h = l.1 in cc)

    by_size : (n ≡ 1) ⊎ (n ≡ 1 → ⊥) → r ≡ root
    by_size (inl s) = absurd (let l = lone ends (gives d) i (rw (single broadcasts root n r s) at e) in let h = l.1 in cc)
    by_size (inr ne) = by_root ne (cases_eq r root)

-- and only with one rank is there a step of its own
pub broadcast_ends : (root n r i : ℕ) → slice_get (parts broadcasts root n r) i ≡ Some ends → n ≡ 1
broadcast_ends root n r i e = by_size (cases_eq n 1)
  where
    by_root : (n ≡ 1 → ⊥) → (r ≡ root) ⊎ (r ≡ root → ⊥) → n ≡ 1
    by_root ne (inl q) = absurd (no_ends (others r 0 n) i (rw (many broadcasts root n r ne, eq-eqb r root q) at e))
    by_root ne (inr q) = absurd (let l = lone (gets root) ends i (rw (broadcast_other root n r ne q) at e) in let h = l.1 in cc)

    by_size : (n ≡ 1) ⊎ (n ≡ 1 → ⊥) → n ≡ 1
    by_size (inl s) = s
    by_size (inr ne) = by_root ne (cases_eq r root)

-- the last part of a reduce's root is its own step
pub reduce_last : (f : Reduction) (n r i : ℕ) (p : Part) → r < n → slice_get (parts (folds f) r n r) i ≡ Some p
    → i + 1 ≡ length (parts (folds f) r n r) → p ≡ ends
reduce_last f n r i p l e last =
    let len = reduce_length f n r l in
    let m = length_others r 0 n (omega arith) (omega (arith, l)) in
    let same : i ≡ length (others r 0 n) = omega (arith, last, len, m) in
    let there : slice_get (parts (folds f) r n r) i ≡ Some ends = rw (reduce_root f n r l, same) (ends_last (others r 0 n)) in
    let q : Some p ≡ Some ends = sym e ∙ there in cc

-- only a reduce's root gets
pub reduce_gets_root : (f : Reduction) (root n r i q : ℕ) → slice_get (parts (folds f) root n r) i ≡ Some (gets q) → r ≡ root
reduce_gets_root f root n r i q e = by_size (cases_eq n 1)
  where
    by_root : (n ≡ 1 → ⊥) → (r ≡ root) ⊎ (r ≡ root → ⊥) → r ≡ root
    by_root ne (inl same) = same
    by_root ne (inr other) = absurd (let l = lone (gives root) (gets q) i (rw (many (folds f) root n r ne, ne_eqb r root other) at e) in let h = l.1 in cc)

    by_size : (n ≡ 1) ⊎ (n ≡ 1 → ⊥) → r ≡ root
    by_size (inl s) = absurd (let l = lone ends (gets q) i (rw (single (folds f) root n r s) at e) in let h = l.1 in cc)
    by_size (inr ne) = by_root ne (cases_eq r root)
