-- The moves that a search goes on with: what holds of all that are open holds of those that it keeps.
use Rattle.std.proofs.Common.{◌≡◌, ℕ, zero, suc, ◌<◌, Bool, true, false, List, [], ◌∷◌, Some, length, slice_get, ◌⊎◌, inl, inr, refl, sym, ap, subst, arith}
use Rattle.std.specs.Prelude.{◌||◌, cond}
use Rattle.std.specs.List.{filter, list_any}
use Rattle.std.proofs.lemmas.Bool.{eq-eqb, eqb-true}
use Rattle.crash_free.specs.Sim.{SimValue, choice_of}
use Rattle.explore.specs.declared.moves.Move.{Move}
use Rattle.explore.specs.Narrowing.{is_of, ArePersistent, AreKept}
use Rattle.explore.specs.Moves.{move_of, HasAllOf, HasAll, AreOfRanks}
use Rattle.explore.specs.Outcomes.{IsAmong, AreDistinct}
use Rattle.explore.specs.declared.send_mode.SendMode.{SendMode}
use Rattle.crash_free.specs.Sim.{start_of}
use Rattle.explore.specs.Sending.{IsReleasedAt}
use Rattle.explore.specs.declared.send_mode.SendMode.TheVariants.{Buffered}
use Rattle.explore.proofs.Sending.{persistent_under}

-- Some that pass a test

module _ {A : Type 0} (p : A → Bool) where
  -- each that is kept is one of them, and passes
  pub among_kept : (xs : List A) (x : A) → IsAmong (filter p xs) x → IsAmong xs x × (p x ≡ true)
  among_kept [] x a = absurd (let e = a.1 in cc)
  among_kept (y ∷ ys) x a = by (λ b. among_kept ys x b) (p y) refl
    where
      more : IsAmong ys x × (p x ≡ true) → IsAmong (y ∷ ys) x × (p x ≡ true)
      more there = ((suc there.0.0, there.0.1), there.1)

      first : (IsAmong (filter p ys) x → IsAmong ys x × (p x ≡ true)) → p y ≡ true → (i : ℕ) → slice_get (y ∷ filter p ys) i ≡ Some x
          → IsAmong (y ∷ ys) x × (p x ≡ true)
      first rest e zero at = (let same : y ≡ x = cc in ((zero, at), subst (λ z. p z ≡ true) same e))
      first rest e (suc i) at = more (rest (i, at))

      by : (IsAmong (filter p ys) x → IsAmong ys x × (p x ≡ true)) → (b : Bool) → p y ≡ b → IsAmong (y ∷ ys) x × (p x ≡ true)
      by rest true e = first rest e a.0 (subst (λ b. slice_get (cond b (y ∷ filter p ys) (filter p ys)) a.0 ≡ Some x) e a.1)
      by rest false e = more (rest (a.0, subst (λ b. slice_get (cond b (y ∷ filter p ys) (filter p ys)) a.0 ≡ Some x) e a.1))

  -- each of them that passes is kept
  pub kept_among : (xs : List A) (x : A) → IsAmong xs x → p x ≡ true → IsAmong (filter p xs) x
  kept_among [] x a passes = absurd (let e = a.1 in cc)
  kept_among (y ∷ ys) x a passes = go (λ i at. kept_among ys x (i, at) passes) a.0 a.1
    where
      later : (b : Bool) → IsAmong (filter p ys) x → IsAmong (cond b (y ∷ filter p ys) (filter p ys)) x
      later true there = (suc there.0, there.1)
      later false there = there

      go : ((i : ℕ) → slice_get ys i ≡ Some x → IsAmong (filter p ys) x) → (i : ℕ) → slice_get (y ∷ ys) i ≡ Some x → IsAmong (filter p (y ∷ ys)) x
      go rest zero at =
          let same : x ≡ y = cc in
          subst (λ b. IsAmong (cond b (y ∷ filter p ys) (filter p ys)) x) (sym (subst (λ z. p z ≡ true) same passes)) (zero, at)
      go rest (suc i) at = later (p y) (rest i at)

  -- one of them passes, if any does
  pub some_of : (xs : List A) → list_any p xs ≡ true → (x : A) × IsAmong xs x × (p x ≡ true)
  some_of [] e = absurd (let q : false ≡ true = e in cc)
  some_of (y ∷ ys) e = by (λ q. some_of ys q) (p y) refl e
    where
      by : (list_any p ys ≡ true → (x : A) × IsAmong ys x × (p x ≡ true)) → (b : Bool) → p y ≡ b → (b || list_any p ys) ≡ true
          → (x : A) × IsAmong (y ∷ ys) x × (p x ≡ true)
      by rest true q f = (y, (zero, refl), q)
      by rest false q f = (let r = rest f in (r.0, (suc r.1.0, r.1.1), r.2))

  -- one is kept, if one passes
  pub some_kept : (xs : List A) → list_any p xs ≡ true → 0 < length (filter p xs)
  some_kept [] e = absurd (let q : false ≡ true = e in cc)
  some_kept (y ∷ ys) e = by (λ q. some_kept ys q) (p y) refl
    where
      by : (list_any p ys ≡ true → 0 < length (filter p ys)) → (b : Bool) → p y ≡ b → 0 < length (filter p (y ∷ ys))
      by rest true q = subst (λ b. 0 < length (cond b (y ∷ filter p ys) (filter p ys))) (sym q) (omega arith)
      by rest false q =
          subst (λ b. 0 < length (cond b (y ∷ filter p ys) (filter p ys))) (sym q) (rest (subst (λ b. (b || list_any p ys) ≡ true) q e))

  -- one more is distinct from those that are kept, if it is from all
  distinct_more : (y : A) (ys : List A) → AreDistinct (y ∷ ys) → AreDistinct (filter p ys) → AreDistinct (y ∷ filter p ys)
  distinct_more y ys distinct rest zero zero x a b = refl
  distinct_more y ys distinct rest zero (suc j) x a b =
      let there = (among_kept ys x (j, b)).0 in
      absurd (let one : zero ≡ suc there.0 = distinct zero (suc there.0) x a there.1 in omega (arith, one))
  distinct_more y ys distinct rest (suc i) zero x a b =
      let there = (among_kept ys x (i, a)).0 in
      absurd (let one : zero ≡ suc there.0 = distinct zero (suc there.0) x b there.1 in omega (arith, one))
  distinct_more y ys distinct rest (suc i) (suc j) x a b = ap suc (rest i j x a b)

  -- those that are kept are distinct, if all are
  pub distinct_kept : (xs : List A) → AreDistinct xs → AreDistinct (filter p xs)
  distinct_kept [] distinct = λ i j x a b. absurd (let e = a in cc)
  distinct_kept (y ∷ ys) distinct =
      by (distinct_kept ys (λ i j x a b. (let one : suc i ≡ suc j = distinct (suc i) (suc j) x a b in omega (arith, one)))) (p y)
    where
      by : AreDistinct (filter p ys) → (b : Bool) → AreDistinct (cond b (y ∷ filter p ys) (filter p ys))
      by rest true = distinct_more y ys distinct rest
      by rest false = rest

-- Moves

-- The moves are enough to go on with: there is one for each act that may be made next; or they are those of one rank, whose acts are persistent, and
-- there is one for each act that it may make.
abbrev pub Suffice : SendMode → SimValue → List Move → Type 0
Suffice mode s moves = HasAll mode s moves ⊎ ((r : ℕ) × ArePersistent mode s r × HasAllOf mode s moves r × ((m : Move) → IsAmong moves m → m.rank ≡ r))

module _ (mode : SendMode) (s : SimValue) (moves kept : List Move) (are : AreKept mode s moves kept) where
  -- so are those that are kept, if all are open
  pub suffice_kept : HasAll mode s moves → Suffice mode s kept
  suffice_kept all = go are
    where
      go : AreKept mode s moves kept → Suffice mode s kept
      go (inl same) = inl (subst (λ ms. HasAll mode s ms) (sym same) all)
      go (inr one) =
          inr (
            one.0,
            one.1.0,
            λ act may.
                subst (λ ms. IsAmong ms (move_of one.0 (choice_of act))) (sym one.2)
                (kept_among (is_of one.0) moves (move_of one.0 (choice_of act)) (all one.0 act may) (eq-eqb one.0 one.0 refl)),
            λ m a. eqb-true m.rank one.0 (among_kept (is_of one.0) moves m (subst (λ ms. IsAmong ms m) one.2 a)).1,
          )

  -- each of them is one of those before
  pub kept_before : (m : Move) → IsAmong kept m → IsAmong moves m
  kept_before m a = go are
    where
      go : AreKept mode s moves kept → IsAmong moves m
      go (inl same) = subst (λ ms. IsAmong ms m) same a
      go (inr one) = (among_kept (is_of one.0) moves m (subst (λ ms. IsAmong ms m) one.2 a)).0

  pub ranks_kept : AreOfRanks mode s moves → AreOfRanks mode s kept
  ranks_kept acts m a = acts m (kept_before m a)

  pub once_kept : AreDistinct moves → AreDistinct kept
  once_kept once = go are
    where
      go : AreKept mode s moves kept → AreDistinct kept
      go (inl same) = subst (λ ms. AreDistinct ms) (sym same) once
      go (inr one) = subst (λ ms. AreDistinct ms) (sym one.2) (distinct_kept (is_of one.0) moves once)

  pub one_kept : 0 < length moves → 0 < length kept
  one_kept some = go are
    where
      go : AreKept mode s moves kept → 0 < length kept
      go (inl same) = subst (λ ms. 0 < length ms) (sym same) some
      go (inr one) = subst (λ ms. 0 < length ms) (sym one.2) (some_kept (is_of one.0) moves one.1.1)

-- what is kept where no send waits is kept by the mode: no send holds a rank that has moves
pub kept_under : (mode : SendMode) → (s : SimValue) (moves kept : List Move) → AreOfRanks mode s moves → AreKept Buffered s moves kept
    → AreKept mode s moves kept
kept_under mode s moves kept acts (inl same) = inl same
kept_under mode s moves kept acts (inr one) =
    let some = some_of (is_of one.0) moves one.1.1 in
    let may = (acts some.0 some.1).2 in
    let free : IsReleasedAt mode s one.0 = subst (λ q. IsReleasedAt mode s q) (eqb-true some.0.rank one.0 some.2) may.1.2 in
    inr (
      one.0,
      (persistent_under mode (start_of s.program (length s.machines)) (length s.machines) s.run one.0 free one.1.0, one.1.1),
      one.2,
    )
