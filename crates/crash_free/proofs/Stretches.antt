-- Steps of their own that ranks make side by side, as stretches that begin where their machines stand.
use Rattle.std.proofs.Common.{◌≡◌, ℕ, zero, suc, ◌+◌, ◌<◌, ◌≤◌, List, [], ◌∷◌, ◌++◌, Option, Some, length, refl, sym, ap, subst, ◌∙◌, arith, ◌⊎◌, inl, inr}
use Rattle.std.proofs.Common.{None, slice_get, slice_set, length-set}
use Rattle.std.specs.Prelude.{IsSomeAnd, slice_index_or}
use Rattle.std.specs.Prelude.{take}
use Rattle.std.proofs.lemmas.Bool.{cases_eq}
use Rattle.std.proofs.lemmas.List.{length_push}
use Rattle.std.proofs.Math.Seq.{take-append_seam}
use Rattle.std.proofs.lemmas.Option.{slice_get-get_or, slice_get_within}
use Rattle.rank_language.specs.Program.{ProgramValue}
use Rattle.rank_machine.specs.Machine.{MachineValue, Strides, KeepsRank}
use Rattle.rank_machine.proofs.Striding.{strides_are_inner}
use Rattle.crash_free.specs.declared.sim.stretches.Stretch.{Stretch}
use Rattle.crash_free.specs.Runs.{Passed}
use Rattle.crash_free.specs.Sim.{SimValue}
use Rattle.crash_free.specs.Slots.{Slot, IsKept}
use Rattle.crash_free.specs.SideBySide.{MakesSteps, GoSideBySide, StopAtActs}
use Rattle.crash_free.specs.Stretches.{GoesAhead, GoAhead, IsBefore, AreBefore, GoFrom, with_machine}
use Rattle.crash_free.proofs.Lists.{push_cases, there_is}
use Rattle.crash_free.proofs.Keeping.{set_there, set_apart, kept_inside}

-- one more stretch
pub before_push : (machines : List MachineValue) (left : List ℕ) (xs : List Stretch) (x : Stretch) → AreBefore machines left xs
    → IsBefore machines left (length xs) x → AreBefore machines left (xs ++ x ∷ [])
before_push machines left xs x before this r y at = go (push_cases xs x r y at)
  where
    go : (slice_get xs r ≡ Some y) ⊎ ((r ≡ length xs) × (y ≡ x)) → IsBefore machines left r y
    go (inl h) = before r y h
    go (inr h) = rw (h.0, h.1) this

-- what was read at a place stands there
read_there : {A : Type 0} (xs : List A) (i : ℕ) (d x : A) → slice_get xs i ≡ Some x → slice_index_or xs i d ≡ x
read_there xs i d x at =
    let read : slice_get xs i ≡ Some (slice_index_or xs i d) = slice_get-get_or xs i d (slice_get_within xs i x at) in
    let both : Some (slice_index_or xs i d) ≡ Some x = sym read ∙ at in
    cc

-- stretches that went ahead began where the machines stand
pub go_from : (machines : List MachineValue) (left : List ℕ) (xs ys : List Stretch) → length ys ≡ length xs → AreBefore machines left xs → GoAhead xs ys
    → GoFrom machines left ys
go_from machines left xs ys width before ahead r y at =
    let low = slice_get_within ys r y at in
    let x = there_is xs r (omega (arith, low, width)) in
    let goes : GoesAhead x.0 (slice_index_or ys r y) = subst (λ z. GoesAhead z (slice_index_or ys r y)) (read_there xs r y x.0 x.1) (ahead r y (omega (arith, low, width))) in
    (x.0, before r x.0 x.1, subst (λ z. GoesAhead x.0 z) (read_there ys r y y at) goes)

-- a machine that went on by steps of its own is kept in place of the one that it was
pub kept_taken : (program : ProgramValue) (machines : List MachineValue) (channels : List (List Slot)) (C : List Passed) (r : ℕ) (m' : MachineValue)
    → IsKept program machines channels C → IsSomeAnd (slice_get machines r) (λ m. KeepsRank m m' × (n : ℕ) × Strides n m m')
    → IsKept program (slice_set machines r m') channels C
kept_taken program machines channels C r m' kept goes = go (slice_get machines r) refl goes
  where
    go : (o : Option MachineValue) → slice_get machines r ≡ o → IsSomeAnd o (λ m. KeepsRank m m' × (n : ℕ) × Strides n m m')
        → IsKept program (slice_set machines r m') channels C
    go None at h = absurd h
    go (Some m) at h = kept_inside program machines channels C r m m' kept at h.0 (strides_are_inner h.1 m m' h.2)

-- What has been done of these stretches when the first are left: the other ranks have gone on to where theirs went.
pub record TakenUp (s : SimValue) (left : List ℕ) (ys rest : List Stretch) (s' : SimValue) (left' : List ℕ) : Type 0 where
  pub program : s'.program ≡ s.program
  pub run : s'.run ≡ s.run
  pub ranks : length s'.machines ≡ length s.machines
  pub width : length left' ≡ length left
  pub first : (r : ℕ) (y : Stretch) → slice_get rest r ≡ Some y → slice_get ys r ≡ Some y
  pub machines : (r : ℕ) (y : Stretch) → length rest ≤ r → slice_get ys r ≡ Some y → slice_get s'.machines r ≡ Some y.machine
  pub lefts : (r : ℕ) (y : Stretch) → length rest ≤ r → slice_get ys r ≡ Some y → slice_get left' r ≡ Some y.left
  pub others : (r : ℕ) → r < length rest → slice_get s'.machines r ≡ slice_get s.machines r

-- none has yet
pub taken_none : (s : SimValue) (left : List ℕ) (ys : List Stretch) → TakenUp s left ys ys s left
taken_none s left ys = record {
  program = refl;
  run = refl;
  ranks = refl;
  width = refl;
  first = λ r y at. at;
  machines = λ r y past at. absurd (let low = slice_get_within ys r y at in omega (arith, low, past));
  lefts = λ r y past at. absurd (let low = slice_get_within ys r y at in omega (arith, low, past));
  others = λ r low. refl;
}

-- what stands at the end of a list
at_end : (xs : List Stretch) (x : Stretch) → slice_get (xs ++ x ∷ []) (length xs) ≡ Some x
at_end [] x = refl
at_end (y ∷ xs) x = at_end xs x

-- and before it
before_end : (xs : List Stretch) (x : Stretch) (r : ℕ) (y : Stretch) → slice_get xs r ≡ Some y → slice_get (xs ++ x ∷ []) r ≡ Some y
before_end [] x r y at = cc
before_end (z ∷ xs) x zero y at = at
before_end (z ∷ xs) x (suc r) y at = before_end xs x r y at

-- the last stretch that is left is its rank's
pub last_there : (s s' : SimValue) (left left' : List ℕ) (ys old rest : List Stretch) (y : Stretch) → TakenUp s left ys old s' left' → old ≡ rest ++ y ∷ []
    → slice_get ys (length rest) ≡ Some y
last_there s s' left left' ys old rest y taken is = taken.first (length rest) y (ap (λ xs. slice_get xs (length rest)) is ∙ at_end rest y)

-- in a list with another entry at a place an entry past it is as before, and there it is the new one
set_from : {A B : Type 0} (f : B → A) (xs : List A) (ys : List B) (n : ℕ) (y : B) → n < length xs → slice_get ys n ≡ Some y
    → ((r : ℕ) (z : B) → n + 1 ≤ r → slice_get ys r ≡ Some z → slice_get xs r ≡ Some (f z))
    → (r : ℕ) (z : B) → n ≤ r → slice_get ys r ≡ Some z → slice_get (slice_set xs n (f y)) r ≡ Some (f z)
set_from f xs ys n y inside here past r z from at = go (cases_eq r n)
  where
    go : (r ≡ n) ⊎ (r ≡ n → ⊥) → slice_get (slice_set xs n (f y)) r ≡ Some (f z)
    go (inl same) =
        let both : Some y ≡ Some z = sym here ∙ ap (slice_get ys) (sym same) ∙ at in
        let one : y ≡ z = cc in
        ap (slice_get (slice_set xs n (f y))) same ∙ set_there xs n (f y) inside ∙ ap (λ v. Some (f v)) one
    go (inr apart) = set_apart xs n (f y) r apart ∙ past r z (omega (arith, from, apart)) at

-- one more has
pub taken_one : (s s' : SimValue) (left left' : List ℕ) (ys old rest : List Stretch) (y : Stretch) (place : ℕ) → TakenUp s left ys old s' left'
    → old ≡ rest ++ y ∷ [] → length ys ≡ length s.machines → length left ≡ length s.machines → place ≡ length rest
    → TakenUp s left ys rest (with_machine s' place y.machine) (slice_set left' place y.left)
taken_one s s' left left' ys old rest y place taken is many wide at = rw at taken_there
  where
    here : slice_get ys (length rest) ≡ Some y
    here = last_there s s' left left' ys old rest y taken is

    longer : length old ≡ length rest + 1
    longer = ap length is ∙ length_push rest y

    low : length rest < length ys
    low = slice_get_within ys (length rest) y here

    taken_there : TakenUp s left ys rest (with_machine s' (length rest) y.machine) (slice_set left' (length rest) y.left)
    taken_there =
        let ranks = taken.ranks in
        let width = taken.width in
        record {
          program = taken.program;
          run = taken.run;
          ranks = length-set s'.machines (length rest) y.machine ∙ ranks;
          width = length-set left' (length rest) y.left ∙ width;
          first = λ r z at. taken.first r z (ap (λ xs. slice_get xs r) is ∙ before_end rest y r z at);
          machines = set_from (λ (z : Stretch). z.machine) s'.machines ys (length rest) y (omega (arith, low, ranks, many)) here
              (λ r z past at. taken.machines r z (omega (arith, longer, past)) at);
          lefts = set_from (λ (z : Stretch). z.left) left' ys (length rest) y (omega (arith, low, width, many, wide)) here
              (λ r z past at. taken.lefts r z (omega (arith, longer, past)) at);
          others = λ r less. set_apart s'.machines (length rest) y.machine r (λ e. absurd (omega (arith, less, e))) ∙ taken.others r (omega (arith, longer, less));
        }

-- when all have, they went side by side
pub taken_all : (s s' : SimValue) (left left' : List ℕ) (ys rest : List Stretch) → TakenUp s left ys rest s' left' → length rest ≡ 0
    → length ys ≡ length s.machines → length left ≡ length s.machines → GoFrom s.machines left ys → GoSideBySide s left left' s'
taken_all s s' left left' ys rest taken none many wide from = record {
  program = taken.program;
  run = taken.run;
  ranks = taken.ranks;
  width = taken.width;
  each = λ r k j at at'.
      let low = slice_get_within left r k at in
      let y = there_is ys r (omega (arith, low, many, wide)) in
      let x = from r y.0 y.1 in
      let past : length rest ≤ r = omega (arith, none) in
      let had : Some k ≡ Some (x.0).left = sym at ∙ x.1.has in
      let has : Some j ≡ Some (y.0).left = sym at' ∙ taken.lefts r y.0 past y.1 in
      let one : k ≡ (x.0).left = cc in
      let two : j ≡ (y.0).left = cc in
      rw (x.1.stands, taken.machines r y.0 past y.1)
      (subst (λ a. MakesSteps a j (x.0).machine (y.0).machine) (sym one) (subst (λ a. MakesSteps (x.0).left a (x.0).machine (y.0).machine) (sym two) x.2.makes));
}

-- and each that has steps left stands at an act
pub taken_stops : (s s' : SimValue) (left left' : List ℕ) (ys rest : List Stretch) → TakenUp s left ys rest s' left' → length rest ≡ 0
    → length ys ≡ length s.machines → length left ≡ length s.machines → GoFrom s.machines left ys → StopAtActs left' s'
taken_stops s s' left left' ys rest taken none many wide from r j at some =
    let width = taken.width in
    let low = slice_get_within left' r j at in
    let y = there_is ys r (omega (arith, low, many, wide, width)) in
    let x = from r y.0 y.1 in
    let past : length rest ≤ r = omega (arith, none) in
    let has : Some j ≡ Some (y.0).left = sym at ∙ taken.lefts r y.0 past y.1 in
    let two : j ≡ (y.0).left = cc in
    let there = taken.machines r y.0 past y.1 in
    (_, rw there (record { at_want = refl; from_state = x.2.from_state }), x.2.stops (subst (λ k. 0 < k) two some))

-- what was written back is what was lent
pub written_back : {A : Type 0} (n : ℕ) (xs ys : List A) → length xs ≡ n → take n (xs ++ ys) ≡ xs
written_back n xs ys is = ap (λ k. take k (xs ++ ys)) (sym is) ∙ take-append_seam xs ys
