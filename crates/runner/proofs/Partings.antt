-- Where the choices of one outcome part from those before it, brought up to date from the outcome before.
use Rattle.std.proofs.Common.{◌≡◌, ◌≢◌, ℕ, zero, suc, ◌<◌, ◌≤◌, ◌+◌, List, [], ◌∷◌, ◌++◌, Option}
use Rattle.std.proofs.Common.{Some, None, length, slice_get, ◌⊎◌, inl, inr, refl, sym, ap, subst, ◌∙◌, arith}
use Rattle.std.specs.Prelude.{take}
use Rattle.std.proofs.lemmas.Bool.{cases_lt}
use Rattle.std.proofs.lemmas.Option.{slice_get_within}
use Rattle.crash_free.proofs.Lists.{push_cases}
use Rattle.explore.specs.declared.moves.Noted.{Noted}
use Rattle.explore.specs.Outcomes.{IsAmong}
use Rattle.explore.proofs.Among.{among_last, among_none}
use Rattle.runner.specs.Partings.{AreOfLast, ArePartings, IsParting, PartsFrom, PartsOn}
use Rattle.runner.specs.declared.explored.parting.Parted.{Parted}

-- lists that are the same up to a place begin with the same elements
same_take : {A : Type 0} (xs ys : List A) (k : ℕ) → ((i : ℕ) → i < k → slice_get xs i ≡ slice_get ys i) → take k xs ≡ take k ys
same_take xs ys zero same = refl
same_take [] [] (suc k) same = refl
same_take [] (y ∷ ys) (suc k) same = (let e : None ≡ Some y = same zero (omega arith) in absurd cc)
same_take (x ∷ xs) [] (suc k) same = (let e : Some x ≡ None = same zero (omega arith) in absurd cc)
same_take (x ∷ xs) (y ∷ ys) (suc k) same =
    let e : Some x ≡ Some y = same zero (omega arith) in
    let first : x ≡ y = cc in
    let rest : take k xs ≡ take k ys = same_take xs ys k (λ i low. same (suc i) (omega (arith, low))) in
    rw (first, rest) refl

-- and where they begin with the same, they are the same up to there
take_same : {A : Type 0} (xs ys : List A) (k i : ℕ) → take k xs ≡ take k ys → i < k → slice_get xs i ≡ slice_get ys i
take_same xs ys zero i same low = absurd (omega (arith, low))
take_same [] [] (suc k) i same low = refl
take_same [] (y ∷ ys) (suc k) i same low = absurd cc
take_same (x ∷ xs) [] (suc k) i same low = absurd cc
take_same (x ∷ xs) (y ∷ ys) (suc k) zero same low = (let first : x ≡ y = cc in ap (λ z. Some z) first)
take_same (x ∷ xs) (y ∷ ys) (suc k) (suc i) same low =
    let rest : take k xs ≡ take k ys = cc in
    take_same xs ys k i rest (omega (arith, low))

-- an element of the first ones stands at a place before
taken_before : {A : Type 0} (xs : List A) (k i : ℕ) (x : A) → slice_get (take k xs) i ≡ Some x → (i < k) × (slice_get xs i ≡ Some x)
taken_before [] zero i x there = absurd cc
taken_before [] (suc k) i x there = absurd cc
taken_before (y ∷ xs) zero i x there = absurd cc
taken_before (y ∷ xs) (suc k) zero x there = (omega arith, there)
taken_before (y ∷ xs) (suc k) (suc i) x there =
    let rest = taken_before xs k i x there in
    let low = rest.0 in
    (omega (arith, low), rest.1)

-- places with the same parts are one
same_parted : (x y : Parted) → x.at ≡ y.at → x.chosen ≡ y.chosen → x.before ≡ y.before → x ≡ y
same_parted x y place chosen before =
    ap (λ k. record { at = k; chosen = x.chosen; before = x.before }) place
    ∙ ap (λ c. record { at = y.at; chosen = c; before = x.before }) chosen
    ∙ ap (λ c. record { at = y.at; chosen = y.chosen; before = c }) before

-- past its end a list has none
pub past_end : {A : Type 0} (xs : List A) (k : ℕ) (x : A) → length xs ≤ k → slice_get xs k ≡ Some x → ⊥
past_end xs k x past there = (let low = slice_get_within xs k x there in omega (arith, low, past))

-- Two lists of choices that are the same before this place, and not there
module _ (last own : List Noted) (at : ℕ) (same : (i : ℕ) → i < at → slice_get own i ≡ slice_get last i)
    (apart : (chosen before : Noted) → slice_get own at ≡ Some chosen → slice_get last at ≡ Some before → chosen ≢ before) where
  -- part nowhere else
  parts_there : (one : Parted) → PartsFrom own last one → one.at ≡ at
  parts_there one parts = go (cases_lt one.at at) (cases_lt at one.at)
    where
      go : (one.at < at) ⊎ (at ≤ one.at) → (at < one.at) ⊎ (one.at ≤ at) → one.at ≡ at
      go (inl low) high =
          let e : Some one.chosen ≡ Some one.before = sym parts.here ∙ same one.at low ∙ parts.there in
          absurd (parts.apart cc)
      go (inr more) (inr less) = omega (arith, more, less)
      go (inr more) (inl high) = absurd (past (slice_get own at) refl (slice_get last at) refl)
        where
          equal : slice_get own at ≡ slice_get last at
          equal = take_same own last one.at at parts.along high

          past : (a : Option Noted) → slice_get own at ≡ a → (b : Option Noted) → slice_get last at ≡ b → ⊥
          past (Some a) e (Some b) f = (let z : Some a ≡ Some b = sym e ∙ equal ∙ f in apart a b e f cc)
          past (Some a) e None f = (let z : Some a ≡ None = sym e ∙ equal ∙ f in cc)
          past None e b f = ends own at one.at one.chosen e high parts.here
            where
              ends : (xs : List Noted) (i j : ℕ) (x : Noted) → slice_get xs i ≡ None → i < j → slice_get xs j ≡ Some x → ⊥
              ends [] i j x none low some = cc
              ends (y ∷ xs) zero j x none low some = cc
              ends (y ∷ xs) (suc i) zero x none low some = absurd (omega (arith, low))
              ends (y ∷ xs) (suc i) (suc j) x none low some = ends xs i j x none (omega (arith, low)) some

  -- those that are kept, where there is no choice more in one of them
  pub kept_alone : (old new : List Parted) (count : ℕ) → new ≡ take count old
      → ((i : ℕ) (one : Parted) → i < count → slice_get old i ≡ Some one → one.at < at)
      → ((chosen before : Noted) → slice_get own at ≡ Some chosen → slice_get last at ≡ Some before → ⊥) → PartsOn last own old new
  kept_alone old new count kept low none =
      record {
        each = λ one a. inr (kept_one one (subst (λ xs. IsAmong xs one) kept a));
        among =
            λ one parts.
            (let e = parts_there one parts in
            absurd (none one.chosen one.before (subst (λ k. slice_get own k ≡ Some one.chosen) e parts.here)
            (subst (λ k. slice_get last k ≡ Some one.before) e parts.there)));
      }
    where
      kept_one : (one : Parted) → IsAmong (take count old) one → IsAmong old one × (take (suc one.at) own ≡ take (suc one.at) last)
      kept_one one a =
          let there = taken_before old count a.0 one a.1 in
          let before : one.at < at = low a.0 one there.0 there.1 in
          ((a.0, there.1), same_take own last (suc one.at) (λ i less. same i (omega (arith, less, before))))

  -- and where the two part
  pub kept_and_new : (old new : List Parted) (count : ℕ) (one : Parted) → new ≡ take count old ++ one ∷ [] → one.at ≡ at
      → slice_get own at ≡ Some one.chosen → slice_get last at ≡ Some one.before
      → ((i : ℕ) (x : Parted) → i < count → slice_get old i ≡ Some x → x.at < at) → PartsOn last own old new
  kept_and_new old new count one more there here before low =
      record {
        each = λ x a. go x a.0 (push_cases (take count old) one a.0 x (subst (λ xs. slice_get xs a.0 ≡ Some x) more a.1));
        among = λ x parts. subst (λ z. IsAmong new z) (sym (is_one x parts)) (subst (λ xs. IsAmong xs one) (sym more) (among_last (take count old) one));
      }
    where
      own_one : PartsFrom own last one
      own_one =
          record {
            along = same_take own last one.at (λ i less. same i (omega (arith, less, there)));
            here = subst (λ k. slice_get own k ≡ Some one.chosen) (sym there) here;
            there = subst (λ k. slice_get last k ≡ Some one.before) (sym there) before;
            apart = apart one.chosen one.before here before;
          }

      go : (x : Parted) (i : ℕ) → (slice_get (take count old) i ≡ Some x) ⊎ ((i ≡ length (take count old)) × (x ≡ one))
          → PartsFrom own last x ⊎ (IsAmong old x × (take (suc x.at) own ≡ take (suc x.at) last))
      go x i (inl kept) =
          let stood = taken_before old count i x kept in
          let less : x.at < at = low i x stood.0 stood.1 in
          inr ((i, stood.1), same_take own last (suc x.at) (λ j lower. same j (omega (arith, lower, less))))
      go x i (inr e) = inl (subst (PartsFrom own last) (sym e.1) own_one)

      is_one : (x : Parted) → PartsFrom own last x → x ≡ one
      is_one x parts =
          let place : x.at ≡ one.at = parts_there x parts ∙ sym there in
          let e : Some x.chosen ≡ Some one.chosen =
          sym parts.here ∙ subst (λ k. slice_get own k ≡ Some one.chosen) (sym (parts_there x parts)) here in
          let f : Some x.before ≡ Some one.before =
          sym parts.there ∙ subst (λ k. slice_get last k ≡ Some one.before) (sym (parts_there x parts)) before in
          let chosen : x.chosen ≡ one.chosen = cc in
          let instead : x.before ≡ one.before = cc in
          same_parted x one place chosen instead

-- before the first outcome there is none
pub none_parted : (choices : List (List Noted)) (index : ℕ) (parted : List Parted) → AreOfLast choices index parted → index ≡ 0
    → ArePartings choices index parted
none_parted choices zero parted empty e =
    record {
      each = λ one a. absurd (among_none one (subst (λ xs. IsAmong xs one) empty a));
      from_last = λ last own others one next. absurd cc;
    }
none_parted choices (suc index) parted of_last e = absurd cc

-- Of the next outcome they are those that are brought up to date.
pub parted_on : (choices : List (List Noted)) (index before : ℕ) (last own : List Noted) (old new : List Parted) → AreOfLast choices index old
    → index ≡ suc before → slice_get choices before ≡ Some last → slice_get choices index ≡ Some own → PartsOn last own old new
    → ArePartings choices index new
parted_on choices zero before last own old new of_last next there here on = absurd cc
parted_on choices (suc k) before last own old new of_last next there here on =
    record {
      each = λ one a. go one (on.each one a);
      from_last =
          λ j mine others one e f g parts.
          (let prior : j ≡ before = cc in
          let last_there : Some others ≡ Some last = sym g ∙ subst (λ i. slice_get choices i ≡ Some last) (sym prior) there in
          let own_there : Some mine ≡ Some own = sym f ∙ here in
          let same_last : others ≡ last = cc in
          let same_own : mine ≡ own = cc in
          on.among one (subst (λ xs. PartsFrom own xs one) same_last (subst (λ xs. PartsFrom xs others one) same_own parts)));
    }
  where
    same : k ≡ before
    same = cc

    go : (one : Parted) → PartsFrom own last one ⊎ (IsAmong old one × (take (suc one.at) own ≡ take (suc one.at) last)) → IsParting choices (suc k) one
    go one (inl parts) =
        record {
          own = own;
          own_there = here;
          earlier = before;
          before = omega (arith, same);
          others = last;
          others_there = there;
          parts = parts;
        }
    go one (inr kept) =
        let was : IsParting choices k one = of_last.each one kept.0 in
        let less = was.before in
        let e : Some was.own ≡ Some last = sym was.own_there ∙ subst (λ i. slice_get choices i ≡ Some last) (sym same) there in
        let is : was.own ≡ last = cc in
        let parts : PartsFrom last was.others one = subst (λ xs. PartsFrom xs was.others one) is was.parts in
        record {
          own = own;
          own_there = here;
          earlier = was.earlier;
          before = omega (arith, less);
          others = was.others;
          others_there = was.others_there;
          parts =
              record {
                along = same_take own last one.at (λ i low. take_same own last (suc one.at) i kept.1 (omega (arith, low))) ∙ parts.along;
                here = take_same own last (suc one.at) one.at kept.1 (omega arith) ∙ parts.here;
                there = parts.there;
                apart = parts.apart;
              };
        }

-- so they are those of the last, for the next one
pub of_next : (choices : List (List Noted)) (index next : ℕ) (parted : List Parted) → ArePartings choices index parted → next ≡ index + 1
    → AreOfLast choices next parted
of_next choices index next parted partings e =
    let more : suc index ≡ next = omega (arith, e) in
    subst (λ k. AreOfLast choices k parted) more partings
