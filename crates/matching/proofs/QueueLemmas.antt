-- The number of the last packet of a source, from the back.
use Rattle.std.proofs.Common.{◌≡◌, ℕ, zero, suc, ◌+◌, ◌<◌, Bool, true, false, List, [], ◌∷◌, ◌++◌, length, Some, None, refl, sym, ap, ◌∙◌, arith}
use Rattle.std.proofs.Common.{◌-◌}
use Rattle.std.specs.Prelude.{Option, ◌==◌, nat_lt, if◌then◌else◌, option_map, option_and_then, position, slice_get, slice_index_or, remove}
use Rattle.std.specs.List.{position_or_len}
use Rattle.std.proofs.lemmas.Bool.{lt-ltb}
use Rattle.std.specs.Option.{IfSome, option_copied}
use Rattle.std.proofs.Common.{Bor}
use Rattle.std.proofs.lemmas.Option.{none-some, get_or_from_slice_get, slice_get-get_or, option_and_then_some}
use Rattle.std.proofs.lemmas.List.Edits.{remove-append_left, remove-append_right}
use Rattle.std.proofs.lemmas.List.Quantifiers.{position-Some}
use Rattle.matching.specs.PacketValue.{PacketValue}
use Rattle.matching.specs.Queue.{or_last, last_number, first_place, first_by, without_at, without_first}

-- a missing number before one changes nothing
or_last_none : (o : Option ℕ) → or_last None o ≡ o
or_last_none None = refl
or_last_none (Some n) = refl

-- the last of three, in either order
or_last_assoc : (a b c : Option ℕ) → or_last (or_last a b) c ≡ or_last a (or_last b c)
or_last_assoc a b None = refl
or_last_assoc a b (Some n) = refl

-- the packets behind decide, where there is one of the source
pub last_number-append : (source : ℕ) (ms ns : List PacketValue) → last_number source (ms ++ ns) ≡ or_last (last_number source ms) (last_number source ns)
last_number-append source [] ns = sym (or_last_none (last_number source ns))
last_number-append source (m ∷ ms) ns =
    ap (or_last (if m.source == source then Some m.number else None)) (last_number-append source ms ns)
    ∙ sym (or_last_assoc (if m.source == source then Some m.number else None) (last_number source ms) (last_number source ns))

-- one more behind, of another source
pub last_number-other : (source : ℕ) (ms : List PacketValue) (m : PacketValue) → (m.source == source) ≡ false
    → last_number source (ms ++ m ∷ []) ≡ last_number source ms
last_number-other source ms m other = last_number-append source ms (m ∷ []) ∙ rw other refl

-- or of this one
pub last_number-own : (source : ℕ) (ms : List PacketValue) (m : PacketValue) → (m.source == source) ≡ true
    → last_number source (ms ++ m ∷ []) ≡ Some m.number
last_number-own source ms m own = last_number-append source ms (m ∷ []) ∙ rw own refl

-- the first one passes: its place is 0
placed_here : (test : PacketValue → Bool) (m : PacketValue) (ms : List PacketValue) → test m ≡ true → position test (m ∷ ms) ≡ Some 0
placed_here test m ms e = rw e (rw (lt-ltb 0 (suc (length ms)) (omega arith)) refl)

-- the first one doesn't pass: one more than the place in the others
placed_next : (test : PacketValue → Bool) (m : PacketValue) (ms : List PacketValue) → test m ≡ false
    → position test (m ∷ ms) ≡ option_map (λ i. 1 + i) (position test ms)
placed_next test m ms e = rw e (shifted (position_or_len test ms) (length ms))
  where
    same_test : (k n : ℕ) → nat_lt (1 + k) (suc n) ≡ nat_lt k n
    same_test k n = grind arith

    shifted_bit : (b : Bool) (k : ℕ) → (if b then Some (1 + k) else None) ≡ option_map (λ i. 1 + i) (if b then Some k else None)
    shifted_bit true k = refl
    shifted_bit false k = refl

    shifted : (k n : ℕ) → (if nat_lt (1 + k) (suc n) then Some (1 + k) else None) ≡ option_map (λ i. 1 + i) (if nat_lt k n then Some k else None)
    shifted k n = rw (same_test k n) (shifted_bit (nat_lt k n) k)

-- a place in the first list, or one in the second counted from the first's beginning
abbrev or_right : ℕ → Option ℕ → Option ℕ → Option ℕ
or_right n (Some i) o = Some i
or_right n None o = option_map (λ i. n + i) o

-- the first place in two lists is that in the first, or else in the second
position-append : (test : PacketValue → Bool) (ms ns : List PacketValue)
    → position test (ms ++ ns) ≡ or_right (length ms) (position test ms) (position test ns)
position-append test [] ns = same (position test ns)
  where
    same : (o : Option ℕ) → o ≡ option_map (λ i. 0 + i) o
    same None = refl
    same (Some i) = ap Some (omega arith)
position-append test (m ∷ ms) ns = by (test m) refl (position-append test ms ns)
  where
    moved : (n : ℕ) (a b : Option ℕ) → option_map (λ i. 1 + i) (or_right n a b) ≡ or_right (suc n) (option_map (λ i. 1 + i) a) b
    moved n (Some i) b = refl
    moved n None None = refl
    moved n None (Some i) = ap Some (omega arith)

    by : (b : Bool) → test m ≡ b → position test (ms ++ ns) ≡ or_right (length ms) (position test ms) (position test ns)
        → position test (m ∷ ms ++ ns) ≡ or_right (suc (length ms)) (position test (m ∷ ms)) (position test ns)
    by true e rest = placed_here test m (ms ++ ns) e ∙ ap (λ o. or_right (suc (length ms)) o (position test ns)) (sym (placed_here test m ms e))
    by false e rest =
        placed_next test m (ms ++ ns) e ∙ ap (option_map (λ i. 1 + i)) rest
        ∙ moved (length ms) (position test ms) (position test ns)
        ∙ ap (λ o. or_right (suc (length ms)) o (position test ns)) (sym (placed_next test m ms e))

-- the first that passes stands in the first list
pub position-left : (test : PacketValue → Bool) (ms ns : List PacketValue) (i : ℕ) → position test ms ≡ Some i → position test (ms ++ ns) ≡ Some i
position-left test ms ns i first = position-append test ms ns ∙ ap (λ o. or_right (length ms) o (position test ns)) first

-- or in the second, counted from the first's beginning
pub position-right : (test : PacketValue → Bool) (ms ns : List PacketValue) → position test ms ≡ None
    → position test (ms ++ ns) ≡ option_map (λ i. length ms + i) (position test ns)
position-right test ms ns none = position-append test ms ns ∙ ap (λ o. or_right (length ms) o (position test ns)) none

-- the packet at a place of the first list
slice_get-left : (ms ns : List PacketValue) (i : ℕ) → i < length ms → slice_get (ms ++ ns) i ≡ slice_get ms i
slice_get-left [] ns i within = absurd (omega (arith, within))
slice_get-left (m ∷ ms) ns zero within = refl
slice_get-left (m ∷ ms) ns (suc i) within = slice_get-left ms ns i (omega (arith, within))

-- or of the second
slice_get-right : (ms ns : List PacketValue) (i : ℕ) → slice_get (ms ++ ns) (length ms + i) ≡ slice_get ns i
slice_get-right [] ns i = ap (slice_get ns) (omega arith)
slice_get-right (m ∷ ms) ns i = ap (slice_get (m ∷ ms ++ ns)) (next (length ms) i) ∙ slice_get-right ms ns i
  where
    next : (n i : ℕ) → suc n + i ≡ suc (n + i)
    next n i = omega arith

-- what is first in the first list is first, and is taken there
pub first_by-left : (test : PacketValue → Bool) (ms ns : List PacketValue) (i : ℕ) → position test ms ≡ Some i
    → (first_by test (ms ++ ns) ≡ slice_get ms i) × (without_first test (ms ++ ns) ≡ remove ms i ++ ns)
first_by-left test ms ns i first =
    let whole = position-left test ms ns i first in
    let within = within_list test ms i first in (
      ap (option_and_then (slice_get (ms ++ ns))) whole ∙ slice_get-left ms ns i within,
      ap (λ o. without_at o (ms ++ ns)) whole ∙ remove-append_left ms ns i within,
    )
  where
    within_list : (test : PacketValue → Bool) (ms : List PacketValue) (i : ℕ) → position test ms ≡ Some i → i < length ms
    within_list test [] i e = absurd (none-some i e)
    within_list test (m ∷ ms) i e = (position-Some test (m ∷ ms) i m e).0

-- and else what is first in the second
pub first_by-right : (test : PacketValue → Bool) (ms ns : List PacketValue) → position test ms ≡ None
    → (first_by test (ms ++ ns) ≡ first_by test ns) × (without_first test (ms ++ ns) ≡ ms ++ without_first test ns)
first_by-right test ms ns none = by (position test ns) refl
  where
    by : (o : Option ℕ) → position test ns ≡ o
        → (first_by test (ms ++ ns) ≡ first_by test ns) × (without_first test (ms ++ ns) ≡ ms ++ without_first test ns)
    by None e =
        let nowhere : position test (ms ++ ns) ≡ None = position-right test ms ns none ∙ ap (option_map (λ i. length ms + i)) e in (
          ap (option_and_then (slice_get (ms ++ ns))) nowhere ∙ sym (ap (option_and_then (slice_get ns)) e),
          ap (λ o. without_at o (ms ++ ns)) nowhere ∙ ap (λ o. ms ++ without_at o ns) (sym e),
        )
    by (Some i) e =
        let there : position test (ms ++ ns) ≡ Some (length ms + i) = position-right test ms ns none ∙ ap (option_map (λ k. length ms + k)) e in (
          ap (option_and_then (slice_get (ms ++ ns))) there ∙ slice_get-right ms ns i ∙ sym (ap (option_and_then (slice_get ns)) e),
          ap (λ o. without_at o (ms ++ ns)) there ∙ remove-append_right ms ns (length ms) (length ms + i) refl (omega arith)
              ∙ ap (λ k. ms ++ remove ns k) (less (length ms) i) ∙ ap (λ o. ms ++ without_at o ns) (sym e),
        )
      where
        less : (n i : ℕ) → (n + i) - n ≡ i
        less n i = omega arith

-- what is found passes the test
passes_at : (test : PacketValue → Bool) (ms : List PacketValue) (i : ℕ) (m : PacketValue) → position test ms ≡ Some i → slice_get ms i ≡ Some m → test m ≡ true
passes_at test ms i m first there = ap test (sym (get_or_from_slice_get ms i m m there)) ∙ (position-Some test ms i m first).1

-- so does what is first
passes : (test : PacketValue → Bool) (ms : List PacketValue) (m : PacketValue) → first_by test ms ≡ Some m → test m ≡ true
passes test ms m e = option_and_then_some (slice_get ms) (position test ms) m e (λ i first there. passes_at test ms i m first there)

-- by its place
pub found_fits : (test : PacketValue → Bool) (ms : List PacketValue) (r : Option ℕ) → r ≡ position test ms
    → IfSome r (λ i. (m : PacketValue) → slice_get ms i ≡ Some m → test m ≡ true)
found_fits test ms None e = tt
found_fits test ms (Some i) e = λ m there. passes_at test ms i m (sym e) there

-- by a reference
pub shown_fits : (test : PacketValue → Bool) (ms : List PacketValue) (r : Option (Bor PacketValue)) → option_copied r ≡ first_by test ms
    → IfSome r (λ m. test m.now ≡ true)
shown_fits test ms None e = tt
shown_fits test ms (Some m) e = passes test ms m.now (sym e)

-- or itself
pub taken_fits : (test : PacketValue → Bool) (ms : List PacketValue) (r : Option PacketValue) → r ≡ first_by test ms → IfSome r (λ m. test m ≡ true)
taken_fits test ms None e = tt
taken_fits test ms (Some m) e = passes test ms m (sym e)

-- what is first stands at the first place that passes
first_at : (test : PacketValue → Bool) (ms : List PacketValue) (m : PacketValue) → Some m ≡ first_by test ms
    → (position test ms ≡ Some (first_place test ms)) × (slice_get ms (first_place test ms) ≡ Some m)
first_at test ms m e = by (nat_lt (position_or_len test ms) (length ms)) refl
  where
    by : (b : Bool) → nat_lt (position_or_len test ms) (length ms) ≡ b
        → (position test ms ≡ Some (first_place test ms)) × (slice_get ms (first_place test ms) ≡ Some m)
    by true within =
        let at : position test ms ≡ Some (first_place test ms) = ap (λ b. if b then Some (position_or_len test ms) else None) within in
        (at, sym (e ∙ ap (option_and_then (slice_get ms)) at))
    by false past =
        let nowhere : position test ms ≡ None = ap (λ b. if b then Some (position_or_len test ms) else None) past in
        absurd (none-some m (sym (e ∙ ap (option_and_then (slice_get ms)) nowhere)))

-- and where none is, no place passes
none_at : (test : PacketValue → Bool) (ms : List PacketValue) → None ≡ first_by test ms → position test ms ≡ None
none_at test [] e = refl
none_at test (m ∷ ms) e = by (position test (m ∷ ms)) refl
  where
    by : (o : Option ℕ) → position test (m ∷ ms) ≡ o → position test (m ∷ ms) ≡ None
    by None at = at
    by (Some i) at =
        let there = slice_get-get_or (m ∷ ms) i m (position-Some test (m ∷ ms) i m at).0 in
        absurd (none-some (slice_index_or (m ∷ ms) i m) (e ∙ ap (option_and_then (slice_get (m ∷ ms))) at ∙ there))

-- the same by a reference
pub shown_none : (test : PacketValue → Bool) (ms : List PacketValue) (r : Option (Bor PacketValue)) → option_copied r ≡ first_by test ms
    → r ≡ None → position test ms ≡ None
shown_none test ms r e none = none_at test ms (sym (ap option_copied none) ∙ e)

-- it stands at the first place that passes
pub shown_place : (test : PacketValue → Bool) (ms : List PacketValue) (r : Option (Bor PacketValue)) → option_copied r ≡ first_by test ms
    → IfSome r (λ _. position test ms ≡ Some (first_place test ms))
shown_place test ms None e = tt
shown_place test ms (Some m) e = (first_at test ms m.now e).0

-- and that place has it
pub shown_there : (test : PacketValue → Bool) (ms : List PacketValue) (r : Option (Bor PacketValue)) → option_copied r ≡ first_by test ms
    → IfSome r (λ m. slice_get ms (first_place test ms) ≡ Some m.now)
shown_there test ms None e = tt
shown_there test ms (Some m) e = (first_at test ms m.now e).1

-- or itself
pub taken_none : (test : PacketValue → Bool) (ms : List PacketValue) (r : Option PacketValue) → r ≡ first_by test ms → r ≡ None → position test ms ≡ None
taken_none test ms r e none = none_at test ms (sym none ∙ e)

-- it stood at the first place that passes
pub taken_place : (test : PacketValue → Bool) (ms : List PacketValue) (r : Option PacketValue) → r ≡ first_by test ms
    → IfSome r (λ _. position test ms ≡ Some (first_place test ms))
taken_place test ms None e = tt
taken_place test ms (Some m) e = (first_at test ms m e).0

-- and that place had it
pub taken_there : (test : PacketValue → Bool) (ms : List PacketValue) (r : Option PacketValue) → r ≡ first_by test ms
    → IfSome r (λ m. slice_get ms (first_place test ms) ≡ Some m)
taken_there test ms None e = tt
taken_there test ms (Some m) e = (first_at test ms m e).1

-- and it leaves the others
pub taken_without : (test : PacketValue → Bool) (ms : List PacketValue) (r : Option PacketValue) → r ≡ first_by test ms
    → IfSome r (λ _. without_first test ms ≡ remove ms (first_place test ms))
taken_without test ms None e = tt
taken_without test ms (Some m) e = ap (λ o. without_at o ms) (first_at test ms m e).0
