-- Lines that are put behind others.
use Rattle.std.proofs.Common.{◌≡◌, ◌<◌, ◌≤◌, ◌-◌, ◌+◌, ℕ, zero, suc, List, [], ◌∷◌, ◌++◌, length, refl, ap, append_assoc, arith, sym, ◌∙◌}
use Rattle.std.proofs.lemmas.List.{length-append}
use Rattle.rank_text.specs.declared.grammar.form.Form as source_form
use Rattle.rank_text.specs.Checker.SeenLines.{forms_seen}
use Rattle.rank_text.specs.Grammar.Forms.{Form}
use Rattle.rank_language.specs.StandOn.{StandOn}
use Rattle.telling.specs.Lines.{repeated}

-- a line more, and one less to come
pub repeated_more : (xs : List ℕ) (n left : ℕ) → 0 < left → (xs ++ n ∷ []) ++ repeated n (left - 1) ≡ xs ++ repeated n left
repeated_more xs n zero some = absurd (omega (arith, some))
repeated_more xs n (suc left) some =
    let e : suc left - 1 ≡ left = omega arith in
    ap (λ k. (xs ++ n ∷ []) ++ repeated n k) e ∙ append_assoc xs (n ∷ []) (repeated n left)

-- there are so many of them
repeated_length : (n times : ℕ) → length (repeated n times) ≡ times
repeated_length n zero = refl
repeated_length n (suc times) = ap suc (repeated_length n times)

-- with these each has one
pub as_many : (before lines : List ℕ) (n count : ℕ) → length before ≤ count → lines ≡ before ++ repeated n (count - length before) → length lines ≡ count
as_many before lines n count few is =
    let whole : length lines ≡ length before + (count - length before) =
    ap (λ (xs : List ℕ). length xs) is ∙ length-append before (repeated n (count - length before)) ∙ ap (λ k. length before + k) (repeated_length n (count - length before)) in
    omega (arith, whole, few)

-- a statement is seen as one
seen_length : (fs : List source_form.Form) → length (forms_seen fs) ≡ length fs
seen_length [] = refl
seen_length (f ∷ fs) = ap suc (seen_length fs)

-- statements that are put are more
put_length : (old new : List source_form.Form) (made : List Form) → forms_seen new ≡ forms_seen old ++ made → length new ≡ length old + length made
put_length old new made put =
    sym (seen_length new) ∙ ap (λ (fs : List Form). length fs) put ∙ length-append (forms_seen old) made ∙ ap (λ k. k + length made) (seen_length old)

-- so there are no more lines
pub not_more : (old new : List source_form.Form) (lines : List ℕ) (made : List Form) → length lines ≡ length old → forms_seen new ≡ forms_seen old ++ made
    → length lines ≤ length new
not_more old new lines made each put = (let whole = put_length old new made put in omega (arith, whole, each))

-- and those that are put have their line
pub so_many : (old new : List source_form.Form) (lines after : List ℕ) (made : List Form) (n : ℕ) → length lines ≡ length old
    → forms_seen new ≡ forms_seen old ++ made → after ≡ lines ++ repeated n (length new - length lines) → after ≡ lines ++ repeated n (length made)
so_many old new lines after made n each put is =
    let whole = put_length old new made put in
    let same : length new - length lines ≡ length made = omega (arith, whole, each) in
    is ∙ ap (λ k. lines ++ repeated n k) same

-- there is a number for each statement
pub numbered : (text : List ℕ) (forms : List source_form.Form) (numbers : List ℕ) → StandOn text (forms_seen forms) numbers → length numbers ≡ length forms
numbered text forms numbers stand = stand.each ∙ seen_length forms
