-- The lines that aren't skipped are those on which the statements stand.
-- By cases over the text's lines: a skipped line leaves statements and numbers, and each other one has the first of both.
use Rattle.std.specs.Prelude.{◌≡◌, ℕ, zero, suc, ◌+◌, ◌<◌, ◌≤◌, List, [], ◌∷◌, true, false, length, Some, None, IsSomeAnd, slice_get}
use Rattle.std.proofs.Common.{refl, sym, ap, subst, arith}
use Rattle.rank_text.specs.Lines.Pieces.{pieces_of}
use Rattle.rank_text.specs.Grammar.Forms.{Form}
use Rattle.rank_text.specs.Checker.Lines.{is_skipped}
use Rattle.rank_text.specs.Checker.Scope.{Scope}
use Rattle.rank_text.specs.Checker.Faults.{IsLine, skipped, stated, AreLines, none, skipped_line, taken, IsText}
use Rattle.rank_language.specs.StandOn.{Spells, line_of_text, StandOn}
use Rattle.rank_language.specs.LineNumbers.{numbers_from}
use Rattle.rank_language.proofs.LineCounting.{past_skipped, past_stated}

-- Lines from this number on have these statements, on the lines with these numbers.
data Stands : ℕ → List (List ℕ) → List Form → List ℕ → Type 0 where
  no_more : {n : ℕ} → Stands n [] [] []
  over : {n : ℕ} {l : List ℕ} {ls : List (List ℕ)} {fs : List Form} {ns : List ℕ} → Stands (n + 1) ls fs ns → Stands n (l ∷ ls) fs ns
  here : {n : ℕ} {l : List ℕ} {ls : List (List ℕ)} {f : Form} {fs : List Form} {ns : List ℕ} → Spells l f → Stands (n + 1) ls fs ns
      → Stands n (l ∷ ls) (f ∷ fs) (n ∷ ns)

-- a line without a statement is skipped
is_none : {s : Scope} {n : ℕ} {l : List ℕ} → IsLine s n l None → is_skipped l ≡ true
is_none (skipped q c) = q

-- a line with a statement spells it, and isn't skipped
is_some : {s : Scope} {n : ℕ} {l : List ℕ} {f : Form} → IsLine s n l (Some f) → Spells l f × (is_skipped l ≡ false)
is_some (stated {ts = ts} d c) = ((ts, d), d.looked.not_skipped)

-- the statements of lines stand on those that aren't skipped
stand : {s s' : Scope} {n m : ℕ} {ls : List (List ℕ)} {fs : List Form} → AreLines s n ls fs s' m → Stands n ls fs (numbers_from n ls)
stand none = no_more
stand (skipped_line {n = n} {l = l} {ls = ls} {fs = fs} a r) =
    subst (Stands n (l ∷ ls) fs) (sym (past_skipped n l ls (is_none a))) (over (stand r))
stand (taken {n = n} {l = l} {ls = ls} {f = f} {fs = fs} a r) =
    subst (Stands n (l ∷ ls) (f ∷ fs)) (sym (past_stated n l ls (is_some a).1)) (here (is_some a).0 (stand r))

-- there is a number for each statement
as_many : {n : ℕ} {ls : List (List ℕ)} {fs : List Form} {ns : List ℕ} → Stands n ls fs ns → length ns ≡ length fs
as_many no_more = refl
as_many (over r) = as_many r
as_many (here d r) = ap suc (as_many r)

-- the line with this number, where the first of these has number n, spells the statement
record IsFound (n : ℕ) (ls : List (List ℕ)) (m : ℕ) (f : Form) : Type 0 where
  index : ℕ
  number : m ≡ n + index
  spells : IsSomeAnd (slice_get ls index) (λ line. Spells line f)

-- a statement's line is found among the later ones too
found_later : {n : ℕ} {l : List ℕ} {ls : List (List ℕ)} {m : ℕ} {f : Form} → IsFound (n + 1) ls m f → IsFound n (l ∷ ls) m f
found_later {n = n} {m = m} i =
    let at = i.number in
    record { index = suc i.index; number = omega (arith, at); spells = i.spells }

-- each statement's line is there, and spells it
found : {n : ℕ} {ls : List (List ℕ)} {fs : List Form} {ns : List ℕ} → Stands n ls fs ns → (k m : ℕ) (f : Form)
    → slice_get ns k ≡ Some m → slice_get fs k ≡ Some f → IsFound n ls m f
found no_more k m f at of = absurd cc
found (over r) k m f at of = found_later (found r k m f at of)
found (here {n = n} {l = l} {f = g} d r) zero m f at of =
    let e : m ≡ n = cc in
    let same : g ≡ f = cc in
    record { index = 0; number = omega (arith, e); spells = subst (λ z. Spells l z) same d }
found (here d r) (suc k) m f at of = found_later (found r k m f at of)

-- no number is below the first line's
least : {n : ℕ} {ls : List (List ℕ)} {fs : List Form} {ns : List ℕ} → Stands n ls fs ns → (k m : ℕ) → slice_get ns k ≡ Some m → n ≤ m
least no_more k m at = absurd cc
least (over r) k m at = let low = least r k m at in omega arith
least (here {n = n} d r) zero m at = let e : m ≡ n = cc in omega arith
least (here d r) (suc k) m at = let low = least r k m at in omega arith

-- the numbers rise
rise : {n : ℕ} {ls : List (List ℕ)} {fs : List Form} {ns : List ℕ} → Stands n ls fs ns → (j k m p : ℕ) → j < k
    → slice_get ns j ≡ Some m → slice_get ns k ≡ Some p → m < p
rise no_more j k m p low at of = absurd cc
rise (over r) j k m p low at of = rise r j k m p low at of
rise (here d r) j zero m p low at of = absurd (omega arith)
rise (here {n = n} d r) zero (suc k) m p low at of = let e : m ≡ n = cc in let more = least r k p of in omega arith
rise (here d r) (suc j) (suc k) m p low at of = rise r j k m p (omega arith) at of

-- the number of a line that is found is its number in the text
in_text : (text : List ℕ) (m : ℕ) (f : Form) → IsFound 1 (pieces_of 10 text) m f → IsSomeAnd (line_of_text text m) (λ line. Spells line f)
in_text text m f i =
    let at = i.number in
    let e : suc i.index ≡ m = omega (arith, at) in
    subst (λ z. IsSomeAnd (line_of_text text z) (λ line. Spells line f)) e i.spells

-- the statements of a text stand on the lines that aren't skipped
pub all_stand : (text : List ℕ) (forms : List Form) → IsText text forms → StandOn text forms (numbers_from 1 (pieces_of 10 text))
all_stand text forms reads =
    let r = stand reads.lines in record {
      each = as_many r;
      spelled = λ k n f at of. in_text text n f (found r k n f at of);
      rising = λ j k m n low at of. rise r j k m n low at of;
    }
