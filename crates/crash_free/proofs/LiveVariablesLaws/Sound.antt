-- Claims that hold line by line are right: of each list of statements, first of what is read first
-- in it and of the end of its ways, then of what remains at each of its lines.
use Rattle.std.proofs.Common.{◌≡◌, ℕ, zero, suc, ◌+◌, ◌<◌, ◌≤◌, List, [], ◌∷◌, ◌++◌, length, Bool, true, false, not, ◌||◌, ◌&&◌, Some, slice_get}
use Rattle.std.proofs.Common.{refl, ap, sym, subst, arith, append_assoc, ◌⊎◌, inl, inr}
use Rattle.std.specs.Prelude.{slice_index_or}
use Rattle.std.proofs.lemmas.Bool.{or_cases, and_parts, cases_lt, false_from_ne_true, or_from}
use Rattle.std.proofs.lemmas.Option.{slice_get_within}
use Rattle.rank_language.specs.Placed.{Simple}
use Rattle.rank_language.specs.Block.{Block, done, plain, if_only, if_else, loop, ◌then◌, Line, simple_line, if_line, else_line, end_line, while_line}
use Rattle.rank_language.specs.Block.{back_line, size, lines_at, places, remaining, next_position}
use Rattle.rank_language.proofs.Places.{length-lines_at}
use Rattle.crash_free.specs.LiveVariables.Names.{StoredName, place, status, mentions, reads, writes}
use Rattle.crash_free.specs.LiveVariables.Unread.{passes, reads_first}
use Rattle.crash_free.specs.LiveVariables.Live.{line_reads, line_writes, holds_at, claimed, AllHold, IsRow, Table, row_of, IsTableOf}
use Rattle.crash_free.specs.LiveVariables.Given.{GivesItems}
use Rattle.rank_language.specs.Program.{ProgramValue}
use Rattle.rank_machine.specs.States.{opening}
use Rattle.crash_free.proofs.LiveVariablesLaws.Ways.{Either, then_reads}

-- the claims for lines, the first of them at position n, hold
abbrev Checked : StoredName → (ℕ → Bool) → ℕ → List Line → Type 0
Checked x c n [] = Unit {0}
Checked x c n (l ∷ ls) = (c n ≡ true → holds_at x c n l ≡ true) × Checked x c (n + 1) ls

-- from an equal position on
moved : (x : StoredName) (c : ℕ → Bool) (m n : ℕ) (ls : List Line) → m ≡ n → Checked x c m ls → Checked x c n ls
moved x c m n ls q h = subst (λ k. Checked x c k ls) q h

-- those of the first lines
front : (x : StoredName) (c : ℕ → Bool) (n : ℕ) (xs ys : List Line) → Checked x c n (xs ++ ys) → Checked x c n xs
front x c n [] ys h = tt
front x c n (l ∷ ls) ys h = (h.0, front x c (n + 1) ls ys h.1)

-- those of the lines behind
back : (x : StoredName) (c : ℕ → Bool) (n m : ℕ) (xs ys : List Line) → n + length xs ≡ m → Checked x c n (xs ++ ys) → Checked x c m ys
back x c n m [] ys q h = moved x c n m ys (omega (arith, q)) h
back x c n m (l ∷ ls) ys q h = back x c (n + 1) m ls ys (omega (arith, q)) h.1

-- what is denied doesn't hold
denied : (b : Bool) → not b ≡ true → b ≡ false
denied true e = absurd cc
denied false e = refl

-- not where both would have to be
not_both : (p r : Bool) → (p ≡ true → r ≡ false) → (p && r) ≡ false
not_both true r f = f refl
not_both false r f = refl

-- A list of statements at position n, where its claim holds: it doesn't read the name first, and
-- where a way goes through it the name is claimed behind.
record Whole (x : StoredName) (c : ℕ → Bool) (n : ℕ) (b : Block) : Type 0 where
  unread : reads_first x b ≡ false
  after : passes x b ≡ true → c (n + size b) ≡ true

-- what a line's claim says
read_not : (x : StoredName) (c : ℕ → Bool) (n : ℕ) (l : Line) → holds_at x c n l ≡ true → line_reads x l ≡ false
read_not x c n l h = denied (line_reads x l) (and_parts (not (line_reads x l)) _ h).0

-- and it is written there, or unread in both places that may come next
leads : (x : StoredName) (c : ℕ → Bool) (n : ℕ) (l : Line) → holds_at x c n l ≡ true
    → (line_writes x l ≡ true) ⊎ ((c (next_position l n true) ≡ true) × (c (next_position l n false) ≡ true))
leads x c n l h = go (or_cases (line_writes x l) _ (and_parts (not (line_reads x l)) _ h).1)
  where
    go : (line_writes x l ≡ true) ⊎ ((c (next_position l n true) && c (next_position l n false)) ≡ true)
        → (line_writes x l ≡ true) ⊎ ((c (next_position l n true) ≡ true) × (c (next_position l n false) ≡ true))
    go (inl w) = inl w
    go (inr b) = inr (and_parts (c (next_position l n true)) (c (next_position l n false)) b)

-- a line that writes nothing leads where it is claimed
leads_on : (x : StoredName) (c : ℕ → Bool) (n : ℕ) (l : Line) → line_writes x l ≡ false → holds_at x c n l ≡ true
    → (c (next_position l n true) ≡ true) × (c (next_position l n false) ≡ true)
leads_on x c n l none h = go (leads x c n l h)
  where
    go : (line_writes x l ≡ true) ⊎ ((c (next_position l n true) ≡ true) × (c (next_position l n false) ≡ true))
        → (c (next_position l n true) ≡ true) × (c (next_position l n false) ≡ true)
    go (inl w) = absurd cc
    go (inr b) = b

-- claimed at an equal position
pub at : (c : ℕ → Bool) (m n : ℕ) → m ≡ n → c m ≡ true → c n ≡ true
at c m n q h = subst (λ k. c k ≡ true) q h

-- a statement, in front of others
whole_plain : (x : StoredName) (c : ℕ → Bool) (n : ℕ) (s : Simple) (r : Block) → holds_at x c n (simple_line s) ≡ true → (c (n + 1) ≡ true → Whole x c (n + 1) r)
    → Whole x c n (plain s r)
whole_plain x c n s r h more = go (leads x c n (simple_line s) h)
  where
    unread : reads x s ≡ false
    unread = read_not x c n (simple_line s) h

    go : (writes x s ≡ true) ⊎ ((c (n + 1) ≡ true) × (c (n + 1) ≡ true)) → Whole x c n (plain s r)
    go (inl w) =
        record {
          unread = or_from (reads x s) (not (writes x s) && reads_first x r) unread (rw w refl);
          after = λ e. absurd (let k = (and_parts (not (writes x s)) (passes x r) e).0 in denied_too (writes x s) w k);
        }
      where
        denied_too : (b : Bool) → b ≡ true → not b ≡ true → ⊥
        denied_too true e f = cc
        denied_too false e f = cc
    go (inr k) =
        let m = more k.0 in
        record {
          unread = or_from (reads x s) (not (writes x s) && reads_first x r) unread (not_both (not (writes x s)) (reads_first x r) (λ e. m.unread));
          after = λ e. at c (n + 1 + size r) (n + size (plain s r)) (omega arith) (m.after (and_parts (not (writes x s)) (passes x r) e).1);
        }

-- so each list of statements
whole : (x : StoredName) (c : ℕ → Bool) (n : ℕ) (b : Block) → Checked x c n (lines_at n b) → c n ≡ true → Whole x c n b
whole x c n done h e = record { unread = refl; after = λ f. at c n (n + 0) (omega arith) e }
whole x c n (plain s r) h e = whole_plain x c n s r (h.0 e) (λ f. whole x c (n + 1) r h.1 f)
whole x c n (if_only v y r) h e =
    let m = n + 1 + size y in
    let l = leads_on x c n (if_line v (m + 1)) refl (h.0 e) in
    let y' = whole x c (n + 1) y (front x c (n + 1) (lines_at (n + 1) y) (end_line ∷ lines_at (m + 1) r) h.1) l.0 in
    let behind = back x c (n + 1) m (lines_at (n + 1) y) (end_line ∷ lines_at (m + 1) r) (ap (λ z. n + 1 + z) (length-lines_at (n + 1) y)) h.1 in
    let r' = whole x c (m + 1) r behind.1 l.1 in
    record {
      unread =
          or_from (mentions x v) (reads_first x y || reads_first x r) (read_not x c n (if_line v (m + 1)) (h.0 e))
          (or_from (reads_first x y) (reads_first x r) y'.unread r'.unread);
      after = λ f. at c (m + 1 + size r) (n + size (if_only v y r)) (omega arith) (r'.after f);
    }
whole x c n (if_else v y o r) h e =
    let m = n + 1 + size y in
    let q = m + 1 + size o in
    let l = leads_on x c n (if_line v (m + 1)) refl (h.0 e) in
    let y' =
    whole x c (n + 1) y (front x c (n + 1) (lines_at (n + 1) y) (else_line (q + 1) ∷ (lines_at (m + 1) o ++ end_line ∷ lines_at (q + 1) r)) h.1) l.0 in
    let second =
    back x c (n + 1) m (lines_at (n + 1) y) (else_line (q + 1) ∷ (lines_at (m + 1) o ++ end_line ∷ lines_at (q + 1) r))
    (ap (λ z. n + 1 + z) (length-lines_at (n + 1) y)) h.1 in
    let o' = whole x c (m + 1) o (front x c (m + 1) (lines_at (m + 1) o) (end_line ∷ lines_at (q + 1) r) second.1) l.1 in
    let third = back x c (m + 1) q (lines_at (m + 1) o) (end_line ∷ lines_at (q + 1) r) (ap (λ z. m + 1 + z) (length-lines_at (m + 1) o)) second.1 in
    let r' : (passes x y || passes x o) ≡ true → Whole x c (q + 1) r =
    λ p. whole x c (q + 1) r third.1
    (behind (m) (q) y'.after o'.after (λ k. (leads_on x c m (else_line (q + 1)) refl (second.0 k)).0) (λ k. (leads_on x c q end_line refl (third.0 k)).0)
    (or_cases (passes x y) (passes x o) p)) in
    record {
      unread =
          or_from (mentions x v) ((reads_first x y || reads_first x o) || ((passes x y || passes x o) && reads_first x r))
          (read_not x c n (if_line v (m + 1)) (h.0 e))
          (or_from (reads_first x y || reads_first x o) ((passes x y || passes x o) && reads_first x r)
          (or_from (reads_first x y) (reads_first x o) y'.unread o'.unread)
          (not_both (passes x y || passes x o) (reads_first x r) (λ p. (r' p).unread)));
      after =
          λ f.
          (let p = and_parts (passes x y || passes x o) (passes x r) f in
          at c (q + 1 + size r) (n + size (if_else v y o r)) (omega arith) ((r' p.0).after p.1));
    }
  where
    behind : (m q : ℕ) → (passes x y ≡ true → c m ≡ true) → (passes x o ≡ true → c q ≡ true) → (c m ≡ true → c (q + 1) ≡ true)
        → (c q ≡ true → c (q + 1) ≡ true) → (passes x y ≡ true) ⊎ (passes x o ≡ true) → c (q + 1) ≡ true
    behind m q y' o' one two (inl p) = one (y' p)
    behind m q y' o' one two (inr p) = two (o' p)
whole x c n (loop v y r) h e =
    let m = n + 1 + size y in
    let l = leads_on x c n (while_line v (m + 1)) refl (h.0 e) in
    let y' = whole x c (n + 1) y (front x c (n + 1) (lines_at (n + 1) y) (back_line n ∷ lines_at (m + 1) r) h.1) l.0 in
    let behind = back x c (n + 1) m (lines_at (n + 1) y) (back_line n ∷ lines_at (m + 1) r) (ap (λ z. n + 1 + z) (length-lines_at (n + 1) y)) h.1 in
    let r' = whole x c (m + 1) r behind.1 l.1 in
    record {
      unread =
          or_from (mentions x v) (reads_first x y || reads_first x r) (read_not x c n (while_line v (m + 1)) (h.0 e))
          (or_from (reads_first x y) (reads_first x r) y'.unread r'.unread);
      after = λ f. at c (m + 1 + size r) (n + size (loop v y r)) (omega arith) (r'.after f);
    }

-- a list in front of others that don't read the name first where it is claimed
unread_then : (x : StoredName) (c : ℕ → Bool) (n : ℕ) (b k : Block) → (c n ≡ true → Whole x c n b) → (c (n + size b) ≡ true → reads_first x k ≡ false)
    → c n ≡ true → reads_first x (b then k) ≡ false
unread_then x c n b k w after e = false_from_ne_true (reads_first x (b then k)) (λ f. go (w e) (then_reads x b k f))
  where
    go : Whole x c n b → Either x b k → ⊥
    go w (inl f) = let g = w.unread in cc
    go w (inr p) = let g = after (w.after p.0) in let f = p.1 in cc

-- the claims for what remains from position n on are right
abbrev Right : StoredName → (ℕ → Bool) → ℕ → List Block → Type 0
Right x c n [] = Unit {0}
Right x c n (b ∷ bs) = (c n ≡ true → reads_first x b ≡ false) × Right x c (n + 1) bs

-- at a position that is the same
right_at : (x : StoredName) (c : ℕ → Bool) (m n : ℕ) (bs : List Block) → m ≡ n → Right x c m bs → Right x c n bs
right_at x c m n bs q h = subst (λ k. Right x c k bs) q h

-- in front of others
assoc : (x : StoredName) (c : ℕ → Bool) (n : ℕ) (xs ys zs : List Block) → Right x c n (xs ++ (ys ++ zs)) → Right x c n ((xs ++ ys) ++ zs)
assoc x c n xs ys zs h = subst (λ bs. Right x c n bs) (sym (append_assoc xs ys zs)) h

-- so are those for the places of a list, in front of others for which they are
right : (x : StoredName) (c : ℕ → Bool) (n : ℕ) (b k : Block) (bs : List Block) → Checked x c n (lines_at n b) → (c (n + size b) ≡ true → reads_first x k ≡ false)
    → Right x c (n + size b) bs → Right x c n (places b k ++ bs)
right x c n done k bs h after more = right_at x c (n + 0) n bs (omega arith) more
right x c n (plain s r) k bs h after more = (
  unread_then x c n (plain s r) k (λ e. whole x c n (plain s r) h e) after,
  right x c (n + 1) r k bs h.1 (λ e. after (at c (n + 1 + size r) (n + size (plain s r)) (omega arith) e))
      (right_at x c (n + size (plain s r)) (n + 1 + size r) bs (omega arith) more),
)
right x c n (if_only v y r) k bs h after more =
    let m = n + 1 + size y in
    let behind = back x c (n + 1) m (lines_at (n + 1) y) (end_line ∷ lines_at (m + 1) r) (ap (λ z. n + 1 + z) (length-lines_at (n + 1) y)) h.1 in
    let after' : c (m + 1 + size r) ≡ true → reads_first x k ≡ false = λ e. after (at c (m + 1 + size r) (n + size (if_only v y r)) (omega arith) e) in
    let rest = unread_then x c (m + 1) r k (λ e. whole x c (m + 1) r behind.1 e) after' in
    let closed : c m ≡ true → reads_first x (r then k) ≡ false = λ e. rest (leads_on x c m end_line refl (behind.0 e)).0 in
    let last = right x c (m + 1) r k bs behind.1 after' (right_at x c (n + size (if_only v y r)) (m + 1 + size r) bs (omega arith) more) in (
      unread_then x c n (if_only v y r) k (λ e. whole x c n (if_only v y r) h e) after,
      assoc x c (n + 1) (places y (r then k)) ((r then k) ∷ places r k) bs
          (right x c (n + 1) y (r then k) ((r then k) ∷ (places r k ++ bs)) (front x c (n + 1) (lines_at (n + 1) y) (end_line ∷ lines_at (m + 1) r) h.1) closed
          (closed, last)),
    )
right x c n (if_else v y o r) k bs h after more =
    let m = n + 1 + size y in
    let q = m + 1 + size o in
    let second =
    back x c (n + 1) m (lines_at (n + 1) y) (else_line (q + 1) ∷ (lines_at (m + 1) o ++ end_line ∷ lines_at (q + 1) r))
    (ap (λ z. n + 1 + z) (length-lines_at (n + 1) y)) h.1 in
    let third = back x c (m + 1) q (lines_at (m + 1) o) (end_line ∷ lines_at (q + 1) r) (ap (λ z. m + 1 + z) (length-lines_at (m + 1) o)) second.1 in
    let after' : c (q + 1 + size r) ≡ true → reads_first x k ≡ false = λ e. after (at c (q + 1 + size r) (n + size (if_else v y o r)) (omega arith) e) in
    let rest = unread_then x c (q + 1) r k (λ e. whole x c (q + 1) r third.1 e) after' in
    let closed : c q ≡ true → reads_first x (r then k) ≡ false = λ e. rest (leads_on x c q end_line refl (third.0 e)).0 in
    let turned : c m ≡ true → reads_first x (r then k) ≡ false = λ e. rest (leads_on x c m (else_line (q + 1)) refl (second.0 e)).0 in
    let last = right x c (q + 1) r k bs third.1 after' (right_at x c (n + size (if_else v y o r)) (q + 1 + size r) bs (omega arith) more) in
    let others =
    assoc x c (m + 1) (places o (r then k)) ((r then k) ∷ places r k) bs
    (right x c (m + 1) o (r then k) ((r then k) ∷ (places r k ++ bs)) (front x c (m + 1) (lines_at (m + 1) o) (end_line ∷ lines_at (q + 1) r) second.1) closed
    (closed, last)) in (
      unread_then x c n (if_else v y o r) k (λ e. whole x c n (if_else v y o r) h e) after,
      assoc x c (n + 1) (places y (r then k)) ((r then k) ∷ (places o (r then k) ++ (r then k) ∷ places r k)) bs
          (right x c (n + 1) y (r then k) ((r then k) ∷ ((places o (r then k) ++ (r then k) ∷ places r k) ++ bs))
          (front x c (n + 1) (lines_at (n + 1) y) (else_line (q + 1) ∷ (lines_at (m + 1) o ++ end_line ∷ lines_at (q + 1) r)) h.1) turned (turned, others)),
    )
right x c n (loop v y r) k bs h after more =
    let m = n + 1 + size y in
    let again = loop v y (r then k) in
    let behind = back x c (n + 1) m (lines_at (n + 1) y) (back_line n ∷ lines_at (m + 1) r) (ap (λ z. n + 1 + z) (length-lines_at (n + 1) y)) h.1 in
    let after' : c (m + 1 + size r) ≡ true → reads_first x k ≡ false = λ e. after (at c (m + 1 + size r) (n + size (loop v y r)) (omega arith) e) in
    let first = unread_then x c n (loop v y r) k (λ e. whole x c n (loop v y r) h e) after in
    let closed : c m ≡ true → reads_first x again ≡ false = λ e. first (leads_on x c m (back_line n) refl (behind.0 e)).0 in
    let last = right x c (m + 1) r k bs behind.1 after' (right_at x c (n + size (loop v y r)) (m + 1 + size r) bs (omega arith) more) in (
      first,
      assoc x c (n + 1) (places y again) (again ∷ places r k) bs
          (right x c (n + 1) y again (again ∷ (places r k ++ bs)) (front x c (n + 1) (lines_at (n + 1) y) (back_line n ∷ lines_at (m + 1) r) h.1) closed
          (closed, last)),
    )

-- one of them
one_of : (x : StoredName) (c : ℕ → Bool) (n : ℕ) (bs : List Block) (p : ℕ) → Right x c n (bs ++ []) → c (n + p) ≡ true → reads_first x (slice_index_or bs p done) ≡ false
one_of x c n [] p h e = refl
one_of x c n (b ∷ bs) zero h e = h.0 (at c (n + 0) n (omega arith) e)
one_of x c n (b ∷ bs) (suc p) h e = one_of x c (n + 1) bs p h.1 (at c (n + suc p) (n + 1 + p) (omega arith) e)

-- claims that hold for each line, each by itself, are checked
checked : (x : StoredName) (c : ℕ → Bool) (n : ℕ) (ls : List Line)
    → ((p : ℕ) (l : Line) → slice_get ls p ≡ Some l → c (n + p) ≡ true → holds_at x c (n + p) l ≡ true) → Checked x c n ls
checked x c n [] f = tt
checked x c n (l ∷ ls) f = (
  λ e. subst (λ k. holds_at x c k l ≡ true) (let q : n + 0 ≡ n = omega arith in q) (f 0 l refl (at c n (n + 0) (omega arith) e)),
  checked x c (n + 1) ls
      (λ p k is e. subst (λ z. holds_at x c z k ≡ true) (let q : n + suc p ≡ n + 1 + p = omega arith in q)
      (f (suc p) k is (at c (n + 1 + p) (n + suc p) (omega arith) e))),
)

-- what holds of the first lines, and of one more
pub one_more : (ls : List Line) (P : ℕ → Line → Type 0) (i : ℕ) → ((p : ℕ) (l : Line) → p < i → slice_get ls p ≡ Some l → P p l)
    → ((l : Line) → slice_get ls i ≡ Some l → P i l) → (p : ℕ) (l : Line) → p < i + 1 → slice_get ls p ≡ Some l → P p l
one_more ls P i before now p l low there = go (cases_lt p i)
  where
    go : (p < i) ⊎ (i ≤ p) → P p l
    go (inl less) = before p l less there
    go (inr more) =
        let same : i ≡ p = omega (arith, low, more) in
        subst (λ k. P k l) same (now l (subst (λ k. slice_get ls k ≡ Some l) (sym same) there))

-- what holds of as many as there are
pub of_each : (ls : List Line) (P : ℕ → Line → Type 0) (n : ℕ) → length ls ≤ n → ((p : ℕ) (l : Line) → p < n → slice_get ls p ≡ Some l → P p l)
    → (p : ℕ) (l : Line) → slice_get ls p ≡ Some l → P p l
of_each ls P n all f p l there = f p l (let low = slice_get_within ls p l there in omega (arith, all, low)) there

-- so each claim of a row that holds for each line of a tree is right
pub row_is_right : (x : StoredName) (row : List Bool) (t : Block) (ls : List Line) → ls ≡ lines_at 0 t → AllHold x row ls → (p : ℕ) → claimed row p ≡ true
    → reads_first x (remaining t p) ≡ false
row_is_right x row t ls is hold p e =
    one_of x (claimed row) 0 (places t done) p
    (right x (claimed row) 0 t done [] (subst (λ z. Checked x (claimed row) 0 z) is (checked x (claimed row) 0 ls (λ q l there f. moved_hold q l (hold q l there (at (claimed row) (0 + q) q (omega arith) f)))))
    (λ f. refl) tt)
    (at (claimed row) p (0 + p) (omega arith) e)
  where
    moved_hold : (q : ℕ) (l : Line) → holds_at x (claimed row) q l ≡ true → holds_at x (claimed row) (0 + q) l ≡ true
    moved_hold q l h = subst (λ z. holds_at x (claimed row) z l ≡ true) (let k : q ≡ 0 + q = omega arith in k) h

-- a table of rows that are right is right
pub is_table : (program : ProgramValue) (t : Table) → ((p : ℕ) → IsRow program (place p) (slice_index_or t.variables p [])) → IsRow program status t.status_row
    → ((rank size : ℕ) → GivesItems (opening program rank size)) → IsTableOf program t
is_table program t variables last items = record { rows = λ x. by x; items = items }
  where
    by : (x : StoredName) → IsRow program x (row_of t x)
    by (place p) = variables p
    by status = last
