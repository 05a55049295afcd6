-- At a program's beginning each array that may be sent has an item: its places are in the table of
-- arrays, and no array is empty.
use Rattle.std.proofs.Common.{◌≡◌, ◌≢◌, ℕ, pos, zero, suc, ◌+◌, ◌<◌, ◌≤◌, List, [], ◌∷◌, ◌++◌, length, true, ◌||◌, Some, slice_get}
use Rattle.std.proofs.Common.{refl, subst, arith, ◌⊎◌, inl, inr}
use Rattle.std.specs.Prelude.{map, replicate, slice_index_or}
use Rattle.std.proofs.lemmas.Bool.{or_cases, eqb-true}
use Rattle.rank_language.specs.Placed.{one, all_of, Simple, declare, declare_array, assign, assign_item, send, receive, probe, try_probe, print, collect}
use Rattle.rank_language.specs.Block.{Block, done, plain, if_only, if_else, loop, Line, simple_line, else_line, end_line, back_line, size, lines_at}
use Rattle.rank_language.specs.Program.{ProgramValue, block_of, IsPlaced, AllPlaced, AllSized}
use Rattle.rank_machine.specs.States.{opening}
use Rattle.crash_free.specs.LiveVariables.Given.{sends_all, some_sends_all, GivesItems}

-- lines that are placed, each by itself, are
all_placed : (v a : ℕ) (ls : List Line) → ((p : ℕ) (l : Line) → slice_get ls p ≡ Some l → IsPlaced v a l) → AllPlaced v a ls
all_placed v a [] f = tt
all_placed v a (l ∷ ls) f = (f 0 l refl, all_placed v a ls (λ p k e. f (suc p) k e))

-- the first lines, and those behind
front : (v a : ℕ) (xs ys : List Line) → AllPlaced v a (xs ++ ys) → AllPlaced v a xs
front v a [] ys h = tt
front v a (l ∷ ls) ys h = (h.0, front v a ls ys h.1)

-- so are those behind them
back : (v a : ℕ) (xs ys : List Line) → AllPlaced v a (xs ++ ys) → AllPlaced v a ys
back v a [] ys h = h
back v a (l ∷ ls) ys h = back v a ls ys h.1

-- an array that a statement sends is in the table
sent_within : (v a p : ℕ) (s : Simple) → IsPlaced v a (simple_line s) → sends_all p s ≡ true → p < a
sent_within v a p (declare q) h e = absurd cc
sent_within v a p (declare_array q) h e = absurd cc
sent_within v a p (assign q x) h e = absurd cc
sent_within v a p (assign_item q i x) h e = absurd cc
sent_within v a p (send d t (one x)) h e = absurd cc
sent_within v a p (send d t (all_of q)) h e = subst (λ z. z < a) (eqb-true q p e) h.2
sent_within v a p (receive c t b) h e = absurd cc
sent_within v a p (probe c t) h e = absurd cc
sent_within v a p (try_probe c t x) h e = absurd cc
sent_within v a p (print x) h e = absurd cc
sent_within v a p (collect c) h e = absurd cc

-- so is each that some statement sends
some_within : (v a p n : ℕ) (b : Block) → AllPlaced v a (lines_at n b) → some_sends_all p b ≡ true → p < a
some_within v a p n done h e = absurd cc
some_within v a p n (plain s r) h e = go (λ f. some_within v a p (n + 1) r h.1 f) (or_cases (sends_all p s) (some_sends_all p r) e)
  where
    go : (some_sends_all p r ≡ true → p < a) → (sends_all p s ≡ true) ⊎ (some_sends_all p r ≡ true) → p < a
    go more (inl f) = sent_within v a p s h.0 f
    go more (inr f) = more f
some_within v a p n (if_only x y r) h e =
    let m = n + 1 + size y in
    by (or_cases (some_sends_all p y) (some_sends_all p r) e)
    (λ f. some_within v a p (n + 1) y (front v a (lines_at (n + 1) y) (end_line ∷ lines_at (m + 1) r) h.1) f)
    (λ f. some_within v a p (m + 1) r (back v a (lines_at (n + 1) y) (end_line ∷ lines_at (m + 1) r) h.1).1 f)
  where
    by : (some_sends_all p y ≡ true) ⊎ (some_sends_all p r ≡ true) → (some_sends_all p y ≡ true → p < a) → (some_sends_all p r ≡ true → p < a) → p < a
    by (inl f) here behind = here f
    by (inr f) here behind = behind f
some_within v a p n (if_else x y o r) h e =
    let m = n + 1 + size y in
    let q = m + 1 + size o in
    let second = back v a (lines_at (n + 1) y) (else_line (q + 1) ∷ (lines_at (m + 1) o ++ end_line ∷ lines_at (q + 1) r)) h.1 in
    by (or_cases (some_sends_all p y) (some_sends_all p o || some_sends_all p r) e)
    (λ f.
    some_within v a p (n + 1) y (front v a (lines_at (n + 1) y) (else_line (q + 1) ∷ (lines_at (m + 1) o ++ end_line ∷ lines_at (q + 1) r)) h.1) f)
    (λ f. some_within v a p (m + 1) o (front v a (lines_at (m + 1) o) (end_line ∷ lines_at (q + 1) r) second.1) f)
    (λ f. some_within v a p (q + 1) r (back v a (lines_at (m + 1) o) (end_line ∷ lines_at (q + 1) r) second.1).1 f)
  where
    later : (some_sends_all p o ≡ true) ⊎ (some_sends_all p r ≡ true) → (some_sends_all p o ≡ true → p < a) → (some_sends_all p r ≡ true → p < a) → p < a
    later (inl f) here behind = here f
    later (inr f) here behind = behind f

    by : (some_sends_all p y ≡ true) ⊎ ((some_sends_all p o || some_sends_all p r) ≡ true) → (some_sends_all p y ≡ true → p < a)
        → (some_sends_all p o ≡ true → p < a) → (some_sends_all p r ≡ true → p < a) → p < a
    by (inl f) first here behind = first f
    by (inr f) first here behind = later (or_cases (some_sends_all p o) (some_sends_all p r) f) here behind
some_within v a p n (loop x y r) h e =
    let m = n + 1 + size y in
    by (or_cases (some_sends_all p y) (some_sends_all p r) e)
    (λ f. some_within v a p (n + 1) y (front v a (lines_at (n + 1) y) (back_line n ∷ lines_at (m + 1) r) h.1) f)
    (λ f. some_within v a p (m + 1) r (back v a (lines_at (n + 1) y) (back_line n ∷ lines_at (m + 1) r) h.1).1 f)
  where
    by : (some_sends_all p y ≡ true) ⊎ (some_sends_all p r ≡ true) → (some_sends_all p y ≡ true → p < a) → (some_sends_all p r ≡ true → p < a) → p < a
    by (inl f) here behind = here f
    by (inr f) here behind = behind f

-- so many zeros
zeros_some : (k : ℕ) → 1 ≤ k → replicate k (pos 0) ≢ []
zeros_some zero h = absurd (omega (arith, h))
zeros_some (suc k) h = λ e. absurd cc

-- an array of the table has an item at the beginning
array_some : (arrays : List (List ℕ × ℕ)) (p : ℕ) → AllSized arrays → p < length arrays
    → slice_index_or (map (λ a. replicate a.1 (pos 0)) arrays) p [] ≢ []
array_some [] p sized low = absurd (omega (arith, low))
array_some (a ∷ arrays) zero sized low = zeros_some a.1 sized.0
array_some (a ∷ arrays) (suc p) sized low = array_some arrays p sized.2 (omega (arith, low))

-- So a program's beginning gives items.
pub opening_gives : (program : ProgramValue) → program.statements ≡ lines_at 0 (block_of program)
    → ((p : ℕ) (l : Line) → slice_get program.statements p ≡ Some l → IsPlaced (length program.variables) (length program.arrays) l) → AllSized program.arrays
    → (rank size : ℕ) → GivesItems (opening program rank size)
opening_gives program is placed sized rank size p e =
    let v = length program.variables in
    let a = length program.arrays in
    array_some program.arrays p sized
    (some_within v a p 0 (block_of program) (subst (λ ls. AllPlaced v a ls) is (all_placed v a program.statements placed)) e)
