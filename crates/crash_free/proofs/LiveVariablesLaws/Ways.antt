-- What one list of statements behind another reads: so what remains after a test reads nothing
-- first that what stood there didn't.
use Rattle.std.proofs.Common.{◌≡◌, Bool, true, false, not, ◌||◌, ◌&&◌, refl, ◌⊎◌, inl, inr}
use Rattle.std.proofs.lemmas.Bool.{or_cases, and_parts, and_from, or_left, or_right}
use Rattle.rank_language.specs.Block.{Block, done, plain, if_only, if_else, loop, ◌then◌, taken}
use Rattle.crash_free.specs.LiveVariables.Names.{StoredName, mentions, reads, writes}
use Rattle.crash_free.specs.LiveVariables.Unread.{passes, reads_first}

-- It is read first by the one list, or a way goes through that and it is read first by the other.
abbrev pub Either : StoredName → Block → Block → Type 0
Either x b k = (reads_first x b ≡ true) ⊎ ((passes x b ≡ true) × (reads_first x k ≡ true))

-- what both read first is read so
pub then_reads : (x : StoredName) (b k : Block) → reads_first x (b then k) ≡ true → Either x b k
then_reads x done k e = inr (refl, e)
then_reads x (plain s r) k e = go (λ f. then_reads x r k f) (or_cases (reads x s) (not (writes x s) && reads_first x (r then k)) e)
  where
    later : (not (writes x s) ≡ true) → Either x r k → Either x (plain s r) k
    later n (inl f) = inl (or_right (reads x s) (not (writes x s) && reads_first x r) (and_from (not (writes x s)) (reads_first x r) n f))
    later n (inr p) = inr (and_from (not (writes x s)) (passes x r) n p.0, p.1)

    go : (reads_first x (r then k) ≡ true → Either x r k) → (reads x s ≡ true) ⊎ ((not (writes x s) && reads_first x (r then k)) ≡ true)
        → Either x (plain s r) k
    go more (inl f) = inl (or_left (reads x s) (not (writes x s) && reads_first x r) f)
    go more (inr f) =
        let p = and_parts (not (writes x s)) (reads_first x (r then k)) f in
        later p.0 (more p.1)
then_reads x (if_only e y r) k f = first (λ g. then_reads x r k g) (or_cases (mentions x e) (reads_first x y || reads_first x (r then k)) f)
  where
    later : Either x r k → Either x (if_only e y r) k
    later (inl g) = inl (or_right (mentions x e) (reads_first x y || reads_first x r) (or_right (reads_first x y) (reads_first x r) g))
    later (inr p) = inr p

    second : (reads_first x (r then k) ≡ true → Either x r k) → (reads_first x y ≡ true) ⊎ (reads_first x (r then k) ≡ true) → Either x (if_only e y r) k
    second more (inl g) = inl (or_right (mentions x e) (reads_first x y || reads_first x r) (or_left (reads_first x y) (reads_first x r) g))
    second more (inr g) = later (more g)

    first : (reads_first x (r then k) ≡ true → Either x r k) → (mentions x e ≡ true) ⊎ ((reads_first x y || reads_first x (r then k)) ≡ true)
        → Either x (if_only e y r) k
    first more (inl g) = inl (or_left (mentions x e) (reads_first x y || reads_first x r) g)
    first more (inr g) = second more (or_cases (reads_first x y) (reads_first x (r then k)) g)
then_reads x (if_else e y o r) k f =
    first (λ g. then_reads x r k g)
    (or_cases (mentions x e) ((reads_first x y || reads_first x o) || ((passes x y || passes x o) && reads_first x (r then k))) f)
  where
    inside : ((reads_first x y || reads_first x o) || ((passes x y || passes x o) && reads_first x r)) ≡ true → Either x (if_else e y o r) k
    inside g = inl (or_right (mentions x e) ((reads_first x y || reads_first x o) || ((passes x y || passes x o) && reads_first x r)) g)

    later : (passes x y || passes x o) ≡ true → Either x r k → Either x (if_else e y o r) k
    later p (inl g) =
        inside
        (or_right (reads_first x y || reads_first x o) ((passes x y || passes x o) && reads_first x r)
        (and_from (passes x y || passes x o) (reads_first x r) p g))
    later p (inr q) = inr (and_from (passes x y || passes x o) (passes x r) p q.0, q.1)

    second : (reads_first x (r then k) ≡ true → Either x r k)
        → ((reads_first x y || reads_first x o) ≡ true) ⊎ (((passes x y || passes x o) && reads_first x (r then k)) ≡ true) → Either x (if_else e y o r) k
    second more (inl g) = inside (or_left (reads_first x y || reads_first x o) ((passes x y || passes x o) && reads_first x r) g)
    second more (inr g) =
        let p = and_parts (passes x y || passes x o) (reads_first x (r then k)) g in
        later p.0 (more p.1)

    first : (reads_first x (r then k) ≡ true → Either x r k)
        → (mentions x e ≡ true) ⊎ (((reads_first x y || reads_first x o) || ((passes x y || passes x o) && reads_first x (r then k))) ≡ true)
        → Either x (if_else e y o r) k
    first more (inl g) = inl (or_left (mentions x e) ((reads_first x y || reads_first x o) || ((passes x y || passes x o) && reads_first x r)) g)
    first more (inr g) = second more (or_cases (reads_first x y || reads_first x o) ((passes x y || passes x o) && reads_first x (r then k)) g)
then_reads x (loop e y r) k f = first (λ g. then_reads x r k g) (or_cases (mentions x e) (reads_first x y || reads_first x (r then k)) f)
  where
    later : Either x r k → Either x (loop e y r) k
    later (inl g) = inl (or_right (mentions x e) (reads_first x y || reads_first x r) (or_right (reads_first x y) (reads_first x r) g))
    later (inr p) = inr p

    second : (reads_first x (r then k) ≡ true → Either x r k) → (reads_first x y ≡ true) ⊎ (reads_first x (r then k) ≡ true) → Either x (loop e y r) k
    second more (inl g) = inl (or_right (mentions x e) (reads_first x y || reads_first x r) (or_left (reads_first x y) (reads_first x r) g))
    second more (inr g) = later (more g)

    first : (reads_first x (r then k) ≡ true → Either x r k) → (mentions x e ≡ true) ⊎ ((reads_first x y || reads_first x (r then k)) ≡ true)
        → Either x (loop e y r) k
    first more (inl g) = inl (or_left (mentions x e) (reads_first x y || reads_first x r) g)
    first more (inr g) = second more (or_cases (reads_first x y) (reads_first x (r then k)) g)

-- what remains after a test reads first only what was read first before it
pub taken_reads : (x : StoredName) (truth : Bool) (b : Block) → reads_first x (taken truth b) ≡ true → reads_first x b ≡ true
taken_reads x truth done h = absurd cc
taken_reads x truth (plain s r) h = h
taken_reads x true (if_only e y r) h = go (then_reads x y r h)
  where
    go : Either x y r → reads_first x (if_only e y r) ≡ true
    go (inl f) = or_right (mentions x e) (reads_first x y || reads_first x r) (or_left (reads_first x y) (reads_first x r) f)
    go (inr p) = or_right (mentions x e) (reads_first x y || reads_first x r) (or_right (reads_first x y) (reads_first x r) p.1)
taken_reads x false (if_only e y r) h =
    or_right (mentions x e) (reads_first x y || reads_first x r) (or_right (reads_first x y) (reads_first x r) h)
taken_reads x true (if_else e y o r) h = go (then_reads x y r h)
  where
    go : Either x y r → reads_first x (if_else e y o r) ≡ true
    go (inl f) =
        or_right (mentions x e) ((reads_first x y || reads_first x o) || ((passes x y || passes x o) && reads_first x r))
        (or_left (reads_first x y || reads_first x o) ((passes x y || passes x o) && reads_first x r) (or_left (reads_first x y) (reads_first x o) f))
    go (inr p) =
        or_right (mentions x e) ((reads_first x y || reads_first x o) || ((passes x y || passes x o) && reads_first x r))
        (or_right (reads_first x y || reads_first x o) ((passes x y || passes x o) && reads_first x r)
        (and_from (passes x y || passes x o) (reads_first x r) (or_left (passes x y) (passes x o) p.0) p.1))
taken_reads x false (if_else e y o r) h = go (then_reads x o r h)
  where
    go : Either x o r → reads_first x (if_else e y o r) ≡ true
    go (inl f) =
        or_right (mentions x e) ((reads_first x y || reads_first x o) || ((passes x y || passes x o) && reads_first x r))
        (or_left (reads_first x y || reads_first x o) ((passes x y || passes x o) && reads_first x r) (or_right (reads_first x y) (reads_first x o) f))
    go (inr p) =
        or_right (mentions x e) ((reads_first x y || reads_first x o) || ((passes x y || passes x o) && reads_first x r))
        (or_right (reads_first x y || reads_first x o) ((passes x y || passes x o) && reads_first x r)
        (and_from (passes x y || passes x o) (reads_first x r) (or_right (passes x y) (passes x o) p.0) p.1))
taken_reads x true (loop e y r) h = go (then_reads x y (loop e y r) h)
  where
    go : Either x y (loop e y r) → reads_first x (loop e y r) ≡ true
    go (inl f) = or_right (mentions x e) (reads_first x y || reads_first x r) (or_left (reads_first x y) (reads_first x r) f)
    go (inr p) = p.1
taken_reads x false (loop e y r) h =
    or_right (mentions x e) (reads_first x y || reads_first x r) (or_right (reads_first x y) (reads_first x r) h)

-- what is read first behind a statement is read first there, or was written
pub behind_reads : (a w r : Bool) → r ≡ true → ((a || (not w && r)) || w) ≡ true
behind_reads true w r e = refl
behind_reads false true r e = refl
behind_reads false false r e = or_left r false e
