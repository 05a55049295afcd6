-- Lines with their targets are those of a tree. The lists of statements that some lines begin (`parts`) fit the blocks
-- that are open in front of them (`Fit`). Spread over positions, each list is followed by the line that closes it;
-- one more line in front keeps this, and in front of a whole program there is one list, its tree.
use Rattle.std.proofs.Common.{◌≡◌, ℕ, ◌+◌, ◌-◌, length, List, [], ◌∷◌, ◌++◌, Bool, true, false, not, refl, ap, ◌∙◌, sym, arith, append_assoc, append-nil}
use Rattle.rank_text.specs.Checker.Scope.{Opened, in_if, in_else, in_while, is_empty, is_open_if, other_branch, outer}
use Rattle.rank_language.specs.Placed.{Placed, Simple, Step, does, tests, repeats, otherwise, closes}
use Rattle.rank_language.specs.Block.{Block, done, plain, if_only, if_else, loop, Line, simple_line}
use Rattle.rank_language.specs.Block.{if_line, else_line, end_line, while_line, back_line, size, lines_at}
use Rattle.rank_language.specs.Shape.{Part, fronted, branched, looped, parts, innermost, block_of_steps}
use Rattle.rank_language.specs.Ends.{BlockKind, is_plain, is_if, is_else, is_end, is_while, nearest, farther, target_of, ends_before, line_to, back_at, lines_behind}
use Rattle.rank_language.proofs.Places.{length-lines_at}
use Rattle.rank_language.proofs.Loops.{back_seam}

-- what a statement does to blocks
abbrev pub kind_of_step : Step → BlockKind
kind_of_step (does s) = is_plain
kind_of_step (tests e) = is_if
kind_of_step otherwise = is_else
kind_of_step closes = is_end
kind_of_step (repeats e) = is_while

-- the blocks that are open behind a statement
abbrev pub blocks_after : BlockKind → List Opened → List Opened
blocks_after is_plain bs = bs
blocks_after is_if bs = in_if ∷ bs
blocks_after is_else bs = other_branch bs
blocks_after is_end bs = outer bs
blocks_after is_while bs = in_while ∷ bs

-- an `end` without its block, an `else` without its `if`
abbrev pub strays : BlockKind → List Opened → Bool
strays is_plain bs = false
strays is_if bs = false
strays is_else bs = not (is_open_if bs)
strays is_end bs = is_empty bs
strays is_while bs = false

-- each statement finds its block, and each block is closed
abbrev pub Balanced : List Opened → List Step → Type 0
Balanced bs [] = bs ≡ []
Balanced bs (x ∷ ss) = (strays (kind_of_step x) bs ≡ false) × Balanced (blocks_after (kind_of_step x) bs) ss

-- the ends in front of statements, the first of them at position n
abbrev pub ends_at : ℕ → List Step → List ℕ
ends_at n [] = []
ends_at n (x ∷ ss) = ends_before n (kind_of_step x) (ends_at (n + 1) ss)

-- the statements as lines with their targets
abbrev pub targeted : ℕ → List Step → List Line
targeted n [] = []
targeted n (x ∷ ss) =
    let target = target_of (kind_of_step x) (ends_at (n + 1) ss) in
    line_to target x ∷ lines_behind n (kind_of_step x) target (targeted (n + 1) ss)

-- lists of statements that stand in open blocks
abbrev Fit : List Opened → List Part → Type 0
Fit [] [] = ⊥
Fit [] ((false, y) ∷ []) = Unit {0}
Fit [] ((true, y) ∷ []) = ⊥
Fit [] (p ∷ (q ∷ ps)) = ⊥
Fit (b ∷ bs) [] = ⊥
Fit (in_if ∷ bs) ((false, y) ∷ ps) = Fit bs ps
Fit (in_if ∷ bs) ((true, y) ∷ ps) = Fit (in_else ∷ bs) ps
Fit (in_else ∷ bs) ((false, y) ∷ ps) = Fit bs ps
Fit (in_else ∷ bs) ((true, y) ∷ ps) = ⊥
Fit (in_while ∷ bs) ((false, y) ∷ ps) = Fit bs ps
Fit (in_while ∷ bs) ((true, y) ∷ ps) = ⊥

-- more in front of the innermost list changes no block
fit_fronted : (f : Block → Block) (bs : List Opened) (ps : List Part) → Fit bs ps → Fit bs (fronted f ps)
fit_fronted f [] [] h = h
fit_fronted f [] ((false, y) ∷ []) h = h
fit_fronted f [] ((true, y) ∷ []) h = h
fit_fronted f [] (p ∷ (q ∷ ps)) h = h
fit_fronted f (b ∷ bs) [] h = h
fit_fronted f (in_if ∷ bs) ((false, y) ∷ ps) h = h
fit_fronted f (in_if ∷ bs) ((true, y) ∷ ps) h = h
fit_fronted f (in_else ∷ bs) ((false, y) ∷ ps) h = h
fit_fronted f (in_else ∷ bs) ((true, y) ∷ ps) h = h
fit_fronted f (in_while ∷ bs) ((false, y) ∷ ps) h = h
fit_fronted f (in_while ∷ bs) ((true, y) ∷ ps) h = h

-- an `if` takes the lists of its block
fit_branched : (e : Placed) (bs : List Opened) (ps : List Part) → Fit (in_if ∷ bs) ps → Fit bs (branched e ps)
fit_branched e bs [] h = absurd h
fit_branched e bs ((false, y) ∷ ps) h = fit_fronted (if_only e y) bs ps h
fit_branched e bs ((true, y) ∷ []) h = absurd h
fit_branched e bs ((true, y) ∷ ((false, o) ∷ ps)) h = fit_fronted (if_else e y o) bs ps h
fit_branched e bs ((true, y) ∷ ((true, o) ∷ ps)) h = absurd h

-- a `while` takes the list of its block
fit_looped : (e : Placed) (bs : List Opened) (ps : List Part) → Fit (in_while ∷ bs) ps → Fit bs (looped e ps)
fit_looped e bs [] h = absurd h
fit_looped e bs ((false, y) ∷ ps) h = fit_fronted (loop e y) bs ps h
fit_looped e bs ((true, y) ∷ ps) h = absurd h

-- the lists that balanced statements begin fit the blocks in front of them
pub fits : (bs : List Opened) (ss : List Step) → Balanced bs ss → Fit bs (parts ss)
fits [] [] h = tt
fits (b ∷ bs) [] h = cc
fits bs (does s ∷ ss) h = fit_fronted (plain s) bs (parts ss) (fits bs ss h.1)
fits bs (tests e ∷ ss) h = fit_branched e bs (parts ss) (fits (in_if ∷ bs) ss h.1)
fits bs (repeats e ∷ ss) h = fit_looped e bs (parts ss) (fits (in_while ∷ bs) ss h.1)
fits [] (otherwise ∷ ss) h = cc
fits (in_if ∷ bs) (otherwise ∷ ss) h = fits (in_else ∷ bs) ss h.1
fits (in_else ∷ bs) (otherwise ∷ ss) h = cc
fits (in_while ∷ bs) (otherwise ∷ ss) h = cc
fits [] (closes ∷ ss) h = cc
fits (in_if ∷ bs) (closes ∷ ss) h = fits bs ss h.1
fits (in_else ∷ bs) (closes ∷ ss) h = fits bs ss h.1
fits (in_while ∷ bs) (closes ∷ ss) h = fits bs ss h.1

-- a list's closing line, and the lines behind it
abbrev closed : Bool → ℕ → List Part → List Line → List Line
closed b target [] ls = []
closed false target (q ∷ ps) ls = end_line ∷ ls
closed true target (q ∷ ps) ls = else_line target ∷ ls

-- the ends in front of a list, where its closing line stands before position m
abbrev topped : Bool → ℕ → List Part → List ℕ → List ℕ
topped b m [] ends = []
topped false m (q ∷ ps) ends = m ∷ ends
topped true m (q ∷ ps) ends = m ∷ farther ends

-- the ends in front of lists
abbrev tops : ℕ → List Part → List ℕ
tops n [] = []
tops n (p ∷ ps) =
    let m = n + size p.1 + 1 in
    topped p.0 m ps (tops m ps)

-- the lines of lists, each with its closing line
abbrev spread : ℕ → List Part → List Line
spread n [] = []
spread n (p ∷ ps) =
    let m = n + size p.1 + 1 in
    lines_at n p.1 ++ closed p.0 (nearest (tops m ps)) ps (spread m ps)

-- what stands behind a list whose closing line stands before position m
abbrev behind : Bool → List Part → ℕ → List Line
behind b ps m = closed b (nearest (tops m ps)) ps (spread m ps)

-- Statements stand where their lists do.
abbrev Stand : ℕ → List Step → List Part → Type 0
Stand n ss ps = (targeted n ss ≡ spread n ps) × (ends_at n ss ≡ tops n ps)

-- a plain statement in front
stand_plain : (n : ℕ) (s : Simple) (bs : List Opened) (ss : List Step) (ps : List Part) → Fit bs ps → Stand (n + 1) ss ps
    → Stand n (does s ∷ ss) (fronted (plain s) ps)
stand_plain n s bs ss [] f h = absurd (elim bs as (λ z. Fit z [] → ⊥) [ [] ↦ λ x. x | b ∷ r ↦ λ x. x ] f)
stand_plain n s bs ss (p ∷ ps) f h =
    let q : n + 1 + size p.1 + 1 ≡ n + (1 + size p.1) + 1 = omega arith in (
      ap (λ ls. simple_line s ∷ ls) h.0 ∙ ap (λ m. simple_line s ∷ (lines_at (n + 1) p.1 ++ behind p.0 ps m)) q,
      h.1 ∙ ap (λ m. topped p.0 m ps (tops m ps)) q,
    )

-- an `else` in front
stand_else : (n : ℕ) (bs : List Opened) (ss : List Step) (ps : List Part) → Fit bs ps → Stand (n + 1) ss ps → Stand n (otherwise ∷ ss) ((true, done) ∷ ps)
stand_else n bs ss [] f h = absurd (elim bs as (λ z. Fit z [] → ⊥) [ [] ↦ λ x. x | b ∷ r ↦ λ x. x ] f)
stand_else n bs ss (p ∷ ps) f h =
    let q : n + 1 ≡ n + 0 + 1 = omega arith in (
      ap (λ ends. else_line (nearest ends) ∷ targeted (n + 1) ss) h.1
          ∙ ap (λ ls. else_line (nearest (tops (n + 1) (p ∷ ps))) ∷ ls) h.0
          ∙ ap (λ m. else_line (nearest (tops m (p ∷ ps))) ∷ spread m (p ∷ ps)) q,
      ap (λ ends. (n + 1) ∷ farther ends) h.1 ∙ ap (λ m. m ∷ farther (tops m (p ∷ ps))) q,
    )

-- an `end` in front
stand_end : (n : ℕ) (bs : List Opened) (ss : List Step) (ps : List Part) → Fit bs ps → Stand (n + 1) ss ps → Stand n (closes ∷ ss) ((false, done) ∷ ps)
stand_end n bs ss [] f h = absurd (elim bs as (λ z. Fit z [] → ⊥) [ [] ↦ λ x. x | b ∷ r ↦ λ x. x ] f)
stand_end n bs ss (p ∷ ps) f h =
    let q : n + 1 ≡ n + 0 + 1 = omega arith in (
      ap (λ ls. end_line ∷ ls) h.0 ∙ ap (λ m. end_line ∷ spread m (p ∷ ps)) q,
      ap (λ ends. (n + 1) ∷ ends) h.1 ∙ ap (λ m. m ∷ tops m (p ∷ ps)) q,
    )

-- an `if` without `else` in front of its list and the list behind its `end`
lines_only : (e : Placed) (n : ℕ) (y : Block) (p : Part) (ps : List Part)
    → let m = n + 1 + size y + 1 in
    if_line e m ∷ (lines_at (n + 1) y ++ end_line ∷ spread m (p ∷ ps)) ≡ spread n ((p.0, if_only e y p.1) ∷ ps)
lines_only e n y p ps =
    let m = n + 1 + size y + 1 in
    let q : m + size p.1 + 1 ≡ n + (1 + (size y + (1 + size p.1))) + 1 = omega arith in
    ap (λ k. if_line e m ∷ (lines_at (n + 1) y ++ end_line ∷ (lines_at m p.1 ++ behind p.0 ps k))) q
    ∙ ap (λ ls. if_line e m ∷ ls)
    (sym (append_assoc (lines_at (n + 1) y) (end_line ∷ lines_at m p.1) (behind p.0 ps (n + (1 + (size y + (1 + size p.1))) + 1))))

-- an `if` with `else` in front of its lists and the list behind its `end`
lines_else : (e : Placed) (n : ℕ) (y o : Block) (p : Part) (ps : List Part)
    → let m = n + 1 + size y + 1 in
    let q = m + size o + 1 in
    if_line e m ∷ (lines_at (n + 1) y ++ else_line q ∷ (lines_at m o ++ end_line ∷ spread q (p ∷ ps)))
    ≡ spread n ((p.0, if_else e y o p.1) ∷ ps)
lines_else e n y o p ps =
    let m = n + 1 + size y + 1 in
    let q = m + size o + 1 in
    let k = n + (1 + (size y + (1 + (size o + (1 + size p.1))))) + 1 in
    let i : q + size p.1 + 1 ≡ k = omega arith in
    ap (λ z. if_line e m ∷ (lines_at (n + 1) y ++ else_line q ∷ (lines_at m o ++ end_line ∷ (lines_at q p.1 ++ behind p.0 ps z)))) i
    ∙ ap (λ ls. if_line e m ∷ (lines_at (n + 1) y ++ else_line q ∷ ls)) (sym (append_assoc (lines_at m o) (end_line ∷ lines_at q p.1) (behind p.0 ps k)))
    ∙ ap (λ ls. if_line e m ∷ ls) (sym (append_assoc (lines_at (n + 1) y) (else_line q ∷ (lines_at m o ++ end_line ∷ lines_at q p.1)) (behind p.0 ps k)))

-- the ends in front of an `if` without `else`
tops_only : (e : Placed) (n : ℕ) (y : Block) (p : Part) (ps : List Part) → tops (n + 1 + size y + 1) (p ∷ ps) ≡ tops n ((p.0, if_only e y p.1) ∷ ps)
tops_only e n y p ps =
    let q : n + 1 + size y + 1 + size p.1 + 1 ≡ n + (1 + (size y + (1 + size p.1))) + 1 = omega arith in
    ap (λ m. topped p.0 m ps (tops m ps)) q

-- the ends in front of an `if` with `else`
tops_else : (e : Placed) (n : ℕ) (y o : Block) (p : Part) (ps : List Part)
    → tops (n + 1 + size y + 1 + size o + 1) (p ∷ ps) ≡ tops n ((p.0, if_else e y o p.1) ∷ ps)
tops_else e n y o p ps =
    let q : n + 1 + size y + 1 + size o + 1 + size p.1 + 1 ≡ n + (1 + (size y + (1 + (size o + (1 + size p.1))))) + 1 = omega arith in
    ap (λ m. topped p.0 m ps (tops m ps)) q

-- a `while` in front of its list and the list behind its `end`
lines_loop : (e : Placed) (n : ℕ) (y : Block) (p : Part) (ps : List Part) →
    let m = n + 1 + size y + 1 in while_line e m ∷ (lines_at (n + 1) y ++ back_line n ∷ spread m (p ∷ ps)) ≡ spread n ((p.0, loop e y p.1) ∷ ps)
lines_loop e n y p ps =
    let m = n + 1 + size y + 1 in
    let q : m + size p.1 + 1 ≡ n + (1 + (size y + (1 + size p.1))) + 1 = omega arith in
    ap (λ k. while_line e m ∷ (lines_at (n + 1) y ++ back_line n ∷ (lines_at m p.1 ++ behind p.0 ps k))) q
    ∙ ap (λ ls. while_line e m ∷ ls)
    (sym (append_assoc (lines_at (n + 1) y) (back_line n ∷ lines_at m p.1) (behind p.0 ps (n + (1 + (size y + (1 + size p.1))) + 1))))

-- a `while` leads the line that closes its list back to itself
lines_back : (e : Placed) (n : ℕ) (y : Block) (p : Part) (ps : List Part) →
    let m = n + 1 + size y + 1 in
    while_line e m ∷ back_at n (m - n - 2) (lines_at (n + 1) y ++ end_line ∷ spread m (p ∷ ps)) ≡ spread n ((p.0, loop e y p.1) ∷ ps)
lines_back e n y p ps =
    let m = n + 1 + size y + 1 in
    let q : m - n - 2 ≡ length (lines_at (n + 1) y) = omega (arith, length-lines_at (n + 1) y) in
    ap (λ ls. while_line e m ∷ ls) (back_seam n (m - n - 2) (lines_at (n + 1) y) (spread m (p ∷ ps)) end_line q) ∙ lines_loop e n y p ps

-- the ends in front of a `while`
tops_loop : (e : Placed) (n : ℕ) (y : Block) (p : Part) (ps : List Part) → tops (n + 1 + size y + 1) (p ∷ ps) ≡ tops n ((p.0, loop e y p.1) ∷ ps)
tops_loop e n y p ps =
    let q : n + 1 + size y + 1 + size p.1 + 1 ≡ n + (1 + (size y + (1 + size p.1))) + 1 = omega arith in
    ap (λ m. topped p.0 m ps (tops m ps)) q

-- there is a list
fit_some : (bs : List Opened) → Fit bs [] → ⊥
fit_some [] h = h
fit_some (b ∷ bs) h = h

-- an `if` in front of lists that fit its block
spread_if : (e : Placed) (n : ℕ) (bs : List Opened) (ps : List Part) → Fit (in_if ∷ bs) ps
    → (if_line e (nearest (tops (n + 1) ps)) ∷ spread (n + 1) ps ≡ spread n (branched e ps))
    × (farther (tops (n + 1) ps) ≡ tops n (branched e ps))
spread_if e n bs [] f = absurd f
spread_if e n bs ((false, y) ∷ []) f = absurd (fit_some bs f)
spread_if e n bs ((false, y) ∷ (p ∷ ps)) f = (lines_only e n y p ps, tops_only e n y p ps)
spread_if e n bs ((true, y) ∷ []) f = absurd f
spread_if e n bs ((true, y) ∷ ((false, o) ∷ [])) f = absurd (fit_some bs f)
spread_if e n bs ((true, y) ∷ ((false, o) ∷ (p ∷ ps))) f = (lines_else e n y o p ps, tops_else e n y o p ps)
spread_if e n bs ((true, y) ∷ ((true, o) ∷ ps)) f = absurd f

-- a `while` in front of lists that fit its block
spread_while : (e : Placed) (n : ℕ) (bs : List Opened) (ps : List Part) → Fit (in_while ∷ bs) ps →
    (let m = nearest (tops (n + 1) ps) in while_line e m ∷ back_at n (m - n - 2) (spread (n + 1) ps) ≡ spread n (looped e ps))
    × (farther (tops (n + 1) ps) ≡ tops n (looped e ps))
spread_while e n bs [] f = absurd f
spread_while e n bs ((false, y) ∷ []) f = absurd (fit_some bs f)
spread_while e n bs ((false, y) ∷ (p ∷ ps)) f = (lines_back e n y p ps, tops_loop e n y p ps)
spread_while e n bs ((true, y) ∷ ps) f = absurd f

-- an `if` in front
stand_if : (n : ℕ) (e : Placed) (bs : List Opened) (ss : List Step) (ps : List Part) → Fit (in_if ∷ bs) ps → Stand (n + 1) ss ps
    → Stand n (tests e ∷ ss) (branched e ps)
stand_if n e bs ss ps f h =
    let s = spread_if e n bs ps f in (
      ap (λ ends. if_line e (nearest ends) ∷ targeted (n + 1) ss) h.1 ∙ ap (λ ls. if_line e (nearest (tops (n + 1) ps)) ∷ ls) h.0 ∙ s.0,
      ap farther h.1 ∙ s.1,
    )

-- a `while` in front
stand_while : (n : ℕ) (e : Placed) (bs : List Opened) (ss : List Step) (ps : List Part) → Fit (in_while ∷ bs) ps → Stand (n + 1) ss ps →
    Stand n (repeats e ∷ ss) (looped e ps)
stand_while n e bs ss ps f h =
    let s = spread_while e n bs ps f in
    let aimed : ℕ → List Line → List Line = λ m ls. while_line e m ∷ back_at n (m - n - 2) ls in (
      ap (λ ends. aimed (nearest ends) (targeted (n + 1) ss)) h.1 ∙ ap (aimed (nearest (tops (n + 1) ps))) h.0 ∙ s.0,
      ap farther h.1 ∙ s.1,
    )

-- balanced statements with their targets are the lines of the lists that they begin
stand : (n : ℕ) (bs : List Opened) (ss : List Step) → Balanced bs ss → Stand n ss (parts ss)
stand n bs [] h = (refl, refl)
stand n bs (does s ∷ ss) h =
    stand_plain n s bs ss (parts ss) (fits bs ss h.1) (stand (n + 1) bs ss h.1)
stand n bs (tests e ∷ ss) h =
    stand_if n e bs ss (parts ss) (fits (in_if ∷ bs) ss h.1) (stand (n + 1) (in_if ∷ bs) ss h.1)
stand n bs (repeats e ∷ ss) h =
    stand_while n e bs ss (parts ss) (fits (in_while ∷ bs) ss h.1) (stand (n + 1) (in_while ∷ bs) ss h.1)
stand n bs (otherwise ∷ ss) h =
    stand_else n (other_branch bs) ss (parts ss) (fits (other_branch bs) ss h.1) (stand (n + 1) (other_branch bs) ss h.1)
stand n bs (closes ∷ ss) h =
    stand_end n (outer bs) ss (parts ss) (fits (outer bs) ss h.1) (stand (n + 1) (outer bs) ss h.1)

-- a whole program is one list
whole : (ps : List Part) → Fit [] ps → spread 0 ps ≡ lines_at 0 (innermost ps)
whole [] f = absurd f
whole ((false, y) ∷ []) f = append-nil (lines_at 0 y)
whole ((true, y) ∷ []) f = absurd f
whole (p ∷ (q ∷ ps)) f = absurd f

-- a whole program's statements with their targets are the lines of its tree
pub targeted_lines : (ss : List Step) → Balanced [] ss → targeted 0 ss ≡ lines_at 0 (block_of_steps ss)
targeted_lines ss h = (stand 0 [] ss h).0 ∙ whole (parts ss) (fits [] ss h)
