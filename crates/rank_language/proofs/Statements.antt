-- What holds of a statement that stands at a position of a program. Its line is the program's line there, so what
-- holds of each line of the program's tree, and of each line's places, holds of it.
use Rattle.std.proofs.Common.{◌≡◌, ℕ, zero, suc, List, [], ◌∷◌, Bool, Option, Some, None, length, map, slice_get, ◌<◌, ◌≤◌}
use Rattle.std.proofs.Common.{◌↔◌, IfSome, IsNone, MatchOption, option_map, get_or, arith, rules, refl, sym, ap, ◌∙◌, subst}
use Rattle.std.proofs.lemmas.Option.{slice_get-map, slice_get_read, slice_get_past, slice_get_within}
use Rattle.std.specs.Borrow.{Bor}
use Rattle.rank_language.specs.declared.statement.Statement.{Statement}
use Rattle.rank_language.specs.Block.{Line, size, remaining, Leads, lines_at, next_position}
use Rattle.rank_language.specs.Seen.{line_of, line_in}
use Rattle.rank_language.specs.Program.{ProgramValue, block_of, IsPlaced, AllPlaced}
use Rattle.rank_language.specs.Correct.{IsProgram}
use Rattle.rank_language.proofs.Places.{leads, length-lines_at}
use Rattle.rank_language.proofs.Targets.{reaches}

-- a program has as many statements as its tree has lines
pub statement_count : (p : ProgramValue) → IsProgram p → length p.statements ≡ size (block_of p)
statement_count p h = ap length h.shaped ∙ length-lines_at 0 (block_of p)

-- a program's line at a position is its tree's
line_there : (p : ProgramValue) (k : ℕ) (l : Line) → IsProgram p → Some l ≡ slice_get p.statements k → slice_get (lines_at 0 (block_of p)) k ≡ Some l
line_there p k l h q = ap (λ ls. slice_get ls k) (sym h.shaped) ∙ sym q

-- the places in one of the lines are in the tables
placed_at : (v a : ℕ) (ls : List Line) (k : ℕ) (l : Line) → AllPlaced v a ls → Some l ≡ slice_get ls k → IsPlaced v a l
placed_at v a [] k l h q = cc
placed_at v a (x ∷ ls) zero l h q =
    let e : x ≡ l = cc in
    subst (IsPlaced v a) e h.0
placed_at v a (x ∷ ls) (suc k) l h q = placed_at v a ls k l h.1 q

-- a line says what remains at the positions to which it leads
pub line_leads : (p : ProgramValue) (k : ℕ) (l : Line) → IsProgram p → slice_get p.statements k ≡ Some l → Leads (remaining (block_of p)) k l
line_leads p k l h q = leads (block_of p) k l (line_there p k l h (sym q))

-- it leads to a position of the program, or behind its last
pub line_reaches : (p : ProgramValue) (k : ℕ) (l : Line) → IsProgram p → slice_get p.statements k ≡ Some l
    → (truth : Bool) → next_position l k truth ≤ size (block_of p)
line_reaches p k l h q = reaches (block_of p) k l (line_there p k l h (sym q))

-- its places are in the tables
pub line_placed : (p : ProgramValue) (k : ℕ) (l : Line) → IsProgram p → slice_get p.statements k ≡ Some l
    → IsPlaced (length p.variables) (length p.arrays) l
line_placed p k l h q = placed_at (length p.variables) (length p.arrays) p.statements k l h.placed (sym q)

-- a statement that was found says what remains
pub found_leads : (p : ProgramValue) (k : ℕ) (r : Option (Bor Statement)) → IsProgram p → line_in r ≡ slice_get p.statements k
    → IfSome r (λ s. Leads (remaining (block_of p)) k (line_of s.now))
found_leads p k None h q = tt
found_leads p k (Some s) h q = leads (block_of p) k (line_of s.now) (line_there p k (line_of s.now) h q)

-- a statement that was found leads to a position of the program or behind its last
pub found_reaches : (p : ProgramValue) (k : ℕ) (r : Option (Bor Statement)) → IsProgram p → line_in r ≡ slice_get p.statements k
    → IfSome r (λ s. (truth : Bool) → next_position (line_of s.now) k truth ≤ size (block_of p))
found_reaches p k None h q = tt
found_reaches p k (Some s) h q = reaches (block_of p) k (line_of s.now) (line_there p k (line_of s.now) h q)

-- each place in a statement that was found is a variable's or an array's
pub found_placed : (p : ProgramValue) (k : ℕ) (r : Option (Bor Statement)) → IsProgram p → line_in r ≡ slice_get p.statements k
    → IfSome r (λ s. IsPlaced (length p.variables) (length p.arrays) (line_of s.now))
found_placed p k None h q = tt
found_placed p k (Some s) h q = placed_at (length p.variables) (length p.arrays) p.statements k (line_of s.now) h.placed q

-- what a list's `get` found is the line there
pub line_found : (ss : List Statement) (k : ℕ) (r : Option (Bor Statement)) (Q : Bor Statement → Type 0)
    → IfSome r (λ x. x.now ≡ get_or ss k x.now) → MatchOption r (length ss ≤ k) (λ x. (k < length ss) × Q x)
    → line_in r ≡ slice_get (map line_of ss) k
line_found ss k None Q e m =
    let q : slice_get ss k ≡ None = slice_get_past ss k m in
    sym (slice_get-map line_of ss k ∙ ap (option_map line_of) q)
line_found ss k (Some x) Q e m =
    let q : slice_get ss k ≡ Some x.now = slice_get_read ss (length ss) k x.now refl m.0 e in
    sym (slice_get-map line_of ss k ∙ ap (option_map line_of) q)

-- where no line stands the lines have ended
missing_past : (ls : List Line) (k : ℕ) → None ≡ slice_get ls k → length ls ≤ k
missing_past [] k q = omega arith
missing_past (l ∷ ls) zero q = cc
missing_past (l ∷ ls) (suc k) q = omega (arith, missing_past ls k q)

-- no statement is found exactly where the position is past the last
pub found_past : (p : ProgramValue) (k : ℕ) (r : Option (Bor Statement)) → IsProgram p → line_in r ≡ slice_get p.statements k
    → IsNone r ↔ (size (block_of p) ≤ k)
found_past p k None h q =
    (λ _. omega (arith, missing_past p.statements k q, statement_count p h), λ _. search rules)
found_past p k (Some s) h q =
    (λ n. search rules, λ n. absurd (omega (arith, n, slice_get_within p.statements k (line_of s.now) (sym q), statement_count p h)))
