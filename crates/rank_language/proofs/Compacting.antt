-- The compact forms of statements: one more at the end of a list, and the one at a position.
use Rattle.std.proofs.Common.{◌≡◌, ℕ, zero, suc, ◌+◌, ◌<◌, ◌≤◌, List, [], ◌∷◌, ◌++◌, length, map, Option, Some, None, option_map, IfSome}
use Rattle.std.proofs.Common.{slice_get, get_or, refl, sym, ap, ◌∙◌, subst, arith}
use Rattle.limits.specs.Limits.{most_lines}
use Rattle.rank_language.specs.declared.compact.Compact.{Compact}
use Rattle.rank_language.specs.declared.statement.Statement.{Statement}
use Rattle.rank_language.specs.Block.{Line, size}
use Rattle.rank_language.specs.Correct.{IsProgram}
use Rattle.rank_language.specs.Program.{ProgramValue, block_of}
use Rattle.rank_language.specs.Seen.{line_of}
use Rattle.rank_language.specs.Compact.{compact_line, own_line, behind, IsCompact, AreCompact, HasCompacts}
use Rattle.rank_language.proofs.Statements.{statement_count}

-- the lines behind so many
abbrev dropped : ℕ → List Line → List Line
dropped zero ls = ls
dropped (suc k) ls = dropped k (behind ls)

-- one more is compact if it spells the line behind those that are
compact_more : (cs : List Compact) (ls : List Line) (c : Compact) → AreCompact cs ls → IsCompact c (dropped (length cs) ls) → AreCompact (cs ++ c ∷ []) ls
compact_more [] ls c h i = (i, tt)
compact_more (x ∷ cs) ls c h i = (h.0, compact_more cs (behind ls) c h.1 i)

-- the line at an index is the first of those behind so many
spelled : (ss : List Statement) (k : ℕ) (x : Statement) (c : Compact) → k < length ss → x ≡ get_or ss k x
    → IfSome (compact_line c) (λ m. m ≡ own_line (line_of x)) → IsCompact c (dropped k (map line_of ss))
spelled [] k x c h e i = absurd (omega (arith, h))
spelled (s ∷ ss) zero x c h e i = subst (λ z. IfSome (compact_line c) (λ m. m ≡ own_line (line_of z))) e i
spelled (s ∷ ss) (suc k) x c h e i = spelled ss k x c (omega (arith, h)) e i

-- one statement more
pub statement_more : (ss : List Statement) (k : ℕ) (x : Statement) (cs ds : List Compact) (c : Compact) → k < length ss → x ≡ get_or ss k x
    → length cs ≡ k → AreCompact cs (map line_of ss) → IfSome (compact_line c) (λ m. m ≡ own_line (line_of x)) → ds ≡ cs ++ c ∷ []
    → AreCompact ds (map line_of ss)
statement_more ss k x cs ds c h e n a i d =
    subst (λ z. AreCompact z (map line_of ss)) (sym d)
    (compact_more cs (map line_of ss) c a (subst (λ j. IsCompact c (dropped j (map line_of ss))) (sym n) (spelled ss k x c h e i)))

-- behind all lines there are none
none_behind : (k : ℕ) → dropped k [] ≡ []
none_behind zero = refl
none_behind (suc k) = none_behind k

-- none is left if as many are dropped as there are, or more
all_dropped : (ls : List Line) (k : ℕ) → length ls ≤ k → dropped k ls ≡ []
all_dropped [] k h = none_behind k
all_dropped (l ∷ ls) zero h = absurd (omega (arith, h))
all_dropped (l ∷ ls) (suc k) h = all_dropped ls k (omega (arith, h))

-- there are as many lines as statements
pub lines_length : (ss : List Statement) → length (map line_of ss) ≡ length ss
lines_length [] = refl
lines_length (s ∷ ss) = ap suc (lines_length ss)

-- one that spells nothing may stand behind all
pub none_more : (ss : List Statement) (k : ℕ) (cs ds : List Compact) (c : Compact) → length ss ≤ k → length cs ≡ k → AreCompact cs (map line_of ss)
    → compact_line c ≡ None → ds ≡ cs ++ c ∷ [] → AreCompact ds (map line_of ss)
none_more ss k cs ds c h n a i d =
    let ls = map line_of ss in
    let past : length ls ≤ length cs = omega (arith, h, n, lines_length ss) in
    subst (λ z. AreCompact z ls) (sym d)
    (compact_more cs ls c a (subst (IsCompact c) (sym (all_dropped ls (length cs) past)) i))

-- one more is one longer
length_more : (cs : List Compact) (c : Compact) → length (cs ++ c ∷ []) ≡ length cs + 1
length_more [] c = refl
length_more (x ∷ cs) c = omega (arith, length_more cs c)

-- so its count is
pub counted_more : (cs ds : List Compact) (c : Compact) (k : ℕ) → length cs ≡ k → ds ≡ cs ++ c ∷ [] → length ds ≡ k + 1
counted_more cs ds c k n d = ap length d ∙ length_more cs c ∙ ap (λ j. j + 1) n

-- a position up to the end has a compact form, and there are few positions
pub compact_within : (cs : List Compact) (p : ProgramValue) (k : ℕ) → HasCompacts cs p → k ≤ size (block_of p) → k < length cs
compact_within cs p k h q =
    let n = statement_count p h.stands in
    let m = h.count in
    omega (arith, n, m, q)

-- and such a position is no more than a text may have lines
pub compact_bound : (p : ProgramValue) (k : ℕ) → IsProgram p → k ≤ size (block_of p) → k ≤ most_lines
compact_bound p k h q =
    let n = statement_count p h in
    let f = h.few in
    omega (arith, n, f, q)

-- the one at a position spells the line there, if it spells any
first_spelled : (c : Compact) (ls : List Line) (o : Option Line) → compact_line c ≡ o → IsCompact c ls
    → IfSome o (λ m. option_map own_line (slice_get ls 0) ≡ Some m)
first_spelled c ls None e i = tt
first_spelled c [] (Some m) e i = absurd (let g : None ≡ Some m = sym i ∙ e in cc)
first_spelled c (l ∷ ls) (Some m) e i =
    let j : IfSome (Some m) (λ x. x ≡ own_line l) = subst (λ o. IfSome o (λ x. x ≡ own_line l)) e i in
    ap Some (sym j)

-- a line behind the first stands one place further on
get_behind : (ls : List Line) (k : ℕ) → slice_get (behind ls) k ≡ slice_get ls (suc k)
get_behind [] k = refl
get_behind (l ∷ ls) k = refl

-- so does the one at each position
pub compact_there : (cs : List Compact) (ls : List Line) (k : ℕ) (c : Compact) → k < length cs → c ≡ get_or cs k c → AreCompact cs ls
    → IfSome (compact_line c) (λ m. option_map own_line (slice_get ls k) ≡ Some m)
compact_there [] ls k c h e a = absurd (omega (arith, h))
compact_there (x ∷ cs) ls zero c h e a =
    subst (λ z. IfSome (compact_line z) (λ m. option_map own_line (slice_get ls 0) ≡ Some m)) (sym e) (first_spelled x ls _ refl a.0)
compact_there (x ∷ cs) ls (suc k) c h e a =
    subst (λ o. IfSome (compact_line c) (λ m. option_map own_line o ≡ Some m)) (get_behind ls k)
    (compact_there cs (behind ls) k c (omega (arith, h)) e a.1)
