-- Expressions are looked at node by node: what has been found so far and what waits together give what the whole expression
-- gives. The last that waits is looked at, and what it stands over is put in its place, in order.
use Rattle.std.specs.Borrow.{Bor}
use Rattle.std.specs.Prelude.{◌≡◌, ℕ, ◌+◌, ◌-◌, ◌<◌, List, [], ◌∷◌, ◌++◌, Bool, true, false, ◌&&◌, ◌||◌, nat_lt, length}
use Rattle.std.proofs.Common.{refl, ap, ◌∙◌, arith}
use Rattle.std.proofs.lemmas.Bool.Decides.{nat_tests}
use Rattle.rank_text.specs.declared.grammar.written.Written.{Written}
use Rattle.rank_text.specs.Grammar.Tree.{tree_of}
use Rattle.rank_text.specs.Checker.Scope.{Scope, all_declared, nodes, is_great}
use Rattle.rank_text.specs.Checker.Waiting.{nodes_in_all, all_known, some_great}

-- an expression more has its nodes
pub nodes_push : (es : List (Bor Written)) (e : Bor Written) → nodes_in_all (es ++ e ∷ []) ≡ nodes_in_all es + nodes (tree_of e.now)
nodes_push [] e = omega arith
nodes_push (d ∷ es) e = let h = nodes_push es e in omega (arith, h)

-- one of two tests may be made first
and_assoc : (a b c : Bool) → (a && (b && c)) ≡ ((a && b) && c)
and_assoc true b c = refl
and_assoc false b c = refl

-- a test that passes adds nothing
pub and_true : (a : Bool) → (a && true) ≡ a
and_true true = refl
and_true false = refl

-- the same of tests of which one is to pass
or_assoc : (a b c : Bool) → (a || (b || c)) ≡ ((a || b) || c)
or_assoc true b c = refl
or_assoc false b c = refl

-- a test that fails adds nothing
pub or_false : (a : Bool) → (a || false) ≡ a
or_false true = refl
or_false false = refl

-- the names of an expression more are tested last
pub known_push : (s : Scope) (es : List (Bor Written)) (e : Bor Written)
    → all_known s (es ++ e ∷ []) ≡ (all_known s es && all_declared s (tree_of e.now))
known_push s [] e = and_true (all_declared s (tree_of e.now))
known_push s (d ∷ es) e =
    ap (λ z. all_declared s (tree_of d.now) && z) (known_push s es e)
    ∙ and_assoc (all_declared s (tree_of d.now)) (all_known s es) (all_declared s (tree_of e.now))

-- so are its numbers
pub great_push : (es : List (Bor Written)) (e : Bor Written)
    → some_great (es ++ e ∷ []) ≡ (some_great es || is_great (tree_of e.now))
great_push [] e = or_false (is_great (tree_of e.now))
great_push (d ∷ es) e =
    ap (λ z. is_great (tree_of d.now) || z) (great_push es e)
    ∙ or_assoc (is_great (tree_of d.now)) (some_great es) (is_great (tree_of e.now))

-- a name is tested before what waits, and stands behind it
pub name_known : (a b c : Bool) → ((a && b) && c) ≡ (a && (c && b))
name_known true true true = refl
name_known true true false = refl
name_known true false true = refl
name_known true false false = refl
name_known false b c = refl

-- an item's name is, and its index waits
pub item_known : (a b c d : Bool) → ((a && b) && (c && d)) ≡ (a && (c && (b && d)))
item_known true true c d = refl
item_known true false true d = refl
item_known true false false d = refl
item_known false b c d = refl

-- of two operands both wait
pub two_known : (a b c d : Bool) → (a && ((b && c) && d)) ≡ (a && (b && (c && d)))
two_known true true c d = refl
two_known true false c d = refl
two_known false b c d = refl

-- a number is tested before what waits, and stands behind it
pub number_great : (a b c : Bool) → ((a || b) || c) ≡ (a || (c || b))
number_great true b c = refl
number_great false true true = refl
number_great false true false = refl
number_great false false true = refl
number_great false false false = refl

-- of two operands both wait
pub two_great : (a b c d : Bool) → (a || ((b || c) || d)) ≡ (a || (b || (c || d)))
two_great true b c d = refl
two_great false true c d = refl
two_great false false c d = refl

-- where there is no room, one more is too many
pub no_room : (large : Bool) (room n : ℕ) → room ≡ 0 → (large || nat_lt room (1 + n)) ≡ true
no_room true room n q = refl
no_room false room n q = grind (arith, nat_tests)

-- where there is room, one more leaves less
less_room : (room n : ℕ) → 0 < room → nat_lt (room - 1) n ≡ nat_lt room (1 + n)
less_room room n h = grind (arith, nat_tests)

-- a node more is one too many where the rest is one too many in what room is left
pub some_room : (large : Bool) (room n : ℕ) → 0 < room → (large || nat_lt (room - 1) n) ≡ (large || nat_lt room (1 + n))
some_room large room n h = ap (λ z. large || z) (less_room room n h)

-- where nothing is left to take nothing waits
pub none_waits : (es : List (Bor Written)) → (0 < length es → ⊥) → es ≡ []
none_waits [] h = refl
none_waits (e ∷ es) h = absurd (h (omega arith))

-- what is left waiting, and the tests of what was looked at
pub ruleset waiting_laws =
    (nodes_push, known_push, great_push, name_known, item_known, two_known, number_great, two_great, and_true, or_false, none_waits)
