-- Expressions that wait to be looked at, in the order in which they were put there.
use Rattle.std.specs.Borrow.{Bor}
use Rattle.std.specs.Prelude.{ℕ, ◌+◌, List, [], ◌∷◌, Bool, true, false, ◌&&◌, ◌||◌}
use Rattle.rank_text.specs.declared.grammar.written.Written.{Written}
use Rattle.rank_text.specs.Grammar.Tree.{tree_of}
use Rattle.rank_text.specs.Checker.Scope.{Scope, all_declared, nodes, is_great}

-- the nodes of all of them
abbrev pub nodes_in_all : List (Bor Written) → ℕ
nodes_in_all [] = 0
nodes_in_all (e ∷ es) = nodes (tree_of e.now) + nodes_in_all es

-- each name in them is declared in the sort that is used there
abbrev pub all_known : Scope → List (Bor Written) → Bool
all_known s [] = true
all_known s (e ∷ es) = all_declared s (tree_of e.now) && all_known s es

-- a number in one of them is above 9223372036854775807
abbrev pub some_great : List (Bor Written) → Bool
some_great [] = false
some_great (e ∷ es) = is_great (tree_of e.now) || some_great es
