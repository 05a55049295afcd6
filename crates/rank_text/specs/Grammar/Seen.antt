-- What the reader's values in the code stand for.
use Rattle.std.specs.Prelude.{◌≡◌, ℕ, List, [], ◌∷◌, Option, Some, None, Result, Ok, Err, ◌++◌}
use Rattle.rank_text.specs.declared.grammar.token.Operator.{Operator}
use Rattle.rank_text.specs.declared.grammar.token.Token.{Token}
use Rattle.rank_text.specs.declared.grammar.written.Written.{Written}
use Rattle.rank_text.specs.declared.grammar.reader.Level as source_level
use Rattle.rank_text.specs.declared.grammar.reader.Bracket as source_bracket
use Rattle.rank_text.specs.declared.grammar.reader.State as source_state
use Rattle.rank_text.specs.declared.grammar.reader.Step as source_step
use Rattle.std.specs.Borrow.{Bor}
use Rattle.rank_text.specs.Grammar.Tree.{Tree, tree_of}
use Rattle.rank_text.specs.declared.grammar.misfit.Expected.{Expected}
use Rattle.rank_text.specs.declared.grammar.misfit.Misfit.{Misfit}
use Rattle.rank_text.specs.Grammar.Reader.{Left, Level, Bracket, parenthesis, index_of, Stack, State, wants, named, has, Read}

-- a left operand that waits, and its operator
abbrev pub left_of : Option (Written × Operator) → Left
left_of None = None
left_of (Some l) = Some (tree_of l.0, l.1)

-- what stands before an operand
abbrev pub level_of : source_level.Level → Level
level_of f = record { compared = left_of f.compared; added = left_of f.added; multiplied = left_of f.multiplied; minuses = f.minuses }

-- what was opened
abbrev pub bracket_of : source_bracket.Bracket → Bracket
bracket_of source_bracket.TheVariants.Parenthesis = parenthesis
bracket_of (source_bracket.TheVariants.IndexOf x) = index_of x

-- the open brackets: the innermost is the last in the code, and the first here
abbrev pub stack_of : List (source_bracket.Bracket × source_level.Level) → Stack
stack_of [] = []
stack_of (b ∷ s) = stack_of s ++ (bracket_of b.0, level_of b.1) ∷ []

-- the state of the reader, with its open brackets
abbrev pub state_of : source_state.State → Stack → State
state_of (source_state.TheVariants.Wants f) s = wants (level_of f) s
state_of (source_state.TheVariants.Named f x) s = named (level_of f) s x
state_of (source_state.TheVariants.Has c a e) s = has (left_of c) (left_of a) s (tree_of e)

-- how many signs stand before the operand that is wanted
abbrev pub minuses_of : source_state.State → ℕ
minuses_of (source_state.TheVariants.Wants f) = f.minuses
minuses_of (source_state.TheVariants.Named f x) = 0
minuses_of (source_state.TheVariants.Has c a e) = 0

-- where the reading stopped, and what is expected there
abbrev pub misfit_of : Misfit → List Token × Expected
misfit_of m = (m.rest.now, m.expected)

-- the tree of what has been read, or what is expected
abbrev pub ended_of : Result Written Expected → Result Tree Expected
ended_of (Ok e) = Ok (tree_of e)
ended_of (Err x) = Err x

-- what a step is: the next state, or where the token can't come the end with what has been read
abbrev pub Goes : source_step.Step → List (source_bracket.Bracket × source_level.Level) → Option State → Result Tree Expected → Type 0
Goes (source_step.TheVariants.Next st) stack next stop = next ≡ Some (state_of st (stack_of stack))
Goes (source_step.TheVariants.End e) stack next stop = (next ≡ None) × (ended_of e ≡ stop)

-- the tree of an expression, if one was read
abbrev pub tree_in : Result Written Misfit → Read Tree
tree_in (Ok e) = Ok (tree_of e)
tree_in (Err m) = Err (misfit_of m)

-- what was read, and the tokens that follow
abbrev pub found_of : Result (Written × Bor (List Token)) Misfit → Read (Tree × List Token)
found_of (Ok f) = Ok (tree_of f.0, f.1.now)
found_of (Err m) = Err (misfit_of m)
