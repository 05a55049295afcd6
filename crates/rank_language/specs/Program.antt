-- A program as a value: its lines, and the names of its variables and arrays (docs/LANGUAGE.md:
-- meaning of one step).
use Rattle.std.specs.Prelude.{ℕ, ◌<◌, ◌≤◌, List, [], ◌∷◌, map}
use Rattle.limits.specs.Limits.{most_items}
use Rattle.rank_text.specs.declared.checker.scope.Array.{Array}
use Rattle.rank_text.specs.Checker.SeenLines.{arrays_seen}
use Rattle.rank_language.specs.declared.statement.Statement.{Statement}
use Rattle.rank_language.specs.Placed.{Placed, number, variable, item, reading, negation, operation, Pattern, any, value, Payload}
use Rattle.rank_language.specs.Placed.{one, all_of, Buffer, into_variable, into_array, declare, declare_array, assign, assign_item}
use Rattle.rank_language.specs.Placed.{send, receive, probe, try_probe, print, Collective, barrier, broadcast, reduce, collect}
use Rattle.rank_language.specs.Block.{Block, Line, simple_line, if_line, else_line, end_line, while_line, back_line}
use Rattle.rank_language.specs.Shape.{step_of, block_of_steps}
use Rattle.rank_language.specs.Seen.{line_of}

-- A program: its lines in order, the names of its variables, and those of its arrays with their lengths, in the order of declaration.
pub record ProgramValue : Type 0 where
  pub statements : List Line
  pub variables : List (List ℕ)
  pub arrays : List (List ℕ × ℕ)

-- the block that the lines spell
abbrev pub block_of : ProgramValue → Block
block_of p = block_of_steps (map step_of p.statements)

-- each place in an expression is below the number of variables, or of arrays
abbrev pub IsWithin : ℕ → ℕ → Placed → Type 0
IsWithin v a (number n) = Unit {0}
IsWithin v a (variable p) = p < v
IsWithin v a (item p e) = (p < a) × IsWithin v a e
IsWithin v a (reading r) = Unit {0}
IsWithin v a (negation e) = IsWithin v a e
IsWithin v a (operation o e f) = IsWithin v a e × IsWithin v a f

-- each place in a pattern is
abbrev pub IsPatternWithin : ℕ → ℕ → Pattern → Type 0
IsPatternWithin v a any = Unit {0}
IsPatternWithin v a (value e) = IsWithin v a e

-- each place in a payload is
abbrev pub IsPayloadWithin : ℕ → ℕ → Payload → Type 0
IsPayloadWithin v a (one e) = IsWithin v a e
IsPayloadWithin v a (all_of p) = p < a

-- the buffer's place is
abbrev pub IsBufferWithin : ℕ → ℕ → Buffer → Type 0
IsBufferWithin v a (into_variable p) = p < v
IsBufferWithin v a (into_array p) = p < a

-- each place in a collective is
abbrev pub IsCollectiveWithin : ℕ → ℕ → Collective → Type 0
IsCollectiveWithin v a barrier = Unit {0}
IsCollectiveWithin v a (broadcast root b) = IsWithin v a root × IsBufferWithin v a b
IsCollectiveWithin v a (reduce reduction root e p) = IsWithin v a root × IsWithin v a e × (p < v)

-- each place in a line is below the number of variables, or of arrays
abbrev pub IsPlaced : ℕ → ℕ → Line → Type 0
IsPlaced v a (simple_line (declare p)) = p < v
IsPlaced v a (simple_line (declare_array p)) = p < a
IsPlaced v a (simple_line (assign p e)) = (p < v) × IsWithin v a e
IsPlaced v a (simple_line (assign_item p i e)) = (p < a) × IsWithin v a i × IsWithin v a e
IsPlaced v a (simple_line (send d t p)) = IsWithin v a d × IsWithin v a t × IsPayloadWithin v a p
IsPlaced v a (simple_line (receive s t b)) = IsPatternWithin v a s × IsPatternWithin v a t × IsBufferWithin v a b
IsPlaced v a (simple_line (probe s t)) = IsPatternWithin v a s × IsPatternWithin v a t
IsPlaced v a (simple_line (try_probe s t p)) = IsPatternWithin v a s × IsPatternWithin v a t × (p < v)
IsPlaced v a (simple_line (print e)) = IsWithin v a e
IsPlaced v a (simple_line (collect c)) = IsCollectiveWithin v a c
IsPlaced v a (if_line e q) = IsWithin v a e
IsPlaced v a (else_line q) = Unit {0}
IsPlaced v a end_line = Unit {0}
IsPlaced v a (while_line e q) = IsWithin v a e
IsPlaced v a (back_line q) = Unit {0}

-- each line's places are
abbrev pub AllPlaced : ℕ → ℕ → List Line → Type 0
AllPlaced v a [] = Unit {0}
AllPlaced v a (l ∷ ls) = IsPlaced v a l × AllPlaced v a ls

-- each array has 1 item or more, up to the most that an array may have
abbrev pub AllSized : List (List ℕ × ℕ) → Type 0
AllSized [] = Unit {0}
AllSized (a ∷ arrays) = (1 ≤ a.1) × (a.1 ≤ most_items) × AllSized arrays

-- the program of these statements, variables and arrays
abbrev pub program_value : List Statement → List (List ℕ) → List Array → ProgramValue
program_value ss xs as_ = record { statements = map line_of ss; variables = xs; arrays = arrays_seen as_ }
