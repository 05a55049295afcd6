-- Statements of the code, without where they lie in memory.
use Rattle.std.specs.Prelude.{Option, Some, None}
use Rattle.std.specs.Borrow.{Bor}
use Rattle.rank_language.specs.declared.expression.Expression.{Expression}
use Rattle.rank_language.specs.declared.expression.Expression.TheVariants as made
use Rattle.rank_language.specs.declared.expression.Operand.{Operand}
use Rattle.rank_language.specs.declared.expression.Operand.TheVariants as operand
use Rattle.rank_language.specs.declared.statement.Pattern as source_pattern
use Rattle.rank_language.specs.declared.statement.Payload as source_payload
use Rattle.rank_language.specs.declared.statement.Buffer as source_buffer
use Rattle.rank_language.specs.declared.statement.Collective as source_collective
use Rattle.rank_language.specs.declared.statement.Statement as source_statement
use Rattle.rank_language.specs.Placed.{Placed, number, variable, item, reading, negation, operation, Pattern, any, value, Payload}
use Rattle.rank_language.specs.Placed.{one, all_of, Buffer, into_variable, into_array, declare, declare_array, assign, assign_item}
use Rattle.rank_language.specs.Placed.{send, receive, probe, try_probe, print, Collective, barrier, broadcast, reduce, collect}
use Rattle.rank_language.specs.Block.{Line, simple_line, if_line, else_line, end_line, while_line, back_line}

-- an operand as an expression
abbrev pub operand_of : Operand → Placed
operand_of (operand.Number n) = number n
operand_of (operand.Variable p) = variable p

-- an expression without where it lies
abbrev pub placed_of : Expression → Placed
placed_of (made.Number n) = number n
placed_of (made.Variable p) = variable p
placed_of (made.Item' p l e) = item p (placed_of e)
placed_of (made.Reading r) = reading r
placed_of (made.Negation' l e) = negation (placed_of e)
placed_of (made.Operation' o l a m b) = operation o (placed_of a) (placed_of b)
placed_of (made.Simple o p b) = operation o (variable p) (operand_of b)

-- a pattern without where it lies
abbrev pub pattern_of : source_pattern.Pattern → Pattern
pattern_of source_pattern.TheVariants.Any = any
pattern_of (source_pattern.TheVariants.Value e) = value (placed_of e)

-- a payload without where it lies
abbrev pub payload_of : source_payload.Payload → Payload
payload_of (source_payload.TheVariants.One e) = one (placed_of e)
payload_of (source_payload.TheVariants.All p) = all_of p

-- a buffer as the definitions have it
abbrev pub buffer_of : source_buffer.Buffer → Buffer
buffer_of (source_buffer.TheVariants.Variable p) = into_variable p
buffer_of (source_buffer.TheVariants.Array p) = into_array p

-- a collective without where its expressions lie
abbrev pub collective_of : source_collective.Collective → Collective
collective_of source_collective.TheVariants.Barrier = barrier
collective_of (source_collective.TheVariants.Broadcast e b) = broadcast (placed_of e) (buffer_of b)
collective_of (source_collective.TheVariants.Reduce f e v p) = reduce f (placed_of e) (placed_of v) p

-- a statement as a line
abbrev pub line_of : source_statement.Statement → Line
line_of (source_statement.TheVariants.Declare p) = simple_line (declare p)
line_of (source_statement.TheVariants.DeclareArray p) = simple_line (declare_array p)
line_of (source_statement.TheVariants.Assign p e) = simple_line (assign p (placed_of e))
line_of (source_statement.TheVariants.AssignItem p i e) = simple_line (assign_item p (placed_of i) (placed_of e))
line_of (source_statement.TheVariants.If e q) = if_line (placed_of e) q
line_of (source_statement.TheVariants.Else q) = else_line q
line_of source_statement.TheVariants.EndIf = end_line
line_of (source_statement.TheVariants.While e q) = while_line (placed_of e) q
line_of (source_statement.TheVariants.EndWhile q) = back_line q
line_of (source_statement.TheVariants.Send d t p) = simple_line (send (placed_of d) (placed_of t) (payload_of p))
line_of (source_statement.TheVariants.Receive s t b) = simple_line (receive (pattern_of s) (pattern_of t) (buffer_of b))
line_of (source_statement.TheVariants.Probe s t) = simple_line (probe (pattern_of s) (pattern_of t))
line_of (source_statement.TheVariants.TryProbe s t p) = simple_line (try_probe (pattern_of s) (pattern_of t) p)
line_of (source_statement.TheVariants.Print e) = simple_line (print (placed_of e))
line_of (source_statement.TheVariants.Collect c) = simple_line (collect (collective_of c))

-- the line of a statement that was found
abbrev pub line_in : Option (Bor source_statement.Statement) → Option Line
line_in None = None
line_in (Some s) = Some (line_of s.now)
