-- Threads may share a program, as they may share each part of it.
use denote.Param.Send.{IsSync, sendable}
use denote.Param.SendFields.{variants_sync}
use Rattle.std.proofs.Crossing.{crosses}
use Rattle.rank_text.specs.contracts.grammar.name.Name as Name
use Rattle.rank_text.specs.contracts.checker.scope.Array as Array
use Rattle.rank_language.specs.contracts.expression.Expression as Expression
use Rattle.rank_language.specs.contracts.statement.Buffer as Buffer
use Rattle.rank_language.specs.contracts.statement.Payload as Payload
use Rattle.rank_language.specs.contracts.statement.Pattern as Pattern
use Rattle.rank_language.specs.contracts.statement.Collective as Collective
use Rattle.rank_language.specs.contracts.statement.Statement as Statement
use Rattle.rank_language.specs.contracts.compact.Nested as Nested
use Rattle.rank_language.specs.contracts.compact.Compact as Compact
use Rattle.rank_language.specs.contracts.program.Program as Program
use Rattle.rank_language.proofs.expression.Expression.TheLaws.TheKnot as knot

-- threads may share a name
name_sync : IsSync Name.the_row
name_sync = search (crosses, sendable) depth 60

-- and an array, with its name and its length
array_sync : IsSync Array.the_row
array_sync = search (name_sync, crosses, sendable) depth 60

-- and a buffer
buffer_sync : IsSync Buffer.the_row
buffer_sync = search (crosses, sendable) depth 60

-- and an expression, with those in its boxes
expression_sync : IsSync Expression.the_row
expression_sync = search (knot.crosses, crosses, sendable) depth 60 fits 20000

-- and what a send gives
payload_sync : IsSync Payload.the_row
payload_sync = variants_sync Payload.enum (search (expression_sync, crosses, sendable) depth 60)

-- and a source or a tag
pattern_sync : IsSync Pattern.the_row
pattern_sync = variants_sync Pattern.enum (search (expression_sync, crosses, sendable) depth 60)

-- and a collective
collective_sync : IsSync Collective.the_row
collective_sync = variants_sync Collective.enum (search (expression_sync, buffer_sync, crosses, sendable) depth 60)

-- so a statement
statement_sync : IsSync Statement.the_row
statement_sync = variants_sync Statement.enum (search (expression_sync, payload_sync, pattern_sync, buffer_sync, collective_sync, crosses, sendable) depth 60)

-- and an operation on an operation
nested_sync : IsSync Nested.the_row
nested_sync = search (crosses, sendable) depth 60

-- and a statement in compact form
compact_sync : IsSync Compact.the_row
compact_sync = variants_sync Compact.enum (search (nested_sync, crosses, sendable))

-- so a program
pub program_sync : IsSync Program.the_row
program_sync = search (statement_sync, name_sync, array_sync, compact_sync, crosses, sendable) depth 60
