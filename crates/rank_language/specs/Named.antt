-- The statements of a program with names for places, as a text has them (docs/LANGUAGE.md: forms).
use Rattle.std.specs.Prelude.{ℕ, List, [], map, slice_index_or, unsigned_abs}
use Rattle.rank_text.specs.Grammar.Tree as text
use Rattle.rank_text.specs.Grammar.Forms as line
use Rattle.rank_text.specs.Checker.Scope.{Scope}
use Rattle.rank_language.specs.Placed.{Placed, number, variable, item, reading, negation, operation, Pattern, any, value}
use Rattle.rank_language.specs.Placed.{Payload, one, all_of, Buffer, into_variable, into_array}
use Rattle.rank_language.specs.Placed.{declare, declare_array, assign, assign_item, send, receive, probe, try_probe, print}
use Rattle.rank_language.specs.Placed.{Collective, barrier, broadcast, reduce, collect, Step, does, tests, repeats, otherwise, closes}
use Rattle.rank_language.specs.Shape.{step_of}
use Rattle.rank_language.specs.Program.{ProgramValue}

-- the name of a variable
abbrev pub variable_name : Scope → ℕ → List ℕ
variable_name s p = slice_index_or s.variables p []

-- an array's name and its length
abbrev pub array_at : Scope → ℕ → List ℕ × ℕ
array_at s p = slice_index_or s.arrays p ([], 0)

-- an expression with names for its places
abbrev pub named : Scope → Placed → text.Tree
named s (number n) = text.number (unsigned_abs n)
named s (variable p) = text.variable (variable_name s p)
named s (item p e) = text.item (array_at s p).0 (named s e)
named s (reading r) = text.reading r
named s (negation e) = text.negation (named s e)
named s (operation o a b) = text.operation o (named s a) (named s b)

-- a source or a tag with names for its places
abbrev pub pattern_named : Scope → Pattern → line.Pattern
pattern_named s any = line.any
pattern_named s (value e) = line.value (named s e)

-- a value that is sent: a variable by itself is written as a lone name
abbrev pub value_named : Scope → Placed → line.Payload
value_named s (number n) = line.one (named s (number n))
value_named s (variable p) = line.lone (variable_name s p)
value_named s (item p e) = line.one (named s (item p e))
value_named s (reading r) = line.one (named s (reading r))
value_named s (negation e) = line.one (named s (negation e))
value_named s (operation o a b) = line.one (named s (operation o a b))

-- a payload with names for its places
abbrev pub payload_named : Scope → Payload → line.Payload
payload_named s (one e) = value_named s e
payload_named s (all_of p) = line.lone (array_at s p).0

-- the name of a buffer
abbrev pub buffer_name : Scope → Buffer → List ℕ
buffer_name s (into_variable p) = variable_name s p
buffer_name s (into_array p) = (array_at s p).0

-- a collective with names for its places
abbrev pub collective_named : Scope → Collective → line.Form
collective_named s barrier = line.barrier_form
collective_named s (broadcast root b) = line.bcast_form (named s root) (buffer_name s b)
collective_named s (reduce o root e p) = line.reduce_form o (named s root) (named s e) (variable_name s p)

-- a statement with names for its places
abbrev pub form_named : Scope → Step → line.Form
form_named s (does (declare p)) = line.var_form (variable_name s p)
form_named s (does (declare_array p)) = line.array_form (array_at s p).0 (array_at s p).1
form_named s (does (assign p e)) = line.let_form (variable_name s p) (named s e)
form_named s (does (assign_item p i e)) = line.item_form (array_at s p).0 (named s i) (named s e)
form_named s (does (send d t p)) = line.send_form (named s d) (named s t) (payload_named s p)
form_named s (does (receive c t b)) = line.recv_form (pattern_named s c) (pattern_named s t) (buffer_name s b)
form_named s (does (probe c t)) = line.probe_form (pattern_named s c) (pattern_named s t)
form_named s (does (try_probe c t p)) = line.try_probe_form (pattern_named s c) (pattern_named s t) (variable_name s p)
form_named s (does (print e)) = line.print_form (named s e)
form_named s (does (collect c)) = collective_named s c
form_named s (tests e) = line.if_form (named s e)
form_named s (repeats e) = line.while_form (named s e)
form_named s otherwise = line.else_form
form_named s closes = line.end_form

-- what a program declares, where no block is open
abbrev pub declared_by : ProgramValue → Scope
declared_by p = record { variables = p.variables; arrays = p.arrays; blocks = [] }

-- a program's statements with names for their places
abbrev pub forms_of : ProgramValue → List line.Form
forms_of p = map (form_named (declared_by p)) (map step_of p.statements)
