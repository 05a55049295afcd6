-- The telling programs of a program: what a rank of them prints is what it sends, or what its
-- receives get. Prints of the program's own only evaluate their values, so faults stay. Each run of
-- the program is then one of a telling program, and the other way round. So each rank sends the same
-- in all runs (the program is send-deterministic: Cappello, Guermouche and Snir, 2010) if and only if
-- it prints the same in all outcomes of the program that tells sends; and so it is of receptions.
--
-- Told is what is sent or received, not what is tried: a send, a receive, a broadcast or a reduction
-- is told behind it, and behind a send its rank comes to the prints whatever else happens. In a
-- barrier rank 0 sends last, and the others send first. A probe is neither. A receive gets what it is
-- told to get, except if the message is too long: then its rank ends. The packets that ranks get in
-- collectives are what the others send there, so they aren't told twice. The first number tells
-- sends from collectives, and how many items there are stands before them, so no two ways to send
-- are told alike.
--
-- That both are the same runs is argued here and tested, not proved.
use Rattle.std.specs.Prelude.{◌≡◌, ℕ, if◌then◌else◌, List, [], ◌∷◌, ◌++◌, Option, Some, None}
use Rattle.std.specs.Str.{bytes_eq}
use Rattle.rank_text.specs.Checker.Faults.{IsFaultOf, IsText}
use Rattle.rank_text.specs.declared.checker.fault.ProgramFault.{ProgramFault}
use Rattle.rank_text.specs.declared.grammar.token.Operator.TheVariants.{Add, Equal, Less, NotEqual}
use Rattle.rank_text.specs.declared.grammar.token.Reading.TheVariants.{Rank, Source, Tag, Count}
use Rattle.rank_text.specs.declared.grammar.token.Reduction.{Reduction}
use Rattle.rank_text.specs.declared.grammar.token.Reduction.TheVariants as reduction
use Rattle.rank_text.specs.Grammar.Tree.{Tree, number, variable, item, reading, operation}
use Rattle.rank_text.specs.Grammar.Forms.{Payload, lone, one}
use Rattle.rank_text.specs.Grammar.Forms.{Form, var_form, array_form, let_form, item_form, if_form, else_form, end_form, while_form}
use Rattle.rank_text.specs.Grammar.Forms.{send_form, recv_form, probe_form, try_probe_form, print_form, barrier_form, bcast_form, reduce_form}
use Rattle.rank_text.specs.Printer.Canonical.{program_text}
use Rattle.rank_language.specs.Correct.{IsProgramOf}
use Rattle.rank_language.specs.Program.{ProgramValue}
use Rattle.rank_language.specs.StandOn.{StandOn}
use Rattle.telling.specs.Free.{HasFreeName, HasNoneFree}
use Rattle.telling.specs.Lines.{lines_each}
use Rattle.telling.specs.declared.added.Added.{Added}
use Rattle.telling.specs.declared.program.Telling.{Telling}
use Rattle.telling.specs.declared.program.Telling.TheVariants as telling

-- how many items the array of this name has, if the statement declares it
abbrev pub length_in : List ℕ → Form → Option ℕ
length_in y (var_form x) = None
length_in y (array_form x n) = if bytes_eq x y then Some n else None
length_in y (let_form x e) = None
length_in y (item_form x i e) = None
length_in y (if_form e) = None
length_in y else_form = None
length_in y end_form = None
length_in y (while_form e) = None
length_in y (send_form d g p) = None
length_in y (recv_form s g x) = None
length_in y (probe_form s g) = None
length_in y (try_probe_form s g x) = None
length_in y (print_form e) = None
length_in y barrier_form = None
length_in y (bcast_form r x) = None
length_in y (reduce_form o r e x) = None

-- the first of two, if it is there
abbrev pub or_else : Option ℕ → Option ℕ → Option ℕ
or_else None other = other
or_else (Some n) other = Some n

-- how many it has, if one of the statements declares it; a variable isn't an array
abbrev pub length_of : List ℕ → List Form → Option ℕ
length_of y [] = None
length_of y (f ∷ fs) = or_else (length_in y f) (length_of y fs)

-- the value is evaluated, into the variable of the program's own
abbrev pub evaluates : Added → Tree → Form
evaluates a e = let_form a.reply e

-- the first so many items of an array are printed
abbrev pub prints_items : Added → List ℕ → Tree → List Form
prints_items a x n = evaluates a (number 0) ∷ while_form (operation Less (variable a.reply) n) ∷ print_form (item x (variable a.reply))
    ∷ evaluates a (operation Add (variable a.reply) (number 1)) ∷ end_form ∷ []

-- how many items are given by a name, and these: of an array of so many items all, of a variable its value
abbrev pub tells_named : Added → List ℕ → Option ℕ → List Form
tells_named a x None = print_form (number 1) ∷ print_form (variable x) ∷ []
tells_named a x (Some n) = print_form (number n) ∷ prints_items a x (number n)

-- the same of what a send gives, in a program of these statements
abbrev pub tells_payload : Added → List Form → Payload → List Form
tells_payload a fs (lone x) = tells_named a x (length_of x fs)
tells_payload a fs (one e) = print_form (number 1) ∷ print_form e ∷ []

-- what a receive got into its buffer, an array of so many items or a variable
abbrev pub tells_buffer : Added → List ℕ → Option ℕ → List Form
tells_buffer a x None = print_form (variable x) ∷ []
tells_buffer a x (Some n) = prints_items a x (reading Count)

-- the number that tells a reduction from all else: ranks are below 16, 16 is a barrier, and 17 a broadcast
abbrev pub number_of : Reduction → ℕ
number_of reduction.Sum = 18
number_of reduction.Max = 19
number_of reduction.Min = 20

-- a destination, a tag and what is sent
abbrev pub tells_send : Added → List Form → Tree → Tree → Payload → List Form
tells_send a fs d g p = print_form d ∷ print_form g ∷ tells_payload a fs p

-- a barrier: rank 0 sends when all others have, and they send at once
abbrev pub tells_barrier : List Form
tells_barrier = if_form (reading Rank) ∷ print_form (number 16) ∷ end_form ∷ barrier_form
    ∷ if_form (operation Equal (reading Rank) (number 0)) ∷ print_form (number 16) ∷ end_form ∷ []

-- a broadcast: its root sends
abbrev pub tells_broadcast : Added → List Form → Tree → List ℕ → List Form
tells_broadcast a fs r x = evaluates a r ∷ bcast_form (variable a.reply) x ∷ if_form (operation Equal (variable a.reply) (reading Rank))
    ∷ print_form (number 17) ∷ (tells_named a x (length_of x fs) ++ end_form ∷ [])

-- a reduction: all but its root send
abbrev pub tells_reduction : Added → Reduction → Tree → Tree → List ℕ → List Form
tells_reduction a o r e x = evaluates a r ∷ reduce_form o (variable a.reply) e x ∷ if_form (operation NotEqual (variable a.reply) (reading Rank))
    ∷ print_form (number (number_of o)) ∷ print_form (variable a.reply) ∷ print_form e ∷ end_form ∷ []

-- a message: its source, its tag, how many items it has, and these
abbrev pub tells_message : Added → List Form → List ℕ → List Form
tells_message a fs x = print_form (reading Source) ∷ print_form (reading Tag) ∷ print_form (reading Count) ∷ tells_buffer a x (length_of x fs)

-- the statements that stand for one, if sends are told of a program of these statements
abbrev pub with_sends : Added → List Form → Form → List Form
with_sends a fs (var_form x) = var_form x ∷ []
with_sends a fs (array_form x n) = array_form x n ∷ []
with_sends a fs (let_form x e) = let_form x e ∷ []
with_sends a fs (item_form x i e) = item_form x i e ∷ []
with_sends a fs (if_form e) = if_form e ∷ []
with_sends a fs else_form = else_form ∷ []
with_sends a fs end_form = end_form ∷ []
with_sends a fs (while_form e) = while_form e ∷ []
with_sends a fs (send_form d g p) = send_form d g p ∷ tells_send a fs d g p
with_sends a fs (recv_form s g x) = recv_form s g x ∷ []
with_sends a fs (probe_form s g) = probe_form s g ∷ []
with_sends a fs (try_probe_form s g x) = try_probe_form s g x ∷ []
with_sends a fs (print_form e) = evaluates a e ∷ []
with_sends a fs barrier_form = tells_barrier
with_sends a fs (bcast_form r x) = tells_broadcast a fs r x
with_sends a fs (reduce_form o r e x) = tells_reduction a o r e x

-- and if receptions are
abbrev pub with_receptions : Added → List Form → Form → List Form
with_receptions a fs (var_form x) = var_form x ∷ []
with_receptions a fs (array_form x n) = array_form x n ∷ []
with_receptions a fs (let_form x e) = let_form x e ∷ []
with_receptions a fs (item_form x i e) = item_form x i e ∷ []
with_receptions a fs (if_form e) = if_form e ∷ []
with_receptions a fs else_form = else_form ∷ []
with_receptions a fs end_form = end_form ∷ []
with_receptions a fs (while_form e) = while_form e ∷ []
with_receptions a fs (send_form d g p) = send_form d g p ∷ []
with_receptions a fs (recv_form s g x) = recv_form s g x ∷ tells_message a fs x
with_receptions a fs (probe_form s g) = probe_form s g ∷ []
with_receptions a fs (try_probe_form s g x) = try_probe_form s g x ∷ []
with_receptions a fs (print_form e) = evaluates a e ∷ []
with_receptions a fs barrier_form = barrier_form ∷ []
with_receptions a fs (bcast_form r x) = bcast_form r x ∷ []
with_receptions a fs (reduce_form o r e x) = reduce_form o r e x ∷ []

-- the ones that are told
abbrev pub with_told : Telling → Added → List Form → Form → List Form
with_told telling.Sends a fs f = with_sends a fs f
with_told telling.Receptions a fs f = with_receptions a fs f

-- so it is of each statement
abbrev pub with_each : Telling → Added → List Form → List Form → List Form
with_each t a fs [] = []
with_each t a fs (g ∷ gs) = with_told t a fs g ++ with_each t a fs gs

-- the statements of the telling program
abbrev pub telling_forms : Telling → Added → List Form → List Form
telling_forms t a fs = var_form a.reply ∷ with_each t a fs fs

-- the lines on which they stand, so that what is told of a statement has its line; the program's own
-- variable is declared on no line, which is 0 here
abbrev pub telling_lines : Telling → Added → List ℕ → List Form → List ℕ
telling_lines t a ns fs = 0 ∷ lines_each (with_told t a fs) ns fs

-- the program is that of the canonical text of the telling statements of this text, and they stand on
-- these lines of this text
pub record IsTelling (t : Telling) (text : List ℕ) (p : ProgramValue) (lines : List ℕ) : Type 0 where
  pub forms : List Form
  pub reads : IsText text forms
  pub added : Added
  pub names : HasFreeName forms added
  pub program : IsProgramOf (program_text (telling_forms t added forms)) p
  pub numbers : List ℕ
  pub stand : StandOn text forms numbers
  pub lined : lines ≡ telling_lines t added numbers forms

-- No name is free, or the telling statements of this text aren't those of a text: they are too many,
-- declare too many variables, open too many blocks, or an expression is too large.
pub data IsUntellable (t : Telling) (text : List ℕ) : Type 0 where
  none_free : {forms : List Form} → IsText text forms → HasNoneFree forms → IsUntellable t text
  no_text : {forms : List Form} {added : Added} (fault : ProgramFault) → IsText text forms → HasFreeName forms added
      → IsFaultOf (program_text (telling_forms t added forms)) fault.line fault.kind → IsUntellable t text
