-- A program's statements with names for places are canonical, as a variable that is sent is a lone name; so their text is a text
-- of the program.
use Rattle.std.proofs.Common.{◌≡◌, ℕ, List, [], ◌∷◌, map, Result, Ok, Err, IfOk, Vec, sym, subst}
use Rattle.std.specs.declared.alloc.AllocError.{AllocError}
use Rattle.std.specs.Global.{Global}
use Rattle.rank_text.specs.Printer.Canonical.{IsCanonicalPayload, IsCanonical, AllCanonical, program_text}
use Rattle.rank_text.proofs.PrinterLaws.PrintedText.{reads_back}
use Rattle.rank_text.specs.Checker.Scope.{Scope}
use Rattle.rank_language.specs.Placed.{Placed, number, variable, item, reading, negation, operation, Payload, one, all_of}
use Rattle.rank_language.specs.Placed.{declare, declare_array, assign, assign_item, send, receive, probe, try_probe, print}
use Rattle.rank_language.specs.Placed.{Collective, barrier, broadcast, reduce, collect, Step, does, tests, repeats, otherwise, closes}
use Rattle.rank_language.specs.Named.{value_named, payload_named, collective_named, form_named, declared_by, forms_of}
use Rattle.rank_language.specs.Shape.{step_of}
use Rattle.rank_language.specs.Program.{ProgramValue}
use Rattle.rank_language.specs.Correct.{IsProgram, IsProgramOf}

-- a value that is sent
value_canonical : (s : Scope) (e : Placed) → IsCanonicalPayload (value_named s e)
value_canonical s (number n) = tt
value_canonical s (variable p) = tt
value_canonical s (item p e) = tt
value_canonical s (reading r) = tt
value_canonical s (negation e) = tt
value_canonical s (operation o a b) = tt

-- a payload
payload_canonical : (s : Scope) (p : Payload) → IsCanonicalPayload (payload_named s p)
payload_canonical s (one e) = value_canonical s e
payload_canonical s (all_of p) = tt

-- a collective
collective_canonical : (s : Scope) (c : Collective) → IsCanonical (collective_named s c)
collective_canonical s barrier = tt
collective_canonical s (broadcast root b) = tt
collective_canonical s (reduce o root e p) = tt

-- a statement
form_canonical : (s : Scope) (t : Step) → IsCanonical (form_named s t)
form_canonical s (does (declare p)) = tt
form_canonical s (does (declare_array p)) = tt
form_canonical s (does (assign p e)) = tt
form_canonical s (does (assign_item p i e)) = tt
form_canonical s (does (send d t p)) = payload_canonical s p
form_canonical s (does (receive c t b)) = tt
form_canonical s (does (probe c t)) = tt
form_canonical s (does (try_probe c t p)) = tt
form_canonical s (does (print e)) = tt
form_canonical s (does (collect c)) = collective_canonical s c
form_canonical s (tests e) = tt
form_canonical s (repeats e) = tt
form_canonical s otherwise = tt
form_canonical s closes = tt

-- statements
pub all_canonical : (s : Scope) (ts : List Step) → AllCanonical (map (form_named s) ts)
all_canonical s [] = tt
all_canonical s (t ∷ ts) = (form_canonical s t, all_canonical s ts)

-- the canonical text of a program is one of its texts
pub printed : (p : ProgramValue) → IsProgram p → IsProgramOf (program_text (forms_of p)) p
printed p h = record {
  forms = forms_of p;
  reads = reads_back (forms_of p) h.whole (all_canonical (declared_by p) (map step_of p.statements));
  program = h.program;
}

-- and so is what holds its bytes
pub printed_result : (r : Result (Vec ℕ Global) AllocError) (p : ProgramValue) → IsProgram p
    → IfOk r (λ text. text.items ≡ program_text (forms_of p)) → IfOk r (λ text. IsProgramOf text.items p)
printed_result (Ok text) p h q = subst (λ z. IsProgramOf z p) (sym q) (printed p h)
printed_result (Err e) p h q = tt
