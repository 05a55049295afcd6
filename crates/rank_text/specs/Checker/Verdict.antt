-- A text read line by line, as a function (`Faults` says the same by cases).
use Rattle.std.specs.Prelude.{ℕ, ◌+◌, List, [], ◌∷◌, Bool, ◌||◌, not, nat_lt, length, Option, Some, None, Result, Ok, Err, if◌then◌else◌}
use Rattle.limits.specs.Limits.{most_lines, most_line_bytes}
use Rattle.rank_text.specs.declared.checker.fault.FaultKind.{FaultKind}
use Rattle.rank_text.specs.declared.checker.fault.FaultKind.TheVariants.{NotText, NotAStatement, BadForm}
use Rattle.rank_text.specs.declared.checker.fault.FaultKind.TheVariants.{Undeclared, DeclaredTwice, BlockOpen}
use Rattle.rank_text.specs.declared.checker.fault.FaultKind.TheVariants.{BlockStray, Limit, NumberRange}
use Rattle.rank_text.specs.Lines.Pieces.{pieces_of}
use Rattle.rank_text.specs.declared.grammar.token.Token.{Token}
use Rattle.rank_text.specs.Grammar.Tokens.{tokens_of}
use Rattle.rank_text.specs.Grammar.Forms.{Form, form_of}
use Rattle.rank_text.specs.Checker.Lines.{is_text, is_skipped, is_statement}
use Rattle.rank_text.specs.Checker.Scope.{Scope, nothing_yet, declared_in, is_twice, is_stray, is_over, has_great_number, is_empty, after}

-- the first fault whose test gives true
abbrev pub first_of : List (Bool × FaultKind) → Option FaultKind
first_of [] = None
first_of (f ∷ fs) = if f.0 then Some f.1 else first_of fs

-- a value, or the fault where there is one
abbrev pub unless_fault : {A : Type 0} → Option FaultKind → A → Result A FaultKind
unless_fault None a = Ok a
unless_fault (Some k) a = Err k

-- the lowest fault of a line that has its form
abbrev pub form_fault : Scope → ℕ → List Token → Form → Option FaultKind
form_fault s n ts f =
    first_of (
    (not (declared_in s f), Undeclared)
    ∷ (is_twice s f, DeclaredTwice)
    ∷ (is_stray s f, BlockStray)
    ∷ (nat_lt most_lines n || is_over s ts f, Limit)
    ∷ (has_great_number f, NumberRange)
    ∷ [])

-- a line that begins with a statement word, by its tokens if it has them
abbrev pub formed : Scope → ℕ → Option (List Token) → Result (Option Form) FaultKind
formed s n None = Err BadForm
formed s n (Some ts) = elim (form_of ts) [ None ↦ Err BadForm | Some f ↦ unless_fault (form_fault s n ts f) (Some f) ]

-- a line that is looked at
abbrev pub looked : Scope → ℕ → List ℕ → Result (Option Form) FaultKind
looked s n line = if is_statement line then formed s n (tokens_of line) else Err NotAStatement

-- a skipped line, which counts as a line
abbrev pub skipped_of : ℕ → Result (Option Form) FaultKind
skipped_of n = if nat_lt most_lines n then Err Limit else Ok None

-- a line of characters of text
abbrev pub measured : Scope → ℕ → List ℕ → Result (Option Form) FaultKind
measured s n line =
    if nat_lt most_line_bytes (length line) then Err Limit else (if is_skipped line then skipped_of n else looked s n line)

-- a line's statement, or none where the line is skipped, or its lowest fault
abbrev pub verdict_on : Scope → ℕ → List ℕ → Result (Option Form) FaultKind
verdict_on s n line = if not (is_text line) then Err NotText else measured s n line

-- a line's statement in front of those of the lines behind it
abbrev pub onto_forms : Option Form → Result (List Form) (ℕ × FaultKind) → Result (List Form) (ℕ × FaultKind)
onto_forms (Some f) (Ok fs) = Ok (f ∷ fs)
onto_forms (Some f) (Err e) = Err e
onto_forms None r = r

-- what a line leaves
abbrev pub after_line : Scope → Option Form → Scope
after_line s None = s
after_line s (Some f) = after s f

-- the statements of lines from number n on, or the first fault and its line
abbrev pub statements_of : Scope → ℕ → List (List ℕ) → Result (List Form) (ℕ × FaultKind)
statements_of s n [] = if is_empty s.blocks then Ok [] else Err (n, BlockOpen)
statements_of s n (l ∷ ls) =
    elim (verdict_on s n l) [
      | Err k ↦ Err (n, k)
      | Ok f ↦ onto_forms f (statements_of (after_line s f) (n + 1) ls)
    ]

-- the statements of a text, or its first fault and the line
abbrev pub reading_of : List ℕ → Result (List Form) (ℕ × FaultKind)
reading_of text = statements_of nothing_yet 1 (pieces_of 10 text)
