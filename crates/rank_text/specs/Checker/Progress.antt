-- A text read line by line, with what has been read so far.
use Rattle.std.specs.Prelude.{◌≡◌, ℕ, List, [], ◌∷◌, ◌++◌, Option, Some, None, Result, Ok, Err}
use Rattle.rank_text.specs.declared.checker.fault.FaultKind.{FaultKind}
use Rattle.rank_text.specs.declared.checker.fault.ProgramFault.{ProgramFault}
use Rattle.rank_text.specs.declared.checker.fault.ParseFault as source_fault
use Rattle.rank_text.specs.declared.checker.fault.ParseFault.{ParseFault}
use Rattle.rank_text.specs.declared.checker.draft.Draft.{Draft}
use Rattle.rank_text.specs.declared.checker.draft.Reader as source_reader
use Rattle.rank_text.specs.Grammar.Forms.{Form}
use Rattle.rank_text.specs.Checker.Scope.{Scope, nothing_yet, after, after_all}
use Rattle.rank_text.specs.Checker.SeenLines.{scope_seen, forms_seen, arrays_seen}
use Rattle.rank_text.specs.Checker.Verdict.{verdict_on, statements_of}

-- what the statements so far leave, and these statements
pub record StatementsRead : Type 0 where
  pub scope : Scope
  pub forms : List Form

-- nothing is read
abbrev pub fresh : StatementsRead
fresh = record { scope = nothing_yet; forms = [] }

-- what a reader of the code has read
abbrev pub reader_seen : source_reader.Reader → StatementsRead
reader_seen r = record { scope = scope_seen r.scope; forms = forms_seen r.forms.items }

-- a statement more
abbrev pub taken : StatementsRead → Form → StatementsRead
taken r f = record { scope = after r.scope f; forms = r.forms ++ f ∷ [] }

-- a line more, with its statement if it has one
abbrev pub with_line : StatementsRead → Option Form → StatementsRead
with_line r None = r
with_line r (Some f) = taken r f

-- a line more, or its lowest fault
abbrev pub step : StatementsRead → ℕ → List ℕ → Result StatementsRead FaultKind
step r n line = elim (verdict_on r.scope n line) [ Err k ↦ Err k | Ok o ↦ Ok (with_line r o) ]

-- what a turn of the code answers, and the reader that it leaves
abbrev pub stepped : Option FaultKind → StatementsRead → Result StatementsRead FaultKind
stepped None r = Ok r
stepped (Some k) r = Err k

-- statements in front of those of the lines behind them
abbrev pub with_front : List Form → Result (List Form) (ℕ × FaultKind) → Result (List Form) (ℕ × FaultKind)
with_front fs (Ok gs) = Ok (fs ++ gs)
with_front fs (Err e) = Err e

-- what the whole text gives, where these lines from number n on are left
abbrev pub going : StatementsRead → ℕ → List (List ℕ) → Result (List Form) (ℕ × FaultKind)
going r n ls = with_front r.forms (statements_of r.scope n ls)

-- what a text gives whose reading ends so
abbrev pub ended : Option ProgramFault → StatementsRead → Result (List Form) (ℕ × FaultKind)
ended None r = Ok r.forms
ended (Some f) r = Err (f.line, f.kind)

-- the scope is what the statements leave
abbrev pub IsLed : StatementsRead → Type 0
IsLed r = r.scope ≡ after_all nothing_yet r.forms

-- the tables are what the statements declare
pub record HasTables (d : Draft) : Type 0 where
  pub variables : d.variables.items ≡ (after_all nothing_yet (forms_seen d.forms.items)).variables
  pub arrays : arrays_seen d.arrays.items ≡ (after_all nothing_yet (forms_seen d.forms.items)).arrays

-- a fault is what reading gives, unless memory ran out
abbrev pub Fails : ParseFault → Result (List Form) (ℕ × FaultKind) → Type 0
Fails source_fault.TheVariants.Memory read = Unit {0}
Fails (source_fault.TheVariants.Fault f) read = read ≡ Err (f.line, f.kind)

-- what is answered is what reading gives, unless memory ran out
abbrev pub Reads : Result Draft ParseFault → Result (List Form) (ℕ × FaultKind) → Type 0
Reads (Ok d) read = read ≡ Ok (forms_seen d.forms.items)
Reads (Err e) read = Fails e read
