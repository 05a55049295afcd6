-- Which texts are programs, and which first fault each other text has, by cases and apart from how
-- a text is read (the language's own manual, docs/ERRORS.md, "Faults of a text").
use Rattle.std.specs.Prelude.{◌≡◌, ℕ, ◌+◌, ◌<◌, ◌≤◌, List, [], ◌∷◌, true, false, length, codes, Option, Some, None}
use Rattle.limits.specs.Limits.{most_lines, most_line_bytes}
use Rattle.rank_text.specs.declared.checker.fault.FaultKind.{FaultKind}
use Rattle.rank_text.specs.declared.checker.fault.FaultKind.TheVariants.{NotText, NotAStatement, BadForm}
use Rattle.rank_text.specs.declared.checker.fault.FaultKind.TheVariants.{Undeclared, DeclaredTwice, BlockOpen}
use Rattle.rank_text.specs.declared.checker.fault.FaultKind.TheVariants.{BlockStray, Limit, NumberRange}
use Rattle.rank_text.specs.Lines.Pieces.{pieces_of}
use Rattle.rank_text.specs.declared.grammar.token.Token.{Token}
use Rattle.rank_text.specs.Grammar.Lexes.{Lexes}
use Rattle.rank_text.specs.Grammar.Forms.{Form, IsForm}
use Rattle.rank_text.specs.Checker.Lines.{is_text, is_skipped, is_statement}
use Rattle.rank_text.specs.Checker.Scope.{Scope, Opened, nothing_yet, declared_in, is_twice, is_stray, is_over, has_great_number, after}

-- the number of a fault
abbrev pub fault_number : FaultKind → ℕ
fault_number NotText = 1
fault_number NotAStatement = 2
fault_number BadForm = 3
fault_number Undeclared = 4
fault_number DeclaredTwice = 5
fault_number BlockOpen = 6
fault_number BlockStray = 7
fault_number Limit = 8
fault_number NumberRange = 9

-- the name of a fault
abbrev pub name_of : FaultKind → List ℕ
name_of NotText = codes "NotText"
name_of NotAStatement = codes "NotAStatement"
name_of BadForm = codes "BadForm"
name_of Undeclared = codes "Undeclared"
name_of DeclaredTwice = codes "DeclaredTwice"
name_of BlockOpen = codes "BlockOpen"
name_of BlockStray = codes "BlockStray"
name_of Limit = codes "Limit"
name_of NumberRange = codes "NumberRange"

-- A line is looked at for more than its characters, its length and its number.
pub record IsLooked (line : List ℕ) : Type 0 where
  pub text : is_text line ≡ true
  pub short : length line ≤ most_line_bytes
  pub not_skipped : is_skipped line ≡ false

-- A line that is looked at has these tokens, and they have the form of its statement word.
pub record IsFormed (line : List ℕ) (ts : List Token) (f : Form) : Type 0 where
  pub looked : IsLooked line
  pub tokens : Lexes line ts
  pub form : IsForm ts f

-- A fault holds of the line of number n, which stands after lines that leave the scope s.
pub data Holds (s : Scope) (n : ℕ) (line : List ℕ) : FaultKind → Type 0 where
  other_byte : is_text line ≡ false → Holds s n line NotText
  no_word : IsLooked line → is_statement line ≡ false → Holds s n line NotAStatement
  no_form : IsLooked line → is_statement line ≡ true
      → ((ts : List Token) (f : Form) → IsFormed line ts f → ⊥) → Holds s n line BadForm
  unknown_name : {ts : List Token} {f : Form}
      → IsFormed line ts f → declared_in s f ≡ false → Holds s n line Undeclared
  known_name : {ts : List Token} {f : Form}
      → IsFormed line ts f → is_twice s f ≡ true → Holds s n line DeclaredTwice
  no_block : {ts : List Token} {f : Form}
      → IsFormed line ts f → is_stray s f ≡ true → Holds s n line BlockStray
  long_line : most_line_bytes < length line → Holds s n line Limit
  late_line : most_lines < n → Holds s n line Limit
  over : {ts : List Token} {f : Form}
      → IsFormed line ts f → is_over s ts f ≡ true → Holds s n line Limit
  great_number : {ts : List Token} {f : Form}
      → IsFormed line ts f → has_great_number f ≡ true → Holds s n line NumberRange

-- no fault holds of the line
abbrev pub IsClean : Scope → ℕ → List ℕ → Type 0
IsClean s n line = (k : FaultKind) → Holds s n line k → ⊥

-- A fault holds of the line, and none of a lower number does.
pub record IsLowest (s : Scope) (n : ℕ) (line : List ℕ) (k : FaultKind) : Type 0 where
  pub holds : Holds s n line k
  pub lowest : (j : FaultKind) → Holds s n line j → fault_number k ≤ fault_number j

-- A line without fault is skipped, or it has its statement.
pub data IsLine (s : Scope) (n : ℕ) (line : List ℕ) : Option Form → Type 0 where
  skipped : is_skipped line ≡ true → IsClean s n line → IsLine s n line None
  stated : {ts : List Token} {f : Form} → IsFormed line ts f → IsClean s n line → IsLine s n line (Some f)

-- Lines from number n on, after lines that leave the scope s, have these statements, and leave the last scope and number.
pub data AreLines : Scope → ℕ → List (List ℕ) → List Form → Scope → ℕ → Type 0 where
  none : {s : Scope} {n : ℕ} → AreLines s n [] [] s n
  skipped_line : {s s' : Scope} {n m : ℕ} {l : List ℕ} {ls : List (List ℕ)} {fs : List Form}
      → IsLine s n l None → AreLines s (n + 1) ls fs s' m → AreLines s n (l ∷ ls) fs s' m
  taken : {s s' : Scope} {n m : ℕ} {l : List ℕ} {ls : List (List ℕ)} {f : Form} {fs : List Form}
      → IsLine s n l (Some f) → AreLines (after s f) (n + 1) ls fs s' m → AreLines s n (l ∷ ls) (f ∷ fs) s' m

-- A text has these statements: its lines, cut at each LF, are without fault, and each block that they open is closed.
pub record IsText (text : List ℕ) (fs : List Form) : Type 0 where
  pub end : Scope
  pub count : ℕ
  pub lines : AreLines nothing_yet 1 (pieces_of 10 text) fs end count
  pub closed : end.blocks ≡ []

-- The first line at fault has this number and this lowest fault; an open block at the end is a fault of the line after the last.
pub data HasFirstFault : Scope → ℕ → List (List ℕ) → ℕ → FaultKind → Type 0 where
  at_end : {s : Scope} {n : ℕ} {b : Opened} {bs : List Opened} → s.blocks ≡ b ∷ bs → HasFirstFault s n [] n BlockOpen
  here : {s : Scope} {n : ℕ} {l : List ℕ} {ls : List (List ℕ)} {k : FaultKind}
      → IsLowest s n l k → HasFirstFault s n (l ∷ ls) n k
  past_skipped : {s : Scope} {n m : ℕ} {l : List ℕ} {ls : List (List ℕ)} {k : FaultKind}
      → IsLine s n l None → HasFirstFault s (n + 1) ls m k → HasFirstFault s n (l ∷ ls) m k
  past_stated : {s : Scope} {n m : ℕ} {l : List ℕ} {ls : List (List ℕ)} {f : Form} {k : FaultKind}
      → IsLine s n l (Some f) → HasFirstFault (after s f) (n + 1) ls m k → HasFirstFault s n (l ∷ ls) m k

-- a text has this first fault on this line
abbrev pub IsFaultOf : List ℕ → ℕ → FaultKind → Type 0
IsFaultOf text line kind = HasFirstFault nothing_yet 1 (pieces_of 10 text) line kind
