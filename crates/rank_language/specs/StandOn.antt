-- On which lines of its text the statements of a program stand (the language's own manual, docs/LANGUAGE.md, "Lines, words and names").
use Rattle.std.specs.Prelude.{◌≡◌, ℕ, zero, suc, ◌<◌, List, Option, Some, None, IsSomeAnd, length, slice_get}
use Rattle.rank_text.specs.Lines.Pieces.{pieces_of}
use Rattle.rank_text.specs.declared.grammar.token.Token.{Token}
use Rattle.rank_text.specs.Grammar.Forms.{Form}
use Rattle.rank_text.specs.Checker.Faults.{IsFormed, IsText}
use Rattle.rank_language.specs.Program.{ProgramValue}
use Rattle.rank_language.specs.Correct.{IsOfForms}

-- the line of a text with this number: the text is cut at each LF, and lines count from 1
abbrev pub line_of_text : List ℕ → ℕ → Option (List ℕ)
line_of_text text zero = None
line_of_text text (suc k) = slice_get (pieces_of 10 text) k

-- the line's tokens have the form of the statement
abbrev pub Spells : List ℕ → Form → Type 0
Spells line f = (ts : List Token) × IsFormed line ts f

-- The statements of a text stand on the lines with these numbers: there is a number for each, its line spells the statement, and
-- they rise. A text has as many other lines as it has skipped ones, so there is one such list.
pub record StandOn (text : List ℕ) (forms : List Form) (numbers : List ℕ) : Type 0 where
  pub each : length numbers ≡ length forms
  pub spelled : (k n : ℕ) (f : Form) → slice_get numbers k ≡ Some n → slice_get forms k ≡ Some f → IsSomeAnd (line_of_text text n) (λ line. Spells line f)
  pub rising : (j k m n : ℕ) → j < k → slice_get numbers j ≡ Some m → slice_get numbers k ≡ Some n → m < n

-- The program is that of the text, and its statements stand on these lines.
pub record IsLinedOf (text : List ℕ) (p : ProgramValue) (numbers : List ℕ) : Type 0 where
  pub forms : List Form
  pub reads : IsText text forms
  pub program : IsOfForms forms p
  pub stand : StandOn text forms numbers
