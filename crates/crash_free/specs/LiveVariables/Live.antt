-- A table of what is unread at each position of a program, and when it is right (data flow
-- equations of live variables: Aho, Lam, Sethi and Ullman 2006, section 9.2.5).
use Rattle.std.specs.Prelude.{◌≡◌, ℕ, Bool, true, false, not, ◌||◌, ◌&&◌, List, [], Some, slice_get, slice_index_or}
use Rattle.rank_language.specs.Block.{Line, simple_line, if_line, else_line, end_line, while_line, back_line, remaining, next_position}
use Rattle.rank_language.specs.Program.{ProgramValue, block_of}
use Rattle.rank_machine.specs.States.{opening}
use Rattle.crash_free.specs.LiveVariables.Names.{StoredName, place, status, mentions, reads, writes}
use Rattle.crash_free.specs.LiveVariables.Unread.{IsUnread}
use Rattle.crash_free.specs.LiveVariables.Given.{GivesItems}

-- a line reads it
abbrev pub line_reads : StoredName → Line → Bool
line_reads x (simple_line s) = reads x s
line_reads x (if_line e q) = mentions x e
line_reads x (else_line q) = false
line_reads x end_line = false
line_reads x (while_line e q) = mentions x e
line_reads x (back_line q) = false

-- a line surely writes it
abbrev pub line_writes : StoredName → Line → Bool
line_writes x (simple_line s) = writes x s
line_writes x (if_line e q) = false
line_writes x (else_line q) = false
line_writes x end_line = false
line_writes x (while_line e q) = false
line_writes x (back_line q) = false

-- Of claims for positions the one for a line is right if those for the next positions are: the line
-- doesn't read it, and writes it, or it is claimed wherever the line leads.
abbrev pub holds_at : StoredName → (ℕ → Bool) → ℕ → Line → Bool
holds_at x claims p l = not (line_reads x l) && (line_writes x l || (claims (next_position l p true) && claims (next_position l p false)))

-- what a row of claims says of a position; past its end it claims nothing
abbrev pub claimed : List Bool → ℕ → Bool
claimed row p = slice_index_or row p false

-- each claim for one of these lines is right if the others are
abbrev pub AllHold : StoredName → List Bool → List Line → Type 0
AllHold x row ls = (p : ℕ) (l : Line) → slice_get ls p ≡ Some l → claimed row p ≡ true → holds_at x (claimed row) p l ≡ true

-- what a row claims to be unread is unread
abbrev pub IsRow : ProgramValue → StoredName → List Bool → Type 0
IsRow program x row = (p : ℕ) → claimed row p ≡ true → IsUnread x (remaining (block_of program) p)

-- a row of claims for each variable, and one for the status
pub record Table : Type 0 where
  pub variables : List (List Bool)
  pub status_row : List Bool

-- the row of a name
abbrev pub row_of : Table → StoredName → List Bool
row_of t (place p) = slice_index_or t.variables p []
row_of t status = t.status_row

-- The table is right for a program: what it claims to be unread is unread, and each message that a
-- rank of the program sends has an item.
pub record IsTableOf (program : ProgramValue) (t : Table) : Type 0 where
  pub rows : (x : StoredName) → IsRow program x (row_of t x)
  pub items : (rank size : ℕ) → GivesItems (opening program rank size)
