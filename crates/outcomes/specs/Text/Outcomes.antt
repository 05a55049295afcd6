-- The outcome that a text tells (docs/FORMATS.md, "Outcomes").
use Rattle.std.specs.Prelude.{ℕ, zero, suc, ◌==◌, List, [], ◌∷◌, ◌++◌, Bool, false, ◌&&◌, Option, Some, None, if◌then◌else◌}
use Rattle.std.specs.List.{filter_map}
use Rattle.audit.specs.declared.outcome.End.{End}
use Rattle.audit.specs.declared.outcome.End.TheVariants.{Unfinished}
use Rattle.audit.specs.Outcome.{OutcomeValue}
use Rattle.event_logger.specs.Sequential.Event.{EventValue}
use Rattle.matching.specs.declared.line.Line.{Line}
use Rattle.outcomes.specs.declared.text.form.Entry.{Entry}
use Rattle.outcomes.specs.declared.text.form.Entry.TheVariants as entry

-- the entries of a text, and of how many ranks they are
pub record TextValue : Type 0 where
  pub ranks : ℕ
  pub entries : List Entry

-- the number of an entry's line
abbrev pub line_of : Entry → ℕ
line_of (entry.Event line rank event) = line
line_of (entry.Print line rank clock value) = line
line_of (entry.End line rank end) = line

-- the event of this rank that an entry tells
abbrev pub event_for : ℕ → Entry → Option EventValue
event_for r (entry.Event line rank event) = if rank == r then Some event else None
event_for r (entry.Print line rank clock value) = None
event_for r (entry.End line rank end) = None

-- the line of any rank that an entry tells
abbrev pub line_in : Entry → Option Line
line_in (entry.Event line rank event) = None
line_in (entry.Print line rank clock value) = Some (record { rank = rank; clock = clock; value = value })
line_in (entry.End line rank end) = None

-- the end of this rank that an entry tells
abbrev pub end_for : ℕ → Entry → Option End
end_for r (entry.Event line rank event) = None
end_for r (entry.Print line rank clock value) = None
end_for r (entry.End line rank end) = if rank == r then Some end else None

-- the row of a rank: its events, in the text's order
abbrev pub row_of : ℕ → List Entry → List EventValue
row_of r es = filter_map (event_for r) es

-- the lines of all ranks, in the text's order
abbrev pub lines_in : List Entry → List Line
lines_in es = filter_map line_in es

-- how a rank ended by the first entry that tells it; a rank without one is unfinished
abbrev pub end_of : ℕ → List Entry → End
end_of r [] = Unfinished
end_of r (e ∷ es) = elim (end_for r e) [ None ↦ end_of r es | Some end ↦ end ]

-- the rows of so many ranks
abbrev pub rows_to : ℕ → List Entry → List (List EventValue)
rows_to zero es = []
rows_to (suc n) es = rows_to n es ++ row_of n es ∷ []

-- the ends of so many ranks
abbrev pub ends_to : ℕ → List Entry → List End
ends_to zero es = []
ends_to (suc n) es = ends_to n es ++ end_of n es ∷ []

-- the outcome that a text tells
abbrev pub outcome_of : TextValue → OutcomeValue
outcome_of t = record { rows = rows_to t.ranks t.entries; lines = lines_in t.entries; ends = ends_to t.ranks t.entries }

-- the entry tells the act of this clock of a rank
abbrev pub is_act : ℕ → ℕ → Entry → Bool
is_act r c (entry.Event line rank event) = rank == r && event.receiver_clock == c
is_act r c (entry.Print line rank clock value) = rank == r && clock == c
is_act r c (entry.End line rank end) = false

-- the number of the first line that tells this act of a rank
abbrev pub act_line : ℕ → ℕ → List Entry → Option ℕ
act_line r c [] = None
act_line r c (e ∷ es) = if is_act r c e then Some (line_of e) else act_line r c es

-- the number of the first line that tells a rank's end
abbrev pub end_line : ℕ → List Entry → Option ℕ
end_line r [] = None
end_line r (e ∷ es) = elim (end_for r e) [ None ↦ end_line r es | Some end ↦ Some (line_of e) ]
