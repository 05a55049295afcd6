-- The lines of the acts of a run (docs/FORMATS.md, "Standard output of `trace`"). A run has its
-- newest act first, and so have its places.
use Rattle.std.specs.Prelude.{◌≡◌, ℕ, max, List, [], ◌∷◌, ◌++◌, codes, reverse, slice_index_or, Option}
use Rattle.rank_language.specs.Program.{ProgramValue}
use Rattle.rank_language.specs.StandOn.{IsLinedOf}
use Rattle.rank_machine.specs.Acts.{Message}
use Rattle.crash_free.specs.Runs.{Passed}
use Rattle.run_shown.specs.Trace.Columns.{digit_count, head_text, right}
use Rattle.run_shown.specs.Trace.Deliveries.{as_told, delivered}
use Rattle.run_shown.specs.Trace.Places.{AreFound}
use Rattle.run_shown.specs.Trace.Words.{act_text}
use Rattle.run_shown.specs.declared.trace.place.Place.{Place}

-- the greatest clock of these places
abbrev pub greatest_of : List Place → ℕ
greatest_of [] = 0
greatest_of (place ∷ places) = max place.clock (greatest_of places)

-- the width of the clocks' column
abbrev pub clock_width : List Place → ℕ
clock_width places = max (digit_count (greatest_of places)) 5

-- three columns: the rank of an act, its clock, and the number that this list has for its
-- statement
abbrev pub columns_text : ℕ → List ℕ → Passed → Place → List ℕ
columns_text width lines p place =
    right 4 p.rank ++ codes " " ++ right width place.clock ++ codes "  " ++ right 4 (slice_index_or lines place.position 0) ++ codes "  "

-- the line of an act that takes or hits this message, if it does: the columns, and what was done
abbrev pub line_text : ℕ → List ℕ → Passed → Place → Option Message → List ℕ
line_text width lines p place message =
    columns_text width lines p place ++ act_text place.clock place.tries p.act message ++ codes "\n"

-- the lines of the acts of a run at these places, in the order in which they were made
abbrev pub lines_text : ℕ → List ℕ → List Passed → List Place → List ℕ
lines_text width lines [] places = []
lines_text width lines (p ∷ run) [] = []
lines_text width lines (p ∷ run) (place ∷ places) =
    lines_text width lines run places ++ line_text width lines p place (as_told (delivered run p))

-- what is said of the order of the acts
abbrev pub order_text : List ℕ
order_text = codes "# an order of the acts that the audit found, not that of the threads\n"

-- That, the head of the columns, and the lines of all acts. Here the acts and their places are the
-- oldest first.
abbrev pub acts_text : List ℕ → List Passed → List Place → List ℕ
acts_text lines acts places = order_text
    ++ head_text (clock_width places) ++ lines_text (clock_width places) lines (reverse acts) (reverse places)

-- The text of a run begins with its acts: they have their places from the beginning of the program
-- on, and each has its line, in their order, with the number of the line of the program's source on
-- which its statement stands. What stands behind these lines isn't said.
pub record BeginsWithActs (source : List ℕ) (program : ProgramValue) (ranks : ℕ) (acts : List Passed) (text : List ℕ) : Type 0 where
  pub lines : List ℕ
  pub lined : IsLinedOf source program lines
  pub places : List Place
  pub found : AreFound program ranks acts places
  pub rest : List ℕ
  pub written : text ≡ acts_text lines acts places ++ rest
