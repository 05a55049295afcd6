-- The lines that say what the outcomes of a program mean (docs/FORMATS.md, "Standard output of
-- `explore`").
use Rattle.std.specs.Prelude.{◌==◌, ◌&&◌, ℕ, ◌+◌, Bool, true, false, if◌then◌else◌, length, List, [], ◌∷◌, ◌++◌, Option, Some, None, codes}
use Rattle.std.specs.Fmt.{decimal}
use Rattle.explore.specs.Explored.{ExploredValue}
use Rattle.runner.specs.Enumerations.{named_lines}
use Rattle.runner.specs.Unhalted.{unhalted_text}
use Rattle.runner.specs.declared.explored.lined.LinedLeftover.{LinedLeftover}

-- That the run that was found with the outcome of this number is one that no execution gives. Nothing
-- is said where it isn't, nor where the run wasn't found again.
abbrev pub mark_text : ℕ → Option Bool → List ℕ
mark_text number None = []
mark_text number (Some false) = []
mark_text number (Some true) = codes "# outcome " ++ decimal number
    ++ codes ": in the run that was found a probe misses a message that its rank was shown; no execution does\n"

-- this of the outcomes from this number on
abbrev pub marks_text : ℕ → List (Option Bool) → List ℕ
marks_text number [] = []
marks_text number (mark ∷ marks) = mark_text number mark ++ marks_text (number + 1) marks

-- what crashes change where there is one outcome; of synchronous runs nothing is said of crashes
abbrev pub crashes_text : Bool → List ℕ
crashes_text synchronous = if synchronous then [] else codes "# whatever crashes, each rank prints this, or a beginning of it\n"

-- that there is one outcome
unfoldable pub lone_words : List ℕ
lone_words = codes "# one outcome: whatever the order, this program prints this\n"

-- the lines that say so, and what crashes change then
abbrev pub lone_lines : Bool → List ℕ
lone_lines synchronous = lone_words ++ crashes_text synchronous

-- these lines, if it is certain that there is one outcome
abbrev pub only_text : Bool → ExploredValue → List ℕ
only_text synchronous found = if found.complete && (length found.outcomes == 1) then lone_lines synchronous else []

-- the line that says that the limit of steps was reached, if it was
abbrev pub steps_text : ExploredValue → List ℕ
steps_text found =
    if found.out_of_steps then codes "# not all was looked at: allow more steps (--steps)\n" else []

-- the line that says that these many runs were too few, if as many were looked at
abbrev pub runs_text : ExploredValue → ℕ → List ℕ
runs_text found runs =
    if found.runs == runs then codes "# not all was looked at: allow more runs (--runs)\n" else []

-- that a state came back
unfoldable pub cycle_words : List ℕ
cycle_words = codes "# a state came back: the ranks may go on for ever, at "

-- the line that says so, and at which lines of the text ranks went on meanwhile
abbrev pub cycle_line : List ℕ → List ℕ
cycle_line lines = cycle_words ++ named_lines lines ++ codes "\n"

-- this line, if one came back
abbrev pub cycle_text : List ℕ → List ℕ
cycle_text lines = if length lines == 0 then [] else cycle_line lines

-- that the outcomes of all runs that end were found, or which limits were reached
abbrev pub stop_text : ExploredValue → ℕ → List ℕ
stop_text found runs =
    if found.closed then codes "# each run that ends has one of these outcomes\n" else (steps_text found ++ runs_text found runs)

-- whether a state came back, and where the search stopped, if the ranks may go on for ever or these aren't all outcomes
abbrev pub limits_text : ExploredValue → List ℕ → ℕ → List ℕ
limits_text found cycle runs = if found.complete then [] else (cycle_text cycle ++ stop_text found runs)

-- the line that says how many states were kept, if there were more
abbrev pub states_text : ExploredValue → List ℕ
states_text found = if found.kept_all then [] else
    (codes "# states kept: " ++ decimal found.states ++ codes "; behind that no runs were merged: allow more (--states)\n")

-- whether these are all outcomes, and whether those of runs that end are
abbrev pub whole_text : ExploredValue → List ℕ
whole_text found = if found.complete then codes ", complete" else (if found.closed then codes ", closed" else codes ", stopped")

-- the last line: how many outcomes were found in how many runs, and whether these are all
abbrev pub count_text : ExploredValue → List ℕ
count_text found = codes "outcomes " ++ decimal (length found.outcomes) ++ codes ", runs " ++ decimal found.runs
    ++ whole_text found ++ codes "\n"

-- What the outcomes of a search mean, of synchronous runs or of others, with what was never received and
-- with these marks, that were found in no more than so many runs, while a state came back at these
-- lines; and the last line.
abbrev pub meaning_text : Bool → ExploredValue → List (List (List LinedLeftover)) → List (Option Bool) → List ℕ → ℕ → List ℕ
meaning_text synchronous found left marks cycle runs =
    only_text synchronous found ++ unhalted_text synchronous left 0 found.outcomes ++ marks_text 1 marks ++ states_text found ++ limits_text found cycle runs ++ count_text found
