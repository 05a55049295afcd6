-- Which ranks of the outcomes of a program don't halt (docs/FORMATS.md, "Standard output of
-- `explore`").
use Rattle.std.specs.Prelude.{◌==◌, ℕ, ◌+◌, Bool, true, false, if◌then◌else◌, length, List, [], ◌∷◌, ◌++◌, slice_index_or, codes}
use Rattle.std.specs.Fmt.{decimal}
use Rattle.audit.specs.declared.outcome.End.{End}
use Rattle.audit.specs.declared.outcome.End.TheVariants as end
use Rattle.audit.specs.FinalRuns.Maximal.{RankOutcome}
use Rattle.runner.specs.Enumerations.{named_ranks}
use Rattle.runner.specs.Stalls.{stalls_text}
use Rattle.runner.specs.declared.explored.lined.LinedLeftover.{LinedLeftover}
use Rattle.runner.specs.declared.explored.unhalted.NoHalt.{NoHalt}
use Rattle.runner.specs.declared.explored.unhalted.NoHalt.TheVariants as ending

-- the rank ended so
abbrev pub is_of : NoHalt → End → Bool
is_of ending.Stalls end.Stalled = true
is_of ending.Stalls (end.Faulted fault) = false
is_of ending.Stalls end.Halted = false
is_of ending.Stalls end.Unfinished = false
is_of ending.Faults end.Stalled = false
is_of ending.Faults (end.Faulted fault) = true
is_of ending.Faults end.Halted = false
is_of ending.Faults end.Unfinished = false

-- the numbers of the ranks that ended so, from this rank on
abbrev pub ranks_of : NoHalt → ℕ → List RankOutcome → List ℕ
ranks_of ending rank [] = []
ranks_of ending rank (seen ∷ others) =
    if is_of ending seen.end then rank ∷ ranks_of ending (rank + 1) others else ranks_of ending (rank + 1) others

-- that the outcome of this number has a fault
unfoldable pub fault_words : ℕ → List ℕ
fault_words number = codes "# outcome " ++ decimal number ++ codes " has a fault: "

-- the line that says which ranks of the outcome of this number have a fault
abbrev pub fault_line : ℕ → List ℕ → List ℕ
fault_line number ranks = fault_words number ++ named_ranks ranks ++ codes "\n"

-- this line, if some have one
abbrev pub faults_text : ℕ → List ℕ → List ℕ
faults_text number ranks = if length ranks == 0 then [] else fault_line number ranks

-- which ranks of the outcomes don't halt, of which the first one stands at this place
abbrev pub unhalted_text : Bool → List (List (List LinedLeftover)) → ℕ → List (List RankOutcome) → List ℕ
unhalted_text synchronous left index [] = []
unhalted_text synchronous left index (outcome ∷ outcomes) =
    stalls_text synchronous (index + 1) (ranks_of ending.Stalls 0 outcome) (slice_index_or left index [])
    ++ faults_text (index + 1) (ranks_of ending.Faults 0 outcome) ++ unhalted_text synchronous left (index + 1) outcomes
