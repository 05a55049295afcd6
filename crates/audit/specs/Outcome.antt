-- What is known of a run afterwards, and what it is to be the outcome of a run without crashes:
-- what validation after the fact has to find (consistent states, which are those of executions
-- without failures: Elnozahy, Alvisi, Wang and Johnson 2002, section 2).
use Rattle.std.specs.Prelude.{◌≡◌, ℕ, ℤ, ◌==◌, List, [], ◌∷◌, length, Some, slice_get}
use Rattle.event_logger.specs.Sequential.Event.{EventValue}
use Rattle.matching.specs.declared.line.Line.{Line}
use Rattle.rank_language.specs.Program.{ProgramValue}
use Rattle.rank_machine.specs.declared.want.Want.{Want}
use Rattle.rank_machine.specs.declared.want.Want.TheVariants as want
use Rattle.rank_machine.specs.States.{State, Inners}
use Rattle.rank_machine.specs.Wants.{wants}
use Rattle.rank_machine.specs.Acts.{Runs}
use Rattle.crash_free.specs.Runs.{Passed, History, cons_if, history, printed, IsRun}
use Rattle.crash_free.specs.Sim.{start_of}
use Rattle.audit.specs.declared.outcome.End.{End}
use Rattle.audit.specs.declared.outcome.End.TheVariants as end
use Rattle.audit.specs.Rows.{IsRow}

-- the stored events of each rank, the lines of all ranks, and how each rank ended
pub record OutcomeValue : Type 0 where
  pub rows : List (List EventValue)
  pub lines : List Line
  pub ends : List End

-- the lines of a rank, each with its clock
abbrev pub lines_of : ℕ → List Line → List (ℕ × ℤ)
lines_of r [] = []
lines_of r (l ∷ lines) = cons_if (l.rank == r) (l.clock, l.value) (lines_of r lines)

-- a receive or a probe that waits is wanted
abbrev pub IsWaiting : Want → Type 0
IsWaiting (want.Receive selector) = Unit {0}
IsWaiting (want.Probe selector) = Unit {0}
IsWaiting want.Internal = ⊥
IsWaiting (want.Send dest context tag) = ⊥
IsWaiting (want.TryProbe selector) = ⊥
IsWaiting (want.Print value) = ⊥
IsWaiting want.Halted = ⊥
IsWaiting (want.Faulted fault) = ⊥

-- a rank that ended so may want this; one that is unfinished may want anything
abbrev pub MayWant : End → Want → Type 0
MayWant end.Halted w = w ≡ want.Halted
MayWant (end.Faulted fault) w = w ≡ want.Faulted fault
MayWant end.Stalled w = IsWaiting w
MayWant end.Unfinished w = Unit {0}

-- a rank that began at this state and has this history is, by inner steps, at a state that ended so
pub record HasEnded (start : State) (h : History) (e : End) : Type 0 where
  pub after : State
  pub stands : State
  pub reached : Runs start h after
  pub inner : Inners after stands
  pub ended : MayWant e (wants stands)

-- The outcome is that of this run of n ranks: each row has the rank's events, the lines of each
-- rank are those that it printed, and each rank is where the outcome says that it ended.
pub record IsOutcome (start : ℕ → State) (n : ℕ) (C : List Passed) (o : OutcomeValue) : Type 0 where
  pub is_run : IsRun start n C
  pub as_many_rows : length o.rows ≡ n
  pub rows : (r : ℕ) (events : List EventValue) → slice_get o.rows r ≡ Some events → IsRow C r events
  pub lines : (r : ℕ) → lines_of r o.lines ≡ printed C r
  pub as_many_ends : length o.ends ≡ n
  pub ends : (r : ℕ) (e : End) → slice_get o.ends r ≡ Some e → HasEnded (start r) (history C r) e

-- some run without crashes of this program on n ranks has the outcome
abbrev pub IsOfSomeRun : ProgramValue → ℕ → OutcomeValue → Type 0
IsOfSomeRun program n o = (C : List Passed) × IsOutcome (start_of program n) n C o
