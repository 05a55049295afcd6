-- Outcomes that are final: nothing is there for which a rank waits that is reported as stalled.
use Rattle.std.specs.Prelude.{◌≡◌, ◌≢◌, ℕ, ℤ, suc, List, [], ◌∷◌, map, Some, slice_get}
use Rattle.matching.specs.declared.line.Line.{Line}
use Rattle.rank_language.specs.Program.{ProgramValue}
use Rattle.rank_machine.specs.States.{State}
use Rattle.rank_machine.specs.declared.want.Want.{Want}
use Rattle.rank_machine.specs.Acts.{Act, sends, takes, hits, misses, prints}
use Rattle.crash_free.specs.Runs.{Passed}
use Rattle.crash_free.specs.Sim.{SimValue, start_of}
use Rattle.crash_free.specs.Wanted.{WantsAt}
use Rattle.audit.specs.declared.fault.AuditFault.TheVariants as audit
use Rattle.audit.specs.declared.outcome.End.{End}
use Rattle.audit.specs.declared.outcome.End.TheVariants as end
use Rattle.audit.specs.Outcome.{OutcomeValue, lines_of, IsWaiting, IsOutcome}
use Rattle.audit.specs.Reachable.{IsReachable}
use Rattle.audit.specs.Found.{IsFound}
use Rattle.audit.specs.declared.final_runs.fault.FinalFault.{FinalFault}
use Rattle.audit.specs.declared.final_runs.fault.FinalFault.TheVariants as fault
use Rattle.audit.specs.FinalRuns.Maximal.{MayFollow, RankOutcome}

-- the act takes or hits a message of a rank that is unfinished
abbrev pub IsOfUnfinished : List End → Act → Type 0
IsOfUnfinished ends (takes source place) = slice_get ends source ≡ Some end.Unfinished
IsOfUnfinished ends (hits source place) = slice_get ends source ≡ Some end.Unfinished
IsOfUnfinished ends (sends dest context tag items) = ⊥
IsOfUnfinished ends misses = ⊥
IsOfUnfinished ends (prints value) = ⊥

-- After this run rank r may make no act, unless by a message of an unfinished rank: that one may
-- have sent more in the run than it did.
abbrev pub HasStalled : (ℕ → State) → ℕ → List Passed → List End → ℕ → Type 0
HasStalled start n C ends r = (act : Act) → MayFollow start n C r act → IsOfUnfinished ends act

-- after this run rank r may make an act, and by no message of an unfinished rank
pub record HasNotStalled (start : ℕ → State) (n : ℕ) (C : List Passed) (ends : List End) (r : ℕ) : Type 0 where
  pub act : Act
  pub may : MayFollow start n C r act
  pub other : IsOfUnfinished ends act → ⊥

-- each rank that is reported as stalled has stalled so
abbrev pub HaveStalled : (ℕ → State) → ℕ → List Passed → List End → Type 0
HaveStalled start n C ends = (r : ℕ) → slice_get ends r ≡ Some end.Stalled → HasStalled start n C ends r

-- some run of this program on n ranks has the outcome, and each rank reported as stalled has
-- stalled in it
abbrev pub IsFinal : ProgramValue → ℕ → OutcomeValue → Type 0
IsFinal program n o = (C : List Passed) × IsOutcome (start_of program n) n C o × HaveStalled (start_of program n) n C o.ends

-- The simulation confirms the outcome: an audit found it, and each rank reported as stalled has
-- stalled in its run.
pub record IsConfirmed (program : ProgramValue) (n : ℕ) (o : OutcomeValue) (steps : ℕ) (s : SimValue) : Type 0 where
  pub found : IsFound program n o steps s
  pub stalled : HaveStalled (start_of program n) n s.run o.ends

-- no rank is unfinished
abbrev pub NoneIsUnfinished : List End → Type 0
NoneIsUnfinished ends = (r : ℕ) → slice_get ends r ≢ Some end.Unfinished

-- what a user sees of the ranks from this one on that ended so
abbrev pub seen_from : ℕ → List Line → List End → List RankOutcome
seen_from r lines [] = []
seen_from r lines (e ∷ ends) =
    record { lines = map (λ (line : ℕ × ℤ). line.1) (lines_of r lines); end = e } ∷ seen_from (suc r) lines ends

-- what a user sees of an outcome: of each rank the values that it printed, in order, and how it
-- ended
abbrev pub seen_of : OutcomeValue → List RankOutcome
seen_of o = seen_from 0 o.lines o.ends

-- A no is right: no run that is within reach has the outcome, unless memory was short; or this rank
-- is reported as stalled, and may go on in each run that has the outcome.
abbrev pub IsWhy : ProgramValue → ℕ → OutcomeValue → ℕ → FinalFault → Type 0
IsWhy program n o steps (fault.Audit f) = IsReachable program n o steps → f ≡ audit.Memory
IsWhy program n o steps (fault.FalseStall r) =
    (slice_get o.ends r ≡ Some end.Stalled)
    × ((C : List Passed) → IsOutcome (start_of program n) n C o → HasNotStalled (start_of program n) n C o.ends r)

-- each rank of the simulation that is reported as stalled asks for a receive or a probe that waits
abbrev pub AreWaiting : SimValue → List End → Type 0
AreWaiting s ends = (r : ℕ) → slice_get ends r ≡ Some end.Stalled → (w : Want) × WantsAt s.machines r w × IsWaiting w
