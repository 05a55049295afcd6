-- What it means that a verdict on an outcome is right.
use Rattle.std.specs.Prelude.{◌≡◌, ◌++◌, ℕ, List, Some, codes, slice_get}
use Rattle.rank_language.specs.Program.{ProgramValue}
use Rattle.crash_free.specs.Runs.{Passed}
use Rattle.crash_free.specs.Sim.{start_of}
use Rattle.audit.specs.declared.outcome.End.{End}
use Rattle.audit.specs.Outcome.{OutcomeValue, IsOutcome}
use Rattle.audit.specs.Reachable.{IsReachable, IsWithinSteps}
use Rattle.audit.specs.FinalRuns.Final.{HaveStalled, IsFinal}
use Rattle.outcomes.specs.declared.judge.verdict.Verdict.{Verdict}
use Rattle.outcomes.specs.declared.judge.verdict.Verdict.TheVariants.{Yes, No}

-- No run without crashes of this program on n ranks has the outcome in which each rank makes its
-- part within so many steps, and in which each rank that is reported as stalled has stalled.
abbrev pub IsNoneWithin : ProgramValue → ℕ → OutcomeValue → ℕ → Type 0
IsNoneWithin program n o steps =
    (C : List Passed) → IsOutcome (start_of program n) n C o
    → ((r : ℕ) (e : End) → slice_get o.ends r ≡ Some e → IsWithinSteps program n steps C r e)
    → HaveStalled (start_of program n) n C o.ends → ⊥

-- A verdict on an outcome is right. Yes: some run without crashes has it in which each rank that is
-- reported as stalled has stalled, and some run has it within the steps. No: no run has it so.
abbrev pub IsRight : ProgramValue → ℕ → OutcomeValue → ℕ → Verdict → Type 0
IsRight program n o steps Yes = IsFinal program n o × IsReachable program n o steps
IsRight program n o steps (No why) = IsNoneWithin program n o steps

-- The text of a no: its first line is `no`. What stands behind that line isn't said.
pub record IsNoText (text : List ℕ) : Type 0 where
  pub why : List ℕ
  pub whole : text ≡ codes "no\n" ++ why
