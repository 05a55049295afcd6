-- A no of `confirm` leaves no run.
use Rattle.std.proofs.Common.{◌≡◌, ◌≢◌, ap, ℕ}
use Rattle.rank_language.specs.Program.{ProgramValue}
use Rattle.audit.specs.declared.fault.AuditFault.TheVariants as audit
use Rattle.audit.specs.Outcome.{OutcomeValue}
use Rattle.audit.specs.declared.final_runs.fault.FinalFault.{FinalFault}
use Rattle.audit.specs.declared.final_runs.fault.FinalFault.TheVariants as fault
use Rattle.audit.specs.Reachable.{IsReachable}
use Rattle.audit.specs.FinalRuns.Final.{IsFinal, IsWhy}
use Rattle.outcomes.specs.Judge.Judged.{IsNoneWithin, IsRight}
use Rattle.outcomes.specs.declared.judge.verdict.Verdict.TheVariants.{Yes, No}

-- the reason is no lack of memory
abbrev pub IsKnown : FinalFault → Type 0
IsKnown f = f ≢ fault.Audit audit.Memory

-- a reason that is known leaves no run
none_within : (program : ProgramValue) (n steps : ℕ) (o : OutcomeValue) (f : FinalFault) → IsKnown f → IsWhy program n o steps f
    → IsNoneWithin program n o steps
none_within program n steps o (fault.Audit f) known why C is within stalled = known (ap fault.Audit (why (C, is, within)))
none_within program n steps o (fault.FalseStall r) known why C is within stalled =
    let may = why.1 C is in may.other (stalled r why.0 may.act may.may)

-- so a no for it is right
pub is_no : (program : ProgramValue) (n steps : ℕ) (o : OutcomeValue) (f : FinalFault) → IsKnown f → IsWhy program n o steps f
    → IsRight program n o steps (No f)
is_no program n steps o f known why = none_within program n steps o f known why

-- and a yes is right of what is final and within the steps
pub is_yes : (program : ProgramValue) (n steps : ℕ) (o : OutcomeValue) → IsFinal program n o → IsReachable program n o steps
    → IsRight program n o steps Yes
is_yes program n steps o final within = (final, within)
