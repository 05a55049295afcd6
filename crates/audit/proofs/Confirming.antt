-- An audit that began with so many steps for each rank, and can't go on, has come to the outcome just where it is within reach.
use Rattle.std.proofs.Common.{◌≡◌, ℕ, ℤ, ◌<◌, List, [], Some, length, slice_get}
use Rattle.std.proofs.Common.{refl, sym, ap, subst, ◌∙◌, arith}
use Rattle.std.specs.Prelude.{Result, Ok, Err, IsSomeAnd, IfErr}
use Rattle.std.proofs.lemmas.Option.{slice_get_within}
use Rattle.rank_language.specs.Program.{ProgramValue}
use Rattle.crash_free.specs.Runs.{history}
use Rattle.crash_free.specs.Sim.{SimValue, AreBegun}
use Rattle.crash_free.specs.Wanted.{Wants}
use Rattle.crash_free.specs.Advances.{Advances, still, first_machine}
use Rattle.crash_free.proofs.Advancing.{begun_there}
use Rattle.crash_free.proofs.Lists.{there_is}
use Rattle.audit.specs.declared.outcome.End.{End}
use Rattle.audit.specs.Outcome.{OutcomeValue, lines_of, MayWant}
use Rattle.audit.specs.Lines.{IsSorted}
use Rattle.audit.specs.Rows.{expand}
use Rattle.audit.specs.Counts.{AreTooMany}
use Rattle.audit.specs.Audits.{GoesTo, AreReached}
use Rattle.audit.specs.Reachable.{IsWithinSteps, IsReachable}
use Rattle.audit.specs.Found.{IsFound}
use Rattle.audit.specs.Trace.{TraceValue}
use Rattle.audit.specs.Ahead.{AheadValue, IsAhead, ProgressValue}
use Rattle.audit.specs.Playing.{IsWithin, HasLeft, PlayAll, AreStuck}
use Rattle.audit.proofs.Counting.{row_few}
use Rattle.audit.proofs.Reaching.{some_there, comes_to}
use Rattle.audit.proofs.Outcomes.{come}

-- a rank at the beginning has made no step
pub begun_left : (s : SimValue) (r total : ℕ) → AreBegun s.program (length s.machines) s.machines → s.run ≡ [] → r < length s.machines → HasLeft s r total total
begun_left s r total begun run low =
    let m = there_is s.machines r low in
    let first = begun_there s.program (length s.machines) r m.0 (begun r m.0 m.1) in
    record {
      made = 0;
      sum = omega arith;
      advances = rw (m.1, run, first) still;
      clocked = rw run (omega arith);
    }

-- no act keeps to each outcome
pub within_none : (o : OutcomeValue) (s : SimValue) → s.run ≡ [] → IsWithin o s
within_none o s run = record {
  rows = λ r events there. rw run (expand events, refl);
  lines = λ r. rw run (lines_of r o.lines, refl);
}

-- what holds of each error holds of an error
pub if_err : {T E : Type 0} (result : Result T E) (P : E → Type 0) → ((e : E) → P e) → IfErr result P
if_err (Ok x) P p = tt
if_err (Err e) P p = p e

-- an outcome with a row of more events than a rank may make acts is of no run
pub too_long : (program : ProgramValue) (n steps : ℕ) (o : OutcomeValue) → AreTooMany o.rows → IsReachable program n o steps → ⊥
too_long program n steps o many reach =
    let outcome = reach.1 in
    let rows = outcome.as_many_rows in
    let ends = outcome.as_many_ends in
    let low = slice_get_within o.rows many.0 many.1 many.2 in
    let last = there_is o.ends many.0 (omega (arith, low, rows, ends)) in
    let clocked = (reach.2 many.0 last.0 last.1).clocked in
    let few = row_few reach.0 many.0 in
    let long = ap length (outcome.rows many.0 many.1 many.2) in
    let more = many.3 in
    omega (arith, clocked, few, long, more)

-- An audit that began with a run within the outcome, and can't go on, has come to each outcome that is within reach.
pub reaches : (o : OutcomeValue) (a : AheadValue) (p : ProgressValue) (s : SimValue) (traces : List TraceValue) (left : List ℕ) → IsAhead a p → IsWithin o p.sim
    → GoesTo p.sim s traces → PlayAll o p.left left p.sim s → length left ≡ length p.left → AreStuck o left s → IsReachable a.program a.ranks o a.steps → AreReached s o
reaches o a p s traces left ahead within goes plays width stuck reach =
    let size_now : length s.machines ≡ a.ranks = goes.size ∙ ahead.size in
    let program_now : s.program ≡ a.program = goes.program ∙ ahead.program in
    comes_to o s left a.steps goes.keeps.simulates (plays.within within) (width ∙ ahead.progress.left ∙ sym goes.size)
    (λ r k there.
    let low = slice_get_within left r k there in
    let at = there_is p.left r (omega (arith, low, width)) in
    plays.each r a.steps at.0 k at.1 there (ahead.counts r at.0 at.1))
    stuck (rw (program_now, size_now) reach)

-- What an audit came to is the outcome, and it came to it within its steps.
pub found : (o : OutcomeValue) (a : AheadValue) (p : ProgressValue) (s : SimValue) (traces : List TraceValue) (sorted : List (List (ℕ × ℤ))) (left : List ℕ)
    → IsAhead a p → GoesTo p.sim s traces → PlayAll o p.left left p.sim s → length left ≡ length p.left → length o.rows ≡ a.ranks → length o.ends ≡ a.ranks
    → IsSorted a.ranks o.lines sorted → AreReached s o → IsFound a.program a.ranks o a.steps s
found o a p s traces sorted left ahead goes plays width rows ends lines reached = record {
  program = program_now;
  size = size_now;
  outcome = rw (← program_now, ← size_now) (come s traces sorted o goes.keeps (rows ∙ sym size_now) (ends ∙ sym size_now)
      (subst (λ k. IsSorted k o.lines sorted) (sym size_now) lines) reached);
  reached = reached;
  within = rw (← program_now, ← size_now) within;
}
  where
    size_now : length s.machines ≡ a.ranks
    size_now = goes.size ∙ ahead.size

    program_now : s.program ≡ a.program
    program_now = goes.program ∙ ahead.program

    within : (r : ℕ) (e : End) → slice_get o.ends r ≡ Some e → IsWithinSteps s.program (length s.machines) a.steps s.run r e
    within r e there =
        let low = slice_get_within o.ends r e there in
        let wide : length p.left ≡ a.ranks = ahead.progress.left ∙ ahead.size in
        let at = there_is p.left r (omega (arith, low, ends, wide)) in
        let now = there_is left r (omega (arith, low, ends, wide, width)) in
        let has = plays.each r a.steps at.0 now.0 at.1 now.1 (ahead.counts r at.0 at.1) in
        let sum = has.sum in
        let m = some_there (slice_get s.machines r) (λ m. Advances has.made (first_machine s.program (length s.machines) r) (history s.run r) m) has.advances in
        let end = (reached r (omega (arith, low, ends, size_now))).end e there in
        let asks : Wants m.0 end.0 = subst (λ q. IsSomeAnd q (λ x. Wants x end.0)) m.1 end.1 in
        record {
          count = has.made;
          few = omega (arith, sum);
          last = m.0;
          advances = m.2;
          ended = subst (λ v. MayWant e v) (sym asks.at_want) end.2;
          clocked = has.clocked;
        }
