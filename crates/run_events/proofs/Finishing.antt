-- If all orders of a program's ranks come to an end that was found, so does each world of it.
use Rattle.std.proofs.Common.{ℕ, List, subst}
use Rattle.rank_language.specs.Program.{ProgramValue}
use Rattle.rank_machine.specs.States as states
use Rattle.rank_machine.specs.States.{State}
use Rattle.crash_free.specs.Runs.{Passed, IsRun}
use Rattle.audit.specs.FinalRuns.Maximal.{IsMaximal, RankOutcome, IsOutcomeOf}
use Rattle.explore.specs.Exploring.{and_then, AlwaysEndsIn, at_end, goes_on}
use Rattle.explore.specs.Outcomes.{IsAmong}
use Rattle.explore.proofs.Ending.{along}
use Rattle.bare_world.specs.World.{WorldValue, size, start_of}
use Rattle.bare_world.specs.Headline.{StandsFor}
use Rattle.bare_world.specs.ToTheEnd.{AllEnd, ends, on, ComesToTheEnd, CanEnd}
use Rattle.run_events.specs.Finishing.{FinishesAmong}
use Rattle.explore.specs.declared.send_mode.SendMode.TheVariants.{Buffered}
use Rattle.explore.proofs.Outcomes.{outcome_plain}
use Rattle.explore.proofs.Sending.{buffered_act, buffered_run}

-- if each way on comes to an end that is found, each comes to an end
all_end : (start : ℕ → State) (n : ℕ) (found : List RankOutcome → Type 0) (C : List Passed) → AlwaysEndsIn Buffered start n found C → AllEnd start n C
all_end start n found C (at_end o is_its is_found) = ends (outcome_plain start n C o is_its).maximal
all_end start n found C (goes_on r act may further) =
    on r act (may.0, may.1) (λ q a m. all_end start n found (and_then C q a) (further q a (buffered_act start n C q a m)))

-- and at the end, its outcome is found
found_at : (start : ℕ → State) (n : ℕ) (found : List RankOutcome → Type 0) (C : List Passed) → AlwaysEndsIn Buffered start n found C → IsMaximal start n C
    → (o : List RankOutcome) × IsOutcomeOf start n C o × found o
found_at start n found C (at_end o is_its is_found) maximal = (o, outcome_plain start n C o is_its, is_found)
found_at start n found C (goes_on r act may further) maximal = absurd (maximal r act (may.0, may.1))

-- the states in which the ranks of a program begin
abbrev begins : ProgramValue → ℕ → ℕ → State
begins p n r = states.opening p r n

-- so each world comes to an end that is found
pub finishes : (w : WorldValue) (outcomes : List (List RankOutcome)) → StandsFor w w.run → ComesToTheEnd w → FinishesAmong outcomes w
finishes w outcomes stands comes all stays =
    let found = IsAmong outcomes in
    let way : CanEnd w = comes (all_end (start_of w) (size w) found w.run (along Buffered (start_of w) (size w) found w.run all
    (buffered_run (start_of w) (size w) w.run stands.is_run))) stays in
    let run : IsRun (begins w.program (size w)) (size w) way.after.run =
    subst (λ z. IsRun (begins w.program z) z way.after.run) way.as_many
    (subst (λ z. IsRun (begins z (size way.after)) (size way.after) way.after.run) way.program way.ended.stands.is_run) in
    let maximal : IsMaximal (begins w.program (size w)) (size w) way.after.run =
    subst (λ z. IsMaximal (begins w.program z) z way.after.run) way.as_many
    (subst (λ z. IsMaximal (begins z (size way.after)) (size way.after) way.after.run) way.program way.ended.maximal) in
    let got = found_at (start_of w) (size w) found way.after.run (along Buffered (start_of w) (size w) found way.after.run all
    (buffered_run (start_of w) (size w) way.after.run run)) maximal in
    record { way = way; outcome = got.0; is_outcome = got.1; found = got.2 }
