-- Why crashes add no outcome: the run that a world or a report stands for is part of a run that comes to an end which was found, and more acts
-- only add lines.
use Rattle.std.proofs.Common.{◌≡◌, ℕ, ℤ, List, [], ◌++◌, Some, slice_get, sym, ap, ◌∙◌}
use Rattle.std.specs.Prelude.{map}
use Rattle.std.proofs.lemmas.List.{append-nil, map-append}
use Rattle.matching.specs.declared.line.Line.{Line}
use Rattle.rank_language.specs.Program.{ProgramValue}
use Rattle.rank_machine.specs.States.{State}
use Rattle.crash_free.specs.Runs.{Passed, History, history, printed, prints_from, IsRun}
use Rattle.crash_free.specs.Parts.{IsBeginning, IsPartOf}
use Rattle.crash_free.specs.Sim.{start_of}
use Rattle.crash_free.proofs.Reorder.{IsBeginning-trans, history_grows}
use Rattle.audit.specs.Outcome.{OutcomeValue, lines_of}
use Rattle.audit.specs.FinalRuns.Final.{IsFinal, seen_of}
use Rattle.audit.specs.FinalRuns.Maximal.{RankOutcome, IsOutcomeOf}
use Rattle.audit.proofs.FinalRunsLaws.Ending.{final_is_possible}
use Rattle.audit.proofs.Growing.{prints_grow}
use Rattle.explore.specs.Exploring.{and_then, AlwaysEndsIn, at_end, goes_on}
use Rattle.explore.specs.Outcomes.{IsAmong}
use Rattle.explore.proofs.Ending.{along, none_missing}
use Rattle.bare_world.specs.World.{WorldValue, size}
use Rattle.bare_world.specs.Headline.{StandsFor}
use Rattle.run_events.specs.Masking.{values_of, ArePrintedIn, EndsAmong, MasksCrashes, IsMasked}
use Rattle.explore.specs.declared.send_mode.SendMode.TheVariants.{Buffered}
use Rattle.explore.proofs.Outcomes.{outcome_buffered, outcome_plain}
use Rattle.explore.proofs.Sending.{buffered_run}

-- a run that a run is part of, and that has an outcome which was found
record EndsIn (start : ℕ → State) (n : ℕ) (found : List RankOutcome → Type 0) (C : List Passed) : Type 0 where
  last : List Passed
  outcome : List RankOutcome
  is_its : IsOutcomeOf start n last outcome
  is_found : found outcome
  part : IsPartOf C last

-- where each way on comes to an end that is found, there is one
ends_in : (start : ℕ → State) (n : ℕ) (found : List RankOutcome → Type 0) (C : List Passed) → AlwaysEndsIn Buffered start n found C → EndsIn start n found C
ends_in start n found C (at_end o is_its is_found) =
    record { last = C; outcome = o; is_its = outcome_plain start n C o is_its; is_found = is_found; part = λ r. ([], sym (append-nil (history C r))) }
ends_in start n found C (goes_on r act may further) =
    let more = ends_in start n found (and_then C r act) (further r act may) in
    record {
      last = more.last;
      outcome = more.outcome;
      is_its = more.is_its;
      is_found = more.is_found;
      part = λ z. IsBeginning-trans (history C z) (history (and_then C r act) z) (history more.last z)
          (history_grows C (record { rank = r; act = act }) z) (more.part z);
    }

-- the values of more acts begin with those of the first ones
more_values : (h later : History)
    → IsBeginning (map (λ (line : ℕ × ℤ). line.1) (prints_from 0 h)) (map (λ (line : ℕ × ℤ). line.1) (prints_from 0 (h ++ later)))
more_values h later =
    let more = prints_grow h later in (
      map (λ (line : ℕ × ℤ). line.1) more.0,
      ap (λ lines. map (λ (line : ℕ × ℤ). line.1) lines) more.1 ∙ map-append (λ (line : ℕ × ℤ). line.1) (prints_from 0 h) more.0,
    )

-- what the ranks of a run printed is part of an outcome that was found
masked : (program : ProgramValue) (n : ℕ) (outcomes : List (List RankOutcome)) (C : List Passed) (lines : List Line)
    → EndsAmong program n outcomes → IsRun (start_of program n) n C → ((r : ℕ) → lines_of r lines ≡ printed C r) → ArePrintedIn outcomes n lines
masked program n outcomes C lines all run same =
    let found = IsAmong outcomes in
    let end = ends_in (start_of program n) n found C (along Buffered (start_of program n) n found C all (buffered_run (start_of program n) n C run)) in
    record {
      outcome = end.outcome;
      found = end.is_found;
      as_many = end.is_its.as_many;
      part = λ r x there. begins end r x there;
    }
  where
    begins : (end : EndsIn (start_of program n) n (IsAmong outcomes) C) (r : ℕ) (x : RankOutcome) → slice_get end.outcome r ≡ Some x
        → IsBeginning (values_of r lines) x.lines
    begins end r x there =
        let later : History = (end.part r).0 in
        let more = more_values (history C r) later in
        let own : values_of r lines ≡ map (λ (line : ℕ × ℤ). line.1) (prints_from 0 (history C r)) =
        ap (λ z. map (λ (line : ℕ × ℤ). line.1) z) (same r) in
        let last : x.lines ≡ map (λ (line : ℕ × ℤ). line.1) (prints_from 0 (history C r ++ later)) =
        (end.is_its.each r x there).lines ∙ ap (λ h. map (λ (line : ℕ × ℤ). line.1) (prints_from 0 h)) (end.part r).1 in
        (more.0, last ∙ more.1 ∙ ap (λ z. z ++ more.0) (sym own))

-- so it is in each world
pub world_masks : (outcomes : List (List RankOutcome)) (w : WorldValue) → StandsFor w w.run → MasksCrashes outcomes w
world_masks outcomes w stands all = masked w.program (size w) outcomes w.run w.lines all stands.is_run stands.lines

-- and of each report
pub report_is_masked : (program : ProgramValue) (n : ℕ) (outcomes : List (List RankOutcome)) (o : OutcomeValue) → EndsAmong program n outcomes
    → IsFinal program n o → IsMasked outcomes n o
report_is_masked program n outcomes o all final =
    let is_its = final.1 in
    record {
      printed = masked program n outcomes final.0 o.lines all is_its.is_run is_its.lines;
      whole = λ none. missing (final_is_possible program n o final none);
    }
  where
    missing : (C : List Passed) × IsOutcomeOf (start_of program n) n C (seen_of o) → IsAmong outcomes (seen_of o)
    missing possible = none_missing Buffered (start_of program n) n (IsAmong outcomes) possible.0 (seen_of o) all
        (outcome_buffered (start_of program n) n possible.0 (seen_of o) possible.1)
