-- Why all ranks have halted where each outcome that was found says so: what is seen of a report is
-- one of these.
use Rattle.std.proofs.Common.{◌≡◌, ℕ, zero, suc, List, [], ◌∷◌, Some, slice_get, get_or, refl, sym, subst, ◌∙◌}
use Rattle.std.proofs.lemmas.List.Elements.{All-get_or, All-from_get_or}
use Rattle.std.proofs.lemmas.Option.{slice_get-get_or, slice_get_within, get_or_from_slice_get}
use Rattle.matching.specs.declared.line.Line.{Line}
use Rattle.rank_language.specs.Program.{ProgramValue}
use Rattle.audit.specs.declared.outcome.End.{End}
use Rattle.audit.specs.declared.outcome.End.TheVariants as end
use Rattle.audit.specs.Outcome.{OutcomeValue}
use Rattle.audit.specs.FinalRuns.Final.{IsFinal, NoneIsUnfinished, seen_from, seen_of}
use Rattle.audit.specs.FinalRuns.Maximal.{RankOutcome}
use Rattle.audit.proofs.FinalRunsLaws.Ending.{final_is_possible}
use Rattle.explore.specs.Outcomes.{AreAll}
use Rattle.run_events.specs.Halting.{Halts, AllHalt, HaveHalted}
use Rattle.crash_free.specs.Sim.{start_of}
use Rattle.explore.specs.declared.send_mode.SendMode.TheVariants.{Buffered}
use Rattle.explore.proofs.Outcomes.{outcome_buffered}

-- each rank is seen, with its end
seen_at : (k : ℕ) (lines : List Line) (ends : List End) (r : ℕ) (e : End) → slice_get ends r ≡ Some e
    → (x : RankOutcome) × (slice_get (seen_from k lines ends) r ≡ Some x) × (x.end ≡ e)
seen_at k lines [] r e there = absurd cc
seen_at k lines (y ∷ ends) zero e there = (_, refl, (let q : y ≡ e = cc in q))
seen_at k lines (y ∷ ends) (suc r) e there = seen_at (suc k) lines ends r e there

-- one of the outcomes in each of which all halt
halts_among : (outcomes : List (List RankOutcome)) (o : List RankOutcome) (i : ℕ) → slice_get outcomes i ≡ Some o → AllHalt outcomes → Halts o
halts_among [] o i at all = absurd cc
halts_among (x ∷ outcomes) o zero at all = (let q : x ≡ o = cc in subst (λ z. Halts z) q all.0)
halts_among (x ∷ outcomes) o (suc i) at all = halts_among outcomes o i at all.1

-- where what is seen of each end is a halt, each has halted
ends_halted : (k : ℕ) (lines : List Line) (ends : List End) → Halts (seen_from k lines ends) → HaveHalted ends
ends_halted k lines ends halts =
    All-from_get_or (λ e. e ≡ end.Halted) ends end.Halted
    (λ r l. halted r (get_or ends r end.Halted)
    (seen_at k lines ends r (get_or ends r end.Halted) (slice_get-get_or ends r end.Halted l)))
  where
    halted : (r : ℕ) (e : End) → (x : RankOutcome) × (slice_get (seen_from k lines ends) r ≡ Some x) × (x.end ≡ e) → e ≡ end.Halted
    halted r e seen =
        let xs = seen_from k lines ends in
        sym seen.2
        ∙ subst (λ (z : RankOutcome). z.end ≡ end.Halted) (get_or_from_slice_get xs r seen.0 seen.0 seen.1)
        (All-get_or (λ (z : RankOutcome). z.end ≡ end.Halted) xs r seen.0 (slice_get_within xs r seen.0 seen.1) halts)

-- so each has halted
pub all_halted : (program : ProgramValue) (n : ℕ) (outcomes : List (List RankOutcome)) (o : OutcomeValue) → AreAll Buffered program n outcomes
    → AllHalt outcomes → IsFinal program n o → NoneIsUnfinished o.ends → HaveHalted o.ends
all_halted program n outcomes o all halt final none =
    let it = final_is_possible program n o final none in
    let found = all.no_others (seen_of o) (it.0, outcome_buffered (start_of program n) n it.0 (seen_of o) it.1) in
    ends_halted 0 o.lines o.ends (halts_among outcomes (seen_of o) found.0 found.1 halt)
