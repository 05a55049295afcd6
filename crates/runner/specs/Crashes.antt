-- What a complete search says of runs, whatever crashed there (failure transparency: Elnozahy and
-- others 2002, section 2).
use Rattle.std.specs.Prelude.{◌≡◌, ℕ, List, [], ◌∷◌}
use Rattle.audit.specs.Outcome.{OutcomeValue}
use Rattle.audit.specs.FinalRuns.Final.{IsFinal, NoneIsUnfinished, seen_of}
use Rattle.audit.specs.FinalRuns.Maximal.{RankOutcome}
use Rattle.rank_language.specs.Program.{ProgramValue}
use Rattle.run_events.specs.Masking.{IsMasked, PrintsPartOf}

-- What was printed in each final outcome of a run of the program on n ranks, as that of each report
-- is, is part of one of these outcomes; and a final outcome without unfinished ranks is one.
abbrev pub AreMasked : ProgramValue → ℕ → List (List RankOutcome) → Type 0
AreMasked program n outcomes = (o : OutcomeValue) → IsFinal program n o → IsMasked outcomes n o

-- Whatever crashes, each rank of a run prints what it prints in this outcome, or a beginning of it. A
-- final outcome without unfinished ranks is this one.
pub record PrintsOnly (program : ProgramValue) (n : ℕ) (outcome : List RankOutcome) : Type 0 where
  pub reports : (o : OutcomeValue) → IsFinal program n o → PrintsPartOf outcome o.lines
  pub whole : (o : OutcomeValue) → IsFinal program n o → NoneIsUnfinished o.ends → seen_of o ≡ outcome

-- Crashes add none to these outcomes of a program; so where there is one, it is all that a run prints.
pub record CrashesAddNone (program : ProgramValue) (n : ℕ) (outcomes : List (List RankOutcome)) : Type 0 where
  pub masks : AreMasked program n outcomes
  pub only : (outcome : List RankOutcome) → outcomes ≡ outcome ∷ [] → PrintsOnly program n outcome
