-- What crashes can change of a program that always comes to an end among some outcomes, as one of
-- which a search is complete: nothing. What its ranks have printed is, whatever crashed, a beginning
-- of what they print in one of these outcomes.
-- Source: failure transparency, masking of failures by recovery, Elnozahy and others 2002, section 2.
use Rattle.std.specs.Prelude.{◌≡◌, ℕ, ℤ, List, [], length, map, Some, slice_get}
use Rattle.matching.specs.declared.line.Line.{Line}
use Rattle.rank_language.specs.Program.{ProgramValue}
use Rattle.crash_free.specs.Parts.{IsBeginning}
use Rattle.crash_free.specs.Sim.{start_of}
use Rattle.audit.specs.Outcome.{OutcomeValue, lines_of}
use Rattle.audit.specs.FinalRuns.Final.{NoneIsUnfinished, seen_of}
use Rattle.audit.specs.FinalRuns.Maximal.{RankOutcome}
use Rattle.explore.specs.Exploring.{AlwaysEndsIn}
use Rattle.explore.specs.Outcomes.{IsAmong}
use Rattle.bare_world.specs.World.{WorldValue, size}
use Rattle.explore.specs.declared.send_mode.SendMode.TheVariants.{Buffered}

-- the values that a rank has printed, in order
abbrev pub values_of : ℕ → List Line → List ℤ
values_of r lines = map (λ (line : ℕ × ℤ). line.1) (lines_of r lines)

-- each rank has printed a beginning of what it prints in the outcome
abbrev pub PrintsPartOf : List RankOutcome → List Line → Type 0
PrintsPartOf outcome lines = (r : ℕ) (x : RankOutcome) → slice_get outcome r ≡ Some x → IsBeginning (values_of r lines) x.lines

-- In one of these outcomes, the same for all n ranks, each prints what it has printed, and perhaps
-- more.
pub record ArePrintedIn (outcomes : List (List RankOutcome)) (n : ℕ) (lines : List Line) : Type 0 where
  pub outcome : List RankOutcome
  pub found : IsAmong outcomes outcome
  pub as_many : length outcome ≡ n
  pub part : PrintsPartOf outcome lines

-- The program on n ranks comes to an end among these outcomes, however its ranks go on.
abbrev pub EndsAmong : ProgramValue → ℕ → List (List RankOutcome) → Type 0
EndsAmong program n outcomes = AlwaysEndsIn Buffered (start_of program n) n (IsAmong outcomes) []

-- Masking, in a world: whatever crashed, what was printed is part of an outcome that was found.
abbrev pub MasksCrashes : List (List RankOutcome) → WorldValue → Type 0
MasksCrashes outcomes w = EndsAmong w.program (size w) outcomes → ArePrintedIn outcomes (size w) w.lines

-- Masking, in the report of a run: so it is of its lines; and if no rank is unfinished, what is seen
-- of the report is one of the outcomes.
pub record IsMasked (outcomes : List (List RankOutcome)) (n : ℕ) (o : OutcomeValue) : Type 0 where
  pub printed : ArePrintedIn outcomes n o.lines
  pub whole : NoneIsUnfinished o.ends → IsAmong outcomes (seen_of o)
