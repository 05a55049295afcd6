-- How often each outcome came among some runs.
use Rattle.std.specs.Prelude.{◌≡◌, ◌≢◌, ℕ, ◌+◌, ◌-◌, ◌^◌, min, Bool, true, false, List, [], ◌∷◌, ◌++◌, Some, slice_get, slice_set}
use Rattle.audit.specs.FinalRuns.Maximal.{RankOutcome}

-- what a run came to: its outcome, and whether a rank crashed
pub record RunSeen : Type 0 where
  pub outcome : List RankOutcome
  pub has_crashed : Bool

-- an outcome, how many runs had it, and in how many of these a rank crashed
pub record BarValue : Type 0 where
  pub outcome : List RankOutcome
  pub runs : ℕ
  pub crashed : ℕ

-- one run, if it is among those that are counted
abbrev pub one_if : Bool → ℕ
one_if true = 1
one_if false = 0

-- the greatest count, that of a `u64`
abbrev pub most_runs : ℕ
most_runs = 2 ^ 64 - 1

-- a count, which stays at the greatest one
abbrev pub up_to : ℕ → ℕ
up_to n = min n most_runs

-- of the first run that had the outcome
abbrev pub first_bar : List RankOutcome → Bool → BarValue
first_bar outcome has_crashed = record { outcome = outcome; runs = 1; crashed = one_if has_crashed }

-- after one run more that had it
abbrev pub with_one : BarValue → Bool → BarValue
with_one bar has_crashed = record { outcome = bar.outcome; runs = up_to (bar.runs + 1); crashed = up_to (bar.crashed + one_if has_crashed) }

-- the outcome is that of the bar at this place
abbrev pub HasAt : List BarValue → List RankOutcome → ℕ → Type 0
HasAt bars outcome at = (bar : BarValue) × (slice_get bars at ≡ Some bar) × (bar.outcome ≡ outcome)

-- each of the bars is of another outcome
abbrev pub AreOthers : List BarValue → List RankOutcome → Type 0
AreOthers bars outcome = (at : ℕ) (bar : BarValue) → slice_get bars at ≡ Some bar → bar.outcome ≢ outcome

-- A run is noted: it counts in the bar of its outcome, and no other bar changes; or it is the first
-- with this outcome, and has a bar behind the others.
pub data Notes (old : List BarValue) (outcome : List RankOutcome) (has_crashed : Bool) : List BarValue → Type 0 where
  again : (at : ℕ) (bar : BarValue) → slice_get old at ≡ Some bar → bar.outcome ≡ outcome
      → Notes old outcome has_crashed (slice_set old at (with_one bar has_crashed))
  first : AreOthers old outcome → Notes old outcome has_crashed (old ++ first_bar outcome has_crashed ∷ [])

-- these are the bars of these runs, which were noted one after another; the last run stands first
pub data AreBars : List RunSeen → List BarValue → Type 0 where
  of_none : AreBars [] []
  of_one : {runs : List RunSeen} {old new : List BarValue} (run : RunSeen) → AreBars runs old
      → Notes old run.outcome run.has_crashed new → AreBars (run ∷ runs) new

-- so many of these runs had the outcome, and in so many of them a rank crashed
pub data HaveHad (outcome : List RankOutcome) : List RunSeen → ℕ → ℕ → Type 0 where
  had_none : HaveHad outcome [] 0 0
  had_it : {runs : List RunSeen} {n c : ℕ} (run : RunSeen) → run.outcome ≡ outcome → HaveHad outcome runs n c
      → HaveHad outcome (run ∷ runs) (n + 1) (c + one_if run.has_crashed)
  had_other : {runs : List RunSeen} {n c : ℕ} (run : RunSeen) → run.outcome ≢ outcome → HaveHad outcome runs n c
      → HaveHad outcome (run ∷ runs) n c

-- each bar has the counts of its outcome among these runs
abbrev pub HaveCounts : List RunSeen → List BarValue → Type 0
HaveCounts runs [] = Unit {0}
HaveCounts runs (bar ∷ bars) = HaveHad bar.outcome runs bar.runs bar.crashed × HaveCounts runs bars

-- the outcome of each of these runs has a bar
abbrev pub NoneIsLost : List RunSeen → List BarValue → Type 0
NoneIsLost [] bars = Unit {0}
NoneIsLost (run ∷ runs) bars = ((at : ℕ) × HasAt bars run.outcome at) × NoneIsLost runs bars

-- no two of the bars are of one outcome
abbrev pub AreApart : List BarValue → Type 0
AreApart [] = Unit {0}
AreApart (bar ∷ bars) = AreOthers bars bar.outcome × AreApart bars

-- What the bars of some runs are: none is lost, none is counted twice, and the counts are theirs.
pub record IsHistogram (runs : List RunSeen) (bars : List BarValue) : Type 0 where
  pub counts : HaveCounts runs bars
  pub none_lost : NoneIsLost runs bars
  pub apart : AreApart bars
