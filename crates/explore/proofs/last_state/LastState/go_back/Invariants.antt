use Rattle.std.proofs.Common.{◌≡◌, ℕ, ◌≤◌, ◌-◌, List, length, reverse}
use Rattle.rank_language.specs.Program.{ProgramValue}
use Rattle.crash_free.specs.LiveVariables.Live.{Table}
use Rattle.crash_free.specs.Runs.{Passed}
use Rattle.crash_free.specs.Standing.{Rows}
use Rattle.explore.specs.LastState.{Knows}
use Rattle.explore.proofs.last_state.LastState.go_back.Given as goal

-- what was known still is, and it is no further than the acts
abbrev pub invariant-loop-self : goal.invariant-loop-self
invariant-loop-self l = record {
  knows : (t : Table) (program : ProgramValue) (n : ℕ) (C : List Passed) (parts : List Rows) → l.acts ≡ reverse C → Knows t program n C parts l.initial.self
      → Knows t program n C parts l.self;
  within : l.self.shared ≤ length l.acts;
}

abbrev pub decreases-loop-self : goal.decreases-loop-self
decreases-loop-self l = l.self.shared - l.shared
