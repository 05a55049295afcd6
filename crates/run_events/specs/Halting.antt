-- Programs whose ranks all halt, in each outcome that a complete search found: then no report in
-- which no rank is unfinished has a rank that stalled, as in a deadlock, or faulted.
-- Source: a rank waits for ever only in a wrong program, MPI 1.1, section 3.5 (progress).
use Rattle.std.specs.Prelude.{◌≡◌, List, [], ◌∷◌, All}
use Rattle.audit.specs.declared.outcome.End.{End}
use Rattle.audit.specs.declared.outcome.End.TheVariants as end
use Rattle.audit.specs.FinalRuns.Maximal.{RankOutcome}

-- each rank halts in this outcome
abbrev pub Halts : List RankOutcome → Type 0
Halts outcome = All (λ (seen : RankOutcome). seen.end ≡ end.Halted) outcome

-- each rank halts in each outcome
abbrev pub AllHalt : List (List RankOutcome) → Type 0
AllHalt [] = Unit {0}
AllHalt (outcome ∷ outcomes) = Halts outcome × AllHalt outcomes

-- each of these ranks has halted
abbrev pub HaveHalted : List End → Type 0
HaveHalted ends = All (λ e. e ≡ end.Halted) ends
