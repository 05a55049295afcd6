-- Runs in which sends complete by a mode (MPI 1.1, section 3.4: a send of the buffered mode completes
-- whether or not its receive was posted, one of the synchronous mode once that has started to receive
-- its message; section 3.5: a program is safe if it needs no buffering). A probe finds a message that
-- isn't received yet, and leaves it (section 3.8). Packets of collectives wait for nobody.
use Rattle.std.specs.Prelude.{◌≡◌, ◌⊎◌, ℕ, ℤ, ◌<◌, true, List, [], ◌∷◌, length, map, Some, slice_get}
use Rattle.matching.specs.declared.packet.Context.TheVariants.{PointToPoint}
use Rattle.rank_language.specs.Program.{ProgramValue}
use Rattle.rank_machine.specs.States.{State}
use Rattle.rank_machine.specs.Acts.{Act, Message}
use Rattle.crash_free.specs.Runs.{Passed, history, sent, at_place, printed, taken, MayMake}
use Rattle.crash_free.specs.Sim.{SimValue, start_of}
use Rattle.audit.specs.declared.outcome.End.TheVariants as end
use Rattle.audit.specs.FinalRuns.Maximal.{RankOutcome, IsRankOutcome}
use Rattle.audit.specs.FinalRuns.Stills.{StandsStill}
use Rattle.explore.specs.declared.send_mode.SendMode.{SendMode}
use Rattle.explore.specs.declared.send_mode.SendMode.TheVariants.{Synchronous}

-- each point-to-point message that rank r sent to q is received: an act of q took it
abbrev pub AreReceivedBy : List Passed → ℕ → ℕ → Type 0
AreReceivedBy C r q =
    (place : ℕ) (m : Message) → at_place (sent C r q) place ≡ Some m → m.context ≡ PointToPoint → taken (history C q) r place ≡ true

-- so it is with those to each of n ranks
abbrev pub AreReceived : ℕ → List Passed → ℕ → Type 0
AreReceived n C r = (q : ℕ) → q < n → AreReceivedBy C r q

-- no send holds rank r after this run of n ranks
pub record IsReleased (mode : SendMode) (n : ℕ) (C : List Passed) (r : ℕ) : Type 0 where
  pub received : mode ≡ Synchronous → AreReceived n C r

-- after this run rank r may make this act, and no send holds it
abbrev pub MayFollowUnder : SendMode → (ℕ → State) → ℕ → List Passed → ℕ → Act → Type 0
MayFollowUnder mode start n P r act = (r < n) × MayMake (start r) (λ s. sent P s r) (history P r) act × IsReleased mode n P r

-- the newest act of a run is of one of the n ranks, which may make it after the acts before, and
-- which no send held
abbrev pub IsRunUnder : SendMode → (ℕ → State) → ℕ → List Passed → Type 0
IsRunUnder mode start n [] = Unit {0}
IsRunUnder mode start n (p ∷ C) =
    IsRunUnder mode start n C × (p.rank < n) × MayMake (start p.rank) (λ s. sent C s p.rank) (history C p.rank) p.act × IsReleased mode n C p.rank

-- no rank may make an act after this run: each has ended, or waits for a message that isn't there, or
-- for the receive of one that it sent, or makes steps of its own for ever
abbrev pub IsMaximalUnder : SendMode → (ℕ → State) → ℕ → List Passed → Type 0
IsMaximalUnder mode start n C = (r : ℕ) (act : Act) → MayFollowUnder mode start n C r act → ⊥

-- rank r is held in a send after this run: what a user sees of it are the values that it printed, in
-- order, and that it stalled
pub record IsHeld (mode : SendMode) (n : ℕ) (C : List Passed) (r : ℕ) (o : RankOutcome) : Type 0 where
  pub held : IsReleased mode n C r → ⊥
  pub lines : o.lines ≡ map (λ (line : ℕ × ℤ). line.1) (printed C r)
  pub stalled : o.end ≡ end.Stalled

-- this is what a user sees of rank r after this run: of one that no send holds, and of one that is
-- held
abbrev pub IsRankOutcomeUnder : SendMode → (ℕ → State) → ℕ → List Passed → ℕ → RankOutcome → Type 0
IsRankOutcomeUnder mode start n C r o = (IsReleased mode n C r × IsRankOutcome (start r) (history C r) o) ⊎ IsHeld mode n C r o

-- the outcome, one for each rank, is that of this run of n ranks, which is maximal
pub record IsOutcomeUnder (mode : SendMode) (start : ℕ → State) (n : ℕ) (C : List Passed) (o : List RankOutcome) : Type 0 where
  pub is_run : IsRunUnder mode start n C
  pub maximal : IsMaximalUnder mode start n C
  pub as_many : length o ≡ n
  pub each : (r : ℕ) (x : RankOutcome) → slice_get o r ≡ Some x → IsRankOutcomeUnder mode start n C r x

-- some maximal run of this program on n ranks has the outcome
abbrev pub IsPossibleUnder : SendMode → ProgramValue → ℕ → List RankOutcome → Type 0
IsPossibleUnder mode program n o = (C : List Passed) × IsOutcomeUnder mode (start_of program n) n C o

-- the run of a simulation is one by the mode
abbrev pub HasRunUnder : SendMode → SimValue → Type 0
HasRunUnder mode s = IsRunUnder mode (start_of s.program (length s.machines)) (length s.machines) s.run

-- no send holds rank r after the run of a simulation
abbrev pub IsReleasedAt : SendMode → SimValue → ℕ → Type 0
IsReleasedAt mode s r = IsReleased mode (length s.machines) s.run r

-- rank r can't go on: it is held in a send, or has ended, or awaits a message that isn't there
abbrev pub StandsStillUnder : SendMode → SimValue → ℕ → Type 0
StandsStillUnder mode s r = (IsReleasedAt mode s r → ⊥) ⊎ StandsStill s r

-- so it is with each rank
abbrev pub AllStillUnder : SendMode → SimValue → Type 0
AllStillUnder mode s = (r : ℕ) → r < length s.machines → StandsStillUnder mode s r
