-- Who waits in a send for ever, if no message is buffered (MPI 1.1, section 3.4): whose message is
-- never received, in a synchronous run (docs/MPI.md, "Safe programs"). The rank went past its send, and
-- makes no step behind it.
use Rattle.std.specs.Prelude.{◌≡◌, ℕ, Bool, true, false, not, ◌==◌, ◌&&◌, ◌||◌, ◌-◌, if◌then◌else◌, List, [], ◌∷◌, Option, Some, None, length, slice_get}
use Rattle.std.specs.List.{list_all, list_any}
use Rattle.audit.specs.FinalRuns.Maximal.{RankOutcome}
use Rattle.explore.specs.Sending.{IsOutcomeUnder}
use Rattle.crash_free.specs.Leftovers.{join_below, left_in}
use Rattle.crash_free.specs.Sim.{SimValue, start_of}
use Rattle.crash_free.specs.declared.leftover.Leftover.{Leftover}
use Rattle.crash_free.specs.declared.leftover.MessageMark.{MessageMark}
use Rattle.crash_free.specs.declared.leftover.MessageMark.TheVariants as mark
use Rattle.explore.specs.Explored.{ExploredValue}
use Rattle.explore.specs.Outcomes.{IsAmong}
use Rattle.explore.specs.Searching.{IsSimOf}
use Rattle.rank_language.specs.Program.{ProgramValue}
use Rattle.rank_machine.specs.Machine.{MachineValue}
use Rattle.runner.specs.declared.explored.safety.WaitingRank.{WaitingRank}
use Rattle.runner.specs.declared.explored.safety.WaitingRanks.{WaitingRanks}
use Rattle.explore.specs.declared.send_mode.SendMode.TheVariants.{Synchronous}

-- the message is of a send, not of a collective
abbrev pub is_tag : MessageMark → Bool
is_tag (mark.Tag tag) = true
is_tag (mark.Call kind number) = false

-- this rank sent it by a send
abbrev pub is_sent_by : ℕ → Leftover → Bool
is_sent_by rank x = is_tag x.mark && x.source == rank

-- A rank waits in its send: a message that it sent is among those that were never received.
abbrev pub waits_in_send : List Leftover → ℕ → Bool
waits_in_send left rank = list_any (is_sent_by rank) left

-- who sent the message by a send waits for another rank, which waits in a send too
abbrev pub is_for_another : List Leftover → Leftover → Bool
is_for_another left x = not (is_tag x.mark) || (not (x.rank == x.source) && waits_in_send left x.rank)

-- each rank that waits in its send waits for another one that does
abbrev pub wait_for_each_other : List Leftover → Bool
wait_for_each_other left = list_all (is_for_another left) left

-- the line of the send behind which the machine stands, of these lines of statements, if it is known
abbrev pub line_of_send : List ℕ → Option MachineValue → Option ℕ
line_of_send lines None = None
line_of_send lines (Some machine) = slice_get lines (machine.position - 1)

-- the rank, if it waits in its send, with the line at which it does
abbrev pub if_waits : List ℕ → List MachineValue → List Leftover → ℕ → List WaitingRank
if_waits lines machines left rank =
    if waits_in_send left rank then record { rank = rank; line = line_of_send lines (slice_get machines rank) } ∷ [] else []

-- after this run these ranks wait in their sends, at these lines
pub record AreWaits (lines : List ℕ) (s : SimValue) (waits : WaitingRanks) : Type 0 where
  pub ranks : waits.ranks.items ≡ join_below (if_waits lines s.machines (left_in (length s.machines) s.run)) (length s.machines)
  pub each_other : waits.each_other ≡ wait_for_each_other (left_in (length s.machines) s.run)

-- in some synchronous run of the program that has this outcome, and in which the machines stand where their ranks
-- do, these ranks wait in their sends
pub record WaitWith (program : ProgramValue) (n : ℕ) (lines : List ℕ) (outcome : List RankOutcome) (waits : WaitingRanks) : Type 0 where
  pub run : SimValue
  pub made : IsSimOf program n run
  pub ended : IsOutcomeUnder Synchronous (start_of program n) n run.run outcome
  pub wait : AreWaits lines run waits

-- so they do in some run that has one of these outcomes
pub record WaitInARun (program : ProgramValue) (n : ℕ) (lines : List ℕ) (outcomes : List (List RankOutcome)) (waits : WaitingRanks) : Type 0 where
  pub outcome : List RankOutcome
  pub found : IsAmong outcomes outcome
  pub wait : WaitWith program n lines outcome waits

-- No run is shown in which ranks wait.
abbrev pub IsEmpty : WaitingRanks → Type 0
IsEmpty waits = waits.ranks.items ≡ []

-- a message of a send was never received in one of these runs
abbrev pub some_wait : List (List Leftover) → Bool
some_wait listed = list_any (λ (left : List Leftover). list_any (λ (x : Leftover). is_tag x.mark) left) listed

-- so it is of one of the outcomes
abbrev pub waits_somewhere : ExploredValue → Bool
waits_somewhere found = list_any some_wait found.left
