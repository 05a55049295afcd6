-- Whether a program is safe: it completes without buffering (MPI 1.1, section 3.5), so also if each
-- send waits until its message is received (section 3.4). This is looked for among its synchronous
-- runs (docs/MPI.md, "Safe programs").
use Rattle.std.specs.Prelude.{◌≡◌, ℕ, Bool, true, false, ◌==◌, ◌&&◌, if◌then◌else◌, List, [], ◌++◌, Option, Some, None, length, map, codes}
use Rattle.std.specs.List.{filter_map, list_any}
use Rattle.command_line.specs.declared.exploring.ExploreForm.{ExploreForm}
use Rattle.command_line.specs.declared.exploring.ExploreForm.TheVariants as form
use Rattle.command_line.specs.declared.exploring.ExploreJob.{ExploreJob}
use Rattle.explore.specs.Explored.{ExploredValue}
use Rattle.rank_language.specs.Block.{Line, simple_line, if_line, else_line, end_line, while_line, back_line}
use Rattle.rank_language.specs.Placed.{Simple, declare, declare_array, assign, assign_item, send, receive, probe, try_probe, print, collect}
use Rattle.rank_language.specs.Program.{ProgramValue}
use Rattle.run_events.specs.Halting.{AllHalt}
use Rattle.runner.specs.Enumerations.{named_lines, named_ranks}
use Rattle.runner.specs.Waits.{IsEmpty, WaitInARun, waits_somewhere}
use Rattle.runner.specs.declared.explored.safety.Safety.{Safety}
use Rattle.runner.specs.declared.explored.safety.Safety.TheVariants as safety
use Rattle.runner.specs.declared.explored.safety.Unknown.{Unknown}
use Rattle.runner.specs.declared.explored.safety.Unknown.TheVariants as unknown
use Rattle.runner.specs.declared.explored.safety.WaitingRank.{WaitingRank}
use Rattle.runner.specs.declared.explored.safety.WaitingRanks.{WaitingRanks}

-- the search is complete, and each rank halts in each outcome
pub record IsHalting (found : ExploredValue) : Type 0 where
  pub complete : found.complete ≡ true
  pub halts : AllHalt found.outcomes

-- What is said after a search of the synchronous runs. It is safe if and only if that is complete
-- and each rank halts in each outcome. It isn't if and only if in a run that was found a message of a
-- send was never received, as its rank waits in that send for ever.
pub data IsVerdict (lines : List ℕ) (program : ProgramValue) (n : ℕ) (found : ExploredValue) : Safety → Type 0 where
  is_safe : IsHalting found → IsVerdict lines program n found safety.Safe
  waiting : {waits : WaitingRanks} → (IsHalting found → ⊥) → waits_somewhere found ≡ true → WaitInARun program n lines found.outcomes waits
      → IsVerdict lines program n found (safety.NotSafe waits)
  unseen : {waits : WaitingRanks} → (IsHalting found → ⊥) → waits_somewhere found ≡ true → IsEmpty waits → IsVerdict lines program n found (safety.NotSafe waits)
  stopped : (IsHalting found → ⊥) → waits_somewhere found ≡ false → found.complete ≡ false
      → IsVerdict lines program n found (safety.Unknown unknown.Stopped)
  unhalted : (IsHalting found → ⊥) → waits_somewhere found ≡ false → found.complete ≡ true
      → IsVerdict lines program n found (safety.Unknown unknown.Unhalted)

-- the statement is a send
abbrev pub is_send : Line → Bool
is_send (simple_line (send d t p)) = true
is_send (simple_line (declare p)) = false
is_send (simple_line (declare_array p)) = false
is_send (simple_line (assign p e)) = false
is_send (simple_line (assign_item p i e)) = false
is_send (simple_line (receive s t b)) = false
is_send (simple_line (probe s t)) = false
is_send (simple_line (try_probe s t p)) = false
is_send (simple_line (print e)) = false
is_send (simple_line (collect c)) = false
is_send (if_line e target) = false
is_send (else_line target) = false
is_send end_line = false
is_send (while_line e target) = false
is_send (back_line target) = false

-- so is the one that stands there, if one does
abbrev pub sends_at : Option Line → Bool
sends_at None = false
sends_at (Some line) = is_send line

-- the program has a send
abbrev pub has_send : ProgramValue → Bool
has_send program = list_any is_send program.statements

-- the job asks for what was found, not for events
abbrev pub is_told : ExploreForm → Bool
is_told form.Text = true
is_told form.Summary = true
is_told form.Json = true
is_told (form.Events number) = false

-- a second search is made if the first is complete, its program has a send, and what was found is told
abbrev pub needs_second : ExploreJob → ProgramValue → ExploredValue → Bool
needs_second job program found = found.complete && is_told job.form && has_send program

-- why it isn't known
abbrev pub unknown_text : Unknown → List ℕ
unknown_text unknown.Stopped = codes "# not known whether it is safe: the search without buffers came to a limit\n"
unknown_text unknown.Unhalted = codes "# not known whether it is safe: a rank doesn't halt, though each message sent is received\n"

-- what stands before the ranks that wait
unfoldable pub unsafe_words : List ℕ
unsafe_words = codes "# not safe: without buffers "

-- how they wait
abbrev pub wait_words : WaitingRanks → List ℕ
wait_words waits = if waits.each_other then codes " wait for each other, at " else
    (if length waits.ranks.items == 1 then codes " waits in its send, at " else codes " wait in their sends, at ")

-- the numbers of the ranks that wait
abbrev pub waiting_ranks : List WaitingRank → List ℕ
waiting_ranks waits = map (λ (w : WaitingRank). w.rank) waits

-- the lines at which they do, as far as they are known
abbrev pub waiting_lines : List WaitingRank → List ℕ
waiting_lines waits = filter_map (λ (w : WaitingRank). w.line) waits

-- the line on these
abbrev pub waits_line : WaitingRanks → List ℕ
waits_line waits =
    unsafe_words ++ named_ranks (waiting_ranks waits.ranks.items) ++ wait_words waits ++ named_lines (waiting_lines waits.ranks.items) ++ codes "\n"

-- the same, if no run was shown in which ranks wait
abbrev pub waits_text : WaitingRanks → List ℕ
waits_text waits = if length waits.ranks.items == 0 then codes "# not safe: without buffers a rank waits in its send\n" else waits_line waits

-- the line on whether it is safe
abbrev pub safety_text : Safety → List ℕ
safety_text safety.Untold = []
safety_text safety.Safe = codes "# safe: no send needs a buffer\n"
safety_text (safety.NotSafe waits) = waits_text waits
safety_text (safety.Unknown why) = unknown_text why

-- there is none if the search itself was one of synchronous runs
abbrev pub safety_behind : Bool → Safety → List ℕ
safety_behind synchronous told = if synchronous then [] else safety_text told
