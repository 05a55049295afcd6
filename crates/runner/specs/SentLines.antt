-- At which lines the messages were sent that were never received in a run: a message is known by its
-- sender, its receiver and its place among those of the one to the other, and the place of each act of
-- the run is known (MPI 1.1, section 3.5).
use Rattle.std.specs.Prelude.{◌≡◌, ◌==◌, ◌&&◌, ◌+◌, ◌-◌, ℕ, Bool, if◌then◌else◌, List, [], ◌∷◌, ◌++◌, Option, Some, None, length, reverse, slice_get, slice_set}
use Rattle.std.specs.List.{list_any}
use Rattle.audit.specs.FinalRuns.Maximal.{RankOutcome}
use Rattle.crash_free.specs.Leftovers.{join_below, left_in}
use Rattle.crash_free.specs.Runs.{Passed}
use Rattle.crash_free.specs.Sim.{start_of}
use Rattle.crash_free.specs.declared.leftover.Leftover.{Leftover}
use Rattle.explore.specs.Endings.{IsEndingOf}
use Rattle.rank_language.specs.Program.{ProgramValue}
use Rattle.rank_machine.specs.Acts.{Act, sends, takes, hits, misses, prints}
use Rattle.run_shown.specs.Trace.Places.{AreFound}
use Rattle.run_shown.specs.declared.trace.place.Place.{Place}
use Rattle.runner.specs.declared.explored.lined.LinedLeftover.{LinedLeftover}
use Rattle.explore.specs.declared.send_mode.SendMode.{SendMode}

-- the sends of one rank to another, each with the position of its statement, and None for each whose
-- message was taken
abbrev pub Sent : Type 0
Sent = List (Option ℕ)

-- the message at this place, from 1, is taken
abbrev pub without : ℕ → Sent → Sent
without place sent = slice_set sent (place - 1) None

-- those of s to r after this rank made this act at the statement of this position, if it is known
abbrev pub after_act : ℕ → ℕ → Sent → ℕ → Act → Option ℕ → Sent
after_act s r sent rank (sends dest context tag items) position =
    if rank == s && dest == r then sent ++ position ∷ [] else sent
after_act s r sent rank (takes source place) position = if rank == r && source == s then without place sent else sent
after_act s r sent rank (hits source place) position = sent
after_act s r sent rank misses position = sent
after_act s r sent rank (prints value) position = sent

-- the position of the act of this number, from 0, if its place is there
abbrev pub position_of : Option Place → Option ℕ
position_of (Some place) = Some place.position
position_of None = None

-- so of these places
abbrev pub position_at : List Place → ℕ → Option ℕ
position_at places number = position_of (slice_get places number)

-- those of s to r after these acts, the oldest first, of which the first has this number and each was
-- made at its place
abbrev pub after_acts : ℕ → ℕ → List Place → Sent → ℕ → List Passed → Sent
after_acts s r places sent number [] = sent
after_acts s r places sent number (p ∷ acts) =
    after_acts s r places (after_act s r sent p.rank p.act (position_at places number)) (number + 1) acts

-- the positions that there are
abbrev pub positions_in : Sent → List ℕ
positions_in [] = []
positions_in (None ∷ sent) = positions_in sent
positions_in (Some position ∷ sent) = position ∷ positions_in sent

-- the positions of the sends of s to r whose messages r never took
abbrev pub lost_of : List Passed → List Place → ℕ → ℕ → List ℕ
lost_of acts places r s = positions_in (after_acts s r places [] 0 acts)

-- one of the messages is of s, and went to r
abbrev pub are_between : List Leftover → ℕ → ℕ → Bool
are_between left r s = list_any (λ (x : Leftover). x.rank == r && x.source == s) left

-- the positions of the sends of these messages of s to r
abbrev pub sent_between : List Passed → List Place → List Leftover → ℕ → ℕ → List ℕ
sent_between acts places left r s = if are_between left r s then lost_of acts places r s else []

-- of these messages to r, source by source
abbrev pub sent_to : ℕ → List Passed → List Place → List Leftover → ℕ → List ℕ
sent_to n acts places left r = join_below (sent_between acts places left r) n

-- of these messages, rank by rank, as `left_in` has them
abbrev pub sent_at : ℕ → List Passed → List Place → List Leftover → List ℕ
sent_at n acts places left = join_below (sent_to n acts places left) n

-- the line on which the statement at this position stands, of these lines
abbrev pub line_of : List ℕ → Option ℕ → Option ℕ
line_of lines None = None
line_of lines (Some position) = slice_get lines position

-- the messages from this number on, each with the line of the statement at its position, if there is
-- one
abbrev pub with_lines_from : List ℕ → List ℕ → ℕ → List Leftover → List LinedLeftover
with_lines_from lines positions number [] = []
with_lines_from lines positions number (x ∷ left) =
    record { message = x; line = line_of lines (slice_get positions number) } ∷ with_lines_from lines positions (number + 1) left

-- each message with its line
abbrev pub with_lines : List ℕ → List ℕ → List Leftover → List LinedLeftover
with_lines lines positions left = with_lines_from lines positions 0 left

-- the messages without lines
abbrev pub unlined : List Leftover → List LinedLeftover
unlined left = with_lines [] [] left

-- These are the messages that were never received in this run of the program on n ranks, each with the
-- line at which it was sent: the acts of the run have their places, of which these are the lines.
pub data AreSentAt (program : ProgramValue) (n : ℕ) (lines : List ℕ) (run : List Passed) (lined : List LinedLeftover) : Type 0 where
  none : left_in n run ≡ [] → lined ≡ [] → AreSentAt program n lines run lined
  some : (places : List Place) → AreFound program n (reverse run) places
      → lined ≡ with_lines lines (sent_at n (reverse run) places (left_in n run)) (left_in n run) → AreSentAt program n lines run lined

-- These messages have no lines, or in some run that has the outcome they were never received, and were
-- sent at these lines.
pub data HaveLines (mode : SendMode) (program : ProgramValue) (n : ℕ) (lines : List ℕ) (outcome : List RankOutcome) (left : List Leftover) (lined : List LinedLeftover)
    : Type 0 where
  unknown : lined ≡ unlined left → HaveLines mode program n lines outcome left lined
  known : (run : List Passed) → IsEndingOf mode (start_of program n) n run (record { ranks = outcome; left = left })
      → AreSentAt program n lines run lined → HaveLines mode program n lines outcome left lined

-- so it is of each of the first so many of these lists, which are those of an outcome
pub data AreListedUpTo (mode : SendMode) (program : ProgramValue) (n : ℕ) (lines : List ℕ) (outcome : List RankOutcome) (listed : List (List Leftover))
    : ℕ → List (List LinedLeftover) → Type 0 where
  none : AreListedUpTo mode program n lines outcome listed 0 []
  more : {count : ℕ} {lined : List (List LinedLeftover)} (left : List Leftover) (told : List LinedLeftover)
      → AreListedUpTo mode program n lines outcome listed count lined → slice_get listed count ≡ Some left
      → HaveLines mode program n lines outcome left told → AreListedUpTo mode program n lines outcome listed (count + 1) (lined ++ told ∷ [])

-- and of all
abbrev pub AreListed : SendMode → ProgramValue → ℕ → List ℕ → List RankOutcome → List (List Leftover) → List (List LinedLeftover) → Type 0
AreListed mode program n lines outcome listed lined = AreListedUpTo mode program n lines outcome listed (length listed) lined

-- so it is of what is listed of each of the first so many of these outcomes
pub data AreLinedUpTo (mode : SendMode) (program : ProgramValue) (n : ℕ) (lines : List ℕ) (outcomes : List (List RankOutcome)) (left : List (List (List Leftover)))
    : ℕ → List (List (List LinedLeftover)) → Type 0 where
  none : AreLinedUpTo mode program n lines outcomes left 0 []
  more : {count : ℕ} {lined : List (List (List LinedLeftover))} (outcome : List RankOutcome) (listed : List (List Leftover))
      (told : List (List LinedLeftover)) → AreLinedUpTo mode program n lines outcomes left count lined → slice_get outcomes count ≡ Some outcome
      → slice_get left count ≡ Some listed → AreListed mode program n lines outcome listed told
      → AreLinedUpTo mode program n lines outcomes left (count + 1) (lined ++ told ∷ [])

-- and of all
abbrev pub AreLined : SendMode → ProgramValue → ℕ → List ℕ → List (List RankOutcome) → List (List (List Leftover)) → List (List (List LinedLeftover)) → Type 0
AreLined mode program n lines outcomes left lined = AreLinedUpTo mode program n lines outcomes left (length outcomes) lined
