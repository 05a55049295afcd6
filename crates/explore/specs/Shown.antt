-- Runs that no execution gives: a probe misses a message that its rank was shown. Messages of one
-- source don't overtake one another, so a rank that took or hit a message has all before it too, and
-- they stay until they are taken: a probe that matches one of them finds it (MPI 1.1, sections 3.5
-- and 3.8). A run of `IsRun` may miss there, as of a miss it asks nothing.
use Rattle.std.specs.Prelude.{◌≡◌, ◌⊎◌, ℕ, suc, ◌==◌, ◌&&◌, nat_lt, Bool, true, false, List, [], ◌∷◌, Option, IfSome, None, Some, length, slice_get}
use Rattle.std.specs.List.{list_any}
use Rattle.matching.specs.declared.selector.Selector.{Selector}
use Rattle.rank_language.specs.Placed.{Simple, declare, declare_array, assign, assign_item, send, receive, probe, try_probe, print, collect}
use Rattle.rank_language.specs.Block.{Line, simple_line, if_line, else_line, end_line, while_line, back_line}
use Rattle.rank_language.specs.Program.{ProgramValue}
use Rattle.rank_machine.specs.declared.want.Want.TheVariants as want
use Rattle.rank_machine.specs.States.{State}
use Rattle.rank_machine.specs.Wants.{wants}
use Rattle.rank_machine.specs.Acts.{Act, sends, takes, hits, misses, prints}
use Rattle.crash_free.specs.Runs.{Passed, history, IsEligible, MayMake}
use Rattle.crash_free.specs.Sim.{inbound_of, start_of}
use Rattle.audit.specs.FinalRuns.Maximal.{RankOutcome}
use Rattle.explore.specs.Sending.{IsOutcomeUnder}
use Rattle.explore.specs.declared.moves.Noted.{Noted}
use Rattle.explore.specs.Chosen.{MakesChoices}
use Rattle.explore.specs.declared.send_mode.SendMode.{SendMode}

-- the act takes or hits the message of this source with this index, from 0, or a later one of it
abbrev pub shows_it : ℕ → ℕ → Act → Bool
shows_it source index (takes from place) = from == source && nat_lt index place
shows_it source index (hits from place) = from == source && nat_lt index place
shows_it source index (sends dest context tag items) = false
shows_it source index misses = false
shows_it source index (prints value) = false

-- so does the act, which is one of rank r
abbrev pub shows_to : ℕ → ℕ → ℕ → Passed → Bool
shows_to r source index p = p.rank == r && shows_it source index p.act

-- in these acts rank r was shown that message of the source
abbrev pub was_shown : List Passed → ℕ → ℕ → ℕ → Bool
was_shown acts r source index = list_any (shows_to r source index) acts

-- a message that this rank was shown in the run is eligible for the selector
pub record IsPast (P : List Passed) (r : ℕ) (selector : Selector) : Type 0 where
  pub source : ℕ
  pub index : ℕ
  pub eligible : IsEligible (inbound_of P r) (history P r) source (suc index) selector
  pub shown : was_shown P r source index ≡ true

-- rank r may miss after this run, though its probe matches a message that it was shown
pub record MayMissShown (start : ℕ → State) (P : List Passed) (r : ℕ) : Type 0 where
  pub may : MayMake (start r) (inbound_of P r) (history P r) misses
  pub selector : Selector
  pub probes : wants may.stands ≡ want.TryProbe selector
  pub past : IsPast P r selector

-- some act of the run is such a miss
abbrev pub MissesShown : (ℕ → State) → List Passed → Type 0
MissesShown start [] = ⊥
MissesShown start (p ∷ P) = ((p.act ≡ misses) × MayMissShown start P p.rank) ⊎ MissesShown start P

-- the statement is a probe that doesn't wait
abbrev pub is_try_probe : Simple → Bool
is_try_probe (try_probe c t x) = true
is_try_probe (declare p) = false
is_try_probe (declare_array p) = false
is_try_probe (assign p e) = false
is_try_probe (assign_item p i e) = false
is_try_probe (send d t p) = false
is_try_probe (receive c t b) = false
is_try_probe (probe c t) = false
is_try_probe (print e) = false
is_try_probe (collect c) = false

-- so is the line
abbrev pub is_try_line : Line → Bool
is_try_line (simple_line s) = is_try_probe s
is_try_line (if_line e q) = false
is_try_line (else_line q) = false
is_try_line end_line = false
is_try_line (while_line e q) = false
is_try_line (back_line q) = false

-- the same of a line, if there is one
abbrev pub is_try_in : Option Line → Bool
is_try_in None = false
is_try_in (Some l) = is_try_line l

-- one of these lines is such a probe
abbrev pub HasTryProbe : List Line → Type 0
HasTryProbe lines = (p : ℕ) × (is_try_in (slice_get lines p) ≡ true)

-- no run of the program on n ranks has such a miss
abbrev pub NeverMissesShown : ProgramValue → ℕ → Type 0
NeverMissesShown program n = (P : List Passed) → MissesShown (start_of program n) P → ⊥

-- some maximal run has the outcome, and in it the choices were made that are noted with it: the mark
-- says whether in this run a rank misses a message that it was shown
pub record IsMarkOfRun (mode : SendMode) (program : ProgramValue) (n : ℕ) (o : List RankOutcome) (choices : List Noted) (mark : Bool) : Type 0 where
  pub run : List Passed
  pub outcome : IsOutcomeUnder mode (start_of program n) n run o
  pub chosen : MakesChoices mode program n run choices
  pub yes : mark ≡ true → MissesShown (start_of program n) run
  pub no : mark ≡ false → MissesShown (start_of program n) run → ⊥

-- the mark of an outcome is that of such a run, or says no where no run of the program misses so
abbrev pub IsMark : SendMode → ProgramValue → ℕ → List RankOutcome → List Noted → Bool → Type 0
IsMark mode program n o choices mark = IsMarkOfRun mode program n o choices mark ⊎ ((mark ≡ false) × NeverMissesShown program n)

-- each outcome has its mark, or none if its run wasn't found again
pub record AreMarked (mode : SendMode) (program : ProgramValue) (n : ℕ) (outcomes : List (List RankOutcome)) (choices : List (List Noted)) (marks : List (Option Bool))
    : Type 0 where
  pub as_many : length marks ≡ length outcomes
  pub each : (i : ℕ) (o : List RankOutcome) (cs : List Noted) (mark : Option Bool) → slice_get outcomes i ≡ Some o → slice_get choices i ≡ Some cs
      → slice_get marks i ≡ Some mark → IfSome mark (IsMark mode program n o cs)
