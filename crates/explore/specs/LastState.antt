-- What is known of the last state that was written: where its parts stand among those that are kept,
-- and which ranks may stand otherwise by now. An act changes what one rank has of its own, and what
-- one or two have left to receive, so most parts of the next state are the same.
use Rattle.std.specs.Prelude.{◌≡◌, ◌≢◌, ℕ, zero, suc, ◌+◌, ◌*◌, ◌<◌, ◌≤◌, ◌==◌, Bool, false, List, Some, length, slice_get}
use Rattle.rank_language.specs.Program.{ProgramValue}
use Rattle.rank_machine.specs.Acts.{Act, sends, takes, hits, misses, prints}
use Rattle.rank_machine.specs.Machine.{MachineValue, state_of}
use Rattle.crash_free.specs.Alike.{ComesTo, unreceived, lines_in}
use Rattle.crash_free.specs.LiveVariables.Live.{Table}
use Rattle.crash_free.specs.Runs.{Passed, history}
use Rattle.crash_free.specs.Sim.{start_of}
use Rattle.crash_free.specs.Slots.{IsRanks}
use Rattle.crash_free.specs.Standing.{Rows, no_rows, behind, and_all, and_below, and_machine, and_packet, and_values}
use Rattle.explore.specs.Stems.{first_acts}
use Rattle.explore.specs.declared.last_state.LastState.{LastState}

-- rank r of n has these rows of its own where the run ends, by a table of what is unread
pub record HasOwn (t : Table) (program : ProgramValue) (n : ℕ) (C : List Passed) (r : ℕ) (rows : Rows) : Type 0 where
  pub machine : MachineValue
  pub is_ranks : IsRanks program n r machine
  pub comes : ComesTo (start_of program n r) (history C r) (state_of machine)
  pub written : and_values (and_machine t no_rows machine) (lines_in C r) ≡ rows

-- what rank r has left to receive there, of each of n ranks
abbrev pub mail_in : List Passed → ℕ → ℕ → Rows
mail_in C n r = and_below (λ c q. and_all and_packet c (unreceived C q r)) no_rows n

-- the parts at these places are what rank r has of its own, and what it has left to receive
pub record HasParts (t : Table) (program : ProgramValue) (n : ℕ) (C : List Passed) (parts : List Rows) (r own mail : ℕ) : Type 0 where
  pub own_rows : Rows
  pub own_there : slice_get parts own ≡ Some own_rows
  pub has_own : HasOwn t program n C r own_rows
  pub mail_there : slice_get parts mail ≡ Some (mail_in C n r)

-- so it is of rank r by the last state
abbrev pub IsCurrent : Table → ProgramValue → ℕ → List Passed → List Rows → LastState → ℕ → Type 0
IsCurrent t program n C parts last r =
    (own : ℕ) × (slice_get last.places (2 * r) ≡ Some own) × (mail : ℕ) × (slice_get last.places (2 * r + 1) ≡ Some mail)
    × HasParts t program n C parts r own mail

-- Of each rank that isn't marked as changed the last state has the parts, as they are after so many first acts of the run.
pub record Knows (t : Table) (program : ProgramValue) (n : ℕ) (C : List Passed) (parts : List Rows) (last : LastState) : Type 0 where
  pub within : last.shared ≤ length C
  pub current : (r : ℕ) → r < n → slice_get last.changed r ≡ Some false → IsCurrent t program n (first_acts last.shared C) parts last r

-- whether an act sends something to this rank
abbrev pub sends_to : Act → ℕ → Bool
sends_to (sends dest context tag items) r = dest == r
sends_to (takes source place) r = false
sends_to (hits source place) r = false
sends_to misses r = false
sends_to (prints value) r = false

-- the rows of the first ranks, so many, one behind another, after these
abbrev pub AreLaid : Table → ProgramValue → ℕ → List Passed → Rows → ℕ → Rows → Type 0
AreLaid t program n C first zero rows = rows ≡ first
AreLaid t program n C first (suc r) rows =
    (before : Rows) × AreLaid t program n C first r before × (own : Rows) × HasOwn t program n C r own
    × (rows ≡ behind (behind before own) (mail_in C n r))

-- whichever rank isn't marked wasn't before, and the act changes nothing of it
pub record Marks (old : LastState) (p : Passed) (new : LastState) : Type 0 where
  pub places : new.places ≡ old.places
  pub shared : new.shared ≡ old.shared
  pub rest : (r : ℕ) → slice_get new.changed r ≡ Some false → (slice_get old.changed r ≡ Some false) × (p.rank ≢ r) × (sends_to p.act r ≡ false)

-- both know the same, but of this rank
pub record KnowsTheSameBut (rank : ℕ) (old new : LastState) : Type 0 where
  pub places : (i : ℕ) → i ≢ 2 * rank → i ≢ 2 * rank + 1 → slice_get new.places i ≡ slice_get old.places i
  pub changed : new.changed ≡ old.changed
  pub shared : new.shared ≡ old.shared
