-- The act that a step of a rank makes, with its determinant (piecewise deterministic processes and
-- their determinants: Alvisi and Marzullo 1998).
use Rattle.std.specs.Prelude.{◌≡◌, ℕ, ◌-◌, nat_lt, nat_le, ◌&&◌, Bool, List, [], ◌∷◌, length, Option, Some, None, IsSomeAnd, slice_get}
use Rattle.std.specs.Prelude.{if◌then◌else◌}
use Rattle.checkpoint.specs.declared.memory_shelf.MemoryShelf.{MemoryShelf}
use Rattle.event_logger.specs.Sequential.Event.{EventValue, first_clock}
use Rattle.rank_machine.specs.Machine.{machine_want}
use Rattle.rank_node.specs.declared.phase.Phase.{Phase}
use Rattle.rank_node.specs.declared.phase.Phase.TheVariants as phase
use Rattle.rank_node.specs.declared.waiting.Waiting.{Waiting}
use Rattle.rank_node.specs.declared.waiting.Waiting.TheVariants as waits
use Rattle.crash_free.specs.Runs.{history}
use Rattle.bare_world.specs.World.{Live, WorldValue}
use Rattle.run_shown.specs.declared.world.acts.Outlook.{Outlook}

-- A live rank does what its machine wants. Its next act has passed before if more of its acts have
-- passed than it has made.
abbrev pub outlook_at : Option Live → ℕ → Option Outlook
outlook_at None passed = None
outlook_at (Some v) passed = Some (record { want = machine_want v.rank.machine; again = nat_lt v.rank.clock passed })

-- this is what a rank does with its next step
abbrev pub IsOutlookOf : WorldValue → ℕ → Option Outlook → Type 0
IsOutlookOf w r outlook = IsSomeAnd (slice_get w.ranks r) (λ x. outlook ≡ outlook_at x (length (history w.run r)))

-- the determinant stands for the act of this clock: it is of that act alone, or it is a run of
-- misses and the act is one of them
abbrev pub stands_for : ℕ → EventValue → Bool
stands_for clock e = nat_le (first_clock e) clock && nat_le clock e.receiver_clock

-- the first determinant of a row that does
abbrev pub in_row : List EventValue → ℕ → Option EventValue
in_row [] clock = None
in_row (e ∷ row) clock = if stands_for clock e then Some e else in_row row clock

-- the determinant of the act of this clock: what waits last at the gate, if it stands for that act,
-- or else the first of the row that does
abbrev pub determinant_of : Option Waiting → List EventValue → ℕ → Option EventValue
determinant_of (Some (waits.Event e)) row clock = if stands_for clock e then Some e else in_row row clock
determinant_of (Some (waits.Send dest at)) row clock = in_row row clock
determinant_of (Some (waits.Line at value)) row clock = in_row row clock
determinant_of None row clock = in_row row clock

-- what waits last
abbrev pub newest : List Waiting → Option Waiting
newest waiting = slice_get waiting (length waiting - 1)

-- the determinant of the act that a rank with this row made last: one that runs may have it at its
-- gate, and at one that replays nothing waits
abbrev pub last_determinant : Phase MemoryShelf (Unit {0}) → List EventValue → Option EventValue
last_determinant (phase.Running v) row = determinant_of (newest v.pending) row v.clock
last_determinant (phase.Replaying r) row = in_row row r.node.clock
last_determinant (phase.Down s) row = None
