-- What is asked of a rank at its logger, whether it runs, replays or is down.
use Rattle.std.specs.Prelude.{◌≡◌, ℕ, Bool, true, false, List, [], Option, Some, None}
use Rattle.checkpoint.specs.Shelf.{image_bytes}
use Rattle.checkpoint.specs.Spelling.{spelling}
use Rattle.checkpoint.specs.declared.memory_shelf.MemoryShelf.{MemoryShelf}
use Rattle.event_logger.specs.Desks.{DeskValue, IsRead, IsSameDesk}
use Rattle.event_logger.specs.Sequential.Event.{EventValue}
use Rattle.matching.specs.PacketValue.{PacketValue}
use Rattle.rank_language.specs.Program.{ProgramValue}
use Rattle.rank_machine.specs.declared.want.Want.{Want}
use Rattle.rank_machine.specs.declared.want.Wanted.{Wanted}
use Rattle.rank_machine.specs.Machine.{MachineValue, machine_want, IsWantedBy}
use Rattle.rank_node.specs.Desked.{at_desk}
use Rattle.rank_node.specs.Image.{BeginsAgain, image_of}
use Rattle.rank_node.specs.Node.{Node, opening}
use Rattle.rank_node.specs.Replay.{Replay}
use Rattle.rank_node.specs.Stored.{Stored}
use Rattle.rank_node.specs.Waiting.{Gate, misses_only}
use Rattle.rank_node.specs.Phases.{clock_in, stable_in, settled_in}
use Rattle.rank_node.specs.declared.phase.Phase as ranks
use Rattle.rank_node.specs.declared.phase.Phase.TheVariants as phase
use Rattle.rank_threads.specs.declared.life.row.Row.{Row}

-- a rank with a desk at its logger and a shelf in memory
abbrev pub Phase : Type 0
Phase = ranks.Phase MemoryShelf DeskValue

-- the rank's machine; none if the rank is down
abbrev pub machine_in : Phase → Option MachineValue
machine_in (phase.Running v) = Some v.machine
machine_in (phase.Replaying r) = Some r.node.machine
machine_in (phase.Down s) = None

-- what the rank's machine wants; nothing if the rank is down
abbrev pub want_in : Phase → Option Want
want_in (phase.Running v) = Some (machine_want v.machine)
want_in (phase.Replaying r) = Some (machine_want r.node.machine)
want_in (phase.Down s) = None

-- this was found of the rank's machine; nothing is found if the rank is down
abbrev pub IsWantedIn : Phase → Wanted → Type 0
IsWantedIn (phase.Running v) found = IsWantedBy v.machine found
IsWantedIn (phase.Replaying r) found = IsWantedBy r.node.machine found
IsWantedIn (phase.Down s) found = ⊥

-- the packets that the rank was given and hasn't received; none if it is down
abbrev pub packets_in : Phase → List PacketValue
packets_in (phase.Running v) = v.inbox.packets
packets_in (phase.Replaying r) = r.node.inbox.packets
packets_in (phase.Down s) = []

-- the gate of a rank that runs: what waits there, with how many of its first events are stored
abbrev pub gate_of : Node MemoryShelf DeskValue → Gate
gate_of v = record { waiting = v.pending; stored = v.stored }

-- the gate of the rank; nothing waits there if it replays or is down
abbrev pub gate_in : Phase → Gate
gate_in (phase.Running v) = gate_of v
gate_in (phase.Replaying r) = record { waiting = []; stored = 0 }
gate_in (phase.Down s) = record { waiting = []; stored = 0 }

-- nothing waits at the gate
abbrev pub NoneWaits : Phase → Type 0
NoneWaits p = (gate_in p).waiting ≡ []

-- just one miss or run of misses waits at the gate, and isn't stored
abbrev pub misses_only_in : Phase → Bool
misses_only_in p = misses_only (gate_in p).stored (gate_in p).waiting

-- the same desk, whatever it has been asked, and the same rank of as many
pub record SameStable (a b : Stored MemoryShelf DeskValue) : Type 0 where
  pub desk : IsSameDesk a.desk b.desk
  pub rank : b.rank ≡ a.rank
  pub size : b.size ≡ a.size

-- a rank at the same desk, of as many
abbrev pub SamePhase : Phase → Phase → Type 0
SamePhase a b = SameStable (stable_in a) (stable_in b)

-- the shelf of the rank is as it was
abbrev pub SameShelf : Phase → Phase → Type 0
SameShelf a b = (stable_in b).shelf ≡ (stable_in a).shelf

-- the last image on a shelf in memory
abbrev pub last_image : MemoryShelf → Option (List ℕ)
last_image shelf = image_bytes shelf.image

-- the rank runs
abbrev pub is_running : Phase → Bool
is_running (phase.Running v) = true
is_running (phase.Replaying r) = false
is_running (phase.Down s) = false

-- the rank replays
abbrev pub is_replaying : Phase → Bool
is_replaying (phase.Running v) = false
is_replaying (phase.Replaying r) = true
is_replaying (phase.Down s) = false

-- the shelf holds the image of the rank as it stands, which it can only if the rank runs
abbrev pub HasImage : Phase → Type 0
HasImage (phase.Running v) = last_image v.stable.shelf ≡ Some (spelling (image_of v))
HasImage (phase.Replaying r) = ⊥
HasImage (phase.Down s) = ⊥

-- The shelf holds the image of a rank that runs, at this clock, though frames may have come and
-- gone since. That it is this rank, as it stood when it was taken, isn't said.
abbrev pub TookImage : ℕ → Phase → Type 0
TookImage clock p = (stood : Phase) × HasImage stood × (clock_in stood ≡ clock) × SameShelf stood p

-- These events were read of that rank's row, above that clock, and the rank is at its desk as it
-- was; a rank that is down reads none.
abbrev pub ReadsRow : Phase → ℕ → ℕ → List EventValue → Phase → Type 0
ReadsRow (phase.Running v) of after events q =
    IsRead v.stable.desk of after events (stable_in q).desk × (q ≡ phase.Running (at_desk v (stable_in q).desk))
ReadsRow (phase.Replaying r) of after events q =
    IsRead r.node.stable.desk of after events (stable_in q).desk × (q ≡ phase.Replaying (record r { node = at_desk r.node (stable_in q).desk }))
ReadsRow (phase.Down s) of after events q = (events ≡ []) × (q ≡ phase.Down s)

-- The rank begins to live: at the beginning of its program, if it has fetched no row, else at its
-- image with what of its row is above that, which it replays.
abbrev pub Begins : ProgramValue → Stored MemoryShelf DeskValue → Option Row → Phase → Type 0
Begins program stable None p = p ≡ phase.Running (opening program stable)
Begins program stable (Some row) p =
    (r : Replay MemoryShelf DeskValue) × BeginsAgain last_image program row.events.items stable r × (p ≡ settled_in (phase.Replaying r))
