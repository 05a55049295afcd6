-- What a simulation keeps beside its machines and its run: for each ordered pair of ranks a list of
-- slots, one for each message that the one sent to the other, of which those taken are empty.
use Rattle.std.specs.Prelude.{◌≡◌, ℕ, ◌+◌, ◌*◌, ◌<◌, ◌≤◌, Bool, true, false, List, [], ◌∷◌, Option, Some, None, length, slice_index_or, slice_get}
use Rattle.limits.specs.Limits.{most_ranks}
use Rattle.matching.specs.PacketValue as packet
use Rattle.matching.specs.Matching.{matches}
use Rattle.matching.specs.declared.selector.Selector.{Selector}
use Rattle.rank_language.specs.Program.{ProgramValue}
use Rattle.rank_machine.specs.Acts.{Message}
use Rattle.rank_machine.specs.Machine.{MachineValue}
use Rattle.crash_free.specs.Runs.{Passed, History, history, sent, taken}
use Rattle.crash_free.specs.Sim.{Simulates}

-- a message that isn't taken, as a packet, or nothing
abbrev pub Slot : Type 0
Slot = Option packet.PacketValue

-- the packet of a message; nothing looks at its clock and number
abbrev pub packet_of : ℕ → Message → packet.PacketValue
packet_of s m = record { source = s; clock = 1; number = 1; context = m.context; tag = m.tag; items = m.items }

-- the slot of a message, which is empty once it is taken
abbrev pub slot_of : ℕ → Bool → Message → Slot
slot_of s true m = None
slot_of s false m = Some (packet_of s m)

-- the slots of the messages of s after the first k
abbrev pub slots_from : ℕ → ℕ → History → List Message → List Slot
slots_from k s h [] = []
slots_from k s h (m ∷ ms) = slot_of s (taken h s (k + 1)) m ∷ slots_from (k + 1) s h ms

-- the slots of a pair of ranks in a run
abbrev pub slots_of : List Passed → ℕ → ℕ → List Slot
slots_of C s r = slots_from 0 s (history C r) (sent C s r)

-- where the slots of a pair of ranks stand
abbrev pub place_of : ℕ → ℕ → ℕ
place_of s r = most_ranks * r + s

-- the slots of a pair of ranks
abbrev pub channel : List (List Slot) → ℕ → ℕ → List Slot
channel channels s r = slice_index_or channels (place_of s r) []

-- the slot holds a packet that the selector names
abbrev pub passes : Selector → Slot → Bool
passes w None = false
passes w (Some m) = matches w m

-- the slots of each pair of ranks are those of the run
pub record IsMail (n : ℕ) (channels : List (List Slot)) (C : List Passed) : Type 0 where
  pub size : length channels ≡ most_ranks * n
  pub each : (r s : ℕ) → r < n → s < n → channel channels s r ≡ slots_of C s r

-- a machine is this rank's
pub record IsRanks (program : ProgramValue) (n r : ℕ) (m : MachineValue) : Type 0 where
  pub program_same : m.program ≡ program
  pub rank : m.store.rank ≡ r
  pub size : m.store.size ≡ n

-- what a simulation keeps
pub record IsKept (program : ProgramValue) (machines : List MachineValue) (channels : List (List Slot)) (C : List Passed) : Type 0 where
  pub simulates : Simulates (record { program = program; machines = machines; run = C })
  pub ranks : (r : ℕ) (m : MachineValue) → slice_get machines r ≡ Some m → IsRanks program (length machines) r m
  pub some : 1 ≤ length machines
  pub few : length machines ≤ most_ranks
  pub mail : IsMail (length machines) channels C
