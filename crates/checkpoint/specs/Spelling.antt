-- The bytes of an image (docs/FORMATS.md, "Images"): all numbers big-endian, one field after the
-- other.
use Rattle.std.specs.Prelude.{ℕ, ◌<◌, ◌^◌, List, [], ◌++◌, length, ℤ, Option, Some, None}
use Rattle.std.specs.List.{flat_map}
use Rattle.std.specs.Int.{w64, cast_unsigned}
use Rattle.byteorder.specs.Endian.{big_bytes}
use Rattle.matching.specs.declared.packet.Context.{Context}
use Rattle.matching.specs.declared.packet.Context.TheVariants.{PointToPoint, Collective}
use Rattle.matching.specs.PacketValue.{PacketValue}
use Rattle.payload_log.specs.Backlog.{BacklogValue}
use Rattle.rank_language.specs.Program.{ProgramValue}
use Rattle.rank_machine.specs.declared.fault.MachineFault.{MachineFault}
use Rattle.rank_machine.specs.Faults.{fault_number}
use Rattle.rank_machine.specs.Machine.{MachineValue}
use Rattle.matching.specs.Inbox.{Mailbox}
use Rattle.rank_machine.specs.declared.status.Status.{Status}
use Rattle.checkpoint.specs.declared.format.Format.{Format}
use Rattle.checkpoint.specs.declared.format.Format.TheVariants.{One, Two}
use Rattle.checkpoint.specs.Image.{ImageValue, MachineStanding, standing_of, status_of}

-- a number that so many bytes can spell
abbrev pub FitsBytes : ℕ → ℕ → Type 0
FitsBytes n x = x < 256 ^ n

-- the number of a format, with which every image begins
abbrev pub number_of : Format → ℕ
number_of One = 1
number_of Two = 2

-- the version of the event words that a rank logs and replays (docs/FORMATS.md, "Event words")
abbrev pub event_version : ℕ
event_version = 2

-- what an image says of the version of event words: in format 1 nothing
abbrev pub events : Format → List ℕ
events One = []
events Two = big_bytes 1 event_version

-- a value takes 8 bytes, in two's complement
unfoldable pub value : ℤ → List ℕ
value z = big_bytes 8 (cast_unsigned w64 z)

-- values, one after another
abbrev pub values : List ℤ → List ℕ
values zs = flat_map value zs

-- the number of a context
abbrev pub context_number : Context → ℕ
context_number PointToPoint = 0
context_number Collective = 1

-- what stands of a packet after its envelope's numbers
unfoldable pub tail : PacketValue → List ℕ
tail m = big_bytes 1 (context_number m.context) ++ (big_bytes 2 m.tag ++ (big_bytes 2 (length m.items) ++ values m.items))

-- a packet of the inbox
unfoldable pub packet : PacketValue → List ℕ
packet m = big_bytes 1 m.source ++ (big_bytes 4 m.clock ++ (big_bytes 4 m.number ++ tail m))

-- a packet that is kept; its source and number follow from where it stands
unfoldable pub kept : PacketValue → List ℕ
kept m = big_bytes 4 m.clock ++ tail m

-- what is kept for a destination; the cursor isn't in it
unfoldable pub lane : BacklogValue → List ℕ
lane b = big_bytes 4 b.sent ++ (big_bytes 4 b.base ++ flat_map kept b.kept)

-- the format, with what it says of event words
unfoldable pub heading : Format → List ℕ
heading format = big_bytes 1 (number_of format) ++ events format

-- the format, the rank and the number of ranks
unfoldable pub origin : Format → ℕ → ℕ → List ℕ
origin format rank size = heading format ++ (big_bytes 1 rank ++ big_bytes 1 size)

-- the length of each array
abbrev pub lengths : List (List ℕ × ℕ) → List ℕ
lengths arrays = flat_map (λ a. big_bytes 2 a.1) arrays

-- the program's numbers, by which an image of another program is recognized
unfoldable pub table : ProgramValue → List ℕ
table p =
    big_bytes 2 (length p.statements) ++ (big_bytes 1 (length p.variables) ++ (big_bytes 1 (length p.arrays)
    ++ lengths p.arrays))

-- the number of the fault that an act left, 0 for none
abbrev pub fault_field : Option MachineFault → ℕ
fault_field None = 0
fault_field (Some k) = fault_number k

-- where the machine stands
unfoldable pub standing : MachineStanding → List ℕ
standing s =
    big_bytes 2 s.position ++ (big_bytes 1 s.done ++ (big_bytes 1 (fault_field s.fault) ++ (big_bytes 1 (length s.gathered)
    ++ (values s.gathered ++ big_bytes 4 s.finished))))

-- source, tag and number of items of the last message
unfoldable pub status : Status → List ℕ
status s = big_bytes 1 s.source ++ (big_bytes 2 s.tag ++ big_bytes 2 s.count)

unfoldable pub machine : MachineValue → List ℕ
machine m =
    standing (standing_of m) ++ (status (status_of m) ++ (values m.store.variables ++ flat_map values m.store.arrays))

-- the inbox: what was accepted of each rank, and the packets in their order
unfoldable pub inbox : Mailbox → List ℕ
inbox b = flat_map (big_bytes 4) b.accepted ++ (big_bytes 4 (length b.packets) ++ flat_map packet b.packets)

-- the bytes of an image in a format: behind the format, both have the same
unfoldable pub text_in : Format → ImageValue → List ℕ
text_in format i =
    origin format i.machine.store.rank i.machine.store.size
    ++ (table i.machine.program ++ (machine i.machine ++ (big_bytes 4 i.clock ++ (inbox i.inbox ++ flat_map lane i.log))))

-- the bytes of an image as it is written
abbrev pub spelling : ImageValue → List ℕ
spelling i = text_in Two i
