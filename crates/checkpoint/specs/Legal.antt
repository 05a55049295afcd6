-- Which values an image can have: the rules of its fields (docs/FORMATS.md, "Images").
use Rattle.std.specs.Prelude.{◌≡◌, ℕ, ◌+◌, ◌-◌, ◌<◌, ◌≤◌, true, List, [], ◌∷◌, ◌++◌, length, ℤ, slice_index, FitsSigned, All}
use Rattle.std.specs.List.{AllByRecursion}
use Rattle.std.specs.Int.{w64}
use Rattle.limits.specs.Limits as limits
use Rattle.limits.specs.Limits.{greatest_clock}
use Rattle.matching.specs.PacketValue.{PacketValue, IsPacketValue, least_items, most_items, greatest_tag}
use Rattle.matching.specs.Inbox.{Mailbox, may_follow}
use Rattle.payload_log.specs.Backlog.{BacklogValue, IsBacklog}
use Rattle.rank_language.specs.Program.{ProgramValue}
use Rattle.rank_machine.specs.Faults.{IsLeft}
use Rattle.rank_machine.specs.Collectives.{greatest_ordinal}
use Rattle.rank_machine.specs.Machine.{MachineValue, HasStage}
use Rattle.rank_machine.specs.declared.status.Status.{Status}
use Rattle.checkpoint.specs.declared.format.Format.{Format}
use Rattle.checkpoint.specs.Spelling.{FitsBytes, text_in}
use Rattle.checkpoint.specs.Image.{ImageValue, MachineStanding, standing_of, call_of, status_of, lengths_of}
use Rattle.checkpoint.specs.Reading.{last_clock, most_ranks_in}

-- each item is legal behind those before it
abbrev pub AllAfter : {A : Type 0} → (List A → A → Type 0) → List A → List A → Type 0
AllAfter Is before [] = Unit {0}
AllAfter Is before (x ∷ xs) = Is before x × AllAfter Is (before ++ x ∷ []) xs

-- so many items, each legal behind those before it
pub record IsRow {A : Type 0} (Is : List A → A → Type 0) (n : ℕ) (items : List A) : Type 0 where
  pub count : length items ≡ n
  pub each : AllAfter Is [] items

-- so many values in the range of i64
abbrev pub AreValues : ℕ → List ℤ → Type 0
AreValues n zs = IsRow (λ before. FitsSigned w64) n zs

-- a message of this source, clock and number, within the limits of its context
pub record IsTail (source clock number : ℕ) (m : PacketValue) : Type 0 where
  pub from : m.source ≡ source
  pub at : m.clock ≡ clock
  pub numbered : m.number ≡ number
  pub tag : m.tag ≤ greatest_tag m.context
  pub least : least_items m.context ≤ length m.items
  pub most : length m.items ≤ most_items m.context
  pub items : AreValues (length m.items) m.items

-- a message of a packet: its numbers are within their limits, and its items in the range of i64
pub record IsPacket (m : PacketValue) : Type 0 where
  pub message : IsPacketValue m
  pub items : All (FitsSigned w64) m.items

-- what is kept for a destination is packets, by number
pub record IsStored (b : BacklogValue) : Type 0 where
  pub order : IsBacklog b
  pub packets : All IsPacket b.kept

-- a packet that may stand in the inbox behind these
pub record IsNextPacket (size : ℕ) (accepted : List ℕ) (before : List PacketValue) (m : PacketValue) : Type 0 where
  pub source : m.source < size
  pub byte : FitsBytes 1 m.source
  pub clock_low : 1 ≤ m.clock
  pub clock_high : m.clock ≤ greatest_clock
  pub number : FitsBytes 4 m.number
  pub follows : may_follow (record { packets = before; accepted = accepted }) m.source m.number ≡ true
  pub tail : IsTail m.source m.clock m.number m

-- a packet that may be kept behind these
pub record IsNextKept (rank most base : ℕ) (before : List PacketValue) (m : PacketValue) : Type 0 where
  pub rises : last_clock before < m.clock
  pub within : m.clock ≤ most
  pub clock : FitsBytes 4 m.clock
  pub tail : IsTail rank m.clock (base + length before + 1) m

-- what may be kept for a destination in an image of this clock
pub record IsLane (rank clock : ℕ) (b : BacklogValue) : Type 0 where
  pub sent : b.sent ≤ clock
  pub word : FitsBytes 4 b.sent
  pub base : b.base ≤ greatest_clock
  pub cursor : b.cursor ≡ b.base + 1
  pub held : b.held ≡ []
  pub kept : IsRow (IsNextKept rank clock b.base) (b.sent - b.base) b.kept

-- the numbers of a program take their bytes
pub record IsTable (p : ProgramValue) : Type 0 where
  pub statements : FitsBytes 2 (length p.statements)
  pub variables : FitsBytes 1 (length p.variables)
  pub arrays : FitsBytes 1 (length p.arrays)
  pub lengths : AllByRecursion (λ a. FitsBytes 2 a.1) p.arrays

-- where a machine can stand in a program of so many statements, whatever collective stands there
pub record IsStanding (statements : ℕ) (s : MachineStanding) : Type 0 where
  pub position : s.position ≤ statements
  pub word : FitsBytes 2 s.position
  pub done : FitsBytes 1 s.done
  pub fault : IsLeft s.fault
  pub gathered : FitsBytes 1 (length s.gathered)
  pub values : AreValues (length s.gathered) s.gathered
  pub finished : s.finished ≤ greatest_ordinal

-- what the last message can have been
pub record IsStatus (size : ℕ) (s : Status) : Type 0 where
  pub source : s.source < size
  pub byte : FitsBytes 1 s.source
  pub tag : s.tag ≤ limits.greatest_tag
  pub count : s.count ≤ limits.most_items

-- the items of each array are as many as the program says
abbrev pub AreArrays : List ℕ → List (List ℤ) → Type 0
AreArrays lengths arrays = IsRow (λ before zs. AreValues (slice_index lengths (length before)) zs) (length lengths) arrays

-- a machine of this program, rank and number of ranks
pub record IsSaved (p : ProgramValue) (rank size : ℕ) (m : MachineValue) : Type 0 where
  pub program : m.program ≡ p
  pub own : m.store.rank ≡ rank
  pub ranks : m.store.size ≡ size
  pub standing : IsStanding (length p.statements) (standing_of m)
  pub status : IsStatus size (status_of m)
  pub variables : AreValues (length p.variables) m.store.variables
  pub arrays : AreArrays (lengths_of p) m.store.arrays
  pub stage : HasStage m.store (call_of m)

-- an inbox among so many ranks
pub record IsSavedInbox (size : ℕ) (b : Mailbox) : Type 0 where
  pub accepted : IsRow (λ before n. n ≤ greatest_clock) size b.accepted
  pub count : FitsBytes 4 (length b.packets)
  pub packets : IsRow (IsNextPacket size b.accepted) (length b.packets) b.packets

-- an image in this format, of this program, rank and number of ranks
pub record IsImage (format : Format) (p : ProgramValue) (rank size : ℕ) (i : ImageValue) : Type 0 where
  pub table : IsTable p
  pub own : FitsBytes 1 rank
  pub ranks : FitsBytes 1 size
  pub few : size ≤ most_ranks_in format
  pub machine : IsSaved p rank size i.machine
  pub clock : i.clock ≤ greatest_clock
  pub inbox : IsSavedInbox size i.inbox
  pub log : IsRow (λ before. IsLane rank i.clock) size i.log

-- these bytes are this image in this format
pub record IsText (format : Format) (p : ProgramValue) (rank size : ℕ) (bytes : List ℕ) (i : ImageValue) : Type 0 where
  pub spelled : bytes ≡ text_in format i
  pub image : IsImage format p rank size i

-- these bytes are this image in one of the formats
abbrev pub IsTextOf : ProgramValue → ℕ → ℕ → List ℕ → ImageValue → Type 0
IsTextOf p rank size bytes i = (format : Format) × IsText format p rank size bytes i
