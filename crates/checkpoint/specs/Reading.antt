-- How an image is read (docs/FORMATS.md, "Images"): from left to right, each number looked at as
-- soon as its bytes are read, up to the first fault.
use Rattle.std.specs.Prelude.{◌≡◌, ℕ, zero, suc, ◌+◌, ◌-◌, Bool, ◌&&◌, ◌||◌, List, [], ◌∷◌, ◌++◌, length, ℤ, drop, Option}
use Rattle.std.specs.Prelude.{Some, None, Result, Ok, Err, nat_lt, nat_le, ◌==◌, if◌then◌else◌, slice_index}
use Rattle.std.specs.Int.{w64, cast_signed}
use Rattle.byteorder.specs.Endian.{big_number}
use Rattle.matching.specs.declared.packet.Context.{Context}
use Rattle.matching.specs.declared.packet.Context.TheVariants.{PointToPoint, Collective}
use Rattle.limits.specs.Limits as limits
use Rattle.limits.specs.Limits.{greatest_clock}
use Rattle.matching.specs.PacketValue.{PacketValue, least_items, most_items, greatest_tag}
use Rattle.payload_log.specs.Backlog.{BacklogValue, from_beginning}
use Rattle.rank_language.specs.Program.{ProgramValue}
use Rattle.rank_machine.specs.declared.fault.MachineFault.{MachineFault}
use Rattle.rank_machine.specs.declared.fault.MachineFault.TheVariants.{TooLong, CollectiveMismatch}
use Rattle.rank_machine.specs.Faults.{fault_number}
use Rattle.rank_machine.specs.Collectives.{greatest_ordinal}
use Rattle.rank_machine.specs.Machine.{MachineValue}
use Rattle.checkpoint.specs.declared.fault.ImageFault.{ImageFault}
use Rattle.checkpoint.specs.declared.fault.ImageFault.TheVariants.{Version, Short, Long, Field, WrongProgram, Memory}
use Rattle.matching.specs.Inbox.{Mailbox, may_follow}
use Rattle.rank_machine.specs.declared.status.Status.{Status}
use Rattle.checkpoint.specs.declared.format.Format.{Format}
use Rattle.checkpoint.specs.declared.format.Format.TheVariants.{One, Two}
use Rattle.checkpoint.specs.Spelling.{number_of, event_version}
use Rattle.checkpoint.specs.Image.{ImageValue, MachineStanding, machine_of, lengths_of, is_underway}

-- what is read, and the bytes behind it; or the first fault
abbrev pub Read : Type 0 → Type 0
Read A = Result (A × List ℕ) ImageFault

-- first the one, then what follows from it; a fault stands
infixl 10 ◌>>=◌
abbrev pub ◌>>=◌ : {A B : Type 0} → Result A ImageFault → (A → Result B ImageFault) → Result B ImageFault
(Ok x) >>= f = f x
(Err e) >>= f = Err e

-- a function that failed met the first fault, unless memory ran out
abbrev pub Fails : {Y : Type 0} → ImageFault → Result Y ImageFault → Type 0
Fails Version read = read ≡ Err Version
Fails Short read = read ≡ Err Short
Fails Long read = read ≡ Err Long
Fails Field read = read ≡ Err Field
Fails WrongProgram read = read ≡ Err WrongProgram
Fails Memory read = Unit {0}

-- what a function returned, seen by view, is what is read there, unless memory ran out
abbrev pub Gives : {X Y : Type 0} → (X → Y) → Result X ImageFault → Result Y ImageFault → Type 0
Gives view (Ok x) read = read ≡ Ok (view x)
Gives view (Err e) read = Fails e read

-- a number of n bytes, and what follows it
abbrev pub number_at : ℕ → List ℕ → Read ℕ
number_at n bytes = if nat_lt (length bytes) n then Err Short else Ok (big_number n bytes, drop n bytes)

-- this, if the test passes
abbrev pub where_holds : {A : Type 0} → Bool → ImageFault → A → Result A ImageFault
where_holds b fault x = if b then Ok x else Err fault

-- a number that passes a test
unfoldable pub field : ℕ → ImageFault → (ℕ → Bool) → List ℕ → Read ℕ
field n fault passes bytes = do
  x ← number_at n bytes
  where_holds (passes x.0) fault x

-- n items one after the other, behind those that were read; what an item may be can depend on these
unfoldable pub many_at : {A : Type 0} → (List A → List ℕ → Read A) → ℕ → List A → List ℕ → Read (List A)
many_at read zero before bytes = Ok (before, bytes)
many_at read (suc n) before bytes = do
  item ← read before bytes
  many_at read n (before ++ item.0 ∷ []) item.1

unfoldable pub value_at : List ℕ → Read ℤ
value_at bytes = do
  x ← number_at 8 bytes
  Ok (cast_signed w64 x.0, x.1)

-- so many values
abbrev pub values_at : ℕ → List ℕ → Read (List ℤ)
values_at n bytes = many_at (λ before. value_at) n [] bytes

-- a clock, or what was accepted of a rank
abbrev pub count_at : List ℕ → Read ℕ
count_at bytes = field 4 Field (λ x. nat_le x greatest_clock) bytes

-- the context of a number
abbrev pub context_of : ℕ → Context
context_of zero = PointToPoint
context_of (suc n) = Collective

unfoldable pub context_at : List ℕ → Read Context
context_at bytes = do
  x ← field 1 Field (λ x. nat_le x 1) bytes
  Ok (context_of x.0, x.1)

-- the message of this source, clock and number whose tail stands here
unfoldable pub tail_at : ℕ → ℕ → ℕ → List ℕ → Read PacketValue
tail_at source clock number bytes = do
  context ← context_at bytes
  tag ← field 2 Field (λ x. nat_le x (greatest_tag context.0)) context.1
  count ← field 2 Field (λ x. nat_le (least_items context.0) x && nat_le x (most_items context.0)) tag.1
  items ← values_at count.0 count.1
  Ok (record { source = source; clock = clock; number = number; context = context.0; tag = tag.0; items = items.0 }, items.1)

-- a packet of the inbox, behind these
unfoldable pub packet_at : ℕ → List ℕ → List PacketValue → List ℕ → Read PacketValue
packet_at size accepted before bytes = do
  source ← field 1 Field (λ x. nat_lt x size) bytes
  clock ← field 4 Field (λ x. nat_le 1 x && nat_le x greatest_clock) source.1
  number ← field 4 Field (may_follow (record { packets = before; accepted = accepted }) source.0) clock.1
  tail_at source.0 clock.0 number.0 number.1

-- the clock of the last message, 0 if there is none
abbrev pub last_clock : List PacketValue → ℕ
last_clock [] = 0
last_clock (m ∷ []) = m.clock
last_clock (m ∷ n ∷ ms) = last_clock (n ∷ ms)

-- a packet of this number that is kept: its clock is above this, and not above the image's
unfoldable pub kept_above : ℕ → ℕ → ℕ → ℕ → List ℕ → Read PacketValue
kept_above rank most above number bytes = do
  clock ← field 4 Field (λ x. nat_lt above x && nat_le x most) bytes
  tail_at rank clock.0 number clock.1

-- a packet that is kept behind these: its number is the next, and its clock is above theirs
abbrev pub kept_at : ℕ → ℕ → ℕ → List PacketValue → List ℕ → Read PacketValue
kept_at rank most base before bytes = kept_above rank most (last_clock before) (base + length before + 1) bytes

-- what is kept for a destination, with the cursor right behind the base
unfoldable pub lane_at : ℕ → ℕ → List ℕ → Read BacklogValue
lane_at rank clock bytes = do
  sent ← field 4 Field (λ x. nat_le x clock) bytes
  base ← count_at sent.1
  kept ← many_at (kept_at rank clock base.0) (sent.0 - base.0) [] base.1
  Ok (from_beginning base.0 sent.0 kept.0, kept.1)

-- what is kept for each of so many destinations
unfoldable pub log_at : ℕ → ℕ → ℕ → List ℕ → Read (List BacklogValue)
log_at rank clock size bytes = many_at (λ before. lane_at rank clock) size [] bytes

-- what is accepted of each rank, and the packets that are there
unfoldable pub inbox_at : ℕ → List ℕ → Read Mailbox
inbox_at size bytes = do
  accepted ← many_at (λ before. count_at) size [] bytes
  count ← number_at 4 accepted.1
  packets ← many_at (packet_at size accepted.0) count.0 [] count.1
  Ok (record { packets = packets.0; accepted = accepted.0 }, packets.1)

-- the format of a number
abbrev pub format_of : ℕ → Format
format_of x = if x == number_of One then One else Two

-- what an image of this format says of the version of event words, which is one alone
abbrev pub events_at : Format → List ℕ → Read Format
events_at One bytes = Ok (One, bytes)
events_at Two bytes = do
  version ← field 1 Version (λ x. x == event_version) bytes
  Ok (Two, version.1)

-- the format, with what it says of event words
unfoldable pub format_at : List ℕ → Read Format
format_at bytes = do
  version ← field 1 Version (λ x. x == number_of One || x == number_of Two) bytes
  events_at (format_of version.0) version.1

-- the most ranks of a run that has images of a format
abbrev pub most_ranks_in : Format → ℕ
most_ranks_in One = limits.most_ranks_of_format_1
most_ranks_in Two = limits.most_ranks

-- the format, and the caller's rank and number of ranks, which are as many as the format can have
unfoldable pub origin_at : ℕ → ℕ → List ℕ → Read Format
origin_at rank size bytes = do
  format ← format_at bytes
  own ← field 1 WrongProgram (λ x. x == rank) format.1
  ranks ← field 1 WrongProgram (λ x. x == size && nat_le x (most_ranks_in format.0)) own.1
  Ok (format.0, ranks.1)

-- the length of each array is the program's
unfoldable pub lengths_at : List (List ℕ × ℕ) → List ℕ → Read (Unit {0})
lengths_at [] bytes = Ok (tt, bytes)
lengths_at (a ∷ as_) bytes = do
  length ← field 2 WrongProgram (λ x. x == a.1) bytes
  lengths_at as_ length.1

-- the numbers of the program
unfoldable pub table_at : ProgramValue → List ℕ → Read (Unit {0})
table_at p bytes = do
  statements ← field 2 WrongProgram (λ x. x == length p.statements) bytes
  variables ← field 1 WrongProgram (λ x. x == length p.variables) statements.1
  arrays ← field 1 WrongProgram (λ x. x == length p.arrays) variables.1
  lengths_at p.arrays arrays.1

-- the fault of a number
abbrev pub fault_of : ℕ → Option MachineFault
fault_of x = if x == 0 then None else (if x == fault_number TooLong then Some TooLong else Some CollectiveMismatch)

-- a fault that an act left, if one did
unfoldable pub fault_at : List ℕ → Read (Option MachineFault)
fault_at bytes = do
  x ← field 1 Field (λ x. x == 0 || (x == fault_number TooLong || x == fault_number CollectiveMismatch)) bytes
  Ok (fault_of x.0, x.1)

-- where a machine stands
unfoldable pub standing_at : ℕ → List ℕ → Read MachineStanding
standing_at statements bytes = do
  position ← field 2 Field (λ x. nat_le x statements) bytes
  done ← number_at 1 position.1
  fault ← fault_at done.1
  count ← number_at 1 fault.1
  gathered ← values_at count.0 count.1
  finished ← field 4 Field (λ x. nat_le x greatest_ordinal) gathered.1
  Ok (
    record {
      position = position.0;
      done = done.0;
      fault = fault.0;
      gathered = gathered.0;
      finished = finished.0;
    },
    finished.1,
  )

-- source, tag and number of items of the last message
unfoldable pub status_at : ℕ → List ℕ → Read Status
status_at size bytes = do
  source ← field 1 Field (λ x. nat_lt x size) bytes
  tag ← field 2 Field (λ x. nat_le x limits.greatest_tag) source.1
  count ← field 2 Field (λ x. nat_le x limits.most_items) tag.1
  Ok (record { source = source.0; tag = tag.0; count = count.0 }, count.1)

-- the items of each array, as many as the program says
abbrev pub arrays_at : List ℕ → List ℕ → Read (List (List ℤ))
arrays_at lengths bytes = many_at (λ before. values_at (slice_index lengths (length before))) (length lengths) [] bytes

-- this machine, if it can have done and gathered so much of the collective at its position
abbrev pub where_underway : MachineValue → List ℕ → Read MachineValue
where_underway m rest = where_holds (is_underway m) Field (m, rest)

-- A machine of this program, rank and number of ranks. What is done and gathered of a collective is
-- looked at behind the last item: its root may read any of them.
unfoldable pub machine_at : ProgramValue → ℕ → ℕ → List ℕ → Read MachineValue
machine_at p rank size bytes = do
  standing ← standing_at (length p.statements) bytes
  status ← status_at size standing.1
  variables ← values_at (length p.variables) status.1
  arrays ← arrays_at (lengths_of p) variables.1
  where_underway (machine_of p rank size standing.0 status.0 variables.0 arrays.0) arrays.1

-- an image of this program, rank and number of ranks, and what follows it
unfoldable pub image_at : ProgramValue → ℕ → ℕ → List ℕ → Read ImageValue
image_at p rank size bytes = do
  origin ← origin_at rank size bytes
  table ← table_at p origin.1
  machine ← machine_at p rank size table.1
  clock ← count_at machine.1
  inbox ← inbox_at size clock.1
  log ← log_at rank clock.0 size inbox.1
  Ok (record { machine = machine.0; clock = clock.0; inbox = inbox.0; log = log.0 }, log.1)

-- the image that is all of the bytes, or the first fault
unfoldable pub reading : ProgramValue → ℕ → ℕ → List ℕ → Result ImageValue ImageFault
reading p rank size bytes = do
  image ← image_at p rank size bytes
  where_holds (length image.1 == 0) Long image.0
