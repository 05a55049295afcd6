-- The first packet of a list that passes a test, and the list without it: the order in which
-- receives take messages.
--
-- Source: MPI 1.1, 3.5 (order of messages).
use Rattle.std.specs.Prelude.{ℕ, nat_lt, Bool, true, List, Option, Some, None, ◌==◌, [], ◌∷◌, if◌then◌else◌, option_and_then, position, slice_get, remove}
use Rattle.std.specs.List.{position_or_len}
use Rattle.matching.specs.PacketValue.{PacketValue}

-- where the first packet that passes the test stands, or how many packets there are
abbrev pub first_place : (PacketValue → Bool) → List PacketValue → ℕ
first_place test ms = position_or_len test ms

-- the first packet that passes the test
abbrev pub first_by : (PacketValue → Bool) → List PacketValue → Option PacketValue
first_by test ms = option_and_then (slice_get ms) (position test ms)

-- the packets without the one at this place, if there is a place
abbrev pub without_at : Option ℕ → List PacketValue → List PacketValue
without_at None ms = ms
without_at (Some place) ms = remove ms place

-- the packets without the first that passes the test
abbrev pub without_first : (PacketValue → Bool) → List PacketValue → List PacketValue
without_first test ms = without_at (position test ms) ms

-- the last of two numbers, where the second may be missing
abbrev pub or_last : Option ℕ → Option ℕ → Option ℕ
or_last first None = first
or_last first (Some number) = Some number

-- the number of the last packet of this source, if there is one
abbrev pub last_number : ℕ → List PacketValue → Option ℕ
last_number source [] = None
last_number source (m ∷ ms) = or_last (if m.source == source then Some m.number else None) (last_number source ms)

-- the number is above the last one, if there is one
abbrev pub above_last : ℕ → Option ℕ → Bool
above_last number None = true
above_last number (Some last) = nat_lt last number

-- how many packets at most are walked before the index is asked
abbrev pub most_walked : ℕ
most_walked = 512
