-- What was never received in a run: the messages that were sent to a rank and that no act of it took (MPI 1.1, section 3.5: a message
-- is received by one receive at most). A user sees of each to whom it went, of whom it is, and by what to know it.
use Rattle.std.specs.Prelude.{ℕ, ℤ, zero, suc, List, [], ◌++◌, map, slice_get}
use Rattle.matching.specs.PacketValue as packet
use Rattle.matching.specs.declared.packet.Context.{Context}
use Rattle.matching.specs.declared.packet.Context.TheVariants.{PointToPoint, Collective}
use Rattle.crash_free.specs.declared.leftover.Leftover.{Leftover}
use Rattle.crash_free.specs.declared.leftover.MessageMark.{MessageMark}
use Rattle.crash_free.specs.declared.leftover.MessageMark.TheVariants as mark
use Rattle.crash_free.specs.Runs.{Passed}
use Rattle.crash_free.specs.Alike.{unreceived}

-- by what to know a message: its tag, or, of a collective's packet, the kind of the collective and its number among those of its rank
abbrev pub mark_in : Context → ℕ → List ℤ → MessageMark
mark_in PointToPoint tag items = mark.Tag tag
mark_in Collective tag items = mark.Call (slice_get items 0) (slice_get items 2)

-- a packet of source s that is left for rank r
abbrev pub left_by : ℕ → ℕ → packet.PacketValue → Leftover
left_by r s p = record { rank = r; source = s; mark = mark_in p.context p.tag p.items }

-- what s sent to r and r never received, in the order in which it was sent
abbrev pub left_of : List Passed → ℕ → ℕ → List Leftover
left_of C r s = map (left_by r s) (unreceived C s r)

-- what there is of each number below this one, one behind the other
abbrev pub join_below : {A : Type 0} → (ℕ → List A) → ℕ → List A
join_below f zero = []
join_below f (suc k) = join_below f k ++ f k

-- what each of n ranks sent to r and r never received, source by source
abbrev pub left_for : ℕ → List Passed → ℕ → List Leftover
left_for n C r = join_below (left_of C r) n

-- what was never received in a run of n ranks, rank by rank
abbrev pub left_in : ℕ → List Passed → List Leftover
left_in n C = join_below (left_for n C) n
