-- Lanes: bounded queues of frames, of one producer and one consumer each (the bounded buffer of
-- Lamport, "Specifying Concurrent Program Modules", 1983). Each end has its own history, and no
-- clause but that of closing compares the two.
use Rattle.std.specs.Prelude.{◌≡◌, ℕ, ◌++◌, List, length, min}
use Rattle.std.specs.declared.alloc.Global.{Global}
use Rattle.rtrb.specs.Shared.{Names}
use Rattle.rtrb.specs.declared.end.End.{End}
use Rattle.rank_node.specs.declared.frame.Frame.{Frame}
use denote.RawPtr.{Ptr}

-- what identifies a lane: what the two ends of its ring share
pub record Lane : Type 0 where
  pub words : Ptr
  pub slots : Ptr
  pub names : Names
  pub heap : Global

-- the end that puts: of which lane it is, and all the frames that were put, oldest first
pub record TxValue : Type 0 where
  pub lane : Lane
  pub put : List Frame

-- the end that takes: of which lane it is, all the frames that were taken, and those that it sees in
-- the lane, oldest first
pub record RxValue : Type 0 where
  pub lane : Lane
  pub taken : List Frame
  pub seen : List Frame

-- the lane of an end of a ring
abbrev pub lane_of : {T P : Type 0} → End T Global P → Lane
lane_of e = record { words = e.words; slots = e.slots; names = e.names; heap = e.heap }

-- how many frames a lane holds
abbrev pub room_of : Lane → ℕ
room_of l = l.names.0

-- the lane into which this end puts
abbrev pub lane_to : TxValue → Lane
lane_to t = t.lane

-- the lane from which this end takes
abbrev pub lane_from : RxValue → Lane
lane_from r = r.lane

-- all the frames that were put, oldest first
abbrev pub put_of : TxValue → List Frame
put_of t = t.put

-- all the frames that were taken, oldest first
abbrev pub taken_of : RxValue → List Frame
taken_of r = r.taken

-- the frames that the end sees in the lane, oldest first
abbrev pub seen_of : RxValue → List Frame
seen_of r = r.seen

-- the two ends of one lane
abbrev pub IsLane : TxValue → RxValue → Type 0
IsLane t r = lane_to t ≡ lane_from r

-- how many frames, counted up to the greatest `u64`
abbrev pub counted : List Frame → ℕ
counted frames = min (length frames) 18446744073709551615

-- what was taken is a beginning of what was put
abbrev pub IsCarried : List Frame → List Frame → Type 0
IsCarried put taken = (left : List Frame) × (put ≡ taken ++ left)
