-- What comes into a rank out of its lanes, the channels from the others, each lane's frames in
-- their order (MPI 1.1, section 3.5).
use Rattle.std.specs.Prelude.{◌≡◌, ◌≢◌, ℕ, zero, suc, Bool, true, false, not, ◌&&◌, ◌||◌, nat_le, if◌then◌else◌, List, [], ◌∷◌, ◌++◌, Option, Some, None, length, slice_index_or}
use Rattle.ports.specs.Lanes.{RxValue, taken_of}
use Rattle.rank_node.specs.Phases.{arrived_in}
use Rattle.rank_node.specs.declared.frame.Frame.{Frame}
use Rattle.rank_threads.specs.Phases.{Phase}
use Rattle.rank_threads.specs.declared.life.Life.{Life}
use Rattle.rank_threads.specs.Tally.{all_taken}

-- a batch of frames, or of packets that wait
abbrev pub batch : ℕ
batch = 16

-- how many frames of a lane a rank takes in one turn at most: a batch, or one if it isn't blocked and
-- a batch of packets or more wait in its inbox
abbrev pub at_once : Bool → ℕ → ℕ
at_once is_blocked waiting = if not is_blocked && nat_le batch waiting then 1 else batch

-- the frame that was there, if one was
abbrev pub those_of : Option Frame → List Frame
those_of None = []
those_of (Some frame) = frame ∷ []

-- whether some frame came
abbrev pub is_some_frame : List Frame → Bool
is_some_frame [] = false
is_some_frame (frame ∷ frames) = true

-- the rank after frames that came from a rank, in their order
abbrev pub all_arrived : Phase → ℕ → List Frame → Phase
all_arrived p source [] = p
all_arrived p source (frame ∷ frames) = all_arrived (arrived_in p source frame) source frames

-- These frames were taken from the lane from a rank, and none from the others.
pub record Takes (source : ℕ) (frames : List Frame) (lanes lanes' : List RxValue) : Type 0 where
  pub as_many : length lanes' ≡ length lanes
  pub lane : (d : RxValue) → taken_of (slice_index_or lanes' source d) ≡ taken_of (slice_index_or lanes source d) ++ frames
  pub others : (k : ℕ) (d : RxValue) → k ≢ source → slice_index_or lanes' k d ≡ slice_index_or lanes k d

-- A rank took in what the lane from a rank brought, each frame was counted, and it was answered
-- whether any came. The plan and the lanes to other ranks stayed.
pub record TookFrom (source : ℕ) (old new : Life) (answer : Bool) : Type 0 where
  pub frames : List Frame
  pub lanes : Takes source frames old.kit.from.items new.kit.from.items
  pub rank : new.node.phase ≡ all_arrived old.node.phase source frames
  pub took : answer ≡ is_some_frame frames
  pub tally : new.kit.tally ≡ all_taken old.kit.tally frames
  pub plan : new.kit.plan ≡ old.kit.plan
  pub to : new.kit.to ≡ old.kit.to

-- A rank took in what the lanes from the ranks below this number brought, from rank 0 on, and
-- answered whether that was anything.
abbrev pub TookBelow : ℕ → Life → Life → Bool → Type 0
TookBelow zero old new answer = (new ≡ old) × (answer ≡ false)
TookBelow (suc k) old new answer =
    (mid : Life) × (earlier last : Bool) × TookBelow k old mid earlier × TookFrom k mid new last × (answer ≡ last || earlier)
