-- What goes out of a rank into a lane, a channel to another rank (reception in the order of
-- sending: MPI 1.1, section 3.5).
use Rattle.std.specs.Prelude.{◌≡◌, ◌≢◌, ℕ, ◌<◌, List, [], ◌∷◌, ◌++◌, Some, None, slice_index_or}
use Rattle.rank_node.specs.Phases.{outgoing_in, passed_in}
use Rattle.rank_node.specs.declared.frame.Frame.{Frame}
use Rattle.ports.specs.Lanes.{TxValue, put_of}
use Rattle.rank_threads.specs.Costs.{all_put, kind_of}
use Rattle.rank_threads.specs.Phases.{Phase}
use Rattle.rank_threads.specs.declared.costs.FrameKind.{FrameKind}
use Rattle.rank_threads.specs.declared.life.Life.{Life}
use Rattle.rank_threads.specs.declared.node.frames.PutResult.{PutResult}
use Rattle.rank_threads.specs.declared.node.frames.PutResult.TheVariants as put_result

-- One frame of a kind goes to a rank: it was outgoing, has gone, and was put behind all others.
pub record PutsOne (kind : FrameKind) (p : Phase) (dest : ℕ) (put : List Frame) (q : Phase) (put' : List Frame) : Type 0 where
  pub frame : Frame
  pub outgoing : outgoing_in p dest ≡ Some frame
  pub is_kind : kind ≡ kind_of frame
  pub gone : q ≡ passed_in p dest
  pub last : put' ≡ put ++ frame ∷ []

-- nothing goes to that rank
abbrev pub HasNothing : Phase → ℕ → Type 0
HasNothing p dest = outgoing_in p dest ≡ None

-- nothing goes to the ranks below this number
abbrev pub NothingBelow : ℕ → Phase → Type 0
NothingBelow count p = (dest : ℕ) → dest < count → HasNothing p dest

-- what goes next to each rank but this one is what went to it before
abbrev pub KeepsOthers : ℕ → Phase → Phase → Type 0
KeepsOthers dest p q = (other : ℕ) → other ≢ dest → outgoing_in q other ≡ outgoing_in p other

-- What is outgoing to a rank next goes into a lane, or finds it full. If nothing went, all is as it
-- was.
abbrev pub Puts : PutResult → Phase → ℕ → List Frame → Phase → List Frame → Type 0
Puts (put_result.Gone kind) p dest put q put' = PutsOne kind p dest put q put'
Puts put_result.Full p dest put q put' = (q ≡ p) × (put' ≡ put)

-- a frame of this kind is outgoing to a rank
pub record IsOutgoing (kind : FrameKind) (p : Phase) (dest : ℕ) : Type 0 where
  pub frame : Frame
  pub outgoing : outgoing_in p dest ≡ Some frame
  pub is_kind : kind ≡ kind_of frame

-- if nothing went the rank is as it was; if a frame went it was outgoing
abbrev pub Stays : PutResult → Phase → ℕ → Phase → Type 0
Stays (put_result.Gone kind) p dest q = IsOutgoing kind p dest
Stays put_result.Full p dest q = q ≡ p

-- What is outgoing to a rank next goes into the lane to that rank, among the lanes to each, or
-- finds it full: the other lanes are left as they were.
pub record PutsInto (went : PutResult) (p : Phase) (dest : ℕ) (lanes : List TxValue) (q : Phase) (lanes' : List TxValue) : Type 0 where
  pub lane : (d : TxValue) → Puts went p dest (put_of (slice_index_or lanes dest d)) q (put_of (slice_index_or lanes' dest d))
  pub others : (k : ℕ) (d : TxValue) → k ≢ dest → slice_index_or lanes' k d ≡ slice_index_or lanes k d
  pub rank : Stays went p dest q

-- These frames went into the lane to a rank, one behind another, and each was counted by its kind.
pub record PutAll (dest : ℕ) (old new : Life) : Type 0 where
  pub frames : List Frame
  pub lane : (d : TxValue) → put_of (slice_index_or new.kit.to.items dest d) ≡ put_of (slice_index_or old.kit.to.items dest d) ++ frames
  pub meter : new.kit.meter ≡ all_put old.kit.meter dest frames
