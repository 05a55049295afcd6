-- The frames that a crash loses: those on their way to the rank, which count as taken, so that
-- termination detection doesn't wait for them.
use Rattle.std.specs.Prelude.{◌≡◌, ℕ, zero, suc, true, false, List, [], ◌∷◌}
use Rattle.rank_node.specs.declared.frame.Frame.{Frame}
use Rattle.rank_threads.specs.Costs.{all_dropped}
use Rattle.rank_threads.specs.Stations.{SameRest, SameStation}
use Rattle.rank_threads.specs.Taking.{Takes}
use Rattle.rank_threads.specs.Tally.{one_more}
use Rattle.rank_threads.specs.declared.life.station.Station.{Station}
use Rattle.rank_threads.specs.declared.tally.Tally.{Tally}

-- after a frame that is dropped: it is counted, and may have been an answer
abbrev pub lost : Tally → Tally
lost t = record t { taken = one_more t.taken; may_owe = true; is_blocked = false }

-- after frames that are dropped, one after another
abbrev pub all_lost : Tally → List Frame → Tally
all_lost t [] = t
all_lost t (frame ∷ frames) = all_lost (lost t) frames

-- What the lane from a rank brought was dropped, and each frame was counted: as taken, and as a
-- cost.
pub record DroppedFrom (source : ℕ) (old new : Station) : Type 0 where
  pub frames : List Frame
  pub lanes : Takes source frames old.kit.from.items new.kit.from.items
  pub tally : new.kit.tally ≡ all_lost old.kit.tally frames
  pub meter : new.kit.meter ≡ all_dropped old.kit.meter frames

-- What the lanes from the ranks below this number brought was dropped, from rank 0 on.
abbrev pub DroppedBelow : ℕ → Station → Station → Type 0
DroppedBelow zero old new = new ≡ old
DroppedBelow (suc k) old new = (mid : Station) × DroppedBelow k old mid × DroppedFrom k mid new

-- The frames on their way to the rank were dropped, those of each lane from rank 0 on, and none came
-- or went since.
pub record DropsAll (old new : Station) : Type 0 where
  pub dropped : Station
  pub lanes : DroppedBelow old.size old dropped
  pub left : new.kit.from ≡ dropped.kit.from
  pub taken : new.kit.tally.taken ≡ dropped.kit.tally.taken

-- Only frames on their way to the rank were dropped: its desk and shelf, the lines of its script,
-- its row and how it stood are as they were, and of its counts all but what a frame that is dropped
-- changes.
pub record OnlyDrops (old new : Station) : Type 0 where
  pub down : new.down ≡ old.down
  pub rest : SameRest old new
  pub counted : new.kit.tally ≡ record old.kit.tally { taken = new.kit.tally.taken; may_owe = new.kit.tally.may_owe; is_blocked = new.kit.tally.is_blocked }
  pub same : SameStation old new
