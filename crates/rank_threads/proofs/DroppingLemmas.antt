-- Frames that are dropped one after another.
use Rattle.std.proofs.Common.{◌≡◌, ℕ, ◌+◌, List, [], ◌∷◌, ◌++◌, refl, sym, ◌∙◌, ap, subst}
use Rattle.std.proofs.Math.Numerals.{add-one}
use Rattle.ports.specs.Lanes.{RxValue}
use Rattle.rank_node.specs.declared.frame.Frame.{Frame}
use Rattle.rank_threads.specs.Costs.{all_dropped, one_dropped}
use Rattle.rank_threads.specs.Dropping.{DroppedBelow, DroppedFrom, all_lost, lost}
use Rattle.rank_threads.specs.Taking.{Takes}
use Rattle.rank_threads.specs.declared.meter.Meter.{Meter}
use Rattle.rank_threads.specs.declared.life.station.Station.{Station}
use Rattle.rank_threads.specs.declared.tally.Tally.{Tally}
use Rattle.rank_threads.proofs.TakingLemmas.{takes_behind, takes_none, takes_then}

-- frames are counted, and then more frames
lost_then : (t : Tally) (frames more : List Frame) → all_lost t (frames ++ more) ≡ all_lost (all_lost t frames) more
lost_then t [] more = refl
lost_then t (frame ∷ frames) more = lost_then (lost t) frames more

-- frames are counted as a cost, and then more frames
dropped_then : (m : Meter) (frames more : List Frame) → all_dropped m (frames ++ more) ≡ all_dropped (all_dropped m frames) more
dropped_then m [] more = refl
dropped_then m (frame ∷ frames) more = dropped_then (one_dropped m) frames more

-- at first nothing is dropped
pub dropped_nothing : (source : ℕ) (station : Station) → DroppedFrom source station station
dropped_nothing source station = record { frames = []; lanes = takes_none source station.kit.from.items; tally = refl; meter = refl }

-- one frame is dropped behind a look at the lane
pub dropped_one : (source : ℕ) (old new : Station) (looked : List RxValue) (frame : Frame) → Takes source [] old.kit.from.items looked
    → Takes source (frame ∷ []) looked new.kit.from.items → new.kit.tally ≡ lost old.kit.tally → new.kit.meter ≡ one_dropped old.kit.meter → DroppedFrom source old new
dropped_one source old new looked frame look takes counted limits =
    record { frames = frame ∷ []; lanes = takes_behind source _ _ looked _ look takes; tally = counted; meter = limits }

-- none was there
pub dropped_none : (source : ℕ) (old new : Station) → Takes source [] old.kit.from.items new.kit.from.items → new.kit.tally ≡ old.kit.tally
    → new.kit.meter ≡ old.kit.meter → DroppedFrom source old new
dropped_none source old new takes counted limits = record { frames = []; lanes = takes; tally = counted; meter = limits }

-- none was taken behind a look
pub dropped_unseen : (source : ℕ) (old new : Station) (looked : List RxValue) → Takes source [] old.kit.from.items looked
    → Takes source [] looked new.kit.from.items → new.kit.tally ≡ old.kit.tally → new.kit.meter ≡ old.kit.meter → DroppedFrom source old new
dropped_unseen source old new looked look takes counted limits = dropped_none source old new (takes_behind source _ _ looked _ look takes) counted limits

-- some more are dropped, behind those before
pub dropped_more : (source : ℕ) (old mid new : Station) → DroppedFrom source old mid → DroppedFrom source mid new → DroppedFrom source old new
dropped_more source old mid new before here = record {
  frames = before.frames ++ here.frames;
  lanes = takes_then source before.frames here.frames old.kit.from.items mid.kit.from.items new.kit.from.items before.lanes here.lanes;
  tally = here.tally ∙ ap (λ t. all_lost t here.frames) before.tally ∙ sym (lost_then old.kit.tally before.frames here.frames);
  meter = here.meter ∙ ap (λ m. all_dropped m here.frames) before.meter ∙ sym (dropped_then old.kit.meter before.frames here.frames);
}

-- one lane more
pub dropped_next : (k : ℕ) (old mid new : Station) → DroppedBelow k old mid → DroppedFrom k mid new → DroppedBelow (k + 1) old new
dropped_next k old mid new before from = subst (λ n. DroppedBelow n old new) (sym (add-one k)) (mid, before, from)
