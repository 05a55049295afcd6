-- Frames that are taken one after another.
use Rattle.std.proofs.Common.{◌≡◌, ℕ, ◌<◌, length, Bool, true, false, List, [], ◌∷◌, ◌++◌, Option, Some, None, IfSome, slice_index_or, slice_set}
use Rattle.std.specs.Prelude.{if◌then◌else◌}
use Rattle.std.proofs.Math.Numerals.{add-one}
use Rattle.std.proofs.Common.{◌+◌, ◌≤◌, ◌||◌, ◌&&◌, not, nat_le, arith, refl, sym, subst, ap, ◌∙◌, append_assoc, append-nil}
use Rattle.std.proofs.lemmas.List.{length-set}
use Rattle.ports.specs.Lanes.{RxValue, taken_of}
use Rattle.rank_node.specs.declared.frame.Frame.{Frame}
use Rattle.rank_node.specs.Phases.{arrived_in}
use Rattle.rank_threads.proofs.PuttingLemmas.{set_here, same_there, set_elsewhere}
use Rattle.rank_threads.specs.Taking.{all_arrived, at_once, batch, is_some_frame, those_of, Takes, TookFrom, TookBelow}
use Rattle.rank_threads.specs.Phases.{Phase}
use Rattle.rank_threads.specs.declared.life.Life.{Life}
use Rattle.rank_threads.specs.declared.tally.Tally.{Tally}
use Rattle.rank_threads.specs.Tally.{all_taken, woken}

-- a rank takes at least one frame of a lane
pub some_at_once : (is_blocked : Bool) (waiting : ℕ) → 1 ≤ at_once is_blocked waiting
some_at_once is_blocked waiting = go (not is_blocked && nat_le batch waiting)
  where
    go : (b : Bool) → 1 ≤ (if b then 1 else batch)
    go true = omega arith
    go false = omega arith

-- what was taken from the lane at a place was taken from no other
pub takes_at : (source : ℕ) (frames : List Frame) (lanes : List RxValue) (d y : RxValue) → source < length lanes
    → taken_of y ≡ taken_of (slice_index_or lanes source d) ++ frames → Takes source frames lanes (slice_set lanes source y)
takes_at source frames lanes d y within taken = record {
  as_many = length-set lanes source y;
  lane = λ e. rw (set_here lanes source y e within, same_there lanes source e d within) taken;
  others = λ k e apart. set_elsewhere lanes source k y e apart;
}

-- where nothing was taken, all lanes are as they were
pub takes_none : (source : ℕ) (lanes : List RxValue) → Takes source [] lanes lanes
takes_none source lanes = record {
  as_many = refl;
  lane = λ d. sym (append-nil (taken_of (slice_index_or lanes source d)));
  others = λ k d apart. refl;
}

-- frames and then more frames
pub takes_then : (source : ℕ) (frames more : List Frame) (a b c : List RxValue) → Takes source frames a b → Takes source more b c
    → Takes source (frames ++ more) a c
takes_then source frames more a b c first next = record {
  as_many = next.as_many ∙ first.as_many;
  lane = λ d. next.lane d ∙ ap (λ taken. taken ++ more) (first.lane d)
      ∙ append_assoc (taken_of (slice_index_or a source d)) frames more;
  others = λ k d apart. next.others k d apart ∙ first.others k d apart;
}

-- frames arrive, and then more frames
arrived_then : (p : Phase) (source : ℕ) (frames more : List Frame)
    → all_arrived p source (frames ++ more) ≡ all_arrived (all_arrived p source frames) source more
arrived_then p source [] more = refl
arrived_then p source (frame ∷ frames) more = arrived_then (arrived_in p source frame) source frames more

-- frames are counted, and then more frames
taken_then : (t : Tally) (frames more : List Frame) → all_taken t (frames ++ more) ≡ all_taken (all_taken t frames) more
taken_then t [] more = refl
taken_then t (frame ∷ frames) more = taken_then (woken t) frames more

-- with some frames behind others there are some
some_behind : (frames more : List Frame) → true ≡ is_some_frame more → true ≡ is_some_frame (frames ++ more)
some_behind [] more some = some
some_behind (frame ∷ frames) more some = refl

-- with none behind others there are those others
none_behind : (frames more : List Frame) → false ≡ is_some_frame more → is_some_frame frames ≡ is_some_frame (frames ++ more)
none_behind [] more none = none
none_behind (frame ∷ frames) more none = refl

-- what is taken behind a look that takes nothing is all that is taken
pub takes_behind : (source : ℕ) (frames : List Frame) (a b c : List RxValue) → Takes source [] a b → Takes source frames b c → Takes source frames a c
takes_behind source frames a b c look takes = takes_then source [] frames a b c look takes

-- a look at a lane takes nothing
pub takes_nothing : (source : ℕ) (lanes : List RxValue) (d y : RxValue) → source < length lanes
    → taken_of y ≡ taken_of (slice_index_or lanes source d) → Takes source [] lanes (slice_set lanes source y)
takes_nothing source lanes d y within same =
    takes_at source [] lanes d y within (same ∙ sym (append-nil (taken_of (slice_index_or lanes source d))))

-- what one look at a lane takes
pub takes_looked : (source : ℕ) (found : Option Frame) (lanes : List RxValue) (d y : RxValue) → source < length lanes
    → IfSome found (λ frame. taken_of y ≡ taken_of (slice_index_or lanes source d) ++ frame ∷ [])
    → (found ≡ None → taken_of y ≡ taken_of (slice_index_or lanes source d)) → Takes source (those_of found) lanes (slice_set lanes source y)
takes_looked source None lanes d y within some none =
    takes_at source [] lanes d y within (none refl ∙ sym (append-nil (taken_of (slice_index_or lanes source d))))
takes_looked source (Some frame) lanes d y within some none = takes_at source (frame ∷ []) lanes d y within some

-- at first nothing came
pub took_nothing : (source : ℕ) (life : Life) → TookFrom source life life false
took_nothing source life = record { frames = []; lanes = takes_none source life.kit.from.items; rank = refl; took = refl; tally = refl; plan = refl; to = refl }

-- one frame came
pub took_frame : (source : ℕ) (old new : Life) (frame : Frame) → Takes source (frame ∷ []) old.kit.from.items new.kit.from.items
    → new.node.phase ≡ arrived_in old.node.phase source frame → new.kit.tally ≡ woken old.kit.tally → new.kit.plan ≡ old.kit.plan → new.kit.to ≡ old.kit.to
    → TookFrom source old new true
took_frame source old new frame takes came counted plan to =
    record { frames = frame ∷ []; lanes = takes; rank = came; took = refl; tally = counted; plan = plan; to = to }

-- none was there
pub took_none : (source : ℕ) (old new : Life) → Takes source [] old.kit.from.items new.kit.from.items → new.node.phase ≡ old.node.phase
    → new.kit.tally ≡ old.kit.tally → new.kit.plan ≡ old.kit.plan → new.kit.to ≡ old.kit.to → TookFrom source old new false
took_none source old new takes same counted plan to =
    record { frames = []; lanes = takes; rank = same; took = refl; tally = counted; plan = plan; to = to }

-- what came behind a look at the lane is all that came
pub took_behind : (source : ℕ) (old mid new : Life) (took : Bool) → Takes source [] old.kit.from.items mid.kit.from.items
    → mid ≡ record old { kit = record old.kit { from = mid.kit.from } } → TookFrom source mid new took → TookFrom source old new took
took_behind source old mid new took look same here = record {
  frames = here.frames;
  lanes = takes_behind source here.frames old.kit.from.items mid.kit.from.items new.kit.from.items look here.lanes;
  rank = here.rank ∙ ap (λ l. all_arrived l.node.phase source here.frames) same;
  took = here.took;
  tally = here.tally ∙ ap (λ l. all_taken l.kit.tally here.frames) same;
  plan = here.plan ∙ ap (λ l. l.kit.plan) same;
  to = here.to ∙ ap (λ l. l.kit.to) same;
}

-- some came, behind those before
pub took_more : (source : ℕ) (old mid new : Life) (took : Bool) → TookFrom source old mid took → TookFrom source mid new true
    → TookFrom source old new true
took_more source old mid new took before here = record {
  frames = before.frames ++ here.frames;
  lanes = takes_then source before.frames here.frames old.kit.from.items mid.kit.from.items new.kit.from.items before.lanes here.lanes;
  rank = here.rank ∙ ap (λ p. all_arrived p source here.frames) before.rank
      ∙ sym (arrived_then old.node.phase source before.frames here.frames);
  took = some_behind before.frames here.frames here.took;
  tally = here.tally ∙ ap (λ t. all_taken t here.frames) before.tally ∙ sym (taken_then old.kit.tally before.frames here.frames);
  plan = here.plan ∙ before.plan;
  to = here.to ∙ before.to;
}

-- none was there behind those before
pub took_no_more : (source : ℕ) (old mid new : Life) (took : Bool) → TookFrom source old mid took → TookFrom source mid new false
    → TookFrom source old new took
took_no_more source old mid new took before here = record {
  frames = before.frames ++ here.frames;
  lanes = takes_then source before.frames here.frames old.kit.from.items mid.kit.from.items new.kit.from.items before.lanes here.lanes;
  rank = here.rank ∙ ap (λ p. all_arrived p source here.frames) before.rank
      ∙ sym (arrived_then old.node.phase source before.frames here.frames);
  took = before.took ∙ none_behind before.frames here.frames here.took;
  tally = here.tally ∙ ap (λ t. all_taken t here.frames) before.tally ∙ sym (taken_then old.kit.tally before.frames here.frames);
  plan = here.plan ∙ before.plan;
  to = here.to ∙ before.to;
}

-- what one look more leaves
pub ruleset took_laws = (took_nothing, took_more, took_no_more)

-- before the first lane nothing came
pub took_before : (life : Life) → TookBelow 0 life life false
took_before life = (refl, refl)

-- one lane more
pub took_next : (k : ℕ) (old mid new : Life) (earlier last answer : Bool) → TookBelow k old mid earlier → TookFrom k mid new last
    → answer ≡ (last || earlier) → TookBelow (k + 1) old new answer
took_next k old mid new earlier last answer before from either =
    subst (λ n. TookBelow n old new answer) (sym (add-one k)) (mid, earlier, last, before, from, either)
