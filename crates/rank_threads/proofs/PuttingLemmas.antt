-- Into which of a rank's lanes a frame goes.
use Rattle.std.proofs.Common.{◌≡◌, ◌≢◌, ℕ, zero, suc, ◌+◌, ◌<◌, ◌≤◌, List, [], ◌∷◌, ◌++◌, Option, Some, None, length, slice_index_or, slice_set}
use Rattle.std.proofs.Common.{refl, sym, subst, ap, ◌∙◌, append_assoc, append-nil, arith, ◌⊎◌, inl, inr}
use Rattle.std.proofs.lemmas.Bool.{cases_lt}
use Rattle.std.specs.Prelude.{false, is_some}
use Rattle.ports.specs.Lanes.{TxValue, put_of}
use Rattle.rank_threads.specs.Costs.{after_put, all_put, kind_of}
use Rattle.rank_threads.specs.Putting.{HasNothing, KeepsOthers, NothingBelow, PutAll, Puts, PutsInto, Stays}
use Rattle.checkpoint.specs.declared.memory_shelf.MemoryShelf.{MemoryShelf}
use Rattle.event_logger.specs.Desks.{DeskValue}
use Rattle.payload_log.specs.Backlog.{backlog, next_of}
use Rattle.rank_node.specs.Frames.{due_to, first_of, outgoing_of, sent_off}
use Rattle.rank_node.specs.Node.{Node, no_due}
use Rattle.rank_node.specs.Phases.{outgoing_in, passed_in}
use Rattle.rank_node.specs.declared.frame.Frame.{Frame}
use Rattle.rank_node.specs.declared.frame.Frame.TheVariants as frame
use Rattle.rank_node.specs.declared.phase.Phase.TheVariants as phase
use Rattle.rank_threads.specs.Phases.{Phase}
use Rattle.rank_threads.specs.declared.costs.FrameKind.{FrameKind}
use Rattle.rank_threads.specs.declared.life.Life.{Life}
use Rattle.rank_threads.specs.declared.meter.Meter.{Meter}
use Rattle.rank_threads.specs.declared.node.frames.PutResult.{PutResult}
use Rattle.rank_threads.specs.declared.node.frames.PutResult.TheVariants as put_result

-- what was set at a place stands there
pub set_here : {A : Type 0} (xs : List A) (i : ℕ) (y d : A) → i < length xs → slice_index_or (slice_set xs i y) i d ≡ y
set_here [] i y d within = absurd (omega (arith, within))
set_here (x ∷ xs) zero y d within = refl
set_here (x ∷ xs) (suc i) y d within = set_here xs i y d (omega (arith, within))

-- at a place within a list stands the same, whatever would stand past its end
pub same_there : {A : Type 0} (xs : List A) (i : ℕ) (d e : A) → i < length xs → slice_index_or xs i d ≡ slice_index_or xs i e
same_there [] i d e within = absurd (omega (arith, within))
same_there (x ∷ xs) zero d e within = refl
same_there (x ∷ xs) (suc i) d e within = same_there xs i d e (omega (arith, within))

-- at the other places stands what stood there
pub set_elsewhere : {A : Type 0} (xs : List A) (i k : ℕ) (y d : A) → k ≢ i → slice_index_or (slice_set xs i y) k d ≡ slice_index_or xs k d
set_elsewhere [] i k y d apart = refl
set_elsewhere (x ∷ xs) zero zero y d apart = absurd (apart refl)
set_elsewhere (x ∷ xs) zero (suc k) y d apart = refl
set_elsewhere (x ∷ xs) (suc i) zero y d apart = refl
set_elsewhere (x ∷ xs) (suc i) (suc k) y d apart = set_elsewhere xs i k y d (λ same. apart (ap suc same))

-- what a frame does to the rank by itself
stays : (went : PutResult) (p q : Phase) (dest : ℕ) (put put' : List Frame) → Puts went p dest put q put' → Stays went p dest q
stays (put_result.Gone kind) p q dest put put' puts = record { frame = puts.frame; outgoing = puts.outgoing; is_kind = puts.is_kind }
stays put_result.Full p q dest put put' puts = puts.0

-- what goes into the lane at a place goes into no other
pub puts_into : (went : PutResult) (p q : Phase) (dest : ℕ) (lanes : List TxValue) (d y : TxValue) → dest < length lanes
    → Puts went p dest (put_of (slice_index_or lanes dest d)) q (put_of y) → PutsInto went p dest lanes q (slice_set lanes dest y)
puts_into went p q dest lanes d y within puts = record {
  lane = λ e. rw (set_here lanes dest y e within, same_there lanes dest e d within) puts;
  others = λ k e apart. set_elsewhere lanes dest k y e apart;
  rank = stays went p q dest _ _ puts;
}

-- where nothing goes to the ranks below this one, and a put to this one leaves nothing to it, nothing
-- goes to those below the next
pub nothing_next : (k : ℕ) (p q : Phase) → NothingBelow k p → KeepsOthers k p q → HasNothing q k → NothingBelow (k + 1) q
nothing_next k p q below others here dest low = go (cases_lt dest k)
  where
    go : (dest < k) ⊎ (k ≤ dest) → HasNothing q dest
    go (inl less) = (let apart : dest ≢ k = omega (arith, less) in others dest apart ∙ below dest less)
    go (inr more) = (let same : k ≡ dest = omega (arith, low, more) in subst (HasNothing q) same here)

-- what goes to the others stays where nothing is done
pub none_other : (dest : ℕ) (p q : Phase) → q ≡ p → KeepsOthers dest p q
none_other dest p q same other apart = ap (λ o. outgoing_in o other) same

-- and where this is done twice
pub others_on : (dest : ℕ) (p q r : Phase) → KeepsOthers dest p q → KeepsOthers dest q r → KeepsOthers dest p r
others_on dest p q r one two other apart = two other apart ∙ one other apart

-- a frame that has gone to a rank was none to another
sent_elsewhere : (v : Node MemoryShelf DeskValue) (dest : ℕ) (f : Option Frame) (other : ℕ) → other ≢ dest
    → outgoing_of (sent_off v dest f) other ≡ outgoing_of v other
sent_elsewhere v dest None other apart = refl
sent_elsewhere v dest (Some (frame.Ask number)) other apart =
    ap (λ d. first_of d.ask d.kept (next_of (backlog v.log other))) (set_elsewhere v.dues dest other _ no_due apart)
sent_elsewhere v dest (Some (frame.Kept number)) other apart =
    ap (λ d. first_of d.ask d.kept (next_of (backlog v.log other))) (set_elsewhere v.dues dest other _ no_due apart)
sent_elsewhere v dest (Some (frame.Data packet)) other apart =
    ap (λ b. first_of (due_to v other).ask (due_to v other).kept (next_of b)) (set_elsewhere v.log dest other _ _ apart)

-- so of a rank in any phase
pub passed_others : (dest : ℕ) (p q : Phase) → q ≡ passed_in p dest → KeepsOthers dest p q
passed_others dest p q gone other apart = ap (λ o. outgoing_in o other) gone ∙ go p
  where
    go : (o : Phase) → outgoing_in (passed_in o dest) other ≡ outgoing_in o other
    go (phase.Running v) = sent_elsewhere v dest (outgoing_of v dest) other apart
    go (phase.Replaying r) = sent_elsewhere r.node dest (outgoing_of r.node dest) other apart
    go (phase.Down s) = refl

-- where nothing went, all lanes are as they were
pub no_lane : (p : Phase) (dest : ℕ) (lanes : List TxValue) → PutsInto put_result.Full p dest lanes p lanes
no_lane p dest lanes = record { lane = λ d. (refl, refl); others = λ k d apart. refl; rank = refl }

-- the frame, if there is one
abbrev frame_or : Frame → Option Frame → Frame
frame_or d None = d
frame_or d (Some frame) = frame

-- only one frame is outgoing
same_frame : (p : Phase) (dest : ℕ) (a b : Frame) → outgoing_in p dest ≡ Some a → outgoing_in p dest ≡ Some b → a ≡ b
same_frame p dest a b one other = ap (frame_or a) (sym one ∙ other)

-- frames are counted, and then one more
put_then : (m : Meter) (dest : ℕ) (frames : List Frame) (frame : Frame)
    → all_put m dest (frames ++ frame ∷ []) ≡ after_put (all_put m dest frames) dest (kind_of frame)
put_then m dest [] frame = refl
put_then m dest (first ∷ frames) frame = put_then (after_put m dest (kind_of first)) dest frames frame

-- at first nothing went
pub put_nothing : (dest : ℕ) (life : Life) → PutAll dest life life
put_nothing dest life =
    record { frames = []; lane = λ d. sym (append-nil (put_of (slice_index_or life.kit.to.items dest d))); meter = refl }

-- one frame more went, behind those before
pub put_more : (dest : ℕ) (old mid new : Life) (kind : FrameKind) (p q : Phase) → PutAll dest old mid
    → PutsInto (put_result.Gone kind) p dest mid.kit.to.items q new.kit.to.items → new.kit.meter ≡ after_put mid.kit.meter dest kind → PutAll dest old new
put_more dest old mid new kind p q before here counted =
    let frame = here.rank.frame in
    record {
      frames = before.frames ++ frame ∷ [];
      lane = λ d.
          let one = here.lane d in
          one.last
          ∙ ap (λ f. put_of (slice_index_or mid.kit.to.items dest d) ++ f ∷ []) (same_frame p dest one.frame frame one.outgoing here.rank.outgoing)
          ∙ ap (λ put. put ++ frame ∷ []) (before.lane d)
          ∙ append_assoc (put_of (slice_index_or old.kit.to.items dest d)) before.frames (frame ∷ []);
      meter =
          counted ∙ ap (after_put mid.kit.meter dest) here.rank.is_kind ∙ ap (λ m. after_put m dest (kind_of frame)) before.meter
          ∙ sym (put_then old.kit.meter dest before.frames frame);
    }

-- the lane was full
pub put_full : (dest : ℕ) (old mid new : Life) (p q : Phase) → PutAll dest old mid → PutsInto put_result.Full p dest mid.kit.to.items q new.kit.to.items
    → new.kit.meter ≡ mid.kit.meter → PutAll dest old new
put_full dest old mid new p q before here same =
    record { frames = before.frames; lane = λ d. (here.lane d).1 ∙ before.lane d; meter = same ∙ before.meter }

-- where it is said that nothing is outgoing, nothing is
pub none_outgoing : (p : Phase) (dest : ℕ) → is_some (outgoing_in p dest) ≡ false → HasNothing p dest
none_outgoing p dest none = go (outgoing_in p dest) none
  where
    go : (found : Option Frame) → is_some found ≡ false → found ≡ None
    go None none = refl
    go (Some frame) none = absurd cc

-- what touches no lane and counts nothing leaves it so
pub put_kept : (dest : ℕ) (old mid new : Life) → PutAll dest old mid → new.kit.to ≡ mid.kit.to → new.kit.meter ≡ mid.kit.meter → PutAll dest old new
put_kept dest old mid new before to same = record {
  frames = before.frames;
  lane = λ d. ap (λ lanes. put_of (slice_index_or lanes.items dest d)) to ∙ before.lane d;
  meter = same ∙ before.meter;
}

-- what one frame more leaves
pub ruleset put_laws = (put_nothing, put_more, put_full, none_outgoing, put_kept, none_other, others_on)

-- what one frame leaves to the others
pub ruleset others_laws = (none_other, passed_others)
