-- What waits at the gate neither grows nor shrinks where a frame arrives or goes out.
use Rattle.std.specs.Prelude.{◌≡◌, ℕ, ◌==◌, Bool, true, false, if◌then◌else◌, Option, Some, None}
use Rattle.std.proofs.Common.{refl}
use Rattle.matching.specs.Inbox.{after_arrival}
use Rattle.rank_node.specs.declared.frame.Frame.{Frame}
use Rattle.rank_node.specs.declared.frame.Frame.TheVariants as frame
use Rattle.rank_node.specs.Node.{Node}
use Rattle.rank_node.specs.Frames.{after_frame, after_passed, outgoing_of, sent_off, with_inbox}

-- an arrival
pub after_frame_pending : {S D : Type 0} (v : Node S D) (from : ℕ) (f : Frame) → (after_frame v from f).pending ≡ v.pending
after_frame_pending v from (frame.Data packet) = go (packet.source == from)
  where
    go : (b : Bool) → (if b then with_inbox v (after_arrival v.inbox packet) else v).pending ≡ v.pending
    go true = refl
    go false = refl
after_frame_pending v from (frame.Ask number) = refl
after_frame_pending v from (frame.Kept number) = refl

-- what goes out
pub after_passed_pending : {S D : Type 0} (v : Node S D) (dest : ℕ) → (after_passed v dest).pending ≡ v.pending
after_passed_pending v dest = go (outgoing_of v dest)
  where
    go : (f : Option Frame) → (sent_off v dest f).pending ≡ v.pending
    go None = refl
    go (Some (frame.Data packet)) = refl
    go (Some (frame.Ask number)) = refl
    go (Some (frame.Kept number)) = refl
