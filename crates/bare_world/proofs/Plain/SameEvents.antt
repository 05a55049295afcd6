-- What an event does to a world it does to the world without runs of misses too: frames, acknowledgments, releases, images and
-- crashes.
use Rattle.std.proofs.Common.{◌≡◌, ℕ, ◌-◌, Bool, true, false, ◌==◌, if◌then◌else◌, List, [], ◌∷◌, ◌++◌, Option, Some, None, drop, refl, sym, ap}
use Rattle.std.proofs.Common.{subst, ◌∙◌}
use Rattle.std.proofs.Common.{slice_get, slice_set, option_and_then, option_map}
use Rattle.matching.specs.Inbox.{after_arrival}
use Rattle.checkpoint.specs.Shelf.{image_bytes}
use Rattle.rank_node.specs.declared.frame.Frame.{Frame}
use Rattle.rank_node.specs.declared.frame.Frame.TheVariants as frame
use Rattle.rank_node.specs.declared.waiting.Waiting.{Waiting}
use Rattle.rank_node.specs.declared.waiting.Waiting.TheVariants as waits
use Rattle.rank_node.specs.Waiting.{event_in, BeginsWithEvents}
use Rattle.rank_node.specs.Frames.{outgoing_of, sent_off, after_passed, arrival_of, after_frame, with_inbox}
use Rattle.rank_node.specs.Storing.{after_ack}
use Rattle.rank_node.specs.Releasing.{effect_of, after_release, released_log}
use Rattle.rank_node.specs.Image.{image_of, image_on, after_image}
use Rattle.bare_world.specs.declared.reply.Reply.{Reply}
use Rattle.bare_world.specs.World.{Rank, Live, WorldValue, size}
use Rattle.bare_world.specs.Headline.{stable_of}
use Rattle.bare_world.specs.Plain.{plainly, plain_rank, plain, without_runs}
use Rattle.bare_world.specs.Follows.{PutFollows, ArriveFollows, AckFollows, ReleaseFollows, ImageFollows, CrashFollows, arrived_as, released_act}
use Rattle.bare_world.specs.Follows.{lines_released, passed_at}
use Rattle.bare_world.proofs.Lists.Beginnings.{drop_zero}
use Rattle.bare_world.proofs.Standing.Pending.{begins_effect}
use Rattle.bare_world.proofs.Standing.KeptByReleases.{effect_there}
use Rattle.bare_world.proofs.Plain.EffectsAndLeft.{plainly_less}
use Rattle.bare_world.proofs.Plain.Ranks.{none_waits_plainly, none_left_plainly}
use Rattle.bare_world.proofs.Plain.Worlds.{map_set, same_size, live_plainly, set_plainly}

-- ---- frames

-- a frame has gone
sent_plainly : (v : Live) (d : ℕ) (o : Option Frame)
    → plain (record { rank = sent_off v.rank d o; left = v.left }) ≡ record { rank = sent_off (plain_rank v.rank) d o; left = (plain v).left }
sent_plainly v d None = refl
sent_plainly v d (Some (frame.Ask n)) = refl
sent_plainly v d (Some (frame.Kept n)) = refl
sent_plainly v d (Some (frame.Data p)) = refl

-- a frame is put
pub put_plainly : (w : WorldValue) (s d : ℕ) (answer : Reply) (w' : WorldValue) → PutFollows w s d answer w'
    → PutFollows (without_runs w) s d answer (without_runs w')
put_plainly w s d answer w' f =
    record {
      before = plain f.before;
      live = live_plainly w s f.before f.live;
      frame = f.frame;
      next = f.next;
      of_s = f.of_s;
      wires = f.wires;
      frames = f.frames;
      wire = f.wire;
      answered = f.answered;
      after =
          ap without_runs f.after
          ∙ ap (λ z. record (without_runs w) { ranks = z; wires = slice_set w.wires s (slice_set f.of_s d (f.frames ++ f.frame ∷ [])) })
          (set_plainly w.ranks s (record { rank = after_passed f.before.rank d; left = f.before.left })
          (record { rank = after_passed (plain_rank f.before.rank) d; left = (plain f.before).left })
          (sent_plainly f.before d (outgoing_of f.before.rank d)));
    }

-- a frame arrives at a rank
framed_plainly : (v : Live) (from : ℕ) (x : Frame)
    → plain (record { rank = after_frame v.rank from x; left = v.left }) ≡ record { rank = after_frame (plain_rank v.rank) from x; left = (plain v).left }
framed_plainly v from (frame.Ask n) = refl
framed_plainly v from (frame.Kept n) = refl
framed_plainly v from (frame.Data p) = go (p.source == from)
  where
    go : (b : Bool)
        → plain (record { rank = if b then with_inbox v.rank (after_arrival v.rank.inbox p) else v.rank; left = v.left })
        ≡ record { rank = if b then with_inbox (plain_rank v.rank) (after_arrival v.rank.inbox p) else plain_rank v.rank; left = (plain v).left }
    go true = refl
    go false = refl

-- and is answered alike
answered_plainly : (v : Rank) (from : ℕ) (x : Frame) → arrival_of (plain_rank v) from x ≡ arrival_of v from x
answered_plainly v from (frame.Ask n) = refl
answered_plainly v from (frame.Kept n) = refl
answered_plainly v from (frame.Data p) = refl

-- a frame arrives
pub arrive_plainly : (w : WorldValue) (s d i : ℕ) (answer : Reply) (w' : WorldValue) → ArriveFollows w s d i answer w'
    → ArriveFollows (without_runs w) s d i answer (without_runs w')
arrive_plainly w s d i answer w' f =
    record {
      before = plain f.before;
      live = live_plainly w d f.before f.live;
      frames = f.frames;
      wire = f.wire;
      frame = f.frame;
      there = f.there;
      answered = ap arrived_as (answered_plainly f.before.rank s f.frame) ∙ f.answered;
      after =
          ap without_runs f.after
          ∙ ap (λ z. record (without_runs w) { ranks = z })
          (set_plainly w.ranks d (record { rank = after_frame f.before.rank s f.frame; left = f.before.left })
          (record { rank = after_frame (plain_rank f.before.rank) s f.frame; left = (plain f.before).left })
          (framed_plainly f.before s f.frame));
    }

-- ---- the gate

-- the oldest stored event is acknowledged
pub ack_plainly : (w : WorldValue) (r : ℕ) (answer : Reply) (w' : WorldValue) → AckFollows w r answer w'
    → AckFollows (without_runs w) r answer (without_runs w')
ack_plainly w r answer w' f =
    record {
      before = plain f.before;
      live = live_plainly w r f.before f.live;
      some = f.some;
      answered = f.answered;
      after =
          ap without_runs f.after
          ∙ ap (λ z. record (without_runs w) { ranks = z })
          (set_plainly w.ranks r (record { rank = after_ack f.before.rank; left = f.before.left })
          (record { rank = after_ack (plain_rank f.before.rank); left = (plain f.before).left })
          (ap (λ z. record { rank = record f.before.rank { made = 0; pending = z; stored = f.before.rank.stored - 1 }; left = (plain f.before).left })
          (plainly_less f.before.rank.stored f.before.rank.pending f.some)));
    }

-- an effect waits as it did
pub effect_plainly : (x : Waiting) (xs : List Waiting) → event_in x ≡ None → plainly 0 (x ∷ xs) ≡ x ∷ plainly 0 xs
effect_plainly (waits.Event e) xs n = absurd cc
effect_plainly (waits.Send d c) xs n = refl
effect_plainly (waits.Line c v) xs n = refl

-- and is of the same act
act_plainly : (v : Rank) (x : Waiting) → released_act (plain_rank v) x ≡ released_act v x
act_plainly v (waits.Event e) = refl
act_plainly v (waits.Send d c) = refl
act_plainly v (waits.Line c z) = refl

-- the oldest effect is released
pub release_plainly : (w : WorldValue) (r : ℕ) (answer : Reply) (w' : WorldValue) → (f : ReleaseFollows w r answer w')
    → BeginsWithEvents f.before.rank.stored f.before.rank.pending → ReleaseFollows (without_runs w) r answer (without_runs w')
release_plainly w r answer w' f begins =
    record {
      before = plain f.before;
      live = live_plainly w r f.before f.live;
      effect = f.effect;
      oldest = ap (λ z. option_and_then effect_of (slice_get z 0)) is ∙ sym (ap (λ z. option_and_then effect_of (slice_get z 0)) there.0) ∙ f.oldest;
      clock = f.clock;
      of_it = f.of_it;
      answered = f.answered;
      act = f.act;
      passes = act_plainly f.before.rank f.effect ∙ f.passes;
      after =
          ap without_runs f.after
          ∙ ap (λ z. record (without_runs w) {
            ranks = z;
            lines = lines_released w.lines r f.effect;
            run = passed_at w.run r f.clock (Some f.act);
          })
          (set_plainly w.ranks r (record { rank = after_release f.before.rank f.effect; left = f.before.left })
          (record { rank = after_release (plain_rank f.before.rank) f.effect; left = (plain f.before).left })
          (ap (λ z. record {
            rank = record f.before.rank { made = 0; log = released_log f.before.rank.log f.effect; pending = z };
            left = (plain f.before).left;
          })
          rest));
    }
  where
    there : (f.before.rank.pending ≡ f.effect ∷ drop 1 f.before.rank.pending) × (event_in f.effect ≡ None)
    there = effect_there f.before.rank.pending f.effect f.oldest

    none_stored : f.before.rank.stored ≡ 0
    none_stored =
        begins_effect f.before.rank.stored f.effect (drop 1 f.before.rank.pending) there.1
        (subst (λ z. BeginsWithEvents f.before.rank.stored z) there.0 begins)

    is : plainly f.before.rank.stored f.before.rank.pending ≡ f.effect ∷ plainly 0 (drop 1 f.before.rank.pending)
    is =
        ap (λ z. plainly z f.before.rank.pending) none_stored ∙ ap (λ z. plainly 0 z) there.0
        ∙ effect_plainly f.effect (drop 1 f.before.rank.pending) there.1

    rest : plainly f.before.rank.stored (drop 1 f.before.rank.pending) ≡ drop 1 (plainly f.before.rank.stored f.before.rank.pending)
    rest =
        ap (λ z. plainly z (drop 1 f.before.rank.pending)) none_stored ∙ sym (drop_zero (plainly 0 (drop 1 f.before.rank.pending)))
        ∙ sym (ap (λ z. drop 1 z) is)

-- ---- images and crashes

-- an image is taken
pub image_plainly : (w : WorldValue) (r : ℕ) (answer : Reply) (w' : WorldValue) → ImageFollows w r answer w'
    → ImageFollows (without_runs w) r answer (without_runs w')
image_plainly w r answer w' f =
    record {
      before = plain f.before;
      live = live_plainly w r f.before f.live;
      running = none_left_plainly f.before f.running;
      settled = none_waits_plainly f.before f.settled;
      shelf = f.shelf;
      held = ap (λ n. image_on w.program r n (image_bytes f.shelf.image)) (same_size w) ∙ f.held;
      answered = f.answered;
      after =
          ap without_runs f.after
          ∙ ap (λ z. record (without_runs w) { ranks = z; images = slice_set w.images r (Some (image_of f.before.rank)) })
          (set_plainly w.ranks r (record { rank = after_image f.before.rank (stable_of (size w) r f.shelf); left = [] })
          (record { rank = after_image (plain_rank f.before.rank) (stable_of (size (without_runs w)) r f.shelf); left = [] })
          (ap (λ n. record { rank = after_image (plain_rank f.before.rank) (stable_of n r f.shelf); left = [] }) (sym (same_size w))));
    }

-- a rank crashes
pub crash_plainly : (w : WorldValue) (r : ℕ) (answer : Reply) (w' : WorldValue) → CrashFollows w r answer w'
    → CrashFollows (without_runs w) r answer (without_runs w')
crash_plainly w r answer w' f =
    record {
      before = plain f.before;
      live = live_plainly w r f.before f.live;
      answered = f.answered;
      after = ap without_runs f.after ∙ ap (λ z. record (without_runs w) { ranks = z }) (map_set (option_map plain) w.ranks r None);
    }
