-- An image keeps what a world stands for, what senders keep, and the counts of events.
use Rattle.std.proofs.Common.{◌≡◌, ℕ, ◌<◌, ◌⊎◌, inl, inr, List, [], Option, Some, refl, sym, ap, subst, ◌∙◌, slice_get, slice_set}
use Rattle.std.proofs.lemmas.List.{length-set}
use Rattle.std.proofs.lemmas.Option.{slice_get_within}
use Rattle.checkpoint.specs.Image.{ImageValue}
use Rattle.event_logger.specs.Sequential.Event.{EventValue}
use Rattle.rank_node.specs.Image.{image_of, begins_at, kepts_due, after_image}
use Rattle.bare_world.specs.declared.reply.Reply.{Reply}
use Rattle.bare_world.specs.World.{Live, WorldValue, size}
use Rattle.bare_world.specs.Headline.{stable_of}
use Rattle.bare_world.specs.Counts.{RankCounts, Counts}
use Rattle.bare_world.specs.Stands.{start_at, ImageStands, RankStands, StandsAt}
use Rattle.bare_world.specs.Follows.{ImageFollows}
use Rattle.bare_world.proofs.Lists.Replaced.{slice_set-get}
use Rattle.bare_world.proofs.Standing.LiveRanks.{RankStands-same_clock}
use Rattle.bare_world.proofs.Standing.Worlds.{Goes, changed, replaced}
use Rattle.bare_world.proofs.Standing.KeptByCrashes.{resized}
use Rattle.bare_world.proofs.Runs.CountsKept.{Counts-rank}
use Rattle.bare_world.proofs.Standing.ImageStands.{ImageStands-taken}
use Rattle.bare_world.proofs.Covers.KeptByImages.{Covers-imaged}

-- an image is taken, and its rank changes
Stands-imaged : (n : ℕ) (w : WorldValue) (r : ℕ) (v : Live) (i : ImageValue) → StandsAt n w
    → RankStands (start_at w n) n w.run r v → ImageStands (start_at w n) n w.run r i
    → StandsAt n (changed w r (Some v) (slice_set w.images r (Some i)) w.logger w.lines w.run)
Stands-imaged n w r v i s k j =
    record {
      is_run = s.is_run;
      missed = s.missed;
      as_many_rows = s.as_many_rows;
      rows = s.rows;
      as_many_wires = s.as_many_wires;
      wires_to_all = s.wires_to_all;
      packets = s.packets;
      lines = s.lines;
      as_many_images = length-set w.images r (Some i) ∙ s.as_many_images;
      images = λ q o e. go q o (slice_set-get w.images r q o (Some i) e);
      ranks =
          replaced n (start_at w n) w.run w.ranks r (Some v) (λ q u ne e. s.ranks q u e)
          (λ u e. (let q : v ≡ u = cc in subst (λ z. RankStands (start_at w n) n w.run r z) q k));
    }
  where
    go : (q : ℕ) (o : Option ImageValue) → ((q ≡ r) × (o ≡ Some i)) ⊎ ((q ≡ r → ⊥) × (slice_get w.images q ≡ Some o))
        → ImageStands (start_at w n) n w.run q (begins_at w.program q n o)
    go q o (inr h) = s.images q o h.1
    go q o (inl h) =
        subst (λ z. ImageStands (start_at w n) n w.run q (begins_at w.program q n z)) (sym h.1)
        (subst (λ z. ImageStands (start_at w n) n w.run z i) (sym h.0) j)

-- what goes with the run, and what senders may drop
pub Stands-image : (w : WorldValue) (r : ℕ) (answer : Reply) (w' : WorldValue) → Goes w → ImageFollows w r answer w' → Goes w'
Stands-image w r answer w' s f =
    subst (λ z. Goes z) (sym f.after)
    (record {
      run =
          resized w (changed w r (Some v) (slice_set w.images r (Some (image_of f.before.rank))) w.logger w.lines w.run) (length-set w.ranks r (Some v))
          (Stands-imaged (size w) w r v (image_of f.before.rank) s.run k
          (ImageStands-taken (start_at w (size w)) (size w) w.run r f.before old f.settled));
      covers =
          Covers-imaged w (changed w r (Some v) (slice_set w.images r (Some (image_of f.before.rank))) w.logger w.lines w.run) r f.before v f.live
          (subst (λ z. r < z) (sym s.run.as_many_images) (slice_get_within w.ranks r (Some f.before) f.live)) refl refl refl refl refl refl s.covers;
    })
  where
    v : Live
    v = record { rank = after_image f.before.rank (stable_of (size w) r f.shelf); left = [] }

    old : RankStands (start_at w (size w)) (size w) w.run r f.before
    old = s.run.ranks r f.before f.live

    k : RankStands (start_at w (size w)) (size w) w.run r (record { rank = after_image f.before.rank (stable_of (size w) r f.shelf); left = [] })
    k =
        subst (λ z. RankStands (start_at w (size w)) (size w) w.run r
        (record { rank = after_image f.before.rank (stable_of (size w) r f.shelf); left = z })) f.running
        (RankStands-same_clock (start_at w (size w)) (size w) w.run r f.before old (stable_of (size w) r f.shelf) f.before.rank.machine
        f.before.rank.inbox f.before.rank.log (kepts_due f.before.rank.inbox.accepted f.before.rank.dues) refl refl old.logs old.at)

-- an image makes no event
pub Counts-image : (w : WorldValue) (r : ℕ) (answer : Reply) (w' : WorldValue) → Counts w → ImageFollows w r answer w' → Counts w'
Counts-image w r answer w' c f =
    Counts-rank w w' r (Some v) (ap (λ z. z.ranks) f.after) (ap (λ z. z.logger.rows) f.after)
    (λ x events e there. (let q : v ≡ x = cc in subst (λ z. RankCounts z events) q (counts events there))) c
  where
    v : Live
    v = record { rank = after_image f.before.rank (stable_of (size w) r f.shelf); left = [] }

    counts : (events : List EventValue) → slice_get w.logger.rows r ≡ Some events
        → RankCounts (record { rank = after_image f.before.rank (stable_of (size w) r f.shelf); left = [] }) events
    counts events there = (let k = c.ranks r f.before events f.live there in record { made = k.made; few = k.few })
