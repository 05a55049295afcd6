-- A step leaves what its rank keeps for others covered: of a rank that replays, and of one that runs.
use Rattle.std.proofs.Common.{ℕ, Bool, true, false, if◌then◌else◌, List}
use Rattle.std.proofs.Common.{Option, Some, None}
use Rattle.event_logger.specs.Sequential.Event.{EventValue}
use Rattle.event_logger.specs.declared.sequential.kind.Kind.{Kind}
use Rattle.event_logger.specs.declared.sequential.kind.Kind.TheVariants as kind
use Rattle.matching.specs.declared.packet.Context.{Context}
use Rattle.matching.specs.PacketValue as packet
use Rattle.payload_log.specs.Backlog.{backlog, saved, hold}
use Rattle.rank_machine.specs.Machine.{MachineValue}
use Rattle.rank_machine.specs.declared.want.Want.{Want}
use Rattle.rank_machine.specs.declared.want.Want.TheVariants as want
use Rattle.rank_node.specs.Waiting.{is_settled, has_room}
use Rattle.rank_node.specs.Steps.{step_at}
use Rattle.rank_node.specs.Steps.{received, probed, tried, message_of, after_send, after_print, made_send, made_print}
use Rattle.rank_node.specs.Steps.{after_hold, after_wait}
use Rattle.bare_world.specs.World.{Live}
use Rattle.bare_world.specs.Stands.{RankCovers}
use Rattle.checkpoint.specs.Image.{ImageValue}
use Rattle.rank_node.specs.Replay.{named, replayed_at, taken_named, shown_named, tried_named}
use Rattle.bare_world.proofs.Covers.KeptByEvents.{bases_with, base_at}

module _ (images : List (Option ImageValue)) (r : ℕ) (v : Live) (m : MachineValue) (left : List EventValue) (c : RankCovers images r v) where
  saved_covers : (d : ℕ) (context : Context) (t : ℕ) → RankCovers images r (record { rank = after_send v.rank m d context t; left = left })
  saved_covers d context t =
      record {
        bases = bases_with images r v.rank.log d (saved (backlog v.rank.log d) (message_of v.rank d context t))
            (base_at images r v.rank.log d c.bases) c.bases;
        dues = c.dues;
        since = c.since;
      }

  held_covers : (d : ℕ) (context : Context) (t : ℕ) → RankCovers images r (record { rank = after_hold v.rank m d context t; left = left })
  held_covers d context t =
      record {
        bases = bases_with images r v.rank.log d (hold (backlog v.rank.log d) (message_of v.rank d context t))
            (base_at images r v.rank.log d c.bases) c.bases;
        dues = c.dues;
        since = c.since;
      }

  same_covers : RankCovers images r (record { rank = v.rank; left = left })
  same_covers = record { bases = c.bases; dues = c.dues; since = c.since }

  print_covers : RankCovers images r (record { rank = after_print v.rank m; left = left })
  print_covers = record { bases = c.bases; dues = c.dues; since = c.since }

  taken_covers : (o : Option (ℕ × packet.PacketValue)) → RankCovers images r (record { rank = taken_named v.rank m o; left = left })
  taken_covers None = same_covers
  taken_covers (Some f) = record { bases = c.bases; dues = c.dues; since = c.since }

  shown_covers : (o : Option (ℕ × packet.PacketValue)) → RankCovers images r (record { rank = shown_named v.rank m o; left = left })
  shown_covers None = same_covers
  shown_covers (Some f) = print_covers

  tried_covers : (o : Option (ℕ × packet.PacketValue)) (k : Kind) → RankCovers images r (record { rank = tried_named v.rank m o k; left = left })
  tried_covers o kind.Hit = shown_covers o
  tried_covers o kind.Miss = print_covers
  tried_covers o kind.Misses = print_covers
  tried_covers o kind.Reception = same_covers

  pub replay_covers : (e : EventValue) (w : Want) → RankCovers images r (record { rank = replayed_at v.rank e w m; left = left })
  replay_covers e want.Internal = record { bases = c.bases; dues = c.dues; since = c.since }
  replay_covers e (want.Send d x t) = saved_covers d x t
  replay_covers e (want.Receive selector) = taken_covers (named v.rank e)
  replay_covers e (want.Probe selector) = shown_covers (named v.rank e)
  replay_covers e (want.TryProbe selector) = tried_covers (named v.rank e) e.kind
  replay_covers e (want.Print z) = print_covers
  replay_covers e want.Halted = same_covers
  replay_covers e (want.Faulted k) = same_covers

  received_covers : (o : Option (ℕ × packet.PacketValue)) → RankCovers images r (record { rank = received v.rank m o; left = left })
  received_covers None = same_covers
  received_covers (Some f) = record { bases = c.bases; dues = c.dues; since = c.since }

  probed_covers : (o : Option (ℕ × packet.PacketValue)) → RankCovers images r (record { rank = probed v.rank m o; left = left })
  probed_covers None = same_covers
  probed_covers (Some f) = record { bases = c.bases; dues = c.dues; since = c.since }

  tried_new_covers : (o : Option (ℕ × packet.PacketValue)) → RankCovers images r (record { rank = tried v.rank m o; left = left })
  tried_new_covers None = record { bases = c.bases; dues = c.dues; since = c.since }
  tried_new_covers (Some f) = record { bases = c.bases; dues = c.dues; since = c.since }

  pub step_covers : (w : Want) → RankCovers images r (record { rank = step_at v.rank w m; left = left })
  step_covers want.Internal = record { bases = c.bases; dues = c.dues; since = c.since }
  step_covers (want.Send d x t) = go (has_room v.rank.pending)
    where
      made : (b : Bool) → RankCovers images r (record { rank = if b then after_send v.rank m d x t else after_hold v.rank m d x t; left = left })
      made true = saved_covers d x t
      made false = held_covers d x t

      go : (b : Bool) → RankCovers images r (record { rank = if b then made_send v.rank m d x t else v.rank; left = left })
      go true = made (is_settled v.rank.pending)
      go false = same_covers
  step_covers (want.Receive selector) = received_covers _
  step_covers (want.Probe selector) = probed_covers _
  step_covers (want.TryProbe selector) = tried_new_covers _
  step_covers (want.Print z) = go (has_room v.rank.pending)
    where
      made : (b : Bool) → RankCovers images r (record { rank = if b then after_print v.rank m else after_wait v.rank m z; left = left })
      made true = print_covers
      made false = record { bases = c.bases; dues = c.dues; since = c.since }

      go : (b : Bool) → RankCovers images r (record { rank = if b then made_print v.rank m z else v.rank; left = left })
      go true = made (is_settled v.rank.pending)
      go false = same_covers
  step_covers want.Halted = same_covers
  step_covers (want.Faulted k) = same_covers
