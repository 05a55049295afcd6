-- What is outgoing is put and arrives at once until nothing is: that keeps what holds on the way, and drains its pair.
use Rattle.std.proofs.Common.{◌≡◌, ℕ, zero, suc, ◌≤◌, ◌⊎◌, inl, inr, ◌==◌, Bool, true, false, if◌then◌else◌, List, [], ◌∷◌, Option}
use Rattle.std.proofs.Common.{Some, None, length, refl, sym, ap, subst, ◌∙◌, arith, slice_set, slice_index_or}
use Rattle.matching.specs.PacketValue as packet
use Rattle.matching.specs.Inbox.{after_arrival}
use Rattle.payload_log.specs.Backlog.{backlog, next_of}
use Rattle.rank_node.specs.declared.due.Due.{Due}
use Rattle.rank_node.specs.declared.frame.Frame.{Frame}
use Rattle.rank_node.specs.declared.frame.Frame.TheVariants as frame
use Rattle.rank_node.specs.Node.{no_due}
use Rattle.rank_node.specs.Frames.{due_to, first_of, outgoing_of, sent_off, after_passed, after_frame, with_inbox}
use Rattle.bare_world.specs.declared.reply.Reply.{Reply}
use Rattle.bare_world.specs.World.{Rank, Live, WorldValue, IsLive}
use Rattle.bare_world.specs.Follows.{PutFollows, ArriveFollows}
use Rattle.bare_world.specs.Onward.{IsWorld}
use Rattle.bare_world.specs.Driven.{NoGaps, DrainedFrom, NoAskDue, FlushKeeps}
use Rattle.bare_world.proofs.Way.FramesPassNoRank.{who}
use Rattle.bare_world.proofs.Way.AllSentIsAccepted.{put_drained, arrive_drained, drained_more}
use Rattle.bare_world.proofs.Way.RoundPassesNoRank.{round_no_gaps}
use Rattle.bare_world.proofs.Again.PartsOfAct.{all_live_kept, through_kept}

-- nothing changes
pub flush_none : (w : WorldValue) → FlushKeeps w w
flush_none w = record { all_live = λ a. a; no_gaps = λ g. g; drained = λ s d g. g; asks = λ r s n. n; through = λ early t. t }

-- one after another
pub flush_more : (a b c : WorldValue) → FlushKeeps a b → FlushKeeps b c → FlushKeeps a c
flush_more a b c f g =
    record {
      all_live = λ x. g.all_live (f.all_live x);
      no_gaps = λ x. g.no_gaps (f.no_gaps x);
      drained = λ s d x. g.drained s d (f.drained s d x);
      asks = λ r s x. g.asks r s (f.asks r s x);
      through = λ early x. g.through early (f.through early x);
    }

-- where no Ask was due to a rank none is after a due went
none_set : (dues : List Due) (d s : ℕ) (x : Due) → ((slice_index_or dues d no_due).ask ≡ None → x.ask ≡ None) → (slice_index_or dues s no_due).ask ≡ None
    → (slice_index_or (slice_set dues d x) s no_due).ask ≡ None
none_set [] d s x f e = e
none_set (y ∷ dues) zero zero x f e = f e
none_set (y ∷ dues) zero (suc s) x f e = e
none_set (y ∷ dues) (suc d) zero x f e = e
none_set (y ∷ dues) (suc d) (suc s) x f e = none_set dues d s x f e

-- a rank that puts a frame has no Ask due where none was
put_asks : (v : Rank) (d s : ℕ) (o : Option Frame) → (due_to v s).ask ≡ None → (due_to (sent_off v d o) s).ask ≡ None
put_asks v d s None e = e
put_asks v d s (Some (frame.Ask n)) e = none_set v.dues d s (record { ask = None; kept = (due_to v d).kept }) (λ q. refl) e
put_asks v d s (Some (frame.Kept n)) e = none_set v.dues d s (record { ask = (due_to v d).ask; kept = None }) (λ q. q) e
put_asks v d s (Some (frame.Data p)) e = e

-- a rank at which a frame arrives has no Ask due where none was
pub arrive_asks : (v : Rank) (from s : ℕ) (f : Frame) → (due_to v s).ask ≡ None → (due_to (after_frame v from f) s).ask ≡ None
arrive_asks v from s (frame.Ask n) e = e
arrive_asks v from s (frame.Kept n) e = e
arrive_asks v from s (frame.Data p) e = go (p.source == from)
  where
    go : (b : Bool) → (due_to (if b then with_inbox v (after_arrival v.inbox p) else v) s).ask ≡ None
    go true = e
    go false = e

-- no rank has an Ask due where none had, if the one that changed gets none
pub asks_kept : (w w' : WorldValue) (r : ℕ) (x y : Live) → IsLive w r x → w'.ranks ≡ slice_set w.ranks r (Some y)
    → ((s : ℕ) → (due_to x.rank s).ask ≡ None → (due_to y.rank s).ask ≡ None) → (q s : ℕ) → NoAskDue q s w → NoAskDue q s w'
asks_kept w w' r x y live ranks keeps q s none v lv = go (who w w' r y ranks q v lv)
  where
    go : ((q ≡ r) × (v ≡ y)) ⊎ ((q ≡ r → ⊥) × IsLive w q v) → (due_to v.rank s).ask ≡ None
    go (inr h) = none v h.1
    go (inl h) = ap (λ z. (due_to z.rank s).ask) h.1 ∙ keeps s (none x (subst (λ k. IsLive w k x) (sym h.0) live))

-- the clock of a rank that put, or at which a frame arrived, is what it was
put_clock : (v : Rank) (d : ℕ) (o : Option Frame) → v.clock ≤ (sent_off v d o).clock
put_clock v d None = omega arith
put_clock v d (Some (frame.Ask n)) = omega arith
put_clock v d (Some (frame.Kept n)) = omega arith
put_clock v d (Some (frame.Data p)) = omega arith

-- a frame that arrives leaves the clock
arrive_clock : (v : Rank) (s : ℕ) (f : Frame) → v.clock ≤ (after_frame v s f).clock
arrive_clock v s (frame.Ask n) = omega arith
arrive_clock v s (frame.Kept n) = omega arith
arrive_clock v s (frame.Data p) = go (p.source == s)
  where
    go : (b : Bool) → v.clock ≤ (if b then with_inbox v (after_arrival v.inbox p) else v).clock
    go true = omega arith
    go false = omega arith

-- a frame that is put and arrives at once
pub round_keeps : (w mid w' : WorldValue) (s d : ℕ) (a b : Reply) (f : PutFollows w s d a mid) → ArriveFollows mid s d (length f.frames) b w'
    → IsWorld w → IsWorld mid → FlushKeeps w w'
round_keeps w mid w' s d a b f h i j =
    record {
      all_live = λ x. all_live_kept mid w' d h.before arrived h.live arrived_is (all_live_kept w mid s f.before put f.live put_is x);
      no_gaps = λ g. round_no_gaps w mid w' s d a b f h i.stands j.stands i.onward g;
      drained = λ q k g.
          arrive_drained (λ x y. (x ≡ q) × (y ≡ k)) mid w' s d (length f.frames) b h (put_drained (λ x y. (x ≡ q) × (y ≡ k)) w mid s d a f g);
      asks = λ q k n.
          asks_kept mid w' d h.before arrived h.live arrived_is (λ e z. arrive_asks h.before.rank s e h.frame z) q k
          (asks_kept w mid s f.before put f.live put_is (λ e z. put_asks f.before.rank d e (outgoing_of f.before.rank d) z) q k n);
      through = λ early t.
          through_kept mid w' d h.before arrived early h.live arrived_is (ap (λ z. z.run) h.after) (arrive_clock h.before.rank s h.frame)
          (through_kept w mid s f.before put early f.live put_is (ap (λ z. z.run) f.after) (put_clock f.before.rank d (outgoing_of f.before.rank d)) t);
    }
  where
    put : Live
    put = record { rank = after_passed f.before.rank d; left = f.before.left }

    put_is : mid.ranks ≡ slice_set w.ranks s (Some put)
    put_is = ap (λ z. z.ranks) f.after

    arrived : Live
    arrived = record { rank = after_frame h.before.rank s h.frame; left = h.before.left }

    arrived_is : w'.ranks ≡ slice_set mid.ranks d (Some arrived)
    arrived_is = ap (λ z. z.ranks) h.after

-- ---- nothing is outgoing

-- where no frame is outgoing, no Ask is due
first_none : (a b : Option ℕ) (o : Option packet.PacketValue) → first_of a b o ≡ None → a ≡ None
first_none (Some x) b o e = absurd cc
first_none None b o e = refl

-- no Ask is due then
pub gone_asks : (w : WorldValue) (s d : ℕ) → ((u : Live) → IsLive w s u → outgoing_of u.rank d ≡ None) → NoAskDue s d w
gone_asks w s d gone v live = first_none (due_to v.rank d).ask (due_to v.rank d).kept (next_of (backlog v.rank.log d)) (gone v live)

-- and the pair is drained, where no rank was passed by
pub gone_drained : (w : WorldValue) (s d : ℕ) → IsWorld w → NoGaps w → ((u : Live) → IsLive w s u → outgoing_of u.rank d ≡ None) → DrainedFrom s d w
gone_drained w s d i g gone a b u v ok lu lv behind =
    drained_more (λ x y. ⊥) w s d i.stands i.onward g gone (λ x y p q never lp lq c. absurd never) a b u v (inr ok) lu lv behind
