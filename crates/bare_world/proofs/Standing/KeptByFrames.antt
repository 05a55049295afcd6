-- Frames that are put and frames that arrive keep what a world stands for, whether their rank replays or not.
use Rattle.std.proofs.Common.{◌≡◌, ℕ, zero, suc, ◌+◌, ◌<◌, Bool, true, false, ◌==◌, if◌then◌else◌, List, []}
use Rattle.std.proofs.Common.{◌∷◌, Option, Some, None, length, take, refl, sym, subst, ◌∙◌, arith, slice_get, slice_set}
use Rattle.std.proofs.Common.{slice_index_or}
use Rattle.std.proofs.lemmas.List.{length-set}
use Rattle.std.proofs.lemmas.Option.{slice_get_within, slice_get-get_or}
use Rattle.matching.specs.PacketValue as packet
use Rattle.matching.specs.Inbox.{after_arrival}
use Rattle.payload_log.specs.Backlog.{BacklogValue, backlog, asked, pruned, passed, next_of, new_backlog}
use Rattle.rank_machine.specs.Acts.{Act, Message, carried, sends, takes, hits, misses, prints}
use Rattle.rank_node.specs.declared.due.Due.{Due}
use Rattle.rank_node.specs.declared.frame.Frame.{Frame}
use Rattle.rank_node.specs.declared.frame.Frame.TheVariants as frame
use Rattle.rank_node.specs.Node.{no_due}
use Rattle.rank_node.specs.Frames.{outgoing_of, first_of, due_to, sent_off, after_passed, after_frame, with_log, with_dues, with_inbox}
use Rattle.crash_free.specs.Runs.{at_place, history, History, sent, sends_from, continue, send_at, cons_if}
use Rattle.bare_world.specs.World.{Live, WorldValue, size, IsLive, covered}
use Rattle.bare_world.specs.Headline.{IsReal}
use Rattle.bare_world.specs.Follows.{PutFollows, ArriveFollows}
use Rattle.bare_world.proofs.Standing.PayloadLogs.{LogStands-passed, LogStands-asked, LogStands-pruned, base_pruned, next_is_real}
use Rattle.bare_world.specs.declared.reply.Reply.{Reply}
use Rattle.bare_world.proofs.Lists.Replaced.{replaced_keeps}
use Rattle.bare_world.proofs.Standing.InboxAfterArrival.{InboxStands-arrived, after_arrival_counts}
use Rattle.checkpoint.specs.Image.{ImageValue}
use Rattle.bare_world.specs.Stands.{LogStands, sends_of, RankStands, start_at, StandsAt}
use Rattle.bare_world.specs.Stands.{KeptCovered, DueCovered, RankCovers}
use Rattle.bare_world.proofs.Standing.InRun.{StandsIn-frames}
use Rattle.bare_world.proofs.Standing.LiveRanks.{RankStands-same_clock}
use Rattle.bare_world.proofs.Covers.KeptByEvents.{Covers-rank, Covers-put, bases_with, base_at, arrival_more}
use Rattle.bare_world.proofs.Standing.Worlds.{Goes, changed, put_on, Stands-rank, Stands-put}
use Rattle.bare_world.proofs.Standing.KeptByCrashes.{resized}

-- what is sent later stands after what an act sends, if it sends anything
pub send_more : (j d : ℕ) (a : Act) (rest rest' : List Message) (k : ℕ) (m : Message)
    → ((i : ℕ) → slice_get rest i ≡ Some m → slice_get rest' i ≡ Some m)
    → slice_get (send_at (j + 1) d a rest) k ≡ Some m → slice_get (send_at (j + 1) d a rest') k ≡ Some m
send_more j d (sends d' context t items) rest rest' k m f e = go (d' == d) k e
  where
    go : (b : Bool) (k : ℕ) → slice_get (cons_if b (record { clock = j + 1; context = context; tag = t; items = items }) rest) k ≡ Some m
        → slice_get (cons_if b (record { clock = j + 1; context = context; tag = t; items = items }) rest') k ≡ Some m
    go false k e = f k e
    go true zero e = e
    go true (suc k) e = f k e
send_more j d (takes s i) rest rest' k m f e = f k e
send_more j d (hits s i) rest rest' k m f e = f k e
send_more j d misses rest rest' k m f e = f k e
send_more j d (prints v) rest rest' k m f e = f k e

-- what the first acts of a history sent, the whole history sent at the same place
sent_in_all : (j d c : ℕ) (h : History) (i : ℕ) (m : Message) → slice_get (sends_from j d (take c h)) i ≡ Some m → slice_get (sends_from j d h) i ≡ Some m
sent_in_all j d zero h i m e = absurd cc
sent_in_all j d (suc c) [] i m e = absurd cc
sent_in_all j d (suc c) (x ∷ h) i m e =
    send_more j d x.0 (sends_from (j + 1) d (take c h)) (sends_from (j + 1) d h) i m (λ k f. sent_in_all (j + 1) d c h k m f) e

-- the same, by places from 1
placed_in_all : (d c : ℕ) (h : History) (i : ℕ) (m : Message) → at_place (sends_from 0 d (take c h)) i ≡ Some m → at_place (sends_from 0 d h) i ≡ Some m
placed_in_all d c h zero m e = absurd cc
placed_in_all d c h (suc i) m e = sent_in_all 0 d c h i m e

module _ (n : ℕ) (w : WorldValue) (r : ℕ) (v : Live) (s : StandsAt n w) (c : RankCovers w.images r v) (live : IsLive w r v) where
  k : RankStands (start_at w n) n w.run r v
  k = s.ranks r v live

  log_at : (d : ℕ) → d < n
      → LogStands r (sends_from 0 d (take v.rank.clock (history w.run r)))
      (sends_of (length (history w.run r)) d (s.ranks r v live).acts) (backlog v.rank.log d)
  log_at d l = (s.ranks r v live).logs d (backlog v.rank.log d)
      (slice_get-get_or v.rank.log d new_backlog (let e = (s.ranks r v live).at.logged in omega (arith, l, e)))

  relogged : (d : ℕ) (b : BacklogValue)
      → LogStands r (sends_from 0 d (take v.rank.clock (history w.run r))) (sends_of (length (history w.run r)) d (s.ranks r v live).acts) b
      → RankStands (start_at w n) n w.run r (record { rank = with_log v.rank (slice_set v.rank.log d b); left = v.left })
  relogged d b new =
      RankStands-same_clock (start_at w n) n w.run r v (s.ranks r v live) v.rank.stable v.rank.machine v.rank.inbox
      (slice_set v.rank.log d b) v.rank.dues (s.ranks r v live).number (s.ranks r v live).size
      (replaced_keeps (λ e x. LogStands r (sends_from 0 e (take v.rank.clock (history w.run r)))
      (sends_of (length (history w.run r)) e (s.ranks r v live).acts) x) v.rank.log d b (λ e x ne at. (s.ranks r v live).logs e x at) (λ x at. new))
      (StandsIn-frames (start_at w n r) n r (λ q. sent w.run q r)
      (history (continue w.run r (s.ranks r v live).acts) r) v.rank.clock v.rank.machine v.rank.inbox v.rank.inbox v.rank.log (slice_set v.rank.log d b)
      (s.ranks r v live).at.counted (s.ranks r v live).at.inbox (length-set v.rank.log d b ∙ (s.ranks r v live).at.logged)
      (s.ranks r v live).at)

  redue : (dues : List Due) → RankStands (start_at w n) n w.run r (record { rank = with_dues v.rank dues; left = v.left })
  redue dues =
      RankStands-same_clock (start_at w n) n w.run r v (s.ranks r v live) v.rank.stable v.rank.machine v.rank.inbox v.rank.log dues
      (s.ranks r v live).number (s.ranks r v live).size (s.ranks r v live).logs (s.ranks r v live).at

  -- what is due to a rank is covered
  due_covered : (d : ℕ) → DueCovered w.images r d (due_to v.rank d).kept
  due_covered d = go v.rank.dues d (λ x e. c.dues d x e)
    where
      go : (ds : List Due) (i : ℕ) → ((x : Due) → slice_get ds i ≡ Some x → DueCovered w.images r d x.kept)
          → DueCovered w.images r d (slice_index_or ds i no_due).kept
      go [] i f = tt
      go (x ∷ ds) zero f = f x refl
      go (x ∷ ds) (suc i) f = go ds i f

  -- what goes next is real and covered
  outgoing_fine : (d : ℕ) (f : Frame) → d < n → outgoing_of v.rank d ≡ Some f → IsReal w.run r d f × KeptCovered w.images r d f
  outgoing_fine d f l e = go (due_to v.rank d).ask (due_to v.rank d).kept (next_of (backlog v.rank.log d)) (due_covered d) refl e
    where
      real : (p : packet.PacketValue) → next_of (backlog v.rank.log d) ≡ Some p → (p.source ≡ r) × (at_place (sent w.run r d) p.number ≡ Some (carried p))
      real p g =
          let x = next_is_real r (sends_from 0 d (take v.rank.clock (history w.run r)))
          (sends_of (length (history w.run r)) d (s.ranks r v live).acts) (backlog v.rank.log d) p (log_at d l) g in
          (x.0, placed_in_all d v.rank.clock (history w.run r) p.number (carried p) x.1)

      go : (a b : Option ℕ) (o : Option packet.PacketValue) → DueCovered w.images r d b → next_of (backlog v.rank.log d) ≡ o → first_of a b o ≡ Some f
          → IsReal w.run r d f × KeptCovered w.images r d f
      go (Some x) b o u q h = (let z : frame.Ask x ≡ f = cc in subst (λ y. IsReal w.run r d y × KeptCovered w.images r d y) z (tt, tt))
      go None (Some x) o u q h = (let z : frame.Kept x ≡ f = cc in subst (λ y. IsReal w.run r d y × KeptCovered w.images r d y) z (tt, u))
      go None None (Some p) u q h = (let z : frame.Data p ≡ f = cc in subst (λ y. IsReal w.run r d y × KeptCovered w.images r d y) z (real p q, tt))
      go None None None u q h = absurd cc

  sent_off_stands : (d : ℕ) (f : Option Frame) → d < n → RankStands (start_at w n) n w.run r (record { rank = sent_off v.rank d f; left = v.left })
  sent_off_stands d None l = k
  sent_off_stands d (Some (frame.Ask x)) l = redue _
  sent_off_stands d (Some (frame.Kept x)) l = redue _
  sent_off_stands d (Some (frame.Data p)) l = relogged d (passed (backlog v.rank.log d)) (LogStands-passed r _ _ (backlog v.rank.log d) (log_at d l))

  dues_with : (d : ℕ) (x : Due) → DueCovered w.images r d x.kept → (e : ℕ) (y : Due) → slice_get (slice_set v.rank.dues d x) e ≡ Some y
      → DueCovered w.images r e y.kept
  dues_with d x fine = replaced_keeps (λ e y. DueCovered w.images r e y.kept) v.rank.dues d x (λ e y ne at. c.dues e y at) (λ y at. fine)

  sent_off_covers : (d : ℕ) (f : Option Frame) → RankCovers w.images r (record { rank = sent_off v.rank d f; left = v.left })
  sent_off_covers d None = c
  sent_off_covers d (Some (frame.Ask x)) =
      record { bases = c.bases; dues = dues_with d (record { ask = None; kept = (due_to v.rank d).kept }) (due_covered d); since = c.since }
  sent_off_covers d (Some (frame.Kept x)) =
      record { bases = c.bases; dues = dues_with d (record { ask = (due_to v.rank d).ask; kept = None }) tt; since = c.since }
  sent_off_covers d (Some (frame.Data p)) =
      record {
        bases = bases_with w.images r v.rank.log d (passed (backlog v.rank.log d))
            (base_at w.images r v.rank.log d c.bases) c.bases;
        dues = c.dues;
        since = c.since;
      }

  -- a frame that is real arrives
  arriving : (from : ℕ) (f : Frame) → from < n → IsReal w.run from r f
      → RankStands (start_at w n) n w.run r (record { rank = after_frame v.rank from f; left = v.left })
  arriving from (frame.Ask x) l real = relogged from (asked (backlog v.rank.log from) x) (LogStands-asked r x _ _ (backlog v.rank.log from) (log_at from l))
  arriving from (frame.Kept x) l real = relogged from (pruned (backlog v.rank.log from) x) (LogStands-pruned r x _ _ (backlog v.rank.log from) (log_at from l))
  arriving from (frame.Data p) l real = go (p.source == from)
    where
      go : (b : Bool)
          → RankStands (start_at w n) n w.run r (record { rank = if b then with_inbox v.rank (after_arrival v.rank.inbox p) else v.rank; left = v.left })
      go false = k
      go true =
          RankStands-same_clock (start_at w n) n w.run r v (s.ranks r v live) v.rank.stable v.rank.machine
          (after_arrival v.rank.inbox p) v.rank.log v.rank.dues (s.ranks r v live).number (s.ranks r v live).size (s.ranks r v live).logs
          (StandsIn-frames (start_at w n r) n r (λ q. sent w.run q r)
          (history (continue w.run r (s.ranks r v live).acts) r) v.rank.clock v.rank.machine v.rank.inbox (after_arrival v.rank.inbox p) v.rank.log v.rank.log
          (after_arrival_counts v.rank.inbox p ∙ (s.ranks r v live).at.counted)
          (InboxStands-arrived v.rank.inbox (λ q. sent w.run q r) (take v.rank.clock (history (continue w.run r (s.ranks r v live).acts) r)) p
          (rw (real.0, (s.ranks r v live).at.counted) l)
          (subst (λ z. at_place (sent w.run z r) p.number ≡ Some (carried p)) (sym real.0) real.1)
          (s.ranks r v live).at.inbox)
          (s.ranks r v live).at.logged (s.ranks r v live).at)

  arriving_covers : (from : ℕ) (f : Frame) → KeptCovered w.images from r f → RankCovers w.images r (record { rank = after_frame v.rank from f; left = v.left })
  arriving_covers from (frame.Ask x) fine =
      record {
        bases = bases_with w.images r v.rank.log from (asked (backlog v.rank.log from) x)
            (base_at w.images r v.rank.log from c.bases) c.bases;
        dues = c.dues;
        since = c.since;
      }
  arriving_covers from (frame.Kept x) fine = record {
    bases =
        bases_with w.images r v.rank.log from (pruned (backlog v.rank.log from) x)
        (base_pruned (backlog v.rank.log from) x (covered w.images from r) (base_at w.images r v.rank.log from c.bases) fine) c.bases;
    dues = c.dues;
    since = c.since;
  }
  arriving_covers from (frame.Data p) fine = go (p.source == from)
    where
      go : (b : Bool) → RankCovers w.images r (record { rank = if b then with_inbox v.rank (after_arrival v.rank.inbox p) else v.rank; left = v.left })
      go false = c
      go true = record { bases = c.bases; dues = c.dues; since = λ q. (let a = c.since q in let b = arrival_more v.rank.inbox p q in omega (arith, a, b)) }

-- a frame is put
pub Stands-putting : (w : WorldValue) (r d : ℕ) (answer : Reply) (w' : WorldValue) → Goes w → PutFollows w r d answer w' → Goes w'
Stands-putting w r d answer w' s f =
    subst (λ z. Goes z) (sym f.after)
    (record {
      run = resized w (put_on w r (record { rank = after_passed f.before.rank d; left = f.before.left }) d f.of_s f.frames f.frame) (length-set w.ranks r _)
          (Stands-put (size w) w r (record { rank = after_passed f.before.rank d; left = f.before.left }) d f.of_s f.frames f.frame s.run
          (sent_off_stands (size w) w r f.before s.run (s.covers.ranks r f.before f.live) f.live d (outgoing_of f.before.rank d) below) f.wires f.wire fine.0);
      covers =
          Covers-put w (put_on w r (record { rank = after_passed f.before.rank d; left = f.before.left }) d f.of_s f.frames f.frame) r d
          (record { rank = after_passed f.before.rank d; left = f.before.left }) f.of_s f.frames f.frame refl refl refl f.wires f.wire fine.1
          (sent_off_covers (size w) w r f.before s.run (s.covers.ranks r f.before f.live) f.live d (outgoing_of f.before.rank d)) s.covers;
    })
  where
    below : d < size w
    below = let l = slice_get_within f.of_s d f.frames f.wire in let e = s.run.wires_to_all r f.of_s f.wires in omega (arith, l, e)

    fine : IsReal w.run r d f.frame × KeptCovered w.images r d f.frame
    fine = outgoing_fine (size w) w r f.before s.run (s.covers.ranks r f.before f.live) f.live d f.frame below f.next

-- the rank that changed goes with the run, where its new value does
pub one_rank : (n : ℕ) (w : WorldValue) (r : ℕ) (v : Live) → RankStands (start_at w n) n w.run r v → (u : Live) → ◌≡◌ {A = Option Live} (Some v) (Some u)
    → RankStands (start_at w n) n w.run r u
one_rank n w r v k u e = (let q : v ≡ u = cc in subst (λ z. RankStands (start_at w n) n w.run r z) q k)

-- it covers what it should, where its new value does
pub one_cover : (images : List (Option ImageValue)) (r : ℕ) (v : Live) → RankCovers images r v → (u : Live) → ◌≡◌ {A = Option Live} (Some v) (Some u)
    → RankCovers images r u
one_cover images r v k u e = (let q : v ≡ u = cc in subst (λ z. RankCovers images r z) q k)

-- a frame arrives
pub Stands-arrive : (w : WorldValue) (from r i : ℕ) (answer : Reply) (w' : WorldValue) → Goes w → ArriveFollows w from r i answer w' → Goes w'
Stands-arrive w from r i answer w' s f =
    subst (λ z. Goes z) (sym f.after)
    (record {
      run =
          resized w (changed w r (Some (record { rank = after_frame f.before.rank from f.frame; left = f.before.left })) w.images w.logger w.lines w.run)
          (length-set w.ranks r _)
          (Stands-rank (size w) w r (Some (record { rank = after_frame f.before.rank from f.frame; left = f.before.left })) w.logger s.run refl
          (one_rank (size w) w r (record { rank = after_frame f.before.rank from f.frame; left = f.before.left })
          (arriving (size w) w r f.before s.run (s.covers.ranks r f.before f.live) f.live from f.frame below
          (s.run.packets from r i f.frames f.frame f.wire f.there))));
      covers =
          Covers-rank w (changed w r (Some (record { rank = after_frame f.before.rank from f.frame; left = f.before.left })) w.images w.logger w.lines w.run)
          r (Some (record { rank = after_frame f.before.rank from f.frame; left = f.before.left })) refl refl refl
          (one_cover w.images r (record { rank = after_frame f.before.rank from f.frame; left = f.before.left })
          (arriving_covers (size w) w r f.before s.run (s.covers.ranks r f.before f.live) f.live from f.frame
          (s.covers.wires from r i f.frames f.frame f.wire f.there))) s.covers;
    })
  where
    below : from < size w
    below = let l = slice_get_within w.wires from f.wire.0 f.wire.1 in let e = s.run.as_many_wires in omega (arith, l, e)
