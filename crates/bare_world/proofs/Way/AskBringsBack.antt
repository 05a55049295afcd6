-- An ask brings the cursor back, and packets are put and arrive at once.
use Rattle.std.proofs.Common.{◌≡◌, ℕ, ◌+◌, ◌<◌, ◌≤◌, ◌⊎◌, inl, inr, if◌then◌else◌, Some, length, take, refl, sym, ap, subst, ◌∙◌, arith}
use Rattle.std.proofs.Common.{slice_set}
use Rattle.std.proofs.lemmas.Bool.{cases_eq, eq-eqb}
use Rattle.std.proofs.lemmas.List.{get_or-set_same, get_or-set_other}
use Rattle.std.proofs.lemmas.Option.{slice_get_within}
use Rattle.matching.specs.PacketValue as packet
use Rattle.matching.specs.Inbox.{accepted_from, after_arrival}
use Rattle.payload_log.specs.Backlog.{backlog, passed, next_of, new_backlog}
use Rattle.rank_node.specs.declared.frame.Frame.TheVariants as frame
use Rattle.rank_node.specs.Frames.{with_inbox, with_log, due_to, outgoing_of, sent_off, after_frame}
use Rattle.crash_free.specs.Runs.{history, sends_from}
use Rattle.bare_world.specs.declared.reply.Reply.{Reply}
use Rattle.bare_world.specs.World.{Rank, Live}
use Rattle.bare_world.specs.World.{WorldValue, size, IsLive}
use Rattle.bare_world.specs.Stands.{sends_of, Stands}
use Rattle.bare_world.proofs.Plain.Worlds.{rank_of}
use Rattle.bare_world.specs.Follows.{PutFollows, ArriveFollows}
use Rattle.bare_world.proofs.Covers.KeptByEvents.{arrival_more}
use Rattle.bare_world.specs.Onward.{Behind, Onward}
use Rattle.bare_world.specs.Driven.{NoGaps}
use Rattle.bare_world.proofs.Way.Cursors.{next_number, arrival_reaches}
use Rattle.bare_world.proofs.Way.FramesPassNoRank.{who, packet_next, log_of, above_of}

-- ---- an ask brings the cursor back

-- ---- a packet is put and arrives at once

-- a packet from its own source goes to the inbox
packet_from : (v : Rank) (s : ℕ) (p : packet.PacketValue) → p.source ≡ s → after_frame v s (frame.Data p) ≡ with_inbox v (after_arrival v.inbox p)
packet_from v s p e = ap (λ b. if b then with_inbox v (after_arrival v.inbox p) else v) (eq-eqb p.source s e)

module _ (w mid : WorldValue) (s d : ℕ) (a : Reply) (f : PutFollows w s d a mid) (p : packet.PacketValue) (t : Stands w) (o : Onward w)
    (is_f : f.frame ≡ frame.Data p) (g : NoGaps w) where
  next : outgoing_of f.before.rank d ≡ Some (frame.Data p)
  next = f.next ∙ ap Some is_f

  abbrev x : Live
  x = record { rank = with_log f.before.rank (slice_set f.before.rank.log d (passed (backlog f.before.rank.log d))); left = f.before.left }

  ranks1 : mid.ranks ≡ slice_set w.ranks s (Some x)
  ranks1 = ap (λ z. z.ranks) f.after ∙ ap (λ z. slice_set w.ranks s (Some (record { rank = sent_off f.before.rank d z; left = f.before.left }))) next

  run1 : mid.run ≡ w.run
  run1 = ap (λ z. z.run) f.after

  -- a rank after the put, as it was before
  old : (q : ℕ) (z : Live) → IsLive mid q z → (k : Live) × IsLive w q k × (k.rank.inbox ≡ z.rank.inbox) × (k.rank.clock ≡ z.rank.clock)
  old q z l = here (who w mid s x ranks1 q z l)
    where
      here : ((q ≡ s) × (z ≡ x)) ⊎ ((q ≡ s → ⊥) × IsLive w q z) → (k : Live) × IsLive w q k × (k.rank.inbox ≡ z.rank.inbox) × (k.rank.clock ≡ z.rank.clock)
      here (inl n) = (f.before, subst (λ j. IsLive w j f.before) (sym n.0) f.live, ap (λ j. j.rank.inbox) (sym n.1), ap (λ j. j.rank.clock) (sym n.1))
      here (inr n) = (z, n.1, refl, refl)

  -- between the put and the arrival one cursor may stand one further
  abbrev Between : (e k : ℕ) (u v : Live) → Type 0
  Between e k u v = ((backlog u.rank.log k).cursor ≤ accepted_from v.rank.inbox e + 1)
      ⊎ ((e ≡ s) × (k ≡ d) × ((backlog u.rank.log k).cursor ≡ p.number + 1) × (p.number ≤ accepted_from v.rank.inbox e + 1))

  between : (e k : ℕ) (u v : Live) → IsLive mid e u → IsLive mid k v → Behind w.run k v → Between e k u v
  between e k u v lu lv behind = go (who w mid s x ranks1 e u lu) (old k v lv)
    where
      go : ((e ≡ s) × (u ≡ x)) ⊎ ((e ≡ s → ⊥) × IsLive w e u) → (z : Live) × IsLive w k z × (z.rank.inbox ≡ v.rank.inbox) × (z.rank.clock ≡ v.rank.clock)
          → Between e k u v
      go (inr n) z =
          let q = z.3 in
          let l = g e k u z.0 tt n.1 z.1 (omega (arith, behind, q)) in
          let m = ap (λ b. accepted_from b e) z.2 in
          inl (omega (arith, l, m))
      go (inl n) z = split (cases_eq k d)
        where
          before : Behind w.run k z.0
          before = (let q = z.3 in omega (arith, behind, q))

          l : (backlog f.before.rank.log k).cursor ≤ accepted_from z.0.rank.inbox s + 1
          l = g s k f.before z.0 tt f.live z.1 before

          m : accepted_from z.0.rank.inbox s ≡ accepted_from v.rank.inbox e
          m = ap (λ b. accepted_from b s) z.2 ∙ ap (λ b. accepted_from v.rank.inbox b) (sym n.0)

          split : (k ≡ d) ⊎ (k ≡ d → ⊥) → Between e k u v
          split (inr ne) =
              let c : (backlog u.rank.log k).cursor ≡ (backlog f.before.rank.log k).cursor =
              ap (λ z. (backlog z.rank.log k).cursor) n.1
              ∙ ap (λ z. z.cursor) (get_or-set_other f.before.rank.log d k (passed (backlog f.before.rank.log d)) new_backlog ne) in
              inl (omega (arith, c, l, m))
          split (inl q) =
              let lt : d < size w = (let y = slice_get_within w.ranks k (Some z.0) z.1 in omega (arith, y, q)) in
              let e1 = (rank_of t s f.before f.live).at.logged in
              let c : (backlog u.rank.log k).cursor ≡ (backlog f.before.rank.log d).cursor + 1 =
              ap (λ z. (backlog z.rank.log k).cursor) n.1
              ∙ ap (λ z. (backlog (slice_set f.before.rank.log d (passed (backlog f.before.rank.log d))) z).cursor) q
              ∙ ap (λ z. z.cursor) (get_or-set_same f.before.rank.log d (passed (backlog f.before.rank.log d)) new_backlog (omega (arith, lt, e1))) in
              let number : p.number ≡ (backlog f.before.rank.log d).cursor =
              next_number s (sends_from 0 d (take f.before.rank.clock (history w.run s)))
              (sends_of (length (history w.run s)) d (rank_of t s f.before f.live).acts) (backlog f.before.rank.log d) p
              (log_of w s d f.before t f.live lt) (above_of w s d f.before t o f.live lt)
              (packet_next (due_to f.before.rank d).ask (due_to f.before.rank d).kept (next_of (backlog f.before.rank.log d)) p next) in
              let same : (backlog f.before.rank.log k).cursor ≡ (backlog f.before.rank.log d).cursor = ap (λ z. (backlog f.before.rank.log z).cursor) q in
              inr (n.0, q, omega (arith, c, number), omega (arith, number, l, m, same))

  -- A packet that is put and arrives at once leaves no gap: it is the next that a rank behind the run accepts, or one that it has.
  pub packet_no_gaps : (w' : WorldValue) (i : ℕ) (b : Reply) (h : ArriveFollows mid s d i b w') → h.frame ≡ frame.Data p → p.source ≡ s → NoGaps w'
  packet_no_gaps w' i b h is_h source e k u v ok lu lv behind = go (who mid w' d y ranks2 e u lu) (who mid w' d y ranks2 k v lv)
    where
      y : Live
      y = record { rank = with_inbox h.before.rank (after_arrival h.before.rank.inbox p); left = h.before.left }

      ranks2 : w'.ranks ≡ slice_set mid.ranks d (Some y)
      ranks2 = ap (λ z. z.ranks) h.after
          ∙ ap (λ z. slice_set mid.ranks d (Some (record { rank = after_frame h.before.rank s z; left = h.before.left }))) is_h
          ∙ ap (λ z. slice_set mid.ranks d (Some (record { rank = z; left = h.before.left }))) (packet_from h.before.rank s p source)

      before : Behind w.run k v
      before = subst (λ C. Behind C k v) (ap (λ z. z.run) h.after ∙ run1) behind

      counted : length h.before.rank.inbox.accepted ≡ size w
      counted = (let z = old d h.before h.live in ap (λ j. length j.accepted) (sym z.2) ∙ (rank_of t d z.0 z.1).at.counted)

      sender : (e ≡ d) × (u ≡ y) ⊎ (e ≡ d → ⊥) × IsLive mid e u → (z : Live) × IsLive mid e z × (z.rank.log ≡ u.rank.log)
      sender (inl n) = (h.before, subst (λ j. IsLive mid j h.before) (sym n.0) h.live, ap (λ j. j.rank.log) (sym n.1))
      sender (inr n) = (u, n.1, refl)

      go : ((e ≡ d) × (u ≡ y)) ⊎ ((e ≡ d → ⊥) × IsLive mid e u) → ((k ≡ d) × (v ≡ y)) ⊎ ((k ≡ d → ⊥) × IsLive mid k v)
          → (backlog u.rank.log k).cursor ≤ accepted_from v.rank.inbox e + 1
      go n (inr j) = from (between e k (sender n).0 v (sender n).1 j.1 before)
        where
          c : (backlog (sender n).0.rank.log k).cursor ≡ (backlog u.rank.log k).cursor
          c = ap (λ z. (backlog z k).cursor) (sender n).2

          from : Between e k (sender n).0 v → (backlog u.rank.log k).cursor ≤ accepted_from v.rank.inbox e + 1
          from (inl l) = omega (arith, l, c)
          from (inr l) = absurd (j.0 l.1)
      go n (inl j) = from (between e k (sender n).0 h.before (sender n).1 (subst (λ z. IsLive mid z h.before) (sym j.0) h.live)
          (subst (λ z. z.rank.clock < length (history w.run k)) j.1 before))
        where
          c : (backlog (sender n).0.rank.log k).cursor ≡ (backlog u.rank.log k).cursor
          c = ap (λ z. (backlog z k).cursor) (sender n).2

          box : accepted_from v.rank.inbox e ≡ accepted_from (after_arrival h.before.rank.inbox p) e
          box = ap (λ z. accepted_from z.rank.inbox e) j.1

          from : Between e k (sender n).0 h.before → (backlog u.rank.log k).cursor ≤ accepted_from v.rank.inbox e + 1
          from (inl l) = (let m = arrival_more h.before.rank.inbox p e in omega (arith, l, c, m, box))
          from (inr l) =
              let lt : s < size w = slice_get_within w.ranks s (Some f.before) f.live in
              let z = l.0 in
              let near : p.number ≤ accepted_from h.before.rank.inbox s + 1 = subst (λ j. p.number ≤ accepted_from h.before.rank.inbox j + 1) l.0 l.3 in
              let m = arrival_reaches h.before.rank.inbox p s p.number source refl (omega (arith, lt, counted)) near in
              let q = ap (λ j. accepted_from (after_arrival h.before.rank.inbox p) j) l.0 in
              let r = l.2 in
              omega (arith, c, box, m, q, r)
