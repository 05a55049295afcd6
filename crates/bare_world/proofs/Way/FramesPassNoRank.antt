-- Frames that are put and arrive at once pass no rank behind the run by, and once nothing is outgoing it has accepted all that was sent.
use Rattle.std.proofs.Common.{◌≡◌, ℕ, ◌+◌, ◌<◌, ◌≤◌, ◌⊎◌, inl, inr, ⊎_elim, Option, Some, None, length, take, refl, sym, ap, subst, ◌∙◌, arith}
use Rattle.std.proofs.Common.{slice_get, slice_set}
use Rattle.std.proofs.lemmas.Bool.{cases_lt, cases_eq}
use Rattle.std.proofs.lemmas.List.{get_or-set_same, get_or-set_other}
use Rattle.std.proofs.lemmas.Option.{slice_get_within, slice_get-get_or}
use Rattle.matching.specs.PacketValue as packet
use Rattle.matching.specs.Inbox.{accepted_from}
use Rattle.payload_log.specs.Backlog.{BacklogValue, backlog, asked, pruned, new_backlog}
use Rattle.rank_node.specs.declared.frame.Frame.{Frame}
use Rattle.rank_node.specs.declared.frame.Frame.TheVariants as frame
use Rattle.rank_node.specs.Frames.{with_log, first_of, sent_off, after_passed, after_frame}
use Rattle.crash_free.specs.Runs.{history, sends_from}
use Rattle.bare_world.specs.declared.reply.Reply.{Reply}
use Rattle.bare_world.specs.World.{Rank, Live}
use Rattle.bare_world.proofs.Lists.Replaced.{slice_set-get}
use Rattle.bare_world.specs.World.{WorldValue, size, IsLive, covered}
use Rattle.bare_world.specs.Stands.{LogStands, sends_of, Stands, KeptCovered}
use Rattle.bare_world.proofs.Plain.Worlds.{rank_of}
use Rattle.bare_world.specs.Follows.{PutFollows, ArriveFollows}
use Rattle.bare_world.proofs.Covers.KeptByEvents.{base_at}
use Rattle.bare_world.specs.Onward.{Behind, Onward}
use Rattle.bare_world.specs.Driven.{NoGapsIn}
use Rattle.bare_world.proofs.Way.Cursors.{asked_lowers, pruned_reaches}

-- ---- one rank changes

-- one place holds one live rank
one_live : (u x : Live) → ◌≡◌ {A = Option Live} (Some u) (Some x) → x ≡ u
one_live u x e = cc

-- who is live after a rank changed
pub who : (w w' : WorldValue) (r : ℕ) (y : Live) → w'.ranks ≡ slice_set w.ranks r (Some y) → (q : ℕ) (z : Live) → IsLive w' q z
    → ((q ≡ r) × (z ≡ y)) ⊎ ((q ≡ r → ⊥) × IsLive w q z)
who w w' r y e q z is =
    ⊎_elim (λ h. inl (h.0, one_live y z (sym h.1))) (λ h. inr h) (slice_set-get w.ranks r q (Some z) (Some y) (subst (λ l. slice_get l q ≡ Some (Some z)) e is))

-- A change of rank r's value leaves no gaps, where it has accepted no less, isn't behind if it wasn't, and its cursors stand near
-- enough to what the others had accepted.
pub gaps_kept : (P : ℕ → ℕ → Type 0) (w w' : WorldValue) (r : ℕ) (x y : Live) → IsLive w r x → w'.ranks ≡ slice_set w.ranks r (Some y) → w'.run ≡ w.run
    → x.rank.clock ≤ y.rank.clock
    → ((s : ℕ) → accepted_from x.rank.inbox s ≤ accepted_from y.rank.inbox s)
    → ((d : ℕ) (z : Live) → P r d → IsLive w d z → Behind w.run d z → (backlog y.rank.log d).cursor ≤ accepted_from z.rank.inbox r + 1)
    → NoGapsIn P w → NoGapsIn P w'
gaps_kept P w w' r x y live ranks run clock more near g s d u v ok lu lv behind = go (who w w' r y ranks s u lu) (who w w' r y ranks d v lv)
  where
    before : Behind w.run d v
    before = subst (λ C. Behind C d v) run behind

    earlier : (z : Live) → z ≡ y → (e : ℕ) → e ≡ r → Behind w.run e z → Behind w.run e x
    earlier z ez e er b = (let q = ap (λ k. k.rank.clock) ez in omega (arith, b, q, clock))

    go : ((s ≡ r) × (u ≡ y)) ⊎ ((s ≡ r → ⊥) × IsLive w s u) → ((d ≡ r) × (v ≡ y)) ⊎ ((d ≡ r → ⊥) × IsLive w d v)
        → (backlog u.rank.log d).cursor ≤ accepted_from v.rank.inbox s + 1
    go (inl a) (inr b) =
        let l = near d v (subst (λ z. P z d) a.0 ok) b.1 before in
        let eu = ap (λ z. (backlog z.rank.log d).cursor) a.1 in
        let es = ap (λ z. accepted_from v.rank.inbox z) a.0 in
        omega (arith, l, eu, es)
    go (inl a) (inl b) =
        let l = near d x (subst (λ z. P z d) a.0 ok) (subst (λ z. IsLive w z x) (sym b.0) live) (earlier v b.1 d b.0 before) in
        let eu = ap (λ z. (backlog z.rank.log d).cursor) a.1 in
        let es = ap (λ z. accepted_from x.rank.inbox z) a.0 in
        let m = more s in
        let ev = ap (λ z. accepted_from z.rank.inbox s) b.1 in
        omega (arith, l, eu, es, m, ev)
    go (inr a) (inr b) = g s d u v ok a.1 b.1 before
    go (inr a) (inl b) =
        let l = g s d u x ok a.1 (subst (λ z. IsLive w z x) (sym b.0) live) (earlier v b.1 d b.0 before) in
        let m = more s in
        let ev = ap (λ z. accepted_from z.rank.inbox s) b.1 in
        omega (arith, l, m, ev)

-- ---- what goes next

-- a packet that is outgoing is the next of the log
pub packet_next : (a b : Option ℕ) (o : Option packet.PacketValue) (p : packet.PacketValue) → first_of a b o ≡ Some (frame.Data p) → o ≡ Some p
packet_next (Some x) b o p e = absurd cc
packet_next None (Some x) o p e = absurd cc
packet_next None None (Some q) p e = cc
packet_next None None None p e = absurd cc

-- where nothing is outgoing, the log has no packet to transmit
pub none_next : (a b : Option ℕ) (o : Option packet.PacketValue) → first_of a b o ≡ None → o ≡ None
none_next (Some x) b o e = absurd cc
none_next None (Some x) o e = absurd cc
none_next None None (Some q) e = absurd cc
none_next None None None e = refl

-- a rank's log for a destination is that of its sends in the run and of those it owes
pub log_of : (w : WorldValue) (s d : ℕ) (u : Live) (t : Stands w) (is : IsLive w s u) → d < size w
    → LogStands s (sends_from 0 d (take u.rank.clock (history w.run s))) (sends_of (length (history w.run s)) d (rank_of t s u is).acts) (backlog u.rank.log d)
log_of w s d u t is l =
    (rank_of t s u is).logs d (backlog u.rank.log d) (slice_get-get_or u.rank.log d new_backlog (let e = (rank_of t s u is).at.logged in omega (arith, l, e)))

-- a log's cursor stands above its base
pub above_of : (w : WorldValue) (s d : ℕ) (u : Live) (t : Stands w) (o : Onward w) (is : IsLive w s u) → d < size w
    → (backlog u.rank.log d).base < (backlog u.rank.log d).cursor
above_of w s d u t o is l = (o.ranks s u is).above d

-- the packets that a log let go were accepted
pub base_of : (w : WorldValue) (s d : ℕ) (u v : Live) → Stands w → IsLive w s u → IsLive w d v → (backlog u.rank.log d).base ≤ accepted_from v.rank.inbox s
base_of w s d u v t iu iv =
    let a = base_at w.images s u.rank.log d (t.covers.ranks s u iu).bases in
    let b = (t.covers.ranks d v iv).since s in
    omega (arith, a, b)

-- ---- an ask or a Kept arrives

-- a frame that is no packet leaves no gap
pub arrived_no_gaps : (P : ℕ → ℕ → Type 0) (w w' : WorldValue) (s d i : ℕ) (answer : Reply) (f : ArriveFollows w s d i answer w') → Stands w
    → ((p : packet.PacketValue) → f.frame ≡ frame.Data p → ⊥) → NoGapsIn P w → NoGapsIn P w'
arrived_no_gaps P w w' s d i answer f t no_packet g = go f.frame refl
  where
    ranks : w'.ranks ≡ slice_set w.ranks d (Some (record { rank = after_frame f.before.rank s f.frame; left = f.before.left }))
    ranks = ap (λ z. z.ranks) f.after

    run : w'.run ≡ w.run
    run = ap (λ z. z.run) f.after

    -- the log changes for one destination
    changes : (b : BacklogValue) → ((z : Live) → P d s → IsLive w s z → Behind w.run s z → b.cursor ≤ accepted_from z.rank.inbox d + 1)
        → w'.ranks ≡ slice_set w.ranks d (Some (record { rank = with_log f.before.rank (slice_set f.before.rank.log s b); left = f.before.left }))
        → NoGapsIn P w'
    changes b near is =
        gaps_kept P w w' d f.before (record { rank = with_log f.before.rank (slice_set f.before.rank.log s b); left = f.before.left }) f.live is run
        (omega arith) (λ q. omega arith)
        (λ e z ok live behind. one e z ok live behind (cases_eq e s)) g
      where
        one : (e : ℕ) (z : Live) → P d e → IsLive w e z → Behind w.run e z → (e ≡ s) ⊎ (e ≡ s → ⊥)
            → (backlog (slice_set f.before.rank.log s b) e).cursor ≤ accepted_from z.rank.inbox d + 1
        one e z ok live behind (inr ne) = subst (λ k. k.cursor ≤ accepted_from z.rank.inbox d + 1)
            (sym (get_or-set_other f.before.rank.log s e b new_backlog ne)) (g d e f.before z ok f.live live behind)
        one e z ok live behind (inl q) = here (cases_lt s (length f.before.rank.log))
          where
            here : (s < length f.before.rank.log) ⊎ (length f.before.rank.log ≤ s)
                → (backlog (slice_set f.before.rank.log s b) e).cursor ≤ accepted_from z.rank.inbox d + 1
            here (inl l) =
                subst (λ k. (backlog (slice_set f.before.rank.log s b) k).cursor ≤ accepted_from z.rank.inbox d + 1) (sym q)
                (subst (λ k. k.cursor ≤ accepted_from z.rank.inbox d + 1) (sym (get_or-set_same f.before.rank.log s b new_backlog l))
                (near z (subst (λ k. P d k) q ok) (subst (λ k. IsLive w k z) q live) (subst (λ k. Behind w.run k z) q behind)))
            here (inr l) =
                absurd (let e1 = (rank_of t d f.before f.live).at.logged in let l2 = slice_get_within w.ranks e (Some z) live in omega (arith, l, e1, l2, q))

    go : (x : Frame) → f.frame ≡ x → NoGapsIn P w'
    go (frame.Data p) e = absurd (no_packet p e)
    go (frame.Ask from) e =
        changes (asked (backlog f.before.rank.log s) from)
        (λ z ok live behind. asked_lowers (backlog f.before.rank.log s) from (accepted_from z.rank.inbox d) (base_of w d s f.before z t f.live live)
        (g d s f.before z ok f.live live behind))
        (ranks ∙ ap (λ x. slice_set w.ranks d (Some (record { rank = after_frame f.before.rank s x; left = f.before.left }))) e)
    go (frame.Kept upto) e =
        changes (pruned (backlog f.before.rank.log s) upto)
        (λ z ok live behind. (let c : upto ≤ covered w.images s d =
        subst (λ x. KeptCovered w.images s d x) e (t.covers.wires s d i f.frames f.frame f.wire f.there) in
        let n = (t.covers.ranks s z live).since d in
        pruned_reaches (backlog f.before.rank.log s) upto (accepted_from z.rank.inbox d) (g d s f.before z ok f.live live behind) (omega (arith, c, n))))
        (ranks ∙ ap (λ x. slice_set w.ranks d (Some (record { rank = after_frame f.before.rank s x; left = f.before.left }))) e)

-- ---- an ask is put, or a Kept

-- after what is no packet was put no gap is there
pub put_no_gaps : (P : ℕ → ℕ → Type 0) (w w' : WorldValue) (s d : ℕ) (answer : Reply) (f : PutFollows w s d answer w')
    → ((p : packet.PacketValue) → f.frame ≡ frame.Data p → ⊥) → NoGapsIn P w → NoGapsIn P w'
put_no_gaps P w w' s d answer f no_packet g =
    gaps_kept P w w' s f.before (record { rank = after_passed f.before.rank d; left = f.before.left }) f.live (ap (λ z. z.ranks) f.after)
    (ap (λ z. z.run) f.after)
    (same.0) (same.1) (λ e z ok live behind. (let l = g s e f.before z ok f.live live behind in let q = same.2 e in omega (arith, l, q))) g
  where
    Alike : Rank → Type 0
    Alike y = (f.before.rank.clock ≤ y.clock) × ((q : ℕ) → accepted_from f.before.rank.inbox q ≤ accepted_from y.inbox q)
        × ((e : ℕ) → (backlog y.log e).cursor ≡ (backlog f.before.rank.log e).cursor)

    alike : (x : Frame) → f.frame ≡ x → Alike (sent_off f.before.rank d (Some x))
    alike (frame.Data p) e = absurd (no_packet p e)
    alike (frame.Ask from) e = (omega arith, λ q. omega arith, λ q. refl)
    alike (frame.Kept upto) e = (omega arith, λ q. omega arith, λ q. refl)

    same : Alike (after_passed f.before.rank d)
    same = subst (λ o. Alike (sent_off f.before.rank d o)) (sym f.next) (alike f.frame refl)
