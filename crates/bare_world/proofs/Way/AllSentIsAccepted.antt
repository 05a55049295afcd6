-- What is outgoing is put and arrives until nothing is, and then all that was sent to a rank behind the run is accepted.
use Rattle.std.proofs.Common.{◌≡◌, ℕ, zero, suc, ◌+◌, ◌-◌, ◌<◌, ◌≤◌, ◌⊎◌, inl, inr, ⊎_elim, Bool, true, false, ◌==◌, nat_lt, if◌then◌else◌, max, List, [], ◌∷◌}
use Rattle.std.proofs.Common.{Option, Some, None, length, take, drop, refl, sym, ap, subst, ◌∙◌, arith, slice_set}
use Rattle.std.proofs.lemmas.Option.{slice_get_within}
use Rattle.matching.specs.Inbox.{accepted_from, after_arrival}
use Rattle.payload_log.specs.Backlog.{BacklogValue, backlog, passed, asked, pruned, next_of}
use Rattle.rank_node.specs.declared.frame.Frame.{Frame}
use Rattle.rank_node.specs.declared.frame.Frame.TheVariants as frame
use Rattle.rank_node.specs.Frames.{with_inbox, due_to, outgoing_of, sent_off, after_passed, after_frame}
use Rattle.crash_free.specs.Runs.{history, sends_from}
use Rattle.bare_world.specs.declared.reply.Reply.{Reply}
use Rattle.bare_world.specs.World.{Rank, Live}
use Rattle.bare_world.specs.World.{WorldValue, size, IsLive}
use Rattle.bare_world.specs.Stands.{sends_of, Stands}
use Rattle.bare_world.proofs.Plain.Worlds.{rank_of}
use Rattle.bare_world.specs.Follows.{PutFollows, ArriveFollows}
use Rattle.bare_world.proofs.Covers.KeptByEvents.{arrival_more}
use Rattle.bare_world.specs.Onward.{Behind, Onward, OnWire}
use Rattle.bare_world.specs.Driven.{NoGaps, DrainedIn}
use Rattle.bare_world.proofs.Way.Cursors.{nothing_next}
use Rattle.bare_world.proofs.Way.FramesPassNoRank.{who, none_next, log_of, above_of, base_of}

-- ---- what was accepted stays so

-- A change of rank r's value keeps a pair drained, where nothing more is sent, no less is accepted, and the rank isn't behind if it wasn't.
drained_kept : (P : ℕ → ℕ → Type 0) (w w' : WorldValue) (r : ℕ) (x y : Live) → IsLive w r x → w'.ranks ≡ slice_set w.ranks r (Some y) → w'.run ≡ w.run
    → x.rank.clock ≤ y.rank.clock
    → ((s : ℕ) → accepted_from x.rank.inbox s ≤ accepted_from y.rank.inbox s) → ((d : ℕ) → (backlog y.rank.log d).sent ≡ (backlog x.rank.log d).sent)
    → DrainedIn P w → DrainedIn P w'
drained_kept P w w' r x y live ranks run clock more sent g s d u v ok lu lv behind =
    let a = sender (who w w' r y ranks s u lu) in
    let b = taker (who w w' r y ranks d v lv) in
    let c = b.2 in
    let e = ap (λ C. length (history C d)) run in
    let n = g s d a.0 b.0 ok a.1 b.1 (omega (arith, behind, c, e)) in
    let p = a.2 d in
    let q = b.3 s in
    omega (arith, n, p, q)
  where
    sender : ((s ≡ r) × (u ≡ y)) ⊎ ((s ≡ r → ⊥) × IsLive w s u)
        → (z : Live) × IsLive w s z × ((e : ℕ) → (backlog u.rank.log e).sent ≡ (backlog z.rank.log e).sent)
    sender (inl h) = (x, subst (λ k. IsLive w k x) (sym h.0) live, λ e. ap (λ k. (backlog k.rank.log e).sent) h.1 ∙ sent e)
    sender (inr h) = (u, h.1, λ e. refl)

    taker : ((d ≡ r) × (v ≡ y)) ⊎ ((d ≡ r → ⊥) × IsLive w d v)
        → (z : Live) × IsLive w d z × (z.rank.clock ≤ v.rank.clock) × ((e : ℕ) → accepted_from z.rank.inbox e ≤ accepted_from v.rank.inbox e)
    taker (inl h) = (
      x,
      subst (λ k. IsLive w k x) (sym h.0) live,
      (let c = ap (λ k. k.rank.clock) h.1 in omega (arith, c, clock)),
      λ e. (let m = more e in let q = ap (λ k. accepted_from k.rank.inbox e) h.1 in omega (arith, m, q)),
    )
    taker (inr h) = (v, h.1, omega arith, λ e. omega arith)

-- a backlog that counts as many packets sent leaves the counts of all destinations
set_sent : (log : List BacklogValue) (d e : ℕ) (b : BacklogValue) → b.sent ≡ (backlog log d).sent → (backlog (slice_set log d b) e).sent ≡ (backlog log e).sent
set_sent [] d e b same = refl
set_sent (x ∷ log) zero zero b same = same
set_sent (x ∷ log) zero (suc e) b same = refl
set_sent (x ∷ log) (suc d) zero b same = refl
set_sent (x ∷ log) (suc d) (suc e) b same = set_sent log d e b same

-- packets that go leave how many were sent
pruned_sent : (b : BacklogValue) (upto : ℕ) → (pruned b upto).sent ≡ b.sent
pruned_sent b upto = go (nat_lt b.base upto)
  where
    go : (c : Bool) → (if c then record b { base = upto; cursor = max b.cursor (upto + 1); kept = drop (upto - b.base) b.kept } else b).sent ≡ b.sent
    go true = refl
    go false = refl

-- a put keeps what is drained
pub put_drained : (P : ℕ → ℕ → Type 0) (w w' : WorldValue) (s d : ℕ) (answer : Reply) → PutFollows w s d answer w' → DrainedIn P w → DrainedIn P w'
put_drained P w w' s d answer f g =
    let a = alike (outgoing_of f.before.rank d) in
    drained_kept P w w' s f.before (record { rank = after_passed f.before.rank d; left = f.before.left }) f.live (ap (λ z. z.ranks) f.after)
    (ap (λ z. z.run) f.after) a.0 a.1 a.2 g
  where
    alike : (o : Option Frame) → (f.before.rank.clock ≤ (sent_off f.before.rank d o).clock)
        × ((q : ℕ) → accepted_from f.before.rank.inbox q ≤ accepted_from (sent_off f.before.rank d o).inbox q)
        × ((e : ℕ) → (backlog (sent_off f.before.rank d o).log e).sent ≡ (backlog f.before.rank.log e).sent)
    alike None = (omega arith, λ q. omega arith, λ e. refl)
    alike (Some (frame.Ask n)) = (omega arith, λ q. omega arith, λ e. refl)
    alike (Some (frame.Kept n)) = (omega arith, λ q. omega arith, λ e. refl)
    alike (Some (frame.Data p)) = (omega arith, λ q. omega arith, λ e. set_sent f.before.rank.log d e (passed (backlog f.before.rank.log d)) refl)

-- and so does an arrival
pub arrive_drained : (P : ℕ → ℕ → Type 0) (w w' : WorldValue) (s d i : ℕ) (answer : Reply) → ArriveFollows w s d i answer w' → DrainedIn P w → DrainedIn P w'
arrive_drained P w w' s d i answer f g =
    let a = alike f.frame in
    drained_kept P w w' d f.before (record { rank = after_frame f.before.rank s f.frame; left = f.before.left }) f.live (ap (λ z. z.ranks) f.after)
    (ap (λ z. z.run) f.after) a.0 a.1 a.2 g
  where
    Alike : Rank → Type 0
    Alike y = (f.before.rank.clock ≤ y.clock) × ((q : ℕ) → accepted_from f.before.rank.inbox q ≤ accepted_from y.inbox q)
        × ((e : ℕ) → (backlog y.log e).sent ≡ (backlog f.before.rank.log e).sent)

    alike : (x : Frame) → Alike (after_frame f.before.rank s x)
    alike (frame.Ask n) = (omega arith, λ q. omega arith, λ e. set_sent f.before.rank.log s e (asked (backlog f.before.rank.log s) n) refl)
    alike (frame.Kept n) = (
      omega arith,
      λ q. omega arith,
      λ e.
          set_sent f.before.rank.log s e (pruned (backlog f.before.rank.log s) n) (pruned_sent (backlog f.before.rank.log s) n),
    )
    alike (frame.Data p) = go (p.source == s)
      where
        go : (b : Bool) → Alike (if b then with_inbox f.before.rank (after_arrival f.before.rank.inbox p) else f.before.rank)
        go true = (omega arith, λ q. arrival_more f.before.rank.inbox p q, λ e. refl)
        go false = (omega arith, λ q. omega arith, λ e. refl)

-- one more pair is drained once nothing goes from the one to the other
pub drained_more : (P : ℕ → ℕ → Type 0) (w : WorldValue) (s d : ℕ) → Stands w → Onward w → NoGaps w → ((u : Live) → IsLive w s u → outgoing_of u.rank d ≡ None)
    → DrainedIn P w → DrainedIn (λ a b. P a b ⊎ ((a ≡ s) × (b ≡ d))) w
drained_more P w s d t o g gone k a b u v (inl ok) lu lv behind = k a b u v ok lu lv behind
drained_more P w s d t o g gone k a b u v (inr ok) lu lv behind =
    let l : b < size w = slice_get_within w.ranks b (Some v) lv in
    let out : outgoing_of u.rank b ≡ None = ap (λ z. outgoing_of u.rank z) ok.1 ∙ gone u (subst (λ z. IsLive w z u) ok.0 lu) in
    nothing_next a (accepted_from v.rank.inbox a) (sends_from 0 b (take u.rank.clock (history w.run a)))
    (sends_of (length (history w.run a)) b (rank_of t a u lu).acts) (backlog u.rank.log b)
    (log_of w a b u t lu l) (none_next (due_to u.rank b).ask (due_to u.rank b).kept (next_of (backlog u.rank.log b)) out) (above_of w a b u t o lu l)
    (base_of w a b u v t lu lv) (g a b u v tt lu lv behind)

-- ---- the asks

-- a rank behind the run with no ask due to another has one on the wire
pub ask_there : (w : WorldValue) (r s : ℕ) (v : Live) → Onward w → IsLive w r v → Behind w.run r v → s < size w → (due_to v.rank s).ask ≡ None
    → (from : ℕ) × (from ≤ accepted_from v.rank.inbox s + 1) × OnWire w r s (frame.Ask from)
ask_there w r s v o live behind l none =
    let k = (o.ranks r v live).asked behind s l in
    (k.0, k.1, ⊎_elim (λ e. absurd (let q : None ≡ Some k.0 = sym none ∙ e in cc)) (λ on. on) k.2)
