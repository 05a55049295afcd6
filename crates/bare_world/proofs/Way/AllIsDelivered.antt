-- Ranks that are down start again, and what is outgoing from each to each is put and delivered.
use Rattle.std.proofs.Common.{◌≡◌, ℕ, zero, suc, ◌+◌, ◌<◌, ◌≤◌, ◌⊎◌, inl, inr, List, Option, Some, None, length}
use Rattle.std.proofs.Common.{refl, sym, ap, ◌∙◌, arith, slice_get, slice_set}
use Rattle.std.proofs.lemmas.List.{length-set}
use Rattle.rank_node.specs.Frames.{after_passed}
use Rattle.bare_world.specs.declared.event.WorldEvent.{WorldEvent}
use Rattle.bare_world.specs.declared.event.WorldEvent.TheVariants.{Put, Arrive, Restart}
use Rattle.bare_world.specs.declared.reply.Reply.{Reply}
use Rattle.bare_world.specs.World.{Live, WorldValue, size, IsLive}
use Rattle.bare_world.specs.Follows.{Follows}
use Rattle.bare_world.specs.Onward.{IsWorld}
use Rattle.bare_world.specs.Stocked.{IsStocked}
use Rattle.bare_world.specs.Measures.{outstanding_at}
use Rattle.bare_world.specs.Driven.{AllLive, LiveTo, listed, index_of, Advanced, Flushed, IsGone, Emptied}
use Rattle.bare_world.proofs.Alike.OneEventMore.{world_after}
use Rattle.bare_world.proofs.Again.PartsOfAct.{all_live_kept}
use Rattle.bare_world.proofs.Way.AllAreLive.{live_first}
use Rattle.bare_world.proofs.Again.Calls.{advanced_none, flushed_none, flushed_more, put_some, put_there}
use Rattle.bare_world.proofs.Again.Loops.{emptied, restart_next, flush_next, flush_all_next, round_none, round_some}
use Rattle.bare_world.proofs.Way.EventIsAnswered.{restart_drive, put_drive, arrive_drive}

-- some world and some events are reached of which this holds
abbrev pub Reach : (WorldValue → List WorldEvent → Type 0) → Type 0
Reach R = (w : WorldValue) × (z : List WorldEvent) × R w z × IsStocked w

-- ---- ranks that are down start again

-- the first k of them
pub restart_to : (a : WorldValue) (x : List WorldEvent) → IsWorld a → IsStocked a → (k : ℕ) → k ≤ size a → Reach (λ b y. Advanced a x b y × LiveTo k b)
restart_to a x i s zero l = (a, x, (advanced_none a x i, live_first a), s)
restart_to a x i s (suc k) l =
    let p = restart_to a x i s k (omega (arith, l)) in
    let f = p.2.0 in
    let n = f.same_size in
    let d = restart_drive p.0 k f.is_world p.3 (omega (arith, l, n)) in
    let r = restart_next a p.0 d.1 x p.1 (listed p.1 (Restart k) d.0) k k d.0 refl f p.2.1 d.2 refl in
    (d.1, listed p.1 (Restart k) d.0, (r.0, λ q m. r.1 q (omega (arith, m))), d.3)

-- ---- what is outgoing goes

-- one frame, if there is one
round : (w : WorldValue) (x : List WorldEvent) (s d : ℕ) → IsWorld w → IsStocked w → AllLive w → s < size w → d < size w
    → Reach (λ w' z. Flushed w x w' z × ((outstanding_at s d w' < outstanding_at s d w) ⊎ IsGone s d w'))
round w x s d i k all ls ld = go (index_of p.0) refl
  where
    v : (v : Live) × IsLive w s v
    v = all s ls

    p : (answer : Reply) × (w' : WorldValue) × Follows w (Put s d) answer w' × IsStocked w'
    p = put_drive w s d v.0 i k v.1 ld

    go : (o : Option ℕ) → index_of p.0 ≡ o → Reach (λ w' z. Flushed w x w' z × ((outstanding_at s d w' < outstanding_at s d w) ⊎ IsGone s d w'))
    go None e =
        let r = round_none w x (listed x (Put s d) p.0) s s d d p.0 p.1 refl refl i ld p.2 refl (sym e) in
        (p.1, listed x (Put s d) p.0, (r.0, inr r.1), p.3)
    go (Some n) e =
        let put = put_some w s d p.0 p.1 n p.2 e in
        let f = put.0 in
        let there = put_there w s d p.0 p.1 f in
        let now : Live = record { rank = after_passed f.before.rank d; left = f.before.left } in
        let live = all_live_kept w p.1 s f.before now f.live (ap (λ z. z.ranks) f.after) all d
        (let q : size p.1 ≡ length (slice_set w.ranks s (Some now)) = ap (λ z. length z.ranks) f.after in
        let m = length-set w.ranks s (Some now) in
        omega (arith, ld, q, m)) in
        let b = arrive_drive p.1 s d n live.0 there.0 f.frame (world_after w (Put s d) p.0 p.1 i p.2) p.3 live.1 there.1
        (ap (λ z. slice_get there.0 z) put.1 ∙ there.2) in
        let z = listed (listed x (Put s d) p.0) (Arrive s d n) b.0 in
        let r = round_some w x (listed x (Put s d) p.0) z s d s d s d n p.0 b.0 p.1 b.1 refl refl refl refl i all ld p.2 refl (sym e) b.2 refl in
        (b.1, z, (r.0, inl r.1), b.3)

-- all of them, from one rank to another: so of a world that has fewer, and so of this one
drain_on : (n : ℕ) (w : WorldValue) (x : List WorldEvent) (s d : ℕ)
    → ((b : WorldValue) (y : List WorldEvent) → outstanding_at s d b < n → IsWorld b → IsStocked b → AllLive b → s < size b → d < size b
    → Reach (λ w' z. Flushed b y w' z × IsGone s d w'))
    → outstanding_at s d w < n + 1 → IsWorld w → IsStocked w → AllLive w → s < size w → d < size w → Reach (λ w' z. Flushed w x w' z × IsGone s d w')
drain_on n w x s d again l i k all ls ld = go r.2.1
  where
    r : Reach (λ w' z. Flushed w x w' z × ((outstanding_at s d w' < outstanding_at s d w) ⊎ IsGone s d w'))
    r = round w x s d i k all ls ld

    go : (outstanding_at s d r.0 < outstanding_at s d w) ⊎ IsGone s d r.0 → Reach (λ w' z. Flushed w x w' z × IsGone s d w')
    go (inr gone) = (r.0, r.1, (r.2.0, gone), r.3)
    go (inl less) =
        let f = r.2.0 in
        let m = f.advanced.same_size in
        let q = again r.0 r.1 (omega (arith, l, less)) f.advanced.is_world r.3 (f.keeps.all_live all) (omega (arith, ls, m)) (omega (arith, ld, m)) in
        (q.0, q.1, (flushed_more w r.0 q.0 x r.1 q.1 f q.2.0, q.2.1), q.3)

-- all packets of a wire can be given to its rank, one after another, until none is left
drain : (n : ℕ) (w : WorldValue) (x : List WorldEvent) (s d : ℕ) → outstanding_at s d w < n → IsWorld w → IsStocked w → AllLive w → s < size w → d < size w
    → Reach (λ w' z. Flushed w x w' z × IsGone s d w')
drain zero w x s d l i k all ls ld = absurd (omega (arith, l))
drain (suc n) w x s d l i k all ls ld =
    drain_on n w x s d (λ b y m j t a p q. drain n b y s d m j t a p q) (omega (arith, l)) i k all ls ld

-- then the pair is emptied
flush : (w : WorldValue) (x : List WorldEvent) (s d : ℕ) → IsWorld w → IsStocked w → AllLive w → s < size w → d < size w
    → Reach (λ w' z. Flushed w x w' z × Emptied s d w w')
flush w x s d i k all ls ld =
    let q = drain (outstanding_at s d w + 1) w x s d (omega arith) i k all ls ld in
    (q.0, q.1, (q.2.0, emptied s d w w q.0 x x q.1 (flushed_none w x i) q.2.0 q.2.1), q.3)

-- from one rank to the first k
flush_to : (w : WorldValue) (x : List WorldEvent) (s : ℕ) → IsWorld w → IsStocked w → AllLive w → s < size w → (k : ℕ) → k ≤ size w
    → Reach (λ w' z. Flushed w x w' z × ((d : ℕ) → d < k → Emptied s d w w'))
flush_to w x s i t all ls zero l = (w, x, (flushed_none w x i, λ d m. absurd (omega (arith, m))), t)
flush_to w x s i t all ls (suc k) l =
    let p = flush_to w x s i t all ls k (omega (arith, l)) in
    let f = p.2.0 in
    let n = f.advanced.same_size in
    let q = flush p.0 p.1 s k f.advanced.is_world p.3 (f.keeps.all_live all) (omega (arith, ls, n)) (omega (arith, l, n)) in
    let r = flush_next w p.0 q.0 x p.1 q.1 s k f p.2.1 q.2.0 q.2.1 in
    (q.0, q.1, (r.0, λ d m. r.1 d (omega (arith, m))), q.3)

-- to each
pub flush_from : (w : WorldValue) (x : List WorldEvent) (s : ℕ) → IsWorld w → IsStocked w → AllLive w → s < size w
    → Reach (λ w' z. Flushed w x w' z × ((d : ℕ) → d < size w' → Emptied s d w w'))
flush_from w x s i t all ls =
    let p = flush_to w x s i t all ls (size w) (omega arith) in
    let n = p.2.0.advanced.same_size in
    (p.0, p.1, (p.2.0, λ d m. p.2.1 d (omega (arith, m, n))), p.3)

-- from the first k to each
flush_all_to : (w : WorldValue) (x : List WorldEvent) → IsWorld w → IsStocked w → AllLive w → (k : ℕ) → k ≤ size w
    → Reach (λ w' z. Flushed w x w' z × ((s d : ℕ) → s < k → d < size w' → Emptied s d w w'))
flush_all_to w x i t all zero l = (w, x, (flushed_none w x i, λ s d m j. absurd (omega (arith, m))), t)
flush_all_to w x i t all (suc k) l =
    let p = flush_all_to w x i t all k (omega (arith, l)) in
    let f = p.2.0 in
    let n = f.advanced.same_size in
    let q = flush_from p.0 p.1 k f.advanced.is_world p.3 (f.keeps.all_live all) (omega (arith, l, n)) in
    let r = flush_all_next w p.0 q.0 x p.1 q.1 k f p.2.1 q.2.0 q.2.1 in
    (q.0, q.1, (r.0, λ s d m j. r.1 s d (omega (arith, m)) j), q.3)

-- from each to each
pub flush_all : (w : WorldValue) (x : List WorldEvent) → IsWorld w → IsStocked w → AllLive w
    → Reach (λ w' z. Flushed w x w' z × ((s d : ℕ) → s < size w' → d < size w' → Emptied s d w w'))
flush_all w x i t all =
    let p = flush_all_to w x i t all (size w) (omega arith) in
    let n = p.2.0.advanced.same_size in
    (p.0, p.1, (p.2.0, λ s d m j. p.2.1 s d (omega (arith, m, n)) j), p.3)
