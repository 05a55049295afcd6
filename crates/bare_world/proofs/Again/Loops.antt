-- What the loops of the way keep: all that goes from a rank to another, and an Ask that is heard.
use Rattle.std.proofs.Common.{◌≡◌, ◌≢◌, ℕ, ◌+◌, ◌<◌, ◌≤◌, ◌⊎◌, inl, inr, Bool, true, false, MatchBool, List, Some}
use Rattle.std.proofs.Common.{None, sym, ap, subst, ◌∙◌, arith, slice_get}
use Rattle.std.proofs.lemmas.Bool.{cases_lt}
use Rattle.rank_node.specs.declared.frame.Frame.{Frame}
use Rattle.rank_node.specs.declared.frame.Frame.TheVariants as frame
use Rattle.bare_world.specs.declared.event.WorldEvent.{WorldEvent}
use Rattle.bare_world.specs.declared.event.WorldEvent.TheVariants.{Put, Arrive, Restart}
use Rattle.bare_world.specs.declared.reply.Reply.{Reply}
use Rattle.bare_world.specs.declared.reply.Reply.TheVariants as reply
use Rattle.bare_world.specs.World.{Live, WorldValue, size, IsLive, IsWire}
use Rattle.bare_world.specs.Follows.{Follows, ArriveFollows}
use Rattle.bare_world.specs.Onward.{IsWorld}
use Rattle.bare_world.specs.Way.{IsOwn}
use Rattle.bare_world.specs.Measures.{outstanding_at}
use Rattle.bare_world.specs.Driven.{AllLive, LiveTo, HeardTo, is_refused, listed, index_of, Advanced, Flushed, IsGone}
use Rattle.bare_world.specs.Driven.{Emptied, Listened}
use Rattle.bare_world.proofs.Lists.Places.{one_there}
use Rattle.bare_world.proofs.Alike.OneEventMore.{happened}
use Rattle.bare_world.proofs.Way.PairIsDrained.{gone_asks, gone_drained}
use Rattle.bare_world.proofs.Way.AsksAreHeard.{hear_keeps, hear_next}
use Rattle.bare_world.proofs.Again.Calls.{advanced_more, flushed_more, listened_more, refused_or, refused_same, advanced_by, advanced_restart}
use Rattle.bare_world.proofs.Again.Calls.{live_next, put_none, round_flushed}

-- ---- all that goes from a rank to another

-- nothing is outgoing: the pair is emptied
pub emptied : (s d : ℕ) (a b c : WorldValue) (x y z : List WorldEvent) → Flushed a x b y → Flushed b y c z → IsGone s d c → Emptied s d a c
emptied s d a b c x y z f g gone =
    record {
      asks = gone_asks c s d gone;
      drained = λ n. gone_drained c s d g.advanced.is_world (g.keeps.no_gaps (f.keeps.no_gaps n)) gone;
    }

-- it stays so
emptied_kept : (s d : ℕ) (a b c : WorldValue) (x y : List WorldEvent) → Emptied s d a b → Flushed b x c y → Emptied s d a c
emptied_kept s d a b c x y e f = record { asks = f.keeps.asks s d e.asks; drained = λ n. f.keeps.drained s d (e.drained n) }

-- and so from the beginning
emptied_later : (s d : ℕ) (a b c : WorldValue) (x y : List WorldEvent) → Flushed a x b y → Emptied s d b c → Emptied s d a c
emptied_later s d a b c x y f e = record { asks = e.asks; drained = λ n. e.drained (f.keeps.no_gaps n) }

-- ---- an Ask is heard

-- once the ask at the next index of a wire has arrived, one frame more of that wire is heard
listened_next : (w : WorldValue) (events : List WorldEvent) (r s i : ℕ) (frames : List Frame) (n : ℕ) (answer : Reply) (w' : WorldValue)
    → IsWorld w → AllLive w
    → r < size w → s < size w → IsWire w r s frames → slice_get frames i ≡ Some (frame.Ask n) → Follows w (Arrive r s i) answer w' → HeardTo i r s w
    → Listened w events w' (listed events (Arrive r s i) answer) × HeardTo (i + 1) r s w'
listened_next w events r s i frames n answer w' world all lr ls wire there f heard = go (refused_or answer)
  where
    live : (v : Live) × IsLive w s v
    live = all s ls

    same : (fs : List Frame) → IsWire w r s fs → fs ≡ frames
    same fs is =
        let of : is.0 ≡ wire.0 = one_there is.0 wire.0 (slice_get w.wires r) is.1 wire.1 in
        one_there fs frames (slice_get wire.0 s) (ap (λ z. slice_get z s) (sym of) ∙ is.2) wire.2

    own : (start : WorldValue) → IsOwn start w (Arrive r s i)
    own start x fs old is at was =
        inr (n, one_there x (frame.Ask n) (slice_get frames i) (ap (λ z. slice_get z i) (sym (same fs is)) ∙ at) there)

    go : (answer ≡ reply.Refused) ⊎ ((answer ≢ reply.Refused) × (is_refused answer ≡ false))
        → Listened w events w' (listed events (Arrive r s i) answer) × HeardTo (i + 1) r s w'
    go (inl e) = absurd ((refused_same w (Arrive r s i) answer w' e f).0 live.0 frames (frame.Ask n) live.1 wire there)
    go (inr ne) =
        let h : ArriveFollows w r s i answer w' = happened w (Arrive r s i) answer w' ne.0 f in
        let is : h.frame ≡ frame.Ask n =
        one_there h.frame (frame.Ask n) (slice_get frames i) (ap (λ z. slice_get z i) (sym (same h.frames h.wire)) ∙ h.there) there in (
          record {
            advanced = advanced_by w events (Arrive r s i) answer w' world tt (λ start d. own start) (λ q. ap (λ z. z.run) h.after) f;
            keeps = hear_keeps w r s i answer w' h n is world;
          },
          hear_next w r s i answer w' h n is world lr heard,
        )

-- ---- what loops keep

-- a rank starts again, or is live
pub restart_next : (a b c : WorldValue) (x y z : List WorldEvent) (k j : ℕ) (answer : Reply) → j ≡ k → Advanced a x b y → LiveTo k b
    → Follows b (Restart j) answer c
    → z ≡ listed y (Restart j) answer → Advanced a x c z × LiveTo (k + 1) c
restart_next a b c x y z k j answer e f all g l = (
  advanced_more a b c x y z f (subst (λ q. Advanced b y c q) (sym l) (advanced_restart b y j answer c f.is_world g)),
  live_next b k answer c (subst (λ q. Follows b (Restart q) answer c) e g) all,
)

-- one rank's frames after another's
pub flush_next : (a b c : WorldValue) (x y z : List WorldEvent) (s k : ℕ) → Flushed a x b y → ((d : ℕ) → d < k → Emptied s d a b) → Flushed b y c z
    → Emptied s k b c
    → Flushed a x c z × ((d : ℕ) → d < k + 1 → Emptied s d a c)
flush_next a b c x y z s k f all g e = (flushed_more a b c x y z f g, λ d l. go d l (cases_lt d k))
  where
    go : (d : ℕ) → d < k + 1 → (d < k) ⊎ (k ≤ d) → Emptied s d a c
    go d l (inl m) = emptied_kept s d a b c y z (all d m) g
    go d l (inr m) = (let q : d ≡ k = omega (arith, l, m) in subst (λ h. Emptied s h a c) (sym q) (emptied_later s k a b c x y f e))

-- once all pairs of the next source are emptied, so are the pairs of one source more
pub flush_all_next : (a b c : WorldValue) (x y z : List WorldEvent) (k : ℕ) → Flushed a x b y → ((s d : ℕ) → s < k → d < size b → Emptied s d a b)
    → Flushed b y c z
    → ((d : ℕ) → d < size c → Emptied k d b c) → Flushed a x c z × ((s d : ℕ) → s < k + 1 → d < size c → Emptied s d a c)
flush_all_next a b c x y z k f all g e = (flushed_more a b c x y z f g, λ s d l m. go s d l m (cases_lt s k))
  where
    go : (s d : ℕ) → s < k + 1 → d < size c → (s < k) ⊎ (k ≤ s) → Emptied s d a c
    go s d l m (inl h) = (let n = g.advanced.same_size in emptied_kept s d a b c y z (all s d h (omega (arith, m, n))) g)
    go s d l m (inr h) = (let q : s ≡ k = omega (arith, l, h) in subst (λ j. Emptied j d a c) (sym q) (emptied_later k d a b c x y f (e d m)))

-- a round that put nothing, and one that did
pub round_none : (w : WorldValue) (x z : List WorldEvent) (s s' d d' : ℕ) (answer : Reply) (w' : WorldValue) → s' ≡ s → d' ≡ d → IsWorld w → d < size w
    → Follows w (Put s' d') answer w' → z ≡ listed x (Put s' d') answer → None ≡ index_of answer → Flushed w x w' z × IsGone s d w'
round_none w x z s s' d d' answer w' es ed i l f e none =
    subst (λ q. Flushed w x w' z × IsGone q d w') es (subst (λ q. Flushed w x w' z × IsGone s' q w') ed
    (subst (λ q. Flushed w x w' q × IsGone s' d' w') (sym e) (put_none w x s' d' answer w' i (omega (arith, l, ed)) f (sym none))))

-- a frame that is put and arrives leaves less outstanding between its ranks
pub round_some : (w : WorldValue) (x y z : List WorldEvent) (s d s1 d1 s2 d2 i : ℕ) (p q : Reply) (mid w' : WorldValue) → s1 ≡ s → d1 ≡ d → s2 ≡ s → d2 ≡ d
    → IsWorld w → AllLive w → d < size w → Follows w (Put s1 d1) p mid → y ≡ listed x (Put s1 d1) p → Some i ≡ index_of p → Follows mid (Arrive s2 d2 i) q w'
    → z ≡ listed y (Arrive s2 d2 i) q → Flushed w x w' z × (outstanding_at s d w' < outstanding_at s d w)
round_some w x y z s d s1 d1 s2 d2 i p q mid w' e1 e2 e3 e4 world all l f ey some g ez =
    let put : Follows w (Put s d) p mid = subst (λ h. Follows w (Put s h) p mid) e2 (subst (λ h. Follows w (Put h d1) p mid) e1 f) in
    let come : Follows mid (Arrive s d i) q w' = subst (λ h. Follows mid (Arrive s h i) q w') e4 (subst (λ h. Follows mid (Arrive h d2 i) q w') e3 g) in
    let after_put : y ≡ listed x (Put s d) p = ey ∙ ap (λ h. listed x (Put h d1) p) e1 ∙ ap (λ h. listed x (Put s h) p) e2 in
    let after_come : z ≡ listed (listed x (Put s d) p) (Arrive s d i) q =
    ez ∙ ap (λ h. listed y (Arrive h d2 i) q) e3 ∙ ap (λ h. listed y (Arrive s h i) q) e4 ∙ ap (λ h. listed h (Arrive s d i) q) after_put in
    subst (λ h. Flushed w x w' h × (outstanding_at s d w' < outstanding_at s d w)) (sym after_come)
    (round_flushed w x s d i p mid q w' world all l put (sym some) come)

-- the first of two facts, where a test passed
pub where_true : (A B : Type 0) (b : Bool) → b ≡ true → MatchBool b A B → A
where_true A B true e m = m
where_true A B false e m = absurd cc

-- the second of two facts, where a test failed
pub where_false : (A B : Type 0) (b : Bool) → b ≡ false → MatchBool b A B → B
where_false A B true e m = absurd cc
where_false A B false e m = m

-- one frame of a wire after others: an Ask arrives, and another stays
pub hear_ask : (a b c : WorldValue) (x y z : List WorldEvent) (r s r1 s1 i j n : ℕ) (frames : List Frame) (answer : Reply) → r1 ≡ r → s1 ≡ s → j ≡ i
    → AllLive a → r < size a
    → s < size a → Listened a x b y → HeardTo i r s b → IsWire a r s frames → slice_get frames i ≡ Some (frame.Ask n) → Follows b (Arrive r1 s1 j) answer c
    → z ≡ listed y (Arrive r1 s1 j) answer → Listened a x c z × HeardTo (i + 1) r s c
hear_ask a b c x y z r s r1 s1 i j n frames answer e1 e2 e3 all lr ls f heard wire there g ez =
    let come : Follows b (Arrive r s i) answer c =
    subst (λ h. Follows b (Arrive r s h) answer c) e3
    (subst (λ h. Follows b (Arrive r h j) answer c) e2 (subst (λ h. Follows b (Arrive h s1 j) answer c) e1 g)) in
    let list : z ≡ listed y (Arrive r s i) answer =
    ez ∙ ap (λ h. listed y (Arrive h s1 j) answer) e1 ∙ ap (λ h. listed y (Arrive r h j) answer) e2 ∙ ap (λ h. listed y (Arrive r s h) answer) e3 in
    let n1 = f.advanced.same_size in
    let next = listened_next b y r s i frames n answer c f.advanced.is_world (f.keeps.all_live all) (omega (arith, lr, n1)) (omega (arith, ls, n1))
    (wire.0, ap (λ h. slice_get h r) f.keeps.wires ∙ wire.1, wire.2) there come heard in
    (listened_more a b c x y z f (subst (λ h. Listened b y c h) (sym list) next.0), next.1)
