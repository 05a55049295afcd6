-- What the calls of the way come to, one after another.
use Rattle.std.proofs.Common.{◌≡◌, ◌≢◌, ℕ, ◌+◌, ◌<◌, ◌⊎◌, inl, inr, false, if◌then◌else◌, List, [], ◌∷◌, ◌++◌, Option, Some}
use Rattle.std.proofs.Common.{None, length, refl, sym, ap, subst, ◌∙◌, arith, slice_get, slice_set}
use Rattle.rank_node.specs.declared.frame.Frame.{Frame}
use Rattle.rank_node.specs.declared.frame.Frame.TheVariants as frame
use Rattle.rank_node.specs.Frames.{after_passed}
use Rattle.bare_world.specs.declared.event.WorldEvent.{WorldEvent}
use Rattle.bare_world.specs.declared.event.WorldEvent.TheVariants.{Put, Arrive, Restart}
use Rattle.bare_world.specs.declared.reply.Reply.{Reply}
use Rattle.bare_world.specs.declared.reply.Reply.TheVariants as reply
use Rattle.bare_world.specs.World.{Live, WorldValue, size, IsLive, IsWire}
use Rattle.bare_world.specs.Follows.{CanNot, Follows, PutFollows, ArriveFollows, put_as}
use Rattle.bare_world.specs.Onward.{IsWorld}
use Rattle.bare_world.specs.Way.{IsOwn}
use Rattle.bare_world.specs.Measures.{outstanding_at}
use Rattle.bare_world.specs.Driven.{IsUsed, Driven, AllLive, LiveTo, is_refused, listed, index_of, Advanced, Flushed, IsGone}
use Rattle.bare_world.specs.Driven.{Listened}
use Rattle.bare_world.proofs.Lists.Places.{set_get_same, get_last}
use Rattle.bare_world.proofs.Again.PartsOfAct.{all_live_kept}
use Rattle.bare_world.proofs.Alike.OneEventMore.{happened, world_after, size_after, driven_push, put_own}
use Rattle.bare_world.proofs.Way.OutstandingFalls.{round_less}
use Rattle.bare_world.proofs.Way.PairIsDrained.{flush_none, flush_more, round_keeps}
use Rattle.bare_world.proofs.Way.AsksAreHeard.{hear_none, hear_more}
use Rattle.bare_world.proofs.Way.AllAreLive.{live_refused, live_restarted}

-- ---- one after another

-- with no event at all a world has advanced to itself
pub advanced_none : (w : WorldValue) (events : List WorldEvent) → IsWorld w → Advanced w events w events
advanced_none w events i = record { is_world = i; same_size = refl; same_run = refl; driven = λ start d. d }

-- one advance after another is an advance
pub advanced_more : (a b c : WorldValue) (x y z : List WorldEvent) → Advanced a x b y → Advanced b y c z → Advanced a x c z
advanced_more a b c x y z f g = record {
  is_world = g.is_world;
  same_size = g.same_size ∙ f.same_size;
  same_run = g.same_run ∙ f.same_run;
  driven = λ start d. g.driven start (f.driven start d);
}

-- with no event at all a world is flushed, and nothing has changed
pub flushed_none : (w : WorldValue) (events : List WorldEvent) → IsWorld w → Flushed w events w events
flushed_none w events i = record { advanced = advanced_none w events i; keeps = flush_none w }

-- one flush after another is a flush
pub flushed_more : (a b c : WorldValue) (x y z : List WorldEvent) → Flushed a x b y → Flushed b y c z → Flushed a x c z
flushed_more a b c x y z f g = record { advanced = advanced_more a b c x y z f.advanced g.advanced; keeps = flush_more a b c f.keeps g.keeps }

-- with no event at all a world has listened, and nothing has changed
pub listened_none : (w : WorldValue) (events : List WorldEvent) → IsWorld w → Listened w events w events
listened_none w events i = record { advanced = advanced_none w events i; keeps = hear_none w }

-- what is heard after other asks is heard with them
pub listened_more : (a b c : WorldValue) (x y z : List WorldEvent) → Listened a x b y → Listened b y c z → Listened a x c z
listened_more a b c x y z f g = record { advanced = advanced_more a b c x y z f.advanced g.advanced; keeps = hear_more a b c f.keeps g.keeps }

-- ---- an event that is driven

-- an event was refused, or it wasn't and its reply says so
pub refused_or : (answer : Reply) → (answer ≡ reply.Refused) ⊎ ((answer ≢ reply.Refused) × (is_refused answer ≡ false))
refused_or reply.Refused = inl refl
refused_or reply.Moved = inr (λ e. cc, refl)
refused_or reply.Blocked = inr (λ e. cc, refl)
refused_or reply.Held = inr (λ e. cc, refl)
refused_or reply.Ended = inr (λ e. cc, refl)
refused_or (reply.PutData index number) = inr (λ e. cc, refl)
refused_or (reply.PutAsk index from) = inr (λ e. cc, refl)
refused_or (reply.PutKept index upto) = inr (λ e. cc, refl)
refused_or reply.Accepted = inr (λ e. cc, refl)
refused_or reply.Repeated = inr (λ e. cc, refl)
refused_or reply.Gap = inr (λ e. cc, refl)
refused_or reply.Noted = inr (λ e. cc, refl)
refused_or (reply.Stored count) = inr (λ e. cc, refl)
refused_or reply.Acked = inr (λ e. cc, refl)
refused_or reply.Imaged = inr (λ e. cc, refl)
refused_or reply.Crashed = inr (λ e. cc, refl)
refused_or (reply.Restarted count) = inr (λ e. cc, refl)
refused_or (reply.Released clock) = inr (λ e. cc, refl)

-- a refused event leaves all as it was
pub refused_same : (w : WorldValue) (event : WorldEvent) (answer : Reply) (w' : WorldValue) → answer ≡ reply.Refused → Follows w event answer w'
    → CanNot w event × (w' ≡ w)
refused_same w event answer w' e f = subst (λ z. Follows w event z w') e f

-- an event of the way that leaves the run drives a world on
pub advanced_by : (w : WorldValue) (events : List WorldEvent) (event : WorldEvent) (answer : Reply) (w' : WorldValue) → IsWorld w → IsUsed event
    → ((start : WorldValue) → Driven start events w → IsOwn start w event) → (answer ≢ reply.Refused → w'.run ≡ w.run) → Follows w event answer w'
    → Advanced w events w' (listed events event answer)
advanced_by w events event answer w' i used own run f = go (refused_or answer)
  where
    go : (answer ≡ reply.Refused) ⊎ ((answer ≢ reply.Refused) × (is_refused answer ≡ false)) → Advanced w events w' (listed events event answer)
    go (inl e) =
        let same = (refused_same w event answer w' e f).1 in
        subst (λ z. Advanced w events w' (listed events event z)) (sym e) (subst (λ z. Advanced w events z events) (sym same) (advanced_none w events i))
    go (inr ne) =
        subst (λ z. Advanced w events w' (if z then events else events ++ event ∷ [])) (sym ne.1)
        (record {
          is_world = world_after w event answer w' i f;
          same_size = size_after w event answer w' used (happened w event answer w' ne.0 f);
          same_run = run ne.0;
          driven = λ start d. driven_push start events w event answer w' d used (own start d) ne.0 f (run ne.0);
        })

-- a restart
pub advanced_restart : (w : WorldValue) (events : List WorldEvent) (k : ℕ) (answer : Reply) (w' : WorldValue) → IsWorld w → Follows w (Restart k) answer w'
    → Advanced w events w' (listed events (Restart k) answer)
advanced_restart w events k answer w' i f =
    advanced_by w events (Restart k) answer w' i tt (λ start d. tt) (λ ne. ap (λ z. z.run) (happened w (Restart k) answer w' ne f).after) f

-- after its restart, refused or not, one rank more is live
pub live_next : (w : WorldValue) (k : ℕ) (answer : Reply) (w' : WorldValue) → Follows w (Restart k) answer w' → LiveTo k w → LiveTo (k + 1) w'
live_next w k answer w' f all = go (refused_or answer)
  where
    go : (answer ≡ reply.Refused) ⊎ ((answer ≢ reply.Refused) × (is_refused answer ≡ false)) → LiveTo (k + 1) w'
    go (inl e) = (let r = refused_same w (Restart k) answer w' e f in subst (λ z. LiveTo (k + 1) z) (sym r.1) (live_refused w k r.0 all))
    go (inr ne) = live_restarted w k answer w' (happened w (Restart k) answer w' ne.0 f) all

-- ---- a round

-- a put is answered by the frame's index, and by none where it is refused
put_index : (n : ℕ) (f : Frame) → index_of (put_as n f) ≡ Some n
put_index n (frame.Data p) = refl
put_index n (frame.Ask from) = refl
put_index n (frame.Kept upto) = refl

-- a put that answers with no index was refused or put nothing, so nothing goes to that destination
pub put_none : (w : WorldValue) (events : List WorldEvent) (s d : ℕ) (answer : Reply) (w' : WorldValue) → IsWorld w → d < size w → Follows w (Put s d) answer w'
    → index_of answer ≡ None
    → Flushed w events w' (listed events (Put s d) answer) × IsGone s d w'
put_none w events s d answer w' i l f none = go (refused_or answer)
  where
    go : (answer ≡ reply.Refused) ⊎ ((answer ≢ reply.Refused) × (is_refused answer ≡ false))
        → Flushed w events w' (listed events (Put s d) answer) × IsGone s d w'
    go (inr ne) =
        let h : PutFollows w s d answer w' = happened w (Put s d) answer w' ne.0 f in
        let q : Some (length h.frames) ≡ None = sym (put_index (length h.frames) h.frame) ∙ ap index_of (sym h.answered) ∙ none in
        absurd cc
    go (inl e) =
        let r = refused_same w (Put s d) answer w' e f in (
          subst (λ z. Flushed w events w' (listed events (Put s d) z)) (sym e) (subst (λ z. Flushed w events z events) (sym r.1) (flushed_none w events i)),
          subst (λ z. IsGone s d z) (sym r.1) (λ u live. r.0 u live l),
        )

-- where it was put, it arrives
pub put_some : (w : WorldValue) (s d : ℕ) (answer : Reply) (mid : WorldValue) (i : ℕ) → Follows w (Put s d) answer mid → index_of answer ≡ Some i
    → (f : PutFollows w s d answer mid) × (i ≡ length f.frames) × (is_refused answer ≡ false)
put_some w s d answer mid i f some = go (refused_or answer)
  where
    none : ◌≡◌ {A = Option ℕ} None (Some i) → ⊥
    none q = cc

    one : (n : ℕ) → ◌≡◌ {A = Option ℕ} (Some n) (Some i) → i ≡ n
    one n q = cc

    go : (answer ≡ reply.Refused) ⊎ ((answer ≢ reply.Refused) × (is_refused answer ≡ false))
        → (f : PutFollows w s d answer mid) × (i ≡ length f.frames) × (is_refused answer ≡ false)
    go (inl e) = absurd (none (ap index_of (sym e) ∙ some))
    go (inr ne) =
        let h : PutFollows w s d answer mid = happened w (Put s d) answer mid ne.0 f in
        (h, one (length h.frames) (sym (put_index (length h.frames) h.frame) ∙ ap index_of (sym h.answered) ∙ some), ne.1)

-- the frame that was put is on its wire
pub put_there : (w : WorldValue) (s d : ℕ) (answer : Reply) (mid : WorldValue) (f : PutFollows w s d answer mid)
    → (frames : List Frame) × IsWire mid s d frames × (slice_get frames (length f.frames) ≡ Some f.frame)
put_there w s d answer mid f = (
  f.frames ++ f.frame ∷ [],
  (
    slice_set f.of_s d (f.frames ++ f.frame ∷ []),
    ap (λ z. slice_get z.wires s) f.after ∙ set_get_same w.wires s f.of_s (slice_set f.of_s d (f.frames ++ f.frame ∷ [])) f.wires,
    set_get_same f.of_s d f.frames (f.frames ++ f.frame ∷ []) f.wire,
  ),
  get_last f.frames f.frame,
)

-- one round: a frame is put and arrives
pub round_flushed : (w : WorldValue) (events : List WorldEvent) (s d i : ℕ) (a : Reply) (mid : WorldValue) (b : Reply) (w' : WorldValue) → IsWorld w
    → AllLive w → d < size w
    → Follows w (Put s d) a mid → index_of a ≡ Some i → Follows mid (Arrive s d i) b w'
    → Flushed w events w' (listed (listed events (Put s d) a) (Arrive s d i) b) × (outstanding_at s d w' < outstanding_at s d w)
round_flushed w events s d i a mid b w' world all l f some g = (
  record {
    advanced = both;
    keeps = round_keeps w mid w' s d a b put arrived world first.is_world;
  },
  round_less w mid w' s d a b put arrived world,
)
  where
    h : (f : PutFollows w s d a mid) × (i ≡ length f.frames) × (is_refused a ≡ false)
    h = put_some w s d a mid i f some

    put : PutFollows w s d a mid
    put = h.0

    listed_put : listed events (Put s d) a ≡ events ++ Put s d ∷ []
    listed_put = ap (λ z. if z then events else events ++ Put s d ∷ []) h.2

    first : Advanced w events mid (events ++ Put s d ∷ [])
    first = subst (λ z. Advanced w events mid z) listed_put
        (advanced_by w events (Put s d) a mid world tt (λ start e. tt) (λ ne. ap (λ z. z.run) put.after) f)

    live : (v : Live) × IsLive mid d v
    live =
        all_live_kept w mid s put.before (record { rank = after_passed put.before.rank d; left = put.before.left }) put.live (ap (λ z. z.ranks) put.after) all d
        (let n = first.same_size in omega (arith, l, n))

    can : CanNot mid (Arrive s d i) → ⊥
    can never =
        let there = put_there w s d a mid put in
        never live.0 there.0 put.frame live.1 there.1 (ap (λ z. slice_get there.0 z) h.1 ∙ there.2)

    arrived_here : (b ≡ reply.Refused) ⊎ ((b ≢ reply.Refused) × (is_refused b ≡ false)) → (b ≢ reply.Refused) × (is_refused b ≡ false)
    arrived_here (inl e) = absurd (can (refused_same mid (Arrive s d i) b w' e g).0)
    arrived_here (inr ne) = ne

    here : (b ≢ reply.Refused) × (is_refused b ≡ false)
    here = arrived_here (refused_or b)

    arrived : ArriveFollows mid s d (length put.frames) b w'
    arrived = subst (λ z. ArriveFollows mid s d z b w') h.1 (happened mid (Arrive s d i) b w' here.0 g)

    listed_both : listed (listed events (Put s d) a) (Arrive s d i) b ≡ (events ++ Put s d ∷ []) ++ Arrive s d i ∷ []
    listed_both =
        ap (λ z. if z then listed events (Put s d) a else listed events (Put s d) a ++ Arrive s d i ∷ []) here.1 ∙ ap (λ z. z ++ Arrive s d i ∷ []) listed_put

    own : (start : WorldValue) → Driven start events w → IsOwn start mid (Arrive s d i)
    own start e = subst (λ z. IsOwn start mid (Arrive s d z)) (sym h.1) (put_own start w s d a mid put e.longer)

    both : Advanced w events w' (listed (listed events (Put s d) a) (Arrive s d i) b)
    both = subst (λ z. Advanced w events w' z) (sym listed_both)
        (record {
          is_world = world_after mid (Arrive s d i) b w' first.is_world g;
          same_size = size_after mid (Arrive s d i) b w' tt (happened mid (Arrive s d i) b w' here.0 g) ∙ first.same_size;
          same_run = ap (λ z. z.run) arrived.after ∙ first.same_run;
          driven =
              λ start e. driven_push start (events ++ Put s d ∷ []) mid (Arrive s d i) b w' (first.driven start e) tt (own start e) here.0 g
              (ap (λ z. z.run) arrived.after);
        })
