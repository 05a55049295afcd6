-- Each event but a step keeps what ranks count.
use Rattle.std.proofs.lemmas.List.{length_push}
use Rattle.std.proofs.Common.{◌≡◌, ◌≢◌, ℕ, zero, suc, ◌+◌, ◌-◌, ◌<◌, ◌≤◌, ◌⊎◌, inl, inr, Bool, true, false, ◌==◌, nat_le, if◌then◌else◌}
use Rattle.std.proofs.Common.{List, [], ◌∷◌, ◌++◌, Option, Some, None, length, drop, refl, sym, ap, subst, ◌∙◌, arith, slice_get}
use Rattle.std.proofs.Common.{slice_set, slice_index_or}
use Rattle.std.proofs.lemmas.Bool.{cases_lt, le-leb}
use Rattle.event_logger.specs.Sequential.Event.{EventValue}
use Rattle.event_logger.specs.declared.sequential.call.Reply.TheVariants.{Length, Full, Order}
use Rattle.limits.specs.Limits.{most_events}
use Rattle.rank_node.specs.Waiting.{events_in}
use Rattle.rank_node.specs.declared.frame.Frame.{Frame}
use Rattle.rank_node.specs.declared.frame.Frame.TheVariants as frame
use Rattle.rank_node.specs.Frames.{outgoing_of, sent_off, after_frame, with_inbox}
use Rattle.rank_node.specs.Storing.{after_store}
use Rattle.matching.specs.Inbox.{after_arrival}
use Rattle.bare_world.specs.World.{Live, unstored, WorldValue, IsLive}
use Rattle.rank_node.specs.declared.waiting.Waiting.TheVariants as waits
use Rattle.bare_world.proofs.Standing.KeptByAcks.{event_there, drop_first}
use Rattle.bare_world.proofs.Runs.KeptByEvents.{released_events}
use Rattle.bare_world.specs.Follows.{ReleaseFollows, PutFollows, ArriveFollows, StoreFollows, AckFollows}
use Rattle.bare_world.specs.Follows.{CrashFollows, RestartFollows}
use Rattle.rank_node.specs.Releasing.{after_release}
use Rattle.bare_world.proofs.Lists.Beginnings.{drop_more}
use Rattle.bare_world.specs.declared.reply.Reply.{Reply}
use Rattle.bare_world.proofs.Lists.Replaced.{slice_set-get}
use Rattle.bare_world.specs.Counts.{RankCounts, Counts}

-- a rank changes, and no row does
pub Counts-rank : (w w' : WorldValue) (r : ℕ) (x : Option Live) → w'.ranks ≡ slice_set w.ranks r x → w'.logger.rows ≡ w.logger.rows
    → ((v : Live) (events : List EventValue) → x ≡ Some v → slice_get w.logger.rows r ≡ Some events → RankCounts v events) → Counts w → Counts w'
Counts-rank w w' r x ranks rows new c =
    record {
      rows = λ q events e. c.rows q events (subst (λ z. slice_get z q ≡ Some events) rows e);
      ranks =
          λ q v events live e. go q v events (subst (λ z. slice_get z q ≡ Some events) rows e)
          (slice_set-get w.ranks r q (Some v) x (subst (λ z. slice_get z q ≡ Some (Some v)) ranks live));
    }
  where
    go : (q : ℕ) (v : Live) (events : List EventValue) → slice_get w.logger.rows q ≡ Some events
        → ((q ≡ r) × (Some v ≡ x)) ⊎ ((q ≡ r → ⊥) × (slice_get w.ranks q ≡ Some (Some v))) → RankCounts v events
    go q v events e (inr h) = c.ranks q v events h.1 e
    go q v events e (inl h) = new v events (sym h.1) (subst (λ z. slice_get w.logger.rows z ≡ Some events) h.0 e)

-- it changes in nothing that counts
same_counts : (w : WorldValue) (r : ℕ) (v u : Live) (x : Live) (events : List EventValue) → Counts w → IsLive w r v
    → u.rank.made ≡ v.rank.made → unstored u.rank ≡ unstored v.rank → ◌≡◌ {A = Option Live} (Some u) (Some x)
    → slice_get w.logger.rows r ≡ Some events → RankCounts x events
same_counts w r v u x events c live made same e there =
    let k = c.ranks r v events live there in
    let q : u ≡ x = cc in
    let a = k.made in
    let b = k.few in
    let l = ap length same in
    subst (λ z. RankCounts z events) q (record {
      made = (let z : u.rank.made ≡ length events + length (unstored u.rank) = omega (arith, made, a, l) in z);
      few = omega (arith, made, b);
    })

-- the rank that changed has counted, where its new value has
pub one : (u x : Live) (events : List EventValue) → RankCounts u events → ◌≡◌ {A = Option Live} (Some u) (Some x) → RankCounts x events
one u x events h e = (let q : u ≡ x = cc in subst (λ z. RankCounts z events) q h)

-- ---- frames, images, crashes
-- a frame that has gone counts no event
sent_off_counts : (v : Live) (events : List EventValue) → RankCounts v events → (d : ℕ) (o : Option Frame)
    → RankCounts (record { rank = sent_off v.rank d o; left = v.left }) events
sent_off_counts v events k d None = record { made = k.made; few = k.few }
sent_off_counts v events k d (Some (frame.Ask x)) = record { made = k.made; few = k.few }
sent_off_counts v events k d (Some (frame.Kept x)) = record { made = k.made; few = k.few }
sent_off_counts v events k d (Some (frame.Data p)) = record { made = k.made; few = k.few }

-- nor does one that arrives
frame_counts : (v : Live) (events : List EventValue) → RankCounts v events → (from : ℕ) (g : Frame)
    → RankCounts (record { rank = after_frame v.rank from g; left = v.left }) events
frame_counts v events k from (frame.Ask x) = record { made = k.made; few = k.few }
frame_counts v events k from (frame.Kept x) = record { made = k.made; few = k.few }
frame_counts v events k from (frame.Data p) = go (p.source == from)
  where
    go : (b : Bool) → RankCounts (record { rank = if b then with_inbox v.rank (after_arrival v.rank.inbox p) else v.rank; left = v.left }) events
    go true = record { made = k.made; few = k.few }
    go false = record { made = k.made; few = k.few }

-- a put
pub Counts-put : (w : WorldValue) (r d : ℕ) (answer : Reply) (w' : WorldValue) → Counts w → PutFollows w r d answer w' → Counts w'
Counts-put w r d answer w' c f =
    Counts-rank w w' r _ (ap (λ z. z.ranks) f.after) (ap (λ z. z.logger.rows) f.after)
    (λ x events e there. one _ x events (sent_off_counts f.before events (c.ranks r f.before events f.live there) d (outgoing_of f.before.rank d)) e) c

-- an arrival
pub Counts-arrive : (w : WorldValue) (from r i : ℕ) (answer : Reply) (w' : WorldValue) → Counts w → ArriveFollows w from r i answer w' → Counts w'
Counts-arrive w from r i answer w' c f =
    Counts-rank w w' r _ (ap (λ z. z.ranks) f.after) (ap (λ z. z.logger.rows) f.after)
    (λ x events e there. one _ x events (frame_counts f.before events (c.ranks r f.before events f.live there) from f.frame) e) c

-- a crash
pub Counts-crash : (w : WorldValue) (r : ℕ) (answer : Reply) (w' : WorldValue) → Counts w → CrashFollows w r answer w' → Counts w'
Counts-crash w r answer w' c f = Counts-rank w w' r None (ap (λ z. z.ranks) f.after) (ap (λ z. z.logger.rows) f.after) (λ x events e there. absurd cc) c

-- the row is fetched whole: its events are all above 0
pub Counts-restart : (w : WorldValue) (r : ℕ) (answer : Reply) (w' : WorldValue) → Counts w → (f : RestartFollows w r answer w')
    → ((events : List EventValue) → slice_get w.logger.rows r ≡ Some events → f.events ≡ events) → Counts w'
Counts-restart w r answer w' c f whole =
    Counts-rank w w' r _ (ap (λ z. z.ranks) f.after) (ap (λ z. z.rows) f.fetches.logged)
    (λ x events e there. one _ x events (
    let l = ap length (whole events there) in
    let m = c.rows r events there in
    record { made = (let z : length f.events ≡ length events + 0 = omega (arith, l) in z); few = omega (arith, l, m) }) e) c

-- ---- stores
-- an acknowledgment
pub Counts-ack : (w : WorldValue) (r : ℕ) (answer : Reply) (w' : WorldValue) → Counts w → AckFollows w r answer w' → Counts w'
Counts-ack w r answer w' c f =
    Counts-rank w w' r _ (ap (λ z. z.ranks) f.after) (ap (λ z. z.logger.rows) f.after)
    (λ x events e there. same_counts w r f.before _ x events c f.live refl
    (ap events_in (drop_more (f.before.rank.stored - 1) 1 f.before.rank.pending ∙ ap (λ z. drop z f.before.rank.pending)
    (one_back f.before.rank.stored f.some))) e there) c
  where
    one_back : (m : ℕ) → m ≢ 0 → 1 + (m - 1) ≡ m
    one_back zero ne = absurd (ne refl)
    one_back (suc m) ne = omega arith

-- an append that was answered by a length had room
accepted_few : (n count : ℕ) (c : Bool) → Length count ≡ (if nat_le most_events n then Full else (if c then Order else Length (n + 1))) → n < most_events
accepted_few n count c e = go (cases_lt n most_events)
  where
    go : (n < most_events) ⊎ (most_events ≤ n) → n < most_events
    go (inl l) = l
    go (inr l) = absurd (let z : Length count ≡ Full = e ∙ ap (λ b. if b then Full else (if c then Order else Length (n + 1))) (le-leb most_events n l) in cc)

-- a store
pub Counts-store : (w : WorldValue) (r : ℕ) (answer : Reply) (w' : WorldValue) → Counts w → StoreFollows w r answer w' → Counts w'
Counts-store w r answer w' c f =
    record {
      rows = λ q events e. few q events (slice_set-get w.logger.rows r q events (old ++ f.event ∷ []) (subst (λ z. slice_get z q ≡ Some events) rows_after e));
      ranks =
          λ q v events live e. go q v events (slice_set-get w.logger.rows r q events (old ++ f.event ∷ [])
          (subst (λ z. slice_get z q ≡ Some events) rows_after e))
          (slice_set-get w.ranks r q (Some v) (Some (record { rank = after_store f.before.rank; left = f.before.left }))
          (subst (λ z. slice_get z q ≡ Some (Some v)) (ap (λ z. z.ranks) f.after) live)) (subst (λ z. slice_get z q ≡ Some events) rows_after e);
    }
  where
    old : List EventValue
    old = slice_index_or w.logger.rows r []

    rows_after : w'.logger.rows ≡ slice_set w.logger.rows r (slice_index_or w.logger.rows r [] ++ f.event ∷ [])
    rows_after = ap (λ z. z.rows) f.appends.logged

    old_few : length (slice_index_or w.logger.rows r []) < most_events
    old_few = accepted_few (length (slice_index_or w.logger.rows r [])) f.count _ f.appends.replied

    few : (q : ℕ) (events : List EventValue)
        → ((q ≡ r) × (events ≡ slice_index_or w.logger.rows r [] ++ f.event ∷ [])) ⊎ ((q ≡ r → ⊥) × (slice_get w.logger.rows q ≡ Some events))
        → length events ≤ most_events
    few q events (inr h) = c.rows q events h.1
    few q events (inl h) = (let z = ap length h.1 ∙ length_push (slice_index_or w.logger.rows r []) f.event in let l = old_few in omega (arith, z, l))

    had : (xs : List (List EventValue)) (i : ℕ) (x y : List EventValue) → slice_get (slice_set xs i y) i ≡ Some x
        → slice_get xs i ≡ Some (slice_index_or xs i [])
    had [] i x y e = absurd cc
    had (z ∷ xs) zero x y e = refl
    had (z ∷ xs) (suc i) x y e = had xs i x y e

    own : slice_get w.logger.rows r ≡ Some (slice_index_or w.logger.rows r []) → (u : Live) (events : List EventValue)
        → events ≡ slice_index_or w.logger.rows r [] ++ f.event ∷ []
        → ◌≡◌ {A = Option Live} (Some u) (Some (record { rank = after_store f.before.rank; left = f.before.left })) → RankCounts u events
    own there u events is e =
        let k = c.ranks r f.before (slice_index_or w.logger.rows r []) f.live there in
        let a = k.made in
        let b = ap length is ∙ length_push (slice_index_or w.logger.rows r []) f.event in
        let d =
        ap length (ap events_in (drop_first f.before.rank.pending f.before.rank.stored (waits.Event f.event)
        (event_there f.before.rank.pending f.before.rank.stored f.event f.oldest))) in
        one (record { rank = after_store f.before.rank; left = f.before.left }) u events
        (record {
          made =
              (let z : f.before.rank.made ≡ length events + length (events_in (drop (f.before.rank.stored + 1) f.before.rank.pending)) =
              omega (arith, a, b, d) in z);
          few = k.few;
        }) (sym e)

    go : (q : ℕ) (v : Live) (events : List EventValue)
        → ((q ≡ r) × (events ≡ slice_index_or w.logger.rows r [] ++ f.event ∷ [])) ⊎ ((q ≡ r → ⊥) × (slice_get w.logger.rows q ≡ Some events))
        → ((q ≡ r) × (Some v ≡ Some (record { rank = after_store f.before.rank; left = f.before.left })))
        ⊎ ((q ≡ r → ⊥) × (slice_get w.ranks q ≡ Some (Some v)))
        → slice_get (slice_set w.logger.rows r (slice_index_or w.logger.rows r [] ++ f.event ∷ [])) q ≡ Some events → RankCounts v events
    go q v events (inr h) (inr g) e = c.ranks q v events g.1 h.1
    go q v events (inl h) (inr g) e = absurd (g.0 h.0)
    go q v events (inr h) (inl g) e = absurd (h.0 g.0)
    go q v events (inl h) (inl g) e =
        own (had w.logger.rows r events (slice_index_or w.logger.rows r [] ++ f.event ∷ [])
        (subst (λ z. slice_get (slice_set w.logger.rows r (slice_index_or w.logger.rows r [] ++ f.event ∷ [])) z ≡ Some events) h.0 e)) v events h.1 g.1

-- a release: what waits loses an effect, which is no event; nothing is stored then
pub Counts-release : (w : WorldValue) (r : ℕ) (answer : Reply) (w' : WorldValue) → Counts w → (f : ReleaseFollows w r answer w')
    → f.before.rank.stored ≡ 0 → Counts w'
Counts-release w r answer w' c f none =
    Counts-rank w w' r (Some (record { rank = after_release f.before.rank f.effect; left = f.before.left })) (ap (λ z. z.ranks) f.after)
    (ap (λ z. z.logger.rows) f.after)
    (λ x events e there. same_counts w r f.before
    (record { rank = after_release f.before.rank f.effect; left = f.before.left }) x events c f.live refl (released_events w r answer w' f none) e there) c
