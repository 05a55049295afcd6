-- Each event keeps what runs of misses are: those that wait are of acts that were made, and no image cuts one that is stored.
use Rattle.std.proofs.Common.{◌≡◌, ◌≢◌, ℕ, zero, suc, ◌+◌, ◌-◌, ◌≤◌, ◌⊎◌, inl, inr, Bool, true, false, ◌==◌, if◌then◌else◌, List, [], ◌∷◌, ◌++◌}
use Rattle.std.proofs.Common.{Option, Some, None, length, drop, refl, sym, ap, subst, ◌∙◌, arith, slice_get, slice_set}
use Rattle.std.proofs.lemmas.List.{length-set, drop-append-le}
use Rattle.matching.specs.Inbox.{after_arrival}
use Rattle.matching.specs.PacketValue as packet
use Rattle.event_logger.specs.Sequential.Event.{EventValue, event_of, joined}
use Rattle.event_logger.specs.Sequential.Misses.{IsCounted}
use Rattle.event_logger.specs.declared.sequential.kind.Kind.TheVariants as kind
use Rattle.event_logger.proofs.SequentialLaws.Misses.{counted_joined}
use Rattle.rank_machine.specs.Machine.{MachineValue, machine_want}
use Rattle.rank_machine.specs.declared.want.Want.{Want}
use Rattle.rank_machine.specs.declared.want.Want.TheVariants as want
use Rattle.rank_machine.proofs.CollectiveParts.{longer_at}
use Rattle.rank_node.specs.declared.frame.Frame.{Frame}
use Rattle.rank_node.specs.declared.frame.Frame.TheVariants as frame
use Rattle.rank_node.specs.declared.waiting.Waiting.{Waiting}
use Rattle.rank_node.specs.declared.waiting.Waiting.TheVariants as waits
use Rattle.rank_node.specs.Waiting.{events_in, event_in, is_settled, has_room, joins, with_joined, with_miss}
use Rattle.rank_node.specs.Frames.{outgoing_of, sent_off, after_frame, with_inbox}
use Rattle.rank_node.specs.Image.{begins_at}
use Rattle.rank_node.specs.Storing.{after_ack}
use Rattle.rank_node.specs.Releasing.{after_release}
use Rattle.rank_node.specs.Replay.{is_cut}
use Rattle.rank_node.specs.Steps.{step_at, found, received, probed, tried, after_send, after_hold, after_print, after_wait, made_send, made_print, after_miss}
use Rattle.bare_world.specs.declared.reply.Reply.{Reply}
use Rattle.bare_world.specs.World.{Rank, Live, WorldValue, size, unpassed, unstored}
use Rattle.bare_world.specs.Plain.{AllCounted, RankRuns, RunsOfMisses}
use Rattle.bare_world.specs.Stands.{Stands}
use Rattle.bare_world.specs.Follows.{StepFollows, ReplayFollows, PutFollows, ArriveFollows, AckFollows}
use Rattle.bare_world.specs.Follows.{ReleaseFollows}
use Rattle.bare_world.proofs.Lists.Beginnings.{drop_zero, drop_more}
use Rattle.bare_world.proofs.Lists.Replaced.{slice_set-get}
use Rattle.bare_world.proofs.Standing.KeptByReleases.{effect_there}
use Rattle.bare_world.proofs.Plain.EffectsAndLeft.{events_append, joined_append, last_miss}
use Rattle.bare_world.proofs.Plain.ReplaySteps.{replayed_runs}
use Rattle.bare_world.proofs.Plain.Worlds.{stored_low}
use Rattle.bare_world.proofs.Lists.Places.{get_last}

-- ---- a change of one rank

-- a rank changes, and no row and no image does
pub Runs-rank : (w w' : WorldValue) (r : ℕ) (x : Option Live) → w'.ranks ≡ slice_set w.ranks r x → w'.logger.rows ≡ w.logger.rows → w'.images ≡ w.images
    → w'.program ≡ w.program → ((v : Live) → x ≡ Some v → RankRuns v) → RunsOfMisses w → RunsOfMisses w'
Runs-rank w w' r x ranks rows images program new k =
    record {
      rows = λ q events e. k.rows q events (ap (λ z. slice_get z q) (sym rows) ∙ e);
      uncut = λ q j events e o at there im.
          ap (λ p. is_cut (begins_at p q (size w') o).clock e) program
          ∙ ap (λ n. is_cut (begins_at w.program q n o).clock e) (ap length ranks ∙ length-set w.ranks r x)
          ∙ k.uncut q j events e o (ap (λ z. slice_get z q) (sym rows) ∙ at) there (ap (λ z. slice_get z q) (sym images) ∙ im);
      ranks = λ q v live. go q v (slice_set-get w.ranks r q (Some v) x (subst (λ z. slice_get z q ≡ Some (Some v)) ranks live));
    }
  where
    go : (q : ℕ) (v : Live) → ((q ≡ r) × (Some v ≡ x)) ⊎ ((q ≡ r → ⊥) × (slice_get w.ranks q ≡ Some (Some v))) → RankRuns v
    go q v (inr h) = k.ranks q v h.1
    go q v (inl h) = new v (sym h.1)

-- its new value has runs that are
pub one : (u x : Live) → RankRuns u → ◌≡◌ {A = Option Live} (Some u) (Some x) → RankRuns x
one u x h e = (let q : u ≡ x = cc in subst (λ z. RankRuns z) q h)

-- of the same events unstored and left, after the same clock
same_runs : (v u : Live) → RankRuns v → unstored u.rank ≡ unstored v.rank → u.left ≡ v.left → u.rank.clock ≡ v.rank.clock → RankRuns u
same_runs v u k events left clock =
    record {
      unstored = subst (λ z. AllCounted z) (sym events) k.unstored;
      left = subst (λ z. AllCounted z) (sym left) k.left;
      later = λ j e at. (let l = k.later j e (ap (λ z. slice_get z j) (sym left) ∙ at) in omega (arith, l, clock));
    }

-- ---- counted events

-- the first of them are
all_left : (xs ys : List EventValue) → AllCounted (xs ++ ys) → AllCounted xs
all_left xs ys k j e at = k j e (longer_at xs ys j e at)

-- one more
pub all_push : (xs : List EventValue) (x : EventValue) → AllCounted xs → IsCounted x → AllCounted (xs ++ x ∷ [])
all_push [] x k c zero e at = (let q : x ≡ e = cc in subst (λ z. IsCounted z) q c)
all_push [] x k c (suc j) e at = absurd cc
all_push (y ∷ xs) x k c zero e at = k 0 e at
all_push (y ∷ xs) x k c (suc j) e at = all_push xs x (λ i z f. k (suc i) z f) c j e at

-- none are
pub all_none : AllCounted []
all_none j e at = absurd cc

-- ---- frames, acknowledgments and releases

-- a frame that goes out leaves a rank's runs of misses
sent_runs : (v : Live) → RankRuns v → (d : ℕ) (o : Option Frame) → RankRuns (record { rank = sent_off v.rank d o; left = v.left })
sent_runs v k d None = record { unstored = k.unstored; left = k.left; later = k.later }
sent_runs v k d (Some (frame.Ask n)) = record { unstored = k.unstored; left = k.left; later = k.later }
sent_runs v k d (Some (frame.Kept n)) = record { unstored = k.unstored; left = k.left; later = k.later }
sent_runs v k d (Some (frame.Data p)) = record { unstored = k.unstored; left = k.left; later = k.later }

-- a frame that comes in does, too
framed_runs : (v : Live) → RankRuns v → (from : ℕ) (g : Frame) → RankRuns (record { rank = after_frame v.rank from g; left = v.left })
framed_runs v k from (frame.Ask n) = record { unstored = k.unstored; left = k.left; later = k.later }
framed_runs v k from (frame.Kept n) = record { unstored = k.unstored; left = k.left; later = k.later }
framed_runs v k from (frame.Data p) = go (p.source == from)
  where
    go : (b : Bool) → RankRuns (record { rank = if b then with_inbox v.rank (after_arrival v.rank.inbox p) else v.rank; left = v.left })
    go true = record { unstored = k.unstored; left = k.left; later = k.later }
    go false = record { unstored = k.unstored; left = k.left; later = k.later }

-- a put leaves runs of misses as they must be
pub Runs-put : (w : WorldValue) (r d : ℕ) (answer : Reply) (w' : WorldValue) → Stands w → PutFollows w r d answer w' → RunsOfMisses w'
Runs-put w r d answer w' s f =
    Runs-rank w w' r _ (ap (λ z. z.ranks) f.after) (ap (λ z. z.logger.rows) f.after) (ap (λ z. z.images) f.after) (ap (λ z. z.program) f.after)
    (λ x e. one _ x (sent_runs f.before (s.runs.ranks r f.before f.live) d (outgoing_of f.before.rank d)) e) s.runs

-- so does an arrival
pub Runs-arrive : (w : WorldValue) (from r i : ℕ) (answer : Reply) (w' : WorldValue) → Stands w → ArriveFollows w from r i answer w' → RunsOfMisses w'
Runs-arrive w from r i answer w' s f =
    Runs-rank w w' r _ (ap (λ z. z.ranks) f.after) (ap (λ z. z.logger.rows) f.after) (ap (λ z. z.images) f.after) (ap (λ z. z.program) f.after)
    (λ x e. one _ x (framed_runs f.before (s.runs.ranks r f.before f.live) from f.frame) e) s.runs

-- so does an acknowledgment
pub Runs-ack : (w : WorldValue) (r : ℕ) (answer : Reply) (w' : WorldValue) → Stands w → AckFollows w r answer w' → RunsOfMisses w'
Runs-ack w r answer w' s f =
    Runs-rank w w' r _ (ap (λ z. z.ranks) f.after) (ap (λ z. z.logger.rows) f.after) (ap (λ z. z.images) f.after) (ap (λ z. z.program) f.after)
    (λ x e. one (record { rank = after_ack f.before.rank; left = f.before.left }) x
    (same_runs f.before (record { rank = after_ack f.before.rank; left = f.before.left }) (s.runs.ranks r f.before f.live)
    (ap events_in (drop_more (f.before.rank.stored - 1) 1 f.before.rank.pending ∙ ap (λ z. drop z f.before.rank.pending)
    (one_back f.before.rank.stored f.some))) refl refl) e) s.runs
  where
    one_back : (m : ℕ) → m ≢ 0 → 1 + (m - 1) ≡ m
    one_back zero ne = absurd (ne refl)
    one_back (suc m) ne = omega arith

-- a release loses an effect, which is no event, where nothing stored waits in front of it
pub released_events : (w : WorldValue) (r : ℕ) (answer : Reply) (w' : WorldValue) (f : ReleaseFollows w r answer w') → f.before.rank.stored ≡ 0
    → events_in (drop f.before.rank.stored (drop 1 f.before.rank.pending)) ≡ events_in (drop f.before.rank.stored f.before.rank.pending)
released_events w r answer w' f none =
    ap (λ z. events_in (drop z (drop 1 f.before.rank.pending))) none ∙ ap events_in (drop_zero (drop 1 f.before.rank.pending))
    ∙ sym (without f.effect (drop 1 f.before.rank.pending) first.1)
    ∙ ap events_in (sym first.0) ∙ sym (ap (λ z. events_in (drop z f.before.rank.pending)) none ∙ ap events_in (drop_zero f.before.rank.pending))
  where
    first : (f.before.rank.pending ≡ f.effect ∷ drop 1 f.before.rank.pending) × (event_in f.effect ≡ None)
    first = effect_there f.before.rank.pending f.effect f.oldest

    without : (x : Waiting) (xs : List Waiting) → event_in x ≡ None → events_in (x ∷ xs) ≡ events_in xs
    without (waits.Event e) xs n = absurd cc
    without (waits.Send d q) xs n = refl
    without (waits.Line q v) xs n = refl

-- so it keeps the runs
pub Runs-release : (w : WorldValue) (r : ℕ) (answer : Reply) (w' : WorldValue) → Stands w → (f : ReleaseFollows w r answer w')
    → f.before.rank.stored ≡ 0 → RunsOfMisses w'
Runs-release w r answer w' s f none =
    Runs-rank w w' r _ (ap (λ z. z.ranks) f.after) (ap (λ z. z.logger.rows) f.after) (ap (λ z. z.images) f.after) (ap (λ z. z.program) f.after)
    (λ x e. one (record { rank = after_release f.before.rank f.effect; left = f.before.left }) x
    (same_runs f.before (record { rank = after_release f.before.rank f.effect; left = f.before.left })
    (s.runs.ranks r f.before f.live) (released_events w r answer w' f none) refl refl) e)
    s.runs

-- ---- steps

-- where a miss joins, what isn't stored ends in the longer run
joined_unstored : (k : ℕ) (xs : List Waiting) → joins k xs ≡ true → drop k (with_joined xs) ≡ with_joined (drop k xs)
joined_unstored zero xs join = drop_zero (with_joined xs) ∙ ap with_joined (sym (drop_zero xs))
joined_unstored (suc k) [] join = absurd cc
joined_unstored (suc zero) (x ∷ []) join = absurd cc
joined_unstored (suc (suc k)) (x ∷ []) join = absurd cc
joined_unstored (suc k) (x ∷ (y ∷ xs)) join = joined_unstored k (y ∷ xs) join

-- so all of it is counted still
joined_counted : (k : ℕ) (xs : List Waiting) → joins k xs ≡ true → AllCounted (events_in (drop k xs)) → AllCounted (events_in (drop k (with_joined xs)))
joined_counted k xs join counted =
    let l = last_miss 0 (drop k xs) join in
    let events : events_in (drop k xs) ≡ events_in l.before ++ l.last ∷ [] = ap events_in l.is ∙ events_append l.before (waits.Event l.last ∷ []) in
    let after : events_in (drop k (with_joined xs)) ≡ events_in l.before ++ joined l.last ∷ [] =
    ap events_in (joined_unstored k xs join ∙ ap with_joined l.is ∙ joined_append l.before l.last)
    ∙ events_append l.before (waits.Event (joined l.last) ∷ []) in
    let all : AllCounted (events_in l.before ++ l.last ∷ []) = subst (λ z. AllCounted z) events counted in
    subst (λ z. AllCounted z) (sym after)
    (all_push (events_in l.before) (joined l.last) (all_left (events_in l.before) (l.last ∷ []) all)
    (counted_joined l.last l.miss (all (length (events_in l.before)) l.last (get_last (events_in l.before) l.last))))

module _ (v : Live) (m : MachineValue) (k : RankRuns v) (low : v.rank.stored ≤ length v.rank.pending) where
  nothing_left : (u : Rank) → AllCounted (unstored u) → RankRuns (record { rank = u; left = [] })
  nothing_left u counted = record { unstored = counted; left = all_none; later = λ j e at. absurd cc }

  -- an event more waits
  event_counted : (x : EventValue) → IsCounted x → AllCounted (events_in (drop v.rank.stored (v.rank.pending ++ waits.Event x ∷ [])))
  event_counted x c =
      subst (λ z. AllCounted z) (sym (ap events_in (drop-append-le v.rank.stored v.rank.pending (waits.Event x ∷ []) low)
      ∙ events_append (unpassed v.rank) (waits.Event x ∷ []))) (all_push (unstored v.rank) x k.unstored c)

  -- an effect more does
  effect_counted : (x : Waiting) → events_in (x ∷ []) ≡ [] → AllCounted (events_in (drop v.rank.stored (v.rank.pending ++ x ∷ [])))
  effect_counted x none =
      subst (λ z. AllCounted z) (sym (ap events_in (drop-append-le v.rank.stored v.rank.pending (x ∷ []) low)
      ∙ events_append (unpassed v.rank) (x ∷ []) ∙ ap (λ z. unstored v.rank ++ z) none)) (λ j e at. k.unstored j e (whole (unstored v.rank) j e at))
    where
      whole : (xs : List EventValue) (j : ℕ) (e : EventValue) → slice_get (xs ++ []) j ≡ Some e → slice_get xs j ≡ Some e
      whole [] j e at = at
      whole (x ∷ xs) zero e at = at
      whole (x ∷ xs) (suc j) e at = whole xs j e at

  received_counted : (o : Option (ℕ × packet.PacketValue)) → AllCounted (unstored (received v.rank m o))
  received_counted None = k.unstored
  received_counted (Some f) = event_counted (event_of kind.Reception f.1.source f.1.clock (v.rank.clock + 1)) tt

  probed_counted : (o : Option (ℕ × packet.PacketValue)) → AllCounted (unstored (probed v.rank m o))
  probed_counted None = k.unstored
  probed_counted (Some f) = event_counted (event_of kind.Hit f.1.source f.1.clock (v.rank.clock + 1)) tt

  missed_counted : AllCounted (unstored (after_miss v.rank m))
  missed_counted = go (joins v.rank.stored v.rank.pending) refl
    where
      go : (b : Bool) → joins v.rank.stored v.rank.pending ≡ b
          → AllCounted (events_in (drop v.rank.stored (with_miss v.rank.stored v.rank.pending (v.rank.clock + 1))))
      go true is =
          subst (λ b. AllCounted (events_in (drop v.rank.stored (if b then with_joined v.rank.pending
          else v.rank.pending ++ waits.Event (event_of kind.Miss 0 0 (v.rank.clock + 1)) ∷ [])))) (sym is)
          (joined_counted v.rank.stored v.rank.pending is k.unstored)
      go false is =
          subst (λ b. AllCounted (events_in (drop v.rank.stored (if b then with_joined v.rank.pending
          else v.rank.pending ++ waits.Event (event_of kind.Miss 0 0 (v.rank.clock + 1)) ∷ [])))) (sym is)
          (event_counted (event_of kind.Miss 0 0 (v.rank.clock + 1)) (refl, refl, omega arith))

  tried_counted : (o : Option (ℕ × packet.PacketValue)) → AllCounted (unstored (tried v.rank m o))
  tried_counted None = missed_counted
  tried_counted (Some f) = event_counted (event_of kind.Hit f.1.source f.1.clock (v.rank.clock + 1)) tt

  pub stepped_counted : (x : Want) → AllCounted (unstored (step_at v.rank x m))
  stepped_counted want.Internal = k.unstored
  stepped_counted (want.Send d c t) = room (has_room v.rank.pending)
    where
      made : (b : Bool) → AllCounted (unstored (if b then after_send v.rank m d c t else after_hold v.rank m d c t))
      made true = k.unstored
      made false = effect_counted (waits.Send d (v.rank.clock + 1)) refl

      room : (b : Bool) → AllCounted (unstored (if b then made_send v.rank m d c t else v.rank))
      room true = made (is_settled v.rank.pending)
      room false = k.unstored
  stepped_counted (want.Receive s) = received_counted (found s v.rank.inbox.packets)
  stepped_counted (want.Probe s) = probed_counted (found s v.rank.inbox.packets)
  stepped_counted (want.TryProbe s) = tried_counted (found s v.rank.inbox.packets)
  stepped_counted (want.Print z) = room (has_room v.rank.pending)
    where
      made : (b : Bool) → AllCounted (unstored (if b then after_print v.rank m else after_wait v.rank m z))
      made true = k.unstored
      made false = effect_counted (waits.Line (v.rank.clock + 1) z) refl

      room : (b : Bool) → AllCounted (unstored (if b then made_print v.rank m z else v.rank))
      room true = made (is_settled v.rank.pending)
      room false = k.unstored
  stepped_counted want.Halted = k.unstored
  stepped_counted (want.Faulted j) = k.unstored

  pub stepped_runs : (x : Want) → RankRuns (record { rank = step_at v.rank x m; left = [] })
  stepped_runs x = nothing_left (step_at v.rank x m) (stepped_counted x)

-- so does a step of a rank at work, even one that makes a run of misses longer
pub Runs-step : (w : WorldValue) (r : ℕ) (answer : Reply) (w' : WorldValue) → Stands w → StepFollows w r answer w' → RunsOfMisses w'
Runs-step w r answer w' s f =
    Runs-rank w w' r (Some (record { rank = step_at f.before.rank (machine_want f.before.rank.machine) f.machine; left = [] })) (ap (λ z. z.ranks) f.after)
    (ap (λ z. z.logger.rows) f.after) (ap (λ z. z.images) f.after) (ap (λ z. z.program) f.after)
    (λ x e.
    one _ x (stepped_runs f.before f.machine (s.runs.ranks r f.before f.live) (stored_low w r s f.before f.live) (machine_want f.before.rank.machine)) e)
    s.runs

-- so does a replayed step
pub Runs-replay : (w : WorldValue) (r : ℕ) (answer : Reply) (w' : WorldValue) → Stands w → ReplayFollows w r answer w' → RunsOfMisses w'
Runs-replay w r answer w' s f =
    Runs-rank w w' r _ (ap (λ z. z.ranks) f.after) (ap (λ z. z.logger.rows) f.after) (ap (λ z. z.images) f.after) (ap (λ z. z.program) f.after)
    (λ x e.
    one _ x (replayed_runs w r f.before s f.live f.event f.rest f.replaying (machine_want f.before.rank.machine) refl f.turn f.turned f.machine f.steps) e)
    s.runs
