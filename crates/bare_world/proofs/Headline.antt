-- Each event keeps the invariant; the invariant says that the world stands for its run and that nothing needed is gone; and a new world has it.
use Rattle.std.proofs.Common.{◌≡◌, ◌≢◌, ℕ, ◌+◌, ◌≤◌, ⊎_elim, [], ◌++◌, Some, None, length, drop}
use Rattle.std.proofs.Common.{refl, sym, ap, subst, ◌∙◌, arith, slice_get, option_and_then}
use Rattle.bare_world.specs.Counts.{Counts}
use Rattle.bare_world.specs.Plain.{plain_rank, plain, without_runs, RunsOfMisses}
use Rattle.bare_world.specs.Follows.{ReleaseFollows, Happens, Follows}
use Rattle.rank_node.specs.Waiting.{BeginsWithEvents, event_in, effects, events_in, expanded}
use Rattle.bare_world.proofs.Standing.Pending.{begins_effect, continue_is_run, row_with_pending, as_many_acts}
use Rattle.bare_world.proofs.Standing.KeptByFrames.{Stands-putting, Stands-arrive}
use Rattle.bare_world.proofs.Standing.KeptByAcks.{Stands-ack}
use Rattle.bare_world.proofs.Standing.KeptByStores.{Stands-store}
use Rattle.bare_world.proofs.Standing.KeptByReleases.{effect_there, Stands-release}
use Rattle.bare_world.proofs.Runs.CountsKept.{Counts-put, Counts-arrive, Counts-crash, Counts-restart, Counts-ack, Counts-store, Counts-release}
use Rattle.bare_world.proofs.Runs.CountsKeptBySteps.{Counts-step, Counts-replay}
use Rattle.bare_world.proofs.Standing.LiveRanks.{settled_behind}
use Rattle.event_logger.specs.Sequential.Misses.{expand}
use Rattle.std.proofs.lemmas.Option.{slice_get_within}
use Rattle.bare_world.specs.Rows.{row}
use Rattle.bare_world.specs.World.{Live, unpassed, unstored, WorldValue, size, start_of, IsLive}
use Rattle.bare_world.specs.Headline.{IsWhere, owed, StandsFor}
use Rattle.rank_node.specs.Releasing.{effect_of, next_effect}
use Rattle.bare_world.specs.declared.event.WorldEvent.{WorldEvent}
use Rattle.bare_world.specs.declared.event.WorldEvent.TheVariants.{Step, Put, Arrive, Store, Ack, Image, Crash, Restart, Release}
use Rattle.bare_world.specs.declared.reply.Reply.{Reply}
use Rattle.bare_world.specs.declared.reply.Reply.TheVariants as reply
use Rattle.bare_world.specs.Misses.{NoneMissed}
use Rattle.bare_world.specs.Stands.{RankStands, start_at, Stands}
use Rattle.rank_node.specs.Storing.{next_unstored}
use Rattle.bare_world.proofs.Lists.Beginnings.{drop_none}
use Rattle.bare_world.proofs.Standing.Worlds.{Goes}
use Rattle.bare_world.proofs.Standing.KeptByCrashes.{Stands-crash}
use Rattle.bare_world.proofs.Standing.KeptByRestarts.{fetched_whole, Stands-restart}
use Rattle.bare_world.proofs.Standing.KeptByImages.{Stands-image, Counts-image}
use Rattle.bare_world.proofs.Standing.KeptByReplays.{Stands-replay}
use Rattle.bare_world.proofs.Standing.KeptBySteps.{Stands-step}
use Rattle.bare_world.proofs.Runs.KeptByEvents.{Runs-put, Runs-arrive, Runs-ack, Runs-release, Runs-step, Runs-replay}
use Rattle.bare_world.proofs.Runs.KeptByStores.{Runs-crash, Runs-restart, Runs-image, Runs-store}
use Rattle.bare_world.proofs.Plain.EffectsAndLeft.{unpassed_plain, events_expanded, effects_expanded}
use Rattle.bare_world.proofs.Plain.Ranks.{none_waits, none_left}
use Rattle.bare_world.proofs.Plain.SameEvents.{put_plainly, arrive_plainly, ack_plainly, release_plainly, image_plainly, crash_plainly}
use Rattle.bare_world.proofs.Plain.ReplaySteps.{replay_plainly}
use Rattle.bare_world.proofs.Plain.Worlds.{GoesOn, goes_plainly, plainly_goes, rank_of, as_many_rows, row_of, stored_first, stored_low}

-- what an event does to the world without runs of misses
plain_goes : (w w' : WorldValue) → Stands w → (Goes (without_runs w) → Goes (without_runs w')) → GoesOn w'
plain_goes w w' s goes = plainly_goes w' (goes (goes_plainly w s))

-- each event
goes_on : (w : WorldValue) (event : WorldEvent) (answer : Reply) (w' : WorldValue) → Stands w → Happens w event answer w' → GoesOn w'
goes_on w (Step r) answer w' s h =
    ⊎_elim (λ f. Stands-step w r answer w' s f)
    (λ f. plain_goes w w' s (λ g. Stands-replay (without_runs w) r answer (without_runs w') g (replay_plainly w r answer w' s f))) h
goes_on w (Put r d) answer w' s h = plain_goes w w' s (λ g. Stands-putting (without_runs w) r d answer (without_runs w') g (put_plainly w r d answer w' h))
goes_on w (Arrive from r i) answer w' s h =
    plain_goes w w' s (λ g. Stands-arrive (without_runs w) from r i answer (without_runs w') g (arrive_plainly w from r i answer w' h))
goes_on w (Store r) answer w' s h = Stands-store w r answer w' s h
goes_on w (Ack r) answer w' s h = plain_goes w w' s (λ g. Stands-ack (without_runs w) r answer (without_runs w') g (ack_plainly w r answer w' h))
goes_on w (Image r) answer w' s h = plain_goes w w' s (λ g. Stands-image (without_runs w) r answer (without_runs w') g (image_plainly w r answer w' h))
goes_on w (Crash r) answer w' s h = plain_goes w w' s (λ g. Stands-crash (without_runs w) r answer (without_runs w') g (crash_plainly w r answer w' h))
goes_on w (Restart r) answer w' s h = Stands-restart w r answer w' s h
goes_on w (Release r) answer w' s h =
    plain_goes w w' s (λ g. Stands-release (without_runs w) r answer (without_runs w') g
    (release_plainly w r answer w' h (stored_first w r s h.before h.live)))

-- where an effect is released nothing is stored
none_stored : (w : WorldValue) (r : ℕ) (answer : Reply) (w' : WorldValue) → Stands w → (f : ReleaseFollows w r answer w') → f.before.rank.stored ≡ 0
none_stored w r answer w' s f =
    let e = effect_there f.before.rank.pending f.effect f.oldest in
    begins_effect f.before.rank.stored f.effect (drop 1 f.before.rank.pending) e.1
    (subst (λ z. BeginsWithEvents f.before.rank.stored z) e.0 (stored_first w r s f.before f.live))

-- each event keeps the counts
counts_on : (w : WorldValue) (event : WorldEvent) (answer : Reply) (w' : WorldValue) → Stands w → Happens w event answer w' → Counts w'
counts_on w (Step r) answer w' s h =
    ⊎_elim (λ f. Counts-step w r answer w' (stored_low w r s) s.counts f) (λ f. Counts-replay w r answer w' (stored_low w r s) s.counts f) h
counts_on w (Put r d) answer w' s h = Counts-put w r d answer w' s.counts h
counts_on w (Arrive from r i) answer w' s h = Counts-arrive w from r i answer w' s.counts h
counts_on w (Store r) answer w' s h = Counts-store w r answer w' s.counts h
counts_on w (Ack r) answer w' s h = Counts-ack w r answer w' s.counts h
counts_on w (Image r) answer w' s h = Counts-image w r answer w' s.counts h
counts_on w (Crash r) answer w' s h = Counts-crash w r answer w' s.counts h
counts_on w (Restart r) answer w' s h = Counts-restart w r answer w' s.counts h (fetched_whole w r answer w' s h)
counts_on w (Release r) answer w' s h = Counts-release w r answer w' s.counts h (none_stored w r answer w' s h)

-- each event keeps the runs of misses
runs_on : (w : WorldValue) (event : WorldEvent) (answer : Reply) (w' : WorldValue) → Stands w → Happens w event answer w' → RunsOfMisses w'
runs_on w (Step r) answer w' s h = ⊎_elim (λ f. Runs-step w r answer w' s f) (λ f. Runs-replay w r answer w' s f) h
runs_on w (Put r d) answer w' s h = Runs-put w r d answer w' s h
runs_on w (Arrive from r i) answer w' s h = Runs-arrive w from r i answer w' s h
runs_on w (Store r) answer w' s h = Runs-store w r answer w' s h
runs_on w (Ack r) answer w' s h = Runs-ack w r answer w' s h
runs_on w (Image r) answer w' s h = Runs-image w r answer w' s h
runs_on w (Crash r) answer w' s h = Runs-crash w r answer w' s h
runs_on w (Restart r) answer w' s h = Runs-restart w r answer w' s h
runs_on w (Release r) answer w' s h = Runs-release w r answer w' s h (none_stored w r answer w' s h)

-- each event that happens keeps the invariant
happens : (w : WorldValue) (event : WorldEvent) (answer : Reply) (w' : WorldValue) → Stands w → Happens w event answer w' → Stands w'
happens w event answer w' s h =
    let g = goes_on w event answer w' s h in
    record { run = g.run; covers = g.covers; counts = counts_on w event answer w' s h; runs = runs_on w event answer w' s h }

-- each event does
pub stands_after : (w : WorldValue) (event : WorldEvent) (answer : Reply) (w' : WorldValue) → Stands w → Follows w event answer w' → Stands w'
stands_after w event reply.Refused w' s f = subst (λ z. Stands z) (sym f.1) s
stands_after w event reply.Moved w' s f = happens w event reply.Moved w' s f
stands_after w event reply.Blocked w' s f = happens w event reply.Blocked w' s f
stands_after w event reply.Held w' s f = happens w event reply.Held w' s f
stands_after w event reply.Ended w' s f = happens w event reply.Ended w' s f
stands_after w event (reply.PutData index number) w' s f = happens w event (reply.PutData index number) w' s f
stands_after w event (reply.PutAsk index from) w' s f = happens w event (reply.PutAsk index from) w' s f
stands_after w event (reply.PutKept index upto) w' s f = happens w event (reply.PutKept index upto) w' s f
stands_after w event reply.Accepted w' s f = happens w event reply.Accepted w' s f
stands_after w event reply.Repeated w' s f = happens w event reply.Repeated w' s f
stands_after w event reply.Gap w' s f = happens w event reply.Gap w' s f
stands_after w event reply.Noted w' s f = happens w event reply.Noted w' s f
stands_after w event (reply.Stored count) w' s f = happens w event (reply.Stored count) w' s f
stands_after w event reply.Acked w' s f = happens w event reply.Acked w' s f
stands_after w event reply.Imaged w' s f = happens w event reply.Imaged w' s f
stands_after w event reply.Crashed w' s f = happens w event reply.Crashed w' s f
stands_after w event (reply.Restarted count) w' s f = happens w event (reply.Restarted count) w' s f
stands_after w event (reply.Released clock) w' s f = happens w event (reply.Released clock) w' s f

-- a rank of which nothing waits owes nothing
nothing_owed : (v : Live) → v.rank.pending ≡ [] → owed v ≡ 0
nothing_owed v none =
    let e : unpassed v.rank ≡ [] = ap (λ z. drop v.rank.stored z) none ∙ drop_none v.rank.stored in
    ap (λ z. length (expand (events_in z)) + effects z) e

-- what a rank owes is what the rank without runs has pending
owed_plainly : (v : Live) → length (events_in (unpassed (plain_rank v.rank))) + effects (unpassed (plain_rank v.rank)) ≡ owed v
owed_plainly v =
    ap (λ z. length (events_in z) + effects z) (unpassed_plain v.rank)
    ∙ ap (λ z. length z + effects (expanded (unpassed v.rank))) (events_expanded (unpassed v.rank))
    ∙ ap (λ n. length (expand (unstored v.rank)) + n) (effects_expanded (unpassed v.rank))

-- a live rank is where it should be
where_is : (w : WorldValue) (r : ℕ) (v : Live) (s : Stands w) → IsLive w r v → IsWhere (start_of w) (size w) w.run r v
where_is w r v s live =
    record {
      acts = k.acts;
      as_many = as_many_acts (start_of w) w.run r k.acts (unpassed (plain_rank v.rank)) k.pending ∙ owed_plainly v;
      is_run =
          continue_is_run (start_of w) (size w) w.run r k.acts (unpassed (plain_rank v.rank)) (slice_get_within w.ranks r (Some v) live) s.run.is_run k.pending;
      events =
          row_with_pending (start_of w) w.run r k.acts (unpassed (plain_rank v.rank)) k.pending
          ∙ ap (λ z. row w.run r ++ z) (ap (λ z. events_in z) (unpassed_plain v.rank) ∙ events_expanded (unpassed v.rank));
      within = k.at.within;
      after = k.at.after;
      reached = k.at.reached;
      inner = k.at.inner;
      all_made = λ some. ⊎_elim
          (λ (none : (plain v).rank.pending ≡ []). absurd (some (nothing_owed v (none_waits v (s.runs.ranks r v live) none)))) (λ all. all) k.all_made;
    }
  where
    k : RankStands (start_of w) (size w) w.run r (plain v)
    k = rank_of s r v live

-- the invariant says that the world stands for its run
pub stands_for : (w : WorldValue) → Stands w → StandsFor w w.run
stands_for w t =
    record {
      is_run = t.run.is_run;
      as_many_rows = as_many_rows t;
      rows = λ r events e. row_of t r events e;
      as_many_wires = t.run.as_many_wires;
      wires_to_all = t.run.wires_to_all;
      packets = t.run.packets;
      lines = t.run.lines;
      ranks = λ r v live. where_is w r v t live;
    }

-- and that no miss of the run misses what its rank was shown
pub none_missed : (w : WorldValue) → Stands w → NoneMissed (start_of w) w.run
none_missed w t = t.run.missed

-- a live rank has made the acts of the run and those that the invariant names
pub stands_acts : (w : WorldValue) (r : ℕ) (v : Live) (t : Stands w) (live : IsLive w r v)
    → ((stands_for w t).ranks r v live).acts ≡ (rank_of t r v live).acts
unfolding stands_for where_is
stands_acts w r v t live = refl

-- a rank in replay has nothing to store, to acknowledge or to release
pub nothing_in_replay : (w : WorldValue) (r : ℕ) (v : Live) → Stands w → IsLive w r v → v.left ≢ []
    → (next_unstored v.rank ≡ None) × (v.rank.stored ≡ 0) × (next_effect v.rank ≡ None)
nothing_in_replay w r v t live some =
    let k = t.runs.ranks r v live in
    let e : v.rank.pending ≡ [] =
    none_waits v k (settled_behind (start_at w (size w)) (size w) w.run r (plain v) (rank_of t r v live) (λ z. some (none_left v k z))) in
    let l : v.rank.stored ≤ length v.rank.pending = stored_low w r t v live in
    let z = ap length e in
    (ap (λ y. option_and_then event_in (slice_get y v.rank.stored)) e, omega (arith, l, z), ap (λ y. option_and_then effect_of (slice_get y 0)) e)
