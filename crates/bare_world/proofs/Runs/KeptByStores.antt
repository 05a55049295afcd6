-- Crashes, restarts, images and stores keep what runs of misses are.
use Rattle.std.proofs.Common.{◌≡◌, ℕ, zero, suc, ◌+◌, ◌<◌, ◌≤◌, ◌⊎◌, inl, inr, ⊎_elim, false, List, [], ◌∷◌, ◌++◌}
use Rattle.std.proofs.Common.{Option, Some, None, length, drop, sym, ap, subst, ◌∙◌, arith, slice_get, slice_set, slice_index_or}
use Rattle.std.proofs.lemmas.List.{length-set}
use Rattle.std.proofs.lemmas.Option.{slice_get_within, slice_get-get_or}
use Rattle.checkpoint.specs.Image.{ImageValue}
use Rattle.event_logger.specs.Sequential.Event.{EventValue}
use Rattle.event_logger.specs.Sequential.History.{above}
use Rattle.event_logger.specs.Sequential.Misses.{IsCounted}
use Rattle.rank_node.specs.declared.waiting.Waiting.TheVariants as waits
use Rattle.rank_node.specs.Waiting.{events_in}
use Rattle.rank_node.specs.Image.{begins_at, image_of, after_image}
use Rattle.rank_node.specs.Storing.{after_store}
use Rattle.rank_node.specs.Replay.{is_cut, restarted, left_of}
use Rattle.crash_free.specs.Runs.{history}
use Rattle.bare_world.specs.declared.reply.Reply.{Reply}
use Rattle.bare_world.specs.World.{Live, WorldValue, size, IsLive, unstored}
use Rattle.bare_world.specs.Headline.{stable_of}
use Rattle.bare_world.specs.Plain.{plain, AllCounted, RankRuns, RunsOfMisses}
use Rattle.bare_world.specs.Rows.{events_from}
use Rattle.bare_world.specs.Stands.{start_at, Stands}
use Rattle.bare_world.specs.Follows.{StoreFollows, ImageFollows, CrashFollows}
use Rattle.bare_world.specs.Follows.{RestartFollows}
use Rattle.bare_world.proofs.Lists.Replaced.{slice_set-get}
use Rattle.bare_world.proofs.Standing.LiveRanks.{RankStands-settled, at_run, left_run, above_row}
use Rattle.bare_world.proofs.Standing.KeptByAcks.{event_there, drop_first}
use Rattle.bare_world.proofs.Standing.KeptByRestarts.{fetched_whole}
use Rattle.bare_world.proofs.Plain.ActsOfEvents.{above_each, none_above, uncut_early, uncut_late}
use Rattle.bare_world.proofs.Plain.Ranks.{none_left_plainly, none_waits_plainly}
use Rattle.bare_world.proofs.Plain.Worlds.{rank_of, row_of, as_many_rows}
use Rattle.bare_world.proofs.Calls.OldestUnstored.{oldest_first}
use Rattle.bare_world.proofs.Runs.KeptByEvents.{Runs-rank, one, all_push, all_none}

-- ---- crashes and restarts

-- so does a crash
pub Runs-crash : (w : WorldValue) (r : ℕ) (answer : Reply) (w' : WorldValue) → Stands w → CrashFollows w r answer w' → RunsOfMisses w'
Runs-crash w r answer w' s f =
    Runs-rank w w' r None (ap (λ z. z.ranks) f.after) (ap (λ z. z.logger.rows) f.after) (ap (λ z. z.images) f.after) (ap (λ z. z.program) f.after)
    (λ x e. absurd cc) s.runs

-- so does a restart
pub Runs-restart : (w : WorldValue) (r : ℕ) (answer : Reply) (w' : WorldValue) → Stands w → RestartFollows w r answer w' → RunsOfMisses w'
Runs-restart w r answer w' s f =
    Runs-rank w w' r (Some (record { rank = restarted (stable_of (size w) r f.shelf) f.image (length f.events); left = left_of f.image f.events }))
    (ap (λ z. z.ranks) f.after) (ap (λ z. z.rows) f.fetches.logged) (ap (λ z. z.images) f.after) (ap (λ z. z.program) f.after)
    (λ x e. one _ x begun e) s.runs
  where
    there : slice_get w.logger.rows r ≡ Some (slice_index_or w.logger.rows r [])
    there = slice_get-get_or w.logger.rows r [] (subst (λ z. r < z) (sym (as_many_rows s)) (slice_get_within w.ranks r None f.down))

    counted : AllCounted f.events
    counted =
        subst (λ z. AllCounted z) (sym (fetched_whole w r answer w' s f (slice_index_or w.logger.rows r []) there))
        (s.runs.rows r (slice_index_or w.logger.rows r []) there)

    begun : RankRuns (record { rank = restarted (stable_of (size w) r f.shelf) f.image (length f.events); left = left_of f.image f.events })
    begun = record {
      unstored = all_none;
      left = λ j e at. (let z = above_each f.image.clock f.events j e at in counted z.1.0 e z.1.1);
      later = λ j e at. (above_each f.image.clock f.events j e at).0;
    }

-- ---- images

-- of a rank of which nothing waits and nothing is left, no event ends after its clock
all_early : (w : WorldValue) (r : ℕ) (v : Live) (events : List EventValue) → Stands w → IsLive w r v → v.rank.pending ≡ [] → v.left ≡ []
    → slice_get w.logger.rows r ≡ Some events → (k : ℕ) (e : EventValue) → slice_get events k ≡ Some e → e.receiver_clock ≤ v.rank.clock
all_early w r v events s live settled left there k e at =
    none_above v.rank.clock events (s.runs.rows r events there)
    (ap (λ z. above v.rank.clock z) (row_of s r events there) ∙ above_own ∙ sym now ∙ none_left_plainly v left) k e at
  where
    owes : (rank_of s r v live).acts ≡ []
    owes = RankStands-settled (start_at w (size w)) (size w) w.run r (plain v) (rank_of s r v live) (none_waits_plainly v settled)

    now : (plain v).left ≡ events_from v.rank.clock (drop v.rank.clock (history w.run r))
    now = left_run (start_at w (size w)) (size w) w.run r (plain v) (rank_of s r v live) owes

    above_own : above v.rank.clock (events_from 0 (history w.run r)) ≡ events_from v.rank.clock (drop v.rank.clock (history w.run r))
    above_own =
        (let z : 0 + v.rank.clock ≡ v.rank.clock = omega arith in
        subst (λ y. above y (events_from 0 (history w.run r)) ≡ events_from y (drop v.rank.clock (history w.run r))) z
        (above_row 0 v.rank.clock (history w.run r) (at_run (start_at w (size w)) (size w) w.run r (plain v) (rank_of s r v live) owes).within))

-- so does an image
pub Runs-image : (w : WorldValue) (r : ℕ) (answer : Reply) (w' : WorldValue) → Stands w → ImageFollows w r answer w' → RunsOfMisses w'
Runs-image w r answer w' s f =
    subst (λ z. RunsOfMisses z) (sym f.after)
    (record {
      rows = s.runs.rows;
      uncut = λ q j events e o at there im. cut q j events e o at there (slice_set-get w.images r q o (Some (image_of f.before.rank)) im);
      ranks = λ q v live. go q v (slice_set-get w.ranks r q (Some v) (Some u) live);
    })
  where
    u : Live
    u = record { rank = after_image f.before.rank (stable_of (size w) r f.shelf); left = [] }

    k : RankRuns f.before
    k = s.runs.ranks r f.before f.live

    taken : RankRuns (record { rank = after_image f.before.rank (stable_of (size w) r f.shelf); left = [] })
    taken = record { unstored = (s.runs.ranks r f.before f.live).unstored; left = all_none; later = λ j e at. absurd cc }

    go : (q : ℕ) (v : Live) → ((q ≡ r) × (Some v ≡ Some u)) ⊎ ((q ≡ r → ⊥) × (slice_get w.ranks q ≡ Some (Some v))) → RankRuns v
    go q v (inr h) = s.runs.ranks q v h.1
    go q v (inl h) = one (record { rank = after_image f.before.rank (stable_of (size w) r f.shelf); left = [] }) v taken (sym h.1)

    sizes : length (slice_set w.ranks r (Some u)) ≡ size w
    sizes = length-set w.ranks r (Some u)

    cut : (q j : ℕ) (events : List EventValue) (e : EventValue) (o : Option ImageValue) → slice_get w.logger.rows q ≡ Some events
        → slice_get events j ≡ Some e → ((q ≡ r) × (o ≡ Some (image_of f.before.rank))) ⊎ ((q ≡ r → ⊥) × (slice_get w.images q ≡ Some o))
        → is_cut (begins_at w.program q (length (slice_set w.ranks r (Some u))) o).clock e ≡ false
    cut q j events e o at there (inr h) =
        ap (λ n. is_cut (begins_at w.program q n o).clock e) (length-set w.ranks r _) ∙ s.runs.uncut q j events e o at there h.1
    cut q j events e o at there (inl h) =
        ap (λ z. is_cut (begins_at w.program q (length (slice_set w.ranks r (Some u))) z).clock e) h.1
        ∙ uncut_early f.before.rank.clock e
        (all_early w r f.before events s f.live f.settled f.running (ap (λ z. slice_get w.logger.rows z) (sym h.0) ∙ at) j e there)

-- ---- stores

-- so does a store
pub Runs-store : (w : WorldValue) (r : ℕ) (answer : Reply) (w' : WorldValue) → Stands w → StoreFollows w r answer w' → RunsOfMisses w'
Runs-store w r answer w' s f =
    record {
      rows = λ q events e. counted q events (there q events e);
      uncut = λ q j events e o at is im. cut q j events e o (there q events at) is (ap (λ z. slice_get z q) (sym (ap (λ z. z.images) f.after)) ∙ im);
      ranks = λ q v live. go q v (slice_set-get w.ranks r q (Some v) (Some u) (subst (λ z. slice_get z.ranks q ≡ Some (Some v)) f.after live));
    }
  where
    u : Live
    u = record { rank = after_store f.before.rank; left = f.before.left }

    oldest : slice_get f.before.rank.pending f.before.rank.stored ≡ Some (waits.Event f.event)
    oldest = event_there f.before.rank.pending f.before.rank.stored f.event f.oldest

    first : unstored f.before.rank ≡ f.event ∷ events_in (drop (f.before.rank.stored + 1) f.before.rank.pending)
    first = ap events_in (drop_first f.before.rank.pending f.before.rank.stored (waits.Event f.event) oldest)

    is_counted : IsCounted f.event
    is_counted = (s.runs.ranks r f.before f.live).unstored 0 f.event (ap (λ z. slice_get z 0) first)

    after : RankRuns (record { rank = after_store f.before.rank; left = f.before.left })
    after = record {
      unstored = λ j e at. (s.runs.ranks r f.before f.live).unstored (suc j) e (ap (λ z. slice_get z (suc j)) first ∙ at);
      left = (s.runs.ranks r f.before f.live).left;
      later = (s.runs.ranks r f.before f.live).later;
    }

    go : (q : ℕ) (v : Live) → ((q ≡ r) × (Some v ≡ Some u)) ⊎ ((q ≡ r → ⊥) × (slice_get w.ranks q ≡ Some (Some v))) → RankRuns v
    go q v (inr h) = s.runs.ranks q v h.1
    go q v (inl h) = one (record { rank = after_store f.before.rank; left = f.before.left }) v after (sym h.1)

    own : slice_get w.logger.rows r ≡ Some (slice_index_or w.logger.rows r [])
    own = slice_get-get_or w.logger.rows r [] (subst (λ z. r < z) (sym (as_many_rows s)) (slice_get_within w.ranks r (Some f.before) f.live))

    there : (q : ℕ) (events : List EventValue) → slice_get w'.logger.rows q ≡ Some events
        → ((q ≡ r) × (events ≡ slice_index_or w.logger.rows r [] ++ f.event ∷ [])) ⊎ ((q ≡ r → ⊥) × (slice_get w.logger.rows q ≡ Some events))
    there q events e =
        slice_set-get w.logger.rows r q events (slice_index_or w.logger.rows r [] ++ f.event ∷ [])
        (ap (λ z. slice_get z.rows q) (sym f.appends.logged) ∙ e)

    counted : (q : ℕ) (events : List EventValue)
        → ((q ≡ r) × (events ≡ slice_index_or w.logger.rows r [] ++ f.event ∷ [])) ⊎ ((q ≡ r → ⊥) × (slice_get w.logger.rows q ≡ Some events))
        → AllCounted events
    counted q events (inr h) = s.runs.rows q events h.1
    counted q events (inl h) =
        subst (λ z. AllCounted z) (sym h.1)
        (all_push (slice_index_or w.logger.rows r []) f.event (s.runs.rows r (slice_index_or w.logger.rows r []) own) is_counted)

    sizes : size w' ≡ size w
    sizes = ap size f.after ∙ length-set w.ranks r _

    -- the image of the rank is at or behind its run, and the event after that
    new_uncut : (o : Option ImageValue) → slice_get w.images r ≡ Some o → is_cut (begins_at w.program r (size w) o).clock f.event ≡ false
    new_uncut o im =
        let l = (s.run.images r o im).at.within in
        let c = oldest_first w r f.before f.event s f.live f.oldest in
        uncut_late (begins_at w.program r (size w) o).clock f.event (omega (arith, l, c))

    old_or_new : (xs : List EventValue) (x : EventValue) (j : ℕ) (e : EventValue) → slice_get (xs ++ x ∷ []) j ≡ Some e
        → (slice_get xs j ≡ Some e) ⊎ (x ≡ e)
    old_or_new [] x zero e at = inr (let q : x ≡ e = cc in q)
    old_or_new [] x (suc j) e at = absurd cc
    old_or_new (y ∷ xs) x zero e at = inl at
    old_or_new (y ∷ xs) x (suc j) e at = old_or_new xs x j e at

    same_begins : (q : ℕ) (o : Option ImageValue) (e : EventValue)
        → is_cut (begins_at w'.program q (size w') o).clock e ≡ is_cut (begins_at w.program q (size w) o).clock e
    same_begins q o e =
        ap (λ p. is_cut (begins_at p q (size w') o).clock e) (ap (λ z. z.program) f.after)
        ∙ ap (λ n. is_cut (begins_at w.program q n o).clock e) sizes

    cut : (q j : ℕ) (events : List EventValue) (e : EventValue) (o : Option ImageValue)
        → ((q ≡ r) × (events ≡ slice_index_or w.logger.rows r [] ++ f.event ∷ [])) ⊎ ((q ≡ r → ⊥) × (slice_get w.logger.rows q ≡ Some events))
        → slice_get events j ≡ Some e → slice_get w.images q ≡ Some o → is_cut (begins_at w'.program q (size w') o).clock e ≡ false
    cut q j events e o (inr h) is im = same_begins q o e ∙ s.runs.uncut q j events e o h.1 is im
    cut q j events e o (inl h) is im =
        same_begins q o e
        ∙ ap (λ z. is_cut (begins_at w.program z (size w) o).clock e) h.0
        ∙ ⊎_elim
        (λ old. s.runs.uncut r j (slice_index_or w.logger.rows r []) e o own old (ap (λ z. slice_get w.images z) (sym h.0) ∙ im))
        (λ new. ap (λ z. is_cut (begins_at w.program r (size w) o).clock z) (sym new) ∙ new_uncut o (ap (λ z. slice_get w.images z) (sym h.0) ∙ im))
        (old_or_new (slice_index_or w.logger.rows r []) f.event j e (ap (λ z. slice_get z j) (sym h.1) ∙ is))
