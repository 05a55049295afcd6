-- A restart keeps what a world stands for and what senders keep.
use Rattle.std.proofs.Common.{◌≡◌, ℕ, ◌<◌, ◌≤◌, List, [], Option, Some, None, map, length, refl, sym, ap, subst, ◌∙◌, arith, slice_get, slice_set}
use Rattle.std.proofs.Common.{slice_index_or}
use Rattle.std.proofs.lemmas.List.{length-set}
use Rattle.std.proofs.lemmas.Option.{slice_get_within, slice_get-get_or, get_or_from_slice_get}
use Rattle.event_logger.specs.Sequential.Event.{EventValue}
use Rattle.event_logger.specs.Sequential.Misses.{expand}
use Rattle.event_logger.specs.Sequential.History.{above}
use Rattle.event_logger.specs.declared.sequential.call.Reply.TheVariants.{Events}
use Rattle.event_logger.proofs.SequentialLaws.Misses.{left_of_row}
use Rattle.matching.specs.Inbox.{accepted_from}
use Rattle.payload_log.specs.Backlog.{new_backlog}
use Rattle.crash_free.specs.Runs.{history}
use Rattle.bare_world.specs.Rows.{row}
use Rattle.bare_world.specs.World.{Live, WorldValue, size, covered, accepted_at}
use Rattle.bare_world.specs.Headline.{stable_of}
use Rattle.bare_world.specs.declared.reply.Reply.{Reply}
use Rattle.checkpoint.specs.Image.{ImageValue}
use Rattle.rank_node.specs.Image.{begins_at}
use Rattle.rank_node.specs.Replay.{restarted, left_of}
use Rattle.bare_world.specs.Plain.{plain, without_runs, AllCounted}
use Rattle.bare_world.specs.Stands.{start_at, ImageStands, RankStands, StandsAt, BasesCovered, RankCovers, Stands}
use Rattle.bare_world.specs.Follows.{RestartFollows}
use Rattle.bare_world.proofs.Standing.LiveRanks.{RankStands-restarted}
use Rattle.bare_world.proofs.Covers.KeptByEvents.{Covers-rank, RankCovers-restarted}
use Rattle.bare_world.proofs.Standing.Worlds.{Stands-rank}
use Rattle.bare_world.proofs.Plain.ActsOfEvents.{above_all, row_late}
use Rattle.bare_world.proofs.Plain.Worlds.{GoesOn, set_plainly, as_many_rows, row_of}
use Rattle.audit.proofs.Traces.{replicate_each}

-- a row has no event before the first act
pub row_whole : (w : WorldValue) (r : ℕ) → Stands w → (events : List EventValue) → slice_get w.logger.rows r ≡ Some events → above 0 events ≡ events
row_whole w r s events there =
    above_all 0 events (λ k e at. row_late (history w.run r) events (s.runs.rows r events there) (row_of s r events there) k e at)

-- a fetch after 0 gets the whole row
pub fetched_whole : (w : WorldValue) (r : ℕ) (answer : Reply) (w' : WorldValue) → Stands w → (f : RestartFollows w r answer w')
    → (events : List EventValue) → slice_get w.logger.rows r ≡ Some events → f.events ≡ events
fetched_whole w r answer w' s f events there =
    let q : Events f.events ≡ Events (above 0 (slice_index_or w.logger.rows r [])) = f.fetches.replied in
    let e : f.events ≡ above 0 (slice_index_or w.logger.rows r []) = cc in
    e ∙ ap (λ z. above 0 z) (get_or_from_slice_get w.logger.rows r events [] there) ∙ row_whole w r s events there

-- a restart
pub Stands-restart : (w : WorldValue) (r : ℕ) (answer : Reply) (w' : WorldValue) → Stands w → RestartFollows w r answer w' → GoesOn w'
Stands-restart w r answer w' s f =
    subst (λ z. GoesOn z) (sym f.after)
    (record {
      run =
          subst (λ k. StandsAt k (without_runs after)) (sym (length-set w.ranks r (Some v)))
          (subst (λ z.
          StandsAt (size w) (record (without_runs w) { ranks = z; logger = record { rows = map expand w'.logger.rows; history = w'.logger.history } }))
          (sym (set_plainly w.ranks r v u same))
          (Stands-rank (size w) (without_runs w) r (Some u) (record { rows = map expand w'.logger.rows; history = w'.logger.history }) s.run
          (ap (λ z. map expand z) rows_same)
          (λ x e. (let q : u ≡ x = cc in subst (λ z. RankStands (start_at w (size w)) (size w) w.run r z) q k))));
      covers = Covers-rank w after r (Some v) refl refl refl (λ x e. (let q : v ≡ x = cc in subst (λ z. RankCovers w.images r z) q c)) s.covers;
    })
  where
    v : Live
    v = record { rank = restarted (stable_of (size w) r f.shelf) f.image (length f.events); left = left_of f.image f.events }

    after : WorldValue
    after = record w { ranks = slice_set w.ranks r (Some v); logger = w'.logger }

    u : Live
    u = record { rank = restarted (stable_of (size w) r f.shelf) f.image 0; left = left_of f.image (expand f.events) }

    below : r < size w
    below = slice_get_within w.ranks r None f.down

    rows_same : w'.logger.rows ≡ w.logger.rows
    rows_same = ap (λ z. z.rows) f.fetches.logged

    there : slice_get w.logger.rows r ≡ Some (slice_index_or w.logger.rows r [])
    there = slice_get-get_or w.logger.rows r [] (subst (λ z. r < z) (sym (as_many_rows s)) below)

    is_row : f.events ≡ slice_index_or w.logger.rows r []
    is_row = fetched_whole w r answer w' s f (slice_index_or w.logger.rows r []) there

    counted : AllCounted f.events
    counted = subst (λ z. AllCounted z) (sym is_row) (s.runs.rows r (slice_index_or w.logger.rows r []) there)

    events_are : expand f.events ≡ row w.run r
    events_are = ap (λ z. expand z) is_row ∙ row_of s r (slice_index_or w.logger.rows r []) there

    same : plain v ≡ u
    same = ap (λ z. record { rank = restarted (stable_of (size w) r f.shelf) f.image 0; left = z }) (left_of_row f.image.clock f.events counted)

    stands : ImageStands (start_at w (size w)) (size w) w.run r f.image
    stands = subst (λ z. ImageStands (start_at w (size w)) (size w) w.run r z) (sym f.begins.2) (s.run.images r f.begins.0 f.begins.1)

    k : RankStands (start_at w (size w)) (size w) w.run r
        (record { rank = restarted (stable_of (size w) r f.shelf) f.image 0; left = left_of f.image (expand f.events) })
    k = RankStands-restarted (start_at w (size w)) (size w) w.run r (stable_of (size w) r f.shelf) f.image (expand f.events) 0 refl refl events_are stands

    bases : BasesCovered w.images r f.image.log
    bases = subst (λ z. BasesCovered w.images r z.log) (sym f.begins.2) (go f.begins.0 f.begins.1)
      where
        go : (o : Option ImageValue) → slice_get w.images r ≡ Some o → BasesCovered w.images r (begins_at w.program r (size w) o).log
        go None e d x at = subst (λ z. z.base ≤ covered w.images d r) (sym (replicate_each (size w) new_backlog d x at)) (omega arith)
        go (Some i) e d x at = s.covers.images r i e d x at

    since : (q : ℕ) → covered w.images r q ≤ accepted_from f.image.inbox q
    since q = subst (λ z. covered w.images r q ≤ accepted_from z.inbox q) (sym f.begins.2) (go f.begins.0 f.begins.1)
      where
        go : (o : Option ImageValue) → slice_get w.images r ≡ Some o → covered w.images r q ≤ accepted_from (begins_at w.program r (size w) o).inbox q
        go None e = subst (λ z. accepted_at z q ≤ accepted_from (begins_at w.program r (size w) None).inbox q) (sym e) (omega arith)
        go (Some i) e = subst (λ z. accepted_at z q ≤ accepted_from i.inbox q) (sym e) (omega arith)

    c : RankCovers w.images r (record { rank = restarted (stable_of (size w) r f.shelf) f.image (length f.events); left = left_of f.image f.events })
    c =
        RankCovers-restarted w.images r (record {
          rank = restarted (stable_of (size w) r f.shelf) f.image
              (length f.events);
          left = left_of f.image f.events;
        }) f.image refl refl refl bases since
