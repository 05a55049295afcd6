-- Want of memory leaves the invariant, nothing happens that can't, and a new world has the invariant.
use Rattle.std.proofs.Common.{◌≡◌, ℕ, zero, suc, ◌+◌, ◌≤◌, inl, ⊎_elim, map, List, [], ◌∷◌, Option, Some, None, length}
use Rattle.std.proofs.Common.{replicate, refl, sym, ap, subst, ◌∙◌, arith, slice_get, option_and_then}
use Rattle.bare_world.specs.Counts.{RankCounts}
use Rattle.bare_world.specs.Plain.{plain, without_runs, RankRuns}
use Rattle.bare_world.specs.Follows.{CanNot, Happens}
use Rattle.bare_world.specs.Memory.{Fetched, Unchanged}
use Rattle.bare_world.proofs.Standing.LiveRanks.{ahead, first_image_stands}
use Rattle.event_logger.specs.Sequential.Event.{EventValue}
use Rattle.event_logger.specs.Sequential.Misses.{expand}
use Rattle.std.proofs.lemmas.Option.{slice_get_within}
use Rattle.checkpoint.specs.declared.memory_shelf.MemoryShelf.{MemoryShelf}
use Rattle.payload_log.specs.Backlog.{new_backlog}
use Rattle.rank_language.specs.Program.{ProgramValue, block_of}
use Rattle.rank_language.proofs.Places.{begins_there}
use Rattle.rank_machine.specs.States.{opening, first_store}
use Rattle.rank_machine.specs.Machine.{state_of}
use Rattle.rank_node.specs.Node as node
use Rattle.rank_node.specs.declared.due.Due.{Due}
use Rattle.rank_node.specs.declared.frame.Frame.{Frame}
use Rattle.crash_free.specs.Runs.{printed, IsRun}
use Rattle.bare_world.specs.Rows.{row}
use Rattle.bare_world.specs.World.{Live, WorldValue, size, IsLive, IsWire, covered}
use Rattle.bare_world.specs.Headline.{stable_of, lines_of, IsFresh, IsOpened}
use Rattle.rank_node.specs.declared.waiting.Waiting.{Waiting}
use Rattle.rank_node.specs.Releasing.{effect_of, next_effect}
use Rattle.bare_world.specs.declared.event.WorldEvent.{WorldEvent}
use Rattle.bare_world.specs.declared.event.WorldEvent.TheVariants.{Step, Put, Arrive, Store, Ack, Image, Crash, Restart, Release}
use Rattle.bare_world.specs.declared.reply.Reply.{Reply}
use Rattle.checkpoint.specs.Image.{ImageValue}
use Rattle.rank_node.specs.Image.{first_image, begins_at}
use Rattle.bare_world.specs.Misses.{NoneMissed}
use Rattle.bare_world.specs.Stands.{ImageStands, RankStands, start_at, StandsAt, DueCovered, RankCovers, Stands}
use Rattle.bare_world.proofs.Lists.Beginnings.{replicate_length, get_map, map_length}
use Rattle.bare_world.proofs.Plain.Ranks.{none_waits, none_left}
use Rattle.bare_world.proofs.Plain.Worlds.{IsPlain, is_plain, rank_of}
use Rattle.audit.proofs.Traces.{replicate_each}

-- ---- refused memory

-- a fetch keeps the invariant
fetched_stands : (w : WorldValue) (r : ℕ) (w' : WorldValue) → Stands w → Fetched w r w' → Stands w'
fetched_stands w r w' s f =
    subst (λ z. Stands z) (sym f.after)
    (record {
      run = record {
        is_run = s.run.is_run;
        missed = s.run.missed;
        as_many_rows = ap (λ z. length (map expand z)) rows ∙ s.run.as_many_rows;
        rows = λ q events e. s.run.rows q events (subst (λ z. slice_get (map expand z) q ≡ Some events) rows e);
        as_many_wires = s.run.as_many_wires;
        wires_to_all = s.run.wires_to_all;
        packets = s.run.packets;
        lines = s.run.lines;
        as_many_images = s.run.as_many_images;
        images = s.run.images;
        ranks = s.run.ranks;
      };
      covers = record { images = s.covers.images; wires = s.covers.wires; ranks = s.covers.ranks };
      counts =
          record {
            rows = λ q events e. s.counts.rows q events
                (subst (λ z. slice_get z q ≡ Some events) rows e);
            ranks = λ q v events live e. s.counts.ranks q v events live
                (subst (λ z. slice_get z q ≡ Some events) rows e);
          };
      runs =
          record {
            rows = λ q events e. s.runs.rows q events (subst (λ z. slice_get z q ≡ Some events) rows e);
            uncut = λ q k events e o at there image. s.runs.uncut q k events e o (subst (λ z. slice_get z q ≡ Some events) rows at) there image;
            ranks = s.runs.ranks;
          };
    })
  where
    rows : w'.logger.rows ≡ w.logger.rows
    rows = ap (λ z. z.rows) f.fetches.logged

-- refused memory keeps the invariant
pub stands_unchanged : (w : WorldValue) (event : WorldEvent) (w' : WorldValue) → Stands w → Unchanged w event w' → Stands w'
stands_unchanged w (Restart r) w' s u = ⊎_elim (λ e. subst (λ z. Stands z) (sym e) s) (λ f. fetched_stands w r w' s f) u
stands_unchanged w (Step r) w' s u = subst (λ z. Stands z) (sym u) s
stands_unchanged w (Put r d) w' s u = subst (λ z. Stands z) (sym u) s
stands_unchanged w (Arrive q r i) w' s u = subst (λ z. Stands z) (sym u) s
stands_unchanged w (Store r) w' s u = subst (λ z. Stands z) (sym u) s
stands_unchanged w (Ack r) w' s u = subst (λ z. Stands z) (sym u) s
stands_unchanged w (Image r) w' s u = subst (λ z. Stands z) (sym u) s
stands_unchanged w (Crash r) w' s u = subst (λ z. Stands z) (sym u) s
stands_unchanged w (Release r) w' s u = subst (λ z. Stands z) (sym u) s

-- ---- what happens is nothing that can't

-- a rank with something to release replays nothing
release_running : (w : WorldValue) (r : ℕ) (v : Live) → Stands w → IsLive w r v → (x : Waiting) → next_effect v.rank ≡ Some x → v.left ≡ []
release_running w r v s live x there =
    let k = s.runs.ranks r v live in
    none_left v k (ahead (start_at w (size w)) (size w) w.run r (plain v) (rank_of s r v live)
    (λ e. (let q : None ≡ Some x = sym (ap (λ y. option_and_then effect_of (slice_get y 0)) (none_waits v k e)) ∙ there in cc)))

-- nothing both happens and can't
pub happens_can : (w : WorldValue) (event : WorldEvent) (answer : Reply) (w' : WorldValue) → Stands w → Happens w event answer w' → CanNot w event → ⊥
happens_can w (Step r) answer w' s h c =
    ⊎_elim (λ f. (c f.before f.live).1 f.allowed) (λ f. (let q : f.event ∷ f.rest ≡ [] = sym f.replaying ∙ (c f.before f.live).0 in cc)) h
happens_can w (Put r d) answer w' s f c =
    let l = slice_get_within f.of_s d f.frames f.wire in
    let e = s.run.wires_to_all r f.of_s f.wires in
    let q : Some f.frame ≡ None = sym f.next ∙ c f.before f.live (omega (arith, l, e)) in
    cc
happens_can w (Arrive from r i) answer w' s f c = c f.before f.frames f.frame f.live f.wire f.there
happens_can w (Store r) answer w' s f c = (let q : Some f.event ≡ None = sym f.oldest ∙ c f.before f.live in cc)
happens_can w (Ack r) answer w' s f c = f.some (c f.before f.live)
happens_can w (Image r) answer w' s f c = c f.before f.live f.running f.settled
happens_can w (Crash r) answer w' s f c = c f.before f.live
happens_can w (Restart r) answer w' s f c = c f.down
happens_can w (Release r) answer w' s f c =
    (let q : Some f.effect ≡ None = sym f.oldest ∙ c f.before f.live (release_running w r f.before s f.live f.effect f.oldest) in cc)

-- ---- a new world

-- a machine at the beginning is in the opening state
opened : (program : ProgramValue) (n r : ℕ) → state_of (first_image program r n).machine ≡ opening program r n
opened program n r = ap (λ z. record { store = first_store program r n; rest = z; fault = None }) (begins_there (block_of program))

-- the beginning of the program goes with no run
fresh_image : (w : WorldValue) (n r : ℕ) → ImageStands (start_at w n) n [] r (first_image w.program r n)
fresh_image w n r = first_image_stands (start_at w n) n [] r w.program refl (opened w.program n r)

-- so does a rank at its beginning
fresh_rank : (w : WorldValue) (n r : ℕ) (shelf : MemoryShelf)
    → RankStands (start_at w n) n [] r (plain (record { rank = node.opening w.program (stable_of n r shelf); left = [] }))
fresh_rank w n r shelf =
    record {
      number = refl;
      size = refl;
      acts = [];
      pending = tt;
      stored = tt;
      all_made = inl refl;
      left = refl;
      logs = (fresh_image w n r).logs;
      at = (fresh_image w n r).at;
    }

-- without images nothing is covered
none_covered : (n d s : ℕ) → covered (replicate n None) d s ≡ 0
none_covered zero d s = refl
none_covered (suc n) zero s = refl
none_covered (suc n) (suc d) s = none_covered n d s

-- a new world has the invariant
pub stands_fresh : (program : ProgramValue) (n : ℕ) (w : WorldValue) → IsFresh program n w → Stands w
stands_fresh program n w f =
    record {
      run = subst (λ k. StandsAt k (without_runs w)) (sym f.as_many) at;
      covers = record {
        images = λ s i e. absurd (no_image s i e);
        wires = λ q s k frames g there e. absurd (nothing_put q s k frames g there e);
        ranks = λ r v live. rank_covers r v (f.ranks r (Some v) live);
      };
      counts = record {
        rows = λ r events e. (let l = ap length (empty r events e) in omega (arith, l));
        ranks = λ r v events live e. rank_counts r v events (f.ranks r (Some v) live) (empty r events e);
      };
      runs = record {
        rows = λ r events e k x at. absurd (no_event events (empty r events e) k x at);
        uncut = λ r k events x o e at image. absurd (no_event events (empty r events e) k x at);
        ranks = λ r v live. rank_runs v (f.ranks r (Some v) live);
      };
    }
  where
    of_wires : (s : ℕ) (x : List (List Frame)) → slice_get w.wires s ≡ Some x → x ≡ replicate n []
    of_wires s x e = replicate_each n (replicate n []) s x (subst (λ z. slice_get z s ≡ Some x) f.wires e)

    nothing_put : (s d k : ℕ) (frames : List Frame) (g : Frame) → IsWire w s d frames → slice_get frames k ≡ Some g → ⊥
    nothing_put s d k frames g there e =
        let none : frames ≡ [] = replicate_each n [] d frames (subst (λ z. slice_get z d ≡ Some frames) (of_wires s there.0 there.1) there.2) in
        let bad : slice_get [] k ≡ Some g = subst (λ z. slice_get z k ≡ Some g) none e in
        cc

    of_images : (r : ℕ) (o : Option ImageValue) → slice_get w.images r ≡ Some o → o ≡ None
    of_images r o e = replicate_each n None r o (subst (λ z. slice_get z r ≡ Some o) f.images e)

    no_image : (r : ℕ) (i : ImageValue) → slice_get w.images r ≡ Some (Some i) → ⊥
    no_image r i e = (let q : Some i ≡ None = of_images r (Some i) e in cc)

    rank_is : (r : ℕ) (v : Live) → IsOpened program n r (Some v) → RankStands (start_at w n) n w.run r (plain v)
    rank_is r v h =
        subst (λ z. RankStands (start_at w n) n z r (plain v)) (sym f.run)
        (subst (λ z. RankStands (start_at w n) n [] r (plain z)) (sym
        (subst (λ p. v ≡ record { rank = node.opening p (stable_of n r v.rank.stable.shelf); left = [] }) (sym f.same_program) h.0))
        (fresh_rank w n r v.rank.stable.shelf))

    plain_is : (r : ℕ) (v : Live) → IsPlain w r v → RankStands (start_at w n) n w.run r v
    plain_is r v u = subst (λ z. RankStands (start_at w n) n w.run r z) (sym u.same) (rank_is r u.rank (f.ranks r (Some u.rank) u.live))

    empty_plainly : (r : ℕ) (events : List EventValue) → slice_get (map expand w.logger.rows) r ≡ Some events → events ≡ []
    empty_plainly r events e =
        (let z = get_map expand w.logger.rows r events e in
        z.2 ∙ ap (λ y. expand y) (replicate_each n [] r z.0 (subst (λ y. slice_get y r ≡ Some z.0) f.rows z.1)))

    empty : (r : ℕ) (events : List EventValue) → slice_get w.logger.rows r ≡ Some events → events ≡ []
    empty r events e = replicate_each n [] r events (subst (λ z. slice_get z r ≡ Some events) f.rows e)

    rank_counts : (r : ℕ) (v : Live) (events : List EventValue) → IsOpened program n r (Some v) → events ≡ [] → RankCounts v events
    rank_counts r v events h none =
        subst (λ z. RankCounts z events) (sym h.0) (
        let l = ap length none in
        record { made = (let z : 0 ≡ length events + 0 = omega (arith, l) in z); few = omega arith })

    no_event : (events : List EventValue) → events ≡ [] → (k : ℕ) (x : EventValue) → slice_get events k ≡ Some x → ⊥
    no_event [] e k x at = cc
    no_event (y ∷ events) e k x at = cc

    rank_runs : {r : ℕ} (v : Live) → IsOpened program n r (Some v) → RankRuns v
    rank_runs v h =
        subst (λ z. RankRuns z) (sym h.0) (record { unstored = λ k x at. absurd cc; left = λ k x at. absurd cc; later = λ k x at. absurd cc })

    rank_covers : (r : ℕ) (v : Live) → IsOpened program n r (Some v) → RankCovers w.images r v
    rank_covers r v h =
        subst (λ z. RankCovers w.images r z) (sym h.0)
        (record {
          bases = λ d b e. subst (λ z. z.base ≤ covered w.images d r) (sym (replicate_each n new_backlog d b e)) (omega arith);
          dues = λ d due e. subst (λ (z : Due). DueCovered w.images r d z.kept) (sym (replicate_each n node.no_due d due e)) tt;
          since = λ s. (let z = ap (λ y. covered y r s) f.images ∙ none_covered n r s in omega (arith, z));
        })

    at : StandsAt n (without_runs w)
    at = record {
      is_run = subst (λ z. IsRun (start_at w n) n z) (sym f.run) tt;
      missed = subst (λ z. NoneMissed (start_at w n) z) (sym f.run) tt;
      as_many_rows = map_length expand w.logger.rows ∙ ap length f.rows ∙ replicate_length n [];
      rows = λ r events e. empty_plainly r events e ∙ sym (ap (λ z. row z r) f.run);
      as_many_wires = ap length f.wires ∙ replicate_length n (replicate n []);
      wires_to_all = λ s x e. ap length (of_wires s x e) ∙ replicate_length n [];
      packets = λ s d k frames g there e. absurd (nothing_put s d k frames g there e);
      lines = λ r. ap (λ z. lines_of r z) f.lines ∙ sym (ap (λ z. printed z r) f.run);
      as_many_images = ap length f.images ∙ replicate_length n None;
      images = λ r o e. subst (λ z. ImageStands (start_at w n) n z r (begins_at w.program r n o)) (sym f.run)
          (subst (λ z. ImageStands (start_at w n) n [] r (begins_at w.program r n z)) (sym (of_images r o e)) (fresh_image w n r));
      ranks = λ r v live. plain_is r v (is_plain w r v live);
    }
