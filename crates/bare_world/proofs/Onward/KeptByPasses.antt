-- A restart, a store and a release keep that the ranks of a world can get on.
use Rattle.std.proofs.Common.{◌≡◌, ℕ, zero, suc, ◌+◌, ◌<◌, ◌≤◌, ◌⊎◌, inl, inr, ⊎_elim, map, List, [], ◌∷◌, Option, Some, None, length, drop}
use Rattle.std.proofs.Common.{replicate, refl, sym, ap, subst, ◌∙◌, arith, slice_get, slice_index, slice_index_or}
use Rattle.std.proofs.lemmas.Bool.{cases_lt, le-leb, lt-leb}
use Rattle.std.proofs.lemmas.List.{length-set, length_push}
use Rattle.checkpoint.specs.Image.{ImageValue}
use Rattle.checkpoint.specs.declared.memory_shelf.MemoryShelf.{MemoryShelf}
use Rattle.event_logger.specs.Sequential.Event.{EventValue}
use Rattle.matching.specs.Inbox.{accepted_from}
use Rattle.matching.specs.PacketValue as packet
use Rattle.payload_log.specs.Backlog.{BacklogValue, backlog, new_backlog, freed, freed_of}
use Rattle.rank_machine.specs.States.{State}
use Rattle.rank_machine.specs.Acts.{Act}
use Rattle.rank_node.specs.declared.waiting.Waiting.{Waiting}
use Rattle.rank_node.specs.declared.waiting.Waiting.TheVariants as waits
use Rattle.rank_node.specs.Node.{no_due}
use Rattle.rank_node.specs.Waiting.{event_in, BeginsWithEvents}
use Rattle.rank_node.specs.Image.{begins_at}
use Rattle.rank_node.specs.Replay.{restarted, ask_after, left_of}
use Rattle.rank_node.specs.Releasing.{released_log, after_release}
use Rattle.rank_node.specs.Storing.{after_store}
use Rattle.crash_free.specs.Runs.{Passed, history, sent, looked_up, continue}
use Rattle.crash_free.proofs.Lists.{history-own, history-other}
use Rattle.crash_free.proofs.Going.{count_continued}
use Rattle.bare_world.specs.declared.reply.Reply.{Reply}
use Rattle.bare_world.specs.World.{Live, unpassed, WorldValue, size, IsLive}
use Rattle.bare_world.specs.Headline.{stable_of}
use Rattle.bare_world.specs.Stands.{Pending, RankStands, Stands, start_at}
use Rattle.bare_world.specs.Follows.{passed_at, RestartFollows, StoreFollows, ReleaseFollows}
use Rattle.bare_world.specs.Onward.{AreAbove, RankOnward, Onward}
use Rattle.bare_world.proofs.Lists.Beginnings.{drop_zero}
use Rattle.bare_world.proofs.Standing.Pending.{begins_effect}
use Rattle.bare_world.proofs.Standing.LiveRanks.{nothing_unpassed}
use Rattle.bare_world.specs.Plain.{plainly, plain}
use Rattle.bare_world.proofs.Standing.KeptByAcks.{some_pending, event_there}
use Rattle.bare_world.proofs.Plain.EffectsAndLeft.{unpassed_plain}
use Rattle.bare_world.proofs.Plain.Ranks.{none_waits}
use Rattle.bare_world.proofs.Plain.SameEvents.{effect_plainly}
use Rattle.bare_world.proofs.Plain.Worlds.{rank_of, stored_first}
use Rattle.bare_world.proofs.Standing.KeptByReleases.{effect_there}
use Rattle.bare_world.proofs.Onward.OneRankChanges.{same_wires, valued, OneChanged, GetsOn, onward_changed, onward_gets_on, one_changed, live_is}
use Rattle.bare_world.proofs.Onward.KeptByFrames.{above_set}
use Rattle.bare_world.proofs.Lists.Places.{set_get_same}

-- ---- a restart

-- a rank that starts again asks each rank for the message after the last that it accepted
pub asks_all : (ns : List ℕ) (s : ℕ) → s < length ns → (slice_index_or (map ask_after ns) s no_due).ask ≡ Some (slice_index ns s + 1)
asks_all [] s l = absurd (omega arith)
asks_all (n ∷ ns) zero l = refl
asks_all (n ∷ ns) (suc s) l = asks_all ns s (omega (arith, l))

-- new payload logs transmit nothing that they let go
pub above_new : (n : ℕ) → AreAbove (replicate n new_backlog)
above_new zero d = omega arith
above_new (suc n) zero = omega arith
above_new (suc n) (suc d) = above_new n d

-- those of an image neither
above_image : (log : List BacklogValue) → ((d : ℕ) (b : BacklogValue) → slice_get log d ≡ Some b → b.cursor ≡ b.base + 1) → AreAbove log
above_image [] all d = omega arith
above_image (b ∷ log) all zero = (let e = all 0 b refl in omega (arith, e))
above_image (b ∷ log) all (suc d) = above_image log (λ k. all (suc k)) d

-- a rank that starts again, where it replays these events above its image
abbrev pub begun : ℕ → ℕ → MemoryShelf → ImageValue → List EventValue → Live
begun n r shelf i events = record { rank = restarted (stable_of n r shelf) i (length events); left = left_of i events }

-- a restart: the rank may be behind then, but nothing waits, and it asks each rank
pub Onward-restart : (w : WorldValue) (r : ℕ) (answer : Reply) (w' : WorldValue) → Stands w → Stands w' → RestartFollows w r answer w'
    → Onward w → Onward w'
Onward-restart w r answer w' t t' f k =
    onward_changed w w' r (Some (begun (size w) r f.shelf f.image f.events)) t' changed
    (λ z e settled. subst (λ j. RankOnward w' r j)
    (live_is (begun (size w) r f.shelf f.image f.events) z e) here) k
  where
    changed : OneChanged w w' r (Some (begun (size w) r f.shelf f.image f.events))
    changed =
        one_changed w w' r (Some (begun (size w) r f.shelf f.image f.events))
        (ap (λ z. z.ranks) f.after) (ap (λ z. z.images) f.after) (same_wires w w' (ap (λ z. z.wires) f.after)) (ap (λ z. z.run) f.after) k

    sizes : size w' ≡ size w
    sizes = ap (λ z. length z.ranks) f.after ∙ length-set w.ranks r _

    above : (o : Option ImageValue) → slice_get w.images r ≡ Some o → AreAbove (begins_at w.program r (size w) o).log
    above None e = above_new (size w)
    above (Some i) e = above_image i.log (λ j b is. k.images r j i b e is)

    here : RankOnward w' r (begun (size w) r f.shelf f.image f.events)
    here =
        let stands = t.run.images r f.begins.0 f.begins.1 in
        let within = stands.at.within in
        let few = k.acts r in
        let same = ap (λ z. z.clock) f.begins.2 in
        let counted : length f.image.inbox.accepted ≡ size w = ap (λ z. length z.inbox.accepted) f.begins.2 ∙ stands.at.counted in
        record {
          clock = omega (arith, within, few, same);
          above = subst (λ z. AreAbove z.log) (sym f.begins.2) (above f.begins.0 f.begins.1);
          settled = λ b. refl;
          asked = λ b s l. (accepted_from f.image.inbox s + 1, omega arith, inl (asks_all f.image.inbox.accepted s (omega (arith, l, sizes, counted))));
        }

-- ---- what waits passes

-- acts that pass are of one rank
others_continued : (C : List Passed) (r : ℕ) (acts : List Act) (q : ℕ) → (q ≡ r → ⊥) → history (continue C r acts) q ≡ history C q
others_continued C r [] q ne = refl
others_continued C r (a ∷ acts) q ne =
    others_continued (record { rank = r; act = a } ∷ C) r acts q ne ∙ history-other C (record { rank = r; act = a }) q (λ e. ne (sym e))

-- an act that passes is of one rank, be it made again or not
pub others_passed : (C : List Passed) (r c : ℕ) (o : Option Act) (q : ℕ) → (q ≡ r → ⊥) → history (passed_at C r c o) q ≡ history C q
others_passed C r c None q ne = refl
others_passed C r c (Some a) q ne = go (cases_lt (length (history C r)) c)
  where
    go : (length (history C r) < c) ⊎ (c ≤ length (history C r)) → history (passed_at C r c (Some a)) q ≡ history C q
    go (inl l) = rw (lt-leb c (length (history C r)) l) (history-other C (record { rank = r; act = a }) q (λ e. ne (sym e)))
    go (inr l) = rw (le-leb c (length (history C r)) l) refl

-- An act of clock c passes for the first time: the run has one act more of the rank, and c is above those before.
pub record Passes (C : List Passed) (r c : ℕ) (o : Option Act) : Type 0 where
  pub act : Act
  pub passed : o ≡ Some act
  pub above : length (history C r) < c
  pub one_more : length (history (passed_at C r c o) r) ≡ length (history C r) + 1

-- the run has as many acts of the rank as before, or one more passes
pub passed_count : (C : List Passed) (r c : ℕ) (o : Option Act)
    → (length (history (passed_at C r c o) r) ≡ length (history C r)) ⊎ Passes C r c o
passed_count C r c None = inl refl
passed_count C r c (Some a) = go (cases_lt (length (history C r)) c)
  where
    go : (length (history C r) < c) ⊎ (c ≤ length (history C r))
        → (length (history (passed_at C r c (Some a)) r) ≡ length (history C r)) ⊎ Passes C r c (Some a)
    go (inl l) =
        inr (record {
          act = a;
          passed = refl;
          above = l;
          one_more = rw (lt-leb c (length (history C r)) l)
              (ap length (history-own C r a) ∙ length_push (history C r) (a, looked_up (λ s. sent C s r) a));
        })
    go (inr l) = inl (rw (le-leb c (length (history C r)) l) refl)

-- what waits is of an act
waits_for_act : (start : ℕ → State) (C : List Passed) (r : ℕ) (acts : List Act) (x : Waiting) (rest : List Waiting)
    → Pending start C r acts (x ∷ rest) → 1 ≤ length acts
waits_for_act start C r [] x rest p = absurd p
waits_for_act start C r (a ∷ acts) x rest p = omega arith

-- a rank with something that hasn't passed has made one act more than the run
made_more : (w : WorldValue) (r : ℕ) (v : Live) (x : Waiting) (rest : List Waiting) → RankStands (start_at w (size w)) (size w) w.run r v
    → unpassed v.rank ≡ x ∷ rest → length (history w.run r) + 1 ≤ v.rank.clock
made_more w r v x rest s e =
    let some = waits_for_act (start_at w (size w)) w.run r s.acts x rest (subst (λ z. Pending (start_at w (size w)) w.run r s.acts z) e s.pending) in
    ⊎_elim
    (λ (none : v.rank.pending ≡ []). absurd (let q : x ∷ rest ≡ [] = sym e ∙ nothing_unpassed v.rank none in cc))
    (λ (all : v.rank.clock ≡ length (history (continue w.run r s.acts) r)). (let c = count_continued w.run r s.acts in omega (arith, some, all, c)))
    s.all_made

-- a store: the rank has made all acts of the run, this one too, and is behind it nowhere
pub Onward-store : (w : WorldValue) (r : ℕ) (answer : Reply) (w' : WorldValue) → Stands w → Stands w' → StoreFollows w r answer w'
    → Onward w → Onward w'
Onward-store w r answer w' t t' f k =
    onward_gets_on w w' r f.before (valued f.before (after_store f.before.rank)) t' f.live changed owes k
  where
    o : RankOnward w r f.before
    o = k.ranks r f.before f.live

    oldest : slice_get f.before.rank.pending f.before.rank.stored ≡ Some (waits.Event f.event)
    oldest = event_there f.before.rank.pending f.before.rank.stored f.event f.oldest

    stored_live : IsLive w' r (valued f.before (after_store f.before.rank))
    stored_live =
        subst (λ z. slice_get z.ranks r ≡ Some (Some (valued f.before (after_store f.before.rank)))) (sym f.after)
        (set_get_same w.ranks r (Some f.before) (Some (valued f.before (after_store f.before.rank))) f.live)

    made : length (history w'.run r) ≤ f.before.rank.clock
    made =
        let k = rank_of t' r (valued f.before (after_store f.before.rank)) stored_live in
        ⊎_elim
        (λ (none : (plain (valued f.before (after_store f.before.rank))).rank.pending ≡ []). absurd
        (some_pending f.before.rank.pending f.before.rank.stored (waits.Event f.event) oldest
        (none_waits (valued f.before (after_store f.before.rank)) (t'.runs.ranks r (valued f.before (after_store f.before.rank)) stored_live) none)))
        (λ (all : f.before.rank.clock ≡ length (history (continue w'.run r k.acts) r)). (let c = count_continued w'.run r k.acts in omega (arith, all, c)))
        k.all_made

    changed : OneChanged w w' r (Some (valued f.before (after_store f.before.rank)))
    changed =
        record {
          ranks = ap (λ z. z.ranks) f.after;
          images = ap (λ z. z.images) f.after;
          wires = same_wires w w' (ap (λ z. z.wires) f.after);
          others = λ q ne. ap (λ z. history z.run q) f.after ∙ others_continued w.run r f.acts q ne;
          few = (let c = o.clock in omega (arith, made, c));
        }

    owes : GetsOn w w' r f.before (valued f.before (after_store f.before.rank))
    owes =
        record {
          clock = o.clock;
          above = o.above;
          behind = λ b. absurd (omega (arith, made, b));
          accepted = λ s. omega arith;
          asks = λ s from e. inl e;
        }

-- ---- a release

-- a packet that is freed leaves base and cursor
above_freed : (b : BacklogValue) → b.base < b.cursor → (freed b).base < (freed b).cursor
above_freed b l = go b.held
  where
    go : (ms : List packet.PacketValue) → (freed_of b ms).base < (freed_of b ms).cursor
    go [] = l
    go (m ∷ ms) = l

-- the payload log of a release
above_released : (log : List BacklogValue) (x : Waiting) → AreAbove log → AreAbove (released_log log x)
above_released log (waits.Event e) all = all
above_released log (waits.Send dest clock) all = above_set log dest (freed (backlog log dest)) (above_freed (backlog log dest) (all dest)) all
above_released log (waits.Line clock value) all = all

-- a release: as a store, the effect's act is one that the rank has made
pub Onward-release : (w : WorldValue) (r : ℕ) (answer : Reply) (w' : WorldValue) → Stands w → Stands w' → ReleaseFollows w r answer w'
    → Onward w → Onward w'
Onward-release w r answer w' t t' f k =
    onward_gets_on w w' r f.before (valued f.before (after_release f.before.rank f.effect)) t' f.live changed owes k
  where
    o : RankOnward w r f.before
    o = k.ranks r f.before f.live

    there : (f.before.rank.pending ≡ f.effect ∷ drop 1 f.before.rank.pending) × (event_in f.effect ≡ None)
    there = effect_there f.before.rank.pending f.effect f.oldest

    none_stored : f.before.rank.stored ≡ 0
    none_stored =
        begins_effect f.before.rank.stored f.effect (drop 1 f.before.rank.pending) there.1
        (subst (λ z. BeginsWithEvents f.before.rank.stored z) there.0 (stored_first w r t f.before f.live))

    made : length (history w'.run r) ≤ f.before.rank.clock
    made =
        let more = made_more w r (plain f.before) f.effect (plainly 0 (drop 1 f.before.rank.pending)) (rank_of t r f.before f.live)
        (unpassed_plain f.before.rank
        ∙ ap (λ z. plainly 0 z) (ap (λ z. drop z f.before.rank.pending) none_stored ∙ drop_zero f.before.rank.pending ∙ there.0)
        ∙ effect_plainly f.effect (drop 1 f.before.rank.pending) there.1) in
        let e = ap (λ z. length (history z.run r)) f.after in
        ⊎_elim (λ same. omega (arith, more, e, same)) (λ p. (let one = p.one_more in omega (arith, more, e, one)))
        (passed_count w.run r f.clock (Some f.act))

    changed : OneChanged w w' r (Some (valued f.before (after_release f.before.rank f.effect)))
    changed =
        record {
          ranks = ap (λ z. z.ranks) f.after;
          images = ap (λ z. z.images) f.after;
          wires = same_wires w w' (ap (λ z. z.wires) f.after);
          others = λ q ne. ap (λ z. history z.run q) f.after ∙ others_passed w.run r f.clock (Some f.act) q ne;
          few = (let c = o.clock in omega (arith, made, c));
        }

    owes : GetsOn w w' r f.before (valued f.before (after_release f.before.rank f.effect))
    owes =
        record {
          clock = o.clock;
          above = above_released f.before.rank.log f.effect o.above;
          behind = λ b. absurd (omega (arith, made, b));
          accepted = λ s. omega arith;
          asks = λ s from e. inl e;
        }
