-- A store keeps what a world stands for and what senders keep: each act that its event stands for passes, one after another.
use Rattle.std.proofs.Common.{◌≡◌, ℕ, zero, suc, ◌+◌, ◌<◌, ◌⊎◌, inl, inr, List, [], ◌∷◌, ◌++◌, map, Some, length, drop}
use Rattle.std.proofs.Common.{refl, sym, ap, subst, ◌∙◌, arith, append_assoc, slice_get, slice_set, slice_index_or}
use Rattle.std.proofs.lemmas.List.{append-nil, length-set}
use Rattle.std.proofs.lemmas.Option.{slice_get_within, slice_get-get_or}
use Rattle.event_logger.specs.Sequential.Event.{EventValue}
use Rattle.event_logger.specs.Sequential.History.{StateValue}
use Rattle.event_logger.specs.Sequential.Misses.{parts_of, expand}
use Rattle.event_logger.proofs.SequentialLaws.Misses.{expand_push}
use Rattle.rank_machine.specs.Acts.{Act}
use Rattle.rank_node.specs.Storing.{after_store}
use Rattle.rank_node.specs.declared.waiting.Waiting.{Waiting}
use Rattle.rank_node.specs.declared.waiting.Waiting.TheVariants as waits
use Rattle.rank_node.specs.Waiting.{BeginsWithEvents, expanded, events_in}
use Rattle.crash_free.specs.Runs.{Passed, sent, looked_up, continue}
use Rattle.bare_world.specs.Rows.{row}
use Rattle.bare_world.specs.World.{Live, WorldValue, size, IsLive, unpassed}
use Rattle.bare_world.specs.declared.reply.Reply.{Reply}
use Rattle.bare_world.specs.Plain.{plainly, plain_rank, plain, without_runs}
use Rattle.bare_world.specs.Stands.{start_at, StandsAt, Stands}
use Rattle.bare_world.specs.Follows.{StoreFollows}
use Rattle.bare_world.proofs.Rows.{row_one_more, row-other, event_prints_none}
use Rattle.bare_world.proofs.Standing.Lines.{printed_same}
use Rattle.bare_world.proofs.Lists.Beginnings.{drop_zero}
use Rattle.bare_world.proofs.Lists.Replaced.{slice_set-get}
use Rattle.bare_world.proofs.Standing.Pending.{begins_more}
use Rattle.bare_world.proofs.Standing.LiveRanks.{nothing_unpassed}
use Rattle.bare_world.proofs.Runs.EventNamesOneAct.{noted_acts}
use Rattle.bare_world.proofs.Covers.KeptByEvents.{Covers-rank}
use Rattle.bare_world.proofs.Standing.Worlds.{changed, Stands-passed}
use Rattle.bare_world.proofs.Standing.KeptByFrames.{one_cover}
use Rattle.bare_world.proofs.Standing.FirstPasses.{after_passing, First, RankStands-passes}
use Rattle.bare_world.proofs.Standing.KeptByAcks.{event_there, drop_first, event_passes}
use Rattle.bare_world.proofs.Plain.ActsOfEvents.{FirstPart, first_part}
use Rattle.bare_world.proofs.Plain.EffectsAndLeft.{unpassed_plain, plainly_drop, plainly_begins}
use Rattle.bare_world.proofs.Plain.Worlds.{GoesOn, map_set, live_plainly, set_plainly, stored_first}
use Rattle.bare_world.proofs.Lists.Places.{set_get_same}

-- ---- what was put in a list

-- also where it is looked up with a default
set_index : {A : Type 0} (xs : List A) (i : ℕ) (y d : A) → i < length xs → slice_index_or (slice_set xs i y) i d ≡ y
set_index [] i y d l = absurd (omega (arith, l))
set_index (x ∷ xs) zero y d l = refl
set_index (x ∷ xs) (suc i) y d l = set_index xs i y d (omega (arith, l))

-- until something else is
set_twice : {A : Type 0} (xs : List A) (i : ℕ) (x y : A) → slice_set (slice_set xs i x) i y ≡ slice_set xs i y
set_twice [] i x y = refl
set_twice (z ∷ xs) zero x y = refl
set_twice (z ∷ xs) (suc i) x y = ap (λ l. z ∷ l) (set_twice xs i x y)

-- the row of a rank, one event for each act
index_expanded : (rows : List (List EventValue)) (r : ℕ) → slice_index_or (map expand rows) r [] ≡ expand (slice_index_or rows r [])
index_expanded [] r = refl
index_expanded (x ∷ rows) zero = refl
index_expanded (x ∷ rows) (suc r) = index_expanded rows r

-- ---- events pass

-- Acts passed of which the events are these: the world goes on with its rank's value then.
record SomePassed (n : ℕ) (w : WorldValue) (r : ℕ) (v : Live) (es : List EventValue) (logger : StateValue) : Type 0 where
  acts : List Act
  grows : row (continue w.run r acts) r ≡ row w.run r ++ es
  as_many : length acts ≡ length es
  stands : StandsAt n (changed w r (Some v) w.images logger w.lines (continue w.run r acts))

-- one event passes
module _ (n : ℕ) (w : WorldValue) (r : ℕ) (v : Live) (e : EventValue) (rest pending : List Waiting) (stored : ℕ) (logger : StateValue)
    (s : StandsAt n w) (lt : r < n) (live : IsLive w r v) (is : unpassed v.rank ≡ waits.Event e ∷ rest)
    (same : drop stored pending ≡ rest) (low : BeginsWithEvents stored pending)
    (rows : logger.rows ≡ slice_set w.logger.rows r (slice_index_or w.logger.rows r [] ++ e ∷ [])) where
  some : v.rank.pending ≡ [] → ⊥
  some none = (let q : [] ≡ waits.Event e ∷ rest = sym (nothing_unpassed v.rank none) ∙ is in cc)

  first : First (start_at w n) n w.run r (waits.Event e) v.rank.log (record { rank = after_passing v.rank pending stored v.rank.log; left = v.left })
  first =
      RankStands-passes (start_at w n) n w.run r v (s.ranks r v live) (waits.Event e) rest pending stored v.rank.log some is same low
      (s.ranks r v live).at.logged (event_passes w.run r v.rank.clock e v.rank.log)

  own_row : slice_index_or w.logger.rows r [] ≡ row w.run r
  own_row = s.rows r (slice_index_or w.logger.rows r []) (slice_get-get_or w.logger.rows r [] (subst (λ z. r < z) (sym s.as_many_rows) lt))

  rows_are : (q : ℕ) (x : List EventValue) → slice_get logger.rows q ≡ Some x → x ≡ row (record { rank = r; act = first.act } ∷ w.run) q
  rows_are q x at =
      go (slice_set-get w.logger.rows r q x (slice_index_or w.logger.rows r [] ++ e ∷ []) (subst (λ z. slice_get z q ≡ Some x) rows at))
    where
      go : ((q ≡ r) × (x ≡ slice_index_or w.logger.rows r [] ++ e ∷ [])) ⊎ ((q ≡ r → ⊥) × (slice_get w.logger.rows q ≡ Some x))
          → x ≡ row (record { rank = r; act = first.act } ∷ w.run) q
      go (inr h) = s.rows q x h.1 ∙ sym (row-other w.run (record { rank = r; act = first.act }) q (λ z. h.0 (sym z)))
      go (inl h) =
          h.1 ∙ ap (λ z. z ++ e ∷ []) own_row ∙ sym (row_one_more w.run r first.act e first.is_for)
          ∙ ap (λ z. row (record { rank = r; act = first.act } ∷ w.run) z) (sym h.0)

  one_passes : SomePassed n w r (record { rank = after_passing v.rank pending stored v.rank.log; left = v.left }) (e ∷ []) logger
  one_passes = record {
    acts = first.act ∷ [];
    grows = row_one_more w.run r first.act e first.is_for;
    as_many = refl;
    stands =
        Stands-passed n w r first.act (record { rank = after_passing v.rank pending stored v.rank.log; left = v.left }) logger w.lines s lt
        first.can first.fair first.stands
        (ap length rows ∙ length-set w.logger.rows r _ ∙ s.as_many_rows) rows_are
        (λ q. s.lines q ∙ sym (printed_same w.run r q first.act
        (event_prints_none _ _ first.act (looked_up (λ z. sent w.run z r) first.act) e first.is_for)));
  }

-- acts after acts
continued : (C : List Passed) (r : ℕ) (xs ys : List Act) → continue C r (xs ++ ys) ≡ continue (continue C r xs) r ys
continued C r [] ys = refl
continued C r (a ∷ xs) ys = continued (record { rank = r; act = a } ∷ C) r xs ys

-- one and others are as many as all
many : (n : ℕ) (xs ys : List Act) → length xs ≡ 1 → length ys ≡ suc n → length (xs ++ ys) ≡ suc (suc n)
many n [] ys l m = absurd (omega (arith, l))
many n (a ∷ []) ys l m = ap suc m
many n (a ∷ (b ∷ xs)) ys l m = absurd (omega (arith, l))

-- where one event passed, and then others, all did
both_pass : (n : ℕ) (w : WorldValue) (r : ℕ) (u v : Live) (e f : EventValue) (es : List EventValue) (before after : StateValue)
    → (one : SomePassed n w r u (e ∷ []) before)
    → SomePassed n (changed w r (Some u) w.images before w.lines (continue w.run r one.acts)) r v (f ∷ es) after
    → SomePassed n w r v (e ∷ f ∷ es) after
both_pass n w r u v e f es before after one others =
    record {
      acts = one.acts ++ others.acts;
      grows = ap (λ z. row z r) (continued w.run r one.acts others.acts) ∙ others.grows ∙ ap (λ z. z ++ f ∷ es) one.grows
          ∙ append_assoc (row w.run r) (e ∷ []) (f ∷ es);
      as_many = many (length es) one.acts others.acts one.as_many others.as_many;
      stands =
          subst (λ z. StandsAt n (changed w r (Some v) w.images after w.lines z)) (sym (continued w.run r one.acts others.acts))
          (subst (λ z. StandsAt n (record w { ranks = z; logger = after; run = continue (continue w.run r one.acts) r others.acts }))
          (set_twice w.ranks r (Some u) (Some v)) others.stands);
    }

-- the rows after one event and others
rows_then : (rows : List (List EventValue)) (r : ℕ) (e : EventValue) (es : List EventValue) → r < length rows
    → slice_set rows r (slice_index_or rows r [] ++ e ∷ es)
    ≡ slice_set (slice_set rows r (slice_index_or rows r [] ++ e ∷ [])) r (slice_index_or (slice_set rows r (slice_index_or rows r [] ++ e ∷ [])) r [] ++ es)
rows_then rows r e es lt =
    ap (λ z. slice_set rows r z) (sym (append_assoc (slice_index_or rows r []) (e ∷ []) es)
    ∙ ap (λ z. z ++ es) (sym (set_index rows r (slice_index_or rows r [] ++ e ∷ []) [] lt)))
    ∙ sym (set_twice rows r (slice_index_or rows r [] ++ e ∷ []) _)

-- several events pass
all_pass : (n : ℕ) (w : WorldValue) (r : ℕ) (v : Live) (e : EventValue) (es : List EventValue) (rest pending : List Waiting) (stored : ℕ) (logger : StateValue)
    → StandsAt n w → r < n → IsLive w r v → unpassed v.rank ≡ waits.Event e ∷ (map waits.Event es ++ rest)
    → drop stored pending ≡ rest → BeginsWithEvents stored pending
    → logger.rows ≡ slice_set w.logger.rows r (slice_index_or w.logger.rows r [] ++ e ∷ es)
    → SomePassed n w r (record { rank = after_passing v.rank pending stored v.rank.log; left = v.left }) (e ∷ es) logger
all_pass n w r v e [] rest pending stored logger s lt live is same low rows = one_passes n w r v e rest pending stored logger s lt live is same low rows
all_pass n w r v e (f ∷ es) rest pending stored logger s lt live is same low rows =
    let one = one_passes n w r v e (map waits.Event (f ∷ es) ++ rest) (map waits.Event (f ∷ es) ++ rest) 0
    (record { rows = slice_set w.logger.rows r (slice_index_or w.logger.rows r [] ++ e ∷ []); history = w.logger.history })
    s lt live is (drop_zero (map waits.Event (f ∷ es) ++ rest)) tt refl in
    both_pass n w r (record { rank = after_passing v.rank (map waits.Event (f ∷ es) ++ rest) 0 v.rank.log; left = v.left })
    (record { rank = after_passing v.rank pending stored v.rank.log; left = v.left }) e f es
    (record { rows = slice_set w.logger.rows r (slice_index_or w.logger.rows r [] ++ e ∷ []); history = w.logger.history }) logger one
    (all_pass n
    (changed w r (Some (record { rank = after_passing v.rank (map waits.Event (f ∷ es) ++ rest) 0 v.rank.log; left = v.left })) w.images
    (record { rows = slice_set w.logger.rows r (slice_index_or w.logger.rows r [] ++ e ∷ []); history = w.logger.history }) w.lines (continue w.run r one.acts))
    r (record { rank = after_passing v.rank (map waits.Event (f ∷ es) ++ rest) 0 v.rank.log; left = v.left }) f es rest pending stored logger
    one.stands lt (set_get_same w.ranks r (Some v) _ live) (drop_zero (map waits.Event (f ∷ es) ++ rest)) same low
    (rows ∙ rows_then w.logger.rows r e (f ∷ es) (subst (λ z. r < z) (sym s.as_many_rows) lt)))

-- ---- the oldest event is stored

-- after a store ranks and images stand in a run that goes on by the acts of the stored event
pub Stands-store : (w : WorldValue) (r : ℕ) (answer : Reply) (w' : WorldValue) → Stands w → StoreFollows w r answer w' → GoesOn w'
Stands-store w r answer w' s f =
    subst (λ z. GoesOn z) (sym f.after)
    (record {
      run =
          subst (λ k. StandsAt k (without_runs after)) (sym (length-set w.ranks r (Some v)))
          (subst (λ z. StandsAt (size w) (record (without_runs w) {
            ranks = z;
            logger = record { rows = map expand w'.logger.rows; history = w'.logger.history };
            run = continue w.run r f.acts;
          })) (sym (set_plainly w.ranks r v (plain v) refl))
          (subst (λ z. StandsAt (size w) (record (without_runs w) {
            ranks = slice_set (without_runs w).ranks r (Some (plain v));
            logger = record { rows = map expand w'.logger.rows; history = w'.logger.history };
            run = continue w.run r z;
          })) same_acts passes.stands));
      covers =
          Covers-rank w after r (Some v) refl refl refl
          (one_cover w.images r v (let c = s.covers.ranks r f.before f.live in record { bases = c.bases; dues = c.dues; since = c.since })) s.covers;
    })
  where
    v : Live
    v = record { rank = after_store f.before.rank; left = f.before.left }

    after : WorldValue
    after = record w { ranks = slice_set w.ranks r (Some v); logger = w'.logger; run = continue w.run r f.acts }

    below : r < size w
    below = slice_get_within w.ranks r (Some f.before) f.live

    oldest : slice_get f.before.rank.pending f.before.rank.stored ≡ Some (waits.Event f.event)
    oldest = event_there f.before.rank.pending f.before.rank.stored f.event f.oldest

    first : unpassed f.before.rank ≡ waits.Event f.event ∷ drop (f.before.rank.stored + 1) f.before.rank.pending
    first = drop_first f.before.rank.pending f.before.rank.stored (waits.Event f.event) oldest

    parts : FirstPart f.event
    parts = first_part f.event ((s.runs.ranks r f.before f.live).unstored 0 f.event (ap (λ z. slice_get (events_in z) 0) first))

    waits_first : unpassed (plain_rank f.before.rank)
        ≡ waits.Event parts.first ∷ (map waits.Event parts.others ++ expanded (drop (f.before.rank.stored + 1) f.before.rank.pending))
    waits_first =
        unpassed_plain f.before.rank ∙ ap (λ z. expanded z) first
        ∙ ap (λ z. map waits.Event z ++ expanded (drop (f.before.rank.stored + 1) f.before.rank.pending)) parts.parts

    rows_after : map expand w'.logger.rows
        ≡ slice_set (map expand w.logger.rows) r (slice_index_or (map expand w.logger.rows) r [] ++ parts.first ∷ parts.others)
    rows_after =
        ap (λ z. map expand z.rows) f.appends.logged
        ∙ map_set expand w.logger.rows r (slice_index_or w.logger.rows r [] ++ f.event ∷ [])
        ∙ ap (λ z. slice_set (map expand w.logger.rows) r z) (expand_push (slice_index_or w.logger.rows r []) f.event
        ∙ ap (λ z. z ++ parts_of f.event) (sym (index_expanded w.logger.rows r))
        ∙ ap (λ z. slice_index_or (map expand w.logger.rows) r [] ++ z) parts.parts)

    passes : SomePassed (size w) (without_runs w) r (plain v) (parts.first ∷ parts.others)
        (record { rows = map expand w'.logger.rows; history = w'.logger.history })
    passes =
        all_pass (size w) (without_runs w) r (plain f.before) parts.first parts.others (expanded (drop (f.before.rank.stored + 1) f.before.rank.pending))
        (plainly (f.before.rank.stored + 1) f.before.rank.pending) (f.before.rank.stored + 1)
        (record { rows = map expand w'.logger.rows; history = w'.logger.history }) s.run below (live_plainly w r f.before f.live) waits_first
        (plainly_drop (f.before.rank.stored + 1) f.before.rank.pending)
        (plainly_begins (f.before.rank.stored + 1) f.before.rank.pending
        (begins_more f.before.rank.stored f.before.rank.pending f.event (stored_first w r s f.before f.live) oldest))
        rows_after

    noted : expand (f.event ∷ []) ≡ parts.first ∷ parts.others
    noted = append-nil (parts_of f.event) ∙ parts.parts

    same_acts : passes.acts ≡ f.acts
    same_acts =
        noted_acts w.run r passes.acts f.acts (parts.first ∷ parts.others) passes.grows passes.as_many
        (f.noted.row_grows ∙ ap (λ z. row w.run r ++ z) noted) (f.noted.as_many ∙ ap length noted)
