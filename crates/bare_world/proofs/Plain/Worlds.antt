-- A world without runs of misses: its ranks are those of the world, each without runs.
use Rattle.std.proofs.Common.{◌≡◌, ℕ, zero, suc, ◌≤◌, List, [], ◌∷◌, map, option_map, Option, Some, None, length, refl, sym, ap, subst, ◌∙◌, slice_get}
use Rattle.std.proofs.Common.{slice_set}
use Rattle.event_logger.specs.Sequential.Event.{EventValue}
use Rattle.event_logger.specs.Sequential.Misses.{expand}
use Rattle.rank_node.specs.Waiting.{BeginsWithEvents}
use Rattle.rank_node.proofs.Gates.{begins_within}
use Rattle.bare_world.specs.Rows.{row}
use Rattle.bare_world.specs.World.{Live, WorldValue, size, IsLive}
use Rattle.bare_world.specs.Plain.{plain, without_runs}
use Rattle.bare_world.specs.Stands.{start_at, RankStands, StandsAt, RankCovers, Covers, Stands}
use Rattle.bare_world.proofs.Lists.Beginnings.{get_map, map_length}
use Rattle.bare_world.proofs.Plain.EffectsAndLeft.{begins_plainly}
use Rattle.bare_world.proofs.Standing.Worlds.{Goes}
use Rattle.rank_machine.proofs.CollectiveParts.{mapped_at}

-- ---- its ranks

-- what is put in a list is put in its image
pub map_set : {A B : Type 0} (f : A → B) (xs : List A) (k : ℕ) (x : A) → map f (slice_set xs k x) ≡ slice_set (map f xs) k (f x)
map_set f [] k x = refl
map_set f (y ∷ xs) zero x = refl
map_set f (y ∷ xs) (suc k) x = ap (λ z. f y ∷ z) (map_set f xs k x)

-- there are as many
pub same_size : (w : WorldValue) → size (without_runs w) ≡ size w
same_size w = map_length (option_map plain) w.ranks

-- a live rank is live
pub live_plainly : (w : WorldValue) (r : ℕ) (v : Live) → IsLive w r v → IsLive (without_runs w) r (plain v)
live_plainly w r v live = mapped_at (option_map plain) w.ranks r (Some v) live

-- a live rank is one of the world's
pub record IsPlain (w : WorldValue) (r : ℕ) (v : Live) : Type 0 where
  pub rank : Live
  pub live : IsLive w r rank
  pub same : v ≡ plain rank

-- so it is
pub is_plain : (w : WorldValue) (r : ℕ) (v : Live) → IsLive (without_runs w) r v → IsPlain w r v
is_plain w r v live = (let z = get_map (option_map plain) w.ranks r (Some v) live in go z.0 z.1 z.2)
  where
    go : (o : Option Live) → slice_get w.ranks r ≡ Some o → Some v ≡ option_map plain o → IsPlain w r v
    go None at e = absurd cc
    go (Some u) at e = record { rank = u; live = at; same = (let q : Some v ≡ Some (plain u) = e in cc) }

-- a rank that changes is changed there too
pub set_plainly : (ranks : List (Option Live)) (r : ℕ) (x y : Live) → plain x ≡ y
    → map (option_map plain) (slice_set ranks r (Some x)) ≡ slice_set (map (option_map plain) ranks) r (Some y)
set_plainly ranks r x y e = map_set (option_map plain) ranks r (Some x) ∙ ap (λ z. slice_set (map (option_map plain) ranks) r (Some z)) e

-- ---- what the invariant says of it

-- what senders may drop
covers_plainly : (w : WorldValue) → Covers w → Covers (without_runs w)
covers_plainly w c =
    record {
      images = c.images;
      wires = c.wires;
      ranks = λ r v live.
          (let u = is_plain w r v live in
          let k = c.ranks r u.rank u.live in
          subst (λ z. RankCovers w.images r z) (sym u.same) (record { bases = k.bases; dues = k.dues; since = k.since }));
    }

-- and back
plainly_covers : (w : WorldValue) → Covers (without_runs w) → Covers w
plainly_covers w c =
    record {
      images = c.images;
      wires = c.wires;
      ranks = λ r v live. (let k = c.ranks r (plain v) (live_plainly w r v live) in record { bases = k.bases; dues = k.dues; since = k.since });
    }

-- What goes with the run, and what senders may drop: all of the invariant but what ranks and rows count.
pub record GoesOn (w : WorldValue) : Type 0 where
  pub run : StandsAt (size w) (without_runs w)
  pub covers : Covers w

-- a world goes on as the world without runs does
pub goes_plainly : (w : WorldValue) → Stands w → Goes (without_runs w)
goes_plainly w s =
    record { run = subst (λ n. StandsAt n (without_runs w)) (sym (same_size w)) s.run; covers = covers_plainly w s.covers }

-- and back
pub plainly_goes : (w : WorldValue) → Goes (without_runs w) → GoesOn w
plainly_goes w g = record { run = subst (λ n. StandsAt n (without_runs w)) (same_size w) g.run; covers = plainly_covers w g.covers }

-- ---- in the invariant's words

-- a live rank goes with the run
pub rank_of : {w : WorldValue} → Stands w → (r : ℕ) (v : Live) → IsLive w r v → RankStands (start_at w (size w)) (size w) w.run r (plain v)
rank_of {w = w} s r v live = s.run.ranks r (plain v) (live_plainly w r v live)

-- each rank has a row
pub as_many_rows : {w : WorldValue} → Stands w → length w.logger.rows ≡ size w
as_many_rows {w = w} s = sym (map_length expand w.logger.rows) ∙ s.run.as_many_rows

-- it is the rank's in the run
pub row_of : {w : WorldValue} → Stands w → (r : ℕ) (events : List EventValue) → slice_get w.logger.rows r ≡ Some events → expand events ≡ row w.run r
row_of {w = w} s r events at = s.run.rows r (expand events) (mapped_at expand w.logger.rows r events at)

-- its stored events are the first of what waits
pub stored_first : (w : WorldValue) (r : ℕ) → Stands w → (v : Live) → IsLive w r v → BeginsWithEvents v.rank.stored v.rank.pending
stored_first w r s v live = begins_plainly v.rank.stored v.rank.pending (rank_of s r v live).stored

-- so no more is stored than waits
pub stored_low : (w : WorldValue) (r : ℕ) → Stands w → (v : Live) → IsLive w r v → v.rank.stored ≤ length v.rank.pending
stored_low w r s v live = begins_within v.rank.stored v.rank.pending (stored_first w r s v live)
