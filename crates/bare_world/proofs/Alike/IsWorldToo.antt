-- A world like one that is a world is one too: what the invariant says names no shelf but by its image, and not the logger's
-- history.
use Rattle.std.proofs.Common.{◌≡◌, ℕ, ◌<◌, List, [], ◌∷◌, map, option_map, Option, Some, None, sym, ap, subst, ◌∙◌, slice_get}
use Rattle.checkpoint.specs.Image.{ImageValue}
use Rattle.checkpoint.specs.declared.memory_shelf.MemoryShelf.{MemoryShelf}
use Rattle.matching.specs.PacketValue as packet
use Rattle.payload_log.specs.Backlog.{backlog}
use Rattle.rank_node.specs.declared.frame.Frame.TheVariants as frame
use Rattle.crash_free.specs.Runs.{Passed}
use Rattle.event_logger.specs.Sequential.Event.{EventValue}
use Rattle.rank_machine.specs.States.{State}
use Rattle.bare_world.specs.World.{Live, WorldValue, size, IsLive}
use Rattle.bare_world.specs.Counts.{RankCounts, Counts}
use Rattle.bare_world.specs.Stands.{RankStands, StandsAt, RankCovers, Covers, start_at}
use Rattle.bare_world.specs.Onward.{RankOnward, Onward, OnWire, Wired, IsWorld}
use Rattle.event_logger.specs.Sequential.Misses.{expand}
use Rattle.rank_node.specs.Image.{begins_at}
use Rattle.rank_node.specs.Replay.{is_cut}
use Rattle.bare_world.specs.Plain.{plain, without_runs, RankRuns, RunsOfMisses}
use Rattle.bare_world.specs.Driven.{shelved, IsAlike, AreAlike, Alike}
use Rattle.bare_world.proofs.Alike.ListLeadsToo.{alike_live, alike_size}
use Rattle.bare_world.proofs.Standing.LiveRanks.{stands_otherwise}
use Rattle.bare_world.proofs.Standing.Worlds.{Stands-ranks}

-- ---- a rank on another shelf

-- a rank stands where it stood in the run, whatever its shelf
stands_shelf : (start : ℕ → State) (n : ℕ) (C : List Passed) (r : ℕ) (v : Live) (shelf : MemoryShelf) → RankStands start n C r v
    → RankStands start n C r (shelved v shelf)
stands_shelf start n C r v shelf k = stands_otherwise start n C r v shelf v.rank.made k

-- images cover what a rank dropped, on whatever shelf it is
covers_shelf : (images : List (Option ImageValue)) (r : ℕ) (v : Live) (shelf : MemoryShelf) → RankCovers images r v → RankCovers images r (shelved v shelf)
covers_shelf images r v shelf k = record { bases = k.bases; dues = k.dues; since = k.since }

-- a rank has counted the same events on another shelf
counts_shelf : (v : Live) (shelf : MemoryShelf) (events : List EventValue) → RankCounts v events → RankCounts (shelved v shelf) events
counts_shelf v shelf events k = record { made = k.made; few = k.few }

-- ---- the second world, in the words of the first

-- the first with the ranks and the logger of the second
abbrev moved : WorldValue → WorldValue → WorldValue
moved a b = record a { ranks = b.ranks; logger = b.logger }

-- of two worlds alike, the second is the first with its shelves and its logger's history replaced
is_moved : (a b : WorldValue) → Alike a b → b ≡ moved a b
is_moved a b k =
    ap (λ z. record { program = z; ranks = b.ranks; images = b.images; logger = b.logger; wires = b.wires; lines = b.lines; run = b.run }) k.program
    ∙ ap (λ z. record { program = a.program; ranks = b.ranks; images = z; logger = b.logger; wires = b.wires; lines = b.lines; run = b.run }) k.images
    ∙ ap (λ z. record { program = a.program; ranks = b.ranks; images = a.images; logger = b.logger; wires = z; lines = b.lines; run = b.run }) k.wires
    ∙ ap (λ z. record { program = a.program; ranks = b.ranks; images = a.images; logger = b.logger; wires = a.wires; lines = z; run = b.run }) k.lines
    ∙ ap (λ z. record { program = a.program; ranks = b.ranks; images = a.images; logger = b.logger; wires = a.wires; lines = a.lines; run = z }) k.run

-- a rank of the second on which something holds, where it holds of that of the first on any shelf
on_live : (a b : WorldValue) (r : ℕ) (v : Live) (P : Live → Type 0) → Alike a b → IsLive b r v
    → ((u : Live) (shelf : MemoryShelf) → IsLive a r u → P (shelved u shelf)) → P v
on_live a b r v P k live f = let was = alike_live a b r v k live in subst P (sym was.same) (f was.rank was.shelf was.live)

-- the row of a rank is that of the first
row_is : (a b : WorldValue) (r : ℕ) (events : List EventValue) → Alike a b → slice_get b.logger.rows r ≡ Some events → slice_get a.logger.rows r ≡ Some events
row_is a b r events k e = ap (λ z. slice_get z r) (sym k.rows) ∙ e

-- ranks and images stand in the run where the shelves and the logger's history are those of a world alike
stands_at : (a b : WorldValue) (n : ℕ) → Alike a b → StandsAt n a → StandsAt n (moved a b)
stands_at a b n k s =
    Stands-ranks n a b.ranks b.logger s k.rows (λ r v live. on_live a b r v (λ z. RankStands (start_at a n) n a.run r z) k live
    (λ u shelf l. stands_shelf (start_at a n) n a.run r u shelf (s.ranks r u l)))

-- what senders may drop is the same there
covers : (a b : WorldValue) → Alike a b → Covers a → Covers (moved a b)
covers a b k c =
    record {
      images = c.images;
      wires = c.wires;
      ranks = λ r v live. on_live a b r v (λ z. RankCovers a.images r z) k live (λ u shelf l. covers_shelf a.images r u shelf (c.ranks r u l));
    }

-- so is how many events each rank has made
counts : (a b : WorldValue) → Alike a b → Counts a → Counts (moved a b)
counts a b k c =
    record {
      rows = λ r events e. c.rows r events (row_is a b r events k e);
      ranks = λ r v events live e. on_live a b r v (λ z. RankCounts z events) k live
          (λ u shelf l. counts_shelf u shelf events (c.ranks r u events l (row_is a b r events k e)));
    }

-- without runs of misses they are alike too
alike_ranks : (xs ys : List (Option Live)) → AreAlike xs ys → AreAlike (map (option_map plain) xs) (map (option_map plain) ys)
alike_ranks [] [] k = tt
alike_ranks [] (y ∷ ys) k = absurd k
alike_ranks (x ∷ xs) [] k = absurd k
alike_ranks (x ∷ xs) (y ∷ ys) k = (one x y k.0, alike_ranks xs ys k.1)
  where
    one : (x y : Option Live) → IsAlike x y → IsAlike (option_map plain x) (option_map plain y)
    one None None k = tt
    one None (Some v) k = absurd k
    one (Some u) None k = absurd k
    one (Some u) (Some v) k = (k.0, ap plain k.1)

-- worlds alike are alike when each event is of one act
plain_alike : (a b : WorldValue) → Alike a b → Alike (without_runs a) (without_runs b)
plain_alike a b k =
    record {
      program = k.program;
      ranks = alike_ranks a.ranks b.ranks k.ranks;
      images = k.images;
      rows = ap (λ z. map expand z) k.rows;
      wires = k.wires;
      lines = k.lines;
      run = k.run;
    }

-- and their runs of misses are the same
runs : (a b : WorldValue) → Alike a b → RunsOfMisses a → RunsOfMisses (moved a b)
runs a b k c =
    record {
      rows = λ r events e. c.rows r events (row_is a b r events k e);
      uncut = λ r j events e o at there im.
          ap (λ n. is_cut (begins_at a.program r n o).clock e) (alike_size a b k) ∙ c.uncut r j events e o (row_is a b r events k at) there im;
      ranks = λ r v live. on_live a b r v (λ z. RankRuns z) k live
          (λ u shelf l. (let h = c.ranks r u l in record { unstored = h.unstored; left = h.left; later = h.later }));
    }

-- a rank can get on
can_get_on : (a b : WorldValue) (r : ℕ) (v : Live) (shelf : MemoryShelf) → Alike a b → RankOnward a r v → RankOnward (moved a b) r (shelved v shelf)
can_get_on a b r v shelf k o =
    record {
      clock = o.clock;
      above = o.above;
      settled = o.settled;
      asked = λ behind s l. o.asked behind s (subst (λ z. s < z) (alike_size a b k) l);
    }

-- what ranks behind the run rely on holds in a world alike
onward : (a b : WorldValue) → Alike a b → Onward a → Onward (moved a b)
onward a b k o =
    record {
      acts = o.acts;
      images = o.images;
      ranks = λ r v live. on_live a b r v (λ z. RankOnward (moved a b) r z) k live (λ u shelf l. can_get_on a b r u shelf k (o.ranks r u l));
    }

-- what was transmitted is on the wires
wired : (a b : WorldValue) → Alike a b → Wired a → Wired (moved a b)
wired a b k c s d j u live l low high =
    on_live a b s u
    (λ z. (backlog z.rank.log d).base < j → j < (backlog z.rank.log d).cursor
    → (p : packet.PacketValue) × OnWire (moved a b) s d (frame.Data p) × (p.number ≡ j)) k live
    (λ x shelf lx lo hi. (let p = c s d j x lx (subst (λ z. d < z) (alike_size a b k) l) lo hi in (p.0, (p.1.0, p.1.1, p.1.2, p.1.3), p.2))) low high

-- a world like one is a world
pub alike_world : (a b : WorldValue) → Alike a b → IsWorld a → IsWorld b
alike_world a b k i =
    subst (λ z. IsWorld z) (sym (is_moved a b k))
    (record {
      stands = record {
        run =
            subst (λ n. StandsAt n (without_runs (moved a b))) (sym (alike_size a b k))
            (stands_at (without_runs a) (without_runs b) (size a) (plain_alike a b k) i.stands.run);
        covers = covers a b k i.stands.covers;
        counts = counts a b k i.stands.counts;
        runs = runs a b k i.stands.runs;
      };
      onward = onward a b k i.onward;
      wired = wired a b k i.wired;
    })
