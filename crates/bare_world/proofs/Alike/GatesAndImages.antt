-- A store, an acknowledgment, an image, a crash and a release leave worlds alike that are alike, and what happens in the one of them may happen
-- in the other: no gate asks for a shelf, and an image asks for one that holds it.
use Rattle.std.proofs.Common.{◌≡◌, ℕ, [], ◌∷◌, ◌++◌, Some, None, refl, sym, ap, subst, ◌∙◌, slice_set}
use Rattle.checkpoint.specs.Shelf.{image_bytes}
use Rattle.checkpoint.specs.declared.memory_shelf.MemoryShelf.{MemoryShelf}
use Rattle.event_logger.specs.Sequential.Misses.{expand}
use Rattle.event_logger.specs.Sequential.History.{row, append_reply, state_after, next_call}
use Rattle.event_logger.specs.declared.sequential.call.Call.TheVariants.{Append}
use Rattle.event_logger.specs.declared.sequential.call.Reply.TheVariants.{Length}
use Rattle.rank_node.specs.declared.waiting.Waiting.{Waiting}
use Rattle.rank_node.specs.declared.waiting.Waiting.TheVariants as waits
use Rattle.rank_node.specs.Waiting.{effect_clock}
use Rattle.rank_node.specs.Image.{image_of, image_on, after_image}
use Rattle.rank_node.specs.Storing.{next_unstored, after_store, after_ack}
use Rattle.rank_node.specs.Releasing.{next_effect, after_release}
use Rattle.crash_free.specs.Runs.{continue}
use Rattle.bare_world.specs.declared.event.WorldEvent.TheVariants.{Store, Ack, Image, Crash, Release}
use Rattle.bare_world.specs.declared.reply.Reply.{Reply}
use Rattle.bare_world.specs.declared.reply.Reply.TheVariants as reply
use Rattle.bare_world.specs.Rows.{Noted}
use Rattle.bare_world.specs.World.{Rank, Live, WorldValue, size, IsLive}
use Rattle.bare_world.specs.Headline.{stable_of}
use Rattle.bare_world.specs.Follows.{with_rank, passed_at, released_act, lines_released}
use Rattle.bare_world.specs.Follows.{StoreFollows, AckFollows, ImageFollows, CrashFollows, ReleaseFollows}
use Rattle.bare_world.specs.Driven.{on_shelf, shelved, AreAlike, Alike}
use Rattle.bare_world.proofs.Calls.RankOfEvent.{one_live}
use Rattle.bare_world.proofs.Runs.EventNamesOneAct.{noted_acts}
use Rattle.bare_world.proofs.Alike.ListLeadsToo.{alike_set, alike_size, alike_live}
use Rattle.bare_world.proofs.Alike.MayHappenToo.{HasCourse}
use Rattle.bare_world.proofs.Lists.Places.{one_there}

-- ---- one rank of each

-- a rank that is live in both is the same on another shelf
on_other : (a b : WorldValue) (r : ℕ) (u v : Live) → Alike a b → IsLive a r u → IsLive b r v → (shelf : MemoryShelf) × (v ≡ shelved u shelf)
on_other a b r u v k lu lv =
    let was = alike_live a b r v k lv in
    (was.shelf, was.same ∙ ap (λ z. shelved z was.shelf) (one_live a r u was.rank lu was.live))

-- ranks stay alike where one is set to another in each, and these two are alike
set_alike : (a b a' b' : WorldValue) (r : ℕ) (u v : Live) → Alike a b → a'.ranks ≡ slice_set a.ranks r (Some u) → b'.ranks ≡ slice_set b.ranks r (Some v)
    → (shelf : MemoryShelf) × (v ≡ shelved u shelf) → AreAlike a'.ranks b'.ranks
set_alike a b a' b' r u v k f g s =
    subst (λ z. AreAlike z b'.ranks) (sym f)
    (subst (λ z. AreAlike (slice_set a.ranks r (Some u)) z) (sym g) (alike_set a.ranks b.ranks r (Some u) (Some v) k.ranks s))

-- ---- a store

-- the rank after it
abbrev with_store : Live → Live
with_store v = record { rank = after_store v.rank; left = v.left }

-- stores the same event, for the same acts
pub store_alike : (a b : WorldValue) (r : ℕ) (x y : Reply) (a' b' : WorldValue) → Alike a b → StoreFollows a r x a' → StoreFollows b r y b' → Alike a' b'
store_alike a b r x y a' b' k f g =
    let s = on_other a b r f.before g.before k f.live g.live in
    let event : g.event ≡ f.event =
    one_there g.event f.event (next_unstored f.before.rank) (ap (λ (z : Live). next_unstored z.rank) (sym s.1) ∙ g.oldest) f.oldest in
    let noted : Noted a.run r g.acts f.event = subst (λ z. Noted a.run r g.acts z) event (subst (λ C. Noted C r g.acts g.event) k.run g.noted) in
    let acts : g.acts ≡ f.acts =
    noted_acts a.run r g.acts f.acts (expand (f.event ∷ [])) noted.row_grows noted.as_many f.noted.row_grows f.noted.as_many in
    let rows_a : a'.logger.rows ≡ slice_set a.logger.rows r (row a.logger.rows r ++ f.event ∷ []) = ap (λ z. z.rows) f.appends.logged in
    let rows_b : b'.logger.rows ≡ slice_set b.logger.rows r (row b.logger.rows r ++ g.event ∷ []) = ap (λ z. z.rows) g.appends.logged in
    record {
      program = ap (λ z. z.program) g.after ∙ k.program ∙ sym (ap (λ z. z.program) f.after);
      ranks =
          set_alike a b a' b' r (with_store f.before) (with_store g.before) k (ap (λ z. z.ranks) f.after) (ap (λ z. z.ranks) g.after)
          (s.0, ap (λ (z : Live). with_store z) s.1);
      images = ap (λ z. z.images) g.after ∙ k.images ∙ sym (ap (λ z. z.images) f.after);
      rows =
          rows_b ∙ ap (λ z. slice_set z r (row z r ++ g.event ∷ [])) k.rows
          ∙ ap (λ z. slice_set a.logger.rows r (row a.logger.rows r ++ z ∷ [])) event ∙ sym rows_a;
      wires = ap (λ z. z.wires) g.after ∙ k.wires ∙ sym (ap (λ z. z.wires) f.after);
      lines = ap (λ z. z.lines) g.after ∙ k.lines ∙ sym (ap (λ z. z.lines) f.after);
      run =
          ap (λ z. z.run) g.after ∙ ap (λ z. continue z r g.acts) k.run ∙ ap (λ z. continue a.run r z) acts ∙ sym (ap (λ z. z.run) f.after);
    }

-- it happens too
pub store_too : (a b : WorldValue) (r : ℕ) (y : Reply) (b' : WorldValue) → Alike a b → StoreFollows b r y b' → HasCourse a (Store r)
store_too a b r y b' k g =
    let was = alike_live a b r g.before k g.live in (
      reply.Stored g.count,
      record a {
        ranks = slice_set a.ranks r (Some (record { rank = after_store was.rank.rank; left = was.rank.left }));
        logger = state_after a.logger (next_call a.logger.history r (Append g.event) (Length g.count));
        run = continue a.run r g.acts;
      },
      record {
        before = was.rank;
        live = was.live;
        event = g.event;
        oldest = sym (ap (λ (z : Live). next_unstored z.rank) was.same) ∙ g.oldest;
        count = g.count;
        answered = refl;
        appends = record { replied = g.appends.replied ∙ ap (λ z. append_reply (row z r) g.event) k.rows; logged = refl };
        acts = g.acts;
        noted = subst (λ C. Noted C r g.acts g.event) k.run g.noted;
        after = refl;
      },
    )

-- ---- an acknowledgment

-- the rank after it
abbrev with_ack : Live → Live
with_ack v = record { rank = after_ack v.rank; left = v.left }

-- leaves the same waiting
pub ack_alike : (a b : WorldValue) (r : ℕ) (x y : Reply) (a' b' : WorldValue) → Alike a b → AckFollows a r x a' → AckFollows b r y b' → Alike a' b'
ack_alike a b r x y a' b' k f g =
    let s = on_other a b r f.before g.before k f.live g.live in
    record {
      program = ap (λ z. z.program) g.after ∙ k.program ∙ sym (ap (λ z. z.program) f.after);
      ranks =
          set_alike a b a' b' r (with_ack f.before) (with_ack g.before) k (ap (λ z. z.ranks) f.after) (ap (λ z. z.ranks) g.after)
          (s.0, ap (λ (z : Live). with_ack z) s.1);
      images = ap (λ z. z.images) g.after ∙ k.images ∙ sym (ap (λ z. z.images) f.after);
      rows = ap (λ z. z.logger.rows) g.after ∙ k.rows ∙ sym (ap (λ z. z.logger.rows) f.after);
      wires = ap (λ z. z.wires) g.after ∙ k.wires ∙ sym (ap (λ z. z.wires) f.after);
      lines = ap (λ z. z.lines) g.after ∙ k.lines ∙ sym (ap (λ z. z.lines) f.after);
      run = ap (λ z. z.run) g.after ∙ k.run ∙ sym (ap (λ z. z.run) f.after);
    }

-- it happens too
pub ack_too : (a b : WorldValue) (r : ℕ) (y : Reply) (b' : WorldValue) → Alike a b → AckFollows b r y b' → HasCourse a (Ack r)
ack_too a b r y b' k g =
    let was = alike_live a b r g.before k g.live in (
      reply.Acked,
      with_rank a r (Some (record { rank = after_ack was.rank.rank; left = was.rank.left })),
      record {
        before = was.rank;
        live = was.live;
        some = λ e. g.some (ap (λ (z : Live). z.rank.stored) was.same ∙ e);
        answered = refl;
        after = refl;
      },
    )

-- ---- an image

-- the rank after it, of so many, on this shelf
abbrev with_image : ℕ → ℕ → MemoryShelf → Live → Live
with_image n r shelf v = record { rank = after_image v.rank (stable_of n r shelf); left = [] }

-- is the same image, on whatever shelf
pub image_alike : (a b : WorldValue) (r : ℕ) (x y : Reply) (a' b' : WorldValue) → Alike a b → ImageFollows a r x a' → ImageFollows b r y b' → Alike a' b'
image_alike a b r x y a' b' k f g =
    let s = on_other a b r f.before g.before k f.live g.live in
    record {
      program = ap (λ z. z.program) g.after ∙ k.program ∙ sym (ap (λ z. z.program) f.after);
      ranks =
          set_alike a b a' b' r (with_image (size a) r f.shelf f.before) (with_image (size b) r g.shelf g.before) k
          (ap (λ z. z.ranks) f.after) (ap (λ z. z.ranks) g.after)
          (g.shelf, ap (λ n. with_image n r g.shelf g.before) (alike_size a b k) ∙ ap (λ (z : Live). with_image (size a) r g.shelf z) s.1);
      images =
          ap (λ z. z.images) g.after ∙ ap (λ z. slice_set z r (Some (image_of g.before.rank))) k.images
          ∙ ap (λ (z : Live). slice_set a.images r (Some (image_of z.rank))) s.1 ∙ sym (ap (λ z. z.images) f.after);
      rows = ap (λ z. z.logger.rows) g.after ∙ k.rows ∙ sym (ap (λ z. z.logger.rows) f.after);
      wires = ap (λ z. z.wires) g.after ∙ k.wires ∙ sym (ap (λ z. z.wires) f.after);
      lines = ap (λ z. z.lines) g.after ∙ k.lines ∙ sym (ap (λ z. z.lines) f.after);
      run = ap (λ z. z.run) g.after ∙ k.run ∙ sym (ap (λ z. z.run) f.after);
    }

-- it happens too, on the same shelf
pub image_too : (a b : WorldValue) (r : ℕ) (y : Reply) (b' : WorldValue) → Alike a b → ImageFollows b r y b' → HasCourse a (Image r)
image_too a b r y b' k g =
    let was = alike_live a b r g.before k g.live in (
      reply.Imaged,
      record a {
        ranks = slice_set a.ranks r (Some (record { rank = after_image was.rank.rank (stable_of (size a) r g.shelf); left = [] }));
        images = slice_set a.images r (Some (image_of was.rank.rank));
      },
      record {
        before = was.rank;
        live = was.live;
        running = sym (ap (λ z. z.left) was.same) ∙ g.running;
        settled = sym (ap (λ (z : Live). z.rank.pending) was.same) ∙ g.settled;
        shelf = g.shelf;
        held =
            ap (λ z. image_on z r (size a) (image_bytes g.shelf.image)) (sym k.program)
            ∙ ap (λ z. image_on b.program r z (image_bytes g.shelf.image)) (sym (alike_size a b k)) ∙ g.held
            ∙ ap (λ (z : Live). Some (image_of z.rank)) was.same;
        answered = refl;
        after = refl;
      },
    )

-- ---- a crash

-- leaves nothing of the rank
pub crash_alike : (a b : WorldValue) (r : ℕ) (x y : Reply) (a' b' : WorldValue) → Alike a b → CrashFollows a r x a' → CrashFollows b r y b' → Alike a' b'
crash_alike a b r x y a' b' k f g =
    record {
      program = ap (λ z. z.program) g.after ∙ k.program ∙ sym (ap (λ z. z.program) f.after);
      ranks =
          subst (λ z. AreAlike z b'.ranks) (sym (ap (λ z. z.ranks) f.after))
          (subst (λ z. AreAlike (slice_set a.ranks r None) z) (sym (ap (λ z. z.ranks) g.after)) (alike_set a.ranks b.ranks r None None k.ranks tt));
      images = ap (λ z. z.images) g.after ∙ k.images ∙ sym (ap (λ z. z.images) f.after);
      rows = ap (λ z. z.logger.rows) g.after ∙ k.rows ∙ sym (ap (λ z. z.logger.rows) f.after);
      wires = ap (λ z. z.wires) g.after ∙ k.wires ∙ sym (ap (λ z. z.wires) f.after);
      lines = ap (λ z. z.lines) g.after ∙ k.lines ∙ sym (ap (λ z. z.lines) f.after);
      run = ap (λ z. z.run) g.after ∙ k.run ∙ sym (ap (λ z. z.run) f.after);
    }

-- it happens too
pub crash_too : (a b : WorldValue) (r : ℕ) (y : Reply) (b' : WorldValue) → Alike a b → CrashFollows b r y b' → HasCourse a (Crash r)
crash_too a b r y b' k g =
    let was = alike_live a b r g.before k g.live in
    (reply.Crashed, with_rank a r None, record { before = was.rank; live = was.live; answered = refl; after = refl })

-- ---- a release

-- the act of an effect is the same on another shelf
act_shelf : (v : Rank) (shelf : MemoryShelf) (x : Waiting) → released_act (on_shelf v shelf) x ≡ released_act v x
act_shelf v shelf (waits.Event e) = refl
act_shelf v shelf (waits.Send dest clock) = refl
act_shelf v shelf (waits.Line clock value) = refl

-- the rank after the release of an effect
abbrev with_release : Waiting → Live → Live
with_release x v = record { rank = after_release v.rank x; left = v.left }

-- releases the same effect
pub release_alike : (a b : WorldValue) (r : ℕ) (x y : Reply) (a' b' : WorldValue) → Alike a b → ReleaseFollows a r x a' → ReleaseFollows b r y b'
    → Alike a' b'
release_alike a b r x y a' b' k f g =
    let s = on_other a b r f.before g.before k f.live g.live in
    let effect : g.effect ≡ f.effect =
    one_there g.effect f.effect (next_effect f.before.rank) (ap (λ (z : Live). next_effect z.rank) (sym s.1) ∙ g.oldest) f.oldest in
    let clock : g.clock ≡ f.clock = one_there g.clock f.clock (effect_clock f.effect) (ap effect_clock (sym effect) ∙ g.of_it) f.of_it in
    let act : g.act ≡ f.act =
    one_there g.act f.act (released_act f.before.rank f.effect)
    (sym (act_shelf f.before.rank s.0 f.effect) ∙ ap (λ (z : Live). released_act z.rank f.effect) (sym s.1)
    ∙ ap (λ z. released_act g.before.rank z) (sym effect) ∙ g.passes) f.passes in
    record {
      program = ap (λ z. z.program) g.after ∙ k.program ∙ sym (ap (λ z. z.program) f.after);
      ranks =
          set_alike a b a' b' r (with_release f.effect f.before) (with_release g.effect g.before) k
          (ap (λ z. z.ranks) f.after) (ap (λ z. z.ranks) g.after)
          (s.0, ap (λ z. with_release z g.before) effect ∙ ap (λ (z : Live). with_release f.effect z) s.1);
      images = ap (λ z. z.images) g.after ∙ k.images ∙ sym (ap (λ z. z.images) f.after);
      rows = ap (λ z. z.logger.rows) g.after ∙ k.rows ∙ sym (ap (λ z. z.logger.rows) f.after);
      wires = ap (λ z. z.wires) g.after ∙ k.wires ∙ sym (ap (λ z. z.wires) f.after);
      lines =
          ap (λ z. z.lines) g.after ∙ ap (λ z. lines_released z r g.effect) k.lines ∙ ap (λ z. lines_released a.lines r z) effect
          ∙ sym (ap (λ z. z.lines) f.after);
      run =
          ap (λ z. z.run) g.after ∙ ap (λ z. passed_at z r g.clock (Some g.act)) k.run ∙ ap (λ z. passed_at a.run r z (Some g.act)) clock
          ∙ ap (λ z. passed_at a.run r f.clock (Some z)) act ∙ sym (ap (λ z. z.run) f.after);
    }

-- it happens too
pub release_too : (a b : WorldValue) (r : ℕ) (y : Reply) (b' : WorldValue) → Alike a b → ReleaseFollows b r y b' → HasCourse a (Release r)
release_too a b r y b' k g =
    let was = alike_live a b r g.before k g.live in (
      reply.Released g.clock,
      record a {
        ranks = slice_set a.ranks r (Some (record { rank = after_release was.rank.rank g.effect; left = was.rank.left }));
        lines = lines_released a.lines r g.effect;
        run = passed_at a.run r g.clock (Some g.act);
      },
      record {
        before = was.rank;
        live = was.live;
        effect = g.effect;
        oldest = sym (ap (λ (z : Live). next_effect z.rank) was.same) ∙ g.oldest;
        clock = g.clock;
        of_it = g.of_it;
        answered = refl;
        act = g.act;
        passes = sym (act_shelf was.rank.rank was.shelf g.effect) ∙ sym (ap (λ (z : Live). released_act z.rank g.effect) was.same) ∙ g.passes;
        after = refl;
      },
    )
