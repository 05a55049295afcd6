-- What an image comes to.
use Rattle.std.proofs.Common.{◌≡◌, ◌≢◌, ℕ, ◌≤◌, true, false, List, [], ◌∷◌, Option, Some, refl, sym}
use Rattle.std.proofs.Common.{ap, subst, ◌∙◌, slice_get, slice_set, IsSomeAnd}
use Rattle.checkpoint.specs.Image.{ImageValue}
use Rattle.checkpoint.specs.declared.memory_shelf.MemoryShelf.{MemoryShelf}
use Rattle.rank_node.specs.declared.waiting.Waiting.{Waiting}
use Rattle.rank_node.specs.Waiting.{is_settled}
use Rattle.rank_node.specs.Image.{after_image, with_shelf}
use Rattle.rank_node.specs.Stored.{Stored}
use Rattle.rank_node.proofs.Again.{settled_nil}
use Rattle.bare_world.specs.World.{Rank, Live, WorldValue, size}
use Rattle.bare_world.specs.Headline.{stable_of}
use Rattle.bare_world.specs.Seats.{at_work, AtRank, IsImaged, IsNotAtWork}
use Rattle.bare_world.specs.Follows.{CanNot, Follows}
use Rattle.bare_world.specs.Stands.{Stands}
use Rattle.bare_world.proofs.Plain.Worlds.{rank_of}
use Rattle.bare_world.specs.declared.event.WorldEvent.TheVariants.{Image}
use Rattle.bare_world.specs.declared.reply.Reply.TheVariants as reply
use Rattle.bare_world.proofs.Calls.RankOfEvent.{none_live, same_live, at_value, value_at, live_in_replay, same_world}

-- no rank is there to take an image
pub image_nowhere : (w : WorldValue) (r : ℕ) → size w ≤ r → Follows w (Image r) reply.Refused w
image_nowhere w r past = (λ v live. absurd (none_live w r v past live), refl)

-- a rank that is down or replays takes none
pub image_idle : (w : WorldValue) (r : ℕ) → IsSomeAnd (slice_get w.ranks r) IsNotAtWork → Follows w (Image r) reply.Refused w
image_idle w r h = (λ v live running. absurd (live_in_replay w r v h live running), refl)

-- where something waits, the list of it isn't empty
waits : (xs : List Waiting) → is_settled xs ≡ false → xs ≢ []
waits [] e = absurd cc
waits (x ∷ xs) e = λ z. cc

-- a rank where something waits takes none
pub image_unsettled : (w : WorldValue) (r : ℕ) (x : Rank) → slice_get w.ranks r ≡ Some (at_work x) → is_settled x.pending ≡ false
    → Follows w (Image r) reply.Refused w
image_unsettled w r x at e =
    (λ v live running. subst (λ z. z.rank.pending ≢ []) (sym (same_live w r x v at live)) (waits x.pending e), refl)

-- nothing waits at the rank
pub image_settled : (ranks : List (Option Live)) (r : ℕ) (x : Rank) → slice_get ranks r ≡ Some (at_work x) → is_settled x.pending ≡ true
    → AtRank ranks r (λ v. v.rank.pending ≡ [])
image_settled ranks r x at e = value_at ranks r x (λ v. v.rank.pending ≡ []) at (settled_nil x.pending e)

-- what is stable of the rank r of n, with another shelf
on_shelf : (n r : ℕ) (stable : Stored MemoryShelf (Unit {0})) (shelf : MemoryShelf) → stable.rank ≡ r → stable.size ≡ n
    → with_shelf stable shelf ≡ stable_of n r shelf
on_shelf n r stable shelf number many =
    ap (λ z. made z stable.size) number ∙ ap (λ z. made r z) many
  where
    made : ℕ → ℕ → Stored MemoryShelf (Unit {0})
    made z m = record { desk = tt; shelf = shelf; rank = z; size = m }

-- a rank takes an image
pub image_some : (w w' : WorldValue) (r : ℕ) (x : Rank) → Stands w
    → slice_get w.ranks r ≡ Some (at_work x) → is_settled x.pending ≡ true
    → AtRank w.ranks r (λ v. (y : Option Live) × (image : Option ImageValue) × IsImaged w.program (size w) r v y image
    × (w'.ranks ≡ slice_set w.ranks r y) × (w'.images ≡ slice_set w.images r image))
    → w'.program ≡ w.program → w'.logger ≡ w.logger → w'.wires ≡ w.wires → w'.lines ≡ w.lines → w'.run ≡ w.run
    → Follows w (Image r) reply.Imaged w'
image_some w w' r x s at settled took program logger wires lines run = follows
  where
    v : Live
    v = record { rank = x; left = [] }

    is : (y : Option Live) × (image : Option ImageValue) × IsImaged w.program (size w) r (record { rank = x; left = [] }) y image
        × (w'.ranks ≡ slice_set w.ranks r y) × (w'.images ≡ slice_set w.images r image)
    is = at_value w.ranks r x (λ u. (y : Option Live) × (image : Option ImageValue) × IsImaged w.program (size w) r u y image
        × (w'.ranks ≡ slice_set w.ranks r y) × (w'.images ≡ slice_set w.images r image)) at took

    stable : with_shelf x.stable is.2.shelf ≡ stable_of (size w) r is.2.shelf
    stable =
        let k = rank_of s r (record { rank = x; left = [] }) at in
        on_shelf (size w) r x.stable is.2.shelf k.number k.size

    follows : Follows w (Image r) reply.Imaged w'
    follows = record {
      before = record { rank = x; left = [] };
      live = at;
      running = refl;
      settled = settled_nil x.pending settled;
      shelf = is.2.shelf;
      held = is.2.held ∙ is.2.taken;
      answered = refl;
      after = same_world w' _ program
          (is.3 ∙ ap (λ z. slice_set w.ranks r z) (is.2.after ∙ ap (λ z. at_work (after_image x z)) stable))
          (is.4 ∙ ap (λ z. slice_set w.images r z) is.2.taken)
          logger wires lines run;
    }

-- where memory ends an image could be taken
pub image_possible : (w : WorldValue) (r : ℕ) (x : Rank) → slice_get w.ranks r ≡ Some (at_work x) → is_settled x.pending ≡ true
    → CanNot w (Image r) → ⊥
image_possible w r x at e cannot = cannot (record { rank = x; left = [] }) at refl (settled_nil x.pending e)

-- what an image comes to, and what its calls ask for
pub ruleset image_laws = (image_nowhere, image_idle, image_unsettled, image_settled, image_some, image_possible)
