-- An image keeps that the ranks of a world can get on: the rank asks still for what it asked for, and its image transmits
-- all that it keeps.
use Rattle.std.proofs.Common.{◌≡◌, ℕ, zero, suc, ◌+◌, ◌⊎◌, inl, inr, Bool, true, false, nat_lt, if◌then◌else◌, List, [], ◌∷◌, Option, Some, length}
use Rattle.std.proofs.Common.{refl, sym, ap, subst, ◌∙◌, arith, slice_get, slice_index_or}
use Rattle.std.proofs.lemmas.List.{length-set}
use Rattle.checkpoint.specs.Image.{ImageValue, rewound}
use Rattle.payload_log.specs.Backlog.{BacklogValue}
use Rattle.rank_node.specs.declared.due.Due.{Due}
use Rattle.rank_node.specs.Node.{no_due}
use Rattle.rank_node.specs.Image.{image_of, kept_due, kepts_due, after_image}
use Rattle.crash_free.specs.Runs.{history}
use Rattle.bare_world.specs.declared.reply.Reply.{Reply}
use Rattle.bare_world.specs.World.{Live, WorldValue, size, IsLive}
use Rattle.bare_world.specs.Headline.{stable_of}
use Rattle.bare_world.specs.Stands.{Stands}
use Rattle.bare_world.specs.Follows.{ImageFollows}
use Rattle.bare_world.specs.Onward.{RankOnward, Onward}
use Rattle.bare_world.proofs.Lists.Beginnings.{get_map}
use Rattle.bare_world.proofs.Lists.Replaced.{slice_set-get}
use Rattle.bare_world.proofs.Onward.OneRankChanges.{WiresGrow, GetsOn, same_wires, same_behind, settled_in, rank_gets_on, live_is}

-- a Kept that falls due leaves what is asked for
kept_asks : (n : ℕ) (due : Due) → (kept_due n due).ask ≡ due.ask
kept_asks n due = go (nat_lt 0 n)
  where
    go : (b : Bool) → (if b then record { ask = due.ask; kept = Some n } else due).ask ≡ due.ask
    go true = refl
    go false = refl

-- of each rank
pub kepts_ask : (ns : List ℕ) (dues : List Due) (s : ℕ) → (slice_index_or (kepts_due ns dues) s no_due).ask ≡ (slice_index_or dues s no_due).ask
kepts_ask [] dues s = refl
kepts_ask (n ∷ ns) [] s = refl
kepts_ask (n ∷ ns) (x ∷ dues) zero = kept_asks n x
kepts_ask (n ∷ ns) (x ∷ dues) (suc s) = kepts_ask ns dues s

-- an image: nothing changes that a rank needs to get on
pub Onward-image : (w : WorldValue) (r : ℕ) (answer : Reply) (w' : WorldValue) → Stands w' → ImageFollows w r answer w' → Onward w → Onward w'
Onward-image w r answer w' t f k =
    record {
      acts = λ q. (let l = k.acts q in let e = ap (λ C. length (history C q)) run in omega (arith, l, e));
      images =
          λ q d i b e is. image q d i b
          (slice_set-get w.images r q (Some i) (Some (image_of f.before.rank)) (subst (λ z. slice_get z q ≡ Some (Some i)) (ap (λ z. z.images) f.after) e)) is;
      ranks =
          λ q z live. one q z live
          (slice_set-get w.ranks r q (Some z) (Some imaged) (subst (λ l. slice_get l q ≡ Some (Some z)) (ap (λ z. z.ranks) f.after) live));
    }
  where
    imaged : Live
    imaged = record { rank = after_image f.before.rank (stable_of (size w) r f.shelf); left = [] }

    run : w'.run ≡ w.run
    run = ap (λ z. z.run) f.after

    sizes : size w' ≡ size w
    sizes = ap (λ z. length z.ranks) f.after ∙ length-set w.ranks r (Some imaged)

    wires : WiresGrow w w'
    wires = same_wires w w' (ap (λ z. z.wires) f.after)

    image_is : (x y : ImageValue) → ◌≡◌ {A = Option ImageValue} (Some x) (Some y) → x ≡ y
    image_is x y e = cc

    image : (q d : ℕ) (i : ImageValue) (b : BacklogValue)
        → ((q ≡ r) × (Some i ≡ Some (image_of f.before.rank))) ⊎ ((q ≡ r → ⊥) × (slice_get w.images q ≡ Some (Some i)))
        → slice_get i.log d ≡ Some b → b.cursor ≡ b.base + 1
    image q d i b (inr h) is = k.images q d i b h.1 is
    image q d i b (inl h) is =
        let g = get_map rewound f.before.rank.log d b (ap (λ z. slice_get z.log d) (sym (image_is i (image_of f.before.rank) h.1)) ∙ is) in
        ap (λ z. z.cursor) g.2 ∙ ap (λ z. z.base + 1) (sym g.2)

    owes : GetsOn w w' r f.before (record { rank = after_image f.before.rank (stable_of (size w) r f.shelf); left = [] })
    owes =
        let o = k.ranks r f.before f.live in
        record {
          clock = o.clock;
          above = o.above;
          behind = same_behind w w' r f.before imaged run refl;
          accepted = λ s. omega arith;
          asks = λ s from e. inl (kepts_ask f.before.rank.inbox.accepted f.before.rank.dues s ∙ e);
        }

    one : (q : ℕ) (z : Live) → IsLive w' q z → ((q ≡ r) × (Some z ≡ Some imaged)) ⊎ ((q ≡ r → ⊥) × (slice_get w.ranks q ≡ Some (Some z)))
        → RankOnward w' q z
    one q z live (inr h) =
        let before = k.ranks q z h.1 in
        rank_gets_on w w' q z z sizes wires (λ b. settled_in w' q z t live b)
        (record {
          clock = before.clock;
          above = before.above;
          behind = same_behind w w' q z z run refl;
          accepted = λ s. omega arith;
          asks = λ s from e. inl e;
        })
        before
    one q z live (inl h) =
        let is : imaged ≡ z = sym (live_is z imaged h.1) in
        subst (λ j. RankOnward w' j z) (sym h.0)
        (rank_gets_on w w' r f.before z sizes wires (λ b. settled_in w' r z t (subst (λ j. IsLive w' j z) h.0 live) b)
        (subst (λ j. GetsOn w w' r f.before j) is owes) (k.ranks r f.before f.live))
