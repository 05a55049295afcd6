-- What senders may drop after an image: it only grows, since a rank has accepted at least what its older image had; and
-- what is due then names just what the new image has.
use Rattle.std.proofs.Common.{◌≡◌, ℕ, zero, suc, ◌+◌, ◌<◌, ◌≤◌, ◌⊎◌, inl, inr, Bool, true, false, nat_lt, if◌then◌else◌, List, []}
use Rattle.std.proofs.Common.{◌∷◌, Option, Some, None, length, refl, sym, ap, subst, arith, slice_get, slice_set, slice_index}
use Rattle.checkpoint.specs.Image.{ImageValue, rewound}
use Rattle.matching.specs.Inbox.{accepted_from}
use Rattle.payload_log.specs.Backlog.{BacklogValue}
use Rattle.rank_node.specs.declared.due.Due.{Due}
use Rattle.rank_node.specs.declared.frame.Frame.{Frame}
use Rattle.rank_node.specs.declared.frame.Frame.TheVariants as frame
use Rattle.rank_node.specs.Image.{image_of, kept_due, kepts_due}
use Rattle.bare_world.specs.World.{Live, WorldValue, IsLive, covered, accepted_at}
use Rattle.bare_world.specs.Stands.{BasesCovered, KeptCovered, DueCovered, RankCovers, Covers}
use Rattle.bare_world.proofs.Covers.KeptByEvents.{Images}
use Rattle.bare_world.proofs.Lists.Beginnings.{get_map}
use Rattle.bare_world.proofs.Lists.Replaced.{slice_set-get}

-- ---- images grow

-- no image has accepted less than the one before it
abbrev GrowImages : Images → Images → Type 0
GrowImages old new = (r s : ℕ) → covered old r s ≤ covered new r s

-- a base that was covered is so still
bases_grow : (old new : Images) (s : ℕ) (log : List BacklogValue) → GrowImages old new → BasesCovered old s log → BasesCovered new s log
bases_grow old new s log g c d b e = (let l = c d b e in let m = g d s in omega (arith, l, m))

-- so is a Kept
kept_grow : (old new : Images) (r s : ℕ) (f : Frame) → GrowImages old new → KeptCovered old r s f → KeptCovered new r s f
kept_grow old new r s (frame.Kept upto) g c = (let m = g r s in omega (arith, c, m))
kept_grow old new r s (frame.Ask from) g c = tt
kept_grow old new r s (frame.Data p) g c = tt

-- and what is due
due_grow : (old new : Images) (r s : ℕ) (o : Option ℕ) → GrowImages old new → DueCovered old r s o → DueCovered new r s o
due_grow old new r s None g c = tt
due_grow old new r s (Some upto) g c = (let m = g r s in omega (arith, c, m))

-- a rank has accepted at least what the image before had
images_grow : (images : Images) (r : ℕ) (v : Live) → RankCovers images r v → GrowImages images (slice_set images r (Some (image_of v.rank)))
images_grow images r v c q s = go images r q (λ e. subst (λ z. covered images z s ≤ accepted_from v.rank.inbox s) (sym e) (c.since s))
  where
    go : (xs : Images) (i k : ℕ) → (k ≡ i → accepted_at (slice_get xs k) s ≤ accepted_from v.rank.inbox s)
        → accepted_at (slice_get xs k) s ≤ accepted_at (slice_get (slice_set xs i (Some (image_of v.rank))) k) s
    go [] i k f = omega arith
    go (x ∷ xs) zero zero f = f refl
    go (x ∷ xs) zero (suc k) f = omega arith
    go (x ∷ xs) (suc i) zero f = omega arith
    go (x ∷ xs) (suc i) (suc k) f = go xs i k (λ e. f (ap suc e))

-- what is covered then of the rank itself
covered_now : (images : Images) (r : ℕ) (i : ImageValue) (s : ℕ) → r < length images
    → covered (slice_set images r (Some i)) r s ≡ accepted_from i.inbox s
covered_now [] r i s l = absurd (omega arith)
covered_now (x ∷ xs) zero i s l = refl
covered_now (x ∷ xs) (suc r) i s l = covered_now xs r i s (omega arith)

-- of other ranks the same is covered as before
image_unchanged : (images : Images) (r q : ℕ) (o : Option ImageValue) → (q ≡ r → ⊥) → slice_get (slice_set images r o) q ≡ slice_get images q
image_unchanged [] r q o ne = refl
image_unchanged (x ∷ xs) zero zero o ne = absurd (ne refl)
image_unchanged (x ∷ xs) zero (suc q) o ne = refl
image_unchanged (x ∷ xs) (suc r) zero o ne = refl
image_unchanged (x ∷ xs) (suc r) (suc q) o ne = image_unchanged xs r q o (λ e. ne (ap suc e))

-- ---- what is due after an image

-- to one rank, of which so much was accepted
due_after : (images : Images) (r k n : ℕ) (due : Due) → n ≤ covered images r k → DueCovered images r k due.kept
    → DueCovered images r k (kept_due n due).kept
due_after images r k n due l c = cases (nat_lt 0 n)
  where
    cases : (b : Bool) → DueCovered images r k (if b then record { ask = due.ask; kept = Some n } else due).kept
    cases true = l
    cases false = c

-- to the ranks from the kth on
dues_from : (images : Images) (r k : ℕ) (ns : List ℕ) (ds : List Due) → ((s : ℕ) → slice_index ns s ≤ covered images r (k + s))
    → ((d : ℕ) (due : Due) → slice_get ds d ≡ Some due → DueCovered images r (k + d) due.kept)
    → (d : ℕ) (due : Due) → slice_get (kepts_due ns ds) d ≡ Some due → DueCovered images r (k + d) due.kept
dues_from images r k [] ds l c d due e = c d due e
dues_from images r k (n ∷ ns) [] l c d due e = absurd cc
dues_from images r k (n ∷ ns) (x ∷ ds) l c zero due e =
    let q : kept_due n x ≡ due = cc in
    subst (λ z. DueCovered images r (k + 0) z.kept) q (due_after images r (k + 0) n x (l 0) (c 0 x refl))
dues_from images r k (n ∷ ns) (x ∷ ds) l c (suc d) due e =
    let p : k + 1 + d ≡ k + suc d = omega arith in
    subst (λ z. DueCovered images r z due.kept) p
    (dues_from images r (k + 1) ns ds
    (λ s. (let q : k + suc s ≡ k + 1 + s = omega arith in subst (λ z. slice_index ns s ≤ covered images r z) q (l (suc s))))
    (λ j y at. (let q : k + suc j ≡ k + 1 + j = omega arith in subst (λ z. DueCovered images r z y.kept) q (c (suc j) y at))) d due e)

-- to each rank
dues_after_image : (images : Images) (r : ℕ) (accepted : List ℕ) (dues : List Due)
    → ((s : ℕ) → slice_index accepted s ≤ covered images r s)
    → ((d : ℕ) (due : Due) → slice_get dues d ≡ Some due → DueCovered images r d due.kept)
    → (d : ℕ) (due : Due) → slice_get (kepts_due accepted dues) d ≡ Some due → DueCovered images r d due.kept
dues_after_image images r accepted dues low old d due e =
    subst (λ z. DueCovered images r z due.kept) (none d)
    (dues_from images r 0 accepted dues (λ s. subst (λ z. slice_index accepted s ≤ covered images r z) (sym (none s)) (low s))
    (λ j x at. subst (λ z. DueCovered images r z x.kept) (sym (none j)) (old j x at)) d due e)
  where
    none : (s : ℕ) → 0 + s ≡ s
    none s = omega arith

-- ---- worlds

-- an image takes the place of an older one
pub Covers-imaged : (w w' : WorldValue) (r : ℕ) (v v' : Live) → IsLive w r v → r < length w.images
    → w'.ranks ≡ slice_set w.ranks r (Some v') → w'.images ≡ slice_set w.images r (Some (image_of v.rank)) → w'.wires ≡ w.wires
    → v'.rank.log ≡ v.rank.log → v'.rank.inbox ≡ v.rank.inbox → v'.rank.dues ≡ kepts_due v.rank.inbox.accepted v.rank.dues
    → Covers w → Covers w'
Covers-imaged w w' r v v' live below ranks images wires log inbox dues c =
    record {
      images =
          λ s i e. subst (λ z. BasesCovered z s i.log) (sym images)
          (of_image s i (slice_set-get w.images r s (Some i) (Some (image_of v.rank)) (subst (λ z. slice_get z s ≡ Some (Some i)) images e)));
      wires =
          λ q s k fs f at there. subst (λ z. KeptCovered z q s f) (sym images)
          (kept_grow w.images now q s f grows (c.wires q s k fs f (at.0, subst (λ z. slice_get z q ≡ Some at.0) wires at.1, at.2) there));
      ranks =
          λ q u live'. subst (λ z. RankCovers z q u) (sym images)
          (of_rank q u (slice_set-get w.ranks r q (Some u) (Some v') (subst (λ z. slice_get z q ≡ Some (Some u)) ranks live')));
    }
  where
    now : Images
    now = slice_set w.images r (Some (image_of v.rank))

    k : RankCovers w.images r v
    k = c.ranks r v live

    grows : GrowImages w.images now
    grows = images_grow w.images r v k

    of_image : (s : ℕ) (i : ImageValue) → ((s ≡ r) × (Some i ≡ Some (image_of v.rank))) ⊎ ((s ≡ r → ⊥) × (slice_get w.images s ≡ Some (Some i)))
        → BasesCovered now s i.log
    of_image s i (inr h) = bases_grow w.images now s i.log grows (c.images s i h.1)
    of_image s i (inl h) =
        let e : i ≡ image_of v.rank = (let y = h.1 in cc) in
        subst (λ z. BasesCovered now z i.log) (sym h.0) (subst (λ z. BasesCovered now r z.log) (sym e)
        (λ d b at. (let x = get_map rewound v.rank.log d b at in
        subst (λ z. z.base ≤ covered now d r) (sym x.2) (bases_grow w.images now r v.rank.log grows k.bases d x.0 x.1))))

    own : (s : ℕ) → covered now r s ≡ accepted_from v.rank.inbox s
    own s = covered_now w.images r (image_of v.rank) s below

    its_rank : RankCovers now r v'
    its_rank = record {
      bases = subst (λ z. BasesCovered now r z) (sym log) (bases_grow w.images now r v.rank.log grows k.bases);
      dues =
          subst (λ z. (d : ℕ) (due : Due) → slice_get z d ≡ Some due → DueCovered now r d due.kept) (sym dues)
          (dues_after_image now r v.rank.inbox.accepted v.rank.dues (λ s. (let e = own s in omega (arith, e)))
          (λ d due at. due_grow w.images now r d due.kept grows (k.dues d due at)));
      since = subst (λ z. (s : ℕ) → covered now r s ≤ accepted_from z s) (sym inbox) (λ s. (let e = own s in omega (arith, e)));
    }

    of_rank : (q : ℕ) (u : Live) → ((q ≡ r) × (Some u ≡ Some v')) ⊎ ((q ≡ r → ⊥) × (slice_get w.ranks q ≡ Some (Some u))) → RankCovers now q u
    of_rank q u (inl h) =
        let e : u ≡ v' = (let y = h.1 in cc) in
        subst (λ z. RankCovers now z u) (sym h.0) (subst (λ z. RankCovers now r z) (sym e) its_rank)
    of_rank q u (inr h) =
        let o = c.ranks q u h.1 in
        record {
          bases = bases_grow w.images now q u.rank.log grows o.bases;
          dues = λ d due at. due_grow w.images now q d due.kept grows (o.dues d due at);
          since = λ s. subst (λ z. accepted_at z s ≤ accepted_from u.rank.inbox s)
              (sym (image_unchanged w.images r q (Some (image_of v.rank)) h.0)) (o.since s);
        }
