-- What senders may drop: each event keeps that no base, no Kept and nothing due is above what the receiver's image had accepted.
use Rattle.std.proofs.Common.{◌≡◌, ℕ, zero, suc, ◌+◌, ◌≤◌, ◌⊎◌, inl, inr, ⊎_elim, Bool, true, false, ◌==◌, if◌then◌else◌, List, []}
use Rattle.std.proofs.Common.{◌∷◌, ◌++◌, Option, Some, map, refl, sym, subst, arith, slice_get, slice_set, slice_index}
use Rattle.std.proofs.Common.{slice_index_or}
use Rattle.std.proofs.lemmas.Bool.{eqb-true}
use Rattle.matching.specs.PacketValue as packet
use Rattle.matching.specs.Inbox.{Mailbox, accepted_from, with_packet, after_arrival}
use Rattle.payload_log.specs.Backlog.{BacklogValue, backlog, new_backlog}
use Rattle.rank_node.specs.declared.frame.Frame.{Frame}
use Rattle.crash_free.proofs.Lists.{push_cases}
use Rattle.bare_world.specs.World.{Live, WorldValue, covered}
use Rattle.bare_world.proofs.Lists.Replaced.{slice_set-get, replaced_keeps}
use Rattle.checkpoint.specs.Image.{ImageValue}
use Rattle.rank_node.specs.Replay.{ask_after}
use Rattle.bare_world.specs.Stands.{BasesCovered, KeptCovered, DueCovered, RankCovers, Covers}
use Rattle.bare_world.proofs.Lists.Beginnings.{get_map}

-- the last image of each rank
abbrev pub Images : Type 0
Images = List (Option ImageValue)

-- ---- one rank

-- the payload log changes for one destination
pub bases_with : (images : Images) (r : ℕ) (log : List BacklogValue) (d : ℕ) (b : BacklogValue) → b.base ≤ covered images d r → BasesCovered images r log
    → BasesCovered images r (slice_set log d b)
bases_with images r log d b l c = replaced_keeps (λ e x. x.base ≤ covered images e r) log d b (λ e x ne at. c e x at) (λ x at. l)

-- the base for a destination, where there is one or not
pub base_at : (images : Images) (r : ℕ) (log : List BacklogValue) (d : ℕ) → BasesCovered images r log → (backlog log d).base ≤ covered images d r
base_at images r log d c = go log d (λ b e. c d b e)
  where
    go : (bs : List BacklogValue) (i : ℕ) → ((b : BacklogValue) → slice_get bs i ≡ Some b → b.base ≤ covered images d r)
        → (slice_index_or bs i new_backlog).base ≤ covered images d r
    go [] i f = omega arith
    go (x ∷ bs) zero f = f x refl
    go (x ∷ bs) (suc i) f = go bs i f

-- an inbox that accepts counts more
pub arrival_more : (box : Mailbox) (p : packet.PacketValue) (s : ℕ) → accepted_from box s ≤ accepted_from (after_arrival box p) s
arrival_more box p s = go (p.number == accepted_from box p.source + 1) (λ e. eqb-true p.number (accepted_from box p.source + 1) e)
  where
    set_more : (xs : List ℕ) (i k n : ℕ) → n ≡ slice_index xs i + 1 → slice_index xs k ≤ slice_index (slice_set xs i n) k
    set_more [] i k n e = omega arith
    set_more (x ∷ xs) zero zero n e = omega arith
    set_more (x ∷ xs) zero (suc k) n e = omega arith
    set_more (x ∷ xs) (suc i) zero n e = omega arith
    set_more (x ∷ xs) (suc i) (suc k) n e = set_more xs i k n e

    go : (b : Bool) → (b ≡ true → p.number ≡ accepted_from box p.source + 1) → accepted_from box s ≤ accepted_from (if b then with_packet box p else box) s
    go false e = omega arith
    go true e = set_more box.accepted p.source s p.number (e refl)

-- ---- a restart

-- a rank that starts again covers what its image does
pub RankCovers-restarted : (images : Images) (r : ℕ) (v : Live) (i : ImageValue)
    → v.rank.log ≡ i.log → v.rank.inbox ≡ i.inbox → v.rank.dues ≡ map ask_after i.inbox.accepted
    → BasesCovered images r i.log → ((s : ℕ) → covered images r s ≤ accepted_from i.inbox s)
    → RankCovers images r v
RankCovers-restarted images r v i log inbox dues bases since =
    record {
      bases = subst (λ z. BasesCovered images r z) (sym log) bases;
      dues = λ d due e. (
          let x = get_map ask_after i.inbox.accepted d due (subst (λ z. slice_get z d ≡ Some due) dues e) in
          subst (λ z. DueCovered images r d z.kept) (sym x.2) tt);
      since = subst (λ z. (s : ℕ) → covered images r s ≤ accepted_from z s) (sym inbox) since;
    }

-- ---- worlds

-- a rank changes, or crashes, and images and wires stay
pub Covers-rank : (w w' : WorldValue) (r : ℕ) (x : Option Live) → w'.ranks ≡ slice_set w.ranks r x → w'.images ≡ w.images → w'.wires ≡ w.wires
    → ((v : Live) → x ≡ Some v → RankCovers w.images r v) → Covers w → Covers w'
Covers-rank w w' r x ranks images wires new c =
    record {
      images = λ s i e. subst (λ z. BasesCovered z s i.log) (sym images) (c.images s i (subst (λ z. slice_get z s ≡ Some (Some i)) images e));
      wires =
          λ q s k fs f at there. subst (λ z. KeptCovered z q s f) (sym images)
          (c.wires q s k fs f (at.0, subst (λ z. slice_get z q ≡ Some at.0) wires at.1, at.2) there);
      ranks =
          λ q v live. subst (λ z. RankCovers z q v) (sym images)
          (go q v (slice_set-get w.ranks r q (Some v) x (subst (λ z. slice_get z q ≡ Some (Some v)) ranks live)));
    }
  where
    go : (q : ℕ) (v : Live) → ((q ≡ r) × (Some v ≡ x)) ⊎ ((q ≡ r → ⊥) × (slice_get w.ranks q ≡ Some (Some v))) → RankCovers w.images q v
    go q v (inr h) = c.ranks q v h.1
    go q v (inl h) = subst (λ z. RankCovers w.images z v) (sym h.0) (new v (sym h.1))

-- a frame that is covered goes on a wire
pub Covers-put : (w w' : WorldValue) (r d : ℕ) (v : Live) (of_r : List (List Frame)) (frames : List Frame) (f : Frame)
    → w'.ranks ≡ slice_set w.ranks r (Some v) → w'.images ≡ w.images → w'.wires ≡ slice_set w.wires r (slice_set of_r d (frames ++ f ∷ []))
    → slice_get w.wires r ≡ Some of_r → slice_get of_r d ≡ Some frames
    → KeptCovered w.images r d f → RankCovers w.images r v → Covers w → Covers w'
Covers-put w w' r d v of_r frames f ranks images wires at_r at_d fine new c =
    record {
      images = λ s i e. subst (λ z. BasesCovered z s i.log) (sym images) (c.images s i (subst (λ z. slice_get z s ≡ Some (Some i)) images e));
      wires =
          λ q s k fs g at there. subst (λ z. KeptCovered z q s g) (sym images)
          (of_wire q s k fs g at.0 at.2 there (slice_set-get w.wires r q at.0 (slice_set of_r d (frames ++ f ∷ []))
          (subst (λ z. slice_get z q ≡ Some at.0) wires at.1)));
      ranks =
          λ q u live. subst (λ z. RankCovers z q u) (sym images)
          (go q u (slice_set-get w.ranks r q (Some u) (Some v) (subst (λ z. slice_get z q ≡ Some (Some u)) ranks live)));
    }
  where
    go : (q : ℕ) (u : Live) → ((q ≡ r) × (Some u ≡ Some v)) ⊎ ((q ≡ r → ⊥) × (slice_get w.ranks q ≡ Some (Some u))) → RankCovers w.images q u
    go q u (inr h) = c.ranks q u h.1
    go q u (inl h) = (let e : u ≡ v = (let y = h.1 in cc) in subst (λ z. RankCovers w.images z u) (sym h.0) (subst (λ z. RankCovers w.images r z) (sym e) new))

    on_wire : (s k : ℕ) (fs : List Frame) (g : Frame) → slice_get fs k ≡ Some g
        → ((s ≡ d) × (fs ≡ frames ++ f ∷ [])) ⊎ ((s ≡ d → ⊥) × (slice_get of_r s ≡ Some fs)) → KeptCovered w.images r s g
    on_wire s k fs g there (inr h) = c.wires r s k fs g (of_r, at_r, h.1) there
    on_wire s k fs g there (inl h) =
        ⊎_elim (λ old. subst (λ z. KeptCovered w.images r z g) (sym h.0) (c.wires r d k frames g (of_r, at_r, at_d) old))
        (λ new. subst (λ z. KeptCovered w.images r s z) (sym new.1) (subst (λ z. KeptCovered w.images r z f) (sym h.0) fine))
        (push_cases frames f k g (subst (λ z. slice_get z k ≡ Some g) h.1 there))

    of_wire : (q s k : ℕ) (fs : List Frame) (g : Frame) (x : List (List Frame)) → slice_get x s ≡ Some fs → slice_get fs k ≡ Some g
        → ((q ≡ r) × (x ≡ slice_set of_r d (frames ++ f ∷ []))) ⊎ ((q ≡ r → ⊥) × (slice_get w.wires q ≡ Some x)) → KeptCovered w.images q s g
    of_wire q s k fs g x at there (inr h) = c.wires q s k fs g (x, h.1, at) there
    of_wire q s k fs g x at there (inl h) =
        subst (λ z. KeptCovered w.images z s g) (sym h.0)
        (on_wire s k fs g there (slice_set-get of_r d s fs (frames ++ f ∷ []) (subst (λ z. slice_get z s ≡ Some fs) h.1 at)))
