-- Asks that arrive: they keep what holds, and once each Ask on the wires was heard no rank behind the run is passed by.
use Rattle.std.proofs.Common.{◌≡◌, ℕ, zero, suc, ◌+◌, ◌<◌, ◌≤◌, ◌⊎◌, inl, inr, max, List, [], ◌∷◌, Option, Some, length, refl, sym, ap}
use Rattle.std.proofs.Common.{subst, ◌∙◌, arith, slice_get, slice_set}
use Rattle.std.proofs.lemmas.Bool.{cases_lt}
use Rattle.std.proofs.lemmas.Option.{slice_get_within}
use Rattle.payload_log.specs.Backlog.{BacklogValue, backlog, asked}
use Rattle.rank_node.specs.declared.frame.Frame.{Frame}
use Rattle.rank_node.specs.declared.frame.Frame.TheVariants as frame
use Rattle.rank_node.specs.Frames.{with_log, after_frame}
use Rattle.bare_world.specs.declared.reply.Reply.{Reply}
use Rattle.bare_world.specs.World.{Live, WorldValue, size, IsLive, IsWire}
use Rattle.bare_world.specs.Follows.{ArriveFollows}
use Rattle.bare_world.specs.Onward.{IsWorld}
use Rattle.bare_world.proofs.Plain.Worlds.{rank_of}
use Rattle.bare_world.specs.Driven.{NoGaps, NoAskDue, HeardTo, Heard, HearKeeps}
use Rattle.bare_world.proofs.Way.FramesPassNoRank.{who, base_of}
use Rattle.bare_world.proofs.Way.AllSentIsAccepted.{ask_there}
use Rattle.bare_world.proofs.Way.PairIsDrained.{asks_kept, arrive_asks}
use Rattle.bare_world.proofs.Again.PartsOfAct.{all_live_kept}
use Rattle.bare_world.proofs.Lists.Places.{one_there}

-- nothing changes
pub hear_none : (w : WorldValue) → HearKeeps w w
hear_none w = record { wires = refl; all_live = λ a. a; asks = λ r s n. n; heard = λ k r s h. h }

-- one after another
pub hear_more : (a b c : WorldValue) → HearKeeps a b → HearKeeps b c → HearKeeps a c
hear_more a b c f g =
    record {
      wires = g.wires ∙ f.wires;
      all_live = λ x. g.all_live (f.all_live x);
      asks = λ r s x. g.asks r s (f.asks r s x);
      heard = λ k r s x. g.heard k r s (f.heard k r s x);
    }

-- a cursor that isn't beyond what its receiver asked for isn't so after another ask
lower : (b : BacklogValue) (n from : ℕ) → b.cursor ≤ max (b.base + 1) from → (asked b n).cursor ≤ max ((asked b n).base + 1) from
lower b n from l = omega (arith, l)

-- an ask of one rank leaves every cursor of a log that wasn't beyond what was asked for so
asked_cursor : (log : List BacklogValue) (r q n from : ℕ) → (backlog log q).cursor ≤ max ((backlog log q).base + 1) from
    → (backlog (slice_set log r (asked (backlog log r) n)) q).cursor ≤ max ((backlog (slice_set log r (asked (backlog log r) n)) q).base + 1) from
asked_cursor [] r q n from l = l
asked_cursor (b ∷ log) zero zero n from l = lower b n from l
asked_cursor (b ∷ log) zero (suc q) n from l = l
asked_cursor (b ∷ log) (suc r) zero n from l = l
asked_cursor (b ∷ log) (suc r) (suc q) n from l = asked_cursor log r q n from l

-- the cursor that asks for its messages again
reached : (b : BacklogValue) (n : ℕ) → (asked b n).cursor ≤ max ((asked b n).base + 1) n
reached b n = omega arith

-- the cursor to a rank that asked isn't beyond what it asked for
asked_reached : (log : List BacklogValue) (r n : ℕ) → r < length log
    → (backlog (slice_set log r (asked (backlog log r) n)) r).cursor ≤ max ((backlog (slice_set log r (asked (backlog log r) n)) r).base + 1) n
asked_reached [] r n l = absurd (omega (arith, l))
asked_reached (b ∷ log) zero n l = reached b n
asked_reached (b ∷ log) (suc r) n l = asked_reached log r n (omega (arith, l))

-- one pair of ranks has one wire
pub same_wire : (w : WorldValue) (r s : ℕ) (x y : List Frame) → IsWire w r s x → IsWire w r s y → y ≡ x
same_wire w r s x y f g =
    let of : g.0 ≡ f.0 = one_there g.0 f.0 (slice_get w.wires r) g.1 f.1 in
    one_there y x (slice_get f.0 s) (ap (λ z. slice_get z s) (sym of) ∙ g.2) f.2

module _ (w : WorldValue) (r s i : ℕ) (answer : Reply) (w' : WorldValue) (f : ArriveFollows w r s i answer w') (n : ℕ) (is : f.frame ≡ frame.Ask n)
    (world : IsWorld w) where
  abbrev y : Live
  y = record { rank = with_log f.before.rank (slice_set f.before.rank.log r (asked (backlog f.before.rank.log r) n)); left = f.before.left }

  ranks : w'.ranks ≡ slice_set w.ranks s (Some y)
  ranks = ap (λ z. z.ranks) f.after ∙ ap (λ x. slice_set w.ranks s (Some (record { rank = after_frame f.before.rank r x; left = f.before.left }))) is

  wires : w'.wires ≡ w.wires
  wires = ap (λ z. z.wires) f.after

  kept : (k q e : ℕ) → HeardTo k q e w → HeardTo k q e w'
  kept k q e h j from frames u l wire there live = go (who w w' s y ranks e u live)
    where
      wire0 : IsWire w q e frames
      wire0 = (wire.0, ap (λ z. slice_get z q) (sym wires) ∙ wire.1, wire.2)

      go : ((e ≡ s) × (u ≡ y)) ⊎ ((e ≡ s → ⊥) × IsLive w e u) → (backlog u.rank.log q).cursor ≤ max ((backlog u.rank.log q).base + 1) from
      go (inr c) = h j from frames u l wire0 there c.1
      go (inl c) =
          subst (λ z. (backlog z.rank.log q).cursor ≤ max ((backlog z.rank.log q).base + 1) from) (sym c.1)
          (asked_cursor f.before.rank.log r q n from (h j from frames f.before l wire0 there (subst (λ z. IsLive w z f.before) (sym c.0) f.live)))

  -- an Ask that arrives keeps what holds
  pub hear_keeps : HearKeeps w w'
  hear_keeps =
      record {
        wires = wires;
        all_live = λ x. all_live_kept w w' s f.before y f.live ranks x;
        asks =
            λ q k x. asks_kept w w' s f.before (record { rank = after_frame f.before.rank r f.frame; left = f.before.left }) f.live
            (ap (λ z. z.ranks) f.after) (λ e z. arrive_asks f.before.rank r e f.frame z) q k x;
        heard = kept;
      }

  -- and is heard, as those before it were
  pub hear_next : r < size w → HeardTo i r s w → HeardTo (i + 1) r s w'
  hear_next lt h j from frames u l wire there live = go (cases_lt j i)
    where
      wire0 : IsWire w r s frames
      wire0 = (wire.0, ap (λ z. slice_get z r) (sym wires) ∙ wire.1, wire.2)

      same : frames ≡ f.frames
      same = same_wire w r s f.frames frames f.wire wire0

      now : j ≡ i → (backlog u.rank.log r).cursor ≤ max ((backlog u.rank.log r).base + 1) from
      now e = here (who w w' s y ranks s u live)
        where
          number : n ≡ from
          number = one (sym is ∙ one_frame (sym f.there ∙ ap (λ z. slice_get z i) (sym same) ∙ ap (λ z. slice_get frames z) (sym e) ∙ there))
            where
              one_frame : ◌≡◌ {A = Option Frame} (Some f.frame) (Some (frame.Ask from)) → f.frame ≡ frame.Ask from
              one_frame q = cc

              one : frame.Ask n ≡ frame.Ask from → n ≡ from
              one q = cc

          here : ((s ≡ s) × (u ≡ y)) ⊎ ((s ≡ s → ⊥) × IsLive w s u) → (backlog u.rank.log r).cursor ≤ max ((backlog u.rank.log r).base + 1) from
          here (inr c) = absurd (c.0 refl)
          here (inl c) =
              subst (λ z. (backlog z.rank.log r).cursor ≤ max ((backlog z.rank.log r).base + 1) from) (sym c.1)
              (subst (λ z. (backlog (slice_set f.before.rank.log r (asked (backlog f.before.rank.log r) n)) r).cursor
              ≤ max ((backlog (slice_set f.before.rank.log r (asked (backlog f.before.rank.log r) n)) r).base + 1) z) number
              (asked_reached f.before.rank.log r n (let e1 = (rank_of world.stands s f.before f.live).at.logged in omega (arith, lt, e1))))

      go : (j < i) ⊎ (i ≤ j) → (backlog u.rank.log r).cursor ≤ max ((backlog u.rank.log r).base + 1) from
      go (inl b) = kept i r s h j from frames u b wire there live
      go (inr b) = now (omega (arith, l, b))

-- a frame that is no Ask needs no hearing
pub hear_other : (w : WorldValue) (r s i : ℕ) (frames : List Frame) (x : Frame) → IsWire w r s frames → slice_get frames i ≡ Some x
    → ((n : ℕ) → x ≡ frame.Ask n → ⊥) → HeardTo i r s w → HeardTo (i + 1) r s w
hear_other w r s i frames x wire there never h j from fs u l wire2 there2 live = go (cases_lt j i)
  where
    one : ◌≡◌ {A = Option Frame} (Some x) (Some (frame.Ask from)) → x ≡ frame.Ask from
    one q = cc

    go : (j < i) ⊎ (i ≤ j) → (backlog u.rank.log r).cursor ≤ max ((backlog u.rank.log r).base + 1) from
    go (inl b) = h j from fs u b wire2 there2 live
    go (inr b) =
        let same : fs ≡ frames = same_wire w r s frames fs wire wire2 in
        let e : j ≡ i = omega (arith, l, b) in
        absurd (never from (one (sym there ∙ ap (λ z. slice_get z i) (sym same) ∙ ap (λ z. slice_get fs z) (sym e) ∙ there2)))

-- before the first
pub hear_first : (w : WorldValue) (r s : ℕ) → HeardTo 0 r s w
hear_first w r s i from frames u l wire there live = absurd (omega (arith, l))

-- after the last
pub heard_all : (w : WorldValue) (r s : ℕ) (frames : List Frame) → IsWire w r s frames → HeardTo (length frames) r s w → Heard r s w
heard_all w r s frames wire h k i from fs u l wire2 there live =
    let same : fs ≡ frames = same_wire w r s frames fs wire wire2 in
    let within = slice_get_within fs i (frame.Ask from) there in
    let e = ap length same in
    h i from fs u (omega (arith, within, e)) wire2 there live

-- Where each rank has asked each, and each Ask on the wires was heard, no rank behind the run is passed by.
pub heard_no_gaps : (w : WorldValue) → IsWorld w → ((r s : ℕ) → r < size w → s < size w → NoAskDue r s w)
    → ((r s : ℕ) → r < size w → s < size w → Heard r s w) → NoGaps w
heard_no_gaps w world asks heard s d u v ok lu lv behind =
    let ls = slice_get_within w.ranks s (Some u) lu in
    let ld = slice_get_within w.ranks d (Some v) lv in
    let a = ask_there w d s v world.onward lv behind ls (asks d s ld ls v lv) in
    let on = a.2 in
    let near = heard d s ld ls (on.1 + 1) on.1 a.0 on.0 u (omega arith) on.2 on.3 lu in
    let base = base_of w s d u v world.stands lu lv in
    let from = a.1 in
    omega (arith, near, base, from)
