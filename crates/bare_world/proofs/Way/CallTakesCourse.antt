-- What can happen does: a step, a put, an arrival or a restart that isn't refused takes some course, whatever memory there is.
use Rattle.std.proofs.Common.{◌≡◌, ℕ, ◌<◌, ◌≤◌, ◌⊎◌, inl, inr, List, [], ◌∷◌, Option, Some, None, refl, sym, ap, ◌∙◌, arith, slice_get}
use Rattle.std.proofs.lemmas.Bool.{cases_lt}
use Rattle.event_logger.specs.Sequential.Event.{EventValue}
use Rattle.rank_node.specs.declared.fault.NodeFault.{NodeFault}
use Rattle.rank_node.specs.declared.frame.Frame.{Frame}
use Rattle.rank_node.specs.Frames.{outgoing_of}
use Rattle.rank_node.specs.Steps.{refusal_of}
use Rattle.bare_world.specs.declared.event.WorldEvent.{WorldEvent}
use Rattle.bare_world.specs.declared.event.WorldEvent.TheVariants.{Step, Put, Arrive, Store, Ack, Image, Crash, Restart, Release}
use Rattle.bare_world.specs.World.{Live, WorldValue, size, IsLive}
use Rattle.bare_world.specs.Follows.{CanNot}
use Rattle.bare_world.specs.Onward.{IsWorld}
use Rattle.bare_world.specs.Stocked.{IsStocked}
use Rattle.bare_world.specs.Driven.{IsUsed}
use Rattle.bare_world.specs.Way.{MayHappen}
use Rattle.bare_world.proofs.Calls.RankOfEvent.{not_down, one_live}
use Rattle.bare_world.proofs.Alike.MayHappenToo.{HasCourse}
use Rattle.bare_world.proofs.Way.AsksAreHeard.{same_wire}
use Rattle.bare_world.proofs.Way.EventIsPossible.{step_happens, replay_happens, put_happens, arrive_happens, restart_happens}

-- where no rank stands none is live
never_live : (w : WorldValue) (r : ℕ) (v : Live) → slice_get w.ranks r ≡ None → IsLive w r v → ⊥
never_live w r v e live = (let q : ◌≡◌ {A = Option (Option Live)} None (Some (Some v)) = sym e ∙ live in cc)

-- a rank that there is, live, or else the event can't happen
live_or : (w : WorldValue) (r : ℕ) (Q : Type 0) → (((v : Live) → IsLive w r v → ⊥) → ⊥) → ((v : Live) → IsLive w r v → Q) → Q
live_or w r Q can q = go (slice_get w.ranks r) refl
  where
    go : (o : Option (Option Live)) → slice_get w.ranks r ≡ o → Q
    go None e = absurd (can (λ v live. never_live w r v e live))
    go (Some None) e = absurd (can (λ v live. not_down w r v e live))
    go (Some (Some v)) e = q v e

-- a step
step_course : (w : WorldValue) (r : ℕ) (v : Live) → IsWorld w → IsStocked w → IsLive w r v → (CanNot w (Step r) → ⊥) → HasCourse w (Step r)
step_course w r v i k live can = go v.left refl (refusal_of v.rank) refl
  where
    go : (left : List EventValue) → v.left ≡ left → (o : Option NodeFault) → refusal_of v.rank ≡ o → HasCourse w (Step r)
    go (e ∷ rest) is o q = (let h = replay_happens w r v e rest i.stands k live is in (_, h.1, inr h.2))
    go [] is None q = (let h = step_happens w r v i.stands k live is q in (_, h.0, inl h.1))
    go [] is (Some f) q =
        absurd (can (λ u lu. (
          ap (λ z. z.left) (one_live w r v u live lu) ∙ is,
          λ none. (let z : Some f ≡ None = sym q ∙ sym (ap (λ z. refusal_of z.rank) (one_live w r v u live lu)) ∙ none in cc),
        )))

-- a put
put_course : (w : WorldValue) (s d : ℕ) (v : Live) → IsWorld w → IsLive w s v → (CanNot w (Put s d) → ⊥) → HasCourse w (Put s d)
put_course w s d v i live can = go (cases_lt d (size w)) (outgoing_of v.rank d) refl
  where
    go : (d < size w) ⊎ (size w ≤ d) → (o : Option Frame) → outgoing_of v.rank d ≡ o → HasCourse w (Put s d)
    go (inr l) o e = absurd (can (λ u lu m. absurd (omega (arith, l, m))))
    go (inl l) None e = absurd (can (λ u lu m. ap (λ z. outgoing_of z.rank d) (one_live w s v u live lu) ∙ e))
    go (inl l) (Some f) e = (let h = put_happens w s d v f i.stands live l e in (_, h.1, h.2))

-- an arrival
arrive_course : (w : WorldValue) (s d i : ℕ) (v : Live) → IsWorld w → IsLive w d v → (CanNot w (Arrive s d i) → ⊥) → HasCourse w (Arrive s d i)
arrive_course w s d i v world live can = from (slice_get w.wires s) refl
  where
    lists : (x : List (List Frame)) → ◌≡◌ {A = Option (List (List Frame))} None (Some x) → ⊥
    lists x q = cc

    frames : (x : List Frame) → ◌≡◌ {A = Option (List Frame)} None (Some x) → ⊥
    frames x q = cc

    same : (x y : List (List Frame)) → ◌≡◌ {A = Option (List (List Frame))} (Some x) (Some y) → y ≡ x
    same x y q = cc

    none : (f : Frame) → ◌≡◌ {A = Option Frame} None (Some f) → ⊥
    none f q = cc

    at : (of_s : List (List Frame)) → slice_get w.wires s ≡ Some of_s → (fs : List Frame) → slice_get of_s d ≡ Some fs → (o : Option Frame)
        → slice_get fs i ≡ o → HasCourse w (Arrive s d i)
    at of_s e fs q (Some f) there = (let h = arrive_happens w s d i v fs f world.stands live (of_s, e, q) there in (_, h.1, h.2))
    at of_s e fs q None there =
        absurd (can (λ u gs f lu wire h.
        none f (sym there ∙ ap (λ z. slice_get z i) (sym (same_wire w s d fs gs (of_s, e, q) wire)) ∙ h)))

    to : (of_s : List (List Frame)) → slice_get w.wires s ≡ Some of_s → (o : Option (List Frame)) → slice_get of_s d ≡ o → HasCourse w (Arrive s d i)
    to of_s e (Some fs) q = at of_s e fs q (slice_get fs i) refl
    to of_s e None q =
        absurd (can (λ u gs f lu wire h. frames gs (sym q ∙ ap (λ z. slice_get z d) (sym (same of_s wire.0 (sym e ∙ wire.1))) ∙ wire.2)))

    from : (o : Option (List (List Frame))) → slice_get w.wires s ≡ o → HasCourse w (Arrive s d i)
    from (Some of_s) e = to of_s e (slice_get of_s d) refl
    from None e = absurd (can (λ u gs f lu wire h. lists wire.0 (sym e ∙ wire.1)))

-- a restart
restart_course : (w : WorldValue) (r : ℕ) → IsWorld w → IsStocked w → (CanNot w (Restart r) → ⊥) → HasCourse w (Restart r)
restart_course w r i k can = go (slice_get w.ranks r) refl
  where
    go : (o : Option (Option Live)) → slice_get w.ranks r ≡ o → HasCourse w (Restart r)
    go None e = absurd (can (λ down. (let q : ◌≡◌ {A = Option (Option Live)} None (Some None) = sym e ∙ down in cc)))
    go (Some (Some v)) e = absurd (can (λ down. not_down w r v down e))
    go (Some None) e = (let h = restart_happens w r i.stands k e in (_, h.1, h.2))

-- each of them
course : (w : WorldValue) (event : WorldEvent) → IsWorld w → IsStocked w → IsUsed event → (CanNot w event → ⊥) → HasCourse w event
course w (Step r) i k used can =
    live_or w r (HasCourse w (Step r)) (λ never. can (λ v live. absurd (never v live))) (λ v live. step_course w r v i k live can)
course w (Put s d) i k used can =
    live_or w s (HasCourse w (Put s d)) (λ never. can (λ v live. absurd (never v live))) (λ v live. put_course w s d v i live can)
course w (Arrive s d i) world k used can =
    live_or w d (HasCourse w (Arrive s d i)) (λ never. can (λ v frames f live wire there. never v live))
    (λ v live. arrive_course w s d i v world live can)
course w (Restart r) i k used can = restart_course w r i k can
course w (Store r) i k used can = absurd used
course w (Ack r) i k used can = absurd used
course w (Image r) i k used can = absurd used
course w (Crash r) i k used can = absurd used
course w (Release r) i k used can = absurd used

-- so it may happen
pub may_happen : (w : WorldValue) → IsWorld w → IsStocked w → (event : WorldEvent) → IsUsed event → (CanNot w event → ⊥) → MayHappen w event
may_happen w i k event used can =
    let h = course w event i k used can in
    record { can = can; answer = h.0; after = h.1; happens = h.2 }
