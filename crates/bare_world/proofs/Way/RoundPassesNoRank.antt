-- What is outgoing is put and arrives at once: no rank behind the run is passed by, and none of these events is refused.
use Rattle.std.proofs.Common.{◌≡◌, ℕ, List, [], ◌∷◌, ◌++◌, Option, Some, length, refl, sym, ap, subst, ◌∙◌, slice_get, slice_set}
use Rattle.matching.specs.PacketValue as packet
use Rattle.rank_node.specs.declared.frame.Frame.{Frame}
use Rattle.rank_node.specs.declared.frame.Frame.TheVariants as frame
use Rattle.bare_world.specs.declared.reply.Reply.{Reply}
use Rattle.bare_world.specs.Headline.{IsReal}
use Rattle.bare_world.specs.World.{WorldValue}
use Rattle.bare_world.specs.Stands.{Stands}
use Rattle.bare_world.specs.Follows.{PutFollows, ArriveFollows}
use Rattle.bare_world.specs.Onward.{Onward}
use Rattle.bare_world.specs.Driven.{NoGaps}
use Rattle.bare_world.proofs.Way.FramesPassNoRank.{put_no_gaps, arrived_no_gaps}
use Rattle.bare_world.proofs.Way.AskBringsBack.{packet_no_gaps}
use Rattle.bare_world.proofs.Lists.Places.{set_get_same, get_last}

-- the frame that was put last is the one that arrives
pub put_frame : (w mid w' : WorldValue) (s d : ℕ) (a b : Reply) (f : PutFollows w s d a mid) (h : ArriveFollows mid s d (length f.frames) b w')
    → h.frame ≡ f.frame
put_frame w mid w' s d a b f h =
    let own : slice_get mid.wires s ≡ Some (slice_set f.of_s d (f.frames ++ f.frame ∷ [])) =
    ap (λ z. slice_get z.wires s) f.after ∙ set_get_same w.wires s f.of_s (slice_set f.of_s d (f.frames ++ f.frame ∷ [])) f.wires in
    let of : h.wire.0 ≡ slice_set f.of_s d (f.frames ++ f.frame ∷ []) = lists h.wire.0 (slice_set f.of_s d (f.frames ++ f.frame ∷ [])) (sym h.wire.1 ∙ own) in
    let all : h.frames ≡ f.frames ++ f.frame ∷ [] =
    frames h.frames (f.frames ++ f.frame ∷ []) (sym h.wire.2 ∙ ap (λ z. slice_get z d) of ∙ set_get_same f.of_s d f.frames (f.frames ++ f.frame ∷ []) f.wire) in
    one h.frame f.frame (sym h.there ∙ ap (λ z. slice_get z (length f.frames)) all ∙ get_last f.frames f.frame)
  where
    lists : (x y : List (List Frame)) → ◌≡◌ {A = Option (List (List Frame))} (Some x) (Some y) → x ≡ y
    lists x y e = cc

    frames : (x y : List Frame) → ◌≡◌ {A = Option (List Frame)} (Some x) (Some y) → x ≡ y
    frames x y e = cc

    one : (x y : Frame) → ◌≡◌ {A = Option Frame} (Some x) (Some y) → x ≡ y
    one x y e = cc

-- A frame that is put and arrives at once leaves no gap.
pub round_no_gaps : (w mid w' : WorldValue) (s d : ℕ) (a b : Reply) (f : PutFollows w s d a mid) → ArriveFollows mid s d (length f.frames) b w' → Stands w
    → Stands mid → Onward w → NoGaps w → NoGaps w'
round_no_gaps w mid w' s d a b f h t t1 o g = go f.frame refl
  where
    same : h.frame ≡ f.frame
    same = put_frame w mid w' s d a b f h

    quiet : ((p : packet.PacketValue) → f.frame ≡ frame.Data p → ⊥) → NoGaps w'
    quiet no_packet =
        arrived_no_gaps (λ x y. Unit {0}) mid w' s d (length f.frames) b h t1 (λ p e. no_packet p (sym same ∙ e))
        (put_no_gaps (λ x y. Unit {0}) w mid s d a f no_packet g)

    go : (x : Frame) → f.frame ≡ x → NoGaps w'
    go (frame.Ask n) e = quiet (λ p q. (let z : frame.Ask n ≡ frame.Data p = sym e ∙ q in cc))
    go (frame.Kept n) e = quiet (λ p q. (let z : frame.Kept n ≡ frame.Data p = sym e ∙ q in cc))
    go (frame.Data p) e =
        let real : IsReal mid.run s d (frame.Data p) =
        subst (λ x. IsReal mid.run s d x) (same ∙ e) (t1.run.packets s d (length f.frames) h.frames h.frame h.wire h.there) in
        packet_no_gaps w mid s d a f p t o e g w' (length f.frames) b h (same ∙ e) real.0

-- ---- none of them is refused
