-- What a put and an arrival come to.
use Rattle.std.proofs.Common.{◌≡◌, ◌≢◌, ℕ, ◌<◌, ◌≤◌, List, [], Option, Some, None, length, refl, sym}
use Rattle.std.proofs.Common.{ap, subst, ◌∙◌, arith, slice_get, slice_set, slice_index_or, IsSome, if◌then◌else◌, IsSomeAnd}
use Rattle.std.proofs.lemmas.Option.{slice_get_within, slice_get-get_or}
use Rattle.std.proofs.lemmas.Bool.{eq-eqb}
use Rattle.matching.specs.declared.inbox.Accept.{Accept}
use Rattle.matching.specs.declared.inbox.Accept.TheVariants as accept
use Rattle.matching.specs.Inbox.{answer_to}
use Rattle.rank_node.specs.Frames as frames
use Rattle.rank_node.specs.declared.frame.Frame.{Frame}
use Rattle.rank_node.specs.declared.frame.Frame.TheVariants as frame
use Rattle.rank_node.specs.declared.turn.Arrived.{Arrived}
use Rattle.rank_node.specs.declared.turn.Arrived.TheVariants as arrived
use Rattle.rank_node.specs.Frames.{outgoing_of, arrival_of, IsPacket}
use Rattle.crash_free.specs.Runs.{Passed}
use Rattle.bare_world.specs.World.{Rank, Live, WorldValue, size, IsDown, IsWire}
use Rattle.bare_world.specs.Wires.{HasWire, wire_of, with_frame}
use Rattle.bare_world.specs.Headline.{IsReal}
use Rattle.bare_world.specs.Seats.{AtRank, Arrives, HasGone}
use Rattle.bare_world.specs.Follows.{CanNot, Follows, PutFollows, ArriveFollows, put_as, arrived_as}
use Rattle.bare_world.specs.Stands.{Stands}
use Rattle.bare_world.proofs.Plain.Worlds.{rank_of}
use Rattle.bare_world.specs.declared.event.WorldEvent.TheVariants.{Put, Arrive}
use Rattle.bare_world.specs.declared.reply.Reply.{Reply}
use Rattle.bare_world.specs.declared.reply.Reply.TheVariants as reply
use Rattle.bare_world.proofs.Calls.RankOfEvent.{none_live, not_down, live_at, same_world}

-- no rank is there to put anything
pub put_from_nowhere : (w : WorldValue) (s d : ℕ) → size w ≤ s → Follows w (Put s d) reply.Refused w
put_from_nowhere w s d past = (λ v live l. absurd (none_live w s v past live), refl)

-- nothing is put for a rank that isn't there
pub put_to_nowhere : (w : WorldValue) (s d : ℕ) → size w ≤ d → Follows w (Put s d) reply.Refused w
put_to_nowhere w s d past = (λ v live l. absurd (omega arith), refl)

-- a rank that is down puts nothing
pub put_down : (w : WorldValue) (s d : ℕ) → IsDown w s → Follows w (Put s d) reply.Refused w
put_down w s d down = (λ v live l. absurd (not_down w s v down live), refl)

-- nor where nothing is due
pub put_none : (w : WorldValue) (s d : ℕ) → AtRank w.ranks s (λ v. None ≡ outgoing_of v.rank d) → Follows w (Put s d) reply.Refused w
put_none w s d h = (λ v live l. sym (subst (λ z. IsSomeAnd z (λ y. IsSomeAnd y (λ (u : Live). None ≡ outgoing_of u.rank d))) live h), refl)

-- a rank knows how many there are
pub live_size : (w : WorldValue) (r d : ℕ) → Stands w → AtRank w.ranks r (λ v. Unit {0}) → d < length w.ranks → AtRank w.ranks r (λ v. d < v.rank.stable.size)
live_size w r d st h l =
    let v = live_at w.ranks r _ h in
    let e = (rank_of st r v.0 v.1).size in
    subst (λ z. IsSomeAnd z (λ y. IsSomeAnd y (λ (u : Live). d < u.rank.stable.size))) (sym v.1) (omega (arith, e, l))

-- there is a wire between ranks that are there
pub has_wire : (w : WorldValue) (s d : ℕ) → Stands w → s < length w.ranks → d < length w.ranks → HasWire w.wires s d
has_wire w s d st l m =
    let n = st.run.as_many_wires in
    let there = slice_get-get_or w.wires s [] (omega (arith, n)) in
    let e = st.run.wires_to_all s (slice_index_or w.wires s []) there in
    (omega (arith, n), omega (arith, e))

-- what is put was due
pub put_due : (w : WorldValue) (s d : ℕ) (f : Frame) → Stands w → d < length w.ranks → AtRank w.ranks s (λ v. Some f ≡ outgoing_of v.rank d)
    → AtRank w.ranks s (λ v. (d < v.rank.stable.size) × IsSome (outgoing_of v.rank d))
put_due w s d f st l h =
    let v = live_at w.ranks s _ h in
    let e = (rank_of st s v.0 v.1).size in
    subst (λ z. IsSomeAnd z (λ y. IsSomeAnd y (λ (u : Live). (d < u.rank.stable.size) × IsSome (outgoing_of u.rank d)))) (sym v.1)
    (omega (arith, e, l), subst (λ z. IsSome z) v.2 refl)

-- a frame is put
pub put_some : (w w' : WorldValue) (s d : ℕ) (f : Frame)
    → AtRank w.ranks s (λ v. Some f ≡ outgoing_of v.rank d) → HasWire w.wires s d
    → w'.wires ≡ with_frame w.wires s d f
    → AtRank w.ranks s (λ v. (y : Option Live) × HasGone d v y × (w'.ranks ≡ slice_set w.ranks s y))
    → w'.program ≡ w.program → w'.images ≡ w.images → w'.logger ≡ w.logger → w'.lines ≡ w.lines → w'.run ≡ w.run
    → Follows w (Put s d) (put_as (length (wire_of w.wires s d)) f) w'
put_some w w' s d f next has wires ranks program images logger lines run = go f follows
  where
    x : (v : Live) × (slice_get w.ranks s ≡ Some (Some v)) × ((y : Option Live) × HasGone d v y × (w'.ranks ≡ slice_set w.ranks s y))
    x = live_at w.ranks s _ ranks

    of_s : List (List Frame)
    of_s = slice_index_or w.wires s []

    at_s : slice_get w.wires s ≡ Some of_s
    at_s = slice_get-get_or w.wires s [] has.0

    at_d : slice_get of_s d ≡ Some (wire_of w.wires s d)
    at_d = slice_get-get_or of_s d [] has.1

    follows : PutFollows w s d (put_as (length (wire_of w.wires s d)) f) w'
    follows = record {
      before = x.0;
      live = x.1;
      frame = f;
      next = sym (subst (λ z. IsSomeAnd z (λ y. IsSomeAnd y (λ (v : Live). Some f ≡ outgoing_of v.rank d))) x.1 next);
      of_s = of_s;
      wires = at_s;
      frames = wire_of w.wires s d;
      wire = at_d;
      answered = refl;
      after = same_world w' _ program (x.2.2 ∙ ap (λ z. slice_set w.ranks s z) x.2.1) images logger wires lines run;
    }

    go : (g : Frame) → PutFollows w s d (put_as (length (wire_of w.wires s d)) g) w' → Follows w (Put s d) (put_as (length (wire_of w.wires s d)) g) w'
    go (frame.Data p) h = h
    go (frame.Ask k) h = h
    go (frame.Kept k) h = h

-- nothing arrives from a rank that isn't there
pub arrive_from_nowhere : (w : WorldValue) (s d i : ℕ) → Stands w → size w ≤ s → Follows w (Arrive s d i) reply.Refused w
arrive_from_nowhere w s d i st past =
    (λ v frames f live wire at. let l = slice_get_within w.wires s wire.0 wire.1 in let e = st.run.as_many_wires in omega (arith, l, e), refl)

-- nothing arrives at a rank that isn't there
pub arrive_nowhere : (w : WorldValue) (s d i : ℕ) → size w ≤ d → Follows w (Arrive s d i) reply.Refused w
arrive_nowhere w s d i past = (λ v frames f live wire at. none_live w d v past live, refl)

-- the frames of a wire are these
pub wire_is : (w : WorldValue) (s d : ℕ) (frames : List Frame) → HasWire w.wires s d → IsWire w s d frames → frames ≡ wire_of w.wires s d
wire_is w s d frames has wire =
    let of_s : wire.0 ≡ slice_index_or w.wires s [] =
    (let q : Some wire.0 ≡ Some (slice_index_or w.wires s []) = sym wire.1 ∙ slice_get-get_or w.wires s [] has.0 in cc) in
    let at : slice_get (slice_index_or w.wires s []) d ≡ Some frames = subst (λ z. slice_get z d ≡ Some frames) of_s wire.2 in
    let q : Some frames ≡ Some (wire_of w.wires s d) = sym at ∙ slice_get-get_or (slice_index_or w.wires s []) d [] has.1 in
    cc

-- the wire between two ranks
pub the_wire : (w : WorldValue) (s d : ℕ) → HasWire w.wires s d → IsWire w s d (wire_of w.wires s d)
the_wire w s d has = (slice_index_or w.wires s [], slice_get-get_or w.wires s [] has.0, slice_get-get_or (slice_index_or w.wires s []) d [] has.1)

-- nothing arrives that isn't on the wire
pub arrive_none : (w : WorldValue) (s d i : ℕ) → HasWire w.wires s d → slice_get (wire_of w.wires s d) i ≡ None → Follows w (Arrive s d i) reply.Refused w
arrive_none w s d i has none = (
  λ v frames f live wire at.
      let e = wire_is w s d frames has wire in
      let g : slice_get (wire_of w.wires s d) i ≡ Some f = subst (λ z. slice_get z i ≡ Some f) e at in
      cc,
  refl,
)

-- nothing arrives at a rank that is down
pub arrive_down : (w : WorldValue) (s d i : ℕ) → IsDown w d → Follows w (Arrive s d i) reply.Refused w
arrive_down w s d i down = (λ v frames f live wire at. not_down w d v down live, refl)

-- a frame of a wire isn't foreign
arrived_some : (x : Rank) (s : ℕ) (f : Frame) (C : List Passed) (d : ℕ) → IsReal C s d f → arrived_as (arrival_of x s f) ≢ None
arrived_some x s (frame.Ask k) C d real e = cc
arrived_some x s (frame.Kept k) C d real e = cc
arrived_some x s (frame.Data p) C d real e =
    accepted (answer_to x.inbox p) (subst (λ b. arrived_as (if b then frames.arrived_as (answer_to x.inbox p) else arrived.Foreign) ≡ None)
    (eq-eqb p.source s real.0) e)
  where
    accepted : (a : Accept) → arrived_as (frames.arrived_as a) ≡ None → ⊥
    accepted accept.Accepted h = cc
    accepted accept.Repeated h = cc
    accepted accept.Gap h = cc

-- what arrives isn't foreign
pub arrive_not_foreign : (w : WorldValue) (s d i : ℕ) (f : Frame) (a : Arrived) → Stands w → HasWire w.wires s d
    → slice_get (wire_of w.wires s d) i ≡ Some f
    → (ranks : List (Option Live)) → AtRank w.ranks d (λ v. (y : Option Live) × Arrives s f a v y × (ranks ≡ slice_set w.ranks d y)) → a ≢ arrived.Foreign
arrive_not_foreign w s d i f a st has there ranks h foreign =
    let v = live_at w.ranks d _ h in
    arrived_some v.0.rank s f w.run d (st.run.packets s d i (wire_of w.wires s d) f (the_wire w s d has) there) (ap arrived_as (sym v.2.1.0 ∙ foreign))

-- a frame arrives
pub arrive_some : (w w' : WorldValue) (s d i : ℕ) (f : Frame) (a : Arrived) (answer : Reply) → HasWire w.wires s d
    → slice_get (wire_of w.wires s d) i ≡ Some f
    → AtRank w.ranks d (λ v. (y : Option Live) × Arrives s f a v y × (w'.ranks ≡ slice_set w.ranks d y))
    → arrived_as a ≡ Some answer
    → w'.program ≡ w.program → w'.images ≡ w.images → w'.logger ≡ w.logger → w'.wires ≡ w.wires → w'.lines ≡ w.lines → w'.run ≡ w.run
    → Follows w (Arrive s d i) answer w'
arrive_some w w' s d i f a answer has there ranks is program images logger wires lines run = go a answer is follows
  where
    x : (v : Live) × (slice_get w.ranks d ≡ Some (Some v)) × ((y : Option Live) × Arrives s f a v y × (w'.ranks ≡ slice_set w.ranks d y))
    x = live_at w.ranks d _ ranks

    follows : ArriveFollows w s d i answer w'
    follows = record {
      before = x.0;
      live = x.1;
      frames = wire_of w.wires s d;
      wire = the_wire w s d has;
      frame = f;
      there = there;
      answered = ap arrived_as (sym x.2.1.0) ∙ is;
      after = same_world w' _ program (x.2.2 ∙ ap (λ z. slice_set w.ranks d z) x.2.1.1) images logger wires lines run;
    }

    go : (b : Arrived) (r : Reply) → arrived_as b ≡ Some r → ArriveFollows w s d i r w' → Follows w (Arrive s d i) r w'
    go arrived.Accepted r e g =
        let q : reply.Accepted ≡ r = cc in
        subst (λ z. Follows w (Arrive s d i) z w') q (subst (λ z. ArriveFollows w s d i z w') (sym q) g)
    go arrived.Repeated r e g =
        let q : reply.Repeated ≡ r = cc in
        subst (λ z. Follows w (Arrive s d i) z w') q (subst (λ z. ArriveFollows w s d i z w') (sym q) g)
    go arrived.Gap r e g = let q : reply.Gap ≡ r = cc in subst (λ z. Follows w (Arrive s d i) z w') q (subst (λ z. ArriveFollows w s d i z w') (sym q) g)
    go arrived.Noted r e g = let q : reply.Noted ≡ r = cc in subst (λ z. Follows w (Arrive s d i) z w') q (subst (λ z. ArriveFollows w s d i z w') (sym q) g)
    go arrived.Foreign r e g = absurd cc

-- the same, of ranks whose numbers the event names
pub arrive_named : (w w' : WorldValue) (s d i from to : ℕ) (f : Frame) (a : Arrived) (answer : Reply) → s ≡ from → d ≡ to → HasWire w.wires s d
    → slice_get (wire_of w.wires s d) i ≡ Some f
    → AtRank w.ranks d (λ v. (y : Option Live) × Arrives s f a v y × (w'.ranks ≡ slice_set w.ranks d y))
    → arrived_as a ≡ Some answer
    → w'.program ≡ w.program → w'.images ≡ w.images → w'.logger ≡ w.logger → w'.wires ≡ w.wires → w'.lines ≡ w.lines → w'.run ≡ w.run
    → Follows w (Arrive from to i) answer w'
arrive_named w w' s d i from to f a answer same_s same_d has there ranks is program images logger wires lines run =
    subst (λ z. Follows w (Arrive z to i) answer w') same_s
    (subst (λ z. Follows w (Arrive s z i) answer w') same_d (arrive_some w w' s d i f a answer has there ranks is program images logger wires lines run))

-- where memory ends a put and an arrival could happen
pub put_possible : (w : WorldValue) (s d : ℕ) → d < length w.ranks → AtRank w.ranks s (λ v. outgoing_of v.rank d ≢ None) → CanNot w (Put s d) → ⊥
put_possible w s d l h cannot = let v = live_at w.ranks s _ h in v.2 (cannot v.0 v.1 l)

-- a packet is something
pub put_packet : (ranks : List (Option Live)) (s d : ℕ) → AtRank ranks s (λ v. IsPacket (outgoing_of v.rank d))
    → AtRank ranks s (λ v. outgoing_of v.rank d ≢ None)
put_packet ranks s d h =
    let v = live_at ranks s _ h in
    subst (λ z. IsSomeAnd z (λ y. IsSomeAnd y (λ (u : Live). outgoing_of u.rank d ≢ None))) (sym v.1) (packet_some (outgoing_of v.0.rank d) v.2)
  where
    packet_some : (o : Option Frame) → IsPacket o → o ≡ None → ⊥
    packet_some None p e = absurd p
    packet_some (Some f) p e = cc

-- so is any frame
pub put_next : (ranks : List (Option Live)) (s d : ℕ) (f : Frame) → AtRank ranks s (λ v. Some f ≡ outgoing_of v.rank d)
    → AtRank ranks s (λ v. outgoing_of v.rank d ≢ None)
put_next ranks s d f h =
    let v = live_at ranks s _ h in
    subst (λ z. IsSomeAnd z (λ y. IsSomeAnd y (λ (u : Live). outgoing_of u.rank d ≢ None))) (sym v.1) (λ none. (let q : Some f ≡ None = v.2 ∙ none in cc))

-- where memory ends an arrival could happen
pub arrive_possible : (w : WorldValue) (s d i : ℕ) (f : Frame) → HasWire w.wires s d → slice_get (wire_of w.wires s d) i ≡ Some f
    → AtRank w.ranks d (λ v. Unit {0}) → CanNot w (Arrive s d i) → ⊥
arrive_possible w s d i f has there h cannot =
    let v = live_at w.ranks d _ h in
    cannot v.0 (wire_of w.wires s d) f v.1 (the_wire w s d has) there

-- the same, of ranks whose numbers the event names
pub arrive_named_possible : (w : WorldValue) (s d i from to : ℕ) (f : Frame) → s ≡ from → d ≡ to → HasWire w.wires s d
    → slice_get (wire_of w.wires s d) i ≡ Some f → AtRank w.ranks d (λ v. Unit {0})
    → CanNot w (Arrive from to i) → ⊥
arrive_named_possible w s d i from to f same_s same_d has there h =
    subst (λ z. CanNot w (Arrive z to i) → ⊥) same_s (subst (λ z. CanNot w (Arrive s z i) → ⊥) same_d (arrive_possible w s d i f has there h))

-- what a put comes to, and what its calls ask for
pub ruleset put_laws =
    (put_from_nowhere, put_to_nowhere, put_down, put_none, put_some, put_due, has_wire, live_size, put_possible, put_packet, put_next)

-- what an arrival comes to, and what its calls ask for
pub ruleset arrive_laws =
    (arrive_from_nowhere, arrive_nowhere, arrive_none, arrive_some, arrive_down, live_size, arrive_not_foreign, has_wire, arrive_possible)
