use Rattle.std.proofs.Common.{◌≡◌, Option, Some, sym, ap, subst, ◌∙◌, slice_get, slice_set}
use Rattle.bare_world.specs.World.{Live}
use Rattle.bare_world.specs.Wires.{HasWire, wire_of}
use Rattle.bare_world.specs.Seats.{AtRank, Arrives}
use Rattle.bare_world.proofs.Calls.RankOfEvent.{on_err}
use Rattle.bare_world.proofs.Calls.Frames.{has_wire, arrive_not_foreign, arrive_named, arrive_named_possible}
use Rattle.bare_world.proofs.bare_world.BareWorld.arrive.Goals as goal

-- the wire is there
has : (c : goal.In_ok-arrived) → HasWire c.args.self.now.wires c.in-Some.source c.in-Some-rank_of.dest
has c =
    has_wire c.args.self.now c.in-Some.source c.in-Some-rank_of.dest c.requires
    c.in-Some.ensures.1 c.in-Some-rank_of.ensures.1

-- and the frame on it
there : (c : goal.In_ok-arrived) → slice_get (wire_of c.args.self.now.wires c.in-Some.source c.in-Some-rank_of.dest) c.args.index ≡ Some c.in_ok-frame.frame
there c =
    subst (λ z. slice_get (wire_of z.wires c.in-Some.source c.in-Some-rank_of.dest) c.args.index ≡ Some c.in_ok-frame.frame) c.self.view_is
    (subst (λ z. slice_get z c.args.index ≡ Some c.in_ok-frame.frame) c.wire.ensures
    (c.in-Some-get.ensures ∙ ap Some (sym c.in_ok-frame.ensures)))

-- the wire is there
has_then : (c : goal.After-arrived_as) → HasWire c.args.self.now.wires c.in-Some.source c.in-Some-rank_of.dest
has_then c =
    has_wire c.args.self.now c.in-Some.source c.in-Some-rank_of.dest c.requires
    c.in-Some.ensures.1 c.in-Some-rank_of.ensures.1

-- and the frame on it
there_then : (c : goal.After-arrived_as)
    → slice_get (wire_of c.args.self.now.wires c.in-Some.source c.in-Some-rank_of.dest) c.args.index ≡ Some c.in_ok-frame.frame
there_then c =
    subst (λ z. slice_get (wire_of z.wires c.in-Some.source c.in-Some-rank_of.dest) c.args.index ≡ Some c.in_ok-frame.frame) c.self.view_is
    (subst (λ z. slice_get z c.args.index ≡ Some c.in_ok-frame.frame) c.wire.ensures
    (c.in-Some-get.ensures ∙ ap Some (sym c.in_ok-frame.ensures)))

-- src/bare_world/arriving.rt
pub arrived_as-requires : goal.arrived_as-requires
arrived_as-requires c =
    arrive_not_foreign c.args.self.now c.in-Some.source c.in-Some-rank_of.dest c.args.index c.in_ok-frame.frame
    c.in_ok-arrived.arrived c.requires (has c) (there c) c.arrive.new.self.ranks
    (subst (λ z. AtRank z.ranks c.in-Some-rank_of.dest (λ (v : Live). (y : Option Live)
    × Arrives c.in-Some.source c.in_ok-frame.frame c.in_ok-arrived.arrived v y × (c.arrive.new.self.ranks ≡ slice_set z.ranks c.in-Some-rank_of.dest y)))
    c.self.view_is c.in_ok-arrived.ensures.ok.rank)

-- src/bare_world/arriving.rt
pub returns-clause-follows : goal.returns-clause-follows
returns-clause-follows c =
    arrive_named c.args.self.now _ c.in-Some.source c.in-Some-rank_of.dest c.args.index
    c.args.source c.args.dest c.in_ok-frame.frame c.in_ok-arrived.arrived c.arrived_as.result
    c.in-Some.ensures.0 c.in-Some-rank_of.ensures.0 (has_then c) (there_then c)
    (subst (λ z. AtRank z.ranks c.in-Some-rank_of.dest (λ (v : Live). (y : Option Live)
    × Arrives c.in-Some.source c.in_ok-frame.frame c.in_ok-arrived.arrived v y × (c.arrive.new.self.ranks ≡ slice_set z.ranks c.in-Some-rank_of.dest y)))
    c.self.view_is c.in_ok-arrived.ensures.ok.rank)
    c.arrived_as.ensures
    (c.in_ok-arrived.ensures.ok.program ∙ ap (λ z. z.program) c.self.view_is)
    (c.in_ok-arrived.ensures.ok.images ∙ ap (λ z. z.images) c.self.view_is)
    (ap (λ z. z.logger) c.self.view_is) (ap (λ z. z.wires) c.self.view_is) (ap (λ z. z.lines) c.self.view_is) (ap (λ z. z.run) c.self.view_is)

-- src/bare_world/arriving.rt
pub returns-in_err-frame-clause-possible : goal.returns-in_err-frame-clause-possible
returns-in_err-frame-clause-possible c =
    on_err c.from_residual.result _ (arrive_named_possible c.args.self.now c.in-Some.source c.in-Some-rank_of.dest
    c.args.index c.args.source c.args.dest c.in-Some-get.frame.now
    c.in-Some.ensures.0 c.in-Some-rank_of.ensures.0
    (has_wire c.args.self.now c.in-Some.source c.in-Some-rank_of.dest c.requires c.in-Some.ensures.1 c.in-Some-rank_of.ensures.1)
    (subst (λ z. slice_get (wire_of z.wires c.in-Some.source c.in-Some-rank_of.dest) c.args.index ≡ Some c.in-Some-get.frame.now) c.self.view_is
    (subst (λ z. slice_get z c.args.index ≡ Some c.in-Some-get.frame.now) c.wire.ensures c.in-Some-get.ensures))
    (subst (λ z. AtRank z.ranks c.in-Some-rank_of.dest (λ (v : Live). Unit {0})) c.self.view_is c.if-is_down.ensures.no))

-- src/bare_world/arriving.rt
pub returns-in_err-arrived-clause-possible : goal.returns-in_err-arrived-clause-possible
returns-in_err-arrived-clause-possible c =
    on_err c.from_residual-in_err-arrived.result _ (arrive_named_possible c.args.self.now c.in-Some.source c.in-Some-rank_of.dest
    c.args.index c.args.source c.args.dest c.in-Some-get.frame.now
    c.in-Some.ensures.0 c.in-Some-rank_of.ensures.0
    (has_wire c.args.self.now c.in-Some.source c.in-Some-rank_of.dest c.requires c.in-Some.ensures.1 c.in-Some-rank_of.ensures.1)
    (subst (λ z. slice_get (wire_of z.wires c.in-Some.source c.in-Some-rank_of.dest) c.args.index ≡ Some c.in-Some-get.frame.now) c.self.view_is
    (subst (λ z. slice_get z c.args.index ≡ Some c.in-Some-get.frame.now) c.wire.ensures c.in-Some-get.ensures))
    (subst (λ z. AtRank z.ranks c.in-Some-rank_of.dest (λ (v : Live). Unit {0})) c.self.view_is c.if-is_down.ensures.no))
