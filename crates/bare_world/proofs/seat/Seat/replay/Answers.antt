use Rattle.std.proofs.Common.{◌≡◌, ◌≢◌, [], Err, Some, sym, ap, subst, ◌∙◌, true}
use Rattle.std.specs.Prelude.{option_and_then}
use Rattle.std.proofs.lemmas.Option.{same_Some}
use Rattle.rank_node.specs.Phases.{settled_in}
use Rattle.rank_node.specs.Replay.{replay_takes_memory}
use Rattle.rank_node.specs.declared.phase.Phase.TheVariants.{Replaying}
use Rattle.bare_world.specs.World.{Live}
use Rattle.bare_world.specs.Seat.{live_of}
use Rattle.bare_world.specs.Seats.{in_replay, IfLive, IsFitting, IsReplayed, SeatValue}
use Rattle.bare_world.proofs.Calls.SettlesAtTheEnd.{replay_refused, replayed_is, settled_live}
use Rattle.bare_world.proofs.Calls.SeatStays.{kept_there, replayed_then}
use Rattle.bare_world.proofs.seat.Seat.replay.Goals as goal

-- src/seat/stepping.rt
pub returns-in_default-clause-memory : goal.returns-in_default-clause-memory
returns-in_default-clause-memory c =
    let rank = c.in-Some-Replaying in
    let is : in_replay rank.replaying ≡ c.args.self.now.live
    = ap (option_and_then live_of) (sym (rank.is ∙ ap Some rank.field-0-is)) ∙ ap (λ (s : SeatValue). s.live) c.self.view_is in
    let v : Live = record { rank = rank.replaying.node; left = rank.replaying.left } in
    subst (λ z. IfLive z (λ (u : Live). replay_takes_memory u.rank ≡ true)) is
    (replay_refused v (Err c.in_default.field-0)
    (subst (λ z. IfLive z (λ (u : Live). u.left ≢ [])) (sym is) c.requires.replays)
    (subst (λ z. IfLive z IsFitting) (sym is) c.requires.fits)
    c.in_default.ensures.step.refused c.in_default.ensures.step.memory)

-- src/seat/stepping.rt
pub invariant_of-self-2 : goal.invariant_of-self-2
invariant_of-self-2 c =
    let rank = c.in-Some-Replaying in
    replayed_then c.self.inside.program.now c.self.inside.rank c.self.inside.size c.self.inside.occupant c.put.new.occupant
    rank.replaying c.step-step.new.self c.self.invariant (rank.is ∙ ap Some rank.field-0-is) c.step-step.ensures.step.stable c.in-Ok.ensures.step.machine
    (c.put.ensures ∙ ap Some (c.settled-settled.ensures.settled ∙ ap settled_in (sym (same_Some _ _ c.take.ensures.rank))))

-- src/seat/stepping.rt
pub returns-clause-ok : goal.returns-clause-ok
returns-clause-ok c =
    let rank = c.in-Some-Replaying in
    let there = rank.is ∙ ap Some rank.field-0-is in
    let is : in_replay rank.replaying ≡ c.args.self.now.live = ap (option_and_then live_of) (sym there) ∙ ap (λ (s : SeatValue). s.live) c.self.view_is in
    let placed : c.put.new.occupant ≡ Some (settled_in (Replaying c.step-step.new.self))
    = c.put.ensures ∙ ap Some (c.settled-settled.ensures.settled ∙ ap settled_in (sym (same_Some _ _ c.take.ensures.rank))) in
    let kept =
    kept_there c.self.inside.program.now c.self.inside.rank c.self.inside.size c.self.inside.occupant (Replaying rank.replaying) c.self.invariant there in
    subst (λ z. IfLive z (λ v. IsReplayed v c.in-Ok.turn (option_and_then live_of c.put.new.occupant))) is
    (subst (λ y. IsReplayed (record { rank = rank.replaying.node; left = rank.replaying.left }) c.in-Ok.turn y)
    (sym (ap (option_and_then live_of) placed ∙ settled_live (Replaying c.step-step.new.self)))
    (replayed_is rank.replaying c.step-step.new.self c.in-Ok.turn kept.left c.in-Ok.ensures.step.turn c.in-Ok.ensures.step.ok c.in-Ok.ensures.step.machine))
