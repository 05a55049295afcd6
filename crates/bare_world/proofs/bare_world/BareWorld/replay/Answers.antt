use Rattle.std.proofs.Common.{◌≡◌, ℕ, Option, ◌∙◌, ap, subst, slice_set, sym}
use Rattle.rank_node.specs.declared.turn.Turn.{Turn}
use Rattle.bare_world.specs.World.{Live, WorldValue}
use Rattle.bare_world.specs.Seats.{AtRank, ReplaysStep}
use Rattle.bare_world.specs.Follows.{Follows, stepped}
use Rattle.bare_world.specs.declared.event.WorldEvent.TheVariants.{Step}
use Rattle.bare_world.specs.declared.reply.Reply.{Reply}
use Rattle.bare_world.proofs.Calls.Steps.{replay_some}
use Rattle.bare_world.proofs.bare_world.BareWorld.replay.Goals as goal

-- the reply is the turn's
answered : (w w' : WorldValue) (r : ℕ) (t : Turn) (answer : Reply) → answer ≡ stepped t → Follows w (Step r) (stepped t) w' → Follows w (Step r) answer w'
answered w w' r t answer e follows = subst (λ z. Follows w (Step r) z w') (sym e) follows

-- src/bare_world/replaying.rt
pub returns-clause-follows : goal.returns-clause-follows
returns-clause-follows c =
    answered c.args.self.now _ c.args.rank c.in_ok-turn.turn _ c.stepped.ensures
    (replay_some c.args.self.now _ c.args.rank c.in_ok-turn.turn c.requires.stands
    (subst (λ (z : WorldValue). AtRank z.ranks c.args.rank
    (λ (v : Live). (x : Option Live) × ReplaysStep z.lines c.replay.new.console c.in_ok-turn.turn v x × (c.replay.new.self.ranks ≡ slice_set z.ranks c.args.rank x)))
    c.self.view_is c.in_ok-turn.ensures.ok.ok.rank)
    (ap (λ (z : WorldValue). z.run) c.self.view_is)
    (c.in_ok-turn.ensures.ok.ok.program ∙ ap (λ (z : WorldValue). z.program) c.self.view_is)
    (c.in_ok-turn.ensures.ok.ok.images ∙ ap (λ (z : WorldValue). z.images) c.self.view_is)
    (ap (λ (z : WorldValue). z.logger) c.self.view_is) (ap (λ (z : WorldValue). z.wires) c.self.view_is))
