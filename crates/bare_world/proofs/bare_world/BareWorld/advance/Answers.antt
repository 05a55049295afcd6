use Rattle.std.proofs.Common.{rules, ◌≡◌, ℕ, sym, subst}
use Rattle.rank_node.specs.declared.turn.Turn.{Turn}
use Rattle.bare_world.specs.World.{WorldValue}
use Rattle.bare_world.specs.Follows.{Follows, stepped}
use Rattle.bare_world.specs.declared.event.WorldEvent.TheVariants.{Step}
use Rattle.bare_world.specs.declared.reply.Reply.{Reply}
use Rattle.bare_world.proofs.Calls.Steps.{step_some}
use Rattle.bare_world.proofs.bare_world.BareWorld.advance.Goals as goal

-- the reply is the turn's
answered : (w w' : WorldValue) (r : ℕ) (t : Turn) (answer : Reply) → answer ≡ stepped t → Follows w (Step r) (stepped t) w' → Follows w (Step r) answer w'
answered w w' r t answer e follows = subst (λ z. Follows w (Step r) z w') (sym e) follows

-- src/bare_world/stepping.rt
pub returns-clause-follows : goal.returns-clause-follows
returns-clause-follows c =
    answered c.args.self.now _ c.args.rank c.in-Ok-step.turn _ c.stepped.ensures
    (step_some c.args.self.now _ c.args.rank c.in-Some.running.now c.in-Ok-step.turn c.requires.stands (search rules) (search rules) (search rules)
    (search rules) (search rules) (search rules) (search rules) (search rules))
