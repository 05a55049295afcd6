use Rattle.std.proofs.Common.{List, [], ◌∷◌, ◌++◌, sym, ap, subst, ◌∙◌}
use Rattle.bare_world.specs.World.{WorldValue}
use Rattle.bare_world.specs.Onward.{IsWorld}
use Rattle.bare_world.specs.declared.event.WorldEvent.{WorldEvent}
use Rattle.bare_world.proofs.Ending.IsPlayedOn.{played_one}
use Rattle.world_model.proofs.world.World.play.Goals as goal

-- src/world/finishing.rt
pub returns-clause-ok : goal.returns-clause-ok
returns-clause-ok c =
    played_one _ _ _ _ _ _ (subst (λ (w : WorldValue). IsWorld w) c.self.view_is c.self.invariant) c.requires
    (sym c.leaves_all.ensures ∙ c.if-leaves_all.false) c.in_ok-reply.ensures.follows
    (c.push_reserved.ensures.items ∙ ap (λ (xs : List WorldEvent). xs ++ c.args.event ∷ []) c.in_ok-reserve.ensures.items)
