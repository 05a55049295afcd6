use Rattle.std.proofs.Common.{ℕ, ◌+◌, ◌<◌, List, [], ◌∷◌, ◌++◌, length, take, get_or, arith, refl, subst, sym, ◌∙◌}
use Rattle.std.proofs.lemmas.List.{take_more}
use Rattle.bare_world.specs.World.{WorldValue}
use Rattle.bare_world.specs.Headline.{StandsFor}
use Rattle.bare_world.specs.Retained.{NothingGone}
use Rattle.bare_world.specs.Follows.{Follows}
use Rattle.bare_world.specs.Sequences.{FollowsAll}
use Rattle.bare_world.specs.declared.event.WorldEvent.{WorldEvent}
use Rattle.bare_world.specs.declared.reply.Reply.{Reply}
use Rattle.bare_world.proofs.Sequences.{follows_push, stops, world_stands, world_retains}
use Rattle.world_model.proofs.world.World.run.Goals as goal

-- one more event of the list
go_on : (w v w' : WorldValue) (events : List WorldEvent) (replies : List Reply) (k : ℕ) (d : WorldEvent) (answer : Reply) → k < length events
    → FollowsAll w (take k events) replies v → Follows v (get_or events k d) answer w' → StandsFor w' w'.run → NothingGone w' w'.run
    → FollowsAll w (take (k + 1) events) (replies ++ answer ∷ []) w'
go_on w v w' events replies k d answer l f g s n = rw (take_more events k d l) (follows_push w v w' (take k events) replies (get_or events k d) answer f g s n)

-- src/world.rt
pub returns-in_default-clause-stands : goal.returns-in_default-clause-stands
returns-in_default-clause-stands c = subst (λ w. StandsFor w w.run) c.self.view_is (world_stands c.self.inside.bare c.self.invariant)

-- src/world.rt
pub returns-in_default-clause-nothing_gone : goal.returns-in_default-clause-nothing_gone
returns-in_default-clause-nothing_gone c = subst (λ w. NothingGone w w.run) c.self.view_is (world_retains c.self.inside.bare c.self.invariant)

-- src/world.rt
pub loop-done-init : goal.loop-done-init
loop-done-init c = record {
  ran = subst (λ z. FollowsAll c.args.self.now [] z c.args.self.now) (sym (c.reserve.ensures.items ∙ c.new-replies.ensures.items)) refl;
  stands = subst (λ w. StandsFor w w.run) c.self.view_is (world_stands c.self.inside.bare c.self.invariant);
  nothing_gone = subst (λ w. NothingGone w w.run) c.self.view_is (world_retains c.self.inside.bare c.self.invariant);
  count = omega (arith, c.reserve.ensures.len, c.new-replies.ensures.len);
  room = grind (arith, c.in-Ok.ensures.ok, c.reserve.ensures.len, c.new-replies.ensures.len);
}

-- src/world.rt
pub loop-done-preserved : goal.loop-done-preserved
loop-done-preserved c = record {
  ran = rw c.push_reserved.ensures.items
      (go_on _ c.loop-done.self c.apply.new.self c.args.events.now c.loop-done.replies.items c.loop-done.done _ c.in-Ok-apply.reply (omega arith)
      c.loop-done.invariant.ran c.in-Ok-apply.ensures.follows c.in-Ok-apply.ensures.stands c.in-Ok-apply.ensures.nothing_gone);
  stands = c.in-Ok-apply.ensures.stands;
  nothing_gone = c.in-Ok-apply.ensures.nothing_gone;
  count = omega (arith, c.loop-done.invariant.count, c.push_reserved.ensures.len);
  room = omega (arith, c.loop-done.invariant.room, c.push_reserved.ensures.capacity);
}

-- src/world.rt
pub returns-in_default-apply-clause-stopped : goal.returns-in_default-apply-clause-stopped
returns-in_default-apply-clause-stopped c =
    stops c.args.self.now c.loop-done.self c.apply.new.self c.args.events.now c.loop-done.replies.items c.loop-done.done _ (omega arith)
    c.loop-done.invariant.ran c.in_default-apply.ensures.possible c.in_default-apply.ensures.frugal c.in_default-apply.ensures.err
