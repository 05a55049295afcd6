use Rattle.std.proofs.Common.{◌≡◌, length, Option, Some, None, ap, subst, ◌∙◌, slice_get, slice_set, IsSomeAnd, false, sym}
use Rattle.event_logger.specs.Sequential.History.{Answers}
use Rattle.event_logger.specs.declared.sequential.call.Call.TheVariants.{Fetch}
use Rattle.event_logger.specs.declared.sequential.call.Reply.TheVariants.{Events}
use Rattle.rank_node.specs.Image.{begins_at}
use Rattle.rank_node.specs.Replay.{left_of, cuts}
use Rattle.bare_world.specs.World.{Live, WorldValue}
use Rattle.bare_world.specs.Seats.{IsRestarted}
use Rattle.bare_world.proofs.Calls.Lives.{restart_named, restart_uncut}
use Rattle.bare_world.proofs.bare_world.BareWorld.restart.Goals as goal

-- src/bare_world/restarting.rt
pub restart-requires-clause-uncut : goal.restart-requires-clause-uncut
restart-requires-clause-uncut c =
    subst (λ (z : WorldValue). IsSomeAnd (slice_get z.images c.in-Some.rank) (λ image.
    cuts (begins_at z.program c.in-Some.rank (length z.ranks) image).clock c.in-Ok.row.items ≡ false)) (sym c.self.view_is)
    (restart_uncut c.args.self.now c.in-Some.rank c.in-Ok.row.items c.fetch.new.self c.requires c.in-Some.ensures.1
    (subst (λ (z : WorldValue). Answers z.logger c.in-Some.rank (Fetch 0) (Events c.in-Ok.row.items) c.fetch.new.self) c.self.view_is
    (subst (λ r. Answers c.self.inside.logger r (Fetch 0) (Events c.in-Ok.row.items) c.fetch.new.self) c.from.ensures c.in-Ok.ensures.ok)))

-- src/bare_world/restarting.rt
pub returns-clause-follows : goal.returns-clause-follows
returns-clause-follows c =
    restart_named c.args.self.now _ c.in-Some.rank c.args.rank c.in_ok-left.left c.in-Ok.row.items c.in-Some.ensures.0
    (subst (λ z. slice_get z.ranks c.in-Some.rank ≡ Some None) c.self.view_is c.if-not-is_down.ensures.yes)
    (subst (λ z. Answers z.logger c.in-Some.rank (Fetch 0) (Events c.in-Ok.row.items) c.fetch.new.self) c.self.view_is
    (subst (λ r. Answers c.self.inside.logger r (Fetch 0) (Events c.in-Ok.row.items) c.fetch.new.self) c.from.ensures c.in-Ok.ensures.ok))
    (subst (λ z. IsSomeAnd (slice_get z.images c.in-Some.rank) (λ image.
    c.in_ok-left.left ≡ length (left_of (begins_at z.program c.in-Some.rank (length z.ranks) image) c.in-Ok.row.items)))
    c.self.view_is c.in_ok-left.ensures.ok.counted)
    (subst (λ z. IsSomeAnd (slice_get z.images c.in-Some.rank) (λ image. (x : Option Live)
    × IsRestarted z.program (length z.ranks) c.in-Some.rank image c.in-Ok.row.items x × (c.restart.new.self.ranks ≡ slice_set z.ranks c.in-Some.rank x)))
    c.self.view_is c.in_ok-left.ensures.ok.rank)
    (c.in_ok-left.ensures.ok.program ∙ ap (λ z. z.program) c.self.view_is) (c.in_ok-left.ensures.ok.images ∙ ap (λ z. z.images) c.self.view_is)
    (ap (λ z. z.wires) c.self.view_is) (ap (λ z. z.lines) c.self.view_is) (ap (λ z. z.run) c.self.view_is)
