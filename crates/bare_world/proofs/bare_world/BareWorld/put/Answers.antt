use Rattle.std.proofs.Common.{◌≡◌, ◌<◌, Some, sym, subst, IsSome}
use Rattle.rank_node.specs.Frames.{outgoing_of}
use Rattle.bare_world.specs.World.{Live}
use Rattle.bare_world.specs.Seats.{AtRank}
use Rattle.bare_world.proofs.Calls.Frames.{put_due}
use Rattle.bare_world.proofs.bare_world.BareWorld.put.Goals as goal

-- src/bare_world/putting.rt
pub passed-requires-clause-due : goal.passed-requires-clause-due
passed-requires-clause-due c =
    subst (λ z. AtRank z.ranks c.in-Some.source
    (λ (v : Live). (c.in-Some-rank_of.dest < v.rank.stable.size) × IsSome (outgoing_of v.rank c.in-Some-rank_of.dest))) (sym c.self.view_is)
    (put_due c.args.self.now c.in-Some.source c.in-Some-rank_of.dest c.in-Some-2.frame c.requires c.in-Some-rank_of.ensures.1
    (subst (λ z. AtRank z.ranks c.in-Some.source (λ (v : Live). Some c.in-Some-2.frame ≡ outgoing_of v.rank c.in-Some-rank_of.dest)) c.self.view_is
    (subst (λ o. AtRank c.self.inside.seats.ranks c.in-Some.source (λ (v : Live). o ≡ outgoing_of v.rank c.in-Some-rank_of.dest))
    c.in-Some-2.is c.in_ok-frame.ensures.ok)))
