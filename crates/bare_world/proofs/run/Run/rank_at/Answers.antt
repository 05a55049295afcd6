use Rattle.std.proofs.Common.{ap}
use Rattle.crash_free.specs.Runs.{Passed}
use Rattle.bare_world.specs.RunIndex.{IsNext}
use Rattle.bare_world.proofs.Runs.Index.{rank_at_is, rank_at_of}
use Rattle.bare_world.proofs.run.Run.rank_at.Goals as goal

-- the act comes next after so many
next : (c : goal.After-behind-self) → IsNext c.args.self.now.acts c.args.index c.behind-self.inside.rank
next c =
    rank_at_is c.self.inside.ranks c.args.index c.behind-self.inside.rank c.self.inside.acts.items c.args.self.now c.index.result.now c.self.view_is
    c.requires c.index.ensures (ap (λ (p : Passed). p.rank) c.behind-self.view_is)

-- src/run.rt
pub returns-clause-next : goal.returns-clause-next
returns-clause-next c = next c

-- src/run.rt
pub returns-clause-rank : goal.returns-clause-rank
returns-clause-rank c =
    rank_at_of c.self.inside.ranks c.args.index c.behind-self.inside.rank c.self.inside.acts.items c.self.inside.index.items c.args.self.now c.self.invariant
    c.self.view_is (next c)
