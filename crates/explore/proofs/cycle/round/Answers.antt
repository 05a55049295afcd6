use Rattle.std.proofs.Common.{◌∙◌}
use Rattle.explore.proofs.Cycles.{further_on}
use Rattle.explore.proofs.cycle.round.Goals as goal

pub loop-rank-preserved : goal.loop-rank-preserved
loop-rank-preserved c =
    let old = c.loop-rank.invariant in
    let on = c.in_ok-go_further.ensures in
    record {
      further = further_on c.args.mode c.args.path.now.sim c.loop-rank.path.sim c.go_further.new.path.sim old.further on;
      ranks = on.ranks ∙ old.ranks;
    }
