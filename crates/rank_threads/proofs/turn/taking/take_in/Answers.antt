use Rattle.std.proofs.Common.{rules, ◌≡◌, ◌||◌}
use Rattle.rank_threads.proofs.TakingLemmas.{took_next}
use Rattle.rank_threads.proofs.turn.taking.take_in.Goals as goal
use Rattle.rank_threads.proofs.turn.taking.take_in.Goals.{then-branch, else-branch}

pub loop-source-preserved : goal.loop-source-preserved
loop-source-preserved g c =
    let here = c.in_ok-took.took in
    let either : c.if-branch.took ≡ (here || c.loop-source.took)
    = elim c.if-branch.branch [ then-branch w ↦ search rules | else-branch w ↦ search rules ] in
    record {
      looked = search rules;
      so_far = took_next c.loop-source.source c.args.life.now c.loop-source.life c.take_all_from.new.life c.loop-source.took here c.if-branch.took
          c.loop-source.invariant.so_far c.in_ok-took.ensures.took either;
      kept = search rules;
    }
