use Rattle.std.proofs.Common.{◌≡◌, vec_len}
use Rattle.rank_threads.specs.Plans.{plans_below}
use Rattle.rank_threads.proofs.stage.plans.Given as goal

-- each rank so far has the lines of the script that are for it
abbrev pub invariant-loop-rank : goal.invariant-loop-rank
invariant-loop-rank l = record {
  lines : l.plans.items ≡ plans_below l.rank l.script;
  len : vec_len l.plans ≡ l.rank;
}
