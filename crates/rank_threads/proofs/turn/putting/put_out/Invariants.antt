use Rattle.std.proofs.Common.{◌≡◌, false}
use Rattle.rank_threads.specs.Putting.{NothingBelow}
use Rattle.rank_threads.specs.Lives.{KeepsGate}
use Rattle.rank_threads.proofs.turn.putting.put_out.Given as goal

-- the life stays the same, and where the rank owes nothing, nothing is outgoing to the ranks so far
abbrev pub invariant-loop-dest : goal.invariant-loop-dest
invariant-loop-dest g l = record {
  nothing : l.life.kit.tally.may_owe ≡ false → NothingBelow l.dest l.life.node.phase;
  kept : KeepsGate l.fn.life l.life;
}
