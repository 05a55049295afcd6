use Rattle.std.proofs.Common.{◌≡◌, false}
use Rattle.rank_threads.specs.Lives.{KeepsGate}
use Rattle.rank_threads.specs.Putting.{KeepsOthers, PutAll}
use Rattle.rank_threads.proofs.turn.putting.put_all_to.Given as goal

-- the life stays the same, what goes to other ranks too, and each frame that was is counted
abbrev pub invariant-loop : goal.invariant-loop
invariant-loop g l = record {
  others : KeepsOthers l.dest l.fn.life.node.phase l.life.node.phase;
  undone : l.is_done ≡ false;
  owing : l.life.kit.tally.may_owe ≡ l.fn.life.kit.tally.may_owe;
  counted : PutAll l.dest l.fn.life l.life;
  kept : KeepsGate l.fn.life l.life;
}
