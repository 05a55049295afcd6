use Rattle.std.proofs.Common.{◌≡◌, take}
use Rattle.checkpoint.proofs.read_machine.gathered_of.Given as goal

abbrev pub invariant-loop-value : goal.invariant-loop-value
invariant-loop-value l = record {
  room : l.gathered.room ≡ l.size;
  values : l.gathered.values ≡ take l.value-index l.values;
}
