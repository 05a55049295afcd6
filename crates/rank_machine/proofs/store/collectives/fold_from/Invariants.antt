use Rattle.std.proofs.Common.{◌≡◌, drop}
use Rattle.rank_machine.specs.Collectives.{folded_from}
use Rattle.rank_machine.proofs.store.collectives.fold_from.Given as goal

-- what is left to fold, from the result so far, gives what all of it gives
abbrev pub invariant-loop-value : goal.invariant-loop-value
invariant-loop-value l = folded_from l.reduction l.result (drop l.value-index l.values) ≡ folded_from l.fn.reduction l.fn.first l.fn.values
