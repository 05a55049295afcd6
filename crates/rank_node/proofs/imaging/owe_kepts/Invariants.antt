use Rattle.std.proofs.Common.{◌≡◌, take}
use Rattle.rank_node.specs.Image.{kepts_due}
use Rattle.rank_node.proofs.imaging.owe_kepts.Given as goal

abbrev pub invariant-loop-source : goal.invariant-loop-source
invariant-loop-source l = l.dues.items ≡ kepts_due (take l.source l.fn.inbox.accepted) l.fn.dues.items
