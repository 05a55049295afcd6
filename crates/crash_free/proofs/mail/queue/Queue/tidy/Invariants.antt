use Rattle.std.proofs.Common.{length}
use Rattle.crash_free.specs.Index.{LosesEmpty}
use Rattle.crash_free.proofs.mail.queue.Queue.tidy.Given as goal

-- what went so far stood at the front, and its slots are empty
abbrev pub invariant-loop-self : goal.invariant-loop-self
invariant-loop-self l = LosesEmpty l.slots l.initial.self l.self

abbrev pub decreases-loop-self : goal.decreases-loop-self
decreases-loop-self l = length l.self
