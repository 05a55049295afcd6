use Rattle.runner.proofs.Safety.{NoneSends}
use Rattle.runner.proofs.commands.safety.has_send.Given as goal

-- none so far
abbrev pub invariant-loop-position : goal.invariant-loop-position
invariant-loop-position l = NoneSends l.program.statements l.position
