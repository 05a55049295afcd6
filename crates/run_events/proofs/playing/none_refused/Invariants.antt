use Rattle.std.proofs.Common.{length}
use Rattle.run_events.specs.Plays.{NoneRefused}
use Rattle.run_events.proofs.playing.none_refused.Given as goal

-- it comes down to those that are left
abbrev pub invariant-loop-rest : goal.invariant-loop-rest
invariant-loop-rest l = NoneRefused l.rest → NoneRefused l.replies

abbrev pub decreases-loop-rest : goal.decreases-loop-rest
decreases-loop-rest l = length l.rest
