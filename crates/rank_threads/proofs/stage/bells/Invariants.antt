use Rattle.std.proofs.Common.{◌≡◌, vec_len}
use Rattle.rank_threads.proofs.stage.bells.Given as goal

-- each rank so far has a bell
abbrev pub invariant-loop : goal.invariant-loop
invariant-loop l = vec_len l.bells ≡ l.counter
