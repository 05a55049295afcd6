use Rattle.std.proofs.Common.{◌≡◌, vec_len}
use Rattle.rank_threads.proofs.stage.marks.Given as goal

-- each rank so far has a mark
abbrev pub invariant-loop : goal.invariant-loop
invariant-loop l = vec_len l.marks ≡ l.counter
