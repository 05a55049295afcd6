use Rattle.std.proofs.Common.{◌≡◌, replicate, []}
use Rattle.crash_free.proofs.send_index.sends.Sends.new.Given as goal

-- so far the lists are empty
abbrev pub invariant-loop : goal.invariant-loop
invariant-loop l = l.of_pairs.items ≡ replicate l.counter []
