use Rattle.std.proofs.Common.{◌≡◌, ◌++◌, length, string_bytes}
use Rattle.run_shown.specs.Trace.Words.{listed_text}
use Rattle.run_shown.proofs.trace.message.put_listed.Given as goal

-- what is written and the items that are left are the whole
abbrev pub invariant-loop-rest : goal.invariant-loop-rest
invariant-loop-rest l = string_bytes l.to ++ listed_text l.rest ≡ string_bytes l.initial.to ++ listed_text l.items

abbrev pub decreases-loop-rest : goal.decreases-loop-rest
decreases-loop-rest l = length l.rest
