use Rattle.std.proofs.Common.{◌≡◌, ◌-◌, ◌++◌, take, replicate}
use Rattle.rank_text.specs.Grammar.Name.{kept_bytes}
use Rattle.rank_text.proofs.grammar.name.Name.new.Given as goal

-- the bytes so far, and zeros
abbrev pub invariant-loop-i : goal.invariant-loop-i
invariant-loop-i l = l.kept ≡ take l.i l.bytes ++ replicate (kept_bytes - l.i) 0
