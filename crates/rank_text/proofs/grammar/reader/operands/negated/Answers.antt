use Rattle.std.proofs.Common.{arith, suc}
use Rattle.rank_text.proofs.grammar.reader.operands.negated.Goals as goal

pub loop-i-preserved : goal.loop-i-preserved
loop-i-preserved c = λ k h. rw c.in_ok-new.ensures.ok (c.loop-i.invariant (suc k) (omega (arith, h)))

pub returns : goal.returns
returns c = c.loop-i.invariant 0 (omega arith)
