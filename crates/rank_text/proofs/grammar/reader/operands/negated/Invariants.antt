use Rattle.std.proofs.Common.{◌≡◌, ℕ, ◌+◌}
use Rattle.rank_text.specs.Grammar.Tree.{tree_of}
use Rattle.rank_text.specs.Grammar.Reader.{negate}
use Rattle.rank_text.proofs.grammar.reader.operands.negated.Given as goal

abbrev pub invariant-loop-i : goal.invariant-loop-i
invariant-loop-i l = (k : ℕ) → k + l._i ≡ l.minuses → negate k (tree_of l.negation) ≡ negate l.minuses (tree_of l.fn.operand)
