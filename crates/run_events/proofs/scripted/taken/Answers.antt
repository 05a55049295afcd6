use Rattle.std.proofs.Common.{rules}
use Rattle.run_events.proofs.WithScript.{first_of, one_taken, all_taken}
use Rattle.run_events.proofs.scripted.taken.Goals as goal

-- src/scripted.rt
pub loop-rest-preserved : goal.loop-rest-preserved
loop-rest-preserved c =
    one_taken _ _ _ _ _ _ _ _ _ _ _ c.loop-rest.invariant (first_of _ _ c.in-len1-up.len_at_least) c.line_at-line.ensures c.in_ok-apply.ensures.follows
    (search rules) (search rules)

pub returns : goal.returns
returns c = all_taken _ _ _ _ _ c.loop-rest.invariant c.in_default.len_below
