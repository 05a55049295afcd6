use Rattle.std.proofs.Common.{replicate, ap, ◌∙◌}
use Rattle.audit.proofs.GoingAhead.{ahead_none}
use Rattle.audit.proofs.progress.Progress.new.Goals as goal

pub returns-clause-ahead : goal.returns-clause-ahead
returns-clause-ahead c =
    ahead_none _ _ c.in_ok-auditor.ensures.keeps
    c.in_ok-auditor.ensures.program c.in_ok-auditor.ensures.size c.in_ok-auditor.ensures.begins c.in_ok-auditor.ensures.run
    (c.in_ok-left.ensures.items_if_clones_equal (λ y e. e) ∙ ap (λ n. replicate n c.args.steps) c.from.ensures) c.in_ok-taken.ensures
