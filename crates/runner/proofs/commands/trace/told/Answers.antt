use Rattle.runner.proofs.Traces.{is_told}
use Rattle.runner.proofs.commands.trace.told.Goals as goal

-- the report that was made is told
pub returns-in-Ok-clause-told : goal.returns-in-Ok-clause-told
returns-in-Ok-clause-told g c = is_told _ _ _ _ _ _ _ _ c.limits_of-limits.ensures.steps c.in_ok-certified.ensures.report
    c.in-Ok.ensures.status c.in-Ok.ensures.text c.in-Ok.ensures.events c.in-Ok.ensures.script
