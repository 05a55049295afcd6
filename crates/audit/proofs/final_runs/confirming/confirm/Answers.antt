use Rattle.audit.proofs.FinalRunsLaws.Ending.{final_is_possible}
use Rattle.audit.proofs.FinalRunsLaws.Finding.{confirmed_is_final, is_reachable}
use Rattle.audit.proofs.final_runs.confirming.confirm.Goals as goal

pub returns-in-Ok-clause-ok : goal.returns-in-Ok-clause-ok
returns-in-Ok-clause-ok c =
    confirmed_is_final c.args.program.now c.args.ranks c.args.outcome.now c.args.steps c.in-Ok.run' c.in-Ok.ensures.ok

pub returns-in-Ok-clause-possible : goal.returns-in-Ok-clause-possible
returns-in-Ok-clause-possible c =
    final_is_possible c.args.program.now c.args.ranks c.args.outcome.now
    (confirmed_is_final c.args.program.now c.args.ranks c.args.outcome.now c.args.steps c.in-Ok.run' c.in-Ok.ensures.ok)

pub returns-in-Ok-clause-within : goal.returns-in-Ok-clause-within
returns-in-Ok-clause-within c =
    is_reachable c.args.program.now c.args.ranks c.args.outcome.now c.args.steps c.in-Ok.run' c.in-Ok.ensures.ok.found
