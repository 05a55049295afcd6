use Rattle.rank_threads.proofs.ReportLemmas.{is_report}
use Rattle.rank_threads.proofs.report.reporting.certify_in_turn.Goals as goal

-- the run that was found confirms the report, whose lines are the console's
pub returns-clause-report : goal.returns-clause-report
returns-clause-report c =
    is_report c.args.program.now c.args.ranks c.args.limits.steps _ _ c.in_ok-run.ensures.ok c.in_ok-report.ensures.console
