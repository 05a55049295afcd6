use Rattle.std.proofs.Common.{subst}
use Rattle.audit.specs.Ahead.{AheadValue}
use Rattle.audit.specs.FinalRuns.Final.{IsConfirmed}
use Rattle.rank_threads.proofs.ReportLemmas.{is_report}
use Rattle.rank_threads.proofs.report.reporting.certify.Goals as goal

-- the run that was found confirms the report, whose lines are the console's
pub returns-clause-report : goal.returns-clause-report
returns-clause-report g c =
    is_report c.args.program.now c.args.ranks c.args.limits.steps _ _
    (subst (λ (a : AheadValue). IsConfirmed a.program a.ranks c.in_ok-report.report.outcome a.steps c.in_ok-run.run') c.requires.ahead c.in_ok-run.ensures.ok)
    c.in_ok-report.ensures.console
