use Rattle.std.proofs.Common.{rules, ◌≡◌, None, sym, arith}
use Rattle.rank_threads.proofs.ReportLemmas.{of_desks, of_lives}
use Rattle.rank_threads.specs.Faults.{fault_of}
use Rattle.rank_threads.proofs.report.reporting.report_of.Goals as goal

-- its lines are the console's
pub returns-clause-console : goal.returns-clause-console
returns-clause-console c = rw (c.in_ok-make_report.ensures.made.lines) c.requires.played.console

-- the ledger is that of these desks
pub returns-clause-history : goal.returns-clause-history
returns-clause-history c =
    of_desks c.args.ranks c.args.logger c.args.desks.items c.in_ok-ledger.ledger _ c.requires.desks
    (omega (arith, c.args.desks.ok.0, c.requires.a_desk_each)) (rw (sym c.requires.ranks) c.in_ok-ledger.ensures.rows) c.in_ok-ledger.ensures.counts
    c.in_ok-make_report.ensures.made.rows c.in_ok-make_report.ensures.made.calls

-- the lives are those of the play
pub returns-clause-lives : goal.returns-clause-lives
returns-clause-lives c =
    let none : fault_of c.args.played.accounts.items ≡ None = search rules in
    of_lives c.args._program.now c.args.ranks c.args._script.now c.args.limits.steps c.args.logger c.args.desks.items _ c.args.played _ c.requires.played none
    c.in_ok-make_report.ensures.made.ends c.in_ok-make_report.ensures.made.rows c.in_ok-make_report.ensures.made.causes
    c.in_ok-make_report.ensures.made.crashes c.in_ok-make_report.ensures.made.unused c.in_ok-make_report.ensures.made.costs
