use Rattle.std.proofs.Common.{refl}
use Rattle.audit.proofs.FinalRunsLaws.Finding.{one_there, none_of_unfinished, none_further}
use Rattle.audit.proofs.final_runs.stalled.is_from.Goals as goal

pub returns-then-is_unfinished-clause-no : goal.returns-then-is_unfinished-clause-no
returns-then-is_unfinished-clause-no c = λ e before.
    none_of_unfinished c.args.run.now c.args.ends.now c.args.rank c.args.selector.now c.args.source (c.is_unfinished.ensures.yes c.if-is_unfinished.true) before

pub returns-in-Some-clause-yes : goal.returns-in-Some-clause-yes
returns-in-Some-clause-yes c = λ e.
    one_there c.args.run.now c.args.ends.now c.args.rank c.args.selector.now c.args.source _ (c.is_unfinished.ensures.no c.if-is_unfinished.false)
    c.in-Some.ensures.some

pub returns-in-None-clause-no : goal.returns-in-None-clause-no
returns-in-None-clause-no c = λ e before.
    none_further c.args.run.now c.args.ends.now c.args.rank c.args.selector.now c.args.source (c.in-None.ensures.none refl) before
