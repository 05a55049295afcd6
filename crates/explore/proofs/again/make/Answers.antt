use Rattle.std.proofs.Common.{sym, ◌∙◌}
use Rattle.crash_free.specs.Seen.{act_of}
use Rattle.explore.proofs.Choosing.{goes_by}
use Rattle.explore.proofs.Counting.{on_value, spends_step}
use Rattle.explore.proofs.Shown.{made_it}
use Rattle.explore.proofs.again.make.Goals as goal

pub returns-clause-run : goal.returns-clause-run
returns-clause-run c =
    made_it c.args.sim.now c.act.new.self c.args.rank (act_of c.args.act.now) c.choice.result c.requires.stands c.requires.at c.requires.may c.choice.ensures
    (on_value c.act.result c.act.ensures.ok (sym c.is_err.ensures.value ∙ c.if-is_err.false))

pub returns-clause-spends : goal.returns-clause-spends
returns-clause-spends c =
    spends_step c.args.sim.now c.args.rank c.act.new.self
    (goes_by c.args.sim.now c.act.new.self c.args.rank c.choice.result c.requires.stands c.act.ensures.stands c.requires.at
    (on_value c.act.result c.act.ensures.ok (sym c.is_err.ensures.value ∙ c.if-is_err.false)))
