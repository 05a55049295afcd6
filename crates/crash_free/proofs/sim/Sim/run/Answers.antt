use Rattle.std.proofs.Common.{◌∙◌}
use Rattle.std.proofs.lemmas.List.{take_more}
use Rattle.crash_free.specs.declared.choice.Choice.TheVariants.{Next}
use Rattle.crash_free.proofs.Refusing.{allows_one_more}
use Rattle.crash_free.proofs.Agreeing.{agrees}
use Rattle.crash_free.proofs.sim.Sim.run.Goals as goal

pub loop-done-preserved : goal.loop-done-preserved
loop-done-preserved c =
    let before = c.loop-done.invariant in
    let longer = take_more c.args.choices.now c.loop-done.done (0, Next) c.loop-done-test.true in
    let all = allows_one_more c.args.self.now c.loop-done.self c.act.new.self _ _ before.0 c.in_default.ensures.ok in
    (rw longer all, c.in_default.ensures.ranks ∙ before.1, c.in_default.ensures.stands)

pub returns-clause-collectives : goal.returns-clause-collectives
returns-clause-collectives c = agrees _ c.loop-done.invariant.2
