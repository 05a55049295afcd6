use Rattle.audit.proofs.Stretching.{plays_side_by_side, few_side_by_side, goes_side_by_side}
use Rattle.audit.proofs.auditor.Auditor.stretch.Goals as goal

pub returns-then-self-gt1-clause-goes : goal.returns-then-self-gt1-clause-goes
returns-then-self-gt1-clause-goes g c =
    goes_side_by_side c.args.self.now.sim c.stretch.new.sim c.args.left.now c.stretch.new.left c.args.self.now.traces.items c.requires.keeps
    c.stretch.ensures.inside c.stretch.ensures.stands

pub returns-then-self-gt1-clause-plays : goal.returns-then-self-gt1-clause-plays
returns-then-self-gt1-clause-plays g c = λ o.
    plays_side_by_side o c.args.self.now.sim c.stretch.new.sim c.args.left.now c.stretch.new.left c.stretch.ensures.inside

pub returns-then-self-gt1-clause-few : goal.returns-then-self-gt1-clause-few
returns-then-self-gt1-clause-few g c =
    few_side_by_side c.args.self.now.sim c.stretch.new.sim c.args.left.now c.stretch.new.left c.stretch.ensures.inside
