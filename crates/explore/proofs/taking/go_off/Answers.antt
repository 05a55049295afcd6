use Rattle.explore.specs.Sending.{HasRunUnder}
use Rattle.explore.proofs.Sending.{run_by}
use Rattle.explore.proofs.TakenUp.{alike_moved, after_moved, behind_moved, beyond_there, moved_once, run_moved}
use Rattle.explore.proofs.taking.go_off.Goals.{Then-not-comes_to_act}
use Rattle.explore.proofs.taking.go_off.Goals as goal

-- behind steps of the rank's own the run is the same
run_there : (c : Then-not-comes_to_act) → HasRunUnder c.args.mode c.comes_to_act.new.sim
run_there c =
    let alike = c.comes_to_act.ensures.alike in
    run_by c.args.mode c.args.path.now.sim c.comes_to_act.new.sim c.args.path.now.sim.run alike.program alike.ranks c.comes_to_act.ensures.run
    c.requires.is_run

pub returns-then-not-comes_to_act-clause-beyond : goal.returns-then-not-comes_to_act-clause-beyond
returns-then-not-comes_to_act-clause-beyond c = λ e.
    beyond_there c.args.mode c.args.path.now.sim c.comes_to_act.new.sim c.args.path.now.left c.comes_to_act.new.left c.args.chosen.rank c.requires.some_run.0
    c.comes_to_act.ensures.alike c.comes_to_act.ensures.run (run_there c) c.requires.some_run.1.0
    (c.comes_to_act.ensures.none c.if-not-comes_to_act.true) c.comes_to_act.ensures.counts

pub returns-clause-alike : goal.returns-clause-alike
returns-clause-alike c =
    alike_moved c.args.mode c.args.path.now.sim c.comes_to_act.new.sim c.choose.new.self.sim c.args.chosen c.comes_to_act.ensures.alike c.comes_to_act.ensures.run
    c.comes_to_act.ensures.stands c.in_ok-choose.ensures.stands (c.comes_to_act.ensures.at c.if-not-comes_to_act.false)
    c.requires.some_run.1.0.2 c.in_ok-choose.ensures.allowed

pub returns-clause-behind : goal.returns-clause-behind
returns-clause-behind c =
    behind_moved c.args.mode c.args.path.now.sim c.comes_to_act.new.sim c.choose.new.self.sim c.args.chosen c.comes_to_act.ensures.alike c.comes_to_act.ensures.run
    c.comes_to_act.ensures.stands c.in_ok-choose.ensures.stands (c.comes_to_act.ensures.at c.if-not-comes_to_act.false)
    c.requires.some_run.1.0.2 c.in_ok-choose.ensures.allowed

pub returns-clause-made : goal.returns-clause-made
returns-clause-made c = λ e.
    after_moved c.args.mode c.args.path.now.sim c.comes_to_act.new.sim c.choose.new.self.sim c.args.chosen c.comes_to_act.ensures.alike c.comes_to_act.ensures.run
    c.comes_to_act.ensures.stands c.in_ok-choose.ensures.stands (c.comes_to_act.ensures.at c.if-not-comes_to_act.false)
    c.requires.some_run.1.0.2 c.in_ok-choose.ensures.allowed

pub returns-clause-only : goal.returns-clause-only
returns-clause-only c = λ e.
    moved_once c.args.mode c.args.path.now.sim c.comes_to_act.new.sim c.choose.new.self.sim c.args.chosen c.comes_to_act.ensures.alike c.comes_to_act.ensures.run
    c.comes_to_act.ensures.stands c.in_ok-choose.ensures.stands (c.comes_to_act.ensures.at c.if-not-comes_to_act.false)
    c.requires.some_run.1.0.2 c.in_ok-choose.ensures.allowed

pub returns-then-not-comes_to_act-clause-is_run : goal.returns-then-not-comes_to_act-clause-is_run
returns-then-not-comes_to_act-clause-is_run c = run_there c

pub returns-clause-is_run : goal.returns-clause-is_run
returns-clause-is_run c =
    run_moved c.args.mode c.args.path.now.sim c.comes_to_act.new.sim c.choose.new.self.sim c.args.chosen c.comes_to_act.ensures.alike c.comes_to_act.ensures.run
    c.comes_to_act.ensures.stands c.in_ok-choose.ensures.stands (c.comes_to_act.ensures.at c.if-not-comes_to_act.false)
    c.requires.some_run.1.0.2 c.in_ok-choose.ensures.allowed c.requires.is_run
