use Rattle.std.proofs.Common.{[], refl}
use Rattle.explore.proofs.Stopping.{stops_on}
use Rattle.explore.proofs.TakenUp.{beyond_back, if_all, if_value, move_stands, only_moved, only_whole, run_first, shares_on, there_moved, there_whole}
use Rattle.explore.proofs.taking.take_up.Goals as goal

pub go_off-requires-clause-some_run : goal.go_off-requires-clause-some_run
go_off-requires-clause-some_run c =
    move_stands c.args.mode c.args.path.now.sim c.make_first.new.path.sim c.args.branch c.in_ok-make_first.ensures.alike c.in_ok-make_first.ensures.made
    c.requires.within c.in-Some.chosen c.in-Some.is c.requires.some_run

pub returns-in-Some-clause-made : goal.returns-in-Some-clause-made
returns-in-Some-clause-made c = λ e.
    there_moved c.args.mode c.args.path.now.sim c.make_first.new.path.sim c.args.branch c.in_ok-make_first.ensures.alike c.in_ok-make_first.ensures.made
    c.requires.within c.in-Some.chosen c.go_off.new.path.sim.run c.in-Some.is (c.go_off.ensures.made e)

pub returns-in-Some-clause-only : goal.returns-in-Some-clause-only
returns-in-Some-clause-only c = λ e.
    only_moved c.args.mode c.args.path.now.sim c.make_first.new.path.sim c.args.branch c.in_ok-make_first.ensures.alike c.in_ok-make_first.ensures.made
    c.requires.within c.in-Some.chosen c.go_off.new.path.sim.run c.in-Some.is (c.go_off.ensures.only e)

pub returns-in-Some-clause-shares : goal.returns-in-Some-clause-shares
returns-in-Some-clause-shares c =
    if_value c.go_off.result c.go_off.ensures.behind
    (λ behind k low.
    shares_on c.args.mode c.args.path.now.sim c.make_first.new.path.sim c.args.branch c.in_ok-make_first.ensures.alike c.in_ok-make_first.ensures.made
    c.requires.within c.go_off.new.path.sim.run behind k low)

pub returns-in-None-clause-made : goal.returns-in-None-clause-made
returns-in-None-clause-made c = λ e.
    there_whole c.args.mode c.args.path.now.sim c.make_first.new.path.sim c.args.branch c.in_ok-make_first.ensures.alike c.in_ok-make_first.ensures.made
    c.requires.within c.in-None.is

pub returns-in-None-clause-only : goal.returns-in-None-clause-only
returns-in-None-clause-only c = λ e.
    only_whole c.args.mode c.args.path.now.sim c.make_first.new.path.sim c.args.branch c.in_ok-make_first.ensures.alike c.in_ok-make_first.ensures.made
    c.requires.within c.in-None.is

pub returns-in-None-clause-shares : goal.returns-in-None-clause-shares
returns-in-None-clause-shares c = λ k low.
    shares_on c.args.mode c.args.path.now.sim c.make_first.new.path.sim c.args.branch c.in_ok-make_first.ensures.alike c.in_ok-make_first.ensures.made
    c.requires.within c.make_first.new.path.sim.run ([], refl) k low

pub returns-in-Some-clause-back : goal.returns-in-Some-clause-back
returns-in-Some-clause-back c =
    if_all c.go_off.result c.go_off.ensures.alike c.go_off.ensures.behind c.go_off.ensures.counts
    (λ alike behind counts steps can.
    stops_on c.make_first.new.path.sim c.go_off.new.path.sim c.make_first.new.path.left c.go_off.new.path.left c.make_first.new.stops alike behind counts
    steps (c.in_ok-make_first.ensures.back steps can))

pub returns-in-Some-clause-beyond : goal.returns-in-Some-clause-beyond
returns-in-Some-clause-beyond c = λ e steps can.
    beyond_back c.args.mode c.args.path.now.sim c.make_first.new.path.sim steps c.in_ok-make_first.ensures.alike
    (c.go_off.ensures.beyond e steps (c.in_ok-make_first.ensures.back steps can).counts)

pub go_off-requires-clause-is_run : goal.go_off-requires-clause-is_run
go_off-requires-clause-is_run c =
    run_first c.args.mode c.args.path.now.sim c.make_first.new.path.sim c.args.branch.shared c.in_ok-make_first.ensures.alike
    c.in_ok-make_first.ensures.made c.requires.is_run

pub returns-in-None-clause-is_run : goal.returns-in-None-clause-is_run
returns-in-None-clause-is_run c =
    run_first c.args.mode c.args.path.now.sim c.make_first.new.path.sim c.args.branch.shared c.in_ok-make_first.ensures.alike
    c.in_ok-make_first.ensures.made c.requires.is_run
