use Rattle.std.proofs.Common.{[], ◌∷◌, refl, arith}
use Rattle.explore.proofs.Searching.{alike_further, alike_same}
use Rattle.explore.proofs.Stopping.{stops_on}
use Rattle.explore.proofs.TakenUp.{made_again, may_again, needs_again}
use Rattle.explore.proofs.taking.make_again.Goals as goal

pub loop-at-init : goal.loop-at-init
loop-at-init c = record {
  low = omega arith;
  made = refl;
  alike = alike_same c.args.path.now.sim;
  stands = c.requires.stands;
  back = λ steps can. can;
}

pub repeat-requires-clause-may : goal.repeat-requires-clause-may
repeat-requires-clause-may c =
    may_again c.args.path.now.sim c.loop-at.path.sim c.args.acts.now c.loop-at.at c.act_at.result.now c.act_at.ensures c.loop-at.invariant.made
    c.loop-at.invariant.alike c.requires.run

pub repeat-requires-clause-enough : goal.repeat-requires-clause-enough
repeat-requires-clause-enough c = (
  c.requires.back.0,
  (c.loop-at.invariant.back c.requires.back.0 c.requires.back.1).counts,
  needs_again c.args.path.now.sim c.loop-at.path.sim c.args.acts.now c.loop-at.at c.act_at.result.now c.act_at.ensures c.loop-at.invariant.made
      c.loop-at.invariant.alike c.requires.back.0 c.requires.back.2,
)

pub loop-at-preserved : goal.loop-at-preserved
loop-at-preserved c =
    record {
      low = omega (arith, c.loop-at-test.true);
      made =
          made_again c.args.acts.now c.args.path.now.sim.run c.loop-at.at c.act_at.result.now c.loop-at.path.sim.run c.repeat.new.sim.run
          c.act_at.ensures c.loop-at.invariant.made c.in_ok-repeat.ensures.made;
      alike = alike_further c.args.path.now.sim c.loop-at.path.sim c.repeat.new.sim c.loop-at.invariant.alike c.in_ok-repeat.ensures.alike;
      stands = c.in_ok-repeat.ensures.stands;
      back =
          λ steps can.
          c.in_ok-note.ensures steps
          (stops_on c.loop-at.path.sim c.repeat.new.sim c.loop-at.path.left c.repeat.new.left c.loop-at.stops c.in_ok-repeat.ensures.alike
          (c.act_at.result.now ∷ [], c.in_ok-repeat.ensures.made) c.in_ok-repeat.ensures.counts steps (c.loop-at.invariant.back steps can));
    }
