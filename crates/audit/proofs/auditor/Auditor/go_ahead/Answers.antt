use Rattle.std.proofs.Common.{◌≡◌, ◌+◌, ◌-◌, refl, sym, subst, ◌∙◌, arith}
use Rattle.audit.specs.Ahead.{Spends}
use Rattle.audit.proofs.GoingAhead.{spends_on, spends_stride}
use Rattle.audit.proofs.Steps.{goes_nowhere, goes_on}
use Rattle.audit.proofs.auditor.Auditor.go_ahead.Goals as goal

pub loop-now-init : goal.loop-now-init
loop-now-init c =
    record {
      goes = goes_nowhere c.args.self.now.sim c.args.self.now.traces.items c.requires.keeps;
      spends = record { own = λ total has. has; others = λ q total i apart has. has };
      taken = c.requires.taken;
      others = λ q apart. refl;
    }

pub returns-then-now-least-clause-spends : goal.returns-then-now-least-clause-spends
returns-then-now-least-clause-spends c =
    let few = c.stride-made.ensures.few in
    spends_stride c.args.self.now.sim c.loop-now.self.sim c.stride-made.new.self.sim c.args.rank c.args.left c.loop-now.now c.stride-made.result
    (omega (arith, few)) c.loop-now.invariant.spends c.stride-made.ensures.plays

pub returns-then-not-branch-clause-spends : goal.returns-then-not-branch-clause-spends
returns-then-not-branch-clause-spends c =
    let few = c.stride-made.ensures.few in
    subst (λ s. Spends c.args.rank c.args.left (c.loop-now.now - c.stride-made.result) c.args.self.now.sim s)
    (sym (c.in_ok-repeat.ensures.same c.if-not-branch.true)) (spends_stride c.args.self.now.sim c.loop-now.self.sim c.stride-made.new.self.sim c.args.rank c.args.left c.loop-now.now c.stride-made.result
    (omega (arith, few)) c.loop-now.invariant.spends c.stride-made.ensures.plays)

pub loop-now-preserved : goal.loop-now-preserved
loop-now-preserved c =
    let few = c.stride-made.ensures.few in
    let apart = c.if-now-least.false in
    let some = c.loop-now-test.true in
    let one : c.loop-now.now - c.stride-made.result - 1 + 1 ≡ c.loop-now.now - c.stride-made.result = omega (arith, few, apart, some) in
    record {
      goes = goes_on c.args.self.now.sim c.stride-made.new.self.sim c.repeat.new.self.sim c.stride-made.new.self.traces.items c.repeat.new.self.traces.items
          (goes_on c.args.self.now.sim c.loop-now.self.sim c.stride-made.new.self.sim c.loop-now.self.traces.items c.stride-made.new.self.traces.items
          c.loop-now.invariant.goes c.stride-made.ensures.goes) c.in_ok-repeat.ensures.goes;
      spends = spends_on c.args.rank c.args.left (c.loop-now.now - c.stride-made.result) (c.loop-now.now - c.stride-made.result - 1) c.args.self.now.sim
          c.stride-made.new.self.sim c.repeat.new.self.sim (spends_stride c.args.self.now.sim c.loop-now.self.sim c.stride-made.new.self.sim c.args.rank c.args.left c.loop-now.now c.stride-made.result
          (omega (arith, few)) c.loop-now.invariant.spends c.stride-made.ensures.plays)
          (subst (λ k. Spends c.args.rank k (c.loop-now.now - c.stride-made.result - 1) c.stride-made.new.self.sim c.repeat.new.self.sim) one
          (c.in_ok-repeat.ensures.spends c.if-not-branch.false (c.loop-now.now - c.stride-made.result - 1)));
      taken = c.in_ok-repeat.ensures.taken;
      others = λ q apart. c.in_ok-repeat.ensures.others q apart ∙ c.stride-made.ensures.rows q ∙ c.loop-now.invariant.others q apart;
    }
