use Rattle.std.proofs.Common.{◌≡◌, ◌+◌, ◌-◌, ◌<◌, sym, subst, arith}
use Rattle.audit.specs.Playing.{Plays, IsStuck}
use Rattle.audit.proofs.Steps.{goes_on}
use Rattle.audit.proofs.Playing.{plays_on}
use Rattle.audit.proofs.auditor.Auditor.go_on.Goals as goal

pub returns-then-left-gt0-clause-plays : goal.returns-then-left-gt0-clause-plays
returns-then-left-gt0-clause-plays c =
    let o = c.args.goal.now.outcome.now in
    let few = c.stride-made.ensures.few in
    let most = c.min-most.ensures in
    let all : c.loop-left.left - c.stride-made.result + c.stride-made.result ≡ c.loop-left.left = omega (arith, few, most) in
    plays_on o c.args.rank c.args.steps c.loop-left.left (c.loop-left.left - c.stride-made.result) c.args.self.now.sim c.loop-left.self.sim
    c.stride-made.new.self.sim c.loop-left.invariant.plays
    (subst (λ k. Plays o c.args.rank k (c.loop-left.left - c.stride-made.result) c.loop-left.self.sim c.stride-made.new.self.sim) all
    (c.stride-made.ensures.plays o (c.loop-left.left - c.stride-made.result)))

pub returns-else-left-gt0-clause-plays : goal.returns-else-left-gt0-clause-plays
returns-else-left-gt0-clause-plays c =
    let o = c.args.goal.now.outcome.now in
    let few = c.stride-made.ensures.few in
    let most = c.min-most.ensures in
    let all : c.loop-left.left - c.stride-made.result + c.stride-made.result ≡ c.loop-left.left = omega (arith, few, most) in
    plays_on o c.args.rank c.args.steps c.loop-left.left (c.loop-left.left - c.stride-made.result) c.args.self.now.sim c.loop-left.self.sim
    c.stride-made.new.self.sim c.loop-left.invariant.plays
    (subst (λ k. Plays o c.args.rank k (c.loop-left.left - c.stride-made.result) c.loop-left.self.sim c.stride-made.new.self.sim) all
    (c.stride-made.ensures.plays o (c.loop-left.left - c.stride-made.result)))

pub returns-then-not-branch-clause-plays : goal.returns-then-not-branch-clause-plays
returns-then-not-branch-clause-plays c =
    let o = c.args.goal.now.outcome.now in
    let few = c.stride-made.ensures.few in
    let most = c.min-most.ensures in
    let all : c.loop-left.left - c.stride-made.result + c.stride-made.result ≡ c.loop-left.left = omega (arith, few, most) in
    subst (λ s. Plays o c.args.rank c.args.steps (c.loop-left.left - c.stride-made.result) c.args.self.now.sim s)
    (sym (c.in_ok-act.ensures.same c.if-not-branch.true))
    (plays_on o c.args.rank c.args.steps c.loop-left.left (c.loop-left.left - c.stride-made.result) c.args.self.now.sim c.loop-left.self.sim
    c.stride-made.new.self.sim c.loop-left.invariant.plays
    (subst (λ k. Plays o c.args.rank k (c.loop-left.left - c.stride-made.result) c.loop-left.self.sim c.stride-made.new.self.sim) all
    (c.stride-made.ensures.plays o (c.loop-left.left - c.stride-made.result))))

pub returns-then-not-branch-clause-stuck : goal.returns-then-not-branch-clause-stuck
returns-then-not-branch-clause-stuck c = λ none some.
    let few = c.stride-made.ensures.few in
    let apart = c.if-made-most.false in
    let stands = c.stride-made.ensures.stops (omega (arith, few, apart)) in
    subst (λ s. IsStuck c.args.goal.now.outcome.now s c.args.rank) (sym (c.in_ok-act.ensures.same c.if-not-branch.true))
    (record { stands = stands; none = c.in_ok-act.ensures.none c.if-not-branch.true stands })

pub loop-left-preserved : goal.loop-left-preserved
loop-left-preserved c =
    let o = c.args.goal.now.outcome.now in
    let few = c.stride-made.ensures.few in
    let most = c.min-most.ensures in
    let apart = c.if-made-most.false in
    let within = c.loop-left.invariant.few in
    let some : c.stride-made.result < c.loop-left.left = omega (arith, few, most, apart) in
    let all : c.loop-left.left - c.stride-made.result + c.stride-made.result ≡ c.loop-left.left = omega (arith, some) in
    let one : c.loop-left.left - c.stride-made.result - 1 + 1 ≡ c.loop-left.left - c.stride-made.result = omega (arith, some) in
    record {
      goes = goes_on c.args.self.now.sim c.stride-made.new.self.sim c.act.new.self.sim c.stride-made.new.self.traces.items c.act.new.self.traces.items
          (goes_on c.args.self.now.sim c.loop-left.self.sim c.stride-made.new.self.sim c.loop-left.self.traces.items c.stride-made.new.self.traces.items
          c.loop-left.invariant.goes c.stride-made.ensures.goes) c.in_ok-act.ensures.goes;
      plays = plays_on o c.args.rank c.args.steps (c.loop-left.left - c.stride-made.result) (c.loop-left.left - c.stride-made.result - 1) c.args.self.now.sim
          c.stride-made.new.self.sim c.act.new.self.sim
          (plays_on o c.args.rank c.args.steps c.loop-left.left (c.loop-left.left - c.stride-made.result) c.args.self.now.sim c.loop-left.self.sim
          c.stride-made.new.self.sim c.loop-left.invariant.plays
          (subst (λ k. Plays o c.args.rank k (c.loop-left.left - c.stride-made.result) c.loop-left.self.sim c.stride-made.new.self.sim) all
          (c.stride-made.ensures.plays o (c.loop-left.left - c.stride-made.result))))
          (subst (λ k. Plays o c.args.rank k (c.loop-left.left - c.stride-made.result - 1) c.stride-made.new.self.sim c.act.new.self.sim) one
          (c.in_ok-act.ensures.made c.if-not-branch.false (c.loop-left.left - c.stride-made.result - 1)));
      few = omega (arith, some, within);
      same = λ e. absurd (omega (arith, some, within, e));
    }
