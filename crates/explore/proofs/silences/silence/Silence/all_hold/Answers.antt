use Rattle.std.proofs.Common.{◌≡◌, true, arith}
use Rattle.crash_free.specs.LiveVariables.Live.{claimed}
use Rattle.crash_free.proofs.LiveVariablesLaws.Sound.{one_more, of_each}
use Rattle.explore.specs.Silences.{HoldsAt}
use Rattle.explore.proofs.silences.silence.Silence.all_hold.Goals as goal

pub loop-position-preserved : goal.loop-position-preserved
loop-position-preserved c = record {
  held =
      one_more c.args.program.now.statements
      (λ p k. claimed c.args.self.now.claims p ≡ true → HoldsAt c.args.self.now.sought (claimed c.args.self.now.claims) p k)
      c.loop-position.position c.loop-position.invariant.held (c.is_right.ensures c.if-not-is_right.false);
}

pub returns : goal.returns
returns c =
    λ yes.
    of_each c.args.program.now.statements
    (λ p k. claimed c.args.self.now.claims p ≡ true → HoldsAt c.args.self.now.sought (claimed c.args.self.now.claims) p k)
    c.loop-position.position (omega (arith, c.len-lines.ensures.count, c.loop-position-test.false)) c.loop-position.invariant.held
