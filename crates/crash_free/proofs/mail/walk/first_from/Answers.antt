use Rattle.std.proofs.Common.{arith}
use Rattle.crash_free.proofs.Walking.{none_is}
use Rattle.crash_free.proofs.mail.walk.first_from.Goals as goal

pub returns : goal.returns
returns c =
    let all = c.loop-place-test.false in
    none_is c.args.selector.now c.args.slots.now c.loop-place.place c.loop-place.invariant (omega (arith, all))
