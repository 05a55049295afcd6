use Rattle.std.specs.Prelude.{reverse}
use Rattle.rank_machine.specs.declared.want.Want.TheVariants.{Internal}
use Rattle.crash_free.proofs.Keeping.{kept_step}
use Rattle.crash_free.proofs.Choosing.{found_machine, allowed_step}
use Rattle.crash_free.proofs.sim.Sim.go_on.Goals as goal

pub invariant_of-self : goal.invariant_of-self
invariant_of-self c =
    let at = found_machine Internal c.self.view_is c.from.ensures c.requires.there c.requires.wanted c.index_mut-machine.ensures.value in
    (rw c.from.ensures (kept_step _ _ _ _ c.args.rank _ _ c.self.invariant.0 at.0 c.internal.ensures), c.self.invariant.1)

pub returns : goal.returns
returns c =
    let s = c.self.inside in
    let at = found_machine Internal c.self.view_is c.from.ensures c.requires.there c.requires.wanted c.index_mut-machine.ensures.value in
    record {
      allowed = rw (← c.self.view_is, c.from.ensures) (allowed_step s.program.now s.machines.items (reverse s.passed.items) c.args.rank
          c.index_mut-machine.result.now c.internal.new.self at.0 at.1 c.internal.ensures);
    }
