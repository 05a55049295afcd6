use Rattle.std.proofs.Common.{◌∙◌}
use Rattle.crash_free.proofs.Replacing.{last_put}
use Rattle.crash_free.proofs.sim.copying.replace.Goals as goal

pub loop-other-preserved-in-Some-other : goal.loop-other-preserved-in-Some-other
loop-other-preserved-in-Some-other c =
    let put = last_put c.loop-other.machines.items _ c.loop-other.others.items c.pop.new.self.items c.in-Some.other c.in-Some-other.machine c.len.result
    c.in-Some.ensures.items c.in-Some-other.is (c.len.ensures ∙ c.pop.new.self.ok.0) c.loop-other.invariant.within c.loop-other.invariant.same in
    record { within = put.0; same = put.1 }
