use Rattle.std.proofs.Common.{true, sym, refl, subst}
use Rattle.rank_language.specs.Program.{block_of}
use Rattle.rank_machine.specs.Machine.{MachineValue, machine_want, IsTrying}
use Rattle.rank_machine.proofs.Standing.{past_wants_none}
use Rattle.rank_machine.proofs.Acting.{shows_flag, plain_machine}
use Rattle.rank_machine.proofs.machine.Machine.miss.Goals as goal

pub unreachable-requires : goal.unreachable-requires
unreachable-requires c =
    let m = c.self.inside in
    let h = c.in_default.ensures in
    let P : MachineValue → Type 0 = λ v. IsTrying (machine_want v) in
    let w = subst P (sym c.self.view_is) c.requires in
    past_wants_none IsTrying _ m.fault (block_of m.program.now) m.position m.store (sym h.line)
    c.self.invariant.limits.position (h.past.0 refl) (λ f z. z) (λ z. z) (λ z. z) w

pub invariant_of-self : goal.invariant_of-self
invariant_of-self c =
    let h = c.in-Some.ensures in
    let i = c.self.invariant in
    let at = rw c.in-TryProbe.is at (sym h.line) in
    let behind = rw c.in-TryProbe.is at (h.within true) in
    rw c.set.ensures (plain_machine _ _ _ _ i at tt (shows_flag _ c.in-TryProbe.flag _ i) behind)
