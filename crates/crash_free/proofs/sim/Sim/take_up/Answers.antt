use Rattle.std.proofs.Common.{ℕ, sym, subst, slice_get}
use Rattle.std.specs.Prelude.{reverse, IsSomeAnd}
use Rattle.rank_machine.specs.Machine.{Strides, KeepsRank}
use Rattle.crash_free.specs.Sim.{SimValue}
use Rattle.crash_free.proofs.Stretches.{kept_taken}
use Rattle.crash_free.proofs.sim.Sim.take_up.Goals as goal

pub invariant_of-self : goal.invariant_of-self
invariant_of-self c =
    let s = c.self.inside in
    let goes = subst (λ (v : SimValue). IsSomeAnd (slice_get v.machines c.args.place) (λ m. KeepsRank m c.args.machine × (n : ℕ) × Strides n m c.args.machine))
    (sym c.self.view_is) c.requires.goes in
    (kept_taken s.program.now s.machines.items s.mail (reverse s.passed.items) c.args.place c.args.machine c.self.invariant.0 goes, c.self.invariant.1)
