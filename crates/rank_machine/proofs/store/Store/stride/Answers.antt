use Rattle.std.proofs.Common.{◌≡◌, ◌≢◌, ◌+◌, ◌-◌, refl, arith, sym, subst, ◌∙◌}
use Rattle.rank_machine.specs.declared.want.Want.TheVariants as want
use Rattle.rank_machine.specs.Machine.{standing, machine_want, IsMachine, KeepsRank, Strides, still, on}
use Rattle.rank_machine.proofs.store.Store.stride.Goals as goal

pub loop-left-init : goal.loop-left-init
loop-left-init c =
    let m = standing c.args.program.now c.args.from c.args.self.now in
    let none : 0 ≡ c.args.most - c.args.most = omega arith in
    record {
      most = omega arith;
      machine = c.requires.machine;
      strides = subst (λ k. Strides k m m) none still;
      stays = record { program = refl; rank = refl; size = refl };
    }

pub loop-left-preserved : goal.loop-left-preserved
loop-left-preserved c =
    let g = c.in-Some.ensures.made in
    let h = c.loop-left.invariant in
    let first = standing c.args.program.now c.args.from c.args.self.now in
    let n = standing c.args.program.now c.in-Some.next c.step.new.self in
    let some = c.loop-left-test.true in
    let most = h.most in
    let one : (c.args.most - c.loop-left.left) + 1 ≡ c.args.most - (c.loop-left.left - 1) = omega (arith, some, most) in
    record {
      most = omega (arith, most);
      machine = g.machine;
      strides = subst (λ k. Strides k first n) one (on h.strides g.wanted g.goes);
      stays = record { program = refl; rank = g.goes.rank ∙ h.stays.rank; size = g.goes.size ∙ h.stays.size };
    }

pub returns-in_default-clause-machine : goal.returns-in_default-clause-machine
returns-in_default-clause-machine c =
    subst (λ s. IsMachine (standing c.args.program.now c.loop-left.position s)) (sym (c.in_default.ensures.stays refl)) c.loop-left.invariant.machine

pub returns-in_default-clause-made : goal.returns-in_default-clause-made
returns-in_default-clause-made c =
    subst (λ s. Strides (c.args.most - c.loop-left.left) (standing c.args.program.now c.args.from c.args.self.now)
    (standing c.args.program.now c.loop-left.position s)) (sym (c.in_default.ensures.stays refl)) c.loop-left.invariant.strides

pub returns-in_default-clause-stays : goal.returns-in_default-clause-stays
returns-in_default-clause-stays c =
    subst (λ s. KeepsRank (standing c.args.program.now c.args.from c.args.self.now) (standing c.args.program.now c.loop-left.position s))
    (sym (c.in_default.ensures.stays refl)) c.loop-left.invariant.stays

pub returns-in_default-clause-stands : goal.returns-in_default-clause-stands
returns-in_default-clause-stands c = λ _.
    subst (λ s. machine_want (standing c.args.program.now c.loop-left.position s) ≢ want.Internal) (sym (c.in_default.ensures.stays refl))
    (c.in_default.ensures.stands refl)
