use Rattle.std.proofs.Common.{◌≡◌, ◌+◌, Some, refl, sym, ap, subst, ◌∙◌, arith, slice_get}
use Rattle.std.specs.Prelude.{reverse}
use Rattle.std.proofs.lemmas.List.{length_push}
use Rattle.std.proofs.lemmas.Option.{slice_get-get_or}
use Rattle.crash_free.specs.Sim.{SimValue}
use Rattle.crash_free.proofs.Choosing.{read_machine}
use Rattle.crash_free.proofs.Stretches.{before_push}
use Rattle.crash_free.proofs.sim.Sim.stretches.Goals as goal

pub loop-place-preserved : goal.loop-place-preserved
loop-place-preserved c =
    let s = c.self.inside in
    let place = c.loop-place.place in
    let many = c.loop-place.invariant.many in
    let test = c.loop-place-test.true in
    let width = c.requires.width in
    let there = read_machine c.args.self.now s.program.now s.machines.items (reverse s.passed.items) place place c.index.result.now c.self.view_is refl
    (omega (arith, test, width)) c.index.ensures in
    let stands : slice_get c.args.self.now.machines place ≡ Some c.in_ok-copy.field-0 =
    subst (λ (v : SimValue). slice_get v.machines place ≡ Some c.in_ok-copy.field-0) c.self.view_is (there ∙ ap Some (sym c.in_ok-copy.ensures)) in
    let has = slice_get-get_or c.args.left.now place 0 (omega (arith, test)) in
    record {
      many = rw c.in_ok-push.ensures.items (length_push _ _ ∙ ap (λ n. n + 1) many);
      before = rw c.in_ok-push.ensures.items (before_push _ _ _ _ c.loop-place.invariant.before (rw many (record { stands = stands; has = has })));
    }
