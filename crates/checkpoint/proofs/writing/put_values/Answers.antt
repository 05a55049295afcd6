use Rattle.std.proofs.Common.{◌≡◌, ◌++◌, pos, get_or, rules, refl, ap, ◌∙◌, FitsSigned, to_z, of_z, w64}
use Rattle.checkpoint.specs.Spelling.{value}
use Rattle.checkpoint.proofs.Written.{begins, writes, spelled_all, legal_all}
use Rattle.checkpoint.proofs.writing.put_values.Goals as goal

pub loop-n-init : goal.loop-n-init
loop-n-init c = begins value (FitsSigned w64) c.args.out.now.items c.args.items.now

pub loop-n-preserved : goal.loop-n-preserved
loop-n-preserved c =
    let x = get_or c.args.items.now c.loop-n.n-index (pos 0) in
    let same : to_z w64 (of_z w64 x) ≡ x = search rules in
    let fits : FitsSigned w64 x = search rules in
    let wrote = c.in_ok-put_value.ensures.spelled ∙ ap (λ z. c.loop-n.out.items ++ value z) same in
    writes value (FitsSigned w64) c.args.out.now.items c.loop-n.out.items c.put_value.new.out.items c.args.items.now c.loop-n.n-index
    (pos 0) x
    c.loop-n-test.true refl wrote fits c.loop-n.invariant

pub returns-clause-spelled : goal.returns-clause-spelled
returns-clause-spelled c =
    spelled_all value (FitsSigned w64) c.args.out.now.items c.loop-n.out.items c.args.items.now c.loop-n.n-index c.loop-n-test.false
    c.loop-n.invariant

pub returns-clause-range : goal.returns-clause-range
returns-clause-range c =
    legal_all value (FitsSigned w64) c.args.out.now.items c.loop-n.out.items c.args.items.now c.loop-n.n-index c.loop-n-test.false
    c.loop-n.invariant
