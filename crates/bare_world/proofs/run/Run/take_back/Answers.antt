use Rattle.std.proofs.Common.{ap, ◌∙◌}
use Rattle.crash_free.specs.Runs.{Passed}
use Rattle.bare_world.proofs.Runs.Index.{taken_back}
use Rattle.bare_world.proofs.run.Run.take_back.Goals as goal

pub invariant_of-self : goal.invariant_of-self
invariant_of-self c =
    taken_back _ _ _ c.in-Some.passed _ _ c.from.result c.index_mut.result.now c.forget.new.self c.self.invariant c.in-Some.ensures.items
    (c.from.ensures ∙ ap (λ (p : Passed). p.rank) c.passed.view_is) (ap (λ (p : Passed). p.act) c.passed.view_is) c.index_mut.ensures.value c.forget.ensures

pub invariant_of-self-in-Some-2 : goal.invariant_of-self-in-Some-2
invariant_of-self-in-Some-2 c =
    taken_back _ _ _ c.in-Some.passed _ _ c.from.result c.index_mut.result.now c.forget.new.self c.self.invariant c.in-Some.ensures.items
    (c.from.ensures ∙ ap (λ (p : Passed). p.rank) c.passed.view_is) (ap (λ (p : Passed). p.act) c.passed.view_is) c.index_mut.ensures.value c.forget.ensures

pub invariant_of-self-in-Some-3 : goal.invariant_of-self-in-Some-3
invariant_of-self-in-Some-3 c =
    taken_back _ _ _ c.in-Some.passed _ _ c.from.result c.index_mut.result.now c.forget.new.self c.self.invariant c.in-Some.ensures.items
    (c.from.ensures ∙ ap (λ (p : Passed). p.rank) c.passed.view_is) (ap (λ (p : Passed). p.act) c.passed.view_is) c.index_mut.ensures.value c.forget.ensures
