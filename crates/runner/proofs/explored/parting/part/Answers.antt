use Rattle.std.proofs.Common.{◌≡◌, [], ◌∷◌, ◌++◌, None, Some, ap, refl, slice_get, subst, sym, ◌∙◌}
use Rattle.runner.proofs.Partings.{kept_alone, kept_and_new}
use Rattle.runner.specs.declared.explored.parting.Parted.{Parted}
use Rattle.runner.proofs.explored.parting.part.Goals as goal

pub returns-in_default : goal.returns-in_default
returns-in_default c =
    kept_alone c.args.last.now c.args.choices.now c.same_from_first-at.result c.same_from_first-at.ensures.same c.same_from_first-at.ensures.apart
    c.args.parted.now.items c.truncate.new.self.items c.count_before.result c.truncate.ensures.items
    (λ i one low e. c.count_before.ensures i one low (subst (λ xs. slice_get xs i ≡ Some one) (sym c.as_slice.ensures.value) e))
    (λ chosen before here there. (let e : None ≡ Some before = sym c.in_default.is ∙ c.choice_at.ensures ∙ there in absurd cc))

pub returns-in_default-choice_at : goal.returns-in_default-choice_at
returns-in_default-choice_at c =
    kept_alone c.args.last.now c.args.choices.now c.same_from_first-at.result c.same_from_first-at.ensures.same c.same_from_first-at.ensures.apart
    c.args.parted.now.items c.truncate.new.self.items c.count_before.result c.truncate.ensures.items
    (λ i one low e. c.count_before.ensures i one low (subst (λ xs. slice_get xs i ≡ Some one) (sym c.as_slice.ensures.value) e))
    (λ chosen before here there. (let e : None ≡ Some chosen = sym c.in_default-choice_at.is ∙ c.choice_at-2.ensures ∙ here in absurd cc))

pub returns : goal.returns
returns c =
    let one : Parted = record { at = c.same_from_first-at.result; chosen = c.in-Some-choice_at.chosen; before = c.in-Some.before } in
    kept_and_new c.args.last.now c.args.choices.now c.same_from_first-at.result c.same_from_first-at.ensures.same c.same_from_first-at.ensures.apart
    c.args.parted.now.items c.push.new.self.items c.count_before.result one
    (c.in_ok-push.ensures.items ∙ ap (λ xs. xs ++ one ∷ []) c.truncate.ensures.items) refl (sym c.choice_at-2.ensures ∙ c.in-Some-choice_at.is)
    (sym c.choice_at.ensures ∙ c.in-Some.is)
    (λ i x low e. c.count_before.ensures i x low (subst (λ xs. slice_get xs i ≡ Some x) (sym c.as_slice.ensures.value) e))
