use Rattle.std.proofs.Common.{◌≡◌, true, false, sym, subst, ◌∙◌}
use Rattle.std.specs.declared.ops.Bound.TheVariants.{Included, Unbounded}
use Rattle.std.specs.BTreeSet.{IsKeyRangeOf}
use Rattle.std.specs.Ordering.{is_eq}
use Rattle.matching.specs.Index.{label_cmp, place_cmp}
use Rattle.matching.specs.contracts.label.LabelOrd.TheImpl.Laws.{matches_eq-law}
use Rattle.matching.proofs.IndexLemmas.{within, first_there, first_least, first_else}
use Rattle.matching.proofs.index.Index.first.Goals as goal

pub returns-in_err-found-clause-none : goal.returns-in_err-found-clause-none
returns-in_err-found-clause-none c =
    let range : IsKeyRangeOf place_cmp (Included (c.args.label, 0)) Unbounded c.args.self.now.places c.range.result = c.range.ensures.in_range tt in
    λ none p. range.5 c.in_err-found.ensures.steps.0 (c.args.label, p) (within c.args.label p)

pub returns-then-eq-clause-there : goal.returns-then-eq-clause-there
returns-then-eq-clause-there c =
    let of = IsKeyRangeOf place_cmp (Included (c.args.label, 0)) Unbounded c.args.self.now.places in
    let same : is_eq (label_cmp c.in_ok-found.field-0.now.0 c.args.label) ≡ true =
    sym (matches_eq-law c.in_ok-found.field-0.now.0 c.args.label) ∙ sym c.eq.ensures ∙ c.if-eq.true in
    first_there c.args.self.now.places c.args.label c.in_ok-found.field-0.now _ (subst of c.in_ok-found.ensures.steps (c.range.ensures.in_range tt)) same

pub returns-then-eq-clause-least : goal.returns-then-eq-clause-least
returns-then-eq-clause-least c =
    let of = IsKeyRangeOf place_cmp (Included (c.args.label, 0)) Unbounded c.args.self.now.places in
    let same : is_eq (label_cmp c.in_ok-found.field-0.now.0 c.args.label) ≡ true =
    sym (matches_eq-law c.in_ok-found.field-0.now.0 c.args.label) ∙ sym c.eq.ensures ∙ c.if-eq.true in
    first_least c.args.self.now.places c.args.label c.in_ok-found.field-0.now _ (subst of c.in_ok-found.ensures.steps (c.range.ensures.in_range tt)) same

pub returns-else-eq-clause-none : goal.returns-else-eq-clause-none
returns-else-eq-clause-none c =
    let of = IsKeyRangeOf place_cmp (Included (c.args.label, 0)) Unbounded c.args.self.now.places in
    let other : is_eq (label_cmp c.in_ok-found.field-0.now.0 c.args.label) ≡ false =
    sym (matches_eq-law c.in_ok-found.field-0.now.0 c.args.label) ∙ sym c.eq.ensures ∙ c.if-eq.false in
    λ none. first_else c.args.self.now.places c.args.label c.in_ok-found.field-0.now _
    (subst of c.in_ok-found.ensures.steps (c.range.ensures.in_range tt)) other
