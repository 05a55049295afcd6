use Rattle.std.proofs.Common.{[], ◌∷◌, ◌++◌, refl, sym, subst, slice_set}
use Rattle.outcomes.specs.Soak.Histogram.{AreOthers, HasAt, Notes}
use Rattle.outcomes.proofs.SoakLaws.NoteLaws.{noted_again, noted_first}
use Rattle.outcomes.proofs.soak.histogram.Histogram.note.Goals as goal

pub returns-in-Some-clause-counted : goal.returns-in-Some-clause-counted
returns-in-Some-clause-counted c =
    let slice = subst (λ o. HasAt c.as_slice.result.now o c.in-Some.at) c.as_slice-2.ensures.value c.in-Some.ensures.there in
    let there = subst (λ bars. HasAt bars c.args.ranks.items c.in-Some.at) c.as_slice.ensures.value slice in
    subst (λ old. Notes old c.args.ranks.items c.args.has_crashed (slice_set c.self.inside.bars.items c.in-Some.at c.count.new.self)) c.self.view_is
    (subst (λ new. Notes c.self.inside.bars.items c.args.ranks.items c.args.has_crashed (slice_set c.self.inside.bars.items c.in-Some.at new))
    (sym c.count.ensures)
    (noted_again c.self.inside.bars.items c.args.ranks.items c.args.has_crashed c.in-Some.at c.index_mut.result.now there c.index_mut.ensures.value))

pub returns-in_ok-push-in-None-clause-counted : goal.returns-in_ok-push-in-None-clause-counted
returns-in_ok-push-in-None-clause-counted c =
    let slice = subst (λ o. AreOthers c.as_slice.result.now o) c.as_slice-2.ensures.value (c.in-None.ensures.none refl) in
    let others = subst (λ bars. AreOthers bars c.args.ranks.items) c.as_slice.ensures.value slice in
    subst (λ new. Notes c.args.self.now c.args.ranks.items c.args.has_crashed new) (sym c.in_ok-push-in-None.ensures.items)
    (subst (λ old. Notes old c.args.ranks.items c.args.has_crashed (c.self.inside.bars.items ++ c.new.result ∷ [])) c.self.view_is
    (noted_first c.self.inside.bars.items c.args.ranks.items c.args.has_crashed c.new.result others c.new.ensures))
