use Rattle.std.proofs.Common.{◌≡◌, ◌∙◌, ◌∷◌, ◌++◌, [], Some, sym, ap, subst, slice_get, slice_set}
use Rattle.outcomes.specs.declared.text.form.Entry.{Entry}
use Rattle.outcomes.specs.Text.Texts.{AreProgress}
use Rattle.outcomes.proofs.TextLaws.Following.{one_form}
use Rattle.outcomes.proofs.text.reading.LinesRead.add.Goals as goal

pub returns-clause-progress : goal.returns-clause-progress
returns-clause-progress c =
    let there = subst (λ k. slice_get c.args.self.now.progress.items k ≡ Some c.progress_of.result) (sym c.from.ensures) c.progress_of.ensures.there in
    let more = one_form c.args.ranks c.from.result c.args.number c.args.self.now.entries.items c.args.form c.args.self.now.progress.items
    c.progress_of.result c.after-progress.result c.requires.progress (sym c.from.ensures) there c.after-progress.ensures in
    let longer = c.in_ok-push.ensures.items ∙ ap (λ (e : Entry). c.args.self.now.entries.items ++ e ∷ []) c.entry_of-entry.ensures in
    subst (λ es. AreProgress c.args.ranks es (slice_set c.args.self.now.progress.items c.from.result c.after-progress.result)) (sym longer) more
