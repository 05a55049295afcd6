use Rattle.std.proofs.Common.{◌≡◌, ◌<◌, ◌++◌, Some, length, slice_get, refl, sym, ap, ◌∙◌, arith}
use Rattle.std.proofs.lemmas.List.{length-map}
use Rattle.audit.specs.Ahead.{ProgressValue}
use Rattle.audit.specs.Outcome.{OutcomeValue}
use Rattle.audit.specs.Rows.{expand, row}
use Rattle.audit.proofs.Picking.{counted_there, row_read}
use Rattle.audit.proofs.progress.Progress.begins_row.Goals as goal

pub begin_with-requires : goal.begin_with-requires
begin_with-requires c =
    let all = ap (λ (o : OutcomeValue). o.rows) c.outcome.view_is in
    let long = ap length all in
    let mapped = length-map c.outcome.inside.rows.items (λ row. row.items) in
    let low = c.requires.place in
    let there : slice_get c.args.goal.now.outcome.now.rows c.args.place ≡ Some c.as_slice-row.result.now =
    row_read (λ row. row.items) c.outcome.inside.rows.items c.args.goal.now.outcome.now.rows c.args.place c.args.place c.index-2.result.now all refl
    c.index-2.ensures (omega (arith, long, mapped, low)) ∙ ap Some (sym c.as_slice-row.ensures.value) in
    sym c.index-goal-place.is
    ∙ counted_there c.args.goal.now.outcome.now.rows c.args.goal.now.counts.now c.args.place c.args.place c.as_slice-row.result.now c.index-goal-place.result
    c.requires.counted there refl c.index-goal-place.is

pub returns-clause-yes : goal.returns-clause-yes
returns-clause-yes c = λ yes events at.
    let begins = c.begin_with.ensures.yes yes in
    let all = ap (λ (o : OutcomeValue). o.rows) c.outcome.view_is in
    let long = ap length all in
    let mapped = length-map c.outcome.inside.rows.items (λ row. row.items) in
    let low = c.requires.place in
    let here : Some c.as_slice-row.result.now ≡ Some events =
    sym (row_read (λ row. row.items) c.outcome.inside.rows.items c.args.goal.now.outcome.now.rows c.args.place c.args.place c.index-2.result.now all refl
    c.index-2.ensures (omega (arith, long, mapped, low)) ∙ ap Some (sym c.as_slice-row.ensures.value)) ∙ at in
    let same : c.as_slice-row.result.now ≡ events = cc in
    let rank = c.requires.rank in
    let some : c.args.place < length c.self.inside.taken.items =
    omega (arith, ap (λ (p : ProgressValue). length p.taken) c.self.view_is, length-map c.self.inside.taken.items (λ row. row.items), c.requires.progress.taken, rank) in
    let made : c.as_slice-taken.result.now ≡ row c.args.self.now.sim.run c.args.place =
    c.as_slice-taken.ensures.value
    ∙ c.requires.progress.rows c.args.place c.index.result.now.items
    (row_read (λ row. row.items) c.self.inside.taken.items c.args.self.now.taken c.args.place c.args.place c.index.result.now
    (ap (λ (p : ProgressValue). p.taken) c.self.view_is) refl c.index.ensures some) in
    (begins.0, sym (ap expand same) ∙ begins.1 ∙ ap (λ es. es ++ begins.0) made)

pub returns-clause-no : goal.returns-clause-no
returns-clause-no c = λ no events at begins.
    let all = ap (λ (o : OutcomeValue). o.rows) c.outcome.view_is in
    let long = ap length all in
    let mapped = length-map c.outcome.inside.rows.items (λ row. row.items) in
    let low = c.requires.place in
    let here : Some c.as_slice-row.result.now ≡ Some events =
    sym (row_read (λ row. row.items) c.outcome.inside.rows.items c.args.goal.now.outcome.now.rows c.args.place c.args.place c.index-2.result.now all refl
    c.index-2.ensures (omega (arith, long, mapped, low)) ∙ ap Some (sym c.as_slice-row.ensures.value)) ∙ at in
    let same : c.as_slice-row.result.now ≡ events = cc in
    let rank = c.requires.rank in
    let some : c.args.place < length c.self.inside.taken.items =
    omega (arith, ap (λ (p : ProgressValue). length p.taken) c.self.view_is, length-map c.self.inside.taken.items (λ row. row.items), c.requires.progress.taken, rank) in
    let made : c.as_slice-taken.result.now ≡ row c.args.self.now.sim.run c.args.place =
    c.as_slice-taken.ensures.value
    ∙ c.requires.progress.rows c.args.place c.index.result.now.items
    (row_read (λ row. row.items) c.self.inside.taken.items c.args.self.now.taken c.args.place c.args.place c.index.result.now
    (ap (λ (p : ProgressValue). p.taken) c.self.view_is) refl c.index.ensures some) in
    c.begin_with.ensures.no no (begins.0, ap expand same ∙ begins.1 ∙ ap (λ es. es ++ begins.0) (sym made))
