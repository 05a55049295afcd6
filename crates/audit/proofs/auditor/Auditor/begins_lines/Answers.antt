use Rattle.std.proofs.Common.{◌≡◌, ◌++◌, sym, ap, get_or, ◌∙◌}
use Rattle.std.proofs.lemmas.Option.{slice_get_read}
use Rattle.crash_free.specs.Runs.{printed}
use Rattle.audit.specs.Outcome.{lines_of}
use Rattle.audit.proofs.Steps.{trace_there}
use Rattle.audit.proofs.auditor.Auditor.begins_lines.Goals as goal

pub returns-clause-yes : goal.returns-clause-yes
returns-clause-yes c = λ yes.
    let begins = c.begin_with.ensures.yes yes in
    let trace = trace_there c.args.self.now.sim c.args.self.now.traces.items c.args.rank c.from-place.result c.index.result.now c.requires.keeps c.requires.rank
    c.from-place.ensures c.index.ensures in
    let sorted = c.requires.sorted in
    let wide = sorted.width in
    let there = slice_get_read c.args.goal.now.lines.now _ c.args.rank c.index-goal-place.result (sym wide) c.requires.rank
    (c.index-goal-place.is ∙ ap (λ q. get_or c.args.goal.now.lines.now q c.index-goal-place.result) c.from-place.ensures) in
    let all : lines_of c.args.rank c.args.goal.now.outcome.now.lines ≡ c.as_slice.result.now =
    sym (sorted.each c.args.rank c.index-goal-place.result there) ∙ c.index-goal-place.is ∙ sym c.as_slice.ensures in
    let made : c.lines.result.now ≡ printed c.args.self.now.sim.run c.args.rank = c.lines.ensures ∙ trace.lines in
    (begins.0, all ∙ begins.1 ∙ ap (λ ls. ls ++ begins.0) made)

pub returns-clause-no : goal.returns-clause-no
returns-clause-no c = λ no begins.
    let trace = trace_there c.args.self.now.sim c.args.self.now.traces.items c.args.rank c.from-place.result c.index.result.now c.requires.keeps c.requires.rank
    c.from-place.ensures c.index.ensures in
    let sorted = c.requires.sorted in
    let wide = sorted.width in
    let there = slice_get_read c.args.goal.now.lines.now _ c.args.rank c.index-goal-place.result (sym wide) c.requires.rank
    (c.index-goal-place.is ∙ ap (λ q. get_or c.args.goal.now.lines.now q c.index-goal-place.result) c.from-place.ensures) in
    let all : lines_of c.args.rank c.args.goal.now.outcome.now.lines ≡ c.as_slice.result.now =
    sym (sorted.each c.args.rank c.index-goal-place.result there) ∙ c.index-goal-place.is ∙ sym c.as_slice.ensures in
    let made : c.lines.result.now ≡ printed c.args.self.now.sim.run c.args.rank = c.lines.ensures ∙ trace.lines in
    c.begin_with.ensures.no no (begins.0, sym all ∙ begins.1 ∙ ap (λ ls. ls ++ begins.0) (sym made))
