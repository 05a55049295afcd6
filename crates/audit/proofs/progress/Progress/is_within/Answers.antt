use Rattle.std.proofs.Common.{length, ap, arith}
use Rattle.crash_free.specs.Parts.{IsBeginning}
use Rattle.crash_free.specs.Runs.{printed}
use Rattle.audit.specs.Ahead.{ProgressValue}
use Rattle.audit.specs.Outcome.{lines_of}
use Rattle.audit.specs.Rows.{expand, row}
use Rattle.audit.proofs.GoingAhead.{one_rank_more, one_row_more, within_all}
use Rattle.audit.proofs.progress.Progress.is_within.Goals as goal

pub loop-place-init : goal.loop-place-init
loop-place-init c = λ r events low at. absurd (omega (arith, low))

pub loop-place-preserved : goal.loop-place-preserved
loop-place-preserved c =
    one_row_more (λ r events. IsBeginning (row c.args.self.now.sim.run r) (expand events)) c.args.goal.now.outcome.now.rows c.loop-place.place
    c.loop-place.invariant (c.begins_row.ensures.yes c.if-not-begins_row.false)

pub loop-rank-init : goal.loop-rank-init
loop-rank-init c = λ r low. absurd (omega (arith, low))

pub loop-rank-preserved : goal.loop-rank-preserved
loop-rank-preserved c =
    let one : IsBeginning (printed c.args.self.now.sim.run c.loop-rank.rank) (lines_of c.loop-rank.rank c.args.goal.now.outcome.now.lines) =
    rw (← c.self.view_is) (c.begins_lines.ensures.yes c.if-not-begins_lines.false) in
    one_rank_more (λ r. IsBeginning (printed c.args.self.now.sim.run r) (lines_of r c.args.goal.now.outcome.now.lines)) c.loop-rank.rank
    c.loop-rank.invariant one

pub returns-clause-yes : goal.returns-clause-yes
returns-clause-yes c = λ _.
    let rows = c.rows_count-place-end.ensures in
    let rows_done = c.loop-place-test.false in
    let ranks = c.ranks-rank-end.ensures in
    let ranks_done = c.loop-rank-test.false in
    let same = ap (λ (p : ProgressValue). length p.sim.machines) c.self.view_is in
    within_all c.args.goal.now.outcome.now c.args.self.now.sim c.requires.progress.keeps.simulates
    (λ r events low at. c.loop-place.invariant r events (omega (arith, low, rows, rows_done)) at)
    (λ r low. c.loop-rank.invariant r (omega (arith, low, ranks, ranks_done, same)))

pub returns-then-not-begins_lines-clause-no : goal.returns-then-not-begins_lines-clause-no
returns-then-not-begins_lines-clause-no c = λ _ within.
    let none : IsBeginning (printed c.args.self.now.sim.run c.loop-rank.rank) (lines_of c.loop-rank.rank c.args.goal.now.outcome.now.lines) → ⊥ =
    rw (← c.self.view_is) (c.begins_lines.ensures.no c.if-not-begins_lines.true) in
    none (within.lines c.loop-rank.rank)
