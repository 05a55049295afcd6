use Rattle.std.proofs.Common.{string_bytes, subst, sym}
use Rattle.explore.specs.Shown.{AreMarked}
use Rattle.runner.proofs.Written.{is_marked_summary}
use Rattle.runner.specs.OutcomesText.{GoesOnAt, IsSummary}
use Rattle.runner.specs.SentLines.{AreLined}
use Rattle.runner.proofs.commands.exploring.summary_text.Goals as goal

-- so it is in short
pub returns : goal.returns
returns c =
    is_marked_summary c.args.job.synchronous c.args.mode c.args.lines.now c.args.program.now c.args.job.ranks c.args.found.now c.args.safety.now c.as_slice.result.now
    c.as_slice-2.result.now c.as_slice-3.result.now c.args.job.runs (string_bytes c.in_ok-text.text) (string_bytes c.print_safety.new.text)
    c.requires
    (subst (AreLined c.args.mode c.args.program.now c.args.job.ranks c.args.lines.now c.args.found.now.outcomes c.args.found.now.left)
    (sym c.as_slice.ensures.value) c.in_ok-left.ensures)
    (subst (AreMarked c.args.mode c.args.program.now c.args.job.ranks c.args.found.now.outcomes c.args.found.now.choices) (sym c.as_slice-2.ensures.value)
    c.in_ok-marks.ensures)
    (subst (GoesOnAt c.args.mode c.args.program.now c.args.job.ranks) (sym c.as_slice-3.ensures.value) c.in_ok-cycle.ensures)
    (subst (λ runs. IsSummary c.args.job.synchronous c.args.found.now c.as_slice.result.now c.as_slice-2.result.now c.as_slice-3.result.now runs
    (string_bytes c.in_ok-text.text))
    c.limits_of.ensures.runs c.in_ok-text.ensures)
    c.in_ok-print_safety.ensures
