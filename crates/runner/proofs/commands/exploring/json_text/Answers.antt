use Rattle.std.proofs.Common.{string_bytes, subst, sym}
use Rattle.std.proofs.lemmas.Result.{IfOk-weaker}
use Rattle.explore.specs.Shown.{AreMarked}
use Rattle.runner.proofs.Written.{is_marked_object}
use Rattle.runner.specs.SentLines.{AreLined}
use Rattle.runner.proofs.commands.exploring.json_text.Goals as goal

-- the object that was written has the marks of the program and the lines of sends
pub returns : goal.returns
returns c = IfOk-weaker c.explored_json.result _ _
    (λ answer written. is_marked_object c.args.job.synchronous c.args.mode c.args.lines.now c.args.program.now c.args.job.ranks c.args.found.now c.args.safety.now c.as_slice.result.now
    c.as_slice-2.result.now (string_bytes answer)
    c.requires
    (subst (AreLined c.args.mode c.args.program.now c.args.job.ranks c.args.lines.now c.args.found.now.outcomes c.args.found.now.left)
    (sym c.as_slice.ensures.value) c.in_ok-left.ensures)
    (subst (AreMarked c.args.mode c.args.program.now c.args.job.ranks c.args.found.now.outcomes c.args.found.now.choices) (sym c.as_slice-2.ensures.value)
    c.in_ok-marks.ensures)
    written)
    c.explored_json.ensures
