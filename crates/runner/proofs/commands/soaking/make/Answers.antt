use Rattle.runner.proofs.Soaks.{is_failed, is_reported}
use Rattle.runner.proofs.commands.soaking.make.Goals as goal

-- a run with a report is one more
pub returns-in-Ok-noted-clause-more : goal.returns-in-Ok-noted-clause-more
returns-in-Ok-noted-clause-more g c = is_reported _ _ _ _ _ _ _ _ _ c.in_ok-drawn.ensures.drawn c.limits_of-limits.ensures.steps c.in-Ok.ensures
    c.in-Ok-noted.ensures.counted c.in-Ok-noted.ensures.crashes c.in-Ok-noted.ensures.halted c.in-Ok-noted.ensures.failed

-- so is a run without one
pub returns-in-Ok-told : goal.returns-in-Ok-told
returns-in-Ok-told g c = record {
  more = is_failed _ _ _ _ c.as_str.result.now _ _ _ c.in_ok-drawn.ensures.drawn c.in-Ok-told.ensures.counted c.in-Ok-told.ensures.crashes
      c.in-Ok-told.ensures.halted c.as_str.ensures.value c.in-Ok-told.ensures.told;
  refused = tt;
}
