use Rattle.run_events.proofs.Masking.{report_is_masked}
use Rattle.run_events.proofs.laws.law_masks_reports.Goals as goal

pub returns : goal.returns
returns c = report_is_masked
