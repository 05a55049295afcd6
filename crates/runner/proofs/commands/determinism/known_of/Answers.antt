use Rattle.std.proofs.Common.{Err, ap, ◌∙◌}
use Rattle.runner.specs.Searches.IsToldOf.{past, faulty}
use Rattle.runner.proofs.commands.determinism.known_of.Goals as goal

-- with what tells the text passes a limit
pub returns-in-Err-PastLimits : goal.returns-in-Err-PastLimits
returns-in-Err-PastLimits g c = past (c.telling_program.ensures.past (c.in-Err-PastLimits.is ∙ ap Err c.in-Err-PastLimits.field-0-is))

-- the text has a fault
pub returns-in-Err-Fault : goal.returns-in-Err-Fault
returns-in-Err-Fault g c = faulty (c.telling_program.ensures.fault c.in-Err-Fault.field-0-0 (c.in-Err-Fault.is ∙ ap Err c.in-Err-Fault.field-0-is))
