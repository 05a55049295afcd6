use Rattle.checkpoint.specs.Image.{call_of}
use Rattle.checkpoint.proofs.Underway.{few_done, few_gathered}
use Rattle.checkpoint.proofs.image.law_few_parts.Goals as goal

pub returns-clause-done : goal.returns-clause-done
returns-clause-done c = few_done c.args.machine.now.store (call_of c.args.machine.now) c.law_whole.ensures.stage c.requires

pub returns-clause-gathered : goal.returns-clause-gathered
returns-clause-gathered c = few_gathered c.args.machine.now.store (call_of c.args.machine.now) c.law_whole.ensures.stage c.requires
