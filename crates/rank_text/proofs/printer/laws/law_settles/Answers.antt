use Rattle.rank_text.proofs.PrinterLaws.Settled.{is_settled, stays_text, stays_whole, all_are}
use Rattle.rank_text.proofs.printer.laws.law_settles.Goals as goal

pub returns-clause-text : goal.returns-clause-text
returns-clause-text c = is_settled

pub returns-clause-same : goal.returns-clause-same
returns-clause-same c = stays_text

pub returns-clause-whole : goal.returns-clause-whole
returns-clause-whole c = stays_whole

pub returns-clause-canonical : goal.returns-clause-canonical
returns-clause-canonical c = all_are
