use Rattle.rank_text.proofs.PrinterLaws.PrintedText.{reads_back}
use Rattle.rank_text.proofs.printer.laws.law_reads_back.Goals as goal

pub returns : goal.returns
returns c = reads_back
