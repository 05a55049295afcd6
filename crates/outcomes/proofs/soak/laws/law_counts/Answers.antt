use Rattle.outcomes.proofs.SoakLaws.CountLaws.{is_histogram}
use Rattle.outcomes.proofs.soak.laws.law_counts.Goals as goal

pub returns : goal.returns
returns c = is_histogram
