use Rattle.explore.specs.Outcomes.{IsAmong}
use Rattle.explore.proofs.Alike.{ends_so_too, always_ends_too, explored_too}
use Rattle.explore.proofs.laws.law_alike_ends.Goals as goal

pub returns-clause-outcomes : goal.returns-clause-outcomes
returns-clause-outcomes c = ends_so_too

pub returns-clause-ends : goal.returns-clause-ends
returns-clause-ends c = λ mode start n found. always_ends_too mode start n (IsAmong found)

pub returns-clause-searched : goal.returns-clause-searched
returns-clause-searched c = λ mode start n found. explored_too mode start n (IsAmong found)
