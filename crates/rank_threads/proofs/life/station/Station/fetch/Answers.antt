use Rattle.std.proofs.Common.{refl, ap, ◌∙◌}
use Rattle.event_logger.specs.Desks.{own_row}
use Rattle.rank_threads.proofs.RowLemmas.{fetch_keeps, has_row}
use Rattle.rank_threads.proofs.life.station.Station.fetch.Goals as goal

-- what the desk answered is the whole row
pub returns-clause-row : goal.returns-clause-row
returns-clause-row c =
    has_row _ c.args.self.now.down.desk _ refl (ap (λ events. events.items) c.new.ensures ∙ c.in_ok-row.ensures.row)
    (ap (λ down. down.desk) c.in_ok-row.ensures.ok)

-- and leaves the events that it has stored
pub returns-clause-stored : goal.returns-clause-stored
returns-clause-stored c = ap (λ down. own_row down.desk) c.in_ok-row.ensures.ok ∙ fetch_keeps c.args.self.now.down.desk _
