use Rattle.std.proofs.Common.{◌≡◌, None, sym, ap, ◌∙◌}
use Rattle.rank_threads.proofs.LifeLemmas.{lived_on, lives_failed, lives_last, lives_on}
use Rattle.rank_threads.proofs.SeatLemmas.{none_of, some_of}
use Rattle.rank_threads.proofs.life.keeper.follow.Goals as goal

-- the rank left
pub returns-then-is_some-clause-follows : goal.returns-then-is_some-clause-follows
returns-then-is_some-clause-follows g c =
    let left = some_of c.args.station.end (sym c.is_some.ensures ∙ c.if-is_some.true) in
    (left, λ old lived. lives_last c.args.shared.now.program.now old old c.args.station (λ u lives. lives) lived left)

-- it has a fault, and is given up with it
pub returns-then-is_some-2-clause-follows : goal.returns-then-is_some-2-clause-follows
returns-then-is_some-2-clause-follows g c = (
  c.give_up.ensures.end,
  λ old lived. lives_failed c.args.shared.now.program.now old old c.fetch_row-station.result c.give_up.result (λ u lives. lives)
      (sym c.is_some-2.ensures ∙ c.if-is_some-2.true) c.give_up.ensures.counts,
)

-- else it has lost its frames
pub returns-clause-dropped : goal.returns-clause-dropped
returns-clause-dropped g c =
    c.fetch_row-station.ensures.dropped (none_of c.fetch_row-station.result.kit.tally.fault (sym c.is_some-2.ensures ∙ c.if-is_some-2.false))

-- it crashed without one, so its next life is behind this one
pub returns-clause-follows : goal.returns-clause-follows
returns-clause-follows g c =
    λ old lived end rest.
    let row = c.fetch_row-station.ensures in
    let crashed : c.fetch_row-station.result.end ≡ None = row.end ∙ none_of c.args.station.end (sym c.is_some.ensures ∙ c.if-is_some.false) in
    let well : c.fetch_row-station.result.kit.tally.fault ≡ None
    = none_of c.fetch_row-station.result.kit.tally.fault (sym c.is_some-2.ensures ∙ c.if-is_some-2.false) in
    lives_on c.args.shared.now.program.now old old c.fetch_row-station.result (λ u lives. lives)
    (lived_on c.args.shared.now.program.now old c.args.station c.fetch_row-station.result lived row.fault row.end row.plan row.stood
    (ap (λ t. t.crashes) row.tally) (ap (λ t. t.steps) row.tally) (ap (λ t. t.is_spent) row.tally) row.shelf row.stored)
    crashed well (λ e w. row.row w) end rest
