use Rattle.std.proofs.Common.{rules, ◌≡◌, None, is_some, sym, ap, ◌∙◌}
use Rattle.rank_threads.proofs.SeatLemmas.{life_failed, living_first}
use Rattle.rank_threads.proofs.life.living.begun.Goals as goal

-- the life couldn't begin
pub returns-then-is_some : goal.returns-then-is_some
returns-then-is_some g c =
    life_failed c.args.shared.now.program.now c.args.station c.leave.result c.begin-life.result c.begin-life.ensures.same c.leave.ensures.same
    (ap (λ k. is_some k.tally.fault) c.leave.ensures.kit ∙ sym c.is_some.ensures ∙ c.if-is_some.true)

-- the life began at the station
pub returns : goal.returns
returns g c =
    let well : c.begin-life.result.kit.tally.fault ≡ None = search rules in
    living_first c.args.shared.now.program.now c.args.station c.begin-life.result (c.begin-life.ensures.begins well)
    (ap (λ k. k.plan) c.begin-life.ensures.kit) (c.begin-life.ensures.well well) c.begin-life.ensures.same
