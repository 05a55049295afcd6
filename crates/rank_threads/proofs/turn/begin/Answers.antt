use Rattle.std.proofs.Common.{rules, ◌≡◌}
use Rattle.rank_node.specs.Phases.{clock_in}
use Rattle.rank_threads.proofs.TurnLemmas.{is_begun}
use Rattle.rank_threads.specs.Costs.{after_step}
use Rattle.rank_threads.proofs.turn.begin.Goals as goal

-- it made its stride, took what its lanes brought, and then made its step, which was counted if it is an act
pub returns-clause-begun : goal.returns-clause-begun
returns-clause-begun g c =
    let acts : c.count_act.new.life.kit.meter ≡ after_step c.take_if_rung.new.life.kit.meter c.in_ok-stepped.stepped (clock_in c.count_act.new.life.node.phase)
    = search rules in
    is_begun c.args.shared.now.limits.steps c.args.life.now c.stride.new.life c.take_if_rung.new.life c.count_act.new.life _ c.stride.ensures.strode
    c.in_ok-brought.ensures.brings c.in_ok-stepped.ensures.answer acts
