use Rattle.std.proofs.Common.{rules, ◌≡◌, false, ap}
use Rattle.rank_threads.specs.Phases.{want_in}
use Rattle.rank_threads.specs.Steps.{is_own}
use Rattle.rank_threads.proofs.TurnLemmas.{clock_told}
use Rattle.rank_threads.proofs.turn.stepping.step.Goals as goal

-- what is counted leaves the rank where its step left it
pub returns-clause-clock : goal.returns-clause-clock
returns-clause-clock g c =
    let own : is_own (want_in c.args.life.now.node.phase) ≡ false = search rules in
    rw (ap (λ s. s.node.phase) c.count.ensures.rest)
    (clock_told c.args.life.now.node.phase c.act-answer.new.life.node.phase c.act-answer.result c.count.result c.count.ensures.told own
    c.act-answer.ensures.step.clock c.act-answer.ensures.step.err)
