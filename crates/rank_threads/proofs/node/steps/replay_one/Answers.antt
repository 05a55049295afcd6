use Rattle.rank_threads.proofs.StepLaws.{again_answers, again_ok_clocks}
use Rattle.rank_threads.proofs.node.steps.replay_one.Goals as goal

-- it answers by the next event
pub returns-clause-answer : goal.returns-clause-answer
returns-clause-answer g c =
    again_answers c.args.rank.now.node c.args.rank.now.left c.step_wanted.result c.requires.left c.step_wanted.ensures.step.turn c.step_wanted.ensures.step.refused

-- the clock goes by what is answered
pub returns-clause-clock : goal.returns-clause-clock
returns-clause-clock g c =
    again_ok_clocks c.args.rank.now c.step_wanted.new.self c.step_wanted.result c.requires.left c.step_wanted.ensures.step.turn c.step_wanted.ensures.step.ok
