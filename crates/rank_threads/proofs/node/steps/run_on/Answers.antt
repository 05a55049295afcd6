use Rattle.rank_node.specs.Steps.{refusal_of, turn_of}
use Rattle.rank_threads.proofs.StepLaws.{run_answers, run_clocks}
use Rattle.rank_threads.proofs.node.steps.run_on.Goals as goal

-- it answers as the rank that runs does
pub returns-clause-answer : goal.returns-clause-answer
returns-clause-answer g c =
    run_answers (refusal_of c.args.rank.now) (turn_of c.args.rank.now) c.step_wanted.result c.step_wanted.ensures.step.turn c.step_wanted.ensures.step.refusal
    c.step_wanted.ensures.step.refused

-- the clock goes by what is answered
pub returns-clause-clock : goal.returns-clause-clock
returns-clause-clock g c = run_clocks c.args.rank.now c.step_wanted.new.self c.step_wanted.result c.step_wanted.ensures.step.turn c.step_wanted.ensures.step.ok
