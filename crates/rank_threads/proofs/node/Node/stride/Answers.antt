use Rattle.std.proofs.Common.{Some, sym, ap, ◌∙◌}
use Rattle.rank_threads.specs.Phases.{want_in}
use Rattle.rank_threads.proofs.StepLaws.{again_stood, own_stride, run_stood, some_stride}
use Rattle.rank_node.specs.declared.phase.Phase.TheVariants as phase
use Rattle.rank_threads.proofs.node.Node.stride.Goals as goal

-- a rank that runs
pub returns-in-Running-clause-some : goal.returns-in-Running-clause-some
returns-in-Running-clause-some c some wants none =
    some_stride c.stride.result c.args.most _ _ c.stride.ensures.machine c.stride.ensures.stands some (sym (ap want_in c.in-Running.is) ∙ wants) none

pub returns-in-Running-clause-own : goal.returns-in-Running-clause-own
returns-in-Running-clause-own c some = ap want_in c.in-Running.is ∙ ap Some (own_stride c.stride.result _ _ c.stride.ensures.machine some)

pub returns-in-Running-clause-none : goal.returns-in-Running-clause-none
returns-in-Running-clause-none c none =
    ap phase.Running (run_stood c.stride.result _ _ c.stride.ensures.machine c.stride.ensures.ok none) ∙ sym c.in-Running.is

-- one that replays
pub returns-in-Replaying-clause-some : goal.returns-in-Replaying-clause-some
returns-in-Replaying-clause-some c some wants none =
    some_stride c.stride-in-Replaying.result c.args.most _ _ c.stride-in-Replaying.ensures.machine c.stride-in-Replaying.ensures.stands some
    (sym (ap want_in c.in-Replaying.is) ∙ wants) none

pub returns-in-Replaying-clause-own : goal.returns-in-Replaying-clause-own
returns-in-Replaying-clause-own c some =
    ap want_in c.in-Replaying.is ∙ ap Some (own_stride c.stride-in-Replaying.result _ _ c.stride-in-Replaying.ensures.machine some)

pub returns-in-Replaying-clause-none : goal.returns-in-Replaying-clause-none
returns-in-Replaying-clause-none c none =
    ap phase.Replaying (again_stood c.stride-in-Replaying.result _ _ c.stride-in-Replaying.ensures.machine c.stride-in-Replaying.ensures.ok none)
    ∙ sym c.in-Replaying.is
