use Rattle.std.proofs.Common.{length, sym, subst, ◌∙◌}
use Rattle.crash_free.specs.Sim.{start_of}
use Rattle.explore.specs.Chosen.{MakesChoices}
use Rattle.explore.specs.Sending.{IsRunUnder}
use Rattle.explore.proofs.Chosen.{choices_there}
use Rattle.explore.proofs.replay.run_by.Goals as goal

pub returns-clause-choices : goal.returns-clause-choices
returns-clause-choices c =
    subst (λ z. MakesChoices c.args.mode c.args.program.now c.args.ranks z.run c.args.choices.now) (sym c.into_sim.ensures)
    (choices_there c.args.mode c.args.program.now c.args.ranks c.args.limits.steps c.in_ok-path.path c.replay.new.path c.args.choices.now
    c.in_ok-path.ensures.begins c.in_ok-path.ensures.counts c.in_ok-path.ensures.none (c.in_ok-replay.ensures.choices c.if-not-branch.false)
    c.in_ok-replay.ensures.alike
    (sym c.as_slice.ensures.value ∙ c.are_same_choices.ensures c.if-not-are_same_choices.false))

pub replay-requires-clause-is_run : goal.replay-requires-clause-is_run
replay-requires-clause-is_run c =
    let s = c.in_ok-path.path.sim in
    subst (λ C. IsRunUnder c.args.mode (start_of s.program (length s.machines)) (length s.machines) C) (sym c.in_ok-path.ensures.begins.run) tt
