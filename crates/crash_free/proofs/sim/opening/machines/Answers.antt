use Rattle.std.proofs.Common.{◌+◌, length, ap, ◌∙◌}
use Rattle.std.proofs.lemmas.List.{length_push}
use Rattle.crash_free.specs.Sim.{Begins}
use Rattle.crash_free.proofs.Keeping.{begun_push}
use Rattle.crash_free.proofs.sim.opening.machines.Goals as goal

pub loop-rank-preserved : goal.loop-rank-preserved
loop-rank-preserved c =
    let old = c.loop-rank.invariant in
    let begins : Begins c.args.program.now c.args.ranks (length c.loop-rank.machines.items) c.in_ok-new.field-0 =
    rw old.0 (record {
      program_same = c.in_ok-new.ensures.program;
      position = c.in_ok-new.ensures.position;
      store = c.in_ok-new.ensures.store;
      state = c.in_ok-new.ensures.opening;
    }) in
    rw c.in_ok-push.ensures.items (length_push _ _ ∙ ap (λ n. n + 1) old.0, begun_push _ _ _ _ old.1 begins)
