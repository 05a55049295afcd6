use Rattle.std.proofs.Common.{length, sym, subst}
use Rattle.crash_free.specs.Sim.{start_of}
use Rattle.explore.specs.Sending.{IsRunUnder}
use Rattle.std.specs.Prelude.{IfOk, IfSome}
use Rattle.explore.specs.Cycles.{MayGoOnForEver}
use Rattle.explore.proofs.cycle.came_back.Goals as goal

pub returns : goal.returns
returns c =
    let begins = c.in_ok-path.ensures.begins in
    subst (λ n. IfOk c.follow.result (λ found. IfSome found (λ _. MayGoOnForEver c.args.mode c.args.program.now n))) begins.ranks
    (subst (λ p. IfOk c.follow.result (λ found. IfSome found (λ _. MayGoOnForEver c.args.mode p (length c.in_ok-path.path.sim.machines)))) begins.program_same c.follow.ensures)

pub follow-requires-clause-is_run : goal.follow-requires-clause-is_run
follow-requires-clause-is_run c =
    let s = c.in_ok-path.path.sim in
    subst (λ C. IsRunUnder c.args.mode (start_of s.program (length s.machines)) (length s.machines) C) (sym c.in_ok-path.ensures.begins.run) tt
