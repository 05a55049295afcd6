use Rattle.std.proofs.Common.{◌∙◌, ap, refl, sym}
use Rattle.explore.specs.Explored.{ExploredValue}
use Rattle.runner.proofs.Determinism.{is_same}
use Rattle.runner.proofs.commands.determinism.known_from.Goals as goal

-- all was found, and no two differ
pub returns-in-None : goal.returns-in-None
returns-in-None c =
    is_same c.args.told.now.program c.args.told.now.lines.items c.args.job c.args.runs c.args.found.now c.requires
    (ap (λ (e : ExploredValue). e.complete) (sym c.found.view_is) ∙ c.if-found.true) (c.in-None.ensures.none refl)
