use Rattle.std.proofs.Common.{sym, subst}
use Rattle.std.specs.Prelude.{IfErr}
use Rattle.runner.specs.Reasons.{IsRefusalOf}
use Rattle.runner.proofs.commands.job.work.Goals as goal

-- a world that isn't led to its end is refused for the reason that it gives
pub returns-in-Finish-clause-refused : goal.returns-in-Finish-clause-refused
returns-in-Finish-clause-refused g c =
    subst (λ j. IfErr c.world_said-in-Finish.result (IsRefusalOf (g.F.Files.holds c.args.files.now) j)) (sym c.in-Finish.is)
    c.world_said-in-Finish.ensures.refused

-- a search is refused for the reason that it gives
pub returns-in-Explore-clause-refused : goal.returns-in-Explore-clause-refused
returns-in-Explore-clause-refused g c =
    subst (λ j. IfErr c.explored_by.result (IsRefusalOf (g.F.Files.holds c.args.files.now) j)) (sym c.in-Explore.is) c.explored_by.ensures.refused
