use Rattle.std.proofs.Common.{◌∷◌, sym, ap, subst, ◌∙◌}
use Rattle.crash_free.specs.Seen.{act_of}
use Rattle.explore.specs.Exploring.{and_then}
use Rattle.explore.specs.LastShown.{KnowsShown}
use Rattle.explore.proofs.marking.follow.Goals as goal

pub returns-clause-knows : goal.returns-clause-knows
returns-clause-knows c =
    subst (λ C. KnowsShown C c.note.new.self.last)
    (sym
    (c.in_ok-make.ensures.run
    ∙ ap (λ P. and_then P c.passed.inside.rank (act_of c.passed.inside.act)) c.stride.ensures.inside.run
    ∙ ap (λ p. p ∷ c.args.sim.now.run) c.passed.view_is))
    (c.in_ok-note.ensures c.args.sim.now.run c.requires.knows)
