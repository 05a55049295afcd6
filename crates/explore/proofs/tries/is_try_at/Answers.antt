use Rattle.std.proofs.Common.{sym, ap, ◌∙◌}
use Rattle.rank_language.specs.Seen.{line_in}
use Rattle.explore.specs.Shown.{is_try_in}
use Rattle.explore.proofs.tries.is_try_at.Goals as goal

pub returns-in-Some : goal.returns-in-Some
returns-in-Some c = c.is_try.ensures ∙ sym (ap (λ o. is_try_in (line_in o)) c.in-Some.is) ∙ ap is_try_in c.statement.ensures.line

pub returns-in-None : goal.returns-in-None
returns-in-None c = sym (ap (λ o. is_try_in (line_in o)) c.in-None.is) ∙ ap is_try_in c.statement.ensures.line
