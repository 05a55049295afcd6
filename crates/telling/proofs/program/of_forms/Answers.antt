use Rattle.telling.specs.Telling.IsUntellable.{none_free}
use Rattle.telling.proofs.program.of_forms.Goals as goal

-- nothing is free
pub returns-in-None-clause-past : goal.returns-in-None-clause-past
returns-in-None-clause-past c = λ _. none_free c.requires (c.free_name.ensures.none c.in-None.is)
