use Rattle.std.proofs.Common.{List, ℕ, subst, ◌∙◌}
use Rattle.rank_text.specs.Checker.Faults.{IsFaultOf}
use Rattle.telling.proofs.lined_forms.program_of.Goals as goal

-- the text that is read is the one that was made
pub returns-in-Ok-clause-fault : goal.returns-in-Ok-clause-fault
returns-in-Ok-clause-fault c = λ f is.
    subst (λ (text : List ℕ). IsFaultOf text f.line f.kind) (c.as_slice.ensures.value ∙ c.in-Ok.ensures.text) (c.parse.ensures.fault f is)
