-- The values of the code, without where they lie in memory (the types of this crate's src/).
use Rattle.std.specs.Prelude.{ℕ, List, [], ◌∷◌, ◌++◌, Option, Some, None, Result, Ok, Err}
use Rattle.rank_text.specs.declared.checker.scope.Opened as source_opened
use Rattle.rank_text.specs.declared.checker.scope.Scope as source_scope
use Rattle.rank_text.specs.declared.checker.judge.Judged as source_judged
use Rattle.rank_text.specs.declared.checker.fault.FaultKind.{FaultKind}
use Rattle.rank_text.specs.declared.checker.scope.Array.{Array}
use Rattle.rank_text.specs.declared.grammar.form.Form as source_form
use Rattle.rank_text.specs.Grammar.Forms.{Form}
use Rattle.rank_text.specs.Grammar.SeenForms.{form_seen}
use Rattle.rank_text.specs.Checker.Scope.{Opened, in_if, in_else, in_while, Scope}

-- an open block
abbrev pub opened_seen : source_opened.Opened → Opened
opened_seen source_opened.TheVariants.If = in_if
opened_seen source_opened.TheVariants.Else = in_else
opened_seen source_opened.TheVariants.While = in_while

-- the innermost block is the last of the code, and the first here
abbrev pub blocks_seen : List source_opened.Opened → List Opened
blocks_seen [] = []
blocks_seen (b ∷ bs) = blocks_seen bs ++ opened_seen b ∷ []

-- an array's name and the number of its items
abbrev pub arrays_seen : List Array → List (List ℕ × ℕ)
arrays_seen [] = []
arrays_seen (a ∷ arrays) = (a.name, a.length) ∷ arrays_seen arrays

-- what has been declared and opened
abbrev pub scope_seen : source_scope.Scope → Scope
scope_seen s = record { variables = s.variables.items; arrays = arrays_seen s.arrays.items; blocks = blocks_seen s.blocks.items }

-- a line's statement, or none where the line is skipped, or its fault
abbrev pub judged_seen : source_judged.Judged → Result (Option Form) FaultKind
judged_seen source_judged.TheVariants.Skipped = Ok None
judged_seen (source_judged.TheVariants.Statement f) = Ok (Some (form_seen f))
judged_seen (source_judged.TheVariants.Faulty k) = Err k

-- the statements of a list
abbrev pub forms_seen : List source_form.Form → List Form
forms_seen [] = []
forms_seen (f ∷ fs) = form_seen f ∷ forms_seen fs
