-- A program that is parsed, with the lines on which its statements stand: there is one for each.
use Rattle.std.specs.Prelude.{◌≡◌, ℕ, suc, List, [], ◌∷◌, length, map, Option, Some, None}
use Rattle.std.proofs.Common.{refl, sym, ap, ◌∙◌}
use Rattle.std.proofs.lemmas.List.{length-map}
use Rattle.rank_text.specs.Grammar.Forms.{Form}
use Rattle.rank_language.specs.Options.{◌>>=◌}
use Rattle.rank_text.specs.Checker.Faults.{IsText}
use Rattle.rank_text.specs.Checker.Scope.{Scope, nothing_yet, after_all}
use Rattle.rank_language.specs.Placed.{Step}
use Rattle.rank_language.specs.Shape.{step_of}
use Rattle.rank_language.specs.Resolved.{form_resolved, all_resolved}
use Rattle.rank_language.specs.Program.{ProgramValue}
use Rattle.rank_language.specs.Correct.{IsProgramOf}
use Rattle.rank_language.specs.StandOn.{StandOn, IsLinedOf}

-- the statements that are resolved after a first one, by what both are resolved to
by_first : (o : Option Step) (r : Option (List Step)) (steps : List Step) (k : ℕ) → ((rest : List Step) → r ≡ Some rest → length rest ≡ k) → (do
  step ← o
  rest ← r
  Some (step ∷ rest)) ≡ Some steps → length steps ≡ suc k
by_first None r steps k more q = absurd cc
by_first (Some step) None steps k more q = absurd cc
by_first (Some step) (Some rest) steps k more q =
    let all : step ∷ rest ≡ steps = cc in
    sym (ap length all) ∙ ap suc (more rest refl)

-- as many statements are resolved as there are
as_many_steps : (s : Scope) (fs : List Form) (steps : List Step) → all_resolved s fs ≡ Some steps → length steps ≡ length fs
as_many_steps s [] steps q = let e : [] ≡ steps = cc in sym (ap length e)
as_many_steps s (f ∷ fs) steps q =
    by_first (form_resolved s f) (all_resolved s fs) steps (length fs) (λ rest e. as_many_steps s fs rest e) q

-- a program of a text whose statements stand on these lines
pub lined : (text : List ℕ) (p : ProgramValue) (numbers : List ℕ) → IsProgramOf text p
    → ((forms : List Form) → IsText text forms → StandOn text forms numbers) → IsLinedOf text p numbers
lined text p numbers of stand = record { forms = of.forms; reads = of.reads; program = of.program; stand = stand of.forms of.reads }

-- there is a line for each statement
pub as_many : (text : List ℕ) (p : ProgramValue) (numbers : List ℕ) → IsLinedOf text p numbers → length numbers ≡ length p.statements
as_many text p numbers of =
    of.stand.each
    ∙ sym (as_many_steps (after_all nothing_yet of.forms) of.forms (map step_of p.statements) of.program.statements)
    ∙ length-map p.statements step_of
