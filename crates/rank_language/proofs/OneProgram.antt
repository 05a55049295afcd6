-- A text has one program at the most: it has one list of statements, those have one list of resolved ones, and these
-- have one tree, which says where each line leads.
use Rattle.std.proofs.Common.{◌≡◌, ℕ, List, map, ap, ◌∙◌, sym, subst}
use Rattle.std.proofs.lemmas.Option.{same_Some}
use Rattle.rank_text.specs.Grammar.Forms.{Form}
use Rattle.rank_language.specs.Block.{Line, lines_at}
use Rattle.rank_language.specs.Shape.{step_of, block_of_steps}
use Rattle.rank_language.specs.Program.{ProgramValue}
use Rattle.rank_text.specs.declared.checker.fault.FaultKind.{FaultKind}
use Rattle.rank_text.specs.Checker.Faults.{IsFaultOf}
use Rattle.rank_text.proofs.CheckerLaws.TextLaws.{one_program as one_list, program_or_fault as list_or_fault}
use Rattle.rank_language.specs.Correct.{IsOfForms, IsProgramOf}

-- a program of these parts
abbrev value_with : List Line → List (List ℕ) → List (List ℕ × ℕ) → ProgramValue
value_with ls xs as' = record { statements = ls; variables = xs; arrays = as' }

-- the program of some statements is one
one_of_forms : (fs : List Form) (p q : ProgramValue) → IsOfForms fs p → IsOfForms fs q → p ≡ q
one_of_forms fs p q g h =
    let steps : map step_of p.statements ≡ map step_of q.statements = same_Some _ _ (sym g.statements ∙ h.statements) in
    let lines : p.statements ≡ q.statements = g.targets ∙ ap (λ ss. lines_at 0 (block_of_steps ss)) steps ∙ sym h.targets in
    let variables : p.variables ≡ q.variables = g.variables ∙ sym h.variables in
    let arrays : p.arrays ≡ q.arrays = g.arrays ∙ sym h.arrays in
    (ap (λ ls. value_with ls p.variables p.arrays) lines
    ∙ ap (λ xs. value_with q.statements xs p.arrays) variables
    ∙ ap (λ as'. value_with q.statements q.variables as') arrays)

-- a text has one program at the most
pub one_program : (text : List ℕ) (p q : ProgramValue) → IsProgramOf text p → IsProgramOf text q → p ≡ q
one_program text p q g h =
    let same = one_list text g.forms h.forms g.reads h.reads in
    one_of_forms h.forms p q (subst (λ fs. IsOfForms fs p) same g.program) h.program

-- a text that has a program has no fault
pub program_or_fault : (text : List ℕ) (p : ProgramValue) (n : ℕ) (kind : FaultKind) → IsProgramOf text p → IsFaultOf text n kind → ⊥
program_or_fault text p n kind g f = list_or_fault text g.forms n kind g.reads f
