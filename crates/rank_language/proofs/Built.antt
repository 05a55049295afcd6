-- The statements found from the last one on are the program of the whole text's statements: they are resolved by the
-- tables that the statements leave, their targets are those of their tree, and their places are in the tables.
use Rattle.std.proofs.Common.{◌≡◌, ℕ, ◌≤◌, List, [], length, map, Some, ap, ◌∙◌, sym, subst, arith}
use Rattle.limits.specs.Limits.{most_variables, most_arrays}
use Rattle.rank_text.specs.Grammar.Forms.{Form}
use Rattle.rank_text.specs.declared.checker.scope.Array.{Array}
use Rattle.rank_text.specs.Checker.Scope.{Scope, Opened, nothing_yet, after_all, IsWhole}
use Rattle.rank_text.specs.Checker.SeenLines.{arrays_seen}
use Rattle.rank_language.specs.declared.statement.Statement.{Statement}
use Rattle.rank_language.specs.Shape.{step_of}
use Rattle.rank_language.specs.Seen.{line_of}
use Rattle.rank_language.specs.Program.{ProgramValue, AllPlaced, AllSized, program_value}
use Rattle.rank_language.specs.Resolvable.{AllResolvable}
use Rattle.rank_language.specs.Resolved.{all_resolved}
use Rattle.rank_language.specs.Ends.{lines_from}
use Rattle.rank_language.specs.Correct.{IsOfForms, IsProgram}
use Rattle.rank_language.specs.Named.{forms_of, form_named, declared_by}
use Rattle.rank_language.proofs.Resolving.{AreLines, are_lines}
use Rattle.rank_language.proofs.Spread.{targeted_lines}
use Rattle.rank_language.proofs.Whole.{resolvable, sized, balanced}
use Rattle.rank_language.proofs.Few.{few_tables}
use Rattle.rank_text.specs.Printer.Canonical.{all_canonical}
use Rattle.rank_text.proofs.PrinterLaws.Settled.{all_leave, stays_whole}
use Rattle.rank_language.proofs.Canonical.{all_same}
use Rattle.rank_language.proofs.Back.{forms_back}
use Rattle.rank_language.proofs.Arrays.{arrays_stand}

-- the scope of these tables, where no block is open
abbrev pub scope_with : List (List ℕ) → List (List ℕ × ℕ) → List Opened → Scope
scope_with variables arrays blocks = record { variables = variables; arrays = arrays; blocks = blocks }

-- the tables of a whole program are its scope at the end
same_scope : (fs : List Form) (xs : List (List ℕ)) (as' : List Array) → IsWhole fs → xs ≡ (after_all nothing_yet fs).variables
    → arrays_seen as' ≡ (after_all nothing_yet fs).arrays → scope_with xs (arrays_seen as') [] ≡ after_all nothing_yet fs
same_scope fs xs as' w v a =
    let end = after_all nothing_yet fs in
    ap (λ z. scope_with z (arrays_seen as') []) v
    ∙ ap (λ z. scope_with end.variables z []) a
    ∙ ap (λ z. scope_with end.variables end.arrays z) (sym w.closed)

-- a whole program's statements are resolvable by its tables
pub tables_resolvable : (fs : List Form) (xs : List (List ℕ)) (as' : List Array) → IsWhole fs → xs ≡ (after_all nothing_yet fs).variables
    → arrays_seen as' ≡ (after_all nothing_yet fs).arrays → AllResolvable (scope_with xs (arrays_seen as') []) fs
tables_resolvable fs xs as' w v a =
    subst (λ s. AllResolvable s fs) (sym (same_scope fs xs as' w v a)) (resolvable fs w)

-- What these statements and tables are.
pub record IsBuilt (fs : List Form) (p : ProgramValue) : Type 0 where
  pub stands : IsProgram p
  pub program : IsOfForms fs p

-- a program of a whole text's statements has them, with names for its places, as a canonical text would
same_forms : (fs : List Form) (p : ProgramValue) → IsWhole fs → p.variables ≡ (after_all nothing_yet fs).variables
    → p.arrays ≡ (after_all nothing_yet fs).arrays → all_resolved (after_all nothing_yet fs) fs ≡ Some (map step_of p.statements)
    → forms_of p ≡ all_canonical fs
same_forms fs p w v a r =
    let end = after_all nothing_yet fs in
    let same : declared_by p ≡ end =
    ap (λ z. scope_with z p.arrays []) v ∙ ap (λ z. scope_with end.variables z []) a ∙ ap (λ z. scope_with end.variables end.arrays z) (sym w.closed) in
    ap (λ s. map (form_named s) (map step_of p.statements)) same
    ∙ forms_back end fs (map step_of p.statements) (arrays_stand fs w) r

-- the program of a text's statements is that of its canonical ones
canonical_too : (fs : List Form) (p : ProgramValue) → IsOfForms fs p → IsOfForms (all_canonical fs) p
canonical_too fs p h = record {
  variables = h.variables ∙ ap (λ z. z.variables) (sym (all_leave nothing_yet fs));
  arrays = h.arrays ∙ ap (λ z. z.arrays) (sym (all_leave nothing_yet fs));
  statements =
      ap (λ s. all_resolved s (all_canonical fs)) (all_leave nothing_yet fs)
      ∙ all_same (after_all nothing_yet fs) fs (map step_of p.statements) h.statements;
  targets = h.targets;
}

-- what is found by these tables stands, and is the program of the statements
built_with : (fs : List Form) (p : ProgramValue) → IsWhole fs → p.variables ≡ (after_all nothing_yet fs).variables
    → p.arrays ≡ (after_all nothing_yet fs).arrays → AreLines (after_all nothing_yet fs) 0 fs p.statements → IsBuilt fs p
built_with fs p w v a r =
    let end = after_all nothing_yet fs in
    let shaped = r.lines ∙ targeted_lines (map step_of p.statements) (balanced end fs (map step_of p.statements) w r.steps) in
    let of_forms : IsOfForms fs p = record { variables = v; arrays = a; statements = r.steps; targets = shaped } in
    let same = same_forms fs p w v a r.steps in
    let few = w.few in
    let tables = few_tables fs w in
    let count = r.count in
    record {
      stands = record {
        shaped = shaped;
        placed =
            subst (λ n. AllPlaced n (length p.arrays) p.statements) (ap length (sym v))
            (subst (λ n. AllPlaced (length end.variables) n p.statements) (ap length (sym a)) r.within);
        few = omega arith;
        few_variables = subst (λ xs. length xs ≤ most_variables) (sym v) tables.variables;
        few_arrays = subst (λ xs. length xs ≤ most_arrays) (sym a) tables.arrays;
        sized = subst AllSized (sym a) (sized fs w);
        whole = subst IsWhole (sym same) (stays_whole fs w);
        program = subst (λ gs. IsOfForms gs p) (sym same) (canonical_too fs p of_forms);
      };
      program = of_forms;
    }

-- the statements that were found are the program of the whole text's
pub built : (fs : List Form) (ss : List Statement) (xs : List (List ℕ)) (as' : List Array) → IsWhole fs
    → xs ≡ (after_all nothing_yet fs).variables → arrays_seen as' ≡ (after_all nothing_yet fs).arrays
    → lines_from (scope_with xs (arrays_seen as') []) 0 fs ≡ Some (map line_of ss) → IsBuilt fs (program_value ss xs as')
built fs ss xs as' w v a h =
    let e = same_scope fs xs as' w v a in
    built_with fs (program_value ss xs as') w v a (are_lines (after_all nothing_yet fs) 0 fs (map line_of ss) (ap (λ s. lines_from s 0 fs) (sym e) ∙ h))
