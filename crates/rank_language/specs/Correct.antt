-- Which program a text has (docs/LANGUAGE.md: forms, meaning of one step, next positions).
use Rattle.std.specs.Prelude.{◌≡◌, ℕ, ◌≤◌, List, Some, length, map}
use Rattle.limits.specs.Limits.{most_lines, most_variables, most_arrays}
use Rattle.rank_text.specs.Grammar.Forms.{Form}
use Rattle.rank_text.specs.Checker.Faults.{IsText}
use Rattle.rank_text.specs.Checker.Scope.{nothing_yet, after_all, IsWhole}
use Rattle.rank_language.specs.Block.{lines_at}
use Rattle.rank_language.specs.Shape.{step_of}
use Rattle.rank_language.specs.Program.{ProgramValue, block_of, AllPlaced, AllSized}
use Rattle.rank_language.specs.Named.{forms_of}
use Rattle.rank_language.specs.Resolved.{all_resolved}

-- The program of statements by name: it declares what they declare, it does the same in the same order with places for
-- names, and each of its lines leads where the tree of the statements says.
pub record IsOfForms (forms : List Form) (p : ProgramValue) : Type 0 where
  pub variables : p.variables ≡ (after_all nothing_yet forms).variables
  pub arrays : p.arrays ≡ (after_all nothing_yet forms).arrays
  pub statements : all_resolved (after_all nothing_yet forms) forms ≡ Some (map step_of p.statements)
  pub targets : p.statements ≡ lines_at 0 (block_of p)

-- What holds of every program: its lines are those of its tree, their places are in its tables, there are no more lines, variables
-- and arrays than a text may have, no array has more items than it may or none, and with names for its places it is the program of a
-- whole text's statements.
pub record IsProgram (p : ProgramValue) : Type 0 where
  pub shaped : p.statements ≡ lines_at 0 (block_of p)
  pub placed : AllPlaced (length p.variables) (length p.arrays) p.statements
  pub few : length p.statements ≤ most_lines
  pub few_variables : length p.variables ≤ most_variables
  pub few_arrays : length p.arrays ≤ most_arrays
  pub sized : AllSized p.arrays
  pub whole : IsWhole (forms_of p)
  pub program : IsOfForms (forms_of p) p

-- The program of a text: that of the statements which the text has by its grammar.
pub record IsProgramOf (text : List ℕ) (p : ProgramValue) : Type 0 where
  pub forms : List Form
  pub reads : IsText text forms
  pub program : IsOfForms forms p
