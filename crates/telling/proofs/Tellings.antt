-- The telling program, put together.
use Rattle.std.proofs.Common.{◌≡◌, ℕ, List}
use Rattle.rank_text.specs.Checker.Faults.{IsText}
use Rattle.rank_text.specs.Grammar.Forms.{Form}
use Rattle.rank_text.specs.Printer.Canonical.{program_text}
use Rattle.rank_language.specs.Correct.{IsProgramOf}
use Rattle.rank_language.specs.Program.{ProgramValue}
use Rattle.rank_language.specs.StandOn.{StandOn}
use Rattle.telling.specs.Free.{HasFreeName}
use Rattle.telling.specs.Telling.{IsTelling, telling_forms, telling_lines}
use Rattle.telling.specs.declared.added.Added.{Added}
use Rattle.telling.specs.declared.program.Telling.{Telling}

-- a program of the telling statements, and their lines
pub is_telling : (t : Telling) (text : List ℕ) (forms : List Form) (added : Added) (p : ProgramValue) (lines : List ℕ) → IsText text forms
    → HasFreeName forms added → IsProgramOf (program_text (telling_forms t added forms)) p
    → (numbers : List ℕ) × StandOn text forms numbers × (lines ≡ telling_lines t added numbers forms) → IsTelling t text p lines
is_telling t text forms added p lines reads names program stands = record {
  forms = forms;
  reads = reads;
  added = added;
  names = names;
  program = program;
  numbers = stands.0;
  stand = stands.1;
  lined = stands.2;
}
