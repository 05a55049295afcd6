use Rattle.std.proofs.Common.{◌≡◌, map, take}
use Rattle.rank_text.specs.Checker.SeenLines.{forms_seen}
use Rattle.rank_language.specs.SeenTables.{tables_seen}
use Rattle.rank_language.proofs.Naming.{statement_named}
use Rattle.rank_language.proofs.name_form.name_forms.Given as goal

-- the statements so far have their names
abbrev pub invariant-loop-statement : goal.invariant-loop-statement
invariant-loop-statement l =
    forms_seen l.forms.items ≡ map (statement_named (tables_seen l.tables)) (take l.statement-index l.statements)
