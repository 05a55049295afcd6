use Rattle.std.proofs.Common.{◌≡◌, ◌+◌, [], Some, length, map, ap, sym, ◌∙◌}
use Rattle.rank_text.specs.Checker.SeenLines.{arrays_seen, forms_seen}
use Rattle.rank_language.specs.Seen.{line_of}
use Rattle.rank_language.specs.Program.{program_value}
use Rattle.rank_language.specs.Ends.{lines_from}
use Rattle.rank_language.specs.Compact.{AreCompact}
use Rattle.rank_language.proofs.Compacting.{lines_length}
use Rattle.rank_language.proofs.Built.{IsBuilt, built, scope_with, tables_resolvable}
use Rattle.rank_language.proofs.program.Program.build.Goals as goal

pub statements_of-requires : goal.statements_of-requires
statements_of-requires c =
    record {
      resolvable = rw (c.deref.ensures.value, c.deref-2.ensures.value, c.deref-3.ensures.value)
          (tables_resolvable _ c.args.draft.variables.items c.args.draft.arrays.items c.requires.whole c.requires.tables.variables
          c.requires.tables.arrays);
    }

-- the statements were found by the tables of the text
found : (c : goal.In_ok-compacts)
    → lines_from (scope_with c.args.draft.variables.items (arrays_seen c.args.draft.arrays.items) []) 0 (forms_seen c.args.draft.forms.items)
    ≡ Some (map line_of c.in_ok-statements.statements.items)
found c =
    rw (← c.deref.ensures.value, ← c.deref-2.ensures.value, ← c.deref-3.ensures.value) (c.in_ok-statements.ensures {u = tt})

-- they are the program of the text's statements
stands : (c : goal.In_ok-compacts)
    → IsBuilt (forms_seen c.args.draft.forms.items)
    (program_value c.in_ok-statements.statements.items c.args.draft.variables.items c.args.draft.arrays.items)
stands c =
    built (forms_seen c.args.draft.forms.items) c.in_ok-statements.statements.items c.args.draft.variables.items c.args.draft.arrays.items
    c.requires.whole c.requires.tables.variables c.requires.tables.arrays (found c)

pub invariant_of-result : goal.invariant_of-result
invariant_of-result c =
    let each : AreCompact c.in_ok-compacts.compacts.items (map line_of c.in_ok-statements.statements.items) =
    rw (← c.deref-4.ensures.value) (c.in_ok-compacts.ensures {u = tt}).each in
    let count : length c.in_ok-compacts.compacts.items ≡ length c.in_ok-statements.statements.items + 1 =
    rw (← c.deref-4.ensures.value) (c.in_ok-compacts.ensures {u = tt}).count in
    record {
      stands = (stands c).stands;
      each = each;
      count = count ∙ ap (λ k. k + 1) (sym (lines_length c.in_ok-statements.statements.items));
    }

pub returns : goal.returns
returns c =
    let found' : lines_from (scope_with c.args.draft.variables.items (arrays_seen c.args.draft.arrays.items) []) 0 (forms_seen c.args.draft.forms.items)
    ≡ Some (map line_of c.in_ok-statements.statements.items) =
    rw (← c.deref.ensures.value, ← c.deref-2.ensures.value, ← c.deref-3.ensures.value) (c.in_ok-statements.ensures {u = tt}) in
    (built (forms_seen c.args.draft.forms.items) c.in_ok-statements.statements.items c.args.draft.variables.items c.args.draft.arrays.items
    c.requires.whole c.requires.tables.variables c.requires.tables.arrays found').program
