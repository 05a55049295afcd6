use Rattle.rank_language.specs.SeenTables.{tables_seen}
use Rattle.rank_language.proofs.Naming.{placed_each, named_more, named_all}
use Rattle.rank_language.proofs.name_form.name_forms.Goals as goal

pub name_form-requires : goal.name_form-requires
name_form-requires c =
    placed_each _ _ c.args.statements.now c.loop-statement.statement-index _ c.loop-statement-test.true c.statement-item.is c.requires

pub loop-statement-preserved : goal.loop-statement-preserved
loop-statement-preserved c =
    named_more (tables_seen c.args.tables) c.args.statements.now c.loop-statement.statement-index _ c.loop-statement.forms.items _
    c.in_ok-form.form c.loop-statement-test.true c.statement-item.is c.loop-statement.invariant (c.in_ok-form.ensures {u = tt})
    (c.in_ok-push.ensures {u = tt}).items

pub returns : goal.returns
returns c =
    named_all (tables_seen c.args.tables) c.args.statements.now c.loop-statement.statement-index c.loop-statement.forms.items
    c.loop-statement-test.false c.loop-statement.invariant
