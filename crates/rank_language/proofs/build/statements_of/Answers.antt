use Rattle.std.proofs.Common.{arith}
use Rattle.rank_language.proofs.Ends.{resolvable_at}
use Rattle.rank_language.proofs.build.statements_of.Goals as goal

pub resolve_form-requires : goal.resolve_form-requires
resolve_form-requires c =
    record { resolvable = resolvable_at _ c.args.forms.now _ _ (omega arith) c.index-forms-position.is c.requires.resolvable }
