use Rattle.std.proofs.Common.{subst, ap, ◌≡◌, ◌++◌, OnOk, string_bytes}
use Rattle.std.specs.Prelude.{codes}
use Rattle.std.specs.Fmt.{styled_text}
use Rattle.run_shown.proofs.TraceLaws.ColumnLemmas.{head_from}
use Rattle.run_shown.proofs.trace.columns.put_head.Goals as goal

pub returns : goal.returns
returns c =
    subst (λ t. OnOk c.writeln.result (string_bytes c.writeln.new.self ≡ string_bytes c.args.to.now ++ t))
    (head_from c.args.width _ (ap (λ s. styled_text s (codes "clock")) c.laid_out.ensures) c.requires) c.writeln.ensures.bytes
