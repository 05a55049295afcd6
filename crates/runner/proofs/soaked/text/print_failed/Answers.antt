use Rattle.std.proofs.Common.{codes, string_bytes}
use Rattle.runner.specs.SoakText.{no_report_text}
use Rattle.runner.proofs.Soaks.{in_parts}
use Rattle.runner.proofs.soaked.text.print_failed.Goals as goal

-- the words are written part by part
pub returns : goal.returns
returns c =
    in_parts (string_bytes c.args.text.now) (no_report_text c.args.number) c.args.why.now (codes "\n") c.args.script.now _ _ _ _
    c.in_ok-write.ensures.bytes c.in_ok-push_str.ensures.bytes c.in_ok-push_str-2.ensures.bytes c.in_ok-push_str-3.ensures.bytes
