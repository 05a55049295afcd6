use Rattle.std.proofs.lemmas.Result.{IfOk-weaker}
use Rattle.rank_text.specs.Checker.SeenLines.{forms_seen}
use Rattle.c_program.specs.Whole.{IsCText, c_text}
use Rattle.c_program.proofs.Whole.{is_c_text}
use Rattle.std.proofs.Common.{◌≡◌}
use Rattle.c_program.proofs.text.translated.Goals as goal

pub returns : goal.returns
returns c =
    let forms = forms_seen c.args.forms.now in
    let shown = c.as_slice.result.now in
    IfOk-weaker _ (λ text. text.items ≡ c_text c.args.synchronous shown forms) (λ text. IsCText c.args.synchronous c.args.text.now text.items)
    (λ text e. is_c_text _ _ _ forms c.in_ok-numbers.numbers.items shown c.as_slice.ensures.value c.requires (c.in_ok-numbers.ensures forms c.requires) e)
    c.text_of.ensures
