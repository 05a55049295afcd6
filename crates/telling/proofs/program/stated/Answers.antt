use Rattle.std.proofs.Common.{ℕ, List, length, ap, ◌∙◌}
use Rattle.rank_text.specs.Checker.SeenLines.{forms_seen}
use Rattle.telling.specs.Telling.{telling_lines}
use Rattle.telling.proofs.Putting.{numbered}
use Rattle.telling.proofs.program.stated.Goals as goal

-- there is a number for each statement
pub telling_forms-requires : goal.telling_forms-requires
telling_forms-requires c =
    ap (λ (ns : List ℕ). length ns) c.as_slice.ensures.value
    ∙ numbered c.args.text.now c.args.forms.now c.in_ok-numbers.numbers.items (c.in_ok-numbers.ensures (forms_seen c.args.forms.now) c.requires)

-- the lines are those of statements on the lines that were found
pub returns-clause-lines : goal.returns-clause-lines
returns-clause-lines c = (
  c.in_ok-numbers.numbers.items,
  c.in_ok-numbers.ensures (forms_seen c.args.forms.now) c.requires,
  c.in_ok-all.ensures.lines ∙ ap (λ (ns : List ℕ). telling_lines c.args.telling c.args.added.now ns (forms_seen c.args.forms.now)) c.as_slice.ensures.value,
)
