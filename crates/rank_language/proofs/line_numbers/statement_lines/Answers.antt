use Rattle.std.proofs.Common.{sym, subst}
use Rattle.rank_language.specs.StandOn.{StandOn}
use Rattle.rank_language.proofs.Standing.{all_stand}
use Rattle.rank_language.proofs.line_numbers.statement_lines.Goals as goal

pub returns : goal.returns
returns c = λ forms reads. subst (StandOn c.args.text.now forms) (sym c.in_ok-lines.ensures) (all_stand c.args.text.now forms reads)
