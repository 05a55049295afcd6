use Rattle.std.proofs.Common.{◌∙◌, arith}
use Rattle.rank_text.proofs.LinesLaws.NumberLaws.{at_end, value_more}
use Rattle.rank_text.proofs.lines.number.wide_decimal.Goals as goal

pub loop-rest-preserved : goal.loop-rest-preserved
loop-rest-preserved c = record {
  number =
      value_more _ _ _ _ _ c.saturating_mul.ensures c.saturating_add-value.ensures c.in-len1-up.len_at_least c.in_ok-digit.ensures.digit
      ∙ c.loop-rest.invariant.number;
  fits = let e = c.saturating_add-value.ensures in omega arith;
}

pub returns : goal.returns
returns c = at_end _ _ c.in_default.len_below c.loop-rest.invariant.fits ∙ c.loop-rest.invariant.number
