use Rattle.std.proofs.Common.{◌-◌, ◌∙◌, length, slice_get, ap, sym, arith}
use Rattle.audit.proofs.Counting.{last_end, no_end}
use Rattle.audit.proofs.counts.ActCounts.total.Goals as goal

pub returns-in-Some : goal.returns-in-Some
returns-in-Some c = λ events counted.
    let whole = c.as_slice.ensures.value ∙ c.self.view_is ∙ counted in
    let all = last_end 0 events c.in-Some.end.now (sym (ap (λ xs. slice_get xs (length xs - 1)) whole) ∙ sym c.in-Some.ensures.value) in
    omega (arith, all)

pub returns-in-None : goal.returns-in-None
returns-in-None c = λ events counted.
    let whole = c.as_slice.ensures.value ∙ c.self.view_is ∙ counted in
    no_end events (sym (ap (λ xs. slice_get xs (length xs - 1)) whole) ∙ sym c.in-None.ensures.value)
