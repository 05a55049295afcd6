use Rattle.std.proofs.Common.{◌∙◌, sym, arith}
use Rattle.std.proofs.lemmas.Bool.{false≢true}
use Rattle.audit.proofs.Outcomes.{one_more}
use Rattle.audit.proofs.auditor.Auditor.verdict.Goals.{in-None, in-Some-NotEligible}
use Rattle.audit.proofs.auditor.Auditor.verdict.Goals as goal

pub loop-rank-preserved : goal.loop-rank-preserved
loop-rank-preserved c = elim c.match-fault_of.branch [
  | in-None w ↦ record {
    reached = λ none.
        one_more c.args.self.now.sim c.args.goal.now.outcome.now c.loop-rank.rank (c.loop-rank.invariant.reached (sym w.waits-is ∙ none))
        w.in-None.ensures.none;
    missed = λ waits. c.loop-rank.invariant.missed (sym w.waits-is ∙ waits);
  }
  | in-Some-NotEligible w ↦ record {
    reached = λ none. absurd (false≢true (sym none ∙ w.waits-is));
    missed = λ waits rows ends reached.
        let low = c.loop-rank-test.true in
        let end = c.ranks-rank-end.ensures.value in
        w.in-Some-NotEligible.ensures.some (omega (arith, low, end, rows)) (omega (arith, low, end, ends)) (reached c.loop-rank.rank (omega (arith, low, end)));
  }
]

pub returns-else-waits-clause-ok : goal.returns-else-waits-clause-ok
returns-else-waits-clause-ok c = λ r low.
    let end = c.ranks-rank-end.ensures.value in
    let past = c.loop-rank-test.false in
    c.loop-rank.invariant.reached c.if-waits.false r (omega (arith, end, past, low))
