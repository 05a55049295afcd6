use Rattle.std.proofs.Common.{arith, ap, ◌∙◌, ◌+◌}
use Rattle.std.proofs.lemmas.List.{length_push}
use Rattle.explore.proofs.Still.{outcome_still, seen_push}
use Rattle.explore.proofs.outcome.outcome_of.Goals as goal

pub returns : goal.returns
returns c =
    let l = c.loop-rank.invariant in
    outcome_still c.args.mode c.args.sim.now c.loop-rank.ends.items c.requires.stands c.requires.is_run c.requires.still
    (omega (arith, l.as_many, l.within, c.loop-rank-test.false, c.ranks-ranks.ensures.value)) l.each

pub loop-rank-preserved : goal.loop-rank-preserved
loop-rank-preserved c =
    let l = c.loop-rank.invariant in
    rw c.in_ok-push.ensures.items
    (record {
      within = omega (arith, c.loop-rank-test.true);
      as_many = length_push c.loop-rank.ends.items c.in_ok-end_of.field-0 ∙ ap (λ n. n + 1) l.as_many;
      each =
          seen_push c.args.mode c.args.sim.now c.loop-rank.rank c.loop-rank.ends.items c.in_ok-end_of.field-0 l.as_many l.each c.in_ok-end_of.ensures;
    })
