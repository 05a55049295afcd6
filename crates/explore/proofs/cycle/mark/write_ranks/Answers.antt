use Rattle.std.proofs.Common.{◌≡◌, length, ap, sym, subst, ◌∙◌, arith}
use Rattle.std.proofs.Math.Numerals.{add-one}
use Rattle.crash_free.specs.Standing.{no_rows, behind, and_number, and_own, and_mail, and_rank, and_below, StandsAt}
use Rattle.crash_free.proofs.Appending.{ranks_behind}
use Rattle.explore.proofs.cycle.mark.write_ranks.Goals as goal

pub loop-rank-preserved : goal.loop-rank-preserved
loop-rank-preserved c = record {
  written = c.in_ok-write_mail.ensures ∙ ap (λ z. and_mail c.args.sim.now z c.loop-rank.rank) (c.in_ok-write_own.ensures
      ∙ ap (λ z. and_own c.args.live.now c.args.sim.now z c.loop-rank.rank) c.loop-rank.invariant.written)
      ∙ ap (and_below (and_rank c.args.live.now c.args.sim.now) no_rows) (sym (add-one c.loop-rank.rank));
  low = omega (arith, c.loop-rank-test.true);
}

pub returns : goal.returns
returns c =
    let s = c.args.sim.now in
    let n = length s.machines in
    let all : c.loop-rank.rank ≡ n = omega (arith, c.loop-rank-test.false, c.loop-rank.invariant.low, c.ranks-ranks.ensures.value) in
    let written = c.loop-rank.invariant.written ∙ ap (and_below (and_rank c.args.live.now s) no_rows) all in
    subst (λ rows. StandsAt s.program n s.run rows)
    (ranks_behind c.args.live.now s (and_number no_rows (length s.run)) n
    ∙ ap (λ rows. behind (and_number no_rows (length s.run)) rows) (sym written))
    (c.in_ok-write_length.ensures.stands c.args.live.now c.requires)
