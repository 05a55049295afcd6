use Rattle.std.proofs.Common.{Some, ap, subst, ◌∙◌}
use Rattle.crash_free.specs.Sim.{start_of}
use Rattle.explore.specs.Shown.{MissesShown}
use Rattle.explore.proofs.Shown.{made_more, may_on, miss_by, miss_of, misses_none, misses_whole}
use Rattle.explore.proofs.marking.misses_shown.Goals as goal

pub follow-requires-clause-may : goal.follow-requires-clause-may
follow-requires-clause-may c =
    may_on c.args.program.now c.args.ranks c.loop-at.sim c.args.acts.now c.loop-at.at c.act_at.result.now c.requires.run c.act_at.ensures
    c.loop-at.invariant.made c.loop-at.invariant.program c.loop-at.invariant.ranks

pub returns-then-past-clause-yes : goal.returns-then-past-clause-yes
returns-then-past-clause-yes c = λ e.
    (let both = c.in_ok-past.ensures.yes (c.in-Some.is ∙ ap (λ b. Some b) c.if-past.true) in
    misses_whole (start_of c.args.program.now c.args.ranks) c.args.acts.now c.loop-at.at c.act_at.result.now c.loop-at.sim.run c.act_at.ensures
    c.loop-at.invariant.made both.0
    (miss_by c.args.program.now c.args.ranks c.loop-at.sim c.act_at.result.now.rank c.loop-at.invariant.program c.loop-at.invariant.ranks both.1))

pub loop-at-preserved : goal.loop-at-preserved
loop-at-preserved c =
    let run = rw c.in-Some.is at c.in_ok-past.ensures.run in
    record {
      made =
          made_more c.args.acts.now c.loop-at.at c.act_at.result.now c.loop-at.sim.run c.follow.new.sim.run c.act_at.ensures c.loop-at.invariant.made run;
      program = c.in_ok-past.ensures.alike.program ∙ c.loop-at.invariant.program;
      ranks = c.in_ok-past.ensures.alike.ranks ∙ c.loop-at.invariant.ranks;
      stands = c.in_ok-past.ensures.stands;
      knows = rw c.in-Some.is at c.in_ok-past.ensures.knows;
      none =
          λ x.
          misses_none (start_of c.args.program.now c.args.ranks) c.loop-at.sim.run c.act_at.result.now c.loop-at.invariant.none
          (λ miss shown.
          c.in_ok-past.ensures.no (c.in-Some.is ∙ ap (λ b. Some b) c.if-past.false) miss
          (miss_of c.args.program.now c.args.ranks c.loop-at.sim c.act_at.result.now.rank c.loop-at.invariant.program c.loop-at.invariant.ranks shown))
          (subst (λ C. MissesShown (start_of c.args.program.now c.args.ranks) C) run x);
    }
