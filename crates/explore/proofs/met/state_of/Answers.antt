use Rattle.std.proofs.Common.{◌≡◌, ◌+◌, ◌*◌, ◌∷◌, length, refl, sym, ap, ◌∙◌, subst, arith, slice_get, take}
use Rattle.std.proofs.lemmas.List.{length-reverse}
use Rattle.explore.specs.LastState.{AreLaid, IsCurrent}
use Rattle.explore.specs.Met.{first_rows}
use Rattle.explore.specs.Parts.{AreParts}
use Rattle.explore.specs.Stems.{first_acts}
use Rattle.explore.proofs.ActLeaves.{laid_stands}
use Rattle.explore.proofs.Joining.{keeps_both}
use Rattle.explore.proofs.LastKnown.{current_more, current_rest, current_still, keeps_itself, laid_current, there_still}
use Rattle.explore.proofs.Stems.{first_all}
use Rattle.explore.proofs.met.state_of.Goals as goal

pub loop-rank-init : goal.loop-rank-init
loop-rank-init c =
    let t = c.args.live.now in
    let s = c.args.sim.now in
    record {
      keeps = c.first_place.ensures.keeps;
      there = rw c.in-Some.is at c.in_ok-first.ensures.there;
      known = λ r low. absurd (omega (arith, low));
      rest =
          λ r less unmarked.
          current_still t s.program (length s.machines) s.run c.args.parts.now c.first_place.new.parts c.args.last.now c.args.last.now r c.first_place.ensures.keeps
          refl refl
          (subst (λ B. IsCurrent t s.program (length s.machines) B c.args.parts.now c.args.last.now r)
          (ap (λ k. first_acts k s.run) c.requires.caught_up ∙ first_all s.run) (c.requires.knows.current r less unmarked));
      caught_up = c.requires.caught_up;
      within = omega arith;
    }

pub find_rank-requires-clause-current : goal.find_rank-requires-clause-current
find_rank-requires-clause-current c = λ unmarked.
    (let more = c.loop-rank-test.true in
    let all = c.ranks-ranks.ensures.value in
    c.loop-rank.invariant.rest c.loop-rank.rank (omega (arith, more, all)) unmarked)

pub returns-then-not-branch-clause-knows : goal.returns-then-not-branch-clause-knows
returns-then-not-branch-clause-knows c =
    let t = c.args.live.now in
    let s = c.args.sim.now in
    let old = c.loop-rank.invariant in
    let caught_up = c.find_rank.ensures.others.shared ∙ old.caught_up in
    record {
      within = omega (arith, caught_up);
      current =
          λ r less unmarked.
          subst (λ B. IsCurrent t s.program (length s.machines) B c.find_rank.new.parts c.find_rank.new.last r)
          (sym (ap (λ k. first_acts k s.run) caught_up ∙ first_all s.run))
          (current_rest t s.program (length s.machines) s.run c.loop-rank.parts c.find_rank.new.parts c.loop-rank.last c.find_rank.new.last c.loop-rank.rank r
          c.find_rank.ensures.keeps c.find_rank.ensures.others c.find_rank.ensures.unchanged unmarked (old.rest r less));
    }

pub loop-rank-preserved : goal.loop-rank-preserved
loop-rank-preserved c =
    let t = c.args.live.now in
    let s = c.args.sim.now in
    let old = c.loop-rank.invariant in
    let more = c.loop-rank-test.true in
    let here = c.find_rank.ensures.current (let one = c.in_ok-find_rank.was in let two = c.if-not-branch.false in cc) in
    record {
      keeps = keeps_both c.args.parts.now c.loop-rank.parts c.find_rank.new.parts old.keeps c.find_rank.ensures.keeps;
      there = there_still c.loop-rank.parts c.find_rank.new.parts c.in-Some.first (first_rows c.args.closes s.run) c.find_rank.ensures.keeps old.there;
      known =
          λ r low.
          current_more t s.program (length s.machines) s.run c.loop-rank.parts c.find_rank.new.parts c.loop-rank.last c.find_rank.new.last c.loop-rank.rank r
          c.find_rank.ensures.keeps c.find_rank.ensures.others here old.known low;
      rest =
          λ r less unmarked.
          current_rest t s.program (length s.machines) s.run c.loop-rank.parts c.find_rank.new.parts c.loop-rank.last c.find_rank.new.last c.loop-rank.rank r
          c.find_rank.ensures.keeps c.find_rank.ensures.others c.find_rank.ensures.unchanged unmarked (old.rest r less);
      caught_up = c.find_rank.ensures.others.shared ∙ old.caught_up;
      within = omega (arith, more);
    }

pub returns-clause-parts : goal.returns-clause-parts
returns-clause-parts c =
    let t = c.args.live.now in
    let s = c.args.sim.now in
    let within = c.loop-rank.invariant.within in
    let done = c.loop-rank-test.false in
    let all = c.ranks-ranks.ensures.value in
    let first = first_rows c.args.closes s.run in
    let laid =
    laid_current t s.program (length s.machines) s.run c.loop-rank.parts c.loop-rank.last c.in-Some.first first c.loop-rank.invariant.there c.loop-rank.rank
    c.loop-rank.invariant.known in (
      laid.0,
      subst (λ is. AreParts c.loop-rank.parts is laid.0)
          (sym (c.in_ok-new.ensures ∙ ap (λ z. c.in-Some.first ∷ z) (c.first.ensures ∙ ap (take (2 * c.ranks-ranks.result)) c.renew.ensures.places
          ∙ ap (λ k. take (2 * k) c.loop-rank.last.places) (omega (arith, within, done)))))
          laid.1,
      laid_stands c.args.closes t s.program (length s.machines) s.run laid.0 c.requires.table c.ranks-ranks.ensures.stands.is_run
          (subst (λ n. AreLaid t s.program (length s.machines) s.run first n laid.0) (omega (arith, within, done, all)) laid.2),
    )

pub returns-clause-knows : goal.returns-clause-knows
returns-clause-knows c =
    let t = c.args.live.now in
    let s = c.args.sim.now in
    let within = c.loop-rank.invariant.within in
    let done = c.loop-rank-test.false in
    let all = c.ranks-ranks.ensures.value in
    let long : length c.acts.result.now ≡ length s.run = ap length c.acts.ensures ∙ length-reverse s.run in
    let shared = c.renew.ensures.shared ∙ long in
    record {
      within = omega (arith, shared);
      current =
          λ r less unmarked.
          subst (λ B. IsCurrent t s.program (length s.machines) B c.loop-rank.parts c.renew.new.self r)
          (sym (ap (λ k. first_acts k s.run) shared ∙ first_all s.run))
          (current_still t s.program (length s.machines) s.run c.loop-rank.parts c.loop-rank.parts c.loop-rank.last c.renew.new.self r
          (keeps_itself c.loop-rank.parts) (ap (λ z. slice_get z (2 * r)) c.renew.ensures.places) (ap (λ z. slice_get z (2 * r + 1)) c.renew.ensures.places)
          (c.loop-rank.invariant.known r (omega (arith, less, within, done, all))));
    }
