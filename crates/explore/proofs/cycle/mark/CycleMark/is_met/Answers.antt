use Rattle.std.proofs.Common.{◌≡◌, ◌<◌, Bool, true, Result, Ok, length, ap, subst, ◌∙◌}
use Rattle.std.proofs.lemmas.List.{length-reverse}
use Rattle.explore.specs.Cycles.{StandsIn}
use Rattle.explore.proofs.Cycles.{for_ever}
use Rattle.explore.proofs.cycle.mark.CycleMark.is_met.Goals as goal

-- an answer is what it answers
of_ok : {E : Type 0} (b : Bool) → ◌≡◌ {A = Result Bool E} (Ok b) (Ok true) → b ≡ true
of_ok b e = cc

pub returns-then-acts-self-clause-yes : goal.returns-then-acts-self-clause-yes
returns-then-acts-self-clause-yes c = λ e.
    (let s = c.args.sim.now in
    let mark = c.args.self.now in
    let now = subst (λ rows. StandsIn s rows s.run) (c.is_same.ensures (of_ok c.is_same.result e)) c.in_ok-write_ranks.ensures in
    for_ever c.args.mode s mark.standing mark.made c.requires.is_run c.requires.from now
    (subst (λ k. mark.made < k) (ap length c.acts.ensures ∙ length-reverse s.run) c.if-acts-self.true))
