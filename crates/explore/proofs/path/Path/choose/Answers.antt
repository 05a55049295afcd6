use Rattle.std.proofs.Common.{◌≡◌, ◌-◌, ◌∙◌, slice_set, slice_index_or, refl, sym, ap}
use Rattle.crash_free.specs.Sim.{Allows, SimValue}
use Rattle.explore.specs.Chosen.{KeepsChoices}
use Rattle.explore.proofs.Chosen.{choice_made, choice_passed}
use Rattle.explore.proofs.Counting.{counts_chosen, on_value}
use Rattle.explore.proofs.path.Path.choose.Goals.{then-others+in_ok-push, else-others}
use Rattle.explore.proofs.path.Path.choose.Goals as goal

pub returns-clause-counts : goal.returns-clause-counts
returns-clause-counts c =
    let sim : c.if-others.self.sim ≡ c.act.new.self = elim c.if-others.branch as (λ _. c.if-others.self.sim ≡ c.act.new.self) [
      | then-others+in_ok-push w ↦ ap (λ z. z.sim) w.self-is
      | else-others w ↦ ap (λ z. z.sim) w.self-is
    ] in
    let left : c.if-others.self.left ≡ c.args.self.now.left = elim c.if-others.branch as (λ _. c.if-others.self.left ≡ c.args.self.now.left) [
      | then-others+in_ok-push w ↦ ap (λ z. z.left) w.self-is
      | else-others w ↦ ap (λ z. z.left) w.self-is
    ] in
    counts_chosen c.args.self.now.sim c.if-others.self.sim c.args.chosen.rank c.args.chosen.choice c.args.self.now.left
    (slice_set c.if-others.self.left c.from.result (slice_index_or c.if-others.self.left c.from.result 0 - 1)) c.ranks.ensures.stands
    (rw sim c.act.ensures.stands) c.requires.at
    (rw sim (on_value c.act.result c.act.ensures.ok (sym c.is_err.ensures.value ∙ c.if-is_err.false))) c.requires.left
    (rw (left, c.from.ensures) refl)

pub returns-clause-choices : goal.returns-clause-choices
returns-clause-choices c = λ mode free.
    (let allowed : (s : SimValue) → s ≡ c.act.new.self → Allows c.args.self.now.sim c.args.chosen.rank c.args.chosen.choice s = λ s e. rw e
    (on_value c.act.result c.act.ensures.ok (sym c.is_err.ensures.value ∙ c.if-is_err.false)) in
    elim c.if-others.branch as (λ _. KeepsChoices mode c.args.self.now c.if-others.self) [
      | then-others+in_ok-push w ↦
          (let sim : c.if-others.self.sim ≡ c.act.new.self = ap (λ z. z.sim) w.self-is in
          choice_made mode c.args.self.now c.if-others.self c.args.chosen c.noted-noted.result c.ranks.ensures.stands (rw sim c.act.ensures.stands)
          c.requires.at free (allowed c.if-others.self.sim sim) (rw c.as_sim.ensures at c.noted-noted.ensures)
          (ap (λ z. z.choices.items) w.self-is ∙ w.in_ok-push.ensures.items))
      | else-others w ↦
          (let sim : c.if-others.self.sim ≡ c.act.new.self = ap (λ z. z.sim) w.self-is in
          choice_passed mode c.args.self.now c.if-others.self c.args.chosen c.ranks.ensures.stands (rw sim c.act.ensures.stands) c.requires.at
          (allowed c.if-others.self.sim sim) (ap (λ z. z.choices.items) w.self-is))
    ])
