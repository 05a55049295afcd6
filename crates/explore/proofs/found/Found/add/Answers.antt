use Rattle.std.proofs.Common.{◌≡◌, List, [], ◌∷◌, ◌++◌, refl, ap, sym, subst, ◌∙◌}
use Rattle.explore.specs.Endings.{Ending}
use Rattle.explore.specs.Explored.{FoundOutcomeValue, rank_outcomes}
use Rattle.explore.specs.Found.{AreFound, endings_of}
use Rattle.explore.specs.Outcomes.{IsAmong}
use Rattle.explore.specs.Searching.{Notes}
use Rattle.explore.proofs.Finds.{entries_kept, entries_more, found_same}
use Rattle.explore.proofs.Grouping.{found_more, noted_new, nowhere}
use Rattle.explore.proofs.found.Found.add.Goals as goal

pub invariant_of-self : goal.invariant_of-self
invariant_of-self c = found_same c.self.inside.outcomes.items c.self.inside.by_hash c.insert.new.self c.self.invariant c.in_err-insert.ensures.err

pub invariant_of-self-in_err-push : goal.invariant_of-self-in_err-push
invariant_of-self-in_err-push c =
    let found = c.self.invariant in
    subst (λ (xs : List FoundOutcomeValue). AreFound xs c.insert.new.self) (sym c.in_err-push.ensures.items)
    (record {
      entries =
          entries_kept (rank_outcomes c.self.inside.outcomes.items) c.self.inside.by_hash c.insert.new.self c.args.hash c.len.result found.entries
          c.in_ok-insert.ensures.updates.0;
      distinct = found.distinct;
      some = found.some;
      once = found.once;
    })

-- the outcome that is new
made : (c : goal.In_ok-push) → FoundOutcomeValue
made c = record { ranks = c.args.ranks.items; choices = c.args.choices.now; left = c.args.left.items ∷ [] }

-- it comes behind the others
pushed : (c : goal.In_ok-push) → c.push.new.self.items ≡ c.self.inside.outcomes.items ++ made c ∷ []
unfolding made
pushed c = c.in_ok-push.ensures.items ∙ ap (λ (x : FoundOutcomeValue). c.self.inside.outcomes.items ++ x ∷ []) c.in_ok-outcome.ensures

pub invariant_of-self-2 : goal.invariant_of-self-2
unfolding made
invariant_of-self-2 c =
    let xs = c.self.inside.outcomes.items in
    let found = c.self.invariant in
    let kept =
    entries_kept (rank_outcomes xs) c.self.inside.by_hash c.insert.new.self c.args.hash c.len.result found.entries c.in_ok-insert.ensures.updates.0 in
    let none : IsAmong (rank_outcomes xs) c.args.ranks.items → ⊥ =
    nowhere xs c.self.inside.by_hash c.args.ranks.items found
    (λ l a. c.requires.new l (subst (λ (es : List Ending). IsAmong es (record { ranks = c.args.ranks.items; left = l })) c.self.view_is a)) in
    subst (λ (ys : List FoundOutcomeValue). AreFound ys c.insert.new.self) (sym (pushed c))
    (found_more xs (made c) c.args.left.items c.self.inside.by_hash c.insert.new.self c.args.hash c.len.result found refl
    (entries_more (rank_outcomes xs) c.args.ranks.items c.insert.new.self c.args.hash c.len.result kept c.requires.hash c.in_ok-insert.ensures.updates.1) none)

pub returns : goal.returns
unfolding made
returns c =
    let e : Ending = record { ranks = c.args.ranks.items; left = c.args.left.items } in
    subst (λ (es : List Ending). Notes es e (endings_of c.push.new.self.items)) c.self.view_is
    (subst (λ (ys : List FoundOutcomeValue). Notes (endings_of c.self.inside.outcomes.items) e (endings_of ys)) (sym (pushed c))
    (noted_new c.self.inside.outcomes.items (made c) c.args.left.items refl))
