use Rattle.std.proofs.Common.{◌≡◌, ℕ, List, Option, Some, None, slice_get, refl, sym, subst, ◌∙◌}
use Rattle.std.specs.Prelude.{IsNone, OnOk}
use Rattle.audit.specs.FinalRuns.Maximal.{RankOutcome}
use Rattle.explore.specs.Endings.{Ending}
use Rattle.explore.specs.Explored.{FoundOutcomeValue, rank_outcomes}
use Rattle.explore.specs.Found.{endings_of}
use Rattle.explore.specs.Outcomes.{IsAmong}
use Rattle.explore.specs.Searching.{Notes}
use Rattle.explore.proofs.Finds.{none_there}
use Rattle.explore.proofs.Grouping.{found_left_on, no_ending, noted_left_on, place_within}
use Rattle.explore.proofs.found.Found.note.Goals as goal

-- what isn't there is none
is_none : {A : Type 0} (o : Option A) → IsNone o → o ≡ None
is_none None e = refl
is_none (Some x) e = cc

-- an outcome is among some that are the same
among_as : {xs ys : List FoundOutcomeValue} {o p : List RankOutcome} → xs ≡ ys → o ≡ p → IsAmong (rank_outcomes xs) o → IsAmong (rank_outcomes ys) p
among_as {xs} {ys} {o} {p} same same' a =
    subst (λ z. IsAmong (rank_outcomes ys) z) same' (subst (λ (zs : List FoundOutcomeValue). IsAmong (rank_outcomes zs) o) same a)

-- and stands where it did
there_as : {xs ys : List FoundOutcomeValue} {o p : List RankOutcome} (i : ℕ) → xs ≡ ys → o ≡ p → slice_get (rank_outcomes xs) i ≡ Some o
    → slice_get (rank_outcomes ys) i ≡ Some p
there_as {xs} {ys} {o} {p} i same same' at =
    subst (λ z. slice_get (rank_outcomes ys) i ≡ Some z) same' (subst (λ (zs : List FoundOutcomeValue). slice_get (rank_outcomes zs) i ≡ Some o) same at)

pub place_of-requires : goal.place_of-requires
place_of-requires c = λ none a.
    none_there (rank_outcomes c.self.inside.outcomes.items) c.self.inside.by_hash c.hash_of-hash.result c.args.ranks.items c.self.invariant.entries
    (rw c.deref.ensures.value at c.hash_of-hash.ensures)
    (sym c.get.ensures.value ∙ sym c.copied-likely.ensures ∙ is_none c.copied-likely.result none)
    (among_as c.deref-2.ensures.value c.deref-3.ensures.value a)

pub add_left-requires : goal.add_left-requires
add_left-requires c = place_within c.self.inside.outcomes.items c.in-Some.place c.args.ranks.items
    (there_as c.in-Some.place c.deref-2.ensures.value c.deref-3.ensures.value c.in-Some.ensures.some)

pub invariant_of-self : goal.invariant_of-self
invariant_of-self c =
    found_left_on c.add_left.result c.in-Some.place c.args.left.items c.self.inside.outcomes.items c.add_left.new.outcomes.items c.self.inside.by_hash
    c.self.invariant c.add_left.ensures.ok c.add_left.ensures.err

pub add-requires-clause-new : goal.add-requires-clause-new
add-requires-clause-new c = λ l a.
    no_ending c.self.inside.outcomes.items c.args.ranks.items
    (λ b. c.in-None.ensures.none refl (among_as (sym c.deref-2.ensures.value) (sym c.deref-3.ensures.value) b)) l
    (subst (λ (es : List Ending). IsAmong es (record { ranks = c.args.ranks.items; left = l })) (sym c.self.view_is) a)

pub returns-in-Some : goal.returns-in-Some
returns-in-Some c =
    let e : Ending = record { ranks = c.args.ranks.items; left = c.args.left.items } in
    subst (λ (es : List Ending). OnOk c.add_left.result (Notes es e (endings_of c.add_left.new.outcomes.items))) c.self.view_is
    (noted_left_on c.add_left.result c.in-Some.place c.args.ranks.items c.args.left.items c.self.inside.outcomes.items c.add_left.new.outcomes.items
    (there_as c.in-Some.place c.deref-2.ensures.value c.deref-3.ensures.value c.in-Some.ensures.some) c.add_left.ensures.ok)
