-- What was found at the end of a search: outcomes, and what was never received in runs that have them.
use Rattle.std.proofs.Common.{◌≡◌, ℕ, Bool, true, false, List, [], Some, slice_get, refl, sym, ap, subst, ◌∙◌}
use Rattle.rank_language.specs.Program.{ProgramValue}
use Rattle.crash_free.specs.declared.leftover.Leftover.{Leftover}
use Rattle.crash_free.specs.Leftovers.{left_in}
use Rattle.crash_free.specs.Sim.{start_of}
use Rattle.audit.specs.FinalRuns.Maximal.{RankOutcome}
use Rattle.explore.specs.Sending.{IsPossibleUnder}
use Rattle.explore.specs.Endings.{AreLeftovers, Ending, MayEndAs}
use Rattle.explore.specs.Exploring.{AlwaysEndsIn}
use Rattle.explore.specs.Found.{AreGrouped}
use Rattle.explore.specs.Met.{Kept}
use Rattle.explore.specs.Outcomes.{AreAll, IsAmong}
use Rattle.explore.specs.Searching.{Searches}
use Rattle.explore.proofs.Ending.{all_end}
use Rattle.explore.proofs.Looking.{all_searched, each_found}
use Rattle.explore.specs.declared.send_mode.SendMode.{SendMode}

module _ (mode : SendMode) (program : ProgramValue) (n : ℕ) (endings : List Ending) (outcomes : List (List RankOutcome)) (left : List (List (List Leftover)))
    (met : Kept) (grouped : AreGrouped endings outcomes left) where
  -- the program may have each outcome
  pub outcome_possible : ((e : Ending) → IsAmong endings e → MayEndAs mode program n e) → (o : List RankOutcome) → IsAmong outcomes o → IsPossibleUnder mode program n o
  outcome_possible possible o a =
      let some = grouped.some o a in
      let may = possible (record { ranks = o; left = some.0 }) some.1 in
      (may.0, may.1.outcome)

  -- once nothing is left, each ending that the program may have was found
  none_missing : Searches mode program n endings [] met false → (e : Ending) → MayEndAs mode program n e → IsAmong endings e
  none_missing search = each_found mode program n endings met search

  -- so the outcomes found are all
  pub all_outcomes : Searches mode program n endings [] met false → AreAll mode program n outcomes
  all_outcomes search =
      record {
        possible = outcome_possible search.possible;
        no_others =
            λ o may.
            (let there =
            grouped.each (record { ranks = o; left = left_in n may.0 })
            (none_missing search (record { ranks = o; left = left_in n may.0 }) (may.0, record { outcome = may.1; left = refl })) in
            (there.0, there.2));
      }

  -- and what is listed of each is what was never received in runs that have it
  pub are_leftovers : (all : Bool) → ((e : Ending) → IsAmong endings e → MayEndAs mode program n e)
      → (all ≡ true → Searches mode program n endings [] met false) → AreLeftovers mode program n all outcomes left
  are_leftovers all possible search =
      record {
        as_many = grouped.as_many;
        some_run = λ i o listed l at listed_at a. possible (record { ranks = o; left = l }) (grouped.there i o listed l at listed_at a);
        no_others = no_others;
        distinct = grouped.once;
      }
    where
      no_others : all ≡ true → (i : ℕ) (o : List RankOutcome) (listed : List (List Leftover)) (l : List Leftover) → slice_get outcomes i ≡ Some o
          → slice_get left i ≡ Some listed → MayEndAs mode program n (record { ranks = o; left = l }) → IsAmong listed l
      no_others is i o listed l at listed_at may =
          let there = grouped.each (record { ranks = o; left = l }) (none_missing (search is) (record { ranks = o; left = l }) may) in
          let same : i ≡ there.0 = grouped.distinct i there.0 o at there.2 in
          let both : Some there.1 ≡ Some listed = sym there.3 ∙ ap (λ j. slice_get left j) (sym same) ∙ listed_at in
          let one : there.1 ≡ listed = cc in
          subst (λ z. IsAmong z l) one there.4

  -- and however the ranks go on, they come to one of the outcomes, if no state comes back
  pub all_orders_end : Searches mode program n endings [] met false → met.closes ≡ false
      → AlwaysEndsIn mode (start_of program n) n (IsAmong outcomes) []
  all_orders_end search none =
      all_end mode program n (IsAmong endings) (IsAmong outcomes) (λ e a. (let there = grouped.each e a in (there.0, there.2)))
      (all_searched mode program n endings met search none)
