-- How what was found says whether a program is safe.
use Rattle.std.proofs.Common.{◌≡◌, ℕ, zero, suc, ◌+◌, ◌<◌, ◌≤◌, Bool, true, false, ◌||◌, List, [], ◌∷◌, length, slice_get, ◌⊎◌, inl, inr, refl, subst, sym, arith}
use Rattle.std.specs.List.{list_any}
use Rattle.std.proofs.lemmas.Bool.{cases_eq, or_from}
use Rattle.audit.specs.FinalRuns.Maximal.{RankOutcome}
use Rattle.explore.specs.Explored.{ExploredValue}
use Rattle.explore.specs.Outcomes.{IsAmong}
use Rattle.rank_language.specs.Block.{Line}
use Rattle.rank_language.specs.Program.{ProgramValue}
use Rattle.runner.specs.Safety.{IsHalting, IsVerdict, is_send, sends_at}
use Rattle.runner.specs.Waits.{IsEmpty, WaitWith, waits_somewhere}
use Rattle.runner.specs.declared.explored.safety.Safety.TheVariants as safety
use Rattle.runner.specs.declared.explored.safety.Unknown.TheVariants as unknown
use Rattle.runner.specs.declared.explored.safety.WaitingRanks.{WaitingRanks}

-- none of the statements before this one is a send
abbrev pub NoneSends : List Line → ℕ → Type 0
NoneSends lines count = (i : ℕ) → i < count → sends_at (slice_get lines i) ≡ false

-- nor is it this one
pub none_further : (lines : List Line) (count : ℕ) → NoneSends lines count → sends_at (slice_get lines count) ≡ false → NoneSends lines (count + 1)
none_further lines count before here i low = go (cases_eq i count)
  where
    go : (i ≡ count) ⊎ (i ≡ count → ⊥) → sends_at (slice_get lines i) ≡ false
    go (inl same) = subst (λ k. sends_at (slice_get lines k) ≡ false) (sym same) here
    go (inr apart) = before i (omega (arith, low, apart))

-- so none is
pub none_sends : (lines : List Line) (count : ℕ) → NoneSends lines count → length lines ≤ count → list_any is_send lines ≡ false
none_sends [] count none all = refl
none_sends (line ∷ lines) count none all =
    or_from (is_send line) (list_any is_send lines) (none 0 (omega (arith, all)))
    (none_sends lines (length lines) (λ i low. none (suc i) (omega (arith, low, all))) (omega arith))

-- one is
pub one_sends : (lines : List Line) (at : ℕ) → sends_at (slice_get lines at) ≡ true → list_any is_send lines ≡ true
one_sends [] at it = (let e : false ≡ true = it in absurd cc)
one_sends (line ∷ lines) zero it = or_left (is_send line) it
  where
    or_left : (b : Bool) → b ≡ true → b || list_any is_send lines ≡ true
    or_left true e = refl
    or_left false e = absurd cc
one_sends (line ∷ lines) (suc at) it = or_right (is_send line) (one_sends lines at it)
  where
    or_right : (b : Bool) → list_any is_send lines ≡ true → b || list_any is_send lines ≡ true
    or_right true e = refl
    or_right false e = e

-- who waits in a run that has one of the outcomes, if some do, says that the program isn't safe
pub is_not_safe : (lines : List ℕ) (program : ProgramValue) (n : ℕ) (found : ExploredValue) (outcome : List RankOutcome) (waits : WaitingRanks)
    → (IsHalting found → ⊥) → waits_somewhere found ≡ true → IsAmong found.outcomes outcome → WaitWith program n lines outcome waits ⊎ IsEmpty waits
    → IsVerdict lines program n found (safety.NotSafe waits)
is_not_safe lines program n found outcome waits unhalted some among (inl wait) =
    IsVerdict.waiting unhalted some (record { outcome = outcome; found = among; wait = wait })
is_not_safe lines program n found outcome waits unhalted some among (inr empty) = IsVerdict.unseen unhalted some empty

-- if all was found and each rank halts, it is safe
pub is_safe : (lines : List ℕ) (program : ProgramValue) (n : ℕ) (found : ExploredValue) → IsHalting found
    → IsVerdict lines program n found safety.Safe
is_safe lines program n found halting = IsVerdict.is_safe halting

-- if all was found and none waits in its send, it isn't known, as some rank doesn't halt
pub is_unhalted : (lines : List ℕ) (program : ProgramValue) (n : ℕ) (found : ExploredValue) → (IsHalting found → ⊥)
    → waits_somewhere found ≡ false → found.complete ≡ true → IsVerdict lines program n found (safety.Unknown unknown.Unhalted)
is_unhalted lines program n found unhalted none complete = IsVerdict.unhalted unhalted none complete

-- nor if not all was found, as the search came to a limit
pub is_stopped : (lines : List ℕ) (program : ProgramValue) (n : ℕ) (found : ExploredValue) → (IsHalting found → ⊥)
    → waits_somewhere found ≡ false → found.complete ≡ false → IsVerdict lines program n found (safety.Unknown unknown.Stopped)
is_stopped lines program n found unhalted none stopped = IsVerdict.stopped unhalted none stopped
