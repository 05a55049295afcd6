-- How a search finds an outcome among those that it has: by a hash (SipHash-1-3: Aumasson and
-- Bernstein 2012), and then by a comparison.
use Rattle.std.specs.Prelude.{◌≡◌, ◌⊎◌, ◌++◌, ℕ, List, [], ◌∷◌, IsSome, Some, fold, length, map, slice_get, slice_set}
use Rattle.std.specs.Ordering.{nat_cmp}
use Rattle.std.specs.BTreeMap as tree
use Rattle.std.specs.BTreeMap.{BTreeMap}
use Rattle.std.specs.Hash as fed
use Rattle.std.specs.Hash.DefaultHasher as sip
use Rattle.audit.specs.declared.outcome.End.{End}
use Rattle.audit.specs.declared.outcome.End.TheVariants as end
use Rattle.audit.specs.FinalRuns.Maximal.{RankOutcome}
use Rattle.crash_free.specs.declared.leftover.Leftover.{Leftover}
use Rattle.explore.specs.Endings.{Ending}
use Rattle.explore.specs.Explored.{FoundOutcomeValue, rank_outcomes}
use Rattle.explore.specs.Outcomes.{IsAmong, AreDistinct}

-- how a rank ended, as a number that is the same for all faults
abbrev pub end_number : End → ℕ
end_number end.Unfinished = 0
end_number end.Halted = 1
end_number end.Stalled = 2
end_number (end.Faulted fault) = 3

-- what is written to a hasher of what is seen of a rank
abbrev pub rank_writes : RankOutcome → List (List ℕ)
rank_writes x = fed.slice fed.i64 x.lines ++ fed.u8 (end_number x.end)

-- the hash of an outcome
abbrev pub hash_of : List RankOutcome → ℕ
hash_of o = sip.finish (fold (λ h x. fold sip.write h (rank_writes x)) sip.initial o)

-- under the hash of each of the outcomes there is an entry
abbrev pub HaveEntries : List (List RankOutcome) → BTreeMap ℕ ℕ → Type 0
HaveEntries outcomes by_hash = (o : List RankOutcome) → IsAmong outcomes o → IsSome (tree.get nat_cmp by_hash (hash_of o))

-- an outcome with each of these leftovers
abbrev pub endings_with : List RankOutcome → List (List Leftover) → List Ending
endings_with ranks left = map (λ (l : List Leftover). record { ranks = ranks; left = l }) left

-- the endings of these outcomes: each with each of its leftovers
abbrev pub endings_of : List FoundOutcomeValue → List Ending
endings_of [] = []
endings_of (o ∷ outcomes) = endings_with o.ranks o.left ++ endings_of outcomes

-- These outcomes, of which these leftovers are listed, have these endings. None stands twice, and each has one.
pub record AreGrouped (endings : List Ending) (outcomes : List (List RankOutcome)) (left : List (List (List Leftover))) : Type 0 where
  pub as_many : length left ≡ length outcomes
  pub there : (i : ℕ) (o : List RankOutcome) (listed : List (List Leftover)) (l : List Leftover) → slice_get outcomes i ≡ Some o
      → slice_get left i ≡ Some listed → IsAmong listed l → IsAmong endings (record { ranks = o; left = l })
  pub each : (e : Ending) → IsAmong endings e → (i : ℕ) × (listed : List (List Leftover)) × (slice_get outcomes i ≡ Some e.ranks)
      × (slice_get left i ≡ Some listed) × IsAmong listed e.left
  pub some : (o : List RankOutcome) → IsAmong outcomes o → (l : List Leftover) × IsAmong endings (record { ranks = o; left = l })
  pub distinct : AreDistinct outcomes
  pub once : (i : ℕ) (listed : List (List Leftover)) → slice_get left i ≡ Some listed → AreDistinct listed

-- Under the hash of each outcome there is an entry, and no outcome stands twice. Each has some leftovers, none twice.
pub record AreFound (outcomes : List FoundOutcomeValue) (by_hash : BTreeMap ℕ ℕ) : Type 0 where
  pub entries : HaveEntries (rank_outcomes outcomes) by_hash
  pub distinct : AreDistinct (rank_outcomes outcomes)
  pub some : (i : ℕ) (x : FoundOutcomeValue) → slice_get outcomes i ≡ Some x → (l : List Leftover) × IsAmong x.left l
  pub once : (i : ℕ) (x : FoundOutcomeValue) → slice_get outcomes i ≡ Some x → AreDistinct x.left

-- the outcome with these leftovers more
abbrev pub and_left : FoundOutcomeValue → List Leftover → FoundOutcomeValue
and_left x l = record { ranks = x.ranks; choices = x.choices; left = x.left ++ l ∷ [] }

-- the outcome at this place has these leftovers already, and nothing is added, or they are added to it
pub record AddsLeft (place : ℕ) (l : List Leftover) (old new : List FoundOutcomeValue) : Type 0 where
  pub outcome : FoundOutcomeValue
  pub there : slice_get old place ≡ Some outcome
  pub added : (IsAmong outcome.left l × (new ≡ old)) ⊎ ((IsAmong outcome.left l → ⊥) × (new ≡ slice_set old place (and_left outcome l)))
