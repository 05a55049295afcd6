-- The messages between ranks, receiver by receiver: what came to a rank is, for each source that there
-- may be, the list of slots of this pair of ranks.
use Rattle.std.specs.Prelude.{◌≡◌, ℕ, ◌-◌, ◌<◌, List, [], ◌++◌, length, replicate, slice_index_or}
use Rattle.std.specs.List.{flat_map}
use Rattle.limits.specs.Limits.{most_ranks}
use Rattle.crash_free.specs.Slots.{Slot}

-- the slots of one source
abbrev pub of_source : List (List Slot) → ℕ → List Slot
of_source inbound s = slice_index_or inbound s []

-- nothing came, of any source
abbrev pub nothing_inbound : List (List Slot)
nothing_inbound = replicate most_ranks []

-- the lists of the first sources, and an empty one for each other
abbrev pub all_sources : List (List Slot) → List (List Slot)
all_sources first = first ++ replicate (most_ranks - length first) []

-- the lists of all pairs, those of the first receiver first
abbrev pub by_pair : List (List (List Slot)) → List (List Slot)
by_pair receivers = flat_map (λ inbound. inbound) receivers

-- each receiver has a list for each source that there may be
abbrev pub HaveAllSources : List (List (List Slot)) → Type 0
HaveAllSources receivers = (r : ℕ) → r < length receivers → length (slice_index_or receivers r []) ≡ most_ranks
