-- The send that matches an act: which act of a run sent the message that this one takes or finds.
-- Messages of one sender to one receiver don't overtake each other (MPI 1.1, section 3.5), so an
-- act names its sender and the place of the send among those to its rank, from 1. A run is the list
-- of its acts, the newest first, and the index of an act is how many were made before it.
use Rattle.std.specs.Prelude.{ℕ, ◌==◌, ◌&&◌, nat_lt, Bool, false, List, [], ◌∷◌, Option, None, if◌then◌else◌, length, reverse, take}
use Rattle.limits.specs.Limits.{most_ranks}
use Rattle.rank_machine.specs.Acts.{Act, sends, takes, hits, misses, prints}
use Rattle.crash_free.specs.Runs.{Passed, add_if, at_place}

-- of acts that stand the oldest first, those before the one of this index, as a run
abbrev pub run_before : List Passed → ℕ → List Passed
run_before acts index = reverse (take index acts)

-- an act sends to this rank
abbrev pub sends_to : ℕ → Act → Bool
sends_to r (sends dest context tag items) = dest == r
sends_to r (takes source place) = false
sends_to r (hits source place) = false
sends_to r misses = false
sends_to r (prints value) = false

-- the indices of the sends from one rank to another, the oldest first
abbrev pub send_indices : List Passed → ℕ → ℕ → List ℕ
send_indices [] source dest = []
send_indices (p ∷ run) source dest = add_if (p.rank == source && sends_to dest p.act) (send_indices run source dest) (length run)

-- the send at this place, from 1, of those between two ranks that there can be
abbrev pub nth_send : List Passed → ℕ → ℕ → ℕ → Option ℕ
nth_send run source dest place =
    if nat_lt source most_ranks && nat_lt dest most_ranks then at_place (send_indices run source dest) place else None

-- the send of the message that a rank takes or finds by this act, if it does
abbrev pub matched_by : List Passed → ℕ → Act → Option ℕ
matched_by run rank (sends dest context tag items) = None
matched_by run rank (takes source place) = nth_send run source rank place
matched_by run rank (hits source place) = nth_send run source rank place
matched_by run rank misses = None
matched_by run rank (prints value) = None

-- the send of the message that an act takes or finds which follows this run, if it does
abbrev pub matching_send : List Passed → Passed → Option ℕ
matching_send run p = matched_by run p.rank p.act
