-- The rank that a runner holds; none only while it goes from one phase to another.
use Rattle.std.specs.Prelude.{◌≡◌, ℕ, [], Option, Some, None}
use Rattle.checkpoint.specs.declared.memory_shelf.MemoryShelf.{MemoryShelf}
use Rattle.rank_node.specs.Phases.{outgoing_in, stable_in}
use Rattle.rank_node.specs.declared.frame.Frame.{Frame}
use Rattle.rank_node.specs.declared.phase.Phase.{Phase}
use Rattle.rank_node.specs.declared.phase.Phase.TheVariants.{Running, Replaying, Down}

-- a rank with a shelf in memory and no desk, or none
abbrev pub Occupant : Type 0
Occupant = Option (Phase MemoryShelf (Unit {0}))

-- which rank stands there; this one if none does
abbrev pub number_at : ℕ → Occupant → ℕ
number_at number (Some p) = (stable_in p).rank
number_at number None = number

-- of how many ranks it is; of two if none stands there
abbrev pub size_at : Occupant → ℕ
size_at (Some p) = (stable_in p).size
size_at None = 2

-- if a rank stands there, it is this one of two
abbrev pub IsRank : ℕ → Occupant → Type 0
IsRank number occupant = (number_at number occupant ≡ number) × (size_at occupant ≡ 2)

-- nothing waits at its gate; if it replays or is down nothing can
abbrev pub NoneWaits : Occupant → Type 0
NoneWaits (Some (Running v)) = v.pending ≡ []
NoneWaits (Some (Replaying r)) = Unit {0}
NoneWaits (Some (Down stable)) = Unit {0}
NoneWaits None = Unit {0}

-- what goes from there to a rank next
abbrev pub outgoing_at : Occupant → ℕ → Option Frame
outgoing_at (Some p) dest = outgoing_in p dest
outgoing_at None dest = None
