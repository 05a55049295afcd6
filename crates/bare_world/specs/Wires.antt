-- The wires of a world, which are unreliable channels, by the ranks between which they go.
use Rattle.std.specs.Prelude.{ℕ, ◌<◌, List, [], ◌∷◌, ◌++◌, length, slice_set, slice_index_or}
use Rattle.rank_node.specs.declared.frame.Frame.{Frame}

-- the wires from each rank to each, by source and then by destination
abbrev pub AllWires : Type 0
AllWires = List (List (List Frame))

-- there is a wire from one rank to another
abbrev pub HasWire : AllWires → ℕ → ℕ → Type 0
HasWire wires s d = (s < length wires) × (d < length (slice_index_or wires s []))

-- the wire from one rank to another
abbrev pub wire_of : AllWires → ℕ → ℕ → List Frame
wire_of wires s d = slice_index_or (slice_index_or wires s []) d []

-- the wires with a frame last on one of them
abbrev pub with_frame : AllWires → ℕ → ℕ → Frame → AllWires
with_frame wires s d f = slice_set wires s (slice_set (slice_index_or wires s []) d (wire_of wires s d ++ f ∷ []))
