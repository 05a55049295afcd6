-- What stays of a rank within a life (an incarnation).
use Rattle.std.specs.Prelude.{◌≡◌}
use Rattle.rank_threads.specs.Lanes.{SameTxs, SameRxs}
use Rattle.rank_node.specs.Phases.{clock_in}
use Rattle.rank_threads.specs.Phases.{SamePhase, SameShelf, gate_in, is_running}
use Rattle.rank_threads.specs.declared.node.Node.{Node}
use Rattle.rank_threads.specs.declared.life.Life.{Life}

-- a rank at the same desk, of as many
abbrev pub SameNode : Node → Node → Type 0
SameNode a b = SamePhase a.phase b.phase × (b.size ≡ a.size)

-- the rank, its desk and its lanes are the same
abbrev pub SamePlace : Life → Life → Type 0
SamePlace a b = (b.kit.rank ≡ a.kit.rank) × SameNode a.node b.node × SameTxs a.kit.to.items b.kit.to.items × SameRxs a.kit.from.items b.kit.from.items

-- the rank, its desk and its lanes are the same, and no crash was counted
abbrev pub SameLife : Life → Life → Type 0
SameLife a b = SamePlace a b × (b.kit.tally.crashes ≡ a.kit.tally.crashes)

-- the same lines of the script are left
abbrev pub SamePlan : Life → Life → Type 0
SamePlan a b = b.kit.plan ≡ a.kit.plan

-- the same waits at the gate, with as many events stored, the logger has refused an event of the
-- rank or hasn't, as before, and its shelf is as it was
abbrev pub SameGate : Life → Life → Type 0
SameGate a b =
    (gate_in b.node.phase ≡ gate_in a.node.phase) × (b.kit.tally.is_refused ≡ a.kit.tally.is_refused) × SameShelf a.node.phase b.node.phase

-- Frames came or went, or turns were counted. All else of the life is as it was: the rank, its desk
-- and its lanes, its crashes, the lines of its script, what waits at its gate, and its shelf.
pub record KeepsGate (old new : Life) : Type 0 where
  pub same : SameLife old new
  pub plan : SamePlan old new
  pub gate : SameGate old new

-- The rank's machine was asked for a step. The rank, its desk and its lanes are as they were, and
-- so are its crashes, the lines of its script, and what its recovery has cost.
pub record KeepsCosts (old new : Life) : Type 0 where
  pub same : SameLife old new
  pub plan : SamePlan old new
  pub meter : new.kit.meter ≡ old.kit.meter

-- The rank, whatever has come or gone of its frames, is at its desk, its gate and its shelf as it
-- was.
pub record KeepsOutput (old new : Node) : Type 0 where
  pub same : SameNode old new
  pub gate : gate_in new.phase ≡ gate_in old.phase
  pub shelf : SameShelf old.phase new.phase

-- The rank is at its desk as it was, at its clock, and runs if it ran: only its gate and its shelf
-- may have changed.
pub record KeepsStand (old new : Node) : Type 0 where
  pub same : SameNode old new
  pub clock : clock_in new.phase ≡ clock_in old.phase
  pub runs : is_running new.phase ≡ is_running old.phase
