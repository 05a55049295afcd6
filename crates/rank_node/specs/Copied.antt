-- Copies of a rank, each with a desk (its handle at the event logger) and a shelf (its checkpoint
-- store) of its own.
use Rattle.std.specs.Prelude.{◌≡◌, List}
use Rattle.checkpoint.specs.Image.{ImageValue}
use Rattle.rank_node.specs.declared.due.Due.{Due}
use Rattle.rank_node.specs.Node.{Node}
use Rattle.rank_node.specs.Stored.{Stored}
use Rattle.rank_node.specs.Waiting.{Gate}

-- what is stable, with this desk and this shelf
abbrev pub stored_with : {S D : Type 0} → Stored S D → D → S → Stored S D
stored_with s desk shelf = record s { desk = desk; shelf = shelf }

-- the rank with these, and all else as it was
abbrev pub node_with : {S D : Type 0} → Node S D → D → S → Node S D
node_with v desk shelf = record v { stable = stored_with v.stable desk shelf }

-- This is what a crash would drop of a rank, without the number of its events.
pub record IsCopied {S D : Type 0} (v : Node S D) (image : ImageValue) (gate : Gate) (dues : List Due) : Type 0 where
  pub same_image : image ≡ record { machine = v.machine; clock = v.clock; inbox = v.inbox; log = v.log }
  pub same_gate : gate ≡ record { waiting = v.pending; stored = v.stored }
  pub same_dues : dues ≡ v.dues
