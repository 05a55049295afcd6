-- Which values can be written as an image of a rank, with the payload log of a sender
-- (docs/FORMATS.md, "Images"; MPICH-V2).
use Rattle.std.specs.Prelude.{◌≡◌, ◌≤◌, [], length, All}
use Rattle.limits.specs.Limits.{most_ranks, greatest_clock}
use Rattle.payload_log.specs.Backlog.{BacklogValue}
use Rattle.payload_log.specs.Sender.{IsSentBy}
use Rattle.checkpoint.specs.Image.{ImageValue}

-- There is a count and a payload log for each rank; what is kept was sent by this rank by acts up
-- to its clock, and nothing is held back. The other rules of an image are kept by the types of its
-- parts.
pub record IsSavable (i : ImageValue) : Type 0 where
  pub ranks : i.machine.store.size ≤ most_ranks
  pub accepted : length i.inbox.accepted ≡ i.machine.store.size
  pub log : length i.log ≡ i.machine.store.size
  pub clock : i.clock ≤ greatest_clock
  pub sent : All (IsSentBy i.machine.store.rank i.clock) i.log
  pub settled : All (λ (b : BacklogValue). b.held ≡ []) i.log
