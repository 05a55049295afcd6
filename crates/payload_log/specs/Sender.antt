-- What the payload log of a rank has for one destination, if the rank has made so many acts.
--
-- Source: Alvisi and Marzullo 1998; Bouteiller and others 2003 (MPICH-V2).
use Rattle.std.specs.Prelude.{◌≡◌, ℕ, ◌+◌, ◌<◌, ◌≤◌, ◌++◌, length, All, AllPairs}
use Rattle.matching.specs.PacketValue.{PacketValue}
use Rattle.payload_log.specs.Backlog.{BacklogValue}

-- the earlier message was sent by an earlier act
abbrev pub WasBefore : PacketValue → PacketValue → Type 0
WasBefore m n = m.clock < n.clock

-- every packet that is kept or held was sent by this rank, by an act of its own up to this clock,
-- and each packet that was ever sent took an act
pub record IsSentBy (rank clock : ℕ) (b : BacklogValue) : Type 0 where
  pub sources : All (λ (m : PacketValue). m.source ≡ rank) (b.kept ++ b.held)
  pub rising : AllPairs WasBefore (b.kept ++ b.held)
  pub within : All (λ (m : PacketValue). m.clock ≤ clock) (b.kept ++ b.held)
  pub acts : b.sent + length b.held ≤ clock
