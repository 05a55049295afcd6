-- How much a payload log keeps, message by message.
use Rattle.std.proofs.Common.{◌≡◌, ℕ, zero, suc, ◌+◌, ◌*◌, List, [], ◌∷◌, Some, None, length, take, slice_get, refl, ap}
use Rattle.std.proofs.Math.Numerals.{add-one}
use Rattle.std.proofs.Math.Seq.{take-length}
use Rattle.matching.specs.PacketValue.{PacketValue}
use Rattle.rank_threads.specs.Costs.{payload_from, plus}

-- one message further
further : (count k : ℕ) (ps : List PacketValue) (p : PacketValue) → Some p ≡ slice_get ps k
    → payload_from count (take (suc k) ps) ≡ plus (payload_from count (take k ps)) (8 * length p.items)
further count k [] p there = absurd cc
further count zero (q ∷ ps) p there = (let same : q ≡ p = cc in ap (λ m. plus count (8 * length m.items)) same)
further count (suc k) (q ∷ ps) p there = further (plus count (8 * length q.items)) k ps p there

-- so it stands in a loop that counts from 0
pub payload_next : (count k : ℕ) (ps : List PacketValue) (p : PacketValue) → Some p ≡ slice_get ps k
    → payload_from count (take (k + 1) ps) ≡ plus (payload_from count (take k ps)) (8 * length p.items)
payload_next count k ps p there = rw (add-one k) (further count k ps p there)

-- behind the last message nothing is added
past : (count k : ℕ) (ps : List PacketValue) → None ≡ slice_get ps k → payload_from count (take (suc k) ps) ≡ payload_from count (take k ps)
past count zero [] none = refl
past count (suc k) [] none = refl
past count zero (q ∷ ps) none = absurd cc
past count (suc k) (q ∷ ps) none = past (plus count (8 * length q.items)) k ps none

-- so past the last packet nothing is added
pub payload_past : (count k : ℕ) (ps : List PacketValue) → None ≡ slice_get ps k
    → payload_from count (take (k + 1) ps) ≡ payload_from count (take k ps)
payload_past count k ps none = rw (add-one k) (past count k ps none)

-- with the last one they are all
pub payload_whole : (count : ℕ) (ps : List PacketValue) → payload_from count (take (length ps) ps) ≡ payload_from count ps
payload_whole count ps = ap (payload_from count) (take-length ps)

-- what leads from message to message
pub ruleset payload_laws = (payload_next, payload_past, payload_whole)
