-- When a replay is over.
use Rattle.std.proofs.Common.{◌≡◌, ◌<◌, List, [], ◌∷◌, length, refl, arith}
use Rattle.event_logger.specs.Sequential.Event.{EventValue}
use Rattle.rank_node.specs.Phases.{stable_in, settled_in, settled_replay}
use Rattle.rank_node.specs.Replay.{Replay}
use Rattle.rank_node.specs.declared.phase.Phase.{Phase}
use Rattle.rank_node.specs.declared.phase.Phase.TheVariants as phase

-- a rank with an event left goes on replaying
pub goes_on : {S D : Type 0} (r : Replay S D) (left : List EventValue) → 0 < length left → settled_replay r left ≡ phase.Replaying r
goes_on r [] some = absurd (omega (arith, some))
goes_on r (e ∷ left) some = refl

-- a rank with none left runs
pub is_done : {S D : Type 0} (r : Replay S D) (left : List EventValue) → length left ≡ 0 → settled_replay r left ≡ phase.Running r.node
is_done r [] none = refl
is_done r (e ∷ left) none = absurd (omega (arith, none))

-- and keeps what is stable
replay_stable : {S D : Type 0} (r : Replay S D) (left : List EventValue) → stable_in (settled_replay r left) ≡ r.node.stable
replay_stable r [] = refl
replay_stable r (e ∷ left) = refl

-- as any rank does
pub settled_stable : {S D : Type 0} (p : Phase S D) → stable_in (settled_in p) ≡ stable_in p
settled_stable (phase.Running v) = refl
settled_stable (phase.Replaying r) = replay_stable r r.left
settled_stable (phase.Down s) = refl
