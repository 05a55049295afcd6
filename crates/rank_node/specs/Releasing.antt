-- How a send or a line that waits leaves the gate, once no determinant stands before it (output
-- commit: Elnozahy, Alvisi, Wang and Johnson 2002).
use Rattle.std.specs.Prelude.{◌≡◌, ◌≢◌, ℕ, ℤ, ◌<◌, drop, List, slice_get, slice_set, option_and_then, Option, Some, None}
use Rattle.payload_log.specs.Backlog.{BacklogValue, backlog, freed}
use Rattle.rank_node.specs.declared.waiting.Waiting.{Waiting}
use Rattle.rank_node.specs.declared.waiting.Waiting.TheVariants as waits
use Rattle.rank_node.specs.Node.{Node}

-- what waits, if it is an effect
abbrev pub effect_of : Waiting → Option Waiting
effect_of (waits.Event e) = None
effect_of (waits.Send dest clock) = Some (waits.Send dest clock)
effect_of (waits.Line clock value) = Some (waits.Line clock value)

-- the effect that may pass: the oldest of what waits, if that is one
abbrev pub next_effect : {S D : Type 0} → Node S D → Option Waiting
next_effect v = option_and_then effect_of (slice_get v.pending 0)

-- the payload log after a release: a packet that was held is saved
abbrev pub released_log : List BacklogValue → Waiting → List BacklogValue
released_log log (waits.Event e) = log
released_log log (waits.Send dest clock) = slice_set log dest (freed (backlog log dest))
released_log log (waits.Line clock value) = log

-- the rank after the oldest effect, this one, has left what waits
abbrev pub after_release : {S D : Type 0} → Node S D → Waiting → Node S D
after_release v x = record v { log = released_log v.log x; pending = drop 1 v.pending }

-- the rank after a release: if no effect may pass nothing changes
abbrev pub released : {S D : Type 0} → Node S D → Option Waiting → Node S D
released v None = v
released v (Some x) = after_release v x

-- a line that is released is shown with the clock of its print, and nothing else is
abbrev pub ShowsEffect : {S D C : Type 0} → (C → ℕ → ℕ → ℤ → C → Type 0) → Node S D → Option Waiting → C → C → Type 0
ShowsEffect shows v None old new = new ≡ old
ShowsEffect shows v (Some (waits.Event e)) old new = new ≡ old
ShowsEffect shows v (Some (waits.Send dest clock)) old new = new ≡ old
ShowsEffect shows v (Some (waits.Line clock value)) old new = shows old v.stable.rank clock value new

-- a line waits, which is shown when it is released
abbrev pub IsLine : Option Waiting → Type 0
IsLine None = ⊥
IsLine (Some (waits.Event e)) = ⊥
IsLine (Some (waits.Send dest clock)) = ⊥
IsLine (Some (waits.Line clock value)) = Unit {0}

-- the packet of a send that waits first is held, for a rank that is there
abbrev pub IsHeld : {S D : Type 0} → Node S D → Waiting → Type 0
IsHeld v (waits.Event e) = Unit {0}
IsHeld v (waits.Send dest clock) = (dest < v.stable.size) × (slice_get (backlog v.log dest).held 0 ≢ None)
IsHeld v (waits.Line clock value) = Unit {0}
