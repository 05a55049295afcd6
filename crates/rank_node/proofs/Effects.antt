-- What stands first of what waits, where it is an effect.
use Rattle.std.proofs.Common.{◌≡◌, ◌≢◌, ◌<◌, List, [], ◌∷◌, Some, None, length, arith, slice_get}
use Rattle.payload_log.specs.Backlog.{backlog}
use Rattle.rank_node.specs.declared.waiting.Waiting.{Waiting}
use Rattle.rank_node.specs.declared.waiting.Waiting.TheVariants.{Event, Send, Line}
use Rattle.rank_node.specs.Node.{Node}
use Rattle.rank_node.specs.Releasing.{next_effect, IsHeld}
use Rattle.rank_node.proofs.Held.{Held, first_send, held_some, held_within}

-- something stands first where there is something
first_there : {A : Type 0} (xs : List A) → 0 < length xs → slice_get xs 0 ≢ None
first_there [] l e = omega (arith, l)
first_there (x ∷ xs) l e = cc

-- the packet of a send that waits first is held
pub effect_held : {S D : Type 0} (v : Node S D) (x : Waiting) → length v.log ≡ v.stable.size → Held v.log v.pending → Some x ≡ next_effect v → IsHeld v x
effect_held v (Event e) size held is = tt
effect_held v (Line clock value) size held is = tt
effect_held v (Send dest clock) size held is =
    let some = held_some v.log v.pending dest clock held (first_send v.pending dest clock is) in
    let within = held_within v.log dest some in
    (omega (arith, size, within), first_there (backlog v.log dest).held some)
