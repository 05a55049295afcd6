-- What a step of a rank answers, whether it runs, replays or is down, and which steps are acts.
use Rattle.std.specs.Prelude.{◌≡◌, ◌≢◌, ℕ, Bool, true, false, not, ◌&&◌, ◌||◌, List, [], ◌∷◌, Option, Some, None, Result, Ok, Err, if◌then◌else◌}
use Rattle.checkpoint.specs.declared.memory_shelf.MemoryShelf.{MemoryShelf}
use Rattle.event_logger.specs.Desks.{DeskValue}
use Rattle.event_logger.specs.Sequential.Event.{EventValue}
use Rattle.rank_machine.specs.declared.want.Want.{Want}
use Rattle.rank_machine.specs.declared.want.Want.TheVariants as want
use Rattle.rank_machine.specs.Machine.{MachineValue, Strides}
use Rattle.rank_node.specs.Node.{Node}
use Rattle.rank_node.specs.Replay.{replay_turn_of}
use Rattle.rank_node.specs.Steps.{refusal_of, turn_of}
use Rattle.rank_node.specs.declared.fault.NodeFault.{NodeFault}
use Rattle.rank_node.specs.declared.fault.NodeFault.TheVariants as fault
use Rattle.rank_node.specs.declared.turn.Turn.{Turn}
use Rattle.rank_node.specs.declared.turn.Turn.TheVariants as turn
use Rattle.rank_threads.specs.Phases.{machine_in, want_in}
use Rattle.rank_threads.specs.Tally.{after_steps}
use Rattle.rank_threads.specs.Phases.{Phase}
use Rattle.rank_node.specs.declared.phase.Phase.TheVariants as phase
use Rattle.rank_threads.specs.declared.turn.stepping.Stepped.{Stepped}
use Rattle.rank_threads.specs.declared.turn.stepping.Stepped.TheVariants as stepped
use Rattle.rank_threads.specs.declared.tally.Tally.{Tally}

-- a step that isn't refused does this
abbrev pub unless_refused : Option NodeFault → Turn → Result Turn NodeFault
unless_refused None turn = Ok turn
unless_refused (Some f) turn = Err f

-- a replay goes by the next event, and is refused if none is left
abbrev pub replay_turn : Node MemoryShelf DeskValue → List EventValue → Result Turn NodeFault
replay_turn v [] = Err fault.Replay
replay_turn v (e ∷ left) = replay_turn_of v e

-- what a step of the rank does, or why it is refused, as long as there is memory; a rank that is
-- down has ended
abbrev pub turn_in : Phase → Result Turn NodeFault
turn_in (phase.Running v) = unless_refused (refusal_of v) (turn_of v)
turn_in (phase.Replaying r) = replay_turn r.node r.left
turn_in (phase.Down s) = Ok turn.Ended

-- how many steps the machine made
abbrev pub moves : Turn → ℕ
moves turn.Moved = 1
moves turn.Blocked = 0
moves turn.Held = 0
moves turn.Ended = 0

-- how many acts a step was, by what the machine wanted: one if it moved, but a step of its own is
-- none
abbrev pub acts_made : Option Want → Turn → ℕ
acts_made None t = moves t
acts_made (Some want.Internal) t = 0
acts_made (Some (want.Send dest context tag)) t = moves t
acts_made (Some (want.Receive selector)) t = moves t
acts_made (Some (want.Probe selector)) t = moves t
acts_made (Some (want.TryProbe selector)) t = moves t
acts_made (Some (want.Print value)) t = moves t
acts_made (Some want.Halted) t = moves t
acts_made (Some (want.Faulted k)) t = moves t

-- how many acts the rank made in a turn's step
abbrev pub acts_of : Stepped → ℕ
acts_of stepped.Acted = 1
acts_of stepped.Moved = 0
acts_of stepped.Blocked = 0
acts_of stepped.Held = 0
acts_of stepped.Ended = 0

-- the machine wants a step of its own
abbrev pub is_own : Option Want → Bool
is_own None = false
is_own (Some want.Internal) = true
is_own (Some (want.Send dest context tag)) = false
is_own (Some (want.Receive selector)) = false
is_own (Some (want.Probe selector)) = false
is_own (Some (want.TryProbe selector)) = false
is_own (Some (want.Print value)) = false
is_own (Some want.Halted) = false
is_own (Some (want.Faulted k)) = false

-- the machine wants to print
abbrev pub is_print : Option Want → Bool
is_print None = false
is_print (Some want.Internal) = false
is_print (Some (want.Send dest context tag)) = false
is_print (Some (want.Receive selector)) = false
is_print (Some (want.Probe selector)) = false
is_print (Some (want.TryProbe selector)) = false
is_print (Some (want.Print value)) = true
is_print (Some want.Halted) = false
is_print (Some (want.Faulted k)) = false

-- a limit refuses the step
abbrev pub is_limit : NodeFault → Bool
is_limit fault.ClockSpent = true
is_limit fault.Log = true
is_limit fault.Memory = false
is_limit fault.NotSettled = false
is_limit fault.Shelf = false
is_limit fault.Image = false
is_limit fault.Replay = false

-- what a turn learns of a step that isn't one of the machine's own: a rank that a limit refuses has
-- ended
abbrev pub told : Result Turn NodeFault → Result Stepped NodeFault
told (Ok turn.Moved) = Ok stepped.Acted
told (Ok turn.Blocked) = Ok stepped.Blocked
told (Ok turn.Held) = Ok stepped.Held
told (Ok turn.Ended) = Ok stepped.Ended
told (Err f) = if is_limit f then Ok stepped.Ended else Err f

-- no limit stopped the rank, and it isn't blocked
abbrev pub may_step : Tally → Bool
may_step t = not (t.is_spent || t.is_blocked)

-- the rank makes a stride: it may step, and wants a step of its own
abbrev pub strides : Tally → Phase → Bool
strides t p = may_step t && is_own (want_in p)

-- What a turn's step answers, as long as there is memory: a rank that a limit stopped has ended,
-- one that is blocked isn't asked, one that still wants a step of its own makes it in its next
-- turn, and any other makes the step that its state says.
abbrev pub step_of : Tally → Phase → Result Stepped NodeFault
step_of t p =
    if t.is_spent then Ok stepped.Ended
    else (if t.is_blocked then Ok stepped.Blocked else (if is_own (want_in p) then Ok stepped.Moved else told (turn_in p)))

-- by this answer a limit refused the step
abbrev pub is_stopped : Result Turn NodeFault → Bool
is_stopped (Ok t) = false
is_stopped (Err f) = is_limit f

-- after a step that isn't one of the machine's own, if the limits allow `most`
abbrev pub counted : ℕ → Result Turn NodeFault → Tally → Tally
counted most (Ok turn.Moved) t = after_steps t 1 most true
counted most (Ok turn.Blocked) t = record t { is_blocked = true }
counted most (Ok turn.Held) t = t
counted most (Ok turn.Ended) t = t
counted most (Err f) t = record t { is_spent = is_limit f || t.is_spent }

-- one machine came from another by so many steps of its own; if there is none, none were made
abbrev pub StridesOf : ℕ → Option MachineValue → Option MachineValue → Type 0
StridesOf made None n = made ≡ 0
StridesOf made (Some m) None = ⊥
StridesOf made (Some m) (Some n) = Strides made m n

-- a rank's machine made so many steps of its own
abbrev pub StridesIn : ℕ → Phase → Phase → Type 0
StridesIn made p q = StridesOf made (machine_in p) (machine_in q)

-- steps of the machine's own are counted, as many as were made
abbrev pub Strode : ℕ → Phase → Phase → Tally → Tally → Type 0
Strode most p q t u = (made : ℕ) × (made ≢ 0) × StridesIn made p q × (u ≡ after_steps t made most false)

-- What a turn counts of its step, of a rank that stood so before and after it: an act as one, and a
-- limit that stops the rank.
abbrev pub Counts : ℕ → Phase → Phase → Stepped → Tally → Tally → Type 0
Counts most p q stepped.Moved t u = (q ≡ p) × (u ≡ t)
Counts most p q stepped.Acted t u = u ≡ after_steps t 1 most true
Counts most p q stepped.Blocked t u = u ≡ record t { is_blocked = true }
Counts most p q stepped.Held t u = u ≡ t
Counts most p q stepped.Ended t u = u ≡ record t { is_spent = is_stopped (turn_in p) || t.is_spent }
