-- What a step answers, and how the clock grows by it.
use Rattle.std.proofs.Common.{◌≡◌, ◌≢◌, ℕ, ◌+◌, ◌<◌, ℤ, Bool, true, false, List, [], ◌∷◌}
use Rattle.std.proofs.Common.{get_or, Option, Some, None, Result, Ok, Err, refl, sym, ap, ◌∙◌, arith}
use Rattle.std.specs.Prelude.{IfOk, IfErr, OnOk, if◌then◌else◌, is_some, option_and_then, position, slice_get}
use Rattle.std.proofs.lemmas.List.Quantifiers.{position-Some}
use Rattle.std.proofs.lemmas.Option.{slice_get-get_or}
use Rattle.checkpoint.specs.declared.memory_shelf.MemoryShelf.{MemoryShelf}
use Rattle.event_logger.specs.Desks.{DeskValue}
use Rattle.event_logger.specs.Sequential.Event.{EventValue}
use Rattle.event_logger.specs.declared.sequential.kind.Kind.{Kind}
use Rattle.event_logger.specs.declared.sequential.kind.Kind.TheVariants as kind
use Rattle.matching.specs.Matching.{matches}
use Rattle.matching.specs.declared.packet.Context.{Context}
use Rattle.matching.specs.PacketValue.{PacketValue}
use Rattle.matching.specs.declared.selector.Selector.{Selector}
use Rattle.rank_machine.specs.Machine.{MachineValue, Strides, still, on, machine_want}
use Rattle.rank_machine.specs.declared.want.Want.{Want}
use Rattle.rank_machine.specs.declared.want.Want.TheVariants as want
use Rattle.rank_machine.proofs.Striding.{no_stride}
use Rattle.rank_node.specs.Node.{Node}
use Rattle.rank_node.specs.Replay.{Replay, after_replay, left_after, is_before, is_now, named}
use Rattle.rank_node.specs.Replay.{named_turn, probe_turn, receive_turn, replay_turn_at, replay_turn_of, replayed_at, shown_named}
use Rattle.rank_node.specs.Replay.{taken_named, tried_named, try_turn}
use Rattle.rank_node.specs.Steps.{after_hold, after_print, after_send, after_step, after_wait, at_index}
use Rattle.rank_node.specs.Steps.{found, probed, received, step_at, tried, turn_at, turn_of, with_machine}
use Rattle.rank_node.specs.Waiting.{has_room, is_settled}
use Rattle.rank_node.specs.declared.fault.NodeFault.{NodeFault}
use Rattle.rank_node.specs.declared.fault.NodeFault.TheVariants as fault
use Rattle.rank_node.specs.declared.turn.Turn.{Turn}
use Rattle.rank_node.specs.declared.turn.Turn.TheVariants as turn
use Rattle.rank_threads.specs.Steps.{acts_made, moves, replay_turn, unless_refused}

-- ---- what is answered

-- a step that is refused just where it has to be answers what it does
pub run_answers : (refusal : Option NodeFault) (does : Turn) (answer : Result Turn NodeFault) → IfOk answer (λ t. t ≡ does)
    → ((e : NodeFault) → refusal ≡ Some e → answer ≡ Err e) → IfErr answer (λ e. e ≢ fault.Memory → refusal ≡ Some e)
    → answer ≢ Err fault.Memory → answer ≡ unless_refused refusal does
run_answers None does (Ok t) ok refusal refused memory = ap Ok ok
run_answers None does (Err e) ok refusal refused memory = (let none : None ≡ Some e = refused (λ same. memory (ap Err same)) in absurd cc)
run_answers (Some f) does answer ok refusal refused memory = refusal f refl

-- an answer is one turn
one_turn : (answer : Result Turn NodeFault) (a b : Turn) → answer ≡ Ok a → answer ≡ Ok b → b ≡ a
one_turn answer a b first second = (let same : Ok b ≡ Ok a = sym second ∙ first in cc)

-- ---- how the clock grows

-- what was found at a place is there
found_there : (s : Selector) (ps : List PacketValue) (i : ℕ) → position (matches s) ps ≡ Some i → (p : PacketValue) × (slice_get ps i ≡ Some p)
found_there s [] i first = absurd cc
found_there s (p ∷ ps) i first = (get_or (p ∷ ps) i p, slice_get-get_or (p ∷ ps) i p (position-Some (matches s) (p ∷ ps) i p first).0)

-- a send is an act where there is room, whether it passes at once or waits
send_clock : (v : Node MemoryShelf DeskValue) (m : MachineValue) (dest : ℕ) (context : Context) (tag : ℕ) (room settled : Bool)
    → (if room then (if settled then after_send v m dest context tag else after_hold v m dest context tag) else v).clock
    ≡ v.clock + moves (if room then turn.Moved else turn.Held)
send_clock v m dest context tag true true = refl
send_clock v m dest context tag true false = refl
send_clock v m dest context tag false settled = omega arith

-- so is a print
print_clock : (v : Node MemoryShelf DeskValue) (m : MachineValue) (value : ℤ) (room settled : Bool)
    → (if room then (if settled then after_print v m else after_wait v m value) else v).clock ≡ v.clock + moves (if room then turn.Moved else turn.Held)
print_clock v m value true true = refl
print_clock v m value true false = refl
print_clock v m value false settled = omega arith

-- a receive is an act where there is a message
receive_clock : (v : Node MemoryShelf DeskValue) (m : MachineValue) (s : Selector) (place : Option ℕ) → position (matches s) v.inbox.packets ≡ place
    → (received v m (option_and_then (at_index v.inbox.packets) place)).clock ≡ v.clock + moves (if is_some place then turn.Moved else turn.Blocked)
receive_clock v m s None first = omega arith
receive_clock v m s (Some i) first = rw ((found_there s v.inbox.packets i first).1) refl

-- so is a probe that waits
probe_clock : (v : Node MemoryShelf DeskValue) (m : MachineValue) (s : Selector) (place : Option ℕ) → position (matches s) v.inbox.packets ≡ place
    → (probed v m (option_and_then (at_index v.inbox.packets) place)).clock ≡ v.clock + moves (if is_some place then turn.Moved else turn.Blocked)
probe_clock v m s None first = omega arith
probe_clock v m s (Some i) first = rw ((found_there s v.inbox.packets i first).1) refl

-- a probe that doesn't wait is an act
try_clock : (v : Node MemoryShelf DeskValue) (m : MachineValue) (f : Option (ℕ × PacketValue)) → (tried v m f).clock ≡ v.clock + 1
try_clock v m None = refl
try_clock v m (Some f) = refl

-- a rank that runs makes an act just where it moves and that isn't a step of its own
step_clock : (v : Node MemoryShelf DeskValue) (w : Want) (m : MachineValue) → (step_at v w m).clock ≡ v.clock + acts_made (Some w) (turn_at v w)
step_clock v want.Internal m = omega arith
step_clock v (want.Send dest context tag) m = send_clock v m dest context tag (has_room v.pending) (is_settled v.pending)
step_clock v (want.Receive s) m = receive_clock v m s (position (matches s) v.inbox.packets) refl
step_clock v (want.Probe s) m = probe_clock v m s (position (matches s) v.inbox.packets) refl
step_clock v (want.TryProbe s) m = try_clock v m (found s v.inbox.packets)
step_clock v (want.Print value) m = print_clock v m value (has_room v.pending) (is_settled v.pending)
step_clock v want.Halted m = omega arith
step_clock v (want.Faulted k) m = omega arith

-- the same, by what the rank answers
run_clock : (old new : Node MemoryShelf DeskValue) (t : Turn) → t ≡ turn_of old → new ≡ after_step old new.machine
    → new.clock ≡ old.clock + acts_made (Some (machine_want old.machine)) t
run_clock old new t does after = ap (λ v. v.clock) after ∙ step_clock old (machine_want old.machine) new.machine
    ∙ ap (λ u. old.clock + acts_made (Some (machine_want old.machine)) u) (sym does)

-- the same, as long as it isn't refused
pub run_clocks : (old new : Node MemoryShelf DeskValue) (answer : Result Turn NodeFault) → IfOk answer (λ t. t ≡ turn_of old)
    → OnOk answer (new ≡ after_step old new.machine) → IfOk answer (λ t. new.clock ≡ old.clock + acts_made (Some (machine_want old.machine)) t)
run_clocks old new (Ok t) does after = run_clock old new t does after
run_clocks old new (Err e) does after = tt

-- a send or a print that is replayed comes before the next event
before_clock : (clock : ℕ) (b : Bool) (t : Turn) → (if b then Ok turn.Moved else Err fault.Replay) ≡ Ok t → clock + 1 ≡ clock + moves t
before_clock clock true t answer = rw (one_turn (Ok turn.Moved) turn.Moved t refl answer) refl
before_clock clock false t answer = absurd cc

-- a receive that is replayed is an act where the message is there
received_clock : (v : Node MemoryShelf DeskValue) (m : MachineValue) (s : Selector) (f : Option (ℕ × PacketValue)) (k : Kind) (now : Bool) (t : Turn)
    → (if now then receive_turn s f k else Err fault.Replay) ≡ Ok t → (taken_named v m f).clock ≡ v.clock + moves t
received_clock v m s f k false t answer = absurd cc
received_clock v m s f kind.Hit true t answer = absurd cc
received_clock v m s f kind.Miss true t answer = absurd cc
received_clock v m s f kind.Misses true t answer = absurd cc
received_clock v m s None kind.Reception true t answer = rw (one_turn (Ok turn.Blocked) turn.Blocked t refl answer) (omega arith)
received_clock v m s (Some f) kind.Reception true t answer = go (matches s f.1) answer
  where
    go : (b : Bool) → (if b then Ok turn.Moved else Err fault.Replay) ≡ Ok t → (taken_named v m (Some f)).clock ≡ v.clock + moves t
    go b same = before_clock v.clock b t same

-- so is a probe that is shown it
shown_clock : (v : Node MemoryShelf DeskValue) (m : MachineValue) (s : Selector) (f : Option (ℕ × PacketValue)) (t : Turn)
    → named_turn s f ≡ Ok t → (shown_named v m f).clock ≡ v.clock + moves t
shown_clock v m s None t answer = rw (one_turn (Ok turn.Blocked) turn.Blocked t refl answer) (omega arith)
shown_clock v m s (Some f) t answer = before_clock v.clock (matches s f.1) t answer

-- a probe that waits
probed_clock : (v : Node MemoryShelf DeskValue) (m : MachineValue) (s : Selector) (f : Option (ℕ × PacketValue)) (k : Kind) (now : Bool) (t : Turn)
    → (if now then probe_turn s f k else Err fault.Replay) ≡ Ok t → (shown_named v m f).clock ≡ v.clock + moves t
probed_clock v m s f k false t answer = absurd cc
probed_clock v m s f kind.Reception true t answer = absurd cc
probed_clock v m s f kind.Hit true t answer = shown_clock v m s f t answer
probed_clock v m s f kind.Miss true t answer = absurd cc
probed_clock v m s f kind.Misses true t answer = absurd cc

-- a probe that doesn't wait
tried_clock : (v : Node MemoryShelf DeskValue) (m : MachineValue) (s : Selector) (f : Option (ℕ × PacketValue)) (k : Kind) (now : Bool) (t : Turn)
    → (if now then try_turn s f k else Err fault.Replay) ≡ Ok t → (tried_named v m f k).clock ≡ v.clock + moves t
tried_clock v m s f k false t answer = absurd cc
tried_clock v m s f kind.Reception true t answer = absurd cc
tried_clock v m s f kind.Hit true t answer = shown_clock v m s f t answer
tried_clock v m s f kind.Miss true t answer = rw (one_turn (Ok turn.Moved) turn.Moved t refl answer) refl
tried_clock v m s f kind.Misses true t answer = rw (one_turn (Ok turn.Moved) turn.Moved t refl answer) refl

-- a rank that replays makes an act just where it moves and that isn't a step of its own
replay_clock : (v : Node MemoryShelf DeskValue) (e : EventValue) (w : Want) (m : MachineValue) (t : Turn) → replay_turn_at v e w ≡ Ok t
    → (replayed_at v e w m).clock ≡ v.clock + acts_made (Some w) t
replay_clock v e want.Internal m t answer = omega arith
replay_clock v e (want.Send dest context tag) m t answer = before_clock v.clock (is_before v e) t answer
replay_clock v e (want.Receive s) m t answer = received_clock v m s (named v e) e.kind (is_now v e) t answer
replay_clock v e (want.Probe s) m t answer = probed_clock v m s (named v e) e.kind (is_now v e) t answer
replay_clock v e (want.TryProbe s) m t answer = tried_clock v m s (named v e) e.kind (is_now v e) t answer
replay_clock v e (want.Print value) m t answer = before_clock v.clock (is_before v e) t answer
replay_clock v e want.Halted m t answer = rw (one_turn (Ok turn.Ended) turn.Ended t refl answer) (omega arith)
replay_clock v e (want.Faulted k) m t answer = rw (one_turn (Ok turn.Ended) turn.Ended t refl answer) (omega arith)

-- the same, by what the rank answers
again_clock : (old new : Node MemoryShelf DeskValue) (e : EventValue) (t : Turn) → replay_turn_of old e ≡ Ok t → new ≡ after_replay old e new.machine
    → new.clock ≡ old.clock + acts_made (Some (machine_want old.machine)) t
again_clock old new e t answer after = ap (λ v. v.clock) after ∙ replay_clock old e (machine_want old.machine) new.machine t answer

-- a replay that isn't refused otherwise answers by its next event
pub again_answers : (v : Node MemoryShelf DeskValue) (left : List EventValue) (answer : Result Turn NodeFault) → left ≢ []
    → IfOk answer (λ t. (e : EventValue) (rest : List EventValue) → left ≡ e ∷ rest → replay_turn_of v e ≡ Ok t)
    → IfErr answer (λ f. f ≢ fault.Memory → (e : EventValue) (rest : List EventValue) → left ≡ e ∷ rest → replay_turn_of v e ≡ Err f)
    → answer ≢ Err fault.Memory → answer ≡ replay_turn v left
again_answers v [] answer some ok refused memory = absurd (some refl)
again_answers v (e ∷ rest) (Ok t) some ok refused memory = sym (ok e rest refl)
again_answers v (e ∷ rest) (Err f) some ok refused memory = sym (refused (λ same. memory (ap Err same)) e rest refl)

-- its clock grows by what it answers
again_clocks : (old new : Replay MemoryShelf DeskValue) (left : List EventValue) (t : Turn) → left ≢ []
    → ((e : EventValue) (rest : List EventValue) → left ≡ e ∷ rest → replay_turn_of old.node e ≡ Ok t)
    → ((e : EventValue) (rest : List EventValue) → left ≡ e ∷ rest →
    new ≡ record { node = after_replay old.node e new.node.machine; left = left_after old.node (machine_want old.node.machine) t e rest })
    → new.node.clock ≡ old.node.clock + acts_made (Some (machine_want old.node.machine)) t
again_clocks old new [] t some answer after = absurd (some refl)
again_clocks old new (e ∷ rest) t some answer after =
    again_clock old.node new.node e t (answer e rest refl) (ap (λ r. r.node) (after e rest refl))

-- the same, as long as it isn't refused
pub again_ok_clocks : (old new : Replay MemoryShelf DeskValue) (answer : Result Turn NodeFault) → old.left ≢ []
    → IfOk answer (λ t. (e : EventValue) (rest : List EventValue) → old.left ≡ e ∷ rest → replay_turn_of old.node e ≡ Ok t)
    → IfOk answer (λ t. (e : EventValue) (rest : List EventValue) → old.left ≡ e ∷ rest →
    new ≡ record { node = after_replay old.node e new.node.machine; left = left_after old.node (machine_want old.node.machine) t e rest })
    → IfOk answer (λ t. new.node.clock ≡ old.node.clock + acts_made (Some (machine_want old.node.machine)) t)
again_ok_clocks old new (Ok t) some does after = again_clocks old new old.left t some does after
again_ok_clocks old new (Err e) some does after = tt

-- ---- strides

-- so a machine that wants a step of its own makes one, where it may make any
pub some_stride : (n most : ℕ) (a b : MachineValue) → Strides n a b → (n < most → machine_want b ≢ want.Internal) → 0 < most
    → Some (machine_want a) ≡ Some want.Internal → n ≢ 0
some_stride n most a b strides stands some wants none =
    let own : machine_want a ≡ want.Internal = cc in
    stands (omega (arith, some, none)) (ap machine_want (no_stride n a b strides none) ∙ own)

-- what isn't a step of the machine's own is an act where it moves
pub moved_is_act : (w : Option Want) → w ≢ Some want.Internal → acts_made w turn.Moved ≡ 1
moved_is_act None act = refl
moved_is_act (Some want.Internal) act = absurd (act refl)
moved_is_act (Some (want.Send dest context tag)) act = refl
moved_is_act (Some (want.Receive s)) act = refl
moved_is_act (Some (want.Probe s)) act = refl
moved_is_act (Some (want.TryProbe s)) act = refl
moved_is_act (Some (want.Print value)) act = refl
moved_is_act (Some want.Halted) act = refl
moved_is_act (Some (want.Faulted k)) act = refl

-- where it doesn't move it makes none
pub unmoved : (w : Option Want) (t : Turn) → moves t ≡ 0 → acts_made w t ≡ 0
unmoved None t none = none
unmoved (Some want.Internal) t none = refl
unmoved (Some (want.Send dest context tag)) t none = none
unmoved (Some (want.Receive s)) t none = none
unmoved (Some (want.Probe s)) t none = none
unmoved (Some (want.TryProbe s)) t none = none
unmoved (Some (want.Print value)) t none = none
unmoved (Some want.Halted) t none = none
unmoved (Some (want.Faulted k)) t none = none

-- a machine that made steps of its own wanted one at first
pub own_stride : (n : ℕ) (a b : MachineValue) → Strides n a b → n ≢ 0 → machine_want a ≡ want.Internal
own_stride n a b still some = absurd (some refl)
own_stride n a c (on still wants goes) some = wants
own_stride n a c (on (on first before goes) wants on_goes) some = own_stride _ a _ (on first before goes) (λ none. omega (arith, none))

-- a rank whose machine made none is as it was
pub run_stood : (n : ℕ) (v w : Node MemoryShelf DeskValue) → Strides n v.machine w.machine → w ≡ with_machine v w.machine → n ≡ 0 → w ≡ v
run_stood n v w strides ok none = ok ∙ ap (λ m. with_machine v m) (no_stride n v.machine w.machine strides none)

-- so is one that replays, with what was left
pub again_stood : (n : ℕ) (r s : Replay MemoryShelf DeskValue) → Strides n r.node.machine s.node.machine
    → s ≡ record { node = with_machine r.node s.node.machine; left = r.left } → n ≡ 0 → s ≡ r
again_stood n r s strides ok none =
    ok ∙ ap (λ m. record { node = with_machine r.node m; left = r.left }) (no_stride n r.node.machine s.node.machine strides none)
