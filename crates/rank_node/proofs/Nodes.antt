-- What holds of a rank that runs holds where only some of it changes.
use Rattle.std.specs.Bool.{OnTrue, OnFalse}
use Rattle.std.specs.Prelude.{◌≡◌, ◌+◌, ◌-◌, ◌<◌, Bool, true, false, All, IsSome, List, ◌++◌, [], ◌∷◌, length, drop, slice_get, option_and_then}
use Rattle.std.proofs.Common.{ap, sym, subst, ◌∙◌, arith}
use Rattle.limits.specs.Limits.{greatest_clock, most_events}
use Rattle.event_logger.specs.Sequential.Event.{EventValue}
use Rattle.matching.specs.Inbox.{Mailbox}
use Rattle.payload_log.specs.Backlog.{BacklogValue}
use Rattle.payload_log.specs.Sender.{IsSentBy}
use Rattle.rank_machine.specs.Machine.{MachineValue, KeepsRank}
use Rattle.rank_node.specs.declared.running.Running.TheInside.{Inside}
use Rattle.rank_node.specs.declared.waiting.Waiting.TheVariants.{Event}
use Rattle.rank_node.specs.Node.{IsNode}
use Rattle.rank_node.specs.Seen.{seen}
use Rattle.rank_node.specs.Stored.{Stored}
use Rattle.rank_node.specs.Waiting.{Gate, event_in, sends_to, AreMade}
use Rattle.rank_node.proofs.Gates.{sends_to_drop}
use Rattle.rank_node.proofs.Held.{held_event}
use Rattle.rank_node.proofs.Joining.{made_drop, made_event, made_next}
use Rattle.rank_node.proofs.Sent.{log_later}

-- what waits was put back
pub same_pending : {S D : Type 0} (v : Inside S D) (gate : Gate) → gate ≡ v.pending → IsNode (seen v) → IsNode (seen (record v { pending = gate }))
same_pending v gate same is = subst (λ (g : Gate). IsNode (seen (record v { pending = g }))) (sym same) is

-- nothing came to wait, and nothing left
pub kept_waiting : {S D : Type 0} (v : Inside S D) (gate : Gate) → gate.waiting ≡ v.pending.waiting → IsNode (seen v)
    → IsNode (seen (record v { pending = gate }))
kept_waiting v gate same is = record {
  inbox = is.inbox;
  log = is.log;
  dues = is.dues;
  machine_rank = is.machine_rank;
  machine_size = is.machine_size;
  rank = is.rank;
  limit = is.limit;
  clock = is.clock;
  made = is.made;
  sent = is.sent;
  held = λ d. is.held d ∙ sym (ap (sends_to d) same);
  events = subst (AreMade v.clock) (sym same) is.events;
}

-- the first event was acknowledged, if there was one
pub first_acked : {S D : Type 0} (v : Inside S D) (gate : Gate) (acked : Bool)
    → OnTrue acked (gate ≡ record { waiting = drop 1 v.pending.waiting; stored = v.pending.stored - 1 })
    → OnTrue acked (IsSome (option_and_then event_in (slice_get v.pending.waiting 0))) → OnFalse acked (gate ≡ v.pending)
    → IsNode (seen v) → IsNode (seen (record v { pending = gate }))
first_acked v gate false less first same is = same_pending v gate same is
first_acked v gate true less first same is = record {
  inbox = is.inbox;
  log = is.log;
  dues = is.dues;
  machine_rank = is.machine_rank;
  machine_size = is.machine_size;
  rank = is.rank;
  limit = is.limit;
  clock = is.clock;
  made = is.made;
  sent = is.sent;
  held = λ d. is.held d ∙ sym (ap (λ (g : Gate). sends_to d g.waiting) less ∙ sends_to_drop d v.pending.waiting first);
  events = subst (λ (g : Gate). AreMade v.clock g.waiting) (sym less) (made_drop v.clock v.pending.waiting is.events);
}

-- the payload log was put back
pub same_log : {S D : Type 0} (v : Inside S D) (log : List BacklogValue) → log ≡ v.log → IsNode (seen v) → IsNode (seen (record v { log = log }))
same_log v log same is = subst (λ (l : List BacklogValue). IsNode (seen (record v { log = l }))) (sym same) is

-- it is the same of as many ranks
pub kept_place : {S D : Type 0} (v : Inside S D) (stable : Stored S D) → stable.rank ≡ v.stable.rank → stable.size ≡ v.stable.size → IsNode (seen v)
    → IsNode (seen (record v { stable = stable }))
kept_place v stable own ranks is = record {
  inbox = is.inbox ∙ sym ranks;
  log = is.log ∙ sym ranks;
  dues = is.dues ∙ sym ranks;
  machine_rank = is.machine_rank ∙ sym own;
  machine_size = is.machine_size ∙ sym ranks;
  rank = (let below = is.rank in omega (arith, below, own, ranks));
  limit = (let limit = is.limit in omega (arith, limit, ranks));
  clock = is.clock;
  made = is.made;
  sent = subst (λ rank. All (IsSentBy rank v.clock) v.log) (sym own) is.sent;
  held = is.held;
  events = is.events;
}

-- the inbox counts the packets of as many ranks
pub kept_ranks : {S D : Type 0} (v : Inside S D) (inbox : Mailbox) → length inbox.accepted ≡ length v.inbox.accepted → IsNode (seen v)
    → IsNode (seen (record v { inbox = inbox }))
kept_ranks v inbox same is = record {
  inbox = same ∙ is.inbox;
  log = is.log;
  dues = is.dues;
  machine_rank = is.machine_rank;
  machine_size = is.machine_size;
  rank = is.rank;
  limit = is.limit;
  clock = is.clock;
  made = is.made;
  sent = is.sent;
  held = is.held;
  events = is.events;
}

-- an act was made that leaves no event
pub act_made : {S D : Type 0} (v : Inside S D) (machine : MachineValue) → KeepsRank v.machine machine → v.clock < greatest_clock → IsNode (seen v)
    → IsNode (seen (record v { machine = machine; clock = v.clock + 1 }))
act_made v machine stays low is = record {
  inbox = is.inbox;
  log = is.log;
  dues = is.dues;
  machine_rank = stays.rank ∙ is.machine_rank;
  machine_size = stays.size ∙ is.machine_size;
  rank = is.rank;
  limit = is.limit;
  clock = omega (arith, low);
  made = is.made;
  sent = log_later v.stable.rank v.clock v.log is.sent;
  held = is.held;
  events = made_next v.clock v.pending.waiting is.events;
}

-- an act was made that leaves one
pub event_made : {S D : Type 0} (v : Inside S D) (gate : Gate) (e : EventValue) (machine : MachineValue)
    → gate ≡ record { waiting = v.pending.waiting ++ Event e ∷ []; stored = v.pending.stored } → e.receiver_clock ≡ v.clock + 1
    → KeepsRank v.machine machine → v.clock < greatest_clock → v.made < most_events → IsNode (seen v)
    → IsNode (seen (record v { pending = gate; machine = machine; clock = v.clock + 1; made = v.made + 1 }))
event_made v gate e machine more next stays low few is = record {
  inbox = is.inbox;
  log = is.log;
  dues = is.dues;
  machine_rank = stays.rank ∙ is.machine_rank;
  machine_size = stays.size ∙ is.machine_size;
  rank = is.rank;
  limit = is.limit;
  clock = omega (arith, low);
  made = omega (arith, few);
  sent = log_later v.stable.rank v.clock v.log is.sent;
  held = held_event v.log v.pending gate e more is.held;
  events = made_event v.clock v.pending gate e more next is.events;
}
