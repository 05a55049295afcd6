-- What a machine is after a send of a collective.
use Rattle.std.proofs.Common.{◌≡◌, ℕ, Bool, Ok, Option, Some, length, map, refl, sym, ap, subst, ◌∙◌}
use Rattle.rank_language.specs.Placed.{Collective, collect}
use Rattle.rank_language.specs.Block.{simple_line}
use Rattle.rank_machine.specs.Values.{Store}
use Rattle.rank_machine.specs.Collectives.{CollectiveCall, Part, gives, gets, ends, part_of, is_last, part_done, ended}
use Rattle.rank_machine.specs.Wants.{IsSend, part_want, or_fault}
use Rattle.rank_machine.specs.Acts.{Act, Message, Makes, next}
use Rattle.rank_machine.specs.Machine.{MachineValue, state_of, line_at, machine_want, IsAtLine, IsMachine}
use Rattle.rank_machine.proofs.Lines.{never}
use Rattle.rank_machine.proofs.Going.{after_part, part_acts}
use Rattle.rank_machine.proofs.Stages.{sent_stage}
use Rattle.rank_machine.proofs.Acting.{IsCalling, calls, call_stage, IsPart, Leaves, part_within, passed_same, part_ahead, part_is, same_line}

-- a part that asks for a send gives
gives_part : (s : Store) (c : Collective) (call : CollectiveCall) (p : Part) → IsSend (or_fault (part_want s c call p)) → (d : ℕ) × (p ≡ gives d)
gives_part s c call (gives d) h = (d, refl)
gives_part s c call (gets q) h = absurd h
gives_part s c call ends h = absurd (never IsSend (ended s c call) _ (λ k z. z) (λ s' z. z) h)

-- a machine that asks for a send at a collective stands at a part of its call
pub sends_call : (m : MachineValue) (c : Collective) → IsAtLine m → line_at m ≡ Some (simple_line (collect c)) → IsSend (machine_want m) → IsCalling IsSend m c
sends_call m c h at w = calls IsSend m c h at (λ k z. z) w

-- one that gives
gives_call : (m : MachineValue) (c : Collective) (call : CollectiveCall) → IsPart m c call → IsSend (machine_want m) → (d : ℕ) × (part_of m.store call ≡ gives d)
gives_call m c call p w =
    let a = sends_call m c p.line p.there w in
    let same : a.call ≡ call = (let q : Ok a.call ≡ Ok call = sym a.called ∙ p.called in cc) in
    let P : CollectiveCall → Type 0 = λ z. IsSend (or_fault (part_want m.store c z (part_of m.store z))) in
    gives_part m.store c call (part_of m.store call) (subst P same a.part)

-- after the send it is a machine
sent_machine : (m : MachineValue) (c : Collective) (call : CollectiveCall) → IsMachine m → IsPart m c call → IsSend (machine_want m)
    → IsMachine (record m { store = part_done m.store call; position = after_part (is_last m.store call) m.position })
sent_machine m c call i p w =
    let s = m.store in
    let last = is_last s call in
    let g = gives_call m c call p w in
    let stays : Leaves s s = record { rank = refl; size = refl; source = refl; tag = refl; count = refl; finished = refl } in
    let same = passed_same s last in
    let ahead = part_ahead last m.position _ p.behind in
    let stage = call_stage s c (line_at m) call p.there p.called i.stage in
    record {
      limits = part_within m s call (after_part last m.position) i.limits stays p.countable (ap length same.0) (ap (map length) same.1) ahead;
      stage = sent_stage s c call g.0 _ i.limits.rank p.called stage g.1 (λ more. same_line m last more ∙ p.there);
    }

-- with this store, and by whether the part was the last
pub sent_is_machine : {m n : MachineValue} {c : Collective} {call : CollectiveCall} {s : Store} {last : Bool} → m ≡ n → IsMachine m → IsPart m c call
    → IsSend (machine_want n)
    → s ≡ part_done m.store call → is_last m.store call ≡ last → IsMachine (record m { store = s; position = after_part last m.position })
sent_is_machine {m} {n} {c} {call} {s} {last} v i p w e f =
    let P : MachineValue → Type 0 = λ z. IsSend (machine_want z) in
    subst IsMachine (sym (part_is m s (part_done m.store call) call last e f)) (sent_machine m c call i p (subst P (sym v) w))

-- and it stands for the state after the send
pub sent_state : {m n : MachineValue} {c : Collective} {call : CollectiveCall} {s : Store} {last : Bool} → m ≡ n → IsPart m c call → IsSend (machine_want n)
    → s ≡ part_done m.store call → is_last m.store call ≡ last
    → (act : Act) (message : Option Message) → Makes (state_of n) act message
    → state_of (record m { store = s; position = after_part last m.position }) ≡ next (state_of n) act message
sent_state {m} {n} {c} {call} {s} {last} v p w e f =
    let P : MachineValue → Type 0 = λ z. IsSend (machine_want z) in
    let m' : MachineValue = record m { store = s; position = after_part last m.position } in
    let Q : MachineValue → Type 0 =
    λ z. (act : Act) (message : Option Message) → Makes (state_of z) act message → state_of m' ≡ next (state_of z) act message
    in
    subst Q v (part_acts m m' c call (part_is m s (part_done m.store call) call last e f) p.line p.there p.called (subst P (sym v) w))
