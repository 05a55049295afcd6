-- What a machine is after a reception, and that it stands for the state after it.
use Rattle.std.proofs.Common.{◌≡◌, ℕ, ℤ, ◌+◌, ◌<◌, ◌≤◌, Bool, true, false, List, [], ◌∷◌, Ok, Err, Option}
use Rattle.std.proofs.Common.{Some, None, IfOk, length, map, refl, sym, ap, subst, ◌∙◌, arith, if◌then◌else◌}
use Rattle.std.specs.Prelude.{nat_le}
use Rattle.std.proofs.lemmas.List.{length-set}
use Rattle.std.proofs.lemmas.Bool.Decides.{nat_tests}
use Rattle.matching.specs.declared.packet.Context.TheVariants.{PointToPoint}
use Rattle.matching.specs.declared.selector.Selector.{Selector}
use Rattle.matching.specs.PacketValue as packet
use Rattle.matching.specs.PacketValue.{IsPacketValue}
use Rattle.rank_language.specs.Placed.{Buffer, into_variable, into_array, Pattern, receive, Collective, barrier, broadcast, reduce, collect}
use Rattle.rank_language.specs.Block.{Block, plain, simple_line, remaining, size}
use Rattle.rank_language.specs.Program.{block_of}
use Rattle.rank_machine.specs.declared.call.CollectiveCall as source_call
use Rattle.rank_machine.specs.declared.fault.MachineFault.{MachineFault}
use Rattle.rank_machine.specs.declared.fault.MachineFault.TheVariants.{TooLong, CollectiveMismatch}
use Rattle.rank_machine.specs.declared.want.Want.TheVariants as want
use Rattle.rank_machine.specs.Faults.{IsLeft}
use Rattle.rank_machine.specs.Values.{Store, Valued, ◌>>=◌}
use Rattle.rank_machine.specs.Collectives.{CollectiveCall, Part, gives, gets, ends, part_of, is_last, part_done, given_by, ended}
use Rattle.rank_machine.specs.Calling.{head_of, call_of}
use Rattle.rank_machine.specs.States.{State}
use Rattle.rank_machine.specs.Wants.{selector_of, part_want, receive_want, or_fault, want_of}
use Rattle.rank_machine.specs.Acts.{Act, Message, carried, takes, room, written, with_status, received, kept}
use Rattle.rank_machine.specs.Acts.{fitting, items_taken, part_taken, collected, after_first, unless_faulted, next}
use Rattle.rank_machine.specs.Machine.{MachineValue, state_of, line_at, machine_want_at, machine_want, IsReceiving, IsAtLine, IsMachine}
use Rattle.rank_machine.proofs.Lines.{never}
use Rattle.rank_machine.proofs.Making.{named}
use Rattle.rank_machine.proofs.Between.{IsFew, few, selects}
use Rattle.rank_machine.proofs.Calls.{bound_ok}
use Rattle.rank_machine.proofs.Going.{after_part, remains_after}
use Rattle.rank_machine.proofs.Outcomes.{fitting_same}
use Rattle.rank_machine.proofs.Stages.{taken_stage}
use Rattle.rank_machine.proofs.Acting.{IsCalling, no_fault, calls, call_stage, IsPart, Leaves, part_within}
use Rattle.rank_machine.proofs.Acting.{part_ahead, part_is, same_line, Shows, plain_machine}

-- what a receive statement names is between two ranks, so the message that it takes has few items
selected_few : (v : Valued Selector) (m : packet.PacketValue) → IsPacketValue m → IfOk v (λ w. w.context ≡ PointToPoint)
    → IsReceiving (or_fault (v >>= (λ w. Ok (want.Receive w)))) m → IsFew m
selected_few (Ok w) m h b i = few m h ((named w m i).0 ∙ b)
selected_few (Err k) m h b i = absurd i

-- A receive statement that takes a message: the line that stands, no fault, and a message within the limits of its context.
pub record IsTaking (m : MachineValue) (c t : Pattern) (b : Buffer) (p : packet.PacketValue) : Type 0 where
  pub there : line_at m ≡ Some (simple_line (receive c t b))
  pub stands : remaining (block_of m.program) m.position ≡ plain (receive c t b) (remaining (block_of m.program) (m.position + 1))
  pub fault : m.fault ≡ None
  pub few : IsFew p

-- a machine that asks for a message at a receive statement has no fault, and takes a message between two ranks
taking : (m : MachineValue) (c t : Pattern) (b : Buffer) (p : packet.PacketValue) → IsPacketValue p → IsAtLine m
    → line_at m ≡ Some (simple_line (receive c t b))
    → IsReceiving (machine_want m) p → IsTaking m c t b p
taking m c t b p h l at i =
    let r : Block = remaining (block_of m.program) m.position in
    let stands : r ≡ plain (receive c t b) (remaining (block_of m.program) (m.position + 1)) = l.leads (simple_line (receive c t b)) at in
    let v : IsReceiving (want_of m.store r m.fault) p = subst (λ o. IsReceiving (machine_want_at o m.fault (want_of m.store r m.fault)) p) at i in
    let k = no_fault (λ w. IsReceiving w p) m.store r m.fault (λ f z. z) v in
    let wanted = ap (want_of m.store r) k ∙ ap (λ z. want_of m.store z None) stands in
    let u : IsReceiving (or_fault (receive_want m.store c t)) p = subst (λ w. IsReceiving w p) wanted v in
    record { there = at; stands = stands; fault = k; few = selected_few (selector_of m.store c t) p h (selects m.store c t) u }

-- the same machine as it was seen at the call
pub seen_taking : {m n : MachineValue} {c t : Pattern} {b : Buffer} {p : packet.PacketValue} → m ≡ n → IsPacketValue p → IsAtLine n
    → line_at n ≡ Some (simple_line (receive c t b)) → IsReceiving (machine_want n) p → IsTaking m c t b p
seen_taking {m} {n} {c} {t} {b} {p} v h l at i =
    let P : MachineValue → Type 0 = λ z. IsReceiving (machine_want z) p in
    taking m c t b p h (subst IsAtLine (sym v) l) (ap line_at v ∙ at) (subst P (sym v) i)

-- what it takes its state receives
receives : (m : MachineValue) (c t : Pattern) (b : Buffer) (p : packet.PacketValue) (place : ℕ) → IsTaking m c t b p →
    received (state_of m) b (remaining (block_of m.program) (m.position + 1)) p.source (carried p) ≡ next (state_of m) (takes p.source place) (Some (carried p))
receives m c t b p place i =
    let a : State = state_of m in
    let act : Act = takes p.source place in
    let F : Option MachineFault → State = λ k. unless_faulted k a act (Some (carried p)) in
    let R : Block → State = λ r. after_first a r act (Some (carried p)) in
    sym (ap F i.fault ∙ ap R i.stands)

-- a message that is longer than the buffer is a fault
long_received : (a : State) (b : Buffer) (r : Block) (q : ℕ) (x : Message) → room a.store b < length x.items
    → record a { fault = Some TooLong } ≡ received a b r q x
long_received a b r q x l =
    let e : nat_le (length x.items) (room a.store b) ≡ false = grind (arith, nat_tests, l) in
    rw e refl

-- and one that fits goes there
fit_received : (a : State) (b : Buffer) (r : Block) (q : ℕ) (x : Message) → length x.items ≤ room a.store b →
    record { store = with_status q x (written b x.items a.store); rest = r; fault = None } ≡ received a b r q x
fit_received a b r q x l =
    let e : nat_le (length x.items) (room a.store b) ≡ true = grind (arith, nat_tests, l) in
    rw e refl

-- so a machine stands for the state after a message that is too long
pub long_state : {m n : MachineValue} {c t : Pattern} {b : Buffer} {p : packet.PacketValue} → m ≡ n → IsTaking m c t b p → room m.store b < length p.items
    → (place : ℕ) → state_of (record m { fault = Some TooLong }) ≡ next (state_of n) (takes p.source place) (Some (carried p))
long_state {m} {n} {c} {t} {b} {p} v i l place =
    let m' : MachineValue = record m { fault = Some TooLong } in
    let Q : MachineValue → Type 0 = λ z. state_of m' ≡ next (state_of z) (takes p.source place) (Some (carried p)) in
    subst Q v (long_received (state_of m) b (remaining (block_of m.program) (m.position + 1)) p.source (carried p) l ∙ receives m c t b p place i)

-- and after one that fits
pub fit_state : {m n : MachineValue} {c t : Pattern} {b : Buffer} {p : packet.PacketValue} {s : Store} → m ≡ n → IsTaking m c t b p
    → length p.items ≤ room m.store b
    → s ≡ with_status p.source (carried p) (written b p.items m.store)
    → (place : ℕ) → state_of (record m { store = s; position = m.position + 1 }) ≡ next (state_of n) (takes p.source place) (Some (carried p))
fit_state {m} {n} {c} {t} {b} {p} {s} v i l e place =
    let r : Block = remaining (block_of m.program) (m.position + 1) in
    let m' : MachineValue = record m { store = s; position = m.position + 1 } in
    let A : Store → Option MachineFault → State = λ s k. record { store = s; rest = r; fault = k } in
    let Q : MachineValue → Type 0 = λ z. state_of m' ≡ next (state_of z) (takes p.source place) (Some (carried p)) in
    let S : Store = with_status p.source (carried p) (written b p.items m.store) in
    let Of : Store → State = λ z. A z m.fault in
    let there : state_of m' ≡ A S None = ap Of e ∙ ap (A S) i.fault in
    subst Q v (there ∙ fit_received (state_of m) b r p.source (carried p) l ∙ receives m c t b p place i)

-- what a buffer that is written leaves
pub record Writes (s s' : Store) : Type 0 where
  pub left : Leaves s s'
  pub done : s'.done ≡ s.done
  pub gathered : s'.gathered ≡ s.gathered
  pub variables : length s'.variables ≡ length s.variables

-- a written buffer changes one variable or one array at most, and nothing else
writes : (b : Buffer) (items : List ℤ) (s : Store) → Writes s (written b items s)
writes (into_variable p) [] s = record {
  left = record { rank = refl; size = refl; source = refl; tag = refl; count = refl; finished = refl };
  done = refl;
  gathered = refl;
  variables = refl;
}
writes (into_variable p) (z ∷ zs) s = record {
  left = record { rank = refl; size = refl; source = refl; tag = refl; count = refl; finished = refl };
  done = refl;
  gathered = refl;
  variables = length-set s.variables p z;
}
writes (into_array p) items s = record {
  left = record { rank = refl; size = refl; source = refl; tag = refl; count = refl; finished = refl };
  done = refl;
  gathered = refl;
  variables = refl;
}

-- after a message that fits it is a machine
pub fit_machine : {m n : MachineValue} {c t : Pattern} {b : Buffer} {p : packet.PacketValue} {s : Store} → m ≡ n → IsMachine m → IsTaking m c t b p
    → s ≡ with_status p.source (carried p) (written b p.items m.store) → map length s.arrays ≡ map length m.store.arrays
    → p.source < n.store.size → n.position + 1 ≤ size (block_of n.program) → IsMachine (record m { store = s; position = m.position + 1 })
fit_machine {m} {n} {c} {t} {b} {p} {s} v h i e a q l =
    let Source : MachineValue → Type 0 = λ z. p.source < z.store.size in
    let Behind : MachineValue → Type 0 = λ z. z.position + 1 ≤ size (block_of z.program) in
    let W : Store = written b p.items m.store in
    let S : Store = with_status p.source (carried p) W in
    let Lengths : Store → Type 0 = λ z. map length z.arrays ≡ map length m.store.arrays in
    let Result : Store → Type 0 = λ z. IsMachine (record m { store = z; position = m.position + 1 }) in
    let w = writes b p.items m.store in
    let shown : Shows m.store S = record {
      rank = w.left.rank;
      size = w.left.size;
      finished = w.left.finished;
      done = w.done;
      gathered = w.gathered;
      variables = w.variables;
      lengths = subst Lengths e a;
      source = subst Source (sym v) q;
      tag = i.few.tag;
      count = i.few.count;
    } in
    subst Result (sym e) (plain_machine m S (simple_line (receive c t b)) (m.position + 1) h i.there tt shown (subst Behind (sym v) l))

-- a part that asks for a reception gets
gets_part : (s : Store) (c : Collective) (call : CollectiveCall) (p : packet.PacketValue) (x : Part) → IsReceiving (or_fault (part_want s c call x)) p
    → (q : ℕ) × (x ≡ gets q)
gets_part s c call p (gives d) h = absurd h
gets_part s c call p (gets q) h = (q, refl)
gets_part s c call p ends h = absurd (never (λ w. IsReceiving w p) (ended s c call) _ (λ k z. z) (λ s' z. z) h)

-- a machine that asks for a reception at a collective stands at a part of its call
pub takes_call : (m : MachineValue) (c : Collective) (p : packet.PacketValue) → IsAtLine m → line_at m ≡ Some (simple_line (collect c))
    → IsReceiving (machine_want m) p
    → IsCalling (λ w. IsReceiving w p) m c
takes_call m c p h at w = calls (λ w. IsReceiving w p) m c h at (λ k z. z) w

-- A collective that takes a message: no fault, and its part gets.
record IsGetting (m : MachineValue) (call : CollectiveCall) : Type 0 where
  fault : m.fault ≡ None
  source : ℕ
  part : part_of m.store call ≡ gets source

-- a machine that asks for a message at a collective has no fault, and its part gets
getting : (m n : MachineValue) (c : Collective) (call : CollectiveCall) (p : packet.PacketValue) → m ≡ n → IsPart m c call
    → IsReceiving (machine_want n) p → IsGetting m call
getting m n c call p v i w =
    let P : MachineValue → Type 0 = λ z. IsReceiving (machine_want z) p in
    let a = takes_call m c p i.line i.there (subst P (sym v) w) in
    let same : a.call ≡ call = (let q : Ok a.call ≡ Ok call = sym a.called ∙ i.called in cc) in
    let Q : CollectiveCall → Type 0 = λ z. IsReceiving (or_fault (part_want m.store c z (part_of m.store z))) p in
    let g = gets_part m.store c call p (part_of m.store call) (subst Q same a.part) in
    record { fault = a.fault; source = g.0; part = g.1 }

-- the state after it
collects : (m : MachineValue) (c : Collective) (call : CollectiveCall) (p : packet.PacketValue) (place : ℕ) → IsPart m c call → m.fault ≡ None →
    part_taken (state_of m) c (remaining (block_of m.program) (m.position + 1)) call (items_taken m.store c call p.items)
    ≡ next (state_of m) (takes p.source place) (Some (carried p))
collects m c call p place i f =
    let a : State = state_of m in
    let act : Act = takes p.source place in
    let r : Block = remaining (block_of m.program) (m.position + 1) in
    let F : Option MachineFault → State = λ k. unless_faulted k a act (Some (carried p)) in
    let R : Block → State = λ r. after_first a r act (Some (carried p)) in
    let C : Valued CollectiveCall → State = λ v. collected a c r (carried p) v in
    sym (ap F f ∙ ap R (i.line.leads (simple_line (collect c)) i.there) ∙ ap C i.called)

-- what a packet gives is by the header of its call alone
head_given : (s : Store) (c : Collective) (k : source_call.CollectiveCall) (items : List ℤ) → given_by (head_of k) items ≡ given_by (call_of s c k) items
head_given s c k [] = refl
head_given s c k (x ∷ []) = refl
head_given s c k (x ∷ (y ∷ [])) = refl
head_given s c k (x ∷ (y ∷ (z ∷ items))) = refl

-- and so are the items that are taken of its payload
pub head_taken : (s : Store) (c : Collective) (k : source_call.CollectiveCall) {payload : List ℤ} {p q : packet.PacketValue} {v : Valued (List ℤ)}
    → payload ≡ p.items → p ≡ q → items_taken s c (head_of k) payload ≡ v → items_taken s c (call_of s c k) q.items ≡ v
head_taken s c k {payload} {p} {q} {v} same seen e =
    let F : Valued (List ℤ) → Valued (List ℤ) = λ w. w >>= (λ items. fitting s c items) in
    let Items : packet.PacketValue → List ℤ = λ z. z.items in
    let Taken : List ℤ → Type 0 = λ z. items_taken s c (head_of k) z ≡ v in
    sym (ap F (head_given s c k q.items)) ∙ subst Taken (same ∙ ap Items seen) e

-- items that fit are left as they are, so those that are taken were given
taken_given : (s : Store) (c : Collective) (call : CollectiveCall) (packet items : List ℤ) → items_taken s c call packet ≡ Ok items → given_by call packet ≡ Ok items
taken_given s c call packet items e =
    let x = bound_ok (given_by call packet) _ items e in
    x.1 ∙ ap Ok (sym (fitting_same s c x.0 items x.2))

-- what a packet that isn't taken leaves as a fault
mismatched : (call : CollectiveCall) (packet : List ℤ) (k : MachineFault) → given_by call packet ≡ Err k → IsLeft (Some k)
mismatched call [] k e = (let q : CollectiveMismatch ≡ k = cc in subst (λ z. IsLeft (Some z)) q tt)
mismatched call (x ∷ []) k e = (let q : CollectiveMismatch ≡ k = cc in subst (λ z. IsLeft (Some z)) q tt)
mismatched call (x ∷ (y ∷ [])) k e = (let q : CollectiveMismatch ≡ k = cc in subst (λ z. IsLeft (Some z)) q tt)
mismatched call (x ∷ (y ∷ (z ∷ items))) k e = by_test _ e
  where
    by_test : (t : Bool) → (if t then Ok items else Err CollectiveMismatch) ≡ Err k → IsLeft (Some k)
    by_test true e = absurd cc
    by_test false e = (let q : CollectiveMismatch ≡ k = cc in subst (λ z. IsLeft (Some z)) q tt)

-- what items that don't fit leave as a fault
unfit : (s : Store) (c : Collective) (xs : List ℤ) (k : MachineFault) → fitting s c xs ≡ Err k → IsLeft (Some k)
unfit s barrier xs k e = absurd cc
unfit s (broadcast x b) xs k e = by_test _ e
  where
    by_test : (t : Bool) → (if t then Ok xs else Err TooLong) ≡ Err k → IsLeft (Some k)
    by_test true e = absurd cc
    by_test false e = (let q : TooLong ≡ k = cc in subst (λ z. IsLeft (Some z)) q tt)
unfit s (reduce f x v p) xs k e = absurd cc

-- so a packet is refused by its header or for items that don't fit
refused : (s : Store) (c : Collective) (call : CollectiveCall) (packet : List ℤ) (v : Valued (List ℤ)) (k : MachineFault) → given_by call packet ≡ v
    → (v >>= (λ items. fitting s c items)) ≡ Err k → IsLeft (Some k)
refused s c call packet (Ok xs) k g e = unfit s c xs k e
refused s c call packet (Err j) k g e =
    let q : j ≡ k = cc in
    mismatched call packet k (g ∙ ap Err q)

-- after a packet that isn't taken it is a machine, with a fault that an act may leave
pub refused_machine : (m : MachineValue) (c : Collective) (call : CollectiveCall) (packet : List ℤ) (k : MachineFault) (s : Store) → IsMachine m
    → items_taken m.store c call packet ≡ Err k → s ≡ m.store → IsMachine (record m { store = s; fault = Some k })
refused_machine m c call packet k s i e g =
    let P : Store → Type 0 = λ z. IsMachine (record m { store = z; fault = Some k }) in
    let w = i.limits in
    subst P (sym g) (record {
      limits = record {
        position = w.position;
        variables = w.variables;
        arrays = w.arrays;
        lengths = w.lengths;
        rank = w.rank;
        fault = refused m.store c call packet (given_by call packet) k refl e;
        source = w.source;
        tag = w.tag;
        count = w.count;
        finished = w.finished;
      };
      stage = i.stage;
    })

-- and it stands for the state after that
pub refused_state : {m n : MachineValue} {c : Collective} {call : CollectiveCall} (p : packet.PacketValue) {k : MachineFault} {s : Store} → m ≡ n → IsPart m c call
    → IsReceiving (machine_want n) p → items_taken m.store c call p.items ≡ Err k → s ≡ m.store
    → (place : ℕ) → state_of (record m { store = s; fault = Some k }) ≡ next (state_of n) (takes p.source place) (Some (carried p))
refused_state {m} {n} {c} {call} p {k} {s} v i w e g place =
    let m' : MachineValue = record m { store = s; fault = Some k } in
    let Q : MachineValue → Type 0 = λ z. state_of m' ≡ next (state_of z) (takes p.source place) (Some (carried p)) in
    let r : Block = remaining (block_of m.program) (m.position + 1) in
    let Of : Store → State = λ z. record { store = z; rest = remaining (block_of m.program) m.position; fault = Some k } in
    let T : Valued (List ℤ) → State = λ v. part_taken (state_of m) c r call v in
    let f = (getting m n c call p v i w).fault in
    subst Q v (ap Of g ∙ ap T (sym e) ∙ collects m c call p place i f)

-- what is kept of a packet leaves the rest
leaves : (c : Collective) (items : List ℤ) (s : Store) → Leaves s (kept c items s)
leaves barrier items s = record { rank = refl; size = refl; source = refl; tag = refl; count = refl; finished = refl }
leaves (broadcast e b) items s = (writes b items s).left
leaves (reduce f e v p) items s = record { rank = refl; size = refl; source = refl; tag = refl; count = refl; finished = refl }

-- after a packet that is taken it is a machine
pub taken_machine : {m n : MachineValue} {c : Collective} {call : CollectiveCall} (p : packet.PacketValue) {items : List ℤ} {s : Store} {last : Bool}
    → m ≡ n → IsMachine m
    → IsPart m c call → IsReceiving (machine_want n) p → items_taken m.store c call p.items ≡ Ok items → s ≡ part_done (kept c items m.store) call
    → length s.variables ≡ length m.store.variables → map length s.arrays ≡ map length m.store.arrays → is_last m.store call ≡ last
    → IsMachine (record m { store = s; position = after_part last m.position })
taken_machine {m} {n} {c} {call} p {items} {s} {last} v h i w e g variables lengths f =
    let o = m.store in
    let t = is_last o call in
    let S : Store = part_done (kept c items o) call in
    let Variables : Store → Type 0 = λ z. length z.variables ≡ length o.variables in
    let Lengths : Store → Type 0 = λ z. map length z.arrays ≡ map length o.arrays in
    let q = getting m n c call p v i w in
    let stage = call_stage o c (line_at m) call i.there i.called h.stage in
    let given = taken_given o c call p.items items e in
    let there : IsMachine (record m { store = S; position = after_part t m.position }) = record {
      limits = part_within m (kept c items o) call (after_part t m.position) h.limits (leaves c items o) i.countable
          (subst Variables g variables) (subst Lengths g lengths) (part_ahead t m.position _ i.behind);
      stage = taken_stage o c call q.source p.items items _ h.limits.rank i.called stage q.part given (λ more. same_line m t more ∙ i.there);
    } in
    subst IsMachine (sym (part_is m s S call last g f)) there

-- and it stands for the state after that
pub taken_state : {m n : MachineValue} {c : Collective} {call : CollectiveCall} (p : packet.PacketValue) {items : List ℤ} {s : Store} {last : Bool} → m ≡ n
    → IsPart m c call → IsReceiving (machine_want n) p → items_taken m.store c call p.items ≡ Ok items → s ≡ part_done (kept c items m.store) call
    → is_last m.store call ≡ last → (place : ℕ)
    → state_of (record m { store = s; position = after_part last m.position }) ≡ next (state_of n) (takes p.source place) (Some (carried p))
taken_state {m} {n} {c} {call} p {items} {s} {last} v i w e g f place =
    let o = m.store in
    let t = is_last o call in
    let at : ℕ → Block = remaining (block_of m.program) in
    let S : Store = part_done (kept c items o) call in
    let m' : MachineValue = record m { store = s; position = after_part last m.position } in
    let Q : MachineValue → Type 0 = λ z. state_of m' ≡ next (state_of z) (takes p.source place) (Some (carried p)) in
    let A : Block → Option MachineFault → State = λ r k. record { store = S; rest = r; fault = k } in
    let Of : Block → State = λ r. A r None in
    let T : Valued (List ℤ) → State = λ v. part_taken (state_of m) c (at (m.position + 1)) call v in
    let none = (getting m n c call p v i w).fault in
    let remains = remains_after at m.position t c (i.line.leads (simple_line (collect c)) i.there) in
    let there = ap state_of (part_is m s S call last g f) ∙ ap (A (at (after_part t m.position))) none ∙ ap Of (sym remains) in
    subst Q v (there ∙ ap T (sym e) ∙ collects m c call p place i none)
