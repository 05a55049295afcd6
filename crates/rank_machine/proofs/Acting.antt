-- What an act leaves of a machine: the limits, and at which part of a collective it stands. And what a machine asks for that
-- stands at a collective: a part of the call, which doesn't fault.
use Rattle.std.proofs.Common.{◌≡◌, ℕ, ℤ, ◌+◌, ◌<◌, ◌≤◌, Bool, true, false, Ok, Err, Option, Some}
use Rattle.std.proofs.Common.{None, length, map, refl, sym, ap, subst, ◌∙◌, arith, slice_get, if◌then◌else◌}
use Rattle.std.proofs.lemmas.List.{length-map, length-set}
use Rattle.limits.specs.Limits.{greatest_tag, most_items}
use Rattle.rank_language.specs.Placed.{declare, declare_array, assign, assign_item, send, receive, probe, try_probe, print, Collective, collect}
use Rattle.rank_language.specs.Block.{Block, plain, Line, simple_line, if_line, else_line, end_line, while_line, back_line, remaining, size}
use Rattle.rank_language.specs.Program.{block_of}
use Rattle.rank_machine.specs.declared.fault.MachineFault.{MachineFault}
use Rattle.rank_machine.specs.declared.want.Want.{Want}
use Rattle.rank_machine.specs.declared.want.Want.TheVariants as want
use Rattle.rank_machine.specs.Values.{Store, Valued, ◌>>=◌}
use Rattle.rank_machine.specs.Collectives.{CollectiveCall, called, part_of, is_last, counted, part_done, greatest_ordinal}
use Rattle.rank_machine.specs.Acts.{Message, with_variable, with_status}
use Rattle.rank_machine.specs.Wants.{part_want, collective_want, or_fault, want_of}
use Rattle.rank_machine.specs.Machine.{MachineValue, line_at, machine_want_at, machine_want, call_at, HasStage, IsAtLine, IsWithinLimits, IsMachine}
use Rattle.rank_machine.proofs.Going.{IsNoCollectiveLine, after_part}
use Rattle.rank_machine.proofs.Stages.{fresh}

-- no call stands at a line without a collective
none_called : (s : Store) (l : Line) → IsNoCollectiveLine l → call_at s (Some l) ≡ None
none_called s (simple_line (declare p)) n = refl
none_called s (simple_line (declare_array p)) n = refl
none_called s (simple_line (assign p e)) n = refl
none_called s (simple_line (assign_item p i e)) n = refl
none_called s (simple_line (send d t p)) n = refl
none_called s (simple_line (receive c t b)) n = refl
none_called s (simple_line (probe c t)) n = refl
none_called s (simple_line (try_probe c t x)) n = refl
none_called s (simple_line (print e)) n = refl
none_called s (simple_line (collect c)) n = absurd n
none_called s (if_line e q) n = refl
none_called s (else_line q) n = refl
none_called s end_line n = refl
none_called s (while_line e q) n = refl
none_called s (back_line q) n = refl

-- so from there a rank goes on with no part done and nothing gathered, and can stand at each line
goes_past : (s s' : Store) (l : Line) (o : Option Line) (o' : Option CollectiveCall) → o ≡ Some l → IsNoCollectiveLine l → HasStage s (call_at s o)
    → s'.rank < s'.size → s'.done ≡ s.done → s'.gathered ≡ s.gathered → HasStage s' o'
goes_past s s' l o o' at n h below d g =
    let h' : HasStage s None = subst (HasStage s) (ap (call_at s) at ∙ none_called s l n) h in
    let z : s.done < 1 = h'.0 in
    fresh s' o' below (d ∙ (omega (arith, z))) (ap length g ∙ h'.1)

-- the call that stands has the stage of its machine
pub call_stage : (s : Store) (c : Collective) (o : Option Line) (call : CollectiveCall) → o ≡ Some (simple_line (collect c)) → called s c ≡ Ok call
    → HasStage s (call_at s o) → HasStage s (Some call)
call_stage s c o call at e h =
    let f : call_at s o ≡ Some call = rw (at, e) refl in
    subst (HasStage s) f h

-- what holds of what a collective asks for, and of no fault, holds of the part of a call
pub record IsCalling (P : Want → Type 0) (m : MachineValue) (c : Collective) : Type 0 where
  pub fault : m.fault ≡ None
  pub call : CollectiveCall
  pub called : called m.store c ≡ Ok call
  pub part : P (or_fault (part_want m.store c call (part_of m.store call)))

-- a collective that is wanted is called
was_called : (P : Want → Type 0) (s : Store) (c : Collective) (v : Valued CollectiveCall) → ((k : MachineFault) → P (want.Faulted k) → ⊥)
    → P (or_fault (v >>= (λ call. part_want s c call (part_of s call)))) → (call : CollectiveCall) × (v ≡ Ok call) × P (or_fault (part_want s c call (part_of s call)))
was_called P s c (Ok call) none h = (call, refl, h)
was_called P s c (Err k) none h = absurd (none k h)

-- and no fault is left
pub no_fault : (P : Want → Type 0) (s : Store) (b : Block) (k : Option MachineFault) → ((f : MachineFault) → P (want.Faulted f) → ⊥)
    → P (want_of s b k) → k ≡ None
no_fault P s b None none h = refl
no_fault P s b (Some f) none h = absurd (none f h)

-- what a machine asks for at a collective, where it is an act
pub calls : (P : Want → Type 0) (m : MachineValue) (c : Collective) → IsAtLine m → line_at m ≡ Some (simple_line (collect c))
    → ((k : MachineFault) → P (want.Faulted k) → ⊥) → P (machine_want m) → IsCalling P m c
calls P m c h at none w =
    let b : Block = remaining (block_of m.program) m.position in
    let stands : b ≡ plain (collect c) (remaining (block_of m.program) (m.position + 1)) = h.leads (simple_line (collect c)) at in
    let v : P (want_of m.store b m.fault) = subst (λ o. P (machine_want_at o m.fault (want_of m.store b m.fault))) at w in
    let k = no_fault P m.store b m.fault none v in
    let u : P (or_fault (collective_want m.store c)) = subst P (ap (want_of m.store b) k ∙ ap (λ z. want_of m.store z None) stands) v in
    let call = was_called P m.store c (called m.store c) none u in
    record { fault = k; call = call.0; called = call.1; part = call.2 }

-- A collective whose part a machine makes: the line that stands, its call, that it can be counted, and that there is room behind it.
pub record IsPart (m : MachineValue) (c : Collective) (call : CollectiveCall) : Type 0 where
  pub line : IsAtLine m
  pub there : line_at m ≡ Some (simple_line (collect c))
  pub called : called m.store c ≡ Ok call
  pub countable : m.store.finished + 1 ≤ greatest_ordinal
  pub behind : m.position + 1 ≤ size (block_of m.program)

-- the same machine as it was seen at the call
pub seen_part : {m n : MachineValue} {c : Collective} {call : CollectiveCall} {k : ℕ} → m ≡ n → IsAtLine n → line_at n ≡ Some (simple_line (collect c))
    → n.position + 1 ≤ size (block_of n.program) → called m.store c ≡ Ok call → (k ≡ m.store.finished + 1) × (k ≤ greatest_ordinal) → IsPart m c call
seen_part {m} v h at l e o =
    let Behind : MachineValue → Type 0 = λ z. z.position + 1 ≤ size (block_of z.program) in
    record {
      line = subst IsAtLine (sym v) h;
      there = ap line_at v ∙ at;
      called = e;
      countable = subst (λ n. n ≤ greatest_ordinal) o.0 o.1;
      behind = subst Behind (sym v) l;
    }

-- what a part leaves: rank, size, status and number of collectives
pub record Leaves (s s' : Store) : Type 0 where
  pub rank : s'.rank ≡ s.rank
  pub size : s'.size ≡ s.size
  pub source : s'.source ≡ s.source
  pub tag : s'.tag ≡ s.tag
  pub count : s'.count ≡ s.count
  pub finished : s'.finished ≡ s.finished

-- how many arrays there are by how long they are
same_count : (s s' : Store) → map length s'.arrays ≡ map length s.arrays → length s'.arrays ≡ length s.arrays
same_count s s' e = sym (length-map s'.arrays length) ∙ ap length e ∙ length-map s.arrays length

-- a machine whose store keeps rank, size and status is within its limits, where the number of its collectives can be counted
kept_within : (m : MachineValue) (s : Store) (p : ℕ) → IsWithinLimits m
    → s.rank ≡ m.store.rank → s.size ≡ m.store.size → s.source ≡ m.store.source → s.tag ≡ m.store.tag → s.count ≡ m.store.count
    → s.finished ≤ greatest_ordinal → length s.variables ≡ length m.store.variables → map length s.arrays ≡ map length m.store.arrays
    → p ≤ size (block_of m.program) → IsWithinLimits (record m { store = s; position = p })
kept_within m s p i rank size source tag count finished v a l = record {
  position = l;
  variables = v ∙ i.variables;
  arrays = same_count m.store s a ∙ i.arrays;
  lengths = a ∙ i.lengths;
  rank = rw (rank, size) i.rank;
  fault = i.fault;
  source = rw (source, size) i.source;
  tag = rw tag i.tag;
  count = rw count i.count;
  finished = finished;
}

-- of a store that is passed only the number of collectives grows, and it can be counted
passed_within : (m : MachineValue) (s : Store) (last : Bool) (p : ℕ) → IsWithinLimits m → Leaves m.store s → m.store.finished + 1 ≤ greatest_ordinal
    → (let s' : Store = if last then counted s else record s { done = s.done + 1 } in length s'.variables ≡ length m.store.variables)
    → (let s' : Store = if last then counted s else record s { done = s.done + 1 } in map length s'.arrays ≡ map length m.store.arrays)
    → p ≤ size (block_of m.program)
    → (let s' : Store = if last then counted s else record s { done = s.done + 1 } in IsWithinLimits (record m { store = s'; position = p }))
passed_within m s true p i k f v a l =
    let finished = k.finished in
    kept_within m (counted s) p i k.rank k.size k.source k.tag k.count (rw finished f) v a l
passed_within m s false p i k f v a l =
    let finished = k.finished in
    kept_within m (record s { done = s.done + 1 }) p i k.rank k.size k.source k.tag k.count (rw finished i.finished) v a l

-- so a machine is within its limits after a part
pub part_within : (m : MachineValue) (s : Store) (call : CollectiveCall) (p : ℕ) → IsWithinLimits m → Leaves m.store s → m.store.finished + 1 ≤ greatest_ordinal
    → length (part_done s call).variables ≡ length m.store.variables → map length (part_done s call).arrays ≡ map length m.store.arrays
    → p ≤ size (block_of m.program) → IsWithinLimits (record m { store = part_done s call; position = p })
part_within m s call p i k f v a l = passed_within m s (is_last s call) p i k f v a l

-- what is passed has the same variables and arrays
pub passed_same : (s : Store) (last : Bool) →
    (let s' : Store = if last then counted s else record s { done = s.done + 1 } in (s'.variables ≡ s.variables) × (s'.arrays ≡ s.arrays))
passed_same s true = (refl, refl)
passed_same s false = (refl, refl)

-- a part goes no farther than behind its line
pub part_ahead : (last : Bool) (p n : ℕ) → p + 1 ≤ n → after_part last p ≤ n
part_ahead true p n l = l
part_ahead false p n l = omega (arith, l)

-- the machine after a part, by whether it was the last
pub part_is : (m : MachineValue) (s s' : Store) (call : CollectiveCall) (last : Bool) → s ≡ s' → is_last m.store call ≡ last
    → (let a : MachineValue = record m { store = s; position = after_part last m.position } in
    let b : MachineValue = record m { store = s'; position = after_part (is_last m.store call) m.position } in
    a ≡ b)
part_is m s s' call last e f =
    let A : Store → MachineValue = λ z. record m { store = z; position = after_part last m.position } in
    let B : Bool → MachineValue = λ t. record m { store = s'; position = after_part t m.position } in
    ap A e ∙ ap B (sym f)

-- not behind its last part a collective's line still stands
pub same_line : (m : MachineValue) (last : Bool) → last ≡ false → slice_get m.program.statements (after_part last m.position) ≡ line_at m
same_line m true e = absurd cc
same_line m false e = refl

-- What a line without a collective leaves of a store that a machine goes on with: its stage and all limits but those of the status.
pub record Shows (s s' : Store) : Type 0 where
  pub rank : s'.rank ≡ s.rank
  pub size : s'.size ≡ s.size
  pub finished : s'.finished ≡ s.finished
  pub done : s'.done ≡ s.done
  pub gathered : s'.gathered ≡ s.gathered
  pub variables : length s'.variables ≡ length s.variables
  pub lengths : map length s'.arrays ≡ map length s.arrays
  pub source : s'.source < s.size
  pub tag : s'.tag ≤ greatest_tag
  pub count : s'.count ≤ most_items

-- with the status that it has
pub shows_same : (m : MachineValue) → IsMachine m → Shows m.store m.store
shows_same m i = record {
  rank = refl;
  size = refl;
  finished = refl;
  done = refl;
  gathered = refl;
  variables = refl;
  lengths = refl;
  source = i.limits.source;
  tag = i.limits.tag;
  count = i.limits.count;
}

-- and so where a flag was set
pub shows_flag : (m : MachineValue) (p : ℕ) (z : ℤ) → IsMachine m → Shows m.store (with_variable p z m.store)
shows_flag m p z i = record {
  rank = refl;
  size = refl;
  finished = refl;
  done = refl;
  gathered = refl;
  variables = length-set m.store.variables p z;
  lengths = refl;
  source = i.limits.source;
  tag = i.limits.tag;
  count = i.limits.count;
}

-- and where a message set the status
pub shows_status : (m : MachineValue) (s : Store) (q : ℕ) (x : Message) → Shows m.store s → q < m.store.size → x.tag ≤ greatest_tag
    → length x.items ≤ most_items
    → Shows m.store (with_status q x s)
shows_status m s q x k source tag count = record {
  rank = k.rank;
  size = k.size;
  finished = k.finished;
  done = k.done;
  gathered = k.gathered;
  variables = k.variables;
  lengths = k.lengths;
  source = source;
  tag = tag;
  count = count;
}

-- so behind such a line it is a machine
pub plain_machine : (m : MachineValue) (s : Store) (l : Line) (p : ℕ) → IsMachine m → line_at m ≡ Some l → IsNoCollectiveLine l → Shows m.store s
    → p ≤ size (block_of m.program) → IsMachine (record m { store = s; position = p })
plain_machine m s l p i at n k b =
    let w = i.limits in
    let below : s.rank < s.size = rw (k.rank, k.size) w.rank in
    let a = same_count m.store s k.lengths in
    record {
      limits = record {
        position = b;
        variables = k.variables ∙ w.variables;
        arrays = a ∙ w.arrays;
        lengths = k.lengths ∙ w.lengths;
        rank = below;
        fault = w.fault;
        source = rw k.size k.source;
        tag = k.tag;
        count = k.count;
        finished = rw k.finished w.finished;
      };
      stage = goes_past m.store s l (line_at m) _ at n i.stage below k.done k.gathered;
    }
