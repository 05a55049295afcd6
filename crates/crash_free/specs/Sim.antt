-- A crash-free run that is made act by act: which choices it allows, and what each does.
use Rattle.std.specs.Prelude.{◌≡◌, ℕ, ℤ, ◌<◌, ◌≤◌, nat_lt, Bool, List, [], ◌∷◌, Option, Some, IsSomeAnd, length, slice_get, slice_set, take}
use Rattle.std.specs.List.{list_all}
use Rattle.rank_language.specs.Program.{ProgramValue}
use Rattle.rank_machine.specs.declared.fault.MachineFault.{MachineFault}
use Rattle.rank_machine.specs.declared.want.Want.{Want}
use Rattle.rank_machine.specs.declared.want.Want.TheVariants as want
use Rattle.rank_machine.specs.States.{State, Inners, opening, first_store}
use Rattle.rank_machine.specs.Wants.{wants, payload}
use Rattle.rank_machine.specs.Acts.{Act, Message, sends, takes, hits, misses, prints, Runs, next}
use Rattle.rank_machine.specs.Machine.{MachineValue, state_of, machine_want, GoesOn, next_of, received_at, KeepsRank}
use Rattle.crash_free.specs.declared.choice.Choice.{Choice}
use Rattle.crash_free.specs.declared.choice.Choice.TheVariants as choice
use Rattle.crash_free.specs.declared.not_allowed.NotAllowed.{NotAllowed}
use Rattle.crash_free.specs.declared.not_allowed.NotAllowed.TheVariants as refusal
use Rattle.crash_free.specs.Runs.{Passed, history, sent, looked_up, IsFree, IsRun}
use Rattle.crash_free.specs.Laws.{HasFinished, CollectiveLaws}

-- the ranks of a program with where each stands, and the run so far, newest act first
pub record SimValue : Type 0 where
  pub program : ProgramValue
  pub machines : List MachineValue
  pub run : List Passed

-- the state in which a rank of this program begins
abbrev pub start_of : ProgramValue → ℕ → ℕ → State
start_of program n r = opening program r n

-- The run is one of the program with as many ranks, and each machine stands, by inner steps, at the
-- state after its rank's acts in the run.
pub record Simulates (s : SimValue) : Type 0 where
  pub is_run : IsRun (start_of s.program (length s.machines)) (length s.machines) s.run
  pub ranks : (r : ℕ) (m : MachineValue) → slice_get s.machines r ≡ Some m
      → (after : State) × Runs (start_of s.program (length s.machines) r) (history s.run r) after × Inners after (state_of m)

-- The collective laws hold of the run, and each collective that a machine counts was finished in
-- it.
pub record CollectivesAgree (s : SimValue) : Type 0 where
  pub laws : CollectiveLaws (start_of s.program (length s.machines)) (length s.machines) s.run
  pub counts : (r : ℕ) (m : MachineValue) (k : ℕ) → slice_get s.machines r ≡ Some m → 0 < k → k ≤ m.store.finished
      → HasFinished (start_of s.program (length s.machines) r) (history s.run r) k

-- a machine at the beginning of this program, the one of rank r of n
pub record Begins (program : ProgramValue) (n r : ℕ) (m : MachineValue) : Type 0 where
  pub program_same : m.program ≡ program
  pub position : m.position ≡ 0
  pub store : m.store ≡ first_store program r n
  pub state : state_of m ≡ start_of program n r

-- these are the first machines of n ranks at the beginning of this program
abbrev pub AreBegun : ProgramValue → ℕ → List MachineValue → Type 0
AreBegun program n machines = (r : ℕ) (m : MachineValue) → slice_get machines r ≡ Some m → Begins program n r m

-- what a choice is for a rank
pub data Meaning : Type 0 where
  ended : Meaning
  other : Meaning
  own_step : Meaning
  makes : (act : Act) → Meaning

-- the choice that makes this act, if it may be made
abbrev pub choice_of : Act → Choice
choice_of (sends dest context tag items) = choice.Next
choice_of (takes source place) = choice.Take source place
choice_of (hits source place) = choice.Take source place
choice_of misses = choice.Miss
choice_of (prints value) = choice.Next

-- a rank that has halted or faulted has ended; else the choice names the step or the act that is
-- wanted, with these items to send, or another
abbrev pub meaning : Want → List ℤ → Choice → Meaning
meaning want.Halted items c = ended
meaning (want.Faulted fault) items c = ended
meaning want.Internal items choice.Next = own_step
meaning want.Internal items (choice.Take source index) = other
meaning want.Internal items choice.Miss = other
meaning (want.Send dest context tag) items choice.Next = makes (sends dest context tag items)
meaning (want.Send dest context tag) items (choice.Take source index) = other
meaning (want.Send dest context tag) items choice.Miss = other
meaning (want.Print value) items choice.Next = makes (prints value)
meaning (want.Print value) items (choice.Take source index) = other
meaning (want.Print value) items choice.Miss = other
meaning (want.Receive selector) items choice.Next = other
meaning (want.Receive selector) items (choice.Take source index) = makes (takes source index)
meaning (want.Receive selector) items choice.Miss = other
meaning (want.Probe selector) items choice.Next = other
meaning (want.Probe selector) items (choice.Take source index) = makes (hits source index)
meaning (want.Probe selector) items choice.Miss = other
meaning (want.TryProbe selector) items choice.Next = other
meaning (want.TryProbe selector) items (choice.Take source index) = makes (hits source index)
meaning (want.TryProbe selector) items choice.Miss = makes misses

-- what a choice is for a machine
abbrev pub meant : MachineValue → Choice → Meaning
meant m c = meaning (machine_want m) (payload (state_of m)) c

-- what each sender sent to a rank
abbrev pub inbound_of : List Passed → ℕ → ℕ → List Message
inbound_of C r source = sent C source r

-- the position after an act: where the line leads, unless a message was a fault
abbrev pub position_after_act : MachineValue → Act → Option MachineFault → ℕ
position_after_act m (takes source place) fault = received_at m fault
position_after_act m (sends dest context tag items) fault = next_of m
position_after_act m (hits source place) fault = next_of m
position_after_act m misses fault = next_of m
position_after_act m (prints value) fault = next_of m

-- what an act, with its message if it has one, makes of a machine
pub record IsAfter (m : MachineValue) (act : Act) (message : Option Message) (m' : MachineValue) : Type 0 where
  pub state : state_of m' ≡ next (state_of m) act message
  pub position : m'.position ≡ position_after_act m act m'.fault
  pub stays : KeepsRank m m'

-- the simulation with this machine for a rank
abbrev pub with_machine : SimValue → ℕ → MachineValue → SimValue
with_machine s r m = record s { machines = slice_set s.machines r m }

-- the simulation with this machine for a rank, after this act of the rank
abbrev pub with_act : SimValue → ℕ → MachineValue → Act → SimValue
with_act s r m act = record s { machines = slice_set s.machines r m; run = record { rank = r; act = act } ∷ s.run }

-- an act that a rank may make next: what it takes or hits is eligible
abbrev pub IsFreeAt : SimValue → ℕ → MachineValue → Act → Type 0
IsFreeAt s r m act = IsFree (wants (state_of m)) act (inbound_of s.run r) (history s.run r)

-- What a choice of this meaning does for a rank, from one machine to the other: a step of its own
-- leaves the run as it is, and an act that is free makes the run one act longer.
abbrev pub Does : Meaning → SimValue → ℕ → MachineValue → MachineValue → SimValue → Type 0
Does ended s r m m' s' = ⊥
Does other s r m m' s' = ⊥
Does own_step s r m m' s' = GoesOn m m' × (s' ≡ with_machine s r m')
Does (makes act) s r m m' s' = IsFreeAt s r m act × IsAfter m act (looked_up (inbound_of s.run r) act) m' × (s' ≡ with_act s r m' act)

-- the choice is allowed for the rank, and leads to the second simulation
abbrev pub Allows : SimValue → ℕ → Choice → SimValue → Type 0
Allows s r c s' = IsSomeAnd (slice_get s.machines r) (λ m. IsSomeAnd (slice_get s'.machines r) (λ m'. Does (meant m c) s r m m' s'))

-- a choice of this meaning is refused so; only a choice that makes an act can run out of memory
abbrev pub IsRefused : NotAllowed → Meaning → SimValue → ℕ → MachineValue → Type 0
IsRefused refusal.Ended ended s r m = Unit {0}
IsRefused refusal.Ended other s r m = ⊥
IsRefused refusal.Ended own_step s r m = ⊥
IsRefused refusal.Ended (makes act) s r m = ⊥
IsRefused refusal.WantsOther ended s r m = ⊥
IsRefused refusal.WantsOther other s r m = Unit {0}
IsRefused refusal.WantsOther own_step s r m = ⊥
IsRefused refusal.WantsOther (makes act) s r m = ⊥
IsRefused refusal.NotEligible ended s r m = ⊥
IsRefused refusal.NotEligible other s r m = ⊥
IsRefused refusal.NotEligible own_step s r m = ⊥
IsRefused refusal.NotEligible (makes act) s r m = IsFreeAt s r m act → ⊥
IsRefused refusal.Memory ended s r m = ⊥
IsRefused refusal.Memory other s r m = ⊥
IsRefused refusal.Memory own_step s r m = ⊥
IsRefused refusal.Memory (makes act) s r m = IsFreeAt s r m act

-- the choice is refused for the rank
abbrev pub Refuses : SimValue → ℕ → Choice → NotAllowed → Type 0
Refuses s r c why = IsSomeAnd (slice_get s.machines r) (λ m. IsRefused why (meant m c) s r m)

-- the choices are allowed, one after another, and lead to the second simulation
abbrev pub AllowsAll : SimValue → List (ℕ × Choice) → SimValue → Type 0
AllowsAll s [] s' = s' ≡ s
AllowsAll s (x ∷ xs) s' = (mid : SimValue) × Allows s x.0 x.1 mid × AllowsAll mid xs s'

-- the choices before the one at this index are allowed and lead to the second simulation, which
-- refuses that one
pub record StopsAt (s : SimValue) (choices : List (ℕ × Choice)) (index : ℕ) (why : NotAllowed) (s' : SimValue) : Type 0 where
  pub done : AllowsAll s (take index choices) s'
  pub refused : IsSomeAnd (slice_get choices index) (λ x. Refuses s' x.0 x.1 why)

-- each choice is one of a rank that there is
abbrev pub are_of_ranks : ℕ → List (ℕ × Choice) → Bool
are_of_ranks n choices = list_all (λ x. nat_lt x.0 n) choices

-- the number of a refusal
abbrev pub refusal_number : NotAllowed → ℕ
refusal_number refusal.WantsOther = 1
refusal_number refusal.NotEligible = 2
refusal_number refusal.Ended = 3
refusal_number refusal.Memory = 4
