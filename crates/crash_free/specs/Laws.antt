-- What collectives mean over a crash-free run (MPI 1.1, chapter 4; sections 4.3, 4.4 and 4.9.1:
-- barrier, broadcast, reduce). They are numbered by rank, from 1, in the order in which the rank
-- makes them.
use Rattle.std.specs.Prelude.{◌≡◌, ℕ, ℤ, ◌<◌, List, [], ◌∷◌, ◌++◌, length, slice_get, slice_set, Ok, Option, Some, None, ◌⊎◌}
use Rattle.rank_text.specs.declared.grammar.token.Reduction.{Reduction}
use Rattle.rank_language.specs.Placed.{declare, declare_array, assign, assign_item, send, receive, probe, try_probe, print, collect}
use Rattle.rank_language.specs.Placed.{Collective, barrier, broadcast, reduce}
use Rattle.rank_language.specs.Block.{Block, done, plain, if_only, if_else, loop}
use Rattle.rank_machine.specs.declared.fault.MachineFault.{MachineFault}
use Rattle.rank_machine.specs.Values.{Store}
use Rattle.rank_machine.specs.Collectives.{barriers, broadcasts, folds, CollectiveCall, called, counted, folded, unfaulted}
use Rattle.rank_machine.specs.States.{State, Inners, inner}
use Rattle.rank_machine.specs.Acts.{Makes, Runs, next, written}
use Rattle.crash_free.specs.Runs.{Passed, History, history}

-- the first of these statements, if it is a collective
abbrev pub first_collective : Block → Option Collective
first_collective done = None
first_collective (plain (declare p) r) = None
first_collective (plain (declare_array p) r) = None
first_collective (plain (assign p e) r) = None
first_collective (plain (assign_item p i e) r) = None
first_collective (plain (send d t p) r) = None
first_collective (plain (receive c t b) r) = None
first_collective (plain (probe c t) r) = None
first_collective (plain (try_probe c t x) r) = None
first_collective (plain (print e) r) = None
first_collective (plain (collect c) r) = Some c
first_collective (if_only e y r) = None
first_collective (if_else e y o r) = None
first_collective (loop e y r) = None

-- a collective as it is called now; none if root, value or ordinal faults
abbrev pub call_now : Store → Option Collective → Option CollectiveCall
call_now s None = None
call_now s (Some c) = unfaulted (called s c)

-- no call stands after a fault
abbrev pub call_unless : Option MachineFault → Option CollectiveCall → Option CollectiveCall
call_unless None call = call
call_unless (Some k) call = None

-- the call of the collective at which a state stands
abbrev pub call_in : State → Option CollectiveCall
call_in a = call_unless a.fault (call_now a.store (first_collective a.rest))

-- A moment of a rank that began at this state and has this history: after some of its acts, and
-- some inner steps, it is in that state.
pub record Moment (start : State) (h : History) (a : State) : Type 0 where
  pub before : History
  pub later : History
  pub whole : h ≡ before ++ later
  pub reached : State
  pub runs : Runs start before reached
  pub inners : Inners reached a

-- the first of these acts leads from the one state to the other
abbrev pub IsFirst : State → History → State → Type 0
IsFirst a [] b = ⊥
IsFirst a (x ∷ later) b = Makes a x.0 x.1 × (b ≡ next a x.0 x.1)

-- at some moment the rank went from the one state to the other, by an inner step or by its next act
pub record Went (start : State) (h : History) (a b : State) : Type 0 where
  pub moment : Moment start h a
  pub step : (inner a ≡ Some b) ⊎ IsFirst a moment.later b

-- the kth collective that the rank began is this: there it stood, and from there it went on
pub record Began (start : State) (h : History) (k : ℕ) (call : CollectiveCall) : Type 0 where
  pub from : State
  pub to : State
  pub went : Went start h from to
  pub stood : call_in from ≡ Some call
  pub ordinal : call.ordinal ≡ k

-- the rank's kth collective is this, and it finished it by going from the one state to the other
pub record Finished (start : State) (h : History) (k : ℕ) (call : CollectiveCall) (from to : State) : Type 0 where
  pub went : Went start h from to
  pub stood : call_in from ≡ Some call
  pub ordinal : call.ordinal ≡ k
  pub finished : to.store.finished ≡ k

-- the rank has begun its kth collective, and it is a barrier
abbrev pub BeganBarrier : State → History → ℕ → Type 0
BeganBarrier start h k = (call : CollectiveCall) × Began start h k call × (call.kind ≡ barriers)

-- the rank has begun its kth collective, and it is a broadcast from this root, to which the rank
-- gives these items
abbrev pub BeganBroadcast : State → History → ℕ → ℕ → List ℤ → Type 0
BeganBroadcast start h k root items =
    (call : CollectiveCall) × Began start h k call × (call.kind ≡ broadcasts) × (call.root ≡ root) × (call.items ≡ items)

-- the rank has begun its kth collective, and it is this reduce to this root, to which the rank
-- gives this value
abbrev pub BeganReduce : State → History → ℕ → Reduction → ℕ → ℤ → Type 0
BeganReduce start h k f root v =
    (call : CollectiveCall) × Began start h k call × (call.kind ≡ folds f) × (call.root ≡ root) × (call.items ≡ v ∷ [])

-- These items are in the buffer of the broadcast that stood, and nothing else that is stored
-- changed but the number of finished collectives.
abbrev pub Got : Store → Option Collective → List ℤ → Store → Type 0
Got s None items s' = ⊥
Got s (Some barrier) items s' = ⊥
Got s (Some (broadcast root buffer)) items s' = s' ≡ counted (written buffer items s)
Got s (Some (reduce f root value place)) items s' = ⊥

-- The fold of these values, from the left, is in the variable of the reduce that stood, and nothing
-- else that is stored changed but the number of finished collectives.
abbrev pub Folded : Store → Option Collective → Reduction → List ℤ → Store → Type 0
Folded s None f values s' = ⊥
Folded s (Some barrier) f values s' = ⊥
Folded s (Some (broadcast root buffer)) f values s' = ⊥
Folded s (Some (reduce g root value place)) f values s' =
    (z : ℤ) × (folded f values ≡ Ok z) × (s' ≡ counted (record s { variables = slice_set s.variables place z }))

-- The kth collective that a rank began is one.
abbrev pub OneCall : (ℕ → State) → ℕ → List Passed → Type 0
OneCall start n C =
    (r k : ℕ) (one other : CollectiveCall) → r < n → Began (start r) (history C r) k one → Began (start r) (history C r) k other → one ≡ other

-- Where a rank finished its kth collective and it is a barrier, each rank has begun its kth and it
-- is a barrier.
abbrev pub BarrierLaw : (ℕ → State) → ℕ → List Passed → Type 0
BarrierLaw start n C =
    (r k : ℕ) (call : CollectiveCall) (from to : State) → r < n → Finished (start r) (history C r) k call from to → call.kind ≡ barriers
    → (s : ℕ) → s < n → BeganBarrier (start s) (history C s) k

-- Where a rank finished its kth collective and it is a broadcast, its buffer got the items that the
-- root gave in its kth, a broadcast from the same root.
abbrev pub BroadcastLaw : (ℕ → State) → ℕ → List Passed → Type 0
BroadcastLaw start n C =
    (r k : ℕ) (call : CollectiveCall) (from to : State) → r < n → Finished (start r) (history C r) k call from to → call.kind ≡ broadcasts
    → (call.root < n)
    × (items : List ℤ) × BeganBroadcast (start call.root) (history C call.root) k call.root items
    × Got from.store (first_collective from.rest) items to.store

-- Where a root finished its kth collective and it is a reduce, its variable got the fold of the
-- values that all ranks gave in their kth, in rising rank order; each of these is the same reduce
-- to the same root.
abbrev pub ReduceLaw : (ℕ → State) → ℕ → List Passed → Type 0
ReduceLaw start n C =
    (r k : ℕ) (call : CollectiveCall) (f : Reduction) (from to : State) → r < n → Finished (start r) (history C r) k call from to
    → call.kind ≡ folds f → call.root ≡ r
    → (values : List ℤ) × (length values ≡ n)
    × ((s : ℕ) (v : ℤ) → slice_get values s ≡ Some v → BeganReduce (start s) (history C s) k f r v)
    × Folded from.store (first_collective from.rest) f values to.store

-- the collective laws of a run of n ranks that begin at these states
pub record CollectiveLaws (start : ℕ → State) (n : ℕ) (C : List Passed) : Type 0 where
  pub one : OneCall start n C
  pub barrier : BarrierLaw start n C
  pub broadcast : BroadcastLaw start n C
  pub reduce : ReduceLaw start n C

-- a rank finished its kth collective
abbrev pub HasFinished : State → History → ℕ → Type 0
HasFinished start h k = (call : CollectiveCall) × (from : State) × (to : State) × Finished start h k call from to
