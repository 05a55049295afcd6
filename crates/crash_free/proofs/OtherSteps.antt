-- A rank's steps by other statements than collectives: they change nothing of which collectives it has made, and how far.
use Rattle.std.proofs.Common.{◌≡◌, ℕ, ℤ, Bool, true, false, List, [], ◌∷◌, length, Ok, Err, Option, Some, None, option_map, refl, sym, ap, ◌∙◌}
use Rattle.std.proofs.Common.{◌⊎◌, inl, inr, if◌then◌else◌}
use Rattle.std.specs.Prelude.{nat_le}
use Rattle.rank_language.specs.Placed.{declare, declare_array, assign, assign_item, send, receive, probe, try_probe, print, collect}
use Rattle.rank_language.specs.Placed.{Buffer, into_variable, into_array, Collective}
use Rattle.rank_language.specs.Block.{Block, done, plain, if_only, if_else, loop}
use Rattle.rank_machine.specs.declared.fault.MachineFault.{MachineFault}
use Rattle.rank_machine.specs.Values.{Store, Valued, value}
use Rattle.rank_machine.specs.States.{State, inner_of, assigned, item_assigned, item_value}
use Rattle.rank_machine.specs.Acts.{Message, Act, sends, takes, hits, misses, prints, next, unless_faulted, after_first, after_send, after_receive}
use Rattle.rank_machine.specs.Acts.{after_probe, after_try_probe, after_print, received, written, with_status, room}
use Rattle.rank_machine.proofs.Outcomes.{standing}
use Rattle.crash_free.specs.Laws.{first_collective}

-- no collective stands first, or one does
pub split : (b : Block) → (first_collective b ≡ None) ⊎ ((c : Collective) × (r : Block) × (b ≡ plain (collect c) r))
split done = inl refl
split (plain (declare p) r) = inl refl
split (plain (declare_array p) r) = inl refl
split (plain (assign p e) r) = inl refl
split (plain (assign_item p i e) r) = inl refl
split (plain (send d t p) r) = inl refl
split (plain (receive c t b) r) = inl refl
split (plain (probe c t) r) = inl refl
split (plain (try_probe c t x) r) = inl refl
split (plain (print e) r) = inl refl
split (plain (collect c) r) = inr (c, r, refl)
split (if_only e y r) = inl refl
split (if_else e y o r) = inl refl
split (loop e y r) = inl refl

-- a rank without a fault stands at the collective that stands first
pub stands_there : (a : State) (c : Collective) (r : Block) → a.fault ≡ None → a.rest ≡ plain (collect c) r → a ≡ standing a.store c r
stands_there a c r e f =
    ap (λ k. record { store = a.store; rest = a.rest; fault = k }) e ∙ ap (λ b. record { store = a.store; rest = b; fault = None }) f

-- rank, size and what is counted of collectives stay
pub record KeepsCalls (s s' : Store) : Type 0 where
  pub rank : s'.rank ≡ s.rank
  pub size : s'.size ≡ s.size
  pub finished : s'.finished ≡ s.finished
  pub done : s'.done ≡ s.done
  pub gathered : s'.gathered ≡ s.gathered

-- they stay where all does
pub all_kept : (s : Store) → KeepsCalls s s
all_kept s = record { rank = refl; size = refl; finished = refl; done = refl; gathered = refl }

-- a buffer is written
pub written_keeps : (b : Buffer) (items : List ℤ) (s : Store) → KeepsCalls s (written b items s)
written_keeps (into_variable p) [] s = all_kept s
written_keeps (into_variable p) (z ∷ zs) s = record { rank = refl; size = refl; finished = refl; done = refl; gathered = refl }
written_keeps (into_array p) items s = record { rank = refl; size = refl; finished = refl; done = refl; gathered = refl }

-- a variable is set
assigned_keeps : (s : Store) (p : ℕ) (v : Valued ℤ) → KeepsCalls s (assigned s p v)
assigned_keeps s p (Ok z) = record { rank = refl; size = refl; finished = refl; done = refl; gathered = refl }
assigned_keeps s p (Err k) = all_kept s

-- an item is set
item_keeps : (s : Store) (p : ℕ) (v : Valued (ℕ × ℤ)) → KeepsCalls s (item_assigned s p v)
item_keeps s p (Ok x) = record { rank = refl; size = refl; finished = refl; done = refl; gathered = refl }
item_keeps s p (Err k) = all_kept s

-- the state after an inner step that stored this
mapped_keeps : (s s' : Store) (o : Option Block) (c : State) → KeepsCalls s s'
    → option_map (λ r. record { store = s'; rest = r; fault = None }) o ≡ Some c → KeepsCalls s c.store
mapped_keeps s s' (Some r) c k e =
    let same : record { store = s'; rest = r; fault = None } ≡ c = cc in
    let stored : s' ≡ c.store = ap (λ x. x.store) same in
    rw (sym stored) k
mapped_keeps s s' None c k e = absurd cc

-- an inner step of another statement
pub inner_keeps : (s : Store) (b : Block) (k : Option MachineFault) (c : State) → first_collective b ≡ None → inner_of s b k ≡ Some c → KeepsCalls s c.store
inner_keeps s b (Some k) c n e = absurd cc
inner_keeps s done None c n e = absurd cc
inner_keeps s (plain (declare p) r) None c n e = mapped_keeps s s (Some r) c (all_kept s) e
inner_keeps s (plain (declare_array p) r) None c n e = mapped_keeps s s (Some r) c (all_kept s) e
inner_keeps s (plain (assign p x) r) None c n e = mapped_keeps s (assigned s p (value s x)) _ c (assigned_keeps s p (value s x)) e
inner_keeps s (plain (assign_item p i x) r) None c n e =
    mapped_keeps s (item_assigned s p (item_value s p i x)) _ c (item_keeps s p (item_value s p i x)) e
inner_keeps s (plain (send d t p) r) None c n e = absurd cc
inner_keeps s (plain (receive x t b) r) None c n e = absurd cc
inner_keeps s (plain (probe x t) r) None c n e = absurd cc
inner_keeps s (plain (try_probe x t y) r) None c n e = absurd cc
inner_keeps s (plain (print x) r) None c n e = absurd cc
inner_keeps s (plain (collect x) r) None c n e = absurd cc
inner_keeps s (if_only x y r) None c n e = mapped_keeps s s _ c (all_kept s) e
inner_keeps s (if_else x y o r) None c n e = mapped_keeps s s _ c (all_kept s) e
inner_keeps s (loop x y r) None c n e = mapped_keeps s s _ c (all_kept s) e

-- a send
send_keeps : (a : State) (r : Block) (act : Act) → KeepsCalls a.store (after_send a r act).store
send_keeps a r (sends d c t items) = all_kept a.store
send_keeps a r (takes s j) = all_kept a.store
send_keeps a r (hits s j) = all_kept a.store
send_keeps a r misses = all_kept a.store
send_keeps a r (prints z) = all_kept a.store

-- the status is set
status_keeps : (s s' : Store) (source : ℕ) (m : Message) → KeepsCalls s s' → KeepsCalls s (with_status source m s')
status_keeps s s' source m k = record { rank = k.rank; size = k.size; finished = k.finished; done = k.done; gathered = k.gathered }

-- a reception, of a message that fits or of one that is too long
received_keeps : (a : State) (b : Buffer) (r : Block) (source : ℕ) (m : Message) → KeepsCalls a.store (received a b r source m).store
received_keeps a b r source m = by_test (nat_le (length m.items) (room a.store b))
  where
    fits : State
    fits = record { store = with_status source m (written b m.items a.store); rest = r; fault = None }

    fails : State
    fails = record a { fault = Some MachineFault.TooLong }

    by_test : (t : Bool) → KeepsCalls a.store (if t then fits else fails).store
    by_test true = status_keeps a.store (written b m.items a.store) source m (written_keeps b m.items a.store)
    by_test false = all_kept a.store

-- a receive
receive_keeps : (a : State) (b : Buffer) (r : Block) (act : Act) (m : Option Message) → KeepsCalls a.store (after_receive a b r act m).store
receive_keeps a b r (takes s j) (Some m) = received_keeps a b r s m
receive_keeps a b r (takes s j) None = all_kept a.store
receive_keeps a b r (sends d c t items) m = all_kept a.store
receive_keeps a b r (hits s j) m = all_kept a.store
receive_keeps a b r misses m = all_kept a.store
receive_keeps a b r (prints z) m = all_kept a.store

-- a probe that waits
probe_keeps : (a : State) (r : Block) (act : Act) (m : Option Message) → KeepsCalls a.store (after_probe a r act m).store
probe_keeps a r (hits s j) (Some m) = status_keeps a.store a.store s m (all_kept a.store)
probe_keeps a r (hits s j) None = all_kept a.store
probe_keeps a r (sends d c t items) m = all_kept a.store
probe_keeps a r (takes s j) m = all_kept a.store
probe_keeps a r misses m = all_kept a.store
probe_keeps a r (prints z) m = all_kept a.store

-- a probe that doesn't
try_keeps : (a : State) (flag : ℕ) (r : Block) (act : Act) (m : Option Message) → KeepsCalls a.store (after_try_probe a flag r act m).store
try_keeps a flag r (hits s j) (Some m) = record { rank = refl; size = refl; finished = refl; done = refl; gathered = refl }
try_keeps a flag r (hits s j) None = all_kept a.store
try_keeps a flag r misses m = record { rank = refl; size = refl; finished = refl; done = refl; gathered = refl }
try_keeps a flag r (sends d c t items) m = all_kept a.store
try_keeps a flag r (takes s j) m = all_kept a.store
try_keeps a flag r (prints z) m = all_kept a.store

-- a print
print_keeps : (a : State) (r : Block) (act : Act) → KeepsCalls a.store (after_print a r act).store
print_keeps a r (prints z) = all_kept a.store
print_keeps a r (sends d c t items) = all_kept a.store
print_keeps a r (takes s j) = all_kept a.store
print_keeps a r (hits s j) = all_kept a.store
print_keeps a r misses = all_kept a.store

-- an act of another first statement
first_keeps : (a : State) (b : Block) (act : Act) (m : Option Message) → first_collective b ≡ None → KeepsCalls a.store (after_first a b act m).store
first_keeps a done act m n = all_kept a.store
first_keeps a (plain (declare p) r) act m n = all_kept a.store
first_keeps a (plain (declare_array p) r) act m n = all_kept a.store
first_keeps a (plain (assign p e) r) act m n = all_kept a.store
first_keeps a (plain (assign_item p i e) r) act m n = all_kept a.store
first_keeps a (plain (send d t p) r) act m n = send_keeps a r act
first_keeps a (plain (receive c t b) r) act m n = receive_keeps a b r act m
first_keeps a (plain (probe c t) r) act m n = probe_keeps a r act m
first_keeps a (plain (try_probe c t x) r) act m n = try_keeps a x r act m
first_keeps a (plain (print e) r) act m n = print_keeps a r act
first_keeps a (plain (collect c) r) act m n = absurd cc
first_keeps a (if_only e y r) act m n = all_kept a.store
first_keeps a (if_else e y o r) act m n = all_kept a.store
first_keeps a (loop e y r) act m n = all_kept a.store

-- an act of a rank at which no collective stands
pub act_keeps : (a : State) (act : Act) (m : Option Message) → first_collective a.rest ≡ None → KeepsCalls a.store (next a act m).store
act_keeps a act m n = by_fault a.fault
  where
    by_fault : (k : Option MachineFault) → KeepsCalls a.store (unless_faulted k a act m).store
    by_fault None = first_keeps a a.rest act m n
    by_fault (Some k) = all_kept a.store
