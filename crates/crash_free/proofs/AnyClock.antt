-- What an act makes of a rank doesn't depend on its message's clock.
use Rattle.std.proofs.Common.{◌≡◌, ℕ, Option, Some, None, refl}
use Rattle.std.proofs.Common.{Ok, Err}
use Rattle.rank_language.specs.Placed.{Buffer, declare, declare_array, assign, assign_item, send, receive, probe, try_probe, print, Collective, collect}
use Rattle.rank_language.specs.Block.{Block, done, plain, if_only, if_else, loop}
use Rattle.rank_machine.specs.declared.fault.MachineFault.{MachineFault}
use Rattle.rank_machine.specs.Values.{Valued}
use Rattle.rank_machine.specs.Collectives.{CollectiveCall, called}
use Rattle.rank_machine.specs.States.{State}
use Rattle.rank_machine.specs.Acts.{Act, Message, sends, takes, hits, misses, prints}
use Rattle.rank_machine.specs.Acts.{after_receive, after_probe, after_try_probe, collected, after_collect, after_first, unless_faulted}

-- of a receive
receive_clock : (a : State) (b : Buffer) (r : Block) (act : Act) (m : Message) (c : ℕ)
    → after_receive a b r act (Some (record m { clock = c })) ≡ after_receive a b r act (Some m)
receive_clock a b r (sends d x t items) m c = refl
receive_clock a b r (takes s j) m c = refl
receive_clock a b r (hits s j) m c = refl
receive_clock a b r misses m c = refl
receive_clock a b r (prints v) m c = refl

-- of a probe that waits
probe_clock : (a : State) (r : Block) (act : Act) (m : Message) (c : ℕ) → after_probe a r act (Some (record m { clock = c })) ≡ after_probe a r act (Some m)
probe_clock a r (sends d x t items) m c = refl
probe_clock a r (takes s j) m c = refl
probe_clock a r (hits s j) m c = refl
probe_clock a r misses m c = refl
probe_clock a r (prints v) m c = refl

-- of one that doesn't
try_clock : (a : State) (f : ℕ) (r : Block) (act : Act) (m : Message) (c : ℕ)
    → after_try_probe a f r act (Some (record m { clock = c })) ≡ after_try_probe a f r act (Some m)
try_clock a f r (sends d x t items) m c = refl
try_clock a f r (takes s j) m c = refl
try_clock a f r (hits s j) m c = refl
try_clock a f r misses m c = refl
try_clock a f r (prints v) m c = refl

-- of a packet of a collective
collected_clock : (a : State) (x : Collective) (r : Block) (m : Message) (c : ℕ) (v : Valued CollectiveCall)
    → collected a x r (record m { clock = c }) v ≡ collected a x r m v
collected_clock a x r m c (Ok call) = refl
collected_clock a x r m c (Err k) = refl

-- of a collective
collect_clock : (a : State) (x : Collective) (r : Block) (act : Act) (m : Message) (c : ℕ)
    → after_collect a x r act (Some (record m { clock = c })) ≡ after_collect a x r act (Some m)
collect_clock a x r (sends d y t items) m c = refl
collect_clock a x r (takes s j) m c = collected_clock a x r m c (called a.store x)
collect_clock a x r (hits s j) m c = refl
collect_clock a x r misses m c = refl
collect_clock a x r (prints v) m c = refl

-- of each statement
first_clock : (a : State) (b : Block) (act : Act) (m : Message) (c : ℕ) → after_first a b act (Some (record m { clock = c })) ≡ after_first a b act (Some m)
first_clock a done act m c = refl
first_clock a (plain (declare p) r) act m c = refl
first_clock a (plain (declare_array p) r) act m c = refl
first_clock a (plain (assign p e) r) act m c = refl
first_clock a (plain (assign_item p i e) r) act m c = refl
first_clock a (plain (send d t p) r) act m c = refl
first_clock a (plain (receive x t b) r) act m c = receive_clock a b r act m c
first_clock a (plain (probe x t) r) act m c = probe_clock a r act m c
first_clock a (plain (try_probe x t f) r) act m c = try_clock a f r act m c
first_clock a (plain (print e) r) act m c = refl
first_clock a (plain (collect x) r) act m c = collect_clock a x r act m c
first_clock a (if_only e y r) act m c = refl
first_clock a (if_else e y o r) act m c = refl
first_clock a (loop e y r) act m c = refl

-- and of a state, whether it has faulted or not
pub next_clock : (k : Option MachineFault) (a : State) (act : Act) (m : Message) (c : ℕ)
    → unless_faulted k a act (Some (record m { clock = c })) ≡ unless_faulted k a act (Some m)
next_clock None a act m c = first_clock a a.rest act m c
next_clock (Some k) a act m c = refl
