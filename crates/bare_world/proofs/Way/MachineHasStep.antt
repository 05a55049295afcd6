-- A machine has a step where it wants one: the state after it stands at a position of its program.
use Rattle.std.proofs.Common.{◌≡◌, ℕ, true, ℤ, Option, Some}
use Rattle.std.proofs.Common.{None, refl, sym, ap, subst, ◌∙◌}
use Rattle.matching.specs.declared.packet.Context.{Context}
use Rattle.matching.specs.declared.selector.Selector.{Selector}
use Rattle.matching.specs.PacketValue as packet
use Rattle.matching.specs.Matching.{matches}
use Rattle.rank_language.specs.Placed.{declare, declare_array, assign, assign_item, send, receive}
use Rattle.rank_language.specs.Placed.{probe, try_probe, print, collect}
use Rattle.rank_language.specs.Block.{Block, done, plain, if_only, if_else, loop}
use Rattle.rank_machine.specs.declared.fault.MachineFault.{MachineFault}
use Rattle.rank_machine.specs.declared.want.Want.TheVariants as want
use Rattle.rank_machine.specs.States.{State}
use Rattle.rank_machine.specs.Wants.{payload}
use Rattle.rank_machine.specs.Acts.{Message, sends, takes, hits, misses, prints, carried, Fits}
use Rattle.rank_machine.specs.Acts.{after_first, unless_faulted, next}
use Rattle.rank_machine.specs.Machine.{MachineValue, state_of, machine_want, stays}
use Rattle.rank_machine.proofs.Making.{named}
use Rattle.rank_node.specs.Steps.{DidAct, Took, WasShown, Missed}
use Rattle.bare_world.proofs.Runs.ActFitsWant.{wanted}
use Rattle.audit.proofs.Fitting.{send_fits, print_fits}
use Rattle.bare_world.proofs.Way.StepOfItsOwn.{InLines}
use Rattle.bare_world.proofs.Way.WhereActsLead.{After, after}

-- a send
pub sent_goes : (m : MachineValue) (d : ℕ) (c : Context) (t : ℕ) → InLines m → machine_want m ≡ want.Send d c t → (n : MachineValue) × DidAct m n
sent_goes m d c t lines is = (
  x.machine,
  record {
    state = λ act message makes.
        (let f = send_fits d c t (payload (state_of m)) act message
        (subst (λ z. Fits z (payload (state_of m)) act message) (wanted m (want.Send d c t) is (λ z. cc)) makes) in
        x.state ∙ ap (λ z. next (state_of m) z None) (sym f.0) ∙ ap (λ z. next (state_of m) act z) (sym f.1));
    position = x.calm tt;
    stays = x.keeps;
  },
)
  where
    x : After m (sends d c t (payload (state_of m))) None
    x = after m (sends d c t (payload (state_of m))) None lines
        (subst (λ z. Fits z (payload (state_of m)) (sends d c t (payload (state_of m))) None) (sym is) (refl, refl, refl, refl))

-- a print
pub printed_goes : (m : MachineValue) (v : ℤ) → InLines m → machine_want m ≡ want.Print v → (n : MachineValue) × DidAct m n
printed_goes m v lines is = (
  x.machine,
  record {
    state = λ act message makes.
        (let f = print_fits v (payload (state_of m)) act message
        (subst (λ z. Fits z (payload (state_of m)) act message) (wanted m (want.Print v) is (λ z. cc)) makes) in
        x.state ∙ ap (λ z. next (state_of m) z None) (sym f.0) ∙ ap (λ z. next (state_of m) act z) (sym f.1));
    position = x.calm tt;
    stays = x.keeps;
  },
)
  where
    x : After m (prints v) None
    x = after m (prints v) None lines (subst (λ z. Fits z (payload (state_of m)) (prints v) None) (sym is) refl)

-- what a reception does doesn't depend on its message's place
taken_anywhere : (a : State) (r : Block) (q i j : ℕ) (m : Option Message) → after_first a r (takes q i) m ≡ after_first a r (takes q j) m
taken_anywhere a done q i j m = refl
taken_anywhere a (plain (declare p) r) q i j m = refl
taken_anywhere a (plain (declare_array p) r) q i j m = refl
taken_anywhere a (plain (assign p v) r) q i j m = refl
taken_anywhere a (plain (assign_item p k v) r) q i j m = refl
taken_anywhere a (plain (send d t p) r) q i j m = refl
taken_anywhere a (plain (receive c t b) r) q i j None = refl
taken_anywhere a (plain (receive c t b) r) q i j (Some x) = refl
taken_anywhere a (plain (probe c t) r) q i j m = refl
taken_anywhere a (plain (try_probe c t y) r) q i j m = refl
taken_anywhere a (plain (print v) r) q i j m = refl
taken_anywhere a (plain (collect c) r) q i j None = refl
taken_anywhere a (plain (collect c) r) q i j (Some x) = refl
taken_anywhere a (if_only v y r) q i j m = refl
taken_anywhere a (if_else v y o r) q i j m = refl
taken_anywhere a (loop v y r) q i j m = refl

-- nor does what a hit does
hit_anywhere : (a : State) (r : Block) (q i j : ℕ) (m : Option Message) → after_first a r (hits q i) m ≡ after_first a r (hits q j) m
hit_anywhere a done q i j m = refl
hit_anywhere a (plain (declare p) r) q i j m = refl
hit_anywhere a (plain (declare_array p) r) q i j m = refl
hit_anywhere a (plain (assign p v) r) q i j m = refl
hit_anywhere a (plain (assign_item p k v) r) q i j m = refl
hit_anywhere a (plain (send d t p) r) q i j m = refl
hit_anywhere a (plain (receive c t b) r) q i j m = refl
hit_anywhere a (plain (probe c t) r) q i j None = refl
hit_anywhere a (plain (probe c t) r) q i j (Some x) = refl
hit_anywhere a (plain (try_probe c t y) r) q i j None = refl
hit_anywhere a (plain (try_probe c t y) r) q i j (Some x) = refl
hit_anywhere a (plain (print v) r) q i j m = refl
hit_anywhere a (plain (collect c) r) q i j m = refl
hit_anywhere a (if_only v y r) q i j m = refl
hit_anywhere a (if_else v y o r) q i j m = refl
hit_anywhere a (loop v y r) q i j m = refl

-- of a whole state
next_taken : (a : State) (k : Option MachineFault) (q i j : ℕ) (m : Option Message) → a.fault ≡ k → next a (takes q i) m ≡ next a (takes q j) m
next_taken a None q i j m e =
    ap (λ z. unless_faulted z a (takes q i) m) e ∙ taken_anywhere a a.rest q i j m ∙ sym (ap (λ z. unless_faulted z a (takes q j) m) e)
next_taken a (Some k) q i j m e = ap (λ z. unless_faulted z a (takes q i) m) e ∙ sym (ap (λ z. unless_faulted z a (takes q j) m) e)

-- and of a hit
next_hit : (a : State) (k : Option MachineFault) (q i j : ℕ) (m : Option Message) → a.fault ≡ k → next a (hits q i) m ≡ next a (hits q j) m
next_hit a None q i j m e =
    ap (λ z. unless_faulted z a (hits q i) m) e ∙ hit_anywhere a a.rest q i j m ∙ sym (ap (λ z. unless_faulted z a (hits q j) m) e)
next_hit a (Some k) q i j m e = ap (λ z. unless_faulted z a (hits q i) m) e ∙ sym (ap (λ z. unless_faulted z a (hits q j) m) e)

-- a reception
pub taken_goes : (m : MachineValue) (w : Selector) (p : packet.PacketValue) → InLines m → machine_want m ≡ want.Receive w → matches w p ≡ true
    → (n : MachineValue) × Took p m n
taken_goes m w p lines is match = (
  x.machine,
  record {
    state = λ place. x.state ∙ next_taken (state_of m) m.fault p.source 0 place (Some (carried p)) refl;
    position = x.position;
    stays = x.keeps;
  },
)
  where
    x : After m (takes p.source 0) (Some (carried p))
    x = after m (takes p.source 0) (Some (carried p)) lines
        (subst (λ z. Fits z (payload (state_of m)) (takes p.source 0) (Some (carried p))) (sym is) (named w p match))

-- a hit of a probe that waits
pub hit_goes : (m : MachineValue) (w : Selector) (p : packet.PacketValue) → InLines m → machine_want m ≡ want.Probe w → matches w p ≡ true
    → (n : MachineValue) × WasShown p m n
hit_goes m w p lines is match = (
  x.machine,
  record {
    state = λ place. x.state ∙ next_hit (state_of m) m.fault p.source 0 place (Some (carried p)) refl;
    position = x.calm tt;
    stays = x.keeps;
  },
)
  where
    x : After m (hits p.source 0) (Some (carried p))
    x = after m (hits p.source 0) (Some (carried p)) lines
        (subst (λ z. Fits z (payload (state_of m)) (hits p.source 0) (Some (carried p))) (sym is) (named w p match))

-- and of one that doesn't
pub tried_goes : (m : MachineValue) (w : Selector) (p : packet.PacketValue) → InLines m → machine_want m ≡ want.TryProbe w → matches w p ≡ true
    → (n : MachineValue) × WasShown p m n
tried_goes m w p lines is match = (
  x.machine,
  record {
    state = λ place. x.state ∙ next_hit (state_of m) m.fault p.source 0 place (Some (carried p)) refl;
    position = x.calm tt;
    stays = x.keeps;
  },
)
  where
    x : After m (hits p.source 0) (Some (carried p))
    x = after m (hits p.source 0) (Some (carried p)) lines
        (subst (λ z. Fits z (payload (state_of m)) (hits p.source 0) (Some (carried p))) (sym is) (named w p match))

-- a miss
pub missed_goes : (m : MachineValue) (w : Selector) → InLines m → machine_want m ≡ want.TryProbe w → (n : MachineValue) × Missed m n
missed_goes m w lines is = (x.machine, record { state = x.state; position = x.calm tt; stays = x.keeps })
  where
    x : After m misses None
    x = after m misses None lines (subst (λ z. Fits z (payload (state_of m)) misses None) (sym is) tt)
