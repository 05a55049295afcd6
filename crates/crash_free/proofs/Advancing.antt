-- A machine gets through a history in one way: at each moment it has just one next step. So how many steps it takes is known, and
-- of two machines that began alike the one with less of a history has made fewer steps.
use Rattle.std.proofs.Common.{◌≡◌, ◌≢◌, ℕ, suc, ◌+◌, ◌<◌, ◌≤◌, [], ◌∷◌, ◌++◌, Option, refl, sym, ap, subst, ◌∙◌, arith, ◌⊎◌, inl, inr}
use Rattle.rank_language.specs.Program.{ProgramValue}
use Rattle.rank_machine.specs.declared.fault.MachineFault.{MachineFault}
use Rattle.rank_machine.specs.declared.want.Want.TheVariants as want
use Rattle.rank_machine.specs.Values.{Store}
use Rattle.rank_machine.specs.Wants.{payload}
use Rattle.rank_machine.specs.Acts.{Act, Message, Fits}
use Rattle.rank_machine.specs.Machine as machine
use Rattle.rank_machine.specs.Machine.{MachineValue, state_of, machine_want, GoesOn, Strides}
use Rattle.crash_free.specs.Runs.{History}
use Rattle.crash_free.specs.Sim.{IsAfter, Begins, position_after_act}
use Rattle.crash_free.specs.Advances.{Advances, still, own, act, first_machine}

-- the machine of these parts
parts : ProgramValue → ℕ → Store → Option MachineFault → MachineValue
parts program position store fault = record { program = program; position = position; store = store; fault = fault }

-- machines of the same parts are the same
pub same_machine : (a b : MachineValue) → a.program ≡ b.program → a.position ≡ b.position → a.store ≡ b.store → a.fault ≡ b.fault → a ≡ b
unfolding parts
same_machine a b p q s f =
    let one : parts a.program a.position a.store a.fault ≡ parts b.program b.position b.store b.fault =
    rw (p, q, s, f) refl in
    one

-- a step of its own leads a machine to one
pub same_step : (a b c : MachineValue) → GoesOn a b → GoesOn a c → b ≡ c
same_step a b c g h =
    same_machine b c (g.program ∙ sym h.program) (g.position ∙ sym h.position) (g.store ∙ sym h.store) (g.fault ∙ sym h.fault)

-- so does an act with its message
pub same_act : (a b c : MachineValue) (x : Act) (m : Option Message) → IsAfter a x m b → IsAfter a x m c → b ≡ c
same_act a b c x m g h =
    let states = g.state ∙ sym h.state in
    let fault : b.fault ≡ c.fault = ap (λ s. s.fault) states in
    same_machine b c (g.stays.program ∙ sym h.stays.program)
    (g.position ∙ ap (λ f. position_after_act a x f) fault ∙ sym h.position) (ap (λ s. s.store) states) fault

-- what asks for a step of its own makes no act
own_or_act : (a : MachineValue) (x : Act) (m : Option Message) → machine_want a ≡ want.Internal → Fits (machine_want a) (payload (state_of a)) x m → ⊥
own_or_act a x m e f = subst (λ w. Fits w (payload (state_of a)) x m) e f

-- k steps are fewer than l, and a machine asks for a step of its own or for this act
pub record IsBehind (k l : ℕ) (b : MachineValue) (x : Act × Option Message) : Type 0 where
  pub fewer : k < l
  pub next : (machine_want b ≡ want.Internal) ⊎ Fits (machine_want b) (payload (state_of b)) x.0 x.1

-- the same after one more step of both
one_more_behind : (k l : ℕ) (b : MachineValue) (x : Act × Option Message) → IsBehind k l b x → IsBehind (suc k) (suc l) b x
one_more_behind k l b x i = let f = i.fewer in record { fewer = omega (arith, f); next = i.next }

-- Of two machines that began alike, the one with less of a history has made fewer steps, and asks for a step of its own or for the
-- act that is next.
pub behind : (k l : ℕ) (a b c : MachineValue) (h g later : History) (x : Act × Option Message) → Advances k a h b → Advances l a g c
    → g ≡ h ++ x ∷ later → IsBehind k l b x
behind k l a b c h g later x still still e = absurd cc
behind k l a b c h g later x still (own w s v) e = record { fewer = omega arith; next = inl w }
behind k l a b c h g later x still (act y f s v) e =
    let same : y ≡ x = cc in
    record { fewer = omega arith; next = inr (subst (λ (z : Act × Option Message). Fits (machine_want a) (payload (state_of a)) z.0 z.1) same f) }
behind k l a b c h g later x (own w s u) still e = absurd (none h e)
  where
    none : (h : History) → [] ≡ h ++ x ∷ later → ⊥
    none [] e = cc
    none (y ∷ h) e = cc
behind k l a b c h g later x (own {k = i} {b = a1} w s u) (own {k = j} {b = a2} w' s' v) e =
    one_more_behind i j b x (behind i j a1 b c h g later x u (subst (λ z. Advances j z g c) (same_step a a2 a1 s' s) v) e)
behind k l a b c h g later x (own w s u) (act y f s' v) e = absurd (own_or_act a y.0 y.1 w f)
behind k l a b c h g later x (act y f s u) still e = absurd cc
behind k l a b c h g later x (act y f s u) (own w s' v) e = absurd (own_or_act a y.0 y.1 w f)
behind k l a b c h g later x (act {k = i} {h = h1} {b = a1} y f s u) (act {k = j} {h = g1} {b = a2} z f' s' v) e =
    let first : z ≡ y = cc in
    let rest : g1 ≡ h1 ++ x ∷ later = cc in
    let after : IsAfter a y.0 y.1 a2 = subst (λ (t : Act × Option Message). IsAfter a t.0 t.1 a2) first s' in
    one_more_behind i j b x (behind i j a1 b c h1 g1 later x u (subst (λ t. Advances j t g1 c) (same_act a a2 a1 y.0 y.1 after s) v) rest)

-- k steps are no more than l, and where they are as many, or where the first machine asks for no step of its own, it is the second
pub record IsUpTo (k l : ℕ) (b c : MachineValue) : Type 0 where
  pub few : k ≤ l
  pub there : k ≡ l → b ≡ c
  pub stops : machine_want b ≢ want.Internal → b ≡ c

-- the same after one more step of both
one_more_up_to : (k l : ℕ) (b c : MachineValue) → IsUpTo k l b c → IsUpTo (suc k) (suc l) b c
one_more_up_to k l b c i = let f = i.few in record { few = omega (arith, f); there = λ e. i.there (cc); stops = i.stops }

-- Of two machines that began alike and have the same history, where the second asks for no step of its own, the first has made no
-- more steps, and where as many, or where it asks for no step of its own, it is the second.
pub up_to : (k l : ℕ) (a b c : MachineValue) (h g : History) → Advances k a h b → Advances l a g c → g ≡ h → machine_want c ≢ want.Internal
    → IsUpTo k l b c
up_to k l a b c h g still still e n = record { few = omega arith; there = λ q. refl; stops = λ q. refl }
up_to k l a b c h g still (own w s v) e n = record { few = omega arith; there = λ q. absurd cc; stops = λ q. absurd (q w) }
up_to k l a b c h g still (act y f s v) e n = absurd cc
up_to k l a b c h g (own w s u) still e n = absurd (n w)
up_to k l a b c h g (own {k = i} {b = a1} w s u) (own {k = j} {b = a2} w' s' v) e n =
    one_more_up_to i j b c (up_to i j a1 b c h g u (subst (λ z. Advances j z g c) (same_step a a2 a1 s' s) v) e n)
up_to k l a b c h g (own w s u) (act y f s' v) e n = absurd (own_or_act a y.0 y.1 w f)
up_to k l a b c h g (act y f s u) still e n = absurd cc
up_to k l a b c h g (act y f s u) (own w s' v) e n = absurd (own_or_act a y.0 y.1 w f)
up_to k l a b c h g (act {k = i} {h = h1} {b = a1} y f s u) (act {k = j} {h = g1} {b = a2} z f' s' v) e n =
    let first : z ≡ y = cc in
    let rest : g1 ≡ h1 = cc in
    let after : IsAfter a y.0 y.1 a2 = subst (λ (t : Act × Option Message). IsAfter a t.0 t.1 a2) first s' in
    one_more_up_to i j b c (up_to i j a1 b c h1 g1 u (subst (λ t. Advances j t g1 c) (same_act a a2 a1 y.0 y.1 after s) v) rest n)

-- one more step of its own
Advances-own : (k : ℕ) (a b c : MachineValue) (h : History) → Advances k a h b → machine_want b ≡ want.Internal → GoesOn b c → Advances (suc k) a h c
Advances-own k a b c h still w g = own w g still
Advances-own k a b c h (own {k = i} {b = a1} w s u) w' g = own w s (Advances-own i a1 b c h u w' g)
Advances-own k a b c h (act {k = i} {h = h1} {b = a1} x f s u) w g = act x f s (Advances-own i a1 b c h1 u w g)

-- one more act
pub Advances-act : (k : ℕ) (a b c : MachineValue) (h : History) (x : Act × Option Message) → Advances k a h b
    → Fits (machine_want b) (payload (state_of b)) x.0 x.1 → IsAfter b x.0 x.1 c → Advances (suc k) a (h ++ x ∷ []) c
Advances-act k a b c h x still f s = act x f s still
Advances-act k a b c h x (own {k = i} {b = a1} w s u) f s' = own w s (Advances-act i a1 b c h x u f s')
Advances-act k a b c h x (act {k = i} {h = h1} {b = a1} y f s u) f' s' = act y f s (Advances-act i a1 b c h1 x u f' s')

-- a stride
pub Advances-stride : (k n : ℕ) (a b c : MachineValue) (h : History) → Advances k a h b → Strides n b c → Advances (k + n) a h c
Advances-stride k n a b c h u machine.still = let z : k + 0 ≡ k = omega arith in rw z u
Advances-stride k n a b c h u (machine.on {n = i} {b = d} strides w g) =
    let z : k + (i + 1) ≡ suc (k + i) = omega arith in
    rw z (Advances-own (k + i) a d c h (Advances-stride k i a b d h u strides) w g)

-- where a machine begins
pub begun_there : (program : ProgramValue) (n r : ℕ) (m : MachineValue) → Begins program n r m → m ≡ first_machine program n r
begun_there program n r m b = same_machine m (first_machine program n r) b.program_same b.position b.store (ap (λ s. s.fault) b.state)
