-- A step of a machine's own brings its next act nearer: it makes an inner step of its state, or it leaves the state and fewer such
-- steps are behind it.
use Rattle.std.proofs.Common.{◌≡◌, ℕ, ℤ, zero, suc, ◌+◌, ◌-◌, ◌*◌, ◌<◌, ◌⊎◌, inl, inr, Bool, true, false, if◌then◌else◌, length, Ok, Err, Option, Some}
use Rattle.std.proofs.Common.{None, option_map, refl, sym, ap, subst, ◌∙◌, arith, slice_get}
use Rattle.std.proofs.Math.Nat.{suc-mul}
use Rattle.std.specs.Prelude.{is_none, IsSomeAnd}
use Rattle.rank_language.specs.Placed.{Placed, Simple}
use Rattle.rank_language.specs.Block.{Block, done, plain, if_only, if_else, loop, Line, simple_line, if_line, else_line, end_line, while_line, back_line}
use Rattle.rank_language.specs.Block.{size, lines_at, remaining, tested, taken, next_position}
use Rattle.rank_language.specs.Program.{ProgramValue, block_of}
use Rattle.rank_machine.specs.declared.fault.MachineFault.{MachineFault}
use Rattle.rank_machine.specs.declared.want.Want.TheVariants as want
use Rattle.rank_machine.specs.Values.{Store, Valued, ◌>>=◌, value}
use Rattle.rank_machine.specs.States.{State, inner, inner_of, after_test}
use Rattle.rank_machine.specs.Wants.{or_fault, want_of, wants}
use Rattle.rank_machine.specs.Machine.{MachineValue, state_of, line_at, machine_want, machine_want_at, is_true, truth_of, call_at, stays, position_after}
use Rattle.rank_machine.specs.Machine.{line_store, store_after, GoesOn}
use Rattle.bare_world.specs.Measures.{StopsAfter, hops, steps_of, Nears}
use Rattle.bare_world.proofs.Again.LinesLeadOn.{line_leads, hops_most, else_less, end_less, back_less}

-- ---- a test is an inner step

abbrev state : Store → Block → Option MachineFault → State
state s b k = record { store = s; rest = b; fault = k }

-- where its value doesn't fault
valued_inner : (s : Store) (b : Block) (v : Valued ℤ) → or_fault (v >>= (λ z. Ok want.Internal)) ≡ want.Internal
    → option_map (λ c. state s c None) (after_test b v) ≡ Some (state s (taken (is_true v) b) None)
valued_inner s b (Ok z) i = refl
valued_inner s b (Err f) i = absurd cc

-- statements of which the first is a test, and that want a step of their own, take it
test_inner : (s : Store) (b : Block) (e : Placed) (k : Option MachineFault) → tested b ≡ Some e → want_of s b k ≡ want.Internal
    → (k ≡ None) × (inner_of s b k ≡ Some (state s (taken (is_true (value s e)) b) None))
test_inner s b e (Some f) h i = absurd cc
test_inner s done e None h i = absurd cc
test_inner s (plain x r) e None h i = absurd cc
test_inner s (if_only x y r) e None h i =
    let same : x ≡ e = cc in (
      refl,
      subst (λ z. inner_of s (if_only x y r) None ≡ Some (state s (taken (is_true (value s z)) (if_only x y r)) None)) same
          (valued_inner s (if_only x y r) (value s x) i),
    )
test_inner s (if_else x y o r) e None h i =
    let same : x ≡ e = cc in (
      refl,
      subst (λ z. inner_of s (if_else x y o r) None ≡ Some (state s (taken (is_true (value s z)) (if_else x y o r)) None)) same
          (valued_inner s (if_else x y o r) (value s x) i),
    )
test_inner s (loop x y r) e None h i =
    let same : x ≡ e = cc in (
      refl,
      subst (λ z. inner_of s (loop x y r) None ≡ Some (state s (taken (is_true (value s z)) (loop x y r)) None)) same
          (valued_inner s (loop x y r) (value s x) i),
    )

-- where an `if` leads
if_next : (at : ℕ → Block) (p q : ℕ) (e : Placed) (b : Bool) → at (p + 1) ≡ taken true (at p) → at q ≡ taken false (at p)
    → at (next_position (if_line e q) p b) ≡ taken b (at p)
if_next at p q e true h k = h
if_next at p q e false h k = k

-- and where a `while` does
while_next : (at : ℕ → Block) (p q : ℕ) (e : Placed) (b : Bool) → at (p + 1) ≡ taken true (at p) → at q ≡ taken false (at p)
    → at (next_position (while_line e q) p b) ≡ taken b (at p)
while_next at p q e true h k = h
while_next at p q e false h k = k

-- no block remains behind its own first statement
endless : (b : Block) (x : Simple) → b ≡ plain x b → ⊥
endless b x h = let e = ap (λ z. size z) h in omega (arith, e)

-- ---- a step of a machine's own

module _ (m n : MachineValue) (g : GoesOn m n) (i : machine_want m ≡ want.Internal) (lines : m.program.statements ≡ lines_at 0 (block_of m.program)) where
  -- it leads where its line says
  led : (l : Line) → line_at m ≡ Some l → stays m.store (call_at m.store (Some l)) ≡ false → n.position ≡ next_position l m.position (truth_of m.store l)
  led l at on =
      g.position ∙ ap (λ o. position_after m.store o m.position) at
      ∙ ap (λ b. if b then m.position else next_position l m.position (truth_of m.store l)) on

  -- fewer hops are behind it where there are fewer behind where its line leads
  hopped : (l : Line) (q : ℕ) → line_at m ≡ Some l → n.position ≡ q
      → hops (length m.program.statements) q (slice_get m.program.statements q) < hops (length m.program.statements) m.position (Some l)
      → hops (length n.program.statements) n.position (line_at n) < hops (length m.program.statements) m.position (line_at m)
  hopped l q at e less =
      let a = ap (λ (z : ProgramValue). hops (length z.statements) n.position (slice_get z.statements n.position)) g.program in
      let b = ap (λ z. hops (length m.program.statements) z (slice_get m.program.statements z)) e in
      let c = ap (λ o. hops (length m.program.statements) m.position o) at in
      omega (arith, a, b, c, less)

  -- a test makes an inner step
  test_goes : (l : Line) (e : Placed) → line_at m ≡ Some l → stays m.store (call_at m.store (Some l)) ≡ false → line_store m.store l ≡ m.store
      → wants (state_of m) ≡ want.Internal → tested (remaining (block_of m.program) m.position) ≡ Some e
      → remaining (block_of m.program) (next_position l m.position (truth_of m.store l))
      ≡ taken (is_true (value m.store e)) (remaining (block_of m.program) m.position)
      → inner (state_of m) ≡ Some (state_of n)
  test_goes l e at on keeps w t next =
      let x = test_inner m.store (remaining (block_of m.program) m.position) e m.fault t w in
      let store : n.store ≡ m.store = g.store ∙ ap (λ o. store_after m.store o) at ∙ keeps in
      let rest : remaining (block_of n.program) n.position ≡ taken (is_true (value m.store e)) (remaining (block_of m.program) m.position) =
      ap (λ (z : ProgramValue). remaining (block_of z) n.position) g.program ∙ ap (λ p. remaining (block_of m.program) p) (led l at on) ∙ next in
      let fault : n.fault ≡ None = g.fault ∙ x.0 in
      x.1
      ∙ ap Some
      (ap (λ z. state z (taken (is_true (value m.store e)) (remaining (block_of m.program) m.position)) None) (sym store)
      ∙ ap (λ z. state n.store z None) (sym rest) ∙ ap (λ z. state n.store (remaining (block_of n.program) n.position) z) (sym fault))

  -- a statement without parts doesn't leave the state
  simple_goes : (x : Simple) → line_at m ≡ Some (simple_line x) → state_of n ≡ state_of m → ⊥
  simple_goes x at same = go (stays m.store (call_at m.store (Some (simple_line x)))) refl
    where
      go : (b : Bool) → stays m.store (call_at m.store (Some (simple_line x))) ≡ b → ⊥
      go true e =
          g.moves
          (g.position ∙ ap (λ o. position_after m.store o m.position) at ∙ ap (λ b. if b then m.position else m.position + 1) e)
      go false e =
          let next : n.position ≡ m.position + 1 = led (simple_line x) at e in
          let rest : remaining (block_of n.program) n.position ≡ remaining (block_of m.program) m.position = ap (λ (z : State). z.rest) same in
          let h : remaining (block_of m.program) (m.position + 1) ≡ remaining (block_of m.program) m.position =
          sym (ap (λ p. remaining (block_of m.program) p) next) ∙ sym (ap (λ (z : ProgramValue). remaining (block_of z) n.position) g.program) ∙ rest in
          endless (remaining (block_of m.program) (m.position + 1)) x
          (h ∙ line_leads m.program.statements (block_of m.program) m.position (simple_line x) lines at)

  -- an inner step, or the same state and fewer hops
  pub goes_nearer : (inner (state_of m) ≡ Some (state_of n))
      ⊎ ((state_of n ≡ state_of m)
      × (hops (length n.program.statements) n.position (line_at n) < hops (length m.program.statements) m.position (line_at m)))
  goes_nearer = go (line_at m) refl g.state
    where
      go : (o : Option Line) → line_at m ≡ o → (inner (state_of m) ≡ Some (state_of n)) ⊎ (state_of n ≡ state_of m)
          → (inner (state_of m) ≡ Some (state_of n))
          ⊎ ((state_of n ≡ state_of m)
          × (hops (length n.program.statements) n.position (line_at n) < hops (length m.program.statements) m.position (line_at m)))
      go o at (inl h) = inl h
      go None at (inr h) = absurd (g.moves (g.position ∙ ap (λ o. position_after m.store o m.position) at))
      go (Some (simple_line x)) at (inr h) = absurd (simple_goes x at h)
      go (Some (if_line e q)) at (inr h) =
          let k = line_leads m.program.statements (block_of m.program) m.position (if_line e q) lines at in
          inl
          (test_goes (if_line e q) e at refl refl (ap (λ o. machine_want_at o m.fault (wants (state_of m))) (sym at) ∙ i) k.1
          (if_next (remaining (block_of m.program)) m.position q e (is_true (value m.store e)) k.2 k.3))
      go (Some (while_line e q)) at (inr h) =
          let k = line_leads m.program.statements (block_of m.program) m.position (while_line e q) lines at in
          inl
          (test_goes (while_line e q) e at refl refl (ap (λ o. machine_want_at o m.fault (wants (state_of m))) (sym at) ∙ i) k.1
          (while_next (remaining (block_of m.program)) m.position q e (is_true (value m.store e)) k.2 k.3))
      go (Some (else_line q)) at (inr h) =
          inr
          (h, hopped (else_line q) q at (led (else_line q) at refl) (else_less m.program.statements (block_of m.program) m.position q lines at))
      go (Some end_line) at (inr h) =
          inr (h, hopped end_line (m.position + 1) at (led end_line at refl) (end_less m.program.statements m.position at))
      go (Some (back_line q)) at (inr h) =
          inr
          (h, hopped (back_line q) q at (led (back_line q) at refl) (back_less m.program.statements (block_of m.program) m.position q lines at))

-- ---- and the act is nearer

-- fewer steps of its own are left
pub nearer : (t : ℕ) (m n : MachineValue) → machine_want m ≡ want.Internal → GoesOn m n → Nears t m → Nears (t - 1) n
nearer t m n i g h = go (goes_nearer m n g i h.lines)
  where
    lines : n.program.statements ≡ lines_at 0 (block_of n.program)
    lines =
        ap (λ (z : ProgramValue). z.statements) g.program ∙ h.lines ∙ sym (ap (λ (z : ProgramValue). lines_at 0 (block_of z)) g.program)

    stepped : (k : ℕ) → StopsAfter k (state_of m) → steps_of k m < t → inner (state_of m) ≡ Some (state_of n) → Nears (t - 1) n
    stepped zero s few e = absurd (let q : false ≡ true = sym (ap is_none e) ∙ s in cc)
    stepped (suc k) s few e =
        record {
          inner_steps = k;
          stops = subst (λ o. IsSomeAnd o (λ b. StopsAfter k b)) e s;
          lines = lines;
          few =
              let p = ap (λ (z : ProgramValue). k * (length z.statements + 3)) g.program in
              let most = hops_most (length n.program.statements) n.position (line_at n) in
              let same = ap (λ (z : ProgramValue). length z.statements) g.program in
              let round = suc-mul k (length m.program.statements + 3) in
              omega (arith, p, most, same, round, few);
        }

    go : (inner (state_of m) ≡ Some (state_of n))
        ⊎ ((state_of n ≡ state_of m)
        × (hops (length n.program.statements) n.position (line_at n) < hops (length m.program.statements) m.position (line_at m))) → Nears (t - 1) n
    go (inl e) = stepped h.inner_steps h.stops h.few e
    go (inr x) =
        record {
          inner_steps = h.inner_steps;
          stops = subst (λ z. StopsAfter h.inner_steps z) (sym x.0) h.stops;
          lines = lines;
          few =
              let p = ap (λ (z : ProgramValue). h.inner_steps * (length z.statements + 3)) g.program in
              let less = x.1 in
              let few = h.few in
              omega (arith, p, less, few);
        }
