-- A machine that wants a step of its own has one, which leads to another position of its program.
use Rattle.std.proofs.Common.{◌≡◌, ◌≢◌, ℕ, ◌<◌, ◌≤◌, ◌⊎◌, inl, inr, false, Option, Some}
use Rattle.std.proofs.Common.{None, length, refl, sym, ap, subst, ◌∙◌, arith}
use Rattle.std.proofs.lemmas.Bool.{cases_lt}
use Rattle.std.proofs.lemmas.List.{get_or_past}
use Rattle.std.proofs.lemmas.Option.{slice_get-get_or}
use Rattle.rank_language.specs.Block.{Block, done, Line, simple_line, if_line, else_line, end_line, while_line, back_line}
use Rattle.rank_language.specs.Block.{size, lines_at, places, remaining, Leads}
use Rattle.rank_language.specs.Program.{block_of}
use Rattle.rank_language.proofs.Places.{length-lines_at, length-places}
use Rattle.rank_machine.specs.declared.fault.MachineFault.{MachineFault}
use Rattle.rank_machine.specs.declared.want.Want.TheVariants as want
use Rattle.rank_machine.specs.Values.{Store}
use Rattle.rank_machine.specs.States.{State, inner}
use Rattle.rank_machine.specs.Wants.{or_fault, want_of}
use Rattle.rank_machine.specs.Machine.{MachineValue, state_of, line_at, machine_want_at, machine_want, line_want, call_at, stays, position_after, next_of}
use Rattle.rank_machine.specs.Machine.{store_after, stored_of, HasStage, GoesOn}
use Rattle.rank_machine.proofs.Going.{faulted_wants, line_keeps}
use Rattle.rank_machine.proofs.Lines.{line_wants, line_goes, line_moves, leads_on}
use Rattle.bare_world.proofs.Again.LinesLeadOn.{line_leads}
use Rattle.bare_world.proofs.Way.CollectiveStages.{line_of, Staged}

-- the lines of a machine's program are those of its tree
abbrev pub InLines : MachineValue → Type 0
InLines m = m.program.statements ≡ lines_at 0 (block_of m.program)

-- ---- past the last line

-- where no line stands nothing remains
pub none_remains : (m : MachineValue) → InLines m → line_at m ≡ None → remaining (block_of m.program) m.position ≡ done
none_remains m lines none = go (cases_lt m.position (length m.program.statements))
  where
    go : (m.position < length m.program.statements) ⊎ (length m.program.statements ≤ m.position) → remaining (block_of m.program) m.position ≡ done
    go (inl l) = absurd (let q : None ≡ Some (_) = sym none ∙ slice_get-get_or m.program.statements m.position end_line l in cc)
    go (inr l) =
        let e = ap length lines in
        let n = length-lines_at 0 (block_of m.program) in
        let p = length-places (block_of m.program) done in
        get_or_past (places (block_of m.program) done) m.position done (omega (arith, l, e, n, p))

-- ---- a step of its own

-- the state with this store, this rest and this fault
abbrev pub stood : Store → Block → Option MachineFault → State
stood s b k = record { store = s; rest = b; fault = k }

-- a machine that wants a step of its own comes by at most one inner step to where its line leads, which is elsewhere
goes : (at : ℕ → Block) (p : ℕ) (s : Store) (k : Option MachineFault) (l : Option Line) → ((x : Line) → l ≡ Some x → Leads at p x)
    → (l ≡ None → at p ≡ done)
    → ((x : Line) → l ≡ Some x → or_fault (line_want s x) ≡ want.Internal → stays s (call_at s (Some x)) ≡ false)
    → machine_want_at l k (want_of s (at p) k) ≡ want.Internal
    → ((inner (stood s (at p) k) ≡ Some (stood (store_after s l) (at (position_after s l p)) k))
    ⊎ (stood (store_after s l) (at (position_after s l p)) k ≡ stood s (at p) k)) × (position_after s l p ≢ p)
goes at p s (Some f) l lead past stage i = absurd (let e : want.Faulted f ≡ want.Internal = sym (faulted_wants l f (want.Faulted f)) ∙ i in cc)
goes at p s None None lead past stage i =
    absurd (let e : want.Halted ≡ want.Internal = sym (ap (λ b. want_of s b None) (past refl)) ∙ i in cc)
goes at p s None (Some x) lead past stage i =
    let h = lead x refl in
    let w : or_fault (line_want s x) ≡ want.Internal = sym (line_wants at p x s h) ∙ i in
    rw (stage x refl w) (line_goes at p x s h w, line_moves at p x _ h)

-- a machine that wants a step of its own has one
pub internal_goes : (m : MachineValue) → InLines m → Staged (state_of m) → machine_want m ≡ want.Internal → (n : MachineValue) × GoesOn m n
internal_goes m lines staged is = (
  record m { position = next_of m; store = stored_of m },
  (let at = remaining (block_of m.program) in
      let lead : (x : Line) → line_at m ≡ Some x → Leads at m.position x = λ x e. line_leads m.program.statements (block_of m.program) m.position x lines e in
      let r = goes at m.position m.store m.fault (line_at m) lead (none_remains m lines) (λ x e w. still x (lead x e) w) is in
      let k = line_keeps m.store (line_at m) in
      record { state = r.0; position = refl; moves = r.1; program = refl; store = refl; rank = k.rank; size = k.size; fault = refl }),
)
  where
    still : (x : Line) → Leads (remaining (block_of m.program)) m.position x → or_fault (line_want m.store x) ≡ want.Internal
        → stays m.store (call_at m.store (Some x)) ≡ false
    still (simple_line y) h w =
        leads_on m.store (simple_line y) w (subst (λ b. HasStage m.store (call_at m.store (line_of b))) h staged.stage)
    still (if_line e q) h w = refl
    still (else_line q) h w = refl
    still end_line h w = refl
    still (while_line e q) h w = refl
    still (back_line q) h w = refl
