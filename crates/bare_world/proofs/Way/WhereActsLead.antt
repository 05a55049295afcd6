-- Where a machine wants an act, the state after it stands at a position of its program.
use Rattle.std.proofs.Common.{◌≡◌, ℕ, ◌+◌, Bool, true, false, not, if◌then◌else◌, ℤ, List, [], ◌∷◌, Option, Some}
use Rattle.std.proofs.Common.{None, Ok, Err, refl, sym, ap, subst, ◌∙◌}
use Rattle.matching.specs.declared.packet.Context.{Context}
use Rattle.rank_language.specs.Placed.{Buffer, into_variable, into_array, Simple, declare, declare_array, assign, assign_item, send, receive}
use Rattle.rank_language.specs.Placed.{probe, try_probe, print, Collective, barrier, broadcast, reduce, collect}
use Rattle.rank_language.specs.Block.{Block, done, plain, ◌then◌, Line, simple_line, if_line, else_line, end_line, while_line, back_line}
use Rattle.rank_language.specs.Block.{size, remaining, Leads}
use Rattle.rank_language.specs.Program.{block_of}
use Rattle.rank_machine.specs.declared.fault.MachineFault.{MachineFault}
use Rattle.rank_machine.specs.declared.fault.MachineFault.TheVariants.{TooLong}
use Rattle.rank_machine.specs.declared.want.Want.{Want}
use Rattle.rank_machine.specs.declared.want.Want.TheVariants as want
use Rattle.rank_machine.specs.Values.{Store, Valued, ◌>>=◌}
use Rattle.rank_machine.specs.Collectives.{CollectiveCall, called, part_of, is_last, counted, part_done, rest_after, unfaulted}
use Rattle.rank_machine.specs.States.{State, item_value}
use Rattle.rank_machine.specs.Wants.{part_want, or_fault, want_of, simple_want, payload}
use Rattle.rank_machine.specs.Acts.{Act, Message, sends, takes, hits, misses, prints, Fits, written, with_status, kept, goes_on, items_taken}
use Rattle.rank_machine.specs.Acts.{part_sent, part_taken, collected, received, after_first, next}
use Rattle.rank_machine.specs.Machine.{MachineValue, state_of, line_at, machine_want_at, machine_want, line_want, stays, position_after, next_of}
use Rattle.rank_machine.specs.Machine.{received_at, KeepsRank}
use Rattle.rank_machine.proofs.Going.{faulted_wants}
use Rattle.rank_machine.proofs.Lines.{line_wants, never, sends_only, receives_only, probes_only, tries_only, prints_only}
use Rattle.rank_machine.proofs.Lines.{collects_only, tests_only}
use Rattle.bare_world.proofs.Again.LinesLeadOn.{line_leads}
use Rattle.bare_world.proofs.Way.StepOfItsOwn.{InLines, none_remains, stood}

-- a fault leaves the position
abbrev pub landed : Option MachineFault → ℕ → ℕ → ℕ
landed None p n = n
landed (Some k) p n = p

-- an act that takes no message
abbrev pub IsCalm : Act → Type 0
IsCalm (sends d c t items) = Unit {0}
IsCalm (takes s j) = ⊥
IsCalm (hits s j) = Unit {0}
IsCalm misses = Unit {0}
IsCalm (prints v) = Unit {0}

-- The state after an act of a rank that stands at p, whose line leads to n.
record Lands (at : ℕ → Block) (p n : ℕ) (s : Store) (act : Act) (b : State) : Type 0 where
  rest : b.rest ≡ at (landed b.fault p n)
  rank : b.store.rank ≡ s.rank
  size : b.store.size ≡ s.size
  calm : IsCalm act → b.fault ≡ None

-- a buffer that is written leaves rank and size
written_rank : (b : Buffer) (items : List ℤ) (s : Store) → ((written b items s).rank ≡ s.rank) × ((written b items s).size ≡ s.size)
written_rank (into_variable p) [] s = (refl, refl)
written_rank (into_variable p) (z ∷ zs) s = (refl, refl)
written_rank (into_array p) items s = (refl, refl)

-- and so does what is kept of a packet
kept_rank : (c : Collective) (items : List ℤ) (s : Store) → ((kept c items s).rank ≡ s.rank) × ((kept c items s).size ≡ s.size)
kept_rank barrier items s = (refl, refl)
kept_rank (broadcast e b) items s = written_rank b items s
kept_rank (reduce f e v p) items s = (refl, refl)

-- and a part
done_rank : (s : Store) (call : CollectiveCall) → ((part_done s call).rank ≡ s.rank) × ((part_done s call).size ≡ s.size)
done_rank s call = go (is_last s call)
  where
    go : (b : Bool) → (let z : Store = if b then counted s else record s { done = s.done + 1 } in (z.rank ≡ s.rank) × (z.size ≡ s.size))
    go true = (refl, refl)
    go false = (refl, refl)

-- a message that a receive takes
received_lands : (at : ℕ → Block) (p q j : ℕ) (s : Store) (b : Buffer) (x : Message)
    → Lands at p (p + 1) s (takes q j) (received (stood s (at p) None) b (at (p + 1)) q x)
received_lands at p q j s b x = go _
  where
    go : (fit : Bool) → Lands at p (p + 1) s (takes q j)
        (if fit then goes_on (with_status q x (written b x.items s)) (at (p + 1)) else stood s (at p) (Some TooLong))
    go true = (let k = written_rank b x.items s in record { rest = refl; rank = k.0; size = k.1; calm = λ c. absurd c })
    go false = record { rest = refl; rank = refl; size = refl; calm = λ c. absurd c }

-- where a collective's line leads
part_rest : (at : ℕ → Block) (p : ℕ) (last : Bool) → (if last then at (p + 1) else at p) ≡ at (if not last then p else p + 1)
part_rest at p true = refl
part_rest at p false = refl

-- the part of a call that stands
called_rest : (at : ℕ → Block) (p : ℕ) (s : Store) (c : Collective) (call : CollectiveCall) → called s c ≡ Ok call
    → rest_after s call (at p) (at (p + 1)) ≡ at (position_after s (Some (simple_line (collect c))) p)
called_rest at p s c call e =
    part_rest at p (is_last s call) ∙ ap (λ v. at (if stays s (unfaulted v) then p else p + 1)) (sym e)

-- a send of a collective
sent_lands : (at : ℕ → Block) (p : ℕ) (s : Store) (c : Collective) (v : Valued CollectiveCall) (items : List ℤ) (d : ℕ) (x : Context) (t : ℕ) (xs : List ℤ)
    (m : Option Message) → called s c ≡ v → Fits (or_fault (v >>= (λ call. part_want s c call (part_of s call)))) items (sends d x t xs) m
    → Lands at p (position_after s (Some (simple_line (collect c))) p) s (sends d x t xs) (part_sent (stood s (at p) None) (at (p + 1)) v)
sent_lands at p s c (Err k) items d x t xs m e f = absurd f
sent_lands at p s c (Ok call) items d x t xs m e f =
    let k = done_rank s call in
    record { rest = called_rest at p s c call e; rank = k.0; size = k.1; calm = λ z. refl }

-- what a packet of a collective gives
items_land : (at : ℕ → Block) (p q j : ℕ) (s : Store) (c : Collective) (call : CollectiveCall) (v : Valued (List ℤ)) → called s c ≡ Ok call
    → Lands at p (position_after s (Some (simple_line (collect c))) p) s (takes q j) (part_taken (stood s (at p) None) c (at (p + 1)) call v)
items_land at p q j s c call (Err k) e = record { rest = refl; rank = refl; size = refl; calm = λ z. absurd z }
items_land at p q j s c call (Ok items) e =
    let d = done_rank (kept c items s) call in
    let k = kept_rank c items s in
    record { rest = called_rest at p s c call e; rank = d.0 ∙ k.0; size = d.1 ∙ k.1; calm = λ z. absurd z }

-- a packet that a collective takes
taken_lands : (at : ℕ → Block) (p q j : ℕ) (s : Store) (c : Collective) (v : Valued CollectiveCall) (items : List ℤ) (x : Message) → called s c ≡ v
    → Fits (or_fault (v >>= (λ call. part_want s c call (part_of s call)))) items (takes q j) (Some x)
    → Lands at p (position_after s (Some (simple_line (collect c))) p) s (takes q j) (collected (stood s (at p) None) c (at (p + 1)) x v)
taken_lands at p q j s c (Err k) items x e f = absurd f
taken_lands at p q j s c (Ok call) items x e f = items_land at p q j s c call (items_taken s c call x.items) e

-- each statement without parts
simple_lands : (at : ℕ → Block) (p : ℕ) (s : Store) (x : Simple) (items : List ℤ) (act : Act) (m : Option Message) → Fits (or_fault (simple_want s x)) items act m
    → Lands at p (position_after s (Some (simple_line x)) p) s act (after_first (stood s (at p) None) (plain x (at (p + 1))) act m)
simple_lands at p s (declare y) items act m f = absurd f
simple_lands at p s (declare_array y) items act m f = absurd f
simple_lands at p s (assign y v) items act m f = absurd (tests_only (λ w. Fits w items act m) s v (λ k h. h) (λ h. h) f)
simple_lands at p s (assign_item y i v) items act m f = absurd (never (λ w. Fits w items act m) (item_value s y i v) _ (λ k h. h) (λ z h. h) f)
simple_lands at p s (send d t y) items (sends e c n xs) m f = record { rest = refl; rank = refl; size = refl; calm = λ z. refl }
simple_lands at p s (send d t y) items (takes q j) m f = absurd (sends_only (λ w. Fits w items (takes q j) m) s d t y (λ k h. h) (λ e n h. h) f)
simple_lands at p s (send d t y) items (hits q j) m f = absurd (sends_only (λ w. Fits w items (hits q j) m) s d t y (λ k h. h) (λ e n h. h) f)
simple_lands at p s (send d t y) items misses m f = absurd (sends_only (λ w. Fits w items misses m) s d t y (λ k h. h) (λ e n h. h) f)
simple_lands at p s (send d t y) items (prints z) m f = absurd (sends_only (λ w. Fits w items (prints z) m) s d t y (λ k h. h) (λ e n h. h) f)
simple_lands at p s (receive c t b) items (takes q j) (Some x) f = received_lands at p q j s b x
simple_lands at p s (receive c t b) items (takes q j) None f = absurd (receives_only (λ w. Fits w items (takes q j) None) s c t (λ k h. h) (λ w h. h) f)
simple_lands at p s (receive c t b) items (sends e x n xs) m f =
    absurd (receives_only (λ w. Fits w items (sends e x n xs) m) s c t (λ k h. h) (λ w h. h) f)
simple_lands at p s (receive c t b) items (hits q j) m f = absurd (receives_only (λ w. Fits w items (hits q j) m) s c t (λ k h. h) (λ w h. h) f)
simple_lands at p s (receive c t b) items misses m f = absurd (receives_only (λ w. Fits w items misses m) s c t (λ k h. h) (λ w h. h) f)
simple_lands at p s (receive c t b) items (prints z) m f = absurd (receives_only (λ w. Fits w items (prints z) m) s c t (λ k h. h) (λ w h. h) f)
simple_lands at p s (probe c t) items (hits q j) (Some x) f = record { rest = refl; rank = refl; size = refl; calm = λ z. refl }
simple_lands at p s (probe c t) items (hits q j) None f = absurd (probes_only (λ w. Fits w items (hits q j) None) s c t (λ k h. h) (λ w h. h) f)
simple_lands at p s (probe c t) items (sends e x n xs) m f = absurd (probes_only (λ w. Fits w items (sends e x n xs) m) s c t (λ k h. h) (λ w h. h) f)
simple_lands at p s (probe c t) items (takes q j) m f = absurd (probes_only (λ w. Fits w items (takes q j) m) s c t (λ k h. h) (λ w h. h) f)
simple_lands at p s (probe c t) items misses m f = absurd (probes_only (λ w. Fits w items misses m) s c t (λ k h. h) (λ w h. h) f)
simple_lands at p s (probe c t) items (prints z) m f = absurd (probes_only (λ w. Fits w items (prints z) m) s c t (λ k h. h) (λ w h. h) f)
simple_lands at p s (try_probe c t y) items (hits q j) (Some x) f = record { rest = refl; rank = refl; size = refl; calm = λ z. refl }
simple_lands at p s (try_probe c t y) items (hits q j) None f = absurd (tries_only (λ w. Fits w items (hits q j) None) s c t (λ k h. h) (λ w h. h) f)
simple_lands at p s (try_probe c t y) items misses m f = record { rest = refl; rank = refl; size = refl; calm = λ z. refl }
simple_lands at p s (try_probe c t y) items (sends e x n xs) m f = absurd (tries_only (λ w. Fits w items (sends e x n xs) m) s c t (λ k h. h) (λ w h. h) f)
simple_lands at p s (try_probe c t y) items (takes q j) m f = absurd (tries_only (λ w. Fits w items (takes q j) m) s c t (λ k h. h) (λ w h. h) f)
simple_lands at p s (try_probe c t y) items (prints z) m f = absurd (tries_only (λ w. Fits w items (prints z) m) s c t (λ k h. h) (λ w h. h) f)
simple_lands at p s (print v) items (prints z) m f = record { rest = refl; rank = refl; size = refl; calm = λ z. refl }
simple_lands at p s (print v) items (sends e x n xs) m f = absurd (prints_only (λ w. Fits w items (sends e x n xs) m) s v (λ k h. h) (λ z h. h) f)
simple_lands at p s (print v) items (takes q j) m f = absurd (prints_only (λ w. Fits w items (takes q j) m) s v (λ k h. h) (λ z h. h) f)
simple_lands at p s (print v) items (hits q j) m f = absurd (prints_only (λ w. Fits w items (hits q j) m) s v (λ k h. h) (λ z h. h) f)
simple_lands at p s (print v) items misses m f = absurd (prints_only (λ w. Fits w items misses m) s v (λ k h. h) (λ z h. h) f)
simple_lands at p s (collect c) items (sends e x n xs) m f = sent_lands at p s c (called s c) items e x n xs m refl f
simple_lands at p s (collect c) items (takes q j) (Some x) f = taken_lands at p q j s c (called s c) items x refl f
simple_lands at p s (collect c) items (takes q j) None f =
    absurd (collects_only (λ w. Fits w items (takes q j) None) s c (λ k h. h) (λ d h. h) (λ y h. h) (λ h. h) f)
simple_lands at p s (collect c) items (hits q j) m f =
    absurd (collects_only (λ w. Fits w items (hits q j) m) s c (λ k h. h) (λ d h. h) (λ y h. h) (λ h. h) f)
simple_lands at p s (collect c) items misses m f =
    absurd (collects_only (λ w. Fits w items misses m) s c (λ k h. h) (λ d h. h) (λ y h. h) (λ h. h) f)
simple_lands at p s (collect c) items (prints z) m f =
    absurd (collects_only (λ w. Fits w items (prints z) m) s c (λ k h. h) (λ d h. h) (λ y h. h) (λ h. h) f)

-- what a machine wants that is no fault its line asks for
asked : (P : Want → Type 0) (at : ℕ → Block) (p : ℕ) (s : Store) (k : Option MachineFault) (l : Line) → Leads at p l → ((f : MachineFault) → P (want.Faulted f) → ⊥)
    → P (machine_want_at (Some l) k (want_of s (at p) k)) → (k ≡ None) × P (or_fault (line_want s l))
asked P at p s None l h none w = (refl, subst P (line_wants at p l s h) w)
asked P at p s (Some f) l h none w = absurd (none f (subst P (faulted_wants (Some l) f (want.Faulted f)) w))

-- a line asks for an act only where it is of one statement without parts
line_lands : (at : ℕ → Block) (p : ℕ) (s : Store) (k : Option MachineFault) (o : Option Line) (items : List ℤ) (act : Act) (m : Option Message)
    → ((x : Line) → o ≡ Some x → Leads at p x) → (o ≡ None → at p ≡ done) → Fits (machine_want_at o k (want_of s (at p) k)) items act m
    → Lands at p (position_after s o p) s act (next (stood s (at p) k) act m)
line_lands at p s (Some f) None items act m lead past fits = absurd fits
line_lands at p s None None items act m lead past fits = absurd (subst (λ b. Fits (want_of s b None) items act m) (past refl) fits)
line_lands at p s k (Some (simple_line x)) items act m lead past fits =
    let h = lead (simple_line x) refl in
    let w = asked (λ z. Fits z items act m) at p s k (simple_line x) h (λ f z. z) fits in
    subst (λ z. Lands at p (position_after s (Some (simple_line x)) p) s act (next (stood s (at p) z) act m)) (sym w.0)
    (subst (λ b. Lands at p (position_after s (Some (simple_line x)) p) s act (after_first (stood s (at p) None) b act m)) (sym h)
    (simple_lands at p s x items act m w.1))
line_lands at p s k (Some (if_line e q)) items act m lead past fits =
    let w = asked (λ z. Fits z items act m) at p s k (if_line e q) (lead (if_line e q) refl) (λ f z. z) fits in
    absurd (tests_only (λ z. Fits z items act m) s e (λ k h. h) (λ h. h) w.1)
line_lands at p s k (Some (else_line q)) items act m lead past fits =
    absurd (asked (λ z. Fits z items act m) at p s k (else_line q) (lead (else_line q) refl) (λ f z. z) fits).1
line_lands at p s k (Some end_line) items act m lead past fits =
    absurd (asked (λ z. Fits z items act m) at p s k end_line (lead end_line refl) (λ f z. z) fits).1
line_lands at p s k (Some (while_line e q)) items act m lead past fits =
    let w = asked (λ z. Fits z items act m) at p s k (while_line e q) (lead (while_line e q) refl) (λ f z. z) fits in
    absurd (tests_only (λ z. Fits z items act m) s e (λ k h. h) (λ h. h) w.1)
line_lands at p s k (Some (back_line q)) items act m lead past fits =
    absurd (asked (λ z. Fits z items act m) at p s k (back_line q) (lead (back_line q) refl) (λ f z. z) fits).1

-- A machine after an act.
pub record After (m : MachineValue) (act : Act) (message : Option Message) : Type 0 where
  pub machine : MachineValue
  pub state : state_of machine ≡ next (state_of m) act message
  pub position : machine.position ≡ received_at m machine.fault
  pub calm : IsCalm act → machine.position ≡ next_of m
  pub keeps : KeepsRank m machine

-- where a machine wants an act there is one
pub after : (m : MachineValue) (act : Act) (message : Option Message) → InLines m → Fits (machine_want m) (payload (state_of m)) act message → After m act message
after m act message lines fits =
    let at = remaining (block_of m.program) in
    let b = next (state_of m) act message in
    let l = line_lands at m.position m.store m.fault (line_at m) (payload (state_of m)) act message
    (λ x e. line_leads m.program.statements (block_of m.program) m.position x lines e) (none_remains m lines) fits in
    record {
      machine = record { program = m.program; position = landed b.fault m.position (next_of m); store = b.store; fault = b.fault };
      state = ap (λ z. stood b.store z b.fault) (sym l.rest);
      position = there b.fault;
      calm = λ c. ap (λ z. landed z m.position (next_of m)) (l.calm c);
      keeps = record { program = refl; rank = l.rank; size = l.size };
    }
  where
    there : (k : Option MachineFault) → landed k m.position (next_of m) ≡ received_at m k
    there None = refl
    there (Some k) = refl
