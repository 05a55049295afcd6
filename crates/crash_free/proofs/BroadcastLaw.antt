-- Where a rank finished a broadcast its buffer has the root's items: a rank that isn't the root finished by the root's packet, and
-- the root's own items are in its buffer as it is.
use Rattle.std.proofs.Common.{◌≡◌, ℕ, ℤ, ◌<◌, List, [], ◌++◌, Ok, Option, Some, refl, sym, ap, subst, ◌∙◌, arith, slice_get, ◌⊎◌, inl, inr, pos}
use Rattle.std.specs.Prelude.{slice_index_or, slice_set}
use Rattle.std.proofs.lemmas.Bool.{eq-eqb}
use Rattle.std.proofs.lemmas.List.{append-nil}
use Rattle.rank_language.specs.Placed as statements
use Rattle.rank_language.specs.Placed.{Placed, Buffer, into_variable, into_array, barrier, broadcast, reduce}
use Rattle.rank_machine.specs.Values.{Store}
use Rattle.rank_machine.specs.Collectives.{broadcasts, CollectiveCall, given, contents, parts, parts_of, counted}
use Rattle.rank_machine.specs.States.{State}
use Rattle.rank_machine.specs.Acts.{takes, written, overwritten}
use Rattle.rank_machine.proofs.CollectiveParts.{slice_set-same, drop_all}
use Rattle.rank_machine.proofs.Places.{broadcast_gets, broadcast_gives, broadcast_ends}
use Rattle.rank_machine.proofs.Calls.{IsCall}
use Rattle.crash_free.specs.Runs.{Passed, History, history, IsRun}
use Rattle.crash_free.specs.Laws.{Began, Finished, Got, BeganBroadcast, BroadcastLaw, first_collective}
use Rattle.crash_free.proofs.Sound.{Has}
use Rattle.crash_free.proofs.Finishing.{GaveLast, TookLast, EndedLast}
use Rattle.crash_free.proofs.Collecting.{Opens, other, other_began, has_first, Scene, scene, self_began, known_parts}

-- a buffer's own items, written there, change nothing
written_same : (b : Buffer) (s : Store) → written b (contents s b) s ≡ s
written_same (into_variable p) s = ap (λ xs. record s { variables = xs }) (slice_set-same s.variables p (pos 0))
written_same (into_array p) s =
    let xs = slice_index_or s.arrays p [] in
    let all : overwritten xs xs ≡ xs = ap (λ ys. xs ++ ys) (drop_all xs) ∙ append-nil xs in
    ap (λ ys. record s { arrays = ys }) (ap (slice_set s.arrays p) all ∙ slice_set-same s.arrays p [])

-- of a broadcast that a rank finished: the items that the root gave, and that they are in the buffer
abbrev Delivered : (ℕ → State) → List Passed → ℕ → ℕ → CollectiveCall → Store → Option statements.Collective → Store → Type 0
Delivered start C n k call s c s' =
    (call.root < n)
    × (items : List ℤ) × BeganBroadcast (start call.root) (history C call.root) k call.root items
    × Got s c items s'

-- how a rank finished
abbrev How : Store → statements.Collective → CollectiveCall → History → Store → Type 0
How s c call later s' = GaveLast s call s' ⊎ (TookLast s c call later s' ⊎ EndedLast s c call s')

-- the root finished
as_root : (start : ℕ → State) (C : List Passed) (n r k : ℕ) (call : CollectiveCall) (from to : State) (e : Placed) (b : Buffer)
    → Finished (start r) (history C r) k call from to → call.kind ≡ broadcasts → call.root < n
    → r ≡ call.root → from.store.rank ≡ r → call.items ≡ given from.store call.root b → to.store ≡ counted from.store
    → Delivered start C n k call from.store (Some (broadcast e b)) to.store
as_root start C n r k call from to e b f kind below same rank items after =
    let own : call.items ≡ contents from.store b = items ∙ (rw (eq-eqb call.root from.store.rank (sym same ∙ sym rank)) refl) in
    let put : to.store ≡ counted (written b call.items from.store) = rw (own, written_same b from.store) after in
    let began = subst (λ q. Began (start q) (history C q) k call) same (self_began start C r k call from to f) in
    (below, call.items, (call, began, kind, refl, refl), put)

-- with the buffer at hand
delivered : (start : ℕ → State) (n : ℕ) (C : List Passed) → IsRun start n C → Opens start n → (r k : ℕ) (call : CollectiveCall) (from to : State) → r < n
    → Finished (start r) (history C r) k call from to → call.kind ≡ broadcasts → (z : Scene start n C r k call from to)
    → (e : Placed) (b : Buffer) → IsCall from.store (broadcast e b) call → How from.store (broadcast e b) call z.later to.store
    → Delivered start C n k call from.store (Some (broadcast e b)) to.store
delivered start n C w o r k call from to l f kind z e b i h = by_how h
  where
    below : call.root < n
    below = subst (λ y. call.root < y) z.size i.root

    ps : parts broadcasts call.root n r ≡ parts_of from.store call
    ps = sym (known_parts from.store call broadcasts call.root n r kind refl z.size z.rank)

    by_how : How from.store (broadcast e b) call z.later to.store → Delivered start C n k call from.store (Some (broadcast e b)) to.store
    by_how (inl g) =
        let same = broadcast_gives call.root n r from.store.done g.dest (ap (λ y. slice_get y from.store.done) ps ∙ g.part) in
        as_root start C n r k call from to e b f kind below same z.rank i.items g.after
    by_how (inr (inl t)) =
        let p = broadcast_gets call.root n r from.store.done t.source (ap (λ y. slice_get y from.store.done) ps ∙ t.part) in
        let first = has_first (history C r) z.before z.later t.more (takes t.source t.place, Some t.message) z.whole t.first in
        let has = subst (λ y. Has (history C r) (takes y t.place, Some t.message)) p.1 first in
        let x = other start n C w o call.root r t.place t.message call t.items below has t.context t.agrees in
        let own = x.sender.gives.call in
        let put : to.store ≡ counted (written b own.items from.store) =
        t.after ∙ ap (λ items. counted (written b items from.store)) (sym x.agrees.items) in
        let began = other_began start n C call.root r k call t.items f.ordinal x in
        (below, own.items, (own, began, x.agrees.kind ∙ kind, x.agrees.root, refl), put)
    by_how (inr (inr d)) =
        let one = broadcast_ends call.root n r from.store.done (ap (λ y. slice_get y from.store.done) ps ∙ d.part) in
        let same : r ≡ call.root = omega (arith, l, below, one) in
        let q : Ok (counted from.store) ≡ Ok to.store = d.folded in
        let after : counted from.store ≡ to.store = cc in
        as_root start C n r k call from to e b f kind below same z.rank i.items (sym after)

-- of the collective that stood
by_statement : (start : ℕ → State) (n : ℕ) (C : List Passed) → IsRun start n C → Opens start n → (r k : ℕ) (call : CollectiveCall) (from to : State) → r < n
    → Finished (start r) (history C r) k call from to → call.kind ≡ broadcasts → (z : Scene start n C r k call from to)
    → (c : statements.Collective) → IsCall from.store c call → How from.store c call z.later to.store
    → Delivered start C n k call from.store (Some c) to.store
by_statement start n C w o r k call from to l f kind z barrier i h = absurd (let q = sym i.kind ∙ kind in cc)
by_statement start n C w o r k call from to l f kind z (broadcast e b) i h = delivered start n C w o r k call from to l f kind z e b i h
by_statement start n C w o r k call from to l f kind z (reduce g e v p) i h = absurd (let q = sym i.kind ∙ kind in cc)

-- the law
pub broadcast_law : (start : ℕ → State) (n : ℕ) (C : List Passed) → IsRun start n C → Opens start n → BroadcastLaw start n C
broadcast_law start n C w o = λ r k call from to l f kind.
    (let z = scene start n C o r k call from to l f in
    let at : first_collective from.rest ≡ Some z.collective = ap (λ a. first_collective a.rest) z.stands in
    subst (λ b. Delivered start C n k call from.store b to.store) (sym at)
    (by_statement start n C w o r k call from to l f kind z z.collective z.named z.finishing.how))
