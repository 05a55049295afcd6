-- Where the root of a reduce finished it, it had gathered a value of each other rank, in rising rank order, and folded them with its
-- own at its place.
use Rattle.std.proofs.Common.{◌≡◌, ℕ, ℤ, suc, ◌+◌, ◌<◌, ◌≤◌, List, [], ◌∷◌, ◌++◌, Ok, Option, Some, length, sym, ap, subst, ◌∙◌, arith, slice_get}
use Rattle.std.proofs.Common.{◌⊎◌, inl, inr}
use Rattle.std.specs.Prelude.{slice_set}
use Rattle.rank_language.specs.Placed as statements
use Rattle.rank_text.specs.declared.grammar.token.Reduction.{Reduction}
use Rattle.rank_language.specs.Placed.{Placed, barrier, broadcast, reduce}
use Rattle.rank_machine.specs.Values.{Store, Valued}
use Rattle.rank_machine.specs.Collectives.{CollectiveKind, barriers, broadcasts, folds, CollectiveCall, Part, gives, gets, ends, parts, parts_of, counted, ended, folded, with_at}
use Rattle.rank_machine.specs.States.{State}
use Rattle.rank_machine.proofs.CollectiveParts.{within_at, below_at, above_before, with_at-length, with_at-cases}
use Rattle.rank_machine.proofs.Places.{reduce_gets, reduce_length, reduce_last}
use Rattle.rank_machine.proofs.Calls.{bound_ok, IsCall}
use Rattle.crash_free.specs.Runs.{Passed, History, history, IsRun}
use Rattle.crash_free.specs.Laws.{Began, Finished, Folded, BeganReduce, ReduceLaw, first_collective}
use Rattle.crash_free.proofs.Sound.{IsStored, Checked, IsCount}
use Rattle.crash_free.proofs.Finishing.{GaveLast, TookLast, EndedLast}
use Rattle.crash_free.proofs.Collecting.{Opens, other_began, of_checked, Scene, scene, self_began, known_parts}

-- of a reduce that its root finished: the values that all ranks gave, and that their fold is in the variable
abbrev Reduced : (ℕ → State) → List Passed → ℕ → ℕ → ℕ → Reduction → Store → Option statements.Collective → Store → Type 0
Reduced start C n r k f s c s' =
    (values : List ℤ) × (length values ≡ n)
    × ((q : ℕ) (v : ℤ) → slice_get values q ≡ Some v → BeganReduce (start q) (history C q) k f r v)
    × Folded s c f values s'

-- the value of another rank
value_of : (start : ℕ → State) (n : ℕ) (C : List Passed) → IsRun start n C → Opens start n
    → (r k q i : ℕ) (v : ℤ) (f : Reduction) (call : CollectiveCall) (s : Store) (before later : History) → r < n → q < n
    → call.kind ≡ folds f → call.root ≡ r → call.ordinal ≡ k → history C r ≡ before ++ later
    → (x : Checked before call s.gathered i q) → slice_get s.gathered i ≡ Some v → BeganReduce (start q) (history C q) k f r v
value_of start n C w o r k q i v f call s before later l m kind root ord whole x e =
    let y = of_checked start n C w o q r before later call s.gathered i m whole x in
    let began = other_began start n C q r k call x.items ord y in
    (y.sender.gives.call, began, y.agrees.kind ∙ kind, y.agrees.root ∙ root, y.agrees.items ∙ one_value call.kind kind x.stored)
  where
    one_value : (kd : CollectiveKind) → kd ≡ folds f → IsStored kd s.gathered i x.items → x.items ≡ v ∷ []
    one_value barriers h st = absurd cc
    one_value broadcasts h st = absurd cc
    one_value (folds g) h st =
        let same : Some st.0 ≡ Some v = sym st.2 ∙ e in
        let sv : st.0 ≡ v = cc in
        st.1 ∙ ap (λ y. y ∷ []) sv

-- a reduce has gathered a value with each part
count_of : (kd : CollectiveKind) (f : Reduction) (g : List ℤ) (d : ℕ) → kd ≡ folds f → IsCount kd g d → length g ≡ d
count_of barriers f g d e c = absurd cc
count_of broadcasts f g d e c = absurd cc
count_of (folds f') f g d e c = c

-- its own step, after a part for each other rank
reduced : (start : ℕ → State) (n : ℕ) (C : List Passed) → IsRun start n C → Opens start n
    → (r k : ℕ) (call : CollectiveCall) (f : Reduction) (from to : State) → r < n → Finished (start r) (history C r) k call from to
    → call.kind ≡ folds f → call.root ≡ r → (z : Scene start n C r k call from to)
    → (e v : Placed) (p : ℕ) → IsCall from.store (reduce f e v p) call → ended from.store (reduce f e v p) call ≡ Ok to.store
    → from.store.done + 1 ≡ n → Reduced start C n r k f from.store (Some (reduce f e v p)) to.store
reduced start n C w o r k call f from to l fin kind root z e v p i fold last =
    (values, size, each, (y.0, y.1, (let h = y.2 in let same : counted (put y.0) ≡ to.store = cc in sym same)))
  where
    put : ℤ → Store
    put a = record from.store { variables = slice_set from.store.variables p a }

    own : ℤ
    own = i.items.0

    values : List ℤ
    values = with_at from.store.rank call.items from.store.gathered

    y : (a : ℤ) × (folded f values ≡ Ok a) × (◌≡◌ {A = Valued Store} (Ok (counted (put a))) (Ok to.store))
    y = bound_ok (folded f values) (λ a. Ok (counted (put a))) to.store fold

    count : length from.store.gathered ≡ from.store.done
    count = count_of call.kind f from.store.gathered from.store.done kind z.under.count

    known : values ≡ with_at r (own ∷ []) from.store.gathered
    known = ap (λ q. with_at q call.items from.store.gathered) z.rank ∙ ap (λ ys. with_at r ys from.store.gathered) i.items.1

    size : length values ≡ n
    size =
        let a = with_at-length r own from.store.gathered in
        ap length known ∙ a ∙ ap suc count ∙ (let q : suc from.store.done ≡ from.store.done + 1 = omega arith in q) ∙ last

    ps : parts_of from.store call ≡ parts (folds f) r n r
    ps = known_parts from.store call (folds f) r n r kind root z.size z.rank

    -- a value among them is the root's own, or one of a lower rank, at its place, or one of a higher rank, one place before
    Place : ℕ → ℤ → Type 0
    Place q x =
        ((q ≡ r) × (x ≡ own))
        ⊎ (((q < r) × (slice_get from.store.gathered q ≡ Some x)) ⊎ ((j : ℕ) × (q ≡ suc j) × (r ≤ j) × (slice_get from.store.gathered j ≡ Some x)))

    by_place : (q : ℕ) (x : ℤ) → Place q x → BeganReduce (start q) (history C q) k f r x
    by_place q x (inl h) =
        let began = subst (λ s. Began (start s) (history C s) k call) (sym h.0) (self_began start C r k call from to fin) in
        (call, began, kind, root, i.items.1 ∙ ap (λ s. s ∷ []) (sym h.1))
    by_place q x (inr (inl h)) =
        let b = h.0 in
        let there = reduce_gets f n r q q l (below_at r n q b l) in
        let c = z.under.checked q q (omega (arith, b, last, l)) (ap (λ s. slice_get s q) ps ∙ there) in
        value_of start n C w o r k q q x f call from.store z.before z.later l (omega (arith, b, l)) kind root fin.ordinal z.whole c h.1
    by_place q x (inr (inr h)) =
        let b = h.2 in
        let in_list = within_at from.store.gathered h.0 x h.3 in
        let below : suc h.0 < n = omega (arith, in_list, count, last) in
        let there = reduce_gets f n r h.0 (suc h.0) l (above_before r n h.0 (omega (arith, b)) below) in
        let c = z.under.checked h.0 (suc h.0) (omega (arith, in_list, count)) (ap (λ s. slice_get s h.0) ps ∙ there) in
        subst (λ s. BeganReduce (start s) (history C s) k f r x) (sym h.1)
        (value_of start n C w o r k (suc h.0) h.0 x f call from.store z.before z.later l below kind root fin.ordinal z.whole c h.3)

    each : (q : ℕ) (x : ℤ) → slice_get values q ≡ Some x → BeganReduce (start q) (history C q) k f r x
    each q x g = by_place q x (with_at-cases r own from.store.gathered q x (omega (arith, count, last, l)) (ap (λ ys. slice_get ys q) (sym known) ∙ g))

-- of the collective that stood
by_statement : (start : ℕ → State) (n : ℕ) (C : List Passed) → IsRun start n C → Opens start n
    → (r k : ℕ) (call : CollectiveCall) (f : Reduction) (from to : State) → r < n → Finished (start r) (history C r) k call from to
    → call.kind ≡ folds f → call.root ≡ r → (z : Scene start n C r k call from to)
    → (c : statements.Collective) → IsCall from.store c call → ended from.store c call ≡ Ok to.store
    → from.store.done + 1 ≡ n → Reduced start C n r k f from.store (Some c) to.store
by_statement start n C w o r k call f from to l fin kind root z barrier i fold last = absurd (let q = sym i.kind ∙ kind in cc)
by_statement start n C w o r k call f from to l fin kind root z (broadcast e b) i fold last = absurd (let q = sym i.kind ∙ kind in cc)
by_statement start n C w o r k call f from to l fin kind root z (reduce g e v p) i fold last =
    let q : folds g ≡ folds f = sym i.kind ∙ kind in
    let same : g ≡ f = cc in
    subst (λ y. Reduced start C n r k f from.store (Some (reduce y e v p)) to.store) (sym same)
    (reduced start n C w o r k call f from to l fin kind root z e v p (subst (λ y. IsCall from.store (reduce y e v p) call) same i)
    (subst (λ y. ended from.store (reduce y e v p) call ≡ Ok to.store) same fold) last)

-- the law
pub reduce_law : (start : ℕ → State) (n : ℕ) (C : List Passed) → IsRun start n C → Opens start n → ReduceLaw start n C
reduce_law start n C w o = λ r k call f from to l fin kind root.
    (let z = scene start n C o r k call from to l fin in
    let at : first_collective from.rest ≡ Some z.collective = ap (λ a. first_collective a.rest) z.stands in
    subst (λ b. Reduced start C n r k f from.store b to.store) (sym at) (law r k call f from to l fin kind root z))
  where
    law : (r k : ℕ) (call : CollectiveCall) (f : Reduction) (from to : State) → r < n → Finished (start r) (history C r) k call from to
        → call.kind ≡ folds f → call.root ≡ r → (z : Scene start n C r k call from to)
        → Reduced start C n r k f from.store (Some z.collective) to.store
    law r k call f from to l fin kind root z = by_how z.finishing.how
      where
        ps : parts_of from.store call ≡ parts (folds f) r n r
        ps = known_parts from.store call (folds f) r n r kind root z.size z.rank

        last : from.store.done + 1 ≡ length (parts (folds f) r n r)
        last = z.finishing.last ∙ ap length ps

        only_ends : (p : Part) → slice_get (parts_of from.store call) from.store.done ≡ Some p → p ≡ ends
        only_ends p e = reduce_last f n r from.store.done p l (ap (λ y. slice_get y from.store.done) (sym ps) ∙ e) last

        by_how : GaveLast from.store call to.store
            ⊎ (TookLast from.store z.collective call z.later to.store ⊎ EndedLast from.store z.collective call to.store)
            → Reduced start C n r k f from.store (Some z.collective) to.store
        by_how (inl g) = absurd (let q = only_ends (gives g.dest) g.part in cc)
        by_how (inr (inl t)) = absurd (let q = only_ends (gets t.source) t.part in cc)
        by_how (inr (inr e)) =
            by_statement start n C w o r k call f from to l fin kind root z z.collective z.named e.folded (last ∙ reduce_length f n r l)
