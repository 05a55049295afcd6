-- Where a rank finished a barrier each rank has begun it. It goes through rank 0: it tells the others only after it heard of all
-- of them.
use Rattle.std.proofs.Common.{◌≡◌, ℕ, ℤ, ◌+◌, ◌<◌, List, [], ◌∷◌, ◌++◌, Some, length, refl, sym, ap, subst, ◌∙◌, arith, slice_get, ◌⊎◌, inl, inr}
use Rattle.std.proofs.lemmas.Bool.{cases_eq}
use Rattle.rank_language.specs.Placed as statements
use Rattle.rank_language.specs.Placed.{barrier, broadcast, reduce}
use Rattle.rank_machine.specs.Values.{Store}
use Rattle.rank_machine.specs.Collectives.{barriers, CollectiveCall, gives, gets, ends, parts, parts_of}
use Rattle.rank_machine.specs.States.{State}
use Rattle.rank_machine.specs.Acts.{takes}
use Rattle.rank_machine.proofs.Places.{barrier_gets, barrier_other}
use Rattle.rank_machine.proofs.Calls.{IsCall}
use Rattle.rank_machine.proofs.Stages.{stands_at}
use Rattle.crash_free.specs.Runs.{Passed, History, history, IsRun}
use Rattle.crash_free.specs.Laws.{Began, Finished, BeganBarrier, BarrierLaw}
use Rattle.crash_free.proofs.Sound.{Has, IsUnder}
use Rattle.crash_free.proofs.Finishing.{under_of, GaveLast, TookLast, EndedLast}
use Rattle.crash_free.proofs.Collecting.{Opens, Other, other, other_began, of_checked, has_first, Scene, scene, self_began, known_parts}

-- a barrier's root is 0
barrier_root : (s : Store) (c : statements.Collective) (call : CollectiveCall) → IsCall s c call → call.kind ≡ barriers → call.root ≡ 0
barrier_root s barrier call i k = i.items.1
barrier_root s (broadcast e b) call i k = absurd (let h = sym i.kind ∙ k in cc)
barrier_root s (reduce f e v p) call i k = absurd (let h = sym i.kind ∙ k in cc)

-- Where rank 0 of a barrier has done all receptions, each other rank has begun the barrier.
at_zero : (start : ℕ → State) (n : ℕ) (C : List Passed) → IsRun start n C → Opens start n
    → (k s : ℕ) (call : CollectiveCall) (store : Store) (before later : History) → (n ≡ 1 → ⊥) → s < n → (s ≡ 0 → ⊥)
    → call.kind ≡ barriers → call.ordinal ≡ k → parts_of store call ≡ parts barriers 0 n 0 → history C 0 ≡ before ++ later
    → IsUnder before store call
    → ((i : ℕ) → i + 1 < length (parts barriers 0 n 0) → ((j d : ℕ) → slice_get (parts barriers 0 n 0) j ≡ Some (gives d) → i < j) → i < store.done)
    → BeganBarrier (start s) (history C s) k
at_zero start n C w o k s call store before later ne l nz kind ord ps whole u far =
    let g = barrier_gets n s ne (omega (arith, l)) l nz in
    let x = u.checked g.0 s (far g.0 g.2 g.3) (ap (λ z. slice_get z g.0) ps ∙ g.1) in
    let y = of_checked start n C w o s 0 before later call store.gathered g.0 l whole x in
    (y.sender.gives.call, other_began start n C s 0 k call x.items ord y, y.agrees.kind ∙ kind)

-- the law
pub barrier_law : (start : ℕ → State) (n : ℕ) (C : List Passed) → IsRun start n C → Opens start n → BarrierLaw start n C
barrier_law start n C w o = λ r k call from to l f kind s m. law r k call from to l f kind s m (scene start n C o r k call from to l f)
  where
    law : (r k : ℕ) (call : CollectiveCall) (from to : State) → r < n → Finished (start r) (history C r) k call from to → call.kind ≡ barriers
        → (s : ℕ) → s < n → Scene start n C r k call from to → BeganBarrier (start s) (history C s) k
    law r k call from to l f kind s m z = by_self (cases_eq r s)
      where
        self : r ≡ s → BeganBarrier (start s) (history C s) k
        self e = (call, subst (λ q. Began (start q) (history C q) k call) e (self_began start C r k call from to f), kind)

        zero_root : call.root ≡ 0
        zero_root = barrier_root from.store z.collective call z.named kind

        -- rank 0 itself finished
        as_zero : (n ≡ 1 → ⊥) → r ≡ 0 → (r ≡ s → ⊥) → BeganBarrier (start s) (history C s) k
        as_zero ne e ns =
            let ps = known_parts from.store call barriers 0 n 0 kind zero_root z.size (z.rank ∙ e) in
            let last : from.store.done + 1 ≡ length (parts barriers 0 n 0) = z.finishing.last ∙ ap length ps in
            at_zero start n C w o k s call from.store z.before z.later ne m (λ q. ns (e ∙ sym q)) kind f.ordinal ps
            (subst (λ q. history C q ≡ z.before ++ z.later) e z.whole) z.under (λ i b g. omega (arith, last, b))

        -- another rank finished, by the packet of rank 0, which had them all
        by_zero : (n ≡ 1 → ⊥) → (vs : List ℤ) → Other start n C 0 r call vs → (s ≡ 0) ⊎ (s ≡ 0 → ⊥) → BeganBarrier (start s) (history C s) k
        by_zero ne vs x (inl e) =
            let began = subst (λ q. Began (start q) (history C q) k x.sender.gives.call) (sym e) (other_began start n C 0 r k call vs f.ordinal x) in
            (x.sender.gives.call, began, x.agrees.kind ∙ kind)
        by_zero ne vs x (inr nz) =
            let a = x.sender.state in
            let p = x.sender.gives in
            let u = under_of 0 n x.sender.moment.before a p.call p.collective p.rest x.sender.sound p.stands p.valid in
            let same = x.agrees.kind ∙ kind in
            let ps = known_parts a.store p.call barriers 0 n 0 same (x.agrees.root ∙ zero_root) x.sender.sound.size x.sender.sound.rank in
            let there : slice_get (parts barriers 0 n 0) a.store.done ≡ Some (gives r) =
            ap (λ y. slice_get y a.store.done) (sym ps) ∙ stands_at a.store p.call (gives r) u.within p.part in
            at_zero start n C w o k s p.call a.store x.sender.moment.before x.sender.moment.later ne m nz same (x.agrees.ordinal ∙ f.ordinal) ps
            x.sender.moment.whole u (λ i b g. g a.store.done r there)

        as_other : (n ≡ 1 → ⊥) → (r ≡ 0 → ⊥) → BeganBarrier (start s) (history C s) k
        as_other ne nz = by_how z.finishing.how
          where
            ps : parts_of from.store call ≡ gives 0 ∷ gets 0 ∷ []
            ps = known_parts from.store call barriers 0 n r kind zero_root z.size z.rank ∙ barrier_other n r ne nz

            second : from.store.done ≡ 1
            second = let last : from.store.done + 1 ≡ 2 = z.finishing.last ∙ ap length ps in omega (arith, last)

            is_gets : slice_get (parts_of from.store call) from.store.done ≡ Some (gets 0)
            is_gets = rw (ps, second) refl

            by_how : GaveLast from.store call to.store
                ⊎ (TookLast from.store z.collective call z.later to.store ⊎ EndedLast from.store z.collective call to.store)
                → BeganBarrier (start s) (history C s) k
            by_how (inl g) = absurd (let q : Some (gives g.dest) ≡ Some (gets 0) = sym g.part ∙ is_gets in cc)
            by_how (inr (inl t)) =
                let q : Some (gets t.source) ≡ Some (gets 0) = sym t.part ∙ is_gets in
                let same : t.source ≡ 0 = cc in
                let first = has_first (history C r) z.before z.later t.more (takes t.source t.place, Some t.message) z.whole t.first in
                let has = subst (λ y. Has (history C r) (takes y t.place, Some t.message)) same first in
                let zero = other start n C w o 0 r t.place t.message call t.items (omega (arith, l)) has t.context t.agrees in
                by_zero ne t.items zero (cases_eq s 0)
            by_how (inr (inr e)) = absurd (let q : Some ends ≡ Some (gets 0) = sym e.part ∙ is_gets in cc)

        by_size : (r ≡ s → ⊥) → (n ≡ 1) ⊎ (n ≡ 1 → ⊥) → (r ≡ 0) ⊎ (r ≡ 0 → ⊥) → BeganBarrier (start s) (history C s) k
        by_size ns (inl one) x = absurd (ns (omega (arith, l, m, one)))
        by_size ns (inr ne) (inl e) = as_zero ne e ns
        by_size ns (inr ne) (inr nz) = as_other ne nz

        by_self : (r ≡ s) ⊎ (r ≡ s → ⊥) → BeganBarrier (start s) (history C s) k
        by_self (inl e) = self e
        by_self (inr ns) = by_size ns (cases_eq n 1) (cases_eq r 0)
