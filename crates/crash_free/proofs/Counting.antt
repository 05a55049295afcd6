-- A rank's collectives go by number: each step finishes the one that stands, goes on with it as it was called, or has nothing to
-- do with it.
use Rattle.std.proofs.Common.{◌≡◌, ℕ, ◌+◌, ◌<◌, true, false, ◌++◌, Ok, Err, Option, Some, None, length, refl, sym, ap, subst, ◌∙◌, arith, ◌⊎◌, inl, inr}
use Rattle.std.proofs.lemmas.Bool.{eq-eqb, ne_eqb, cases_eq}
use Rattle.rank_language.specs.Placed as statements
use Rattle.rank_language.specs.Placed.{barrier, broadcast, reduce, collect}
use Rattle.rank_language.specs.Block.{Block, plain}
use Rattle.rank_machine.specs.declared.fault.MachineFault.{MachineFault}
use Rattle.rank_machine.specs.Values.{Store, Valued}
use Rattle.rank_machine.specs.Collectives.{CollectiveCall, called, gets, parts_of, is_last, counted, unfaulted}
use Rattle.rank_machine.specs.States.{State, inner, inner_of}
use Rattle.rank_machine.specs.Acts.{Message, Act, Makes, next, written, with_gathered}
use Rattle.rank_machine.proofs.Calls.{is_call, called_same}
use Rattle.rank_machine.proofs.Outcomes.{standing, gone, Took, Outcome, made, ended_so}
use Rattle.rank_machine.proofs.Stages.{stands_at}
use Rattle.crash_free.specs.Runs.{History}
use Rattle.crash_free.specs.Laws.{call_in, call_now, call_unless, first_collective}
use Rattle.crash_free.proofs.OtherSteps.{split, stands_there, written_keeps, inner_keeps, act_keeps}
use Rattle.crash_free.proofs.Sound.{IsUnder, IsProgress, IsWay, Sound, ended_store}
use Rattle.crash_free.proofs.Acting.{took_last, no_call, no_fault}

-- an act left a fault
abbrev pub IsFaulted : Option MachineFault → Type 0
IsFaulted None = ⊥
IsFaulted (Some k) = Unit {0}

-- after a step from where a collective stood: it is finished, or it stands as before, or it faulted
abbrev pub AfterCall : State → CollectiveCall → State → Type 0
AfterCall a call b =
    (b.store.finished ≡ a.store.finished + 1)
    ⊎ ((b.store.finished ≡ a.store.finished) × ((call_in b ≡ Some call) ⊎ IsFaulted b.fault))

-- after a step from anywhere
abbrev pub Effect : State → State → Type 0
Effect a b =
    ((b.store.finished ≡ a.store.finished) × (call_in a ≡ None)) ⊎ ((call : CollectiveCall) × (call_in a ≡ Some call) × AfterCall a call b)

-- after a part, which may be the last
part_effect : (s s' : Store) (c : statements.Collective) (t : Block) (call : CollectiveCall) (b : State) → is_last s' call ≡ is_last s call
    → s'.finished ≡ s.finished
    → ((s.done + 1 ≡ length (parts_of s call) → ⊥) → called (record s' { done = s'.done + 1 }) c ≡ Ok call)
    → b ≡ gone s s' c t call → AfterCall (standing s c t) call b
part_effect s s' c t call b same count more e = by_last (cases_eq (s.done + 1) (length (parts_of s call)))
  where
    by_last : (s.done + 1 ≡ length (parts_of s call)) ⊎ (s.done + 1 ≡ length (parts_of s call) → ⊥) → AfterCall (standing s c t) call b
    by_last (inl l) =
        let last : is_last s call ≡ true = eq-eqb (s.done + 1) (length (parts_of s call)) l in
        let all : gone s s' c t call ≡ record { store = counted s'; rest = t; fault = None } = rw (same, last) refl in
        inl (ap (λ z. z.store.finished) (e ∙ all) ∙ ap (λ z. z + 1) count)
    by_last (inr ne) =
        let on : is_last s call ≡ false = ne_eqb (s.done + 1) (length (parts_of s call)) ne in
        let stands : State = record { store = record s' { done = s'.done + 1 }; rest = plain (collect c) t; fault = None } in
        let all : gone s s' c t call ≡ stands = rw (same, on) refl in
        inr (ap (λ z. z.store.finished) (e ∙ all) ∙ count, inl (ap call_in (e ∙ all) ∙ ap unfaulted (more ne)))

-- after a reception of a collective
took_effect : (s : Store) (c : statements.Collective) (t : Block) (call : CollectiveCall) (act : Act) (m : Option Message) (b : State) (h : History)
    → 0 < s.size → called s c ≡ Ok call → IsUnder h s call → Took s c t call act m b → AfterCall (standing s c t) call b
took_effect s barrier t call act m b h z e u o =
    part_effect s s barrier t call b refl refl (λ ne. called_same s (s.done + 1) s.gathered barrier ∙ e) o.after
took_effect s (broadcast x buffer) t call act m b h z e u o =
    let kind = (is_call s (broadcast x buffer) call z e).kind in
    let last = took_last call.kind call.root s.size s.rank s.done o.source kind (stands_at s call (gets o.source) u.within o.part) in
    let w = written_keeps buffer o.items s in
    part_effect s (written buffer o.items s) (broadcast x buffer) t call b (rw (w.done, w.size, w.rank) refl) w.finished (λ ne. absurd (ne last)) o.after
took_effect s (reduce f x v p) t call act m b h z e u o =
    part_effect s (with_gathered o.items s) (reduce f x v p) t call b refl refl
    (λ ne. called_same s (s.done + 1) (s.gathered ++ o.items) (reduce f x v p) ∙ e) o.after

-- after any act of a collective
outcome_effect : (s : Store) (c : statements.Collective) (t : Block) (call : CollectiveCall) (act : Act) (m : Option Message) (b : State) (h : History)
    → 0 < s.size → called s c ≡ Ok call → IsUnder h s call → Outcome s c t call act m b → AfterCall (standing s c t) call b
outcome_effect s c t call act m b h z e u (inl o) =
    part_effect s s c t call b refl refl (λ ne. called_same s (s.done + 1) s.gathered c ∙ e) o.after
outcome_effect s c t call act m b h z e u (inr (inl o)) = took_effect s c t call act m b h z e u o
outcome_effect s c t call act m b h z e u (inr (inr o)) =
    inr (ap (λ x. x.store.finished) o.after, inr (subst (λ x. IsFaulted x.fault) (sym o.after) tt))

-- after an inner step of a collective
inner_call : (s : Store) (c : statements.Collective) (t : Block) (b : State) → (v : Valued CollectiveCall) → called s c ≡ v
    → inner (standing s c t) ≡ Some b → Effect (standing s c t) b
inner_call s c t b (Ok call) e i =
    let o = ended_so s c t call e b i in
    let x = ended_store s c call o.store o.folded in
    inr (call, ap unfaulted e, inl (ap (λ z. z.store.finished) o.after ∙ ap (λ z. z.finished) x.1 ∙ ap (λ z. z + 1) x.2.finished))
inner_call s c t b (Err k) e i = absurd (let j : None ≡ Some b = rw e at i in cc)

-- no call stands at another statement
no_collective : (a : State) → first_collective a.rest ≡ None → call_in a ≡ None
no_collective a e = ap (λ o. call_unless a.fault (call_now a.store o)) e ∙ by_fault a.fault
  where
    by_fault : (k : Option MachineFault) → call_unless k None ≡ None
    by_fault None = refl
    by_fault (Some k) = refl

-- after any inner step
pub own_effect : (a b : State) → inner a ≡ Some b → Effect a b
own_effect a b e = by_fault a.fault refl
  where
    by_first : a.fault ≡ None → (first_collective a.rest ≡ None) ⊎ ((c : statements.Collective) × (t : Block) × (a.rest ≡ plain (collect c) t))
        → Effect a b
    by_first q (inl none) = inl ((inner_keeps a.store a.rest a.fault b none e).finished, no_collective a none)
    by_first q (inr x) =
        let there = stands_there a x.0 x.1 q x.2 in
        subst (λ z. Effect z b) (sym there) (inner_call a.store x.0 x.1 b (called a.store x.0) refl (subst (λ z. inner z ≡ Some b) there e))

    by_fault : (f : Option MachineFault) → a.fault ≡ f → Effect a b
    by_fault None q = by_first q (split a.rest)
    by_fault (Some k) q = absurd (let j : inner_of a.store a.rest (Some k) ≡ Some b = ap (inner_of a.store a.rest) (sym q) ∙ e in cc)

-- after an act of a collective
act_call : (s : Store) (c : statements.Collective) (t : Block) (act : Act) (m : Option Message) (h : History) → 0 < s.size
    → (v : Valued CollectiveCall) → called s c ≡ v → IsProgress h s v → Makes (standing s c t) act m → Effect (standing s c t) (next (standing s c t) act m)
act_call s c t act m h z (Ok call) e u f =
    inr (call, ap unfaulted e, outcome_effect s c t call act m (next (standing s c t) act m) h z e u (made s c t call e act m f))
act_call s c t act m h z (Err k) e u f = absurd (no_call s c t act m k e f)

-- after any act
pub made_effect : (r n : ℕ) (h : History) (a : State) (act : Act) (m : Option Message) → r < n → Sound r n h a → Makes a act m
    → Effect a (next a act m)
made_effect r n h a act m l w f = by_fault a.fault refl
  where
    positive : 0 < a.store.size
    positive = let size = w.size in omega (arith, l, size)

    by_first : a.fault ≡ None → (first_collective a.rest ≡ None) ⊎ ((c : statements.Collective) × (t : Block) × (a.rest ≡ plain (collect c) t))
        → Effect a (next a act m)
    by_first q (inl none) = inl ((act_keeps a act m none).finished, no_collective a none)
    by_first q (inr x) =
        let there = stands_there a x.0 x.1 q x.2 in
        let way : IsProgress h a.store (called a.store x.0) = subst (IsWay h a.store) (ap first_collective x.2) w.way in
        subst (λ z. Effect z (next z act m)) (sym there)
        (act_call a.store x.0 x.1 act m h positive (called a.store x.0) refl way (subst (λ z. Makes z act m) there f))

    by_fault : (k : Option MachineFault) → a.fault ≡ k → Effect a (next a act m)
    by_fault None q = by_first q (split a.rest)
    by_fault (Some k) q = absurd (no_fault a act m k q f)
