-- What an act is that fits a want, and what that says of its event; and that the acts of a run find their messages in all of it.
use Rattle.std.proofs.Common.{◌≡◌, ℕ, ℤ, ◌+◌, ◌<◌, ◌⊎◌, inl, inr, ⊎_elim, List, [], ◌∷◌, ◌++◌, Option, Some, None, refl, sym, ap, subst, ◌∙◌, arith}
use Rattle.std.proofs.Common.{slice_get}
use Rattle.std.proofs.lemmas.Bool.{cases_eq}
use Rattle.matching.specs.declared.selector.Selector.{Selector}
use Rattle.event_logger.specs.Sequential.Event.{EventValue, event_of, first_clock}
use Rattle.event_logger.specs.declared.sequential.kind.Kind.TheVariants as kind
use Rattle.rank_machine.specs.declared.fault.MachineFault.{MachineFault}
use Rattle.rank_machine.specs.declared.want.Want.{Want}
use Rattle.rank_machine.specs.declared.want.Want.TheVariants as want
use Rattle.rank_machine.specs.States.{State, inner}
use Rattle.rank_machine.specs.Wants.{wants, payload}
use Rattle.rank_machine.specs.Acts.{Act, Message, sends, takes, hits, misses, prints, Fits, Matches}
use Rattle.rank_machine.specs.Machine.{MachineValue, state_of, machine_want}
use Rattle.rank_machine.proofs.Making.{wants_or}
use Rattle.rank_machine.proofs.Determined.{inner_wants}
use Rattle.crash_free.specs.Runs.{Passed, History, history, sent, looked_up, IsRun}
use Rattle.crash_free.proofs.Lists.{history-own, history-other, push_cases}
use Rattle.crash_free.proofs.Going.{looked_up_longer, sent_grows}
use Rattle.bare_world.specs.Rows.{event_at, events_from, cons_some}
use Rattle.bare_world.proofs.Rows.{event_clock}

pub record FitsTakes (w : Selector) (a : Act) (o : Option Message) : Type 0 where
  pub source : ℕ
  pub place : ℕ
  pub message : Message
  pub act : a ≡ takes source place
  pub found : o ≡ Some message
  pub matching : Matches w source message

-- only a reception of a message that it names fits a receive
pub fits_receive : (w : Selector) (items : List ℤ) (a : Act) (o : Option Message) → Fits (want.Receive w) items a o → FitsTakes w a o
fits_receive w items (takes s j) (Some m) f = record { source = s; place = j; message = m; act = refl; found = refl; matching = f }
fits_receive w items (takes s j) None f = absurd f
fits_receive w items (sends d' c' t' items') o f = absurd f
fits_receive w items (hits s j) o f = absurd f
fits_receive w items misses o f = absurd f
fits_receive w items (prints v) o f = absurd f

pub record FitsHits (w : Selector) (a : Act) (o : Option Message) : Type 0 where
  pub source : ℕ
  pub place : ℕ
  pub message : Message
  pub act : a ≡ hits source place
  pub found : o ≡ Some message
  pub matching : Matches w source message

-- only a hit fits a blocking probe
pub fits_probe : (w : Selector) (items : List ℤ) (a : Act) (o : Option Message) → Fits (want.Probe w) items a o → FitsHits w a o
fits_probe w items (hits s j) (Some m) f = record { source = s; place = j; message = m; act = refl; found = refl; matching = f }
fits_probe w items (hits s j) None f = absurd f
fits_probe w items (sends d' c' t' items') o f = absurd f
fits_probe w items (takes s j) o f = absurd f
fits_probe w items misses o f = absurd f
fits_probe w items (prints v) o f = absurd f

-- a hit or a miss fits a probe that doesn't wait
pub fits_try : (w : Selector) (items : List ℤ) (a : Act) (o : Option Message) → Fits (want.TryProbe w) items a o → FitsHits w a o ⊎ ((a ≡ misses) × (o ≡ None))
fits_try w items (hits s j) (Some m) f = inl (record { source = s; place = j; message = m; act = refl; found = refl; matching = f })
fits_try w items (hits s j) None f = absurd f
fits_try w items misses None f = inr (refl, refl)
fits_try w items misses (Some m) f = absurd f
fits_try w items (sends d' c' t' items') o f = absurd f
fits_try w items (takes s j) o f = absurd f
fits_try w items (prints v) o f = absurd f

-- nothing fits where the program has ended
pub fits_ended : (k : Want) (items : List ℤ) (a : Act) (o : Option Message) → (k ≡ want.Halted) ⊎ ((x : MachineFault) × (k ≡ want.Faulted x))
    → Fits k items a o → ⊥
fits_ended k items a o (inl e) f = subst (λ z. Fits z items a o) e f
fits_ended k items a o (inr e) f = subst (λ z. Fits z items a o) e.1 f

-- what a state wants that its machine asks for, where that isn't to go on
pub wanted : (m : MachineValue) (w : Want) → machine_want m ≡ w → (w ≡ want.Internal → ⊥) → wants (state_of m) ≡ w
wanted m w e ne =
    ⊎_elim (λ (internal : machine_want m ≡ want.Internal). absurd (ne (sym e ∙ internal)))
    (λ (same : machine_want m ≡ wants (state_of m)). sym same ∙ e) (wants_or m)

-- it has no inner step
pub stopped : (m : MachineValue) (w : Want) → machine_want m ≡ w → (w ≡ want.Internal → ⊥) → inner (state_of m) ≡ None
stopped m w e ne = go (inner (state_of m)) refl
  where
    go : (o : Option State) → inner (state_of m) ≡ o → inner (state_of m) ≡ None
    go None h = h
    go (Some b) h = absurd (ne (sym (wanted m w e ne) ∙ inner_wants (state_of m) b h))

-- the acts of a run are found in the whole of it
pub history_looks_up : (start : ℕ → State) (n : ℕ) (C : List Passed) (r : ℕ) → IsRun start n C → (k : ℕ) (x : Act × Option Message)
    → slice_get (history C r) k ≡ Some x → (w : Want) × (items : List ℤ) × Fits w items x.0 x.1 × (looked_up (λ s. sent C s r) x.0 ≡ x.1)
history_looks_up start n [] r i k x e = absurd cc
history_looks_up start n (p ∷ C) r i k x e = go (λ e'. history_looks_up start n C r i.0 k x e') (cases_eq p.rank r)
  where
    longer : (w : Want) (items : List ℤ) → Fits w items x.0 x.1 → looked_up (λ s. sent C s r) x.0 ≡ x.1
        → (w : Want) × (items : List ℤ) × Fits w items x.0 x.1 × (looked_up (λ s. sent (p ∷ C) s r) x.0 ≡ x.1)
    longer w items f l = (
      w,
      items,
      f,
      looked_up_longer w items (λ s. sent C s r) (λ s. sent (p ∷ C) s r) x.0 (subst (λ z. Fits w items x.0 z) (sym l) f)
          (λ s. sent_grows C p s r) ∙ l,
    )

    go : (slice_get (history C r) k ≡ Some x → (w : Want) × (items : List ℤ) × Fits w items x.0 x.1 × (looked_up (λ s. sent C s r) x.0 ≡ x.1))
        → (p.rank ≡ r) ⊎ (p.rank ≡ r → ⊥)
        → (w : Want) × (items : List ℤ) × Fits w items x.0 x.1 × (looked_up (λ s. sent (p ∷ C) s r) x.0 ≡ x.1)
    go ih (inr ne) = (let h = ih (subst (λ z. slice_get z k ≡ Some x) (history-other C p r ne) e) in longer h.0 h.1 h.2 h.3)
    go ih (inl q) =
        ⊎_elim (λ old. let h = ih old in longer h.0 h.1 h.2 h.3) (λ new. fresh new.1)
        (push_cases (history C r) (p.act, looked_up (λ s. sent C s r) p.act) k x (subst (λ z. slice_get z k ≡ Some x) own e))
      where
        own : history (p ∷ C) r ≡ history C r ++ (p.act, looked_up (λ s. sent C s r) p.act) ∷ []
        own = subst (λ y. history (p ∷ C) y ≡ history C y ++ (p.act, looked_up (λ s. sent C s y) p.act) ∷ []) q (history-own C p.rank p.act)

        fresh : x ≡ (p.act, looked_up (λ s. sent C s r) p.act)
            → (w : Want) × (items : List ℤ) × Fits w items x.0 x.1 × (looked_up (λ s. sent (p ∷ C) s r) x.0 ≡ x.1)
        fresh new =
            let fits : Fits (wants i.2.stands) (payload i.2.stands) p.act (looked_up (λ s. sent C s r) p.act) =
            subst (λ z. Fits (wants i.2.stands) (payload i.2.stands) p.act (looked_up (λ s. sent C s z) p.act)) q i.2.makes in
            longer (wants i.2.stands) (payload i.2.stands) (subst (λ z. Fits (wants i.2.stands) (payload i.2.stands) z.0 z.1) (sym new) fits)
            (ap (λ z. looked_up (λ s. sent C s r) z.0) new ∙ sym (ap (λ z. z.1) new))

-- the first event of acts after k has a clock above k
pub first_event_late : (k : ℕ) (h : History) (e : EventValue) (rest : List EventValue) → e ∷ rest ≡ events_from k h → k < e.receiver_clock
first_event_late k [] e rest q = absurd cc
first_event_late k (x ∷ h) e rest q = go (event_at (k + 1) x.0 x.1) refl q (λ f. (let l = first_event_late (k + 1) h e rest f in omega (arith, l)))
  where
    go : (o : Option EventValue) → event_at (k + 1) x.0 x.1 ≡ o → e ∷ rest ≡ cons_some o (events_from (k + 1) h)
        → (e ∷ rest ≡ events_from (k + 1) h → k < e.receiver_clock) → k < e.receiver_clock
    go None is q f = f q
    go (Some y) is q f = (
        let same : e ≡ y = cc in
        let c = event_clock (k + 1) x.0 x.1 y is in
        let z : e.receiver_clock ≡ k + 1 = ap (λ u. u.receiver_clock) same ∙ c in
        omega (arith, z))

-- an act's event is of that act alone
event_first : (c : ℕ) (a : Act) (m : Option Message) (x : EventValue) → event_at c a m ≡ Some x → first_clock x ≡ x.receiver_clock
event_first c (sends d context t items) m x e = absurd cc
event_first c (takes s j) (Some y) x e = (let q : event_of kind.Reception s y.clock c ≡ x = cc in subst (λ z. first_clock z ≡ z.receiver_clock) q refl)
event_first c (takes s j) None x e = absurd cc
event_first c (hits s j) (Some y) x e = (let q : event_of kind.Hit s y.clock c ≡ x = cc in subst (λ z. first_clock z ≡ z.receiver_clock) q refl)
event_first c (hits s j) None x e = absurd cc
event_first c misses m x e = (let q : event_of kind.Miss 0 0 c ≡ x = cc in subst (λ z. first_clock z ≡ z.receiver_clock) q refl)
event_first c (prints v) m x e = absurd cc

-- so is the first event of acts
pub first_event_first : (k : ℕ) (h : History) (e : EventValue) (rest : List EventValue) → e ∷ rest ≡ events_from k h → first_clock e ≡ e.receiver_clock
first_event_first k [] e rest q = absurd cc
first_event_first k (x ∷ h) e rest q = go (event_at (k + 1) x.0 x.1) refl q (λ f. first_event_first (k + 1) h e rest f)
  where
    go : (o : Option EventValue) → event_at (k + 1) x.0 x.1 ≡ o → e ∷ rest ≡ cons_some o (events_from (k + 1) h)
        → (e ∷ rest ≡ events_from (k + 1) h → first_clock e ≡ e.receiver_clock) → first_clock e ≡ e.receiver_clock
    go None is q f = f q
    go (Some y) is q f = (let same : y ≡ e = cc in subst (λ z. first_clock z ≡ z.receiver_clock) same (event_first (k + 1) x.0 x.1 y is))
