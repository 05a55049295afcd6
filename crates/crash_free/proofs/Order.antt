-- The moments of a rank stand in order. So the kth collective that it began is one.
use Rattle.std.proofs.Common.{◌≡◌, ℕ, ◌+◌, ◌<◌, ◌≤◌, List, [], ◌∷◌, ◌++◌, Option, Some, None, refl, sym, ap, subst, ◌∙◌, arith, ◌⊎◌, inl, inr}
use Rattle.rank_machine.specs.declared.fault.MachineFault.{MachineFault}
use Rattle.rank_machine.specs.Collectives.{CollectiveCall}
use Rattle.rank_machine.specs.States.{State, Inners, here, on, inner, inner_of}
use Rattle.rank_machine.specs.Acts.{Message, Act, Makes, Runs, next}
use Rattle.rank_machine.proofs.Calls.{is_call}
use Rattle.rank_machine.proofs.Determined.{still}
use Rattle.crash_free.specs.Runs.{Passed, History, history}
use Rattle.crash_free.specs.Laws.{Moment, Began, OneCall, call_in}
use Rattle.crash_free.proofs.Sound.{Sound, sound_inner}
use Rattle.crash_free.proofs.Acting.{sound_act, no_fault}
use Rattle.crash_free.proofs.Finishing.{stood}
use Rattle.crash_free.proofs.Collecting.{Opens, moment_sound}
use Rattle.crash_free.proofs.Counting.{IsFaulted, AfterCall, Effect, own_effect, made_effect}

-- from one state with acts to come, by steps, to another
pub data Way : State → History → State → History → Type 0 where
  stay : {a : State} {l : History} → Way a l a l
  own : {a b c : State} {l l' : History} → inner a ≡ Some b → Way b l c l' → Way a l c l'
  act : {a c : State} {l l' : History} (x : Act × Option Message) → Makes a x.0 x.1 → Way (next a x.0 x.1) l c l' → Way a (x ∷ l) c l'

-- some inner steps first
inners_way : (a b c : State) (l l' : History) → Inners a b → Way b l c l' → Way a l c l'
inners_way a b c l l' here w = w
inners_way a b c l l' (on {b = x} e more) w = own e (inners_way x b c l l' more w)

-- some acts first
runs_way : (a b c : State) (h l l' : History) → Runs a h b → Way b l c l' → Way a (h ++ l) c l'
runs_way a b c [] l l' r w = subst (λ z. Way z l c l') r w
runs_way a b c (x ∷ h) l l' r w =
    let d = r.1 in
    let later = subst (λ z. Way z (h ++ l) c l') d.3 (runs_way r.0 b c h l l' r.2 w) in
    inners_way a d.0 c (x ∷ (h ++ l)) l' d.1 (act x d.2 later)

-- a moment is reached so from the beginning
pub moment_way : (start : State) (h : History) (a : State) → (m : Moment start h a) → Way start h a m.later
moment_way start h a m =
    subst (λ z. Way start z a m.later) (sym m.whole)
    (runs_way start m.reached a m.before m.later m.later m.runs (inners_way m.reached a a m.later m.later m.inners stay))

-- of two moments one leads to the other
order : (s a b : State) (h l l' : History) → Way s h a l → Way s h b l' → Way a l b l' ⊎ Way b l' a l
order s a b h l l' stay v = inl v
order s a b h l l' w stay = inr w
order s a b h l l' (own {b = x} e w) (own {b = y} f v) =
    let same : y ≡ x = cc in
    order x a b h l l' w (subst (λ z. Way z h b l') same v)
order s a b h l l' (own e w) (act x f v) = absurd (let n = still s x.0 x.1 f in cc)
order s a b h l l' (act x f w) (own e v) = absurd (let n = still s x.0 x.1 f in cc)
order s a b h l l' (act {l = g} x f w) (act y k v) = order (next s x.0 x.1) a b g l l' w v

-- a collective of number k stood as c and was gone on with: it is finished, or it stands still as c, or the rank has faulted
Held : ℕ → CollectiveCall → State → Type 0
Held k c b = (k ≤ b.store.finished) ⊎ ((call_in b ≡ Some c) ⊎ IsFaulted b.fault)

-- the collective that stands is the next one
pub stood_ordinal : (a : State) (c : CollectiveCall) → 0 < a.store.size → call_in a ≡ Some c → c.ordinal ≡ a.store.finished + 1
stood_ordinal a c z e = let s = stood a c e in (is_call a.store s.collective c z s.valid).ordinal

-- a step from where it stands, as this call
held_call : (k : ℕ) (c call : CollectiveCall) (a b : State) → call_in a ≡ Some c → call_in a ≡ Some call → c.ordinal ≡ a.store.finished + 1 → c.ordinal ≡ k
    → AfterCall a call b → Held k c b
unfolding Held
held_call k c call a b e f o g (inl h) = inl (omega (arith, o, g, h))
held_call k c call a b e f o g (inr h) = more h.1
  where
    more : (call_in b ≡ Some call) ⊎ IsFaulted b.fault → (k ≤ b.store.finished) ⊎ ((call_in b ≡ Some c) ⊎ IsFaulted b.fault)
    more (inl i) = inr (inl (i ∙ sym f ∙ e))
    more (inr i) = inr (inr i)

-- any step from there
held_first : (k : ℕ) (c : CollectiveCall) (a b : State) → call_in a ≡ Some c → c.ordinal ≡ a.store.finished + 1 → c.ordinal ≡ k → Effect a b → Held k c b
held_first k c a b e o g (inl h) = absurd (let q : Some c ≡ None = sym e ∙ h.1 in cc)
held_first k c a b e o g (inr h) = held_call k c h.0 a b e h.1 o g h.2

-- what is finished stays so
never_less : (k : ℕ) (a b : State) → k ≤ a.store.finished → Effect a b → k ≤ b.store.finished
never_less k a b l (inl h) = let e = h.0 in omega (arith, l, e)
never_less k a b l (inr h) = by_call h.2
  where
    by_call : AfterCall a h.0 b → k ≤ b.store.finished
    by_call (inl e) = omega (arith, l, e)
    by_call (inr e) = let f = e.0 in omega (arith, l, f)

-- a step of a rank that hasn't faulted
held_step : (k : ℕ) (c : CollectiveCall) (a b : State) → 0 < a.store.size → c.ordinal ≡ k → (IsFaulted a.fault → ⊥) → Held k c a → Effect a b → Held k c b
unfolding Held
held_step k c a b z g nf (inl l) e = inl (never_less k a b l e)
held_step k c a b z g nf (inr (inl h)) e = held_first k c a b h (stood_ordinal a c z h) g e
held_step k c a b z g nf (inr (inr f)) e = absurd (nf f)

-- a faulted rank makes no inner step
no_inner : (a b : State) → inner a ≡ Some b → IsFaulted a.fault → ⊥
no_inner a b e f = by_fault a.fault refl f
  where
    by_fault : (k : Option MachineFault) → a.fault ≡ k → IsFaulted k → ⊥
    by_fault None q i = i
    by_fault (Some k) q i = (let j : inner_of a.store a.rest (Some k) ≡ Some b = ap (inner_of a.store a.rest) (sym q) ∙ e in cc)

-- and no act
no_act : (a : State) (x : Act) (m : Option Message) → Makes a x m → IsFaulted a.fault → ⊥
no_act a x m e f = by_fault a.fault refl f
  where
    by_fault : (k : Option MachineFault) → a.fault ≡ k → IsFaulted k → ⊥
    by_fault None q i = i
    by_fault (Some k) q i = no_fault a x m k q e

-- there are ranks
pub positive : (r n : ℕ) (h : History) (a : State) → r < n → Sound r n h a → 0 < a.store.size
positive r n h a l w = let e = w.size in omega (arith, l, e)

-- along any way
held_way : (r n k : ℕ) (c : CollectiveCall) (h : History) (a b : State) (l l' : History) → r < n → c.ordinal ≡ k → Sound r n h a → Held k c a
    → Way a l b l' → Held k c b
held_way r n k c h a b l l' lt g w x stay = x
held_way r n k c h a b l l' lt g w x (own {b = d} e v) =
    held_way r n k c h d b l l' lt g (sound_inner r n h a d lt w e)
    (held_step k c a d (positive r n h a lt w) g (no_inner a d e) x (own_effect a d e)) v
held_way r n k c h a b l l' lt g w x (act {l = more} y e v) =
    held_way r n k c (h ++ (y.0, y.1) ∷ []) (next a y.0 y.1) b more l' lt g (sound_act r n h a y.0 y.1 lt w e)
    (held_step k c a (next a y.0 y.1) (positive r n h a lt w) g (no_act a y.0 y.1 e) x (made_effect r n h a y.0 y.1 lt w e)) v

-- where a collective of number k stands once and stands again, it is the same
same_call : (r n k : ℕ) (c d : CollectiveCall) (h : History) (a b : State) (l l' : History) → r < n → c.ordinal ≡ k → d.ordinal ≡ k → Sound r n h a
    → call_in a ≡ Some c → call_in b ≡ Some d → 0 < b.store.size → Way a l b l' → c ≡ d
unfolding Held
same_call r n k c d h a b l l' lt g g' w e f z v = at (held_way r n k c h a b l l' lt g w (inr (inl e)) v)
  where
    no_call : (t : Option MachineFault) → b.fault ≡ t → IsFaulted t → c ≡ d
    no_call None q i = absurd i
    no_call (Some k) q i =
        absurd (let s = stood b d f in let j : b.fault ≡ None = ap (λ x. x.fault) s.stands in let u : None ≡ Some k = sym j ∙ q in cc)

    at : Held k c b → c ≡ d
    at (inl s) = absurd (let o = stood_ordinal b d z f in omega (arith, o, g', s))
    at (inr (inl s)) = let q : Some c ≡ Some d = sym s ∙ f in cc
    at (inr (inr s)) = no_call b.fault refl s

-- The kth collective that a rank began is one: `Began` is a function of run, rank and number.
pub one_call : (start : ℕ → State) (n : ℕ) (C : List Passed) → Opens start n → OneCall start n C
one_call start n C o = λ r k c d lt x y. by_began r k c d lt x y
  where
    by_began : (r k : ℕ) (c d : CollectiveCall) → r < n → Began (start r) (history C r) k c → Began (start r) (history C r) k d → c ≡ d
    by_began r k c d lt x y = by_order (order (start r) x.from y.from (history C r) xs ys way_x way_y)
      where
        xs : History
        xs = x.went.moment.later

        ys : History
        ys = y.went.moment.later

        way_x : Way (start r) (history C r) x.from xs
        way_x = moment_way (start r) (history C r) x.from x.went.moment

        way_y : Way (start r) (history C r) y.from ys
        way_y = moment_way (start r) (history C r) y.from y.went.moment

        sound_x : Sound r n x.went.moment.before x.from
        sound_x = moment_sound r n (start r) (history C r) x.from lt (o r lt) x.went.moment

        sound_y : Sound r n y.went.moment.before y.from
        sound_y = moment_sound r n (start r) (history C r) y.from lt (o r lt) y.went.moment

        by_order : Way x.from xs y.from ys ⊎ Way y.from ys x.from xs → c ≡ d
        by_order (inl v) =
            same_call r n k c d x.went.moment.before x.from y.from xs ys lt x.ordinal y.ordinal sound_x x.stood y.stood
            (positive r n y.went.moment.before y.from lt sound_y) v
        by_order (inr v) =
            sym (same_call r n k d c y.went.moment.before y.from x.from ys xs lt y.ordinal x.ordinal sound_y y.stood x.stood
            (positive r n x.went.moment.before x.from lt sound_x) v)
