-- An act keeps what holds of a rank at each moment.
use Rattle.std.proofs.Common.{◌≡◌, ℕ, ℤ, zero, suc, ◌+◌, ◌<◌, ◌≤◌, true, false, List, [], ◌∷◌, ◌++◌, Ok, Err, Option, Some, None, length, refl, sym, ap, subst}
use Rattle.std.proofs.Common.{◌∙◌, arith, slice_get, ◌⊎◌, inl, inr}
use Rattle.std.proofs.lemmas.Bool.{eq-eqb, ne_eqb, cases_eq, cases_lt}
use Rattle.std.proofs.lemmas.List.{append-nil}
use Rattle.rank_language.specs.Placed as statements
use Rattle.rank_text.specs.declared.grammar.token.Reduction.{Reduction}
use Rattle.rank_language.specs.Placed.{barrier, broadcast, reduce, collect}
use Rattle.rank_language.specs.Block.{Block, plain}
use Rattle.rank_machine.specs.declared.fault.MachineFault.{MachineFault}
use Rattle.rank_machine.specs.Values.{Store, Valued, ◌>>=◌}
use Rattle.rank_machine.specs.Collectives.{CollectiveKind, barriers, broadcasts, folds, CollectiveCall, called, gives, gets, parts, part_of, parts_of, is_last}
use Rattle.rank_machine.specs.Collectives.{counted, given_by}
use Rattle.rank_machine.specs.States.{State}
use Rattle.rank_machine.specs.Wants.{payload, want_of, or_fault, part_want}
use Rattle.rank_machine.specs.Acts.{Message, Act, takes, Fits, Makes, Runs, next, written, with_gathered}
use Rattle.rank_machine.proofs.CollectiveParts.{longer_at}
use Rattle.rank_machine.proofs.Calls.{is_call, called_same, gives_one, at_part}
use Rattle.rank_machine.proofs.Places.{broadcast_gets, reduce_gives}
use Rattle.rank_machine.proofs.Outcomes.{standing, gone, Gave, Took, Outcome, made}
use Rattle.rank_machine.proofs.Stages.{stands_at}
use Rattle.crash_free.specs.Runs.{History}
use Rattle.crash_free.specs.Laws.{first_collective}
use Rattle.crash_free.proofs.OtherSteps.{split, stands_there, written_keeps, act_keeps}
use Rattle.crash_free.proofs.Sound.{Has, Has-longer, Has-last, IsStored, Checked, IsCount, IsUnder, IsProgress, IsWay, Sound, moved, closed, sound_inners}

-- what was got stays so after one more act, where more was gathered
weaker : (h : History) (x : Act × Option Message) (call : CollectiveCall) (g g' : List ℤ) (i q : ℕ)
    → ((vs : List ℤ) → IsStored call.kind g i vs → IsStored call.kind g' i vs) → Checked h call g i q → Checked (h ++ x ∷ []) call g' i q
weaker h x call g g' i q w c =
    record {
      place = c.place;
      message = c.message;
      items = c.items;
      has = Has-longer h (x ∷ []) _ c.has;
      context = c.context;
      agrees = c.agrees;
      stored = w c.items c.stored;
    }

-- one more part is done
next_under : (h : History) (x : Act × Option Message) (s : Store) (call : CollectiveCall) (g' : List ℤ) → IsUnder h s call
    → (s.done + 1 ≡ length (parts_of s call) → ⊥)
    → ((i : ℕ) (vs : List ℤ) → IsStored call.kind s.gathered i vs → IsStored call.kind g' i vs)
    → ((q : ℕ) → slice_get (parts_of s call) s.done ≡ Some (gets q) → Checked (h ++ x ∷ []) call g' s.done q)
    → IsCount call.kind g' (s.done + 1) → IsUnder (h ++ x ∷ []) (at_part s (s.done + 1) g') call
next_under h x s call g' u ne weak new count =
    record { within = (let w = u.within in grind (arith, w, ne)); checked = λ i q b e. at i q b e (cases_lt i s.done); count = count }
  where
    at : (i q : ℕ) → i < s.done + 1 → slice_get (parts_of s call) i ≡ Some (gets q) → (i < s.done) ⊎ (s.done ≤ i) → Checked (h ++ x ∷ []) call g' i q
    at i q b e (inl l) = weaker h x call s.gathered g' i q (weak i) (u.checked i q l e)
    at i q b e (inr g) =
        let same : s.done ≡ i = omega (arith, b, g) in
        subst (λ j. Checked (h ++ x ∷ []) call g' j q) same (new q (ap (slice_get (parts_of s call)) same ∙ e))

-- after a part: the next one stands, or none is under way
pass_sound : (r n : ℕ) (h : History) (s s' : Store) (c : statements.Collective) (t : Block) (call : CollectiveCall) → r < n → s'.rank ≡ r → s'.size ≡ n
    → is_last s' call ≡ is_last s call
    → ((s.done + 1 ≡ length (parts_of s call) → ⊥) → IsWay h (record s' { done = s'.done + 1 }) (Some c))
    → Sound r n h (gone s s' c t call)
pass_sound r n h s s' c t call l er es same more = by_last (cases_eq (s.done + 1) (length (parts_of s call)))
  where
    by_last : (s.done + 1 ≡ length (parts_of s call)) ⊎ (s.done + 1 ≡ length (parts_of s call) → ⊥) → Sound r n h (gone s s' c t call)
    by_last (inl e) =
        let last : is_last s call ≡ true = eq-eqb (s.done + 1) (length (parts_of s call)) e in
        let all : gone s s' c t call ≡ record { store = counted s'; rest = t; fault = None } = rw (same, last) refl in
        subst (Sound r n h) (sym all) (closed r n h s' t None l er es)
    by_last (inr ne) =
        let on : is_last s call ≡ false = ne_eqb (s.done + 1) (length (parts_of s call)) ne in
        let stood : State = record { store = record s' { done = s'.done + 1 }; rest = plain (collect c) t; fault = None } in
        let all : gone s s' c t call ≡ stood = rw (same, on) refl in
        subst (Sound r n h) (sym all) (record { rank = er; size = es; way = more ne })

-- a send of a reduce is its last part, so no count is asked for after it
count_gave : (kind : CollectiveKind) (root n r i d : ℕ) (g : List ℤ) → slice_get (parts kind root n r) i ≡ Some (gives d)
    → (i + 1 ≡ length (parts kind root n r) → ⊥) → IsCount kind g (i + 1)
count_gave barriers root n r i d g e ne = tt
count_gave broadcasts root n r i d g e ne = tt
count_gave (folds f) root n r i d g e ne = absurd (ne (reduce_gives f root n r i d e))

-- the call is the same at the next part
way_same : (h : History) (s : Store) (c : statements.Collective) (call : CollectiveCall) (g : List ℤ) → called s c ≡ Ok call
    → IsUnder h (at_part s (s.done + 1) g) call → IsWay h (at_part s (s.done + 1) g) (Some c)
way_same h s c call g e u = rw (called_same s (s.done + 1) g c, e) u

-- after a send of a collective
gave_sound : (r n : ℕ) (h : History) (s : Store) (c : statements.Collective) (t : Block) (call : CollectiveCall) (act : Act) (m : Option Message) (b : State)
    → r < n → s.rank ≡ r → s.size ≡ n → called s c ≡ Ok call → IsUnder h s call → Gave s c t call act m b → Sound r n (h ++ (act, m) ∷ []) b
gave_sound r n h s c t call act m b l er es e u o =
    subst (Sound r n (h ++ (act, m) ∷ [])) (sym o.after) (pass_sound r n (h ++ (act, m) ∷ []) s s c t call l er es refl more)
  where
    there : slice_get (parts_of s call) s.done ≡ Some (gives o.dest)
    there = stands_at s call (gives o.dest) u.within o.part

    no_gets : (q : ℕ) → slice_get (parts_of s call) s.done ≡ Some (gets q) → ⊥
    no_gets q f = (let g : Some (gives o.dest) ≡ Some (gets q) = sym there ∙ f in cc)

    more : (s.done + 1 ≡ length (parts_of s call) → ⊥) → IsWay (h ++ (act, m) ∷ []) (record s { done = s.done + 1 }) (Some c)
    more ne =
        way_same (h ++ (act, m) ∷ []) s c call s.gathered e
        (next_under h (act, m) s call s.gathered u ne (λ i vs k. k) (λ q f. absurd (no_gets q f))
        (count_gave call.kind call.root s.size s.rank s.done o.dest s.gathered there ne))

-- what a broadcast gets is its last part
pub took_last : (kind : CollectiveKind) (root n r i q : ℕ) → kind ≡ broadcasts → slice_get (parts kind root n r) i ≡ Some (gets q)
    → i + 1 ≡ length (parts kind root n r)
took_last kind root n r i q k e =
    let p = broadcast_gets root n r i q (ap (λ z. slice_get (parts z root n r) i) (sym k) ∙ e) in
    let a = p.0 in let b = p.2 in
    rw k (omega (arith, a, b))

-- what goes last stands at the place that is the length before
one_last : (g : List ℤ) (v : ℤ) (i : ℕ) → length g ≡ i → slice_get (g ++ v ∷ []) i ≡ Some v
one_last [] v i e = rw (sym e) refl
one_last (x ∷ g) v zero e = absurd (omega (arith, e))
one_last (x ∷ g) v (suc i) e = one_last g v i (omega (arith, e))

-- and makes it one longer
length_one : (g : List ℤ) (v : ℤ) (i : ℕ) → length g ≡ i → length (g ++ v ∷ []) ≡ i + 1
length_one [] v i e = omega (arith, e)
length_one (x ∷ g) v zero e = absurd (omega (arith, e))
length_one (x ∷ g) v (suc i) e = (let m = length_one g v i (omega (arith, e)) in omega (arith, m))

-- what is stored stays so where more is gathered
stored_weak : (kind : CollectiveKind) (g extra : List ℤ) (i : ℕ) (vs : List ℤ) → IsStored kind g i vs → IsStored kind (g ++ extra) i vs
stored_weak barriers g extra i vs k = tt
stored_weak broadcasts g extra i vs k = tt
stored_weak (folds f) g extra i vs k = (k.0, k.1, longer_at g extra i k.0 k.2)

-- what a reduce took is stored at its place
stored_took : (call : CollectiveCall) (f : Reduction) (items vs g : List ℤ) (i : ℕ) (kind : CollectiveKind) → call.kind ≡ kind → kind ≡ folds f
    → given_by call items ≡ Ok vs → IsCount kind g i → IsStored kind (g ++ vs) i vs × IsCount kind (g ++ vs) (i + 1)
stored_took call f items vs g i barriers k k' a count = absurd cc
stored_took call f items vs g i broadcasts k k' a count = absurd cc
stored_took call f items vs g i (folds f') k k' a count =
    let o = gives_one call f' items vs k a in
    one_value f' vs g i o.0 o.1 count
  where
    one_value : (f' : Reduction) (vs g : List ℤ) (i : ℕ) (v : ℤ) → vs ≡ v ∷ [] → length g ≡ i
        → IsStored (folds f') (g ++ vs) i vs × IsCount (folds f') (g ++ vs) (i + 1)
    one_value f' vs g i v e count = ((v, e, rw e (one_last g v i count)), rw e (length_one g v i count))

-- the part that was got is one of this call
took_new : (h : History) (s : Store) (c : statements.Collective) (t : Block) (call : CollectiveCall) (act : Act) (m : Option Message) (b : State) (g' : List ℤ)
    → (o : Took s c t call act m b) → s.done < length (parts_of s call) → IsStored call.kind g' s.done o.items
    → (q : ℕ) → slice_get (parts_of s call) s.done ≡ Some (gets q) → Checked (h ++ (act, m) ∷ []) call g' s.done q
took_new h s c t call act m b g' o w stored q f =
    let there = stands_at s call (gets o.source) w o.part in
    let e : Some (gets o.source) ≡ Some (gets q) = sym there ∙ f in
    let same : o.source ≡ q = cc in
    let own : Act × Option Message = (takes o.source o.place, Some o.message) in
    let x : own ≡ (act, m) = rw (o.taken, o.there) refl in
    subst (λ z. Checked (h ++ (act, m) ∷ []) call g' s.done z) same
    (record {
      place = o.place;
      message = o.message;
      items = o.items;
      has = subst (λ y. Has (h ++ y ∷ []) own) x (Has-last h own);
      context = o.context;
      agrees = o.agrees;
      stored = stored;
    })

-- a barrier stores nothing
stored_barrier : (kind : CollectiveKind) (g : List ℤ) (i k : ℕ) (vs : List ℤ) → kind ≡ barriers → IsStored kind g i vs × IsCount kind g k
stored_barrier barriers g i k vs e = (tt, tt)
stored_barrier broadcasts g i k vs e = absurd cc
stored_barrier (folds f) g i k vs e = absurd cc

-- after a reception of a collective
took_sound : (r n : ℕ) (h : History) (s : Store) (c : statements.Collective) (t : Block) (call : CollectiveCall) (act : Act) (m : Option Message) (b : State)
    → r < n → s.rank ≡ r → s.size ≡ n → called s c ≡ Ok call → IsUnder h s call → Took s c t call act m b → Sound r n (h ++ (act, m) ∷ []) b
took_sound r n h s barrier t call act m b l er es e u o =
    let k = (is_call s barrier call (omega (arith, l, es)) e).kind in
    let z = stored_barrier call.kind s.gathered s.done (s.done + 1) o.items k in
    let new = took_new h s barrier t call act m b s.gathered o u.within z.0 in
    subst (Sound r n (h ++ (act, m) ∷ [])) (sym o.after)
    (pass_sound r n (h ++ (act, m) ∷ []) s s barrier t call l er es refl
    (λ ne. way_same (h ++ (act, m) ∷ []) s barrier call s.gathered e
    (next_under h (act, m) s call s.gathered u ne (λ i vs k. k) new z.1)))
took_sound r n h s (broadcast x buffer) t call act m b l er es e u o =
    let k = (is_call s (broadcast x buffer) call (omega (arith, l, es)) e).kind in
    let there = stands_at s call (gets o.source) u.within o.part in
    let last = took_last call.kind call.root s.size s.rank s.done o.source k there in
    let w = written_keeps buffer o.items s in
    subst (Sound r n (h ++ (act, m) ∷ [])) (sym o.after)
    (pass_sound r n (h ++ (act, m) ∷ []) s (written buffer o.items s) (broadcast x buffer) t call l (w.rank ∙ er) (w.size ∙ es)
    (rw (w.done, w.size, w.rank) refl) (λ ne. absurd (ne last)))
took_sound r n h s (reduce f x v p) t call act m b l er es e u o =
    let k = (is_call s (reduce f x v p) call (omega (arith, l, es)) e).kind in
    let z = stored_took call f o.message.items o.items s.gathered s.done call.kind refl k o.agrees u.count in
    let new = took_new h s (reduce f x v p) t call act m b (s.gathered ++ o.items) o u.within z.0 in
    subst (Sound r n (h ++ (act, m) ∷ [])) (sym o.after)
    (pass_sound r n (h ++ (act, m) ∷ []) s (with_gathered o.items s) (reduce f x v p) t call l er es refl
    (λ ne. way_same (h ++ (act, m) ∷ []) s (reduce f x v p) call (s.gathered ++ o.items) e
    (next_under h (act, m) s call (s.gathered ++ o.items) u ne (λ i vs. stored_weak call.kind s.gathered o.items i vs) new z.1)))

-- a collective under way is so after one more act that leaves it
under_longer : (h : History) (x : Act × Option Message) (s : Store) (call : CollectiveCall) → IsUnder h s call → IsUnder (h ++ x ∷ []) s call
under_longer h x s call u =
    record { within = u.within; checked = λ i q b e. weaker h x call s.gathered s.gathered i q (λ vs k. k) (u.checked i q b e); count = u.count }

-- after any act of a collective
outcome_sound : (r n : ℕ) (h : History) (s : Store) (c : statements.Collective) (t : Block) (call : CollectiveCall) (act : Act) (m : Option Message) (b : State)
    → r < n → s.rank ≡ r → s.size ≡ n → called s c ≡ Ok call → IsUnder h s call → Outcome s c t call act m b → Sound r n (h ++ (act, m) ∷ []) b
outcome_sound r n h s c t call act m b l er es e u (inl o) = gave_sound r n h s c t call act m b l er es e u o
outcome_sound r n h s c t call act m b l er es e u (inr (inl o)) = took_sound r n h s c t call act m b l er es e u o
outcome_sound r n h s c t call act m b l er es e u (inr (inr o)) =
    subst (Sound r n (h ++ (act, m) ∷ [])) (sym o.after) (record { rank = er; size = es; way = rw e (under_longer h (act, m) s call u) })

-- a collective whose evaluation faults makes no act
pub no_call : (s : Store) (c : statements.Collective) (t : Block) (act : Act) (m : Option Message) (k : MachineFault) → called s c ≡ Err k
    → Makes (standing s c t) act m → ⊥
no_call s c t act m k e f =
    (let P : Valued CollectiveCall → Type 0 = λ v. Fits (or_fault (v >>= (λ call. part_want s c call (part_of s call)))) (payload (standing s c t)) act m in
    let g : P (Err k) = subst P e f in
    g)

-- an act of a collective
call_sound : (r n : ℕ) (h : History) (s : Store) (c : statements.Collective) (t : Block) (act : Act) (m : Option Message)
    → r < n → s.rank ≡ r → s.size ≡ n → (v : Valued CollectiveCall) → called s c ≡ v → IsProgress h s v
    → Makes (standing s c t) act m → Sound r n (h ++ (act, m) ∷ []) (next (standing s c t) act m)
call_sound r n h s c t act m l er es (Ok call) e u f =
    outcome_sound r n h s c t call act m (next (standing s c t) act m) l er es e u (made s c t call e act m f)
call_sound r n h s c t act m l er es (Err k) e u f = absurd (no_call s c t act m k e f)

-- a rank that an act left faulted makes no act
pub no_fault : (a : State) (act : Act) (m : Option Message) (k : MachineFault) → a.fault ≡ Some k → Makes a act m → ⊥
no_fault a act m k q f =
    (let g : Fits (want_of a.store a.rest (Some k)) (payload a) act m = subst (λ z. Fits (want_of a.store a.rest z) (payload a) act m) q f in g)

-- an act keeps it
pub sound_act : (r n : ℕ) (h : History) (a : State) (act : Act) (m : Option Message) → r < n → Sound r n h a → Makes a act m
    → Sound r n (h ++ (act, m) ∷ []) (next a act m)
sound_act r n h a act m l w f = by_fault a.fault refl
  where
    by_first : a.fault ≡ None → (first_collective a.rest ≡ None) ⊎ ((c : statements.Collective) × (t : Block) × (a.rest ≡ plain (collect c) t))
        → Sound r n (h ++ (act, m) ∷ []) (next a act m)
    by_first q (inl none) =
        moved r n (h ++ (act, m) ∷ []) a.store (next a act m) l w.rank w.size (subst (IsWay h a.store) none w.way) (act_keeps a act m none)
    by_first q (inr x) =
        let there : a ≡ standing a.store x.0 x.1 = stands_there a x.0 x.1 q x.2 in
        let way : IsProgress h a.store (called a.store x.0) = subst (IsWay h a.store) (ap first_collective x.2) w.way in
        subst (λ z. Sound r n (h ++ (act, m) ∷ []) (next z act m)) (sym there)
        (call_sound r n h a.store x.0 x.1 act m l w.rank w.size (called a.store x.0) refl way (subst (λ z. Makes z act m) there f))

    by_fault : (k : Option MachineFault) → a.fault ≡ k → Sound r n (h ++ (act, m) ∷ []) (next a act m)
    by_fault None q = by_first q (split a.rest)
    by_fault (Some k) q = absurd (no_fault a act m k q f)

-- so do a rank's acts
pub sound_runs : (r n : ℕ) (h more : History) (a b : State) → r < n → Sound r n h a → Runs a more b → Sound r n (h ++ more) b
sound_runs r n h [] a b l w e = subst (λ z. Sound r n z b) (sym (append-nil h)) (subst (Sound r n h) (sym e) w)
sound_runs r n h (x ∷ more) a b l w e =
    let mid = sound_inners r n h a e.1.0 l w e.1.1 in
    let after : Sound r n (h ++ x ∷ []) e.0 = subst (Sound r n (h ++ x ∷ [])) (sym e.1.3) (sound_act r n h e.1.0 x.0 x.1 l mid e.1.2) in
    subst (λ z. Sound r n z b) (one_by_one h x more) (sound_runs r n (h ++ x ∷ []) more e.0 b l after e.2)
  where
    one_by_one : (h : History) (x : Act × Option Message) (more : History) → (h ++ x ∷ []) ++ more ≡ h ++ (x ∷ more)
    one_by_one [] x more = refl
    one_by_one (y ∷ h) x more = ap (λ z. y ∷ z) (one_by_one h x more)
