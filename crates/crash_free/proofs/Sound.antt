-- What holds of a rank at each moment, by its own acts alone: of the collective that stands, each reception that is done took a
-- packet of this call.
use Rattle.std.proofs.Common.{◌≡◌, ℕ, ℤ, suc, ◌<◌, List, [], ◌∷◌, ◌++◌, Ok, Err, Option, Some, None, length, refl, sym, ap, subst, ◌∙◌, arith, slice_get}
use Rattle.std.proofs.Common.{◌⊎◌, inl, inr}
use Rattle.std.specs.Prelude.{slice_set}
use Rattle.matching.specs.declared.packet.Context.TheVariants.{Collective}
use Rattle.rank_language.specs.Placed as statements
use Rattle.rank_language.specs.Placed.{barrier, broadcast, reduce, collect}
use Rattle.rank_language.specs.Block.{Block, plain}
use Rattle.rank_machine.specs.declared.fault.MachineFault.{MachineFault}
use Rattle.rank_machine.specs.Values.{Store, Valued}
use Rattle.rank_machine.specs.Collectives.{CollectiveKind, barriers, broadcasts, folds, CollectiveCall, called, gets, parts_of, counted, given_by, ended, folded, with_at}
use Rattle.rank_machine.specs.States.{State, Inners, here, on, inner, inner_of}
use Rattle.rank_machine.specs.Acts.{Message, Act, takes}
use Rattle.rank_machine.proofs.CollectiveParts.{some_part, longer_at}
use Rattle.rank_machine.proofs.Calls.{bound_ok}
use Rattle.rank_machine.proofs.Outcomes.{standing, Ended, ended_so}
use Rattle.crash_free.specs.Runs.{History}
use Rattle.crash_free.specs.Laws.{first_collective}
use Rattle.crash_free.proofs.OtherSteps.{split, stands_there, KeepsCalls, all_kept, inner_keeps}

-- a history has this act with this message
abbrev pub Has : History → Act × Option Message → Type 0
Has h x = (i : ℕ) × (slice_get h i ≡ Some x)

-- it has it still after more acts
pub Has-longer : (h more : History) (x : Act × Option Message) → Has h x → Has (h ++ more) x
Has-longer h more x a = (a.0, longer_at h more a.0 x a.1)

-- its last act is one that it has
pub Has-last : (h : History) (x : Act × Option Message) → Has (h ++ x ∷ []) x
Has-last [] x = (0, refl)
Has-last (y ∷ h) x = let a = Has-last h x in (suc a.0, a.1)

-- the value of a reduce's packet stands at its part's place among those gathered
abbrev pub IsStored : CollectiveKind → List ℤ → ℕ → List ℤ → Type 0
IsStored barriers g i vs = Unit {0}
IsStored broadcasts g i vs = Unit {0}
IsStored (folds f) g i vs = (v : ℤ) × (vs ≡ v ∷ []) × (slice_get g i ≡ Some v)

-- the part at place i got from q: a packet of this call
pub record Checked (h : History) (call : CollectiveCall) (g : List ℤ) (i q : ℕ) : Type 0 where
  pub place : ℕ
  pub message : Message
  pub items : List ℤ
  pub has : Has h (takes q place, Some message)
  pub context : message.context ≡ Collective
  pub agrees : given_by call message.items ≡ Ok items
  pub stored : IsStored call.kind g i items

-- a reduce gathers a value with each part
abbrev pub IsCount : CollectiveKind → List ℤ → ℕ → Type 0
IsCount barriers g count = Unit {0}
IsCount broadcasts g count = Unit {0}
IsCount (folds f) g count = length g ≡ count

-- a collective under way
pub record IsUnder (h : History) (s : Store) (call : CollectiveCall) : Type 0 where
  pub within : s.done < length (parts_of s call)
  pub checked : (i q : ℕ) → i < s.done → slice_get (parts_of s call) i ≡ Some (gets q) → Checked h call s.gathered i q
  pub count : IsCount call.kind s.gathered s.done

-- none is under way
abbrev pub IsNone : Store → Type 0
IsNone s = (s.done ≡ 0) × (s.gathered ≡ [])

-- this call is under way, or its evaluation faults and none is
abbrev pub IsProgress : History → Store → Valued CollectiveCall → Type 0
IsProgress h s (Ok call) = IsUnder h s call
IsProgress h s (Err k) = IsNone s

-- this collective is under way, or none is
abbrev pub IsWay : History → Store → Option statements.Collective → Type 0
IsWay h s None = IsNone s
IsWay h s (Some c) = IsProgress h s (called s c)

-- what holds of rank r of n at each moment
pub record Sound (r n : ℕ) (h : History) (a : State) : Type 0 where
  pub rank : a.store.rank ≡ r
  pub size : a.store.size ≡ n
  pub way : IsWay h a.store (first_collective a.rest)

-- with no part done a collective is under way, and any other statement stands as well
pub fresh : (h : History) (s : Store) (o : Option statements.Collective) → s.rank < s.size → IsNone s → IsWay h s o
fresh h s None l z = z
fresh h s (Some c) l z = by_call (called s c)
  where
    first : (k : CollectiveKind) → IsCount k s.gathered s.done
    first barriers = tt
    first broadcasts = tt
    first (folds f) = ap length z.1 ∙ sym z.0

    by_call : (v : Valued CollectiveCall) → IsProgress h s v
    by_call (Err k) = z
    by_call (Ok call) = record {
      within = rw z.0 (some_part call.kind call.root s.size s.rank l);
      checked = λ i q b e. (let d = z.0 in absurd (omega (arith, b, d)));
      count = first call.kind;
    }

-- from what was stored with no collective under way to another state
pub moved : (r n : ℕ) (h : History) (s : Store) (b : State) → r < n → s.rank ≡ r → s.size ≡ n → IsNone s → KeepsCalls s b.store → Sound r n h b
moved r n h s b l er es z k =
    let a = k.rank ∙ er in
    let d = k.size ∙ es in
    record { rank = a; size = d; way = fresh h b.store (first_collective b.rest) (omega (arith, l, a, d)) (k.done ∙ z.0, k.gathered ∙ z.1) }

-- after a collective none is under way
pub closed : (r n : ℕ) (h : History) (s : Store) (b : Block) (f : Option MachineFault) → r < n → s.rank ≡ r → s.size ≡ n
    → Sound r n h (record { store = counted s; rest = b; fault = f })
closed r n h s b f l er es = record { rank = er; size = es; way = fresh h (counted s) (first_collective b) (omega (arith, l, er, es)) (refl, refl) }

-- the own step of a collective counts it
pub ended_store : (s : Store) (c : statements.Collective) (call : CollectiveCall) (s' : Store) → ended s c call ≡ Ok s'
    → (x : Store) × (s' ≡ counted x) × KeepsCalls s x
ended_store s barrier call s' e = (s, (let q : counted s ≡ s' = cc in sym q), all_kept s)
ended_store s (broadcast x b) call s' e = (s, (let q : counted s ≡ s' = cc in sym q), all_kept s)
ended_store s (reduce f x v p) call s' e =
    let put : ℤ → Store = λ z. record s { variables = slice_set s.variables p z } in
    let y = bound_ok (folded f (with_at s.rank call.items s.gathered)) (λ z. Ok (counted (put z))) s' e in
    let g = y.2 in
    let same : counted (put y.0) ≡ s' = cc in
    (put y.0, sym same, record { rank = refl; size = refl; finished = refl; done = refl; gathered = refl })

-- so none is under way after it
ended_sound : (r n : ℕ) (h : History) (s : Store) (c : statements.Collective) (t : Block) (call : CollectiveCall) (b : State)
    → r < n → s.rank ≡ r → s.size ≡ n → Ended s c t call b → Sound r n h b
ended_sound r n h s c t call b l er es e =
    let x = ended_store s c call e.store e.folded in
    let after : record { store = counted x.0; rest = t; fault = None } ≡ b =
    ap (λ z. record { store = z; rest = t; fault = None }) (sym x.1) ∙ sym e.after in
    subst (Sound r n h) after (closed r n h x.0 t None l (x.2.rank ∙ er) (x.2.size ∙ es))

-- an inner step of a collective
inner_call : (r n : ℕ) (h : History) (s : Store) (c : statements.Collective) (t : Block) (b : State) → r < n → s.rank ≡ r → s.size ≡ n
    → (v : Valued CollectiveCall) → called s c ≡ v → inner (standing s c t) ≡ Some b → Sound r n h b
inner_call r n h s c t b l er es (Ok call) e i = ended_sound r n h s c t call b l er es (ended_so s c t call e b i)
inner_call r n h s c t b l er es (Err k) e i = absurd (let j : None ≡ Some b = rw e at i in cc)

-- an inner step keeps it
pub sound_inner : (r n : ℕ) (h : History) (a b : State) → r < n → Sound r n h a → inner a ≡ Some b → Sound r n h b
sound_inner r n h a b l w e = by_fault a.fault refl
  where
    by_first : a.fault ≡ None → (first_collective a.rest ≡ None) ⊎ ((c : statements.Collective) × (t : Block) × (a.rest ≡ plain (collect c) t))
        → Sound r n h b
    by_first q (inl none) =
        moved r n h a.store b l w.rank w.size (subst (IsWay h a.store) none w.way) (inner_keeps a.store a.rest a.fault b none e)
    by_first q (inr x) =
        let there = stands_there a x.0 x.1 q x.2 in
        inner_call r n h a.store x.0 x.1 b l w.rank w.size (called a.store x.0) refl (subst (λ z. inner z ≡ Some b) there e)

    by_fault : (f : Option MachineFault) → a.fault ≡ f → Sound r n h b
    by_fault None q = by_first q (split a.rest)
    by_fault (Some k) q = absurd (let j : inner_of a.store a.rest (Some k) ≡ Some b = ap (inner_of a.store a.rest) (sym q) ∙ e in cc)

-- so do some of them
pub sound_inners : (r n : ℕ) (h : History) (a b : State) → r < n → Sound r n h a → Inners a b → Sound r n h b
sound_inners r n h a b l w here = w
sound_inners r n h a b l w (on {b = x} e more) = sound_inners r n h x b l (sound_inner r n h a x l w e) more
