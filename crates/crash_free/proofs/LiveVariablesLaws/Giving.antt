-- Where each array that may be sent has an item at the beginning, each message has one: no
-- statement takes items from an array.
use Rattle.std.proofs.Common.{◌≡◌, ◌≢◌, ℕ, ℤ, ◌<◌, ◌≤◌, Bool, true, false, not, ◌||◌, List, [], ◌∷◌, Ok, Err, Option, Some, None, refl, sym, ap, ◌∙◌, subst}
use Rattle.std.proofs.Common.{◌⊎◌, inl, inr, length, arith, if◌then◌else◌}
use Rattle.std.specs.Prelude.{slice_set, slice_index_or, option_map}
use Rattle.std.proofs.lemmas.Bool.{or_cases, cases_eq, cases_lt, or_left, or_right}
use Rattle.std.proofs.lemmas.List.{get_or-set_same, get_or-set_other, length-set, get_or_past}
use Rattle.rank_language.specs.Placed.{Simple, declare, declare_array, assign, assign_item, send, receive, probe, try_probe}
use Rattle.rank_language.specs.Placed.{print, Collective, Buffer, into_variable, into_array, barrier, broadcast, reduce, collect}
use Rattle.rank_language.specs.Block.{Block, done, plain, if_only, if_else, loop, ◌then◌, taken}
use Rattle.rank_machine.specs.declared.fault.MachineFault.{MachineFault}
use Rattle.rank_machine.specs.Values.{Store, Valued, ◌>>=◌, value, is_zero}
use Rattle.rank_machine.specs.Collectives.{CollectiveCall, Part, gives, gets, ends, part_of, called, ended, counted, unfaulted, ended_at, ended_by, own_end, stored_or}
use Rattle.rank_machine.specs.Collectives.{folded, with_at}
use Rattle.rank_machine.specs.States.{State, Inners, here, on, item_value, assigned, item_assigned}
use Rattle.rank_machine.specs.States.{after_test, after_value, inner_rest, inner_store, inner_of, inner}
use Rattle.rank_machine.specs.Acts.{overwritten, written}
use Rattle.crash_free.specs.LiveVariables.Given.{sends_all, some_sends_all, GivesItems}

-- What one list of statements behind another sends.
then_sends : (p : ℕ) (b k : Block) → some_sends_all p (b then k) ≡ true → (some_sends_all p b ≡ true) ⊎ (some_sends_all p k ≡ true)
then_sends p done k e = inr e
then_sends p (plain s r) k e = go (λ f. then_sends p r k f) (or_cases (sends_all p s) (some_sends_all p (r then k)) e)
  where
    later : (some_sends_all p r ≡ true) ⊎ (some_sends_all p k ≡ true) → (some_sends_all p (plain s r) ≡ true) ⊎ (some_sends_all p k ≡ true)
    later (inl f) = inl (or_right (sends_all p s) (some_sends_all p r) f)
    later (inr f) = inr f

    go : (some_sends_all p (r then k) ≡ true → (some_sends_all p r ≡ true) ⊎ (some_sends_all p k ≡ true))
        → (sends_all p s ≡ true) ⊎ (some_sends_all p (r then k) ≡ true) → (some_sends_all p (plain s r) ≡ true) ⊎ (some_sends_all p k ≡ true)
    go more (inl f) = inl (or_left (sends_all p s) (some_sends_all p r) f)
    go more (inr f) = later (more f)
then_sends p (if_only e y r) k f = go (λ g. then_sends p r k g) (or_cases (some_sends_all p y) (some_sends_all p (r then k)) f)
  where
    later : (some_sends_all p r ≡ true) ⊎ (some_sends_all p k ≡ true) → (some_sends_all p (if_only e y r) ≡ true) ⊎ (some_sends_all p k ≡ true)
    later (inl g) = inl (or_right (some_sends_all p y) (some_sends_all p r) g)
    later (inr g) = inr g

    go : (some_sends_all p (r then k) ≡ true → (some_sends_all p r ≡ true) ⊎ (some_sends_all p k ≡ true))
        → (some_sends_all p y ≡ true) ⊎ (some_sends_all p (r then k) ≡ true) → (some_sends_all p (if_only e y r) ≡ true) ⊎ (some_sends_all p k ≡ true)
    go more (inl g) = inl (or_left (some_sends_all p y) (some_sends_all p r) g)
    go more (inr g) = later (more g)
then_sends p (if_else e y o r) k f =
    first (λ g. then_sends p r k g) (or_cases (some_sends_all p y) (some_sends_all p o || some_sends_all p (r then k)) f)
  where
    later : (some_sends_all p r ≡ true) ⊎ (some_sends_all p k ≡ true) → (some_sends_all p (if_else e y o r) ≡ true) ⊎ (some_sends_all p k ≡ true)
    later (inl g) = inl (or_right (some_sends_all p y) (some_sends_all p o || some_sends_all p r) (or_right (some_sends_all p o) (some_sends_all p r) g))
    later (inr g) = inr g

    second : (some_sends_all p (r then k) ≡ true → (some_sends_all p r ≡ true) ⊎ (some_sends_all p k ≡ true))
        → (some_sends_all p o ≡ true) ⊎ (some_sends_all p (r then k) ≡ true) → (some_sends_all p (if_else e y o r) ≡ true) ⊎ (some_sends_all p k ≡ true)
    second more (inl g) = inl (or_right (some_sends_all p y) (some_sends_all p o || some_sends_all p r) (or_left (some_sends_all p o) (some_sends_all p r) g))
    second more (inr g) = later (more g)

    first : (some_sends_all p (r then k) ≡ true → (some_sends_all p r ≡ true) ⊎ (some_sends_all p k ≡ true))
        → (some_sends_all p y ≡ true) ⊎ ((some_sends_all p o || some_sends_all p (r then k)) ≡ true)
        → (some_sends_all p (if_else e y o r) ≡ true) ⊎ (some_sends_all p k ≡ true)
    first more (inl g) = inl (or_left (some_sends_all p y) (some_sends_all p o || some_sends_all p r) g)
    first more (inr g) = second more (or_cases (some_sends_all p o) (some_sends_all p (r then k)) g)
then_sends p (loop e y r) k f = go (λ g. then_sends p r k g) (or_cases (some_sends_all p y) (some_sends_all p (r then k)) f)
  where
    later : (some_sends_all p r ≡ true) ⊎ (some_sends_all p k ≡ true) → (some_sends_all p (loop e y r) ≡ true) ⊎ (some_sends_all p k ≡ true)
    later (inl g) = inl (or_right (some_sends_all p y) (some_sends_all p r) g)
    later (inr g) = inr g

    go : (some_sends_all p (r then k) ≡ true → (some_sends_all p r ≡ true) ⊎ (some_sends_all p k ≡ true))
        → (some_sends_all p y ≡ true) ⊎ (some_sends_all p (r then k) ≡ true) → (some_sends_all p (loop e y r) ≡ true) ⊎ (some_sends_all p k ≡ true)
    go more (inl g) = inl (or_left (some_sends_all p y) (some_sends_all p r) g)
    go more (inr g) = later (more g)

-- what remains after a test sends only what was sent before it
taken_sends : (p : ℕ) (truth : Bool) (b : Block) → some_sends_all p (taken truth b) ≡ true → some_sends_all p b ≡ true
taken_sends p truth done h = absurd cc
taken_sends p truth (plain s r) h = h
taken_sends p true (if_only e y r) h = go (then_sends p y r h)
  where
    go : (some_sends_all p y ≡ true) ⊎ (some_sends_all p r ≡ true) → some_sends_all p (if_only e y r) ≡ true
    go (inl f) = or_left (some_sends_all p y) (some_sends_all p r) f
    go (inr f) = or_right (some_sends_all p y) (some_sends_all p r) f
taken_sends p false (if_only e y r) h = or_right (some_sends_all p y) (some_sends_all p r) h
taken_sends p true (if_else e y o r) h = go (then_sends p y r h)
  where
    go : (some_sends_all p y ≡ true) ⊎ (some_sends_all p r ≡ true) → some_sends_all p (if_else e y o r) ≡ true
    go (inl f) = or_left (some_sends_all p y) (some_sends_all p o || some_sends_all p r) f
    go (inr f) = or_right (some_sends_all p y) (some_sends_all p o || some_sends_all p r) (or_right (some_sends_all p o) (some_sends_all p r) f)
taken_sends p false (if_else e y o r) h = go (then_sends p o r h)
  where
    go : (some_sends_all p o ≡ true) ⊎ (some_sends_all p r ≡ true) → some_sends_all p (if_else e y o r) ≡ true
    go (inl f) = or_right (some_sends_all p y) (some_sends_all p o || some_sends_all p r) (or_left (some_sends_all p o) (some_sends_all p r) f)
    go (inr f) = or_right (some_sends_all p y) (some_sends_all p o || some_sends_all p r) (or_right (some_sends_all p o) (some_sends_all p r) f)
taken_sends p true (loop e y r) h = go (then_sends p y (loop e y r) h)
  where
    go : (some_sends_all p y ≡ true) ⊎ (some_sends_all p (loop e y r) ≡ true) → some_sends_all p (loop e y r) ≡ true
    go (inl f) = or_left (some_sends_all p y) (some_sends_all p r) f
    go (inr f) = f
taken_sends p false (loop e y r) h = or_right (some_sends_all p y) (some_sends_all p r) h

-- What remains sends only what was sent before.
abbrev pub Fewer : Block → Block → Type 0
Fewer b c = (p : ℕ) → some_sends_all p c ≡ true → some_sends_all p b ≡ true

-- behind a statement
pub fewer_behind : (x : Simple) (r : Block) → Fewer (plain x r) r
fewer_behind x r p h = or_right (sends_all p x) (some_sends_all p r) h

-- after an inner step
value_fewer : {A : Type 0} (x : Simple) (r c : Block) (v : Valued A) → after_value r v ≡ Some c → Fewer (plain x r) c
value_fewer x r c (Ok z) e = let same : r ≡ c = cc in subst (λ k. Fewer (plain x r) k) same (fewer_behind x r)
value_fewer x r c (Err k) e = absurd cc

-- a statement that may fail leaves those behind it
end_fewer : (x : Simple) (r c : Block) (o : Option Store) → option_map (λ s. r) o ≡ Some c → Fewer (plain x r) c
end_fewer x r c (Some t) e = let same : r ≡ c = cc in subst (λ k. Fewer (plain x r) k) same (fewer_behind x r)
end_fewer x r c None e = absurd cc

-- a test leaves statements of those that stood there
test_fewer : (b c : Block) (v : Valued ℤ) → after_test b v ≡ Some c → Fewer b c
test_fewer b c (Ok z) e =
    let same : taken (not (is_zero z)) b ≡ c = cc in subst (λ k. Fewer b k) same (λ p h. taken_sends p (not (is_zero z)) b h)
test_fewer b c (Err k) e = absurd cc

-- so does each step of a rank's own
inner_fewer : (s : Store) (b c : Block) → inner_rest s b ≡ Some c → Fewer b c
inner_fewer s done c e = absurd cc
inner_fewer s (plain (declare p) r) c e = let same : r ≡ c = cc in subst (λ k. Fewer (plain (declare p) r) k) same (fewer_behind (declare p) r)
inner_fewer s (plain (declare_array p) r) c e =
    let same : r ≡ c = cc in subst (λ k. Fewer (plain (declare_array p) r) k) same (fewer_behind (declare_array p) r)
inner_fewer s (plain (assign p v) r) c e = value_fewer (assign p v) r c (value s v) e
inner_fewer s (plain (assign_item p i v) r) c e = value_fewer (assign_item p i v) r c (item_value s p i v) e
inner_fewer s (plain (send d t p) r) c e = absurd cc
inner_fewer s (plain (receive d t b) r) c e = absurd cc
inner_fewer s (plain (probe d t) r) c e = absurd cc
inner_fewer s (plain (try_probe d t x) r) c e = absurd cc
inner_fewer s (plain (print v) r) c e = absurd cc
inner_fewer s (plain (collect x) r) c e = end_fewer (collect x) r c (own_end s x) e
inner_fewer s (if_only v y r) c e = test_fewer (if_only v y r) c (value s v) e
inner_fewer s (if_else v y o r) c e = test_fewer (if_else v y o r) c (value s v) e
inner_fewer s (loop v y r) c e = test_fewer (loop v y r) c (value s v) e

-- Each array that had an item has one.
abbrev pub Keeps : List (List ℤ) → List (List ℤ) → Type 0
Keeps xs ys = (p : ℕ) → slice_index_or xs p [] ≢ [] → slice_index_or ys p [] ≢ []

-- where one becomes another that has an item
set_keeps : (xs : List (List ℤ)) (q : ℕ) (new : List ℤ) → (slice_index_or xs q [] ≢ [] → new ≢ []) → Keeps xs (slice_set xs q new)
set_keeps xs q new f p some = by_place (cases_eq p q)
  where
    by_length : (q < length xs) ⊎ (length xs ≤ q) → slice_index_or xs q [] ≢ [] → slice_index_or (slice_set xs q new) q [] ≢ []
    by_length (inl l) k = λ e. f k (sym (get_or-set_same xs q new [] l) ∙ e)
    by_length (inr g) k = absurd (k (get_or_past xs q [] g))

    by_place : (p ≡ q) ⊎ (p ≡ q → ⊥) → slice_index_or (slice_set xs q new) p [] ≢ []
    by_place (inl same) =
        subst (λ z. slice_index_or (slice_set xs q new) z [] ≢ []) (sym same)
        (by_length (cases_lt q (length xs)) (subst (λ z. slice_index_or xs z [] ≢ []) same some))
    by_place (inr differ) = λ e. some (sym (get_or-set_other xs q p new [] differ) ∙ e)

-- items of an array that are set are as many
set_some : (xs : List ℤ) (i : ℕ) (z : ℤ) → xs ≢ [] → slice_set xs i z ≢ []
set_some xs i z some = λ e. some (none xs (sym (length-set xs i z) ∙ ap length e))
  where
    none : (xs : List ℤ) → length xs ≡ 0 → xs ≡ []
    none [] e = refl
    none (x ∷ xs) e = absurd (omega (arith, e))

-- items over others
over_some : (items xs : List ℤ) → xs ≢ [] → overwritten items xs ≢ []
over_some [] [] some = some
over_some [] (x ∷ xs) some = λ e. absurd cc
over_some (z ∷ zs) xs some = λ e. absurd cc

-- an item that is set takes none from its array
item_keeps : (s : Store) (p : ℕ) (v : Valued (ℕ × ℤ)) → Keeps s.arrays (item_assigned s p v).arrays
item_keeps s p (Ok x) = set_keeps s.arrays p (slice_set (slice_index_or s.arrays p []) x.0 x.1) (λ k. set_some (slice_index_or s.arrays p []) x.0 x.1 k)
item_keeps s p (Err k) = λ q h. h

-- a variable that is set takes none from any array
assigned_keeps : (s : Store) (p : ℕ) (v : Valued ℤ) → Keeps s.arrays (assigned s p v).arrays
assigned_keeps s p (Ok z) = λ q h. h
assigned_keeps s p (Err k) = λ q h. h

-- nor does what is received
pub written_keeps : (b : Buffer) (items : List ℤ) (s : Store) → Keeps s.arrays (written b items s).arrays
written_keeps (into_variable p) [] s = λ q h. h
written_keeps (into_variable p) (z ∷ zs) s = λ q h. h
written_keeps (into_array p) items s = set_keeps s.arrays p (overwritten items (slice_index_or s.arrays p [])) (λ k. over_some items (slice_index_or s.arrays p []) k)

-- a collective's end leaves arrays
end_keeps : (s : Store) (c : Collective) → Keeps s.arrays (stored_or s (own_end s c)).arrays
end_keeps s c = by_call (called s c)
  where
    by_end : (c : Collective) (call : CollectiveCall) → Keeps s.arrays (stored_or s (unfaulted (ended s c call))).arrays
    by_end barrier call = λ q h. h
    by_end (broadcast root b) call = λ q h. h
    by_end (reduce f root e p) call = by_fold (folded f (with_at s.rank call.items s.gathered))
      where
        by_fold : (v : Valued ℤ)
            → Keeps s.arrays (stored_or s (unfaulted (v >>= (λ z. Ok (counted (record s { variables = slice_set s.variables p z })))))).arrays
        by_fold (Ok z) = λ q h. h
        by_fold (Err k) = λ q h. h

    by_part : (call : CollectiveCall) (p : Part) → Keeps s.arrays (stored_or s (ended_at s c call p)).arrays
    by_part call (gives d) = λ q h. h
    by_part call (gets d) = λ q h. h
    by_part call ends = by_end c call

    by_call : (v : Valued CollectiveCall) → Keeps s.arrays (stored_or s (ended_by s c v)).arrays
    by_call (Ok call) = by_part call (part_of s call)
    by_call (Err k) = λ q h. h

-- nor does a step of a rank's own
inner_keeps : (s : Store) (b : Block) → Keeps s.arrays (inner_store s b).arrays
inner_keeps s done = λ q h. h
inner_keeps s (plain (declare p) r) = λ q h. h
inner_keeps s (plain (declare_array p) r) = λ q h. h
inner_keeps s (plain (assign p e) r) = assigned_keeps s p (value s e)
inner_keeps s (plain (assign_item p i e) r) = item_keeps s p (item_value s p i e)
inner_keeps s (plain (send d t p) r) = λ q h. h
inner_keeps s (plain (receive c t b) r) = λ q h. h
inner_keeps s (plain (probe c t) r) = λ q h. h
inner_keeps s (plain (try_probe c t x) r) = λ q h. h
inner_keeps s (plain (print e) r) = λ q h. h
inner_keeps s (plain (collect c) r) = end_keeps s c
inner_keeps s (if_only e y r) = λ q h. h
inner_keeps s (if_else e y o r) = λ q h. h
inner_keeps s (loop e y r) = λ q h. h

-- what remains gives items, where what was there did
pub gives_on : (a b : State) → Fewer a.rest b.rest → Keeps a.store.arrays b.store.arrays → GivesItems a → GivesItems b
gives_on a b f k h p e = k p (h p (f p e))

-- an inner step
step_gives : (s : Store) (b : Block) (k : Option MachineFault) (c : State) → inner_of s b k ≡ Some c → Fewer b c.rest × Keeps s.arrays c.store.arrays
step_gives s b None c e = by_rest (inner_rest s b) refl e
  where
    by_rest : (o : Option Block) → inner_rest s b ≡ o → option_map (λ k. record { store = inner_store s b; rest = k; fault = None }) o ≡ Some c
        → Fewer b c.rest × Keeps s.arrays c.store.arrays
    by_rest None is f = absurd cc
    by_rest (Some r) is f =
        let after : State = record { store = inner_store s b; rest = r; fault = None } in
        let same : after ≡ c = cc in
        subst (λ (z : State). Fewer b z.rest × Keeps s.arrays z.store.arrays) same (inner_fewer s b r is, inner_keeps s b)
step_gives s b (Some k) c e = absurd cc

-- whose sends have items has it so behind a step of its own
inner_gives : (a b : State) → inner a ≡ Some b → GivesItems a → GivesItems b
inner_gives a b e h = let k = step_gives a.store a.rest a.fault b e in gives_on a b k.0 k.1 h

-- and behind several
pub inners_give : {a b : State} → Inners a b → GivesItems a → GivesItems b
inners_give here h = h
inners_give {a = a} (on {b = b} e r) h = inners_give r (inner_gives a b e h)
