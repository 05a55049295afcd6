-- States that agree make the same inner steps, to states that agree.
use Rattle.std.proofs.Common.{◌≡◌, ℕ, ℤ, Bool, true, false, not, ◌||◌, Ok, Err, Option, Some, None, refl, sym, ap, ◌∙◌, subst}
use Rattle.std.specs.Prelude.{◌+◌, option_map, slice_set}
use Rattle.rank_machine.specs.Acts.{with_variable}
use Rattle.rank_language.specs.Placed.{Simple, declare, declare_array, assign, assign_item, send, receive, probe, try_probe, print, Collective}
use Rattle.rank_language.specs.Placed.{barrier, broadcast, reduce, collect}
use Rattle.rank_language.specs.Block.{Block, done, plain, if_only, if_else, loop, taken}
use Rattle.rank_machine.specs.declared.fault.MachineFault.{MachineFault}
use Rattle.rank_machine.specs.Values.{Store, Valued, ◌>>=◌, value, is_zero}
use Rattle.rank_machine.specs.Collectives.{CollectiveCall, called, Part, gives, gets, ends, part_of, counted, folded, with_at, ended, unfaulted, ended_at, ended_by}
use Rattle.rank_machine.specs.Collectives.{own_end, stored_or}
use Rattle.rank_machine.specs.States.{State, Inners, here, on, item_value, assigned, item_assigned}
use Rattle.rank_machine.specs.States.{after_test, after_value, inner_rest, inner_store, inner_of, inner}
use Rattle.crash_free.specs.LiveVariables.Names.{StoredName, place, status, is_place, collective_reads, reads, writes}
use Rattle.crash_free.specs.LiveVariables.Unread.{reads_first}
use Rattle.crash_free.specs.LiveVariables.Agrees.{Same, SameWhere, Agrees}
use Rattle.crash_free.proofs.LiveVariablesLaws.Where.{fewer, left_of, variable_same}
use Rattle.crash_free.proofs.LiveVariablesLaws.Valuing.{value_same, called_same}
use Rattle.crash_free.proofs.LiveVariablesLaws.Wanting.{item_same, part_of_same, read_here, tested_here}
use Rattle.crash_free.proofs.LiveVariablesLaws.Ways.{taken_reads, behind_reads}

-- what agrees on what was read first and on what was written agrees on what is read first behind
pub behind : (x : Simple) (r : Block) (s s' : Store) → SameWhere (λ n. reads_first n (plain x r) || writes n x) s s' → SameWhere (λ n. reads_first n r) s s'
behind x r s s' h =
    fewer (λ n. reads_first n (plain x r) || writes n x) (λ n. reads_first n r) s s' (λ n e. behind_reads (reads n x) (writes n x) (reads_first n r) e) h

-- what is there is this
some_back : (r c : Block) → Some r ≡ Some c → c ≡ r
some_back r c e = cc

-- a fault leaves nothing behind
none_behind : {A : Type 0} (r c : Block) (v : Valued A) → after_value r v ≡ Some c → c ≡ r
none_behind r c (Ok x) e = cc
none_behind r c (Err k) e = absurd cc

-- a variable that gets a value has the same in both
assigned_same : (p : ℕ) (v : Valued ℤ) (r c : Block) (s s' : Store) (among : StoredName → Bool) → SameWhere among s s' → after_value r v ≡ Some c
    → SameWhere (λ n. among n || is_place p n) (assigned s p v) (assigned s' p v)
assigned_same p (Ok z) r c s s' among h e = variable_same among p z s s' h
assigned_same p (Err k) r c s s' among h e = absurd cc

-- and so has an item
item_assigned_same : (p : ℕ) (v : Valued (ℕ × ℤ)) (s s' : Store) (among : StoredName → Bool) → SameWhere among s s'
    → SameWhere among (item_assigned s p v) (item_assigned s' p v)
item_assigned_same p (Ok x) s s' among h =
    record {
      rank = h.rank;
      size = h.size;
      as_many = h.as_many;
      arrays = rw h.arrays refl;
      finished = h.finished;
      parts = h.parts;
      gathered = h.gathered;
      same = λ n e. kept n (h.same n e);
    }
  where
    kept : (n : StoredName) → Same n s s' → Same n (item_assigned s p (Ok x)) (item_assigned s' p (Ok x))
    kept (place q) k = k
    kept status k = k
item_assigned_same p (Err k) s s' among h = h

-- both end a collective with the same stored, or neither does
abbrev SameEnd : (StoredName → Bool) → Option Store → Option Store → Type 0
SameEnd among None None = Unit {0}
SameEnd among None (Some t) = ⊥
SameEnd among (Some t) None = ⊥
SameEnd among (Some t) (Some t') = SameWhere among t t'

-- a collective is counted in both
pub counted_same : (among : StoredName → Bool) (s s' : Store) → SameWhere among s s' → SameWhere among (counted s) (counted s')
counted_same among s s' h =
    record {
      rank = h.rank;
      size = h.size;
      as_many = h.as_many;
      arrays = h.arrays;
      finished = ap (λ k. k + 1) h.finished;
      parts = refl;
      gathered = refl;
      same = λ n e. kept n (h.same n e);
    }
  where
    kept : (n : StoredName) → Same n s s' → Same n (counted s) (counted s')
    kept (place q) k = k
    kept status k = k

-- a rank's own step ends both
ended_same : (c : Collective) (call : CollectiveCall) (among : StoredName → Bool) (s s' : Store) → SameWhere among s s'
    → SameEnd among (unfaulted (ended s c call)) (unfaulted (ended s' c call))
ended_same barrier call among s s' h = counted_same among s s' h
ended_same (broadcast root b) call among s s' h = counted_same among s s' h
ended_same (reduce f root e p) call among s s' h =
    subst
    (λ v. SameEnd among (unfaulted (v >>= (λ z. Ok (counted (record s { variables = slice_set s.variables p z })))))
    (unfaulted (folded f (with_at s'.rank call.items s'.gathered) >>= (λ z. Ok (counted (record s' { variables = slice_set s'.variables p z })))))) (sym same)
    (by_fold (folded f (with_at s'.rank call.items s'.gathered)))
  where
    same : folded f (with_at s.rank call.items s.gathered) ≡ folded f (with_at s'.rank call.items s'.gathered)
    same = rw (h.rank, h.gathered) refl

    by_fold : (v : Valued ℤ) → SameEnd among (unfaulted (v >>= (λ z. Ok (counted (record s { variables = slice_set s.variables p z })))))
        (unfaulted (v >>= (λ z. Ok (counted (record s' { variables = slice_set s'.variables p z })))))
    by_fold (Ok z) =
        counted_same among (with_variable p z s) (with_variable p z s') (left_of among (is_place p) (with_variable p z s) (with_variable p z s') (variable_same among p z s s' h))
    by_fold (Err k) = tt

-- whatever part stands
own_end_same : (c : Collective) (among : StoredName → Bool) (s s' : Store) → SameWhere (λ n. collective_reads n c) s s' → SameWhere among s s'
    → SameEnd among (own_end s c) (own_end s' c)
own_end_same c among s s' h k =
    subst (λ v. SameEnd among (ended_by s c v) (ended_by s' c (called s' c))) (sym (called_same c s s' h)) (by_call (called s' c))
  where
    by_part : (call : CollectiveCall) (p : Part) → SameEnd among (ended_at s c call p) (ended_at s' c call p)
    by_part call (gives d) = tt
    by_part call (gets d) = tt
    by_part call ends = ended_same c call among s s' k

    by_call : (v : Valued CollectiveCall) → SameEnd among (ended_by s c v) (ended_by s' c v)
    by_call (Ok call) =
        subst (λ p. SameEnd among (ended_at s c call p) (ended_at s' c call (part_of s' call))) (sym (part_of_same call s s' among k)) (by_part call (part_of s' call))
    by_call (Err f) = tt

-- the same statements remain after it
ends_rest : (r : Block) (among : StoredName → Bool) (o o' : Option Store) → SameEnd among o o' → option_map (λ s. r) o ≡ option_map (λ s. r) o'
ends_rest r among None None h = refl
ends_rest r among None (Some t) h = absurd h
ends_rest r among (Some t) None h = absurd h
ends_rest r among (Some t) (Some t') h = refl

-- and the same is stored
ends_store : (r c : Block) (among : StoredName → Bool) (s s' : Store) (o o' : Option Store) → SameEnd among o o' → option_map (λ s. r) o ≡ Some c
    → SameWhere among (stored_or s o) (stored_or s' o') × (c ≡ r)
ends_store r c among s s' None None h e = absurd cc
ends_store r c among s s' None (Some t) h e = absurd h
ends_store r c among s s' (Some t) None h e = absurd h
ends_store r c among s s' (Some t) (Some t') h e = (h, cc)

-- the same statements remain after an inner step
inner_rest_same : (b : Block) (s s' : Store) → SameWhere (λ n. reads_first n b) s s' → inner_rest s b ≡ inner_rest s' b
inner_rest_same done s s' h = refl
inner_rest_same (plain (declare p) r) s s' h = refl
inner_rest_same (plain (declare_array p) r) s s' h = refl
inner_rest_same (plain (assign p e) r) s s' h = rw (value_same e s s' (read_here (assign p e) r s s' h)) refl
inner_rest_same (plain (assign_item p i e) r) s s' h = rw (item_same p i e s s' (read_here (assign_item p i e) r s s' h)) refl
inner_rest_same (plain (send d t p) r) s s' h = refl
inner_rest_same (plain (receive c t b) r) s s' h = refl
inner_rest_same (plain (probe c t) r) s s' h = refl
inner_rest_same (plain (try_probe c t x) r) s s' h = refl
inner_rest_same (plain (print e) r) s s' h = refl
inner_rest_same (plain (collect c) r) s s' h =
    ends_rest r (λ n. reads_first n (plain (collect c) r)) (own_end s c) (own_end s' c)
    (own_end_same c (λ n. reads_first n (plain (collect c) r)) s s' (read_here (collect c) r s s' h) h)
inner_rest_same (if_only e y r) s s' h = rw (tested_here e _ s s' h) refl
inner_rest_same (if_else e y o r) s s' h = rw (tested_here e _ s s' h) refl
inner_rest_same (loop e y r) s s' h = rw (tested_here e _ s s' h) refl

-- a test leaves what is stored
tested_same : (b c : Block) (v : Valued ℤ) (s s' : Store) → SameWhere (λ n. reads_first n b) s s' → after_test b v ≡ Some c → SameWhere (λ n. reads_first n c) s s'
tested_same b c (Ok z) s s' h e =
    let same : taken (not (is_zero z)) b ≡ c = cc in
    subst (λ k. SameWhere (λ n. reads_first n k) s s') same
    (fewer (λ n. reads_first n b) (λ n. reads_first n (taken (not (is_zero z)) b)) s s' (λ n f. taken_reads n (not (is_zero z)) b f) h)
tested_same b c (Err k) s s' h e = absurd cc

-- a statement that writes nothing leaves what is stored
pub unwritten : (x : Simple) (r c : Block) (s s' t t' : Store) → ((n : StoredName) → writes n x ≡ false) → c ≡ r
    → SameWhere (λ n. reads_first n (plain x r)) t t' → SameWhere (λ n. reads_first n c) t t'
unwritten x r c s s' t t' none is h =
    subst (λ k. SameWhere (λ n. reads_first n k) t t') (sym is)
    (behind x r t t'
    (fewer (λ n. reads_first n (plain x r)) (λ n. reads_first n (plain x r) || writes n x) t t' (λ n e. only n e) h))
  where
    by : (b w : Bool) → w ≡ false → (b || w) ≡ true → b ≡ true
    by true w f e = refl
    by false true f e = absurd cc
    by false false f e = e

    only : (n : StoredName) → (reads_first n (plain x r) || writes n x) ≡ true → reads_first n (plain x r) ≡ true
    only n e = by (reads_first n (plain x r)) (writes n x) (none n) e

-- what is stored after an inner step agrees on what remains
inner_store_same : (b c : Block) (s s' : Store) → SameWhere (λ n. reads_first n b) s s' → inner_rest s b ≡ Some c
    → SameWhere (λ n. reads_first n c) (inner_store s b) (inner_store s' b)
inner_store_same done c s s' h e = absurd cc
inner_store_same (plain (declare p) r) c s s' h e = unwritten (declare p) r c s s' s s' (λ n. refl) (some_back r c e) h
inner_store_same (plain (declare_array p) r) c s s' h e = unwritten (declare_array p) r c s s' s s' (λ n. refl) (some_back r c e) h
inner_store_same (plain (assign p e) r) c s s' h f =
    let same = value_same e s s' (read_here (assign p e) r s s' h) in
    subst (λ k. SameWhere (λ n. reads_first n k) (assigned s p (value s e)) (assigned s' p (value s' e))) (sym (none_behind r c (value s e) f))
    (subst (λ v. SameWhere (λ n. reads_first n r) (assigned s p (value s e)) (assigned s' p v)) same
    (behind (assign p e) r (assigned s p (value s e)) (assigned s' p (value s e))
    (assigned_same p (value s e) r c s s' (λ n. reads_first n (plain (assign p e) r)) h f)))
inner_store_same (plain (assign_item p i e) r) c s s' h f =
    let same = item_same p i e s s' (read_here (assign_item p i e) r s s' h) in
    let v = item_value s p i e in
    unwritten (assign_item p i e) r c s s' (item_assigned s p v) (item_assigned s' p (item_value s' p i e)) (λ n. refl) (none_behind r c v f)
    (subst (λ u. SameWhere (λ n. reads_first n (plain (assign_item p i e) r)) (item_assigned s p v) (item_assigned s' p u)) same
    (item_assigned_same p v s s' (λ n. reads_first n (plain (assign_item p i e) r)) h))
inner_store_same (plain (send d t p) r) c s s' h e = absurd cc
inner_store_same (plain (receive d t b) r) c s s' h e = absurd cc
inner_store_same (plain (probe d t) r) c s s' h e = absurd cc
inner_store_same (plain (try_probe d t x) r) c s s' h e = absurd cc
inner_store_same (plain (print e) r) c s s' h f = absurd cc
inner_store_same (plain (collect x) r) c s s' h f =
    let among : StoredName → Bool = λ n. reads_first n (plain (collect x) r) in
    let k = ends_store r c among s s' (own_end s x) (own_end s' x) (own_end_same x among s s' (read_here (collect x) r s s' h) h) f in
    unwritten (collect x) r c s s' (stored_or s (own_end s x)) (stored_or s' (own_end s' x)) (λ n. refl) k.1 k.0
inner_store_same (if_only e y r) c s s' h f = tested_same (if_only e y r) c (value s e) s s' h f
inner_store_same (if_else e y o r) c s s' h f = tested_same (if_else e y o r) c (value s e) s s' h f
inner_store_same (loop e y r) c s s' h f = tested_same (loop e y r) c (value s e) s s' h f

-- a rank that agrees makes an inner step too, to a state that agrees
step_of : (s s' : Store) (b : Block) (k : Option MachineFault) (c : State) → SameWhere (λ n. reads_first n b) s s' → inner_of s b k ≡ Some c
    → (c' : State) × (inner_of s' b k ≡ Some c') × Agrees c c'
step_of s s' b None c h e = by_rest (inner_rest s b) refl e
  where
    by_rest : (o : Option Block) → inner_rest s b ≡ o → option_map (λ k. record { store = inner_store s b; rest = k; fault = None }) o ≡ Some c
        → (c' : State) × (inner_of s' b None ≡ Some c') × Agrees c c'
    by_rest None is f = absurd cc
    by_rest (Some r) is f =
        let after : State = record { store = inner_store s b; rest = r; fault = None } in
        let after' : State = record { store = inner_store s' b; rest = r; fault = None } in
        let same : after ≡ c = cc in (
          after',
          ap (option_map (λ k. record { store = inner_store s' b; rest = k; fault = None })) (sym (inner_rest_same b s s' h) ∙ is),
          subst (λ z. Agrees z after') same (record { rest = refl; fault = refl; stored = inner_store_same b r s s' h is }),
        )
step_of s s' b (Some k) c h e = absurd cc

-- states that agree make the same step of their own, and agree behind it
pub inner_same : (a b c : State) → Agrees a b → inner a ≡ Some c → (c' : State) × (inner b ≡ Some c') × Agrees c c'
inner_same a b c h e =
    subst (λ (k : Block × Option MachineFault). (c' : State) × (inner_of b.store k.0 k.1 ≡ Some c') × Agrees c c')
    (let q : (a.rest, a.fault) ≡ (b.rest, b.fault) = rw (h.rest, h.fault) refl in q) (step_of a.store b.store a.rest a.fault c h.stored e)

-- so do some inner steps
pub inners_same : {a c : State} (b : State) → Agrees a b → Inners a c → (c' : State) × Inners b c' × Agrees c c'
inners_same b h here = (b, here, h)
inners_same {a = a} b h (on {b = mid} e r) =
    let k = inner_same a b mid h e in
    let more = inners_same k.0 k.2 r in
    (more.0, on k.1 more.1, more.2)
