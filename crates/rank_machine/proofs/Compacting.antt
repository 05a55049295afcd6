-- A compact form spells a line that leads where its statement's line does, and stores the same: so a step that is made by it is
-- the machine's own.
use Rattle.std.proofs.Common.{◌≡◌, ◌≢◌, ℕ, ◌+◌, ◌<◌, ◌≤◌, Bool, true, false, ℤ, length, map, Ok, Err, Option, Some, None, option_map, IfSome, IsNone, slice_get, if◌then◌else◌}
use Rattle.std.proofs.Common.{refl, sym, ap, subst, ◌∙◌}
use Rattle.rank_language.specs.Placed.{Placed, declare, declare_array, assign, assign_item, send, receive, probe, try_probe, print, collect}
use Rattle.rank_language.specs.Block.{Line, simple_line, if_line, else_line, end_line, while_line, back_line, Leads, remaining, next_position, size}
use Rattle.rank_language.specs.Program.{ProgramValue, IsPlaced, block_of}
use Rattle.rank_language.specs.declared.compact.Compact.{Compact}
use Rattle.rank_language.specs.Compact.{compact_line, own_line}
use Rattle.rank_machine.specs.declared.want.Want.TheVariants as want
use Rattle.rank_machine.specs.Values.{Store, Valued, ◌>>=◌, value}
use Rattle.rank_machine.specs.Collectives.{own_end, stored_or}
use Rattle.rank_machine.specs.States.{assigned, item_value, item_assigned}
use Rattle.rank_machine.specs.Spelled.{test_expression}
use Rattle.rank_machine.specs.Wants.{or_fault, want_of}
use Rattle.rank_machine.specs.Machine.{MachineValue, standing, line_at, line_want, machine_want, machine_want_at, where_valued, is_true}
use Rattle.rank_machine.specs.Machine.{own_next, next_after, line_store, store_after, IsMachine, IsMade}
use Rattle.rank_machine.proofs.Lines.{sends_only, receives_only, probes_only, tries_only, prints_only, line_wants, collective_ends, ending_stored}
use Rattle.rank_machine.proofs.Going.{own_goes}
use Rattle.rank_machine.proofs.Striding.{own_machine}

-- a test leads where an `if` would
test_leads : (e : Placed) (q n : ℕ) (truth : Bool) → next_position (if_line e q) n truth ≡ next_position (while_line e q) n truth
test_leads e q n true = refl
test_leads e q n false = refl

-- each line leads where the one that is spelled for it does
own_leads : (s : Store) (l : Line) (n : ℕ) → own_next s (own_line l) n ≡ own_next s l n
own_leads s (simple_line (declare p)) n = refl
own_leads s (simple_line (declare_array p)) n = refl
own_leads s (simple_line (assign p e)) n = refl
own_leads s (simple_line (assign_item p i e)) n = refl
own_leads s (simple_line (send d t p)) n = refl
own_leads s (simple_line (receive c t b)) n = refl
own_leads s (simple_line (probe c t)) n = refl
own_leads s (simple_line (try_probe c t x)) n = refl
own_leads s (simple_line (print e)) n = refl
own_leads s (simple_line (collect c)) n = refl
own_leads s (if_line e q) n = refl
own_leads s (else_line q) n = refl
own_leads s end_line n = refl
own_leads s (while_line e q) n = ap (where_valued (value s e)) (test_leads e q n (is_true (value s e)))
own_leads s (back_line q) n = refl

-- and stores the same
own_stores : (s : Store) (l : Line) → line_store s (own_line l) ≡ line_store s l
own_stores s (simple_line (declare p)) = refl
own_stores s (simple_line (declare_array p)) = refl
own_stores s (simple_line (assign p e)) = refl
own_stores s (simple_line (assign_item p i e)) = refl
own_stores s (simple_line (send d t p)) = refl
own_stores s (simple_line (receive c t b)) = refl
own_stores s (simple_line (probe c t)) = refl
own_stores s (simple_line (try_probe c t x)) = refl
own_stores s (simple_line (print e)) = refl
own_stores s (simple_line (collect c)) = refl
own_stores s (if_line e q) = refl
own_stores s (else_line q) = refl
own_stores s end_line = refl
own_stores s (while_line e q) = refl
own_stores s (back_line q) = refl

-- and has no other places
own_placed : (v a : ℕ) (l : Line) → IsPlaced v a l → IsPlaced v a (own_line l)
own_placed v a (simple_line (declare p)) h = tt
own_placed v a (simple_line (declare_array p)) h = tt
own_placed v a (simple_line (assign p e)) h = h
own_placed v a (simple_line (assign_item p i e)) h = h
own_placed v a (simple_line (send d t p)) h = h
own_placed v a (simple_line (receive c t b)) h = h
own_placed v a (simple_line (probe c t)) h = h
own_placed v a (simple_line (try_probe c t x)) h = h
own_placed v a (simple_line (print e)) h = h
own_placed v a (simple_line (collect c)) h = h
own_placed v a (if_line e q) h = h
own_placed v a (else_line q) h = tt
own_placed v a end_line h = tt
own_placed v a (while_line e q) h = h
own_placed v a (back_line q) h = tt

-- so the places of a compact form are in the tables
pub compact_placed : (v a : ℕ) (x o : Option Line) → IfSome x (λ m. option_map own_line o ≡ Some m) → ((l : Line) → o ≡ Some l → IsPlaced v a l)
    → IfSome x (IsPlaced v a)
compact_placed v a None o h p = tt
compact_placed v a (Some m) None h p = absurd cc
compact_placed v a (Some m) (Some l) h p =
    let e : own_line l ≡ m = cc in
    subst (IsPlaced v a) e (own_placed v a l (p l refl))

-- the form is a test, and this position follows where it doesn't hold
abbrev pub IsTest : ℕ → Compact → Type 0
IsTest q c = compact_line c ≡ Some (if_line (test_expression (compact_line c)) q)

-- of two positions a test's truth takes the one that its line says
chosen : (e : Placed) (q n : ℕ) (truth : Bool) → (if truth then n + 1 else q) ≡ next_position (if_line e q) n truth
chosen e q n true = refl
chosen e q n false = refl

-- so it leads where its line does
pub test_led : (s : Store) (c : Compact) (q n : ℕ) → IsTest q c
    → where_valued (value s (test_expression (compact_line c))) (if is_true (value s (test_expression (compact_line c))) then n + 1 else q)
    ≡ next_after s (compact_line c) n
test_led s c q n h =
    let e = test_expression (compact_line c) in
    ap (where_valued (value s e)) (chosen e q n (is_true (value s e))) ∙ ap (λ o. next_after s o n) (sym h)

-- a value that faults is stored nowhere
assigned_nowhere : (s : Store) (p n : ℕ) (v : Valued ℤ) → where_valued v n ≡ None → assigned s p v ≡ s
assigned_nowhere s p n (Ok z) e = absurd cc
assigned_nowhere s p n (Err k) e = refl

-- nor an item
item_nowhere : (s : Store) (p n : ℕ) (v : Valued (ℕ × ℤ)) → where_valued v n ≡ None → item_assigned s p v ≡ s
item_nowhere s p n (Ok x) e = absurd cc
item_nowhere s p n (Err k) e = refl

-- nor the end of a collective that doesn't end
ended_nowhere : (s : Store) (n : ℕ) (o : Option Store) → option_map (λ s'. n) o ≡ None → stored_or s o ≡ s
ended_nowhere s n (Some x) e = absurd cc
ended_nowhere s n None e = refl

-- a line that leads nowhere stores nothing
unled : (s : Store) (l : Line) (n : ℕ) → own_next s l n ≡ None → line_store s l ≡ s
unled s (simple_line (declare p)) n e = refl
unled s (simple_line (declare_array p)) n e = refl
unled s (simple_line (assign p x)) n e = assigned_nowhere s p (n + 1) (value s x) e
unled s (simple_line (assign_item p i x)) n e = item_nowhere s p (n + 1) (item_value s p i x) e
unled s (simple_line (send d t p)) n e = refl
unled s (simple_line (receive c t b)) n e = refl
unled s (simple_line (probe c t)) n e = refl
unled s (simple_line (try_probe c t x)) n e = refl
unled s (simple_line (print x)) n e = refl
unled s (simple_line (collect c)) n e = ended_nowhere s (n + 1) (own_end s c) e
unled s (if_line x q) n e = refl
unled s (else_line q) n e = refl
unled s end_line n e = refl
unled s (while_line x q) n e = refl
unled s (back_line q) n e = refl

-- so it is where there may be no line
pub unled_after : (s : Store) (o : Option Line) (n : ℕ) → next_after s o n ≡ None → store_after s o ≡ s
unled_after s None n e = refl
unled_after s (Some l) n e = unled s l n e

-- a line that is a step of its own is one that the machine makes
pub line_made : (m : MachineValue) (l : Line) (q : ℕ) (s : Store) → IsMachine m → m.fault ≡ None → line_at m ≡ Some l
    → Leads (remaining (block_of m.program)) m.position l → ((t : Bool) → next_position l m.position t ≤ size (block_of m.program))
    → own_next m.store l m.position ≡ Some q → s ≡ line_store m.store l
    → length s.variables ≡ length m.store.variables → length s.arrays ≡ length m.store.arrays → map length s.arrays ≡ map length m.store.arrays
    → s.rank < s.size → IsMade m (record m { position = q; store = s })
line_made m l q s h fault there leads within own stored variables arrays lengths rank =
    let g = own_goes m (record m { position = q; store = s }) l q there leads fault h.stage own (rw stored refl) in
    record {
      wanted = g.0;
      goes = g.1;
      machine = own_machine m l q s h there own within stored variables arrays lengths rank;
    }

-- and so is the one that a compact form spells
pub compact_made : (m : MachineValue) (x o : Option Line) (q : ℕ) (s : Store) → IsMachine m → m.fault ≡ None → line_at m ≡ o
    → IfSome x (λ y. option_map own_line o ≡ Some y) → ((l : Line) → o ≡ Some l → Leads (remaining (block_of m.program)) m.position l)
    → ((l : Line) → o ≡ Some l → (t : Bool) → next_position l m.position t ≤ size (block_of m.program))
    → next_after m.store x m.position ≡ Some q → s ≡ store_after m.store x
    → length s.variables ≡ length m.store.variables → length s.arrays ≡ length m.store.arrays → map length s.arrays ≡ map length m.store.arrays
    → s.rank < s.size → IsMade m (record m { position = q; store = s })
compact_made m None o q s h fault there spells leads within next stored variables arrays lengths rank = absurd cc
compact_made m (Some y) None q s h fault there spells leads within next stored variables arrays lengths rank = absurd cc
compact_made m (Some y) (Some l) q s h fault there spells leads within next stored variables arrays lengths rank =
    let e : own_line l ≡ y = cc in
    let own : own_next m.store l m.position ≡ Some q = sym (own_leads m.store l m.position) ∙ ap (λ z. own_next m.store z m.position) e ∙ next in
    let kept : s ≡ line_store m.store l = stored ∙ ap (line_store m.store) (sym e) ∙ own_stores m.store l in
    line_made m l q s h fault there (leads l refl) (within l refl) own kept variables arrays lengths rank

-- the same of whatever a line that was looked up leads to
pub statement_made : (m : MachineValue) (l : Line) (o : Option ℕ) (s : Store) → IsMachine m → m.fault ≡ None → line_at m ≡ Some l
    → Leads (remaining (block_of m.program)) m.position l → ((t : Bool) → next_position l m.position t ≤ size (block_of m.program))
    → o ≡ own_next m.store l m.position → s ≡ line_store m.store l
    → length s.variables ≡ length m.store.variables → length s.arrays ≡ length m.store.arrays → map length s.arrays ≡ map length m.store.arrays
    → s.rank < s.size → IfSome o (λ q. IsMade m (record m { position = q; store = s }))
statement_made m l None s h fault there leads within next stored variables arrays lengths rank = tt
statement_made m l (Some q) s h fault there leads within next stored variables arrays lengths rank =
    line_made m l q s h fault there leads within (sym next) stored variables arrays lengths rank

-- where it leads nowhere nothing changes
pub statement_stays : (s s' : Store) (l : Line) (n : ℕ) (o : Option ℕ) → o ≡ own_next s l n → s' ≡ line_store s l → IsNone o → s' ≡ s
statement_stays s s' l n None next stored none = stored ∙ unled s l n (sym next)
statement_stays s s' l n (Some q) next stored none = absurd (let e : true ≡ false = none in cc)

-- a value that faults isn't wanted
valued_unwanted : {A : Type 0} (v : Valued A) (n : ℕ) → where_valued v n ≡ None → or_fault (v >>= (λ z. Ok want.Internal)) ≡ want.Internal → ⊥
valued_unwanted (Ok x) n e i = cc
valued_unwanted (Err k) n e i = cc

-- a line that leads nowhere asks for something else than a step of the rank's own
unwanted : (s : Store) (l : Line) (n : ℕ) → own_next s l n ≡ None → or_fault (line_want s l) ≡ want.Internal → ⊥
unwanted s (simple_line (declare p)) n e i = cc
unwanted s (simple_line (declare_array p)) n e i = cc
unwanted s (simple_line (assign p x)) n e i = valued_unwanted (value s x) (n + 1) e i
unwanted s (simple_line (assign_item p j x)) n e i = valued_unwanted (item_value s p j x) (n + 1) e i
unwanted s (simple_line (send d t m)) n e i = sends_only (λ w. w ≡ want.Internal) s d t m (λ k e. cc) (λ dest tag e. cc) i
unwanted s (simple_line (receive c t b)) n e i = receives_only (λ w. w ≡ want.Internal) s c t (λ k e. cc) (λ w e. cc) i
unwanted s (simple_line (probe c t)) n e i = probes_only (λ w. w ≡ want.Internal) s c t (λ k e. cc) (λ w e. cc) i
unwanted s (simple_line (try_probe c t x)) n e i = tries_only (λ w. w ≡ want.Internal) s c t (λ k e. cc) (λ w e. cc) i
unwanted s (simple_line (print x)) n e i = prints_only (λ w. w ≡ want.Internal) s x (λ k e. cc) (λ z e. cc) i
unwanted s (simple_line (collect c)) n e i =
    let q = ending_stored s c (collective_ends s c i) in
    let f : None ≡ Some (n + 1) = sym e ∙ ap (option_map (λ s'. n + 1)) q in
    cc
unwanted s (if_line x q) n e i = valued_unwanted (value s x) _ e i
unwanted s (else_line q) n e i = cc
unwanted s end_line n e i = cc
unwanted s (while_line x q) n e i = valued_unwanted (value s x) _ e i
unwanted s (back_line q) n e i = cc

-- and so does a machine there
pub statement_stands : (p : ProgramValue) (n : ℕ) (s : Store) (l : Line) (o : Option ℕ) → slice_get p.statements n ≡ Some l
    → Leads (remaining (block_of p)) n l → o ≡ own_next s l n → IsNone o → machine_want (standing p n s) ≢ want.Internal
statement_stands p n s l (Some q) there leads next none = absurd (let e : true ≡ false = none in cc)
statement_stands p n s l None there leads next none = λ i.
    (let asked : or_fault (line_want s l) ≡ want.Internal =
    sym (line_wants (remaining (block_of p)) n l s leads)
    ∙ ap (λ x. machine_want_at x None (want_of s (remaining (block_of p) n) None)) (sym there)
    ∙ i in
    unwanted s l n (sym next) asked)

-- a machine's tables are its program's
pub machine_placed : (m : MachineValue) (l : Line) → IsMachine m → IsPlaced (length m.program.variables) (length m.program.arrays) l
    → IsPlaced (length m.store.variables) (length m.store.arrays) l
machine_placed m l h i =
    subst (λ v. IsPlaced v (length m.store.arrays) l) (sym h.limits.variables)
    (subst (λ a. IsPlaced (length m.program.variables) a l) (sym h.limits.arrays) i)
