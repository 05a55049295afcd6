-- A step of a rank, of its own or by an act, leaves the statements that remain as they are, or leads
-- behind the first of them, or by its test; and it leaves rank and size.
use Rattle.std.proofs.Common.{◌≡◌, ℕ, ℤ, Bool, true, false, not, List, [], ◌∷◌, length, Ok, Err, Option, Some, None, option_map, refl, sym, ap, subst, ◌∙◌}
use Rattle.std.proofs.Common.{◌⊎◌, inl, inr, if◌then◌else◌}
use Rattle.std.specs.Prelude.{nat_le}
use Rattle.rank_language.specs.Placed.{Placed, Buffer, Collective, barrier, broadcast, reduce, Simple, declare, declare_array, assign}
use Rattle.rank_language.specs.Placed.{assign_item, send, receive, probe, try_probe, print, collect}
use Rattle.rank_language.specs.Block.{Block, done, plain, if_only, if_else, loop, tested, taken, simple_line}
use Rattle.rank_machine.specs.declared.fault.MachineFault.{MachineFault}
use Rattle.rank_machine.specs.declared.fault.MachineFault.TheVariants.{TooLong}
use Rattle.rank_machine.specs.Values.{Store, Valued, value, is_zero}
use Rattle.rank_machine.specs.Collectives.{CollectiveCall, called, is_last, part_done, own_end}
use Rattle.rank_machine.specs.States.{State, Inners, here, on, item_value, after_test, after_value, inner_rest, inner_store, inner_of, inner}
use Rattle.rank_machine.specs.Acts.{Message, Act, sends, takes, hits, misses, prints, room, written, with_status}
use Rattle.rank_machine.specs.Acts.{goes_on, received, kept, part_made, part_sent, part_taken, items_taken, collected, after_collect, after_first, unless_faulted, next, Runs}
use Rattle.rank_machine.proofs.Going.{line_keeps}
use Rattle.rank_machine.proofs.Lines.{same_store}
use Rattle.crash_free.proofs.OtherSteps.{written_keeps}

-- these statements may remain after a step where those did before
abbrev pub Behind : Block → Block → Type 0
Behind b c = (c ≡ b) ⊎ (((x : Simple) × (b ≡ plain x c)) ⊎ ((truth : Bool) × (e : Placed) × (tested b ≡ Some e) × (c ≡ taken truth b)))

-- a store has rank and size of another
record RankStays (s s' : Store) : Type 0 where
  rank : s'.rank ≡ s.rank
  size : s'.size ≡ s.size

-- what is known of a state after a step
pub record Follows (a b : State) : Type 0 where
  pub rest : Behind a.rest b.rest
  pub rank : b.store.rank ≡ a.store.rank
  pub size : b.store.size ≡ a.store.size

-- Inner steps

-- behind the first statement
first : (x : Simple) (r c : Block) → r ≡ c → Behind (plain x r) c
first x r c same = inr (inl (x, ap (plain x) same))

-- a value that doesn't fault leads behind its statement
valued : {A : Type 0} (r c : Block) (v : Valued A) → after_value r v ≡ Some c → r ≡ c
valued r c (Ok x) e = cc
valued r c (Err k) e = absurd cc

-- a test leads by its truth
tests : (b c : Block) (x : Placed) (v : Valued ℤ) → tested b ≡ Some x → after_test b v ≡ Some c → Behind b c
tests b c x (Ok z) is e = let same : taken (not (is_zero z)) b ≡ c = cc in inr (inr (not (is_zero z), x, is, sym same))
tests b c x (Err k) is e = absurd cc

-- a collective leads behind itself
ended : (r c : Block) (o : Option Store) → option_map (λ s'. r) o ≡ Some c → r ≡ c
ended r c None e = absurd cc
ended r c (Some s') e = cc

-- by each first statement
rest_behind : (s : Store) (b c : Block) → inner_rest s b ≡ Some c → Behind b c
rest_behind s done c e = absurd cc
rest_behind s (plain (declare p) r) c e = first (declare p) r c (cc)
rest_behind s (plain (declare_array p) r) c e = first (declare_array p) r c (cc)
rest_behind s (plain (assign p v) r) c e = first (assign p v) r c (valued r c (value s v) e)
rest_behind s (plain (assign_item p i v) r) c e = first (assign_item p i v) r c (valued r c (item_value s p i v) e)
rest_behind s (plain (send d t p) r) c e = absurd cc
rest_behind s (plain (receive d t b) r) c e = absurd cc
rest_behind s (plain (probe d t) r) c e = absurd cc
rest_behind s (plain (try_probe d t x) r) c e = absurd cc
rest_behind s (plain (print v) r) c e = absurd cc
rest_behind s (plain (collect x) r) c e = first (collect x) r c (ended r c (own_end s x) e)
rest_behind s (if_only v y r) c e = tests (if_only v y r) c v (value s v) refl e
rest_behind s (if_else v y o r) c e = tests (if_else v y o r) c v (value s v) refl e
rest_behind s (loop v y r) c e = tests (loop v y r) c v (value s v) refl e

-- what is stored
stored : (s : Store) (b : Block) → RankStays s (inner_store s b)
stored s done = record { rank = refl; size = refl }
stored s (plain x r) =
    let k = line_keeps s (Some (simple_line x)) in
    subst (λ s'. RankStays s s') (sym (same_store s x r)) (record { rank = k.rank; size = k.size })
stored s (if_only v y r) = record { rank = refl; size = refl }
stored s (if_else v y o r) = record { rank = refl; size = refl }
stored s (loop v y r) = record { rank = refl; size = refl }

-- an inner step of a state with these parts leads to what follows it
step_follows : (a : State) (s : Store) (b : Block) (k : Option MachineFault) (c : State) → a.store ≡ s → a.rest ≡ b → inner_of s b k ≡ Some c → Follows a c
step_follows a s b None c at is e = by_rest (inner_rest s b) refl e
  where
    by_rest : (o : Option Block) → inner_rest s b ≡ o → option_map (λ r. record { store = inner_store s b; rest = r; fault = None }) o ≡ Some c
        → Follows a c
    by_rest None goes f = absurd cc
    by_rest (Some r) goes f =
        let after : State = record { store = inner_store s b; rest = r; fault = None } in
        let same : after ≡ c = cc in
        let left = stored s b in
        subst (λ (z : State). Follows a z) same
        (record {
          rest = subst (λ z. Behind z r) (sym is) (rest_behind s b r goes);
          rank = subst (λ z. (inner_store s b).rank ≡ z.rank) (sym at) left.rank;
          size = subst (λ z. (inner_store s b).size ≡ z.size) (sym at) left.size;
        })
step_follows a s b (Some k) c at is e = absurd cc

-- so does each inner step
pub inner_follows : (a b : State) → inner a ≡ Some b → Follows a b
inner_follows a b e = step_follows a a.store a.rest a.fault b refl refl e

-- Acts

-- nothing changes
still : (a : State) → Follows a a
still a = record { rest = inl refl; rank = refl; size = refl }

-- the statements behind the first remain
behind : (a : State) (x : Simple) (r : Block) (s : Store) → a.rest ≡ plain x r → s.rank ≡ a.store.rank → s.size ≡ a.store.size → Follows a (goes_on s r)
behind a x r s is rank size = record { rest = inr (inl (x, is)); rank = rank; size = size }

-- a message that is received, or is too long
received_follows : (x : Simple) (b : Buffer) (r : Block) (a : State) (source : ℕ) (m : Message) → a.rest ≡ plain x r
    → Follows a (received a b r source m)
received_follows x b r a source m is = by_test (nat_le (length m.items) (room a.store b))
  where
    by_test : (fits : Bool) → Follows a (if fits then goes_on (with_status source m (written b m.items a.store)) r else record a { fault = Some TooLong })
    by_test true =
        let k = written_keeps b m.items a.store in
        behind a x r (with_status source m (written b m.items a.store)) is k.rank k.size
    by_test false = record { rest = inl refl; rank = refl; size = refl }

-- what is stored after a part
part_leaves : (s : Store) (call : CollectiveCall) → RankStays s (part_done s call)
part_leaves s call = by_last (is_last s call) refl
  where
    by_last : (last : Bool) → is_last s call ≡ last → RankStays s (part_done s call)
    by_last true e = record { rank = rw e refl; size = rw e refl }
    by_last false e = record { rank = rw e refl; size = rw e refl }

-- after a part of a collective
part_follows : (a : State) (s : Store) (x : Simple) (r : Block) (call : CollectiveCall) → a.rest ≡ plain x r → RankStays a.store s → Follows a (part_made a s r call)
part_follows a s x r call is left =
    let k = part_leaves s call in
    record {
      rest = by_last (is_last a.store call);
      rank = subst (λ z. (part_done s call).rank ≡ z) left.rank k.rank;
      size = subst (λ z. (part_done s call).size ≡ z) left.size k.size;
    }
  where
    by_last : (last : Bool) → Behind a.rest (if last then r else a.rest)
    by_last true = inr (inl (x, is))
    by_last false = inl refl

-- that sends
sent_follows : (a : State) (x : Simple) (r : Block) (call : Valued CollectiveCall) → a.rest ≡ plain x r → Follows a (part_sent a r call)
sent_follows a x r (Ok call) is = part_follows a a.store x r call is (record { rank = refl; size = refl })
sent_follows a x r (Err k) is = still a

-- what a collective does with items
kept_leaves : (c : Collective) (items : List ℤ) (s : Store) → RankStays s (kept c items s)
kept_leaves barrier items s = record { rank = refl; size = refl }
kept_leaves (broadcast e b) items s = let k = written_keeps b items s in record { rank = k.rank; size = k.size }
kept_leaves (reduce f e v p) items s = record { rank = refl; size = refl }

-- or that takes these items
taken_follows : (a : State) (c : Collective) (x : Simple) (r : Block) (call : CollectiveCall) (items : Valued (List ℤ)) → a.rest ≡ plain x r
    → Follows a (part_taken a c r call items)
taken_follows a c x r call (Ok items) is = part_follows a (kept c items a.store) x r call is (kept_leaves c items a.store)
taken_follows a c x r call (Err k) is = record { rest = inl refl; rank = refl; size = refl }

-- of this packet
collected_follows : (a : State) (c : Collective) (x : Simple) (r : Block) (m : Message) (call : Valued CollectiveCall) → a.rest ≡ plain x r
    → Follows a (collected a c r m call)
collected_follows a c x r m (Ok call) is = taken_follows a c x r call (items_taken a.store c call m.items) is
collected_follows a c x r m (Err k) is = still a

-- so after each act of a collective
collect_follows : (c : Collective) (r : Block) (a : State) (act : Act) (m : Option Message) → a.rest ≡ plain (collect c) r
    → Follows a (after_collect a c r act m)
collect_follows c r a (sends dest context tag items) m is = sent_follows a (collect c) r (called a.store c) is
collect_follows c r a (takes source j) (Some m) is = collected_follows a c (collect c) r m (called a.store c) is
collect_follows c r a (takes source j) None is = still a
collect_follows c r a (hits source j) m is = still a
collect_follows c r a misses m is = still a
collect_follows c r a (prints v) m is = still a

-- by each first statement
first_follows : (b : Block) (a : State) (act : Act) (m : Option Message) → a.rest ≡ b → Follows a (after_first a b act m)
first_follows done a act m is = still a
first_follows (plain (declare p) r) a act m is = still a
first_follows (plain (declare_array p) r) a act m is = still a
first_follows (plain (assign p e) r) a act m is = still a
first_follows (plain (assign_item p i e) r) a act m is = still a
first_follows (plain (send d t p) r) a (sends dest context tag items) m is = behind a (send d t p) r a.store is refl refl
first_follows (plain (send d t p) r) a (takes source j) m is = still a
first_follows (plain (send d t p) r) a (hits source j) m is = still a
first_follows (plain (send d t p) r) a misses m is = still a
first_follows (plain (send d t p) r) a (prints v) m is = still a
first_follows (plain (receive c t b) r) a (takes source j) (Some m) is = received_follows (receive c t b) b r a source m is
first_follows (plain (receive c t b) r) a (takes source j) None is = still a
first_follows (plain (receive c t b) r) a (sends dest context tag items) m is = still a
first_follows (plain (receive c t b) r) a (hits source j) m is = still a
first_follows (plain (receive c t b) r) a misses m is = still a
first_follows (plain (receive c t b) r) a (prints v) m is = still a
first_follows (plain (probe c t) r) a (hits source j) (Some m) is = behind a (probe c t) r (with_status source m a.store) is refl refl
first_follows (plain (probe c t) r) a (hits source j) None is = still a
first_follows (plain (probe c t) r) a (sends dest context tag items) m is = still a
first_follows (plain (probe c t) r) a (takes source j) m is = still a
first_follows (plain (probe c t) r) a misses m is = still a
first_follows (plain (probe c t) r) a (prints v) m is = still a
first_follows (plain (try_probe c t x) r) a (hits source j) (Some m) is = record { rest = inr (inl (try_probe c t x, is)); rank = refl; size = refl }
first_follows (plain (try_probe c t x) r) a (hits source j) None is = still a
first_follows (plain (try_probe c t x) r) a (sends dest context tag items) m is = still a
first_follows (plain (try_probe c t x) r) a (takes source j) m is = still a
first_follows (plain (try_probe c t x) r) a misses m is = record { rest = inr (inl (try_probe c t x, is)); rank = refl; size = refl }
first_follows (plain (try_probe c t x) r) a (prints v) m is = still a
first_follows (plain (print e) r) a (prints v) m is = behind a (print e) r a.store is refl refl
first_follows (plain (print e) r) a (sends dest context tag items) m is = still a
first_follows (plain (print e) r) a (takes source j) m is = still a
first_follows (plain (print e) r) a (hits source j) m is = still a
first_follows (plain (print e) r) a misses m is = still a
first_follows (plain (collect c) r) a act m is = collect_follows c r a act m is
first_follows (if_only e y r) a act m is = still a
first_follows (if_else e y o r) a act m is = still a
first_follows (loop e y r) a act m is = still a

-- what an act leads to follows, and a rank that has faulted stays
unless_follows : (fault : Option MachineFault) (a : State) (act : Act) (m : Option Message) → Follows a (unless_faulted fault a act m)
unless_follows None a act m = first_follows a.rest a act m refl
unless_follows (Some k) a act m = still a

-- so each act leads to what follows it
pub next_follows : (a : State) (act : Act) (m : Option Message) → Follows a (next a act m)
next_follows a act m = unless_follows a.fault a act m

-- Rank and size stay

-- the second state has rank and size of the first
abbrev pub Keeps : State → State → Type 0
Keeps a b = (b.store.rank ≡ a.store.rank) × (b.store.size ≡ a.store.size)

-- they stay in silent steps
pub inners_keep : {a b : State} → Inners a b → Keeps a b
inners_keep here = (refl, refl)
inners_keep {a = a} (on {b = b} e r) =
    let one = inner_follows a b e in
    let more = inners_keep r in
    (more.0 ∙ one.rank, more.1 ∙ one.size)

-- and in a run
pub runs_keep : (a : State) (made : List (Act × Option Message)) (b : State) → Runs a made b → Keeps a b
runs_keep a [] b is = (ap (λ z. z.store.rank) is, ap (λ z. z.store.size) is)
runs_keep a (x ∷ xs) b (c, (mid, steps, makes, after), more) =
    let first = inners_keep steps in
    let one = next_follows mid x.0 x.1 in
    let rest = runs_keep c xs b more in (
      rest.0 ∙ ap (λ z. z.store.rank) after ∙ one.rank ∙ first.0,
      rest.1 ∙ ap (λ z. z.store.size) after ∙ one.size ∙ first.1,
    )
