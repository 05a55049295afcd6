-- An act with its message leads states that agree to states that agree, where the message has an
-- item.
use Rattle.std.proofs.Common.{◌≡◌, ◌≢◌, ℕ, ℤ, pos, ◌+◌, Bool, true, false, ◌||◌, List, [], ◌∷◌}
use Rattle.std.proofs.Common.{◌++◌, Ok, Err, Option, Some, None, refl, sym, ap, ◌∙◌, subst, length, if◌then◌else◌}
use Rattle.std.specs.Prelude.{nat_le}
use Rattle.rank_language.specs.Placed.{Simple, declare, declare_array, assign, assign_item, send, receive, probe, try_probe, print, Collective}
use Rattle.rank_language.specs.Placed.{Pattern, Buffer, into_variable, into_array, barrier, broadcast, reduce, collect}
use Rattle.rank_language.specs.Block.{Block, done, plain, if_only, if_else, loop}
use Rattle.rank_machine.specs.declared.fault.MachineFault.{MachineFault}
use Rattle.rank_machine.specs.declared.fault.MachineFault.TheVariants.{TooLong}
use Rattle.rank_machine.specs.Values.{Store, Valued, ◌>>=◌}
use Rattle.rank_machine.specs.Collectives.{CollectiveCall, called, given_by, is_last, counted, part_done}
use Rattle.rank_machine.specs.States.{State}
use Rattle.rank_machine.specs.Wants.{wants, payload}
use Rattle.rank_machine.specs.Acts.{Message, Act, sends, takes, hits, misses, prints, Fits, Makes, room, written, with_status, with_variable}
use Rattle.rank_machine.specs.Acts.{goes_on, received, with_gathered, kept, fitting}
use Rattle.rank_machine.specs.Acts.{part_made, part_sent, part_taken, items_taken, collected, after_first, unless_faulted, next}
use Rattle.crash_free.specs.LiveVariables.Names.{StoredName, place, status, is_place, is_status, is_buffer, writes}
use Rattle.crash_free.specs.LiveVariables.Unread.{reads_first}
use Rattle.crash_free.specs.LiveVariables.Agrees.{Same, SameWhere, Agrees}
use Rattle.crash_free.specs.LiveVariables.Given.{HasItem}
use Rattle.crash_free.proofs.LiveVariablesLaws.Where.{fewer, left_of, variable_same, status_same, nothing_more, where_self, where_back, where_further}
use Rattle.crash_free.proofs.LiveVariablesLaws.Valuing.{called_same}
use Rattle.crash_free.proofs.LiveVariablesLaws.Wanting.{wants_same, payload_same, read_here}
use Rattle.crash_free.proofs.LiveVariablesLaws.Stepping.{behind, unwritten, counted_same}

-- a state agrees with itself, either way round, and from one to the next
pub agrees_self : (a : State) → Agrees a a
agrees_self a = record { rest = refl; fault = refl; stored = where_self (λ x. reads_first x a.rest) a.store }

-- then the other agrees with it
pub agrees_back : (a b : State) → Agrees a b → Agrees b a
agrees_back a b h =
    record {
      rest = sym h.rest;
      fault = sym h.fault;
      stored = where_back (λ x. reads_first x b.rest) a.store b.store (subst (λ k. SameWhere (λ x. reads_first x k) a.store b.store) h.rest h.stored);
    }

-- and with all that the other agrees with
pub agrees_further : (a b c : State) → Agrees a b → Agrees b c → Agrees a c
agrees_further a b c h k =
    record {
      rest = h.rest ∙ k.rest;
      fault = h.fault ∙ k.fault;
      stored =
          where_further (λ x. reads_first x a.rest) a.store b.store c.store h.stored
          (subst (λ r. SameWhere (λ x. reads_first x r) b.store c.store) (sym h.rest) k.stored);
    }

-- states that agree make the same acts
pub makes_same : (a b : State) (act : Act) (m : Option Message) → Agrees a b → Makes a act m → Makes b act m
makes_same a b act m h makes =
    subst (λ w. Fits w (payload b) act m) (wants_same a b h) (subst (λ items. Fits (wants a) items act m) (payload_same a b h) makes)

-- the statements behind are left, with what is stored
goes : (r : Block) (s s' : Store) → SameWhere (λ n. reads_first n r) s s' → Agrees (goes_on s r) (goes_on s' r)
goes r s s' h = record { rest = refl; fault = refl; stored = h }

-- where nothing is written
goes_unwritten : (x : Simple) (r : Block) (s s' : Store) → ((n : StoredName) → writes n x ≡ false) → SameWhere (λ n. reads_first n (plain x r)) s s'
    → Agrees (goes_on s r) (goes_on s' r)
goes_unwritten x r s s' none h = goes r s s' (unwritten x r r s s' s s' none refl h)

-- a buffer has as much room
room_same : (b : Buffer) (among : StoredName → Bool) (s s' : Store) → SameWhere among s s' → room s b ≡ room s' b
room_same (into_variable p) among s s' h = refl
room_same (into_array p) among s s' h = rw h.arrays refl

-- items that go to an array do so in both
array_same : (p : ℕ) (items : List ℤ) (among : StoredName → Bool) (s s' : Store) → SameWhere among s s'
    → SameWhere among (written (into_array p) items s) (written (into_array p) items s')
array_same p items among s s' h =
    record {
      rank = h.rank;
      size = h.size;
      as_many = h.as_many;
      arrays = rw h.arrays refl;
      finished = h.finished;
      parts = h.parts;
      gathered = h.gathered;
      same = λ n e. as_was n (h.same n e);
    }
  where
    as_was : (n : StoredName) → Same n s s' → Same n (written (into_array p) items s) (written (into_array p) items s')
    as_was (place q) k = k
    as_was status k = k

-- some items write a buffer in both
buffer_same : (b : Buffer) (items : List ℤ) (among : StoredName → Bool) (s s' : Store) → items ≢ [] → SameWhere among s s'
    → SameWhere (λ n. among n || is_buffer n b) (written b items s) (written b items s')
buffer_same (into_variable p) [] among s s' some h = absurd (some refl)
buffer_same (into_variable p) (z ∷ zs) among s s' some h = variable_same among p z s s' h
buffer_same (into_array p) items among s s' some h = nothing_more among (written (into_array p) items s) (written (into_array p) items s') (array_same p items among s s' h)

-- and any items keep them the same
buffer_kept : (b : Buffer) (items : List ℤ) (among : StoredName → Bool) (s s' : Store) → SameWhere among s s'
    → SameWhere among (written b items s) (written b items s')
buffer_kept (into_variable p) [] among s s' h = h
buffer_kept (into_variable p) (z ∷ zs) among s s' h =
    left_of among (is_place p) (with_variable p z s) (with_variable p z s') (variable_same among p z s s' h)
buffer_kept (into_array p) items among s s' h = array_same p items among s s' h

-- one of three
or_shifted : (a b c : Bool) → (a || (b || c)) ≡ true → ((a || b) || c) ≡ true
or_shifted true b c e = refl
or_shifted false b c e = e

-- a receive
received_same : (c t : Pattern) (b : Buffer) (r : Block) (a a' : State) (source : ℕ) (m : Message) → m.items ≢ [] → Agrees a a'
    → SameWhere (λ n. reads_first n (plain (receive c t b) r)) a.store a'.store → Agrees (received a b r source m) (received a' b r source m)
received_same c t b r a a' source m some h k =
    subst (λ z. Agrees (received a b r source m) (if nat_le (length m.items) z then goes_on (with_status source m (written b m.items a'.store)) r else record a' { fault = Some TooLong }))
    (room_same b (λ n. reads_first n (plain (receive c t b) r)) a.store a'.store k) (by_test (nat_le (length m.items) (room a.store b)))
  where
    by_test : (fits : Bool) → Agrees (if fits then goes_on (with_status source m (written b m.items a.store)) r else record a { fault = Some TooLong })
        (if fits then goes_on (with_status source m (written b m.items a'.store)) r else record a' { fault = Some TooLong })
    by_test true =
        goes r (with_status source m (written b m.items a.store)) (with_status source m (written b m.items a'.store))
        (behind (receive c t b) r (with_status source m (written b m.items a.store)) (with_status source m (written b m.items a'.store))
        (fewer (λ n. (reads_first n (plain (receive c t b) r) || is_buffer n b) || is_status n)
        (λ n. reads_first n (plain (receive c t b) r) || (is_buffer n b || is_status n))
        (with_status source m (written b m.items a.store)) (with_status source m (written b m.items a'.store))
        (λ n e. or_shifted (reads_first n (plain (receive c t b) r)) (is_buffer n b) (is_status n) e)
        (status_same (λ n. reads_first n (plain (receive c t b) r) || is_buffer n b) source m (written b m.items a.store) (written b m.items a'.store)
        (buffer_same b m.items (λ n. reads_first n (plain (receive c t b) r)) a.store a'.store some k))))
    by_test false = record { rest = h.rest; fault = refl; stored = h.stored }

-- a probe that waits
probed_same : (c t : Pattern) (r : Block) (s s' : Store) (source : ℕ) (m : Message) → SameWhere (λ n. reads_first n (plain (probe c t) r)) s s'
    → Agrees (goes_on (with_status source m s) r) (goes_on (with_status source m s') r)
probed_same c t r s s' source m h =
    goes r (with_status source m s) (with_status source m s')
    (behind (probe c t) r (with_status source m s) (with_status source m s') (status_same (λ n. reads_first n (plain (probe c t) r)) source m s s' h))

-- one that doesn't wait, which hits
tried_same : (c t : Pattern) (flag : ℕ) (r : Block) (s s' : Store) (source : ℕ) (m : Message) → SameWhere (λ n. reads_first n (plain (try_probe c t flag) r)) s s'
    → Agrees (goes_on (with_status source m (with_variable flag (pos 1) s)) r) (goes_on (with_status source m (with_variable flag (pos 1) s')) r)
tried_same c t flag r s s' source m h =
    let u = with_variable flag (pos 1) s in
    let u' = with_variable flag (pos 1) s' in
    let among : StoredName → Bool = λ n. reads_first n (plain (try_probe c t flag) r) || is_place flag n in
    goes r (with_status source m u) (with_status source m u')
    (behind (try_probe c t flag) r (with_status source m u) (with_status source m u')
    (left_of among is_status (with_status source m u) (with_status source m u')
    (status_same among source m u u' (variable_same (λ n. reads_first n (plain (try_probe c t flag) r)) flag (pos 1) s s' h))))

-- or misses
missed_same : (c t : Pattern) (flag : ℕ) (r : Block) (s s' : Store) → SameWhere (λ n. reads_first n (plain (try_probe c t flag) r)) s s'
    → Agrees (goes_on (with_variable flag (pos 0) s) r) (goes_on (with_variable flag (pos 0) s') r)
missed_same c t flag r s s' h =
    goes r (with_variable flag (pos 0) s) (with_variable flag (pos 0) s')
    (behind (try_probe c t flag) r (with_variable flag (pos 0) s) (with_variable flag (pos 0) s')
    (variable_same (λ n. reads_first n (plain (try_probe c t flag) r)) flag (pos 0) s s' h))

-- the same part is the last
last_same : (call : CollectiveCall) (among : StoredName → Bool) (s s' : Store) → SameWhere among s s' → is_last s call ≡ is_last s' call
last_same call among s s' h = rw (h.rank, h.size, h.parts) refl

-- a part is counted in both
part_done_same : (call : CollectiveCall) (among : StoredName → Bool) (s s' : Store) → SameWhere among s s' → SameWhere among (part_done s call) (part_done s' call)
part_done_same call among s s' h =
    subst (λ b. SameWhere among (part_done s call) (if b then counted s' else record s' { done = s'.done + 1 })) (last_same call among s s' h)
    (by_test (is_last s call))
  where
    as_was : (n : StoredName) → Same n s s' → Same n (record s { done = s.done + 1 }) (record s' { done = s'.done + 1 })
    as_was (place q) k = k
    as_was status k = k

    by_test : (b : Bool) → SameWhere among (if b then counted s else record s { done = s.done + 1 }) (if b then counted s' else record s' { done = s'.done + 1 })
    by_test true = counted_same among s s' h
    by_test false =
        record {
          rank = h.rank;
          size = h.size;
          as_many = h.as_many;
          arrays = h.arrays;
          finished = h.finished;
          parts = ap (λ k. k + 1) h.parts;
          gathered = h.gathered;
          same = λ n e. as_was n (h.same n e);
        }

-- after a part of a collective both are at the next part, or behind
part_made_same : (c : Collective) (r : Block) (call : CollectiveCall) (a a' : State) (s s' : Store) → Agrees a a' → a.rest ≡ plain (collect c) r
    → SameWhere (λ n. reads_first n (plain (collect c) r)) s s' → Agrees (part_made a s r call) (part_made a' s' r call)
part_made_same c r call a a' s s' h is k =
    record {
      rest = rw (last_same call (λ n. reads_first n a.rest) a.store a'.store h.stored, h.rest) refl;
      fault = refl;
      stored = by_test (is_last a.store call);
    }
  where
    whole : SameWhere (λ n. reads_first n (plain (collect c) r)) (part_done s call) (part_done s' call)
    whole = part_done_same call (λ n. reads_first n (plain (collect c) r)) s s' k

    by_test : (b : Bool) → SameWhere (λ n. reads_first n (if b then r else a.rest)) (part_done s call) (part_done s' call)
    by_test true = unwritten (collect c) r r s s' (part_done s call) (part_done s' call) (λ n. refl) refl whole
    by_test false = subst (λ z. SameWhere (λ n. reads_first n z) (part_done s call) (part_done s' call)) (sym is) whole

-- what a packet gives is kept in both
kept_same : (c : Collective) (items : List ℤ) (among : StoredName → Bool) (s s' : Store) → SameWhere among s s' → SameWhere among (kept c items s) (kept c items s')
kept_same barrier items among s s' h = h
kept_same (broadcast root b) items among s s' h = buffer_kept b items among s s' h
kept_same (reduce f root e p) items among s s' h =
    record {
      rank = h.rank;
      size = h.size;
      as_many = h.as_many;
      arrays = h.arrays;
      finished = h.finished;
      parts = h.parts;
      gathered = ap (λ xs. xs ++ items) h.gathered;
      same = λ n e. as_was n (h.same n e);
    }
  where
    as_was : (n : StoredName) → Same n s s' → Same n (with_gathered items s) (with_gathered items s')
    as_was (place q) k = k
    as_was status k = k

-- what fits in the one fits in the other
fitting_same : (c : Collective) (items : List ℤ) (among : StoredName → Bool) (s s' : Store) → SameWhere among s s' → fitting s c items ≡ fitting s' c items
fitting_same barrier items among s s' h = refl
fitting_same (broadcast root b) items among s s' h = rw (room_same b among s s' h) refl
fitting_same (reduce f root e p) items among s s' h = refl

-- what a packet of a collective gives doesn't depend on the rest of the store
items_taken_same : (c : Collective) (call : CollectiveCall) (packet : List ℤ) (among : StoredName → Bool) (s s' : Store) → SameWhere among s s'
    → items_taken s c call packet ≡ items_taken s' c call packet
items_taken_same c call packet among s s' h = by_given (given_by call packet)
  where
    by_given : (v : Valued (List ℤ)) → (v >>= (λ items. fitting s c items)) ≡ (v >>= (λ items. fitting s' c items))
    by_given (Ok items) = fitting_same c items among s s' h
    by_given (Err k) = refl

-- a packet of a collective
part_taken_same : (c : Collective) (r : Block) (call : CollectiveCall) (v : Valued (List ℤ)) (a a' : State) → Agrees a a' → a.rest ≡ plain (collect c) r
    → SameWhere (λ n. reads_first n (plain (collect c) r)) a.store a'.store → Agrees (part_taken a c r call v) (part_taken a' c r call v)
part_taken_same c r call (Ok items) a a' h is k =
    part_made_same c r call a a' (kept c items a.store) (kept c items a'.store) h is (kept_same c items (λ n. reads_first n (plain (collect c) r)) a.store a'.store k)
part_taken_same c r call (Err f) a a' h is k = record { rest = h.rest; fault = refl; stored = h.stored }

-- states that agree do so behind a packet of a collective
collected_same : (c : Collective) (r : Block) (m : Message) (v : Valued CollectiveCall) (a a' : State) → Agrees a a' → a.rest ≡ plain (collect c) r
    → SameWhere (λ n. reads_first n (plain (collect c) r)) a.store a'.store → Agrees (collected a c r m v) (collected a' c r m v)
collected_same c r m (Ok call) a a' h is k =
    subst (λ v. Agrees (part_taken a c r call (items_taken a.store c call m.items)) (part_taken a' c r call v))
    (items_taken_same c call m.items (λ n. reads_first n (plain (collect c) r)) a.store a'.store k)
    (part_taken_same c r call (items_taken a.store c call m.items) a a' h is k)
collected_same c r m (Err f) a a' h is k = h

-- a send of a collective
part_sent_same : (c : Collective) (r : Block) (v : Valued CollectiveCall) (a a' : State) → Agrees a a' → a.rest ≡ plain (collect c) r
    → SameWhere (λ n. reads_first n (plain (collect c) r)) a.store a'.store → Agrees (part_sent a r v) (part_sent a' r v)
part_sent_same c r (Ok call) a a' h is k = part_made_same c r call a a' a.store a'.store h is k
part_sent_same c r (Err f) a a' h is k = h

-- the first statement makes an act
first_same : (b : Block) (a a' : State) (act : Act) (m : Option Message) → Agrees a a' → a.rest ≡ b → SameWhere (λ n. reads_first n b) a.store a'.store → HasItem m
    → Agrees (after_first a b act m) (after_first a' b act m)
first_same done a a' act m h is k some = h
first_same (plain (declare p) r) a a' act m h is k some = h
first_same (plain (declare_array p) r) a a' act m h is k some = h
first_same (plain (assign p e) r) a a' act m h is k some = h
first_same (plain (assign_item p i e) r) a a' act m h is k some = h
first_same (plain (send d t p) r) a a' (sends dest context tag items) m h is k some = goes_unwritten (send d t p) r a.store a'.store (λ n. refl) k
first_same (plain (send d t p) r) a a' (takes source j) m h is k some = h
first_same (plain (send d t p) r) a a' (hits source j) m h is k some = h
first_same (plain (send d t p) r) a a' misses m h is k some = h
first_same (plain (send d t p) r) a a' (prints v) m h is k some = h
first_same (plain (receive c t b) r) a a' (takes source j) (Some m) h is k some = received_same c t b r a a' source m some h k
first_same (plain (receive c t b) r) a a' (takes source j) None h is k some = h
first_same (plain (receive c t b) r) a a' (sends dest context tag items) m h is k some = h
first_same (plain (receive c t b) r) a a' (hits source j) m h is k some = h
first_same (plain (receive c t b) r) a a' misses m h is k some = h
first_same (plain (receive c t b) r) a a' (prints v) m h is k some = h
first_same (plain (probe c t) r) a a' (hits source j) (Some m) h is k some = probed_same c t r a.store a'.store source m k
first_same (plain (probe c t) r) a a' (hits source j) None h is k some = h
first_same (plain (probe c t) r) a a' (sends dest context tag items) m h is k some = h
first_same (plain (probe c t) r) a a' (takes source j) m h is k some = h
first_same (plain (probe c t) r) a a' misses m h is k some = h
first_same (plain (probe c t) r) a a' (prints v) m h is k some = h
first_same (plain (try_probe c t x) r) a a' (hits source j) (Some m) h is k some = tried_same c t x r a.store a'.store source m k
first_same (plain (try_probe c t x) r) a a' (hits source j) None h is k some = h
first_same (plain (try_probe c t x) r) a a' (sends dest context tag items) m h is k some = h
first_same (plain (try_probe c t x) r) a a' (takes source j) m h is k some = h
first_same (plain (try_probe c t x) r) a a' misses m h is k some = missed_same c t x r a.store a'.store k
first_same (plain (try_probe c t x) r) a a' (prints v) m h is k some = h
first_same (plain (print e) r) a a' (prints v) m h is k some = goes_unwritten (print e) r a.store a'.store (λ n. refl) k
first_same (plain (print e) r) a a' (sends dest context tag items) m h is k some = h
first_same (plain (print e) r) a a' (takes source j) m h is k some = h
first_same (plain (print e) r) a a' (hits source j) m h is k some = h
first_same (plain (print e) r) a a' misses m h is k some = h
first_same (plain (collect c) r) a a' (sends dest context tag items) m h is k some =
    subst (λ v. Agrees (part_sent a r (called a.store c)) (part_sent a' r v)) (called_same c a.store a'.store (read_here (collect c) r a.store a'.store k))
    (part_sent_same c r (called a.store c) a a' h is k)
first_same (plain (collect c) r) a a' (takes source j) (Some m) h is k some =
    subst (λ v. Agrees (collected a c r m (called a.store c)) (collected a' c r m v)) (called_same c a.store a'.store (read_here (collect c) r a.store a'.store k))
    (collected_same c r m (called a.store c) a a' h is k)
first_same (plain (collect c) r) a a' (takes source j) None h is k some = h
first_same (plain (collect c) r) a a' (hits source j) m h is k some = h
first_same (plain (collect c) r) a a' misses m h is k some = h
first_same (plain (collect c) r) a a' (prints v) m h is k some = h
first_same (if_only e y r) a a' act m h is k some = h
first_same (if_else e y o r) a a' act m h is k some = h
first_same (loop e y r) a a' act m h is k some = h

-- a rank that has faulted stays
unless_same : (fault : Option MachineFault) (b : Block) (a a' : State) (act : Act) (m : Option Message) → Agrees a a' → a.rest ≡ b → b ≡ a'.rest → HasItem m
    → Agrees (unless_faulted fault a act m) (unless_faulted fault a' act m)
unless_same None b a a' act m h is is' some =
    subst (λ z. Agrees (after_first a a.rest act m) (after_first a' z act m)) (is ∙ is') (first_same a.rest a a' act m h refl h.stored some)
unless_same (Some f) b a a' act m h is is' some = h

-- so an act leads from states that agree to states that agree
pub next_same : (a b : State) (act : Act) (m : Option Message) → Agrees a b → HasItem m → Agrees (next a act m) (next b act m)
next_same a b act m h some =
    subst (λ f. Agrees (next a act m) (unless_faulted f b act m)) h.fault (unless_same a.fault a.rest a b act m h refl h.rest some)
