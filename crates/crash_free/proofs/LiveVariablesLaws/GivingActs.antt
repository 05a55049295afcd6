-- What remains after an act gives items too, and what is sent has one.
use Rattle.std.proofs.Common.{◌≡◌, ◌≢◌, ℕ, ℤ, ◌+◌, ◌==◌, Bool, true, false, List, [], ◌∷◌}
use Rattle.std.proofs.Common.{◌++◌, Ok, Err, Option, Some, None, refl, sym, subst, if◌then◌else◌, length}
use Rattle.std.specs.Prelude.{nat_le, slice_index_or}
use Rattle.std.proofs.lemmas.Bool.{eq-eqb, or_left}
use Rattle.matching.specs.declared.packet.Context.{Context}
use Rattle.matching.specs.declared.packet.Context.TheVariants.{PointToPoint}
use Rattle.rank_language.specs.Placed.{Placed, Pattern, Payload, one, all_of, declare, declare_array, assign, assign_item, send, receive, probe, try_probe}
use Rattle.rank_language.specs.Placed.{print, Collective, Buffer, barrier, broadcast, reduce, collect}
use Rattle.rank_language.specs.Block.{Block, done, plain, if_only, if_else, loop}
use Rattle.rank_machine.specs.declared.fault.MachineFault.{MachineFault}
use Rattle.rank_machine.specs.declared.fault.MachineFault.TheVariants.{TooLong}
use Rattle.rank_machine.specs.declared.want.Want.{Want}
use Rattle.rank_machine.specs.declared.want.Want.TheVariants as want
use Rattle.rank_machine.specs.Values.{Store, Valued, ◌>>=◌, value, rank_in}
use Rattle.rank_machine.specs.Collectives.{CollectiveCall, called, part_of, counted, header, is_last, part_done}
use Rattle.rank_machine.specs.States.{State, item_value}
use Rattle.rank_machine.specs.Wants.{or_fault, want_of, wants, or_nothing, first_payload, payload, items_of, selector_of, tag_in, send_want, part_want, IsSend}
use Rattle.rank_machine.specs.Acts.{Message, Act, sends, takes, hits, misses, prints, Fits, Makes, Does, room, written, with_status}
use Rattle.rank_machine.specs.Acts.{goes_on, received, kept, part_made, part_sent, part_taken, items_taken, collected, after_first, unless_faulted, next}
use Rattle.crash_free.specs.LiveVariables.Given.{some_sends_all, GivesItems}
use Rattle.crash_free.proofs.LiveVariablesLaws.Giving.{Fewer, Keeps, fewer_behind, written_keeps, gives_on, inners_give}

-- What an act leaves: what remains sends only what was sent, and each array has an item that had
-- one.
abbrev Goes : Block → State → State → Type 0
Goes b a c = Fewer b c.rest × Keeps a.store.arrays c.store.arrays

-- nothing changes
still : (b : Block) (a : State) → a.rest ≡ b → Goes b a a
still b a is = (λ p h. subst (λ k. some_sends_all p k ≡ true) is h, λ p h. h)

-- a message that is received
received_goes : (c t : Pattern) (b : Buffer) (r : Block) (a : State) (source : ℕ) (m : Message) → a.rest ≡ plain (receive c t b) r
    → Goes (plain (receive c t b) r) a (received a b r source m)
received_goes c t b r a source m is = by_test (nat_le (length m.items) (room a.store b))
  where
    by_test : (fits : Bool)
        → Goes (plain (receive c t b) r) a (if fits then goes_on (with_status source m (written b m.items a.store)) r else record a { fault = Some TooLong })
    by_test true = (fewer_behind (receive c t b) r, written_keeps b m.items a.store)
    by_test false = (λ p h. subst (λ k. some_sends_all p k ≡ true) is h, λ p h. h)

-- a part of a collective
done_keeps : (s : Store) (call : CollectiveCall) → Keeps s.arrays (part_done s call).arrays
done_keeps s call = by_test (is_last s call)
  where
    by_test : (b : Bool) → Keeps s.arrays (if b then counted s else record s { done = s.done + 1 }).arrays
    by_test true = λ p h. h
    by_test false = λ p h. h

-- a call of a collective is one packet further, or made
made_goes : (c : Collective) (r : Block) (call : CollectiveCall) (a : State) (s : Store) → a.rest ≡ plain (collect c) r → Keeps a.store.arrays s.arrays
    → Goes (plain (collect c) r) a (part_made a s r call)
made_goes c r call a s is keeps = (by_test (is_last a.store call), λ p h. done_keeps s call p (keeps p h))
  where
    by_test : (b : Bool) → Fewer (plain (collect c) r) (if b then r else a.rest)
    by_test true = fewer_behind (collect c) r
    by_test false = λ p h. subst (λ k. some_sends_all p k ≡ true) is h

-- what it keeps takes no item from an array
kept_keeps : (c : Collective) (items : List ℤ) (s : Store) → Keeps s.arrays (kept c items s).arrays
kept_keeps barrier items s = λ p h. h
kept_keeps (broadcast root b) items s = written_keeps b items s
kept_keeps (reduce f root e p) items s = λ q h. h

-- so behind the items of a packet
taken_goes : (c : Collective) (r : Block) (call : CollectiveCall) (v : Valued (List ℤ)) (a : State) → a.rest ≡ plain (collect c) r
    → Goes (plain (collect c) r) a (part_taken a c r call v)
taken_goes c r call (Ok items) a is = made_goes c r call a (kept c items a.store) is (kept_keeps c items a.store)
taken_goes c r call (Err k) a is = (λ p h. subst (λ z. some_sends_all p z ≡ true) is h, λ p h. h)

-- so behind a packet that it receives
collected_goes : (c : Collective) (r : Block) (m : Message) (v : Valued CollectiveCall) (a : State) → a.rest ≡ plain (collect c) r
    → Goes (plain (collect c) r) a (collected a c r m v)
collected_goes c r m (Ok call) a is = taken_goes c r call (items_taken a.store c call m.items) a is
collected_goes c r m (Err k) a is = still (plain (collect c) r) a is

-- and behind one that it sends
sent_goes : (c : Collective) (r : Block) (v : Valued CollectiveCall) (a : State) → a.rest ≡ plain (collect c) r → Goes (plain (collect c) r) a (part_sent a r v)
sent_goes c r (Ok call) a is = made_goes c r call a a.store is (λ p h. h)
sent_goes c r (Err k) a is = still (plain (collect c) r) a is

-- by each first statement
first_goes : (b : Block) (a : State) (act : Act) (m : Option Message) → a.rest ≡ b → Goes b a (after_first a b act m)
first_goes done a act m is = still done a is
first_goes (plain (declare p) r) a act m is = still (plain (declare p) r) a is
first_goes (plain (declare_array p) r) a act m is = still (plain (declare_array p) r) a is
first_goes (plain (assign p e) r) a act m is = still (plain (assign p e) r) a is
first_goes (plain (assign_item p i e) r) a act m is = still (plain (assign_item p i e) r) a is
first_goes (plain (send d t p) r) a (sends dest context tag items) m is = (fewer_behind (send d t p) r, λ q h. h)
first_goes (plain (send d t p) r) a (takes source j) m is = still (plain (send d t p) r) a is
first_goes (plain (send d t p) r) a (hits source j) m is = still (plain (send d t p) r) a is
first_goes (plain (send d t p) r) a misses m is = still (plain (send d t p) r) a is
first_goes (plain (send d t p) r) a (prints v) m is = still (plain (send d t p) r) a is
first_goes (plain (receive c t b) r) a (takes source j) (Some m) is = received_goes c t b r a source m is
first_goes (plain (receive c t b) r) a (takes source j) None is = still (plain (receive c t b) r) a is
first_goes (plain (receive c t b) r) a (sends dest context tag items) m is = still (plain (receive c t b) r) a is
first_goes (plain (receive c t b) r) a (hits source j) m is = still (plain (receive c t b) r) a is
first_goes (plain (receive c t b) r) a misses m is = still (plain (receive c t b) r) a is
first_goes (plain (receive c t b) r) a (prints v) m is = still (plain (receive c t b) r) a is
first_goes (plain (probe c t) r) a (hits source j) (Some m) is = (fewer_behind (probe c t) r, λ q h. h)
first_goes (plain (probe c t) r) a (hits source j) None is = still (plain (probe c t) r) a is
first_goes (plain (probe c t) r) a (sends dest context tag items) m is = still (plain (probe c t) r) a is
first_goes (plain (probe c t) r) a (takes source j) m is = still (plain (probe c t) r) a is
first_goes (plain (probe c t) r) a misses m is = still (plain (probe c t) r) a is
first_goes (plain (probe c t) r) a (prints v) m is = still (plain (probe c t) r) a is
first_goes (plain (try_probe c t x) r) a (hits source j) (Some m) is = (fewer_behind (try_probe c t x) r, λ q h. h)
first_goes (plain (try_probe c t x) r) a (hits source j) None is = still (plain (try_probe c t x) r) a is
first_goes (plain (try_probe c t x) r) a (sends dest context tag items) m is = still (plain (try_probe c t x) r) a is
first_goes (plain (try_probe c t x) r) a (takes source j) m is = still (plain (try_probe c t x) r) a is
first_goes (plain (try_probe c t x) r) a misses m is = (fewer_behind (try_probe c t x) r, λ q h. h)
first_goes (plain (try_probe c t x) r) a (prints v) m is = still (plain (try_probe c t x) r) a is
first_goes (plain (print e) r) a (prints v) m is = (fewer_behind (print e) r, λ q h. h)
first_goes (plain (print e) r) a (sends dest context tag items) m is = still (plain (print e) r) a is
first_goes (plain (print e) r) a (takes source j) m is = still (plain (print e) r) a is
first_goes (plain (print e) r) a (hits source j) m is = still (plain (print e) r) a is
first_goes (plain (print e) r) a misses m is = still (plain (print e) r) a is
first_goes (plain (collect c) r) a (sends dest context tag items) m is = sent_goes c r (called a.store c) a is
first_goes (plain (collect c) r) a (takes source j) (Some m) is = collected_goes c r m (called a.store c) a is
first_goes (plain (collect c) r) a (takes source j) None is = still (plain (collect c) r) a is
first_goes (plain (collect c) r) a (hits source j) m is = still (plain (collect c) r) a is
first_goes (plain (collect c) r) a misses m is = still (plain (collect c) r) a is
first_goes (plain (collect c) r) a (prints v) m is = still (plain (collect c) r) a is
first_goes (if_only e y r) a act m is = still (if_only e y r) a is
first_goes (if_else e y o r) a act m is = still (if_else e y o r) a is
first_goes (loop e y r) a act m is = still (loop e y r) a is

-- at a fault or not
unless_goes : (fault : Option MachineFault) (a : State) (act : Act) (m : Option Message) → Goes a.rest a (unless_faulted fault a act m)
unless_goes None a act m = first_goes a.rest a act m refl
unless_goes (Some k) a act m = (λ p h. h, λ p h. h)

-- so what remains after an act gives items where what was there did
pub next_gives : (a : State) (act : Act) (m : Option Message) → GivesItems a → GivesItems (next a act m)
next_gives a act m h = let k = unless_goes a.fault a act m in gives_on a (next a act m) k.0 k.1 h

-- a value that faults or is a step of its own sends nothing
tested : {A : Type 0} (v : Valued A) → IsSend (or_fault (v >>= (λ z. Ok want.Internal))) → ⊥
tested (Ok z) h = h
tested (Err k) h = h

-- a value that may be a fault asks for no send if no value does
asked : {A : Type 0} (v : Valued A) (f : A → Want) → ((x : A) → IsSend (f x) → ⊥) → IsSend (or_fault (v >>= (λ z. Ok (f z)))) → ⊥
asked (Ok z) f none h = none z h
asked (Err k) f none h = h

-- the items that a send gives
items_some : (s : Store) (d t : Placed) (p : Payload) (r : Block)
    → ((q : ℕ) → some_sends_all q (plain (send d t p) r) ≡ true → slice_index_or s.arrays q [] ≢ [])
    → IsSend (or_fault (send_want s d t p)) → or_nothing (items_of s p) ≢ []
items_some s d t (one e) r giving h = by (value s d) (value s t) (value s e) h
  where
    by : (x y z : Valued ℤ)
        → IsSend (or_fault (x >>= (λ a. y >>= (λ b. (z >>= (λ v. Ok (v ∷ []))) >>= (λ items. rank_in s.size a >>= (λ dest. tag_in b >>= (λ tag. Ok (want.Send dest PointToPoint tag))))))))
        → or_nothing (z >>= (λ v. Ok (v ∷ []))) ≢ []
    by x y (Ok v) h = λ e. absurd cc
    by (Ok a) (Ok b) (Err k) h = absurd h
    by (Ok a) (Err k) (Err l) h = absurd h
    by (Err k) y (Err l) h = absurd h
items_some s d t (all_of p) r giving h = giving p (or_left (p == p) (some_sends_all p r) (eq-eqb p p refl))

-- and those of a packet of a collective
packet_some : (v : Valued CollectiveCall) (f : CollectiveCall → Valued Want) → IsSend (or_fault (v >>= f)) → or_nothing (v >>= (λ call. Ok (header call ++ call.items))) ≢ []
packet_some (Ok call) f h = λ e. absurd cc
packet_some (Err k) f h = absurd h

-- where a send is wanted there are items
payload_some : (s : Store) (b : Block) (k : Option MachineFault) → ((q : ℕ) → some_sends_all q b ≡ true → slice_index_or s.arrays q [] ≢ [])
    → IsSend (want_of s b k) → first_payload s b ≢ []
payload_some s b (Some k) giving h = absurd h
payload_some s done None giving h = absurd h
payload_some s (plain (declare p) r) None giving h = absurd h
payload_some s (plain (declare_array p) r) None giving h = absurd h
payload_some s (plain (assign p e) r) None giving h = absurd (tested (value s e) h)
payload_some s (plain (assign_item p i e) r) None giving h = absurd (tested (item_value s p i e) h)
payload_some s (plain (send d t p) r) None giving h = items_some s d t p r giving h
payload_some s (plain (receive c t b) r) None giving h = absurd (asked (selector_of s c t) want.Receive (λ w e. e) h)
payload_some s (plain (probe c t) r) None giving h = absurd (asked (selector_of s c t) want.Probe (λ w e. e) h)
payload_some s (plain (try_probe c t x) r) None giving h = absurd (asked (selector_of s c t) want.TryProbe (λ w e. e) h)
payload_some s (plain (print e) r) None giving h = absurd (asked (value s e) want.Print (λ w e. e) h)
payload_some s (plain (collect c) r) None giving h = packet_some (called s c) (λ call. part_want s c call (part_of s call)) h
payload_some s (if_only e y r) None giving h = absurd (tested (value s e) h)
payload_some s (if_else e y o r) None giving h = absurd (tested (value s e) h)
payload_some s (loop e y r) None giving h = absurd (tested (value s e) h)

-- what is sent are the items of the send that stands
sent_is : (w : Want) (given : List ℤ) (dest : ℕ) (context : Context) (tag : ℕ) (items : List ℤ) (m : Option Message)
    → Fits w given (sends dest context tag items) m → IsSend w × (items ≡ given)
sent_is (want.Send d c t) given dest context tag items None f = (tt, f.3)
sent_is (want.Send d c t) given dest context tag items (Some m) f = absurd f
sent_is want.Internal given dest context tag items m f = absurd f
sent_is (want.Receive w) given dest context tag items m f = absurd f
sent_is (want.Probe w) given dest context tag items m f = absurd f
sent_is (want.TryProbe w) given dest context tag items m f = absurd f
sent_is (want.Print v) given dest context tag items m f = absurd f
sent_is want.Halted given dest context tag items m f = absurd f
sent_is (want.Faulted k) given dest context tag items m f = absurd f

-- so a message that is sent has an item
pub sent_has_item : (a : State) (dest : ℕ) (context : Context) (tag : ℕ) (items : List ℤ) (m : Option Message) → GivesItems a
    → Makes a (sends dest context tag items) m → items ≢ []
sent_has_item a dest context tag items m h makes =
    let k = sent_is (wants a) (payload a) dest context tag items m makes in
    subst (λ z. z ≢ []) (sym k.1) (payload_some a.store a.rest a.fault h k.0)

-- and after an act, with inner steps before it, what remains gives items
pub does_give : (a b : State) (act : Act) (m : Option Message) → Does a act m b → GivesItems a → GivesItems b
does_give a b act m d h = subst GivesItems (sym d.3) (next_gives d.0 act m (inners_give d.1 h))
