-- States that agree want the same, and give the same.
use Rattle.std.proofs.Common.{◌≡◌, ℕ, ℤ, Bool, not, ◌||◌, ◌&&◌, Ok, Err, Option, Some, None, refl, ap, ◌∙◌}
use Rattle.rank_language.specs.Placed.{Placed, Simple, declare, declare_array, assign, assign_item, send, receive, probe, try_probe, print, Collective}
use Rattle.rank_language.specs.Placed.{Pattern, barrier, broadcast, reduce, collect}
use Rattle.rank_language.specs.Block.{Block, done, plain, if_only, if_else, loop}
use Rattle.rank_machine.specs.declared.want.Want.TheVariants as want
use Rattle.rank_machine.specs.declared.fault.MachineFault.{MachineFault}
use Rattle.rank_machine.specs.Values.{Store, Valued, ◌>>=◌, value}
use Rattle.rank_machine.specs.Collectives.{CollectiveCall, called, Part, gives, gets, ends, part_of, folded, with_at}
use Rattle.rank_machine.specs.States.{State, item_value}
use Rattle.rank_machine.specs.Wants.{selector_of, part_want, collective_want, simple_want, first_want}
use Rattle.rank_machine.specs.Wants.{or_fault, want_of, wants, or_nothing, packet_items, first_payload, payload}
use Rattle.crash_free.specs.LiveVariables.Names.{StoredName, mentions, pattern_reads, payload_reads, collective_reads, reads, writes}
use Rattle.crash_free.specs.LiveVariables.Unread.{reads_first}
use Rattle.crash_free.specs.LiveVariables.Agrees.{SameWhere, Agrees}
use Rattle.crash_free.proofs.LiveVariablesLaws.Where.{left_of, right_of}
use Rattle.crash_free.proofs.LiveVariablesLaws.Valuing.{value_same, pattern_same, items_same, called_same}

-- what a source and a tag name is the same
selector_same : (c t : Pattern) (s s' : Store) → SameWhere (λ x. pattern_reads x c || pattern_reads x t) s s' → selector_of s c t ≡ selector_of s' c t
selector_same c t s s' h =
    rw (
      pattern_same c s s' (left_of (λ x. pattern_reads x c) (λ x. pattern_reads x t) s s' h),
      pattern_same t s s' (right_of (λ x. pattern_reads x c) (λ x. pattern_reads x t) s s' h),
      h.size,
    ) refl

-- an item that is set gets the same
pub item_same : (p : ℕ) (i e : Placed) (s s' : Store) → SameWhere (λ x. mentions x i || mentions x e) s s' → item_value s p i e ≡ item_value s' p i e
item_same p i e s s' h =
    rw (
      value_same i s s' (left_of (λ x. mentions x i) (λ x. mentions x e) s s' h),
      value_same e s s' (right_of (λ x. mentions x i) (λ x. mentions x e) s s' h),
      h.arrays,
    ) refl

-- whether a value faults decides what follows, whatever is stored
same_want : (v : Valued ℤ) (f g : ℤ → Store) → ((v >>= (λ z. Ok (f z))) >>= (λ s. Ok want.Internal)) ≡ ((v >>= (λ z. Ok (g z))) >>= (λ s. Ok want.Internal))
same_want (Ok z) f g = refl
same_want (Err k) f g = refl

-- a part of a collective is the same
part_same : (c : Collective) (call : CollectiveCall) (p : Part) (s s' : Store) (among : StoredName → Bool) → SameWhere among s s'
    → part_want s c call p ≡ part_want s' c call p
part_same c call (gives dest) s s' among h = refl
part_same c call (gets source) s s' among h = refl
part_same barrier call ends s s' among h = refl
part_same (broadcast root b) call ends s s' among h = refl
part_same (reduce f root e p) call ends s s' among h =
    rw (h.rank, h.gathered) (same_want (folded f (with_at s'.rank call.items s'.gathered)) _ _)

-- the part that stands is the same
pub part_of_same : (call : CollectiveCall) (s s' : Store) (among : StoredName → Bool) → SameWhere among s s' → part_of s call ≡ part_of s' call
part_of_same call s s' among h = rw (h.size, h.rank, h.parts) refl

-- a collective wants the same
collective_same : (c : Collective) (s s' : Store) → SameWhere (λ x. collective_reads x c) s s' → collective_want s c ≡ collective_want s' c
collective_same c s s' h = ap (λ v. v >>= (λ call. part_want s c call (part_of s call))) (called_same c s s' h) ∙ by_call (called s' c)
  where
    by_call : (v : Valued CollectiveCall) → (v >>= (λ call. part_want s c call (part_of s call))) ≡ (v >>= (λ call. part_want s' c call (part_of s' call)))
    by_call (Ok call) =
        ap (part_want s c call) (part_of_same call s s' (λ x. collective_reads x c) h) ∙ part_same c call (part_of s' call) s s' (λ x. collective_reads x c) h
    by_call (Err k) = refl

-- a statement wants the same
simple_same : (x : Simple) (s s' : Store) → SameWhere (λ n. reads n x) s s' → simple_want s x ≡ simple_want s' x
simple_same (declare p) s s' h = refl
simple_same (declare_array p) s s' h = refl
simple_same (assign p e) s s' h = rw (value_same e s s' h) refl
simple_same (assign_item p i e) s s' h = rw (item_same p i e s s' h) refl
simple_same (send d t p) s s' h =
    let more = right_of (λ n. mentions n d) (λ n. mentions n t || payload_reads n p) s s' h in
    rw (
      value_same d s s' (left_of (λ n. mentions n d) (λ n. mentions n t || payload_reads n p) s s' h),
      value_same t s s' (left_of (λ n. mentions n t) (λ n. payload_reads n p) s s' more),
      items_same p s s' (right_of (λ n. mentions n t) (λ n. payload_reads n p) s s' more),
      h.size,
    ) refl
simple_same (receive c t b) s s' h = rw (selector_same c t s s' h) refl
simple_same (probe c t) s s' h = rw (selector_same c t s s' h) refl
simple_same (try_probe c t f) s s' h = rw (selector_same c t s s' h) refl
simple_same (print e) s s' h = rw (value_same e s s' h) refl
simple_same (collect c) s s' h = collective_same c s s' h

-- the names that the first statement reads
pub read_here : (x : Simple) (r : Block) (s s' : Store) → SameWhere (λ n. reads_first n (plain x r)) s s' → SameWhere (λ n. reads n x) s s'
read_here x r s s' h = left_of (λ n. reads n x) (λ n. not (writes n x) && reads_first n r) s s' h

-- those of what a test tests
pub tested_here : (e : Placed) (more : StoredName → Bool) (s s' : Store) → SameWhere (λ n. mentions n e || more n) s s' → value s e ≡ value s' e
tested_here e more s s' h = value_same e s s' (left_of (λ n. mentions n e) more s s' h)

-- the first statement wants the same
first_same : (b : Block) (s s' : Store) → SameWhere (λ n. reads_first n b) s s' → first_want s b ≡ first_want s' b
first_same done s s' h = refl
first_same (plain x r) s s' h = simple_same x s s' (read_here x r s s' h)
first_same (if_only e y r) s s' h = rw (tested_here e _ s s' h) refl
first_same (if_else e y o r) s s' h = rw (tested_here e _ s s' h) refl
first_same (loop e y r) s s' h = rw (tested_here e _ s s' h) refl

-- so they ask for the same act
want_same : (b : Block) (k : Option MachineFault) (s s' : Store) → SameWhere (λ n. reads_first n b) s s' → want_of s b k ≡ want_of s' b k
want_same b None s s' h = ap or_fault (first_same b s s' h)
want_same b (Some k) s s' h = refl

-- so states that agree do
pub wants_same : (a b : State) → Agrees a b → wants a ≡ wants b
wants_same a b h = want_same a.rest a.fault a.store b.store h.stored ∙ rw (h.rest, h.fault) refl

-- the items of a collective's packet are the same
packet_same : (c : Collective) (s s' : Store) → SameWhere (λ x. collective_reads x c) s s' → packet_items s c ≡ packet_items s' c
packet_same c s s' h = rw (called_same c s s' h) refl

-- the first statement gives the same
first_payload_same : (b : Block) (s s' : Store) → SameWhere (λ n. reads_first n b) s s' → first_payload s b ≡ first_payload s' b
first_payload_same done s s' h = refl
first_payload_same (plain (declare p) r) s s' h = refl
first_payload_same (plain (declare_array p) r) s s' h = refl
first_payload_same (plain (assign p e) r) s s' h = refl
first_payload_same (plain (assign_item p i e) r) s s' h = refl
first_payload_same (plain (send d t p) r) s s' h =
    let here = read_here (send d t p) r s s' h in
    let more = right_of (λ n. mentions n d) (λ n. mentions n t || payload_reads n p) s s' here in
    ap or_nothing (items_same p s s' (right_of (λ n. mentions n t) (λ n. payload_reads n p) s s' more))
first_payload_same (plain (receive c t b) r) s s' h = refl
first_payload_same (plain (probe c t) r) s s' h = refl
first_payload_same (plain (try_probe c t x) r) s s' h = refl
first_payload_same (plain (print e) r) s s' h = refl
first_payload_same (plain (collect c) r) s s' h = packet_same c s s' (read_here (collect c) r s s' h)
first_payload_same (if_only e y r) s s' h = refl
first_payload_same (if_else e y o r) s s' h = refl
first_payload_same (loop e y r) s s' h = refl

-- so states that agree do
pub payload_same : (a b : State) → Agrees a b → payload a ≡ payload b
payload_same a b h = first_payload_same a.rest a.store b.store h.stored ∙ rw h.rest refl
