-- What can be saved is an image once its cursors are at rest.
--
-- Each type keeps its own rules: a program its limits, a machine where it stands, an inbox the order of its numbers, and a
-- packet its limits. The caller knows that what is kept was sent by this rank, in the order of its acts.
use Rattle.std.proofs.Common.{◌≡◌, ℕ, zero, suc, ◌+◌, ◌*◌, ◌<◌, ◌≤◌, ℤ, Bool, true, false, List, [], ◌∷◌, ◌++◌, length, map, get_or}
use Rattle.std.proofs.Common.{slice_index, All, refl, sym, ap, subst, ◌∙◌, append_assoc, arith}
use Rattle.std.specs.Prelude.{AllPairs, FitsSigned, ◌==◌, nat_le}
use Rattle.std.specs.Int.{w64}
use Rattle.std.specs.List.{list_all, AllByRecursion}
use Rattle.std.proofs.lemmas.Bool.{le-leb, lt-ltb, eqb-true, and_from}
use Rattle.std.proofs.lemmas.List.{length-map, length_push}
use Rattle.limits.specs.Limits.{most_ranks, most_lines, most_variables, most_arrays, greatest_clock}
use Rattle.matching.specs.PacketValue.{PacketValue}
use Rattle.matching.specs.Inbox.{Mailbox, IsMailbox, WasAccepted, RisesTo, is_below, may_follow}
use Rattle.payload_log.specs.Backlog.{BacklogValue}
use Rattle.payload_log.specs.Sender.{WasBefore, IsSentBy}
use Rattle.rank_language.specs.Block.{size}
use Rattle.rank_language.specs.Program.{ProgramValue, block_of, AllSized}
use Rattle.rank_machine.specs.Machine.{MachineValue, IsMachine}
use Rattle.checkpoint.specs.Image.{ImageValue, call_of, lengths_of, rewound, at_rest}
use Rattle.checkpoint.specs.declared.format.Format.TheVariants.{Two}
use Rattle.checkpoint.specs.Savable.{IsSavable}
use Rattle.checkpoint.specs.Spelling.{FitsBytes}
use Rattle.checkpoint.specs.Reading.{last_clock}
use Rattle.checkpoint.specs.Legal.{AllAfter, AreValues, IsTail, IsPacket, IsStored, IsNextPacket, IsNextKept, IsLane, IsTable, IsSaved}
use Rattle.checkpoint.specs.Legal.{IsSavedInbox, IsImage}
use Rattle.checkpoint.proofs.Loop.{last_clock-push}
use Rattle.checkpoint.proofs.Underway.{few_done, few_gathered}
use Rattle.checkpoint.proofs.Rows.{all_rest, pairs_rest, pairs_first, all_front, pairs_front, pairs_seam, row_of}

-- ---- packets

-- values of an i64 each
values_are : (zs : List ℤ) (n : ℕ) → length zs ≡ n → All (FitsSigned w64) zs → AreValues n zs
values_are zs n count each = record { count = count; each = row_of (FitsSigned w64) [] zs each }

-- a packet has a legal tail
tail_is : (m : PacketValue) → IsPacket m → IsTail m.source m.clock m.number m
tail_is m is = record {
  from = refl;
  at = refl;
  numbered = refl;
  tag = is.message.tag;
  least = is.message.least;
  most = is.message.most;
  items = values_are m.items (length m.items) refl is.items;
}

-- ---- the inbox

-- an earlier packet doesn't stand in the way of a later one
earlier_is_below : (m n : PacketValue) → RisesTo m n → is_below n.source n.number m ≡ true
earlier_is_below m n rises = at (m.source == n.source) refl
  where
    at : (b : Bool) → (m.source == n.source) ≡ b → is_below n.source n.number m ≡ true
    at false e = rw e refl
    at true e = rw (e, lt-ltb _ _ (rises (eqb-true _ _ e))) refl

-- a test that each item passes
list_all-each : (p : PacketValue → Bool) (ms : List PacketValue) → All (λ m. p m ≡ true) ms → list_all p ms ≡ true
list_all-each p [] each = refl
list_all-each p (m ∷ ms) each = rw (each zero m (omega arith), list_all-each p ms (all_rest (λ x. p x ≡ true) m ms each)) refl

-- an inbox of these packets and counts
abbrev box_of : List PacketValue → List ℕ → Mailbox
box_of packets accepted = record { packets = packets; accepted = accepted }

-- a packet may stand behind those of its source with lower numbers
may_stand : (accepted : List ℕ) (before : List PacketValue) (m : PacketValue) → WasAccepted accepted m → 1 ≤ m.number
    → All (λ n. RisesTo n m) before
    → may_follow (box_of before accepted) m.source m.number ≡ true
may_stand accepted before m was low rises =
    let numbered = and_from (nat_le 1 m.number) (nat_le m.number (slice_index accepted m.source)) (le-leb _ _ low)
    (le-leb _ _ was.number) in
    let lower = list_all-each (is_below m.source m.number) before
    (λ k d within. earlier_is_below (get_or before k d) m (rises k d within)) in
    and_from _ _ numbered lower

-- a packet of the inbox is legal behind those before it
next_packet : (size : ℕ) (accepted : List ℕ) (before : List PacketValue) (m : PacketValue) → length accepted ≡ size → size ≤ most_ranks
    → WasAccepted accepted m → IsPacket m → All (λ n. RisesTo n m) before → IsNextPacket size accepted before m
next_packet size accepted before m count few was is rises = record {
  source = omega (arith, count, was.source);
  byte = omega (arith, count, few, was.source);
  clock_low = is.message.clock_low;
  clock_high = is.message.clock_high;
  number = omega (arith, is.message.number_high);
  follows = may_stand accepted before m was is.message.number_low rises;
  tail = tail_is m is;
}

-- so are all packets
packet_row : (size : ℕ) (accepted : List ℕ) (before ms : List PacketValue) → length accepted ≡ size → size ≤ most_ranks
    → All (WasAccepted accepted) ms → All IsPacket ms → AllPairs RisesTo (before ++ ms) → AllAfter (IsNextPacket size accepted) before ms
packet_row size accepted before [] count few was are rises = tt
packet_row size accepted before (m ∷ ms) count few was are rises =
    let here = next_packet size accepted before m count few (was zero m (omega arith)) (are zero m (omega arith))
    (pairs_seam RisesTo before m ms rises) in
    let again = subst (AllPairs RisesTo) (sym (append_assoc before (m ∷ []) ms)) rises in (
      here,
      packet_row size accepted (before ++ m ∷ []) ms count few (all_rest (WasAccepted accepted) m ms was) (all_rest IsPacket m ms are)
          again,
    )

-- an inbox is legal
inbox_is : (size : ℕ) (b : Mailbox) → length b.accepted ≡ size → size ≤ most_ranks → IsMailbox b
    → length b.packets ≤ length b.accepted * greatest_clock → All IsPacket b.packets → IsSavedInbox size b
inbox_is size b count few is many are = record {
  accepted = record { count = count; each = row_of (λ n. n ≤ greatest_clock) [] b.accepted is.counts };
  count = omega (arith, count, few, many);
  packets = record { count = refl; each = packet_row size b.accepted [] b.packets count few is.each are is.rising };
}

-- ---- the payload log

-- packets that rise by clock and number are legal each behind those before it
kept_row : (rank most base : ℕ) (before ms : List PacketValue) → most ≤ greatest_clock → All (λ (m : PacketValue). m.source ≡ rank) ms
    → All (λ (m : PacketValue). m.clock ≤ most) ms → AllPairs WasBefore ms → All (λ (m : PacketValue). last_clock before < m.clock) ms
    → ((k : ℕ) (d : PacketValue) → k < length ms → (get_or ms k d).number ≡ base + length before + k + 1)
    → All IsPacket ms → AllAfter (IsNextKept rank most base) before ms
kept_row rank most base before [] small sources within rises above numbers are = tt
kept_row rank most base before (m ∷ ms) small sources within rises above numbers are =
    let is = are zero m (omega arith) in
    let tail = tail_is m is in
    let low = within zero m (omega arith) in
    let numbered : m.number ≡ base + length before + 1 = numbers zero m (omega arith) ∙ omega arith in
    let here : IsNextKept rank most base before m = record {
      rises = above zero m (omega arith);
      within = low;
      clock = omega (arith, low, small);
      tail = record {
        from = sources zero m (omega arith);
        at = refl;
        numbered = numbered;
        tag = tail.tag;
        least = tail.least;
        most = tail.most;
        items = tail.items;
      };
    } in
    let longer = length_push before m in
    let last = last_clock-push before m in
    let first = pairs_first WasBefore m ms rises in (
      here,
      kept_row rank most base (before ++ m ∷ []) ms small (all_rest (λ (x : PacketValue). x.source ≡ rank) m ms sources)
          (all_rest (λ (x : PacketValue). x.clock ≤ most) m ms within) (pairs_rest WasBefore m ms rises)
          (λ k d inside. let after = first k d inside in omega (arith, after, last))
          (λ k d inside. numbers (suc k) d (omega (arith, inside)) ∙ omega (arith, longer)) (all_rest IsPacket m ms are),
    )

-- what is kept for a destination is legal once its cursor is at rest
lane_is : (rank clock : ℕ) (b : BacklogValue) → clock ≤ greatest_clock → IsSentBy rank clock b → IsStored b → IsLane rank clock (rewound b)
lane_is rank clock b small sent stored =
    let acts = sent.acts in
    record {
      sent = omega (arith, acts);
      word = omega (arith, acts, small);
      base = stored.order.base;
      cursor = refl;
      held = refl;
      kept = record {
        count = stored.order.kept;
        each = kept_row rank clock b.base [] b.kept small (all_front (λ (m : PacketValue). m.source ≡ rank) b.kept b.held sent.sources)
            (all_front (λ (m : PacketValue). m.clock ≤ clock) b.kept b.held sent.within) (pairs_front WasBefore b.kept b.held sent.rising)
            (λ k d inside. let is = stored.packets k d inside in is.message.clock_low) (λ k d inside. stored.order.numbered k d inside
            ∙ omega arith) stored.packets;
      };
    }

-- so is what is kept for each destination
lane_row : (rank clock : ℕ) (before bs : List BacklogValue) → clock ≤ greatest_clock → All (IsSentBy rank clock) bs → All IsStored bs
    → AllAfter (λ front. IsLane rank clock) before (map rewound bs)
lane_row rank clock before [] small sent stored = tt
lane_row rank clock before (b ∷ bs) small sent stored = (
  lane_is rank clock b small (sent zero b (omega arith)) (stored zero b (omega arith)),
  lane_row rank clock (before ++ rewound b ∷ []) bs small (all_rest (IsSentBy rank clock) b bs sent) (all_rest IsStored b bs stored),
)

-- ---- the machine

-- the lengths of arrays take two bytes each
sized_fit : (arrays : List (List ℕ × ℕ)) → AllSized arrays → AllByRecursion (λ a. FitsBytes 2 a.1) arrays
sized_fit [] sized = tt
sized_fit (a ∷ arrays) sized = let most = sized.1 in (omega (arith, most), sized_fit arrays sized.2)

-- a program within its limits has a legal table
pub table_is : (p : ProgramValue) → length p.statements ≤ most_lines → length p.variables ≤ most_variables → length p.arrays ≤ most_arrays
    → AllSized p.arrays → IsTable p
table_is p lines variables arrays sized = record {
  statements = omega (arith, lines);
  variables = omega (arith, variables);
  arrays = omega (arith, arrays);
  lengths = sized_fit p.arrays sized;
}

-- the length of the list at a place
length-seam : (before : List (List ℤ)) (zs : List ℤ) (arrays : List (List ℤ))
    → slice_index (map length (before ++ zs ∷ arrays)) (length before) ≡ length zs
length-seam [] zs arrays = refl
length-seam (ys ∷ before) zs arrays = length-seam before zs arrays

-- arrays as long as the program says are legal
array_row : (lengths : List ℕ) (before arrays : List (List ℤ)) → map length (before ++ arrays) ≡ lengths → All (All (FitsSigned w64)) arrays
    → AllAfter (λ front zs. AreValues (slice_index lengths (length front)) zs) before arrays
array_row lengths before [] same each = tt
array_row lengths before (zs ∷ arrays) same each =
    let here : length zs ≡ slice_index lengths (length before) = sym (length-seam before zs arrays)
    ∙ ap (λ (ns : List ℕ). slice_index ns (length before)) same in
    let again = ap (map length) (append_assoc before (zs ∷ []) arrays) ∙ same in (
      values_are zs (slice_index lengths (length before)) here (each zero zs (omega arith)),
      array_row lengths (before ++ zs ∷ []) arrays again (all_rest (All (FitsSigned w64)) zs arrays each),
    )

-- a machine is legal
pub machine_is : (m : MachineValue) → IsMachine m → size (block_of m.program) ≡ length m.program.statements
    → length m.program.statements ≤ most_lines
    → m.store.size ≤ most_ranks → All (FitsSigned w64) m.store.gathered → All (FitsSigned w64) m.store.variables
    → All (All (FitsSigned w64)) m.store.arrays → IsSaved m.program m.store.rank m.store.size m
machine_is m is lines few ranks gathered variables arrays =
    let limits = is.limits in
    let at = limits.position in
    let source = limits.source in
    let counts = ap (length {A = ℕ}) limits.lengths in
    record {
      program = refl;
      own = refl;
      ranks = refl;
      standing = record {
        position = omega (arith, at, lines);
        word = omega (arith, at, lines, few);
        done = few_done m.store (call_of m) is.stage ranks;
        fault = limits.fault;
        gathered = few_gathered m.store (call_of m) is.stage ranks;
        values = values_are m.store.gathered (length m.store.gathered) refl gathered;
        finished = limits.finished;
      };
      status = record {
        source = limits.source;
        byte = omega (arith, source, ranks);
        tag = limits.tag;
        count = limits.count;
      };
      variables = values_are m.store.variables (length m.program.variables) limits.variables variables;
      arrays = record {
        count = sym (length-map m.store.arrays (length {A = ℤ})) ∙ counts;
        each = array_row (lengths_of m.program) [] m.store.arrays limits.lengths arrays;
      };
      stage = is.stage;
    }

-- ---- the whole image

-- what can be saved is an image once its cursors are at rest
pub image_is : (i : ImageValue) → IsSavable i → IsMachine i.machine → IsTable i.machine.program
    → IsSaved i.machine.program i.machine.store.rank i.machine.store.size i.machine
    → IsMailbox i.inbox → length i.inbox.packets ≤ length i.inbox.accepted * greatest_clock → All IsPacket i.inbox.packets
    → All IsStored i.log
    → IsImage Two i.machine.program i.machine.store.rank i.machine.store.size (at_rest i)
image_is i savable is table saved mailbox many packets stored =
    let few = savable.ranks in
    let rank = is.limits.rank in
    record {
      table = table;
      own = omega (arith, rank, few);
      ranks = omega (arith, few);
      few = few;
      machine = saved;
      clock = savable.clock;
      inbox = inbox_is i.machine.store.size i.inbox savable.accepted few mailbox many packets;
      log = record {
        count = length-map i.log rewound ∙ savable.log;
        each = lane_row i.machine.store.rank i.clock [] i.log savable.clock savable.sent stored;
      };
    }
