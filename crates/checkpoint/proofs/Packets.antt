-- Readers of packets, and of what is kept for a destination.
use Rattle.std.proofs.Common.{◌≡◌, ℕ, zero, suc, ◌+◌, ◌-◌, ◌<◌, ◌≤◌, true, ◌&&◌, List, [], ◌++◌, length, Ok, refl, sym, subst, ◌^◌, arith}
use Rattle.std.specs.Prelude.{nat_lt, nat_le}
use Rattle.std.specs.List.{flat_map}
use Rattle.std.proofs.lemmas.Bool.{leb-true, le-leb, ltb-true, lt-ltb, and_parts, and_from}
use Rattle.byteorder.specs.Endian.{big_bytes}
use Rattle.limits.specs.Limits.{greatest_clock}
use Rattle.matching.specs.declared.packet.Context.{Context}
use Rattle.matching.specs.declared.packet.Context.TheVariants.{PointToPoint, Collective}
use Rattle.matching.specs.PacketValue.{PacketValue, least_items, most_items, greatest_tag}
use Rattle.matching.specs.Inbox.{Mailbox, may_follow}
use Rattle.payload_log.specs.Backlog.{BacklogValue}
use Rattle.checkpoint.specs.declared.fault.ImageFault.TheVariants.{Field}
use Rattle.checkpoint.specs.Spelling.{FitsBytes, values, context_number, tail, packet, kept, lane}
use Rattle.checkpoint.specs.Legal.{IsTail, IsNextPacket, IsNextKept, IsLane}
use Rattle.checkpoint.specs.Reading.{where_holds, context_of, context_at, tail_at, packet_at, last_clock, kept_above, kept_at, lane_at}
use Rattle.checkpoint.proofs.Fields.{Takes, takes_then, IsReader, IsPassed, step, again_then, again_last, ok_is, field_reader, many_reader}
use Rattle.checkpoint.proofs.Fields.{values_reader, seen_as}

-- ---- the context

-- a number is that of its context
context_back : (x : ℕ) → IsPassed 1 (λ x. nat_le x 1) x → (context_number (context_of x) ≡ x) × Unit {0}
context_back zero is = (refl, tt)
context_back (suc zero) is = (refl, tt)
context_back (suc (suc x)) is = let l = leb-true (suc (suc x)) 1 is.passed in absurd (omega (arith, l))

-- a context is that of its number
context_there : (c : Context) → Unit {0} → (context_of (context_number c) ≡ c) × IsPassed 1 (λ x. nat_le x 1) (context_number c)
context_there PointToPoint is = (refl, record { fits = omega arith; passed = refl })
context_there Collective is = (refl, record { fits = omega arith; passed = refl })

-- the reader of a context
context_reader : IsReader context_at (λ c. big_bytes 1 (context_number c)) (λ c. Unit {0})
unfolding context_at
context_reader = seen_as (field_reader 1 Field (λ x. nat_le x 1)) context_of context_number (λ c. Unit {0}) context_back context_there

-- ---- tails

-- the limits of a context take two bytes
least_most : (c : Context) → FitsBytes 2 (most_items c) × FitsBytes 2 (greatest_tag c)
least_most PointToPoint = (omega arith, omega arith)
least_most Collective = (omega arith, omega arith)

-- a legal message by its own numbers
own : (source clock number : ℕ) (m : PacketValue) → IsTail source clock number m → IsTail m.source m.clock m.number m
own source clock number m is = record {
  from = refl;
  at = refl;
  numbered = refl;
  tag = is.tag;
  least = is.least;
  most = is.most;
  items = is.items;
}

-- a legal message is read from its tail
tail_again : (m : PacketValue) (rest : List ℕ) → IsTail m.source m.clock m.number m
    → tail_at m.source m.clock m.number (tail m ++ rest) ≡ Ok (m, rest)
unfolding tail_at tail
tail_again m rest is =
    let limits = least_most m.context in
    let count = length m.items in
    again_then context_reader m.context (big_bytes 2 m.tag ++ (big_bytes 2 count ++ values m.items)) rest _ _ tt
    (again_then (field_reader 2 Field (λ x. nat_le x (greatest_tag m.context))) m.tag (big_bytes 2 count ++ values m.items) rest _ _
    (record { fits = omega (arith, is.tag, limits.1); passed = le-leb _ _ is.tag })
    (again_then (field_reader 2 Field (λ x. nat_le (least_items m.context) x && nat_le x (most_items m.context))) count (values m.items)
    rest _ _ (record { fits = omega (arith, is.most, limits.0); passed = and_from _ _ (le-leb _ _ is.least) (le-leb _ _ is.most) })
    (again_last (values_reader count) m.items rest _ _ is.items refl)))

-- the reader of tails
tail_reader : (source clock number : ℕ) → IsReader (tail_at source clock number) tail (IsTail source clock number)
unfolding tail_at tail
tail_reader source clock number = record {
  takes = λ bytes m rest fits e.
      let s0 = step context_reader bytes _ (m, rest) fits e in
      let s1 = step (field_reader 2 Field (λ x. nat_le x (greatest_tag s0.item))) s0.rest _ (m, rest) s0.took.fits s0.on in
      let s2 = step (field_reader 2 Field (λ x. nat_le (least_items s0.item) x && nat_le x (most_items s0.item))) s1.rest _ (m, rest)
      s1.took.fits s1.on in
      let s3 = step (values_reader s2.item) s2.rest _ (m, rest) s2.took.fits s2.on in
      let made : PacketValue = record { source = source; clock = clock; number = number; context = s0.item; tag = s1.item; items = s3.item } in
      let same = ok_is (made, s3.rest) (m, rest) s3.on in
      let count : Takes s1.rest (big_bytes 2 (length s3.item)) s2.rest = subst (λ (n : ℕ). Takes s1.rest (big_bytes 2 n) s2.rest)
      (sym s3.is.count) s2.took in
      let t2 = takes_then s1.rest (big_bytes 2 (length s3.item)) s2.rest (values s3.item) s3.rest count s3.took in
      let t1 = takes_then s0.rest (big_bytes 2 s1.item) s1.rest (big_bytes 2 (length s3.item) ++ values s3.item) s3.rest s1.took t2 in
      let t0 = takes_then bytes (big_bytes 1 (context_number s0.item)) s0.rest
      (big_bytes 2 s1.item ++ (big_bytes 2 (length s3.item) ++ values s3.item)) s3.rest s0.took t1 in
      let p = and_parts _ _ s2.is.passed in
      let low : least_items s0.item ≤ s2.item = leb-true _ _ p.0 in
      let high : s2.item ≤ most_items s0.item = leb-true _ _ p.1 in
      let is : IsTail source clock number made = record {
        from = refl;
        at = refl;
        numbered = refl;
        tag = leb-true _ _ s1.is.passed;
        least = omega (arith, low, s3.is.count);
        most = omega (arith, high, s3.is.count);
        items = record { count = refl; each = s3.is.each };
      } in
      subst (λ (p : PacketValue × List ℕ). Takes bytes (tail p.0) p.1 × IsTail source clock number p.0) same (t0, is);
  again = λ m rest is. rw (← is.from, ← is.at, ← is.numbered) (tail_again m rest (own source clock number m is));
}

-- ---- packets of the inbox

-- a clock takes four bytes
pub word : (x : ℕ) → x ≤ greatest_clock → x < 256 ^ 4
word x l = omega (arith, l)

-- an inbox of these packets and counts
abbrev box_of : List PacketValue → List ℕ → Mailbox
box_of before accepted = record { packets = before; accepted = accepted }

-- what was read is a packet with its bytes
packet_taken : (size : ℕ) (accepted : List ℕ) (before : List PacketValue) (bytes : List ℕ) (source clock number : ℕ) (m : PacketValue)
    (rest : List ℕ) → source ≡ m.source → clock ≡ m.clock → number ≡ m.number →
    Takes bytes (big_bytes 1 source ++ (big_bytes 4 clock ++ (big_bytes 4 number ++ tail m))) rest → source < size → FitsBytes 1 source
    → 1 ≤ clock → clock ≤ greatest_clock → FitsBytes 4 number → may_follow (box_of before accepted) source number ≡ true →
    IsTail source clock number m → Takes bytes (packet m) rest × IsNextPacket size accepted before m
unfolding packet tail
packet_taken size accepted before bytes source clock number m rest e0 e1 e2 t below byte low high small follows is =
    let took : Takes bytes (big_bytes 1 m.source ++ (big_bytes 4 m.clock ++ (big_bytes 4 m.number ++ tail m))) rest =
    rw (← e0, ← e1, ← e2) t in
    let f : may_follow (box_of before accepted) m.source m.number ≡ true = rw (← e0, ← e2) follows in (
      took,
      record {
        source = omega (arith, e0, below);
        byte = omega (arith, e0, byte);
        clock_low = omega (arith, e1, low);
        clock_high = omega (arith, e1, high);
        number = omega (arith, e2, small);
        follows = f;
        tail = own source clock number m is;
      },
    )

-- the reader of a packet behind others
pub packet_reader : (size : ℕ) (accepted : List ℕ) (before : List PacketValue)
    → IsReader (packet_at size accepted before) packet (IsNextPacket size accepted before)
unfolding packet_at packet
packet_reader size accepted before = record {
  takes = λ bytes m rest fits e.
      let s0 = step (field_reader 1 Field (λ x. nat_lt x size)) bytes _ (m, rest) fits e in
      let s1 = step (field_reader 4 Field (λ x. nat_le 1 x && nat_le x greatest_clock)) s0.rest _ (m, rest) s0.took.fits s0.on in
      let s2 = step (field_reader 4 Field (may_follow (box_of before accepted) s0.item)) s1.rest _ (m, rest) s1.took.fits s1.on in
      let t3 = (tail_reader s0.item s1.item s2.item).takes s2.rest m rest s2.took.fits s2.on in
      let source : s0.item ≡ m.source = sym t3.1.from in
      let clock : s1.item ≡ m.clock = sym t3.1.at in
      let number : s2.item ≡ m.number = sym t3.1.numbered in
      let p = and_parts _ _ s1.is.passed in
      let low : 1 ≤ s1.item = leb-true _ _ p.0 in
      let high : s1.item ≤ greatest_clock = leb-true _ _ p.1 in
      let below : s0.item < size = ltb-true _ _ s0.is.passed in
      let t2 = takes_then s1.rest (big_bytes 4 s2.item) s2.rest (tail m) rest s2.took t3.0 in
      let t1 = takes_then s0.rest (big_bytes 4 s1.item) s1.rest (big_bytes 4 s2.item ++ tail m) rest s1.took t2 in
      let t0 = takes_then bytes (big_bytes 1 s0.item) s0.rest (big_bytes 4 s1.item ++ (big_bytes 4 s2.item ++ tail m)) rest s0.took t1 in
      packet_taken size accepted before bytes s0.item s1.item s2.item m rest source clock number t0 below s0.is.fits low high s2.is.fits
      s2.is.passed t3.1;
  again = λ m rest is.
      again_then (field_reader 1 Field (λ x. nat_lt x size)) m.source (big_bytes 4 m.clock ++ (big_bytes 4 m.number ++ tail m)) rest _ _
      (record { fits = is.byte; passed = lt-ltb _ _ is.source })
      (again_then (field_reader 4 Field (λ x. nat_le 1 x && nat_le x greatest_clock)) m.clock (big_bytes 4 m.number ++ tail m) rest _ _
      (record { fits = word m.clock is.clock_high; passed = and_from _ _ (le-leb _ _ is.clock_low) (le-leb _ _ is.clock_high) })
      (again_then (field_reader 4 Field (may_follow (box_of before accepted) m.source)) m.number (tail m) rest _ _
      (record { fits = is.number; passed = is.follows })
      ((tail_reader m.source m.clock m.number).again m rest is.tail)));
}

-- ---- packets that are kept

-- what was read is a kept packet with its bytes
kept_taken : (rank most base : ℕ) (before : List PacketValue) (bytes : List ℕ) (clock : ℕ) (m : PacketValue) (rest : List ℕ) → clock ≡ m.clock
    → Takes bytes (big_bytes 4 clock ++ tail m) rest → last_clock before < clock → clock ≤ most → FitsBytes 4 clock →
    IsTail rank clock (base + length before + 1) m → Takes bytes (kept m) rest × IsNextKept rank most base before m
unfolding kept tail
kept_taken rank most base before bytes clock m rest e t rises within small is =
    let took : Takes bytes (big_bytes 4 m.clock ++ tail m) rest = rw (← e) t in
    let own_clock : IsTail rank m.clock (base + length before + 1) m = record {
      from = is.from;
      at = refl;
      numbered = is.numbered;
      tag = is.tag;
      least = is.least;
      most = is.most;
      items = is.items;
    } in
    (took, record { rises = omega (arith, e, rises); within = omega (arith, e, within); clock = omega (arith, e, small); tail = own_clock })

-- the reader of a kept packet behind others
kept_reader : (rank most base : ℕ) → most ≤ greatest_clock → (before : List PacketValue)
    → IsReader (kept_at rank most base before) kept (IsNextKept rank most base before)
unfolding kept_above kept
kept_reader rank most base small before = record {
  takes = λ bytes m rest fits e.
      let s0 = step (field_reader 4 Field (λ x. nat_lt (last_clock before) x && nat_le x most)) bytes _ (m, rest) fits e in
      let t1 = (tail_reader rank s0.item (base + length before + 1)).takes s0.rest m rest s0.took.fits s0.on in
      let p = and_parts _ _ s0.is.passed in
      let t0 = takes_then bytes (big_bytes 4 s0.item) s0.rest (tail m) rest s0.took t1.0 in
      kept_taken rank most base before bytes s0.item m rest (sym t1.1.at) t0 (ltb-true _ _ p.0) (leb-true _ _ p.1) s0.is.fits t1.1;
  again = λ m rest is.
      again_then (field_reader 4 Field (λ x. nat_lt (last_clock before) x && nat_le x most)) m.clock (tail m) rest _ _
      (record { fits = is.clock; passed = and_from _ _ (lt-ltb _ _ is.rises) (le-leb _ _ is.within) })
      ((tail_reader rank m.clock (base + length before + 1)).again m rest is.tail);
}

-- ---- what is kept for a destination

-- a lane with this cursor and what is held
abbrev with_cursor : BacklogValue → List ℕ → ℕ → List PacketValue → BacklogValue × List ℕ
with_cursor b rest cursor held = (record b { cursor = cursor; held = held }, rest)

-- a legal lane is read from its bytes
lane_again : (rank clock : ℕ) → clock ≤ greatest_clock → (b : BacklogValue) (rest : List ℕ) → IsLane rank clock b
    → lane_at rank clock (lane b ++ rest) ≡ Ok (b, rest)
unfolding lane_at lane
lane_again rank clock small b rest is =
    again_then (field_reader 4 Field (λ x. nat_le x clock)) b.sent (big_bytes 4 b.base ++ flat_map kept b.kept) rest _ _
    (record { fits = is.word; passed = le-leb _ _ is.sent })
    (again_then (field_reader 4 Field (λ x. nat_le x greatest_clock)) b.base (flat_map kept b.kept) rest _ _
    (record { fits = word b.base is.base; passed = le-leb _ _ is.base })
    (again_last (many_reader (kept_reader rank clock b.base small) (b.sent - b.base)) b.kept rest _ _ is.kept
    (λ i. where_holds true Field (with_cursor b rest (sym is.cursor i) (sym is.held i)))))

-- the reader of a lane
pub lane_reader : (rank clock : ℕ) → clock ≤ greatest_clock → IsReader (lane_at rank clock) lane (IsLane rank clock)
unfolding lane_at lane
lane_reader rank clock small = record {
  takes = λ bytes b rest fits e.
      let s0 = step (field_reader 4 Field (λ x. nat_le x clock)) bytes _ (b, rest) fits e in
      let s1 = step (field_reader 4 Field (λ x. nat_le x greatest_clock)) s0.rest _ (b, rest) s0.took.fits s0.on in
      let s2 = step (many_reader (kept_reader rank clock s1.item small) (s0.item - s1.item)) s1.rest _ (b, rest) s1.took.fits s1.on in
      let made : BacklogValue = record { base = s1.item; sent = s0.item; cursor = s1.item + 1; kept = s2.item; held = [] } in
      let same = ok_is (made, s2.rest) (b, rest) s2.on in
      let t1 = takes_then s0.rest (big_bytes 4 s1.item) s1.rest (flat_map kept s2.item) s2.rest s1.took s2.took in
      let t0 = takes_then bytes (big_bytes 4 s0.item) s0.rest (big_bytes 4 s1.item ++ flat_map kept s2.item) s2.rest s0.took t1 in
      let is : IsLane rank clock made = record {
        sent = leb-true _ _ s0.is.passed;
        word = s0.is.fits;
        base = leb-true _ _ s1.is.passed;
        cursor = refl;
        held = refl;
        kept = s2.is;
      } in
      subst (λ (p : BacklogValue × List ℕ). Takes bytes (lane p.0) p.1 × IsLane rank clock p.0) same (t0, is);
  again = λ b rest is. lane_again rank clock small b rest is;
}
