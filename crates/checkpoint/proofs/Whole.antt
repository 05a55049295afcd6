-- The two laws of images: what is read is its image in one of the formats, each byte of it, and in either format an image is read
-- from its bytes.
use Rattle.std.proofs.Common.{◌≡◌, ℕ, ◌≤◌, Bool, true, false, List, [], ◌∷◌, ◌++◌, length, map, Result, Ok, Err, refl, sym, ap, subst}
use Rattle.std.proofs.Common.{◌∙◌, slice_index, arith}
use Rattle.std.specs.Prelude.{nat_le, ◌==◌, IfOk}
use Rattle.payload_log.specs.Backlog.{BacklogValue}
use Rattle.std.specs.List.{flat_map}
use Rattle.std.proofs.lemmas.Bool.{leb-true, le-leb, eqb-true}
use Rattle.std.proofs.lemmas.List.{append-nil, nil_from_length}
use Rattle.byteorder.specs.Endian.{big_bytes}
use Rattle.limits.specs.Limits.{greatest_clock}
use Rattle.matching.specs.Inbox.{Mailbox}
use Rattle.rank_language.specs.Program.{ProgramValue}
use Rattle.checkpoint.specs.declared.fault.ImageFault.{ImageFault}
use Rattle.checkpoint.specs.declared.fault.ImageFault.TheVariants.{Field, Long}
use Rattle.checkpoint.specs.Image.{ImageValue, rewound, at_rest}
use Rattle.checkpoint.specs.declared.format.Format.{Format}
use Rattle.checkpoint.specs.declared.format.Format.TheVariants.{One, Two}
use Rattle.checkpoint.specs.Spelling.{FitsBytes, packet, lane, heading, origin, table, machine, inbox, text_in}
use Rattle.checkpoint.specs.Legal.{IsRow, IsLane, IsSavedInbox, IsImage, IsTextOf}
use Rattle.checkpoint.specs.Reading.{Read, Gives, ◌>>=◌, where_holds, count_at, log_at, inbox_at, image_at, reading}
use Rattle.checkpoint.proofs.Fields.{IsBytes, Takes, takes_then, IsReader, IsPassed, step, again_then, again_last, ok_is, number}
use Rattle.checkpoint.proofs.Fields.{field_reader, many_reader}
use Rattle.checkpoint.proofs.Packets.{word, packet_reader, lane_reader}
use Rattle.checkpoint.proofs.Machines.{origin_reader, table_reader}
use Rattle.checkpoint.proofs.MachinesRead.{machine_reader}

-- ---- counts

-- a number that passes the test is a count
count_back : (x : ℕ) → IsPassed 4 (λ x. nat_le x greatest_clock) x → x ≤ greatest_clock
count_back x is = leb-true _ _ is.passed

-- the reader of a count
count_reader : IsReader count_at (big_bytes 4) (λ n. n ≤ greatest_clock)
count_reader =
    let r = field_reader 4 Field (λ x. nat_le x greatest_clock) in
    record {
      takes = λ bytes x rest fits e. let t = r.takes bytes x rest fits e in (t.0, count_back x t.1);
      again = λ x rest is. r.again x rest (record { fits = word x is; passed = le-leb _ _ is });
    }

-- ---- the inbox

-- the reader of an inbox
inbox_reader : (size : ℕ) → IsReader (inbox_at size) inbox (IsSavedInbox size)
unfolding inbox_at inbox
inbox_reader size = record {
  takes = λ bytes b rest fits e.
      let s0 = step (many_reader (λ before. count_reader) size) bytes _ (b, rest) fits e in
      let s1 = step (number 4) s0.rest _ (b, rest) s0.took.fits s0.on in
      let s2 = step (many_reader (packet_reader size s0.item) s1.item) s1.rest _ (b, rest) s1.took.fits s1.on in
      let made : Mailbox = record { packets = s2.item; accepted = s0.item } in
      let same = ok_is (made, s2.rest) (b, rest) s2.on in
      let count : Takes s0.rest (big_bytes 4 (length s2.item)) s1.rest = subst (λ (n : ℕ). Takes s0.rest (big_bytes 4 n) s1.rest)
      (sym s2.is.count) s1.took in
      let l1 : FitsBytes 4 s1.item = s1.is in
      let t12 = takes_then s0.rest (big_bytes 4 (length s2.item)) s1.rest (flat_map packet s2.item) s2.rest count s2.took in
      let t02 = takes_then bytes (flat_map (big_bytes 4) s0.item) s0.rest (big_bytes 4 (length s2.item) ++ flat_map packet s2.item) s2.rest
      s0.took t12 in
      let is : IsSavedInbox size made = record {
        accepted = s0.is;
        count = omega (arith, s2.is.count, l1);
        packets = record { count = refl; each = s2.is.each };
      } in
      subst (λ (p : Mailbox × List ℕ). Takes bytes (inbox p.0) p.1 × IsSavedInbox size p.0) same (t02, is);
  again = λ b rest is.
      again_then (many_reader (λ before. count_reader) size) b.accepted (big_bytes 4 (length b.packets) ++ flat_map packet b.packets) rest _
      _ is.accepted
      (again_then (number 4) (length b.packets) (flat_map packet b.packets) rest _ _ is.count
      (again_last (many_reader (packet_reader size b.accepted) (length b.packets)) b.packets rest _ _ is.packets refl));
}

-- ---- the payload log

-- the reader of a payload log
log_reader : (rank clock size : ℕ) → clock ≤ greatest_clock
    → IsReader (log_at rank clock size) (flat_map lane) (IsRow (λ before. IsLane rank clock) size)
unfolding log_at
log_reader rank clock size small = many_reader (λ before. lane_reader rank clock small) size

-- ---- the whole image

-- the bytes of an image of this rank and program in a format
abbrev spelled : Format → ProgramValue → ℕ → ℕ → ImageValue → List ℕ
spelled format p rank size i = origin format rank size
    ++ (table p ++ (machine i.machine ++ (big_bytes 4 i.clock ++ (inbox i.inbox ++ flat_map lane i.log))))

-- a legal image in a format was taken from the front of the bytes, and this is left
record TakesImage (p : ProgramValue) (rank size : ℕ) (bytes : List ℕ) (i : ImageValue) (rest : List ℕ) : Type 0 where
  format : Format
  took : Takes bytes (spelled format p rank size i) rest
  is : IsImage format p rank size i

-- an image that is read is legal in some format, and has its bytes there
image_takes : (p : ProgramValue) (rank size : ℕ) → FitsBytes 1 rank → FitsBytes 1 size → (bytes : List ℕ) (i : ImageValue) (rest : List ℕ)
    → IsBytes bytes → image_at p rank size bytes ≡ Ok (i, rest) → TakesImage p rank size bytes i rest
unfolding image_at
image_takes p rank size small few bytes i rest fits e =
    let s0 = step (origin_reader rank size small few) bytes _ (i, rest) fits e in
    let s1 = step (table_reader p) s0.rest _ (i, rest) s0.took.fits s0.on in
    let s2 = step (machine_reader p rank size) s1.rest _ (i, rest) s1.took.fits s1.on in
    let s3 = step count_reader s2.rest _ (i, rest) s2.took.fits s2.on in
    let s4 = step (inbox_reader size) s3.rest _ (i, rest) s3.took.fits s3.on in
    let s5 = step (log_reader rank s3.item size s3.is) s4.rest _ (i, rest) s4.took.fits s4.on in
    let made : ImageValue = record { machine = s2.item; clock = s3.item; inbox = s4.item; log = s5.item } in
    let same = ok_is (made, s5.rest) (i, rest) s5.on in
    let t45 = takes_then s3.rest (inbox s4.item) s4.rest (flat_map lane s5.item) s5.rest s4.took s5.took in
    let t35 = takes_then s2.rest (big_bytes 4 s3.item) s3.rest (inbox s4.item ++ flat_map lane s5.item) s5.rest s3.took t45 in
    let t25 = takes_then s1.rest (machine s2.item) s2.rest (big_bytes 4 s3.item ++ (inbox s4.item ++ flat_map lane s5.item)) s5.rest s2.took
    t35 in
    let t15 = takes_then s0.rest (table p) s1.rest (machine s2.item ++ (big_bytes 4 s3.item ++ (inbox s4.item ++ flat_map lane s5.item)))
    s5.rest s1.took t25 in
    let t05 = takes_then bytes (origin s0.item rank size) s0.rest
    (table p ++ (machine s2.item ++ (big_bytes 4 s3.item ++ (inbox s4.item ++ flat_map lane s5.item)))) s5.rest s0.took t15 in
    let is : IsImage s0.item p rank size made = record {
      table = s1.is;
      own = small;
      ranks = few;
      few = s0.is;
      machine = s2.is;
      clock = s3.is;
      inbox = s4.is;
      log = s5.is;
    } in
    subst (λ (x : ImageValue × List ℕ). TakesImage p rank size bytes x.0 x.1) same (record { format = s0.item; took = t05; is = is })

-- a legal image is read from its bytes, in either format
image_again : (format : Format) (p : ProgramValue) (rank size : ℕ) (i : ImageValue) (rest : List ℕ) → IsImage format p rank size i
    → image_at p rank size (spelled format p rank size i ++ rest) ≡ Ok (i, rest)
unfolding image_at
image_again format p rank size i rest is =
    again_then (origin_reader rank size is.own is.ranks) format
    (table p ++ (machine i.machine ++ (big_bytes 4 i.clock ++ (inbox i.inbox ++ flat_map lane i.log)))) rest _ _ is.few
    (again_then (table_reader p) tt (machine i.machine ++ (big_bytes 4 i.clock ++ (inbox i.inbox ++ flat_map lane i.log))) rest _ _
    is.table
    (again_then (machine_reader p rank size) i.machine (big_bytes 4 i.clock ++ (inbox i.inbox ++ flat_map lane i.log)) rest _ _
    is.machine
    (again_then count_reader i.clock (inbox i.inbox ++ flat_map lane i.log) rest _ _ is.clock
    (again_then (inbox_reader size) i.inbox (flat_map lane i.log) rest _ _ is.inbox
    (again_last (log_reader rank i.clock size is.clock) i.log rest _ _ is.log refl)))))

-- the bytes of an image name its own program, rank and number of ranks
text_is : (format : Format) (p : ProgramValue) (rank size : ℕ) (i : ImageValue) → IsImage format p rank size i
    → spelled format p rank size i ≡ text_in format i
unfolding text_in
text_is format p rank size i is = rw (← is.machine.program, ← is.machine.own, ← is.machine.ranks) refl

-- where nothing is a fault, no bytes are left
ended : {A : Type 0} (b : Bool) (x y : A) → where_holds b Long x ≡ Ok y → (b ≡ true) × (x ≡ y)
ended true x y e = (refl, cc)
ended false x y e = absurd cc

-- where all of the bytes were read, they were read up to their end
read_whole : (read : Read ImageValue) (i : ImageValue) → (read >>= λ x. where_holds (length x.1 == 0) Long x.0) ≡ Ok i → read ≡ Ok (i, [])
read_whole (Ok x) i e =
    let g = ended (length x.1 == 0) x.0 i e in
    let nothing : x.1 ≡ [] = nil_from_length x.1 (eqb-true _ _ g.0) in
    λ k. Ok (g.1 k, nothing k)
read_whole (Err f) i e = absurd cc

-- bytes that are read are their image in one of the formats
pub read_is_text : (p : ProgramValue) (rank size : ℕ) → FitsBytes 1 rank → FitsBytes 1 size → (bytes : List ℕ) (i : ImageValue) → IsBytes bytes
    → reading p rank size bytes ≡ Ok i → IsTextOf p rank size bytes i
unfolding reading
read_is_text p rank size small few bytes i fits e =
    let t = image_takes p rank size small few bytes i [] fits (read_whole (image_at p rank size bytes) i e) in
    let parts : bytes ≡ spelled t.format p rank size i = t.took.parts ∙ append-nil (spelled t.format p rank size i) in
    (t.format, record { spelled = parts ∙ text_is t.format p rank size i t.is; image = t.is })

-- a legal image is read from its bytes, in either format
pub text_is_read : (format : Format) (p : ProgramValue) (rank size : ℕ) (i : ImageValue) → IsImage format p rank size i
    → reading p rank size (text_in format i) ≡ Ok i
unfolding reading
text_is_read format p rank size i is =
    let again = image_again format p rank size i [] is in
    let same : text_in format i ≡ spelled format p rank size i ++ [] = sym (text_is format p rank size i is)
    ∙ sym (append-nil (spelled format p rank size i)) in
    ap (λ (b : List ℕ). image_at p rank size b >>= λ x. where_holds (length x.1 == 0) Long x.0) same
    ∙ ap (λ (r : Read ImageValue). r >>= λ x. where_holds (length x.1 == 0) Long x.0) again

-- what a call read is an image in one of the formats
pub is_found : {X : Type 0} (p : ProgramValue) (rank size : ℕ) → FitsBytes 1 rank → FitsBytes 1 size
    → (bytes : List ℕ) (r : Result X ImageFault) (view : X → ImageValue) → IsBytes bytes → Gives view r (reading p rank size bytes) →
    IfOk r (λ x. IsTextOf p rank size bytes (view x))
is_found p rank size small few bytes (Ok x) view fits given = read_is_text p rank size small few bytes (view x) fits given
is_found p rank size small few bytes (Err e) view fits given = tt

-- the first byte tells the formats apart
pub texts_apart : (i j : ImageValue) → text_in One i ≡ text_in Two j → ⊥
unfolding text_in origin heading
texts_apart i j same = absurd (omega (arith, ap (λ (bytes : List ℕ). slice_index bytes 0) same))

-- the cursors of lanes aren't in the bytes
pub lanes_rest : (log : List BacklogValue) → flat_map lane (map rewound log) ≡ flat_map lane log
unfolding lane
lanes_rest [] = refl
lanes_rest (b ∷ bs) = ap (λ (rest : List ℕ). lane b ++ rest) (lanes_rest bs)

-- the cursors aren't in the bytes
pub text_at_rest : (format : Format) (i : ImageValue) → text_in format (at_rest i) ≡ text_in format i
unfolding text_in
text_at_rest format i =
    let front : List ℕ → List ℕ = λ rest. origin format i.machine.store.rank i.machine.store.size
    ++ (table i.machine.program ++ (machine i.machine ++ (big_bytes 4 i.clock ++ (inbox i.inbox ++ rest)))) in
    ap front (lanes_rest i.log)
