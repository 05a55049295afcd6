-- Where a machine stands, and the machine itself, as they are spelled and read.
use Rattle.std.proofs.Common.{◌≡◌, ℕ, Bool, true, false, ◌||◌, List, ◌++◌, length, Option, Some, None, Ok, refl, sym}
use Rattle.std.proofs.Common.{ap, subst, arith, slice_index, inl, inr}
use Rattle.std.specs.Prelude.{nat_lt, nat_le, ◌==◌}
use Rattle.std.specs.List.{flat_map}
use Rattle.std.proofs.lemmas.Bool.{leb-true, le-leb, ltb-true, lt-ltb, eqb-true, or_cases}
use Rattle.limits.specs.Limits.{greatest_tag, most_items}
use Rattle.byteorder.specs.Endian.{big_bytes}
use Rattle.rank_language.specs.Program.{ProgramValue}
use Rattle.rank_machine.specs.declared.fault.MachineFault.{MachineFault}
use Rattle.rank_machine.specs.declared.fault.MachineFault.TheVariants.{Overflow, ZeroDivide, Index, BadRank, BadTag, TooLong}
use Rattle.rank_machine.specs.declared.fault.MachineFault.TheVariants.{CollectiveMismatch}
use Rattle.rank_machine.specs.Faults.{IsLeft}
use Rattle.rank_machine.specs.Collectives.{greatest_ordinal}
use Rattle.rank_machine.specs.Machine.{MachineValue}
use Rattle.checkpoint.specs.declared.fault.ImageFault.TheVariants.{Field}
use Rattle.rank_machine.specs.declared.status.Status.{Status}
use Rattle.checkpoint.specs.Image.{MachineStanding, machine_of, standing_of, status_of, lengths_of, is_underway}
use Rattle.checkpoint.specs.Spelling.{FitsBytes, values, lengths, fault_field, standing, status, machine}
use Rattle.checkpoint.specs.Legal.{AreArrays, IsStanding, IsStatus, IsSaved}
use Rattle.checkpoint.specs.Reading.{where_holds, fault_of, fault_at, standing_at}
use Rattle.checkpoint.specs.Reading.{status_at, arrays_at, machine_at}
use Rattle.checkpoint.proofs.Fields.{Takes, takes_then, IsReader, IsPassed, step, again_then, again_last, ok_is, number}
use Rattle.checkpoint.proofs.Fields.{field_reader, many_reader, values_reader, seen_as}
use Rattle.checkpoint.proofs.Underway.{underway, passes}

-- ---- where a machine stands

-- the number of a fault that an act can leave, or of none
abbrev is_fault : ℕ → Bool
is_fault x = x == 0 || (x == 6 || x == 7)

-- a number is that of its fault
fault_back : (x : ℕ) → IsPassed 1 is_fault x → (fault_field (fault_of x) ≡ x) × IsLeft (fault_of x)
fault_back x is = elim (or_cases (x == 0) (x == 6 || x == 7) is.passed) [
  | inl a ↦ let e : x ≡ 0 = eqb-true _ _ a in rw e (refl, tt)
  | inr b ↦ elim (or_cases (x == 6) (x == 7) b) [
    | inl a ↦ let e : x ≡ 6 = eqb-true _ _ a in rw e (refl, tt)
    | inr c ↦ let e : x ≡ 7 = eqb-true _ _ c in rw e (refl, tt)
  ]
]

-- a fault is that of its number
fault_there : (k : Option MachineFault) → IsLeft k → (fault_of (fault_field k) ≡ k) × IsPassed 1 is_fault (fault_field k)
fault_there None is = (refl, record { fits = omega arith; passed = refl })
fault_there (Some TooLong) is = (refl, record { fits = omega arith; passed = refl })
fault_there (Some CollectiveMismatch) is = (refl, record { fits = omega arith; passed = refl })
fault_there (Some Overflow) is = absurd is
fault_there (Some ZeroDivide) is = absurd is
fault_there (Some Index) is = absurd is
fault_there (Some BadRank) is = absurd is
fault_there (Some BadTag) is = absurd is

-- the reader of a fault
fault_reader : IsReader fault_at (λ k. big_bytes 1 (fault_field k)) IsLeft
unfolding fault_at
fault_reader = seen_as (field_reader 1 Field is_fault) fault_of fault_field IsLeft fault_back fault_there

-- the reader of what the last message was
status_reader : (size : ℕ) → IsReader (status_at size) status (IsStatus size)
unfolding status_at status
status_reader size = record {
  takes = λ bytes x rest fits e.
      let s0 = step (field_reader 1 Field (λ x. nat_lt x size)) bytes _ (x, rest) fits e in
      let s1 = step (field_reader 2 Field (λ x. nat_le x greatest_tag)) s0.rest _ (x, rest) s0.took.fits s0.on in
      let s2 = step (field_reader 2 Field (λ x. nat_le x most_items)) s1.rest _ (x, rest) s1.took.fits s1.on in
      let made : Status = record { source = s0.item; tag = s1.item; count = s2.item } in
      let same = ok_is (made, s2.rest) (x, rest) s2.on in
      let t12 = takes_then s0.rest (big_bytes 2 s1.item) s1.rest (big_bytes 2 s2.item) s2.rest s1.took s2.took in
      let t02 = takes_then bytes (big_bytes 1 s0.item) s0.rest (big_bytes 2 s1.item ++ big_bytes 2 s2.item) s2.rest s0.took t12 in
      let is : IsStatus size made = record {
        source = ltb-true _ _ s0.is.passed;
        byte = s0.is.fits;
        tag = leb-true _ _ s1.is.passed;
        count = leb-true _ _ s2.is.passed;
      } in
      subst (λ (p : Status × List ℕ). Takes bytes (status p.0) p.1 × IsStatus size p.0) same (t02, is);
  again = λ x rest is.
      again_then (field_reader 1 Field (λ x. nat_lt x size)) x.source (big_bytes 2 x.tag ++ big_bytes 2 x.count) rest _ _
      (record { fits = is.byte; passed = lt-ltb _ _ is.source })
      (again_then (field_reader 2 Field (λ x. nat_le x greatest_tag)) x.tag (big_bytes 2 x.count) rest _ _
      (record { fits = omega (arith, is.tag); passed = le-leb _ _ is.tag })
      (again_last (field_reader 2 Field (λ x. nat_le x most_items)) x.count rest _ _
      (record { fits = omega (arith, is.count); passed = le-leb _ _ is.count }) refl));
}

-- the reader of where a machine stands
standing_reader : (statements : ℕ) → IsReader (standing_at statements) standing (IsStanding statements)
unfolding standing_at standing
standing_reader statements = record {
  takes = λ bytes x rest fits e.
      let s0 = step (field_reader 2 Field (λ x. nat_le x statements)) bytes _ (x, rest) fits e in
      let s1 = step (number 1) s0.rest _ (x, rest) s0.took.fits s0.on in
      let s2 = step fault_reader s1.rest _ (x, rest) s1.took.fits s1.on in
      let s3 = step (number 1) s2.rest _ (x, rest) s2.took.fits s2.on in
      let s4 = step (values_reader s3.item) s3.rest _ (x, rest) s3.took.fits s3.on in
      let s5 = step (field_reader 4 Field (λ x. nat_le x greatest_ordinal)) s4.rest _ (x, rest) s4.took.fits s4.on in
      let made : MachineStanding = record { position = s0.item; done = s1.item; fault = s2.item; gathered = s4.item; finished = s5.item } in
      let same = ok_is (made, s5.rest) (x, rest) s5.on in
      let count : Takes s2.rest (big_bytes 1 (length s4.item)) s3.rest = subst (λ (n : ℕ). Takes s2.rest (big_bytes 1 n) s3.rest)
      (sym s4.is.count) s3.took in
      let l3 : FitsBytes 1 s3.item = s3.is in
      let t45 = takes_then s3.rest (values s4.item) s4.rest (big_bytes 4 s5.item) s5.rest s4.took s5.took in
      let t35 = takes_then s2.rest (big_bytes 1 (length s4.item)) s3.rest (values s4.item ++ big_bytes 4 s5.item) s5.rest count t45 in
      let t25 = takes_then s1.rest (big_bytes 1 (fault_field s2.item)) s2.rest
      (big_bytes 1 (length s4.item) ++ (values s4.item ++ big_bytes 4 s5.item)) s5.rest s2.took t35 in
      let t15 = takes_then s0.rest (big_bytes 1 s1.item) s1.rest (big_bytes 1 (fault_field s2.item)
      ++ (big_bytes 1 (length s4.item) ++ (values s4.item ++ big_bytes 4 s5.item))) s5.rest s1.took t25 in
      let t05 = takes_then bytes (big_bytes 2 s0.item) s0.rest
      (big_bytes 1 s1.item ++ (big_bytes 1 (fault_field s2.item)
      ++ (big_bytes 1 (length s4.item) ++ (values s4.item ++ big_bytes 4 s5.item)))) s5.rest s0.took t15 in
      let is : IsStanding statements made = record {
        position = leb-true _ _ s0.is.passed;
        word = s0.is.fits;
        done = s1.is;
        fault = s2.is;
        gathered = omega (arith, s4.is.count, l3);
        values = record { count = refl; each = s4.is.each };
        finished = leb-true _ _ s5.is.passed;
      } in
      subst (λ (p : MachineStanding × List ℕ). Takes bytes (standing p.0) p.1 × IsStanding statements p.0) same (t05, is);
  again = λ x rest is.
      again_then (field_reader 2 Field (λ x. nat_le x statements)) x.position
      (big_bytes 1 x.done ++ (big_bytes 1 (fault_field x.fault)
      ++ (big_bytes 1 (length x.gathered) ++ (values x.gathered ++ big_bytes 4 x.finished)))) rest _ _
      (record { fits = is.word; passed = le-leb _ _ is.position })
      (again_then (number 1) x.done (big_bytes 1 (fault_field x.fault)
      ++ (big_bytes 1 (length x.gathered) ++ (values x.gathered ++ big_bytes 4 x.finished))) rest _ _ is.done
      (again_then fault_reader x.fault (big_bytes 1 (length x.gathered) ++ (values x.gathered ++ big_bytes 4 x.finished)) rest _ _
      is.fault
      (again_then (number 1) (length x.gathered) (values x.gathered ++ big_bytes 4 x.finished) rest _ _ is.gathered
      (again_then (values_reader (length x.gathered)) x.gathered (big_bytes 4 x.finished) rest _ _ is.values
      (again_last (field_reader 4 Field (λ x. nat_le x greatest_ordinal)) x.finished rest _ _
      (record { fits = omega (arith, is.finished); passed = le-leb _ _ is.finished }) refl)))));
}

-- the reader of the items of arrays
arrays_reader : (lengths : List ℕ) → IsReader (arrays_at lengths) (flat_map values) (AreArrays lengths)
arrays_reader lengths = many_reader (λ before. values_reader (slice_index lengths (length before))) (length lengths)

-- ---- the machine

-- where nothing is a fault, the test was passed
passed : {A : Type 0} (b : Bool) (x y : A) → where_holds b Field x ≡ Ok y → (b ≡ true) × (x ≡ y)
passed true x y e = (refl, cc)
passed false x y e = absurd cc

-- a legal machine is read from its bytes
machine_again : (m : MachineValue) (rest : List ℕ) → IsSaved m.program m.store.rank m.store.size m
    → machine_at m.program m.store.rank m.store.size (machine m ++ rest) ≡ Ok (m, rest)
unfolding machine_at machine
machine_again m rest is =
    again_then (standing_reader (length m.program.statements)) (standing_of m)
    (status (status_of m) ++ (values m.store.variables ++ flat_map values m.store.arrays)) rest _ _
    is.standing
    (again_then (status_reader m.store.size) (status_of m) (values m.store.variables ++ flat_map values m.store.arrays) rest _ _
    is.status
    (again_then (values_reader (length m.program.variables)) m.store.variables (flat_map values m.store.arrays) rest _ _ is.variables
    (again_last (arrays_reader (lengths_of m.program)) m.store.arrays rest _ _ is.arrays
    (ap (λ (b : Bool). where_holds b Field (m, rest)) (passes m is.stage)))))

-- a legal machine by its own program, rank and number of ranks
saved_itself : (p : ProgramValue) (rank size : ℕ) (m : MachineValue) → IsSaved p rank size m → IsSaved m.program m.store.rank m.store.size m
saved_itself p rank size m is =
    subst (λ (q : ProgramValue). IsSaved q m.store.rank m.store.size m) (sym is.program)
    (subst (λ (r : ℕ). IsSaved p r m.store.size m) (sym is.own) (subst (λ (n : ℕ). IsSaved p rank n m) (sym is.ranks) is))

-- the reader of a machine
pub machine_reader : (p : ProgramValue) (rank size : ℕ) → IsReader (machine_at p rank size) machine (IsSaved p rank size)
unfolding machine_at machine
machine_reader p rank size = record {
  takes = λ bytes m rest fits e.
      let s0 = step (standing_reader (length p.statements)) bytes _ (m, rest) fits e in
      let s1 = step (status_reader size) s0.rest _ (m, rest) s0.took.fits s0.on in
      let s2 = step (values_reader (length p.variables)) s1.rest _ (m, rest) s1.took.fits s1.on in
      let s3 = step (arrays_reader (lengths_of p)) s2.rest _ (m, rest) s2.took.fits s2.on in
      let made = machine_of p rank size s0.item s1.item s2.item s3.item in
      let pair : MachineValue × List ℕ = (made, s3.rest) in
      let g = passed (is_underway made) pair (m, rest) s3.on in
      let t23 = takes_then s1.rest (values s2.item) s2.rest (flat_map values s3.item) s3.rest s2.took s3.took in
      let t13 = takes_then s0.rest (status s1.item) s1.rest (values s2.item ++ flat_map values s3.item) s3.rest s1.took t23 in
      let t03 = takes_then bytes (standing (standing_of made)) s0.rest (status s1.item ++ (values s2.item ++ flat_map values s3.item))
      s3.rest s0.took t13 in
      let is : IsSaved p rank size made = record {
        program = refl;
        own = refl;
        ranks = refl;
        standing = s0.is;
        status = s1.is;
        variables = s2.is;
        arrays = s3.is;
        stage = underway made g.0;
      } in
      subst (λ (x : MachineValue × List ℕ). Takes bytes (machine x.0) x.1 × IsSaved p rank size x.0) g.1 (t03, is);
  again = λ m rest is. rw (← is.program, ← is.own, ← is.ranks) (machine_again m rest (saved_itself p rank size m is));
}
