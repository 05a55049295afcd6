-- Readers of the header and of the machine.
use Rattle.std.proofs.Common.{◌≡◌, ℕ, ◌≤◌, Bool, true, false, ◌||◌, List, [], ◌∷◌, ◌++◌, length, Ok, refl, sym}
use Rattle.std.proofs.Common.{ap, subst, ◌∙◌, arith}
use Rattle.std.specs.Prelude.{nat_le, ◌==◌, ◌&&◌}
use Rattle.std.specs.List.{AllByRecursion}
use Rattle.std.proofs.lemmas.Bool.{leb-true, le-leb, eqb-true, eq-eqb, and_parts, and_from}
use Rattle.std.proofs.lemmas.List.Concat.{flat_map-cons}
use Rattle.byteorder.specs.Endian.{big_bytes}
use Rattle.rank_language.specs.Program.{ProgramValue}
use Rattle.checkpoint.specs.declared.fault.ImageFault.TheVariants.{Version, WrongProgram}
use Rattle.checkpoint.specs.declared.format.Format.{Format}
use Rattle.checkpoint.specs.declared.format.Format.TheVariants.{One, Two}
use Rattle.checkpoint.specs.Spelling.{number_of, event_version, events, heading}
use Rattle.checkpoint.specs.Spelling.{FitsBytes, origin, lengths, table}
use Rattle.checkpoint.specs.Legal.{IsTable}
use Rattle.checkpoint.specs.Reading.{events_at, format_of, format_at, most_ranks_in}
use Rattle.checkpoint.specs.Reading.{◌>>=◌, field, origin_at, lengths_at, table_at}
use Rattle.checkpoint.proofs.Fields.{IsBytes, Takes, takes_then, IsReader, IsPassed, step, again_then, again_last, ok_is}
use Rattle.checkpoint.proofs.Fields.{field_reader}

-- ---- the header

-- the version of event words that a format names, if it does
events_reader : (format : Format) → IsReader (events_at format) events (λ read. read ≡ format)
events_reader One = record {
  takes = λ bytes read rest fits e.
      let same = ok_is (One, bytes) (read, rest) e in
      subst (λ (p : Format × List ℕ). Takes bytes (events p.0) p.1 × (p.0 ≡ One)) same (record { parts = refl; fits = fits }, refl);
  again = λ read rest is. subst (λ (f : Format). events_at One (events f ++ rest) ≡ Ok (f, rest)) (sym is) refl;
}
events_reader Two = record {
  takes = λ bytes read rest fits e.
      let s0 = step (field_reader 1 Version (λ x. x == event_version)) bytes (λ x. Ok (Two, x.1)) (read, rest) fits e in
      let same = ok_is (Two, s0.rest) (read, rest) s0.on in
      let e0 : s0.item ≡ event_version = eqb-true _ _ s0.is.passed in
      let t0 : Takes bytes (big_bytes 1 event_version) s0.rest = subst (λ (n : ℕ). Takes bytes (big_bytes 1 n) s0.rest) e0 s0.took in
      subst (λ (p : Format × List ℕ). Takes bytes (events p.0) p.1 × (p.0 ≡ Two)) same (t0, refl);
  again = λ read rest is. subst (λ (f : Format). events_at Two (events f ++ rest) ≡ Ok (f, rest)) (sym is)
      (again_last (field_reader 1 Version (λ x. x == event_version)) event_version rest (λ x. Ok (Two, x.1)) (Ok (Two, rest))
      (record { fits = omega arith; passed = refl }) refl);
}

-- a number is one of a format
abbrev is_number : ℕ → Bool
is_number x = x == number_of One || x == number_of Two

-- the format of a number has that number
number_back : (x : ℕ) → is_number x ≡ true → number_of (format_of x) ≡ x
number_back x passed = at (x == number_of One) refl
  where
    at : (b : Bool) → (x == number_of One) ≡ b → number_of (format_of x) ≡ x
    at true e = rw e (sym (eqb-true _ _ e))
    at false e = let second : (x == number_of Two) ≡ true = subst (λ (b : Bool). (b || x == number_of Two) ≡ true) e passed in
        rw e (sym (eqb-true _ _ second))

-- a format is that of its number
format_again : (format : Format) → format_of (number_of format) ≡ format
format_again One = refl
format_again Two = refl

-- its number is one of a format, and takes a byte
number_passes : (format : Format) → IsPassed 1 is_number (number_of format)
number_passes One = record { fits = omega arith; passed = refl }
number_passes Two = record { fits = omega arith; passed = refl }

-- the reader of the format
format_reader : IsReader format_at heading (λ format. Unit {0})
unfolding format_at heading
format_reader = record {
  takes = λ bytes format rest fits e.
      let s0 = step (field_reader 1 Version is_number) bytes _ (format, rest) fits e in
      let t = (events_reader (format_of s0.item)).takes s0.rest format rest s0.took.fits s0.on in
      let e0 : s0.item ≡ number_of format = sym (number_back s0.item s0.is.passed) ∙ ap number_of (sym t.1) in
      let t0 : Takes bytes (big_bytes 1 (number_of format)) s0.rest = subst (λ (n : ℕ). Takes bytes (big_bytes 1 n) s0.rest) e0 s0.took in
      (takes_then bytes (big_bytes 1 (number_of format)) s0.rest (events format) rest t0 t.0, tt);
  again = λ format rest is.
      again_then (field_reader 1 Version is_number) (number_of format) (events format) rest (λ version. events_at (format_of version.0) version.1)
      (Ok (format, rest)) (number_passes format)
      (subst (λ (f : Format). events_at f (events format ++ rest) ≡ Ok (format, rest)) (sym (format_again format))
      ((events_reader format).again format rest refl));
}

-- the number of ranks is the caller's, and not more than the format can have
abbrev is_size : ℕ → Format → ℕ → Bool
is_size size format x = x == size && nat_le x (most_ranks_in format)

-- the reader of the format, the rank and the number of ranks
pub origin_reader : (rank size : ℕ) → FitsBytes 1 rank → FitsBytes 1 size
    → IsReader (origin_at rank size) (λ format. origin format rank size) (λ format. size ≤ most_ranks_in format)
unfolding origin_at origin
origin_reader rank size small few = record {
  takes = λ bytes format rest fits e.
      let s0 = step format_reader bytes _ (format, rest) fits e in
      let s1 = step (field_reader 1 WrongProgram (λ x. x == rank)) s0.rest _ (format, rest) s0.took.fits s0.on in
      let s2 = step (field_reader 1 WrongProgram (is_size size s0.item)) s1.rest _ (format, rest) s1.took.fits s1.on in
      let same = ok_is (s0.item, s2.rest) (format, rest) s2.on in
      let both = and_parts _ _ s2.is.passed in
      let e1 : s1.item ≡ rank = eqb-true _ _ s1.is.passed in
      let e2 : s2.item ≡ size = eqb-true _ _ both.0 in
      let within : size ≤ most_ranks_in s0.item = subst (λ (n : ℕ). n ≤ most_ranks_in s0.item) e2 (leb-true _ _ both.1) in
      let t1 : Takes s0.rest (big_bytes 1 rank) s1.rest = subst (λ (n : ℕ). Takes s0.rest (big_bytes 1 n) s1.rest) e1 s1.took in
      let t2 : Takes s1.rest (big_bytes 1 size) s2.rest = subst (λ (n : ℕ). Takes s1.rest (big_bytes 1 n) s2.rest) e2 s2.took in
      let t12 = takes_then s0.rest (big_bytes 1 rank) s1.rest (big_bytes 1 size) s2.rest t1 t2 in
      let t02 = takes_then bytes (heading s0.item) s0.rest (big_bytes 1 rank ++ big_bytes 1 size) s2.rest s0.took t12 in
      subst (λ (p : Format × List ℕ). Takes bytes (origin p.0 rank size) p.1 × (size ≤ most_ranks_in p.0)) same (t02, within);
  again = λ format rest within.
      again_then format_reader format (big_bytes 1 rank ++ big_bytes 1 size) rest _ _ tt
      (again_then (field_reader 1 WrongProgram (λ x. x == rank)) rank (big_bytes 1 size) rest _ _
      (record { fits = omega (arith, small); passed = eq-eqb rank rank refl })
      (again_last (field_reader 1 WrongProgram (is_size size format)) size rest _ _
      (record { fits = omega (arith, few); passed = and_from _ _ (eq-eqb size size refl) (le-leb _ _ within) }) refl));
}

-- lengths that are read are the program's, and have their bytes
lengths_take : (arrays : List (List ℕ × ℕ)) (bytes rest : List ℕ) → IsBytes bytes → lengths_at arrays bytes ≡ Ok (tt, rest)
    → Takes bytes (lengths arrays) rest × AllByRecursion (λ a. FitsBytes 2 a.1) arrays
unfolding lengths_at
lengths_take [] bytes rest fits e =
    let same = ok_is (tt, bytes) (tt, rest) e in
    subst (λ (p : Unit {0} × List ℕ). Takes bytes [] p.1 × Unit {0}) same (record { parts = refl; fits = fits }, tt)
lengths_take (a ∷ as_) bytes rest fits e =
    let s0 = step (field_reader 2 WrongProgram (λ x. x == a.1)) bytes _ (tt, rest) fits e in
    let e0 : s0.item ≡ a.1 = eqb-true _ _ s0.is.passed in
    let t0 : Takes bytes (big_bytes 2 a.1) s0.rest = subst (λ (n : ℕ). Takes bytes (big_bytes 2 n) s0.rest) e0 s0.took in
    let m = lengths_take as_ s0.rest rest s0.took.fits s0.on in
    let l : FitsBytes 2 s0.item = s0.is.fits in
    (rw flat_map-cons (takes_then bytes (big_bytes 2 a.1) s0.rest (lengths as_) rest t0 m.0), (omega (arith, e0, l), m.1))

-- the program's lengths are read from their bytes
lengths_again : (arrays : List (List ℕ × ℕ)) (rest : List ℕ) → AllByRecursion (λ a. FitsBytes 2 a.1) arrays
    → lengths_at arrays (lengths arrays ++ rest) ≡ Ok (tt, rest)
unfolding lengths_at
lengths_again [] rest is = refl
lengths_again (a ∷ as_) rest is =
    ap (λ (b : List ℕ). field 2 WrongProgram (λ x. x == a.1) b >>= λ l. lengths_at as_ l.1)
    (ap (λ (b : List ℕ). b ++ rest) (flat_map-cons (λ (x : List ℕ × ℕ). big_bytes 2 x.1) a as_))
    ∙ again_then (field_reader 2 WrongProgram (λ x. x == a.1)) a.1 (lengths as_) rest (λ l. lengths_at as_ l.1) (Ok (tt, rest))
    (record { fits = is.0; passed = eq-eqb a.1 a.1 refl }) (lengths_again as_ rest is.1)

-- the reader of the lengths
lengths_reader : (arrays : List (List ℕ × ℕ))
    → IsReader (lengths_at arrays) (λ u. lengths arrays) (λ u. AllByRecursion (λ a. FitsBytes 2 a.1) arrays)
lengths_reader arrays = record {
  takes = λ bytes u rest fits e. lengths_take arrays bytes rest fits e;
  again = λ u rest is. lengths_again arrays rest is;
}

-- the reader of the program's numbers
pub table_reader : (p : ProgramValue) → IsReader (table_at p) (λ u. table p) (λ u. IsTable p)
unfolding table_at table
table_reader p = record {
  takes = λ bytes u rest fits e.
      let s0 = step (field_reader 2 WrongProgram (λ x. x == length p.statements)) bytes _ (u, rest) fits e in
      let s1 = step (field_reader 1 WrongProgram (λ x. x == length p.variables)) s0.rest _ (u, rest) s0.took.fits s0.on in
      let s2 = step (field_reader 1 WrongProgram (λ x. x == length p.arrays)) s1.rest _ (u, rest) s1.took.fits s1.on in
      let m = (lengths_reader p.arrays).takes s2.rest u rest s2.took.fits s2.on in
      let e0 : s0.item ≡ length p.statements = eqb-true _ _ s0.is.passed in
      let e1 : s1.item ≡ length p.variables = eqb-true _ _ s1.is.passed in
      let e2 : s2.item ≡ length p.arrays = eqb-true _ _ s2.is.passed in
      let t0 : Takes bytes (big_bytes 2 (length p.statements)) s0.rest = subst (λ (n : ℕ). Takes bytes (big_bytes 2 n) s0.rest) e0
      s0.took in
      let t1 : Takes s0.rest (big_bytes 1 (length p.variables)) s1.rest = subst (λ (n : ℕ). Takes s0.rest (big_bytes 1 n) s1.rest) e1
      s1.took in
      let t2 : Takes s1.rest (big_bytes 1 (length p.arrays)) s2.rest = subst (λ (n : ℕ). Takes s1.rest (big_bytes 1 n) s2.rest) e2
      s2.took in
      let l0 : FitsBytes 2 s0.item = s0.is.fits in
      let l1 : FitsBytes 1 s1.item = s1.is.fits in
      let l2 : FitsBytes 1 s2.item = s2.is.fits in
      let t23 = takes_then s1.rest (big_bytes 1 (length p.arrays)) s2.rest (lengths p.arrays) rest t2 m.0 in
      let t13 = takes_then s0.rest (big_bytes 1 (length p.variables)) s1.rest (big_bytes 1 (length p.arrays) ++ lengths p.arrays) rest t1
      t23 in
      let t03 = takes_then bytes (big_bytes 2 (length p.statements)) s0.rest (big_bytes 1 (length p.variables)
      ++ (big_bytes 1 (length p.arrays) ++ lengths p.arrays)) rest t0 t13 in (
        t03,
        record {
          statements = omega (arith, e0, l0);
          variables = omega (arith, e1, l1);
          arrays = omega (arith, e2, l2);
          lengths = m.1;
        },
      );
  again = λ u rest is.
      again_then (field_reader 2 WrongProgram (λ x. x == length p.statements)) (length p.statements) (big_bytes 1 (length p.variables)
      ++ (big_bytes 1 (length p.arrays) ++ lengths p.arrays)) rest _ _
      (record { fits = is.statements; passed = eq-eqb (length p.statements) _ refl })
      (again_then (field_reader 1 WrongProgram (λ x. x == length p.variables)) (length p.variables) (big_bytes 1 (length p.arrays)
      ++ lengths p.arrays) rest _ _ (record { fits = is.variables; passed = eq-eqb (length p.variables) _ refl })
      (again_then (field_reader 1 WrongProgram (λ x. x == length p.arrays)) (length p.arrays) (lengths p.arrays) rest _ _
      (record { fits = is.arrays; passed = eq-eqb (length p.arrays) _ refl })
      (lengths_again p.arrays rest is.lengths)));
}
