-- What a reader is: what it reads was spelled so, and what is spelled so it reads, whatever follows. Readers of numbers
-- are the first, and readers in a row and of many items are made of readers.
use Rattle.std.proofs.Common.{◌%◌, ◌/◌, ◌≡◌, ℕ, zero, suc, ◌+◌, ◌*◌, ◌^◌, ◌<◌, ◌≤◌, Bool, true, false, cond, ltb, List, [], ◌∷◌, ◌++◌}
use Rattle.std.proofs.Common.{length, take, drop, slice_index, Result, Ok, Err, refl, sym, ap, subst, ◌∙◌, append_assoc, arith, ℤ}
use Rattle.std.specs.Prelude.{FitsSigned}
use Rattle.std.specs.Int.{w64, cast_signed, cast_unsigned, byte_at}
use Rattle.std.specs.List.{flat_map}
use Rattle.std.proofs.Math.Nat.{add-mul, add_assoc, div-one, mul_assoc, pow-succ', zero-mul}
use mir.ValLaws.{of_z_fits}
use borrow.Author.Gap.{read_sfits}
use Rattle.std.proofs.Math.Facts.{Fits-lt-pow}
use Rattle.std.proofs.lemmas.Nat.{div-mul-add}
use Rattle.std.proofs.lemmas.Bool.{ltb-false, le-ltb}
use Rattle.std.proofs.lemmas.Int.{of_z-to_z, to_z-of_z}
use Rattle.std.proofs.lemmas.List.{append-nil, drop_at, take-append-drop, length-append, get_or-drop}
use Rattle.std.proofs.lemmas.List.Concat.{flat_map-cons}
use Rattle.byteorder.specs.Endian.{big_from, big_number, big_bytes}
use Rattle.byteorder.specs.Numbers.{big_from-cons, big_number-reads_back, big_from-lt, length-bytes_high_first}
use Rattle.checkpoint.specs.declared.fault.ImageFault.{ImageFault}
use Rattle.checkpoint.specs.declared.fault.ImageFault.TheVariants.{Short}
use Rattle.checkpoint.specs.Spelling.{FitsBytes, value, values}
use Rattle.checkpoint.specs.Legal.{AllAfter, IsRow, AreValues}
use Rattle.checkpoint.specs.Reading.{Read, ◌>>=◌, number_at, field, where_holds, many_at, value_at, values_at}

-- each number is a byte
abbrev pub IsBytes : List ℕ → Type 0
IsBytes bytes = (i : ℕ) → slice_index bytes i < 256

-- what is left of bytes is bytes
IsBytes-drop : (n : ℕ) (bytes : List ℕ) → IsBytes bytes → IsBytes (drop n bytes)
IsBytes-drop n bytes h i = rw get_or-drop (h (n + i))

-- a text was taken from the front of the bytes, and this is left
pub record Takes (bytes text rest : List ℕ) : Type 0 where
  pub parts : bytes ≡ text ++ rest
  pub fits : IsBytes rest

-- one text is taken behind another
pub takes_then : (a x b y c : List ℕ) → Takes a x b → Takes b y c → Takes a (x ++ y) c
takes_then a x b y c p q = record { parts = p.parts ∙ ap (λ (t : List ℕ). x ++ t) q.parts ∙ sym (append_assoc x y c); fits = q.fits }

-- what is read has this text and is legal, and what is legal is read from its text
pub record IsReader {A : Type 0} (read : List ℕ → Read A) (text : A → List ℕ) (Is : A → Type 0) : Type 0 where
  pub takes : (bytes : List ℕ) (x : A) (rest : List ℕ) → IsBytes bytes → read bytes ≡ Ok (x, rest) → Takes bytes (text x) rest × Is x
  pub again : (x : A) (rest : List ℕ) → Is x → read (text x ++ rest) ≡ Ok (x, rest)

-- a step that didn't fail
pub record Step {A B : Type 0} (bytes : List ℕ) (text : A → List ℕ) (Is : A → Type 0) (goes : A × List ℕ → Result B ImageFault) (y : B)
    : Type 0 where
  pub item : A
  pub rest : List ℕ
  pub on : goes (item, rest) ≡ Ok y
  pub took : Takes bytes (text item) rest
  pub is : Is item

-- a step by what was read
step_of : {A B : Type 0} (read : List ℕ → Read A) (text : A → List ℕ) (Is : A → Type 0) → IsReader read text Is
    → (bytes : List ℕ) (goes : A × List ℕ → Result B ImageFault) (y : B) → IsBytes bytes →
    (r : Read A) → read bytes ≡ r → (r >>= goes) ≡ Ok y → Step bytes text Is goes y
step_of read text Is reader bytes goes y fits (Ok x) e on =
    let t = reader.takes bytes x.0 x.1 fits e in
    record { item = x.0; rest = x.1; on = on; took = t.0; is = t.1 }
step_of read text Is reader bytes goes y fits (Err f) e on = absurd cc

-- what is read first, where all of it was read
pub step : {A B : Type 0} {read : List ℕ → Read A} {text : A → List ℕ} {Is : A → Type 0} → IsReader read text Is
    → (bytes : List ℕ) (goes : A × List ℕ → Result B ImageFault) (y : B) → IsBytes bytes →
    (read bytes >>= goes) ≡ Ok y → Step bytes text Is goes y
step {read = read} {text = text} {Is = Is} reader bytes goes y fits e = step_of read text Is reader bytes goes y fits (read bytes) refl e

-- a reader reads its text in front of another, and then what follows is read
pub again_then : {A B : Type 0} {read : List ℕ → Read A} {text : A → List ℕ} {Is : A → Type 0} → IsReader read text Is
    → (x : A) (more rest : List ℕ) (goes : A × List ℕ → Result B ImageFault) (y : Result B ImageFault) → Is x →
    goes (x, more ++ rest) ≡ y → (read ((text x ++ more) ++ rest) >>= goes) ≡ y
again_then {read = read} {text = text} reader x more rest goes y is e =
    ap (λ (bytes : List ℕ). read bytes >>= goes) (append_assoc (text x) more rest) ∙ ap (λ (r : Read _). r >>= goes)
    (reader.again x (more ++ rest) is) ∙ e

-- the last reader of a row
pub again_last : {A B : Type 0} {read : List ℕ → Read A} {text : A → List ℕ} {Is : A → Type 0} → IsReader read text Is
    → (x : A) (rest : List ℕ) (goes : A × List ℕ → Result B ImageFault) (y : Result B ImageFault) → Is x →
    goes (x, rest) ≡ y → (read (text x ++ rest) >>= goes) ≡ y
again_last reader x rest goes y is e = ap (λ (r : Read _). r >>= goes) (reader.again x rest is) ∙ e

-- ---- numbers

-- a byte of a number, by its place
byte_at-pow : (k x : ℕ) → byte_at k x ≡ x / 256 ^ k % 256
byte_at-pow zero x = ap (λ (y : ℕ). y % 256) (sym (div-one x))
byte_at-pow (suc k) x = refl

-- the bytes of a number whose low bytes were read from these are these
bytes_again : (n c : ℕ) (bytes : List ℕ) → n ≤ length bytes → IsBytes bytes → big_bytes n (c * 256 ^ n + big_number n bytes) ≡ take n bytes
bytes_again zero c bytes long fits = refl
bytes_again (suc n) c [] long fits = absurd (omega arith)
bytes_again (suc n) c (b ∷ bs) long fits =
    let rest_fits : IsBytes bs = λ i. fits (suc i) in
    let low = big_from-lt 0 n bs rest_fits in
    let top = fits 0 in
    let moved = big_from-cons 0 n b bs in
    let split : c * 256 ^ suc n + (b * 256 ^ n + big_from 1 n (b ∷ bs)) ≡ (c * 256 + b) * 256 ^ n + big_number n bs =
    rw (moved, pow-succ' 256 n) (sym (add_assoc (c * (256 * 256 ^ n)) (b * 256 ^ n) (big_number n bs))
    ∙ ap (λ (x : ℕ). x + big_number n bs) (ap (λ (x : ℕ). x + b * 256 ^ n) (sym (mul_assoc c 256 (256 ^ n)))
    ∙ sym (add-mul (c * 256) b (256 ^ n)))) in
    let digit : byte_at n ((c * 256 + b) * 256 ^ n + big_number n bs) ≡ b =
    byte_at-pow n _ ∙ ap (λ (x : ℕ). x % 256) (div-mul-add (c * 256 + b) (256 ^ n) (big_number n bs) low) ∙ omega (arith, top) in
    let others = bytes_again n (c * 256 + b) bs (omega (arith, long)) rest_fits in
    ap (big_bytes (suc n)) split ∙ rw (digit, others) refl

-- where a test is no fault, it failed
guard_ok : {A : Type 0} (b : Bool) (d : ImageFault) (x y : A) → cond b (Err d) (Ok x) ≡ Ok y → (b ≡ false) × (x ≡ y)
guard_ok true d x y e = absurd cc
guard_ok false d x y e = (refl, cc)

-- a number with nothing above it
under : (n x : ℕ) → x ≡ 0 * 256 ^ n + x
under n x = let e : 0 * 256 ^ n ≡ 0 = zero-mul (256 ^ n) in omega (arith, e)

-- a number that is read has its bytes
number_takes : (n : ℕ) (bytes : List ℕ) (x : ℕ) (rest : List ℕ) → IsBytes bytes → number_at n bytes ≡ Ok (x, rest)
    → Takes bytes (big_bytes n x) rest × FitsBytes n x
number_takes n bytes x rest fits e =
    let g = guard_ok (ltb (length bytes) n) Short (big_number n bytes, drop n bytes) (x, rest) e in
    let long : n ≤ length bytes = ltb-false _ _ g.0 in
    let x-is : big_number n bytes ≡ x = ap (λ (p : ℕ × List ℕ). p.0) g.1 in
    let rest-is : drop n bytes ≡ rest = ap (λ (p : ℕ × List ℕ). p.1) g.1 in
    let front : big_bytes n x ≡ take n bytes = rw (← x-is) (ap (big_bytes n) (under n (big_number n bytes))
    ∙ bytes_again n 0 bytes long fits) in (
      record { parts = rw (front, ← rest-is) (sym (take-append-drop n bytes)); fits = rw (← rest-is) (IsBytes-drop n bytes fits) },
      rw (← x-is) (big_from-lt 0 n bytes fits),
    )

-- a number is read from its bytes
number_again : (n x : ℕ) (rest : List ℕ) → FitsBytes n x → number_at n (big_bytes n x ++ rest) ≡ Ok (x, rest)
number_again n x rest lt =
    let len : length (big_bytes n x) ≡ n = length-bytes_high_first n x in
    let long : ltb (length (big_bytes n x ++ rest)) n ≡ false = le-ltb _ _ (omega (arith, length-append (big_bytes n x) rest)) in
    rw (long, big_number-reads_back n x rest lt, drop_at (big_bytes n x) rest n len) refl

-- the reader of a number
pub number : (n : ℕ) → IsReader (number_at n) (big_bytes n) (FitsBytes n)
number n = record { takes = number_takes n; again = number_again n }

-- a number that passes the test
pub record IsPassed (n : ℕ) (passes : ℕ → Bool) (x : ℕ) : Type 0 where
  pub fits : FitsBytes n x
  pub passed : passes x ≡ true

-- where nothing is a fault, the test was passed
passed_ok : {A : Type 0} (b : Bool) (d : ImageFault) (x y : A) → where_holds b d x ≡ Ok y → (b ≡ true) × (x ≡ y)
passed_ok true d x y e = (refl, cc)
passed_ok false d x y e = absurd cc

-- the reader of a number that passes a test
pub field_reader : (n : ℕ) (fault : ImageFault) (passes : ℕ → Bool) → IsReader (field n fault passes) (big_bytes n) (IsPassed n passes)
unfolding field
field_reader n fault passes = record {
  takes = λ bytes x rest fits e.
      let s = step (number n) bytes (λ p. where_holds (passes p.0) fault p) (x, rest) fits e in
      let g = passed_ok (passes s.item) fault (s.item, s.rest) (x, rest) s.on in
      subst (λ (p : ℕ × List ℕ). Takes bytes (big_bytes n p.0) p.1 × IsPassed n passes p.0) g.1
      (s.took, record { fits = s.is; passed = g.0 });
  again = λ x rest is. ap (λ (r : Read ℕ). r >>= λ p. where_holds (passes p.0) fault p) (number_again n x rest is.fits)
      ∙ rw is.passed refl;
}

-- ---- values

-- the bits of a value in n bytes, of which 8 are enough
abbrev bits_at : ℕ → List ℕ → Read ℤ
bits_at n bytes = number_at n bytes >>= λ x. Ok (cast_signed w64 x.0, x.1)

-- what is answered is what was made
pub ok_is : {A : Type 0} (x y : A) → where_holds true Short x ≡ Ok y → x ≡ y
ok_is x y e = cc

-- what 8 bytes hold are 64 bits
narrow : (n x : ℕ) → n ≡ 8 → x < 256 ^ n → x < 2 ^ 64
narrow n x e l = subst (λ (k : ℕ). x < 256 ^ k) e l

-- and 64 bits take 8 bytes
widen : (n x : ℕ) → n ≡ 8 → x < 2 ^ 64 → x < 256 ^ n
widen n x e l = subst (λ (k : ℕ). x < 256 ^ k) (sym e) l

-- a value that is read has its bits
bits_take : (n : ℕ) → n ≡ 8 → (bytes : List ℕ) (x : ℤ) (rest : List ℕ) → IsBytes bytes → bits_at n bytes ≡ Ok (x, rest)
    → Takes bytes (big_bytes n (cast_unsigned w64 x)) rest × FitsSigned w64 x
bits_take n e bytes x rest fits given =
    let s = step (number n) bytes (λ p. Ok (cast_signed w64 p.0, p.1)) (x, rest) fits given in
    let same = ok_is (cast_signed w64 s.item, s.rest) (x, rest) s.on in
    let small : s.item < 2 ^ 64 = narrow n s.item e s.is in
    let front : cast_unsigned w64 (cast_signed w64 s.item) ≡ s.item = of_z-to_z w64 s.item small in
    let took : Takes bytes (big_bytes n (cast_unsigned w64 (cast_signed w64 s.item))) s.rest =
    subst (λ (k : ℕ). Takes bytes (big_bytes n k) s.rest) (sym front) s.took in
    subst (λ (p : ℤ × List ℕ). Takes bytes (big_bytes n (cast_unsigned w64 p.0)) p.1 × FitsSigned w64 p.0) same
    (took, read_sfits w64 s.item)

-- a value is read from its bits
bits_again : (n : ℕ) → n ≡ 8 → (x : ℤ) (rest : List ℕ) → FitsSigned w64 x
    → bits_at n (big_bytes n (cast_unsigned w64 x) ++ rest) ≡ Ok (x, rest)
bits_again n e x rest is =
    let small : cast_unsigned w64 x < 256 ^ n = widen n (cast_unsigned w64 x) e (Fits-lt-pow (of_z_fits w64 x is)) in
    ap (λ (r : Read ℕ). r >>= λ p. Ok (cast_signed w64 p.0, p.1)) (number_again n (cast_unsigned w64 x) rest small)
    ∙ ap (λ (z : ℤ). where_holds true Short (z, rest)) (to_z-of_z w64 x is)

-- the reader of a value
value_reader : IsReader value_at value (FitsSigned w64)
unfolding value_at value
value_reader = record { takes = bits_take 8 refl; again = bits_again 8 refl }

-- ---- items in a row

-- items that are read have their texts, and each is legal behind those before it
many_step : {A : Type 0} (read : List A → List ℕ → Read A) (text : A → List ℕ) (Is : List A → A → Type 0)
    → ((before : List A) → IsReader (read before) text (Is before)) →
    (n : ℕ) (before : List A) (bytes : List ℕ) (all : List A) (rest : List ℕ) → IsBytes bytes → many_at read n before bytes
    ≡ Ok (all, rest) →
    (items : List A) × (all ≡ before ++ items) × (length items ≡ n) × AllAfter Is before items × Takes bytes (flat_map text items) rest
unfolding many_at
many_step {A = A} read text Is reader zero before bytes all rest fits e =
    let same = ok_is (before, bytes) (all, rest) e in
    subst (λ (p : List A × List ℕ). (items : List A) × (p.0 ≡ before ++ items) × (length items ≡ 0) × AllAfter Is before items × Takes bytes
    (flat_map text items) p.1) same ([], sym (append-nil before), refl, tt, record { parts = refl; fits = fits })
many_step {A = A} read text Is reader (suc n) before bytes all rest fits e =
    let s = step (reader before) bytes (λ item. many_at read n (before ++ item.0 ∷ []) item.1) (all, rest) fits e in
    let m = many_step read text Is reader n (before ++ s.item ∷ []) s.rest all rest s.took.fits s.on in (
      s.item ∷ m.0,
      m.1 ∙ append_assoc before (s.item ∷ []) m.0,
      ap suc m.2,
      (s.is, m.3),
      rw flat_map-cons (takes_then bytes (text s.item) s.rest (flat_map text m.0) rest s.took m.4),
    )

-- legal items are read from their texts
many_again_step : {A : Type 0} (read : List A → List ℕ → Read A) (text : A → List ℕ) (Is : List A → A → Type 0)
    → ((before : List A) → IsReader (read before) text (Is before)) →
    (before items : List A) (rest : List ℕ) → AllAfter Is before items → many_at read (length items) before (flat_map text items ++ rest)
    ≡ Ok (before ++ items, rest)
unfolding many_at
many_again_step read text Is reader before [] rest is = ap (λ (xs : List _). where_holds true Short (xs, rest)) (sym (append-nil before))
many_again_step read text Is reader before (x ∷ xs) rest is =
    let more = many_again_step read text Is reader (before ++ x ∷ []) xs rest is.1
    ∙ ap (λ (ys : List _). where_holds true Short (ys, rest)) (append_assoc before (x ∷ []) xs) in
    ap (λ (b : List ℕ). read before b >>= λ item. many_at read (length xs) (before ++ item.0 ∷ []) item.1)
    (ap (λ (b : List ℕ). b ++ rest) (flat_map-cons text x xs))
    ∙ again_then (reader before) x (flat_map text xs) rest (λ item. many_at read (length xs) (before ++ item.0 ∷ []) item.1)
    (Ok (before ++ x ∷ xs, rest)) is.0 more

-- the reader of items in a row
pub many_reader : {A : Type 0} {read : List A → List ℕ → Read A} {text : A → List ℕ} {Is : List A → A → Type 0}
    → ((before : List A) → IsReader (read before) text (Is before)) →
    (n : ℕ) → IsReader (many_at read n []) (flat_map text) (IsRow Is n)
many_reader {A = A} {read = read} {text = text} {Is = Is} reader n = record {
  takes = λ bytes all rest fits e.
      let m = many_step read text Is reader n [] bytes all rest fits e in
      subst (λ (xs : List A). Takes bytes (flat_map text xs) rest × IsRow Is n xs) (sym m.1) (m.4, record { count = m.2; each = m.3 });
  again = λ items rest is. subst (λ (k : ℕ). many_at read k [] (flat_map text items ++ rest) ≡ Ok (items, rest)) is.count
      (many_again_step read text Is reader [] items rest is.each);
}

-- the reader of values in a row
pub values_reader : (n : ℕ) → IsReader (values_at n) values (AreValues n)
values_reader n = many_reader (λ before. value_reader) n

-- ---- another view of what is read

-- what is read, seen as something else that says the same
pub seen_as : {A B : Type 0} {read : List ℕ → Read A} {text : A → List ℕ} {Is : A → Type 0} → IsReader read text Is
    → (f : A → B) (g : B → A) (Is' : B → Type 0) →
    ((x : A) → Is x → (g (f x) ≡ x) × Is' (f x)) → ((y : B) → Is' y → (f (g y) ≡ y) × Is (g y)) →
    IsReader (λ bytes. read bytes >>= λ x. Ok (f x.0, x.1)) (λ y. text (g y)) Is'
seen_as {A = A} {B = B} {text = text} reader f g Is' to from = record {
  takes = λ bytes y rest fits e.
      let s = step reader bytes (λ x. Ok (f x.0, x.1)) (y, rest) fits e in
      let same = ok_is (f s.item, s.rest) (y, rest) s.on in
      let t = to s.item s.is in
      subst (λ (p : B × List ℕ). Takes bytes (text (g p.0)) p.1 × Is' p.0) same
      (subst (λ (x : A). Takes bytes (text x) s.rest) (sym t.0) s.took, t.1);
  again = λ y rest is.
      let t = from y is in
      again_last reader (g y) rest (λ x. Ok (f x.0, x.1)) (Ok (y, rest)) t.1 (ap (λ (z : B). where_holds true Short (z, rest)) t.0);
}
