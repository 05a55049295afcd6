-- Reading what belongs to each array of a program, as a loop over the arrays does.
use Rattle.std.proofs.Common.{◌≡◌, ℕ, zero, suc, ◌+◌, ◌≤◌, ◌<◌, ℤ, List, [], ◌∷◌, ◌++◌, length, map, take, drop, get_or, slice_index, Ok}
use Rattle.std.proofs.Common.{Err, refl, sym, ap, subst, ◌∙◌, arith}
use Rattle.std.specs.Prelude.{◌==◌}
use Rattle.std.proofs.lemmas.List.{drop_more, take_more, take_all, map_push, flat_map_more}
use Rattle.limits.specs.Limits.{most_items}
use Rattle.rank_text.specs.declared.checker.scope.Array.{Array}
use Rattle.rank_text.specs.Checker.SeenLines.{arrays_seen}
use Rattle.rank_text.proofs.CheckerLaws.ScopeLaws.{arrays_push}
use Rattle.rank_language.specs.Program.{AllSized}
use Rattle.checkpoint.specs.declared.fault.ImageFault.{ImageFault}
use Rattle.checkpoint.specs.declared.fault.ImageFault.TheVariants.{Version, Short, Long, Field, WrongProgram, Memory}
use Rattle.byteorder.specs.Endian.{big_bytes}
use Rattle.checkpoint.specs.Spelling.{lengths}
use Rattle.checkpoint.specs.Reading.{Read, ◌>>=◌, Fails, field, lengths_at}

-- the length of one array more was read
pub lengths_on : (xs : List Array) (i : ℕ) (d a : Array) (bytes after : List ℕ) (total : Read (Unit {0})) → i < length xs
    → a ≡ get_or xs i d → field 2 WrongProgram (λ x. x == a.length) bytes ≡ Ok (a.length, after)
    → lengths_at (arrays_seen (drop i xs)) bytes ≡ total → lengths_at (arrays_seen (drop (i + 1) xs)) after ≡ total
unfolding lengths_at
lengths_on xs i d a bytes after total lt e h so_far =
    let k : drop i xs ≡ a ∷ drop (i + 1) xs = drop_more xs i d lt ∙ ap (λ (x : Array). x ∷ drop (i + 1) xs) (sym e) in
    let one : lengths_at (arrays_seen (drop i xs)) bytes ≡ lengths_at (arrays_seen (drop (i + 1) xs)) after =
    ap (λ (ys : List Array). lengths_at (arrays_seen ys) bytes) k
    ∙ ap (λ (r : Read ℕ). r >>= λ l. lengths_at (arrays_seen (drop (i + 1) xs)) l.1) h in
    sym one ∙ so_far

-- a length that is a fault ends all with this fault
lengths_fault : (f : ImageFault) (xs : List Array) (i : ℕ) (d a : Array) (bytes : List ℕ) (total : Read (Unit {0})) → i < length xs
    → a ≡ get_or xs i d → field 2 WrongProgram (λ x. x == a.length) bytes ≡ Err f
    → lengths_at (arrays_seen (drop i xs)) bytes ≡ total → total ≡ Err f
unfolding lengths_at
lengths_fault f xs i d a bytes total lt e h so_far =
    let k : drop i xs ≡ a ∷ drop (i + 1) xs = drop_more xs i d lt ∙ ap (λ (x : Array). x ∷ drop (i + 1) xs) (sym e) in
    let one : lengths_at (arrays_seen (drop i xs)) bytes ≡ Err f = ap (λ (ys : List Array). lengths_at (arrays_seen ys) bytes) k
    ∙ ap (λ (r : Read ℕ). r >>= λ l. lengths_at (arrays_seen (drop (i + 1) xs)) l.1) h in
    sym so_far ∙ one

-- so does one where memory may have run out
pub lengths_end : (f : ImageFault) (xs : List Array) (i : ℕ) (d a : Array) (bytes : List ℕ) (total : Read (Unit {0})) → i < length xs
    → a ≡ get_or xs i d → Fails f (field 2 WrongProgram (λ x. x == a.length) bytes)
    → lengths_at (arrays_seen (drop i xs)) bytes ≡ total → Fails f total
lengths_end Memory xs i d a bytes total lt e h so_far = tt
lengths_end Version xs i d a bytes total lt e h so_far = lengths_fault Version xs i d a bytes total lt e h so_far
lengths_end Short xs i d a bytes total lt e h so_far = lengths_fault Short xs i d a bytes total lt e h so_far
lengths_end Long xs i d a bytes total lt e h so_far = lengths_fault Long xs i d a bytes total lt e h so_far
lengths_end Field xs i d a bytes total lt e h so_far = lengths_fault Field xs i d a bytes total lt e h so_far
lengths_end WrongProgram xs i d a bytes total lt e h so_far = lengths_fault WrongProgram xs i d a bytes total lt e h so_far

-- the length of the array at a place
pub length_at : (xs : List Array) (i : ℕ) (d : Array) → i < length xs
    → slice_index (map (λ a. a.1) (arrays_seen xs)) i ≡ (get_or xs i d).length
length_at [] i d lt = absurd (omega (arith, lt))
length_at (a ∷ xs) zero d lt = refl
length_at (a ∷ xs) (suc i) d lt = length_at xs i d (omega (arith, lt))

-- the array at a place has its size
sized_at : (xs : List Array) (i : ℕ) (d : Array) → i < length xs → AllSized (arrays_seen xs)
    → (1 ≤ (get_or xs i d).length) × ((get_or xs i d).length ≤ most_items)
sized_at [] i d lt s = absurd (omega (arith, lt))
sized_at (a ∷ xs) zero d lt s = (s.0, s.1)
sized_at (a ∷ xs) (suc i) d lt s = sized_at xs i d (omega (arith, lt)) s.2

-- there are as many lengths as arrays
pub lengths_length : (xs : List Array) → length (map (λ a. a.1) (arrays_seen xs)) ≡ length xs
lengths_length [] = refl
lengths_length (a ∷ xs) = ap suc (lengths_length xs)

-- the lengths of a program's arrays
abbrev pub lengths_in : List Array → List ℕ
lengths_in xs = map (λ a. a.1) (arrays_seen xs)

-- as many items are read for the array behind those that were read
pub number_here : (xs : List Array) (i : ℕ) (d a : Array) (before : List (List ℤ)) → i < length xs → a ≡ get_or xs i d → length before ≡ i
    → a.length ≡ slice_index (lengths_in xs) (length before)
number_here xs i d a before lt e f = ap (λ (x : Array). x.length) e ∙ sym (length_at xs i d lt) ∙ ap (slice_index (lengths_in xs)) (sym f)

-- the array that is looked at has its size
pub is_sized : (xs : List Array) (i : ℕ) (d a : Array) → i < length xs → a ≡ get_or xs i d → AllSized (arrays_seen xs)
    → (1 ≤ a.length) × (a.length ≤ most_items)
is_sized xs i d a lt e s = subst (λ (x : Array). (1 ≤ x.length) × (x.length ≤ most_items)) (sym e) (sized_at xs i d lt s)

-- the items of one array more were read
pub arrays_more : (xs : List Array) (i : ℕ) (d a : Array) (found : List (List ℤ)) (items : List ℤ) → i < length xs → a ≡ get_or xs i d
    → length items ≡ a.length → map length found ≡ take i (lengths_in xs) → map length (found ++ items ∷ []) ≡ take (i + 1) (lengths_in xs)
arrays_more xs i d a found items lt e f so_far =
    let within : i < length (lengths_in xs) = omega (arith, lengths_length xs, lt) in
    let here : length items ≡ slice_index (lengths_in xs) i = f ∙ ap (λ (x : Array). x.length) e ∙ sym (length_at xs i d lt) in
    map_push length found items ∙ ap (λ (ns : List ℕ). ns ++ length items ∷ []) so_far ∙ ap (λ (n : ℕ). take i (lengths_in xs) ++ n ∷ [])
    here ∙ sym (take_more (lengths_in xs) i 0 within)

-- those of all arrays were read
pub all_arrays : (xs : List Array) (i : ℕ) (found : List (List ℤ)) → length xs ≤ i → map length found ≡ take i (lengths_in xs)
    → map length found ≡ lengths_in xs
all_arrays xs i found le e = e ∙ take_all i (lengths_in xs) (omega (arith, lengths_length xs, le))

-- one length more was written
pub lengths_more : (xs : List Array) (i : ℕ) (d a : Array) (out old : List ℕ) → i < length xs → a ≡ get_or xs i d
    → out ≡ old ++ lengths (arrays_seen (take i xs)) → out ++ big_bytes 2 a.length ≡ old ++ lengths (arrays_seen (take (i + 1) xs))
lengths_more xs i d a out old lt e so_far =
    let k : take (i + 1) xs ≡ take i xs ++ a ∷ [] = take_more xs i d lt ∙ ap (λ (x : Array). take i xs ++ x ∷ []) (sym e) in
    ap (λ (o : List ℕ). o ++ big_bytes 2 a.length) so_far ∙ flat_map_more (λ (x : List ℕ × ℕ). big_bytes 2 x.1) old
    (arrays_seen (take i xs)) (a.name, a.length)
    ∙ ap (λ (zs : List (List ℕ × ℕ)). old ++ lengths zs) (sym (ap arrays_seen k ∙ arrays_push (take i xs) a))
