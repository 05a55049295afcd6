-- The lines that a simulation keeps: a print adds its value to its rank's row, and all else leaves the rows.
use Rattle.std.proofs.Common.{◌≡◌, ℕ, ℤ, ◌+◌, ◌<◌, ◌≤◌, List, [], ◌∷◌, ◌++◌, Some, length}
use Rattle.std.proofs.Common.{refl, sym, ap, ◌∙◌, subst, ◌⊎◌, inl, inr, slice_get, zero, suc, arith}
use Rattle.std.specs.Prelude.{map, replicate, slice_set, slice_index_or}
use Rattle.std.proofs.lemmas.Bool.{cases_eq}
use Rattle.std.proofs.lemmas.List.{map-append, append-nil, length-set}
use Rattle.limits.specs.Limits.{most_ranks}
use Rattle.rank_language.specs.Program.{ProgramValue}
use Rattle.rank_machine.specs.Machine.{MachineValue}
use Rattle.rank_machine.specs.Acts.{Act, sends, takes, hits, misses, prints}
use Rattle.crash_free.specs.Runs.{Passed, history, printed, print_at}
use Rattle.crash_free.specs.Alike.{lines_in}
use Rattle.crash_free.specs.Lines.{AreLines}
use Rattle.crash_free.specs.Sim.{SimValue}
use Rattle.crash_free.specs.Slots.{Slot, IsKept}
use Rattle.crash_free.proofs.Choosing.{value_of}
use Rattle.crash_free.proofs.Keeping.{set_cases}
use Rattle.crash_free.proofs.Lists.{printed-own, printed-other}

-- the values that an act prints
abbrev pub printed_by : Act → List ℤ
printed_by act = map (λ (line : ℕ × ℤ). line.1) (print_at 0 act [])

-- whatever its clock is
any_clock : (c : ℕ) (act : Act) → map (λ (line : ℕ × ℤ). line.1) (print_at c act []) ≡ printed_by act
any_clock c (prints v) = refl
any_clock c (sends d k t items) = refl
any_clock c (takes q i) = refl
any_clock c (hits q i) = refl
any_clock c misses = refl

-- they come behind the lines of the rank that makes it
own_lines : (C : List Passed) (r : ℕ) (act : Act) → lines_in (record { rank = r; act = act } ∷ C) r ≡ lines_in C r ++ printed_by act
own_lines C r act =
    ap (map (λ (line : ℕ × ℤ). line.1)) (printed-own C r act)
    ∙ map-append (λ (line : ℕ × ℤ). line.1) (printed C r) (print_at (length (history C r) + 1) act [])
    ∙ ap (λ z. lines_in C r ++ z) (any_clock (length (history C r) + 1) act)

-- and leave those of the others
other_lines : (C : List Passed) (p : Passed) (q : ℕ) → (p.rank ≡ q → ⊥) → lines_in (p ∷ C) q ≡ lines_in C q
other_lines C p q ne = ap (map (λ (line : ℕ × ℤ). line.1)) (printed-other C p q ne)

-- an act that prints nothing leaves all rows
pub lines_stay : (rows : List (List ℤ)) (C : List Passed) (r : ℕ) (act : Act) → printed_by act ≡ [] → AreLines rows C
    → AreLines rows (record { rank = r; act = act } ∷ C)
lines_stay rows C r act silent lines = record { size = lines.size; each = λ q row at. lines.each q row at ∙ same q (cases_eq r q) }
  where
    same : (q : ℕ) → (r ≡ q) ⊎ (r ≡ q → ⊥) → lines_in C q ≡ lines_in (record { rank = r; act = act } ∷ C) q
    same q (inl e) =
        subst (λ z. lines_in C z ≡ lines_in (record { rank = r; act = act } ∷ C) z) e
        (sym (own_lines C r act ∙ ap (λ z. lines_in C r ++ z) silent ∙ append-nil (lines_in C r)))
    same q (inr ne) = sym (other_lines C (record { rank = r; act = act }) q ne)

-- a row that is there is found
row_there : (rows : List (List ℤ)) (r : ℕ) → r < length rows → slice_get rows r ≡ Some (slice_index_or rows r [])
row_there [] r low = absurd (omega arith)
row_there (x ∷ rows) zero low = refl
row_there (x ∷ rows) (suc r) low = row_there rows r (omega arith)

-- a print adds its value to the row of its rank
pub lines_more : (rows : List (List ℤ)) (C : List Passed) (r : ℕ) (v : ℤ) → r < length rows → AreLines rows C
    → AreLines (slice_set rows r (slice_index_or rows r [] ++ v ∷ [])) (record { rank = r; act = prints v } ∷ C)
lines_more rows C r v low lines =
    record { size = length-set rows r _ ∙ lines.size; each = λ q row at. same q row (set_cases rows r _ q row at) }
  where
    same : (q : ℕ) (row : List ℤ) → ((r ≡ q) × (row ≡ slice_index_or rows r [] ++ v ∷ [])) ⊎ ((r ≡ q → ⊥) × (slice_get rows q ≡ Some row))
        → row ≡ lines_in (record { rank = r; act = prints v } ∷ C) q
    same q row (inl own) =
        own.1 ∙ ap (λ z. z ++ v ∷ []) (lines.each r (slice_index_or rows r []) (row_there rows r low))
        ∙ sym (own_lines C r (prints v)) ∙ ap (λ z. lines_in (record { rank = r; act = prints v } ∷ C) z) own.0
    same q row (inr other) = lines.each q row other.1 ∙ sym (other_lines C (record { rank = r; act = prints v }) q other.0)

-- a row of nothing
abbrev no_row : List ℤ
no_row = []

-- nobody has printed anything at the beginning
pub no_lines : AreLines (replicate most_ranks []) []
no_lines = record { size = long most_ranks; each = λ r row at. empty most_ranks r row at }
  where
    long : (k : ℕ) → length (replicate k no_row) ≡ k
    long zero = refl
    long (suc k) = ap suc (long k)

    empty : (k r : ℕ) (row : List ℤ) → slice_get (replicate k no_row) r ≡ Some row → row ≡ []
    empty zero r row at = absurd cc
    empty (suc k) zero row at = cc
    empty (suc k) (suc r) row at = empty k r row at

-- the row of a rank is what it printed
pub lines_there : (rows : List (List ℤ)) (C : List Passed) (r : ℕ) (row : List ℤ) → AreLines rows C → slice_get rows r ≡ Some row
    → row ≡ map (λ (line : ℕ × ℤ). line.1) (printed C r)
lines_there rows C r row lines at = lines.each r row at

-- a rank that there is has a row
pub row_of_rank : {program : ProgramValue} {machines : List MachineValue} {channels : List (List Slot)} {rows : List (List ℤ)} {C : List Passed} {now : SimValue}
    (r : ℕ) → value_of program machines C ≡ now → IsKept program machines channels C → AreLines rows C → r < length now.machines → r < length rows
row_of_rank {machines = machines} {now = now} r view kept lines low =
    let same : length machines ≡ length now.machines = ap (λ (v : SimValue). length v.machines) view in
    let few = kept.few in
    let size = lines.size in
    omega (arith, low, same, few, size)
