-- What is written of a rank is the same rows behind whatever was written before, so that parts that
-- are kept apart make the whole again.
use Rattle.std.proofs.Common.{◌≡◌, ℕ, ℤ, zero, suc, List, [], ◌∷◌, Option, Some, None, length, refl, sym, ap, ◌∙◌, slice_get}
use Rattle.std.proofs.lemmas.List.{append-nil, append_assoc}
use Rattle.matching.specs.PacketValue as packet
use Rattle.rank_machine.specs.Machine.{MachineValue}
use Rattle.crash_free.specs.LiveVariables.Live.{Table}
use Rattle.crash_free.specs.Sim.{SimValue}
use Rattle.crash_free.specs.Alike.{unreceived, lines_in}
use Rattle.crash_free.specs.Standing.{Rows, no_rows, behind, and_number, and_value, and_values, and_each, and_all, and_below, context_number, number_of_fault}
use Rattle.crash_free.specs.Standing.{and_packet, shown_number, shown_value, and_numbers, and_variable, and_variables, and_machine, and_machine_if}
use Rattle.crash_free.specs.Standing.{and_left, and_own, and_mail, and_rank}
use Rattle.crash_free.proofs.Rows.{same_rows}

-- what is written behind rows that are behind others stays behind them
abbrev Appends : {A : Type 0} → (Rows → A → Rows) → Type 0
Appends {A} f = (c d : Rows) (x : A) → f (behind c d) x ≡ behind c (f d x)

-- nothing behind leaves rows as they are
pub behind_nothing : (c : Rows) → behind c no_rows ≡ c
behind_nothing c = same_rows (behind c no_rows) c (append-nil c.numbers) (append-nil c.values)

-- rows behind rows that are behind others are behind both
pub behind_both : (c d e : Rows) → behind (behind c d) e ≡ behind c (behind d e)
behind_both c d e =
    same_rows (behind (behind c d) e) (behind c (behind d e)) (append_assoc c.numbers d.numbers e.numbers) (append_assoc c.values d.values e.values)

-- so what only appends writes the same behind whatever was before
appended : {A : Type 0} (f : Rows → A → Rows) → Appends f → (c : Rows) (x : A) → f c x ≡ behind c (f no_rows x)
appended f more c x = ap (λ z. f z x) (sym (behind_nothing c)) ∙ more c no_rows x

-- one number more
number_behind : (c d : Rows) (n : ℕ) → and_number (behind c d) n ≡ behind c (and_number d n)
number_behind c d n = same_rows (and_number (behind c d) n) (behind c (and_number d n)) (append_assoc c.numbers d.numbers (n ∷ [])) refl

-- one value more
value_behind : (c d : Rows) (x : ℤ) → and_value (behind c d) x ≡ behind c (and_value d x)
value_behind c d x = same_rows (and_value (behind c d) x) (behind c (and_value d x)) refl (append_assoc c.values d.values (x ∷ []))

-- values more, and how many they are
values_behind : (c d : Rows) (xs : List ℤ) → and_values (behind c d) xs ≡ behind c (and_values d xs)
values_behind c d xs =
    same_rows (and_values (behind c d) xs) (behind c (and_values d xs)) (append_assoc c.numbers d.numbers (length xs ∷ []))
    (append_assoc c.values d.values xs)

-- each of a list
each_behind : {A : Type 0} (f : Rows → A → Rows) → Appends f → (c d : Rows) (xs : List A) → and_each f (behind c d) xs ≡ behind c (and_each f d xs)
each_behind f more c d [] = refl
each_behind f more c d (x ∷ xs) = ap (λ z. and_each f z xs) (more c d x) ∙ each_behind f more c (f d x) xs

-- and how many they are
all_behind : {A : Type 0} (f : Rows → A → Rows) → Appends f → (c d : Rows) (xs : List A) → and_all f (behind c d) xs ≡ behind c (and_all f d xs)
all_behind f more c d xs = ap (λ z. and_number z (length xs)) (each_behind f more c d xs) ∙ number_behind c (and_each f d xs) (length xs)

-- what is there of each number below one
below_behind : (f : Rows → ℕ → Rows) → Appends f → (c d : Rows) (n : ℕ) → and_below f (behind c d) n ≡ behind c (and_below f d n)
below_behind f more c d zero = refl
below_behind f more c d (suc n) = ap (λ z. f z n) (below_behind f more c d n) ∙ more c (and_below f d n) n

-- what a packet says
packet_behind : (c d : Rows) (p : packet.PacketValue) → and_packet (behind c d) p ≡ behind c (and_packet d p)
packet_behind c d p =
    ap (λ z. and_values (and_number z p.tag) p.items) (number_behind c d (context_number p.context))
    ∙ ap (λ z. and_values z p.items) (number_behind c (and_number d (context_number p.context)) p.tag)
    ∙ values_behind c (and_number (and_number d (context_number p.context)) p.tag) p.items

-- the numbers of a machine
numbers_behind : (t : Table) (c d : Rows) (m : MachineValue) → and_numbers t (behind c d) m ≡ behind c (and_numbers t d m)
numbers_behind t c d m =
    let position = number_behind c d m.position in
    let fault = ap (λ z. and_number z (number_of_fault m.fault)) position ∙ number_behind c _ (number_of_fault m.fault) in
    let source = ap (λ z. and_number z (shown_number t m m.store.source)) fault ∙ number_behind c _ (shown_number t m m.store.source) in
    let tag = ap (λ z. and_number z (shown_number t m m.store.tag)) source ∙ number_behind c _ (shown_number t m m.store.tag) in
    let count = ap (λ z. and_number z (shown_number t m m.store.count)) tag ∙ number_behind c _ (shown_number t m m.store.count) in
    let finished = ap (λ z. and_number z m.store.finished) count ∙ number_behind c _ m.store.finished in
    ap (λ z. and_number z m.store.done) finished ∙ number_behind c _ m.store.done

-- its variables
variables_behind : (t : Table) (c d : Rows) (m : MachineValue) → and_variables t (behind c d) m ≡ behind c (and_variables t d m)
variables_behind t c d m =
    let n = length m.store.variables in
    ap (λ z. and_number z n) (below_behind (and_variable t m) (λ x y p. value_behind x y (shown_value t m p)) c d n)
    ∙ number_behind c (and_below (and_variable t m) d n) n

-- all that it has stored and may read
machine_behind : (t : Table) (c d : Rows) (m : MachineValue) → and_machine t (behind c d) m ≡ behind c (and_machine t d m)
machine_behind t c d m =
    let numbers = ap (λ z. and_variables t z m) (numbers_behind t c d m) ∙ variables_behind t c (and_numbers t d m) m in
    let arrays = ap (λ z. and_all and_values z m.store.arrays) numbers ∙ all_behind and_values values_behind c _ m.store.arrays in
    ap (λ z. and_values z m.store.gathered) arrays ∙ values_behind c _ m.store.gathered

-- the same of a machine, if there is one
machine_if_behind : (t : Table) (c d : Rows) (m : Option MachineValue) → and_machine_if t (behind c d) m ≡ behind c (and_machine_if t d m)
machine_if_behind t c d None = refl
machine_if_behind t c d (Some m) = machine_behind t c d m

-- what a rank has of its own
own_behind : (t : Table) (s : SimValue) (c d : Rows) (r : ℕ) → and_own t s (behind c d) r ≡ behind c (and_own t s d r)
own_behind t s c d r =
    ap (λ z. and_values z (lines_in s.run r)) (machine_if_behind t c d (slice_get s.machines r)) ∙ values_behind c _ (lines_in s.run r)

-- what is left for it
mail_behind : (s : SimValue) (c d : Rows) (r : ℕ) → and_mail s (behind c d) r ≡ behind c (and_mail s d r)
mail_behind s c d r = below_behind (and_left s r) (λ x y q. all_behind and_packet packet_behind x y (unreceived s.run q r)) c d (length s.machines)

-- where a rank stands is what it has of its own and what is left for it, one behind the other
pub rank_in_parts : (t : Table) (s : SimValue) (c : Rows) (r : ℕ) → and_rank t s c r ≡ behind (behind c (and_own t s no_rows r)) (and_mail s no_rows r)
rank_in_parts t s c r =
    ap (λ z. and_mail s z r) (appended (and_own t s) (own_behind t s) c r)
    ∙ appended (and_mail s) (mail_behind s) (behind c (and_own t s no_rows r)) r

-- where a rank stands
rank_behind : (t : Table) (s : SimValue) (c d : Rows) (r : ℕ) → and_rank t s (behind c d) r ≡ behind c (and_rank t s d r)
rank_behind t s c d r = ap (λ z. and_mail s z r) (own_behind t s c d r) ∙ mail_behind s c (and_own t s d r) r

-- so where the ranks stand is the same rows behind whatever was written before
pub ranks_behind : (t : Table) (s : SimValue) (c : Rows) (n : ℕ) → and_below (and_rank t s) c n ≡ behind c (and_below (and_rank t s) no_rows n)
ranks_behind t s c n =
    ap (λ z. and_below (and_rank t s) z n) (sym (behind_nothing c)) ∙ below_behind (and_rank t s) (λ x y r. rank_behind t s x y r) c no_rows n
