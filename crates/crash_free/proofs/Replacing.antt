-- Machines that are replaced, rank by rank: where each is the other one, or gets it, all are the others.
use Rattle.std.proofs.Common.{◌≡◌, ℕ, zero, suc, ◌+◌, ◌<◌, ◌≤◌, List, [], ◌∷◌, ◌++◌, length, refl, sym, ap, ◌∙◌, arith, get_or, take, drop}
use Rattle.std.specs.Prelude.{Option, Some, None, slice_set}
use Rattle.std.specs.Option.{unwrap_or}
use Rattle.std.proofs.lemmas.List.{append-nil, length_push, length-set, take_all}
use Rattle.std.proofs.Math.ListN.{drop_of_length-le}
use Rattle.rank_machine.specs.Machine.{MachineValue}
use Rattle.crash_free.specs.Points.{replaced}

-- where there is none, the machines stay
replaced_none : (ms : List MachineValue) → replaced ms [] ≡ ms
replaced_none [] = refl
replaced_none (m ∷ ms) = refl

-- which is so at the end
pub none_replaced : (ms : List MachineValue) (os : List (Option MachineValue)) → os ≡ [] → replaced ms os ≡ ms
none_replaced ms os none = ap (replaced ms) none ∙ replaced_none ms

-- one, and those behind it
replaced_first : (m : MachineValue) (ms : List MachineValue) (o : Option MachineValue) (os : List (Option MachineValue))
    → replaced (m ∷ ms) (o ∷ os) ≡ unwrap_or o m ∷ replaced ms os
replaced_first m ms None os = refl
replaced_first m ms (Some o) os = refl

-- a last one that isn't there replaces none
pub last_stays : (ms : List MachineValue) (os : List (Option MachineValue)) → replaced ms (os ++ None ∷ []) ≡ replaced ms os
last_stays [] os = refl
last_stays (m ∷ ms) [] = ap (λ z. m ∷ z) (replaced_none ms)
last_stays (m ∷ ms) (o ∷ os) =
    replaced_first m ms o (os ++ None ∷ []) ∙ ap (λ z. unwrap_or o m ∷ z) (last_stays ms os) ∙ sym (replaced_first m ms o os)

-- a last one that is there is put in its place first or last
pub last_replaced : (ms : List MachineValue) (os : List (Option MachineValue)) (x : MachineValue) → length os < length ms
    → replaced ms (os ++ Some x ∷ []) ≡ replaced (slice_set ms (length os) x) os
last_replaced [] os x low = absurd (omega (arith, low))
last_replaced (m ∷ ms) [] x low = ap (λ z. x ∷ z) (replaced_none ms)
last_replaced (m ∷ ms) (o ∷ os) x low =
    replaced_first m ms o (os ++ Some x ∷ []) ∙ ap (λ z. unwrap_or o m ∷ z) (last_replaced ms os x (omega (arith, low)))
    ∙ sym (replaced_first m (slice_set ms (length os) x) o os)

-- once a last one that is there is put in its place, those before it make the same of the machines
pub last_put : (ms rs : List MachineValue) (os rest : List (Option MachineValue)) (o : Option MachineValue) (x : MachineValue) (k : ℕ)
    → os ≡ rest ++ o ∷ [] → o ≡ Some x → k ≡ length rest → length os ≤ length ms → replaced ms os ≡ rs
    → (length rest ≤ length (slice_set ms k x)) × (replaced (slice_set ms k x) rest ≡ rs)
last_put ms rs os rest o x k split there place low before =
    let size = ap length split ∙ length_push rest o in
    let stays = length-set ms k x in (
      omega (arith, size, low, stays),
      rw place (sym (last_replaced ms rest x (omega (arith, size, low)))) ∙ ap (λ z. replaced ms (rest ++ z ∷ [])) (sym there) ∙ ap (replaced ms) (sym split) ∙ before,
    )

-- the machines so far are the others, and so is one more
pub copied_one_more : (ms ts : List MachineValue) (os : List (Option MachineValue)) (o : Option MachineValue) (m t : MachineValue) (k : ℕ)
    → length os ≡ k → k < length ms → k < length ts → m ≡ get_or ms k m → t ≡ get_or ts k t → unwrap_or o m ≡ t
    → replaced ms os ≡ take k ts ++ drop k ms → replaced ms (os ++ o ∷ []) ≡ take (k + 1) ts ++ drop (k + 1) ms
copied_one_more [] ts os o m t k count low within is_m is_t here before = absurd (omega (arith, low))
copied_one_more (x ∷ ms) [] os o m t k count low within is_m is_t here before = absurd (omega (arith, within))
copied_one_more (x ∷ ms) (y ∷ ts) [] o m t zero count low within is_m is_t here before =
    replaced_first x ms o [] ∙ rw (← is_m, here, is_t, replaced_none ms) refl
copied_one_more (x ∷ ms) (y ∷ ts) [] o m t (suc k) count low within is_m is_t here before = absurd (omega (arith, count))
copied_one_more (x ∷ ms) (y ∷ ts) (p ∷ os) o m t zero count low within is_m is_t here before = absurd (omega (arith, count))
copied_one_more (x ∷ ms) (y ∷ ts) (p ∷ os) o m t (suc k) count low within is_m is_t here before =
    let parts = sym (replaced_first x ms p os) ∙ before in
    let head : unwrap_or p x ≡ y = ap (λ l. get_or l 0 y) parts in
    let rest : replaced ms os ≡ take k ts ++ drop k ms = ap (drop 1) parts in
    let more = copied_one_more ms ts os o m t k (omega (arith, count)) (omega (arith, low)) (omega (arith, within)) is_m is_t here rest in
    let one : suc k + 1 ≡ suc (k + 1) = omega arith in
    replaced_first x ms p (os ++ o ∷ []) ∙ rw (head, one, more) refl

-- and then all are
pub all_copied : (ms ts rs : List MachineValue) (k : ℕ) → length ms ≡ length ts → length ts ≤ k → rs ≡ take k ts ++ drop k ms → rs ≡ ts
all_copied ms ts rs k size end same =
    let past : length ms ≤ k = omega (arith, size, end) in
    same ∙ rw (take_all k ts end, drop_of_length-le ms past) (append-nil ts)
