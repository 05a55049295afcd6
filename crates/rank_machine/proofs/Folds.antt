-- Values as one, a part of them after the other.
use Rattle.std.proofs.Common.{◌≡◌, ℕ, zero, suc, ℤ, pos, ◌+◌, ◌-◌, ◌<◌, ◌≤◌, List, [], ◌∷◌, ◌++◌}
use Rattle.std.proofs.Common.{length, Ok, Err, take, drop, refl, sym, ap, ◌∙◌, arith, ◌⊎◌, inl, inr, min}
use Rattle.std.specs.Prelude.{slice_index_or}
use Rattle.std.proofs.lemmas.Bool.{cases_lt}
use Rattle.std.proofs.lemmas.List.{take_min}
use Rattle.std.proofs.Math.ListN.{drop_of_length-le}
use Rattle.std.proofs.Math.Nat.{min-eq_left, min-eq_right}
use Rattle.std.proofs.Math.Seq.{take-length, drop-length}
use Rattle.rank_text.specs.declared.grammar.token.Reduction.{Reduction}
use Rattle.rank_machine.specs.declared.fault.MachineFault.{MachineFault}
use Rattle.rank_machine.specs.Values.{Valued, ◌>>=◌}
use Rattle.rank_machine.specs.Collectives.{combined, folded, folded_from, with_at}

-- one step after another is the two as one step
bound : {A B C : Type 0} (v : Valued A) (f : A → Valued B) (g : B → Valued C) → (v >>= (λ a. f a >>= g)) ≡ ((v >>= f) >>= g)
bound (Ok a) f g = refl
bound (Err k) f g = refl

-- steps that agree at each value agree
same_steps : {A B : Type 0} (v : Valued A) (f g : A → Valued B) → ((a : A) → f a ≡ g a) → (v >>= f) ≡ (v >>= g)
same_steps (Ok a) f g e = e a
same_steps (Err k) f g e = refl

-- nothing behind a value leaves it
alone : {A : Type 0} (v : Valued A) → (v >>= (λ c. Ok c)) ≡ v
alone (Ok c) = refl
alone (Err k) = refl

-- a list and what is behind it
folded_behind : (f : Reduction) (a : ℤ) (xs ys : List ℤ)
    → folded_from f a (xs ++ ys) ≡ (folded_from f a xs >>= (λ c. folded_from f c ys))
folded_behind f a [] ys = refl
folded_behind f a (x ∷ xs) ys =
    same_steps (combined f a x) _ _ (λ c. folded_behind f c xs ys) ∙ bound (combined f a x) (λ c. folded_from f c xs) (λ c. folded_from f c ys)

-- a last value
folded_last : (f : Reduction) (x : ℤ) (xs : List ℤ) (own : ℤ)
    → folded f (x ∷ xs ++ own ∷ []) ≡ (folded_from f x xs >>= (λ a. combined f a own))
folded_last f x xs own = folded_behind f x xs (own ∷ []) ∙ same_steps (folded_from f x xs) _ _ (λ a. alone (combined f a own))

-- a value between others
folded_between : (f : Reduction) (xs ys : List ℤ) (own : ℤ)
    → folded f (xs ++ own ∷ ys) ≡ (folded f (xs ++ own ∷ []) >>= (λ c. folded_from f c ys))
folded_between f [] ys own = refl
folded_between f (x ∷ xs) ys own =
    folded_behind f x xs (own ∷ ys)
    ∙ bound (folded_from f x xs) (λ a. combined f a own) (λ c. folded_from f c ys)
    ∙ ap (λ v. v >>= (λ c. folded_from f c ys)) (sym (folded_last f x xs own))

-- one more of a list from a place on
pub folded_step : (f : Reduction) (a : ℤ) (xs : List ℤ) (i : ℕ) → i < length xs
    → folded_from f a (drop i xs) ≡ (combined f a (slice_index_or xs i (pos 0)) >>= (λ c. folded_from f c (drop (i + 1) xs)))
folded_step f a [] i l = absurd (omega arith)
folded_step f a (x ∷ xs) zero l = refl
folded_step f a (x ∷ xs) (suc i) l = let e : suc i + 1 ≡ suc (i + 1) = omega arith in rw e (folded_step f a xs i (omega arith))

-- a fault of a step is the fault of all
pub step_faults : (f : Reduction) (a first : ℤ) (xs : List ℤ) (i : ℕ) (k : MachineFault) → i < length xs
    → combined f a (slice_index_or xs i (pos 0)) ≡ Err k → folded_from f a (drop i xs) ≡ folded_from f first xs → Err k ≡ folded_from f first xs
step_faults f a first xs i k l e same =
    sym (ap (λ v. v >>= (λ c. folded_from f c (drop (i + 1) xs))) e) ∙ sym (folded_step f a xs i l) ∙ same

-- a last value, behind a list by its first value and its others
pub folded_to_last : (f : Reduction) (xs : List ℤ) (own : ℤ) → 1 ≤ length xs
    → folded f (xs ++ own ∷ []) ≡ (folded_from f (slice_index_or xs 0 (pos 0)) (take (length xs - 1) (drop 1 xs)) >>= (λ a. combined f a own))
folded_to_last f [] own l = absurd (omega arith)
folded_to_last f (x ∷ xs) own l = let e : suc (length xs) - 1 ≡ length xs = omega arith in rw (e, take-length xs) (folded_last f x xs own)

-- the value of the list comes before the last one
pub last_follows : (f : Reduction) (xs : List ℤ) (own value : ℤ) → 1 ≤ length xs
    → folded_from f (slice_index_or xs 0 (pos 0)) (take (length xs - 1) (drop 1 xs)) ≡ Ok value → combined f value own ≡ folded f (xs ++ own ∷ [])
last_follows f xs own value l e = sym (folded_to_last f xs own l ∙ ap (λ v. v >>= (λ a. combined f a own)) e)

-- and so does its fault
pub fault_before : (f : Reduction) (xs : List ℤ) (own : ℤ) (k : MachineFault) → 1 ≤ length xs
    → folded_from f (slice_index_or xs 0 (pos 0)) (take (length xs - 1) (drop 1 xs)) ≡ Err k → Err k ≡ folded f (xs ++ own ∷ [])
fault_before f xs own k l e = sym (folded_to_last f xs own l ∙ ap (λ v. v >>= (λ a. combined f a own)) e)

-- a value at a place among others
among : (p : ℕ) (own : ℤ) (values : List ℤ) → with_at p (own ∷ []) values ≡ take p values ++ own ∷ drop p values
among zero own values = refl
among (suc p) own [] = refl
among (suc p) own (x ∷ values) = ap (λ ys. x ∷ ys) (among p own values)

-- past its end a list has nothing more
drop_min : (p : ℕ) (xs : List ℤ) → drop (min p (length xs)) xs ≡ drop p xs
drop_min p xs = at (cases_lt p (length xs))
  where
    at : (p < length xs) ⊎ (length xs ≤ p) → drop (min p (length xs)) xs ≡ drop p xs
    at (inl l) = let e : min p (length xs) ≡ p = min-eq_left (omega (arith, l)) in rw e refl
    at (inr g) = let e : min p (length xs) ≡ length xs = min-eq_right g in rw (e, drop_of_length-le xs g) (drop-length xs)

-- the values before it with it, and then those behind it
pub folded_at : (f : Reduction) (p : ℕ) (own : ℤ) (values : List ℤ)
    → folded f (with_at p (own ∷ []) values)
    ≡ (folded f (take (min p (length values)) values ++ own ∷ []) >>= (λ c. folded_from f c (drop (min p (length values)) values)))
folded_at f p own values =
    ap (folded f) (among p own values)
    ∙ folded_between f (take p values) (drop p values) own
    ∙ (rw (take_min p values, drop_min p values) refl)
