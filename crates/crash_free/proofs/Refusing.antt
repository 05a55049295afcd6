-- Refusals are exact: no choice is both allowed and refused, but when out of memory, and none is refused in two ways.
-- And choices one after another.
use Rattle.std.proofs.Common.{◌≡◌, ℕ, zero, suc, ◌<◌, List, [], ◌∷◌, Option, Some, None, length, refl, ap, ◌∙◌, subst, arith, slice_get, get_or, ◌++◌, true}
use Rattle.std.specs.Prelude.{IsSomeAnd, Result, Ok, Err, OnOk, IfErr}
use Rattle.rank_machine.specs.Machine.{MachineValue}
use Rattle.crash_free.specs.declared.choice.Choice.{Choice}
use Rattle.crash_free.specs.declared.not_allowed.NotAllowed.{NotAllowed}
use Rattle.crash_free.specs.declared.not_allowed.NotAllowed.TheVariants as refusal
use Rattle.std.proofs.lemmas.List.{length-set}
use Rattle.crash_free.specs.Sim.{SimValue, Meaning, ended, other, own_step, makes, meant, Does, Allows, AllowsAll, IsRefused, Refuses, are_of_ranks}

-- what is allowed is refused when out of memory at most
allowed_or_refused : (M : Meaning) (s s' : SimValue) (r : ℕ) (m m' : MachineValue) (why : NotAllowed) → Does M s r m m' s' → IsRefused why M s r m
    → (why ≡ refusal.Memory → ⊥) → ⊥
allowed_or_refused ended s s' r m m' why d f n = absurd d
allowed_or_refused other s s' r m m' why d f n = absurd d
allowed_or_refused own_step s s' r m m' refusal.Ended d f n = absurd f
allowed_or_refused own_step s s' r m m' refusal.WantsOther d f n = absurd f
allowed_or_refused own_step s s' r m m' refusal.NotEligible d f n = absurd f
allowed_or_refused own_step s s' r m m' refusal.Memory d f n = absurd f
allowed_or_refused (makes act) s s' r m m' refusal.Ended d f n = absurd f
allowed_or_refused (makes act) s s' r m m' refusal.WantsOther d f n = absurd f
allowed_or_refused (makes act) s s' r m m' refusal.NotEligible d f n = f d.0
allowed_or_refused (makes act) s s' r m m' refusal.Memory d f n = n refl

-- of two refusals of one choice neither of which means out of memory both are one
one_refusal : (M : Meaning) (s : SimValue) (r : ℕ) (m : MachineValue) (w why : NotAllowed) → IsRefused w M s r m → IsRefused why M s r m
    → (why ≡ refusal.Memory → ⊥) → w ≡ why
one_refusal ended s r m refusal.Ended refusal.Ended f g n = refl
one_refusal ended s r m refusal.Ended refusal.WantsOther f g n = absurd g
one_refusal ended s r m refusal.Ended refusal.NotEligible f g n = absurd g
one_refusal ended s r m refusal.Ended refusal.Memory f g n = absurd g
one_refusal ended s r m refusal.WantsOther why f g n = absurd f
one_refusal ended s r m refusal.NotEligible why f g n = absurd f
one_refusal ended s r m refusal.Memory why f g n = absurd f
one_refusal other s r m refusal.WantsOther refusal.WantsOther f g n = refl
one_refusal other s r m refusal.WantsOther refusal.Ended f g n = absurd g
one_refusal other s r m refusal.WantsOther refusal.NotEligible f g n = absurd g
one_refusal other s r m refusal.WantsOther refusal.Memory f g n = absurd g
one_refusal other s r m refusal.Ended why f g n = absurd f
one_refusal other s r m refusal.NotEligible why f g n = absurd f
one_refusal other s r m refusal.Memory why f g n = absurd f
one_refusal own_step s r m refusal.Ended why f g n = absurd f
one_refusal own_step s r m refusal.WantsOther why f g n = absurd f
one_refusal own_step s r m refusal.NotEligible why f g n = absurd f
one_refusal own_step s r m refusal.Memory why f g n = absurd f
one_refusal (makes act) s r m refusal.NotEligible refusal.NotEligible f g n = refl
one_refusal (makes act) s r m refusal.Memory refusal.NotEligible f g n = absurd (g f)
one_refusal (makes act) s r m w refusal.Memory f g n = absurd (n refl)
one_refusal (makes act) s r m w refusal.Ended f g n = absurd g
one_refusal (makes act) s r m w refusal.WantsOther f g n = absurd g
one_refusal (makes act) s r m refusal.Ended refusal.NotEligible f g n = absurd f
one_refusal (makes act) s r m refusal.WantsOther refusal.NotEligible f g n = absurd f

-- a call that allows or refuses as it is said refuses exactly where it is said
pub exactly_refused : (s s' : SimValue) (r : ℕ) (c : Choice) (result : Result (Unit {0}) NotAllowed) → OnOk result (Allows s r c s')
    → IfErr result (λ why. Refuses s r c why)
    → (why : NotAllowed) → (why ≡ refusal.Memory → ⊥) → Refuses s r c why → result ≡ Err why
exactly_refused s s' r c (Ok x) ok err why n f = absurd (apart (slice_get s.machines r) (λ m. slice_get s'.machines r) ok f)
  where
    apart : (o : Option MachineValue) (p : MachineValue → Option MachineValue) → IsSomeAnd o (λ m. IsSomeAnd (p m) (λ m'. Does (meant m c) s r m m' s'))
        → IsSomeAnd o (λ m. IsRefused why (meant m c) s r m) → ⊥
    apart None p d f = d
    apart (Some m) p d f = further (p m) d
      where
        further : (q : Option MachineValue) → IsSomeAnd q (λ m'. Does (meant m c) s r m m' s') → ⊥
        further None d = d
        further (Some m') d = allowed_or_refused (meant m c) s s' r m m' why d f n
exactly_refused s s' r c (Err w) ok err why n f = ap Err (same (slice_get s.machines r) err f)
  where
    same : (o : Option MachineValue) → IsSomeAnd o (λ m. IsRefused w (meant m c) s r m) → IsSomeAnd o (λ m. IsRefused why (meant m c) s r m) → w ≡ why
    same None f g = absurd f
    same (Some m) f g = one_refusal (meant m c) s r m w why f g n

-- the rank of each choice is one that there is
pub rank_within : (n : ℕ) (choices : List (ℕ × Choice)) (k : ℕ) (d : ℕ × Choice) → are_of_ranks n choices ≡ true → k < length choices
    → (get_or choices k d).0 < n
rank_within n [] k d all low = absurd (omega arith)
rank_within n (x ∷ choices) zero d all low = grind arith
rank_within n (x ∷ choices) (suc k) d all low = rank_within n choices k d (grind arith) (omega arith)

-- one more choice that is allowed after others
pub allows_one_more : (s mid s' : SimValue) (choices : List (ℕ × Choice)) (x : ℕ × Choice) → AllowsAll s choices mid → Allows mid x.0 x.1 s'
    → AllowsAll s (choices ++ x ∷ []) s'
allows_one_more s mid s' [] x all one = (s', subst (λ z. Allows z x.0 x.1 s') all one, refl)
allows_one_more s mid s' (y ∷ choices) x all one = (all.0, all.1, allows_one_more all.0 mid s' choices x all.2 one)

-- an allowed choice leaves how many ranks there are
pub ranks_same : (s s' : SimValue) (r : ℕ) (c : Choice) → Allows s r c s' → length s'.machines ≡ length s.machines
ranks_same s s' r c allowed = go (slice_get s.machines r) (slice_get s'.machines r) allowed
  where
    by : (M : Meaning) (m m' : MachineValue) → Does M s r m m' s' → length s'.machines ≡ length s.machines
    by ended m m' d = absurd d
    by other m m' d = absurd d
    by own_step m m' d = ap (λ (v : SimValue). length v.machines) d.1 ∙ length-set s.machines r m'
    by (makes act) m m' d = ap (λ (v : SimValue). length v.machines) d.2 ∙ length-set s.machines r m'

    go : (o p : Option MachineValue) → IsSomeAnd o (λ m. IsSomeAnd p (λ m'. Does (meant m c) s r m m' s')) → length s'.machines ≡ length s.machines
    go None p d = absurd d
    go (Some m) None d = absurd d
    go (Some m) (Some m') d = by (meant m c) m m' d
