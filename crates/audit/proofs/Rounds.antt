-- Rounds: what the ranks do one after another, and that a round in which none goes on leaves each rank with steps left stuck.
use Rattle.std.proofs.Common.{◌≡◌, ℕ, zero, suc, ◌+◌, ◌<◌, ◌≤◌, ◌==◌, ◌||◌, Bool, true, not, List, [], ◌∷◌, Some, length, slice_get, slice_set}
use Rattle.std.proofs.Common.{get_or, sum, ◌⊎◌, inl, inr}
use Rattle.std.proofs.Common.{refl, sym, ap, subst, ◌∙◌, arith, length-set}
use Rattle.std.specs.Prelude.{false}
use Rattle.std.proofs.lemmas.Bool.{cases_eq, eq-eqb, ne_eqb}
use Rattle.std.proofs.lemmas.List.Sums.{sum_by-set}
use Rattle.std.proofs.lemmas.Option.{slice_get_within, get_or_from_slice_get}
use Rattle.crash_free.specs.Sim.{SimValue}
use Rattle.crash_free.proofs.Keeping.{set_cases}
use Rattle.crash_free.proofs.Lists.{there_is}
use Rattle.audit.specs.Outcome.{OutcomeValue}
use Rattle.audit.specs.Playing.{HasLeft, Plays, PlayAll, IsStuck}

-- one more rank goes on
all_play_one : (o : OutcomeValue) (first left : List ℕ) (start s s' : SimValue) (r before after : ℕ) → PlayAll o first left start s
    → slice_get left r ≡ Some before
    → Plays o r before after s s' → PlayAll o first (slice_set left r after) start s'
all_play_one o first left start s s' r before after all there one = record {
  within = λ w. one.within (all.within w);
  each = λ q total k j at at' has. go q total k j at has (set_cases left r after q j at');
}
  where
    go : (q total k j : ℕ) → slice_get first q ≡ Some k → HasLeft start q total k
        → ((r ≡ q) × (j ≡ after)) ⊎ ((r ≡ q → ⊥) × (slice_get left q ≡ Some j)) → HasLeft s' q total j
    go q total k j at has (inl own) =
        let before_left : HasLeft s r total before =
        subst (λ z. HasLeft s z total before) (sym own.0) (all.each q total k before at (ap (slice_get left) (sym own.0) ∙ there) has) in
        subst (λ i. HasLeft s' q total i) (sym own.1) (subst (λ z. HasLeft s' z total after) own.0 (one.own total before_left))
    go q total k j at has (inr apart) = one.others q total j (λ e. apart.0 (sym e)) (all.each q total k j at apart.1 has)

-- one after another
pub all_play_on : (o : OutcomeValue) (a b c : List ℕ) (s mid s' : SimValue) → length b ≡ length a → PlayAll o a b s mid → PlayAll o b c mid s'
    → PlayAll o a c s s'
all_play_on o a b c s mid s' width one two = record {
  within = λ w. two.within (one.within w);
  each = λ r total k j at at' has.
      let low = slice_get_within a r k at in
      let between = there_is b r (omega (arith, low, width)) in
      two.each r total between.0 j between.1 at' (one.each r total k between.0 at between.1 has);
}

-- the ranks before this one are stuck still where nothing happened, and so is this one
stuck_one_more : (o : OutcomeValue) (left : List ℕ) (s : SimValue) (rank : ℕ) → ((r k : ℕ) → r < rank → slice_get left r ≡ Some k → 0 < k → IsStuck o s r)
    → ((k : ℕ) → slice_get left rank ≡ Some k → 0 < k → IsStuck o s rank) → (r k : ℕ) → r < rank + 1 → slice_get left r ≡ Some k → 0 < k → IsStuck o s r
stuck_one_more o left s rank before this r k low there some = go (cases_eq rank r)
  where
    go : (rank ≡ r) ⊎ (rank ≡ r → ⊥) → IsStuck o s r
    go (inl same) = subst (λ z. IsStuck o s z) same (this k (ap (slice_get left) same ∙ there) some)
    go (inr apart) = before r k (omega (arith, low, apart)) there some

-- the steps that are left after one more rank's, where it made some
sum_after : (left : List ℕ) (r before after : ℕ) → slice_get left r ≡ Some before → after ≤ before
    → sum (slice_set left r after) + before ≡ sum left + after
sum_after left r before after there few =
    let low = slice_get_within left r before there in
    let at = get_or_from_slice_get left r before 0 there in
    let whole : sum (slice_set left r after) + get_or left r 0 ≡ sum left + after = sum_by-set (λ (k : ℕ). k) left r after 0 low in
    omega (arith, whole, at)

-- whether one rank moved, and whether any did
moved_one : (before moved : Bool) (k j : ℕ) → moved ≡ before || not (j == k) → moved ≡ false → (before ≡ false) × (j ≡ k)
moved_one true moved k j is none = absurd (let both : true ≡ false = sym is ∙ none in cc)
moved_one false moved k j is none = go (cases_eq j k)
  where
    go : (j ≡ k) ⊎ (j ≡ k → ⊥) → (false ≡ false) × (j ≡ k)
    go (inl e) = (refl, e)
    go (inr n) = absurd (let test : (j == k) ≡ false = ne_eqb j k n in let both : not (j == k) ≡ false = sym is ∙ none in
        let other : not false ≡ false = rw test at both in cc)

-- where some rank moved, one did before or this one has
moved_some : (before moved : Bool) (k j : ℕ) → moved ≡ before || not (j == k) → moved ≡ true → (before ≡ true) ⊎ (j ≡ k → ⊥)
moved_some true moved k j is some = inl refl
moved_some false moved k j is some = inr (λ e. (let test : (j == k) ≡ true = eq-eqb j k e in let both : not (j == k) ≡ true = sym is ∙ some in
    let other : not true ≡ true = rw test at both in cc))

-- What one more rank's turn makes of a round: `moved` says whether a rank went on.
pub record Turned (o : OutcomeValue) (first left : List ℕ) (start s : SimValue) (rank : ℕ) (moved : Bool) : Type 0 where
  pub width : length left ≡ length first
  pub plays : PlayAll o first left start s
  pub few : sum left ≤ sum first
  pub falls : moved ≡ true → sum left < sum first
  pub same : moved ≡ false → s ≡ start
  pub stuck : moved ≡ false → (r k : ℕ) → r < rank → slice_get left r ≡ Some k → 0 < k → IsStuck o s r

-- after the turn of one rank more the round has moved if it had before, or if that rank has fewer steps left
pub turned_one : (o : OutcomeValue) (first left : List ℕ) (start s s' : SimValue) (rank before after : ℕ) (moved moved' : Bool)
    → Turned o first left start s rank moved → slice_get left rank ≡ Some before → Plays o rank before after s s' → after ≤ before
    → (after ≡ before → s' ≡ s) → (after ≡ before → 0 < after → IsStuck o s' rank) → moved' ≡ moved || not (after == before)
    → Turned o first (slice_set left rank after) start s' (rank + 1) moved'
turned_one o first left start s s' rank before after moved moved' turned there plays few same stuck is = record {
  width = length-set left rank after ∙ turned.width;
  plays = all_play_one o first left start s s' rank before after turned.plays there plays;
  few = omega (arith, sums, few, most);
  falls = λ some. by_moved (moved_some moved moved' before after is some);
  same = λ none.
      let both = moved_one moved moved' before after is none in
      same both.1 ∙ turned.same both.0;
  stuck = λ none.
      let both = moved_one moved moved' before after is none in
      let left_same : slice_set left rank after ≡ left = ap (slice_set left rank) both.1 ∙ set_same left rank before there in
      subst (λ ks. (r k : ℕ) → r < rank + 1 → slice_get ks r ≡ Some k → 0 < k → IsStuck o s' r) (sym left_same)
      (stuck_one_more o left s' rank
      (subst (λ z. (r k : ℕ) → r < rank → slice_get left r ≡ Some k → 0 < k → IsStuck o z r) (sym (same both.1)) (turned.stuck both.0))
      (λ k at some. stuck both.1 (let one : Some k ≡ Some before = sym at ∙ there in let value : k ≡ before = cc in omega (arith, some, value, both.1))));
}
  where
    sums : sum (slice_set left rank after) + before ≡ sum left + after
    sums = sum_after left rank before after there few

    most : sum left ≤ sum first
    most = turned.few

    by_moved : (moved ≡ true) ⊎ (after ≡ before → ⊥) → sum (slice_set left rank after) < sum first
    by_moved (inl some) = let less = turned.falls some in omega (arith, sums, few, less)
    by_moved (inr apart) = omega (arith, sums, few, most, apart)

    set_same : (xs : List ℕ) (i x : ℕ) → slice_get xs i ≡ Some x → slice_set xs i x ≡ xs
    set_same [] i x e = refl
    set_same (y ∷ xs) zero x e = let same : y ≡ x = cc in ap (λ z. z ∷ xs) (sym same)
    set_same (y ∷ xs) (suc i) x e = ap (λ zs. y ∷ zs) (set_same xs i x e)
