-- Under the hash of each outcome that was found there is an entry.
use Rattle.std.proofs.Common.{◌≡◌, ℕ, Bool, true, false, List, [], ◌∷◌, ◌++◌, Some, None, ◌⊎◌, inl, inr, refl, sym, subst}
use Rattle.std.specs.Prelude.{IsSome, if◌then◌else◌}
use Rattle.std.specs.Ordering.{nat_cmp}
use Rattle.std.specs.BTreeMap as tree
use Rattle.std.specs.BTreeMap.{BTreeMap, is_at}
use Rattle.std.specs.Map.{lookup}
use Rattle.audit.specs.FinalRuns.Maximal.{RankOutcome}
use Rattle.explore.specs.Explored.{FoundOutcomeValue, rank_outcomes}
use Rattle.explore.specs.Found.{AreFound, hash_of, HaveEntries}
use Rattle.explore.specs.Outcomes.{IsAmong}
use Rattle.explore.proofs.Among.{among_none, among_push}

-- of no outcomes
pub found_none : (m : BTreeMap ℕ ℕ) → AreFound [] m
found_none m =
    record {
      entries = λ o a. absurd (among_none o a);
      distinct = λ i j x p q. absurd (among_none x (i, p));
      some = λ i x e. absurd (among_none x (i, e));
      once = λ i x e. absurd (among_none x (i, e));
    }

-- where one entry more is put in
pub entries_kept : (outcomes : List (List RankOutcome)) (old new : BTreeMap ℕ ℕ) (k v : ℕ) → HaveEntries outcomes old
    → ((q : ℕ) → tree.get nat_cmp new q ≡ (if is_at (nat_cmp k) q then Some v else tree.get nat_cmp old q)) → HaveEntries outcomes new
entries_kept outcomes old new k v before get o a = subst IsSome (sym (get (hash_of o))) (go (is_at (nat_cmp k) (hash_of o)) (before o a))
  where
    go : (b : Bool) → IsSome (tree.get nat_cmp old (hash_of o)) → IsSome (if b then Some v else tree.get nat_cmp old (hash_of o))
    go true some = refl
    go false some = some

-- and the outcome with this hash comes last
pub entries_more : (outcomes : List (List RankOutcome)) (o : List RankOutcome) (new : BTreeMap ℕ ℕ) (k v : ℕ) → HaveEntries outcomes new
    → k ≡ hash_of o → tree.get nat_cmp new k ≡ Some v → HaveEntries (outcomes ++ o ∷ []) new
entries_more outcomes o new k v before same get x a = go (among_push outcomes o x a)
  where
    go : IsAmong outcomes x ⊎ (x ≡ o) → IsSome (tree.get nat_cmp new (hash_of x))
    go (inl there) = before x there
    go (inr e) = subst (λ z. IsSome (tree.get nat_cmp new (hash_of z))) (sym e) (subst (λ q. IsSome (tree.get nat_cmp new q)) same (subst IsSome (sym get) refl))

-- where the map has the same entries
entries_same : (outcomes : List (List RankOutcome)) (old new : BTreeMap ℕ ℕ) → HaveEntries outcomes old → new.entries ≡ old.entries
    → HaveEntries outcomes new
entries_same outcomes old new before same o a = subst (λ es. IsSome (lookup (is_at (nat_cmp (hash_of o))) es)) (sym same) (before o a)

-- then all is as it was
pub found_same : (xs : List FoundOutcomeValue) (old new : BTreeMap ℕ ℕ) → AreFound xs old → new.entries ≡ old.entries → AreFound xs new
found_same xs old new found same =
    record {
      entries = entries_same (rank_outcomes xs) old new found.entries same;
      distinct = found.distinct;
      some = found.some;
      once = found.once;
    }

-- where there is no entry under the hash of an outcome, it isn't among them
pub none_there : (outcomes : List (List RankOutcome)) (m : BTreeMap ℕ ℕ) (k : ℕ) (o : List RankOutcome) → HaveEntries outcomes m → k ≡ hash_of o
    → tree.get nat_cmp m k ≡ None → IsAmong outcomes o → ⊥
none_there outcomes m k o have same none a =
    let some : IsSome (tree.get nat_cmp m (hash_of o)) = have o a in
    let there : IsSome (tree.get nat_cmp m k) = subst (λ q. IsSome (tree.get nat_cmp m q)) (sym same) some in
    let it : IsSome {T = ℕ} None = subst IsSome none there in
    absurd cc
