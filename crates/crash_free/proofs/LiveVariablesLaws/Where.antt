-- States that agree on some names: on fewer too, and after a write also on what was written.
use Rattle.std.proofs.Common.{◌≡◌, ℕ, ℤ, pos, ◌==◌, ◌<◌, ◌≤◌, Bool, true, false, ◌||◌, refl, sym, ◌∙◌, ◌⊎◌, inl, inr, length}
use Rattle.std.specs.Prelude.{slice_set, slice_index_or}
use Rattle.std.proofs.lemmas.Bool.{eqb-true, or_cases, cases_lt, cases_eq, or_left, or_right}
use Rattle.std.proofs.lemmas.List.{get_or-set_same, get_or-set_other, length-set, get_or_past}
use Rattle.rank_machine.specs.Values.{Store}
use Rattle.rank_machine.specs.Acts.{Message, with_variable, with_status}
use Rattle.crash_free.specs.LiveVariables.Names.{StoredName, place, status, is_place, is_status}
use Rattle.crash_free.specs.LiveVariables.Agrees.{Same, SameWhere}

-- what agrees on names agrees on fewer
pub fewer : (among less : StoredName → Bool) (s s' : Store) → ((x : StoredName) → less x ≡ true → among x ≡ true) → SameWhere among s s' → SameWhere less s s'
fewer among less s s' f h =
    record {
      rank = h.rank;
      size = h.size;
      as_many = h.as_many;
      arrays = h.arrays;
      finished = h.finished;
      parts = h.parts;
      gathered = h.gathered;
      same = λ x e. h.same x (f x e);
    }

-- on the names of the first of two, and on those of the second
pub left_of : (f g : StoredName → Bool) (s s' : Store) → SameWhere (λ x. f x || g x) s s' → SameWhere f s s'
left_of f g s s' h = fewer (λ x. f x || g x) f s s' (λ x e. or_left (f x) (g x) e) h

-- and on those of the second
pub right_of : (f g : StoredName → Bool) (s s' : Store) → SameWhere (λ x. f x || g x) s s' → SameWhere g s s'
right_of f g s s' h = fewer (λ x. f x || g x) g s s' (λ x e. or_right (f x) (g x) e) h

-- a state agrees with itself
same_self : (x : StoredName) (s : Store) → Same x s s
same_self (place p) s = refl
same_self status s = (refl, refl, refl)

-- so does a store
pub where_self : (among : StoredName → Bool) (s : Store) → SameWhere among s s
where_self among s =
    record {
      rank = refl;
      size = refl;
      as_many = refl;
      arrays = refl;
      finished = refl;
      parts = refl;
      gathered = refl;
      same = λ x e. same_self x s;
    }

-- the other way round
same_back : (x : StoredName) (s s' : Store) → Same x s s' → Same x s' s
same_back (place p) s s' h = sym h
same_back status s s' h = (sym h.0, sym h.1, sym h.2)

-- so of stores
pub where_back : (among : StoredName → Bool) (s s' : Store) → SameWhere among s s' → SameWhere among s' s
where_back among s s' h =
    record {
      rank = sym h.rank;
      size = sym h.size;
      as_many = sym h.as_many;
      arrays = sym h.arrays;
      finished = sym h.finished;
      parts = sym h.parts;
      gathered = sym h.gathered;
      same = λ x e. same_back x s s' (h.same x e);
    }

-- and from one to the next
same_further : (x : StoredName) (s s' s'' : Store) → Same x s s' → Same x s' s'' → Same x s s''
same_further (place p) s s' s'' h k = h ∙ k
same_further status s s' s'' h k = (h.0 ∙ k.0, h.1 ∙ k.1, h.2 ∙ k.2)

-- so of stores
pub where_further : (among : StoredName → Bool) (s s' s'' : Store) → SameWhere among s s' → SameWhere among s' s'' → SameWhere among s s''
where_further among s s' s'' h k =
    record {
      rank = h.rank ∙ k.rank;
      size = h.size ∙ k.size;
      as_many = h.as_many ∙ k.as_many;
      arrays = h.arrays ∙ k.arrays;
      finished = h.finished ∙ k.finished;
      parts = h.parts ∙ k.parts;
      gathered = h.gathered ∙ k.gathered;
      same = λ x e. same_further x s s' s'' (h.same x e) (k.same x e);
    }

-- a variable that gets a value has the same in both, and other names keep theirs
written_same : (p : ℕ) (z : ℤ) (s s' : Store) (x : StoredName) (b : Bool) → length s.variables ≡ length s'.variables → (b ≡ true → Same x s s')
    → (b || is_place p x) ≡ true → Same x (with_variable p z s) (with_variable p z s')
written_same p z s s' status b long h e = h (only b e)
  where
    only : (b : Bool) → (b || false) ≡ true → b ≡ true
    only true e = refl
    only false e = e
written_same p z s s' (place q) b long h e = by_place (cases_eq q p)
  where
    by_length : (p < length s.variables) ⊎ (length s.variables ≤ p)
        → slice_index_or (slice_set s.variables p z) p (pos 0) ≡ slice_index_or (slice_set s'.variables p z) p (pos 0)
    by_length (inl l) =
        get_or-set_same s.variables p z (pos 0) l ∙ sym (get_or-set_same s'.variables p z (pos 0) (rw (sym long) l))
    by_length (inr g) =
        let g' : length s'.variables ≤ p = rw (sym long) g in
        get_or_past (slice_set s.variables p z) p (pos 0) (rw (length-set s.variables p z) g)
        ∙ sym (get_or_past (slice_set s'.variables p z) p (pos 0) (rw (length-set s'.variables p z) g'))

    by_place : (q ≡ p) ⊎ (q ≡ p → ⊥)
        → slice_index_or (slice_set s.variables p z) q (pos 0) ≡ slice_index_or (slice_set s'.variables p z) q (pos 0)
    by_place (inl same) = rw same (by_length (cases_lt p (length s.variables)))
    by_place (inr differ) =
        get_or-set_other s.variables p q z (pos 0) differ ∙ h (kept (or_cases b (q == p) e))
        ∙ sym (get_or-set_other s'.variables p q z (pos 0) differ)
      where
        kept : (b ≡ true) ⊎ ((q == p) ≡ true) → b ≡ true
        kept (inl t) = t
        kept (inr t) = absurd (differ (eqb-true q p t))

-- stores are the same on one variable more, which both are given
pub variable_same : (among : StoredName → Bool) (p : ℕ) (z : ℤ) (s s' : Store) → SameWhere among s s'
    → SameWhere (λ x. among x || is_place p x) (with_variable p z s) (with_variable p z s')
variable_same among p z s s' h =
    record {
      rank = h.rank;
      size = h.size;
      as_many = length-set s.variables p z ∙ h.as_many ∙ sym (length-set s'.variables p z);
      arrays = h.arrays;
      finished = h.finished;
      parts = h.parts;
      gathered = h.gathered;
      same = λ x e. written_same p z s s' x (among x) h.as_many (h.same x) e;
    }

-- after a message both have its status, and variables keep their values
status_kept : (n : ℕ) (m : Message) (s s' : Store) (x : StoredName) (b : Bool) → (b ≡ true → Same x s s') → (b || is_status x) ≡ true
    → Same x (with_status n m s) (with_status n m s')
status_kept n m s s' status b h e = (refl, refl, refl)
status_kept n m s s' (place q) b h e = h (only b e)
  where
    only : (b : Bool) → (b || false) ≡ true → b ≡ true
    only true e = refl
    only false e = e

-- so with the words of a status
pub status_same : (among : StoredName → Bool) (n : ℕ) (m : Message) (s s' : Store) → SameWhere among s s'
    → SameWhere (λ x. among x || is_status x) (with_status n m s) (with_status n m s')
status_same among n m s s' h =
    record {
      rank = h.rank;
      size = h.size;
      as_many = h.as_many;
      arrays = h.arrays;
      finished = h.finished;
      parts = h.parts;
      gathered = h.gathered;
      same = λ x e. status_kept n m s s' x (among x) (h.same x) e;
    }

-- nothing more is written
pub nothing_more : (among : StoredName → Bool) (s s' : Store) → SameWhere among s s' → SameWhere (λ x. among x || false) s s'
nothing_more among s s' h = fewer among (λ x. among x || false) s s' (λ x e. only (among x) e) h
  where
    only : (b : Bool) → (b || false) ≡ true → b ≡ true
    only true e = refl
    only false e = e
