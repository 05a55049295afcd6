-- Writing items one after the other, as a loop does: what is written spells those so far, and each of them is legal.
use Rattle.std.proofs.Common.{◌≡◌, ℕ, ◌+◌, ◌<◌, ◌≤◌, List, [], ◌∷◌, ◌++◌, length, take, get_or, All, sym, ap, subst, ◌∙◌, arith}
use Rattle.std.specs.List.{flat_map}
use Rattle.std.proofs.lemmas.List.{append_assoc, append-nil, take_more, take_all, flat_map_more}
use Rattle.std.proofs.lemmas.List.Elements.{All-cons, All-push}

-- the items before this place were written behind the old bytes, and each of them is legal
pub record IsWritten {A : Type 0} (text : A → List ℕ) (Is : A → Type 0) (old out : List ℕ) (items : List A) (place : ℕ) : Type 0 where
  pub spelled : out ≡ old ++ flat_map text (take place items)
  pub legal : All Is (take place items)

-- nothing was written
pub begins : {A : Type 0} (text : A → List ℕ) (Is : A → Type 0) (old : List ℕ) (items : List A) → IsWritten text Is old old items 0
begins text Is old items = record { spelled = sym (append-nil old); legal = λ k d low. absurd (omega (arith, low)) }

-- one more was written
pub writes : {A : Type 0} (text : A → List ℕ) (Is : A → Type 0) (old out next : List ℕ) (items : List A) (place : ℕ) (d x : A)
    → place < length items
    → x ≡ get_or items place d → next ≡ out ++ text x → Is x → IsWritten text Is old out items place → IsWritten text Is old next items
    (place + 1)
writes text Is old out next items place d x within here wrote is so_far =
    let more : take (place + 1) items ≡ take place items ++ x ∷ [] = take_more items place d within ∙ ap (λ y. take place items ++ y ∷ [])
    (sym here) in
    record {
      spelled = wrote ∙ ap (λ (o : List ℕ). o ++ text x) so_far.spelled ∙ flat_map_more text old (take place items) x
          ∙ ap (λ l. old ++ flat_map text l) (sym more);
      legal = subst (All Is) (sym more) (All-push Is (take place items) x so_far.legal is);
    }

-- all were written
pub spelled_all : {A : Type 0} (text : A → List ℕ) (Is : A → Type 0) (old out : List ℕ) (items : List A) (place : ℕ) → length items ≤ place
    → IsWritten text Is old out items place → out ≡ old ++ flat_map text items
spelled_all text Is old out items place past so_far = so_far.spelled ∙ ap (λ l. old ++ flat_map text l) (take_all place items past)

-- and each of them is legal
pub legal_all : {A : Type 0} (text : A → List ℕ) (Is : A → Type 0) (old out : List ℕ) (items : List A) (place : ℕ) → length items ≤ place
    → IsWritten text Is old out items place → All Is items
legal_all text Is old out items place past so_far = subst (All Is) (take_all place items past) so_far.legal

-- ---- items that an iterator has left

-- all but the items that are left were written
pub record IsLeft {A : Type 0} (text : A → List ℕ) (Is : A → Type 0) (old out : List ℕ) (items rest : List A) : Type 0 where
  pub spelled : out ++ flat_map text rest ≡ old ++ flat_map text items
  pub legal : All Is rest → All Is items

-- one more was written
pub writes_left : {A : Type 0} (text : A → List ℕ) (Is : A → Type 0) (old out next : List ℕ) (items rest behind : List A) (x : A)
    → rest ≡ x ∷ behind → next ≡ out ++ text x → Is x → IsLeft text Is old out items rest → IsLeft text Is old next items behind
writes_left text Is old out next items rest behind x first wrote is so_far = record {
  spelled = ap (λ (o : List ℕ). o ++ flat_map text behind) wrote ∙ append_assoc out (text x) (flat_map text behind)
      ∙ ap (λ l. out ++ flat_map text l) (sym first) ∙ so_far.spelled;
  legal = λ all. so_far.legal (subst (All Is) (sym first) (All-cons Is x behind is all));
}
