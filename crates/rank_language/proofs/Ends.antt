-- Lines found from the last statement on, as the code finds them: one more statement in front puts its line in front.
use Rattle.std.proofs.Common.{◌≡◌, ℕ, ◌+◌, ◌<◌, zero, suc, List, [], ◌∷◌, ◌++◌, length, Some, get_or, drop, map, reverse, refl, ap, ◌∙◌, sym, subst, arith}
use Rattle.std.proofs.lemmas.List.{drop_more, reverse-append}
use Rattle.rank_text.specs.declared.grammar.form.Form.{Form}
use Rattle.rank_text.specs.Grammar.SeenForms.{form_seen}
use Rattle.rank_text.specs.Checker.SeenLines.{forms_seen}
use Rattle.rank_text.specs.Checker.Scope.{Scope}
use Rattle.rank_language.specs.Block.{Line}
use Rattle.rank_language.specs.Resolvable.{IsResolvable, AllResolvable}
use Rattle.rank_language.specs.Ends.{kind_of, target_of, ends_before, ends_from, lines_from, lines_behind, form_line}

-- what is left from a place on begins with what stands there
front : (forms : List Form) (p q : ℕ) (f : Form) → p + 1 ≡ q → p < length forms → f ≡ get_or forms p f
    → forms_seen (drop p forms) ≡ form_seen f ∷ forms_seen (drop q forms)
front forms p q f e h g =
    ap forms_seen (drop_more forms p f h)
    ∙ ap (λ x. form_seen x ∷ forms_seen (drop (p + 1) forms)) (sym g)
    ∙ ap (λ n. form_seen f ∷ forms_seen (drop n forms)) e

-- the ends in front of one more statement
pub ends_more : (forms : List Form) (p q : ℕ) (f : Form) (ends new : List ℕ) → p + 1 ≡ q → p < length forms → f ≡ get_or forms p f
    → ends ≡ ends_from q (forms_seen (drop q forms)) → new ≡ ends_before p (kind_of (form_seen f)) ends
    → new ≡ ends_from p (forms_seen (drop p forms))
ends_more forms p q f ends new e h g i j =
    j
    ∙ ap (ends_before p (kind_of (form_seen f))) (i ∙ ap (λ n. ends_from n (forms_seen (drop q forms))) (sym e))
    ∙ ap (ends_from p) (sym (front forms p q f e h g))

-- one more line in front of lines
lines_front : (s : Scope) (n : ℕ) (f : _) (fs : _) (line : Line) (lines : List Line) → form_line s (ends_from (n + 1) fs) f ≡ Some line →
    lines_from s (n + 1) fs ≡ Some lines →
    lines_from s n (f ∷ fs) ≡ Some (line ∷ lines_behind n (kind_of f) (target_of (kind_of f) (ends_from (n + 1) fs)) lines)
lines_front s n f fs line lines h g = rw (h, g) refl

-- the lines of one more statement in front of those behind it
pub lines_more : (s : Scope) (forms : List Form) (p q : ℕ) (f : Form) (ends : List ℕ) (target : ℕ) (line : Line) (lines rest : List Line) →
    p + 1 ≡ q → p < length forms → f ≡ get_or forms p f → ends ≡ ends_from q (forms_seen (drop q forms)) →
    lines_from s q (forms_seen (drop q forms)) ≡ Some lines → target ≡ target_of (kind_of (form_seen f)) ends →
    rest ≡ lines_behind p (kind_of (form_seen f)) target lines → form_line s ends (form_seen f) ≡ Some line →
    lines_from s p (forms_seen (drop p forms)) ≡ Some (line ∷ rest)
lines_more s forms p q f ends target line lines rest e h g i j t r k =
    let kind = kind_of (form_seen f) in
    let behind = forms_seen (drop q forms) in
    let same : ends_from (p + 1) behind ≡ ends = sym (i ∙ ap (λ n. ends_from n behind) (sym e)) in
    ap (lines_from s p) (front forms p q f e h g)
    ∙ lines_front s p (form_seen f) behind line lines (ap (λ es. form_line s es (form_seen f)) same ∙ k) (ap (λ n. lines_from s n behind) e ∙ j)
    ∙ ap (λ es. Some (line ∷ lines_behind p kind (target_of kind es) lines)) same
    ∙ ap (λ m. Some (line ∷ lines_behind p kind m lines)) (sym t)
    ∙ ap (λ z. Some (line ∷ z)) (sym r)

-- the lines in order are those found from the last one on, reversed
pub line_pushed : {A B : Type 0} (f : A → B) (xs : List A) (x : A) → map f (reverse (xs ++ x ∷ [])) ≡ f x ∷ map f (reverse xs)
line_pushed f xs x = ap (map f) (reverse-append xs (x ∷ []))

-- a statement of a list in which each is resolvable
pub resolvable_at : (s : Scope) (forms : List Form) (p : ℕ) (f : Form) → p < length forms → f ≡ get_or forms p f
    → AllResolvable s (forms_seen forms) → IsResolvable s (form_seen f)
resolvable_at s [] p f h g r = absurd (omega (arith, h))
resolvable_at s (x ∷ xs) zero f h g r = subst (λ y. IsResolvable s (form_seen y)) (sym g) r.0
resolvable_at s (x ∷ xs) (suc p) f h g r = resolvable_at s xs p f (omega (arith, h)) g r.1
