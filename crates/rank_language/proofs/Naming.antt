-- Names at places.
use Rattle.std.specs.Prelude.{◌≡◌, ℕ, zero, suc, ◌<◌, List, [], ◌∷◌, ◌++◌, ◌+◌, ◌≤◌, length, map, take, get_or, slice_index_or}
use Rattle.std.proofs.Common.{refl, ap, ◌∙◌, sym, subst, arith}
use Rattle.std.proofs.lemmas.List.{map_more, take_all}
use Rattle.rank_text.specs.declared.grammar.form.Form as source_form
use Rattle.rank_text.specs.Grammar.Forms.{Form}
use Rattle.rank_text.specs.Grammar.SeenForms.{form_seen}
use Rattle.rank_text.proofs.CheckerLaws.ReadLaws.{forms_push}
use Rattle.rank_text.specs.Checker.Scope.{Scope}
use Rattle.rank_text.specs.declared.checker.scope.Array.{Array}
use Rattle.rank_text.specs.Checker.SeenLines.{arrays_seen, forms_seen}
pub use Rattle.rank_text.proofs.CheckerLaws.ScopeLaws.{arrays_length}
use Rattle.rank_language.specs.declared.statement.Statement.{Statement}
use Rattle.rank_language.specs.Shape.{step_of}
use Rattle.rank_language.specs.Seen.{line_of}
use Rattle.rank_language.specs.Program.{IsPlaced, AllPlaced}
use Rattle.rank_language.specs.Named.{form_named}

-- the array at a place is seen there
pub array_seen_at : (xs : List Array) (p : ℕ) (d : Array) → p < length xs
    → slice_index_or (arrays_seen xs) p ([], 0) ≡ ((slice_index_or xs p d).name, (slice_index_or xs p d).length)
array_seen_at [] p d h = absurd (omega (arith, h))
array_seen_at (x ∷ xs) zero d h = refl
array_seen_at (x ∷ xs) (suc p) d h = array_seen_at xs p d (omega (arith, h))

-- each statement's places are in the tables
pub placed_each : (v a : ℕ) (ss : List Statement) (i : ℕ) (x : Statement) → i < length ss → x ≡ get_or ss i x
    → AllPlaced v a (map line_of ss) → IsPlaced v a (line_of x)
placed_each v a [] i x h e k = absurd (omega (arith, h))
placed_each v a (s ∷ ss) zero x h e k = subst (λ z. IsPlaced v a (line_of z)) (sym e) k.0
placed_each v a (s ∷ ss) (suc i) x h e k = placed_each v a ss i x (omega (arith, h)) e k.1

-- a statement by itself, with names for its places
abbrev pub statement_named : Scope → Statement → Form
statement_named s x = form_named s (step_of (line_of x))

-- statements by themselves
named_each : (s : Scope) (ss : List Statement) → map (statement_named s) ss ≡ map (form_named s) (map step_of (map line_of ss))
named_each s [] = refl
named_each s (x ∷ ss) = ap (λ z. statement_named s x ∷ z) (named_each s ss)

-- one statement more
pub named_more : (s : Scope) (ss : List Statement) (i : ℕ) (x : Statement) (fs gs : List source_form.Form) (f : source_form.Form)
    → i < length ss → x ≡ get_or ss i x
    → forms_seen fs ≡ map (statement_named s) (take i ss) → form_seen f ≡ statement_named s x → gs ≡ fs ++ f ∷ []
    → forms_seen gs ≡ map (statement_named s) (take (i + 1) ss)
named_more s ss i x fs gs f h e q r g =
    ap forms_seen g
    ∙ forms_push fs f
    ∙ ap (λ z. z ++ form_seen f ∷ []) q
    ∙ ap (λ z. map (statement_named s) (take i ss) ++ z ∷ []) (r ∙ ap (statement_named s) e)
    ∙ sym (map_more (statement_named s) ss i x h)

-- all statements, where as many were named as there are
pub named_all : (s : Scope) (ss : List Statement) (i : ℕ) (fs : List source_form.Form) → length ss ≤ i → forms_seen fs ≡ map (statement_named s) (take i ss)
    → forms_seen fs ≡ map (form_named s) (map step_of (map line_of ss))
named_all s ss i fs h q = q ∙ ap (map (statement_named s)) (take_all i ss h) ∙ named_each s ss
