-- A statement resolves exactly where its names are declared: by recursion, whether an expression resolves is whether
-- all its names are declared, since a name has a place exactly where it stands in its table.
use Rattle.std.proofs.Common.{◌≡◌, ℕ, List, map, Bool, true, false, ◌&&◌, ◌||◌, Option, Some, None, option_map, ◌↔◌, refl, ap, ◌∙◌, sym}
use Rattle.std.specs.Option.{is_some}
use Rattle.rank_text.specs.Grammar.Tree.{Tree, number, variable, item, reading, negation, operation}
use Rattle.rank_text.specs.Grammar.Forms.{Pattern, any, value, Payload, lone, one}
use Rattle.rank_text.specs.Grammar.Forms.{Form, var_form, array_form, let_form, item_form, if_form, else_form, end_form, while_form}
use Rattle.rank_language.specs.Options.{◌>>=◌}
use Rattle.rank_text.specs.Grammar.Forms.{send_form, recv_form, probe_form, try_probe_form, print_form, barrier_form, bcast_form, reduce_form}
use Rattle.rank_text.specs.Checker.Scope.{Scope, is_name_in, is_variable, is_array, is_declared, all_declared}
use Rattle.rank_text.specs.Checker.Scope.{pattern_declared, payload_declared, declared_in, after}
use Rattle.rank_language.specs.Resolved.{place_in, variable_place, array_place, either_place, resolved}
use Rattle.rank_language.specs.Resolved.{pattern_resolved, payload_resolved, buffer_resolved, form_resolved}
use Rattle.rank_language.proofs.Names.{place_of_named, place_of_other}
use Rattle.rank_language.proofs.Whole.{named_last, array_last}

-- a mapped option has a value exactly where the option has
mapped_some : {A B : Type 0} (f : A → B) (o : Option A) → is_some o ≡ is_some (option_map f o)
mapped_some f None = refl
mapped_some f (Some a) = refl

-- two steps have a value exactly where both have
two_some : {A B C : Type 0} (f : A → B → C) (o : Option A) (q : Option B) → (is_some o && is_some q) ≡ is_some (o >>= λ a. q >>= λ b. Some (f a b))
two_some f None q = refl
two_some f (Some a) None = refl
two_some f (Some a) (Some b) = refl

-- three steps have a value exactly where all have
three_some : {A B C D : Type 0} (f : A → B → C → D) (o : Option A) (q : Option B) (r : Option C)
    → (is_some o && is_some q && is_some r) ≡ is_some (o >>= λ a. q >>= λ b. r >>= λ c. Some (f a b c))
three_some f None q r = refl
three_some f (Some a) None r = refl
three_some f (Some a) (Some b) None = refl
three_some f (Some a) (Some b) (Some c) = refl

-- a name has a place as it stands in its table or not
place_known : (names : List (List ℕ)) (x : List ℕ) (b : Bool) → is_name_in names x ≡ b → b ≡ is_some (place_in names x)
place_known names x true h =
    let (p, e) = place_of_named names x h in
    sym (ap is_some e)
place_known names x false h = sym (ap is_some (place_of_other names x h))

-- a name has a place exactly where it stands
placed_some : (names : List (List ℕ)) (x : List ℕ) → is_name_in names x ≡ is_some (place_in names x)
placed_some names x = place_known names x (is_name_in names x) refl

-- an expression resolves exactly where its names are declared
tree_some : (s : Scope) (e : Tree) → all_declared s e ≡ is_some (resolved s e)
tree_some s (number n) = refl
tree_some s (variable x) = placed_some s.variables x ∙ mapped_some _ (variable_place s x)
tree_some s (item x e) =
    ap (λ b. b && all_declared s e) (placed_some (map (λ a. a.0) s.arrays) x)
    ∙ ap (λ b. is_some (array_place s x) && b) (tree_some s e)
    ∙ two_some _ (array_place s x) (resolved s e)
tree_some s (reading r) = refl
tree_some s (negation e) = tree_some s e ∙ mapped_some _ (resolved s e)
tree_some s (operation o a b) =
    ap (λ z. z && all_declared s b) (tree_some s a)
    ∙ ap (λ z. is_some (resolved s a) && z) (tree_some s b)
    ∙ two_some _ (resolved s a) (resolved s b)

-- a pattern resolves exactly where its names are declared
pattern_some : (s : Scope) (c : Pattern) → pattern_declared s c ≡ is_some (pattern_resolved s c)
pattern_some s any = refl
pattern_some s (value e) = tree_some s e ∙ mapped_some _ (resolved s e)

-- a name stands for something exactly where it has one of two places
either_some : {A : Type 0} (f g : ℕ → A) (o q : Option ℕ) → (is_some o || is_some q) ≡ is_some (either_place f g o q)
either_some f g (Some p) q = refl
either_some f g None None = refl
either_some f g None (Some p) = refl

-- a name stands for a variable or an array exactly where it is declared
declared_some : {A : Type 0} (f g : ℕ → A) (s : Scope) (x : List ℕ) → is_declared s x ≡ is_some (either_place f g (variable_place s x) (array_place s x))
declared_some f g s x =
    ap (λ b. b || is_array s x) (placed_some s.variables x)
    ∙ ap (λ b. is_some (variable_place s x) || b) (placed_some (map (λ a. a.0) s.arrays) x)
    ∙ either_some f g (variable_place s x) (array_place s x)

-- a payload resolves exactly where its names are declared
payload_some : (s : Scope) (p : Payload) → payload_declared s p ≡ is_some (payload_resolved s p)
payload_some s (lone x) = declared_some _ _ s x
payload_some s (one e) = tree_some s e ∙ mapped_some _ (resolved s e)

-- open blocks declare nothing
same_tables : (s : Scope) (bs : _) (e : Tree) → all_declared s e ≡ all_declared (record s { blocks = bs }) e
same_tables s bs (number n) = refl
same_tables s bs (variable x) = refl
same_tables s bs (item x e) = ap (λ b. is_array s x && b) (same_tables s bs e)
same_tables s bs (reading r) = refl
same_tables s bs (negation e) = same_tables s bs e
same_tables s bs (operation o a b) =
    ap (λ z. z && all_declared s b) (same_tables s bs a) ∙ ap (λ z. all_declared (record s { blocks = bs }) a && z) (same_tables s bs b)

-- a statement resolves exactly where its names are declared
form_some : (s : Scope) (f : Form) → declared_in s f ≡ is_some (form_resolved (after s f) f)
form_some s (var_form x) =
    sym (named_last s.variables x) ∙ placed_some (after s (var_form x)).variables x ∙ mapped_some _ (variable_place (after s (var_form x)) x)
form_some s (array_form x n) =
    sym (array_last s.arrays x n) ∙ placed_some (map (λ a. a.0) (after s (array_form x n)).arrays) x ∙ mapped_some _ (array_place (after s (array_form x n)) x)
form_some s (item_form x i e) =
    ap (λ z. z && all_declared s i && all_declared s e) (placed_some (map (λ a. a.0) s.arrays) x)
    ∙ ap (λ z. is_some (array_place s x) && z && all_declared s e) (tree_some s i)
    ∙ ap (λ z. is_some (array_place s x) && is_some (resolved s i) && z) (tree_some s e)
    ∙ three_some _ (array_place s x) (resolved s i) (resolved s e)
form_some s (let_form x e) =
    ap (λ z. z && all_declared s e) (placed_some s.variables x)
    ∙ ap (λ z. is_some (variable_place s x) && z) (tree_some s e)
    ∙ two_some _ (variable_place s x) (resolved s e)
form_some s (while_form e) =
    same_tables s (after s (while_form e)).blocks e ∙ tree_some (after s (while_form e)) e ∙ mapped_some _ (resolved (after s (while_form e)) e)
form_some s (if_form e) =
    same_tables s (after s (if_form e)).blocks e ∙ tree_some (after s (if_form e)) e ∙ mapped_some _ (resolved (after s (if_form e)) e)
form_some s else_form = refl
form_some s end_form = refl
form_some s (send_form d t p) =
    ap (λ z. z && all_declared s t && payload_declared s p) (tree_some s d)
    ∙ ap (λ z. is_some (resolved s d) && z && payload_declared s p) (tree_some s t)
    ∙ ap (λ z. is_some (resolved s d) && is_some (resolved s t) && z) (payload_some s p)
    ∙ three_some _ (resolved s d) (resolved s t) (payload_resolved s p)
form_some s (recv_form c t x) =
    ap (λ z. z && pattern_declared s t && is_declared s x) (pattern_some s c)
    ∙ ap (λ z. is_some (pattern_resolved s c) && z && is_declared s x) (pattern_some s t)
    ∙ ap (λ z. is_some (pattern_resolved s c) && is_some (pattern_resolved s t) && z) (declared_some _ _ s x)
    ∙ three_some _ (pattern_resolved s c) (pattern_resolved s t) (buffer_resolved s x)
form_some s (probe_form c t) =
    ap (λ z. z && pattern_declared s t) (pattern_some s c)
    ∙ ap (λ z. is_some (pattern_resolved s c) && z) (pattern_some s t)
    ∙ two_some _ (pattern_resolved s c) (pattern_resolved s t)
form_some s (try_probe_form c t x) =
    ap (λ z. z && pattern_declared s t && is_variable s x) (pattern_some s c)
    ∙ ap (λ z. is_some (pattern_resolved s c) && z && is_variable s x) (pattern_some s t)
    ∙ ap (λ z. is_some (pattern_resolved s c) && is_some (pattern_resolved s t) && z) (placed_some s.variables x)
    ∙ three_some _ (pattern_resolved s c) (pattern_resolved s t) (variable_place s x)
form_some s (print_form e) = tree_some s e ∙ mapped_some _ (resolved s e)
form_some s barrier_form = refl
form_some s (bcast_form r x) =
    ap (λ z. z && is_declared s x) (tree_some s r)
    ∙ ap (λ z. is_some (resolved s r) && z) (declared_some _ _ s x)
    ∙ two_some _ (resolved s r) (buffer_resolved s x)
form_some s (reduce_form o r e x) =
    ap (λ z. z && all_declared s e && is_variable s x) (tree_some s r)
    ∙ ap (λ z. is_some (resolved s r) && z && is_variable s x) (tree_some s e)
    ∙ ap (λ z. is_some (resolved s r) && is_some (resolved s e) && z) (placed_some s.variables x)
    ∙ three_some _ (resolved s r) (resolved s e) (variable_place s x)

-- an option without a value, by the test that says whether it has one
none_where : {A : Type 0} (o : Option A) (b : Bool) → b ≡ is_some o → (o ≡ None) ↔ (b ≡ false)
none_where None b h = (λ _. h, λ _. refl)
none_where (Some a) b h = (λ n. absurd (let k : Some a ≡ None = n in cc), λ n. absurd (let k : true ≡ false = sym h ∙ n in cc))

-- a statement doesn't resolve exactly where a name in it isn't declared
pub undeclared_unresolved : (s : Scope) (f : Form) → (form_resolved (after s f) f ≡ None) ↔ (declared_in s f ≡ false)
undeclared_unresolved s f = none_where (form_resolved (after s f) f) (declared_in s f) (form_some s f)
