-- A text's statements are got back from the program: a name that has a place is the name at that place, so the program's
-- statements with names for their places are the text's, with each variable that is sent as a lone name.
use Rattle.std.proofs.Common.{◌≡◌, ℕ, zero, suc, ◌+◌, List, [], ◌∷◌, map, true, false, cond, pos, Some, refl, ap, ◌∙◌, sym, subst, arith}
use Rattle.std.specs.Prelude.{slice_index_or}
use Rattle.std.specs.List.{position_from}
use Rattle.std.specs.Str.{bytes_eq}
use Rattle.std.proofs.lemmas.Slice.Eq.{bytes_eq-Decides}
use Rattle.std.proofs.lemmas.Iterator.Adapters.{position_from-zero}
use Rattle.rank_text.specs.Grammar.Tree as text
use Rattle.rank_text.specs.Grammar.Forms as line
use Rattle.rank_text.specs.Grammar.Forms.{Form}
use Rattle.rank_language.specs.Options.{◌>>=◌}
use Rattle.rank_text.specs.Checker.Scope.{Scope}
use Rattle.rank_language.specs.Placed.{Placed, number, variable, item, reading, negation, operation, Pattern, any, value}
use Rattle.rank_language.specs.Placed.{Payload, one, all_of, Buffer, into_variable, into_array}
use Rattle.rank_language.specs.Placed.{declare, declare_array, assign, assign_item, send, receive, probe, try_probe, print}
use Rattle.rank_language.specs.Placed.{barrier, broadcast, reduce, collect, Step, does, tests, repeats, otherwise, closes}
use Rattle.rank_language.specs.Resolved.{place_in, variable_place, array_place, resolved, pattern_resolved}
use Rattle.rank_language.specs.Resolved.{payload_resolved, buffer_resolved, form_resolved, all_resolved}
use Rattle.rank_language.specs.Named.{variable_name, array_at, named, pattern_named, value_named, payload_named, buffer_name, form_named}
use Rattle.rank_language.proofs.Options.{mapped, gone_on, either_from}
use Rattle.rank_text.specs.Printer.Canonical.{canonical_payload, canonical, all_canonical}

-- the name at the place that is found for a name, wherever counting begins
back_from : (names : List (List ℕ)) (x : List ℕ) (i p : ℕ) → position_from (λ y. bytes_eq y x) i names ≡ Some p
    → (k : ℕ) × (i + k ≡ p) × (slice_index_or names k [] ≡ x)
back_from [] x i p h = cc
back_from (y ∷ ys) x i p h =
    elim (bytes_eq y x) as (λ b. bytes_eq y x ≡ b → cond b (Some i) (position_from (λ z. bytes_eq z x) (i + 1) ys) ≡ Some p
    → (k : ℕ) × (i + k ≡ p) × (slice_index_or (y ∷ ys) k [] ≡ x)) [
      | true ↦ λ e q. (let r : i ≡ p = cc in (0, omega (arith, r), (bytes_eq-Decides y x).0 e))
      | false ↦ λ e q. (let (k, a, b) = back_from ys x (i + 1) p q in (suc k, omega (arith, a), b))
    ] refl h

-- the name at the place of a name is that name
name_back : (names : List (List ℕ)) (x : List ℕ) (p : ℕ) → place_in names x ≡ Some p → slice_index_or names p [] ≡ x
name_back names x p h =
    let (k, a, b) = back_from names x 0 p (sym (position_from-zero (λ y. bytes_eq y x) names) ∙ h) in
    let e : k ≡ p = omega (arith, a) in
    ap (λ z. slice_index_or names z []) (sym e) ∙ b

-- the name of an array is that among the names
names_at : (arrays : List (List ℕ × ℕ)) (p : ℕ) → (slice_index_or arrays p ([], 0)).0 ≡ slice_index_or (map (λ a. a.0) arrays) p []
names_at [] p = refl
names_at (a ∷ as') zero = refl
names_at (a ∷ as') (suc p) = names_at as' p

-- the array at the place of a name has that name
array_back : (s : Scope) (x : List ℕ) (p : ℕ) → array_place s x ≡ Some p → (array_at s p).0 ≡ x
array_back s x p h = names_at s.arrays p ∙ name_back (map (λ a. a.0) s.arrays) x p h

-- an expression is got back
tree_back : (s : Scope) (e : text.Tree) (t : Placed) → resolved s e ≡ Some t → named s t ≡ e
tree_back s (text.number n) t h =
    let q : number (pos n) ≡ t = cc in subst (λ z. named s z ≡ text.number n) q refl
tree_back s (text.variable x) t h =
    let (p, e, q) = mapped variable (variable_place s x) t h in
    subst (λ z. named s z ≡ text.variable x) q (ap text.variable (name_back s.variables x p e))
tree_back s (text.item x i) t h =
    let (p, e, k) = gone_on _ (array_place s x) t h in
    let (index, g, q) = gone_on _ (resolved s i) t k in
    let r : item p index ≡ t = cc in
    subst (λ z. named s z ≡ text.item x i) r (ap (λ y. text.item y (named s index)) (array_back s x p e) ∙ ap (text.item x) (tree_back s i index g))
tree_back s (text.reading r) t h =
    let q : reading r ≡ t = cc in subst (λ z. named s z ≡ text.reading r) q refl
tree_back s (text.negation e) t h =
    let (a, g, q) = mapped negation (resolved s e) t h in
    subst (λ z. named s z ≡ text.negation e) q (ap text.negation (tree_back s e a g))
tree_back s (text.operation o a b) t h =
    let (left, g, k) = gone_on _ (resolved s a) t h in
    let (right, i, q) = gone_on _ (resolved s b) t k in
    let r : operation o left right ≡ t = cc in
    subst (λ z. named s z ≡ text.operation o a b) r
    (ap (λ y. text.operation o y (named s right)) (tree_back s a left g) ∙ ap (text.operation o a) (tree_back s b right i))

-- a pattern is got back
pattern_back : (s : Scope) (c : line.Pattern) (t : Pattern) → pattern_resolved s c ≡ Some t → pattern_named s t ≡ c
pattern_back s line.any t h =
    let q : any ≡ t = cc in subst (λ z. pattern_named s z ≡ line.any) q refl
pattern_back s (line.value e) t h =
    let (a, g, q) = mapped value (resolved s e) t h in
    subst (λ z. pattern_named s z ≡ line.value e) q (ap line.value (tree_back s e a g))

-- a value that is sent is got back
value_back : (s : Scope) (e : text.Tree) (t : Placed) → resolved s e ≡ Some t → value_named s t ≡ canonical_payload (line.one e)
value_back s (text.number n) t h =
    let q : number (pos n) ≡ t = cc in subst (λ z. value_named s z ≡ line.one (text.number n)) q refl
value_back s (text.variable x) t h =
    let (p, e, q) = mapped variable (variable_place s x) t h in
    subst (λ z. value_named s z ≡ line.lone x) q (ap line.lone (name_back s.variables x p e))
value_back s (text.item x i) t h =
    let (p, e, k) = gone_on _ (array_place s x) t h in
    let (index, g, q) = gone_on _ (resolved s i) t k in
    let r : item p index ≡ t = cc in
    subst (λ z. value_named s z ≡ line.one (text.item x i)) r
    (ap (λ y. line.one (text.item y (named s index))) (array_back s x p e) ∙ ap (λ y. line.one (text.item x y)) (tree_back s i index g))
value_back s (text.reading r) t h =
    let q : reading r ≡ t = cc in subst (λ z. value_named s z ≡ line.one (text.reading r)) q refl
value_back s (text.negation e) t h =
    let (a, g, q) = mapped negation (resolved s e) t h in
    subst (λ z. value_named s z ≡ line.one (text.negation e)) q (ap (λ y. line.one (text.negation y)) (tree_back s e a g))
value_back s (text.operation o a b) t h =
    let (left, g, k) = gone_on _ (resolved s a) t h in
    let (right, i, q) = gone_on _ (resolved s b) t k in
    let r : operation o left right ≡ t = cc in
    subst (λ z. value_named s z ≡ line.one (text.operation o a b)) r
    (ap (λ y. line.one (text.operation o y (named s right))) (tree_back s a left g)
    ∙ ap (λ y. line.one (text.operation o a y)) (tree_back s b right i))

-- a payload is got back
payload_back : (s : Scope) (p : line.Payload) (t : Payload) → payload_resolved s p ≡ Some t → payload_named s t ≡ canonical_payload p
payload_back s (line.lone x) t h =
    either_from (λ k. one (variable k)) all_of (variable_place s x) (array_place s x) (λ z. payload_named s z ≡ line.lone x) t
    (λ p q. ap line.lone (name_back s.variables x p q)) (λ p q. ap line.lone (array_back s x p q)) h
payload_back s (line.one e) t h =
    let (a, g, q) = mapped one (resolved s e) t h in
    subst (λ z. payload_named s z ≡ canonical_payload (line.one e)) q (value_back s e a g)

-- a buffer's name is got back
buffer_back : (s : Scope) (x : List ℕ) (t : Buffer) → buffer_resolved s x ≡ Some t → buffer_name s t ≡ x
buffer_back s x t h =
    either_from into_variable into_array (variable_place s x) (array_place s x) (λ z. buffer_name s z ≡ x) t
    (name_back s.variables x) (array_back s x) h

-- an array that the statement declares stands at its place with its length
abbrev pub ArrayStands : Scope → Form → Type 0
ArrayStands s (line.array_form x n) = (p : ℕ) → array_place s x ≡ Some p → array_at s p ≡ (x, n)
ArrayStands s (line.var_form x) = Unit {0}
ArrayStands s (line.let_form x e) = Unit {0}
ArrayStands s (line.item_form x i e) = Unit {0}
ArrayStands s (line.if_form e) = Unit {0}
ArrayStands s line.else_form = Unit {0}
ArrayStands s line.end_form = Unit {0}
ArrayStands s (line.while_form e) = Unit {0}
ArrayStands s (line.send_form d g p) = Unit {0}
ArrayStands s (line.recv_form c g x) = Unit {0}
ArrayStands s (line.probe_form c g) = Unit {0}
ArrayStands s (line.try_probe_form c g x) = Unit {0}
ArrayStands s (line.print_form e) = Unit {0}
ArrayStands s line.barrier_form = Unit {0}
ArrayStands s (line.bcast_form r x) = Unit {0}
ArrayStands s (line.reduce_form o r e x) = Unit {0}

-- each that statements declare does
abbrev pub AllArraysStand : Scope → List Form → Type 0
AllArraysStand s [] = Unit {0}
AllArraysStand s (f ∷ fs) = ArrayStands s f × AllArraysStand s fs

-- a statement is got back
form_back : (s : Scope) (f : Form) (t : Step) → ArrayStands s f → form_resolved s f ≡ Some t → form_named s t ≡ canonical f
form_back s (line.var_form x) t l h =
    let (p, e, q) = mapped (λ k. does (declare k)) (variable_place s x) t h in
    subst (λ z. form_named s z ≡ line.var_form x) q (ap line.var_form (name_back s.variables x p e))
form_back s (line.array_form x n) t l h =
    let (p, e, q) = mapped (λ k. does (declare_array k)) (array_place s x) t h in
    subst (λ z. form_named s z ≡ line.array_form x n) q (ap (λ a. line.array_form a.0 a.1) (l p e))
form_back s (line.let_form x e) t l h =
    let (p, a, i) = gone_on _ (variable_place s x) t h in
    let (v, b, j) = gone_on _ (resolved s e) t i in
    let q : does (assign p v) ≡ t = cc in
    subst (λ z. form_named s z ≡ line.let_form x e) q
    (ap (λ y. line.let_form y (named s v)) (name_back s.variables x p a) ∙ ap (line.let_form x) (tree_back s e v b))
form_back s (line.item_form x d e) t l h =
    let (p, a, i) = gone_on _ (array_place s x) t h in
    let (index, b, j) = gone_on _ (resolved s d) t i in
    let (v, c, k) = gone_on _ (resolved s e) t j in
    let q : does (assign_item p index v) ≡ t = cc in
    subst (λ z. form_named s z ≡ line.item_form x d e) q
    (ap (λ y. line.item_form y (named s index) (named s v)) (array_back s x p a)
    ∙ ap (λ y. line.item_form x y (named s v)) (tree_back s d index b)
    ∙ ap (line.item_form x d) (tree_back s e v c))
form_back s (line.if_form e) t l h =
    let (a, g, q) = mapped tests (resolved s e) t h in
    subst (λ z. form_named s z ≡ line.if_form e) q (ap line.if_form (tree_back s e a g))
form_back s (line.while_form e) t l h =
    let (a, g, q) = mapped repeats (resolved s e) t h in
    subst (λ z. form_named s z ≡ line.while_form e) q (ap line.while_form (tree_back s e a g))
form_back s line.else_form t l h =
    let q : otherwise ≡ t = cc in subst (λ z. form_named s z ≡ line.else_form) q refl
form_back s line.end_form t l h =
    let q : closes ≡ t = cc in subst (λ z. form_named s z ≡ line.end_form) q refl
form_back s (line.send_form d g p) t l h =
    let (x, a, i) = gone_on _ (resolved s d) t h in
    let (y, b, j) = gone_on _ (resolved s g) t i in
    let (w, c, k) = gone_on _ (payload_resolved s p) t j in
    let q : does (send x y w) ≡ t = cc in
    subst (λ z. form_named s z ≡ line.send_form d g (canonical_payload p)) q
    (ap (λ z. line.send_form z (named s y) (payload_named s w)) (tree_back s d x a)
    ∙ ap (λ z. line.send_form d z (payload_named s w)) (tree_back s g y b)
    ∙ ap (line.send_form d g) (payload_back s p w c))
form_back s (line.recv_form r g x) t l h =
    let (c, a, i) = gone_on _ (pattern_resolved s r) t h in
    let (y, b, j) = gone_on _ (pattern_resolved s g) t i in
    let (w, e, k) = gone_on _ (buffer_resolved s x) t j in
    let q : does (receive c y w) ≡ t = cc in
    subst (λ z. form_named s z ≡ line.recv_form r g x) q
    (ap (λ z. line.recv_form z (pattern_named s y) (buffer_name s w)) (pattern_back s r c a)
    ∙ ap (λ z. line.recv_form r z (buffer_name s w)) (pattern_back s g y b)
    ∙ ap (line.recv_form r g) (buffer_back s x w e))
form_back s (line.probe_form r g) t l h =
    let (c, a, i) = gone_on _ (pattern_resolved s r) t h in
    let (y, b, j) = gone_on _ (pattern_resolved s g) t i in
    let q : does (probe c y) ≡ t = cc in
    subst (λ z. form_named s z ≡ line.probe_form r g) q
    (ap (λ z. line.probe_form z (pattern_named s y)) (pattern_back s r c a) ∙ ap (line.probe_form r) (pattern_back s g y b))
form_back s (line.try_probe_form r g x) t l h =
    let (c, a, i) = gone_on _ (pattern_resolved s r) t h in
    let (y, b, j) = gone_on _ (pattern_resolved s g) t i in
    let (p, e, k) = gone_on _ (variable_place s x) t j in
    let q : does (try_probe c y p) ≡ t = cc in
    subst (λ z. form_named s z ≡ line.try_probe_form r g x) q
    (ap (λ z. line.try_probe_form z (pattern_named s y) (variable_name s p)) (pattern_back s r c a)
    ∙ ap (λ z. line.try_probe_form r z (variable_name s p)) (pattern_back s g y b)
    ∙ ap (line.try_probe_form r g) (name_back s.variables x p e))
form_back s (line.print_form e) t l h =
    let (a, g, q) = mapped (λ v. does (print v)) (resolved s e) t h in
    subst (λ z. form_named s z ≡ line.print_form e) q (ap line.print_form (tree_back s e a g))
form_back s line.barrier_form t l h =
    let q : does (collect barrier) ≡ t = cc in subst (λ z. form_named s z ≡ line.barrier_form) q refl
form_back s (line.bcast_form r x) t l h =
    let (root, a, i) = gone_on _ (resolved s r) t h in
    let (buffer, b, j) = gone_on _ (buffer_resolved s x) t i in
    let q : does (collect (broadcast root buffer)) ≡ t = cc in
    let same = ap (λ z. line.bcast_form z (buffer_name s buffer)) (tree_back s r root a) ∙ ap (line.bcast_form r) (buffer_back s x buffer b) in
    subst (λ z. form_named s z ≡ line.bcast_form r x) q same
form_back s (line.reduce_form o r e x) t l h =
    let (root, a, i) = gone_on _ (resolved s r) t h in
    let (v, b, j) = gone_on _ (resolved s e) t i in
    let (p, c, k) = gone_on _ (variable_place s x) t j in
    let q : does (collect (reduce o root v p)) ≡ t = cc in
    let same =
    ap (λ z. line.reduce_form o z (named s v) (variable_name s p)) (tree_back s r root a)
    ∙ ap (λ z. line.reduce_form o r z (variable_name s p)) (tree_back s e v b)
    ∙ ap (line.reduce_form o r e) (name_back s.variables x p c) in
    subst (λ z. form_named s z ≡ line.reduce_form o r e x) q same

-- statements are got back
pub forms_back : (s : Scope) (fs : List Form) (ts : List Step) → AllArraysStand s fs → all_resolved s fs ≡ Some ts → map (form_named s) ts ≡ all_canonical fs
forms_back s [] ts l h =
    let q : [] ≡ ts = cc in subst (λ z. map (form_named s) z ≡ []) q refl
forms_back s (f ∷ fs) ts l h =
    let (t, a, i) = gone_on _ (form_resolved s f) ts h in
    let (us, b, j) = gone_on _ (all_resolved s fs) ts i in
    let q : t ∷ us ≡ ts = cc in
    subst (λ z. map (form_named s) z ≡ canonical f ∷ all_canonical fs) q
    (ap (λ y. y ∷ map (form_named s) us) (form_back s f t l.0 a) ∙ ap (λ z. canonical f ∷ z) (forms_back s fs us l.1 b))
