-- What a whole program's statements by name are, by the tables that they leave. Tables only grow, so what is declared in
-- front of a statement is declared in the tables of the whole; and where each statement may stand, blocks balance.
use Rattle.limits.specs.Limits.{most_items}
use Rattle.std.proofs.Common.{◌≡◌, ℕ, ◌≤◌, List, [], ◌∷◌, ◌++◌, map, true, false, ◌&&◌, Some, arith, refl, ap, ◌∙◌, sym, subst}
use Rattle.std.specs.Str.{bytes_eq}
use Rattle.std.proofs.lemmas.Slice.Eq.{bytes_eq-Decides}
use Rattle.std.proofs.lemmas.Bool.Decides.{nat_tests}
use Rattle.std.proofs.lemmas.Bool.{and_parts, and_from}
use Rattle.rank_text.specs.Grammar.Tree.{Tree, number, variable, item, reading, negation, operation}
use Rattle.rank_text.specs.Grammar.Forms.{Pattern, any, value, Payload, lone, one}
use Rattle.rank_text.specs.Grammar.Forms.{Form, var_form, array_form, let_form, item_form, if_form, else_form, end_form, while_form}
use Rattle.rank_text.specs.Grammar.Forms.{send_form, recv_form, probe_form, try_probe_form, print_form, barrier_form, bcast_form, reduce_form}
use Rattle.rank_text.specs.Checker.Scope.{Scope, nothing_yet, is_name_in, is_variable, is_array, is_declared, all_declared, pattern_declared}
use Rattle.rank_text.specs.Checker.Scope.{payload_declared, declared_in, is_stray, is_past_table, after, after_all, AllMayStand, IsWhole}
use Rattle.rank_language.specs.Placed.{Step}
use Rattle.rank_language.specs.Program.{AllSized}
use Rattle.rank_language.specs.Resolved.{form_resolved, all_resolved}
use Rattle.rank_language.specs.Resolvable.{AllResolvable, declares_in}
use Rattle.rank_language.specs.Ends.{kind_of}
use Rattle.rank_language.proofs.Options.{gone_on, either}
use Rattle.rank_language.proofs.Spread.{blocks_after, strays, Balanced}
use Rattle.rank_language.proofs.Resolving.{becomes}

-- What is declared in one scope is declared in another.
record Grows (s t : Scope) : Type 0 where
  variables : (x : List ℕ) → is_variable s x ≡ true → is_variable t x ≡ true
  arrays : (x : List ℕ) → is_array s x ≡ true → is_array t x ≡ true

-- growth upon growth
grows_twice : (r s t : Scope) → Grows r s → Grows s t → Grows r t
grows_twice r s t g h = record { variables = λ x k. h.variables x (g.variables x k); arrays = λ x k. h.arrays x (g.arrays x k) }

-- a declared name stays declared
declared_grows : (s t : Scope) → Grows s t → (x : List ℕ) → is_declared s x ≡ true → is_declared t x ≡ true
declared_grows s t g x h =
    either (is_variable s x) (is_array s x) (is_variable t x) (is_array t x) (g.variables x) (g.arrays x) h

-- an expression's names stay declared
tree_grows : (s t : Scope) → Grows s t → (e : Tree) → all_declared s e ≡ true → all_declared t e ≡ true
tree_grows s t g (number n) h = refl
tree_grows s t g (variable x) h = g.variables x h
tree_grows s t g (item x e) h =
    let (a, b) = and_parts (is_array s x) (all_declared s e) h in
    and_from (is_array t x) (all_declared t e) (g.arrays x a) (tree_grows s t g e b)
tree_grows s t g (reading r) h = refl
tree_grows s t g (negation e) h = tree_grows s t g e h
tree_grows s t g (operation o d e) h =
    let (a, b) = and_parts (all_declared s d) (all_declared s e) h in
    and_from (all_declared t d) (all_declared t e) (tree_grows s t g d a) (tree_grows s t g e b)

-- a pattern's names stay declared
pattern_grows : (s t : Scope) → Grows s t → (c : Pattern) → pattern_declared s c ≡ true → pattern_declared t c ≡ true
pattern_grows s t g any h = refl
pattern_grows s t g (value e) h = tree_grows s t g e h

-- a payload's names stay declared
payload_grows : (s t : Scope) → Grows s t → (p : Payload) → payload_declared s p ≡ true → payload_declared t p ≡ true
payload_grows s t g (lone x) h = declared_grows s t g x h
payload_grows s t g (one e) h = tree_grows s t g e h

-- a statement's names stay declared
form_grows : (s t : Scope) → Grows s t → (f : Form) → declared_in s f ≡ true → declared_in t f ≡ true
form_grows s t g (var_form x) h = refl
form_grows s t g (let_form x e) h =
    let (a, b) = and_parts (is_variable s x) (all_declared s e) h in
    and_from (is_variable t x) (all_declared t e) (g.variables x a) (tree_grows s t g e b)
form_grows s t g (array_form x n) h = refl
form_grows s t g (item_form x i e) h =
    let (ab, c) = and_parts (is_array s x && all_declared s i) (all_declared s e) h in
    let (a, b) = and_parts (is_array s x) (all_declared s i) ab in
    and_from (is_array t x && all_declared t i) (all_declared t e)
    (and_from (is_array t x) (all_declared t i) (g.arrays x a) (tree_grows s t g i b)) (tree_grows s t g e c)
form_grows s t g (if_form e) h = tree_grows s t g e h
form_grows s t g (while_form e) h = tree_grows s t g e h
form_grows s t g else_form h = refl
form_grows s t g end_form h = refl
form_grows s t g (send_form d e p) h =
    let (ab, c) = and_parts (all_declared s d && all_declared s e) (payload_declared s p) h in
    let (a, b) = and_parts (all_declared s d) (all_declared s e) ab in
    and_from (all_declared t d && all_declared t e) (payload_declared t p)
    (and_from (all_declared t d) (all_declared t e) (tree_grows s t g d a) (tree_grows s t g e b)) (payload_grows s t g p c)
form_grows s t g (recv_form r e x) h =
    let (ab, c) = and_parts (pattern_declared s r && pattern_declared s e) (is_declared s x) h in
    let (a, b) = and_parts (pattern_declared s r) (pattern_declared s e) ab in
    and_from (pattern_declared t r && pattern_declared t e) (is_declared t x)
    (and_from (pattern_declared t r) (pattern_declared t e) (pattern_grows s t g r a) (pattern_grows s t g e b)) (declared_grows s t g x c)
form_grows s t g (probe_form r e) h =
    let (a, b) = and_parts (pattern_declared s r) (pattern_declared s e) h in
    and_from (pattern_declared t r) (pattern_declared t e) (pattern_grows s t g r a) (pattern_grows s t g e b)
form_grows s t g (try_probe_form r e x) h =
    let (ab, c) = and_parts (pattern_declared s r && pattern_declared s e) (is_variable s x) h in
    let (a, b) = and_parts (pattern_declared s r) (pattern_declared s e) ab in
    and_from (pattern_declared t r && pattern_declared t e) (is_variable t x)
    (and_from (pattern_declared t r) (pattern_declared t e) (pattern_grows s t g r a) (pattern_grows s t g e b)) (g.variables x c)
form_grows s t g (print_form e) h = tree_grows s t g e h
form_grows s t g barrier_form h = refl
form_grows s t g (bcast_form r x) h =
    let (a, b) = and_parts (all_declared s r) (is_declared s x) h in
    and_from (all_declared t r) (is_declared t x) (tree_grows s t g r a) (declared_grows s t g x b)
form_grows s t g (reduce_form o r e x) h =
    let (ab, c) = and_parts (all_declared s r && all_declared s e) (is_variable s x) h in
    let (a, b) = and_parts (all_declared s r) (all_declared s e) ab in
    let parts = and_from (all_declared t r) (all_declared t e) (tree_grows s t g r a) (tree_grows s t g e b) in
    and_from (all_declared t r && all_declared t e) (is_variable t x) parts (g.variables x c)

-- a name that stands in a table stands in a longer one
named_longer : (xs ys : List (List ℕ)) (x : List ℕ) → is_name_in xs x ≡ true → is_name_in (xs ++ ys) x ≡ true
named_longer [] ys x h = cc
named_longer (z ∷ zs) ys x h =
    either (bytes_eq z x) (is_name_in zs x) (bytes_eq z x) (is_name_in (zs ++ ys) x) (λ k. k) (named_longer zs ys x) h

-- a name that is put last stands among them
pub named_last : (xs : List (List ℕ)) (x : List ℕ) → is_name_in (xs ++ x ∷ []) x ≡ true
named_last [] x = either true false (bytes_eq x x) false (λ k. (bytes_eq-Decides x x).1 refl) (λ k. k) refl
named_last (z ∷ zs) x =
    either false true (bytes_eq z x) (is_name_in (zs ++ x ∷ []) x) (λ k. absurd (cc)) (λ k. named_last zs x) refl

-- an array that stands in a table stands in a longer one
array_longer : (xs : List (List ℕ × ℕ)) (a : List ℕ × ℕ) (y : List ℕ) → is_name_in (map (λ b. b.0) xs) y ≡ true
    → is_name_in (map (λ b. b.0) (xs ++ a ∷ [])) y ≡ true
array_longer [] a y h = cc
array_longer (z ∷ zs) a y h =
    either (bytes_eq z.0 y) (is_name_in (map (λ b. b.0) zs) y) (bytes_eq z.0 y) (is_name_in (map (λ b. b.0) (zs ++ a ∷ [])) y) (λ k. k) (array_longer zs a y) h

-- an array that is put last stands among them
pub array_last : (xs : List (List ℕ × ℕ)) (x : List ℕ) (n : ℕ) → is_name_in (map (λ b. b.0) (xs ++ (x, n) ∷ [])) x ≡ true
array_last [] x n = either true false (bytes_eq x x) false (λ k. (bytes_eq-Decides x x).1 refl) (λ k. k) refl
array_last (z ∷ zs) x n =
    either false true (bytes_eq z.0 x) (is_name_in (map (λ b. b.0) (zs ++ (x, n) ∷ [])) x) (λ k. absurd (cc)) (λ k. array_last zs x n) refl

-- the tables behind a statement have what those in front of it have
after_grows : (s : Scope) (f : Form) → Grows s (after s f)
after_grows s (var_form x) = record { variables = named_longer s.variables (x ∷ []); arrays = λ y h. h }
after_grows s (array_form x n) = record { variables = λ y h. h; arrays = array_longer s.arrays (x, n) }
after_grows s (item_form x i e) = record { variables = λ y h. h; arrays = λ y h. h }
after_grows s (let_form x e) = record { variables = λ y h. h; arrays = λ y h. h }
after_grows s (if_form e) = record { variables = λ y h. h; arrays = λ y h. h }
after_grows s (while_form e) = record { variables = λ y h. h; arrays = λ y h. h }
after_grows s else_form = record { variables = λ y h. h; arrays = λ y h. h }
after_grows s end_form = record { variables = λ y h. h; arrays = λ y h. h }
after_grows s (send_form d t p) = record { variables = λ y h. h; arrays = λ y h. h }
after_grows s (recv_form c t x) = record { variables = λ y h. h; arrays = λ y h. h }
after_grows s (probe_form c t) = record { variables = λ y h. h; arrays = λ y h. h }
after_grows s (try_probe_form c t x) = record { variables = λ y h. h; arrays = λ y h. h }
after_grows s (print_form e) = record { variables = λ y h. h; arrays = λ y h. h }
after_grows s barrier_form = record { variables = λ y h. h; arrays = λ y h. h }
after_grows s (bcast_form r x) = record { variables = λ y h. h; arrays = λ y h. h }
after_grows s (reduce_form o r e x) = record { variables = λ y h. h; arrays = λ y h. h }

-- the tables behind statements have what those in front have
all_grows : (s : Scope) (fs : List Form) → Grows s (after_all s fs)
all_grows s [] = record { variables = λ y h. h; arrays = λ y h. h }
all_grows s (f ∷ fs) = grows_twice s (after s f) (after_all (after s f) fs) (after_grows s f) (all_grows (after s f) fs)

-- what a statement declares is in the tables behind it
declares_after : (s : Scope) (f : Form) → declares_in (after s f) f ≡ true
declares_after s (var_form x) = named_last s.variables x
declares_after s (array_form x n) = array_last s.arrays x n
declares_after s (let_form x e) = refl
declares_after s (item_form x i e) = refl
declares_after s (if_form e) = refl
declares_after s (while_form e) = refl
declares_after s else_form = refl
declares_after s end_form = refl
declares_after s (send_form d t p) = refl
declares_after s (recv_form c t x) = refl
declares_after s (probe_form c t) = refl
declares_after s (try_probe_form c t x) = refl
declares_after s (print_form e) = refl
declares_after s barrier_form = refl
declares_after s (bcast_form r x) = refl
declares_after s (reduce_form o r e x) = refl

-- what is in the tables stays there
declares_grows : (s t : Scope) → Grows s t → (f : Form) → declares_in s f ≡ true → declares_in t f ≡ true
declares_grows s t g (var_form x) h = g.variables x h
declares_grows s t g (array_form x n) h = g.arrays x h
declares_grows s t g (let_form x e) h = refl
declares_grows s t g (item_form x i e) h = refl
declares_grows s t g (if_form e) h = refl
declares_grows s t g (while_form e) h = refl
declares_grows s t g else_form h = refl
declares_grows s t g end_form h = refl
declares_grows s t g (send_form d e p) h = refl
declares_grows s t g (recv_form c e x) h = refl
declares_grows s t g (probe_form c e) h = refl
declares_grows s t g (try_probe_form c e x) h = refl
declares_grows s t g (print_form e) h = refl
declares_grows s t g barrier_form h = refl
declares_grows s t g (bcast_form r x) h = refl
declares_grows s t g (reduce_form o r e x) h = refl

-- statements that may stand are resolvable by the tables behind them
resolvable_from : (s : Scope) (fs : List Form) → AllMayStand s fs → AllResolvable (after_all s fs) fs
resolvable_from s [] h = tt
resolvable_from s (f ∷ fs) h =
    let behind = all_grows (after s f) fs in
    let all = grows_twice s (after s f) (after_all (after s f) fs) (after_grows s f) behind in (
      record {
        declared = form_grows s (after_all (after s f) fs) all f h.0.declared;
        declares = declares_grows (after s f) (after_all (after s f) fs) behind f (declares_after s f);
        fitting = h.0.fitting;
      },
      resolvable_from (after s f) fs h.1,
    )

-- a whole program's statements are resolvable by the tables that they leave
pub resolvable : (fs : List Form) → IsWhole fs → AllResolvable (after_all nothing_yet fs) fs
resolvable fs h = resolvable_from nothing_yet fs h.standing

-- an array that is put last has its size
sized_last : (xs : List (List ℕ × ℕ)) (x : List ℕ) (n : ℕ) → AllSized xs → 1 ≤ n → n ≤ most_items → AllSized (xs ++ (x, n) ∷ [])
sized_last [] x n h l m = (l, m, tt)
sized_last (z ∷ zs) x n h l m = (h.0, h.1, sized_last zs x n h.2 l m)

-- an array for which the table has room isn't empty
some_items : (s : Scope) (x : List ℕ) (n : ℕ) → is_past_table s (array_form x n) ≡ false → 1 ≤ n
some_items s x n q = grind (arith, nat_tests)

-- and it has no more items than an array may have
few_items : (s : Scope) (x : List ℕ) (n : ℕ) → is_past_table s (array_form x n) ≡ false → n ≤ most_items
few_items s x n q = grind (arith, nat_tests)

-- the arrays behind a statement that may stand have their sizes
after_sized : (s : Scope) (f : Form) → is_past_table s f ≡ false → AllSized s.arrays → AllSized (after s f).arrays
after_sized s (var_form x) q h = h
after_sized s (array_form x n) q h = sized_last s.arrays x n h (some_items s x n q) (few_items s x n q)
after_sized s (let_form x e) q h = h
after_sized s (item_form x i e) q h = h
after_sized s (if_form e) q h = h
after_sized s (while_form e) q h = h
after_sized s else_form q h = h
after_sized s end_form q h = h
after_sized s (send_form d t p) q h = h
after_sized s (recv_form c t x) q h = h
after_sized s (probe_form c t) q h = h
after_sized s (try_probe_form c t x) q h = h
after_sized s (print_form e) q h = h
after_sized s barrier_form q h = h
after_sized s (bcast_form r x) q h = h
after_sized s (reduce_form o r e x) q h = h

-- the arrays behind statements that may stand have their sizes
sized_from : (s : Scope) (fs : List Form) → AllMayStand s fs → AllSized s.arrays → AllSized (after_all s fs).arrays
sized_from s [] h k = k
sized_from s (f ∷ fs) h k = sized_from (after s f) fs h.1 (after_sized s f h.0.within k)

-- the arrays of a whole program have their sizes
pub sized : (fs : List Form) → IsWhole fs → AllSized (after_all nothing_yet fs).arrays
sized fs h = sized_from nothing_yet fs h.standing tt

-- which blocks are open behind a statement, by its kind
blocks_behind : (s : Scope) (f : Form) → (after s f).blocks ≡ blocks_after (kind_of f) s.blocks
blocks_behind s (var_form x) = refl
blocks_behind s (array_form x n) = refl
blocks_behind s (let_form x e) = refl
blocks_behind s (item_form x i e) = refl
blocks_behind s (if_form e) = refl
blocks_behind s (while_form e) = refl
blocks_behind s else_form = refl
blocks_behind s end_form = refl
blocks_behind s (send_form d t p) = refl
blocks_behind s (recv_form c t x) = refl
blocks_behind s (probe_form c t) = refl
blocks_behind s (try_probe_form c t x) = refl
blocks_behind s (print_form e) = refl
blocks_behind s barrier_form = refl
blocks_behind s (bcast_form r x) = refl
blocks_behind s (reduce_form o r e x) = refl

-- a statement that may stand finds its block
not_stray : (s : Scope) (f : Form) → is_stray s f ≡ false → strays (kind_of f) s.blocks ≡ false
not_stray s (var_form x) h = refl
not_stray s (array_form x n) h = refl
not_stray s (let_form x e) h = refl
not_stray s (item_form x i e) h = refl
not_stray s (if_form e) h = refl
not_stray s (while_form e) h = refl
not_stray s else_form h = h
not_stray s end_form h = h
not_stray s (send_form d t p) h = refl
not_stray s (recv_form c t x) h = refl
not_stray s (probe_form c t) h = refl
not_stray s (try_probe_form c t x) h = refl
not_stray s (print_form e) h = refl
not_stray s barrier_form h = refl
not_stray s (bcast_form r x) h = refl
not_stray s (reduce_form o r e x) h = refl

-- statements that may stand are balanced
balanced_from : (s t : Scope) (fs : List Form) (ss : List Step) → AllMayStand s fs → (after_all s fs).blocks ≡ []
    → all_resolved t fs ≡ Some ss → Balanced s.blocks ss
balanced_from s t [] ss h e r =
    let q : [] ≡ ss = cc in
    subst (Balanced s.blocks) q e
balanced_from s t (f ∷ fs) ss h e r =
    let (x, a, k) = gone_on _ (form_resolved t f) ss r in
    let (rest, b, j) = gone_on _ (all_resolved t fs) ss k in
    let q : x ∷ rest ≡ ss = cc in
    let same = (becomes t f x a).kind in
    let more = subst (λ bs. Balanced bs rest) (blocks_behind s f ∙ ap (λ z. blocks_after z s.blocks) same) (balanced_from (after s f) t fs rest h.1 e b) in
    subst (Balanced s.blocks) q (ap (λ z. strays z s.blocks) (sym same) ∙ not_stray s f h.0.placed, more)

-- blocks balance in a whole program's statements
pub balanced : (t : Scope) (fs : List Form) (ss : List Step) → IsWhole fs → all_resolved t fs ≡ Some ss → Balanced [] ss
balanced t fs ss h r = balanced_from nothing_yet t fs ss h.standing h.closed r
