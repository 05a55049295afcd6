-- A text's statements with each variable that is sent written as a lone name become the same statements by place.
use Rattle.std.proofs.Common.{◌≡◌, ℕ, List, [], ◌∷◌, Option, Some, None, option_map, refl, ◌∙◌}
use Rattle.rank_text.specs.Grammar.Tree.{Tree, number, variable, item, reading, negation, operation}
use Rattle.rank_text.specs.Grammar.Forms.{Payload, lone, one, Form, var_form, array_form, let_form, item_form, if_form, else_form, end_form, while_form}
use Rattle.rank_text.specs.Grammar.Forms.{send_form, recv_form, probe_form, try_probe_form, print_form, barrier_form, bcast_form, reduce_form}
use Rattle.rank_text.specs.Checker.Scope.{Scope}
use Rattle.rank_text.specs.Printer.Canonical.{canonical_payload, canonical, all_canonical}
use Rattle.rank_language.specs.Placed as placed
use Rattle.rank_language.specs.Placed.{Step, does}
use Rattle.rank_language.specs.Resolved.{variable_place, array_place, either_place, resolved, payload_resolved, form_resolved, all_resolved}
use Rattle.rank_language.proofs.Options.{gone_on}
use Rattle.rank_language.proofs.Resolving.{all_front}

-- a variable that has a place has it as a lone name
lone_place : (o q : Option ℕ) (t : placed.Payload) → option_map placed.one (option_map placed.variable o) ≡ Some t
    → either_place (λ p. placed.one (placed.variable p)) placed.all_of o q ≡ Some t
lone_place None q t h = cc
lone_place (Some p) q t h = h

-- a payload becomes the same
payload_same : (s : Scope) (p : Payload) (t : placed.Payload) → payload_resolved s p ≡ Some t → payload_resolved s (canonical_payload p) ≡ Some t
payload_same s (lone x) t h = h
payload_same s (one (number n)) t h = h
payload_same s (one (variable x)) t h = lone_place (variable_place s x) (array_place s x) t h
payload_same s (one (item x i)) t h = h
payload_same s (one (reading r)) t h = h
payload_same s (one (negation e)) t h = h
payload_same s (one (operation o a b)) t h = h

-- a send whose parts become these
send_of_parts : (s : Scope) (d g : Tree) (p : Payload) (x y : placed.Placed) (z : placed.Payload) → resolved s d ≡ Some x
    → resolved s g ≡ Some y → payload_resolved s p ≡ Some z → form_resolved s (send_form d g p) ≡ Some (does (placed.send x y z))
send_of_parts s d g p x y z a b c = rw (a, b, c) refl

-- a statement becomes the same
form_same : (s : Scope) (f : Form) (t : Step) → form_resolved s f ≡ Some t → form_resolved s (canonical f) ≡ Some t
form_same s (var_form x) t h = h
form_same s (array_form x n) t h = h
form_same s (let_form x e) t h = h
form_same s (item_form x i e) t h = h
form_same s (if_form e) t h = h
form_same s (while_form e) t h = h
form_same s else_form t h = h
form_same s end_form t h = h
form_same s (send_form d g p) t h =
    let (x, a, i) = gone_on _ (resolved s d) t h in
    let (y, b, j) = gone_on _ (resolved s g) t i in
    let (z, c, k) = gone_on _ (payload_resolved s p) t j in
    send_of_parts s d g (canonical_payload p) x y z a b (payload_same s p z c) ∙ k
form_same s (recv_form c g x) t h = h
form_same s (probe_form c g) t h = h
form_same s (try_probe_form c g x) t h = h
form_same s (print_form e) t h = h
form_same s barrier_form t h = h
form_same s (bcast_form r x) t h = h
form_same s (reduce_form o r e x) t h = h

-- statements become the same
pub all_same : (s : Scope) (fs : List Form) (ts : List Step) → all_resolved s fs ≡ Some ts → all_resolved s (all_canonical fs) ≡ Some ts
all_same s [] ts h = h
all_same s (f ∷ fs) ts h =
    let (t, a, i) = gone_on _ (form_resolved s f) ts h in
    let (us, b, j) = gone_on _ (all_resolved s fs) ts i in
    all_front s (canonical f) (all_canonical fs) t us (form_same s f t a) (all_same s fs us b) ∙ j
