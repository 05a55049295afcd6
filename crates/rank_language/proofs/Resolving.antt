-- What a resolved statement is. Its kind is that of the statement by name; each place in it is a place in a table.
use Rattle.std.proofs.Common.{◌≡◌, ℕ, suc, ◌+◌, ◌<◌, List, [], ◌∷◌, length, map, true, false, cond, pos, Some, refl, ap, ◌∙◌, sym, subst, arith}
use Rattle.std.specs.List.{position_from}
use Rattle.std.specs.Str.{bytes_eq}
use Rattle.std.proofs.lemmas.Iterator.Adapters.{position_from-zero}
use Rattle.std.proofs.lemmas.List.{length-map}
use Rattle.rank_text.specs.Grammar.Tree as text
use Rattle.rank_text.specs.Grammar.Forms as line
use Rattle.rank_text.specs.Grammar.Forms.{Form}
use Rattle.rank_language.specs.Options.{◌>>=◌}
use Rattle.rank_text.specs.Checker.Scope.{Scope}
use Rattle.rank_language.specs.Placed.{Placed, number, variable, item, reading, negation, operation, Pattern, any, value}
use Rattle.rank_language.specs.Placed.{Payload, one, all_of, Buffer, into_variable, into_array}
use Rattle.rank_language.specs.Placed.{declare, declare_array, assign, assign_item, send, receive, probe, try_probe, print}
use Rattle.rank_language.specs.Placed.{barrier, broadcast, reduce, collect, Step, does, tests, repeats, otherwise, closes}
use Rattle.rank_language.specs.Block.{Line}
use Rattle.rank_language.specs.Shape.{step_of}
use Rattle.rank_language.specs.Program.{IsWithin, IsPatternWithin, IsPayloadWithin, IsBufferWithin, IsPlaced, AllPlaced}
use Rattle.rank_language.specs.Resolved.{place_in, variable_place, array_place, resolved, pattern_resolved}
use Rattle.rank_language.specs.Resolved.{payload_resolved, buffer_resolved, form_resolved, all_resolved}
use Rattle.rank_language.specs.Ends.{kind_of, target_of, ends_before, ends_from, line_to, lines_behind, form_line, lines_from}
use Rattle.rank_language.proofs.Loops.{behind-steps, behind-placed}
use Rattle.rank_language.proofs.Options.{mapped, gone_on, either_from}
use Rattle.rank_language.proofs.Spread.{kind_of_step, ends_at, targeted}

-- a place that is found lies in the table, wherever counting begins
below_from : (names : List (List ℕ)) (x : List ℕ) (i p : ℕ) → position_from (λ y. bytes_eq y x) i names ≡ Some p → p < i + length names
below_from [] x i p h = cc
below_from (y ∷ ys) x i p h =
    elim (bytes_eq y x) as (λ b. cond b (Some i) (position_from (λ z. bytes_eq z x) (i + 1) ys) ≡ Some p → p < i + length (y ∷ ys))
    [ true ↦ λ q. (let e : i ≡ p = cc in omega arith) | false ↦ λ q. (let k = below_from ys x (i + 1) p q in omega arith) ] h

-- the place of a name is below the number of names
pub place_below : (names : List (List ℕ)) (x : List ℕ) (p : ℕ) → place_in names x ≡ Some p → p < length names
place_below names x p h =
    let k = below_from names x 0 p (sym (position_from-zero (λ y. bytes_eq y x) names) ∙ h) in
    omega (arith, k)

-- the place of an array is below the number of arrays
array_below : (s : Scope) (x : List ℕ) (p : ℕ) → array_place s x ≡ Some p → p < length s.arrays
array_below s x p h =
    subst (λ n. p < n) (length-map s.arrays (λ a. a.0)) (place_below (map (λ a. a.0) s.arrays) x p h)

-- each place in a resolved expression is in a table
resolved_within : (s : Scope) (e : text.Tree) (t : Placed) → resolved s e ≡ Some t → IsWithin (length s.variables) (length s.arrays) t
resolved_within s (text.number n) t h =
    let q : number (pos n) ≡ t = cc in subst (IsWithin _ _) q tt
resolved_within s (text.variable x) t h =
    let (p, e, q) = mapped variable (variable_place s x) t h in
    subst (IsWithin _ _) q (place_below s.variables x p e)
resolved_within s (text.item x i) t h =
    let (p, e, k) = gone_on _ (array_place s x) t h in
    let (index, g, q) = gone_on _ (resolved s i) t k in
    let r : item p index ≡ t = cc in
    subst (IsWithin _ _) r (array_below s x p e, resolved_within s i index g)
resolved_within s (text.reading r) t h =
    let q : reading r ≡ t = cc in subst (IsWithin _ _) q tt
resolved_within s (text.negation e) t h =
    let (a, g, q) = mapped negation (resolved s e) t h in
    subst (IsWithin _ _) q (resolved_within s e a g)
resolved_within s (text.operation o a b) t h =
    let (left, g, k) = gone_on _ (resolved s a) t h in
    let (right, i, q) = gone_on _ (resolved s b) t k in
    let r : operation o left right ≡ t = cc in
    subst (IsWithin _ _) r (resolved_within s a left g, resolved_within s b right i)

-- each place in a resolved pattern is in a table
pattern_within : (s : Scope) (c : line.Pattern) (t : Pattern) → pattern_resolved s c ≡ Some t → IsPatternWithin (length s.variables) (length s.arrays) t
pattern_within s line.any t h =
    let q : any ≡ t = cc in subst (IsPatternWithin _ _) q tt
pattern_within s (line.value e) t h =
    let (a, g, q) = mapped value (resolved s e) t h in
    subst (IsPatternWithin _ _) q (resolved_within s e a g)

-- each place in a resolved payload is in a table
payload_within : (s : Scope) (p : line.Payload) (t : Payload) → payload_resolved s p ≡ Some t → IsPayloadWithin (length s.variables) (length s.arrays) t
payload_within s (line.lone x) t h =
    either_from (λ k. one (variable k)) all_of (variable_place s x) (array_place s x)
    (IsPayloadWithin (length s.variables) (length s.arrays)) t (place_below s.variables x) (array_below s x) h
payload_within s (line.one e) t h =
    let (a, g, q) = mapped one (resolved s e) t h in
    subst (IsPayloadWithin _ _) q (resolved_within s e a g)

-- the place of a resolved buffer is in a table
buffer_within : (s : Scope) (x : List ℕ) (t : Buffer) → buffer_resolved s x ≡ Some t → IsBufferWithin (length s.variables) (length s.arrays) t
buffer_within s x t h =
    either_from into_variable into_array (variable_place s x) (array_place s x) (IsBufferWithin (length s.variables) (length s.arrays)) t
    (place_below s.variables x) (array_below s x) h

-- What a resolved statement is: of the same kind, and with places in tables.
pub record Becomes (s : Scope) (f : Form) (t : Step) : Type 0 where
  pub kind : kind_of f ≡ kind_of_step t
  pub within : (target : ℕ) → IsPlaced (length s.variables) (length s.arrays) (line_to target t)

-- a resolved statement is of the same kind, with places in tables
pub becomes : (s : Scope) (f : Form) (t : Step) → form_resolved s f ≡ Some t → Becomes s f t
becomes s (line.var_form x) t h =
    let (p, e, q) = mapped (λ k. does (declare k)) (variable_place s x) t h in
    subst (Becomes s (line.var_form x)) q (record { kind = refl; within = λ n. place_below s.variables x p e })
becomes s (line.let_form x e) t h =
    let (p, a, i) = gone_on _ (variable_place s x) t h in
    let (v, b, j) = gone_on _ (resolved s e) t i in
    let q : does (assign p v) ≡ t = cc in
    subst (Becomes s (line.let_form x e)) q (record { kind = refl; within = λ n. (place_below s.variables x p a, resolved_within s e v b) })
becomes s (line.array_form x c) t h =
    let (p, e, q) = mapped (λ k. does (declare_array k)) (array_place s x) t h in
    subst (Becomes s (line.array_form x c)) q (record { kind = refl; within = λ n. array_below s x p e })
becomes s (line.item_form x d e) t h =
    let (p, a, i) = gone_on _ (array_place s x) t h in
    let (index, b, j) = gone_on _ (resolved s d) t i in
    let (v, c, k) = gone_on _ (resolved s e) t j in
    let q : does (assign_item p index v) ≡ t = cc in
    subst (Becomes s (line.item_form x d e)) q
    (record { kind = refl; within = λ n. (array_below s x p a, resolved_within s d index b, resolved_within s e v c) })
becomes s (line.while_form e) t h =
    let (a, g, q) = mapped repeats (resolved s e) t h in
    subst (Becomes s (line.while_form e)) q (record { kind = refl; within = λ n. resolved_within s e a g })
becomes s (line.if_form e) t h =
    let (a, g, q) = mapped tests (resolved s e) t h in
    subst (Becomes s (line.if_form e)) q (record { kind = refl; within = λ n. resolved_within s e a g })
becomes s line.else_form t h =
    let q : otherwise ≡ t = cc in subst (Becomes s line.else_form) q (record { kind = refl; within = λ n. tt })
becomes s line.end_form t h =
    let q : closes ≡ t = cc in subst (Becomes s line.end_form) q (record { kind = refl; within = λ n. tt })
becomes s (line.send_form d g p) t h =
    let (destination, a, i) = gone_on _ (resolved s d) t h in
    let (tag, b, j) = gone_on _ (resolved s g) t i in
    let (payload, c, k) = gone_on _ (payload_resolved s p) t j in
    let q : does (send destination tag payload) ≡ t = cc in
    subst (Becomes s (line.send_form d g p)) q
    (record { kind = refl; within = λ n. (resolved_within s d destination a, resolved_within s g tag b, payload_within s p payload c) })
becomes s (line.recv_form r g x) t h =
    let (source, a, i) = gone_on _ (pattern_resolved s r) t h in
    let (tag, b, j) = gone_on _ (pattern_resolved s g) t i in
    let (buffer, c, k) = gone_on _ (buffer_resolved s x) t j in
    let q : does (receive source tag buffer) ≡ t = cc in
    subst (Becomes s (line.recv_form r g x)) q
    (record { kind = refl; within = λ n. (pattern_within s r source a, pattern_within s g tag b, buffer_within s x buffer c) })
becomes s (line.probe_form r g) t h =
    let (source, a, i) = gone_on _ (pattern_resolved s r) t h in
    let (tag, b, j) = gone_on _ (pattern_resolved s g) t i in
    let q : does (probe source tag) ≡ t = cc in
    subst (Becomes s (line.probe_form r g)) q (record { kind = refl; within = λ n. (pattern_within s r source a, pattern_within s g tag b) })
becomes s (line.try_probe_form r g x) t h =
    let (source, a, i) = gone_on _ (pattern_resolved s r) t h in
    let (tag, b, j) = gone_on _ (pattern_resolved s g) t i in
    let (flag, c, k) = gone_on _ (variable_place s x) t j in
    let q : does (try_probe source tag flag) ≡ t = cc in
    subst (Becomes s (line.try_probe_form r g x)) q
    (record { kind = refl; within = λ n. (pattern_within s r source a, pattern_within s g tag b, place_below s.variables x flag c) })
becomes s (line.print_form e) t h =
    let (a, g, q) = mapped (λ v. does (print v)) (resolved s e) t h in
    subst (Becomes s (line.print_form e)) q (record { kind = refl; within = λ n. resolved_within s e a g })
becomes s line.barrier_form t h =
    let q : does (collect barrier) ≡ t = cc in subst (Becomes s line.barrier_form) q (record { kind = refl; within = λ n. tt })
becomes s (line.bcast_form r x) t h =
    let (root, a, i) = gone_on _ (resolved s r) t h in
    let (buffer, b, j) = gone_on _ (buffer_resolved s x) t i in
    let q : does (collect (broadcast root buffer)) ≡ t = cc in
    subst (Becomes s (line.bcast_form r x)) q (record { kind = refl; within = λ n. (resolved_within s r root a, buffer_within s x buffer b) })
becomes s (line.reduce_form o r e x) t h =
    let (root, a, i) = gone_on _ (resolved s r) t h in
    let (v, b, j) = gone_on _ (resolved s e) t i in
    let (p, c, k) = gone_on _ (variable_place s x) t j in
    let q : does (collect (reduce o root v p)) ≡ t = cc in
    subst (Becomes s (line.reduce_form o r e x)) q (record {
      kind = refl;
      within = λ n. (resolved_within s r root a, resolved_within s e v b, place_below s.variables x p c);
    })

-- a line without its target is the statement
step_of_line : (target : ℕ) (t : Step) → step_of (line_to target t) ≡ t
step_of_line target (does s) = refl
step_of_line target (tests e) = refl
step_of_line target otherwise = refl
step_of_line target closes = refl
step_of_line target (repeats e) = refl

-- What lines found from the last statement on are: the statements resolved, with their targets, and all in the tables.
pub record AreLines (s : Scope) (n : ℕ) (fs : List Form) (ls : List Line) : Type 0 where
  pub steps : all_resolved s fs ≡ Some (map step_of ls)
  pub lines : ls ≡ targeted n (map step_of ls)
  pub ends : ends_from n fs ≡ ends_at n (map step_of ls)
  pub within : AllPlaced (length s.variables) (length s.arrays) ls
  pub count : length ls ≡ length fs

-- there are as many lines behind a statement as were found
length_behind : (n : ℕ) (k : _) (target : ℕ) (ls : List Line) → length (lines_behind n k target ls) ≡ length ls
length_behind n k target ls =
    sym (length-map (lines_behind n k target ls) step_of) ∙ ap length (behind-steps n k target ls) ∙ length-map ls step_of

-- one more resolved statement in front
pub all_front : (s : Scope) (f : Form) (fs : List Form) (t : Step) (ts : List Step) → form_resolved s f ≡ Some t
    → all_resolved s fs ≡ Some ts → all_resolved s (f ∷ fs) ≡ Some (t ∷ ts)
all_front s f fs t ts h g = rw (h, g) refl

-- one more statement in front of statements with their targets
are_more : (s : Scope) (n : ℕ) (f : Form) (fs : List Form) (t : Step) (ls : List Line) → form_resolved s f ≡ Some t → AreLines s (n + 1) fs ls →
    AreLines s n (f ∷ fs)
    (line_to (target_of (kind_of f) (ends_from (n + 1) fs)) t
    ∷ lines_behind n (kind_of f) (target_of (kind_of f) (ends_from (n + 1) fs)) ls)
are_more s n f fs t ls h r =
    let b = becomes s f t h in
    let target = target_of (kind_of f) (ends_from (n + 1) fs) in
    let rest = lines_behind n (kind_of f) target ls in
    let aimed = target_of (kind_of_step t) (ends_at (n + 1) (map step_of ls)) in
    let steps : map step_of (line_to target t ∷ rest) ≡ t ∷ map step_of ls =
    ap (λ x. x ∷ map step_of rest) (step_of_line target t) ∙ ap (λ z. t ∷ z) (behind-steps n (kind_of f) target ls) in
    let aim : target ≡ aimed = ap (λ k. target_of k (ends_from (n + 1) fs)) b.kind ∙ ap (target_of (kind_of_step t)) r.ends in
    record {
      steps = all_front s f fs t (map step_of ls) h r.steps ∙ ap Some (sym steps);
      lines =
          ap (λ q. line_to q t ∷ lines_behind n (kind_of f) q ls) aim
          ∙ ap (λ k. line_to aimed t ∷ lines_behind n k aimed ls) b.kind
          ∙ ap (λ z. line_to aimed t ∷ lines_behind n (kind_of_step t) aimed z) r.lines
          ∙ ap (targeted n) (sym steps);
      ends =
          ap (λ k. ends_before n k (ends_from (n + 1) fs)) b.kind
          ∙ ap (ends_before n (kind_of_step t)) r.ends
          ∙ ap (ends_at n) (sym steps);
      within = (b.within target, behind-placed (length s.variables) (length s.arrays) n (kind_of f) target ls r.within);
      count = ap suc (length_behind n (kind_of f) target ls ∙ r.count);
    }

-- lines found from the last statement on are the statements with their targets
pub are_lines : (s : Scope) (n : ℕ) (fs : List Form) (ls : List Line) → lines_from s n fs ≡ Some ls → AreLines s n fs ls
are_lines s n [] ls h =
    let q : [] ≡ ls = cc in
    subst (AreLines s n []) q (record { steps = refl; lines = refl; ends = refl; within = tt; count = refl })
are_lines s n (f ∷ fs) ls h =
    let (l, g, i) = gone_on _ (form_line s (ends_from (n + 1) fs) f) ls h in
    let (rest, j, k) = gone_on _ (lines_from s (n + 1) fs) ls i in
    let (t, m, e) = mapped (line_to (target_of (kind_of f) (ends_from (n + 1) fs))) (form_resolved s f) l g in
    let q : l ∷ lines_behind n (kind_of f) (target_of (kind_of f) (ends_from (n + 1) fs)) rest ≡ ls = cc in
    let behind = lines_behind n (kind_of f) (target_of (kind_of f) (ends_from (n + 1) fs)) rest in
    subst (AreLines s n (f ∷ fs)) q (subst (λ x. AreLines s n (f ∷ fs) (x ∷ behind)) e (are_more s n f fs t rest m (are_lines s (n + 1) fs rest j)))
