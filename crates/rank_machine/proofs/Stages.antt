-- At which part of a collective a machine stands, at its beginning and after each part.
use Rattle.std.proofs.Common.{◌≡◌, ℕ, ℤ, ◌+◌, ◌<◌, ◌==◌, Bool, true, false, List, [], ◌∷◌, ◌++◌}
use Rattle.std.proofs.Common.{Ok, Option, Some, None, length, slice_get, refl, sym, ap, ◌∙◌, arith}
use Rattle.std.proofs.lemmas.Bool.{eq-eqb, eqb-false}
use Rattle.std.proofs.lemmas.List.{length-append}
use Rattle.rank_text.specs.declared.grammar.token.Reduction.{Reduction}
use Rattle.rank_language.specs.Placed.{into_variable, into_array, Collective, barrier, broadcast, reduce, collect}
use Rattle.rank_language.specs.Block.{Line, simple_line}
use Rattle.rank_machine.specs.Values.{Store}
use Rattle.rank_machine.specs.Collectives.{CollectiveKind, barriers, broadcasts, folds, CollectiveCall, called, Part, gives, gets}
use Rattle.rank_machine.specs.Collectives.{ends, parts, parts_of, part_of, is_last, counted, part_done, given_by}
use Rattle.rank_machine.specs.Acts.{kept}
use Rattle.rank_machine.specs.Machine.{HasStage, gathered_by, call_at}
use Rattle.rank_machine.proofs.CollectiveParts.{found_or, some_part}
use Rattle.rank_machine.proofs.Places.{broadcast_gets, reduce_gives, reduce_gets_root, ends_is_last}
use Rattle.rank_machine.proofs.Calls.{kind_of, is_call, called_same, gives_one}

-- before the first part nothing is gathered
none_gathered : (k : CollectiveKind) (b : Bool) (n : ℕ) → n ≡ 0 → gathered_by k b n ≡ 0
none_gathered barriers b n e = refl
none_gathered broadcasts b n e = refl
none_gathered (folds f) true n e = e
none_gathered (folds f) false n e = refl

-- a rank with no part done and nothing gathered can stand at each line
pub fresh : (s : Store) (o : Option CollectiveCall) → s.rank < s.size → s.done ≡ 0 → length s.gathered ≡ 0 → HasStage s o
fresh s None l d g = (rw d (omega arith), g)
fresh s (Some call) l d g =
    (rw d (some_part call.kind call.root s.size s.rank l), g ∙ sym (none_gathered call.kind (call.root == s.rank) s.done d))

-- and so a rank that finished a collective
counted_fresh : (s : Store) (o : Option CollectiveCall) → s.rank < s.size → HasStage (counted s) o
counted_fresh s o l = fresh (counted s) o l refl refl

-- the part that stands is among the parts
pub stands_at : (s : Store) (call : CollectiveCall) (p : Part) → s.done < length (parts_of s call) → part_of s call ≡ p → slice_get (parts_of s call) s.done ≡ Some p
stands_at s call p l e = found_or (parts_of s call) s.done ends l ∙ ap Some e

-- a step of the rank's own is the last part
pub last_ends : (s : Store) (call : CollectiveCall) → HasStage s (Some call) → part_of s call ≡ ends → is_last s call ≡ true
last_ends s call h e = eq-eqb _ _ (ends_is_last call.kind call.root s.size s.rank s.done (stands_at s call ends h.0 e))

-- what isn't the last part has a next one
more_parts : (s : Store) (call : CollectiveCall) → s.done < length (parts_of s call) → is_last s call ≡ false → s.done + 1 < length (parts_of s call)
more_parts s call l e =
    let ne = eqb-false (s.done + 1) (length (parts_of s call)) e in
    grind (arith, l, ne)

-- such a part doesn't stand at the last place
never_last : (s : Store) (call : CollectiveCall) → is_last s call ≡ false → s.done + 1 ≡ length (parts_of s call) → ⊥
never_last s call e h = eqb-false (s.done + 1) (length (parts_of s call)) e h

-- a send gathers nothing: one of a reduce is its last part
sent_gathers : (s : Store) (call : CollectiveCall) (d n : ℕ) (k : CollectiveKind) → call.kind ≡ k → slice_get (parts_of s call) s.done ≡ Some (gives d) → is_last s call ≡ false
    → n ≡ gathered_by k (call.root == s.rank) s.done → n ≡ gathered_by k (call.root == s.rank) (s.done + 1)
sent_gathers s call d n barriers k there more g = g
sent_gathers s call d n broadcasts k there more g = g
sent_gathers s call d n (folds f) k there more g =
    let at : slice_get (parts (folds f) call.root s.size s.rank) s.done ≡ Some (gives d) =
    ap (λ z. slice_get (parts z call.root s.size s.rank) s.done) (sym k) ∙ there in
    let last : s.done + 1 ≡ length (parts_of s call) =
    reduce_gives f call.root s.size s.rank s.done d at ∙ ap (λ z. length (parts z call.root s.size s.rank)) (sym k) in
    absurd (never_last s call more last)

-- the next part stands after a send
sent_on : (s : Store) (call : CollectiveCall) (d : ℕ) → HasStage s (Some call) → part_of s call ≡ gives d → is_last s call ≡ false
    → HasStage (record s { done = s.done + 1 }) (Some call)
sent_on s call d h p more =
    (more_parts s call h.0 more, sent_gathers s call d (length s.gathered) call.kind refl (stands_at s call (gives d) h.0 p) more h.1)

-- the root of a reduce gathers one value more
root_gathers : (f : Reduction) (r q n v : ℕ) → q ≡ r → v ≡ 1 → (g : ℕ) → g ≡ gathered_by (folds f) (r == q) n → g + v ≡ gathered_by (folds f) (r == q) (n + 1)
root_gathers f r q n v e one g h =
    let t : (r == q) ≡ true = eq-eqb r q (sym e) in
    let a : g ≡ n = h ∙ ap (λ z. gathered_by (folds f) z n) t in
    let b : gathered_by (folds f) (r == q) (n + 1) ≡ n + 1 = ap (λ z. gathered_by (folds f) z (n + 1)) t in
    rw (a, b, one) refl

-- the next part stands after a reception
taken_on : (s : Store) (c : Collective) (call : CollectiveCall) (q : ℕ) (packet items : List ℤ) → call.kind ≡ kind_of c → HasStage s (Some call)
    → part_of s call ≡ gets q → given_by call packet ≡ Ok items → is_last s call ≡ false
    → (let s' : Store = kept c items s in HasStage (record s' { done = s'.done + 1 }) (Some call))
taken_on s barrier call q packet items k h p g more =
    let n : length s.gathered ≡ 0 = h.1 ∙ ap (λ z. gathered_by z (call.root == s.rank) s.done) k in
    (more_parts s call h.0 more, n ∙ ap (λ z. gathered_by z (call.root == s.rank) (s.done + 1)) (sym k))
taken_on s (broadcast e b) call q packet items k h p g more =
    let at : slice_get (parts broadcasts call.root s.size s.rank) s.done ≡ Some (gets q) =
    ap (λ z. slice_get (parts z call.root s.size s.rank) s.done) (sym k) ∙ stands_at s call (gets q) h.0 p in
    let w = broadcast_gets call.root s.size s.rank s.done q at in
    let last : s.done + 1 ≡ length (parts_of s call) = ap (λ z. z + 1) w.0 ∙ sym w.2 ∙ ap (λ z. length (parts z call.root s.size s.rank)) (sym k) in
    absurd (never_last s call more last)
taken_on s (reduce f e v z) call q packet items k h p g more =
    let at : slice_get (parts (folds f) call.root s.size s.rank) s.done ≡ Some (gets q) =
    ap (λ z. slice_get (parts z call.root s.size s.rank) s.done) (sym k) ∙ stands_at s call (gets q) h.0 p in
    let root = reduce_gets_root f call.root s.size s.rank s.done q at in
    let one = gives_one call f packet items k g in
    let n : length s.gathered ≡ gathered_by (folds f) (call.root == s.rank) s.done = h.1 ∙ ap (λ z. gathered_by z (call.root == s.rank) s.done) k in
    let more_gathered = root_gathers f call.root s.rank s.done (length items) root (ap length one.1) (length s.gathered) n in (
      more_parts s call h.0 more,
      length-append s.gathered items ∙ more_gathered ∙ ap (λ z. gathered_by z (call.root == s.rank) (s.done + 1)) (sym k),
    )

-- the collective that stands is called in the same way after a part that isn't its last
same_call : (s s' : Store) (c : Collective) (call : CollectiveCall) → called s c ≡ Ok call → called s' c ≡ called s c → (o : Option Line)
    → o ≡ Some (simple_line (collect c)) → call_at s' o ≡ Some call
same_call s s' c call e same o at = rw (at, same, e) refl

-- behind the last part no part is done; behind another one the call stays, at its next part
by_last : (s s' : Store) (c : Collective) (call : CollectiveCall) (last : Bool) (o : Option Line) → is_last s' call ≡ last → s'.rank < s'.size
    → (last ≡ false → o ≡ Some (simple_line (collect c)))
    → (last ≡ false → HasStage (record s' { done = s'.done + 1 }) (Some call))
    → (last ≡ false → called (record s' { done = s'.done + 1 }) c ≡ Ok call)
    → HasStage (part_done s' call) (call_at (part_done s' call) o)
by_last s s' c call true o t l at on same = rw t (counted_fresh s' _ l)
by_last s s' c call false o t l at on same = rw (t, at refl, same refl) (on refl)

-- where a machine stands after a send of a collective: at its next part, or at a line with no part done
pub sent_stage : (s : Store) (c : Collective) (call : CollectiveCall) (d : ℕ) (o : Option Line) → s.rank < s.size → called s c ≡ Ok call → HasStage s (Some call)
    → part_of s call ≡ gives d → (is_last s call ≡ false → o ≡ Some (simple_line (collect c))) → HasStage (part_done s call) (call_at (part_done s call) o)
sent_stage s c call d o l e h p at =
    by_last s s c call (is_last s call) o refl l at (sent_on s call d h p) (λ more. called_same s (s.done + 1) s.gathered c ∙ e)

-- what is kept of a packet leaves rank, size and what the parts are
kept_last : (s : Store) (c : Collective) (call : CollectiveCall) (items : List ℤ) → is_last (kept c items s) call ≡ is_last s call
kept_last s barrier call items = refl
kept_last s (broadcast e (into_variable p)) call [] = refl
kept_last s (broadcast e (into_variable p)) call (x ∷ items) = refl
kept_last s (broadcast e (into_array p)) call items = refl
kept_last s (reduce f e v p) call items = refl

-- so the rank stays below the size
pub kept_below : (s : Store) (c : Collective) (items : List ℤ) → s.rank < s.size → (kept c items s).rank < (kept c items s).size
kept_below s barrier items l = l
kept_below s (broadcast e (into_variable p)) [] l = l
kept_below s (broadcast e (into_variable p)) (x ∷ items) l = l
kept_below s (broadcast e (into_array p)) items l = l
kept_below s (reduce f e v p) items l = l

-- the call stays where the part that takes a packet isn't the last
kept_call : (s : Store) (c : Collective) (call : CollectiveCall) (q : ℕ) (items : List ℤ) → called s c ≡ Ok call → call.kind ≡ kind_of c
    → HasStage s (Some call) → part_of s call ≡ gets q → is_last s call ≡ false
    → (let s' : Store = kept c items s in called (record s' { done = s'.done + 1 }) c ≡ Ok call)
kept_call s barrier call q items e k h p more = called_same s (s.done + 1) s.gathered barrier ∙ e
kept_call s (broadcast x b) call q items e k h p more =
    let at : slice_get (parts broadcasts call.root s.size s.rank) s.done ≡ Some (gets q) =
    ap (λ z. slice_get (parts z call.root s.size s.rank) s.done) (sym k) ∙ stands_at s call (gets q) h.0 p in
    let w = broadcast_gets call.root s.size s.rank s.done q at in
    let last : s.done + 1 ≡ length (parts_of s call) = ap (λ z. z + 1) w.0 ∙ sym w.2 ∙ ap (λ z. length (parts z call.root s.size s.rank)) (sym k) in
    absurd (never_last s call more last)
kept_call s (reduce f x v p) call q items e k h t more = called_same s (s.done + 1) (s.gathered ++ items) (reduce f x v p) ∙ e

-- where a machine stands after a reception of a collective
pub taken_stage : (s : Store) (c : Collective) (call : CollectiveCall) (q : ℕ) (packet items : List ℤ) (o : Option Line) → s.rank < s.size
    → called s c ≡ Ok call → HasStage s (Some call) → part_of s call ≡ gets q → given_by call packet ≡ Ok items
    → (is_last s call ≡ false → o ≡ Some (simple_line (collect c)))
    → (let s' : Store = part_done (kept c items s) call in HasStage s' (call_at s' o))
taken_stage s c call q packet items o l e h p g at =
    let s' = kept c items s in
    let k = (is_call s c call (omega (arith, l)) e).kind in
    let t = kept_last s c call items in
    by_last s s' c call (is_last s' call) o refl (kept_below s c items l) (λ m. at (sym t ∙ m))
    (λ m. taken_on s c call q packet items k h p g (sym t ∙ m)) (λ m. kept_call s c call q items e k h p (sym t ∙ m))
