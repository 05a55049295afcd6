-- What a reception of a collective asks of the store: a reduce has one value to take, and room for it.
use Rattle.std.proofs.Common.{◌≡◌, ℕ, ℤ, ◌<◌, List, length, Ok, Some, refl, subst, arith, ◌⊎◌, inl, inr}
use Rattle.std.proofs.lemmas.Bool.{eq-eqb, ne_eqb, cases_eq}
use Rattle.std.specs.Prelude.{◌==◌}
use Rattle.rank_text.specs.declared.grammar.token.Reduction.{Reduction}
use Rattle.rank_language.specs.Placed.{Collective, barrier, broadcast, reduce}
use Rattle.rank_machine.specs.Values.{Store}
use Rattle.rank_machine.specs.Collectives.{CollectiveCall, folds, called, given_by, parts}
use Rattle.rank_machine.specs.Calling.{HasRoom}
use Rattle.rank_machine.specs.Machine.{HasStage, gathered_by}
use Rattle.rank_machine.proofs.Places.{reduce_length}
use Rattle.rank_machine.proofs.Calls.{is_call, gives_one}

-- while not all parts of a reduce are done fewer values are gathered than there are ranks
few : (f : Reduction) (root n r parts_done : ℕ) (g : List ℤ) → r < n → parts_done < length (parts (folds f) root n r)
    → length g ≡ gathered_by (folds f) (root == r) parts_done → length g < n
few f root n r parts_done g l d e = at (cases_eq root r)
  where
    at : (root ≡ r) ⊎ (root ≡ r → ⊥) → length g < n
    at (inl q) =
        let z : length g ≡ parts_done = rw (eq-eqb root r q) at e in
        let d' = subst (λ x. parts_done < length (parts (folds f) x n r)) q d in
        let w : parts_done < n = rw (reduce_length f n r l) at d' in
        omega (arith, z, w)
    at (inr q) = let z : length g ≡ 0 = rw (ne_eqb root r q) at e in omega (arith, z, l)

-- a packet of the collective that stands gives a reduce one value, and there is room for it
pub has_room : (s : Store) (c : Collective) (call : CollectiveCall) (packet items : List ℤ) → s.rank < s.size → called s c ≡ Ok call
    → HasStage s (Some call) → given_by call packet ≡ Ok items → HasRoom s c items
has_room s barrier call packet items l e stage given = tt
has_room s (broadcast x b) call packet items l e stage given = tt
has_room s (reduce f x v p) call packet items l e stage given =
    let i = is_call s (reduce f x v p) call (omega (arith, l)) e in
    let one = gives_one call f packet items i.kind given in
    let d = subst (λ k. s.done < length (parts k call.root s.size s.rank)) i.kind stage.0 in
    let g = subst (λ k. length s.gathered ≡ gathered_by k (call.root == s.rank) s.done) i.kind stage.1 in
    (rw one.1 refl, few f call.root s.size s.rank s.done s.gathered l d g)
