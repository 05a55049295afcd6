-- What is done and gathered of a collective: the parts are few, so that a byte holds each of both numbers, and no more values
-- can be gathered than there are ranks.
use Rattle.std.proofs.Common.{◌≡◌, ℕ, zero, suc, ◌+◌, ◌<◌, ◌≤◌, ℤ, Bool, true, false, List, [], ◌∷◌, ◌++◌, length, map, Option}
use Rattle.std.proofs.Common.{Some, None, Result, Ok, refl, arith}
use Rattle.std.specs.Prelude.{nat_lt, nat_le, ◌==◌, if◌then◌else◌}
use Rattle.std.proofs.lemmas.Bool.{leb-false, ltb-true, lt-ltb, eqb-true, eq-eqb, and_parts, and_from}
use Rattle.std.proofs.lemmas.List.{length-append, length-map}
use Rattle.limits.specs.Limits.{most_ranks}
use Rattle.rank_language.specs.Program.{ProgramValue}
use Rattle.rank_machine.specs.declared.status.Status.{Status}
use Rattle.rank_machine.specs.Collectives.{CollectiveKind, barriers, broadcasts, folds, CollectiveCall, gives, gets, ends, others, parts, parts_among}
use Rattle.rank_machine.specs.Values.{Store}
use Rattle.rank_machine.specs.Machine.{MachineValue, gathered_by, stages, HasStage}
use Rattle.checkpoint.specs.declared.fault.ImageFault.{ImageFault}
use Rattle.checkpoint.specs.declared.fault.ImageFault.TheVariants.{Version, Short, Long, Field, WrongProgram, Memory}
use Rattle.checkpoint.specs.Image.{MachineStanding, call_of, is_underway, lengths_of, machine_of}
use Rattle.checkpoint.specs.Spelling.{FitsBytes}
use Rattle.checkpoint.specs.Reading.{Fails, ◌>>=◌, where_holds, where_underway, standing_at, status_at, values_at, arrays_at, machine_at}

-- ---- few parts

-- the other ranks are at most as many as all
others_most : (r from count : ℕ) → length (others r from count) ≤ count
others_most r from zero = omega arith
others_most r from (suc count) = at (from == r) (others_most r (from + 1) count)
  where
    at : (b : Bool) → length (others r (from + 1) count) ≤ count
        → length (if b then others r (from + 1) count else from ∷ others r (from + 1) count) ≤ suc count
    at true most = omega (arith, most)
    at false most = omega (arith, most)

-- the parts of a collective among more than one rank are at most two with each rank, or two in all
among_most : (kind : CollectiveKind) (root n r : ℕ) → length (parts_among kind root n r) ≤ n + n + 2
among_most barriers root n r = at (r == 0)
  where
    at : (b : Bool) → length (if b then map gets (others 0 0 n) ++ map gives (others 0 0 n) else gives 0 ∷ gets 0 ∷ []) ≤ n + n + 2
    at true =
        let most = others_most 0 0 n in
        rw (length-append (map gets (others 0 0 n)) (map gives (others 0 0 n)), length-map (others 0 0 n) gets, length-map (others 0 0 n) gives)
        (omega (arith, most))
    at false = omega arith
among_most broadcasts root n r = at (r == root)
  where
    at : (b : Bool) → length (if b then map gives (others r 0 n) else gets root ∷ []) ≤ n + n + 2
    at true = let most = others_most r 0 n in rw (length-map (others r 0 n) gives) (omega (arith, most))
    at false = omega arith
among_most (folds f) root n r = at (r == root)
  where
    at : (b : Bool) → length (if b then map gets (others r 0 n) ++ ends ∷ [] else gives root ∷ []) ≤ n + n + 2
    at true =
        let most = others_most r 0 n in
        rw (length-append (map gets (others r 0 n)) (ends ∷ []), length-map (others r 0 n) gets) (omega (arith, most))
    at false = omega arith

-- so are all parts
parts_most : (kind : CollectiveKind) (root n r : ℕ) → length (parts kind root n r) ≤ n + n + 2
parts_most kind root n r = at (n == 1)
  where
    at : (b : Bool) → length (if b then ends ∷ [] else parts_among kind root n r) ≤ n + n + 2
    at true = omega arith
    at false = among_most kind root n r

-- the root of a reduce has at most one part with each rank and its own step
folded_most : (kind : CollectiveKind) (root n r : ℕ) (f : _) → kind ≡ folds f → root ≡ r → length (parts kind root n r) ≤ n + 1
folded_most kind root n r f e same = rw (e, same) (at (n == 1))
  where
    at : (b : Bool) → length (if b then ends ∷ [] else parts_among (folds f) r n r) ≤ n + 1
    at true = omega arith
    at false =
        let most = others_most r 0 n in
        rw (eq-eqb r r refl, length-append (map gets (others r 0 n)) (ends ∷ []), length-map (others r 0 n) gets) (omega (arith, most))

-- what is done of a collective takes one byte
pub few_done : (s : Store) (o : Option CollectiveCall) → HasStage s o → s.size ≤ most_ranks → FitsBytes 1 s.done
few_done s None is few = let below = is.0 in omega (arith, below)
few_done s (Some call) is few =
    let below = is.0 in
    let most = parts_most call.kind call.root s.size s.rank in
    omega (arith, below, most, few)

-- so many values a rank can have gathered with fewer than all parts done
gathered_most : (kind : CollectiveKind) (root n r done : ℕ) → done < length (parts kind root n r) → gathered_by kind (root == r) done ≤ n
gathered_most barriers root n r done below = omega arith
gathered_most broadcasts root n r done below = omega arith
gathered_most (folds f) root n r done below = at (root == r) refl
  where
    at : (b : Bool) → (root == r) ≡ b → gathered_by (folds f) b done ≤ n
    at true e = let most = folded_most (folds f) root n r f refl (eqb-true _ _ e) in omega (arith, below, most)
    at false e = omega arith

-- no more values are gathered than there are ranks
room_suffices : (s : Store) (o : Option CollectiveCall) → HasStage s o → length s.gathered ≤ s.size
room_suffices s None is = let none = is.1 in omega (arith, none)
room_suffices s (Some call) is =
    let same = is.1 in
    let most = gathered_most call.kind call.root s.size s.rank s.done is.0 in
    omega (arith, same, most)

-- their number takes one byte
pub few_gathered : (s : Store) (o : Option CollectiveCall) → HasStage s o → s.size ≤ most_ranks → FitsBytes 1 (length s.gathered)
few_gathered s o is few = let most = room_suffices s o is in omega (arith, most, few)

-- ---- the test

-- what passes the test is of the collective that stands
pub underway : (m : MachineValue) → is_underway m ≡ true → HasStage m.store (call_of m)
underway m e =
    let parts = and_parts (nat_lt m.store.done (stages m.store (call_of m))) _ e in
    (ltb-true _ _ parts.0, eqb-true _ _ parts.1)

-- what is of the collective that stands passes it
pub passes : (m : MachineValue) → HasStage m.store (call_of m) → is_underway m ≡ true
passes m is = and_from _ _ (lt-ltb _ _ is.0) (eq-eqb _ _ is.1)

-- and nothing else does
pub fails : (m : MachineValue) → (HasStage m.store (call_of m) → ⊥) → is_underway m ≡ false
fails m never = at (is_underway m) refl
  where
    at : (b : Bool) → is_underway m ≡ b → is_underway m ≡ false
    at true e = absurd (never (underway m e))
    at false e = e

-- more values than ranks fail it
pub too_many : (m : MachineValue) → m.store.size < length m.store.gathered → is_underway m ≡ false
too_many m more = fails m (λ is. let most = room_suffices m.store (call_of m) is in omega (arith, more, most))

-- ---- a machine that is refused

-- a test that is passed is no fault
no_fault : {A : Type 0} {Z : Type 0} (e : ImageFault) (x : A) (r : Result Z ImageFault) → Fails e (where_holds true Field x) → Fails e r
no_fault Version x r bad = absurd cc
no_fault Short x r bad = absurd cc
no_fault Long x r bad = absurd cc
no_fault Field x r bad = absurd cc
no_fault WrongProgram x r bad = absurd cc
no_fault Memory x r bad = tt

-- the fault of one test is that of another
one_fault : {A : Type 0} {Z : Type 0} (e : ImageFault) (x : A) (z : Z) → Fails e (where_holds false Field x)
    → Fails e (where_holds false Field z)
one_fault Version x z bad = absurd cc
one_fault Short x z bad = absurd cc
one_fault Long x z bad = absurd cc
one_fault Field x z bad = refl
one_fault WrongProgram x z bad = absurd cc
one_fault Memory x z bad = tt

-- where so many values have no room among the ranks, the machine is refused
room_fails : {A : Type 0} (e : ImageFault) (m : MachineValue) (rest : List ℕ) (x : A)
    → Fails e (where_holds (nat_le (length m.store.gathered) m.store.size) Field x) → Fails e (where_underway m rest)
room_fails e m rest x failed = at (nat_le (length m.store.gathered) m.store.size) refl failed
  where
    at : (b : Bool) → nat_le (length m.store.gathered) m.store.size ≡ b → Fails e (where_holds b Field x)
        → Fails e (where_underway m rest)
    at true within failed = no_fault e x (where_underway m rest) failed
    at false over failed = rw (too_many m (leb-false _ _ over)) (one_fault e x (m, rest) failed)

-- where all but the values gathered was read, and these have no room, the whole is refused so
pub refused : {A : Type 0} (p : ProgramValue) (rank size : ℕ) (bytes : List ℕ) (e : ImageFault) (x : A)
    (standing : MachineStanding × List ℕ) (status : Status × List ℕ) (variables : List ℤ × List ℕ) (arrays : List (List ℤ) × List ℕ)
    → standing_at (length p.statements) bytes ≡ Ok standing → status_at size standing.1 ≡ Ok status
    → values_at (length p.variables) status.1 ≡ Ok variables → arrays_at (lengths_of p) variables.1 ≡ Ok arrays
    → Fails e (where_holds (nat_le (length standing.0.gathered) size) Field x) → Fails e (machine_at p rank size bytes)
unfolding machine_at
refused p rank size bytes e x standing status variables arrays at_standing at_status at_variables at_arrays failed =
    rw (at_standing, at_status, at_variables, at_arrays)
    (room_fails e (machine_of p rank size standing.0 status.0 variables.0 arrays.0) arrays.1 x failed)
