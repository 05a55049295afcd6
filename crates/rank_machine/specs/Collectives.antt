-- Collectives as the acts of their parts, in order (MPI 1.1, sections 4.3, 4.4 and 4.9.1: barrier,
-- broadcast, reduce). Their packets have a context of their own, so no receive and no probe of a
-- program meets them (MPI 1.1, section 5.1). What packets say: docs/FORMATS.md.
use Rattle.std.specs.Prelude.{ℕ, zero, suc, ℤ, pos, ◌+◌, ◌==◌, nat_le, int_le, ◌+ℤ◌, Bool, true, false, ◌&&◌, List, [], ◌∷◌}
use Rattle.std.specs.Prelude.{◌++◌, length, map, take, drop, slice_index_or, slice_set, Ok, Err, Option, Some, None, if◌then◌else◌}
use Rattle.std.specs.Ordering.{int_eq}
use Rattle.limits.specs.Limits.{greatest_clock}
use Rattle.rank_text.specs.declared.grammar.token.Reduction.{Reduction}
use Rattle.rank_text.specs.declared.grammar.token.Reduction.TheVariants.{Sum, Max, Min}
use Rattle.rank_language.specs.Placed.{Buffer, into_variable, into_array, Collective, barrier, broadcast, reduce}
use Rattle.rank_language.specs.Block.{Block}
use Rattle.rank_machine.specs.declared.fault.MachineFault.TheVariants.{Overflow, CollectiveMismatch}
use Rattle.rank_machine.specs.Values.{Store, Valued, ◌>>=◌, value, in_range, rank_in}

-- what a collective does, without its arguments
pub data CollectiveKind : Type 0 where
  barriers : CollectiveKind
  broadcasts : CollectiveKind
  folds : (reduction : Reduction) → CollectiveKind

-- the number of a kind in packets
abbrev pub kind_number : CollectiveKind → ℕ
kind_number barriers = 0
kind_number broadcasts = 1
kind_number (folds Sum) = 2
kind_number (folds Max) = 3
kind_number (folds Min) = 4

-- A collective as a rank calls it: its kind, its root, its ordinal among the collectives of the
-- rank, and the items that the rank gives.
pub record CollectiveCall : Type 0 where
  pub kind : CollectiveKind
  pub root : ℕ
  pub ordinal : ℕ
  pub items : List ℤ

-- the greatest ordinal: as many as a rank has acts
abbrev pub greatest_ordinal : ℕ
greatest_ordinal = greatest_clock

-- the ordinal of the collective after so many; one above the greatest is a fault
abbrev pub ordinal_after : ℕ → Valued ℕ
ordinal_after finished = if nat_le (finished + 1) greatest_ordinal then Ok (finished + 1) else Err Overflow

-- the items of a buffer
abbrev pub contents : Store → Buffer → List ℤ
contents s (into_variable p) = slice_index_or s.variables p (pos 0) ∷ []
contents s (into_array p) = slice_index_or s.arrays p []

-- the root of a broadcast gives the items of its buffer, and no other rank gives any
abbrev pub given : Store → ℕ → Buffer → List ℤ
given s root b = if root == s.rank then contents s b else []

-- Root and value are evaluated in this order; then the root is looked at, and then the ordinal. A
-- barrier's root is 0.
abbrev pub called : Store → Collective → Valued CollectiveCall
called s barrier =
    ordinal_after s.finished >>= (λ k. Ok (record { kind = barriers; root = 0; ordinal = k; items = [] }))
called s (broadcast e b) = do
  x ← value s e
  root ← rank_in s.size x
  k ← ordinal_after s.finished
  Ok (record { kind = broadcasts; root = root; ordinal = k; items = given s root b })
called s (reduce f e v p) = do
  x ← value s e
  y ← value s v
  root ← rank_in s.size x
  k ← ordinal_after s.finished
  Ok (record { kind = folds f; root = root; ordinal = k; items = y ∷ [] })

-- a part of a collective: a send to this rank, a reception from it, or a step of the rank's own
pub data Part : Type 0 where
  gives : (dest : ℕ) → Part
  gets : (source : ℕ) → Part
  ends : Part

-- of so many ranks from this one on, all but r
abbrev pub others : ℕ → ℕ → ℕ → List ℕ
others r from zero = []
others r from (suc count) = if from == r then others r (from + 1) count else from ∷ others r (from + 1) count

-- The parts of rank r of n, two or more. The root of a barrier hears of all others and then tells
-- them; the root of a broadcast tells all others; the root of a reduce hears of all others and ends
-- with a step of its own, the fold.
abbrev pub parts_among : CollectiveKind → ℕ → ℕ → ℕ → List Part
parts_among barriers root n r =
    if r == 0 then map gets (others 0 0 n) ++ map gives (others 0 0 n) else gives 0 ∷ gets 0 ∷ []
parts_among broadcasts root n r = if r == root then map gives (others r 0 n) else gets root ∷ []
parts_among (folds f) root n r = if r == root then map gets (others r 0 n) ++ ends ∷ [] else gives root ∷ []

-- with one rank a collective is a step of the rank's own
abbrev pub parts : CollectiveKind → ℕ → ℕ → ℕ → List Part
parts kind root n r = if n == 1 then ends ∷ [] else parts_among kind root n r

-- the parts of a call of the rank that stores this
abbrev pub parts_of : Store → CollectiveCall → List Part
parts_of s call = parts call.kind call.root s.size s.rank

-- the part that stands
abbrev pub part_of : Store → CollectiveCall → Part
part_of s call = slice_index_or (parts_of s call) s.done ends

-- it is the last one
abbrev pub is_last : Store → CollectiveCall → Bool
is_last s call = s.done + 1 == length (parts_of s call)

-- a finished collective is counted, and none is under way
abbrev pub counted : Store → Store
counted s = record s { finished = s.finished + 1; done = 0; gathered = [] }

-- what is stored after a part
abbrev pub part_done : Store → CollectiveCall → Store
part_done s call = if is_last s call then counted s else record s { done = s.done + 1 }

-- the statements that remain after a part: those behind the collective, after its last
abbrev pub rest_after : Store → CollectiveCall → Block → Block → Block
rest_after s call whole behind = if is_last s call then behind else whole

-- what packets of a call begin with
abbrev pub header : CollectiveCall → List ℤ
header call = pos (kind_number call.kind) ∷ pos call.root ∷ pos call.ordinal ∷ []

-- packets of a barrier give nothing, those of a reduce one value
abbrev pub is_counted : CollectiveKind → List ℤ → Bool
is_counted barriers [] = true
is_counted barriers (v ∷ vs) = false
is_counted broadcasts items = true
is_counted (folds f) [] = false
is_counted (folds f) (v ∷ []) = true
is_counted (folds f) (v ∷ (w ∷ vs)) = false

-- the items that a packet gives, if it is one of this call
abbrev pub given_by : CollectiveCall → List ℤ → Valued (List ℤ)
given_by call [] = Err CollectiveMismatch
given_by call (x ∷ []) = Err CollectiveMismatch
given_by call (x ∷ (y ∷ [])) = Err CollectiveMismatch
given_by call (x ∷ (y ∷ (z ∷ items))) =
    if (int_eq x (pos (kind_number call.kind)) && int_eq y (pos call.root))
    && (int_eq z (pos call.ordinal) && is_counted call.kind items)
    then Ok items
    else Err CollectiveMismatch

-- two values as one
abbrev pub combined : Reduction → ℤ → ℤ → Valued ℤ
combined Sum a b = in_range (a +ℤ b)
combined Max a b = Ok (if int_le a b then b else a)
combined Min a b = Ok (if int_le a b then a else b)

-- from this one on, from the left; the first that is out of range is a fault
abbrev pub folded_from : Reduction → ℤ → List ℤ → Valued ℤ
folded_from f a [] = Ok a
folded_from f a (b ∷ zs) = combined f a b >>= (λ c. folded_from f c zs)

-- all of them, from the left
abbrev pub folded : Reduction → List ℤ → Valued ℤ
folded f [] = Ok (pos 0)
folded f (a ∷ zs) = folded_from f a zs

-- items with others at this place among them
abbrev pub with_at : ℕ → List ℤ → List ℤ → List ℤ
with_at place own items = take place items ++ own ++ drop place items

-- what is stored after the rank's own step: the root of a reduce folds all values, its own at its
-- place, into its variable
abbrev pub ended : Store → Collective → CollectiveCall → Valued Store
ended s barrier call = Ok (counted s)
ended s (broadcast e b) call = Ok (counted s)
ended s (reduce f e v p) call =
    folded f (with_at s.rank call.items s.gathered)
    >>= (λ z. Ok (counted (record s { variables = slice_set s.variables p z })))

-- what doesn't fault
abbrev pub unfaulted : {A : Type 0} → Valued A → Option A
unfaulted (Ok x) = Some x
unfaulted (Err k) = None

-- what is stored after this part, if it is a step of the rank's own that doesn't fault
abbrev pub ended_at : Store → Collective → CollectiveCall → Part → Option Store
ended_at s c call (gives dest) = None
ended_at s c call (gets source) = None
ended_at s c call ends = unfaulted (ended s c call)

-- what is stored after the part that stands, if it is such a step
abbrev pub ended_by : Store → Collective → Valued CollectiveCall → Option Store
ended_by s c (Ok call) = ended_at s c call (part_of s call)
ended_by s c (Err k) = None

-- the same of the collective as it is called now
abbrev pub own_end : Store → Collective → Option Store
own_end s c = ended_by s c (called s c)

-- this, or what was stored if there is nothing
abbrev pub stored_or : Store → Option Store → Store
stored_or s None = s
stored_or s (Some s') = s'
