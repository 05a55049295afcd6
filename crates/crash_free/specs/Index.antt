-- By which a message is found among the slots of a pair of ranks: for each kind of messages a queue
-- of places, oldest first. A kind is a context with a tag, or with any tag. A queue may also have
-- places of slots that are empty. Few slots have no index: they are walked, from the first that may
-- be full.
use Rattle.std.specs.Prelude.{◌≡◌, ℕ, ◌+◌, ◌*◌, ◌<◌, ◌≤◌, Bool, List, [], ◌∷◌, ◌++◌, ◌⊎◌, length, Option, Some, None}
use Rattle.std.specs.Prelude.{slice_get, slice_index_or, IfSome, IsSomeAnd, option_and_then}
use Rattle.std.specs.Ordering.{nat_cmp}
use Rattle.std.specs.Map.{lookup}
use Rattle.std.specs.BTreeMap.{is_at}
use Rattle.matching.specs.declared.packet.Context.{Context}
use Rattle.matching.specs.declared.packet.Context.TheVariants.{PointToPoint, Collective}
use Rattle.matching.specs.declared.selector.Selector.{Selector}
use Rattle.matching.specs.PacketValue as packet
use Rattle.crash_free.specs.Slots.{Slot, passes}

-- the number of a kind
abbrev pub kind_of : Context → Option ℕ → ℕ
kind_of PointToPoint None = 0
kind_of Collective None = 1
kind_of PointToPoint (Some tag) = 2 * tag + 2
kind_of Collective (Some tag) = 2 * tag + 3

-- the slot at a place passes; past the last none does
abbrev pub passes_at : Selector → List Slot → ℕ → Bool
passes_at w slots place = passes w (slice_index_or slots place None)

-- the queues, and which is that of a kind
pub record IndexValue : Type 0 where
  pub kinds : List (ℕ × ℕ)
  pub queues : List (List ℕ)

-- which queue is that of a kind, if a message of it was met
abbrev pub queue_number : IndexValue → ℕ → Option ℕ
queue_number i kind = lookup (is_at (nat_cmp kind)) i.kinds

-- the queue of a kind
abbrev pub queue_of : IndexValue → ℕ → Option (List ℕ)
queue_of i kind = option_and_then (slice_get i.queues) (queue_number i kind)

-- each kind's queue is there
abbrev pub AreThere : IndexValue → Type 0
AreThere i = (kind q : ℕ) → queue_number i kind ≡ Some q → q < length i.queues

-- the place is in the queue of this kind
pub record IsListed (i : IndexValue) (kind place : ℕ) : Type 0 where
  pub queue : ℕ
  pub places : List ℕ
  pub index : ℕ
  pub number : queue_number i kind ≡ Some queue
  pub there : slice_get i.queues queue ≡ Some places
  pub at : slice_get places index ≡ Some place

-- the place is in both queues of a message, that of its tag and that of any
abbrev pub IsListedTwice : IndexValue → Context → ℕ → ℕ → Type 0
IsListedTwice i context tag place = IsListed i (kind_of context None) place × IsListed i (kind_of context (Some tag)) place

-- places rise, and are at most n
pub record IsRising (n : ℕ) (places : List ℕ) : Type 0 where
  pub within : (i place : ℕ) → slice_get places i ≡ Some place → place ≤ n
  pub rises : (i j early late : ℕ) → i ≤ j → slice_get places i ≡ Some early → slice_get places j ≡ Some late → early ≤ late

-- each message that isn't taken is in the queues of its kinds, and in each queue places rise
pub record IsIndex (i : IndexValue) (slots : List Slot) : Type 0 where
  pub listed : (place : ℕ) (m : packet.PacketValue) → slice_get slots place ≡ Some (Some m) → IsListedTwice i m.context m.tag place
  pub rising : (q : ℕ) (places : List ℕ) → slice_get i.queues q ≡ Some places → IsRising (length slots) places

-- the second list is the first without some at its front, at which slots are empty
pub record LosesEmpty (slots : List Slot) (places left : List ℕ) : Type 0 where
  pub lost : List ℕ
  pub parts : places ≡ lost ++ left
  pub empty : (k place : ℕ) → slice_get lost k ≡ Some place → slice_index_or slots place None ≡ None

-- there is a place in front, and its slot is empty
abbrev pub IsFrontEmpty : List Slot → List ℕ → Type 0
IsFrontEmpty slots places = IsSomeAnd (slice_get places 0) (λ place. slice_index_or slots place None ≡ None)

-- the second index has the queues of the first under their kinds, and perhaps an empty one
pub record HasQueues (i i' : IndexValue) : Type 0 where
  pub numbers : (kind q : ℕ) → queue_number i kind ≡ Some q → queue_number i' kind ≡ Some q
  pub queues : (i'.queues ≡ i.queues) ⊎ (i'.queues ≡ i.queues ++ [] ∷ [])

-- what is listed in the first index is in the second, and what is an index of slots before a place
-- stays one
pub record ListsMore (i : IndexValue) (place : ℕ) (i' : IndexValue) : Type 0 where
  pub listed : (kind other : ℕ) → IsListed i kind other → IsListed i' kind other
  pub index : (slots : List Slot) → length slots ≡ place → IsIndex i slots → IsIndex i' slots

-- an index of the slots before a place is one of them with this slot behind them
abbrev pub ListsSlot : IndexValue → ℕ → Slot → IndexValue → Type 0
ListsSlot i place slot i' = (slots : List Slot) → length slots ≡ place → IsIndex i slots → IsIndex i' (slots ++ slot ∷ [])

-- and one of them stays so
abbrev pub StaysIndex : IndexValue → ℕ → IndexValue → Type 0
StaysIndex i place i' = (slots : List Slot) → length slots ≡ place → IsIndex i slots → IsIndex i' slots

-- the slots before the front are empty
abbrev pub AreEmptyBefore : ℕ → List Slot → Type 0
AreEmptyBefore front slots = (place : ℕ) → place < front → slice_index_or slots place None ≡ None

-- by what a message is found: the front, and the index, if there is one
pub record AreFoundBy (front : ℕ) (index : Option IndexValue) (slots : List Slot) : Type 0 where
  pub within : front ≤ length slots
  pub empty : AreEmptyBefore front slots
  pub indexed : IfSome index (λ i. IsIndex i slots)
