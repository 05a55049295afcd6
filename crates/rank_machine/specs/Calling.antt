-- Collectives as the code calls them, as the definitions see them.
use Rattle.std.specs.Prelude.{◌≡◌, ℕ, ◌<◌, ℤ, List, [], ◌∷◌, length, Ok, Err, Result}
use Rattle.rank_language.specs.Placed.{Collective, barrier, broadcast, reduce}
use Rattle.rank_machine.specs.declared.call.CollectiveKind as source_kind
use Rattle.rank_machine.specs.declared.call.CollectiveCall as source_call
use Rattle.rank_machine.specs.declared.call.Part as source_part
use Rattle.rank_machine.specs.declared.fault.MachineFault.{MachineFault}
use Rattle.rank_machine.specs.Values.{Store, Valued}
use Rattle.rank_machine.specs.Collectives.{CollectiveKind, barriers, broadcasts, folds, CollectiveCall, given, Part, gives, gets, ends}

-- what a collective does
abbrev pub kind_of : source_kind.CollectiveKind → CollectiveKind
kind_of source_kind.TheVariants.Barrier = barriers
kind_of source_kind.TheVariants.Broadcast = broadcasts
kind_of (source_kind.TheVariants.Reduce f) = folds f

-- a part of it
abbrev pub part_seen : source_part.Part → Part
part_seen (source_part.TheVariants.Gives dest) = gives dest
part_seen (source_part.TheVariants.Gets source) = gets source
part_seen source_part.TheVariants.Ends = ends

-- the rank that it names is one of so many
abbrev pub IsPartBelow : ℕ → source_part.Part → Type 0
IsPartBelow size (source_part.TheVariants.Gives dest) = dest < size
IsPartBelow size (source_part.TheVariants.Gets source) = source < size
IsPartBelow size source_part.TheVariants.Ends = Unit {0}

-- a call without the items that the rank gives
abbrev pub head_of : source_call.CollectiveCall → CollectiveCall
head_of c = record { kind = kind_of c.kind; root = c.root; ordinal = c.ordinal; items = [] }

-- the items that a rank gives that called this collective so
abbrev pub items_given : Store → Collective → source_call.CollectiveCall → List ℤ
items_given s barrier c = []
items_given s (broadcast e b) c = given s c.root b
items_given s (reduce f e v p) c = c.value ∷ []

-- a call with them
abbrev pub call_of : Store → Collective → source_call.CollectiveCall → CollectiveCall
call_of s x c = record { kind = kind_of c.kind; root = c.root; ordinal = c.ordinal; items = items_given s x c }

-- a call, or the fault of its evaluation
abbrev pub called_seen : Store → Collective → Result source_call.CollectiveCall MachineFault → Valued CollectiveCall
called_seen s x (Ok c) = Ok (call_of s x c)
called_seen s x (Err k) = Err k

-- of items that a collective takes, a reduce takes one, and there is room for it
abbrev pub HasRoom : Store → Collective → List ℤ → Type 0
HasRoom s barrier items = Unit {0}
HasRoom s (broadcast e b) items = Unit {0}
HasRoom s (reduce f e v p) items = (length items ≡ 1) × (length s.gathered < s.size)
