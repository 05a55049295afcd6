-- Where no event may be stored or acknowledged and no effect may pass, nothing waits.
use Rattle.std.proofs.Common.{◌≡◌, false, List, [], ◌∷◌, refl, ap, sym, ◌∙◌}
use Rattle.std.specs.Prelude.{Option, Some, None, is_some, slice_get, option_and_then}
use Rattle.rank_node.specs.declared.waiting.Waiting.{Waiting}
use Rattle.rank_node.specs.declared.waiting.Waiting.TheVariants as waits
use Rattle.rank_node.specs.Waiting.{event_in, effect_clock}
use Rattle.rank_node.specs.Storing.{next_unstored}
use Rattle.rank_node.specs.Releasing.{effect_of, next_effect, released}
use Rattle.checkpoint.specs.declared.memory_shelf.MemoryShelf.{MemoryShelf}
use Rattle.event_logger.specs.Desks.{DeskValue}
use Rattle.rank_node.specs.Node.{Node}

-- the first of what waits is an event or an effect
nothing_first : (xs : List Waiting) → is_some (option_and_then effect_of (slice_get xs 0)) ≡ false
    → option_and_then event_in (slice_get xs 0) ≡ None → xs ≡ []
nothing_first [] without none = refl
nothing_first (waits.Event e ∷ xs) without none = absurd cc
nothing_first (waits.Send dest clock ∷ xs) without none = absurd cc
nothing_first (waits.Line clock value ∷ xs) without none = absurd cc

-- so nothing waits
pub nothing_waits : (v : Node MemoryShelf DeskValue) → v.stored ≡ 0 → is_some (next_effect v) ≡ false → next_unstored v ≡ None → v.pending ≡ []
nothing_waits v stored without none = nothing_first v.pending without (ap (λ k. option_and_then event_in (slice_get v.pending k)) (sym stored) ∙ none)

-- an effect has a clock
clock_of : (x : Option Waiting) → is_some (option_and_then effect_clock (option_and_then effect_of x)) ≡ is_some (option_and_then effect_of x)
clock_of None = refl
clock_of (Some (waits.Event e)) = refl
clock_of (Some (waits.Send dest clock)) = refl
clock_of (Some (waits.Line clock value)) = refl

-- so a release that passes an effect answers a clock
pub has_clock : (v : Node MemoryShelf DeskValue) → is_some (option_and_then effect_clock (next_effect v)) ≡ is_some (next_effect v)
has_clock v = clock_of (slice_get v.pending 0)

-- a release leaves the clock
pub released_clock : (v w : Node MemoryShelf DeskValue) (x : Option Waiting) → w ≡ released v x → w.clock ≡ v.clock
released_clock v w None same = ap (λ u. u.clock) same
released_clock v w (Some x) same = ap (λ u. u.clock) same
