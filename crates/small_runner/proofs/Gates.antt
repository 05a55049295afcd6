-- What waits first is an event or an effect, and passes as such.
use Rattle.std.proofs.Common.{◌≡◌, ℕ, zero, suc, ◌<◌, false, List, [], ◌∷◌, drop, length, refl, ap, subst, ◌∙◌, arith}
use Rattle.std.specs.Prelude.{Option, Some, None, slice_get, option_and_then, IsSome}
use Rattle.std.proofs.lemmas.List.{length-set}
use Rattle.event_logger.specs.Sequential.Event.{EventValue}
use Rattle.event_logger.specs.Sequential.History.{StateValue}
use Rattle.event_logger.specs.declared.sequential.call.Reply.{Reply}
use Rattle.event_logger.specs.declared.sequential.call.Reply.TheVariants.{Length, Full, Order, Events}
use Rattle.checkpoint.specs.declared.memory_shelf.MemoryShelf.{MemoryShelf}
use Rattle.rank_node.specs.declared.waiting.Waiting.{Waiting}
use Rattle.rank_node.specs.declared.waiting.Waiting.TheVariants as waits
use Rattle.rank_node.specs.Waiting.{is_settled, event_in, effect_clock}
use Rattle.rank_node.specs.Releasing.{effect_of, next_effect, released}
use Rattle.rank_node.specs.Node.{Node}
use Rattle.rank_node.specs.Storing.{Appends}
use Rattle.small_runner.specs.Gate.{first_event}

-- where something waits and no effect may pass, an event stands first
pub event_first : (xs : List Waiting) → is_settled xs ≡ false
    → None ≡ option_and_then effect_clock (option_and_then effect_of (slice_get xs 0)) → IsSome (first_event xs)
event_first [] waiting none = absurd cc
event_first (waits.Event e ∷ xs) waiting none = refl
event_first (waits.Send dest clock ∷ xs) waiting none = absurd cc
event_first (waits.Line clock value ∷ xs) waiting none = absurd cc

-- where an event stands first and none may be stored, that one is
pub some_stored : (xs : List Waiting) (stored : ℕ) → IsSome (first_event xs)
    → option_and_then event_in (slice_get xs stored) ≡ None → 0 < stored
some_stored xs zero first none = (let q : IsSome {T = EventValue} None = subst IsSome none first in absurd cc)
some_stored xs (suc k) first none = omega arith

-- after an effect has passed there is one less
pub effect_passes : (v : Node MemoryShelf (Unit {0})) (clock : ℕ) → Some clock ≡ option_and_then effect_clock (next_effect v)
    → (released v (next_effect v)).pending ≡ drop 1 v.pending
effect_passes v clock some = go (next_effect v) some
  where
    go : (x : Option Waiting) → Some clock ≡ option_and_then effect_clock x → (released v x).pending ≡ drop 1 v.pending
    go None some = absurd cc
    go (Some x) some = refl

-- where none may pass nothing changes
pub no_effect : (v : Node MemoryShelf (Unit {0})) → None ≡ option_and_then effect_clock (next_effect v) → released v (next_effect v) ≡ v
no_effect v none = go (slice_get v.pending 0) none
  where
    go : (x : Option Waiting) → None ≡ option_and_then effect_clock (option_and_then effect_of x) → released v (option_and_then effect_of x) ≡ v
    go None none = refl
    go (Some (waits.Event e)) none = refl
    go (Some (waits.Send dest clock)) none = absurd cc
    go (Some (waits.Line clock value)) none = absurd cc

-- where something waits there is less without the first
pub less : (xs : List Waiting) → is_settled xs ≡ false → length (drop 1 xs) < length xs
less [] waiting = absurd cc
less (x ∷ xs) waiting = omega arith

-- after an append there are as many rows
pub same_rows : (e : Option EventValue) (rank : ℕ) (old new : StateValue) (reply : Reply) → Appends e rank old reply new
    → length new.rows ≡ length old.rows
same_rows None rank old new reply a = absurd a
same_rows (Some e) rank old new (Length n) a = ap (λ s. length s.rows) a.logged ∙ length-set old.rows rank _
same_rows (Some e) rank old new Full a = ap (λ s. length s.rows) a.logged
same_rows (Some e) rank old new Order a = ap (λ s. length s.rows) a.logged
same_rows (Some e) rank old new (Events es) a = ap (λ s. length s.rows) a.logged
