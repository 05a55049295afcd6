-- A message that a machine may be shown is one between two ranks, as each probe that a state wants names just such: so its tag
-- and its number of items are within their limits. And so is one that a receive takes.
use Rattle.std.proofs.Common.{◌≡◌, ◌≤◌, length, Ok, Err, Option, Some, None, IfOk, refl, subst, ◌∙◌}
use Rattle.limits.specs.Limits as limits
use Rattle.matching.specs.declared.packet.Context.TheVariants.{PointToPoint}
use Rattle.matching.specs.declared.selector.Selector.{Selector}
use Rattle.matching.specs.PacketValue as packet
use Rattle.matching.specs.PacketValue.{IsPacketValue, most_items, greatest_tag}
use Rattle.rank_language.specs.Placed.{Pattern, declare, declare_array, assign, assign_item, send, receive, probe, try_probe, print, Collective, collect}
use Rattle.rank_language.specs.Block.{Block, done, plain, if_only, if_else, loop}
use Rattle.rank_machine.specs.declared.fault.MachineFault.{MachineFault}
use Rattle.rank_machine.specs.declared.want.Want.{Want}
use Rattle.rank_machine.specs.declared.want.Want.TheVariants as want
use Rattle.rank_machine.specs.Values.{Store, Valued, ◌>>=◌, value, rank_in}
use Rattle.rank_machine.specs.Collectives.{CollectiveCall, called, Part, gives, gets, ends, part_of, ended}
use Rattle.rank_machine.specs.States.{item_value}
use Rattle.rank_machine.specs.Wants.{tag_in, items_of, pattern_value, where_named, selector_of, part_want, collective_want, or_fault, want_of, wants}
use Rattle.rank_machine.specs.Machine.{MachineValue, state_of, line_at, machine_want, IsShowing}
use Rattle.rank_machine.proofs.Going.{wants_only}
use Rattle.rank_machine.proofs.Making.{named}

-- a probe that is wanted names just messages between two ranks
abbrev IsBetween : Want → Type 0
IsBetween want.Internal = Unit {0}
IsBetween (want.Send d c t) = Unit {0}
IsBetween (want.Receive w) = Unit {0}
IsBetween (want.Probe w) = w.context ≡ PointToPoint
IsBetween (want.TryProbe w) = w.context ≡ PointToPoint
IsBetween (want.Print z) = Unit {0}
IsBetween want.Halted = Unit {0}
IsBetween (want.Faulted k) = Unit {0}

-- what holds of each value that may follow holds of what follows
follows : {A B : Type 0} (P : B → Type 0) (v : Valued A) (f : A → Valued B) → ((x : A) → IfOk (f x) P) → IfOk (v >>= f) P
follows P (Ok x) f h = h x
follows P (Err k) f h = tt

-- a source and a tag name messages between two ranks
pub selects : (s : Store) (c t : Pattern) → IfOk (selector_of s c t) (λ w. w.context ≡ PointToPoint)
selects s c t =
    let P : Selector → Type 0 = λ w. w.context ≡ PointToPoint in
    follows P (pattern_value s c) _
    (λ x. follows P (pattern_value s t) _
    (λ y. follows P (where_named (rank_in s.size) x) _ (λ source. follows P (where_named tag_in y) _ (λ tag. refl))))

-- what asks for nothing but its own selector, or faults
asked_by : (v : Valued Selector) (f : Selector → Want) → IfOk v (λ w. w.context ≡ PointToPoint)
    → ((w : Selector) → w.context ≡ PointToPoint → IsBetween (f w)) → IsBetween (or_fault (v >>= (λ w. Ok (f w))))
asked_by (Ok w) f h g = g w h
asked_by (Err k) f h g = tt

-- and so does what asks for no message at all
unasked : {A : Type 0} (v : Valued A) (f : A → Valued Want) → ((x : A) → IsBetween (or_fault (f x))) → IsBetween (or_fault (v >>= f))
unasked (Ok x) f h = h x
unasked (Err k) f h = tt

-- a collective makes no probe
part_between : (s : Store) (c : Collective) (call : CollectiveCall) (p : Part) → IsBetween (or_fault (part_want s c call p))
part_between s c call (gives d) = tt
part_between s c call (gets q) = tt
part_between s c call ends = unasked (ended s c call) _ (λ s'. tt)

-- so whatever its call and its part are, a collective asks for no probe
collective_between : (s : Store) (c : Collective) → IsBetween (or_fault (collective_want s c))
collective_between s c = unasked (called s c) _ (λ call. part_between s c call (part_of s call))

-- whatever a state asks for, a probe looks only for messages between two ranks
wants_between : (s : Store) (b : Block) (k : Option MachineFault) → IsBetween (want_of s b k)
wants_between s b (Some k) = tt
wants_between s done None = tt
wants_between s (plain (declare p) r) None = tt
wants_between s (plain (declare_array p) r) None = tt
wants_between s (plain (assign p e) r) None = unasked (value s e) _ (λ z. tt)
wants_between s (plain (assign_item p i e) r) None = unasked (item_value s p i e) _ (λ x. tt)
wants_between s (plain (send d t p) r) None =
    unasked (value s d) _
    (λ x. unasked (value s t) _
    (λ y. unasked (items_of s p) _ (λ items. unasked (rank_in s.size x) _ (λ dest. unasked (tag_in y) _ (λ tag. tt)))))
wants_between s (plain (receive c t b) r) None = asked_by (selector_of s c t) want.Receive (selects s c t) (λ w h. tt)
wants_between s (plain (probe c t) r) None = asked_by (selector_of s c t) want.Probe (selects s c t) (λ w h. h)
wants_between s (plain (try_probe c t x) r) None = asked_by (selector_of s c t) want.TryProbe (selects s c t) (λ w h. h)
wants_between s (plain (print e) r) None = unasked (value s e) _ (λ z. tt)
wants_between s (plain (collect c) r) None = collective_between s c
wants_between s (if_only e y r) None = unasked (value s e) _ (λ z. tt)
wants_between s (if_else e y o r) None = unasked (value s e) _ (λ z. tt)
wants_between s (loop e y r) None = unasked (value s e) _ (λ z. tt)

-- such a message's tag and number of items are within their limits
pub record IsFew (m : packet.PacketValue) : Type 0 where
  pub tag : m.tag ≤ limits.greatest_tag
  pub count : length m.items ≤ limits.most_items

-- one between two ranks is such
pub few : (m : packet.PacketValue) → IsPacketValue m → m.context ≡ PointToPoint → IsFew m
few m h e = record { tag = subst (λ c. m.tag ≤ greatest_tag c) e h.tag; count = subst (λ c. length m.items ≤ most_items c) e h.most }

-- so a message that is shown to a probe, or to a try of one, is within those limits
shown_of : (w : Want) (m : packet.PacketValue) → IsPacketValue m → IsBetween w → IsShowing w m → IsFew m
shown_of (want.Probe w) m h b i = few m h ((named w m i).0 ∙ b)
shown_of (want.TryProbe w) m h b i = few m h ((named w m i).0 ∙ b)
shown_of want.Internal m h b i = absurd i
shown_of (want.Send d c t) m h b i = absurd i
shown_of (want.Receive w) m h b i = absurd i
shown_of (want.Print z) m h b i = absurd i
shown_of want.Halted m h b i = absurd i
shown_of (want.Faulted k) m h b i = absurd i

-- a message that a machine may be shown is one of these
pub shown_few : (m : MachineValue) (p : packet.PacketValue) → IsPacketValue p → IsShowing (machine_want m) p → IsFew p
shown_few m p h i =
    shown_of (wants (state_of m)) p h (wants_between m.store (state_of m).rest m.fault) (wants_only (λ w. IsShowing w p) (line_at m) m.fault _ (λ z. z) i)
