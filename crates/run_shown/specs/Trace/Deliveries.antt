-- Which message an act takes or hits, and which act sent it (MPI 1.1, section 3.5). The acts of a
-- run are the newest first, as `crash_free` has them, where they are called a run, and the oldest
-- first where an act is told by its index.
use Rattle.std.specs.Prelude.{◌≡◌, ℕ, ◌+◌, ◌<◌, min, List, length, map, slice_get, slice_index_or, Option, Some, None}
use Rattle.rank_machine.specs.Acts.{Message, Act, sends, takes, hits, misses, prints}
use Rattle.crash_free.specs.Runs.{Passed, history, looked_up}
use Rattle.crash_free.specs.Sim.{inbound_of}
use Rattle.crash_free.specs.SendIndex.Sends.{run_before}
use Rattle.run_shown.specs.Trace.Places.{clock_of, greatest_told}
use Rattle.run_shown.specs.declared.trace.deliveries.Delivery.{Delivery}
use Rattle.run_shown.specs.declared.trace.place.Place.{Place}

-- the message that an act takes or hits that follows this run
abbrev pub delivered : List Passed → Passed → Option Message
delivered run p = looked_up (inbound_of run p.rank) p.act

-- the message of a send with this clock
abbrev pub sent_by : Act → ℕ → Option Message
sent_by (sends dest context tag items) clock = Some (record { clock = clock; context = context; tag = tag; items = items })
sent_by (takes source place) clock = None
sent_by (hits source place) clock = None
sent_by misses clock = None
sent_by (prints value) clock = None

-- the message of an act that is the one of this index, by its clock the last of its rank's up to
-- there
abbrev pub sent_as : List Passed → ℕ → Option Passed → Option Message
sent_as acts index (Some p) = sent_by p.act (length (history (run_before acts (index + 1)) p.rank))
sent_as acts index None = None

-- the message of the act of this index
abbrev pub sent_at : List Passed → Option ℕ → Option Message
sent_at acts (Some index) = sent_as acts index (slice_get acts index)
sent_at acts None = None

-- which sends were found
abbrev pub sends_found : List Delivery → List (Option ℕ)
sends_found found = map (λ (d : Delivery). d.send) found

-- for each of the first acts, of which there are so many, the send is found of the message that it
-- takes or hits, if it does
pub record AreFoundUpTo (acts : List Passed) (count : ℕ) (found : List Delivery) : Type 0 where
  pub as_many : length found ≡ count
  pub each : (index : ℕ) (p : Passed) → index < count → slice_get acts index ≡ Some p
      → sent_at acts (slice_index_or (sends_found found) index None) ≡ delivered (run_before acts index) p

-- for each act the send is found of the message that it takes or hits, if it does
abbrev pub AreDelivered : List Passed → List Delivery → Type 0
AreDelivered acts found = AreFoundUpTo acts (length acts) found

-- each act is of one of the first n ranks
abbrev pub AreOfRanks : ℕ → List Passed → Type 0
AreOfRanks n acts = (index : ℕ) (p : Passed) → slice_get acts index ≡ Some p → p.rank < n

-- each act has a place with its clock
pub record AreClocked (acts : List Passed) (places : List Place) : Type 0 where
  pub as_many : length places ≡ length acts
  pub each : (index : ℕ) (p : Passed) (place : Place) → slice_get acts index ≡ Some p → slice_get places index ≡ Some place
      → place.clock ≡ clock_of (run_before acts (index + 1)) p.rank

-- a message as it is reported: with a clock up to the greatest
abbrev pub told_message : Message → Message
told_message m = record m { clock = min m.clock greatest_told }

-- a message as it is reported, if there is one
abbrev pub as_told : Option Message → Option Message
as_told (Some m) = Some (told_message m)
as_told None = None

-- the message of an act at its place, if both are there
abbrev pub made_by : Option Passed → Option Place → Option Message
made_by (Some p) (Some place) = sent_by p.act place.clock
made_by (Some p) None = None
made_by None (Some place) = None
made_by None None = None
