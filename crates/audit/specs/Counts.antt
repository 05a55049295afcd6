-- How many acts the stored events of a rank stand for, one event after another. By these numbers
-- the event of an act is found without a walk over the row, of which one event may stand for many
-- acts.
use Rattle.std.specs.Prelude.{◌≡◌, ℕ, ◌+◌, ◌<◌, ◌≤◌, List, [], ◌∷◌, length, map, Some, slice_get, slice_index_or}
use Rattle.limits.specs.Limits.{greatest_clock}
use Rattle.event_logger.specs.Sequential.Event.{EventValue, count_of}
use Rattle.audit.specs.Rows.{expand}

-- after each event, how many acts it and those before it stand for, when so many come before the
-- first
abbrev pub ends_from : ℕ → List EventValue → List ℕ
ends_from k [] = []
ends_from k (e ∷ events) = (k + count_of e) ∷ ends_from (k + count_of e) events

-- the numbers of each rank's row
abbrev pub AreCounted : List (List EventValue) → List (List ℕ) → Type 0
AreCounted rows counts = counts ≡ map (ends_from 0) rows

-- some rank's row stands for more acts than a rank may make
abbrev pub AreTooMany : List (List EventValue) → Type 0
AreTooMany rows = (r : ℕ) × (events : List EventValue) × (slice_get rows r ≡ Some events) × (greatest_clock < length (expand events))

-- Where the event of an act stands that comes after so many: no number before is more, and that of
-- this event is.
pub record IsPlace (events : List EventValue) (done place : ℕ) : Type 0 where
  pub before : (i : ℕ) → i < place → i < length events → slice_index_or (ends_from 0 events) i 0 ≤ done
  pub within : (e : EventValue) → slice_get events place ≡ Some e → 1 ≤ count_of e → done < slice_index_or (ends_from 0 events) place 0
