-- Why a rank is unfinished: a limit stopped it, which it had met, or it still replayed when it
-- left, as it had found all ranks at rest.
use Rattle.std.specs.Prelude.{◌≡◌, ℕ, ◌+◌, ◌≤◌, nat_le, Bool, true, false, ◌&&◌, if◌then◌else◌, List, [], ◌∷◌, Option, Some, None, length, slice_index_or}
use Rattle.audit.specs.declared.outcome.End.{End}
use Rattle.audit.specs.declared.outcome.End.TheVariants as end
use Rattle.limits.specs.Limits.{greatest_clock, most_events}
use Rattle.event_logger.specs.Sequential.Event.{EventValue}
use Rattle.rank_threads.specs.declared.report.cause.Cause.{Cause}
use Rattle.rank_threads.specs.declared.report.cause.Cause.TheVariants as cause
use Rattle.rank_threads.specs.declared.report.Report.{Report}
use Rattle.rank_threads.specs.declared.life.seating.Account.{Account}

-- how many events the row of a rank has
abbrev pub events_at : List (List EventValue) → ℕ → ℕ
events_at rows rank = length (slice_index_or rows rank [])

-- A rank whose row has so many events met the limit, of so many steps, of the greatest clock or of
-- a row. Of a replay nothing is asked here: `cause_of` says when it is the cause.
abbrev pub IsMet : ℕ → ℕ → Cause → Type 0
IsMet steps events (cause.Steps made) = steps ≤ made
IsMet steps events (cause.Clock clock) = greatest_clock ≤ clock
IsMet steps events cause.Events = most_events ≤ events
IsMet steps events (cause.Replay clock) = Unit {0}

-- a rank that ended so has a cause, which was met, if it is unfinished, and else none
abbrev pub HasCause : ℕ → ℕ → End → Option Cause → Type 0
HasCause steps events end.Halted c = c ≡ None
HasCause steps events (end.Faulted fault) c = c ≡ None
HasCause steps events end.Stalled c = c ≡ None
HasCause steps events end.Unfinished c = (met : Cause) × (c ≡ Some met) × IsMet steps events met

-- so it is with each rank from this one on, of these rows
abbrev pub HaveCauses : ℕ → ℕ → List (List EventValue) → List End → List (Option Cause) → Type 0
HaveCauses steps rank rows [] [] = Unit {0}
HaveCauses steps rank rows [] (c ∷ cs) = ⊥
HaveCauses steps rank rows (e ∷ es) [] = ⊥
HaveCauses steps rank rows (e ∷ es) (c ∷ cs) = HasCause steps (events_at rows rank) e c × HaveCauses steps (rank + 1) rows es cs

-- Exactly the unfinished ranks of a report have a cause, and each cause was met.
abbrev pub AreCaused : ℕ → Report → Type 0
AreCaused steps report = HaveCauses steps 0 report.outcome.rows report.outcome.ends report.causes.items

-- the limit that a rank met which had so many events when it left: steps first, then clock, then
-- events
abbrev pub limit_met : ℕ → ℕ → Account → Option Cause
limit_met steps events a =
    if nat_le steps a.steps then Some (cause.Steps a.steps)
    else (if nat_le greatest_clock a.stood.clock then Some (cause.Clock a.stood.clock) else (if nat_le most_events events then Some cause.Events else None))

-- why a rank is unfinished that a limit stopped, or else one that replayed when all were at rest
abbrev pub cause_met : ℕ → ℕ → Account → Option Cause
cause_met steps events a =
    if a.is_spent then limit_met steps events a
    else (if a.stood.is_replaying && a.stood.is_at_rest then Some (cause.Replay a.stood.clock) else None)

-- of a rank that ended so: only one that is unfinished has a cause
abbrev pub if_unfinished : End → Option Cause → Option Cause
if_unfinished end.Halted c = None
if_unfinished (end.Faulted fault) c = None
if_unfinished end.Stalled c = None
if_unfinished end.Unfinished c = c

-- why a rank is unfinished, by what it came to
abbrev pub cause_of : ℕ → ℕ → Account → Option Cause
cause_of steps events a = if_unfinished a.end (cause_met steps events a)

-- why each rank from this one on is unfinished
abbrev pub causes_from : ℕ → ℕ → List (List EventValue) → List Account → List (Option Cause)
causes_from steps rank rows [] = []
causes_from steps rank rows (a ∷ accounts) = cause_of steps (events_at rows rank) a ∷ causes_from steps (rank + 1) rows accounts

-- a rank that ended so lacks a cause
abbrev pub lacks : End → Option Cause → Bool
lacks end.Halted c = false
lacks (end.Faulted fault) c = false
lacks end.Stalled c = false
lacks end.Unfinished None = true
lacks end.Unfinished (Some c) = false

-- the lowest rank from this one on that lacks a cause
abbrev pub uncaused_from : ℕ → ℕ → List (List EventValue) → List Account → Option ℕ
uncaused_from steps rank rows [] = None
uncaused_from steps rank rows (a ∷ accounts) =
    if lacks a.end (cause_of steps (events_at rows rank) a) then Some rank else uncaused_from steps (rank + 1) rows accounts
