-- How a life of a rank (an incarnation) ends: the script kills it, or it leaves. Only a kill is
-- counted as a crash.
use Rattle.std.specs.Prelude.{◌≡◌, ℕ, Bool, true, false, Option, Some, None, Result, Ok, Err}
use Rattle.audit.specs.declared.outcome.End.{End}
use Rattle.rank_node.specs.declared.fault.NodeFault.{NodeFault}
use Rattle.rank_threads.specs.Ends.{end_of}
use Rattle.rank_node.specs.Phases.{clock_in}
use Rattle.rank_threads.specs.Tally.{one_more}
use Rattle.rank_threads.specs.declared.life.ending.Ending.{Ending}
use Rattle.rank_threads.specs.declared.life.ending.Ending.TheVariants as ending
use Rattle.rank_threads.specs.declared.life.ending.Why.{Why}
use Rattle.rank_threads.specs.declared.life.ending.Why.TheVariants as why
use Rattle.rank_threads.specs.Phases.{Phase, is_replaying}
use Rattle.rank_threads.specs.declared.life.stood.Stood.{Stood}
use Rattle.rank_threads.specs.declared.turn.After.{After}
use Rattle.rank_threads.specs.declared.turn.After.TheVariants as after

-- the rank goes down
abbrev pub is_down : After → Bool
is_down (after.Turn is_idle) = false
is_down (after.Crash killed) = true
is_down (after.Leave reason) = false

-- the rank leaves
abbrev pub is_leave : After → Bool
is_leave (after.Turn is_idle) = false
is_leave (after.Crash killed) = false
is_leave (after.Leave reason) = true

-- the rank goes down by what a turn came to, which a fault is not
abbrev pub goes_down : Result After NodeFault → Bool
goes_down (Ok a) = is_down a
goes_down (Err f) = false

-- a rank leaves since all are at rest
abbrev pub is_rest : Why → Bool
is_rest (why.AtRest rest) = true
is_rest (why.Told stopped) = false

-- the rank left since all are at rest
abbrev pub is_at_rest : Ending → Bool
is_at_rest (ending.Crashed killed) = false
is_at_rest (ending.Left reason) = is_rest reason

-- a rank that is to go down by what a turn came to is at the clock of its kill: it has made no act
-- since
abbrev pub GoesDownAt : After → Phase → Type 0
GoesDownAt (after.Turn is_idle) p = Unit {0}
GoesDownAt (after.Crash killed) p = killed.at ≡ clock_in p
GoesDownAt (after.Leave reason) p = Unit {0}

-- so is a rank whose life ended by a kill
abbrev pub IsKilledAt : Ending → Phase → Type 0
IsKilledAt (ending.Crashed killed) p = killed.at ≡ clock_in p
IsKilledAt (ending.Left reason) p = Unit {0}

-- how often a rank has crashed, after a life that ended so
abbrev pub crashes_after : Ending → ℕ → ℕ
crashes_after (ending.Crashed killed) crashes = one_more crashes
crashes_after (ending.Left reason) crashes = crashes

-- with which end its station comes back: none if it crashed, else by where it stands
abbrev pub end_after : Ending → Bool → Phase → Option End
end_after (ending.Crashed killed) is_spent p = None
end_after (ending.Left reason) is_spent p = Some (end_of is_spent p)

-- how a rank stands: at which clock, whether it replays, and whether all are at rest
abbrev pub stood_at : Bool → Phase → Stood
stood_at rests p = record { clock = clock_in p; is_replaying = is_replaying p; is_at_rest = rests }

-- how it stood at the end of a life that ended so
abbrev pub stood_after : Ending → Phase → Stood
stood_after how p = stood_at (is_at_rest how) p

-- how often a rank has crashed, after a life with which its station came back so
abbrev pub crashes_by : Option End → ℕ → ℕ
crashes_by None crashes = one_more crashes
crashes_by (Some e) crashes = crashes
