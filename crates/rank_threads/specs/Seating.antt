-- The stations of a run, which are the process slots of its ranks, in rank order.
use Rattle.std.specs.Prelude.{◌≡◌, ℕ, ◌+◌, ◌≤◌, List, [], ◌∷◌, Option, Some, None, length, map, vec_len, vec_capacity}
use Rattle.audit.specs.declared.outcome.End.{End}
use Rattle.audit.specs.declared.outcome.End.TheVariants as end
use Rattle.ports.specs.Lanes.{Lane, lane_to, lane_from}
use Rattle.event_logger.specs.Desks.{DeskValue, LoggerValue}
use Rattle.rank_text.specs.declared.script.line.ScriptLine.{ScriptLine}
use Rattle.rank_threads.specs.Stations.{IsNew}
use Rattle.rank_threads.specs.declared.life.seating.Account.{Account}
use Rattle.rank_threads.specs.declared.life.seating.Remains.{Remains}
use Rattle.rank_threads.specs.declared.life.seating.Unseated.{Unseated}
use Rattle.rank_threads.specs.declared.life.station.Station.{Station}

-- the desks of the ranks from this one on, each of this logger
abbrev pub AreDesksFrom : LoggerValue → ℕ → List DeskValue → Type 0
AreDesksFrom logger first [] = Unit {0}
AreDesksFrom logger first (d ∷ ds) = (d.table ≡ logger.table) × (d.rank ≡ first) × AreDesksFrom logger (first + 1) ds

-- of each part there is one for each of so many ranks
pub record ArePartsOf (size : ℕ) (parts : Unseated) : Type 0 where
  pub desks : vec_len parts.desks ≡ size
  pub to : vec_len parts.ends.to ≡ size
  pub from : vec_len parts.ends.from ≡ size
  pub plans : vec_len parts.plans ≡ size

-- nothing stands there yet, and there is room for what so many ranks leave
pub record IsRoom (size : ℕ) (room : Remains) : Type 0 where
  pub no_desks : room.desks.items ≡ []
  pub no_to : room.ends.to.items ≡ []
  pub no_from : room.ends.from.items ≡ []
  pub no_accounts : room.accounts.items ≡ []
  pub desks : size ≤ vec_capacity room.desks
  pub to : size ≤ vec_capacity room.ends.to
  pub from : size ≤ vec_capacity room.ends.from
  pub accounts : size ≤ vec_capacity room.accounts

-- how a rank ended: one that didn't leave by itself is unfinished
abbrev pub ended : Option End → End
ended None = end.Unfinished
ended (Some e) = e

-- what a rank came to: how it left, how often it crashed, how many steps it made, whether a limit
-- stopped it, how it stood, how many lines of the script it left unused, what its recoveries cost,
-- and why it can't go on
abbrev pub account_of : Station → Account
account_of s = record {
  end = ended s.end;
  crashes = s.kit.tally.crashes;
  steps = s.kit.tally.steps;
  is_spent = s.kit.tally.is_spent;
  stood = s.stood;
  unused = length s.kit.plan;
  costs = s.kit.meter.costs;
  fault = s.kit.tally.fault;
}

-- no rank has lived yet
abbrev pub AreNew : List Station → Type 0
AreNew [] = Unit {0}
AreNew (s ∷ ss) = IsNew s × AreNew ss

-- the desk of each of these stations
abbrev pub desks_of : List Station → List DeskValue
desks_of stations = map (λ s. s.down.desk) stations

-- the lines of the script that are left for each of these
abbrev pub plans_of : List Station → List (List ScriptLine)
plans_of stations = map (λ s. s.kit.plan) stations

-- what the rank of each of these came to
abbrev pub accounts_of : List Station → List Account
accounts_of stations = map account_of stations

-- into which lanes each of these puts
abbrev pub lanes_to : List Station → List (List Lane)
lanes_to stations = map (λ s. map lane_to s.kit.to.items) stations

-- from which lanes each of these takes
abbrev pub lanes_from : List Station → List (List Lane)
lanes_from stations = map (λ s. map lane_from s.kit.from.items) stations
