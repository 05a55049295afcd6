-- What stands ready for the ranks of a run, each at its station, before they are kept.
use Rattle.std.specs.Prelude.{◌≡◌, ℕ, List}
use Rattle.event_logger.specs.Desks.{LoggerValue, desks_below}
use Rattle.ports.specs.AllLanes.{IsCrossed}
use Rattle.rank_text.specs.declared.script.line.ScriptLine.{ScriptLine}
use Rattle.rank_threads.specs.Plans.{plans_below}
use Rattle.rank_threads.specs.Seating.{AreDesksFrom, AreNew, desks_of, lanes_from, lanes_to, plans_of}
use Rattle.rank_threads.specs.declared.life.station.Station.{Station}

-- Each rank is new at its station, with its lines of the script, a new desk of this logger and its
-- ends of the lanes between all.
pub record IsSetOut (ranks : ℕ) (script : List ScriptLine) (logger : LoggerValue) (begun : List Station) : Type 0 where
  pub fresh : AreNew begun
  pub lines : plans_of begun ≡ plans_below ranks script
  pub desks : desks_of begun ≡ desks_below logger.table ranks
  pub own : AreDesksFrom logger 0 (desks_of begun)
  pub crossed : IsCrossed (lanes_to begun) (lanes_from begun)
