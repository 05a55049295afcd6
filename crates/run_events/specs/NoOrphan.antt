-- No orphan: nothing that another rank or the outside world can see of a rank rests on an event
-- that a crash can lose. An act of a rank is stable with its determinants stored: those of all its
-- receptions, hits and misses up to the act.
-- Source: no orphans, stable events and pessimistic logging, Alvisi and Marzullo 1998, section 3;
-- output commit, Elnozahy, Alvisi, Wang and Johnson 2002, section 2.
use Rattle.std.specs.Prelude.{◌≡◌, ℕ, ℤ, List, take, Option, Some, slice_get}
use Rattle.matching.specs.PacketValue as packet
use Rattle.event_logger.specs.Sequential.Event.{EventValue}
use Rattle.rank_machine.specs.Acts.{Act, Message, sends, prints}
use Rattle.rank_node.specs.declared.frame.Frame.{Frame}
use Rattle.rank_node.specs.declared.frame.Frame.TheVariants as frame
use Rattle.crash_free.specs.Runs.{at_place, history}
use Rattle.crash_free.specs.Parts.{IsBeginning}
use Rattle.audit.specs.Outcome.{lines_of}
use Rattle.audit.specs.Rows.{events_from, expand}
use Rattle.explore.specs.Outcomes.{IsAmong}
use Rattle.bare_world.specs.World.{WorldValue, IsWire}

-- The rank made this act in the run, with this clock, and its row at the event logger begins with
-- the events of all its acts up to that.
pub record IsStable (w : WorldValue) (r clock : ℕ) (act : Act) : Type 0 where
  pub message : Option Message
  pub made : at_place (history w.run r) clock ≡ Some (act, message)
  pub row : List EventValue
  pub stored : slice_get w.logger.rows r ≡ Some row
  pub determinants : IsBeginning (events_from 0 (take clock (history w.run r))) (expand row)

-- What others can depend on is stable: the send of each packet that was ever put on a wire, and the
-- print of each line on the console.
pub record NoOrphan (w : WorldValue) : Type 0 where
  pub packets : (s d k : ℕ) (frames : List Frame) (p : packet.PacketValue) → IsWire w s d frames → slice_get frames k ≡ Some (frame.Data p)
      → IsStable w s p.clock (sends d p.context p.tag p.items)
  pub lines : (r clock : ℕ) (value : ℤ) → IsAmong (lines_of r w.lines) (clock, value) → IsStable w r clock (prints value)
