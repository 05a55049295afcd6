-- What a keeper, the supervisor of a rank, does with the rank's station: life after life
-- (incarnation after incarnation), each begun at the very station that the one before left, with
-- the row that was fetched behind it.
-- Source: fail-stop processors, Schlichting and Schneider 1983; recovery by replay of the
-- determinant log, Alvisi and Marzullo 1998.
use Rattle.std.specs.Prelude.{◌≡◌, ◌≢◌, List, [], ◌∷◌, Some, None}
use Rattle.audit.specs.declared.outcome.End.TheVariants as end
use Rattle.event_logger.specs.Desks.{own_row}
use Rattle.rank_language.specs.Program.{ProgramValue}
use Rattle.rank_node.specs.Phases.{stable_in}
use Rattle.rank_threads.specs.Endings.{IsKilledAt, crashes_by, end_after, stood_after}
use Rattle.rank_threads.specs.Lives.{SamePlace}
use Rattle.rank_threads.specs.Phases.{Begins}
use Rattle.rank_threads.specs.Stations.{HasRow, SameStation}
use Rattle.rank_threads.specs.Used.{UsesLines}
use Rattle.rank_threads.specs.declared.life.ending.Ending.{Ending}
use Rattle.rank_threads.specs.declared.life.Life.{Life}
use Rattle.rank_threads.specs.declared.life.station.Station.{Station}

-- One life of a rank of this program, from one station to another. It begins at the first, with the
-- row, the lines of the script and the counts that this station has. It uses lines that ask for
-- images, and ends by the script's next kill, at that kill's clock, or as the rank leaves. A crash is
-- counted, and nothing else is counted as one. How the rank stood then is noted, how many steps it
-- had made, and whether a limit had stopped it. What is stable outlives it: the shelf with the rank's
-- images, and the events that are stored of it.
pub record IsLife (program : ProgramValue) (old new : Station) : Type 0 where
  pub begun : Life
  pub begins : Begins program old.down old.row begun.node.phase
  pub plan : begun.kit.plan ≡ old.kit.plan
  pub counts : begun.kit.tally ≡ old.kit.tally
  pub ended : Life
  pub same : SamePlace begun ended
  pub how : Ending
  pub lines : UsesLines how begun.kit.plan ended.kit.plan
  pub killed : IsKilledAt how ended.node.phase
  pub leaves : new.end ≡ end_after how ended.kit.tally.is_spent ended.node.phase
  pub left : new.kit.plan ≡ ended.kit.plan
  pub shelf : new.down.shelf ≡ (stable_in ended.node.phase).shelf
  pub stored : own_row new.down.desk ≡ own_row (stable_in ended.node.phase).desk
  pub stands : new.stood ≡ stood_after how ended.node.phase
  pub steps : new.kit.tally.steps ≡ ended.kit.tally.steps
  pub spent : new.kit.tally.is_spent ≡ ended.kit.tally.is_spent
  pub crashes : new.kit.tally.crashes ≡ crashes_by new.end old.kit.tally.crashes

-- A life was lived. Nothing is said if the rank met a fault.
abbrev pub HasLived : ProgramValue → Station → Station → Type 0
HasLived program old new = new.kit.tally.fault ≡ None → IsLife program old new

-- The rank was told to leave, and lives no more: it is unfinished, and all that is counted stays,
-- and how it stood when its last life ended.
pub record IsToldToLeave (old new : Station) : Type 0 where
  pub end : new.end ≡ Some end.Unfinished
  pub plan : new.kit.plan ≡ old.kit.plan
  pub counts : new.kit.tally ≡ old.kit.tally
  pub stands : new.stood ≡ old.stood

-- The lives of a rank of this program, one after another: it was told to leave; or it has a
-- fault, with which its lives end, and which is still there; or it lived without one, and left; or
-- it lived without one and crashed, and its next lives begin at the station that this left, with
-- the row that was fetched.
pub data Lives (program : ProgramValue) : Station → Station → Type 0 where
  told : {old new : Station} → IsToldToLeave old new → Lives program old new
  failed : {old new : Station} → new.kit.tally.fault ≢ None → Lives program old new
  last : {old new : Station} → IsLife program old new → new.kit.tally.fault ≡ None → new.end ≢ None → Lives program old new
  again : {old mid new : Station} → IsLife program old mid → mid.kit.tally.fault ≡ None → mid.end ≡ None → HasRow mid → Lives program mid new
      → Lives program old new

-- A keeper has had this station: rank, desk and lanes are the same, and the rank has lived from it
-- on.
abbrev pub WasKept : ProgramValue → Station → Station → Type 0
WasKept program old new = SameStation old new × Lives program old new

-- so has each of these stations, in the same order
abbrev pub WereKept : ProgramValue → List Station → List Station → Type 0
WereKept program [] [] = Unit {0}
WereKept program [] (y ∷ ys) = ⊥
WereKept program (x ∷ xs) [] = ⊥
WereKept program (x ∷ xs) (y ∷ ys) = WasKept program x y × WereKept program xs ys
