-- A rank at its seat, whose scheduler goes on with it turn by turn: in a life (an incarnation) that
-- goes on, between two, or behind its last one.
-- Source: coroutines, Conway 1963; simulation of a distributed system by one thread that a seed
-- decides, Zhou et al. 2021, "FoundationDB: A Distributed Unbundled Transactional Key Value Store".
use Rattle.std.specs.Prelude.{◌≡◌, ℕ, ◌<◌, Bool, true, false, List, [], ◌∷◌, length, slice_index_or}
use Rattle.rank_language.specs.Program.{ProgramValue}
use Rattle.rank_node.specs.Phases.{settled_in, stable_in}
use Rattle.rank_text.specs.declared.script.line.ScriptLine.{ScriptLine}
use Rattle.rank_threads.specs.Endings.{IsKilledAt, crashes_after, end_after, is_at_rest, stood_after}
use Rattle.rank_threads.specs.Keeping.{HasLived, Lives, WereKept}
use Rattle.rank_threads.specs.Lives.{SameLife}
use Rattle.rank_threads.specs.Phases.{Begins, Phase}
use Rattle.rank_threads.specs.Stations.{IsLifeOf, SameStation}
use Rattle.rank_threads.specs.Used.{MayUseImage, UsesImages, UsesKill}
use Rattle.rank_threads.specs.declared.life.ending.Ending.{Ending}
use Rattle.rank_threads.specs.declared.life.ending.Ending.TheVariants as ending
use Rattle.rank_threads.specs.declared.life.living.TurnEnd.{TurnEnd}
use Rattle.rank_threads.specs.declared.life.living.TurnEnd.TheVariants as turn
use Rattle.rank_threads.specs.declared.life.Life.{Life}
use Rattle.rank_threads.specs.declared.life.seat.Seat.{Seat}
use Rattle.rank_threads.specs.declared.life.seat.Seat.TheVariants as seat
use Rattle.rank_threads.specs.declared.life.station.Station.{Station}

-- One life of a rank of this program, as it goes on. It began at this station, with the row, the lines
-- of the script and the counts that the station has. It has used lines that ask for images, and no
-- crash was counted in it.
pub record IsLiving (program : ProgramValue) (old : Station) (life : Life) : Type 0 where
  pub begun : Life
  pub begins : Begins program old.down old.row begun.node.phase
  pub plan : begun.kit.plan ≡ old.kit.plan
  pub counts : begun.kit.tally ≡ old.kit.tally
  pub place : IsLifeOf old begun
  pub same : SameLife begun life
  pub lines : UsesImages begun.kit.plan life.kit.plan

-- The rank of this station, as it was between two lives, is at this seat: its next life hasn't begun,
-- or goes on, or is over, or the rank lives no more.
abbrev pub IsSeat : ProgramValue → Station → Seat → Type 0
IsSeat program old (seat.Between s) = s ≡ old
IsSeat program old (seat.Living life) = IsLiving program old life
IsSeat program old (seat.Over s) = SameStation old s × HasLived program old s
IsSeat program old (seat.Gone s) = SameStation old s × Lives program old s
IsSeat program old seat.Empty = ⊥

-- whoever was at this seat still is, in the same life or behind it
abbrev pub KeepsSeat : ProgramValue → Seat → Seat → Type 0
KeepsSeat program a b = (old : Station) → IsSeat program old a → IsSeat program old b

-- lives from this station on are lives from that one on, behind those so far
abbrev pub LeadsTo : ProgramValue → Station → Station → Type 0
LeadsTo program first now = (end : Station) → Lives program now end → Lives program first end

-- The rank that was first at this station is at this seat: it has lived from there on, life after
-- life, and stood between two of them as the seat says.
pub record IsSeated (program : ProgramValue) (first : Station) (s : Seat) : Type 0 where
  pub old : Station
  pub same : SameStation first old
  pub led : LeadsTo program first old
  pub here : IsSeat program old s

-- whoever was at this seat still is, whichever life it is in
abbrev pub MovesOn : ProgramValue → Seat → Seat → Type 0
MovesOn program a b = (first : Station) → IsSeated program first a → IsSeated program first b

-- The ranks that were first at these stations are at these seats, in the same order, except for
-- those of the last stations, which were kept already.
abbrev pub AreSeatedBut : ProgramValue → List Station → List Seat → List Station → Type 0
AreSeatedBut program [] [] kept = WereKept program [] kept
AreSeatedBut program [] (s ∷ ss) kept = ⊥
AreSeatedBut program (x ∷ xs) [] kept = WereKept program (x ∷ xs) kept
AreSeatedBut program (x ∷ xs) (s ∷ ss) kept = IsSeated program x s × AreSeatedBut program xs ss kept

-- the ranks that were first at these stations are at these seats, in the same order
abbrev pub AreSeated : ProgramValue → List Station → List Seat → Type 0
AreSeated program firsts seats = AreSeatedBut program firsts seats []

-- the rank at this seat is in a life
abbrev pub is_living : Seat → Bool
is_living (seat.Between s) = false
is_living (seat.Living life) = true
is_living (seat.Over s) = false
is_living (seat.Gone s) = false
is_living seat.Empty = false

-- its life is over
abbrev pub is_over : Seat → Bool
is_over (seat.Between s) = false
is_over (seat.Living life) = false
is_over (seat.Over s) = true
is_over (seat.Gone s) = false
is_over seat.Empty = false

-- it lives no more
abbrev pub is_gone : Seat → Bool
is_gone (seat.Between s) = false
is_gone (seat.Living life) = false
is_gone (seat.Over s) = false
is_gone (seat.Gone s) = true
is_gone seat.Empty = false

-- none of these ranks lives any more
abbrev pub AreGone : List Seat → Type 0
AreGone seats = (at : ℕ) (other : Seat) → at < length seats → is_gone (slice_index_or seats at other) ≡ true

-- a rank in a life has nothing left to settle
abbrev pub SeatIsSettled : Seat → Type 0
SeatIsSettled (seat.Between s) = Unit {0}
SeatIsSettled (seat.Living life) = settled_in life.node.phase ≡ life.node.phase
SeatIsSettled (seat.Over s) = Unit {0}
SeatIsSettled (seat.Gone s) = Unit {0}
SeatIsSettled seat.Empty = Unit {0}

-- a life that is over by a turn that ended so is over by a kill of the clock at which the rank
-- stands, or not by one
abbrev pub IsOverAt : TurnEnd → Phase → Type 0
IsOverAt (turn.On is_idle) p = Unit {0}
IsOverAt (turn.Over how) p = IsKilledAt how p

-- the life that goes on at this seat may be over by this ending: the rank stands at the clock of a
-- kill
abbrev pub MayEnd : Ending → Seat → Type 0
MayEnd how (seat.Between s) = ⊥
MayEnd how (seat.Living life) = IsKilledAt how life.node.phase
MayEnd how (seat.Over s) = ⊥
MayEnd how (seat.Gone s) = ⊥
MayEnd how seat.Empty = ⊥

-- A life is over by this ending, and left this station: how the rank left and how it stood then are
-- noted, and what is stable, the lines that are left and the counts are those of the life.
pub record LeftBehind (how : Ending) (life : Life) (s : Station) : Type 0 where
  pub end : s.end ≡ end_after how life.kit.tally.is_spent life.node.phase
  pub stood : s.stood ≡ stood_after how life.node.phase
  pub down : s.down ≡ stable_in life.node.phase
  pub plan : s.kit.plan ≡ life.kit.plan
  pub tally : s.kit.tally ≡ life.kit.tally
  pub same : IsLifeOf s life

-- the rank is at this seat behind a life that ended so
abbrev pub IsBehind : Ending → Life → Seat → Type 0
IsBehind how life (seat.Between s) = ⊥
IsBehind how life (seat.Living other) = ⊥
IsBehind how life (seat.Over s) = LeftBehind how life s
IsBehind how life (seat.Gone s) = ⊥
IsBehind how life seat.Empty = ⊥

-- the life that went on at this seat is over by this ending
abbrev pub EndsAt : Ending → Seat → Seat → Type 0
EndsAt how (seat.Between s) b = ⊥
EndsAt how (seat.Living life) b = IsBehind how life b
EndsAt how (seat.Over s) b = ⊥
EndsAt how (seat.Gone s) b = ⊥
EndsAt how seat.Empty b = ⊥

-- what the last turn of a life uses
abbrev pub UsesLast : Ending → List ScriptLine → List ScriptLine → Type 0
UsesLast (ending.Crashed killed) old new = UsesKill old new killed.at
UsesLast (ending.Left reason) old new = MayUseImage old new

-- what a turn uses that ended so
abbrev pub UsesBy : TurnEnd → List ScriptLine → List ScriptLine → Type 0
UsesBy (turn.On is_idle) old new = MayUseImage old new
UsesBy (turn.Over how) old new = UsesLast how old new

-- how often a rank has crashed, after a turn that ended so
abbrev pub crashes_in : TurnEnd → ℕ → ℕ
crashes_in (turn.On is_idle) crashes = crashes
crashes_in (turn.Over how) crashes = crashes_after how crashes

-- the rank left by this turn since all are at rest
abbrev pub rests : TurnEnd → Bool
rests (turn.On is_idle) = false
rests (turn.Over how) = is_at_rest how
