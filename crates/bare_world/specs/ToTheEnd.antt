-- No dead end, up to the program's end: whatever crashed, events of which none is a crash make the
-- run of a world longer as long as some act may follow it within the limits, and so lead to the end
-- of the program if each continuation of the run comes to an end within them.
use Rattle.std.specs.Prelude.{◌≡◌, ℕ, ◌<◌, ◌≤◌, ◌⊎◌, List, [], ◌∷◌, ◌++◌, length, Some, slice_get}
use Rattle.limits.specs.Limits.{greatest_clock, most_events}
use Rattle.rank_machine.specs.States.{State}
use Rattle.rank_machine.specs.Acts.{Act}
use Rattle.rank_node.specs.declared.frame.Frame.{Frame}
use Rattle.rank_node.specs.declared.frame.Frame.TheVariants as frame
use Rattle.crash_free.specs.Runs.{Passed, history, IsRun}
use Rattle.audit.specs.FinalRuns.Maximal.{MayFollow, IsMaximal}
use Rattle.bare_world.specs.declared.event.WorldEvent.{WorldEvent}
use Rattle.bare_world.specs.declared.event.WorldEvent.TheVariants.{Step, Put, Arrive, Store, Ack, Image, Crash, Restart, Release}
use Rattle.bare_world.specs.declared.reply.Reply.{Reply}
use Rattle.bare_world.specs.Rows.{row}
use Rattle.bare_world.specs.Headline.{StandsFor}
use Rattle.bare_world.specs.World.{Live, WorldValue, size, start_of, IsLive, IsDown, IsWire}
use Rattle.bare_world.specs.Follows.{CanNot, Happens}
use Rattle.bare_world.specs.Onward.{Asked}
use Rattle.bare_world.specs.Way.{MayHappen}
use Rattle.bare_world.specs.Driven.{Alike}

-- the event is no crash
abbrev pub IsNoCrash : WorldEvent → Type 0
IsNoCrash (Step r) = Unit {0}
IsNoCrash (Put s d) = Unit {0}
IsNoCrash (Arrive s d i) = Unit {0}
IsNoCrash (Store r) = Unit {0}
IsNoCrash (Ack r) = Unit {0}
IsNoCrash (Image r) = Unit {0}
IsNoCrash (Crash r) = ⊥
IsNoCrash (Restart r) = Unit {0}
IsNoCrash (Release r) = Unit {0}

-- these events, none of which is a crash, can happen one after another, and lead from one world to
-- another
abbrev pub Leads : WorldValue → List WorldEvent → WorldValue → Type 0
Leads w [] w' = w' ≡ w
Leads w (event ∷ events) w' =
    IsNoCrash event × (CanNot w event → ⊥) × ((answer : Reply) × (mid : WorldValue) × Happens w event answer mid × Leads mid events w')

-- What rank s sent to rank d may be lost: d has crashed, so it is down, or has asked s for
-- retransmissions.
abbrev pub MayBeLost : WorldValue → ℕ → ℕ → Type 0
MayBeLost w s d = IsDown w d ⊎ ((v : Live) × IsLive w d v × Asked w d v s)

-- The event is no crash, and needs nothing that may be lost at the start: a frame that arrives came
-- on its wire after the start, or is an Ask, or goes to a rank that hasn't asked its sender.
abbrev pub NeedsNothingLost : WorldValue → WorldValue → WorldEvent → Type 0
NeedsNothingLost start w (Step r) = Unit {0}
NeedsNothingLost start w (Put s d) = Unit {0}
NeedsNothingLost start w (Arrive s d i) =
    (f : Frame) (frames old : List Frame) → IsWire w s d frames → slice_get frames i ≡ Some f → IsWire start s d old
    → (length old ≤ i) ⊎ (((n : ℕ) × (f ≡ frame.Ask n)) ⊎ (MayBeLost start s d → ⊥))
NeedsNothingLost start w (Store r) = Unit {0}
NeedsNothingLost start w (Ack r) = Unit {0}
NeedsNothingLost start w (Image r) = Unit {0}
NeedsNothingLost start w (Crash r) = ⊥
NeedsNothingLost start w (Restart r) = Unit {0}
NeedsNothingLost start w (Release r) = Unit {0}

-- Whatever course these events take from a world, each may happen when it comes, is no crash and
-- needs nothing that may be lost at the start, and of the world at the end this holds.
abbrev pub OnEachCourse : WorldValue → (WorldValue → Type 0) → WorldValue → List WorldEvent → Type 0
OnEachCourse start Holds w [] = Holds w
OnEachCourse start Holds w (event ∷ events) =
    NeedsNothingLost start w event × MayHappen w event
    × ((answer : Reply) (mid : WorldValue) → Happens w event answer mid → OnEachCourse start Holds mid events)

-- each rank has made fewer acts in this run, and fewer of them receptions, hits and misses, than
-- one may
abbrev pub IsWithin : List Passed → Type 0
IsWithin C = (r : ℕ) → (length (history C r) < greatest_clock) × (length (row C r) < most_events)

-- Each continuation of this run comes to an end: the run is maximal, or some act may follow it, and
-- after each that may each continuation comes to an end.
pub data AllEnd (start : ℕ → State) (n : ℕ) : List Passed → Type 0 where
  ends : {C : List Passed} → IsMaximal start n C → AllEnd start n C
  on : {C : List Passed} (r : ℕ) (act : Act) → MayFollow start n C r act
      → ((q : ℕ) (a : Act) → MayFollow start n C q a → AllEnd start n (record { rank = q; act = a } ∷ C)) → AllEnd start n C

-- each run that goes on from this one is within the limits, as long as some act may follow it
abbrev pub StaysWithin : (ℕ → State) → ℕ → List Passed → Type 0
StaysWithin start n C =
    (late : List Passed) (r : ℕ) (act : Act) → IsRun start n (late ++ C) → MayFollow start n (late ++ C) r act → IsWithin (late ++ C)

-- Every rank is live, has nothing left to replay, nothing unstored, unacknowledged or unreleased,
-- and has made exactly its acts of the run.
abbrev pub IsSettled : WorldValue → Type 0
IsSettled w = (r : ℕ) → r < size w
    → (v : Live) × IsLive w r v × (v.left ≡ []) × (v.rank.pending ≡ []) × (v.rank.clock ≡ length (history w.run r))

-- the run is the other, and at least one act more
abbrev pub IsLonger : List Passed → List Passed → Type 0
IsLonger C D = (p : Passed) × (late : List Passed) × (D ≡ p ∷ late ++ C)

-- the world stands for its run, and is the same as the other except for the shelves themselves,
-- whose images are the same, and the logger's history
abbrev pub StandsAs : WorldValue → WorldValue → Type 0
StandsAs after w = Alike after w × StandsFor w w.run

-- By events of which none is a crash the run gets longer: the world stands for one that goes on
-- from it, and comes to the same whatever course the events take.
pub record CanGoOn (w : WorldValue) : Type 0 where
  pub events : List WorldEvent
  pub after : WorldValue
  pub leads : Leads w events after
  pub longer : IsLonger w.run after.run
  pub stands : StandsFor after after.run
  pub always : OnEachCourse w (StandsAs after) w events

-- if the run is within the limits, and some act may follow it, the world can go on
abbrev pub GoesOn : WorldValue → Type 0
GoesOn w = IsWithin w.run → (r : ℕ) (act : Act) → MayFollow (start_of w) (size w) w.run r act → CanGoOn w

-- The world has come to its end: it stands for its run, no act may follow that, and every rank is
-- settled.
pub record HasEnded (w : WorldValue) : Type 0 where
  pub stands : StandsFor w w.run
  pub maximal : IsMaximal (start_of w) (size w) w.run
  pub settled : IsSettled w

-- the world has ended, and is the same as the other except for the shelves themselves, whose images
-- are the same, and the logger's history
abbrev pub EndsAs : WorldValue → WorldValue → Type 0
EndsAs after w = Alike after w × HasEnded w

-- By events of which none is a crash the world comes to its end: the same program on as many ranks
-- has ended, with a run that goes on from the world's own. Whatever course the events take, it
-- comes to the same end.
pub record CanEnd (w : WorldValue) : Type 0 where
  pub events : List WorldEvent
  pub after : WorldValue
  pub leads : Leads w events after
  pub program : after.program ≡ w.program
  pub as_many : size after ≡ size w
  pub late : List Passed
  pub later : after.run ≡ late ++ w.run
  pub ended : HasEnded after
  pub always : OnEachCourse w (EndsAs after) w events

-- if each continuation of the run comes to an end, and stays within the limits, the world can come
-- to its end
abbrev pub ComesToTheEnd : WorldValue → Type 0
ComesToTheEnd w = AllEnd (start_of w) (size w) w.run → StaysWithin (start_of w) (size w) w.run → CanEnd w
