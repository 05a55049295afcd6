-- A world that is played to the end: which events it was led through, and what it has come to.
use Rattle.std.specs.Prelude.{◌≡◌, ℕ, zero, suc, ◌+◌, ◌<◌, ◌≤◌, ◌⊎◌, ◌==◌, if◌then◌else◌, Bool, true, false, List, [], ◌∷◌, ◌++◌, length, Some, slice_get}
use Rattle.matching.specs.Inbox.{Mailbox, accepted_from}
use Rattle.matching.specs.PacketValue as packet
use Rattle.rank_node.specs.declared.frame.Frame.{Frame}
use Rattle.rank_node.specs.declared.frame.Frame.TheVariants as frame
use Rattle.rank_node.specs.declared.fault.NodeFault.{NodeFault}
use Rattle.rank_node.specs.declared.turn.Turn.{Turn}
use Rattle.rank_node.specs.declared.turn.Turn.TheVariants as turn
use Rattle.rank_node.specs.Steps.{turn_of, refusal_of}
use Rattle.crash_free.specs.Runs.{Passed, history, sent}
use Rattle.bare_world.specs.declared.event.WorldEvent.{WorldEvent}
use Rattle.bare_world.specs.declared.event.WorldEvent.TheVariants.{Step, Put, Arrive, Store, Ack, Image, Crash, Restart, Release}
use Rattle.bare_world.specs.declared.finish.FinishEnd.{FinishEnd}
use Rattle.bare_world.specs.declared.finish.FinishEnd.TheVariants as finish
use Rattle.bare_world.specs.declared.reply.Reply.{Reply}
use Rattle.bare_world.specs.declared.reply.Reply.TheVariants as reply
use Rattle.bare_world.specs.World.{Rank, Live, WorldValue, size, IsLive}
use Rattle.bare_world.specs.Follows.{Follows}
use Rattle.bare_world.specs.Memory.{Fetched}
use Rattle.bare_world.specs.ToTheEnd.{Leads, HasEnded}
use Rattle.bare_world.specs.Wires.{wire_of}

-- ---- ranks at rest

-- no step of the machine comes next, nor one that the gate holds up: the program has ended, or
-- stands at a receive or a blocking probe that nothing in the inbox answers
abbrev pub is_idle : Turn → Bool
is_idle turn.Moved = false
is_idle turn.Blocked = true
is_idle turn.Held = false
is_idle turn.Ended = true

-- A rank is quiet: it is live, has nothing left to replay, nothing waits at its gate, it has made
-- exactly its acts of the run, and it is idle.
pub record IsQuiet (w : WorldValue) (r : ℕ) : Type 0 where
  pub rank : Live
  pub live : IsLive w r rank
  pub left : rank.left ≡ []
  pub none : rank.rank.pending ≡ []
  pub made : rank.rank.clock ≡ length (history w.run r)
  pub idle : is_idle (turn_of rank.rank) ≡ true

-- A rank at work with this value is quiet: nothing waits at its gate, it has made exactly its acts
-- of the run, and it is idle.
pub record IsQuietAs (C : List Passed) (r : ℕ) (v : Rank) : Type 0 where
  pub none : v.pending ≡ []
  pub made : v.clock ≡ length (history C r)
  pub idle : is_idle (turn_of v) ≡ true

-- in this inbox was accepted all that was sent to a rank in the run
abbrev pub HearsAll : WorldValue → ℕ → Mailbox → Type 0
HearsAll w r box = (s : ℕ) → s < size w → length (sent w.run s r) ≤ accepted_from box s

-- a rank has accepted all that another sent to it in the run
abbrev pub HasHeard : WorldValue → ℕ → ℕ → Type 0
HasHeard w s d = (v : Live) → IsLive w d v → length (sent w.run s d) ≤ accepted_from v.rank.inbox s

-- a rank is at rest: it is quiet, and has accepted all that was sent to it in the run
abbrev pub RestsAt : WorldValue → ℕ → Type 0
RestsAt w r = IsQuiet w r × ((s : ℕ) → s < size w → HasHeard w s r)

-- every rank is at rest
abbrev pub AllRest : WorldValue → Type 0
AllRest w = (r : ℕ) → r < size w → RestsAt w r

-- This rank isn't at rest, and those of lower numbers are.
pub record IsFirstRestless (w : WorldValue) (r : ℕ) : Type 0 where
  pub is_rank : r < size w
  pub restless : RestsAt w r → ⊥
  pub first : (q : ℕ) → q < r → RestsAt w q

-- A rank replays nothing, and its next act is refused by this name: its clock or its events are
-- used up.
pub record IsSpent (w : WorldValue) (r : ℕ) (fault : NodeFault) : Type 0 where
  pub rank : Live
  pub live : IsLive w r rank
  pub left : rank.left ≡ []
  pub refused : refusal_of rank.rank ≡ Some fault

-- no rank is spent
abbrev pub IsNowhereSpent : WorldValue → Type 0
IsNowhereSpent w = (r : ℕ) → r < size w → (fault : NodeFault) → IsSpent w r fault → ⊥

-- ---- the events

-- an event with this reply leaves the world as it was: it is refused, or a step that is blocked or
-- held or comes after the end, or a packet that was accepted before or comes over a gap
abbrev pub leaves_all : Reply → Bool
leaves_all reply.Refused = true
leaves_all reply.Moved = false
leaves_all reply.Blocked = true
leaves_all reply.Held = true
leaves_all reply.Ended = true
leaves_all (reply.PutData index number) = false
leaves_all (reply.PutAsk index from) = false
leaves_all (reply.PutKept index upto) = false
leaves_all reply.Accepted = false
leaves_all reply.Repeated = true
leaves_all reply.Gap = true
leaves_all reply.Noted = false
leaves_all (reply.Stored count) = false
leaves_all reply.Acked = false
leaves_all reply.Imaged = false
leaves_all reply.Crashed = false
leaves_all (reply.Restarted count) = false
leaves_all (reply.Released clock) = false

-- one, if the event is a step of this rank
abbrev pub step_of : ℕ → WorldEvent → ℕ
step_of r (Step q) = if q == r then 1 else 0
step_of r (Put s d) = 0
step_of r (Arrive s d i) = 0
step_of r (Store q) = 0
step_of r (Ack q) = 0
step_of r (Image q) = 0
step_of r (Crash q) = 0
step_of r (Restart q) = 0
step_of r (Release q) = 0

-- how many steps of a rank are among these events
abbrev pub steps_in : ℕ → List WorldEvent → ℕ
steps_in r [] = 0
steps_in r (event ∷ events) = step_of r event + steps_in r events

-- where memory was refused: these events led to a world that is left as it was, except that the
-- fetch of one restart more may stay in the logger's history
abbrev pub LeadsAlmost : WorldValue → List WorldEvent → WorldValue → Type 0
LeadsAlmost w events w' = (mid : WorldValue) × Leads w events mid × ((w' ≡ mid) ⊎ ((r : ℕ) × Fetched mid r w'))

-- these events, none of which is a crash, happened one after another, and led from one world to
-- another; if memory ran out, one restart more may have left its fetch in the logger's history
abbrev pub LeadsTo : WorldValue → List WorldEvent → FinishEnd → WorldValue → Type 0
LeadsTo w events finish.Ended w' = Leads w events w'
LeadsTo w events (finish.OutOfRounds r) w' = Leads w events w'
LeadsTo w events (finish.Spent r fault) w' = Leads w events w'
LeadsTo w events finish.OutOfMemory w' = LeadsAlmost w events w'

-- the world is of the same program and as many ranks, and its run goes on from the other's
pub record IsAfter (w w' : WorldValue) : Type 0 where
  pub program : w'.program ≡ w.program
  pub as_many : size w' ≡ size w
  pub late : List Passed
  pub later : w'.run ≡ late ++ w.run

-- ---- rounds

-- the event was tried in vain: by its reply it left the world as it is
abbrev pub IsInVain : WorldValue → WorldEvent → Type 0
IsInVain w event = (answer : Reply) × (leaves_all answer ≡ true) × Follows w event answer w

-- A rank has its turn among events that lead from one world to another: a step of it is one of
-- them, or was tried in vain before the first of them, between two, or after the last.
pub record HasTurn (r : ℕ) (w : WorldValue) (events : List WorldEvent) (w' : WorldValue) : Type 0 where
  pub before : List WorldEvent
  pub after : List WorldEvent
  pub whole : events ≡ before ++ after
  pub mid : WorldValue
  pub leads : Leads w before mid
  pub leads_on : Leads mid after w'
  pub turn : ((later : List WorldEvent) × (after ≡ Step r ∷ later)) ⊎ IsInVain mid (Step r)

-- These events are a round: something happens, and each rank has its turn, and makes one step at
-- most.
pub record IsRound (w : WorldValue) (events : List WorldEvent) (w' : WorldValue) : Type 0 where
  pub some : 1 ≤ length events
  pub leads : Leads w events w'
  pub turns : (r : ℕ) → r < size w → HasTurn r w events w'
  pub few : (r : ℕ) → steps_in r events ≤ 1

-- these events are so many rounds, one after another
abbrev pub AreRounds : ℕ → WorldValue → List WorldEvent → WorldValue → Type 0
AreRounds zero w events w' = (events ≡ []) × (w' ≡ w)
AreRounds (suc n) w events w' =
    (early : List WorldEvent) × (last : List WorldEvent) × (mid : WorldValue) × (events ≡ early ++ last)
    × AreRounds n w early mid × IsRound mid last w'

-- what the answer says of the world, which so many rounds at most and these events led to from
-- another: it has ended, and no rank has a step left; the events are those of all rounds, and this
-- rank is the first that isn't at rest; or the next act of this rank is refused by name
abbrev pub ComesTo : WorldValue → WorldValue → ℕ → List WorldEvent → FinishEnd → Type 0
ComesTo start w rounds events finish.Ended = HasEnded w × AllRest w
ComesTo start w rounds events (finish.OutOfRounds r) = AreRounds rounds start events w × IsFirstRestless w r
ComesTo start w rounds events (finish.Spent r fault) = IsSpent w r fault
ComesTo start w rounds events finish.OutOfMemory = Unit {0}

-- ---- a round that has nothing to do

-- a rank starts again in vain, and makes a step in vain
abbrev pub StepsInVain : ℕ → WorldValue → Type 0
StepsInVain r w = IsInVain w (Restart r) × IsInVain w (Step r)

-- at a rank's gate a store, an acknowledgment and a release are tried in vain
abbrev pub OpensInVain : ℕ → WorldValue → Type 0
OpensInVain r w = IsInVain w (Store r) × IsInVain w (Ack r) × IsInVain w (Release r)

-- what goes next from a rank to another is put in vain
abbrev pub PutsInVain : ℕ → ℕ → WorldValue → Type 0
PutsInVain s d w = IsInVain w (Put s d)

-- the frame of this index on the wire from a rank to another, if it is a packet, arrives in vain
abbrev pub ArrivesInVain : ℕ → ℕ → ℕ → WorldValue → Type 0
ArrivesInVain s d i w = (p : packet.PacketValue) → slice_get (wire_of w.wires s d) i ≡ Some (frame.Data p) → IsInVain w (Arrive s d i)

-- so for each number below k
abbrev pub EachBelow : ℕ → (ℕ → WorldValue → Type 0) → WorldValue → Type 0
EachBelow k Holds w = (r : ℕ) → r < k → Holds r w

-- so for each rank
abbrev pub ForEach : (ℕ → WorldValue → Type 0) → WorldValue → Type 0
ForEach Holds w = EachBelow (size w) Holds w

-- so for each rank with each, be they one
abbrev pub ForEachTwo : (ℕ → ℕ → WorldValue → Type 0) → WorldValue → Type 0
ForEachTwo Holds w = ForEach (λ s. ForEach (Holds s)) w

-- every packet on the wire from a rank to another arrives in vain
abbrev pub FindsInVain : ℕ → ℕ → WorldValue → Type 0
FindsInVain s d w = EachBelow (length (wire_of w.wires s d)) (ArrivesInVain s d) w

-- The world is still: whatever a round tries, it tries in vain.
pub record IsStill (w : WorldValue) : Type 0 where
  pub steps : ForEach StepsInVain w
  pub gates : ForEach OpensInVain w
  pub puts : ForEachTwo PutsInVain w
  pub packets : ForEachTwo FindsInVain w

-- ---- on the way, for the calls that play

-- the longer list has so many more steps of each rank at most
abbrev pub HasMoreSteps : (ℕ → ℕ) → List WorldEvent → List WorldEvent → Type 0
HasMoreSteps more events events' = (r : ℕ) → steps_in r events' ≤ steps_in r events + more r

-- what is new on the longer list leads from the one world to the other
unfoldable pub HasLed : WorldValue → List WorldEvent → WorldValue → List WorldEvent → Type 0
HasLed w events w' events' = (late : List WorldEvent) × (events' ≡ events ++ late) × Leads w late w'

-- The world was played on: there are as many ranks, and what led to the one world leads to the
-- other by the longer list, which has so many more steps of each rank at most.
pub record Played (more : ℕ → ℕ) (w : WorldValue) (events : List WorldEvent) (w' : WorldValue) (events' : List WorldEvent) : Type 0 where
  pub same_size : size w' ≡ size w
  pub leads : (start : WorldValue) → Leads start events w → Leads start events' w'
  pub steps : HasMoreSteps more events events'
  pub led : HasLed w events w' events'

-- The same where memory was refused.
pub record PlayedAlmost (more : ℕ → ℕ) (w : WorldValue) (events : List WorldEvent) (w' : WorldValue) (events' : List WorldEvent) : Type 0 where
  pub leads : (start : WorldValue) → Leads start events w → LeadsAlmost start events' w'
  pub steps : HasMoreSteps more events events'

-- Where the list got no longer nothing happened: the world is as it was, and this holds of it.
pub record Tried (Holds : WorldValue → Type 0) (w : WorldValue) (events : List WorldEvent) (w' : WorldValue) (events' : List WorldEvent) : Type 0 where
  pub longer : length events ≤ length events'
  pub quiet : length events' ≤ length events → (w' ≡ w) × Holds w'

-- a rank had its turn in what is new
unfoldable pub HadTurn : ℕ → WorldValue → List WorldEvent → WorldValue → List WorldEvent → Type 0
HadTurn r w events w' events' = (late : List WorldEvent) × (events' ≡ events ++ late) × HasTurn r w late w'

-- so had each rank
abbrev pub HadTurns : WorldValue → List WorldEvent → WorldValue → List WorldEvent → Type 0
HadTurns w events w' events' = (r : ℕ) → r < size w → HadTurn r w events w' events'

-- what is new is a round
unfoldable pub HadRound : WorldValue → List WorldEvent → WorldValue → List WorldEvent → Type 0
HadRound w events w' events' = (late : List WorldEvent) × (events' ≡ events ++ late) × IsRound w late w'

-- what is new are so many rounds
unfoldable pub HadRounds : ℕ → WorldValue → List WorldEvent → WorldValue → List WorldEvent → Type 0
HadRounds n w events w' events' = (late : List WorldEvent) × (events' ≡ events ++ late) × AreRounds n w late w'

-- the event goes last on the list and happens, or it was tried in vain
unfoldable pub IsTaken : WorldEvent → WorldValue → List WorldEvent → WorldValue → List WorldEvent → Type 0
IsTaken event w events w' events' =
    (Leads w (event ∷ []) w' × (events' ≡ events ++ event ∷ [])) ⊎ ((w' ≡ w) × (events' ≡ events) × IsInVain w event)

-- one for each rank below k
abbrev pub below : ℕ → ℕ → ℕ
below zero r = 0
below (suc k) r = (if k == r then 1 else 0) + below k r

-- so many for each rank
abbrev pub for_all : ℕ → ℕ → ℕ
for_all k r = k

-- none
abbrev pub no_steps : ℕ → ℕ
no_steps r = 0
