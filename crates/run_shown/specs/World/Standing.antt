-- What is read of a rank at work, by its own calls: its machine, its inbox and its payload log, and
-- what waits at its gate (sender-based message logging: Johnson and Zwaenepoel 1987; output commit:
-- Elnozahy, Alvisi, Wang and Johnson 2002).
use Rattle.std.specs.Prelude.{◌≡◌, ℕ, List, [], Option, None, IsSomeAnd}
use Rattle.checkpoint.specs.declared.memory_shelf.MemoryShelf.{MemoryShelf}
use Rattle.rank_node.specs.Node.{Node}
use Rattle.rank_node.specs.declared.phase.Phase.{Phase}
use Rattle.rank_node.specs.declared.phase.Phase.TheVariants as phase
use Rattle.rank_node.specs.declared.waiting.Waiting.{Waiting}
use Rattle.run_shown.specs.declared.world.standing.RankAtWork.{RankAtWork}

-- a rank with a shelf in memory, and no desk
abbrev pub Rank : Type 0
Rank = Node MemoryShelf (Unit {0})

-- What is read is the rank's own machine, clock, inbox and payload log. This waits at its gate, and
-- so many of the first are stored.
pub record IsRead (v : Rank) (pending : List Waiting) (events : ℕ) (s : RankAtWork) : Type 0 where
  pub machine : s.machine.now ≡ v.machine
  pub clock : s.clock ≡ v.clock
  pub inbox : s.inbox.now ≡ v.inbox
  pub log : s.log.now ≡ v.log
  pub waiting : s.waiting.items ≡ pending
  pub stored : s.stored ≡ events

-- what is read of a rank, whatever it does: of one that runs what waits at its gate too, of one that
-- replays that nothing waits, and nothing of one that is down
abbrev pub IsReadOf : Phase MemoryShelf (Unit {0}) → Option RankAtWork → Type 0
IsReadOf (phase.Running v) read = IsSomeAnd read (IsRead v v.pending v.stored)
IsReadOf (phase.Replaying r) read = IsSomeAnd read (IsRead r.node [] 0)
IsReadOf (phase.Down s) read = read ≡ None
