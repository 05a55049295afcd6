-- What recovery has left to do: the loops that find a recovery schedule come to their ends by these
-- measures.
use Rattle.std.specs.Prelude.{◌≡◌, ℕ, zero, suc, ◌+◌, ◌-◌, ◌*◌, ◌<◌, true, List, [], ◌∷◌, length, Option, Some, None, is_none, IsSomeAnd, slice_get}
use Rattle.matching.specs.PacketValue as packet
use Rattle.payload_log.specs.Backlog.{BacklogValue, backlog}
use Rattle.rank_language.specs.Block.{Line, simple_line, if_line, else_line, end_line, while_line, back_line, lines_at}
use Rattle.rank_language.specs.Program.{block_of}
use Rattle.rank_machine.specs.States.{State, inner}
use Rattle.rank_machine.specs.Machine.{MachineValue, state_of, line_at}
use Rattle.rank_node.specs.Frames.{due_to}
use Rattle.rank_node.specs.Node.{first_machine}
use Rattle.crash_free.specs.Runs.{Passed}
use Rattle.bare_world.specs.World.{Rank, Live, WorldValue, IsLive}

-- ---- frames from a rank to another that are put and arrive at once

-- A due Ask stands for itself and for all that is kept: a rank that asks itself has all of that to
-- transmit again.
abbrev pub for_ask : Option ℕ → List packet.PacketValue → ℕ
for_ask None kept = 0
for_ask (Some from) kept = 1 + length kept

-- a due Kept
abbrev pub for_kept : Option ℕ → ℕ
for_kept None = 0
for_kept (Some upto) = 1

-- the packets from the cursor on
abbrev pub to_transmit : BacklogValue → ℕ
to_transmit b = length b.kept - (b.cursor - (b.base + 1))

-- how many frames at most a rank has to put for another
abbrev pub outstanding : Rank → ℕ → ℕ
outstanding v d = for_ask (due_to v d).ask (backlog v.log d).kept + for_kept (due_to v d).kept + to_transmit (backlog v.log d)

-- a rank that is down, and one that isn't there, has none
abbrev pub outstanding_of : Option (Option Live) → ℕ → ℕ
outstanding_of None d = 0
outstanding_of (Some None) d = 0
outstanding_of (Some (Some v)) d = outstanding v.rank d

-- how many frames at most are outgoing from rank s to rank d
abbrev pub outstanding_at : ℕ → ℕ → WorldValue → ℕ
outstanding_at s d w = outstanding_of (slice_get w.ranks s) d

-- ---- steps of a rank to its next act

-- after just so many inner steps a state makes no other: its next act stands, or its end
abbrev pub StopsAfter : ℕ → State → Type 0
StopsAfter zero a = is_none (inner a) ≡ true
StopsAfter (suc k) a = IsSomeAnd (inner a) (λ b. StopsAfter k b)

-- Among n lines, so many steps at most leave a machine's state, one after another, from this line
-- at position p on: an `else` that is reached from above and an `end` lead on, and the `end` of a
-- `while` leads back to it.
abbrev pub hops : ℕ → ℕ → Option Line → ℕ
hops n p None = 0
hops n p (Some (simple_line s)) = 0
hops n p (Some (if_line e q)) = 0
hops n p (Some (else_line q)) = 2 + n - p
hops n p (Some end_line) = 2 + n - p
hops n p (Some (while_line e q)) = 0
hops n p (Some (back_line q)) = 1

-- so many steps of its own a machine makes at most, whose state makes k inner steps: before and
-- after each there are hops
abbrev pub steps_of : ℕ → MachineValue → ℕ
steps_of k m = k * (length m.program.statements + 3) + hops (length m.program.statements) m.position (line_at m)

-- A machine of a program whose lines are those of its tree makes fewer steps of its own than n, and
-- then stands at its next act or at its end.
pub record Nears (n : ℕ) (m : MachineValue) : Type 0 where
  pub inner_steps : ℕ
  pub stops : StopsAfter inner_steps (state_of m)
  pub lines : m.program.statements ≡ lines_at 0 (block_of m.program)
  pub few : steps_of inner_steps m < n

-- the machine of this rank, if it is live, makes fewer steps of its own than n to its next act or
-- its end
abbrev pub RankNears : ℕ → ℕ → WorldValue → Type 0
RankNears n r w = (v : Live) → IsLive w r v → Nears n v.rank.machine

-- the lines of a live rank's program are those of its tree
abbrev pub HasLines : Live → Type 0
HasLines v = v.rank.machine.program.statements ≡ lines_at 0 (block_of v.rank.machine.program)

-- a machine without a program, if no other is at hand
abbrev pub no_machine : MachineValue
no_machine = first_machine (record { statements = []; variables = []; arrays = [] }) 0 0

-- the machine of a rank, if it is live
abbrev pub machine_of : Option (Option Live) → MachineValue
machine_of None = no_machine
machine_of (Some None) = no_machine
machine_of (Some (Some v)) = v.rank.machine

-- the machine of the rank that made the newest of these acts
abbrev pub machine_of_newest : WorldValue → List Passed → MachineValue
machine_of_newest w [] = no_machine
machine_of_newest w (p ∷ C) = machine_of (slice_get w.ranks p.rank)
