-- The image, or checkpoint, of a rank, as those that take one and begin at one see it
-- (uncoordinated checkpoints: Elnozahy, Alvisi, Wang and Johnson 2002, "A Survey of
-- Rollback-Recovery Protocols in Message-Passing Systems", section 2).
use Rattle.std.specs.Prelude.{ℕ, ◌+◌, Bool, ◌&&◌, List, [], length, map, ℤ, nat_lt, ◌==◌, Option}
use Rattle.matching.specs.Inbox.{Mailbox}
use Rattle.payload_log.specs.Backlog.{BacklogValue}
use Rattle.rank_language.specs.Program.{ProgramValue}
use Rattle.rank_machine.specs.declared.fault.MachineFault.{MachineFault}
use Rattle.rank_machine.specs.declared.status.Status.{Status}
use Rattle.rank_machine.specs.Collectives.{CollectiveCall}
use Rattle.rank_machine.specs.Machine.{MachineValue, line_at, call_at, stages, gathers}

-- what an image says: the machine, the clock of the last act, the inbox with what was accepted, and
-- the payload log; nothing waits in it, and it has no cursors but those right after the base
pub record ImageValue : Type 0 where
  pub machine : MachineValue
  pub clock : ℕ
  pub inbox : Mailbox
  pub log : List BacklogValue

-- what is kept for a destination, to be transmitted from its beginning; nothing is held in an image
abbrev pub rewound : BacklogValue → BacklogValue
rewound b = record b { cursor = b.base + 1; held = [] }

-- the image as it is read again: of cursors it says nothing
abbrev pub at_rest : ImageValue → ImageValue
at_rest i = record i { log = map rewound i.log }

-- Where a machine stands: its position, the acts done in the collective there, the fault that an
-- act left, the values gathered there, and how many collectives it has finished.
pub record MachineStanding : Type 0 where
  pub position : ℕ
  pub done : ℕ
  pub fault : Option MachineFault
  pub gathered : List ℤ
  pub finished : ℕ

-- where it stands
abbrev pub standing_of : MachineValue → MachineStanding
standing_of m = record {
  position = m.position;
  done = m.store.done;
  fault = m.fault;
  gathered = m.store.gathered;
  finished = m.store.finished;
}

-- the collective at a machine's position, as it is called there; none at another line, and none if
-- its call faults
abbrev pub call_of : MachineValue → Option CollectiveCall
call_of m = call_at m.store (line_at m)

-- a machine can have done so much of the collective at its position, and gathered so many values
-- there
abbrev pub is_underway : MachineValue → Bool
is_underway m =
    nat_lt m.store.done (stages m.store (call_of m)) && (length m.store.gathered == gathers m.store (call_of m))

-- source, tag and number of items of the last message
abbrev pub status_of : MachineValue → Status
status_of m = record { source = m.store.source; tag = m.store.tag; count = m.store.count }

-- the length of each array
abbrev pub lengths_of : ProgramValue → List ℕ
lengths_of p = map (λ a. a.1) p.arrays

-- the machine that stands so
abbrev pub machine_of : ProgramValue → ℕ → ℕ → MachineStanding → Status → List ℤ → List (List ℤ) → MachineValue
machine_of p rank size standing status variables arrays = record {
  program = p;
  position = standing.position;
  store = record {
    rank = rank;
    size = size;
    variables = variables;
    arrays = arrays;
    source = status.source;
    tag = status.tag;
    count = status.count;
    finished = standing.finished;
    done = standing.done;
    gathered = standing.gathered;
  };
  fault = standing.fault;
}
