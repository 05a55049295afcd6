-- An image that a rank takes with nothing pending stands where its rank does: of its payload log only the cursors go back.
use Rattle.std.proofs.Common.{◌≡◌, ℕ, List, [], map, take, refl, sym, subst, ◌∙◌}
use Rattle.checkpoint.specs.Image.{rewound}
use Rattle.matching.specs.Inbox.{Mailbox}
use Rattle.payload_log.specs.Backlog.{BacklogValue}
use Rattle.rank_machine.specs.Acts.{Message}
use Rattle.rank_machine.specs.Machine.{MachineValue}
use Rattle.rank_machine.specs.States.{State}
use Rattle.rank_node.specs.Image.{image_of}
use Rattle.crash_free.specs.Runs.{Passed, History, history, sent, sends_from}
use Rattle.bare_world.specs.World.{Live}
use Rattle.bare_world.specs.Stands.{LogStands, LogsStand, StandsIn, ImageStands, RankStands}
use Rattle.bare_world.proofs.Lists.Beginnings.{get_map, map_length}
use Rattle.bare_world.proofs.Standing.InRun.{StandsIn-frames}
use Rattle.bare_world.proofs.Standing.LiveRanks.{at_run, logs_run, RankStands-settled}

-- the payload log for one destination, where nothing waits
LogStands-rewound : (r : ℕ) (messages : List Message) (b : BacklogValue) → LogStands r messages [] b → LogStands r messages [] (rewound b)
LogStands-rewound r messages b s = record { sent = s.sent; kept = s.kept; held = refl }

-- the payload log for all
LogsStand-rewound : (r : ℕ) (h : History) (c : ℕ) (log : List BacklogValue) → LogsStand r h c [] log → LogsStand r h c [] (map rewound log)
LogsStand-rewound r h c log s d b e =
    let x = get_map rewound log d b e in
    subst (λ z. LogStands r (sends_from 0 d (take c h)) [] z) (sym x.2) (LogStands-rewound r _ x.0 (s d x.0 x.1))

-- where the machine and the inbox stand, cursors don't matter
StandsIn-rewound : (start : State) (n r : ℕ) (inbound : ℕ → List Message) (h : History) (c : ℕ) (m : MachineValue) (box : Mailbox) (log : List BacklogValue)
    → StandsIn start n r inbound h c m box log → StandsIn start n r inbound h c m box (map rewound log)
StandsIn-rewound start n r inbound h c m box log s =
    StandsIn-frames start n r inbound h c m box box log (map rewound log) s.counted s.inbox (map_length rewound log ∙ s.logged) s

-- the image of a live rank goes with the run
pub ImageStands-taken : (start : ℕ → State) (n : ℕ) (C : List Passed) (r : ℕ) (v : Live) (s : RankStands start n C r v) → v.rank.pending ≡ []
    → ImageStands start n C r (image_of v.rank)
ImageStands-taken start n C r v s e =
    record {
      at =
          StandsIn-rewound (start r) n r (λ q. sent C q r) (history C r) v.rank.clock v.rank.machine v.rank.inbox v.rank.log
          (at_run start n C r v s (RankStands-settled start n C r v s e));
      logs = LogsStand-rewound r (history C r) v.rank.clock v.rank.log (logs_run start n C r v s (RankStands-settled start n C r v s e));
    }
