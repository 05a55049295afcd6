-- A rank that is behind the run comes to its next act by so many inner steps: the run has the act there.
use Rattle.std.proofs.Common.{◌≡◌, ℕ, ◌<◌, List, [], length}
use Rattle.matching.specs.Inbox.{Mailbox}
use Rattle.payload_log.specs.Backlog.{BacklogValue}
use Rattle.rank_machine.specs.States.{State}
use Rattle.rank_machine.specs.Acts.{Message, Runs}
use Rattle.rank_machine.specs.Machine.{MachineValue, state_of}
use Rattle.rank_machine.proofs.Determined.{still}
use Rattle.crash_free.specs.Runs.{History, history, sent}
use Rattle.bare_world.specs.World.{Live, WorldValue, size, IsLive}
use Rattle.bare_world.specs.Stands.{StandsIn, RankStands, Stands, start_at}
use Rattle.bare_world.specs.Plain.{plain}
use Rattle.bare_world.specs.Onward.{Behind, Onward}
use Rattle.bare_world.specs.Measures.{StopsAfter}
use Rattle.bare_world.proofs.Standing.InRun.{run_reaches, next_does}
use Rattle.bare_world.proofs.Standing.LiveRanks.{RankStands-settled, at_run}
use Rattle.bare_world.proofs.Plain.Ranks.{none_waits_plainly}
use Rattle.bare_world.proofs.Plain.Worlds.{rank_of}
use Rattle.bare_world.proofs.Again.InnerStepsEnd.{stops_from}

-- a machine that has made the first acts of a history comes to the next of them
comes : (start : State) (n r : ℕ) (inbound : ℕ → List Message) (h : History) (c : ℕ) (m : MachineValue)
    (box : Mailbox) (log : List BacklogValue) (z : State)
    → Runs start h z → c < length h → StandsIn start n r inbound h c m box log → (k : ℕ) × StopsAfter k (state_of m)
comes start n r inbound h c m box log z whole l s =
    let d = next_does start n r inbound h c m box log z whole l s in
    stops_from s.after (state_of m) d.does.0 s.inner d.does.1 (still d.does.0 d.act d.message d.does.2)

-- so does the machine of a rank that is behind the run
pub ahead : (w : WorldValue) (r : ℕ) (v : Live) → Stands w → Onward w → IsLive w r v → Behind w.run r v → (k : ℕ) × StopsAfter k (state_of v.rank.machine)
ahead w r v t o live behind =
    let whole = run_reaches (start_at w (size w)) (size w) w.run r t.run.is_run in
    comes (start_at w (size w) r) (size w) r (λ q. sent w.run q r) (history w.run r) v.rank.clock v.rank.machine v.rank.inbox v.rank.log whole.0 whole.1 behind
    (at_run (start_at w (size w)) (size w) w.run r (plain v) s owes)
  where
    s : RankStands (start_at w (size w)) (size w) w.run r (plain v)
    s = rank_of t r v live

    owes : s.acts ≡ []
    owes =
        RankStands-settled (start_at w (size w)) (size w) w.run r (plain v) s (none_waits_plainly v ((o.ranks r v live).settled behind))
