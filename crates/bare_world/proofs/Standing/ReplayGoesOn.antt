-- A rank that replays is never refused, and each of its steps keeps it with the run.
use Rattle.std.proofs.Common.{◌≡◌, ℕ, ℤ, ◌+◌, ◌<◌, ◌≤◌, ◌⊎◌, inl, inr, ⊎_elim, true, false, nat_lt, if◌then◌else◌, List, [], ◌∷◌, ◌++◌, Option}
use Rattle.std.proofs.Common.{Some, None, Ok, Err, length, take, drop, refl, sym, ap, subst, ◌∙◌, slice_get, slice_set}
use Rattle.std.proofs.lemmas.Bool.{lt-ltb, eq-eqb}
use Rattle.std.proofs.lemmas.List.{length-set}
use Rattle.matching.specs.declared.packet.Context.{Context}
use Rattle.matching.specs.declared.selector.Selector.{Selector}
use Rattle.matching.specs.PacketValue as packet
use Rattle.matching.specs.Inbox.{Mailbox, accepted_from, without}
use Rattle.payload_log.specs.Backlog.{BacklogValue, backlog, saved}
use Rattle.event_logger.specs.Sequential.Event.{EventValue, event_of}
use Rattle.event_logger.specs.declared.sequential.kind.Kind.{Kind}
use Rattle.event_logger.specs.declared.sequential.kind.Kind.TheVariants as kind
use Rattle.rank_machine.specs.declared.want.Want.{Want}
use Rattle.rank_machine.specs.declared.want.Want.TheVariants as want
use Rattle.rank_machine.specs.declared.fault.MachineFault.{MachineFault}
use Rattle.rank_machine.specs.States.{State, inner}
use Rattle.rank_machine.specs.Wants.{payload}
use Rattle.rank_machine.specs.Acts.{Act, Message, sends, takes, hits, misses, prints, carried, Fits, Makes, next}
use Rattle.rank_machine.specs.Machine.{MachineValue, state_of, machine_want}
use Rattle.rank_node.specs.declared.fault.NodeFault.TheVariants as fault
use Rattle.rank_node.specs.declared.turn.Turn.{Turn}
use Rattle.rank_node.specs.declared.turn.Turn.TheVariants.{Moved, Blocked}
use Rattle.rank_node.specs.Steps.{message_of, WasShown, TakesFound, IsShownFound}
use Rattle.crash_free.specs.Runs.{Passed, at_place, history, sent, sends_from, looked_up, takes_it, IsRun}
use Rattle.bare_world.specs.Rows.{event_at, events_from, cons_some}
use Rattle.bare_world.specs.World.{Live}
use Rattle.bare_world.specs.Misses.{Shows}
use Rattle.bare_world.specs.Stands.{InboxStands, LogStands, LogsStand, StandsIn, RankStands}
use Rattle.bare_world.proofs.Standing.Inboxes.{InboxStands-noted, InboxStands-taken, shows_accepted}
use Rattle.rank_node.specs.Replay.{named, is_before, is_last, replay_turn_at, replayed_at, ReplayStepAt, left_after, taken_named, shown_named}
use Rattle.rank_node.specs.Replay.{try_turn, tried_named, TriesNamed}
use Rattle.bare_world.proofs.Lists.Beginnings.{next_of_drop}
use Rattle.bare_world.proofs.Standing.InRun.{StandsIn-moved, NextAct, next_act, run_reaches}
use Rattle.bare_world.proofs.Standing.LiveRanks.{at_run, left_run, logs_run, settled_behind}
use Rattle.bare_world.proofs.Standing.LiveRanks.{RankStands-settled, RankStands-same_clock, RankStands-again, after_again}
use Rattle.bare_world.proofs.Runs.ActFitsWant.{FitsTakes, fits_receive, FitsHits, fits_probe, fits_try, fits_ended, wanted, stopped}
use Rattle.bare_world.proofs.Runs.ActFitsWant.{history_looks_up, first_event_late, first_event_first}
use Rattle.bare_world.proofs.Standing.ReplayFindsPacket.{is_now_true, names_it, packet_is, receive_turned, probe_turned, try_turned, IsOf}
use Rattle.bare_world.proofs.Standing.ReplayParts.{logs_saved, logs_quiet, not_past}
use Rattle.audit.proofs.Fitting.{send_fits, print_fits}

module _ (start : ℕ → State) (n : ℕ) (C : List Passed) (r : ℕ) (v : Live)
    (run : IsRun start n C) (s : RankStands start n C r v) (e : EventValue) (rest : List EventValue) (left : v.left ≡ e ∷ rest) where
  -- a rank with something left to replay has nothing pending
  pub settled : v.rank.pending ≡ []
  settled = settled_behind start n C r v s (λ z. (let q : e ∷ rest ≡ [] = sym left ∙ z in cc))

  pub none : s.acts ≡ []
  none = RankStands-settled start n C r v s settled

  pub logs : LogsStand r (history C r) v.rank.clock [] v.rank.log
  logs = logs_run start n C r v s none

  pub at : StandsIn (start r) n r (λ q. sent C q r) (history C r) v.rank.clock v.rank.machine v.rank.inbox v.rank.log
  at = at_run start n C r v s none

  was : e ∷ rest ≡ events_from v.rank.clock (drop v.rank.clock (history C r))
  was = sym left ∙ left_run start n C r v s none

  pub behind : v.rank.clock < length (history C r)
  behind = not_past (history C r) v.rank.clock e rest was

  -- the next act is the run's
  pub next_is : inner (state_of v.rank.machine) ≡ None → NextAct (history C r) v.rank.clock v.rank.machine
  next_is stop = (
      let z = run_reaches start n C r run in
      next_act (start r) n r (λ q. sent C q r) (history C r) v.rank.clock v.rank.machine v.rank.inbox v.rank.log z.0 z.1 behind stop at)

  left_is : (x : NextAct (history C r) v.rank.clock v.rank.machine)
      → e ∷ rest ≡ cons_some (event_at (v.rank.clock + 1) x.act x.message) (events_from (v.rank.clock + 1) x.rest)
  left_is x = was ∙ ap (λ z. events_from v.rank.clock z) x.is_next

  -- and fits what the machine wants
  fits : (w : Want) → machine_want v.rank.machine ≡ w → (w ≡ want.Internal → ⊥) → (x : NextAct (history C r) v.rank.clock v.rank.machine)
      → Fits w (payload (state_of v.rank.machine)) x.act x.message
  fits w is stop x = subst (λ z. Fits z (payload (state_of v.rank.machine)) x.act x.message) (wanted v.rank.machine w is stop) x.makes

  -- what a step comes to: it isn't refused, and the rank goes with the run
  pub record Goes (w : Want) : Type 0 where
    pub turn : Turn
    pub turned : replay_turn_at v.rank e w ≡ Ok turn
    pub stands : (m : MachineValue) → ReplayStepAt v.rank e w m
        → RankStands start n C r (record { rank = replayed_at v.rank e w m; left = left_after v.rank w turn e rest })

  stays : RankStands start n C r (record { rank = v.rank; left = e ∷ rest })
  stays = subst (λ z. RankStands start n C r (record { rank = v.rank; left = z })) left s

  -- an effect comes before the next event
  before : (x : NextAct (history C r) v.rank.clock v.rank.machine) → event_at (v.rank.clock + 1) x.act x.message ≡ None
      → (e ∷ rest ≡ events_from (v.rank.clock + 1) x.rest) × (is_before v.rank e ≡ true)
  before x quiet =
      let q : e ∷ rest ≡ events_from (v.rank.clock + 1) x.rest = left_is x ∙ ap (λ z. cons_some z (events_from (v.rank.clock + 1) x.rest)) quiet in (
        q,
        ap (λ n. nat_lt (v.rank.clock + 1) n) (first_event_first (v.rank.clock + 1) x.rest e rest q)
            ∙ lt-ltb (v.rank.clock + 1) e.receiver_clock (first_event_late (v.rank.clock + 1) x.rest e rest q),
      )

  -- an event is the next
  now : (x : NextAct (history C r) v.rank.clock v.rank.machine) (y : EventValue) → event_at (v.rank.clock + 1) x.act x.message ≡ Some y
      → (e ≡ y) × (rest ≡ events_from (v.rank.clock + 1) x.rest)
  now x y is =
      let q : e ∷ rest ≡ y ∷ events_from (v.rank.clock + 1) x.rest = left_is x ∙ ap (λ z. cons_some z (events_from (v.rank.clock + 1) x.rest)) is in
      (cc, cc)

  -- the message of the next act is in the run
  looked : (x : NextAct (history C r) v.rank.clock v.rank.machine) → looked_up (λ q. sent C q r) x.act ≡ x.message
  looked x =
      (history_looks_up start n C r run v.rank.clock (x.act, x.message) (next_of_drop v.rank.clock (history C r) (x.act, x.message) x.rest x.is_next).there).3

  -- a rank that makes the run's next act
  goes_on : (x : NextAct (history C r) v.rank.clock v.rank.machine) (m : MachineValue) (inbox : Mailbox) (log : List BacklogValue)
      (a : Act) (o : Option Message) (l : List EventValue)
      → x.act ≡ a → x.message ≡ o → state_of m ≡ next (state_of v.rank.machine) a o
      → length inbox.accepted ≡ n → InboxStands inbox (λ q. sent C q r) (take v.rank.clock (history C r) ++ (a, o) ∷ [])
      → length log ≡ n → ((d : ℕ) (b : BacklogValue) → slice_get log d ≡ Some b
      → LogStands r (sends_from 0 d (take v.rank.clock (history C r) ++ (a, o) ∷ [])) [] b)
      → l ≡ events_from (v.rank.clock + 1) x.rest
      → RankStands start n C r (record { rank = after_again v.rank m inbox log; left = l })
  goes_on x m inbox log a o l ea eo state counted box logged new_logs el =
      RankStands-again start n C r v s m inbox log a o x.rest l settled
      (x.is_next ∙ ap (λ z. (z, x.message) ∷ x.rest) ea ∙ ap (λ z. (a, z) ∷ x.rest) eo)
      (subst (λ z. Makes (state_of v.rank.machine) a z) eo (subst (λ z. Makes (state_of v.rank.machine) z x.message) ea x.makes))
      state counted box logged new_logs el

  quietly : (a : Act) (o : Option Message) → ((q j : ℕ) → takes_it q j a ≡ false) → ((q j : ℕ) → Shows q j a → j ≤ accepted_from v.rank.inbox q)
      → InboxStands v.rank.inbox (λ q. sent C q r) (take v.rank.clock (history C r) ++ (a, o) ∷ [])
  quietly a o f g = InboxStands-noted v.rank.inbox (λ q. sent C q r) (take v.rank.clock (history C r)) (a, o) f g at.inbox

  sending : (d : ℕ) (c : Context) (t : ℕ) → machine_want v.rank.machine ≡ want.Send d c t → Goes (want.Send d c t)
  sending d c t is =
      let x = next_is (stopped v.rank.machine (want.Send d c t) is (λ z. cc)) in
      let f = send_fits d c t (payload (state_of v.rank.machine)) x.act x.message (fits (want.Send d c t) is (λ z. cc) x) in
      let b = before x (ap (λ z. event_at (v.rank.clock + 1) z x.message) f.0) in
      record {
        turn = Moved;
        turned = ap (λ z. if z then Ok Moved else Err fault.Replay) b.1;
        stands =
            λ m did. goes_on x m v.rank.inbox (slice_set v.rank.log d (saved (backlog v.rank.log d) (message_of v.rank d c t)))
            (sends d c t (payload (state_of v.rank.machine))) None (e ∷ rest) f.0 f.1
            (did.state (sends d c t (payload (state_of v.rank.machine))) None
            (subst (λ z. Makes (state_of v.rank.machine) (sends d c t (payload (state_of v.rank.machine))) z) f.1
            (subst (λ z. Makes (state_of v.rank.machine) z x.message) f.0 x.makes)))
            at.counted (quietly (sends d c t (payload (state_of v.rank.machine))) None (λ q j. refl) (λ q j shows. absurd shows))
            (length-set v.rank.log d _ ∙ at.logged)
            (logs_saved r (history C r) v.rank d c t s.number at.within logs) b.0;
      }

  printing : (z : ℤ) → machine_want v.rank.machine ≡ want.Print z → Goes (want.Print z)
  printing z is =
      let x = next_is (stopped v.rank.machine (want.Print z) is (λ y. cc)) in
      let f = print_fits z (payload (state_of v.rank.machine)) x.act x.message (fits (want.Print z) is (λ y. cc) x) in
      let b = before x (ap (λ y. event_at (v.rank.clock + 1) y x.message) f.0) in
      record {
        turn = Moved;
        turned = ap (λ y. if y then Ok Moved else Err fault.Replay) b.1;
        stands = λ m did. goes_on x m v.rank.inbox v.rank.log (prints z) None (e ∷ rest) f.0 f.1
            (did.state (prints z) None (subst (λ y. Makes (state_of v.rank.machine) (prints z) y) f.1
            (subst (λ y. Makes (state_of v.rank.machine) y x.message) f.0 x.makes)))
            at.counted (quietly (prints z) None (λ q j. refl) (λ q j shows. absurd shows)) at.logged
            (logs_quiet r (history C r) v.rank (prints z) None (λ c d. refl) logs) b.0;
      }

  -- the next act is the event's last: what is left then is behind it
  used : (k : Kind) (source clock : ℕ) (x : NextAct (history C r) v.rank.clock v.rank.machine) → e ≡ event_of k source clock (v.rank.clock + 1)
      → rest ≡ events_from (v.rank.clock + 1) x.rest → (if is_last v.rank e then rest else e ∷ rest) ≡ events_from (v.rank.clock + 1) x.rest
  used k source clock x ee er =
      ap (λ b. if b then rest else e ∷ rest) (ap (λ z. is_last v.rank z) ee ∙ eq-eqb (v.rank.clock + 1) (v.rank.clock + 1) refl) ∙ er

  missing : (selector : Selector) → machine_want v.rank.machine ≡ want.TryProbe selector → (x : NextAct (history C r) v.rank.clock v.rank.machine)
      → x.act ≡ misses → x.message ≡ None → Goes (want.TryProbe selector)
  missing selector is x ea eo =
      let y = now x (event_of kind.Miss 0 0 (v.rank.clock + 1)) (ap (λ z. event_at (v.rank.clock + 1) z x.message) ea) in record {
        turn = Moved;
        turned =
            ap (λ b. if b then try_turn selector (named v.rank e) e.kind else Err fault.Replay) (is_now_true v.rank e kind.Miss 0 0 y.0)
            ∙ ap (λ k. try_turn selector (named v.rank e) k) (ap (λ z. z.kind) y.0);
        stands =
            subst (λ z. (m : MachineValue) → ReplayStepAt v.rank z (want.TryProbe selector) m → RankStands start n C r
            (record { rank = replayed_at v.rank z (want.TryProbe selector) m; left = if is_last v.rank e then rest else e ∷ rest })) (sym y.0)
            (λ m did. goes_on x m v.rank.inbox v.rank.log misses None (if is_last v.rank e then rest else e ∷ rest) ea eo
            did.state
            at.counted (quietly misses None (λ q j. refl) (λ q j shows. absurd shows)) at.logged
            (logs_quiet r (history C r) v.rank misses None (λ c d. refl) logs) (used kind.Miss 0 0 x y.0 y.1));
      }

  receiving : (selector : Selector) → machine_want v.rank.machine ≡ want.Receive selector → Goes (want.Receive selector)
  receiving selector is =
      act (fits_receive selector (payload (state_of v.rank.machine)) x.act x.message (fits (want.Receive selector) is (λ z. cc) x))
    where
      x : NextAct (history C r) v.rank.clock v.rank.machine
      x = next_is (stopped v.rank.machine (want.Receive selector) is (λ z. cc))

      act : FitsTakes selector x.act x.message → Goes (want.Receive selector)
      act f = go y.0 y.1 (named v.rank e) refl
        where
          there : at_place (sent C f.source r) f.place ≡ Some f.message
          there = sym (ap (λ a. looked_up (λ q. sent C q r) a) f.act) ∙ looked x ∙ f.found

          y : (e ≡ event_of kind.Reception f.source f.message.clock (v.rank.clock + 1)) × (rest ≡ events_from (v.rank.clock + 1) x.rest)
          y =
              now x (event_of kind.Reception f.source f.message.clock (v.rank.clock + 1))
              (ap (λ z. event_at (v.rank.clock + 1) z x.message) f.act ∙ ap (λ z. event_at (v.rank.clock + 1) (takes f.source f.place) z) f.found)

          go : e ≡ event_of kind.Reception f.source f.message.clock (v.rank.clock + 1) → rest ≡ events_from (v.rank.clock + 1) x.rest
              → (o : Option (ℕ × packet.PacketValue)) → named v.rank e ≡ o → Goes (want.Receive selector)
          go ee er None eo = record {
            turn = Blocked;
            turned = receive_turned v.rank e selector f.source f.message.clock None ee eo;
            stands =
                subst (λ z. (m : MachineValue) → TakesFound z v.rank.machine m → RankStands start n C r
                (record { rank = taken_named v.rank m z; left = e ∷ rest })) (sym eo) (λ m did. stays);
          }
          go ee er (Some g) eo =
              let k = packet_is C r v.rank e g.0 f.source f.place f.message g.1 kind.Reception at.inbox eo ee there in
              record {
                turn = Moved;
                turned =
                    receive_turned v.rank e selector f.source f.message.clock (Some g) ee eo ∙ ap (λ b. if b then Ok Moved else Err fault.Replay)
                    (names_it selector f.source f.place f.message g.1 k.1 f.matching);
                stands =
                    subst (λ z. (m : MachineValue) → TakesFound z v.rank.machine m → RankStands start n C r
                    (record { rank = taken_named v.rank m z; left = if is_last v.rank e then rest else e ∷ rest })) (sym eo)
                    (λ m did. goes_on x m (without v.rank.inbox g.0) v.rank.log (takes g.1.source g.1.number) (Some (carried g.1))
                    (if is_last v.rank e then rest else e ∷ rest)
                    (f.act ∙ ap (λ z. takes z f.place) (sym k.1.source) ∙ ap (λ z. takes g.1.source z) (sym k.1.number))
                    (f.found ∙ ap Some (sym k.1.message))
                    (did.state g.1.number)
                    at.counted
                    (InboxStands-taken v.rank.inbox (λ q. sent C q r) (take v.rank.clock (history C r)) g.0 g.1 (Some (carried g.1)) k.0 at.inbox)
                    at.logged
                    (logs_quiet r (history C r) v.rank (takes g.1.source g.1.number) (Some (carried g.1)) (λ c d. refl) logs)
                    (used kind.Reception f.source f.message.clock x ee er));
              }

  -- a hit is shown the packet that the event names
  shown_goes : (x : NextAct (history C r) v.rank.clock v.rank.machine) (selector : Selector) (f : FitsHits selector x.act x.message)
      (m : MachineValue) (g : ℕ × packet.PacketValue)
      → e ≡ event_of kind.Hit f.source f.message.clock (v.rank.clock + 1)
      → rest ≡ events_from (v.rank.clock + 1) x.rest → IsOf f.source f.place f.message g.1
      → slice_get v.rank.inbox.packets g.0 ≡ Some g.1 → WasShown g.1 v.rank.machine m
      → RankStands start n C r (record { rank = shown_named v.rank m (Some g); left = if is_last v.rank e then rest else e ∷ rest })
  shown_goes x selector f m g ee er k there did =
      goes_on x m v.rank.inbox v.rank.log (hits g.1.source g.1.number) (Some (carried g.1)) (if is_last v.rank e then rest else e ∷ rest)
      (f.act ∙ ap (λ z. hits z f.place) (sym k.source) ∙ ap (λ z. hits g.1.source z) (sym k.number))
      (f.found ∙ ap Some (sym k.message))
      (did.state g.1.number)
      at.counted
      (quietly (hits g.1.source g.1.number) (Some (carried g.1)) (λ q j. refl)
      (λ q j shows. shows_accepted v.rank.inbox (λ z. sent C z r) (take v.rank.clock (history C r)) g.0 g.1 there at.inbox q j shows))
      at.logged
      (logs_quiet r (history C r) v.rank (hits g.1.source g.1.number) (Some (carried g.1)) (λ c d. refl) logs)
      (used kind.Hit f.source f.message.clock x ee er)

  hit_now : (x : NextAct (history C r) v.rank.clock v.rank.machine) (selector : Selector) (f : FitsHits selector x.act x.message)
      → (e ≡ event_of kind.Hit f.source f.message.clock (v.rank.clock + 1)) × (rest ≡ events_from (v.rank.clock + 1) x.rest)
  hit_now x selector f =
      now x (event_of kind.Hit f.source f.message.clock (v.rank.clock + 1))
      (ap (λ z. event_at (v.rank.clock + 1) z x.message) f.act ∙ ap (λ z. event_at (v.rank.clock + 1) (hits f.source f.place) z) f.found)

  hit_there : (x : NextAct (history C r) v.rank.clock v.rank.machine) (selector : Selector) (f : FitsHits selector x.act x.message)
      → at_place (sent C f.source r) f.place ≡ Some f.message
  hit_there x selector f = sym (ap (λ a. looked_up (λ q. sent C q r) a) f.act) ∙ looked x ∙ f.found

  probing : (selector : Selector) → machine_want v.rank.machine ≡ want.Probe selector → Goes (want.Probe selector)
  probing selector is =
      act (fits_probe selector (payload (state_of v.rank.machine)) x.act x.message (fits (want.Probe selector) is (λ z. cc) x))
    where
      x : NextAct (history C r) v.rank.clock v.rank.machine
      x = next_is (stopped v.rank.machine (want.Probe selector) is (λ z. cc))

      act : FitsHits selector x.act x.message → Goes (want.Probe selector)
      act f = go (hit_now x selector f).0 (hit_now x selector f).1 (named v.rank e) refl
        where
          go : e ≡ event_of kind.Hit f.source f.message.clock (v.rank.clock + 1) → rest ≡ events_from (v.rank.clock + 1) x.rest
              → (o : Option (ℕ × packet.PacketValue)) → named v.rank e ≡ o → Goes (want.Probe selector)
          go ee er None eo = record {
            turn = Blocked;
            turned = probe_turned v.rank e selector f.source f.message.clock None ee eo;
            stands =
                subst (λ z. (m : MachineValue) → IsShownFound z v.rank.machine m → RankStands start n C r
                (record { rank = shown_named v.rank m z; left = e ∷ rest })) (sym eo) (λ m did. stays);
          }
          go ee er (Some g) eo =
              let k = packet_is C r v.rank e g.0 f.source f.place f.message g.1 kind.Hit at.inbox eo ee (hit_there x selector f) in
              record {
                turn = Moved;
                turned =
                    probe_turned v.rank e selector f.source f.message.clock (Some g) ee eo ∙ ap (λ b. if b then Ok Moved else Err fault.Replay)
                    (names_it selector f.source f.place f.message g.1 k.1 f.matching);
                stands =
                    subst (λ z. (m : MachineValue) → IsShownFound z v.rank.machine m → RankStands start n C r
                    (record { rank = shown_named v.rank m z; left = if is_last v.rank e then rest else e ∷ rest })) (sym eo)
                    (λ m did. shown_goes x selector f m g ee er k.1 k.0 did);
              }

  trying : (selector : Selector) → machine_want v.rank.machine ≡ want.TryProbe selector → Goes (want.TryProbe selector)
  trying selector is =
      ⊎_elim (λ f. act f) (λ f. missing selector is x f.0 f.1)
      (fits_try selector (payload (state_of v.rank.machine)) x.act x.message (fits (want.TryProbe selector) is (λ z. cc) x))
    where
      x : NextAct (history C r) v.rank.clock v.rank.machine
      x = next_is (stopped v.rank.machine (want.TryProbe selector) is (λ z. cc))

      act : FitsHits selector x.act x.message → Goes (want.TryProbe selector)
      act f = go (hit_now x selector f).0 (hit_now x selector f).1 (named v.rank e) refl
        where
          go : e ≡ event_of kind.Hit f.source f.message.clock (v.rank.clock + 1) → rest ≡ events_from (v.rank.clock + 1) x.rest
              → (o : Option (ℕ × packet.PacketValue)) → named v.rank e ≡ o → Goes (want.TryProbe selector)
          go ee er None eo = record {
            turn = Blocked;
            turned = try_turned v.rank e selector f.source f.message.clock None ee eo;
            stands =
                subst (λ k. (m : MachineValue) → TriesNamed (named v.rank e) k v.rank.machine m → RankStands start n C r
                (record { rank = tried_named v.rank m (named v.rank e) k; left = e ∷ rest })) (sym (ap (λ z. z.kind) ee))
                (subst (λ z. (m : MachineValue) → IsShownFound z v.rank.machine m → RankStands start n C r
                (record { rank = shown_named v.rank m z; left = e ∷ rest })) (sym eo) (λ m did. stays));
          }
          go ee er (Some g) eo =
              let k = packet_is C r v.rank e g.0 f.source f.place f.message g.1 kind.Hit at.inbox eo ee (hit_there x selector f) in
              record {
                turn = Moved;
                turned =
                    try_turned v.rank e selector f.source f.message.clock (Some g) ee eo ∙ ap (λ b. if b then Ok Moved else Err fault.Replay)
                    (names_it selector f.source f.place f.message g.1 k.1 f.matching);
                stands =
                    subst (λ y. (m : MachineValue) → TriesNamed (named v.rank e) y v.rank.machine m → RankStands start n C r
                    (record { rank = tried_named v.rank m (named v.rank e) y; left = if is_last v.rank e then rest else e ∷ rest })) (sym (ap (λ z. z.kind) ee))
                    (subst (λ z. (m : MachineValue) → IsShownFound z v.rank.machine m → RankStands start n C r
                    (record { rank = shown_named v.rank m z; left = if is_last v.rank e then rest else e ∷ rest })) (sym eo)
                    (λ m did. shown_goes x selector f m g ee er k.1 k.0 did));
              }

  -- no machine has ended before its rank's next act
  ended : (w : Want) → (w ≡ want.Halted) ⊎ ((k : MachineFault) × (w ≡ want.Faulted k)) → machine_want v.rank.machine ≡ w → (w ≡ want.Internal → ⊥) → ⊥
  ended w end is stop =
      let x = next_is (stopped v.rank.machine w is stop) in
      fits_ended w (payload (state_of v.rank.machine)) x.act x.message end (fits w is stop x)

  -- each step of a rank in replay is one that it may make: it is never refused, and keeps the rank with the run
  pub replays : (w : Want) → machine_want v.rank.machine ≡ w → Goes w
  replays want.Internal is = record {
    turn = Moved;
    turned = refl;
    stands = λ m did.
        RankStands-same_clock start n C r (record { rank = v.rank; left = e ∷ rest })
        stays v.rank.stable m v.rank.inbox v.rank.log v.rank.dues s.number s.size stays.logs
        (StandsIn-moved (start r) n r (λ q. sent C q r) _ v.rank.clock v.rank.machine m v.rank.inbox v.rank.log did.state stays.at);
  }
  replays (want.Send d c t) is = sending d c t is
  replays (want.Receive selector) is = receiving selector is
  replays (want.Probe selector) is = probing selector is
  replays (want.TryProbe selector) is = trying selector is
  replays (want.Print z) is = printing z is
  replays want.Halted is = absurd (ended want.Halted (inl refl) is (λ z. cc))
  replays (want.Faulted k) is = absurd (ended (want.Faulted k) (inr (k, refl)) is (λ z. cc))
