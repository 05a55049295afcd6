-- The steps of a rank that replays nothing: an event is always a new act, and a send or a print is new or made again.
use Rattle.std.proofs.Common.{◌≡◌, ℕ, ℤ, zero, suc, ◌+◌, ◌<◌, ◌≤◌, ◌⊎◌, inl, inr, ⊎_elim, ◌==◌}
use Rattle.std.proofs.Common.{List, [], ◌∷◌, ◌++◌, Option, Some, None, length, take, drop, refl, sym, ap, subst, ◌∙◌, arith}
use Rattle.std.proofs.Common.{slice_get, slice_set}
use Rattle.std.proofs.lemmas.Bool.{cases_lt, eq-eqb, ne_eqb}
use Rattle.std.proofs.lemmas.List.{append-nil, length_push, drop-append-le}
use Rattle.event_logger.specs.Sequential.Event.{EventValue}
use Rattle.matching.specs.Inbox.{Mailbox}
use Rattle.payload_log.specs.Backlog.{BacklogValue, backlog, hold, new_backlog}
use Rattle.rank_machine.specs.declared.want.Want.{Want}
use Rattle.rank_machine.specs.declared.want.Want.TheVariants as want
use Rattle.rank_machine.specs.States.{State}
use Rattle.rank_machine.specs.Wants.{wants, payload}
use Rattle.rank_machine.specs.Acts.{Act, Message, sends, takes, hits, misses, prints, Fits, Makes, Runs, next}
use Rattle.rank_machine.specs.Machine.{MachineValue, state_of, machine_want}
use Rattle.crash_free.specs.Runs.{Passed, History, history, sent, sends_from, send_at, cons_if, looked_up, IsFree}
use Rattle.crash_free.specs.Runs.{MayMake, IsRun, continue}
use Rattle.crash_free.proofs.Lists.{history-own}
use Rattle.crash_free.proofs.Going.{looked_up_longer, MayMake-longer, continue-push, count_continued}
use Rattle.bare_world.specs.Rows.{event_at, events_from, cons_some}
use Rattle.bare_world.specs.World.{Rank, Live, unpassed}
use Rattle.bare_world.specs.Misses.{MissesNoneShown}
use Rattle.bare_world.specs.Stands.{InboxStands, LogStands, LogsStand, IsFor, Pending, sends_of, RankStands}
use Rattle.rank_node.specs.declared.waiting.Waiting.{Waiting}
use Rattle.rank_node.specs.declared.waiting.Waiting.TheVariants as waits
use Rattle.rank_node.specs.Steps.{message_of, after_hold, after_wait}
use Rattle.rank_node.proofs.Gates.{begins_push, begins_within}
use Rattle.matching.specs.declared.packet.Context.{Context}
use Rattle.matching.specs.PacketValue as packet
use Rattle.bare_world.proofs.Rows.{IsEffect, event_sends_none, effect_takes_none}
use Rattle.bare_world.proofs.Standing.Inboxes.{InboxStands-noted}
use Rattle.bare_world.proofs.Standing.FairMisses.{effect_shows_none, effect_is_fair}
use Rattle.bare_world.proofs.Lists.Replaced.{replaced_keeps}
use Rattle.std.proofs.lemmas.Option.{get_or_from_slice_get}
use Rattle.bare_world.proofs.Standing.Pending.{Pending-push, sent_continued, sends_of-push}
use Rattle.bare_world.proofs.Lists.Beginnings.{take_append, take_whole, drop_beyond, drop_own}
use Rattle.bare_world.proofs.Standing.InRun.{StandsIn-later, StandsIn-next, next_act, run_reaches}
use Rattle.bare_world.proofs.Standing.LiveRanks.{at_run, left_run, RankStands-settled}
use Rattle.bare_world.proofs.Standing.PayloadLogs.{LogStands-held}
use Rattle.bare_world.proofs.Runs.ActFitsWant.{stopped, wanted}

-- the act of this want is an event
abbrev pub IsEventWant : Want → Type 0
IsEventWant (want.Receive w) = Unit {0}
IsEventWant (want.Probe w) = Unit {0}
IsEventWant (want.TryProbe w) = Unit {0}
IsEventWant _ = ⊥

-- an act that fits it has one
event_of_fit : (c : ℕ) (w : Want) (items : List ℤ) (a : Act) (o : Option Message) → IsEventWant w → Fits w items a o → event_at c a o ≡ None → ⊥
event_of_fit c (want.Receive w) items (takes s j) (Some m) i f e = cc
event_of_fit c (want.Probe w) items (hits s j) (Some m) i f e = cc
event_of_fit c (want.TryProbe w) items (hits s j) (Some m) i f e = cc
event_of_fit c (want.TryProbe w) items misses None i f e = cc
event_of_fit c (want.Receive w) items (takes s j) None i f e = f
event_of_fit c (want.Receive w) items (sends d t y z) o i f e = f
event_of_fit c (want.Receive w) items (hits s j) o i f e = f
event_of_fit c (want.Receive w) items misses o i f e = f
event_of_fit c (want.Receive w) items (prints v) o i f e = f
event_of_fit c (want.Probe w) items (hits s j) None i f e = f
event_of_fit c (want.Probe w) items (sends d t y z) o i f e = f
event_of_fit c (want.Probe w) items (takes s j) o i f e = f
event_of_fit c (want.Probe w) items misses o i f e = f
event_of_fit c (want.Probe w) items (prints v) o i f e = f
event_of_fit c (want.TryProbe w) items (hits s j) None i f e = f
event_of_fit c (want.TryProbe w) items misses (Some m) i f e = f
event_of_fit c (want.TryProbe w) items (sends d t y z) o i f e = f
event_of_fit c (want.TryProbe w) items (takes s j) o i f e = f
event_of_fit c (want.TryProbe w) items (prints v) o i f e = f
event_of_fit c want.Internal items a o i f e = i
event_of_fit c (want.Send d x t) items a o i f e = i
event_of_fit c (want.Print v) items a o i f e = i
event_of_fit c want.Halted items a o i f e = i
event_of_fit c (want.Faulted k) items a o i f e = i

-- it is no step of the machine's own
no_internal : (w : Want) → IsEventWant w → w ≡ want.Internal → ⊥
no_internal w i e = subst (λ z. IsEventWant z) e i

-- A rank with nothing left to replay that stands at a receive or a probe has made all its acts in the run, and those that it owes.
pub caught_up : (start : ℕ → State) (n : ℕ) (C : List Passed) (r : ℕ) (v : Live) (w : Want) → IsRun start n C → (s : RankStands start n C r v) → v.left ≡ []
    → machine_want v.rank.machine ≡ w → IsEventWant w → v.rank.clock ≡ length (history (continue C r s.acts) r)
caught_up start n C r v w run s left is event =
    ⊎_elim (λ (settled : v.rank.pending ≡ []). go (RankStands-settled start n C r v s settled) (cases_lt v.rank.clock (length (history C r))))
    (λ all. all) s.all_made
  where
    go : s.acts ≡ [] → (v.rank.clock < length (history C r)) ⊎ (length (history C r) ≤ v.rank.clock) → v.rank.clock ≡ length (history (continue C r s.acts) r)
    go none (inr l) = (
        let i = (at_run start n C r v s none).within in
        let q : v.rank.clock ≡ length (history C r) = omega (arith, l, i) in
        q ∙ ap (λ z. length (history (continue C r z) r)) (sym none))
    go none (inl l) =
        let z = run_reaches start n C r run in
        let x = next_act (start r) n r (λ q. sent C q r) (history C r)
        v.rank.clock v.rank.machine v.rank.inbox v.rank.log z.0 z.1 l (stopped v.rank.machine w is (no_internal w event)) (at_run start n C r v s none) in
        let q : [] ≡ cons_some (event_at (v.rank.clock + 1) x.act x.message) (events_from (v.rank.clock + 1) x.rest) =
        sym left ∙ left_run start n C r v s none ∙ ap (λ y. events_from v.rank.clock y) x.is_next in
        absurd (event_of_fit (v.rank.clock + 1) w (payload (state_of v.rank.machine)) x.act x.message event
        (subst (λ y. Fits y (payload (state_of v.rank.machine)) x.act x.message) (wanted v.rank.machine w is (no_internal w event)) x.makes) (nothing _ _ q))
      where
        nothing : (o : Option EventValue) (es : List EventValue) → [] ≡ cons_some o es → o ≡ None
        nothing None es e = refl
        nothing (Some y) es e = absurd cc

-- ---- a new act that waits
-- the rank after an act that waits
abbrev pub after_act : Rank → MachineValue → ℕ → Mailbox → List BacklogValue → Waiting → Rank
after_act v m made inbox log x = record {
  stable = v.stable;
  machine = m;
  clock = v.clock + 1;
  made = made;
  inbox = inbox;
  log = log;
  pending = v.pending ++ x ∷ [];
  stored = v.stored;
  dues = v.dues;
}

-- what the first acts of a run are, where there are no more
pub beyond : (c : ℕ) (h : History) → length h ≤ c → take c h ≡ h
beyond zero [] l = refl
beyond (suc c) [] l = refl
beyond zero (x ∷ h) l = absurd (omega arith)
beyond (suc c) (x ∷ h) l = ap (λ z. x ∷ z) (beyond c h (omega arith))

module _ (start : ℕ → State) (n : ℕ) (C : List Passed) (r : ℕ) (v : Live) (s : RankStands start n C r v) (a : Act) (o : Option Message) (m : MachineValue)
    (left : v.left ≡ []) (clock : v.rank.clock ≡ length (history (continue C r s.acts) r))
    (makes : Makes (state_of v.rank.machine) a o) (found : looked_up (λ q. sent C q r) a ≡ o)
    (free : IsFree (wants (state_of v.rank.machine)) a (λ q. sent C q r) (history (continue C r s.acts) r)) where
  same : take v.rank.clock (history (continue C r s.acts) r ++ (a, o) ∷ []) ≡ take v.rank.clock (history (continue C r s.acts) r)
  same = take_append v.rank.clock (history (continue C r s.acts) r) ((a, o) ∷ []) s.at.within

  whole : take v.rank.clock (history (continue C r s.acts) r) ≡ history (continue C r s.acts) r
  whole = subst (λ z. take z (history (continue C r s.acts) r) ≡ history (continue C r s.acts) r) (sym clock) (take_whole (history (continue C r s.acts) r))

  -- what the rank holds for itself it can't take yet, and that it has more of it hinders nothing
  pub found_there : looked_up (λ q. sent (continue C r s.acts) q r) a ≡ o
  found_there =
      looked_up_longer (wants (state_of v.rank.machine)) (payload (state_of v.rank.machine)) (λ q. sent C q r) (λ q. sent (continue C r s.acts) q r) a
      (subst (λ z. Makes (state_of v.rank.machine) a z) (sym found) makes) (λ q. sent_continued C r s.acts q r) ∙ found

  can : MayMake (start r) (λ q. sent (continue C r s.acts) q r) (history (continue C r s.acts) r) a
  can =
      MayMake-longer (start r) (λ q. sent C q r) (λ q. sent (continue C r s.acts) q r) (history (continue C r s.acts) r) a (λ q. sent_continued C r s.acts q r)
      (record {
        after = s.at.after;
        stands = state_of v.rank.machine;
        reached = subst
            (λ z. Runs (start r) z s.at.after) whole s.at.reached;
        inner = s.at.inner;
        makes = rw found makes;
        free = free;
      })

  more : history (continue C r (s.acts ++ a ∷ [])) r ≡ history (continue C r s.acts) r ++ (a, o) ∷ []
  more =
      ap (λ E. history E r) (continue-push C r s.acts a) ∙ history-own (continue C r s.acts) r a ∙ ap
      (λ z. history (continue C r s.acts) r ++ (a, z) ∷ []) found_there

  -- its acts are those of the run and those that wait
  pub counts : v.rank.clock ≡ length (history C r) + length s.acts
  counts = clock ∙ count_continued C r s.acts

  first : (c : ℕ) → length (history C r) ≤ c → take c (history C r) ≡ history C r
  first c l = beyond c (history C r) l

  pub before_it : take v.rank.clock (history C r) ≡ take (v.rank.clock + 1) (history C r)
  before_it = first v.rank.clock (let z = counts in omega (arith, z)) ∙ sym (first (v.rank.clock + 1) (let z = counts in omega (arith, z)))

  pub sends_more : (d : ℕ)
      → sends_of (length (history C r)) d (s.acts ++ a ∷ []) ≡ sends_of (length (history C r)) d s.acts ++ send_at (v.rank.clock + 1) d a []
  sends_more d =
      sends_of-push (length (history C r)) d s.acts a
      ∙ (let z : length (history C r) + length s.acts + 1 ≡ v.rank.clock + 1 = (let y = counts in omega (arith, y)) in
      ap (λ k. sends_of (length (history C r)) d s.acts ++ send_at k d a []) z)

  pub RankStands-waits : (x : Waiting) (made : ℕ) (inbox : Mailbox) (log : List BacklogValue)
      → IsFor (continue C r s.acts) r a x
      → MissesNoneShown start (continue C r s.acts) r a
      → state_of m ≡ next (state_of v.rank.machine) a o
      → length inbox.accepted ≡ n
      → InboxStands inbox (λ q. sent C q r) (take v.rank.clock (history (continue C r s.acts) r) ++ (a, o) ∷ [])
      → length log ≡ n
      → LogsStand r (history C r) (v.rank.clock + 1) (s.acts ++ a ∷ []) log
      → RankStands start n C r (record { rank = after_act v.rank m made inbox log x; left = [] })
  RankStands-waits x made inbox log is_for fair state counted box logged logs =
      record {
        number = s.number;
        size = s.size;
        acts = s.acts ++ a ∷ [];
        pending =
            subst (λ z. Pending start C r (s.acts ++ a ∷ []) z)
            (sym (drop-append-le v.rank.stored v.rank.pending (x ∷ []) (begins_within v.rank.stored v.rank.pending s.stored)))
            (Pending-push start C r s.acts (unpassed v.rank) a x s.pending can is_for fair);
        stored = begins_push v.rank.stored v.rank.pending x s.stored;
        all_made = inr (rw (more, length_push (history (continue C r s.acts) r) (a, o)) (ap (λ z. z + 1) clock));
        left =
            rw more (sym (ap (λ z. events_from (v.rank.clock + 1) z)
            (drop_beyond (v.rank.clock + 1) ((history (continue C r s.acts) r) ++ (a, o) ∷ [])
            (rw (length_push (history (continue C r s.acts) r) (a, o)) (omega (arith, clock))))));
        logs = logs;
        at =
            rw more (StandsIn-next (start r) n r (λ q. sent C q r)
            ((history (continue C r s.acts) r) ++ (a, o) ∷ []) v.rank.clock v.rank.machine m v.rank.inbox inbox v.rank.log log a o []
            (subst (λ z. drop z ((history (continue C r s.acts) r) ++ (a, o) ∷ []) ≡ (a, o) ∷ []) (sym clock)
            (drop_own (history (continue C r s.acts) r) ((a, o) ∷ [])))
            makes state counted (rw same box) logged
            (StandsIn-later (start r) n r (λ q. sent C q r) (history (continue C r s.acts) r) ((history (continue C r s.acts) r) ++ (a, o) ∷ [])
            ((a, o) ∷ []) v.rank.clock v.rank.machine v.rank.inbox v.rank.log refl s.at));
      }

  -- a send that isn't one leaves the log
  same_logs : ((d : ℕ) → send_at (v.rank.clock + 1) d a [] ≡ []) → LogsStand r (history C r) (v.rank.clock + 1) (s.acts ++ a ∷ []) v.rank.log
  same_logs none d b e =
      subst (λ z. LogStands r (sends_from 0 d z) (sends_of (length (history C r)) d (s.acts ++ a ∷ [])) b) before_it
      (subst (λ z. LogStands r (sends_from 0 d (take v.rank.clock (history C r))) z b)
      (sym (sends_more d ∙ ap (λ z. sends_of (length (history C r)) d s.acts ++ z) (none d) ∙ append-nil _)) (s.logs d b e))

  -- a new event; how many its rank has made is told elsewhere
  pub RankStands-event : (x : EventValue) (inbox : Mailbox)
      → event_at (v.rank.clock + 1) a o ≡ Some x
      → MissesNoneShown start (continue C r s.acts) r a
      → state_of m ≡ next (state_of v.rank.machine) a o
      → length inbox.accepted ≡ n
      → InboxStands inbox (λ q. sent C q r) (take v.rank.clock (history (continue C r s.acts) r) ++ (a, o) ∷ [])
      → RankStands start n C r (record { rank = after_act v.rank m v.rank.made inbox v.rank.log (waits.Event x); left = [] })
  RankStands-event x inbox event fair state counted box =
      RankStands-waits (waits.Event x) v.rank.made inbox v.rank.log event_there fair
      state counted box s.at.logged (same_logs (λ d. event_sends_none (v.rank.clock + 1) d _ a o x event))
    where
      event_there : event_at (length (history (continue C r s.acts) r) + 1) a (looked_up (λ q. sent (continue C r s.acts) q r) a) ≡ Some x
      event_there = ap (λ z. event_at (length (history (continue C r s.acts) r) + 1) a z) found_there ∙ ap (λ z. event_at (z + 1) a o) (sym clock) ∙ event

  effect_inbox : IsEffect a → InboxStands v.rank.inbox (λ q. sent C q r) (take v.rank.clock (history (continue C r s.acts) r) ++ (a, o) ∷ [])
  effect_inbox e =
      InboxStands-noted v.rank.inbox (λ q. sent C q r) (take v.rank.clock (history (continue C r s.acts) r)) (a, o)
      (λ q j. effect_takes_none a q j e) (λ q j shows. absurd (effect_shows_none a q j e shows)) s.at.inbox

  -- a line that waits
  pub RankStands-line : (x : ℤ) → a ≡ prints x → state_of m ≡ next (state_of v.rank.machine) a o
      → RankStands start n C r (record { rank = after_wait v.rank m x; left = [] })
  RankStands-line x is state =
      RankStands-waits (waits.Line (v.rank.clock + 1) x) v.rank.made v.rank.inbox v.rank.log
      (subst (λ z. IsFor (continue C r s.acts) r z (waits.Line (v.rank.clock + 1) x)) (sym is) (refl, ap (λ z. z + 1) clock))
      (effect_is_fair start (continue C r s.acts) r a (subst (λ z. IsEffect z) (sym is) tt))
      state s.at.counted (effect_inbox (subst (λ z. IsEffect z) (sym is) tt)) s.at.logged
      (same_logs (λ d. ap (λ z. send_at (v.rank.clock + 1) d z []) is))

  -- a send that waits
  pub RankStands-hold : (d : ℕ) (context : Context) (t : ℕ) → a ≡ sends d context t (payload (state_of v.rank.machine))
      → state_of m ≡ next (state_of v.rank.machine) a o
      → length (slice_set v.rank.log d (hold (backlog v.rank.log d) (message_of v.rank d context t))) ≡ n
      → RankStands start n C r (record { rank = after_hold v.rank m d context t; left = [] })
  RankStands-hold d context t is state logged =
      RankStands-waits (waits.Send d (v.rank.clock + 1)) v.rank.made v.rank.inbox (slice_set v.rank.log d (hold (backlog v.rank.log d) p))
      (subst (λ z. IsFor (continue C r s.acts) r z (waits.Send d (v.rank.clock + 1))) (sym is) (refl, ap (λ z. z + 1) clock))
      (effect_is_fair start (continue C r s.acts) r a (subst (λ z. IsEffect z) (sym is) tt))
      state s.at.counted (effect_inbox (subst (λ z. IsEffect z) (sym is) tt)) logged
      (replaced_keeps (λ e b. LogStands r (sends_from 0 e (take (v.rank.clock + 1) (history C r)))
      (sends_of (length (history C r)) e (s.acts ++ a ∷ [])) b) v.rank.log d (hold (backlog v.rank.log d) p) others own)
    where
      p : packet.PacketValue
      p = message_of v.rank d context t

      messages : (e : ℕ)
          → sends_of (length (history C r)) e (s.acts ++ a ∷ [])
          ≡ sends_of (length (history C r)) e s.acts
          ++ cons_if (d == e) (record { clock = v.rank.clock + 1; context = context; tag = t; items = payload (state_of v.rank.machine) }) []
      messages e = sends_more e ∙ ap (λ z. sends_of (length (history C r)) e s.acts ++ send_at (v.rank.clock + 1) e z []) is

      others : (e : ℕ) (b : BacklogValue) → (e ≡ d → ⊥) → slice_get v.rank.log e ≡ Some b
          → LogStands r (sends_from 0 e (take (v.rank.clock + 1) (history C r))) (sends_of (length (history C r)) e (s.acts ++ a ∷ [])) b
      others e b ne at =
          subst (λ z. LogStands r (sends_from 0 e z) (sends_of (length (history C r)) e (s.acts ++ a ∷ [])) b) before_it
          (subst (λ z. LogStands r (sends_from 0 e (take v.rank.clock (history C r))) z b)
          (sym (messages e ∙ ap (λ z. sends_of (length (history C r)) e s.acts ++ cons_if z
          (record { clock = v.rank.clock + 1; context = context; tag = t; items = payload (state_of v.rank.machine) }) [])
          (ne_eqb d e (λ z. ne (sym z))) ∙ append-nil _))
          (s.logs e b at))

      own : (b : BacklogValue) → slice_get v.rank.log d ≡ Some b
          → LogStands r (sends_from 0 d (take (v.rank.clock + 1) (history C r)))
          (sends_of (length (history C r)) d (s.acts ++ a ∷ [])) (hold (backlog v.rank.log d) p)
      own b at =
          let had : backlog v.rank.log d ≡ b = get_or_from_slice_get v.rank.log d b new_backlog at in
          subst (λ z. LogStands r (sends_from 0 d z) (sends_of (length (history C r)) d (s.acts ++ a ∷ [])) (hold (backlog v.rank.log d) p)) before_it
          (subst (λ z. LogStands r (sends_from 0 d (take v.rank.clock (history C r))) z (hold (backlog v.rank.log d) p))
          (sym (messages d ∙ ap (λ z. sends_of (length (history C r)) d s.acts ++ cons_if z
          (record { clock = v.rank.clock + 1; context = context; tag = t; items = payload (state_of v.rank.machine) }) []) (eq-eqb d d refl)))
          (LogStands-held r (sends_from 0 d (take v.rank.clock (history C r))) (sends_of (length (history C r)) d s.acts) (backlog v.rank.log d) p s.number refl
          (subst (λ z. LogStands r (sends_from 0 d (take v.rank.clock (history C r))) (sends_of (length (history C r)) d s.acts) z) (sym had) (s.logs d b at))))
