-- A step of a rank that runs keeps what a world stands for: ahead of the run, at it or behind it.
use Rattle.std.proofs.Common.{◌≡◌, ℕ, ℤ, ◌+◌, ◌<◌, ◌≤◌, ◌⊎◌, inl, inr, ⊎_elim, Bool, true, false, if◌then◌else◌, MatchBool, List, [], ◌∷◌}
use Rattle.std.proofs.Common.{◌++◌, Option, Some, None, length, take, drop, refl, sym, ap, subst, ◌∙◌, arith, slice_get, slice_set}
use Rattle.std.proofs.Common.{position}
use Rattle.std.proofs.lemmas.Bool.{cases_lt}
use Rattle.std.proofs.lemmas.List.{length-set}
use Rattle.event_logger.specs.Sequential.Event.{EventValue}
use Rattle.matching.specs.declared.packet.Context.{Context}
use Rattle.matching.specs.Matching.{matches}
use Rattle.payload_log.specs.Backlog.{BacklogValue, backlog, saved}
use Rattle.matching.specs.declared.line.Line.{Line}
use Rattle.ports.specs.Console.{after_line}
use Rattle.rank_machine.specs.States.{inner}
use Rattle.rank_machine.specs.Wants.{wants, payload}
use Rattle.rank_machine.specs.Acts.{Act, Message, sends, takes, hits, misses, prints, Fits, Makes, Runs, next}
use Rattle.rank_machine.specs.Machine.{MachineValue, state_of, machine_want}
use Rattle.rank_machine.specs.declared.want.Want.{Want}
use Rattle.rank_machine.specs.declared.want.Want.TheVariants as want
use Rattle.rank_machine.proofs.Making.{makes_sent, makes_printed}
use Rattle.rank_node.specs.Waiting.{is_settled, has_room}
use Rattle.rank_node.specs.declared.turn.Turn.TheVariants.{Moved, Held}
use Rattle.rank_node.specs.Steps.{turn_at, MachineStepAt, DidAct}
use Rattle.rank_node.specs.Steps.{message_of, after_send, after_print, made_send, made_print}
use Rattle.rank_node.specs.Steps.{after_hold, after_wait, with_machine}
use Rattle.crash_free.specs.Runs.{Passed, history, sent, printed, sends_from, IsFree, continue}
use Rattle.crash_free.proofs.Going.{free_silent, sent_grows}
use Rattle.crash_free.proofs.Lists.{history-own}
use Rattle.bare_world.specs.Rows.{event_at, events_from, cons_some}
use Rattle.bare_world.specs.World.{Live, WorldValue, IsLive}
use Rattle.bare_world.specs.Headline.{lines_of}
use Rattle.bare_world.specs.Follows.{passed_at, lines_after, effect_at}
use Rattle.rank_node.specs.declared.waiting.Waiting.{Waiting}
use Rattle.rank_node.proofs.Again.{settled_nil}
use Rattle.bare_world.specs.Stands.{InboxStands, LogStands, LogsStand, StandsIn, RankStands, start_at, StandsAt}
use Rattle.bare_world.proofs.Rows.{IsEffect, row_of_effect, effect_finds, effect_takes_none}
use Rattle.bare_world.proofs.Standing.Inboxes.{InboxStands-noted, InboxStands-longer}
use Rattle.bare_world.proofs.Standing.FairMisses.{effect_shows_none, effect_is_fair}
use Rattle.bare_world.proofs.Standing.Lines.{lines_after_print, printed_same}
use Rattle.bare_world.proofs.Lists.Beginnings.{take_whole, take_append, next_of_drop, drop_own}
use Rattle.bare_world.proofs.Standing.InRun.{StandsIn-moved, next_act, run_reaches}
use Rattle.bare_world.proofs.Standing.LiveRanks.{at_run, left_run, logs_run, RankStands-settled, RankStands-same_clock, RankStands-again, RankStands-passed_by}
use Rattle.bare_world.proofs.Standing.LiveRanks.{after_again}
use Rattle.bare_world.proofs.Runs.ActFitsWant.{wanted, stopped}
use Rattle.bare_world.proofs.Standing.ReplayParts.{logs_saved, logs_quiet}
use Rattle.bare_world.proofs.Standing.StepsAtWork.{RankStands-line, RankStands-hold}
use Rattle.bare_world.proofs.Standing.PassesOnce.{passed_again, passed_first, print_again}
use Rattle.bare_world.proofs.Standing.Worlds.{changed, Stands-passed}
use Rattle.bare_world.proofs.Standing.KeptByNewEvents.{plain_step_at, alone, stays, Stands-still, finding, probing, trying}
use Rattle.audit.proofs.Fitting.{send_fits, print_fits}

-- or something does
unsettled : (pending : List Waiting) → is_settled pending ≡ false → pending ≡ [] → ⊥
unsettled [] e f = cc
unsettled (x ∷ xs) e f = cc

module _ (n : ℕ) (w : WorldValue) (r : ℕ) (v : Live) (m : MachineValue) (s : StandsAt n w) (live : IsLive w r v) (lt : r < n) (running : v.left ≡ []) where
  none_of : v.rank.pending ≡ [] → (s.ranks r v live).acts ≡ []
  none_of settled = RankStands-settled (start_at w n) n w.run r v (s.ranks r v live) settled

  at : v.rank.pending ≡ [] → StandsIn (start_at w n r) n r (λ q. sent w.run q r) (history w.run r) v.rank.clock v.rank.machine v.rank.inbox v.rank.log
  at settled = at_run (start_at w n) n w.run r v (s.ranks r v live) (none_of settled)

  logs_of : v.rank.pending ≡ [] → LogsStand r (history w.run r) v.rank.clock [] v.rank.log
  logs_of settled = logs_run (start_at w n) n w.run r v (s.ranks r v live) (none_of settled)

  -- A send or a print that passes the gate: where its rank is behind the run it is the run's next act, made again; else it
  -- goes on the run.
  effect : (a : Act) (log : List BacklogValue) (lines : List Line)
      → v.rank.pending ≡ []
      → ((a' : Act) (o' : Option Message) → Makes (state_of v.rank.machine) a' o' → (a' ≡ a) × (o' ≡ None))
      → inner (state_of v.rank.machine) ≡ None
      → Makes (state_of v.rank.machine) a None
      → IsEffect a
      → state_of m ≡ next (state_of v.rank.machine) a None
      → length log ≡ n
      → ((d : ℕ) (b : BacklogValue) → slice_get log d ≡ Some b → LogStands r (sends_from 0 d (take v.rank.clock (history w.run r) ++ (a, None) ∷ [])) [] b)
      → (slice_get (history w.run r) v.rank.clock ≡ Some (a, None) → lines ≡ w.lines)
      → (v.rank.clock ≡ length (history w.run r) → (q : ℕ) → lines_of q lines ≡ printed (record { rank = r; act = a } ∷ w.run) q)
      → StandsAt n (changed w r (Some (record { rank = after_again v.rank m v.rank.inbox log; left = [] })) w.images w.logger lines
      (passed_at w.run r (v.rank.clock + 1) (Some a)))
  effect a log lines settled only stop makes is_effect state logged logs again first = go (cases_lt v.rank.clock (length (history w.run r)))
    where
      C' : List Passed
      C' = record { rank = r; act = a } ∷ w.run

      after : Live
      after = record { rank = after_again v.rank m v.rank.inbox log; left = [] }

      box : InboxStands v.rank.inbox (λ q. sent w.run q r) (take v.rank.clock (history w.run r) ++ (a, None) ∷ [])
      box =
          InboxStands-noted v.rank.inbox (λ q. sent w.run q r) (take v.rank.clock (history w.run r)) (a, None)
          (λ q j. effect_takes_none a q j is_effect) (λ q j shows. absurd (effect_shows_none a q j is_effect shows)) (at settled).inbox

      repeats : v.rank.clock < length (history w.run r)
          → StandsAt n (changed w r (Some (record { rank = after_again v.rank m v.rank.inbox log; left = [] })) w.images w.logger lines
          (passed_at w.run r (v.rank.clock + 1) (Some a)))
      repeats l =
          let z = run_reaches (start_at w n) n w.run r s.is_run in
          let x = next_act (start_at w n r) n r (λ q. sent w.run q r) (history w.run r)
          v.rank.clock v.rank.machine v.rank.inbox v.rank.log z.0 z.1 l stop (at settled) in
          let same = only x.act x.message x.makes in
          let is : drop v.rank.clock (history w.run r) ≡ (a, None) ∷ x.rest =
          x.is_next ∙ ap (λ y. (y, x.message) ∷ x.rest) same.0 ∙ ap (λ y. (a, y) ∷ x.rest) same.1 in
          subst (λ y. StandsAt n (changed w r (Some (record { rank = after_again v.rank m v.rank.inbox log; left = [] })) w.images w.logger y
          (passed_at w.run r (v.rank.clock + 1) (Some a))))
          (sym (again (next_of_drop v.rank.clock (history w.run r) (a, None) x.rest is).there))
          (subst (λ y. StandsAt n (changed w r (Some (record { rank = after_again v.rank m v.rank.inbox log; left = [] })) w.images w.logger w.lines y))
          (sym (passed_again w.run r v.rank.clock (Some a) l))
          (alone n w r v m s live lt running (after_again v.rank m v.rank.inbox log)
          (RankStands-again (start_at w n) n w.run r v (s.ranks r v live) m v.rank.inbox log a None x.rest [] settled is makes state
          (at settled).counted box logged logs
          (nothing (event_at (v.rank.clock + 1) a None) (events_from (v.rank.clock + 1) x.rest)
          (sym running ∙ left_run (start_at w n) n w.run r v (s.ranks r v live) (none_of settled) ∙ ap (λ y. events_from v.rank.clock y) is)))))
        where
          nothing : (o : Option EventValue) (es : List EventValue) → [] ≡ cons_some o es → [] ≡ es
          nothing None es e = e
          nothing (Some y) es e = absurd cc

      passes : v.rank.clock ≡ length (history w.run r)
          → StandsAt n (changed w r (Some (record { rank = after_again v.rank m v.rank.inbox log; left = [] })) w.images w.logger lines
          (passed_at w.run r (v.rank.clock + 1) (Some a)))
      passes clock =
          subst (λ y. StandsAt n (changed w r (Some (record { rank = after_again v.rank m v.rank.inbox log; left = [] })) w.images w.logger lines y))
          (sym (passed_first w.run r v.rank.clock a clock))
          (Stands-passed n w r a (record { rank = after_again v.rank m v.rank.inbox log; left = [] }) w.logger lines s lt
          (record {
            after = (at settled).after;
            stands = state_of v.rank.machine;
            reached = subst (λ y. Runs (start_at w n r) y (at settled).after) whole (at settled).reached;
            inner = (at settled).inner;
            makes = rw (effect_finds (λ q. sent w.run q r) a is_effect) makes;
            free = free_effect a is_effect;
          })
          (effect_is_fair (start_at w n) w.run r a is_effect)
          there
          s.as_many_rows
          (λ q x e. s.rows q x e ∙ sym (row_of_effect w.run r q a is_effect))
          (first clock))
        where
          whole : take v.rank.clock (history w.run r) ≡ history w.run r
          whole = subst (λ z. take z (history w.run r) ≡ history w.run r) (sym clock) (take_whole (history w.run r))

          free_effect : (a : Act) → IsEffect a → IsFree (wants (state_of v.rank.machine)) a (λ q. sent w.run q r) (history w.run r)
          free_effect (sends d c t items) e = free_silent (wants (state_of v.rank.machine)) (sends d c t items) (λ q. sent w.run q r) (history w.run r) tt
          free_effect (prints x) e = free_silent (wants (state_of v.rank.machine)) (prints x) (λ q. sent w.run q r) (history w.run r) tt
          free_effect (takes q j) e = absurd e
          free_effect (hits q j) e = absurd e
          free_effect misses e = absurd e

          own : history (record { rank = r; act = a } ∷ w.run) r ≡ history w.run r ++ (a, None) ∷ []
          own = history-own w.run r a ∙ ap (λ o. history w.run r ++ (a, o) ∷ []) (effect_finds (λ q. sent w.run q r) a is_effect)

          is : drop v.rank.clock (history (record { rank = r; act = a } ∷ w.run) r) ≡ (a, None) ∷ []
          is =
              ap (λ z. drop v.rank.clock z) own ∙ subst (λ z. drop z (history w.run r ++ (a, None) ∷ []) ≡ (a, None) ∷ []) (sym clock)
              (drop_own (history w.run r) ((a, None) ∷ []))

          same : take v.rank.clock (history (record { rank = r; act = a } ∷ w.run) r) ≡ take v.rank.clock (history w.run r)
          same = ap (λ z. take v.rank.clock z) own ∙ take_append v.rank.clock (history w.run r) ((a, None) ∷ []) (at settled).within

          now_behind : RankStands (start_at w n) n (record { rank = r; act = a } ∷ w.run) r v
          now_behind = RankStands-passed_by (start_at w n) n w.run r v (s.ranks r v live) a settled clock running is_effect

          there : RankStands (start_at w n) n (record { rank = r; act = a } ∷ w.run) r (record { rank = after_again v.rank m v.rank.inbox log; left = [] })
          there =
              RankStands-again (start_at w n) n (record { rank = r; act = a } ∷ w.run) r v now_behind m v.rank.inbox log a None [] []
              settled is makes state (at settled).counted
              (rw same (InboxStands-longer v.rank.inbox (λ q. sent w.run q r) (λ q. sent (record { rank = r; act = a } ∷ w.run) q r)
              (take v.rank.clock (history w.run r) ++ (a, None) ∷ []) (λ q. sent_grows w.run (record { rank = r; act = a }) q r) box))
              logged (λ d b e. rw same (logs d b e)) refl

      go : (v.rank.clock < length (history w.run r)) ⊎ (length (history w.run r) ≤ v.rank.clock)
          → StandsAt n (changed w r (Some (record { rank = after_again v.rank m v.rank.inbox log; left = [] })) w.images w.logger lines
          (passed_at w.run r (v.rank.clock + 1) (Some a)))
      go (inl l) = repeats l
      go (inr l) = passes (let i = (at settled).within in omega (arith, l, i))

  sending : (d : ℕ) (c : Context) (t : ℕ) → machine_want v.rank.machine ≡ want.Send d c t → DidAct v.rank.machine m → v.rank.pending ≡ []
      → StandsAt n (changed w r (Some (record { rank = after_send v.rank m d c t; left = [] })) w.images w.logger w.lines
      (passed_at w.run r (v.rank.clock + 1) (Some (sends d c t (payload (state_of v.rank.machine))))))
  sending d c t e did settled =
      effect (sends d c t (payload (state_of v.rank.machine))) (slice_set v.rank.log d (saved (backlog v.rank.log d) (message_of v.rank d c t))) w.lines settled
      (λ a' o' h. send_fits d c t (payload (state_of v.rank.machine)) a' o'
      (subst (λ z. Fits z (payload (state_of v.rank.machine)) a' o') (wanted v.rank.machine (want.Send d c t) e (λ z. cc)) h))
      (stopped v.rank.machine (want.Send d c t) e (λ z. cc))
      (makes_sent v.rank.machine d c t e) tt
      (did.state (sends d c t (payload (state_of v.rank.machine))) None (makes_sent v.rank.machine d c t e))
      (length-set v.rank.log d _ ∙ (at settled).logged)
      (logs_saved r (history w.run r) v.rank d c t (s.ranks r v live).number (at settled).within (logs_of settled))
      (λ z. refl)
      (λ clock q. s.lines q ∙ sym (printed_same w.run r q (sends d c t (payload (state_of v.rank.machine))) refl))

  printing : (x : ℤ) → machine_want v.rank.machine ≡ want.Print x → DidAct v.rank.machine m → v.rank.pending ≡ []
      → StandsAt n (changed w r (Some (record { rank = after_print v.rank m; left = [] })) w.images w.logger
      (after_line w.lines r (v.rank.clock + 1) x) (passed_at w.run r (v.rank.clock + 1) (Some (prints x))))
  printing x e did settled =
      effect (prints x) v.rank.log (after_line w.lines r (v.rank.clock + 1) x) settled
      (λ a' o' h. print_fits x (payload (state_of v.rank.machine)) a' o'
      (subst (λ z. Fits z (payload (state_of v.rank.machine)) a' o') (wanted v.rank.machine (want.Print x) e (λ z. cc)) h))
      (stopped v.rank.machine (want.Print x) e (λ z. cc))
      (makes_printed v.rank.machine x e) tt
      (did.state (prints x) None (makes_printed v.rank.machine x e))
      (at settled).logged
      (logs_quiet r (history w.run r) v.rank (prints x) None (λ c d. refl) (logs_of settled))
      (λ there. print_again w.run r v.rank.clock w.lines x None (s.lines r) there)
      (λ clock. lines_after_print w.lines w.run r v.rank.clock x clock s.lines)

  -- A send or a print behind something that waits: its rank has made all acts of the run and those that wait, and the
  -- act waits too.
  all_made : (v.rank.pending ≡ [] → ⊥) → v.rank.clock ≡ length (history (continue w.run r (s.ranks r v live).acts) r)
  all_made some = ⊎_elim (λ z. absurd (some z)) (λ z. z) (s.ranks r v live).all_made

  holding : (d : ℕ) (c : Context) (t : ℕ) → machine_want v.rank.machine ≡ want.Send d c t → DidAct v.rank.machine m → (v.rank.pending ≡ [] → ⊥)
      → StandsAt n (changed w r (Some (record { rank = after_hold v.rank m d c t; left = [] })) w.images w.logger w.lines w.run)
  holding d c t e did some =
      alone n w r v m s live lt running (after_hold v.rank m d c t)
      (RankStands-hold (start_at w n) n w.run r v (s.ranks r v live) (sends d c t (payload (state_of v.rank.machine))) None m running (all_made some)
      (makes_sent v.rank.machine d c t e) refl
      (free_silent (wants (state_of v.rank.machine)) (sends d c t (payload (state_of v.rank.machine))) (λ q. sent w.run q r)
      (history (continue w.run r (s.ranks r v live).acts) r) tt)
      d c t refl (did.state (sends d c t (payload (state_of v.rank.machine))) None (makes_sent v.rank.machine d c t e))
      (length-set v.rank.log d _ ∙ (s.ranks r v live).at.logged))

  waiting : (x : ℤ) → machine_want v.rank.machine ≡ want.Print x → DidAct v.rank.machine m → (v.rank.pending ≡ [] → ⊥)
      → StandsAt n (changed w r (Some (record { rank = after_wait v.rank m x; left = [] })) w.images w.logger w.lines w.run)
  waiting x e did some =
      alone n w r v m s live lt running (after_wait v.rank m x)
      (RankStands-line (start_at w n) n w.run r v (s.ranks r v live) (prints x) None m running (all_made some)
      (makes_printed v.rank.machine x e) refl
      (free_silent (wants (state_of v.rank.machine)) (prints x) (λ q. sent w.run q r) (history (continue w.run r (s.ranks r v live).acts) r) tt)
      x refl (did.state (prints x) None (makes_printed v.rank.machine x e)))

  -- a step
  pub stepping : (x : Want) → machine_want v.rank.machine ≡ x → MachineStepAt v.rank x m
      → StandsAt n (changed w r (Some (record { rank = plain_step_at v.rank x m; left = [] })) w.images w.logger
      (lines_after w.lines r v.rank x (turn_at v.rank x))
      (passed_at w.run r (v.rank.clock + 1) (effect_at v.rank x (turn_at v.rank x))))
  stepping want.Internal e steps =
      let unmoved = stays n w r v m s live lt running in
      alone n w r v m s live lt running (with_machine v.rank m)
      (RankStands-same_clock (start_at w n) n w.run r (record { rank = v.rank; left = [] })
      unmoved v.rank.stable m v.rank.inbox v.rank.log v.rank.dues unmoved.number unmoved.size unmoved.logs
      (StandsIn-moved (start_at w n r) n r (λ q. sent w.run q r) _ v.rank.clock v.rank.machine m v.rank.inbox v.rank.log steps.state unmoved.at))
  stepping (want.Send d c t) e steps = room (has_room v.rank.pending) steps
    where
      gate : (b : Bool) → is_settled v.rank.pending ≡ b → DidAct v.rank.machine m
          → StandsAt n (changed w r (Some (record { rank = if b then after_send v.rank m d c t else after_hold v.rank m d c t; left = [] }))
          w.images w.logger w.lines
          (passed_at w.run r (v.rank.clock + 1) (if b then Some (sends d c t (payload (state_of v.rank.machine))) else None)))
      gate true q did = sending d c t e did (settled_nil v.rank.pending q)
      gate false q did = holding d c t e did (unsettled v.rank.pending q)

      room : (b : Bool) → MatchBool b (DidAct v.rank.machine m) (m ≡ v.rank.machine)
          → StandsAt n (changed w r (Some (record { rank = if b then made_send v.rank m d c t else v.rank; left = [] })) w.images w.logger
          (lines_after w.lines r v.rank (want.Send d c t) (if b then Moved else Held))
          (passed_at w.run r (v.rank.clock + 1) (effect_at v.rank (want.Send d c t) (if b then Moved else Held))))
      room true did = gate (is_settled v.rank.pending) refl did
      room false did = Stands-still n w r v m s live lt running
  stepping (want.Print x) e steps = room (has_room v.rank.pending) steps
    where
      gate : (b : Bool) → is_settled v.rank.pending ≡ b → DidAct v.rank.machine m
          → StandsAt n (changed w r (Some (record { rank = if b then after_print v.rank m else after_wait v.rank m x; left = [] })) w.images w.logger
          (if b then after_line w.lines r (v.rank.clock + 1) x else w.lines)
          (passed_at w.run r (v.rank.clock + 1) (if b then Some (prints x) else None)))
      gate true q did = printing x e did (settled_nil v.rank.pending q)
      gate false q did = waiting x e did (unsettled v.rank.pending q)

      room : (b : Bool) → MatchBool b (DidAct v.rank.machine m) (m ≡ v.rank.machine)
          → StandsAt n (changed w r (Some (record { rank = if b then made_print v.rank m x else v.rank; left = [] })) w.images w.logger
          (lines_after w.lines r v.rank (want.Print x) (if b then Moved else Held))
          (passed_at w.run r (v.rank.clock + 1) (effect_at v.rank (want.Print x) (if b then Moved else Held))))
      room true did = gate (is_settled v.rank.pending) refl did
      room false did = Stands-still n w r v m s live lt running
  stepping (want.Receive selector) e steps =
      finding n w r v m s live lt running selector e (position (matches selector) v.rank.inbox.packets) refl steps
  stepping (want.Probe selector) e steps =
      probing n w r v m s live lt running selector e (position (matches selector) v.rank.inbox.packets) refl steps
  stepping (want.TryProbe selector) e steps =
      trying n w r v m s live lt running selector e (position (matches selector) v.rank.inbox.packets) refl steps
  stepping want.Halted e steps = Stands-still n w r v m s live lt running
  stepping (want.Faulted q) e steps = Stands-still n w r v m s live lt running
