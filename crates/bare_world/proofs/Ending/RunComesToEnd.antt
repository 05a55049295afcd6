-- As long as some act may follow the run of a world it goes on; so where each way on comes to an end, so does the world.
use Rattle.std.proofs.Common.{◌≡◌, ℕ, suc, ◌+◌, ◌<◌, ◌≤◌, ◌⊎◌, inl, inr, List, [], ◌∷◌, ◌++◌, length, refl, sym, ap, subst, ◌∙◌, arith, take, append_assoc}
use Rattle.std.proofs.Common.{Some, slice_index_or}
use Rattle.std.proofs.lemmas.Bool.{cases_lt}
use Rattle.std.proofs.lemmas.List.{length-append}
use Rattle.std.proofs.lemmas.Option.{slice_get_within, slice_get-get_or}
use Rattle.limits.specs.Limits.{greatest_clock, most_events}
use Rattle.event_logger.specs.Sequential.Event.{EventValue}
use Rattle.event_logger.specs.Sequential.Misses.{expand, parts_of}
use Rattle.rank_node.specs.Waiting.{events_in}
use Rattle.matching.specs.Inbox.{accepted_from}
use Rattle.rank_language.specs.Program.{ProgramValue}
use Rattle.rank_machine.specs.States as states
use Rattle.rank_machine.specs.States.{State, Inners}
use Rattle.rank_machine.specs.Acts.{Act, Runs}
use Rattle.rank_machine.specs.Machine.{state_of}
use Rattle.rank_machine.proofs.Determined.{still, same_runs}
use Rattle.crash_free.specs.Runs.{Passed, history, sent, sends_from, MayMake, IsRun}
use Rattle.audit.specs.FinalRuns.Maximal.{MayFollow, IsMaximal}
use Rattle.bare_world.specs.World.{Live, WorldValue, size, start_of, IsLive}
use Rattle.bare_world.specs.Rows.{row}
use Rattle.bare_world.specs.Plain.{plain, AllCounted}
use Rattle.bare_world.specs.Stands.{start_at, RankStands, StandsIn}
use Rattle.bare_world.specs.Onward.{IsWorld}
use Rattle.bare_world.specs.Stocked.{IsStocked}
use Rattle.bare_world.specs.Measures.{StopsAfter, steps_of}
use Rattle.bare_world.specs.ToTheEnd.{IsWithin, AllEnd, ends, on, StaysWithin, IsLonger, CanGoOn, HasEnded, ComesToTheEnd}
use Rattle.bare_world.proofs.Lists.Beginnings.{take_whole}
use Rattle.bare_world.proofs.Standing.LiveRanks.{RankStands-settled, at_run, nothing_unpassed}
use Rattle.bare_world.proofs.Plain.ActsOfEvents.{first_part}
use Rattle.bare_world.proofs.Headline.{stands_for}
use Rattle.bare_world.proofs.Plain.Ranks.{none_waits_plainly}
use Rattle.bare_world.proofs.Plain.Worlds.{rank_of, row_of, as_many_rows}
use Rattle.bare_world.proofs.Calls.OldestUnstored.{sends_none}
use Rattle.bare_world.proofs.Again.InnerStepsEnd.{stops_from}
use Rattle.bare_world.proofs.Way.EventIsPossible.{live_lines}
use Rattle.bare_world.proofs.Ending.NeedsNothingLost.{leads_from}
use Rattle.bare_world.proofs.Ending.LeadsOn.{Led, led_more}
use Rattle.bare_world.proofs.Ending.CoursesAreAlike.{always_stands, always_ends}
use Rattle.bare_world.proofs.Ending.GatesOpen.{Goes, goes_first}
use Rattle.bare_world.proofs.Ending.AllAreSettled.{SettledSoon, settles}
use Rattle.bare_world.proofs.Ending.ActIsMade.{Poised, act_goes}
use Rattle.bare_world.proofs.Ending.FramesKeepSettled.{Milder, HasFrom, settled_milder}
use Rattle.bare_world.proofs.Ending.AllSentArrives.{mailed}

-- ---- some act may follow

-- a settled rank that may make an act comes to it
comes : (w : WorldValue) (r : ℕ) (v : Live) (act : Act) → IsWorld w → IsLive w r v → v.rank.pending ≡ [] → v.rank.clock ≡ length (history w.run r)
    → MayMake (start_of w r) (λ s. sent w.run s r) (history w.run r) act → (k : ℕ) × StopsAfter k (state_of v.rank.machine)
comes w r v act i live none clock may = stops_from may.after (state_of v.rank.machine) may.stands inners may.inner (still may.stands act _ may.makes)
  where
    s : RankStands (start_at w (size w)) (size w) w.run r (plain v)
    s = rank_of i.stands r v live

    at : StandsIn (start_at w (size w) r) (size w) r (λ q. sent w.run q r) (history w.run r) v.rank.clock v.rank.machine v.rank.inbox v.rank.log
    at =
        at_run (start_at w (size w)) (size w) w.run r (plain v) s
        (RankStands-settled (start_at w (size w)) (size w) w.run r (plain v) s (none_waits_plainly v none))

    inners : Inners may.after (state_of v.rank.machine)
    inners =
        subst (λ z. Inners z (state_of v.rank.machine))
        (same_runs (start_of w r) at.after may.after (history w.run r)
        (subst (λ h. Runs (start_of w r) h at.after) (ap (λ c. take c (history w.run r)) clock ∙ take_whole (history w.run r)) at.reached) may.reached)
        at.inner

-- the same act after the same run of the same program
abbrev May : ProgramValue → ℕ → List Passed → ℕ → Act → Type 0
May p n C r act = MayMake (states.opening p r n) (λ s. sent C s r) (history C r) act

-- of a world with all of that
may_at : (w : WorldValue) (p : ProgramValue) (n : ℕ) (C : List Passed) (r : ℕ) (act : Act) → w.program ≡ p → size w ≡ n → w.run ≡ C → May p n C r act
    → May w.program (size w) w.run r act
may_at w p n C r act a b c m =
    subst (λ z. May z (size w) w.run r act) (sym a) (subst (λ z. May p z w.run r act) (sym b) (subst (λ z. May p n z r act) (sym c) m))

-- a row stands for no fewer acts than it has events
row_low : (es : List EventValue) → AllCounted es → length es ≤ length (expand es)
row_low [] all = omega arith
row_low (e ∷ es) all =
    let f = first_part e (all 0 e refl) in
    let a = ap length f.parts in
    let b = length-append (parts_of e) (expand es) in
    let c = row_low es (λ k x at. all (suc k) x at) in
    omega (arith, a, b, c)

-- where nothing waits a rank has made no more events than acts of the run that have one
made_low : (w : WorldValue) (r : ℕ) (v : Live) → IsWorld w → IsLive w r v → v.rank.pending ≡ [] → v.rank.made ≤ length (row w.run r)
made_low w r v i live none =
    let l = slice_get_within w.ranks r (Some v) live in
    let n = as_many_rows i.stands in
    let at = slice_get-get_or w.logger.rows r [] (omega (arith, l, n)) in
    let made = (i.stands.counts.ranks r v (slice_index_or w.logger.rows r []) live at).made in
    let zero = ap (λ z. length (events_in z)) (nothing_unpassed v.rank none) in
    let low = row_low (slice_index_or w.logger.rows r []) (i.stands.runs.rows r (slice_index_or w.logger.rows r []) at) in
    let same = ap length (row_of i.stands r (slice_index_or w.logger.rows r []) at) in
    omega (arith, made, zero, low, same)

-- so some act is made
may_go : (w : WorldValue) (r : ℕ) (act : Act) → IsWorld w → IsStocked w → IsWithin w.run → MayFollow (start_of w) (size w) w.run r act → Goes w
may_go w r act i k within may = go (settles w i k)
  where
    go : Goes w ⊎ SettledSoon w → Goes w
    go (inl g) = g
    go (inr s) = goes_first w mail.0 (led_more w s.0 mail.0 s.1 mail.1.led)
        (act_goes (steps_of stop.0 v.0.rank.machine + 1) w.run (start_of w r) r act mail.0 v.0 may.1 poised)
      where
        n : size s.0 ≡ size w
        n = s.1.same_size

        mail : (w' : WorldValue) × Milder s.0 s.0 w' × ((q : ℕ) → q < size s.0 → HasFrom q r w')
        mail = (let l = may.0 in let m = s.1.same_size in mailed s.0 r s.1.is_world s.1.stocked s.3 (omega (arith, l, m)))

        run : mail.0.run ≡ w.run
        run = mail.1.run ∙ s.2

        many : size mail.0 ≡ size w
        many = mail.1.led.same_size ∙ s.1.same_size

        program : mail.0.program ≡ w.program
        program = mail.1.led.program ∙ s.1.program

        v : (v : Live) × IsLive mail.0 r v × (v.left ≡ []) × (v.rank.pending ≡ []) × (v.rank.clock ≡ length (history mail.0.run r))
        v = (let l = may.0 in let m = mail.1.led.same_size in let o = s.1.same_size in settled_milder s.0 s.0 mail.0 mail.1 s.3 r (omega (arith, l, m, o)))

        stop : (k : ℕ) × StopsAfter k (state_of v.0.rank.machine)
        stop = comes mail.0 r v.0 act mail.1.led.is_world v.1 v.3 v.4 (may_at mail.0 w.program (size w) w.run r act program many run may.1)

        early : v.0.rank.clock < greatest_clock
        early =
            let l = (within r).0 in
            let e = v.4 in
            let q = ap (λ C. length (history C r)) run in
            omega (arith, l, e, q)

        few : v.0.rank.made < most_events
        few =
            let l = (within r).1 in
            let m = made_low mail.0 r v.0 mail.1.led.is_world v.1 v.3 in
            let q = ap (λ C. length (row C r)) run in
            omega (arith, l, m, q)

        has : (q : ℕ) → length (sent w.run q r) ≤ accepted_from v.0.rank.inbox q
        has q = at (cases_lt q (size w))
          where
            at : (q < size w) ⊎ (size w ≤ q) → length (sent w.run q r) ≤ accepted_from v.0.rank.inbox q
            at (inl l) =
                let m = s.1.same_size in
                let h = mail.2 q (omega (arith, l, m)) v.0 v.1 in
                let e = ap (λ C. length (sent C q r)) run in
                omega (arith, h, e)
            at (inr l) =
                let e = ap (λ z. length (sends_from 0 r z)) (sends_none (start_at w (size w)) (size w) w.run q l i.stands.run.is_run) in
                omega (arith, e)

        poised : Poised w.run (start_of w r) r act (steps_of stop.0 v.0.rank.machine + 1) mail.0 v.0
        poised =
            record {
              is_world = mail.1.led.is_world;
              stocked = mail.1.led.stocked;
              run = run;
              start = ap (λ z. states.opening z r (size mail.0)) program ∙ ap (λ z. states.opening w.program r z) many;
              live = v.1;
              left = v.2;
              none = v.3;
              clock = v.4 ∙ ap (λ C. length (history C r)) run;
              early = early;
              few = few;
              has = has;
              nears = record {
                inner_steps = stop.0;
                stops = stop.1;
                lines = live_lines mail.0 r v.0 mail.1.led.stocked v.1;
                few = omega arith;
              };
            }

-- so the run gets longer
pub goes_on : (w : WorldValue) (r : ℕ) (act : Act) → IsWorld w → IsStocked w → IsWithin w.run → MayFollow (start_of w) (size w) w.run r act → CanGoOn w
goes_on w r act i k within may =
    let g = may_go w r act i k within may in
    record {
      events = g.1.events;
      after = g.0;
      leads = leads_from w w g.1.events g.0 g.1.leads;
      longer = g.2;
      stands = stands_for g.0 g.1.is_world.stands;
      always = always_stands w g.1.events g.0 g.1.leads g.1.is_world;
    }

-- ---- to the end

-- the first act that follows, and those behind it
first_of : (p : Passed) (late : List Passed) → (q : Passed) × (rest : List Passed) × (p ∷ late ≡ rest ++ q ∷ [])
first_of p [] = (p, [], refl)
first_of p (x ∷ late) = (let f = first_of x late in (f.0, p ∷ f.1, ap (λ z. p ∷ z) f.2))

-- it may follow
may_of : (start : ℕ → State) (n : ℕ) (C : List Passed) (q : Passed) (rest : List Passed) → IsRun start n (rest ++ q ∷ C) → MayFollow start n C q.rank q.act
may_of start n C q [] i = (i.1, i.2)
may_of start n C q (x ∷ rest) i = may_of start n C q rest i.0

-- a run that is longer than another goes on from it by an act that may follow
abbrev After : (ℕ → State) → ℕ → List Passed → List Passed → Type 0
After start n C D = (q : Passed) × (rest : List Passed) × (D ≡ rest ++ q ∷ C) × MayFollow start n C q.rank q.act

-- so it does
goes_after : (start : ℕ → State) (n : ℕ) (C D : List Passed) (p : Passed) (late : List Passed) → D ≡ p ∷ late ++ C → IsRun start n D → After start n C D
goes_after start n C D p late e i =
    let f = first_of p late in
    let same : D ≡ f.1 ++ f.0 ∷ C = e ∙ ap (λ z. z ++ C) f.2 ∙ append_assoc f.1 (f.0 ∷ []) C in
    (f.0, f.1, same, may_of start n C f.0 f.1 (subst (λ z. IsRun start n z) same i))

-- what stays within the limits does so after an act
stays_after : (start : ℕ → State) (n : ℕ) (C : List Passed) (q : Passed) → StaysWithin start n C → StaysWithin start n (q ∷ C)
stays_after start n C q stays late r act run may =
    let e = append_assoc late (q ∷ []) C in
    subst (λ D. IsWithin D) e
    (stays (late ++ q ∷ []) r act (subst (λ D. IsRun start n D) (sym e) run) (subst (λ D. MayFollow start n D r act) (sym e) may))

-- the world is of this program, and of so many ranks
record Of (p : ProgramValue) (n : ℕ) (w : WorldValue) : Type 0 where
  pub is_world : IsWorld w
  pub stocked : IsStocked w
  pub program : w.program ≡ p
  pub many : size w ≡ n

-- the states in which its ranks begin
abbrev begins : ProgramValue → ℕ → ℕ → State
begins p n r = states.opening p r n

-- so is a world that it leads to
of_led : (p : ProgramValue) (n : ℕ) (a b : WorldValue) → Of p n a → Led a b → Of p n b
of_led p n a b o f =
    record { is_world = f.is_world; stocked = f.stocked; program = f.program ∙ o.program; many = f.same_size ∙ o.many }

-- its run is one of theirs
run_of : (p : ProgramValue) (n : ℕ) (w : WorldValue) → Of p n w → IsRun (begins p n) n w.run
run_of p n w o =
    subst (λ z. IsRun (begins p z) z w.run) o.many (subst (λ z. IsRun (begins z (size w)) (size w) w.run) o.program o.is_world.stands.run.is_run)

-- the world is led to its end
abbrev EndsSoon : WorldValue → Type 0
EndsSoon w = (w' : WorldValue) × Led w w' × HasEnded w'

-- what comes to its end after some events comes to its end
ends_first : (a b : WorldValue) → Led a b → EndsSoon b → EndsSoon a
ends_first a b f g = (g.0, led_more a b g.0 f g.1, g.2)

module _ (p : ProgramValue) (n : ℕ) where
  -- a run that is maximal is the end
  at_end : (C : List Passed) → IsMaximal (begins p n) n C → (w : WorldValue) → w.run ≡ C → Of p n w → EndsSoon w
  at_end C maximal w run o = go (settles w o.is_world o.stocked)
    where
      beyond : (b : WorldValue) → Of p n b → IsLonger w.run b.run → ⊥
      beyond b ob x =
          let a = goes_after (begins p n) n C b.run x.0 x.1 (x.2 ∙ ap (λ z. x.0 ∷ x.1 ++ z) run) (run_of p n b ob) in
          maximal a.0.rank a.0.act a.3

      stop : (b : WorldValue) → Of p n b → b.run ≡ C → IsMaximal (start_of b) (size b) b.run
      stop b ob same r act may =
          maximal r act
          (subst (λ z. MayFollow (begins p z) z C r act) ob.many
          (subst (λ z. MayFollow (begins z (size b)) (size b) C r act) ob.program
          (subst (λ z. MayFollow (begins b.program (size b)) (size b) z r act) same may)))

      go : Goes w ⊎ SettledSoon w → EndsSoon w
      go (inl g) = absurd (beyond g.0 (of_led p n w g.0 o g.1) g.2)
      go (inr s) = (
        s.0,
        s.1,
        record { stands = stands_for s.0 s.1.is_world.stands; maximal = stop s.0 (of_led p n w s.0 o s.1) (s.2 ∙ run); settled = s.3 },
      )

  -- where some act may follow the run goes on, and then on to the end
  on_from : (C : List Passed) (r : ℕ) (act : Act) → MayFollow (begins p n) n C r act → IsWithin C
      → ((q : Passed) → MayFollow (begins p n) n C q.rank q.act → (late : List Passed) (w : WorldValue) → w.run ≡ late ++ q ∷ C → Of p n w → EndsSoon w)
      → (w : WorldValue) → w.run ≡ C → Of p n w → EndsSoon w
  on_from C r act may within again w run o =
      let g = may_go w r act o.is_world o.stocked (subst (λ D. IsWithin D) (sym run) within) (
        (let l = may.0 in let m = o.many in omega (arith, l, m)),
        may_at w p n C r act o.program o.many run may.1,
      ) in
      let ob = of_led p n w g.0 o g.1 in
      let a = goes_after (begins p n) n C g.0.run g.2.0 g.2.1 (g.2.2 ∙ ap (λ z. g.2.0 ∷ g.2.1 ++ z) run) (run_of p n g.0 ob) in
      ends_first w g.0 g.1 (again a.0 a.3 a.1 g.0 a.2 ob)

  -- by how each way on comes to an end: of a world whose run goes on from there
  to_end : (C : List Passed) → AllEnd (begins p n) n C → StaysWithin (begins p n) n C → (late : List Passed) (w : WorldValue) → w.run ≡ late ++ C → Of p n w
      → EndsSoon w
  to_end C (ends maximal) stays [] w run o = at_end C maximal w run o
  to_end C (ends maximal) stays (x ∷ late) w run o =
      let a = goes_after (begins p n) n C w.run x late run (run_of p n w o) in
      absurd (maximal a.0.rank a.0.act a.3)
  to_end C (on r act may next) stays [] w run o =
      on_from C r act may (stays [] r act (subst (λ D. IsRun (begins p n) n D) run (run_of p n w o)) may)
      (λ q m late b e ob. to_end (q ∷ C) (next q.rank q.act m) (stays_after (begins p n) n C q stays) late b e ob) w run o
  to_end C (on r act may next) stays (x ∷ late) w run o =
      let a = goes_after (begins p n) n C w.run x late run (run_of p n w o) in
      to_end (a.0 ∷ C) (next a.0.rank a.0.act a.3) (stays_after (begins p n) n C a.0 stays) a.1 w a.2 o

-- so from every world
pub comes_to_the_end : (w : WorldValue) → IsWorld w → IsStocked w → ComesToTheEnd w
comes_to_the_end w i k all stays =
    let e = to_end w.program (size w) w.run all stays [] w refl (record { is_world = i; stocked = k; program = refl; many = refl }) in
    record {
      events = e.1.events;
      after = e.0;
      leads = leads_from w w e.1.events e.0 e.1.leads;
      program = e.1.program;
      as_many = e.1.same_size;
      late = e.1.later.0;
      later = e.1.later.1;
      ended = e.2;
      always = always_ends w e.1.events e.0 e.1.leads e.1.is_world e.2;
    }
