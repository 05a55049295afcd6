-- What a run made once more shows.
use Rattle.std.proofs.Common.{◌≡◌, ◌≢◌, ℕ, suc, ◌<◌, ◌≤◌, ◌+◌, Bool, true, false, List, [], ◌∷◌, ◌++◌}
use Rattle.std.proofs.Common.{Option, Some, None, length, slice_get, ◌⊎◌, inl, inr, sym, ap, subst, ◌∙◌, arith}
use Rattle.std.specs.Prelude.{Err, IfOk, IfSome, IsSomeAnd, Ok, Result, drop, reverse, take}
use Rattle.std.proofs.Math.Seq.{take-suc}
use Rattle.std.proofs.lemmas.Option.{slice_get_within, get_or_from_slice_get}
use Rattle.std.proofs.lemmas.Bool.{cases_eq, cases_lt}
use Rattle.std.proofs.lemmas.List.{reverse-append, reverse-reverse, take-append-drop}
use Rattle.matching.specs.declared.selector.Selector.{Selector}
use Rattle.rank_machine.specs.declared.want.Want.{Want}
use Rattle.rank_machine.specs.declared.want.Want.TheVariants as want
use Rattle.rank_machine.specs.States.{State}
use Rattle.rank_machine.specs.Wants.{wants}
use Rattle.rank_machine.specs.Acts.{Act, Message, misses}
use Rattle.rank_machine.specs.Machine.{MachineValue}
use Rattle.crash_free.specs.Runs.{Passed, History, history, taken, IsEligible, IsRun}
use Rattle.crash_free.specs.declared.choice.Choice.{Choice}
use Rattle.crash_free.specs.Inside.{GoesInside}
use Rattle.crash_free.specs.Sim.{SimValue, Simulates, Allows, choice_of, inbound_of, start_of}
use Rattle.crash_free.specs.Wanted.{Wants, WantsAt, StandsAtAct}
use Rattle.crash_free.proofs.Lists.{push_cases, run_begins}
use Rattle.audit.specs.FinalRuns.Maximal.{MayFollow, RankOutcome}
use Rattle.explore.specs.declared.moves.Noted.{Noted}
use Rattle.explore.specs.Chosen.{MakesChoices}
use Rattle.explore.specs.Explored.{FoundOutcomeValue, noted_choices, rank_outcomes}
use Rattle.explore.specs.Exploring.{and_then}
use Rattle.explore.specs.Searching.{IsAlike}
use Rattle.explore.specs.Shown.{IsMark, was_shown, IsPast, MayMissShown, MissesShown}
use Rattle.rank_language.specs.Program.{ProgramValue}
use Rattle.explore.proofs.Choosing.{goes_there, goes_by}
use Rattle.explore.proofs.SeenOf.{choices_at, seen_at}
use Rattle.audit.proofs.FinalRunsLaws.Simulating.{sender_there, stands_there, wanted}
use Rattle.audit.proofs.Reaching.{some_there}
use Rattle.explore.specs.Sending.{IsOutcomeUnder}
use Rattle.explore.specs.declared.send_mode.SendMode.{SendMode}
use Rattle.explore.proofs.Sending.{plain_run}

-- the act behind a part of a run may follow it
pub may_next : (start : ℕ → State) (n : ℕ) (late : List Passed) (p : Passed) (early : List Passed) → IsRun start n (late ++ p ∷ early)
    → MayFollow start n early p.rank p.act
may_next start n late p early run = (let it = run_begins start n late (p ∷ early) run in (it.1, it.2))

-- a miss in a part of a run is one of the run
misses_later : (start : ℕ → State) (late early : List Passed) → MissesShown start early → MissesShown start (late ++ early)
misses_later start [] early m = m
misses_later start (p ∷ late) early m = inr (misses_later start late early m)

-- of a source one message at most is eligible
eligible_once : (inbound : ℕ → List Message) (h : History) (s i j : ℕ) (w : Selector) → IsEligible inbound h s (suc i) w → IsEligible inbound h s (suc j) w
    → i ≡ j
eligible_once inbound h s i j w a b = go (cases_lt i j) (cases_lt j i)
  where
    apart : (k l : ℕ) → IsEligible inbound h s (suc k) w → IsEligible inbound h s (suc l) w → k < l → ⊥
    apart k l x y low =
        let is : taken h s (suc k) ≡ true = y.not_overtaking (suc k) x.message (omega (arith, low)) x.there x.matching in
        let e : true ≡ false = sym is ∙ x.untaken in
        cc

    go : (i < j) ⊎ (j ≤ i) → (j < i) ⊎ (i ≤ j) → i ≡ j
    go (inl low) other = absurd (apart i j a b low)
    go (inr high) (inl low) = absurd (apart j i b a low)
    go (inr high) (inr low) = omega (arith, high, low)

-- the message that is eligible of this source was shown
pub past_there : (P : List Passed) (r source index : ℕ) (w : Selector) → IsEligible (inbound_of P r) (history P r) source (suc index) w
    → was_shown P r source index ≡ true → IsPast P r w
past_there P r source index w eligible shown = record { source = source; index = index; eligible = eligible; shown = shown }

-- none of the source was, where the one that is eligible wasn't
pub past_nowhere : (P : List Passed) (r source index : ℕ) (w : Selector) → IsEligible (inbound_of P r) (history P r) source (suc index) w
    → was_shown P r source index ≡ false → (past : IsPast P r w) → past.source ≡ source → ⊥
past_nowhere P r source index w eligible none past same =
    let here : IsEligible (inbound_of P r) (history P r) source (suc past.index) w =
    subst (λ s. IsEligible (inbound_of P r) (history P r) s (suc past.index) w) same past.eligible in
    let at : past.index ≡ index = eligible_once (inbound_of P r) (history P r) source past.index index w here eligible in
    let was : was_shown P r source index ≡ true = subst (λ i. was_shown P r source i ≡ true) at (subst (λ s. was_shown P r s past.index ≡ true) same past.shown) in
    let e : true ≡ false = sym was ∙ none in
    cc

-- a message is eligible of a rank that there is alone
pub past_below : (s : SimValue) (r : ℕ) (w : Selector) → Simulates s → (past : IsPast s.run r w) → past.source < length s.machines
past_below s r w now past =
    sender_there (start_of s.program (length s.machines)) (length s.machines) s.run now.is_run past.source r (suc past.index) past.eligible.message
    past.eligible.there

-- one source more
pub past_more : (P : List Passed) (r k : ℕ) (w : Selector) → ((past : IsPast P r w) → past.source < k → ⊥) → ((past : IsPast P r w) → past.source ≡ k → ⊥)
    → (past : IsPast P r w) → past.source < k + 1 → ⊥
past_more P r k w before here past low = go (cases_eq past.source k)
  where
    go : (past.source ≡ k) ⊎ (past.source ≡ k → ⊥) → ⊥
    go (inl e) = here past e
    go (inr apart) = before past (omega (arith, low, apart))

-- a rank wants one thing
pub wants_once : (machines : List MachineValue) (r : ℕ) (v w : Want) → WantsAt machines r v → WantsAt machines r w → v ≡ w
wants_once machines r v w a b =
    let m = some_there (slice_get machines r) (λ x. Wants x v) a in
    let n : Wants m.0 w = subst (λ o. IsSomeAnd o (λ x. Wants x w)) m.1 b in
    sym m.2.at_want ∙ n.at_want

-- who asks for something else doesn't ask for a probe that doesn't wait
pub no_probe : (machines : List MachineValue) (r : ℕ) (v : Want) (w : Selector) → WantsAt machines r v → v ≢ want.TryProbe w
    → WantsAt machines r (want.TryProbe w) → ⊥
no_probe machines r v w a apart b = apart (wants_once machines r v (want.TryProbe w) a b)

-- a rank that is about to miss, and matches what it was shown
pub miss_there : (s : SimValue) (r : ℕ) (act : Act) (w : Selector) → Simulates s → WantsAt s.machines r (want.TryProbe w) → IsPast s.run r w
    → MayFollow (start_of s.program (length s.machines)) (length s.machines) s.run r act → act ≡ misses
    → MayMissShown (start_of s.program (length s.machines)) s.run r
miss_there s r act w now wants_it past may same =
    let m = some_there (slice_get s.machines r) (λ x. Wants x (want.TryProbe w)) wants_it in
    let miss : MayFollow (start_of s.program (length s.machines)) (length s.machines) s.run r misses =
    subst (λ a. MayFollow (start_of s.program (length s.machines)) (length s.machines) s.run r a) same may in
    record {
      may = miss.1;
      selector = w;
      probes =
          ap wants (stands_there s r m.0 (want.TryProbe w) now m.1 m.2 (λ q. cc) misses miss.1)
          ∙ wanted s r m.0 (want.TryProbe w) now m.1 m.2 (λ q. cc);
      past = past;
    }

-- so it asks for the probe by which it would miss
pub probe_there : (s : SimValue) (r : ℕ) → Simulates s → StandsAtAct s.machines r
    → (miss : MayMissShown (start_of s.program (length s.machines)) s.run r) → WantsAt s.machines r (want.TryProbe miss.selector)
probe_there s r now at miss =
    let m = some_there (slice_get s.machines r) (λ x. Wants x at.0) at.1 in
    let is : at.0 ≡ want.TryProbe miss.selector =
    sym (wanted s r m.0 at.0 now m.1 m.2 at.2) ∙ ap wants (sym (stands_there s r m.0 at.0 now m.1 m.2 at.2 misses miss.may)) ∙ miss.probes in
    subst (λ w. WantsAt s.machines r w) is at.1

-- the acts up to one are that one and those before it
pub one_more : (acts : List Passed) (at : ℕ) (p : Passed) → slice_get acts at ≡ Some p → reverse (take (at + 1) acts) ≡ p ∷ reverse (take at acts)
one_more acts at p there =
    let more : at + 1 ≡ suc at = omega arith in
    ap (λ k. reverse (take k acts)) more
    ∙ ap reverse (take-suc acts at p (slice_get_within acts at p there) ∙ ap (λ x. take at acts ++ x ∷ []) (get_or_from_slice_get acts at p p there))
    ∙ reverse-append (take at acts) (p ∷ [])

-- and the whole goes on behind it
pub goes_on : (acts : List Passed) (at : ℕ) (p : Passed) → slice_get acts at ≡ Some p
    → reverse acts ≡ reverse (drop (at + 1) acts) ++ p ∷ reverse (take at acts)
goes_on acts at p there =
    ap reverse (sym (take-append-drop (at + 1) acts)) ∙ reverse-append (take (at + 1) acts) (drop (at + 1) acts)
    ∙ ap (λ x. reverse (drop (at + 1) acts) ++ x) (one_more acts at p there)

-- the run is one longer then
pub made_more : (acts : List Passed) (at : ℕ) (p : Passed) (run run' : List Passed) → slice_get acts at ≡ Some p → run ≡ reverse (take at acts)
    → run' ≡ p ∷ run → run' ≡ reverse (take (at + 1) acts)
made_more acts at p run run' there before e = e ∙ ap (λ x. p ∷ x) before ∙ sym (one_more acts at p there)

-- the act behind those that were made may follow
pub may_on : (program : ProgramValue) (n : ℕ) (s : SimValue) (acts : List Passed) (at : ℕ) (p : Passed) → IsRun (start_of program n) n (reverse acts)
    → slice_get acts at ≡ Some p → s.run ≡ reverse (take at acts) → s.program ≡ program → length s.machines ≡ n
    → MayFollow (start_of s.program (length s.machines)) (length s.machines) s.run p.rank p.act
may_on program n s acts at p run there made same ranks =
    let may : MayFollow (start_of program n) n (reverse (take at acts)) p.rank p.act =
    may_next (start_of program n) n (reverse (drop (at + 1) acts)) p (reverse (take at acts))
    (subst (λ C. IsRun (start_of program n) n C) (goes_on acts at p there) run) in
    subst (λ C. MayFollow (start_of s.program (length s.machines)) (length s.machines) C p.rank p.act) (sym made)
    (subst (λ k. MayFollow (start_of s.program k) k (reverse (take at acts)) p.rank p.act) (sym ranks)
    (subst (λ q. MayFollow (start_of q n) n (reverse (take at acts)) p.rank p.act) (sym same) may))

-- what holds of the ranks of a simulation holds by the program and the number that are the same
pub miss_by : (program : ProgramValue) (n : ℕ) (s : SimValue) (r : ℕ) → s.program ≡ program → length s.machines ≡ n
    → MayMissShown (start_of s.program (length s.machines)) s.run r → MayMissShown (start_of program n) s.run r
miss_by program n s r same ranks miss =
    subst (λ k. MayMissShown (start_of program k) s.run r) ranks (subst (λ p. MayMissShown (start_of p (length s.machines)) s.run r) same miss)

-- and the other way
pub miss_of : (program : ProgramValue) (n : ℕ) (s : SimValue) (r : ℕ) → s.program ≡ program → length s.machines ≡ n
    → MayMissShown (start_of program n) s.run r → MayMissShown (start_of s.program (length s.machines)) s.run r
miss_of program n s r same ranks miss =
    subst (λ k. MayMissShown (start_of s.program k) s.run r) (sym ranks) (subst (λ p. MayMissShown (start_of p n) s.run r) (sym same) miss)

-- a miss that was found is one of the whole run
pub misses_whole : (start : ℕ → State) (acts : List Passed) (at : ℕ) (p : Passed) (run : List Passed) → slice_get acts at ≡ Some p
    → run ≡ reverse (take at acts) → p.act ≡ misses → MayMissShown start run p.rank → MissesShown start (reverse acts)
misses_whole start acts at p run there made miss shown =
    subst (λ C. MissesShown start C) (sym (goes_on acts at p there))
    (misses_later start (reverse (drop (at + 1) acts)) (p ∷ reverse (take at acts)) (inl (miss, subst (λ C. MayMissShown start C p.rank) made shown)))

-- an act that may follow is made by its choice
pub made_it : (s s' : SimValue) (r : ℕ) (act : Act) (c : Choice) → Simulates s → StandsAtAct s.machines r
    → MayFollow (start_of s.program (length s.machines)) (length s.machines) s.run r act → c ≡ choice_of act → Allows s r c s' → s'.run ≡ and_then s.run r act
made_it s s' r act c now at may same allows = goes_there s s' r act now at may (subst (λ x. Allows s r x s') same allows)

-- and leaves the ranks as they were
pub made_alike : (s s' : SimValue) (r : ℕ) (c : Choice) → Simulates s → Simulates s' → StandsAtAct s.machines r → Allows s r c s' → IsAlike s s'
made_alike s s' r c now then at allows = (let step = goes_by s s' r c now then at allows in record { program = step.program; ranks = step.ranks })

-- steps of a rank's own change neither what may follow
pub may_inside : (s s' : SimValue) (r k q : ℕ) (act : Act) → GoesInside s r k s'
    → MayFollow (start_of s.program (length s.machines)) (length s.machines) s.run q act
    → MayFollow (start_of s'.program (length s'.machines)) (length s'.machines) s'.run q act
may_inside s s' r k q act goes may =
    subst (λ C. MayFollow (start_of s'.program (length s'.machines)) (length s'.machines) C q act) (sym goes.run)
    (subst (λ n. MayFollow (start_of s'.program n) n s.run q act) (sym goes.ranks)
    (subst (λ p. MayFollow (start_of p (length s.machines)) (length s.machines) s.run q act) (sym goes.program) may))

-- nor which misses may
pub miss_before : (s s' : SimValue) (r k q : ℕ) → GoesInside s r k s' → MayMissShown (start_of s'.program (length s'.machines)) s'.run q
    → MayMissShown (start_of s.program (length s.machines)) s.run q
miss_before s s' r k q goes miss =
    subst (λ p. MayMissShown (start_of p (length s.machines)) s.run q) goes.program
    (subst (λ n. MayMissShown (start_of s'.program n) s.run q) goes.ranks
    (subst (λ C. MayMissShown (start_of s'.program (length s'.machines)) C q) goes.run miss))

-- behind them it may as before
pub miss_behind : (s s' : SimValue) (r k q : ℕ) → GoesInside s r k s' → MayMissShown (start_of s.program (length s.machines)) s.run q
    → MayMissShown (start_of s'.program (length s'.machines)) s'.run q
miss_behind s s' r k q goes miss =
    subst (λ C. MayMissShown (start_of s'.program (length s'.machines)) C q) (sym goes.run)
    (subst (λ n. MayMissShown (start_of s'.program n) s.run q) (sym goes.ranks)
    (subst (λ p. MayMissShown (start_of p (length s.machines)) s.run q) (sym goes.program) miss))

-- none so far, and not by this act
pub misses_none : (start : ℕ → State) (run : List Passed) (p : Passed) → (MissesShown start run → ⊥) → (p.act ≡ misses → MayMissShown start run p.rank → ⊥)
    → MissesShown start (p ∷ run) → ⊥
misses_none start run p before here (inl x) = here x.0 x.1
misses_none start run p before here (inr x) = before x

-- one mark more
pub marked_more : (mode : SendMode) → (program : ProgramValue) (n : ℕ) (outcomes : List FoundOutcomeValue) (marks : List (Option Bool)) (at : ℕ) (x : FoundOutcomeValue)
    (mark : Option Bool) → length marks ≡ at → slice_get outcomes at ≡ Some x → IfSome mark (IsMark mode program n x.ranks x.choices)
    → ((i : ℕ) (o : List RankOutcome) (cs : List Noted) (m : Option Bool) → slice_get (rank_outcomes outcomes) i ≡ Some o
    → slice_get (noted_choices outcomes) i ≡ Some cs → slice_get marks i ≡ Some m → IfSome m (IsMark mode program n o cs))
    → (i : ℕ) (o : List RankOutcome) (cs : List Noted) (m : Option Bool) → slice_get (rank_outcomes outcomes) i ≡ Some o
    → slice_get (noted_choices outcomes) i ≡ Some cs → slice_get (marks ++ mark ∷ []) i ≡ Some m → IfSome m (IsMark mode program n o cs)
marked_more mode program n outcomes marks at x mark size there is before i o cs m seen noted f = go (push_cases marks mark i m f)
  where
    go : (slice_get marks i ≡ Some m) ⊎ ((i ≡ length marks) × (m ≡ mark)) → IfSome m (IsMark mode program n o cs)
    go (inl old) = before i o cs m seen noted old
    go (inr new) =
        let here : slice_get outcomes i ≡ Some x = subst (λ k. slice_get outcomes k ≡ Some x) (sym (new.0 ∙ size)) there in
        let one : Some x.ranks ≡ Some o = sym (seen_at outcomes i x here) ∙ seen in
        let two : Some x.choices ≡ Some cs = sym (choices_at outcomes i x here) ∙ noted in
        let same_ranks : x.ranks ≡ o = cc in
        let same_choices : x.choices ≡ cs = cc in
        subst (λ y. IfSome m (IsMark mode program n y cs)) same_ranks
        (subst (λ y. IfSome m (IsMark mode program n x.ranks y)) same_choices
        (subst (λ y. IfSome y (IsMark mode program n x.ranks x.choices)) (sym new.1) is))

-- the acts of a run in their order, turned around, are the run
pub run_back : (mode : SendMode) → (start : ℕ → State) (n : ℕ) (run acts : List Passed) (o : List RankOutcome) → IsOutcomeUnder mode start n run o → acts ≡ reverse run
    → IsRun start n (reverse acts)
run_back mode start n run acts o is same = subst (λ C. IsRun start n C) (sym (ap reverse same ∙ reverse-reverse run))
    (plain_run mode start n run is.is_run)

-- the mark of the run that was made again is one of the outcome
pub mark_there : (mode : SendMode) → {E : Type 0} (program : ProgramValue) (n : ℕ) (o : List RankOutcome) (choices : List Noted) (run acts : List Passed)
    (r : Result (Option Bool) E) → IsOutcomeUnder mode (start_of program n) n run o → MakesChoices mode program n run choices → acts ≡ reverse run → (r ≡ Ok (Some true) → MissesShown (start_of program n) (reverse acts))
    → (r ≡ Ok (Some false) → MissesShown (start_of program n) (reverse acts) → ⊥) → IfOk r (λ mark. IfSome mark (IsMark mode program n o choices))
mark_there mode program n o choices run acts (Err x) is chosen same past none = tt
mark_there mode program n o choices run acts (Ok None) is chosen same past none = tt
mark_there mode program n o choices run acts (Ok (Some mark)) is chosen same past none =
    inl
    (record {
      run = run;
      outcome = is;
      chosen = chosen;
      yes = λ e. subst (λ C. MissesShown (start_of program n) C) back (past (ap (λ b. Ok (Some b)) e));
      no = λ e x. none (ap (λ b. Ok (Some b)) e) (subst (λ C. MissesShown (start_of program n) C) (sym back) x);
    })
  where
    back : reverse acts ≡ run
    back = ap reverse same ∙ reverse-reverse run
