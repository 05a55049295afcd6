-- A branch that is taken up: its run is made again behind a stop, and it is the only one.
use Rattle.std.proofs.Common.{◌≡◌, ℕ, ◌+◌, ◌≤◌, List, [], ◌∷◌, ◌++◌, Option, Some, None, length, slice_get, sym, ap, subst, ◌∙◌, arith}
use Rattle.std.specs.Prelude.{Err, IfOk, Ok, OnOk, Result, drop, reverse, slice_index, take}
use Rattle.std.proofs.lemmas.List.{append_assoc, length-append, length-reverse, length-take-le}
use Rattle.rank_machine.specs.Acts.{Act}
use Rattle.crash_free.specs.Runs.{Passed}
use Rattle.crash_free.specs.Runs.{IsRun}
use Rattle.crash_free.specs.Sim.{SimValue, Simulates, Allows, choice_of, start_of}
use Rattle.crash_free.specs.Wanted.{StandsAtAct}
use Rattle.crash_free.proofs.Points.{cut_parts, first_all, first_before}
use Rattle.explore.specs.declared.branch.Branch.{Branch}
use Rattle.explore.specs.declared.moves.Move.{Move}
use Rattle.audit.specs.FinalRuns.Maximal.{MayFollow}
use Rattle.explore.specs.Sending.{HasRunUnder, IsReleasedAt, IsRunUnder, MayFollowUnder}
use Rattle.explore.proofs.Sending.{released_by, run_before, run_by}
use Rattle.explore.specs.Exploring.{and_then}
use Rattle.explore.specs.Counting.{GoesBeyond}
use Rattle.explore.specs.Counts.{Counts, KeepsCount, NeedsAtMost}
use Rattle.explore.specs.Searching.{IsAlike}
use Rattle.explore.specs.Stems.{first_acts, GoesBehind, stem_of, StandsFor, IsAfter, IsRunOf}
use Rattle.explore.proofs.Beyond.{beyond_act, beyond_alike}
use Rattle.explore.proofs.Choosing.{IsChosen, act_of_choice, goes_by, goes_there}
use Rattle.explore.proofs.Shown.{goes_on, may_next, one_more}
use Rattle.explore.proofs.Stems.{first_behind, first_long, first_of_first}
use Rattle.explore.proofs.Within.{needs_before, needs_counted}
use Rattle.explore.specs.declared.send_mode.SendMode.{SendMode}

-- The same ranks and the same run

-- what may follow by the ranks of one simulation may by those of another, after the same run
may_there : (mode : SendMode) → (s t : SimValue) (r : ℕ) (act : Act) → IsAlike s t → t.run ≡ s.run
    → MayFollowUnder mode (start_of s.program (length s.machines)) (length s.machines) s.run r act
    → MayFollowUnder mode (start_of t.program (length t.machines)) (length t.machines) t.run r act
may_there mode s t r act alike same may =
    subst (λ C. MayFollowUnder mode (start_of t.program (length t.machines)) (length t.machines) C r act) (sym same)
    (subst (λ n. MayFollowUnder mode (start_of t.program n) n s.run r act) (sym alike.ranks)
    (subst (λ p. MayFollowUnder mode (start_of p (length s.machines)) (length s.machines) s.run r act) (sym alike.program) may))

-- and back
may_back : (mode : SendMode) → (s t : SimValue) (r : ℕ) (act : Act) → IsAlike s t → t.run ≡ s.run
    → MayFollowUnder mode (start_of t.program (length t.machines)) (length t.machines) t.run r act
    → MayFollowUnder mode (start_of s.program (length s.machines)) (length s.machines) s.run r act
may_back mode s t r act alike same may =
    subst (λ p. MayFollowUnder mode (start_of p (length s.machines)) (length s.machines) s.run r act) alike.program
    (subst (λ n. MayFollowUnder mode (start_of t.program n) n s.run r act) alike.ranks
    (subst (λ C. MayFollowUnder mode (start_of t.program (length t.machines)) (length t.machines) C r act) same may))

-- what is after a move by the ranks of one is by those of the other
after_there : (mode : SendMode) → (s t : SimValue) (C : List Passed) (o : Option Move) (P : List Passed) → IsAlike s t → IsAfter mode s.program (length s.machines) C o P
    → IsAfter mode t.program (length t.machines) C o P
after_there mode s t C o P alike x =
    subst (λ n. IsAfter mode t.program n C o P) (sym alike.ranks) (subst (λ p. IsAfter mode p (length s.machines) C o P) (sym alike.program) x)

-- and the other way
after_back : (mode : SendMode) → (s t : SimValue) (C : List Passed) (o : Option Move) (P : List Passed) → IsAlike s t → IsAfter mode t.program (length t.machines) C o P
    → IsAfter mode s.program (length s.machines) C o P
after_back mode s t C o P alike x =
    subst (λ n. IsAfter mode s.program n C o P) alike.ranks (subst (λ p. IsAfter mode p (length t.machines) C o P) alike.program x)

-- A rank that has no steps left for an act that may follow goes beyond.
pub beyond_there : (mode : SendMode) → (s t : SimValue) (left left' : List ℕ) (r : ℕ) (act : Act) → IsAlike s t → t.run ≡ s.run → HasRunUnder mode t
    → MayFollowUnder mode (start_of s.program (length s.machines)) (length s.machines) s.run r act → slice_index left' r ≡ 0 → KeepsCount s left t left'
    → (steps : ℕ) → Counts steps s left → GoesBeyond mode s.program (length s.machines) steps
beyond_there mode s t left left' r act alike same run may none keeps steps counts =
    beyond_alike mode s.program (length s.machines) t steps alike.program alike.ranks
    (beyond_act mode t left' steps r act run (may_there mode s t r act alike same may) none (keeps steps counts))

-- and where it does by the ranks of one simulation it does by those of the other
pub beyond_back : (mode : SendMode) → (s t : SimValue) (steps : ℕ) → IsAlike s t → GoesBeyond mode t.program (length t.machines) steps
    → GoesBeyond mode s.program (length s.machines) steps
beyond_back mode s t steps alike beyond = beyond_alike mode s.program (length s.machines) t steps alike.program alike.ranks beyond

-- A move, behind steps of its rank's own
module _ (mode : SendMode) (s t s' : SimValue) (m : Move) (alike : IsAlike s t) (same : t.run ≡ s.run) (now : Simulates t) (then : Simulates s')
    (at : StandsAtAct t.machines m.rank) (free : IsReleasedAt mode s m.rank) (allows : Allows t m.rank m.choice s') where
  step : IsChosen t m.rank m.choice s'
  step = act_of_choice t s' m.rank m.choice now then at allows

  pub alike_moved : IsAlike s s'
  alike_moved =
      let it = goes_by t s' m.rank m.choice now then at allows in
      record { program = it.program ∙ alike.program; ranks = it.ranks ∙ alike.ranks }

  pub behind_moved : GoesBehind s.run s'.run
  behind_moved = (record { rank = m.rank; act = step.act } ∷ [], step.run ∙ ap (λ (C : List Passed). and_then C m.rank step.act) same)

  pub after_moved : IsAfter mode s.program (length s.machines) s.run (Some m) s'.run
  after_moved = (
    step.act,
    (
      may_back mode s t m.rank step.act alike same (step.may.0, step.may.1, released_by mode s t m.rank alike.ranks same free),
      step.same,
    ),
    step.run ∙ ap (λ (C : List Passed). and_then C m.rank step.act) same,
  )

  -- and it is a run by the mode
  pub run_moved : HasRunUnder mode s → HasRunUnder mode s'
  run_moved run =
      let may = may_back mode s t m.rank step.act alike same (step.may.0, step.may.1, released_by mode s t m.rank alike.ranks same free) in
      run_by mode s s' (and_then s.run m.rank step.act) alike_moved.program alike_moved.ranks
      (step.run ∙ ap (λ (C : List Passed). and_then C m.rank step.act) same) (run, may.0, may.1, may.2)

  -- there is no other run after it
  pub moved_once : (P : List Passed) → IsAfter mode s.program (length s.machines) s.run (Some m) P → P ≡ s'.run
  moved_once P x =
      let may = may_there mode s t m.rank x.0 alike same x.1.0 in
      let allowed : Allows t m.rank (choice_of x.0) s' = subst (λ c. Allows t m.rank c s') (sym x.1.1) allows in
      x.2 ∙ ap (λ (C : List Passed). and_then C m.rank x.0) (sym same) ∙ sym (goes_there t s' m.rank x.0 now at (may.0, may.1) allowed)

-- what follows from what holds on a value holds on it
pub if_value : {T E P Q : Type 0} (o : Result T E) → OnOk o P → (P → Q) → IfOk o (λ x. Q)
if_value (Ok x) p f = f p
if_value (Err y) p f = tt

-- so what follows from each of three facts
pub if_all : {T E P Q R S : Type 0} (o : Result T E) → OnOk o P → OnOk o Q → OnOk o R → (P → Q → R → S) → IfOk o (λ x. S)
if_all (Ok x) p q r f = f p q r
if_all (Err y) p q r f = tt

-- where there is no value to speak of either
pub on_value_too : {T E P Q : Type 0} (o : Result T E) → OnOk o P → (P → Q) → OnOk o Q
on_value_too (Ok x) p f = f p
on_value_too (Err y) p f = tt

-- Acts of a run that are made again, behind a beginning of it

-- The acts since a beginning of a run, and those before, are its acts, also by the ranks of another simulation
module _ (s t : SimValue) (C : List Passed) (alike : IsAlike s t) (same : C ≡ s.run) where
  pub needs_since : (left : List ℕ) (steps : ℕ) → Counts steps s left → NeedsAtMost t.program (length t.machines) steps C
  needs_since left steps counts =
      subst (λ X. NeedsAtMost t.program (length t.machines) steps X) (sym same)
      (subst (λ n. NeedsAtMost t.program n steps s.run) (sym alike.ranks)
      (subst (λ p. NeedsAtMost p (length s.machines) steps s.run) (sym alike.program) (needs_counted s left steps counts)))

-- one more of them
pub made_again : (acts base : List Passed) (at : ℕ) (p : Passed) (run run' : List Passed) → slice_get acts at ≡ Some p
    → run ≡ reverse (take at acts) ++ base → run' ≡ p ∷ run → run' ≡ reverse (take (at + 1) acts) ++ base
made_again acts base at p run run' there before e =
    e ∙ ap (λ (X : List Passed). p ∷ X) before ∙ sym (ap (λ (X : List Passed). X ++ base) (one_more acts at p there))

-- the whole run goes on behind it
whole_behind : (acts base : List Passed) (at : ℕ) (p : Passed) (run : List Passed) → slice_get acts at ≡ Some p → run ≡ reverse (take at acts) ++ base
    → GoesBehind (p ∷ run) (reverse acts ++ base)
whole_behind acts base at p run there before = (
  reverse (drop (at + 1) acts),
  ap (λ (X : List Passed). X ++ base) (goes_on acts at p there)
      ∙ append_assoc (reverse (drop (at + 1) acts)) (p ∷ reverse (take at acts)) base
      ∙ ap (λ (X : List Passed). reverse (drop (at + 1) acts) ++ p ∷ X) (sym before),
)

module _ (s t : SimValue) (acts : List Passed) (at : ℕ) (p : Passed) (there : slice_get acts at ≡ Some p)
    (before : t.run ≡ reverse (take at acts) ++ s.run) (alike : IsAlike s t) where
  -- it may follow
  pub may_again : IsRun (start_of s.program (length s.machines)) (length s.machines) (reverse acts ++ s.run)
      → MayFollow (start_of t.program (length t.machines)) (length t.machines) t.run p.rank p.act
  may_again run =
      let behind = whole_behind acts s.run at p t.run there before in
      let may : MayFollow (start_of s.program (length s.machines)) (length s.machines) t.run p.rank p.act =
      may_next (start_of s.program (length s.machines)) (length s.machines) behind.0 p t.run
      (subst (λ (C : List Passed). IsRun (start_of s.program (length s.machines)) (length s.machines) C) behind.1 run) in
      subst (λ n. MayFollow (start_of t.program n) n t.run p.rank p.act) (sym alike.ranks)
      (subst (λ q. MayFollow (start_of q (length s.machines)) (length s.machines) t.run p.rank p.act) (sym alike.program) may)

  -- and needs no more steps than the whole run
  pub needs_again : (steps : ℕ) → NeedsAtMost s.program (length s.machines) steps (reverse acts ++ s.run)
      → NeedsAtMost t.program (length t.machines) steps (p ∷ t.run)
  needs_again steps needs =
      subst (λ n. NeedsAtMost t.program n steps (p ∷ t.run)) (sym alike.ranks)
      (subst (λ q. NeedsAtMost q (length s.machines) steps (p ∷ t.run)) (sym alike.program)
      (needs_before s.program (length s.machines) steps (reverse acts ++ s.run) (p ∷ t.run) (whole_behind acts s.run at p t.run there before) needs))

-- where so many acts in all were made again they are the first ones
pub made_first : (C base acts : List Passed) (count shared : ℕ) → reverse acts ++ base ≡ C → length base + count ≡ shared → count ≤ length acts
    → reverse (take count acts) ++ base ≡ first_acts shared C
made_first C base acts count shared whole size few =
    sym (first_all made) ∙ ap (λ k. first_acts k made) long ∙ sym (first_behind shared made C behind (omega (arith, long)))
  where
    made : List Passed
    made = reverse (take count acts) ++ base

    long : length made ≡ shared
    long =
        let both = length-append (reverse (take count acts)) base in
        let one = length-reverse (take count acts) in
        let some = length-take-le count acts few in
        omega (arith, both, one, some, size)

    behind : GoesBehind made C
    behind = (
      reverse (drop count acts),
      sym whole ∙ ap (λ (X : List Passed). X ++ base) (sym (cut_parts count acts)) ∙ append_assoc (reverse (drop count acts)) (reverse (take count acts)) base,
    )

-- a run by the mode that was cut to its first acts is one
pub run_first : (mode : SendMode) → (s t : SimValue) (k : ℕ) → IsAlike s t → t.run ≡ first_acts k s.run → HasRunUnder mode s → HasRunUnder mode t
run_first mode s t k alike first run =
    let behind = first_before k s.run in
    run_by mode s t (first_acts k s.run) alike.program alike.ranks first
    (run_before mode (start_of s.program (length s.machines)) (length s.machines) behind.0 (first_acts k s.run)
    (subst (λ C. IsRunUnder mode (start_of s.program (length s.machines)) (length s.machines) C) behind.1 run))

-- The first acts of a run that were made again, and then the move of a branch
module _ (mode : SendMode) (s t : SimValue) (b : Branch) (alike : IsAlike s t) (first : t.run ≡ first_acts b.shared s.run) (within : b.shared ≤ length s.run) where
  -- a branch with no move is there
  pub there_whole : b.chosen ≡ None → IsRunOf mode s.program (length s.machines) (stem_of s.run b) t.run
  there_whole none =
      subst (λ o. IsAfter mode s.program (length s.machines) (first_acts b.shared s.run) o t.run) (sym none) first

  pub only_whole : b.chosen ≡ None → (P : List Passed) → IsRunOf mode s.program (length s.machines) (stem_of s.run b) P → P ≡ t.run
  only_whole none P x =
      let e : P ≡ first_acts b.shared s.run = subst (λ o. IsAfter mode s.program (length s.machines) (first_acts b.shared s.run) o P) none x in
      e ∙ sym first

  -- what its stem is after
  to_stem : (m : Move) (P : List Passed) → b.chosen ≡ Some m → IsRunOf mode s.program (length s.machines) (stem_of s.run b) P
      → IsAfter mode t.program (length t.machines) t.run (Some m) P
  to_stem m P is x =
      after_there mode s t t.run (Some m) P alike
      (subst (λ C. IsAfter mode s.program (length s.machines) C (Some m) P) (sym first)
      (subst (λ o. IsAfter mode s.program (length s.machines) (first_acts b.shared s.run) o P) is x))

  from_stem : (m : Move) (P : List Passed) → b.chosen ≡ Some m → IsAfter mode t.program (length t.machines) t.run (Some m) P
      → IsRunOf mode s.program (length s.machines) (stem_of s.run b) P
  from_stem m P is x =
      subst (λ o. IsAfter mode s.program (length s.machines) (first_acts b.shared s.run) o P) (sym is)
      (subst (λ C. IsAfter mode s.program (length s.machines) C (Some m) P) first (after_back mode s t t.run (Some m) P alike x))

  -- its move may be made
  pub move_stands : (m : Move) → b.chosen ≡ Some m → (P : List Passed) × IsRunOf mode s.program (length s.machines) (stem_of s.run b) P
      → (act : Act) × StandsFor mode t.program (length t.machines) t.run m act
  move_stands m is run = (let x = to_stem m run.0 is run.1 in (x.0, x.1))

  -- and leads to its run
  pub there_moved : (m : Move) (R : List Passed) → b.chosen ≡ Some m → IsAfter mode t.program (length t.machines) t.run (Some m) R
      → IsRunOf mode s.program (length s.machines) (stem_of s.run b) R
  there_moved m R is x = from_stem m R is x

  pub only_moved : (m : Move) (R : List Passed) → b.chosen ≡ Some m
      → ((P : List Passed) → IsAfter mode t.program (length t.machines) t.run (Some m) P → P ≡ R)
      → (P : List Passed) → IsRunOf mode s.program (length s.machines) (stem_of s.run b) P → P ≡ R
  only_moved m R is once P x = once P (to_stem m P is x)

  -- what goes on behind them begins as the run did
  pub shares_on : (R : List Passed) → GoesBehind t.run R → (k : ℕ) → k ≤ b.shared → first_acts k R ≡ first_acts k s.run
  shares_on R behind k low =
      let size : length t.run ≡ b.shared = ap length first ∙ first_long b.shared s.run within in
      first_behind k t.run R behind (omega (arith, low, size)) ∙ ap (first_acts k) first ∙ first_of_first k b.shared s.run low within
