-- A run that stands where one of its beginnings stood may go on as it did from there, again and again: what follows the one has partners
-- that follow the other, and with these they stand alike again.
use Rattle.std.proofs.Common.{◌≡◌, ℕ, zero, suc, ◌+◌, ◌<◌, ◌≤◌, List, [], ◌∷◌, ◌++◌, length, ◌⊎◌, inl, inr, refl, sym, subst, ◌∙◌, arith}
use Rattle.rank_machine.specs.States.{State}
use Rattle.rank_machine.specs.Acts.{Act}
use Rattle.crash_free.specs.Runs.{Passed}
use Rattle.explore.specs.Sending.{IsRunUnder, HasRunUnder, IsReleasedAt}
use Rattle.crash_free.specs.declared.choice.Choice.{Choice}
use Rattle.crash_free.specs.Sim.{SimValue, Simulates, Allows, start_of}
use Rattle.crash_free.specs.Wanted.{StandsAtAct}
use Rattle.crash_free.specs.Alike.{StandAlike}
use Rattle.crash_free.specs.Standing.{Rows}
use Rattle.crash_free.proofs.Alike.{alike_back, alike_further}
use Rattle.crash_free.proofs.SameRows.{same_but_length}
use Rattle.explore.specs.Sending.{MayFollowUnder}
use Rattle.explore.specs.Cycles.{MayGoOnForEver, StandsIn, WentOnFrom, GoesFurther}
use Rattle.explore.specs.Exploring.{and_then}
use Rattle.explore.specs.Onward.{GoesOnTo, there, further}
use Rattle.explore.specs.Moves.{AddsMoves, MayChoose}
use Rattle.explore.specs.Outcomes.{IsAmong}
use Rattle.explore.specs.declared.moves.Move.{Move}
use Rattle.explore.proofs.Among.{among_none}
use Rattle.explore.proofs.Choosing.{goes_by}
use Rattle.explore.proofs.Meeting.{stands_by}
use Rattle.explore.proofs.Stems.{behind_further}
use Rattle.explore.specs.declared.send_mode.SendMode.{SendMode}
use Rattle.explore.proofs.Sending.{partner_under, run_before, run_by}

-- one act more may follow
one_more : (mode : SendMode) → (start : ℕ → State) (n : ℕ) (P C : List Passed) (r : ℕ) (act : Act) → GoesOnTo mode start n P C → MayFollowUnder mode start n C r act
    → GoesOnTo mode start n P (and_then C r act)
one_more mode start n P C r act there may = further r act may there
one_more mode start n P C r act (further q a first on) may = further q a first (one_more mode start n (and_then P q a) C r act on may)

-- a run goes on from each of its beginnings
goes_on : (mode : SendMode) → (start : ℕ → State) (n : ℕ) (P later : List Passed) → IsRunUnder mode start n (later ++ P) → GoesOnTo mode start n P (later ++ P)
goes_on mode start n P [] run = there
goes_on mode start n P (p ∷ later) run = one_more mode start n P (later ++ P) p.rank p.act (goes_on mode start n P later run.0) (run.1, run.2, run.3)

-- a run that goes on from the second, as long as one that goes on from the first, and stands alike with it
record AsFar (mode : SendMode) (start : ℕ → State) (n : ℕ) (P Q C : List Passed) : Type 0 where
  run : List Passed
  is_run : IsRunUnder mode start n run
  alike : StandAlike start n C run
  long : length run + length P ≡ length Q + length C

-- where the second stands alike with the first
as_far : (mode : SendMode) → (start : ℕ → State) (n : ℕ) (P Q C : List Passed) → IsRunUnder mode start n P → IsRunUnder mode start n Q → StandAlike start n P Q → GoesOnTo mode start n P C
    → AsFar mode start n P Q C
as_far mode start n P Q C run run' alike there = record { run = Q; is_run = run'; alike = alike; long = refl }
as_far mode start n P Q C run run' alike (further r act may on) =
    let f = partner_under mode start n P Q run run' alike r act may.0 may.1 may.2 in
    let next = as_far mode start n (and_then P r act) (and_then Q r f.other) C (run, may.0, may.1, may.2) (run', may.0, f.may, f.released) f.alike on in
    record { run = next.run; is_run = next.is_run; alike = next.alike; long = omega (arith, next.long) }

-- the run after this one is longer by some number of acts
record Longer (mode : SendMode) (start : ℕ → State) (n k : ℕ) (Q : List Passed) : Type 0 where
  run : List Passed
  is_run : IsRunUnder mode start n run
  long : length Q + k ≤ length run

-- the way from the first run to the second, which stands alike and is longer, can be gone again from whatever stands alike
again : (mode : SendMode) → (start : ℕ → State) (n : ℕ) (P C : List Passed) → IsRunUnder mode start n P → StandAlike start n P C → GoesOnTo mode start n P C → length P < length C
    → (k : ℕ) (Q : List Passed) → IsRunUnder mode start n Q → StandAlike start n C Q → Longer mode start n k Q
again mode start n P C run alike on less zero Q run' alike' = record { run = Q; is_run = run'; long = omega (arith) }
again mode start n P C run alike on less (suc k) Q run' alike' =
    let far = as_far mode start n P Q C run run' (alike_further start n P C Q alike alike') on in
    let more = again mode start n P C run alike on less k far.run far.is_run far.alike in
    record { run = more.run; is_run = more.is_run; long = omega (arith, less, far.long, more.long) }

-- so a simulation whose run stands where it stood, and is longer, may go on for ever
pub for_ever : (mode : SendMode) → (s : SimValue) (rows : Rows) (made : ℕ) → HasRunUnder mode s → WentOnFrom s rows made → StandsIn s rows s.run → made < length s.run
    → MayGoOnForEver mode s.program (length s.machines)
for_ever mode s rows made is_run from now less k = (longer.run, longer.is_run, omega (arith, longer.long))
  where
    n : ℕ
    n = length s.machines

    start : ℕ → State
    start = start_of s.program n

    alike : StandAlike start n from.run s.run
    alike = same_but_length s.program n from.run s.run (length from.run) (length s.run) rows from.stood now

    on : GoesOnTo mode start n from.run s.run
    on = subst (λ C. GoesOnTo mode start n from.run C) (sym from.later.1)
        (goes_on mode start n from.run from.later.0 (subst (λ C. IsRunUnder mode start n C) from.later.1 is_run))

    longer : Longer mode start n k s.run
    longer =
        again mode start n from.run s.run (run_before mode start n from.later.0 from.run (subst (λ C. IsRunUnder mode start n C) from.later.1 is_run)) alike on (omega (arith, less, from.long)) k s.run is_run
        (alike_further start n s.run from.run s.run (alike_back start n from.run s.run alike) alike)

-- the ranks of a simulation that goes further stand where they stood
pub from_further : (mode : SendMode) → (s s' : SimValue) (rows : Rows) (made : ℕ) → WentOnFrom s rows made → GoesFurther mode s s' → WentOnFrom s' rows made
from_further mode s s' rows made from on =
    record {
      run = from.run;
      stood = stands_by s.program s'.program (length s.machines) (length s'.machines) from.run _ (sym on.program) (sym on.ranks) from.stood;
      long = from.long;
      later = behind_further from.run s.run s'.run from.later on.later;
    }

-- one way further behind another
pub further_on : (mode : SendMode) → (s mid s' : SimValue) → GoesFurther mode s mid → GoesFurther mode mid s' → GoesFurther mode s s'
further_on mode s mid s' a b =
    record {
      program = b.program ∙ a.program;
      ranks = b.ranks ∙ a.ranks;
      later = behind_further s.run mid.run s'.run a.later b.later;
      stands = b.stands;
      runs = λ run. b.runs (a.runs run);
    }

-- an act that was chosen leads further
pub chosen_further_on : (mode : SendMode) → (s s' : SimValue) (r : ℕ) (c : Choice) → Simulates s → Simulates s' → StandsAtAct s.machines r → IsReleasedAt mode s r
    → Allows s r c s' → GoesFurther mode s s'
chosen_further_on mode s s' r c now then at free allows =
    let step = goes_by s s' r c now then at allows in
    record {
      program = step.program;
      ranks = step.ranks;
      later = (record { rank = r; act = step.act } ∷ [], step.run);
      stands = then;
      runs = λ run. run_by mode s s' (and_then s.run r step.act) step.program step.ranks step.run (run, step.may.0, step.may.1, free);
    }

-- moves that were added to none are of their rank
pub of_rank : (mode : SendMode) → (s : SimValue) (r : ℕ) (old new : List Move) (m : Move) → AddsMoves mode s r old new → old ≡ [] → IsAmong new m
    → (m.rank ≡ r) × StandsAtAct s.machines r
of_rank mode s r old new m adds e among = go (adds.acts m among)
  where
    go : IsAmong old m ⊎ ((m.rank ≡ r) × StandsAtAct s.machines r × MayChoose mode s r m.choice) → (m.rank ≡ r) × StandsAtAct s.machines r
    go (inl before) = absurd (among_none m (subst (λ xs. IsAmong xs m) e before))
    go (inr own) = (own.0, own.1)
