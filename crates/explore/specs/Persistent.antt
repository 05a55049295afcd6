-- When the choices of one rank are enough for a search: they don't depend on what the other ranks do
-- next (persistent sets: Godefroid 1996, chapter 4; of one rank: Flanagan and Godefroid 2005).
use Rattle.std.specs.Prelude.{◌≢◌, ℕ, List}
use Rattle.rank_machine.specs.States.{State}
use Rattle.rank_machine.specs.Acts.{Act}
use Rattle.crash_free.specs.Runs.{Passed}
use Rattle.explore.specs.Sending.{MayFollowUnder}
use Rattle.explore.specs.AndThen.{and_then}
use Rattle.explore.specs.declared.send_mode.SendMode.{SendMode}

-- acts of other ranks than r, one after another, lead from the one run to the other
pub data GoesOnWithout (mode : SendMode) (start : ℕ → State) (n r : ℕ) : List Passed → List Passed → Type 0 where
  there : {P : List Passed} → GoesOnWithout mode start n r P P
  further : {P C : List Passed} (q : ℕ) (act : Act) → q ≢ r → MayFollowUnder mode start n P q act → GoesOnWithout mode start n r (and_then P q act) C
      → GoesOnWithout mode start n r P C

-- However the other ranks go on after this run, each act that rank r may make then it may make now.
abbrev pub IsPersistent : SendMode → (ℕ → State) → ℕ → List Passed → ℕ → Type 0
IsPersistent mode start n P r = (C : List Passed) (act : Act) → GoesOnWithout mode start n r P C → MayFollowUnder mode start n C r act → MayFollowUnder mode start n P r act
