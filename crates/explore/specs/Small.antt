-- Programs of which a search needs to look at few runs.
use Rattle.std.specs.Prelude.{ℕ, ◌+◌, ◌<◌, ◌≤◌, List, [], ◌∷◌, sum_by, length}
use Rattle.rank_language.specs.Program.{ProgramValue}
use Rattle.rank_machine.specs.States.{State}
use Rattle.rank_machine.specs.Acts.{Act}
use Rattle.crash_free.specs.Runs.{Passed}
use Rattle.crash_free.specs.Sim.{SimValue, choice_of, start_of}
use Rattle.explore.specs.declared.moves.Move.{Move}
use Rattle.explore.specs.Sending.{MayFollowUnder}
use Rattle.explore.specs.Exploring.{and_then, IsFixed}
use Rattle.explore.specs.Counting.{GoesBeyond}
use Rattle.explore.specs.Moves.{move_of}
use Rattle.explore.specs.Outcomes.{IsAmong}
use Rattle.explore.specs.Stems.{Stem, IsRunOf}
use Rattle.explore.specs.declared.send_mode.SendMode.{SendMode}

-- So many runs are enough to search all that may follow this one: an act is fixed, and as many are
-- enough after it; or each act that may be made is among some moves, after each as many are enough
-- as its move needs, and together the moves need no more. There is one at least.
pub data AreEnough (mode : SendMode) (start : ℕ → State) (n : ℕ) : ℕ → List Passed → Type 0 where
  at_once : {k : ℕ} {P : List Passed} (r : ℕ) (act : Act) → IsFixed mode start n P r act → AreEnough mode start n k (and_then P r act) → AreEnough mode start n k P
  tree : {k : ℕ} {P : List Passed} (moves : List Move) (needs : Move → ℕ)
      → ((r : ℕ) (act : Act) → MayFollowUnder mode start n P r act → IsAmong moves (move_of r (choice_of act)))
      → ((r : ℕ) (act : Act) → MayFollowUnder mode start n P r act → AreEnough mode start n (needs (move_of r (choice_of act))) (and_then P r act))
      → sum_by needs moves ≤ k → 0 < k → AreEnough mode start n k P

-- So many runs are enough for the program on n ranks, and in no run a rank goes beyond so many
-- steps.
pub record IsSmall (mode : SendMode) (program : ProgramValue) (n runs steps : ℕ) : Type 0 where
  pub enough : AreEnough mode (start_of program n) n runs []
  pub within : GoesBeyond mode program n steps → ⊥

-- the same of a run of the ranks of a simulation
abbrev pub EnoughFor : SendMode → SimValue → ℕ → List Passed → Type 0
EnoughFor mode s k P = AreEnough mode (start_of s.program (length s.machines)) (length s.machines) k P

-- so many runs are enough for these stems of the program together, and one at least for each
abbrev pub EnoughForAll : SendMode → ProgramValue → ℕ → ℕ → List Stem → Type 0
EnoughForAll mode program n k [] = Unit {0}
EnoughForAll mode program n k (x ∷ xs) =
    (here : ℕ) × (rest : ℕ) × (0 < here) × ((P : List Passed) → IsRunOf mode program n x P → AreEnough mode (start_of program n) n here P)
    × EnoughForAll mode program n rest xs × (here + rest ≤ k)

-- if so many runs are enough for a run and for what was left before, fewer are for what is left
-- after
abbrev pub Spares : SendMode → SimValue → List Stem → List Stem → Type 0
Spares mode s old new =
    (j k : ℕ) → EnoughForAll mode s.program (length s.machines) j old → EnoughFor mode s k s.run
    → (i : ℕ) × EnoughForAll mode s.program (length s.machines) i new × (i < j + k)

-- if so many are enough for a run that goes on from the first simulation and for what was left
-- before, as many are once it is at the second
abbrev pub KeepsEnough : SendMode → SimValue → List Stem → SimValue → List Stem → Type 0
KeepsEnough mode s old s' new =
    (j k : ℕ) → EnoughForAll mode s.program (length s.machines) j old → EnoughFor mode s k s.run
    → (i : ℕ) × (l : ℕ) × EnoughForAll mode s.program (length s.machines) i new × EnoughFor mode s l s'.run × (i + l ≤ j + k)
