-- How far a run has gone on that leaves branches behind.
use Rattle.std.proofs.Common.{◌≡◌, ℕ, List, [], ◌∷◌, length, ◌⊎◌, inl, inr, sym, subst}
use Rattle.crash_free.specs.Runs.{Passed}
use Rattle.crash_free.specs.Sim.{SimValue}
use Rattle.explore.specs.declared.branch.Branch.{Branch}
use Rattle.explore.specs.declared.moves.Move.{Move}
use Rattle.explore.specs.Counts.{NoneIsFixed}
use Rattle.explore.specs.Making.{LeadsTo}
use Rattle.explore.specs.Met.{Kept, AddsAtMost, AreSameStates, HasMet, KeepsMet, StandsBy}
use Rattle.explore.specs.Outcomes.{AreDistinct, IsAmong}
use Rattle.explore.specs.Searching.{IsAlike, PlaysOn, Remembers, RestsOn}
use Rattle.explore.specs.Small.{KeepsEnough}
use Rattle.explore.specs.Stems.{GoesBehind, Stem, stems_of, GoOff}
use Rattle.explore.proofs.Choosing.{IsStep, goes_by}
use Rattle.explore.proofs.Meeting.{keeps_more, keeps_same}
use Rattle.explore.proofs.Searching.{Moves, plays_along, plays_nothing, remembers_along, plays_moves, remembers_moves}
use Rattle.explore.proofs.Small.{keeps_nothing}
use Rattle.explore.proofs.Sparing.{along_enough, moves_enough}
use Rattle.explore.proofs.Stems.{off_behind, stems_behind}
use Rattle.explore.specs.declared.send_mode.SendMode.{SendMode}

-- branches that go off a run by the ranks of one simulation do by those of another of the same program
pub off_by : (mode : SendMode) → (s s' : SimValue) (C : List Passed) (pending : List Branch) → IsAlike s s' → GoOff mode s'.program (length s'.machines) C pending
    → GoOff mode s.program (length s.machines) C pending
off_by mode s s' C pending alike off =
    subst (λ n. GoOff mode s.program n C pending) alike.ranks (subst (λ p. GoOff mode p (length s'.machines) C pending) alike.program off)

-- the other way
pub off_of : (mode : SendMode) → (s s' : SimValue) (C : List Passed) (pending : List Branch) → IsAlike s s' → GoOff mode s.program (length s.machines) C pending
    → GoOff mode s'.program (length s'.machines) C pending
off_of mode s s' C pending alike off =
    subst (λ n. GoOff mode s'.program n C pending) (sym alike.ranks) (subst (λ p. GoOff mode p (length s.machines) C pending) (sym alike.program) off)

-- A run went on from the first simulation to the second, with what was left before it and now, and where runs stood before it and by now.
pub record HasCome (mode : SendMode) (s : SimValue) (old : List Stem) (s' : SimValue) (pending : List Branch) (before met : Kept) : Type 0 where
  pub plays : PlaysOn mode s old s' (stems_of s'.run pending)
  pub off : GoOff mode s.program (length s.machines) s'.run pending
  pub remembers : Remembers mode s s' (stems_of s'.run pending) before met
  pub enough : KeepsEnough mode s old s' (stems_of s'.run pending)

-- before the first step
pub comes_nowhere : (mode : SendMode) → (s : SimValue) (pending : List Branch) (met : Kept) → GoOff mode s.program (length s.machines) s.run pending
    → HasCome mode s (stems_of s.run pending) s pending met met
comes_nowhere mode s pending met off =
    record {
      plays = plays_nothing mode s (stems_of s.run pending);
      off = off;
      remembers = record { keeps = keeps_same met; each = λ m a. inl a };
      enough = keeps_nothing mode s (stems_of s.run pending);
    }

-- by acts that are fixed
pub comes_along : (mode : SendMode) → (s : SimValue) (old : List Stem) (mid s' : SimValue) (pending : List Branch) (before met : Kept) → HasCome mode s old mid pending before met
    → LeadsTo mode mid s' → HasCome mode s old s' pending before met
comes_along mode s old mid s' pending before met come leads =
    record {
      plays = subst (λ (z : List Stem). PlaysOn mode s old s' z) (sym same) (plays_along mode s old mid s' (stems_of mid.run pending) come.plays leads);
      off = off_behind mode s.program (length s.machines) mid.run s'.run pending leads.behind come.off;
      remembers =
          subst (λ (z : List Stem). Remembers mode s s' z before met) (sym same)
          (remembers_along mode s mid s' (stems_of mid.run pending) before met come.plays.alike come.remembers leads);
      enough =
          subst (λ (z : List Stem). KeepsEnough mode s old s' z) (sym same)
          (along_enough mode s old mid s' (stems_of mid.run pending) come.plays.alike leads come.enough);
    }
  where
    same : stems_of s'.run pending ≡ stems_of mid.run pending
    same = stems_behind mode s.program (length s.machines) mid.run s'.run pending come.off leads.behind

-- by a move, with a branch left for each other
pub comes_moved : (mode : SendMode) → (s : SimValue) (old : List Stem) (mid s' : SimValue) (pending new : List Branch) (moves : List Move) (first : Move)
    (before met met' : Kept) → HasCome mode s old mid pending before met
    → Moves mode s mid s' (stems_of mid.run pending) (stems_of mid.run new) moves first → GoOff mode mid.program (length mid.machines) mid.run new
    → AddsAtMost met mid met' → AreDistinct moves → ((r : ℕ) → NoneIsFixed mode mid r) → HasCome mode s old s' new before met'
comes_moved mode s old mid s' pending new moves first before met met' come made off adds once none =
    record {
      plays =
          subst (λ (z : List Stem). PlaysOn mode s old s' z) (sym same)
          (plays_moves mode s mid s' (stems_of mid.run pending) (stems_of mid.run new) moves first made old come.plays);
      off = off_behind mode s.program (length s.machines) mid.run s'.run new behind off_it;
      remembers =
          subst (λ (z : List Stem). Remembers mode s s' z before met') (sym same)
          (remembers_moves mode s mid s' (stems_of mid.run pending) (stems_of mid.run new) moves first made before met met' come.remembers adds);
      enough =
          subst (λ (z : List Stem). KeepsEnough mode s old s' z) (sym same)
          (moves_enough mode s mid s' (stems_of mid.run pending) (stems_of mid.run new) moves first made once none old come.enough);
    }
  where
    step : IsStep mid first.rank s'
    step = goes_by mid s' first.rank first.choice made.now made.then (made.acts first (0, made.there)).1 made.allows

    behind : GoesBehind mid.run s'.run
    behind = (record { rank = first.rank; act = step.act } ∷ [], step.run)

    off_it : GoOff mode s.program (length s.machines) mid.run new
    off_it = off_by mode s mid mid.run new made.alike off

    same : stems_of s'.run new ≡ stems_of mid.run new
    same = stems_behind mode s.program (length s.machines) mid.run s'.run new off_it behind

-- what goes on by a move goes behind
pub moved_behind : (mode : SendMode) → (s mid s' : SimValue) (old new : List Stem) (moves : List Move) (first : Move)
    → Moves mode s mid s' old new moves first → GoesBehind mid.run s'.run
moved_behind mode s mid s' old new moves first made =
    let step : IsStep mid first.rank s' = goes_by mid s' first.rank first.choice made.now made.then (made.acts first (0, made.there)).1 made.allows in
    (record { rank = first.rank; act = step.act } ∷ [], step.run)

-- where as many states are met nothing more is remembered
pub remembers_same : (mode : SendMode) → (s s' : SimValue) (pending : List Stem) (before met met' : Kept) → Remembers mode s s' pending before met
    → AreSameStates met met' → Remembers mode s s' pending before met'
remembers_same mode s s' pending before met met' remembers same =
    record {
      keeps = keeps_more before met met' remembers.keeps keeps;
      each = λ m a. go m (remembers.each m (back m a));
    }
  where
    keeps : KeepsMet met met'
    keeps = record { same = same.closes; kept = λ x a. subst (λ z. IsAmong z x) (sym same.states) a }

    back : (m : List Passed) → HasMet mode s met' m → HasMet mode s met m
    back m a = (
      a.0,
      subst (λ z. IsAmong z a.0) same.states a.1,
      subst (λ closes. StandsBy closes s.program (length s.machines) m a.0) same.closes a.2,
      a.3,
    )

    go : (m : List Passed) → HasMet mode s before m ⊎ RestsOn mode s s' pending met m → HasMet mode s before m ⊎ RestsOn mode s s' pending met' m
    go m (inl there) = inl there
    go m (inr rests) = inr (λ found all more searched then. rests found all (keeps_more met met' all keeps more) searched then)

-- by acts that are fixed, behind which is asked whether a run stood there
pub comes_looked : (mode : SendMode) → (s : SimValue) (old : List Stem) (mid s' : SimValue) (pending : List Branch) (before met met' : Kept)
    → HasCome mode s old mid pending before met → LeadsTo mode mid s' → AreSameStates met met' → HasCome mode s old s' pending before met'
comes_looked mode s old mid s' pending before met met' come leads same =
    let along = comes_along mode s old mid s' pending before met come leads in
    record {
      plays = along.plays;
      off = along.off;
      remembers = remembers_same mode s s' (stems_of s'.run pending) before met met' along.remembers same;
      enough = along.enough;
    }
