-- Ranks that rest: their next acts depend on what others do. So a search asks such a rank again only
-- once it has acted itself or something was sent to it.
use Rattle.std.specs.Prelude.{◌≡◌, ℕ, suc, Bool, true, false, List, Some, length, slice_get}
use Rattle.crash_free.specs.Runs.{Passed}
use Rattle.crash_free.specs.Sim.{SimValue}
use Rattle.crash_free.specs.Wanted.{StandsAtAct}
use Rattle.explore.specs.Counts.{NoneIsFixed}
use Rattle.explore.specs.LastState.{sends_to}
use Rattle.explore.specs.declared.send_mode.SendMode.TheVariants.{Buffered}

-- rank r rests: it asks for no step of its own, and none of its acts is fixed
pub record Rests (s : SimValue) (r : ℕ) : Type 0 where
  pub at : StandsAtAct s.machines r
  pub none : NoneIsFixed Buffered s r

-- each rank that has a mark rests
abbrev pub AreResting : SimValue → List Bool → Type 0
AreResting s marks = (r : ℕ) → slice_get marks r ≡ Some true → Rests s r

-- whoever still has a mark had it before, and the last of these acts, the oldest first, sends it nothing
pub record WakesReceiver (acts : List Passed) (old new : List Bool) : Type 0 where
  pub before : (r : ℕ) → slice_get new r ≡ Some true → slice_get old r ≡ Some true
  pub nothing : (r : ℕ) → slice_get new r ≡ Some true → (k : ℕ) (p : Passed) → suc k ≡ length acts → slice_get acts k ≡ Some p → sends_to p.act r ≡ false
