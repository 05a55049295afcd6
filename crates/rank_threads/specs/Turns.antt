-- What the beginning of a turn comes to.
use Rattle.std.specs.Prelude.{◌≡◌, ℕ, Bool, true, false, List, Result, Ok, Err}
use Rattle.rank_node.specs.Phases.{clock_in}
use Rattle.rank_node.specs.declared.fault.NodeFault.{NodeFault}
use Rattle.rank_text.specs.declared.script.line.ScriptLine.{ScriptLine}
use Rattle.rank_threads.specs.Costs.{after_step}
use Rattle.rank_threads.specs.Orders.{is_kill, order_after}
use Rattle.rank_threads.specs.Steps.{step_of, strides, Strode}
use Rattle.rank_threads.specs.Taking.{TookBelow}
use Rattle.rank_threads.specs.Phases.{Phase}
use Rattle.rank_threads.specs.declared.life.Life.{Life}
use Rattle.rank_threads.specs.declared.turn.taking.Arrivals.{Arrivals}
use Rattle.rank_threads.specs.declared.turn.taking.Arrivals.TheVariants as arrivals
use Rattle.rank_threads.specs.declared.turn.TurnStart.{TurnStart}

-- whether frames came
abbrev pub is_frames : Arrivals → Bool
is_frames arrivals.Frames = true
is_frames (arrivals.Nothing none) = false
is_frames (arrivals.Unrung unrung) = false

-- A rank takes what its lanes bring, unless its bell wasn't rung: then it takes nothing.
abbrev pub Brings : Arrivals → Life → Life → Type 0
Brings arrivals.Frames old new = TookBelow old.node.size old new true
Brings (arrivals.Nothing none) old new = TookBelow old.node.size old new false
Brings (arrivals.Unrung unrung) old new = new ≡ old

-- The rank made steps of its own, if it may step and wants one, and counted them, of which the
-- limits allow `most`; if not, it is as it was. Its clock stays.
pub record MakesStride (most : ℕ) (old new : Life) : Type 0 where
  pub made : strides old.kit.tally old.node.phase ≡ true → Strode most old.node.phase new.node.phase old.kit.tally new.kit.tally
  pub none : strides old.kit.tally old.node.phase ≡ false → (new.node.phase ≡ old.node.phase) × (new.kit.tally ≡ old.kit.tally)
  pub clock : clock_in new.node.phase ≡ clock_in old.node.phase

-- A turn began: the rank made steps of its own, took what its lanes brought, and then made the step
-- that its state said. If that was an act it was counted, by its clock.
pub record IsBegun (most : ℕ) (old new : Life) (begun : TurnStart) : Type 0 where
  pub first : Life
  pub strode : MakesStride most old first
  pub mid : Life
  pub brought : Brings begun.brought first mid
  pub stepped : Ok begun.stepped ≡ step_of mid.kit.tally mid.node.phase
  pub acts : new.kit.meter ≡ after_step mid.kit.meter begun.stepped (clock_in new.node.phase)

-- the script kills the rank after this beginning of a turn
abbrev pub kills_after : Result TurnStart NodeFault → List ScriptLine → Phase → Bool
kills_after (Ok begun) plan p = is_kill (order_after begun.stepped plan p)
kills_after (Err f) plan p = false
