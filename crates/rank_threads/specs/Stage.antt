-- What is made ready for a run before it has an event logger.
use Rattle.std.specs.Prelude.{◌≡◌, ℕ, ◌≤◌, List, [], vec_len, vec_capacity}
use Rattle.ports.specs.AllLanes.{AreCrossed}
use Rattle.rank_text.specs.declared.script.line.ScriptLine.{ScriptLine}
use Rattle.rank_threads.specs.Plans.{plans_below}
use Rattle.rank_threads.specs.Seating.{IsRoom}
use Rattle.rank_threads.specs.declared.stage.Stage.{Stage}

module _ {W : Type 0} where
  -- the lanes between so many ranks, the lines of the script that are for each, and room for what each
  -- leaves
  pub record IsStage (ranks : ℕ) (script : List ScriptLine) (stage : Stage W) : Type 0 where
    pub plans : stage.plans.items ≡ plans_below ranks script
    pub planned : vec_len stage.plans ≡ ranks
    pub crossed : AreCrossed stage.ends.to.items stage.ends.from.items
    pub to : vec_len stage.ends.to ≡ ranks
    pub from : vec_len stage.ends.from ≡ ranks
    pub vacant : stage.stations.items ≡ []
    pub seats : ranks ≤ vec_capacity stage.stations
    pub room : IsRoom ranks stage.room
