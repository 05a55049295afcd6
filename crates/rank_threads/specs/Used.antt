-- Which lines of a script a turn uses, and a life: an image's line, or at last the line of the
-- kill at whose clock the rank stands.
use Rattle.std.specs.Prelude.{◌≡◌, ℕ, ◌⊎◌, Bool, true, List, ◌∷◌, drop}
use Rattle.rank_text.specs.declared.script.line.Order.TheVariants.{Kill, Image}
use Rattle.rank_text.specs.declared.script.line.ScriptLine.{ScriptLine}
use Rattle.rank_threads.specs.declared.life.ending.Ending.{Ending}
use Rattle.rank_threads.specs.declared.life.ending.Ending.TheVariants as ending
use Rattle.rank_threads.specs.declared.turn.After.{After}
use Rattle.rank_threads.specs.declared.turn.After.TheVariants as after

-- the next line is used, a kill of this clock
pub record UsesKill (old new : List ScriptLine) (clock : ℕ) : Type 0 where
  pub line : ScriptLine
  pub next : old ≡ line ∷ new
  pub kills : line.order ≡ Kill
  pub there : line.clock ≡ clock

-- the next line is used, which asks for an image
pub record UsesImage (old new : List ScriptLine) : Type 0 where
  pub line : ScriptLine
  pub next : old ≡ line ∷ new
  pub images : line.order ≡ Image

-- no line is used, or the next one, which asks for an image
abbrev pub MayUseImage : List ScriptLine → List ScriptLine → Type 0
MayUseImage old new = (new ≡ old) ⊎ UsesImage old new

-- no line is used, or the next one if an image is to be taken
abbrev pub MayUseOne : Bool → List ScriptLine → List ScriptLine → Type 0
MayUseOne is_imaged old new = (new ≡ old) ⊎ ((is_imaged ≡ true) × (new ≡ drop 1 old))

-- what a turn uses: a rank that goes down by it the kill of the clock at which it stands, any other
-- rank no line or that of an image
abbrev pub UsesLine : After → List ScriptLine → List ScriptLine → Type 0
UsesLine (after.Turn is_idle) old new = MayUseImage old new
UsesLine (after.Crash killed) old new = UsesKill old new killed.at
UsesLine (after.Leave reason) old new = MayUseImage old new

-- lines that ask for images are used, one after another
pub data UsesImages (first : List ScriptLine) : List ScriptLine → Type 0 where
  unused : UsesImages first first
  used : {old new : List ScriptLine} → UsesImages first old → UsesImage old new → UsesImages first new

-- what a life uses: lines that ask for images, and behind them, if it ends by a crash, that kill
abbrev pub UsesLines : Ending → List ScriptLine → List ScriptLine → Type 0
UsesLines (ending.Crashed killed) old new = (mid : List ScriptLine) × UsesImages old mid × UsesKill mid new killed.at
UsesLines (ending.Left reason) old new = UsesImages old new
