-- Which lines a script has that is drawn at random, and which of them can be used.
use Rattle.std.specs.Prelude.{◌≡◌, ◌⊎◌, ℕ, ◌+◌, ◌<◌, ◌≤◌, ◌==◌, max, Bool, true, false, ◌&&◌, if◌then◌else◌, List, [], ◌∷◌, All, slice_index_or}
use Rattle.rank_text.specs.declared.script.line.Order.{Order}
use Rattle.rank_text.specs.declared.script.line.Order.TheVariants.{Kill, Image}
use Rattle.rank_text.specs.declared.script.line.ScriptLine.{ScriptLine}

-- one, if both are the same order
abbrev pub count_of : Order → Order → ℕ
count_of Kill Kill = 1
count_of Kill Image = 0
count_of Image Kill = 0
count_of Image Image = 1

-- how many of these lines are kills
abbrev pub kills_in : List ScriptLine → ℕ
kills_in [] = 0
kills_in (line ∷ lines) = count_of line.order Kill + kills_in lines

-- how many of these lines are images
abbrev pub images_in : List ScriptLine → ℕ
images_in [] = 0
images_in (line ∷ lines) = count_of line.order Image + images_in lines

-- the clock is one of the acts that its rank makes
abbrev pub IsWithin : List ℕ → ScriptLine → Type 0
IsWithin acts line = line.clock ≤ slice_index_or acts line.rank 0

-- so it is of each of these lines
abbrev pub AreWithin : List ℕ → List ScriptLine → Type 0
AreWithin acts lines = All (IsWithin acts) lines

-- the greatest clock at which one of these lines is for this rank, or 0
abbrev pub reached_in : ℕ → List ScriptLine → ℕ
reached_in rank [] = 0
reached_in rank (line ∷ lines) = if line.rank == rank then max line.clock (reached_in rank lines) else reached_in rank lines

-- it asks for an image
abbrev pub is_image : Order → Bool
is_image Kill = false
is_image Image = true

-- the greatest clock at which one of these lines asks this rank for an image, or 0
abbrev pub imaged_in : ℕ → List ScriptLine → ℕ
imaged_in rank [] = 0
imaged_in rank (line ∷ lines) =
    if line.rank == rank && is_image line.order then max line.clock (imaged_in rank lines) else imaged_in rank lines

-- the last clock of this rank at which such a line can't be used behind these
abbrev pub passed_in : Order → ℕ → List ScriptLine → ℕ
passed_in Kill rank lines = imaged_in rank lines
passed_in Image rank lines = reached_in rank lines

-- The first line can be used once the second is: at another rank always; a rank that is killed
-- makes its acts after its last image again, so a kill may stand at an earlier clock than another,
-- but none at or before an image; and a rank that replays takes no image, so an image stands at
-- a later clock than all before it.
abbrev pub CanFollow : ScriptLine → ScriptLine → Type 0
CanFollow line before = line.rank ≡ before.rank → (line.order ≡ Image) ⊎ (before.order ≡ Image) → before.clock < line.clock

-- each of these lines can be used once those before it are
abbrev pub CanBeUsed : List ScriptLine → Type 0
CanBeUsed [] = Unit {0}
CanBeUsed (line ∷ lines) = All (λ later. CanFollow later line) lines × CanBeUsed lines
