-- A line more behind the lines of a script.
use Rattle.std.proofs.Common.{◌≡◌, ℕ, ◌+◌, ◌<◌, List, [], ◌∷◌, ◌++◌, All, refl, arith}
use Rattle.std.proofs.lemmas.List.Elements.{All-append, All-cons, All-head, All-nil, All-tail}
use Rattle.std.proofs.lemmas.Bool.Decides.{nat_tests}
use Rattle.rank_text.specs.declared.script.line.Order.{Order}
use Rattle.rank_text.specs.declared.script.line.Order.TheVariants.{Kill, Image}
use Rattle.rank_text.specs.declared.script.line.ScriptLine.{ScriptLine}
use Rattle.outcomes.specs.Soak.Lines.{CanBeUsed, CanFollow, count_of, imaged_in, images_in, kills_in, passed_in, reached_in}

-- what holds of the lines and of the one behind them holds of all
pub push_all : (P : ScriptLine → Type 0) (lines : List ScriptLine) (line : ScriptLine) → All P lines → P line → All P (lines ++ line ∷ [])
push_all P lines line all one = All-append P lines (line ∷ []) all (All-cons P line [] one (All-nil P))

-- a line that can follow each of the others can be used behind them
pub push_usable : (lines : List ScriptLine) (line : ScriptLine) → CanBeUsed lines → All (CanFollow line) lines → CanBeUsed (lines ++ line ∷ [])
push_usable [] line usable follows = (All-nil (λ later. CanFollow later line), tt)
push_usable (first ∷ lines) line usable follows = (
  push_all (λ later. CanFollow later first) lines line usable.0 (All-head (CanFollow line) first lines follows),
  push_usable lines line usable.1 (All-tail (CanFollow line) first lines follows),
)

-- a line more is a kill more, if it is one
pub push_kills : (lines : List ScriptLine) (line : ScriptLine) → kills_in (lines ++ line ∷ []) ≡ kills_in lines + count_of line.order Kill
push_kills [] line = omega arith
push_kills (first ∷ lines) line = omega (arith, push_kills lines line)

-- and an image more, if it is one
pub push_images : (lines : List ScriptLine) (line : ScriptLine) → images_in (lines ++ line ∷ []) ≡ images_in lines + count_of line.order Image
push_images [] line = omega arith
push_images (first ∷ lines) line = omega (arith, push_images lines line)

-- what a line more changes
pub ruleset push_laws = (push_all, push_usable, push_kills, push_images)

-- what is later than all lines of its rank can follow each of them
later_follows : (lines : List ScriptLine) (line : ScriptLine) → reached_in line.rank lines < line.clock → All (CanFollow line) lines
later_follows [] line h = All-nil (CanFollow line)
later_follows (first ∷ lines) line h = All-cons (CanFollow line) first lines
    (λ same either. grind (arith, nat_tests, h))
    (later_follows lines line (grind (arith, nat_tests, h)))

-- a kill later than all images of its rank can follow each of the lines
kill_follows : (lines : List ScriptLine) (line : ScriptLine) → line.order ≡ Kill → imaged_in line.rank lines < line.clock → All (CanFollow line) lines
kill_follows [] line kill h = All-nil (CanFollow line)
kill_follows (first ∷ lines) line kill h = All-cons (CanFollow line) first lines
    (λ same either. grind (arith, nat_tests, h, kill))
    (kill_follows lines line kill (grind (arith, nat_tests, h)))

-- a line past the clock at which such a line can't be used can follow each of the others
pub can_follow : (order : Order) (rank clock : ℕ) (lines : List ScriptLine) → passed_in order rank lines < clock
    → All (CanFollow (record { rank = rank; clock = clock; order = order })) lines
can_follow Kill rank clock lines h = kill_follows lines (record { rank = rank; clock = clock; order = Kill }) refl h
can_follow Image rank clock lines h = later_follows lines (record { rank = rank; clock = clock; order = Image }) h
