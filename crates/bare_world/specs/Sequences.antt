-- What a list of events does, one after another, and where it stops if memory is refused.
use Rattle.std.specs.Prelude.{◌≡◌, ℕ, ◌⊎◌, List, [], ◌∷◌, take, Some}
use Rattle.std.specs.Prelude.{slice_get}
use Rattle.bare_world.specs.declared.event.WorldEvent.{WorldEvent}
use Rattle.bare_world.specs.declared.reply.Reply.{Reply}
use Rattle.bare_world.specs.World.{WorldValue}
use Rattle.bare_world.specs.Headline.{StandsFor}
use Rattle.bare_world.specs.Retained.{NothingGone}
use Rattle.bare_world.specs.Follows.{CanNot, Follows}
use Rattle.bare_world.specs.Memory.{Unchanged, TakesNoMemory}

-- What a list of events does, one after another; after each the world stands for its run, and
-- nothing needed is gone.
abbrev pub FollowsAll : WorldValue → List WorldEvent → List Reply → WorldValue → Type 0
FollowsAll w [] [] w' = w' ≡ w
FollowsAll w (event ∷ events) (answer ∷ answers) w' =
    (mid : WorldValue) × Follows w event answer mid × StandsFor mid mid.run × NothingGone mid mid.run × FollowsAll mid events answers w'
FollowsAll w [] (answer ∷ answers) w' = ⊥
FollowsAll w (event ∷ events) [] w' = ⊥

-- There was no memory for the replies to a list of events: none happened.
pub record NotBegun (w : WorldValue) (done : ℕ) (w' : WorldValue) : Type 0 where
  pub none : done ≡ 0
  pub same : w' ≡ w

-- Memory ended after so many events of a list: these happened, and the next, which can happen and
-- takes memory, left the world unchanged.
pub record StoppedAt (w : WorldValue) (events : List WorldEvent) (done : ℕ) (w' : WorldValue) : Type 0 where
  pub replies : List Reply
  pub middle : WorldValue
  pub followed : FollowsAll w (take done events) replies middle
  pub event : WorldEvent
  pub next : slice_get events done ≡ Some event
  pub possible : CanNot middle event → ⊥
  pub frugal : TakesNoMemory middle event → ⊥
  pub unchanged : Unchanged middle event w'

-- where a list of events stops when memory is refused: before it begins, or at an event that takes
-- some
abbrev pub Stops : WorldValue → List WorldEvent → ℕ → WorldValue → Type 0
Stops w events done w' = NotBegun w done w' ⊎ StoppedAt w events done w'
