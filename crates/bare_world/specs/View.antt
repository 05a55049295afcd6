-- What a world shows of one rank.
use Rattle.std.specs.Prelude.{◌≡◌, ℕ, length, true, false, Option, Some, None, IsSomeAnd, slice_get}
use Rattle.crash_free.specs.Runs.{history}
use Rattle.bare_world.specs.World.{Live, WorldValue}
use Rattle.bare_world.specs.declared.view.View.{View}

-- what is shown of a rank that is down, or live with this value, and has made so many acts of the
-- run
abbrev pub shown_of : Option Live → ℕ → View
shown_of None acts = record { live = false; left = 0; clock = 0; acts = acts }
shown_of (Some v) acts = record { live = true; left = length v.left; clock = v.rank.clock; acts = acts }

-- this is what a world shows of this rank
abbrev pub IsView : WorldValue → ℕ → View → Type 0
IsView w r view = IsSomeAnd (slice_get w.ranks r) (λ x. view ≡ shown_of x (length (history w.run r)))
