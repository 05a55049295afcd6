-- Replay is exact: a rank that crashed and made its acts again is where it was, except for silent
-- steps.
-- Source: piecewise determinism, replay up to the state before the failure, Elnozahy, Alvisi, Wang
-- and Johnson 2002, section 2; Alvisi and Marzullo 1998, section 2.
use Rattle.std.specs.Prelude.{◌≡◌, ℕ, ◌⊎◌}
use Rattle.rank_machine.specs.States.{State, Inners}
use Rattle.rank_machine.specs.Machine.{state_of}
use Rattle.bare_world.specs.World.{Live, WorldValue, IsLive}
use Rattle.bare_world.specs.Headline.{owed}

-- one of the states is the other, or leads there by silent steps
abbrev pub AreSilentlyOne : State → State → Type 0
AreSilentlyOne a b = Inners a b ⊎ Inners b a

-- Where a rank of the first world owes nothing, and has made as many acts in the second one, its
-- program is where it was, except for silent steps.
abbrev pub ReplaysExactly : WorldValue → WorldValue → Type 0
ReplaysExactly w w' =
    (r : ℕ) (v v' : Live) → IsLive w r v → owed v ≡ 0 → IsLive w' r v' → v'.rank.clock ≡ v.rank.clock
    → AreSilentlyOne (state_of v.rank.machine) (state_of v'.rank.machine)
