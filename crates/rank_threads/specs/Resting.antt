-- When a rank comes to rest, in the detection of termination by counting (Mattern 1987): what an
-- idle turn makes of one that hasn't marked itself yet (docs/ARCHITECTURE.md).
use Rattle.std.specs.Prelude.{◌≡◌, ℕ, Bool, true, false, ◌⊎◌}
use Rattle.rank_threads.specs.Tally.{after_idle, is_last_idle}
use Rattle.rank_threads.specs.declared.turn.stepping.Stepped.{Stepped}
use Rattle.rank_threads.specs.declared.turn.stepping.Stepped.TheVariants as stepped
use Rattle.rank_threads.specs.declared.tally.Tally.{Tally}

-- A rank that waits has counted the turn. If that isn't the last of as many in succession as the
-- limits say, nothing else changes; if it is, the rank marks itself, or notes how far it has read
-- other rows.
abbrev pub WaitsOn : Bool → Tally → Tally → Type 0
WaitsOn false t u = u ≡ t
WaitsOn true t u = (u ≡ record t { is_marked = true }) ⊎ (u ≡ record t { seen = u.seen })

-- A rank that owes no other a frame marks itself at once if it has ended or steps no more, and one
-- that waits after so many idle turns in succession; any other isn't at rest.
abbrev pub ComesToRest : ℕ → Stepped → Tally → Tally → Type 0
ComesToRest idle stepped.Ended t u = u ≡ record t { is_marked = true }
ComesToRest idle stepped.Blocked t u = WaitsOn (is_last_idle t idle) (after_idle t idle) u
ComesToRest idle stepped.Moved t u = u ≡ t
ComesToRest idle stepped.Acted t u = u ≡ t
ComesToRest idle stepped.Held t u = u ≡ t

-- a rank that may owe one doesn't mark itself, nor count the turn
abbrev pub RestsUnless : Bool → ℕ → Stepped → Tally → Tally → Type 0
RestsUnless true idle stepped t u = u ≡ t
RestsUnless false idle stepped t u = ComesToRest idle stepped t u

-- what an idle turn makes of a rank that hasn't marked itself
abbrev pub Rests : ℕ → Stepped → Tally → Tally → Type 0
Rests idle stepped t u = RestsUnless t.may_owe idle stepped t u
