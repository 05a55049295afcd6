use Rattle.std.proofs.Common.{◌≡◌, ℕ, ◌<◌, ◌-◌, true, Some}
use Rattle.std.specs.Prelude.{slice_get}
use Rattle.rank_language.specs.Block.{Line}
use Rattle.crash_free.specs.LiveVariables.Live.{holds_at, claimed}
use Rattle.crash_free.specs.LiveVariables.Seen.{name_of}
use Rattle.crash_free.proofs.live_variables.unread.all_hold.Given as goal

-- the claims so far hold
abbrev pub invariant-loop-position : goal.invariant-loop-position
invariant-loop-position l = record {
  held : (p : ℕ) (k : Line) → p < l.position → slice_get l.program.statements p ≡ Some k → claimed l.row p ≡ true → holds_at (name_of l.name) (claimed l.row) p k ≡ true;
}

abbrev pub decreases-loop-position : goal.decreases-loop-position
decreases-loop-position l = l.lines - l.position
