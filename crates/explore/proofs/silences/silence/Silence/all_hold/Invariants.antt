use Rattle.std.proofs.Common.{◌≡◌, ℕ, ◌<◌, ◌-◌, true, Some}
use Rattle.std.specs.Prelude.{slice_get}
use Rattle.rank_language.specs.Block.{Line}
use Rattle.crash_free.specs.LiveVariables.Live.{claimed}
use Rattle.explore.specs.Silences.{HoldsAt}
use Rattle.explore.proofs.silences.silence.Silence.all_hold.Given as goal

-- the claims so far hold
abbrev pub invariant-loop-position : goal.invariant-loop-position
invariant-loop-position l = record {
  held : (p : ℕ) (k : Line) → p < l.position → slice_get l.program.statements p ≡ Some k → claimed l.self.claims p ≡ true → HoldsAt l.self.sought (claimed l.self.claims) p k;
}

abbrev pub decreases-loop-position : goal.decreases-loop-position
decreases-loop-position l = l.lines - l.position
