use Rattle.std.proofs.Common.{◌≡◌, ℕ, [], length}
use Rattle.std.specs.Prelude.{slice_index_or}
use Rattle.crash_free.specs.LiveVariables.Names.{place}
use Rattle.crash_free.specs.LiveVariables.Live.{IsRow}
use Rattle.crash_free.proofs.live_variables.live.Live.of.Given as goal

-- the rows so far are right
abbrev pub invariant-loop-place : goal.invariant-loop-place
invariant-loop-place l = record {
  as_many : length l.variables.items ≡ l.place;
  right : (p : ℕ) → IsRow l.program (place p) (slice_index_or l.variables.items p []);
}
