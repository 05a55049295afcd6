-- Steps of its own that one rank makes in succession: no other rank sees them, and the run stays as
-- it is.
use Rattle.std.specs.Prelude.{◌≡◌, ◌≢◌, ℕ, length, slice_get, IsSomeAnd}
use Rattle.rank_machine.specs.Machine.{Strides}
use Rattle.crash_free.specs.Sim.{SimValue}

-- So many steps of its own lead a rank's machine on, each of which it asked for; all else stays.
pub record GoesInside (s : SimValue) (r steps : ℕ) (s' : SimValue) : Type 0 where
  pub program : s'.program ≡ s.program
  pub run : s'.run ≡ s.run
  pub ranks : length s'.machines ≡ length s.machines
  pub strides : IsSomeAnd (slice_get s.machines r) (λ m. IsSomeAnd (slice_get s'.machines r) (λ m'. Strides steps m m'))
  pub others : (q : ℕ) → q ≢ r → slice_get s'.machines q ≡ slice_get s.machines q
