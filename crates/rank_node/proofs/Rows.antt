-- What of a row is above a clock is no longer than the row.
use Rattle.std.specs.Prelude.{ℕ, suc, ◌≤◌, nat_lt, Bool, true, false, cond, List, [], ◌∷◌, length}
use Rattle.std.proofs.Common.{arith}
use Rattle.event_logger.specs.Sequential.Event.{EventValue}
use Rattle.event_logger.specs.Sequential.History.{above}

-- the events of a row above a clock are no more than the row has
pub length_above : (after : ℕ) (es : List EventValue) → length (above after es) ≤ length es
length_above after [] = (let z : 0 ≤ 0 = omega arith in z)
length_above after (e ∷ es) = go (nat_lt after e.receiver_clock) (length_above after es)
  where
    go : (b : Bool) → length (above after es) ≤ length es → length (cond b (e ∷ above after es) (above after es)) ≤ suc (length es)
    go true z = (let q : suc (length (above after es)) ≤ suc (length es) = omega (arith, z) in q)
    go false z = (let q : length (above after es) ≤ suc (length es) = omega (arith, z) in q)
