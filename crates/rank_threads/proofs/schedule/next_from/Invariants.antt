use Rattle.std.proofs.Common.{◌≡◌, ◌<◌, ◌≤◌, ℕ, true, slice_index_or}
use Rattle.rank_threads.specs.Seats.{is_gone}
use Rattle.rank_threads.specs.declared.life.seat.Seat.{Seat}
use Rattle.rank_threads.proofs.schedule.next_from.Given as goal

-- those so far are gone
abbrev pub invariant-loop-at : goal.invariant-loop-at
invariant-loop-at l = (at : ℕ) (other : Seat) → l.first ≤ at → at < l.at → is_gone (slice_index_or l.seats at other) ≡ true
