-- What a logger answers of a row.
use Rattle.std.proofs.Common.{◌≡◌, ℕ, ◌≤◌, List, [], length, subst, arith, sym}
use Rattle.limits.specs.Limits.{most_events}
use Rattle.event_logger.specs.Sequential.Event.{EventValue}
use Rattle.event_logger.specs.Sequential.History.{StateValue, Answers, IsRow, above, row}
use Rattle.event_logger.specs.declared.sequential.call.Call.TheVariants.{Fetch}
use Rattle.event_logger.specs.declared.sequential.call.Reply.TheVariants.{Events}
use Rattle.rank_node.proofs.Rows.{length_above}

-- a fetch answers what the row has above the clock
pub fetched : (s new : StateValue) (rank after : ℕ) (events : List EventValue) → Answers s rank (Fetch after) (Events events) new
    → events ≡ above after (row s.rows rank)
fetched s new rank after events a = (let q : Events events ≡ Events (above after (row s.rows rank)) = a.replied in cc)

-- and no more events than a row may hold
pub short : (s new : StateValue) (rank after : ℕ) (events stored : List EventValue) → Answers s rank (Fetch after) (Events events) new
    → stored ≡ row s.rows rank → IsRow stored → length events ≤ most_events
short s new rank after events stored a same law =
    let e = fetched s new rank after events a in
    let l = length_above after (row s.rows rank) in
    let m = (subst IsRow same law).short in
    subst (λ z. length z ≤ most_events) (sym e) (omega (arith, l, m))
