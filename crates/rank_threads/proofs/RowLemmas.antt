-- A fetch leaves the events that a desk has stored.
use Rattle.std.proofs.Common.{◌≡◌, List, [], ◌∷◌, ◌++◌, Some, refl, sym, ap, ◌∙◌}
use Rattle.event_logger.specs.Sequential.Event.{EventValue}
use Rattle.event_logger.specs.Sequential.History.{above}
use Rattle.event_logger.specs.declared.sequential.call.Call.TheVariants.{Fetch}
use Rattle.event_logger.specs.declared.view.DeskCall.{DeskCall}
use Rattle.event_logger.specs.Desks.{DeskValue, answered, found, own_row, stored, stored_by, with_call}
use Rattle.rank_threads.specs.Stations.{HasRow}
use Rattle.rank_threads.specs.declared.life.row.Row.{Row}
use Rattle.rank_threads.specs.declared.life.station.Station.{Station}

-- a call that stores nothing leaves what calls have stored
stored_more : (calls : List DeskCall) (c : DeskCall) → stored c.call c.answer ≡ [] → stored_by (calls ++ c ∷ []) ≡ stored_by calls
stored_more [] c none = rw (none) refl
stored_more (d ∷ calls) c none = ap (λ es. stored d.call d.answer ++ es) (stored_more calls c none)

-- so does a fetch
pub fetch_keeps : (d : DeskValue) (row : List EventValue) → own_row (with_call d (Fetch 0) (found row)) ≡ own_row d
fetch_keeps d row = stored_more d.calls (answered (Fetch 0) (found row)) refl

-- what a fetch answered is the whole row, also after it
pub has_row : (s : Station) (desk : DeskValue) (row : Row) → s.row ≡ Some row → row.events.items ≡ above 0 (own_row desk)
    → s.down.desk ≡ with_call desk (Fetch 0) (found (own_row desk)) → HasRow s
has_row s desk row there whole after = record {
  row = row;
  fetched = there;
  whole = whole ∙ ap (above 0) (sym (ap own_row after ∙ fetch_keeps desk (own_row desk)));
}
