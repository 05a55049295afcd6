-- The events of a text, or its first faulty line and that line's lowest fault (docs/FORMATS.md,
-- "Events of a world").
use Rattle.std.specs.Prelude.{ℕ, ◌+◌, List, [], ◌∷◌, ◌++◌, nat_lt, length, codes, Option}
use Rattle.std.specs.Prelude.{Some, None, Result, Ok, Err, if◌then◌else◌}
use Rattle.std.specs.Str.{bytes_eq}
use Rattle.limits.specs.Limits.{most_event_lines}
use Rattle.bare_world.specs.declared.event.WorldEvent.{WorldEvent}
use Rattle.bare_world.specs.declared.event.WorldEvent.TheVariants.{Step, Put, Arrive, Store, Ack, Image, Crash, Restart, Release}
use Rattle.world_model.specs.declared.events_text.fault.EventsFaultKind.{EventsFaultKind}
use Rattle.world_model.specs.declared.events_text.fault.EventsFaultKind.TheVariants.{BadLine, Limit}
use Rattle.world_model.specs.declared.events_text.line.Judged as source_judged
use Rattle.rank_text.specs.Lines.Pieces.{pieces_of, words_of}
use Rattle.rank_text.specs.Lines.Numbers.{decimal_of}
use Rattle.rank_text.specs.Lines.Skipped.{is_skipped}

-- a number has 1 to 9 decimal digits
abbrev pub number_in : List ℕ → Option ℕ
number_in word = if nat_lt 9 (length word) then None else decimal_of word

-- the words are one number
abbrev pub one_number : List (List ℕ) → Option ℕ
one_number (w ∷ []) = number_in w
one_number _ = None

-- both are there
abbrev pub both : {A B : Type 0} → Option A → Option B → Option (A × B)
both (Some a) (Some b) = Some (a, b)
both _ _ = None

-- the words are two numbers
abbrev pub two_numbers : List (List ℕ) → Option (ℕ × ℕ)
two_numbers [] = None
two_numbers (w ∷ ws) = both (number_in w) (one_number ws)

-- the words are three numbers
abbrev pub three_numbers : List (List ℕ) → Option (ℕ × (ℕ × ℕ))
three_numbers [] = None
three_numbers (w ∷ ws) = both (number_in w) (two_numbers ws)

-- the event of one rank that has this name
abbrev pub rank_event : List ℕ → ℕ → Option WorldEvent
rank_event name r =
    if bytes_eq name (codes "step") then Some (Step r) else (
    if bytes_eq name (codes "store") then Some (Store r) else (
    if bytes_eq name (codes "ack") then Some (Ack r) else (
    if bytes_eq name (codes "image") then Some (Image r) else (
    if bytes_eq name (codes "crash") then Some (Crash r) else (
    if bytes_eq name (codes "restart") then Some (Restart r) else (
    if bytes_eq name (codes "release") then Some (Release r) else None))))))

-- the event of this name, told by these words
abbrev pub named_event : List ℕ → List (List ℕ) → Option WorldEvent
named_event name ws =
    if bytes_eq name (codes "put") then elim (two_numbers ws) [ None ↦ None | Some n ↦ Some (Put n.0 n.1) ] else (
    if bytes_eq name (codes "arrive") then elim (three_numbers ws) [ None ↦ None | Some n ↦ Some (Arrive n.0 n.1.0 n.1.1) ] else
    elim (one_number ws) [ None ↦ None | Some r ↦ rank_event name r ])

-- the event that words tell, if they have a form
abbrev pub event_of : List (List ℕ) → Option WorldEvent
event_of [] = None
event_of (name ∷ ws) = named_event name ws

-- what a line of this number gives, if no form is wrong
abbrev pub within_limit : ℕ → Option WorldEvent → Result (Option WorldEvent) EventsFaultKind
within_limit n e = if nat_lt most_event_lines n then Err Limit else Ok e

-- an event, or the fault if there is none
abbrev pub formed : ℕ → Option WorldEvent → Result (Option WorldEvent) EventsFaultKind
formed n None = Err BadLine
formed n (Some e) = within_limit n (Some e)

-- a line's event, or none where the line is skipped, or its lowest fault
abbrev pub event_on : ℕ → List ℕ → Result (Option WorldEvent) EventsFaultKind
event_on n line = if is_skipped line then within_limit n None else formed n (event_of (words_of line))

-- a line's event in front of those of the lines behind it
abbrev pub onto_event : Option WorldEvent → Result (List WorldEvent) (ℕ × EventsFaultKind) → Result (List WorldEvent) (ℕ × EventsFaultKind)
onto_event (Some e) (Ok es) = Ok (e ∷ es)
onto_event (Some e) (Err f) = Err f
onto_event None r = r

-- the events of lines from number n on, or the first fault and its line
abbrev pub events_from : ℕ → List (List ℕ) → Result (List WorldEvent) (ℕ × EventsFaultKind)
events_from n [] = Ok []
events_from n (l ∷ ls) = elim (event_on n l) [ Err k ↦ Err (n, k) | Ok e ↦ onto_event e (events_from (n + 1) ls) ]

-- the events of a text, or its first fault and the line
abbrev pub events_of : List ℕ → Result (List WorldEvent) (ℕ × EventsFaultKind)
events_of text = events_from 1 (pieces_of 10 text)

-- events in front of those behind them
abbrev pub behind_events : List WorldEvent → Result (List WorldEvent) (ℕ × EventsFaultKind) → Result (List WorldEvent) (ℕ × EventsFaultKind)
behind_events es (Ok fs) = Ok (es ++ fs)
behind_events es (Err f) = Err f

-- what was judged of a line
abbrev pub judged_seen : source_judged.Judged → Result (Option WorldEvent) EventsFaultKind
judged_seen source_judged.TheVariants.Skipped = Ok None
judged_seen (source_judged.TheVariants.Event e) = Ok (Some e)
judged_seen (source_judged.TheVariants.Faulty k) = Err k
