-- What an outcome text says, and its first faulty line with that line's lowest fault
-- (docs/FORMATS.md, "Outcomes").
use Rattle.std.specs.Prelude.{ℕ, zero, suc, ◌+◌, ◌==◌, ◌≡◌, length, slice_get, List, [], ◌∷◌, ◌++◌}
use Rattle.std.specs.Prelude.{Bool, true, false, ◌&&◌, ◌||◌, nat_le, nat_lt, Option, Some, None, if◌then◌else◌}
use Rattle.limits.specs.Limits.{most_event_lines}
use Rattle.event_logger.specs.Sequential.Event.{EventValue, event_of}
use Rattle.rank_text.specs.Lines.Pieces.{pieces_of, words_of}
use Rattle.rank_text.specs.Lines.Skipped.{is_skipped}
use Rattle.outcomes.specs.declared.text.fault.OutcomeFault.{OutcomeFault}
use Rattle.outcomes.specs.declared.text.fault.OutcomeFaultKind.{OutcomeFaultKind}
use Rattle.outcomes.specs.declared.text.fault.OutcomeFaultKind.TheVariants.{BadLine, BadRank, AfterEnd, NotRising, NoEnd, Limit}
use Rattle.outcomes.specs.declared.text.form.Entry.{Entry}
use Rattle.outcomes.specs.declared.text.form.Entry.TheVariants as entry
use Rattle.outcomes.specs.declared.text.form.LineForm.{LineForm}
use Rattle.outcomes.specs.declared.text.form.LinePart.{LinePart}
use Rattle.outcomes.specs.declared.text.form.LinePart.TheVariants as part
use Rattle.outcomes.specs.declared.text.progress.RankSoFar.{RankSoFar}
use Rattle.outcomes.specs.Text.Forms.{form_of}

-- the entry of the line of this number, which says this of a rank
abbrev pub entry_at : ℕ → ℕ → LinePart → Entry
entry_at number rank (part.Event kind source sent clock) = entry.Event number rank (event_of kind source sent clock)
entry_at number rank (part.Print clock value) = entry.Print number rank clock value
entry_at number rank (part.End end) = entry.End number rank end

-- the entry of the line of this number and form
abbrev pub entry_of : ℕ → LineForm → Entry
entry_of number form = entry_at number form.rank form.part

-- the rank that an entry is of
abbrev pub rank_of : Entry → ℕ
rank_of (entry.Event line rank event) = rank
rank_of (entry.Print line rank clock value) = rank
rank_of (entry.End line rank end) = rank

-- what the text has of a rank after one entry more of it: its last clock, and whether its end
abbrev pub after : RankSoFar → Entry → RankSoFar
after p (entry.Event line rank event) = record { clock = event.receiver_clock; ended = p.ended }
after p (entry.Print line rank clock value) = record { clock = clock; ended = p.ended }
after p (entry.End line rank end) = record { clock = p.clock; ended = true }

-- the same after an entry, which may be of another rank
abbrev pub after_entry : ℕ → RankSoFar → Entry → RankSoFar
after_entry r p e = if rank_of e == r then after p e else p

-- the same after these entries
abbrev pub progress_from : ℕ → RankSoFar → List Entry → RankSoFar
progress_from r p [] = p
progress_from r p (e ∷ es) = progress_from r (after_entry r p e) es

-- what entries have of a rank: the clock of its last act, 0 if there is none, and whether its end
abbrev pub progress_of : ℕ → List Entry → RankSoFar
progress_of r es = progress_from r (record { clock = 0; ended = false }) es

-- a source that is none of so many ranks
abbrev pub is_of_stranger : ℕ → LinePart → Bool
is_of_stranger ranks (part.Event kind source sent clock) = nat_le ranks source
is_of_stranger ranks (part.Print clock value) = false
is_of_stranger ranks (part.End end) = false

-- the line names a rank that is none of so many
abbrev pub is_foreign : ℕ → LineForm → Bool
is_foreign ranks form = nat_le ranks form.rank || is_of_stranger ranks form.part

-- the line's act has a clock that isn't above this one
abbrev pub is_late : ℕ → LinePart → Bool
is_late last (part.Event kind source sent clock) = nat_le clock last
is_late last (part.Print clock value) = nat_le clock last
is_late last (part.End end) = false

-- the fault of what a line says of a rank of which the lines before it have this
abbrev pub order_fault : RankSoFar → LinePart → Option OutcomeFaultKind
order_fault p part = if p.ended then Some AfterEnd else (if is_late p.clock part then Some NotRising else None)

-- the fault of a line of this form behind these entries
abbrev pub form_fault : ℕ → List Entry → LineForm → Option OutcomeFaultKind
form_fault ranks before form =
    if is_foreign ranks form then Some BadRank else order_fault (progress_of form.rank before) form.part

-- the same of a line that has a form, or none
abbrev pub line_fault : ℕ → List Entry → Option LineForm → Option OutcomeFaultKind
line_fault ranks before None = Some BadLine
line_fault ranks before (Some form) = form_fault ranks before form

-- the fault of the number of a line, if it has no lower one
abbrev pub or_limit : ℕ → Option OutcomeFaultKind → Option OutcomeFaultKind
or_limit number None = if nat_lt most_event_lines number then Some Limit else None
or_limit number (Some kind) = Some kind

-- the lowest fault of the line of this number behind these entries
abbrev pub fault_of : ℕ → List Entry → ℕ → List ℕ → Option OutcomeFaultKind
fault_of ranks before number line =
    or_limit number (if is_skipped line then None else line_fault ranks before (form_of (words_of line)))

-- the form of a line that isn't skipped
abbrev pub form_by : List ℕ → Option LineForm
form_by line = if is_skipped line then None else form_of (words_of line)

-- entries, and that of the line of this number behind them
abbrev pub with_form : List Entry → ℕ → Option LineForm → List Entry
with_form before number None = before
with_form before number (Some form) = before ++ entry_of number form ∷ []

-- each of so many ranks has its end on these lines
abbrev pub all_ended : ℕ → List Entry → Bool
all_ended zero es = true
all_ended (suc n) es = all_ended n es && (progress_of n es).ended

-- the first fault of lines from this number on, behind these entries
abbrev pub first_fault_from : ℕ → List Entry → ℕ → List (List ℕ) → Option OutcomeFault
first_fault_from ranks before number [] =
    if all_ended ranks before then None else Some (record { line = number; kind = NoEnd })
first_fault_from ranks before number (line ∷ lines) =
    elim (fault_of ranks before number line)
    [ None ↦ first_fault_from ranks (with_form before number (form_by line)) (number + 1) lines | Some kind ↦ Some (record { line = number; kind = kind }) ]

-- the first faulty line of a text, with its lowest fault
abbrev pub first_fault : ℕ → List ℕ → Option OutcomeFault
first_fault ranks text = first_fault_from ranks [] 1 (pieces_of 10 text)

-- the entries of lines from this number on, behind these
abbrev pub entries_from : List Entry → ℕ → List (List ℕ) → List Entry
entries_from before number [] = before
entries_from before number (line ∷ lines) = entries_from (with_form before number (form_by line)) (number + 1) lines

-- the entries of a text, in its order
abbrev pub entries_of : List ℕ → List Entry
entries_of text = entries_from [] 1 (pieces_of 10 text)

-- a vector has of each of so many ranks what these entries have of it
pub record AreProgress (ranks : ℕ) (es : List Entry) (ps : List RankSoFar) : Type 0 where
  pub width : length ps ≡ ranks
  pub each : (r : ℕ) (p : RankSoFar) → slice_get ps r ≡ Some p → p ≡ progress_of r es
