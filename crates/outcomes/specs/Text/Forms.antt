-- The forms of a line of an outcome text (docs/FORMATS.md, "Outcomes").
use Rattle.std.specs.Prelude.{ℕ, ℤ, ◌≤◌, List, [], ◌∷◌, codes, Option, Some, None, if◌then◌else◌, nat_eq}
use Rattle.std.specs.Str.{bytes_eq}
use Rattle.std.specs.Borrow.{Bor}
use Rattle.rank_text.specs.Lines.Pieces.{words_of}
use Rattle.rank_text.specs.Lines.Skipped.{is_none}
use Rattle.limits.specs.Limits.{greatest_sender}
use Rattle.event_logger.specs.Sequential.Event.{IsEvent, event_of}
use Rattle.event_logger.specs.declared.sequential.kind.Kind.{Kind}
use Rattle.event_logger.specs.declared.sequential.kind.Kind.TheVariants.{Reception, Hit, Miss}
use Rattle.rank_machine.specs.declared.fault.MachineFault.{MachineFault}
use Rattle.rank_machine.specs.declared.fault.MachineFault.TheVariants.{Overflow, ZeroDivide, Index, BadRank, BadTag, TooLong, CollectiveMismatch}
use Rattle.audit.specs.declared.outcome.End as ends
use Rattle.audit.specs.declared.outcome.End.TheVariants.{Halted, Faulted, Stalled, Unfinished}
use Rattle.outcomes.specs.declared.text.form.LineForm.{LineForm}
use Rattle.outcomes.specs.declared.text.form.LinePart.{LinePart}
use Rattle.outcomes.specs.declared.text.form.LinePart.TheVariants as part
use Rattle.outcomes.specs.Text.Numbers.{rank_in, clock_in, value_in}

-- both are there
abbrev pub both : {A B : Type 0} → Option A → Option B → Option (A × B)
both None b = None
both (Some a) None = None
both (Some a) (Some b) = Some (a, b)

-- the clock that a word spells which stands behind `at`
abbrev pub clock_behind : List ℕ → List ℕ → Option ℕ
clock_behind at clock = if bytes_eq at (codes "at") then clock_in clock else None

-- the words are `at C`
abbrev pub clock_of : List (List ℕ) → Option ℕ
clock_of [] = None
clock_of (at ∷ []) = None
clock_of (at ∷ (clock ∷ [])) = clock_behind at clock
clock_of (at ∷ (clock ∷ (more ∷ words))) = None

-- the words are `from S at K`: a rank and its clock
abbrev pub sender_of : List (List ℕ) → Option (ℕ × ℕ)
sender_of [] = None
sender_of (from ∷ []) = None
sender_of (from ∷ (source ∷ words)) = if bytes_eq from (codes "from") then both (rank_in source) (clock_of words) else None

-- the words begin with `R at C`: a rank and its clock, and the words behind them
abbrev pub act_of : List (List ℕ) → Option ((ℕ × ℕ) × List (List ℕ))
act_of [] = None
act_of (rank ∷ []) = None
act_of (rank ∷ (at ∷ [])) = None
act_of (rank ∷ (at ∷ (clock ∷ words))) = both (both (rank_in rank) (clock_behind at clock)) (Some words)

-- the words are one value
abbrev pub value_of : List (List ℕ) → Option ℤ
value_of [] = None
value_of (value ∷ []) = value_in value
value_of (value ∷ (more ∷ words)) = None

-- the fault of a rank with this number, if there is one
abbrev pub fault_of : ℕ → Option MachineFault
fault_of n =
    if nat_eq n 1 then Some Overflow else (
    if nat_eq n 2 then Some ZeroDivide else (
    if nat_eq n 3 then Some Index else (
    if nat_eq n 4 then Some BadRank else (
    if nat_eq n 5 then Some BadTag else (
    if nat_eq n 6 then Some TooLong else (
    if nat_eq n 7 then Some CollectiveMismatch else None))))))

-- the end of one word
abbrev pub plain_end : List ℕ → Option ends.End
plain_end word =
    if bytes_eq word (codes "halted") then Some Halted else (
    if bytes_eq word (codes "stalled") then Some Stalled else (
    if bytes_eq word (codes "unfinished") then Some Unfinished else None))

-- the end by the fault of this number
abbrev pub faulted : Option ℕ → Option ends.End
faulted None = None
faulted (Some n) = elim (fault_of n) [ None ↦ None | Some f ↦ Some (Faulted f) ]

-- the words are an end: one word, or `fault F`
abbrev pub end_of : List (List ℕ) → Option ends.End
end_of [] = None
end_of (word ∷ []) = plain_end word
end_of (word ∷ (number ∷ [])) = if bytes_eq word (codes "fault") then faulted (rank_in number) else None
end_of (word ∷ (number ∷ (more ∷ words))) = None

-- a reception or a hit: an act, and a sender behind it
abbrev pub message_form : Kind → Option ((ℕ × ℕ) × List (List ℕ)) → Option LineForm
message_form kind None = None
message_form kind (Some act) =
    elim (sender_of act.1) [ None ↦ None | Some sender ↦ Some (record { rank = act.0.0; part = part.Event kind sender.0 sender.1 act.0.1 }) ]

-- a miss: an act, and no word behind it
abbrev pub miss_form : Option ((ℕ × ℕ) × List (List ℕ)) → Option LineForm
miss_form None = None
miss_form (Some act) = if is_none act.1 then Some (record { rank = act.0.0; part = part.Event Miss 0 0 act.0.1 }) else None

-- a print: an act, and a value behind it
abbrev pub print_form : Option ((ℕ × ℕ) × List (List ℕ)) → Option LineForm
print_form None = None
print_form (Some act) =
    elim (value_of act.1) [ None ↦ None | Some value ↦ Some (record { rank = act.0.0; part = part.Print act.0.1 value }) ]

-- an end: a rank, and how it ended
abbrev pub end_form : List (List ℕ) → Option LineForm
end_form [] = None
end_form (rank ∷ words) =
    elim (both (rank_in rank) (end_of words)) [ None ↦ None | Some said ↦ Some (record { rank = said.0; part = part.End said.1 }) ]

-- what the line of this name says by these words
abbrev pub named_form : List ℕ → List (List ℕ) → Option LineForm
named_form name words =
    if bytes_eq name (codes "recv") then message_form Reception (act_of words) else (
    if bytes_eq name (codes "hit") then message_form Hit (act_of words) else (
    if bytes_eq name (codes "miss") then miss_form (act_of words) else (
    if bytes_eq name (codes "print") then print_form (act_of words) else (
    if bytes_eq name (codes "end") then end_form words else None))))

-- what the words of a line say, if they have a form
abbrev pub form_of : List (List ℕ) → Option LineForm
form_of [] = None
form_of (name ∷ words) = named_form name words

-- an act that was cut off from the front of a line, and the words behind it
abbrev pub act_seen : Option ((ℕ × ℕ) × Bor (List ℕ)) → Option ((ℕ × ℕ) × List (List ℕ))
act_seen None = None
act_seen (Some cut) = Some (cut.0, words_of cut.1.now)

-- the parts of an event are those of one, if its source is a rank
abbrev pub IsFit : LinePart → Type 0
IsFit (part.Event kind source sent clock) = source ≤ greatest_sender → IsEvent (event_of kind source sent clock)
IsFit (part.Print clock value) = Unit {0}
IsFit (part.End end) = Unit {0}
