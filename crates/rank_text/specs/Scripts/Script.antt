-- Which orders a script's text gives, and its first faulty line with that line's lowest fault (docs/FORMATS.md, "Scripts").
use Rattle.std.specs.Prelude.{ℕ, ◌+◌, ◌==◌, List, [], ◌∷◌, Bool, true, false, not, ◌&&◌, nat_le, nat_lt, filter, Option, Some, None, if◌then◌else◌}
use Rattle.std.specs.List.{filter_map}
use Rattle.limits.specs.Limits.{is_clock, most_script_lines}
use Rattle.rank_text.specs.Lines.Pieces.{pieces_of, words_of}
use Rattle.rank_text.specs.Lines.Skipped.{is_skipped}
use Rattle.rank_text.specs.declared.script.fault.ScriptFault.{ScriptFault}
use Rattle.rank_text.specs.declared.script.fault.ScriptFaultKind.{ScriptFaultKind}
use Rattle.rank_text.specs.declared.script.fault.ScriptFaultKind.TheVariants.{BadLine, BadRank, Limit}
use Rattle.rank_text.specs.declared.script.line.ScriptLine.{ScriptLine}
use Rattle.rank_text.specs.Scripts.Form.{form_of}

-- what a line of the text asks for; a skipped line asks for nothing
abbrev pub order_by : List ℕ → Option ScriptLine
order_by line = if is_skipped line then None else form_of (words_of line)

-- what a line asks for isn't there, or its clock is none of a rank
abbrev pub is_bad : Option ScriptLine → Bool
is_bad None = true
is_bad (Some order) = not (is_clock order.clock)

-- what a line asks for is asked of no rank of so many
abbrev pub is_foreign : ℕ → Option ScriptLine → Bool
is_foreign ranks None = false
is_foreign ranks (Some order) = nat_le ranks order.rank

-- a fault holds of the line of this number in the script of a run of so many ranks
abbrev pub holds : ℕ → ℕ → List ℕ → ScriptFaultKind → Bool
holds ranks number line BadLine = not (is_skipped line) && is_bad (order_by line)
holds ranks number line BadRank = is_foreign ranks (order_by line)
holds ranks number line Limit = nat_lt most_script_lines number

-- the lowest fault that holds of a line
abbrev pub fault_of : ℕ → ℕ → List ℕ → Option ScriptFaultKind
fault_of ranks number line =
    if holds ranks number line BadLine then Some BadLine else (
    if holds ranks number line BadRank then Some BadRank else (
    if holds ranks number line Limit then Some Limit else None))

-- the first faulty one of lines from this number on, with its lowest fault
abbrev pub first_fault_from : ℕ → ℕ → List (List ℕ) → Option ScriptFault
first_fault_from ranks number [] = None
first_fault_from ranks number (line ∷ lines) =
    elim (fault_of ranks number line)
    [ None ↦ first_fault_from ranks (number + 1) lines | Some kind ↦ Some (record { line = number; kind = kind }) ]

-- the first faulty line of a text, with its lowest fault
abbrev pub first_fault : ℕ → List ℕ → Option ScriptFault
first_fault ranks text = first_fault_from ranks 1 (pieces_of 10 text)

-- what the lines of a text ask for, in their order
abbrev pub script_lines : List ℕ → List ScriptLine
script_lines text = filter_map order_by (pieces_of 10 text)

-- what is asked of one rank, in its order
abbrev pub orders_of : ℕ → List ScriptLine → List ScriptLine
orders_of rank lines = filter (λ line. line.rank == rank) lines
