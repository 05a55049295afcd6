-- The text of a run's report (docs/FORMATS.md, "Standard output of `run`").
use Rattle.std.specs.Prelude.{ℕ, ◌+◌, ◌-◌, ◌^◌, min, sum, length, List, [], ◌∷◌, ◌++◌, codes}
use Rattle.std.specs.Fmt.{decimal}
use Rattle.audit.specs.declared.outcome.End.{End}
use Rattle.audit.specs.declared.outcome.End.TheVariants as end
use Rattle.world_model.specs.EventsText.Output.{ranks_text}
use Rattle.rank_machine.specs.Faults.{fault_number}
use Rattle.rank_threads.specs.declared.report.Report.{Report}

-- how a rank ended, in words
abbrev pub end_words : End → List ℕ
end_words end.Halted = codes "halted"
end_words (end.Faulted fault) = codes "fault " ++ decimal (fault_number fault)
end_words end.Stalled = codes "stalled"
end_words end.Unfinished = codes "unfinished"

-- the line that says how this rank ended
abbrev pub end_text : ℕ → End → List ℕ
end_text rank ended = codes "rank " ++ decimal rank ++ codes ": " ++ end_words ended ++ codes "\n"

-- how the ranks from this one on ended, a line each
abbrev pub ends_text : ℕ → List End → List ℕ
ends_text rank [] = []
ends_text rank (ended ∷ ends) = end_text rank ended ++ ends_text (rank + 1) ends

-- how often all ranks together called the event logger; a sum of 2 ^ 64 or more counts as 2 ^ 64 - 1
abbrev pub calls_in : Report → ℕ
calls_in report = min (sum report.calls.items) (2 ^ 64 - 1)

-- the line that says what the run took
abbrev pub cost_text : Report → List ℕ
cost_text report =
    codes "crashes " ++ decimal report.crashes ++ codes ", logger calls " ++ decimal (calls_in report) ++ codes "\n"

-- the lines that each rank printed, rank by rank; then how each rank ended; then what the run took
abbrev pub report_text : Report → List ℕ
report_text report =
    ranks_text (length report.outcome.ends) report.outcome.lines ++ ends_text 0 report.outcome.ends ++ cost_text report
