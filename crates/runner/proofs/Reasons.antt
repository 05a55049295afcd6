-- Why what a refusal says is so.
use Rattle.std.proofs.Common.{◌≡◌, ◌≢◌, ◌<◌, ℕ, List, Option, Some, None, Result, Err, inl, inr, subst}
use Rattle.std.specs.Borrow.{Bor}
use Rattle.command_line.specs.declared.explain.ExplainJob.{ExplainJob}
use Rattle.command_line.specs.declared.exploring.ExploreForm.TheVariants as explore_form
use Rattle.command_line.specs.declared.exploring.ExploreJob.{ExploreJob}
use Rattle.command_line.specs.declared.job.RunJob.{RunJob}
use Rattle.command_line.specs.declared.job.WorldJob.{WorldJob}
use Rattle.command_line.specs.declared.judging.JudgeJob.{JudgeJob}
use Rattle.command_line.specs.declared.soaking.SoakJob.{SoakJob}
use Rattle.command_line.specs.declared.soaking.SoakScriptJob.{SoakScriptJob}
use Rattle.outcomes.specs.Soak.Text.{text_of}
use Rattle.outcomes.specs.Text.Texts as outcome_text
use Rattle.outcomes.specs.declared.text.fault.OutcomeFault.{OutcomeFault}
use Rattle.outcomes.specs.declared.text.fault.OutcomeParseFault.{OutcomeParseFault}
use Rattle.outcomes.specs.declared.text.fault.OutcomeParseFault.TheVariants as outcome_parse
use Rattle.rank_text.specs.Checker.Faults.{IsFaultOf}
use Rattle.rank_text.specs.Scripts.Script.{first_fault}
use Rattle.rank_text.specs.declared.checker.fault.ParseFault.{ParseFault}
use Rattle.rank_text.specs.declared.checker.fault.ParseFault.TheVariants as parse
use Rattle.rank_text.specs.declared.checker.fault.ProgramFault.{ProgramFault}
use Rattle.rank_text.specs.declared.script.fault.ScriptFault.{ScriptFault}
use Rattle.rank_text.specs.declared.script.fault.ScriptParseFault.{ScriptParseFault}
use Rattle.rank_text.specs.declared.script.fault.ScriptParseFault.TheVariants as script_parse
use Rattle.rank_text.specs.declared.script.line.ScriptLine.{ScriptLine}
use Rattle.rank_threads.specs.declared.report.RunFault.{RunFault}
use Rattle.run_events.specs.declared.fault.PlayFault.{PlayFault}
use Rattle.runner.specs.FinishText.{IsWithoutEnd}
use Rattle.runner.specs.Reasons.{HasEventsFault, HasNoEnd}
use Rattle.runner.specs.Reasons.{HasNoOutcome, HasNoOutcomeOf, HasOutcomeFault, HasProgramFault, HasScriptFault}
use Rattle.runner.specs.Reasons.{IsEventsRefusal, IsExplainRefusal, IsFileRefusal, IsJudgeRefusal, IsOutcomeRefusal, IsProgramRefusal}
use Rattle.runner.specs.Reasons.{IsRunRefusal}
use Rattle.runner.specs.Reasons.{IsScriptRefusal, IsSearchRefusal, IsSoakRefusal, IsSoakScriptRefusal, IsTraceRefusal, IsUndrawn}
use Rattle.runner.specs.Reasons.{IsUnplayed, IsUnread, IsUnreadBy, IsUntold, IsWorldRefusal, UnlessMemory, of_events, of_outcome, of_parse}
use Rattle.runner.specs.Reasons.{of_play, of_run, of_script}
use Rattle.runner.specs.declared.commands.refusal.Refusal.{Refusal}
use Rattle.runner.specs.declared.commands.refusal.Refusal.TheVariants as refusal
use Rattle.runner.specs.declared.commands.world.WorldQuestion.{WorldQuestion}
use Rattle.runner.specs.declared.commands.world.WorldQuestion.TheVariants as wanted
use Rattle.world_model.specs.EventsText.Events.{events_of}
use Rattle.bare_world.specs.declared.event.WorldEvent.{WorldEvent}
use Rattle.bare_world.specs.World.{WorldValue}
use Rattle.world_model.specs.declared.events_text.fault.EventsFault.{EventsFault}
use Rattle.world_model.specs.declared.events_text.fault.EventsFault.TheVariants as events_fault
use Rattle.world_model.specs.declared.events_text.fault.EventsFaultKind.{EventsFaultKind}

-- where there is no memory no reason is needed
pub of_memory : (reason : Refusal → Type 0) (refused : Refusal) → refused ≡ refusal.Memory → UnlessMemory reason refused
of_memory reason refused is other = absurd (other is)

-- ---- texts

-- a file that can't be read
pub unread : (name : Bor (List ℕ)) (faulty : Refusal → Type 0) (refused : Refusal) → UnlessMemory (IsUnread name) refused
    → UnlessMemory (IsFileRefusal name faulty) refused
unread name faulty refused is other = inl (is other)

-- a program with a fault
pub faulty_program : {T : Type 0} (holds : List ℕ → Type 0) (name : Bor (List ℕ)) (text : List ℕ) (answer : Result T ParseFault) (fault : ParseFault)
    (refused : Refusal) → holds text → answer ≡ Err fault
    → ((f : ProgramFault) → answer ≡ Err (parse.Fault f) → IsFaultOf text f.line f.kind) → refused ≡ of_parse fault
    → UnlessMemory (IsFileRefusal name (HasProgramFault holds)) refused
faulty_program holds name text answer (parse.Fault f) refused held is first told other =
    inr (record { text = text; held = held; fault = f; first = first f is; told = told })
faulty_program holds name text answer parse.Memory refused held is first told other = absurd (other told)

-- a script with a fault
pub faulty_script : {T : Type 0} (holds : List ℕ → Type 0) (name : Bor (List ℕ)) (ranks : ℕ) (text : List ℕ) (answer : Result T ScriptParseFault)
    (fault : ScriptParseFault) (refused : Refusal) → holds text → answer ≡ Err fault
    → ((f : ScriptFault) → answer ≡ Err (script_parse.Fault f) → first_fault ranks text ≡ Some f) → refused ≡ of_script fault
    → UnlessMemory (IsFileRefusal name (HasScriptFault holds ranks)) refused
faulty_script holds name ranks text answer (script_parse.Fault f) refused held is first told other =
    inr (record { text = text; held = held; fault = f; first = first f is; told = told })
faulty_script holds name ranks text answer script_parse.Memory refused held is first told other = absurd (other told)

-- events with a fault
pub faulty_events : {T : Type 0} (holds : List ℕ → Type 0) (name : Bor (List ℕ)) (text : List ℕ) (answer : Result T EventsFault) (fault : EventsFault)
    (refused : Refusal) → holds text → answer ≡ Err fault
    → ((line : ℕ) (kind : EventsFaultKind) → answer ≡ Err (events_fault.Fault line kind) → events_of text ≡ Err (line, kind))
    → refused ≡ of_events fault → UnlessMemory (IsFileRefusal name (HasEventsFault holds)) refused
faulty_events holds name text answer (events_fault.Fault line kind) refused held is first told other =
    inr (record { text = text; held = held; line = line; kind = kind; first = first line kind is; told = told })
faulty_events holds name text answer events_fault.Memory refused held is first told other = absurd (other told)

-- an outcome with a fault
pub faulty_outcome : {T : Type 0} (holds : List ℕ → Type 0) (name : Bor (List ℕ)) (ranks : ℕ) (text : List ℕ) (answer : Result T OutcomeParseFault)
    (fault : OutcomeParseFault) (refused : Refusal) → holds text → answer ≡ Err fault
    → ((f : OutcomeFault) → answer ≡ Err (outcome_parse.Fault f) → outcome_text.first_fault ranks text ≡ Some f) → refused ≡ of_outcome fault
    → UnlessMemory (IsFileRefusal name (HasOutcomeFault holds ranks)) refused
faulty_outcome holds name ranks text answer (outcome_parse.Fault f) refused held is first told other =
    inr (record { text = text; held = held; fault = f; first = first f is; told = told })
faulty_outcome holds name ranks text answer outcome_parse.Memory refused held is first told other = absurd (other told)

-- what is refused of a script after something was read was so before
script_before : (holds held : List ℕ → List ℕ → Type 0) (ranks : ℕ) (script : Option (Bor (List ℕ))) (refused : Refusal)
    → ((file text : List ℕ) → holds file text → held file text)
    → IsScriptRefusal holds ranks script refused → IsScriptRefusal held ranks script refused
script_before holds held ranks None refused kept is = is
script_before holds held ranks (Some name) refused kept (inl is) = inl is
script_before holds held ranks (Some name) refused kept (inr is) =
    inr (record { text = is.text; held = kept name.now is.text is.held; fault = is.fault; first = is.first; told = is.told })

-- of events
events_before : (holds held : List ℕ → List ℕ → Type 0) (name : Bor (List ℕ)) (refused : Refusal)
    → ((file text : List ℕ) → holds file text → held file text) → IsEventsRefusal holds name refused → IsEventsRefusal held name refused
events_before holds held name refused kept (inl is) = inl is
events_before holds held name refused kept (inr is) =
    inr (record { text = is.text; held = kept name.now is.text is.held; line = is.line; kind = is.kind; first = is.first; told = is.told })

-- and of an outcome
outcome_before : (holds held : List ℕ → List ℕ → Type 0) (ranks : ℕ) (name : Bor (List ℕ)) (refused : Refusal)
    → ((file text : List ℕ) → holds file text → held file text) → IsOutcomeRefusal holds ranks name refused
    → IsOutcomeRefusal held ranks name refused
outcome_before holds held ranks name refused kept (inl is) = inl is
outcome_before holds held ranks name refused kept (inr is) =
    inr (record { text = is.text; held = kept name.now is.text is.held; fault = is.fault; first = is.first; told = is.told })

-- ---- a run

-- its program isn't read
pub run_of_program : (holds : List ℕ → List ℕ → Type 0) (job : RunJob) (refused : Refusal) → UnlessMemory (IsProgramRefusal holds job.program) refused
    → UnlessMemory (IsRunRefusal holds job) refused
run_of_program holds job refused is other = IsRunRefusal.run_program (is other)

-- its script, which is read once the program is, isn't
pub run_of_script : (holds held : List ℕ → List ℕ → Type 0) (job : RunJob) (refused : Refusal)
    → ((file text : List ℕ) → holds file text → held file text) → UnlessMemory (IsScriptRefusal holds job.ranks job.script) refused
    → UnlessMemory (IsRunRefusal held job) refused
run_of_script holds held job refused kept is other = IsRunRefusal.run_script (script_before holds held job.ranks job.script refused kept (is other))

-- it has no report
pub run_of_fault : (holds : List ℕ → List ℕ → Type 0) (job : RunJob) (fault : RunFault) (refused : Refusal) → refused ≡ of_run fault
    → UnlessMemory (IsRunRefusal holds job) refused
run_of_fault holds job fault refused told other = IsRunRefusal.run_report (fault, told)

-- ---- a trace

-- the file of its program can't be read
pub trace_unread : (holds : List ℕ → List ℕ → Type 0) (job : RunJob) (refused : Refusal) → UnlessMemory (IsUnread job.program) refused
    → UnlessMemory (IsTraceRefusal holds job) refused
trace_unread holds job refused is other = IsTraceRefusal.trace_program (inl (is other))

-- its program has a fault
pub trace_faulty : {T : Type 0} (holds : List ℕ → List ℕ → Type 0) (job : RunJob) (text : List ℕ) (answer : Result T ParseFault) (fault : ParseFault) (refused : Refusal)
    → holds job.program.now text → answer ≡ Err fault → ((f : ProgramFault) → answer ≡ Err (parse.Fault f) → IsFaultOf text f.line f.kind)
    → refused ≡ of_parse fault → UnlessMemory (IsTraceRefusal holds job) refused
trace_faulty holds job text answer fault refused held is first told other =
    IsTraceRefusal.trace_program (faulty_program (holds job.program.now) job.program text answer fault refused held is first told other)

-- its script isn't read
pub trace_of_script : (holds held : List ℕ → List ℕ → Type 0) (job : RunJob) (refused : Refusal)
    → ((file text : List ℕ) → holds file text → held file text) → UnlessMemory (IsScriptRefusal holds job.ranks job.script) refused
    → UnlessMemory (IsTraceRefusal held job) refused
trace_of_script holds held job refused kept is other =
    IsTraceRefusal.trace_script (script_before holds held job.ranks job.script refused kept (is other))

-- its run isn't told
pub trace_untold : (holds : List ℕ → List ℕ → Type 0) (job : RunJob) (refused : Refusal) → UnlessMemory IsUntold refused
    → UnlessMemory (IsTraceRefusal holds job) refused
trace_untold holds job refused is other = IsTraceRefusal.trace_run (is other)

-- since it has no report
pub untold_run : (fault : RunFault) (refused : Refusal) → refused ≡ of_run fault → UnlessMemory IsUntold refused
untold_run fault refused told other = inl (fault, told)

-- or gives no events
pub untold_events : (fault : PlayFault) (refused : Refusal) → refused ≡ of_play fault → UnlessMemory IsUntold refused
untold_events fault refused told other = inr (fault, told)

-- ---- a world

-- its program isn't read
pub world_of_program : (holds : List ℕ → List ℕ → Type 0) (job : WorldJob) (wants : WorldQuestion) (refused : Refusal)
    → UnlessMemory (IsProgramRefusal holds job.program) refused
    → UnlessMemory (IsWorldRefusal holds job wants) refused
world_of_program holds job wants refused is other = IsWorldRefusal.world_program (is other)

-- the file of its program can't be read
pub world_unread : (holds : List ℕ → List ℕ → Type 0) (job : WorldJob) (wants : WorldQuestion) (refused : Refusal) → UnlessMemory (IsUnread job.program) refused
    → UnlessMemory (IsWorldRefusal holds job wants) refused
world_unread holds job wants refused is other = IsWorldRefusal.world_program (inl (is other))

-- its program has a fault
pub world_faulty : {T : Type 0} (holds : List ℕ → List ℕ → Type 0) (job : WorldJob) (wants : WorldQuestion) (text : List ℕ) (answer : Result T ParseFault) (fault : ParseFault) (refused : Refusal)
    → holds job.program.now text → answer ≡ Err fault → ((f : ProgramFault) → answer ≡ Err (parse.Fault f) → IsFaultOf text f.line f.kind)
    → refused ≡ of_parse fault → UnlessMemory (IsWorldRefusal holds job wants) refused
world_faulty holds job wants text answer fault refused held is first told other =
    IsWorldRefusal.world_program (faulty_program (holds job.program.now) job.program text answer fault refused held is first told other)

-- its events, which are read once the program is, aren't
pub world_of_events : (holds held : List ℕ → List ℕ → Type 0) (job : WorldJob) (wants : WorldQuestion) (refused : Refusal)
    → ((file text : List ℕ) → holds file text → held file text) → UnlessMemory (IsEventsRefusal holds job.events) refused
    → UnlessMemory (IsWorldRefusal held job wants) refused
world_of_events holds held job wants refused kept is other =
    IsWorldRefusal.world_unplayed (inl (events_before holds held job.events refused kept (is other)))

-- it isn't played
pub world_not_played : (holds held : List ℕ → List ℕ → Type 0) (job : WorldJob) (wants : WorldQuestion) (refused : Refusal)
    → ((file text : List ℕ) → holds file text → held file text) → UnlessMemory (IsUnplayed holds job wants) refused
    → UnlessMemory (IsWorldRefusal held job wants) refused
world_not_played holds held job wants refused kept is other = IsWorldRefusal.world_unplayed (before (is other))
  where
    before : IsUnplayed holds job wants refused → IsUnplayed held job wants refused
    before (inl events) = inl (events_before holds held job.events refused kept events)
    before (inr ends) = inr ends

-- since its events aren't read
pub unplayed_events : (holds : List ℕ → List ℕ → Type 0) (job : WorldJob) (wants : WorldQuestion) (refused : Refusal)
    → UnlessMemory (IsEventsRefusal holds job.events) refused
    → UnlessMemory (IsUnplayed holds job wants) refused
unplayed_events holds job wants refused is other = inl (is other)

-- or it isn't led to its end
pub unplayed_end : (holds : List ℕ → List ℕ → Type 0) (job : WorldJob) (wants : WorldQuestion) (refused : Refusal) → UnlessMemory (HasNoEnd wants) refused
    → UnlessMemory (IsUnplayed holds job wants) refused
unplayed_end holds job wants refused is other = inr (is other)

-- as the world says that it came to
pub no_end : (steps : ℕ) (before : WorldValue) (events : List WorldEvent) (after : WorldValue) (refused : Refusal)
    → IsWithoutEnd steps before events after refused → UnlessMemory (HasNoEnd (wanted.TheEnd steps)) refused
no_end steps before events after refused is other = (before, events, after, is)

-- ---- texts that are explained

-- the file of the program can't be read
pub explain_of_program : (job : ExplainJob) (refused : Refusal) → UnlessMemory (IsUnread job.program) refused → UnlessMemory (IsExplainRefusal job) refused
explain_of_program job refused is other = IsExplainRefusal.explain_program (is other)

-- that of the script
pub explain_of_script : (job : ExplainJob) (refused : Refusal) → UnlessMemory (IsUnreadBy job.script) refused → UnlessMemory (IsExplainRefusal job) refused
explain_of_script job refused is other = IsExplainRefusal.explain_script (is other)

-- that of the events
pub explain_of_events : (job : ExplainJob) (refused : Refusal) → UnlessMemory (IsUnreadBy job.events) refused → UnlessMemory (IsExplainRefusal job) refused
explain_of_events job refused is other = IsExplainRefusal.explain_events (is other)

-- ---- a search

-- the file of its program can't be read
pub search_unread : (holds : List ℕ → List ℕ → Type 0) (job : ExploreJob) (refused : Refusal)
    → UnlessMemory (IsUnread job.program) refused → UnlessMemory (IsSearchRefusal holds job) refused
search_unread holds job refused is other = IsSearchRefusal.search_program (inl (is other))

-- its text is no program
pub search_unparsed : {A : Type 0} (holds : List ℕ → List ℕ → Type 0) (job : ExploreJob) (text : List ℕ) (answer : Result A ParseFault) (fault : ParseFault)
    (refused : Refusal) → holds job.program.now text → answer ≡ Err fault → ((f : ProgramFault) → answer ≡ Err (parse.Fault f) → IsFaultOf text f.line f.kind) → refused ≡ of_parse fault
    → UnlessMemory (IsSearchRefusal holds job) refused
search_unparsed holds job text answer (parse.Fault f) refused held is first told other =
    IsSearchRefusal.search_program (inr (record { text = text; held = held; fault = f; first = first f is; told = told }))
search_unparsed holds job text answer parse.Memory refused held is first told other = absurd (other told)

-- the outcome whose events it asks for has none
pub search_of_outcome : (holds : List ℕ → List ℕ → Type 0) (job : ExploreJob) (refused : Refusal)
    → UnlessMemory (HasNoOutcomeOf job) refused → UnlessMemory (IsSearchRefusal holds job) refused
search_of_outcome holds job refused is other = IsSearchRefusal.search_outcome (is other)

-- it is the outcome of this number
pub outcome_of_job : (job : ExploreJob) (number : ℕ) (refused : Refusal) → job.form ≡ explore_form.Events number
    → UnlessMemory (HasNoOutcome number) refused → UnlessMemory (HasNoOutcomeOf job) refused
outcome_of_job job number refused form is other = (number, form, is other)

-- which isn't there
pub no_outcome : (number : ℕ) (refused : Refusal) → refused ≡ refusal.NoOutcome number → UnlessMemory (HasNoOutcome number) refused
no_outcome number refused told other = inl told

-- or whose run gives no events
pub outcome_not_played : (number : ℕ) (fault : PlayFault) (refused : Refusal) → refused ≡ of_play fault → UnlessMemory (HasNoOutcome number) refused
outcome_not_played number fault refused told other = inr (fault, told)

-- ---- a judged outcome

-- the file of the program can't be read
pub judge_unread : (holds : List ℕ → List ℕ → Type 0) (job : JudgeJob) (refused : Refusal) → UnlessMemory (IsUnread job.program) refused
    → UnlessMemory (IsJudgeRefusal holds job) refused
judge_unread holds job refused is other = IsJudgeRefusal.judge_program (inl (is other))

-- the program has a fault
pub judge_faulty : {T : Type 0} (holds : List ℕ → List ℕ → Type 0) (job : JudgeJob) (text : List ℕ) (answer : Result T ParseFault) (fault : ParseFault) (refused : Refusal)
    → holds job.program.now text → answer ≡ Err fault → ((f : ProgramFault) → answer ≡ Err (parse.Fault f) → IsFaultOf text f.line f.kind)
    → refused ≡ of_parse fault → UnlessMemory (IsJudgeRefusal holds job) refused
judge_faulty holds job text answer fault refused held is first told other =
    IsJudgeRefusal.judge_program (faulty_program (holds job.program.now) job.program text answer fault refused held is first told other)

-- the outcome, which is read once the program is, isn't
pub judge_of_outcome : (holds held : List ℕ → List ℕ → Type 0) (job : JudgeJob) (refused : Refusal)
    → ((file text : List ℕ) → holds file text → held file text) → UnlessMemory (IsOutcomeRefusal holds job.ranks job.outcome) refused
    → UnlessMemory (IsJudgeRefusal held job) refused
judge_of_outcome holds held job refused kept is other =
    IsJudgeRefusal.judge_outcome (outcome_before holds held job.ranks job.outcome refused kept (is other))

-- ---- a soak

-- the file of its program can't be read
pub soak_unread : (holds : List ℕ → List ℕ → Type 0) (job : SoakJob) (refused : Refusal) → UnlessMemory (IsUnread job.program) refused
    → UnlessMemory (IsSoakRefusal holds job) refused
soak_unread holds job refused is other = IsSoakRefusal.soak_program (inl (is other))

-- its program has a fault
pub soak_faulty : {T : Type 0} (holds : List ℕ → List ℕ → Type 0) (job : SoakJob) (text : List ℕ) (answer : Result T ParseFault) (fault : ParseFault) (refused : Refusal)
    → holds job.program.now text → answer ≡ Err fault → ((f : ProgramFault) → answer ≡ Err (parse.Fault f) → IsFaultOf text f.line f.kind)
    → refused ≡ of_parse fault → UnlessMemory (IsSoakRefusal holds job) refused
soak_faulty holds job text answer fault refused held is first told other =
    IsSoakRefusal.soak_program (faulty_program (holds job.program.now) job.program text answer fault refused held is first told other)

-- its runs aren't made
pub soak_undrawn : (holds : List ℕ → List ℕ → Type 0) (job : SoakJob) (refused : Refusal) → UnlessMemory (IsUndrawn job.ranks) refused
    → UnlessMemory (IsSoakRefusal holds job) refused
soak_undrawn holds job refused is other = IsSoakRefusal.soak_drawn (is other)

-- since the first one has no report
pub undrawn_run : (ranks : ℕ) (fault : RunFault) (refused : Refusal) → refused ≡ of_run fault → UnlessMemory (IsUndrawn ranks) refused
undrawn_run ranks fault refused told other = inl (fault, told)

-- or a script that was drawn has a fault
pub drawn_faulty : {T : Type 0} (ranks : ℕ) (lines : List ScriptLine) (text : List ℕ) (answer : Result T ScriptParseFault) (fault : ScriptParseFault)
    (refused : Refusal) → text ≡ text_of lines → answer ≡ Err fault
    → ((f : ScriptFault) → answer ≡ Err (script_parse.Fault f) → first_fault ranks text ≡ Some f) → refused ≡ of_script fault
    → UnlessMemory (IsUndrawn ranks) refused
drawn_faulty ranks lines text answer (script_parse.Fault f) refused spelled is first told other =
    inr (record { lines = lines; fault = f; first = subst (λ (t : List ℕ). first_fault ranks t ≡ Some f) spelled (first f is); told = told })
drawn_faulty ranks lines text answer script_parse.Memory refused spelled is first told other = absurd (other told)

-- of the script of a run, the program isn't read
pub script_of_program : (holds : List ℕ → List ℕ → Type 0) (job : SoakScriptJob) (refused : Refusal)
    → UnlessMemory (IsProgramRefusal holds job.soak.program) refused
    → UnlessMemory (IsSoakScriptRefusal holds job) refused
script_of_program holds job refused is other = IsSoakScriptRefusal.script_soak (IsSoakRefusal.soak_program (is other))

-- no script is drawn
pub script_undrawn : (holds : List ℕ → List ℕ → Type 0) (job : SoakScriptJob) (refused : Refusal) → UnlessMemory (IsUndrawn job.soak.ranks) refused
    → UnlessMemory (IsSoakScriptRefusal holds job) refused
script_undrawn holds job refused is other = IsSoakScriptRefusal.script_soak (IsSoakRefusal.soak_drawn (is other))

-- or fewer runs are made
pub script_of_number : (holds : List ℕ → List ℕ → Type 0) (job : SoakScriptJob) (refused : Refusal) → job.soak.runs < job.number
    → refused ≡ refusal.NoRun job.number
    → UnlessMemory (IsSoakScriptRefusal holds job) refused
script_of_number holds job refused fewer told other = IsSoakScriptRefusal.script_number fewer told
