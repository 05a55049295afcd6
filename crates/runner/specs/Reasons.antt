-- Why a job is refused: what a refusal says is so (docs/FORMATS.md, "Command"). Lack of memory
-- needs no reason, and of `CannotRead` nothing more is said than that the file is one of the job's.
use Rattle.std.specs.Prelude.{◌≡◌, ◌≢◌, ◌<◌, ◌⊎◌, ℕ, Bool, true, List, [], Option, Some, None, Err}
use Rattle.std.specs.Borrow.{Bor}
use Rattle.command_line.specs.declared.explain.ExplainJob.{ExplainJob}
use Rattle.command_line.specs.declared.exploring.ExploreForm.TheVariants as explore_form
use Rattle.command_line.specs.declared.exploring.ExploreJob.{ExploreJob}
use Rattle.command_line.specs.declared.job.Job.{Job}
use Rattle.command_line.specs.declared.job.Job.TheVariants as job
use Rattle.command_line.specs.declared.job.RunJob.{RunJob}
use Rattle.command_line.specs.declared.job.WorldJob.{WorldJob}
use Rattle.command_line.specs.declared.judging.JudgeJob.{JudgeJob}
use Rattle.command_line.specs.declared.soaking.SoakJob.{SoakJob}
use Rattle.command_line.specs.declared.soaking.SoakScriptJob.{SoakScriptJob}
use Rattle.outcomes.specs.Soak.Text.{text_of}
use Rattle.outcomes.specs.Text.Texts as outcome_text
use Rattle.outcomes.specs.declared.text.fault.OutcomeFault.{OutcomeFault}
use Rattle.outcomes.specs.declared.text.fault.OutcomeParseFault.{OutcomeParseFault}
use Rattle.outcomes.specs.declared.text.fault.OutcomeParseFault.TheVariants as outcome_parse
use Rattle.rank_text.specs.Checker.Faults.{IsFaultOf}
use Rattle.rank_text.specs.Scripts.Script.{first_fault}
use Rattle.rank_text.specs.declared.checker.fault.ParseFault.{ParseFault}
use Rattle.rank_text.specs.declared.checker.fault.ParseFault.TheVariants as parse
use Rattle.rank_text.specs.declared.checker.fault.ProgramFault.{ProgramFault}
use Rattle.rank_text.specs.declared.script.fault.ScriptFault.{ScriptFault}
use Rattle.rank_text.specs.declared.script.fault.ScriptParseFault.{ScriptParseFault}
use Rattle.rank_text.specs.declared.script.fault.ScriptParseFault.TheVariants as script_parse
use Rattle.rank_text.specs.declared.script.line.ScriptLine.{ScriptLine}
use Rattle.rank_threads.specs.declared.report.RunFault.{RunFault}
use Rattle.rank_threads.specs.declared.report.RunFault.TheVariants as run
use Rattle.run_events.specs.declared.fault.PlayFault.{PlayFault}
use Rattle.run_events.specs.declared.fault.PlayFault.TheVariants as play
use Rattle.runner.specs.FinishText.{IsWithoutEnd}
use Rattle.runner.specs.declared.commands.refusal.Refusal.{Refusal}
use Rattle.runner.specs.declared.commands.refusal.Refusal.TheVariants as refusal
use Rattle.runner.specs.declared.commands.world.WorldQuestion.{WorldQuestion}
use Rattle.runner.specs.declared.commands.world.WorldQuestion.TheVariants as wanted
use Rattle.world_model.specs.EventsText.Events.{events_of}
use Rattle.bare_world.specs.declared.event.WorldEvent.{WorldEvent}
use Rattle.bare_world.specs.World.{WorldValue}
use Rattle.world_model.specs.declared.events_text.fault.EventsFault.{EventsFault}
use Rattle.world_model.specs.declared.events_text.fault.EventsFault.TheVariants as events_fault
use Rattle.world_model.specs.declared.events_text.fault.EventsFaultKind.{EventsFaultKind}

-- ---- what a fault is told as

-- why a text is no program
abbrev pub of_parse : ParseFault → Refusal
of_parse (parse.Fault fault) = refusal.Program fault
of_parse parse.Memory = refusal.Memory

-- why a text is no script
abbrev pub of_script : ScriptParseFault → Refusal
of_script (script_parse.Fault fault) = refusal.Script fault
of_script script_parse.Memory = refusal.Memory

-- why a text has no events
abbrev pub of_events : EventsFault → Refusal
of_events (events_fault.Fault line kind) = refusal.Events line kind
of_events events_fault.Memory = refusal.Memory

-- why a text tells no outcome
abbrev pub of_outcome : OutcomeParseFault → Refusal
of_outcome (outcome_parse.Fault fault) = refusal.Outcome fault
of_outcome outcome_parse.Memory = refusal.Memory

-- why a run has no report
abbrev pub of_run : RunFault → Refusal
of_run run.Memory = refusal.Memory
of_run (run.Audit fault) = refusal.Audit fault
of_run (run.FalseStall rank) = refusal.FalseStall rank
of_run (run.NoCause rank) = refusal.NoCause rank
of_run (run.Node rank fault) = refusal.Node rank fault
of_run run.OutOfTurns = refusal.OutOfTurns

-- why a run gives no events
abbrev pub of_play : PlayFault → Refusal
of_play play.NoOrder = refusal.Play play.NoOrder
of_play play.TooManyEvents = refusal.Play play.TooManyEvents
of_play play.RowLimit = refusal.Play play.RowLimit
of_play play.Memory = refusal.Memory
of_play play.ScriptUnmet = refusal.Play play.ScriptUnmet

-- ---- what is said of a text

-- it is refused for this reason, unless there is no memory
abbrev pub UnlessMemory : (Refusal → Type 0) → Refusal → Type 0
UnlessMemory reason refused = refused ≢ refusal.Memory → reason refused

-- the file of this name can't be read
abbrev pub IsUnread : Bor (List ℕ) → Refusal → Type 0
IsUnread name refused = refused ≡ refusal.CannotRead name

-- the first fault of a program's text that the file holds is this one, on this line
pub record HasProgramFault (holds : List ℕ → Type 0) (refused : Refusal) : Type 0 where
  pub text : List ℕ
  pub held : holds text
  pub fault : ProgramFault
  pub first : IsFaultOf text fault.line fault.kind
  pub told : refused ≡ refusal.Program fault

-- so it is of a script for so many ranks
pub record HasScriptFault (holds : List ℕ → Type 0) (ranks : ℕ) (refused : Refusal) : Type 0 where
  pub text : List ℕ
  pub held : holds text
  pub fault : ScriptFault
  pub first : first_fault ranks text ≡ Some fault
  pub told : refused ≡ refusal.Script fault

-- of events
pub record HasEventsFault (holds : List ℕ → Type 0) (refused : Refusal) : Type 0 where
  pub text : List ℕ
  pub held : holds text
  pub line : ℕ
  pub kind : EventsFaultKind
  pub first : events_of text ≡ Err (line, kind)
  pub told : refused ≡ refusal.Events line kind

-- and of an outcome of so many ranks
pub record HasOutcomeFault (holds : List ℕ → Type 0) (ranks : ℕ) (refused : Refusal) : Type 0 where
  pub text : List ℕ
  pub held : holds text
  pub fault : OutcomeFault
  pub first : outcome_text.first_fault ranks text ≡ Some fault
  pub told : refused ≡ refusal.Outcome fault

-- the file can't be read, or a text that it holds has a fault
abbrev pub IsFileRefusal : Bor (List ℕ) → (Refusal → Type 0) → Refusal → Type 0
IsFileRefusal name faulty refused = IsUnread name refused ⊎ faulty refused

-- so it is of the file of a program
abbrev pub IsProgramRefusal : (List ℕ → List ℕ → Type 0) → Bor (List ℕ) → Refusal → Type 0
IsProgramRefusal holds name refused = IsFileRefusal name (HasProgramFault (holds name.now)) refused

-- of a script, if a file is named
abbrev pub IsScriptRefusal : (List ℕ → List ℕ → Type 0) → ℕ → Option (Bor (List ℕ)) → Refusal → Type 0
IsScriptRefusal holds ranks None refused = ⊥
IsScriptRefusal holds ranks (Some name) refused = IsFileRefusal name (HasScriptFault (holds name.now) ranks) refused

-- of events
abbrev pub IsEventsRefusal : (List ℕ → List ℕ → Type 0) → Bor (List ℕ) → Refusal → Type 0
IsEventsRefusal holds name refused = IsFileRefusal name (HasEventsFault (holds name.now)) refused

-- and of an outcome
abbrev pub IsOutcomeRefusal : (List ℕ → List ℕ → Type 0) → ℕ → Bor (List ℕ) → Refusal → Type 0
IsOutcomeRefusal holds ranks name refused = IsFileRefusal name (HasOutcomeFault (holds name.now) ranks) refused

-- ---- why a job is refused

-- the file that is named, if one is, can't be read
abbrev pub IsUnreadBy : Option (Bor (List ℕ)) → Refusal → Type 0
IsUnreadBy None refused = ⊥
IsUnreadBy (Some name) refused = IsUnread name refused

-- a run had no report, and this is why
abbrev pub HasNoReport : Refusal → Type 0
HasNoReport refused = (fault : RunFault) × (refused ≡ of_run fault)

-- a run gives no events, and this is why
abbrev pub HasNoEvents : Refusal → Type 0
HasNoEvents refused = (fault : PlayFault) × (refused ≡ of_play fault)

-- a world that is wanted at its end has come to something else, and this is why
abbrev pub HasNoEnd : WorldQuestion → Refusal → Type 0
HasNoEnd wanted.Replies refused = ⊥
HasNoEnd wanted.WayOn refused = ⊥
HasNoEnd (wanted.TheEnd steps) refused = (before : WorldValue) × (events : List WorldEvent) × (after : WorldValue) × IsWithoutEnd steps before events after refused

-- the outcome of this number isn't there, or its run gives no events
abbrev pub HasNoOutcome : ℕ → Refusal → Type 0
HasNoOutcome number refused = (refused ≡ refusal.NoOutcome number) ⊎ HasNoEvents refused

-- so it is of a search whose job asks for the events of an outcome
abbrev pub HasNoOutcomeOf : ExploreJob → Refusal → Type 0
HasNoOutcomeOf job refused = (number : ℕ) × (job.form ≡ explore_form.Events number) × HasNoOutcome number refused

-- a run isn't told: it has no report, or gives no events
abbrev pub IsUntold : Refusal → Type 0
IsUntold refused = HasNoReport refused ⊎ HasNoEvents refused

-- a world isn't played: its events aren't read, or it isn't led to the end that is wanted
abbrev pub IsUnplayed : (List ℕ → List ℕ → Type 0) → WorldJob → WorldQuestion → Refusal → Type 0
IsUnplayed holds job wants refused = IsEventsRefusal holds job.events refused ⊎ HasNoEnd wants refused

-- the text of lines that were drawn is refused as a script, for this fault
pub record HasDrawnFault (ranks : ℕ) (refused : Refusal) : Type 0 where
  pub lines : List ScriptLine
  pub fault : ScriptFault
  pub first : first_fault ranks (text_of lines) ≡ Some fault
  pub told : refused ≡ refusal.Script fault

-- the first run of a soak has no report, or a script that was drawn has a fault
abbrev pub IsUndrawn : ℕ → Refusal → Type 0
IsUndrawn ranks refused = HasNoReport refused ⊎ HasDrawnFault ranks refused

-- A run: its program or its script isn't read, or it has no report.
pub data IsRunRefusal (holds : List ℕ → List ℕ → Type 0) (job : RunJob) (refused : Refusal) : Type 0 where
  run_program : IsProgramRefusal holds job.program refused → IsRunRefusal holds job refused
  run_script : IsScriptRefusal holds job.ranks job.script refused → IsRunRefusal holds job refused
  run_report : HasNoReport refused → IsRunRefusal holds job refused

-- A trace: its program or its script isn't read, or its run isn't told.
pub data IsTraceRefusal (holds : List ℕ → List ℕ → Type 0) (job : RunJob) (refused : Refusal) : Type 0 where
  trace_program : IsProgramRefusal holds job.program refused → IsTraceRefusal holds job refused
  trace_script : IsScriptRefusal holds job.ranks job.script refused → IsTraceRefusal holds job refused
  trace_run : IsUntold refused → IsTraceRefusal holds job refused

-- A world: its program isn't read, or it isn't played.
pub data IsWorldRefusal (holds : List ℕ → List ℕ → Type 0) (job : WorldJob) (wants : WorldQuestion) (refused : Refusal) : Type 0 where
  world_program : IsProgramRefusal holds job.program refused → IsWorldRefusal holds job wants refused
  world_unplayed : IsUnplayed holds job wants refused → IsWorldRefusal holds job wants refused

-- Texts that are explained: one of their files can't be read. A fault is no refusal.
pub data IsExplainRefusal (job : ExplainJob) (refused : Refusal) : Type 0 where
  explain_program : IsUnread job.program refused → IsExplainRefusal job refused
  explain_script : IsUnreadBy job.script refused → IsExplainRefusal job refused
  explain_events : IsUnreadBy job.events refused → IsExplainRefusal job refused

-- A search: its program isn't read, or an outcome's events are asked for, and there are none.
pub data IsSearchRefusal (holds : List ℕ → List ℕ → Type 0) (job : ExploreJob) (refused : Refusal) : Type 0 where
  search_program : IsProgramRefusal holds job.program refused → IsSearchRefusal holds job refused
  search_outcome : HasNoOutcomeOf job refused → IsSearchRefusal holds job refused

-- A judged outcome: its program or its text isn't read.
pub data IsJudgeRefusal (holds : List ℕ → List ℕ → Type 0) (job : JudgeJob) (refused : Refusal) : Type 0 where
  judge_program : IsProgramRefusal holds job.program refused → IsJudgeRefusal holds job refused
  judge_outcome : IsOutcomeRefusal holds job.ranks job.outcome refused → IsJudgeRefusal holds job refused

-- A soak: its program isn't read, or there are no scripts for its runs. A run of its own that has
-- no report is no refusal.
pub data IsSoakRefusal (holds : List ℕ → List ℕ → Type 0) (job : SoakJob) (refused : Refusal) : Type 0 where
  soak_program : IsProgramRefusal holds job.program refused → IsSoakRefusal holds job refused
  soak_drawn : IsUndrawn job.ranks refused → IsSoakRefusal holds job refused

-- The script of one of its runs: so it is, or fewer runs are made.
pub data IsSoakScriptRefusal (holds : List ℕ → List ℕ → Type 0) (job : SoakScriptJob) (refused : Refusal) : Type 0 where
  script_soak : IsSoakRefusal holds job.soak refused → IsSoakScriptRefusal holds job refused
  script_number : job.soak.runs < job.number → refused ≡ refusal.NoRun job.number → IsSoakScriptRefusal holds job refused

-- the reason for which a job is refused, where files hold what they do
abbrev pub IsReasonOf : (List ℕ → List ℕ → Type 0) → Job → Refusal → Type 0
IsReasonOf holds (job.Check check) refused = IsProgramRefusal holds check.program refused
IsReasonOf holds (job.C c) refused = IsProgramRefusal holds c.program refused
IsReasonOf holds (job.Run run) refused = IsRunRefusal holds run refused
IsReasonOf holds (job.Trace trace) refused = IsTraceRefusal holds trace.run refused
IsReasonOf holds (job.World world) refused = IsWorldRefusal holds world wanted.Replies refused
IsReasonOf holds (job.WorldJson world) refused = IsWorldRefusal holds world wanted.Replies refused
IsReasonOf holds (job.CatchUp world) refused = IsWorldRefusal holds world wanted.WayOn refused
IsReasonOf holds (job.Finish finish) refused = IsWorldRefusal holds finish.world (wanted.TheEnd finish.steps) refused
IsReasonOf holds (job.Explain texts) refused = IsExplainRefusal texts refused
IsReasonOf holds (job.Explore search) refused = IsSearchRefusal holds search refused
IsReasonOf holds (job.Judge outcome) refused = IsJudgeRefusal holds outcome refused
IsReasonOf holds (job.Soak runs) refused = IsSoakRefusal holds runs refused
IsReasonOf holds (job.SoakScript script) refused = IsSoakScriptRefusal holds script refused

-- The refusal of a job: there is no memory, or what it says is so.
abbrev pub IsRefusalOf : (List ℕ → List ℕ → Type 0) → Job → Refusal → Type 0
IsRefusalOf holds job refused = UnlessMemory (IsReasonOf holds job) refused
