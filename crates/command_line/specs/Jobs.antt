-- Which job the words of a command line name (docs/FORMATS.md, "Command"). `clap` refuses other forms, as an
-- option that is given twice, and it writes the helps.
use Rattle.std.specs.Prelude.{◌≡◌, ℕ, true, false, List, [], ◌∷◌, codes, None, IsSomeAnd, option_map}
use Rattle.limits.specs.Limits.{most_ranks}
use Rattle.command_line.specs.Schedules.{IsSchedulingOf}
use Rattle.command_line.specs.Words.{IsSpelledIf, IsSpelledOr, Spells, files_of, is_given, value_of}
use Rattle.command_line.specs.declared.catching_up.FinishJob.{FinishJob}
use Rattle.command_line.specs.declared.costing.CostForm.{CostForm}
use Rattle.command_line.specs.declared.costing.CostForm.TheVariants as cost_form
use Rattle.command_line.specs.declared.explain.ExplainJob.{ExplainJob}
use Rattle.command_line.specs.declared.exploring.ExploreForm.{ExploreForm}
use Rattle.command_line.specs.declared.exploring.ExploreForm.TheVariants as explore_form
use Rattle.command_line.specs.declared.exploring.ExploreJob.{ExploreJob}
use Rattle.command_line.specs.declared.job.CJob.{CJob}
use Rattle.command_line.specs.declared.job.CheckJob.{CheckJob}
use Rattle.command_line.specs.declared.job.Job.{Job}
use Rattle.command_line.specs.declared.job.Job.TheVariants as job
use Rattle.command_line.specs.declared.job.RunJob.{RunJob}
use Rattle.command_line.specs.declared.job.WorldJob.{WorldJob}
use Rattle.command_line.specs.declared.judging.JudgeJob.{JudgeJob}
use Rattle.command_line.specs.declared.soaking.SoakJob.{SoakJob}
use Rattle.command_line.specs.declared.soaking.SoakScriptJob.{SoakScriptJob}
use Rattle.command_line.specs.declared.tracing.TraceForm.{TraceForm}
use Rattle.command_line.specs.declared.tracing.TraceForm.TheVariants as trace_form
use Rattle.command_line.specs.declared.tracing.TraceJob.{TraceJob}

-- The only file holds the program.
pub record IsCheckOf (command : List ℕ) (arguments : List (List ℕ)) (check : CheckJob) : Type 0 where
  pub files : files_of command arguments ≡ check.program.now ∷ []

-- The only file holds the program; sends are synchronous if `--synchronous` is there.
pub record IsCOf (command : List ℕ) (arguments : List (List ℕ)) (c : CJob) : Type 0 where
  pub synchronous : c.synchronous ≡ is_given (codes "synchronous") arguments
  pub files : files_of command arguments ≡ c.program.now ∷ []

-- The run has as many ranks as `--ranks` says, under the script in the file that `--script` names, with
-- an image after so many acts as `--images-every` gives, and within the limits that `--idle` and `--steps`
-- give; its ranks are scheduled as the arguments say. The only file holds the program.
pub record IsRunOf (command : List ℕ) (arguments : List (List ℕ)) (run : RunJob) : Type 0 where
  pub ranks : IsSomeAnd (value_of (codes "ranks") arguments) (λ text. Spells text run.ranks)
  pub script : option_map (λ name. name.now) run.script ≡ value_of (codes "script") arguments
  pub images_every : IsSpelledIf (value_of (codes "images-every") arguments) run.images_every
  pub idle : IsSpelledOr 1000000 (value_of (codes "idle") arguments) run.idle
  pub steps : IsSpelledOr 1000000 (value_of (codes "steps") arguments) run.steps
  pub scheduling : IsSchedulingOf arguments run.scheduling
  pub files : files_of command arguments ≡ run.program.now ∷ []

-- What a run cost is printed if `--costs` is there, as JSON if `--json` is there too.
abbrev pub IsCostFormOf : List (List ℕ) → CostForm → Type 0
IsCostFormOf arguments cost_form.Unasked = is_given (codes "costs") arguments ≡ false
IsCostFormOf arguments cost_form.Table = (is_given (codes "costs") arguments ≡ true)
    × (is_given (codes "json") arguments ≡ false)
IsCostFormOf arguments cost_form.Json = (is_given (codes "costs") arguments ≡ true)
    × (is_given (codes "json") arguments ≡ true)

-- A run is traced in the form whose option is there, and else as lines; none is drawn.
abbrev pub IsTraceFormOf : List (List ℕ) → TraceForm → Type 0
IsTraceFormOf arguments trace_form.Text = (is_given (codes "json") arguments ≡ false)
    × (is_given (codes "events") arguments ≡ false) × (is_given (codes "picture") arguments ≡ false)
IsTraceFormOf arguments trace_form.Json = is_given (codes "json") arguments ≡ true
IsTraceFormOf arguments trace_form.Events = is_given (codes "events") arguments ≡ true

-- The run that is traced, without its costs, and the form.
pub record IsTraceOf (command : List ℕ) (arguments : List (List ℕ)) (trace : TraceJob) : Type 0 where
  pub run : IsRunOf command arguments trace.run
  pub costs : trace.run.costs ≡ cost_form.Unasked
  pub form : IsTraceFormOf arguments trace.form

-- The world has as many ranks as `--ranks` says. The first file holds the program, and the other one the
-- events.
pub record IsWorldOf (command : List ℕ) (arguments : List (List ℕ)) (world : WorldJob) : Type 0 where
  pub ranks : IsSomeAnd (value_of (codes "ranks") arguments) (λ text. Spells text world.ranks)
  pub files : files_of command arguments ≡ world.program.now ∷ world.events.now ∷ []

-- The world that is led to its end, with as many steps of a rank as `--steps` gives.
pub record IsFinishOf (command : List ℕ) (arguments : List (List ℕ)) (finish : FinishJob) : Type 0 where
  pub world : IsWorldOf command arguments finish.world
  pub steps : IsSpelledOr 100000 (value_of (codes "steps") arguments) finish.steps

-- The texts are those that `--script` and `--events` name, and the only file is the program. The script is
-- one for as many ranks as `--ranks` says, or for as many as there may be.
pub record IsExplainOf (command : List ℕ) (arguments : List (List ℕ)) (texts : ExplainJob) : Type 0 where
  pub ranks : IsSpelledOr most_ranks (value_of (codes "ranks") arguments) texts.ranks
  pub script : option_map (λ name. name.now) texts.script ≡ value_of (codes "script") arguments
  pub events : option_map (λ name. name.now) texts.events ≡ value_of (codes "events") arguments
  pub files : files_of command arguments ≡ texts.program.now ∷ []

-- What a search found is printed in the form whose option is there, and else as a text.
abbrev pub IsExploreFormOf : List (List ℕ) → ExploreForm → Type 0
IsExploreFormOf arguments explore_form.Text = (is_given (codes "json") arguments ≡ false)
    × (is_given (codes "summary") arguments ≡ false) × (value_of (codes "events") arguments ≡ None)
IsExploreFormOf arguments explore_form.Summary = is_given (codes "summary") arguments ≡ true
IsExploreFormOf arguments explore_form.Json = is_given (codes "json") arguments ≡ true
IsExploreFormOf arguments (explore_form.Events outcome) =
    IsSomeAnd (value_of (codes "events") arguments) (λ text. Spells text outcome)

-- The search is on as many ranks as `--ranks` says, and within the limits that `--runs`, `--steps` and
-- `--states` give; sends are synchronous if `--synchronous` is there. The only file holds the program.
pub record IsExploreOf (command : List ℕ) (arguments : List (List ℕ)) (search : ExploreJob) : Type 0 where
  pub ranks : IsSomeAnd (value_of (codes "ranks") arguments) (λ text. Spells text search.ranks)
  pub runs : IsSpelledOr 100000 (value_of (codes "runs") arguments) search.runs
  pub steps : IsSpelledOr 100000 (value_of (codes "steps") arguments) search.steps
  pub states : IsSpelledOr 1000000 (value_of (codes "states") arguments) search.states
  pub form : IsExploreFormOf arguments search.form
  pub synchronous : search.synchronous ≡ is_given (codes "synchronous") arguments
  pub files : files_of command arguments ≡ search.program.now ∷ []

-- The outcome is judged for as many ranks as `--ranks` says, within the steps that `--steps` gives, and a
-- run is told if `--trace` is there. The first file holds the program, and the other one the outcome.
pub record IsJudgeOf (command : List ℕ) (arguments : List (List ℕ)) (outcome : JudgeJob) : Type 0 where
  pub ranks : IsSomeAnd (value_of (codes "ranks") arguments) (λ text. Spells text outcome.ranks)
  pub steps : IsSpelledOr 1000000 (value_of (codes "steps") arguments) outcome.steps
  pub trace : outcome.trace ≡ is_given (codes "trace") arguments
  pub files : files_of command arguments ≡ outcome.program.now ∷ outcome.outcome.now ∷ []

-- There are as many runs as `--runs` says, on as many ranks as `--ranks` says, with scripts that are drawn
-- from what `--seed` gives, with no more kills and images than `--kills` and `--images` allow, with an
-- image after so many acts as `--images-every` gives, and within the limits that `--idle` and `--steps`
-- give; their ranks are scheduled as the arguments say. The only file holds the program.
pub record IsSoakOf (command : List ℕ) (arguments : List (List ℕ)) (runs : SoakJob) : Type 0 where
  pub ranks : IsSomeAnd (value_of (codes "ranks") arguments) (λ text. Spells text runs.ranks)
  pub runs_made : IsSpelledOr 100 (value_of (codes "runs") arguments) runs.runs
  pub seed : IsSpelledOr 1 (value_of (codes "seed") arguments) runs.seed
  pub kills : IsSpelledOr 2 (value_of (codes "kills") arguments) runs.kills
  pub images : IsSpelledOr 2 (value_of (codes "images") arguments) runs.images
  pub images_every : IsSpelledIf (value_of (codes "images-every") arguments) runs.images_every
  pub idle : IsSpelledOr 1000000 (value_of (codes "idle") arguments) runs.idle
  pub steps : IsSpelledOr 1000000 (value_of (codes "steps") arguments) runs.steps
  pub scheduling : IsSchedulingOf arguments runs.scheduling
  pub files : files_of command arguments ≡ runs.program.now ∷ []

-- The script is that of the run whose number `--script-of` gives, of a soak by the other arguments.
pub record IsSoakScriptOf (command : List ℕ) (arguments : List (List ℕ)) (script : SoakScriptJob) : Type 0 where
  pub soak : IsSoakOf command arguments script.soak
  pub number : IsSomeAnd (value_of (codes "script-of") arguments) (λ text. Spells text script.number)

-- the job that a command has with these arguments
abbrev pub IsJobBy : List ℕ → List (List ℕ) → Job → Type 0
IsJobBy command arguments (job.Check check) = (command ≡ codes "check") × IsCheckOf command arguments check
IsJobBy command arguments (job.C c) = (command ≡ codes "c") × IsCOf command arguments c
IsJobBy command arguments (job.Run run) =
    (command ≡ codes "run") × IsRunOf command arguments run × IsCostFormOf arguments run.costs
IsJobBy command arguments (job.Trace trace) = (command ≡ codes "trace") × IsTraceOf command arguments trace
IsJobBy command arguments (job.World world) =
    (command ≡ codes "world") × (is_given (codes "json") arguments ≡ false) × IsWorldOf command arguments world
IsJobBy command arguments (job.WorldJson world) =
    (command ≡ codes "world") × (is_given (codes "json") arguments ≡ true) × IsWorldOf command arguments world
IsJobBy command arguments (job.CatchUp world) =
    (command ≡ codes "catch-up") × (is_given (codes "to-the-end") arguments ≡ false) × IsWorldOf command arguments world
IsJobBy command arguments (job.Finish finish) =
    (command ≡ codes "catch-up") × (is_given (codes "to-the-end") arguments ≡ true) × IsFinishOf command arguments finish
IsJobBy command arguments (job.Explain texts) = (command ≡ codes "explain") × IsExplainOf command arguments texts
IsJobBy command arguments (job.Explore search) = (command ≡ codes "explore") × IsExploreOf command arguments search
IsJobBy command arguments (job.Judge outcome) = (command ≡ codes "judge") × IsJudgeOf command arguments outcome
IsJobBy command arguments (job.Soak runs) =
    (command ≡ codes "soak") × (value_of (codes "script-of") arguments ≡ None) × IsSoakOf command arguments runs
IsJobBy command arguments (job.SoakScript script) = (command ≡ codes "soak") × IsSoakScriptOf command arguments script

-- The words name this job: the first word is the program's own name, the second one the command, and the
-- others are its arguments.
abbrev pub IsJobOf : List (List ℕ) → Job → Type 0
IsJobOf [] named = ⊥
IsJobOf (program ∷ []) named = ⊥
IsJobOf (program ∷ command ∷ arguments) named = IsJobBy command arguments named
