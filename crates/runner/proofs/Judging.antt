-- How what is said of an outcome is the verdict on it.
use Rattle.std.proofs.Common.{◌≡◌, ◌++◌, ℕ, List, [], None, true, false, ◌∙◌, arith, codes, refl, sym}
use Rattle.audit.specs.Outcome.{OutcomeValue}
use Rattle.command_line.specs.declared.judging.JudgeJob.{JudgeJob}
use Rattle.audit.specs.declared.final_runs.fault.FinalFault.{FinalFault}
use Rattle.outcomes.specs.Judge.Judged.{IsNoText, IsRight}
use Rattle.outcomes.specs.declared.judge.verdict.Verdict.TheVariants.{Yes, No}
use Rattle.outcomes.specs.Text.Outcomes.{TextValue, outcome_of}
use Rattle.outcomes.specs.Text.Texts.{entries_of, first_fault}
use Rattle.rank_language.specs.Program.{ProgramValue}
use Rattle.runner.specs.Judgments.{HasVerdict, IsJudgeAnswer, IsYesText, TellsVerdict, TellsVerdictOf}
use Rattle.runner.specs.Traces.{TracesReport}
use Rattle.rank_language.specs.StandOn.{IsLinedOf}

-- 0 for a yes
has_yes : (program : ProgramValue) (n : ℕ) (outcome : OutcomeValue) (steps status : ℕ) → status ≡ 0 → IsRight program n outcome steps Yes
    → HasVerdict program n outcome steps status
has_yes program n outcome steps status is right = record {
  yes = λ zero. right.0;
  no = λ one. absurd (omega (arith, is, one));
  else_one = omega (arith, is);
}

-- 1 for a no
has_no : (program : ProgramValue) (n : ℕ) (outcome : OutcomeValue) (steps status : ℕ) (why : FinalFault) → status ≡ 1
    → IsRight program n outcome steps (No why) → HasVerdict program n outcome steps status
has_no program n outcome steps status why is right = record {
  yes = λ zero. absurd (omega (arith, is, zero));
  no = λ one. right;
  else_one = omega (arith, is);
}

-- a yes is told with its text
pub tells_yes : (source : List ℕ) (program : ProgramValue) (job : JudgeJob) (outcome : OutcomeValue) (out : List ℕ) (status : ℕ) → status ≡ 0
    → IsRight program job.ranks outcome job.steps Yes → IsYesText source program job outcome out
    → TellsVerdict source program job outcome out status
tells_yes source program job outcome out status is right text = record {
  verdict = has_yes program job.ranks outcome job.steps status is right;
  yes = λ zero. text;
  no = λ one. absurd (omega (arith, is, one));
}

-- so is a no
pub tells_no : (source : List ℕ) (program : ProgramValue) (job : JudgeJob) (outcome : OutcomeValue) (why : FinalFault) (out : List ℕ) (status : ℕ)
    → status ≡ 1 → IsRight program job.ranks outcome job.steps (No why) → IsNoText out → TellsVerdict source program job outcome out status
tells_no source program job outcome why out status is right text = record {
  verdict = has_no program job.ranks outcome job.steps status why is right;
  yes = λ zero. absurd (omega (arith, is, zero));
  no = λ one. text;
}

-- a yes without a run
pub yes_alone : (source : List ℕ) (program : ProgramValue) (job : JudgeJob) (outcome : OutcomeValue) (text : List ℕ)
    → job.trace ≡ false → text ≡ codes "yes\n" → IsYesText source program job outcome text
yes_alone source program job outcome text wanted whole = record {
  rest = [];
  whole = whole;
  alone = λ _. refl;
  traced = λ other. (let e : false ≡ true = sym wanted ∙ other in absurd cc);
}

-- a yes with its run
pub yes_traced : (source : List ℕ) (program : ProgramValue) (job : JudgeJob) (outcome : OutcomeValue) (run text : List ℕ)
    → job.trace ≡ true → TracesReport source program job.ranks outcome job.steps run → text ≡ codes "yes\n" ++ run
    → IsYesText source program job outcome text
yes_traced source program job outcome run text wanted traced whole = record {
  rest = run;
  whole = whole;
  alone = λ other. (let e : true ≡ false = sym wanted ∙ other in absurd cc);
  traced = λ _. traced;
}

-- the verdict on the outcome of a text that the file holds
pub tells_verdict_of : (holds : List ℕ → Type 0) (source : List ℕ) (program : ProgramValue) (job : JudgeJob) (text : List ℕ) (outcome : TextValue)
    (out : List ℕ) (status : ℕ) → holds text → first_fault job.ranks text ≡ None → outcome.entries ≡ entries_of text → outcome.ranks ≡ job.ranks
    → TellsVerdict source program job (outcome_of outcome) out status → TellsVerdictOf holds source program job out status
tells_verdict_of holds source program job text outcome out status held faultless entries of_ranks told = record {
  outcome = outcome;
  given = record { text = text; held = held; faultless = faultless; entries = entries; of_ranks = of_ranks };
  told = told;
}

-- so it is an answer, of an outcome that is read once the program is
pub is_judge_answer : (holds held : List ℕ → List ℕ → Type 0) (job : JudgeJob) (source : List ℕ) (program : ProgramValue) (lines : List ℕ)
    (out : List ℕ) (status : ℕ) → held job.program.now source → IsLinedOf source program lines
    → ((file text : List ℕ) → holds file text → held file text)
    → TellsVerdictOf (holds job.outcome.now) source program job out status → IsJudgeAnswer held job out status
is_judge_answer holds held job source program lines out status has lined kept of = record {
  program = program;
  read = record { text = source; held = has; read = record { forms = lined.forms; reads = lined.reads; program = lined.program } };
  answer = record {
    outcome = of.outcome;
    given = record {
      text = of.given.text;
      held = kept job.outcome.now of.given.text of.given.held;
      faultless = of.given.faultless;
      entries = of.given.entries;
      of_ranks = of.given.of_ranks;
    };
    told = of.told;
  };
}
