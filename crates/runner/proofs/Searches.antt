-- How what is said of a search is an answer.
use Rattle.std.proofs.Common.{◌≡◌, ◌≤◌, ◌⊎◌, ℕ, true, false, List, [], ◌++◌, refl, ap, append_assoc, append-nil, subst, sym, arith, ◌∙◌}
use Rattle.std.specs.Prelude.{IsTrue}
use Rattle.command_line.specs.declared.exploring.ExploreForm.TheVariants as form
use Rattle.command_line.specs.declared.exploring.ExploreJob.{ExploreJob}
use Rattle.crash_free.specs.Sim.{start_of}
use Rattle.explore.specs.Counting.{GoesBeyond}
use Rattle.explore.specs.Cycles.{MayGoOnForEver}
use Rattle.explore.specs.Endings.{AreLeftovers}
use Rattle.explore.specs.Explored.{ExploredValue}
use Rattle.explore.specs.Exploring.{AlwaysEndsIn}
use Rattle.explore.specs.Outcomes.{AreAll, AreDistinct, IsAmong}
use Rattle.explore.specs.Small.{IsSmall}
use Rattle.audit.specs.Outcome.{OutcomeValue}
use Rattle.audit.specs.FinalRuns.Final.{IsFinal}
use Rattle.audit.specs.FinalRuns.Maximal.{RankOutcome}
use Rattle.explore.specs.Sending.{IsPossibleUnder}
use Rattle.rank_language.specs.Program.{ProgramValue}
use Rattle.rank_language.specs.StandOn.{IsLinedOf}
use Rattle.runner.proofs.Crashes.{prints_only}
use Rattle.run_events.specs.Masking.{EndsAmong, IsMasked}
use Rattle.runner.specs.Crashes.{AreMasked}
use Rattle.runner.specs.Determinism.{IsKnown, known_text, needs_telling}
use Rattle.runner.specs.Events.{PlaysOutcome}
use Rattle.runner.specs.Modes.{mode_of}
use Rattle.runner.specs.OutcomesText.{IsMarkedObject, IsMarkedSummary, IsMarkedText}
use Rattle.runner.specs.Safety.{IsVerdict, needs_second}
use Rattle.runner.specs.Searches.{HasSearchStatus, IsDeterminismText, IsExploreAnswer, IsFoundBy, IsKnownIn, IsKnownWithin, IsPrinted, IsSafetyOf, IsSearchAnswer, IsSecond, IsToldOf}
use Rattle.runner.specs.declared.commands.determinism.Determinism.{Determinism}
use Rattle.runner.specs.declared.commands.determinism.Determinism.TheVariants as known
use Rattle.runner.specs.declared.explored.safety.Safety.{Safety}
use Rattle.runner.specs.declared.explored.safety.Safety.TheVariants as safety
use Rattle.telling.specs.Telling.{IsTelling}
use Rattle.telling.specs.declared.program.Telling.{Telling}
use Rattle.telling.specs.declared.program.Telling.TheVariants as telling
use Rattle.explore.specs.declared.send_mode.SendMode.{SendMode}
use Rattle.explore.specs.declared.send_mode.SendMode.TheVariants.{Buffered, Synchronous}

-- what a search found within so many runs and the job's steps, where crashes add no outcome to those of a complete one
pub is_found_by : (program : ProgramValue) (mode : SendMode) (job : ExploreJob) (found : ExploredValue) (runs steps : ℕ) → steps ≡ job.steps
    → ((p : ProgramValue) (n : ℕ) (outcomes : List (List RankOutcome)) (o : OutcomeValue) → EndsAmong p n outcomes → IsFinal p n o
    → IsMasked outcomes n o)
    → ((outcome : List RankOutcome) → IsAmong found.outcomes outcome → IsPossibleUnder mode program job.ranks outcome)
    → (found.complete ≡ true → AreAll mode program job.ranks found.outcomes)
    → AreLeftovers mode program job.ranks found.complete found.outcomes found.left
    → (found.complete ≡ true → AlwaysEndsIn mode (start_of program job.ranks) job.ranks (IsAmong found.outcomes) [])
    → (IsSmall mode program job.ranks runs steps → found.complete ≡ true)
    → (found.complete ≡ false → (found.runs ≡ runs) ⊎ IsTrue found.out_of_steps)
    → (found.out_of_steps ≡ true → GoesBeyond mode program job.ranks steps) → AreDistinct found.outcomes → found.runs ≤ runs → found.closed ≡ false
    → IsFoundBy program mode job runs found
is_found_by program mode job found runs steps those law possible complete left ends small stopped beyond distinct few_runs plain = record {
  possible = possible;
  complete = complete;
  closed = λ is. absurd (no is);
  left = left;
  all_left = λ is. absurd (no is);
  endless = λ is. absurd (no is);
  ends = ends;
  crashes = λ same all.
      record { masks = masks same all; only = λ outcome is. prints_only program job.ranks found.outcomes outcome (masks same all) is };
  small = subst (λ (s : ℕ). IsSmall mode program job.ranks runs s → found.complete ≡ true) those small;
  stopped = λ is _. stopped is;
  beyond = subst (λ (s : ℕ). found.out_of_steps ≡ true → GoesBeyond mode program job.ranks s) those beyond;
  distinct = distinct;
  few_runs = few_runs;
}
  where
    masks : mode ≡ Buffered → found.complete ≡ true → AreMasked program job.ranks found.outcomes
    masks same all o final =
        law program job.ranks found.outcomes o (subst (λ m. AlwaysEndsIn m (start_of program job.ranks) job.ranks (IsAmong found.outcomes) []) same (ends all)) final

    no : found.closed ≡ true → ⊥
    no is = (let e : true ≡ false = sym is ∙ plain in absurd cc)

-- what a search found that closes over states, where one that isn't complete was made before
pub ends_found_by : (program : ProgramValue) (mode : SendMode) (job : ExploreJob) (before found : ExploredValue) (runs steps : ℕ) → steps ≡ job.steps
    → before.complete ≡ false → (IsSmall mode program job.ranks runs steps → before.complete ≡ true)
    → AreAll mode program job.ranks found.outcomes → AreLeftovers mode program job.ranks true found.outcomes found.left → MayGoOnForEver mode program job.ranks
    → (found.closed ≡ true) × (found.complete ≡ false) → AreDistinct found.outcomes → found.runs ≤ runs
    → (found.out_of_steps ≡ true → GoesBeyond mode program job.ranks steps) → IsFoundBy program mode job runs found
ends_found_by program mode job before found runs steps those stopped small all left endless closed distinct few_runs beyond = record {
  possible = all.possible;
  complete = λ _. all;
  closed = λ _. all;
  left = record { as_many = left.as_many; some_run = left.some_run; no_others = λ _. left.no_others refl; distinct = left.distinct };
  all_left = λ _. left;
  endless = λ _. endless;
  ends = λ is. absurd (no is);
  crashes = λ _ is. absurd (no is);
  small = λ is. absurd (no_small (subst (λ (s : ℕ). IsSmall mode program job.ranks runs s) (sym those) is));
  stopped = λ _ not. (let e : true ≡ false = sym closed.0 ∙ not in absurd cc);
  beyond = subst (λ (s : ℕ). found.out_of_steps ≡ true → GoesBeyond mode program job.ranks s) those beyond;
  distinct = distinct;
  few_runs = few_runs;
}
  where
    no : found.complete ≡ true → ⊥
    no is = (let e : true ≡ false = sym is ∙ closed.1 in absurd cc)

    no_small : IsSmall mode program job.ranks runs steps → ⊥
    no_small is = (let e : true ≡ false = sym (small is) ∙ stopped in absurd cc)

-- the text of what was found is printed where it is asked for
pub text_printed : (lines : List ℕ) (program : ProgramValue) (job : ExploreJob) (found : ExploredValue) (told : Safety) (out : List ℕ)
    → job.form ≡ form.Text → IsMarkedText job.synchronous lines program job.ranks found told job.runs out → IsPrinted lines program job found told out
text_printed lines program job found told out is text =
    record {
      text = λ _. text;
      summary = λ other. (let e : form.Text ≡ form.Summary = sym is ∙ other in absurd cc);
      json = λ other. (let e : form.Text ≡ form.Json = sym is ∙ other in absurd cc);
      events = λ number other. (let e : form.Text ≡ form.Events number = sym is ∙ other in absurd cc);
    }

-- so is the short one
pub summary_printed : (lines : List ℕ) (program : ProgramValue) (job : ExploreJob) (found : ExploredValue) (told : Safety) (out : List ℕ)
    → job.form ≡ form.Summary → IsMarkedSummary job.synchronous lines program job.ranks found told job.runs out → IsPrinted lines program job found told out
summary_printed lines program job found told out is text =
    record {
      text = λ other. (let e : form.Summary ≡ form.Text = sym is ∙ other in absurd cc);
      summary = λ _. text;
      json = λ other. (let e : form.Summary ≡ form.Json = sym is ∙ other in absurd cc);
      events = λ number other. (let e : form.Summary ≡ form.Events number = sym is ∙ other in absurd cc);
    }

-- so is the object of JSON
pub json_printed : (lines : List ℕ) (program : ProgramValue) (job : ExploreJob) (found : ExploredValue) (told : Safety) (out : List ℕ)
    → job.form ≡ form.Json → IsMarkedObject job.synchronous lines program job.ranks found told out → IsPrinted lines program job found told out
json_printed lines program job found told out is text =
    record {
      text = λ other. (let e : form.Json ≡ form.Text = sym is ∙ other in absurd cc);
      summary = λ other. (let e : form.Json ≡ form.Summary = sym is ∙ other in absurd cc);
      json = λ _. text;
      events = λ number other. (let e : form.Json ≡ form.Events number = sym is ∙ other in absurd cc);
    }

-- the events of the outcome that is named are printed
pub events_printed : (lines : List ℕ) (program : ProgramValue) (job : ExploreJob) (mode : SendMode) (found : ExploredValue) (told : Safety) (out : List ℕ) (number : ℕ)
    → mode ≡ mode_of job.synchronous → job.form ≡ form.Events number → PlaysOutcome mode program job.ranks found.outcomes number out
    → IsPrinted lines program job found told out
events_printed lines program job mode found told out number by_mode is played = record {
  text = λ other. (let e : form.Events number ≡ form.Text = sym is ∙ other in absurd cc);
  summary = λ other. (let e : form.Events number ≡ form.Summary = sym is ∙ other in absurd cc);
  json = λ other. (let e : form.Events number ≡ form.Json = sym is ∙ other in absurd cc);
  events = λ another other. let e : form.Events number ≡ form.Events another = sym is ∙ other in
      let same : number ≡ another = cc in
      subst (λ (n : ℕ). PlaysOutcome (mode_of job.synchronous) program job.ranks found.outcomes n out) same
      (subst (λ m. PlaysOutcome m program job.ranks found.outcomes number out) by_mode played);
}

-- what a search of a telling program says
pub of_search : (program : ProgramValue) (lines : List ℕ) (job : ExploreJob) (runs : ℕ) (found : ExploredValue) (told : Determinism)
    → IsFoundBy program Buffered job runs found → IsKnown program lines job.ranks found told → IsKnownIn runs program lines job told
of_search program lines job runs found told searched told_of = record { found = found; searched = searched; told_of = told_of }

-- a brief search that came to no limit says enough
pub of_brief : (program : ProgramValue) (lines : List ℕ) (job : ExploreJob) (runs : ℕ) (told : Determinism) → runs ≤ job.runs
    → IsKnownIn runs program lines job told → (told ≡ known.Stopped → ⊥) → IsKnownWithin program lines job told
of_brief program lines job runs told few searched enough = record { runs = runs; few = few; searched = searched; whole = λ is. absurd (enough is) }

-- one in all runs of the job says what there is to say
pub of_whole : (program : ProgramValue) (lines : List ℕ) (job : ExploreJob) (told : Determinism) → IsKnownIn job.runs program lines job told
    → IsKnownWithin program lines job told
of_whole program lines job told searched = record { runs = job.runs; few = omega arith; searched = searched; whole = λ _. refl }

-- what is known of a telling program is told
pub of_telling : (what : Telling) (text : List ℕ) (program : ProgramValue) (lines : List ℕ) (job : ExploreJob) (told : Determinism)
    → IsTelling what text program lines → IsKnownWithin program lines job told → IsToldOf what text job told
of_telling what text program lines job told is known_within = IsToldOf.searched program lines is known_within

-- sends and receptions aren't looked for
pub untold_text : (text : List ℕ) (job : ExploreJob) (found : ExploredValue) (old new : List ℕ) → needs_telling job found ≡ false → new ≡ old
    → (behind : List ℕ) × IsDeterminismText text job found behind × (new ≡ old ++ behind)
untold_text text job found old new none same =
    ([], record { untold = λ _. refl; told = λ other. (let e : true ≡ false = sym other ∙ none in absurd cc) }, same ∙ sym (append-nil old))

-- they are
pub told_text : (text : List ℕ) (job : ExploreJob) (found : ExploredValue) (sends receptions : Determinism) (old middle new : List ℕ)
    → needs_telling job found ≡ true → IsToldOf telling.Sends text job sends → IsToldOf telling.Receptions text job receptions
    → middle ≡ old ++ known_text telling.Sends sends → new ≡ middle ++ known_text telling.Receptions receptions
    → (behind : List ℕ) × IsDeterminismText text job found behind × (new ≡ old ++ behind)
told_text text job found sends receptions old middle new some of_sends of_receptions first second = (
  known_text telling.Sends sends ++ known_text telling.Receptions receptions,
  record {
    untold = λ other. (let e : true ≡ false = sym some ∙ other in absurd cc);
    told = λ _. record { sends = sends; of_sends = of_sends; receptions = receptions; of_receptions = of_receptions; whole = refl };
  },
  second ∙ ap (λ (xs : List ℕ). xs ++ known_text telling.Receptions receptions) first
      ∙ append_assoc old (known_text telling.Sends sends) (known_text telling.Receptions receptions),
)

-- what was found, printed with whether the program is safe and its status, is an answer
pub is_search_answer : (text lines : List ℕ) (program : ProgramValue) (job : ExploreJob) (found : ExploredValue) (told : Safety) (before out : List ℕ)
    (status : ℕ) → IsFoundBy program (mode_of job.synchronous) job job.runs found → IsSafetyOf lines program job found told → IsPrinted lines program job found told before
    → (behind : List ℕ) × IsDeterminismText text job found behind × (out ≡ before ++ behind)
    → HasSearchStatus found status → IsSearchAnswer text lines program job out status
is_search_answer text lines program job found told before out status searched safety printed determinism ended = record {
  found = found;
  searched = searched;
  told = told;
  safety = safety;
  before = before;
  printed = printed;
  behind = determinism.0;
  determinism = determinism.1;
  whole = determinism.2;
  ended = ended;
}

-- an answer of the program of a text that the file holds
pub is_explore_answer : (holds : List ℕ → Type 0) (job : ExploreJob) (text lines : List ℕ) (program : ProgramValue) (out : List ℕ) (status : ℕ)
    → holds text → IsLinedOf text program lines → IsSearchAnswer text lines program job out status → IsExploreAnswer holds job out status
is_explore_answer holds job text lines program out status held searched answer =
    record { text = text; held = held; program = program; lines = lines; searched = searched; answer = answer }

-- a search of synchronous runs says itself whether the program is safe
pub is_itself : (lines : List ℕ) (program : ProgramValue) (job : ExploreJob) (found : ExploredValue) (told : Safety) → job.synchronous ≡ true
    → IsVerdict lines program job.ranks found told → IsSafetyOf lines program job found told
is_itself lines program job found told is verdict = record {
  itself = λ _. verdict;
  untold = λ other. (let e : true ≡ false = sym is ∙ other in absurd cc);
  second = λ other. (let e : true ≡ false = sym is ∙ other in absurd cc);
}

-- no second search is needed
pub is_untold : (lines : List ℕ) (program : ProgramValue) (job : ExploreJob) (found : ExploredValue) → job.synchronous ≡ false
    → needs_second job program found ≡ false → IsSafetyOf lines program job found safety.Untold
is_untold lines program job found is none = record {
  itself = λ other. (let e : false ≡ true = sym is ∙ other in absurd cc);
  untold = λ _ _. refl;
  second = λ _ other. (let e : false ≡ true = sym none ∙ other in absurd cc);
}

-- a second one was made
pub is_second : (lines : List ℕ) (program : ProgramValue) (job : ExploreJob) (found : ExploredValue) (told : Safety) → job.synchronous ≡ false
    → needs_second job program found ≡ true → IsSecond lines program job told → IsSafetyOf lines program job found told
is_second lines program job found told is needed second = record {
  itself = λ other. (let e : false ≡ true = sym is ∙ other in absurd cc);
  untold = λ _ other. (let e : true ≡ false = sym needed ∙ other in absurd cc);
  second = λ _ _. second;
}

-- and what a second search says
pub of_second : (lines : List ℕ) (program : ProgramValue) (job : ExploreJob) (found : ExploredValue) (told : Safety)
    → IsFoundBy program Synchronous job job.runs found → IsVerdict lines program job.ranks found told → IsSecond lines program job told
of_second lines program job found told searched verdict = record { found = found; searched = searched; verdict = verdict }
