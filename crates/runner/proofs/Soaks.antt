-- How runs under scripts that were drawn are counted, one after another.
use Rattle.std.proofs.Common.{◌≡◌, ◌≢◌, ◌↔◌, ◌≤◌, ◌+◌, ◌⊎◌, ◌++◌, ℕ, zero, suc, Bool, List, [], ◌∷◌, Some, true, false, codes, length, nat_lt, IsTrue}
use Rattle.std.proofs.lemmas.List.{append_assoc}
use Rattle.std.proofs.Common.{inl, inr, slice_get, slice_set, string_bytes, subst, sym, refl, ap, ◌∙◌}
use Rattle.command_line.specs.declared.soaking.SoakJob.{SoakJob}
use Rattle.command_line.specs.declared.soaking.SoakScriptJob.{SoakScriptJob}
use Rattle.explore.specs.Explored.{ExploredValue}
use Rattle.explore.specs.Exploring.{AlwaysEndsIn}
use Rattle.explore.specs.Outcomes.{AreAll, AreDistinct, IsAmong}
use Rattle.crash_free.specs.Sim.{start_of}
use Rattle.matching.specs.declared.line.Line.{Line}
use Rattle.run_events.specs.Masking.{EndsAmong, IsMasked}
use Rattle.runner.specs.Reading.{IsProgramIn}
use Rattle.runner.specs.Reports.{IsReportUnder}
use Rattle.run_events.specs.Halting.{HaveHalted}
use Rattle.audit.specs.Outcome.{OutcomeValue}
use Rattle.audit.specs.declared.outcome.End.{End}
use Rattle.audit.specs.declared.outcome.End.TheVariants as end
use Rattle.audit.specs.FinalRuns.Final.{IsFinal, NoneIsUnfinished, seen_from, seen_of}
use Rattle.audit.specs.FinalRuns.Maximal.{RankOutcome}
use Rattle.explore.specs.Sending.{IsPossibleUnder}
use Rattle.rank_language.specs.Correct.{IsProgramOf}
use Rattle.rank_language.specs.Program.{ProgramValue}
use Rattle.rank_threads.specs.declared.report.Report.{Report}
use Rattle.runner.specs.SoakText.{AreUnmet, IsSearchText, IsSoakText, IsUnmetLine, complete_text, failed_text, unmet_text}
use Rattle.runner.specs.Soaks.{AreSoaked, HasSoakStatus, IsDrawn, IsFinished, IsOneMore, IsSearched, IsSoakAnswer, IsSoakScriptAnswer}
use Rattle.runner.specs.declared.soaked.Soaked.{Soaked}
use Rattle.rank_text.specs.Scripts.Script.{script_lines}
use Rattle.rank_text.specs.declared.script.line.ScriptLine.{ScriptLine}
use Rattle.outcomes.specs.Soak.Histogram.{AreOthers, BarValue, HasAt, Notes, again, first, first_bar, up_to, with_one}
use Rattle.outcomes.specs.Soak.Lines.{CanBeUsed, images_in, kills_in}
use Rattle.outcomes.specs.Soak.Text.{text_of}
use Rattle.explore.specs.declared.send_mode.SendMode.TheVariants.{Buffered}

-- at first no run was made
pub of_none : (program : ProgramValue) (job : SoakJob) (soaked : Soaked) → soaked.histogram ≡ [] → soaked.crashes ≡ 0 → soaked.all_halted ≡ true
    → string_bytes soaked.failed ≡ [] → AreSoaked program job 0 soaked
of_none program job soaked none crashes halted failed =
    AreSoaked.none (record { none = none; crashes = crashes; halted = halted; failed = failed })

-- a script of lines that were drawn
pub is_drawn : (job : SoakJob) (lines : List ScriptLine) (text : List ℕ) (script : List ScriptLine) → CanBeUsed lines → kills_in lines ≤ job.kills
    → images_in lines ≤ job.images → text ≡ text_of lines → script ≡ script_lines text → IsDrawn job text script
is_drawn job lines text script usable kills images spelled read = record {
  lines = lines;
  spelled = spelled;
  read = read;
  usable = usable;
  kills = kills;
  images = images;
}

-- a run with a report is one more
pub is_reported : (program : ProgramValue) (job : SoakJob) (number : ℕ) (text : List ℕ) (script : List ScriptLine) (steps : ℕ) (report : Report)
    (old new : Soaked) → IsDrawn job text script → steps ≡ job.steps → IsReportUnder program job.ranks script steps report
    → Notes old.histogram (seen_of report.outcome) (nat_lt 0 report.crashes) new.histogram → new.crashes ≡ up_to (old.crashes + report.crashes)
    → (IsTrue new.all_halted ↔ (IsTrue old.all_halted × HaveHalted report.outcome.ends)) → string_bytes new.failed ≡ string_bytes old.failed
    → IsOneMore program job number old new
is_reported program job number text script steps report old new drawn is under counted crashes halted failed =
    IsOneMore.reported text script report drawn (subst (λ (s : ℕ). IsReportUnder program job.ranks script s report) is under)
    (record { counted = counted; crashes = crashes; halted = halted; failed = failed })

-- so is a run without one
pub is_failed : (program : ProgramValue) (job : SoakJob) (number : ℕ) (text script_text : List ℕ) (script : List ScriptLine) (old new : Soaked)
    → IsDrawn job text script → new.histogram ≡ old.histogram → new.crashes ≡ old.crashes → new.all_halted ≡ false → script_text ≡ text
    → ((why : List ℕ) × (string_bytes new.failed ≡ string_bytes old.failed ++ failed_text number why script_text)) → IsOneMore program job number old new
is_failed program job number text script_text script old new drawn counted crashes halted same told = IsOneMore.failed text script drawn (record {
  counted = counted;
  crashes = crashes;
  halted = halted;
  why = told.0;
  told = subst (λ (t : List ℕ). string_bytes new.failed ≡ string_bytes old.failed ++ failed_text number told.0 t) same told.1;
})

-- an answer of the program of a text that the file holds
pub is_soak_answer : (holds : List ℕ → Type 0) (job : SoakJob) (text : List ℕ) (program : ProgramValue) (soaked : Soaked) (found : ExploredValue) (out : List ℕ)
    (status : ℕ) → holds text → IsProgramOf text program → AreSoaked program job job.runs soaked → IsSearched program job.ranks soaked.histogram found
    → IsSoakText soaked found job.runs out → HasSoakStatus soaked status → IsSoakAnswer holds job out status
is_soak_answer holds job text program soaked found out status held read made searched printed ended = record {
  program = program;
  read = record { text = text; held = held; read = read };
  soaked = soaked;
  made = made;
  found = found;
  searched = searched;
  printed = printed;
  ended = ended;
}

-- so is the script of a run
pub is_script_answer : (holds : List ℕ → Type 0) (job : SoakScriptJob) (program : ProgramValue) (script : List ScriptLine) (text out : List ℕ)
    (status : ℕ) → IsProgramIn holds program → job.number ≤ job.soak.runs → IsDrawn job.soak text script → out ≡ text → status ≡ 0
    → IsSoakScriptAnswer holds job out status
is_script_answer holds job program script text out status read one_of drawn same done = record {
  program = program;
  read = read;
  one_of = one_of;
  script = script;
  drawn = subst (λ (t : List ℕ). IsDrawn job.soak t script) (sym same) drawn;
  done = done;
}

-- ---- what a search says beside the runs

-- a run without a report is told with some words that say why
pub is_told : (before after : List ℕ) (number : ℕ) (why script : List ℕ) → after ≡ before ++ failed_text number why script
    → (words : List ℕ) × (after ≡ before ++ failed_text number words script)
is_told before after number why script told = (why, told)

-- an outcome that a run had has no line
pub met_line : (bars : List BarValue) (number : ℕ) (outcome : List RankOutcome) (text : List ℕ) → ((at : ℕ) × HasAt bars outcome at)
    → IsUnmetLine bars number outcome text text
met_line bars number outcome text has = IsUnmetLine.met has.0 has.1 refl

-- one that no run had has one
pub unmet_line : (bars : List BarValue) (number : ℕ) (outcome : List RankOutcome) (before after : List ℕ) → AreOthers bars outcome
    → after ≡ before ++ unmet_text number → IsUnmetLine bars number outcome before after
unmet_line bars number outcome before after others told = IsUnmetLine.unmet others told

-- of no outcomes none is named
pub none_unmet : (bars : List BarValue) (outcomes : List (List RankOutcome)) (text : List ℕ) → text ≡ [] → AreUnmet bars outcomes 0 text
none_unmet bars outcomes text empty = subst (AreUnmet bars outcomes 0) (sym empty) AreUnmet.of_none

-- the text on a search that is complete
pub is_complete_text : (found : ExploredValue) (bars : List BarValue) (count : ℕ) (lines text : List ℕ) → found.complete ≡ true
    → AreUnmet bars found.outcomes (length found.outcomes) lines → count ≡ length found.outcomes → text ≡ complete_text count ++ lines
    → IsSearchText found bars text
is_complete_text found bars count lines text is unmet many whole = record {
  complete = λ _. (lines, unmet, subst (λ (n : ℕ). text ≡ complete_text n ++ lines) many whole);
  stopped = λ other. (let e : true ≡ false = sym is ∙ other in absurd cc);
}

-- and on one that isn't
pub is_stopped_text : (found : ExploredValue) (bars : List BarValue) (text : List ℕ) → found.complete ≡ false
    → text ≡ codes "# explore isn't complete: others may be possible\n" → IsSearchText found bars text
is_stopped_text found bars text is whole = record {
  complete = λ other. (let e : false ≡ true = sym is ∙ other in absurd cc);
  stopped = λ _. whole;
}

-- ---- no outcome is foreign to a complete search

-- behind a change of one place
set_seen : (bars : List BarValue) (at : ℕ) (x : BarValue) (k : ℕ) (b : BarValue) → slice_get (slice_set bars at x) k ≡ Some b
    → (b ≡ x) ⊎ (slice_get bars k ≡ Some b)
set_seen [] at x k b there = absurd cc
set_seen (y ∷ bars) zero x zero b there = inl cc
set_seen (y ∷ bars) zero x (suc k) b there = inr there
set_seen (y ∷ bars) (suc at) x zero b there = inr there
set_seen (y ∷ bars) (suc at) x (suc k) b there = set_seen bars at x k b there

-- behind one more
last_seen : (bars : List BarValue) (x : BarValue) (k : ℕ) (b : BarValue) → slice_get (bars ++ x ∷ []) k ≡ Some b → (b ≡ x) ⊎ (slice_get bars k ≡ Some b)
last_seen [] x zero b there = inl cc
last_seen [] x (suc k) b there = absurd cc
last_seen (y ∷ bars) x zero b there = inr there
last_seen (y ∷ bars) x (suc k) b there = last_seen bars x k b there

-- each bar is of an outcome of which this is so
abbrev Each : (List RankOutcome → Type 0) → List BarValue → Type 0
Each is bars = (k : ℕ) (b : BarValue) → slice_get bars k ≡ Some b → is b.outcome

-- a run that is noted keeps it so, if it is of this run's outcome
noted : (is : List RankOutcome → Type 0) (old : List BarValue) (outcome : List RankOutcome) (crashed : Bool) (new : List BarValue)
    → Notes old outcome crashed new → Each is old → is outcome → Each is new
noted is old outcome crashed _ (again at bar there same) each this k b now = pick (set_seen old at (with_one bar crashed) k b now)
  where
    pick : (b ≡ with_one bar crashed) ⊎ (slice_get old k ≡ Some b) → is b.outcome
    pick (inl e) = subst is (sym (ap (λ (x : BarValue). x.outcome) e ∙ same)) this
    pick (inr e) = each k b e
noted is old outcome crashed _ (first others) each this k b now = pick (last_seen old (first_bar outcome crashed) k b now)
  where
    pick : (b ≡ first_bar outcome crashed) ⊎ (slice_get old k ≡ Some b) → is b.outcome
    pick (inl e) = subst is (sym (ap (λ (x : BarValue). x.outcome) e)) this
    pick (inr e) = each k b e

-- what is seen of a final outcome
abbrev IsSeen : ProgramValue → ℕ → List RankOutcome → Type 0
IsSeen program n outcome = (o : OutcomeValue) × IsFinal program n o × (seen_of o ≡ outcome)

-- each bar of the runs of a soak is of one
seen_each : (program : ProgramValue) (job : SoakJob) (runs : ℕ) (soaked : Soaked) → AreSoaked program job runs soaked
    → Each (IsSeen program job.ranks) soaked.histogram
seen_each program job _ soaked (AreSoaked.none is) k b there =
    let e : slice_get [] k ≡ Some b = subst (λ (bars : List BarValue). slice_get bars k ≡ Some b) is.none there in absurd cc
seen_each program job _ soaked (AreSoaked.more {runs} {old} before (IsOneMore.reported text script report drawn under counts)) k b there =
    noted (IsSeen program job.ranks) old.histogram (seen_of report.outcome) (nat_lt 0 report.crashes) soaked.histogram counts.counted
    (seen_each program job runs old before) (report.outcome, under.is_report.final, refl) k b there
seen_each program job _ soaked (AreSoaked.more {runs} {old} before (IsOneMore.failed text script drawn counts)) k b there =
    seen_each program job runs old before k b (subst (λ (bars : List BarValue). slice_get bars k ≡ Some b) counts.counted there)

-- how a rank ended is seen of it
end_seen : (k : ℕ) (lines : List Line) (ends : List End) (r : ℕ) (e : End) → slice_get ends r ≡ Some e
    → (seen : RankOutcome) × (slice_get (seen_from k lines ends) r ≡ Some seen) × (seen.end ≡ e)
end_seen k lines [] r e there = absurd cc
end_seen k lines (x ∷ ends) zero e there = (_, refl, cc)
end_seen k lines (x ∷ ends) (suc r) e there = end_seen (suc k) lines ends r e there

-- so if no rank is seen as unfinished, none is
none_unfinished : (o : OutcomeValue) → IsFinished (seen_of o) → NoneIsUnfinished o.ends
none_unfinished o finished r there =
    let seen = end_seen 0 o.lines o.ends r end.Unfinished there in finished r seen.0 seen.1 seen.2

-- what is seen of a final outcome without an unfinished rank is an outcome of a complete search
among : (program : ProgramValue) (n : ℕ) (outcomes : List (List RankOutcome)) (outcome : List RankOutcome)
    → ((o : OutcomeValue) → IsFinal program n o → IsMasked outcomes n o) → IsSeen program n outcome → IsFinished outcome → IsAmong outcomes outcome
among program n outcomes outcome masked (o, final, seen) finished =
    subst (IsAmong outcomes) seen ((masked o final).whole (none_unfinished o (subst IsFinished (sym seen) finished)))

-- what a search found beside the runs
pub is_searched : (program : ProgramValue) (job : SoakJob) (soaked : Soaked) (found : ExploredValue)
    → ((p : ProgramValue) (n : ℕ) (outcomes : List (List RankOutcome)) (o : OutcomeValue) → EndsAmong p n outcomes → IsFinal p n o
    → IsMasked outcomes n o)
    → AreSoaked program job job.runs soaked
    → ((outcome : List RankOutcome) → IsAmong found.outcomes outcome → IsPossibleUnder Buffered program job.ranks outcome)
    → (found.complete ≡ true → AreAll Buffered program job.ranks found.outcomes)
    → (found.complete ≡ true → AlwaysEndsIn Buffered (start_of program job.ranks) job.ranks (IsAmong found.outcomes) [])
    → AreDistinct found.outcomes → IsSearched program job.ranks soaked.histogram found
is_searched program job soaked found law made possible complete ends distinct = record {
  possible = possible;
  complete = complete;
  distinct = distinct;
  none_foreign = λ is at bar there finished. among program job.ranks found.outcomes bar.outcome
      (λ o final. law program job.ranks found.outcomes o (ends is) final) (seen_each program job job.runs soaked made at bar there) finished;
}

-- a text to which four parts were added, one after another
pub in_parts : (old a b c d one two three four : List ℕ) → one ≡ old ++ a → two ≡ one ++ b → three ≡ two ++ c → four ≡ three ++ d
    → four ≡ old ++ (a ++ b ++ c ++ d)
in_parts old a b c d one two three four with_a with_b with_c with_d =
    let two_parts : two ≡ old ++ (a ++ b) = with_b ∙ ap (λ l. l ++ b) with_a ∙ append_assoc old a b in
    let three_parts : three ≡ old ++ (a ++ b ++ c) = with_c ∙ ap (λ l. l ++ c) two_parts ∙ append_assoc old (a ++ b) c in
    with_d ∙ ap (λ l. l ++ d) three_parts ∙ append_assoc old (a ++ b ++ c) d
