-- How one outcome after another is written.
use Rattle.std.proofs.Common.{◌≡◌, ℕ, ◌+◌, Bool, true, List, [], ◌++◌, Option, Some, codes, length, slice_get, slice_index_or, refl, ap, subst, sym, ◌∙◌}
use Rattle.std.proofs.lemmas.List.{append-nil, length-map}
use Rattle.explore.specs.declared.moves.Noted.{Noted}
use Rattle.explore.specs.Explored.{ExploredValue, FoundOutcomeValue, rank_outcomes}
use Rattle.explore.specs.Shown.{AreMarked}
use Rattle.explore.proofs.SeenOf.{seen_at}
use Rattle.audit.specs.FinalRuns.Maximal.{RankOutcome}
use Rattle.rank_language.specs.Program.{ProgramValue}
use Rattle.runner.specs.LeftText.{shorts_text}
use Rattle.runner.specs.Meanings.{meaning_text}
use Rattle.runner.specs.Modes.{mode_of}
use Rattle.runner.specs.OutcomesText.{AreWritten, GoesOnAt, IsExploredText, IsMarkedObject, IsMarkedSummary, IsMarkedText, IsSafe, IsSafeText, IsSummary, one_text}
use Rattle.runner.specs.Partings.{ArePartings}
use Rattle.runner.specs.Safety.{safety_behind}
use Rattle.runner.specs.SearchObject.{IsSearchObject}
use Rattle.runner.specs.SentLines.{AreLined}
use Rattle.runner.specs.declared.explored.lined.LinedLeftover.{LinedLeftover}
use Rattle.runner.specs.declared.explored.parting.Parted.{Parted}
use Rattle.runner.specs.declared.explored.safety.Safety.{Safety}
use Rattle.run_events.specs.Halting.{AllHalt}
use Rattle.explore.specs.declared.send_mode.SendMode.{SendMode}

-- in an empty text none is written
pub none_written : (outcomes : List (List RankOutcome)) (choices : List (List Noted)) (left : List (List (List LinedLeftover))) (lines text : List ℕ)
    → text ≡ [] → AreWritten outcomes choices left lines 0 text
none_written outcomes choices left lines text empty = subst (AreWritten outcomes choices left lines 0) (sym empty) AreWritten.none

-- behind the first ones the next is written
pub one_more : (outcomes : List (List RankOutcome)) (choices : List (List Noted)) (left : List (List (List LinedLeftover))) (lines : List ℕ) (count : ℕ)
    (before after : List ℕ) (outcome : List RankOutcome) (parted : List Parted)
    → AreWritten outcomes choices left lines count before → slice_get outcomes count ≡ Some outcome → ArePartings choices count parted
    → after ≡ before ++ one_text (count + 1) outcome lines parted (slice_index_or left count [])
    → AreWritten outcomes choices left lines (count + 1) after
one_more outcomes choices left lines count before after outcome parted written there partings appended =
    subst (AreWritten outcomes choices left lines (count + 1)) (sym appended) (AreWritten.more outcome parted written there partings)

-- the line that says that the program is safe
pub safe_text : (synchronous : Bool) (found : ExploredValue) (before after : List ℕ) → synchronous ≡ true → found.complete ≡ true → AllHalt found.outcomes
    → after ≡ before ++ codes "# safe: no send needs a buffer\n"
    → (safe : List ℕ) × IsSafeText synchronous found safe × (after ≡ before ++ safe)
safe_text synchronous found before after asked complete halts appended =
    (codes "# safe: no send needs a buffer\n", IsSafeText.safe (record { asked = asked; complete = complete; halts = halts }) refl, appended)

-- no line where it isn't
pub not_safe_text : (synchronous : Bool) (found : ExploredValue) (before after : List ℕ) → (IsSafe synchronous found → ⊥) → after ≡ before
    → (safe : List ℕ) × IsSafeText synchronous found safe × (after ≡ before ++ safe)
not_safe_text synchronous found before after not same = ([], IsSafeText.not_safe not refl, same ∙ sym (append-nil before))

-- each outcome, whether the program is safe, and what the outcomes mean
pub is_explored_text : (synchronous : Bool) (found : ExploredValue) (left : List (List (List LinedLeftover))) (marks : List (Option Bool))
    (cycle : List ℕ) (runs : ℕ) (lines outcomes between text : List ℕ) → AreWritten found.outcomes found.choices left lines (length found.outcomes) outcomes
    → (safe : List ℕ) × IsSafeText synchronous found safe × (between ≡ outcomes ++ safe) → text ≡ between ++ meaning_text synchronous found left marks cycle runs
    → IsExploredText synchronous found left marks cycle runs lines text
is_explored_text synchronous found left marks cycle runs lines outcomes between text each safe whole = record {
  outcomes = outcomes;
  each = each;
  safe = safe.0;
  is_safe = safe.1;
  whole = whole ∙ ap (λ z. z ++ meaning_text synchronous found left marks cycle runs) safe.2;
}

-- behind some lines whether the program is safe, and what the outcomes mean
pub is_summary : (synchronous : Bool) (found : ExploredValue) (left : List (List (List LinedLeftover))) (marks : List (Option Bool))
    (cycle : List ℕ) (runs : ℕ) (races shorts between text : List ℕ) → shorts ≡ races ++ shorts_text 1 left → (safe : List ℕ) × IsSafeText synchronous found safe × (between ≡ shorts ++ safe)
    → text ≡ between ++ meaning_text synchronous found left marks cycle runs → IsSummary synchronous found left marks cycle runs text
is_summary synchronous found left marks cycle runs races shorts between text listed safe whole = record {
  races = races;
  safe = safe.0;
  is_safe = safe.1;
  whole = whole ∙ ap (λ z. z ++ meaning_text synchronous found left marks cycle runs) (safe.2 ∙ ap (λ z. z ++ safe.0) listed);
}

-- the outcomes, with their own marks, and behind them whether the program is safe
pub is_marked : (synchronous : Bool) (mode : SendMode) (lines : List ℕ) (program : ProgramValue) (ranks : ℕ) (found : ExploredValue) (told : Safety)
    (left : List (List (List LinedLeftover))) (marks : List (Option Bool)) (cycle : List ℕ) (runs : ℕ) (before text : List ℕ)
    → mode ≡ mode_of synchronous → AreLined mode program ranks lines found.outcomes found.left left → AreMarked mode program ranks found.outcomes found.choices marks
    → GoesOnAt mode program ranks cycle → IsExploredText synchronous found left marks cycle runs lines before → text ≡ before ++ safety_behind synchronous told
    → IsMarkedText synchronous lines program ranks found told runs text
is_marked synchronous mode lines program ranks found told left marks cycle runs before text by_mode lined marked goes_on printed whole = record {
  marks = marks;
  marked = subst (λ m. AreMarked m program ranks found.outcomes found.choices marks) by_mode marked;
  cycle = cycle;
  goes_on = subst (λ m. GoesOnAt m program ranks cycle) by_mode goes_on;
  before = before;
  left = left;
  lined = subst (λ m. AreLined m program ranks lines found.outcomes found.left left) by_mode lined;
  printed = printed;
  whole = whole;
}

-- so they are as an object
pub is_marked_object : (synchronous : Bool) (mode : SendMode) (lines : List ℕ) (program : ProgramValue) (ranks : ℕ) (found : ExploredValue) (told : Safety)
    (left : List (List (List LinedLeftover))) (marks : List (Option Bool)) (text : List ℕ)
    → mode ≡ mode_of synchronous → AreLined mode program ranks lines found.outcomes found.left left → AreMarked mode program ranks found.outcomes found.choices marks
    → IsSearchObject found left marks lines told text → IsMarkedObject synchronous lines program ranks found told text
is_marked_object synchronous mode lines program ranks found told left marks text by_mode lined marked written = record {
  marks = marks;
  marked = subst (λ m. AreMarked m program ranks found.outcomes found.choices marks) by_mode marked;
  left = left;
  lined = subst (λ m. AreLined m program ranks lines found.outcomes found.left left) by_mode lined;
  written = written;
}

-- in short too
pub is_marked_summary : (synchronous : Bool) (mode : SendMode) (lines : List ℕ) (program : ProgramValue) (ranks : ℕ) (found : ExploredValue) (told : Safety)
    (left : List (List (List LinedLeftover))) (marks : List (Option Bool)) (cycle : List ℕ) (runs : ℕ) (before text : List ℕ)
    → mode ≡ mode_of synchronous → AreLined mode program ranks lines found.outcomes found.left left → AreMarked mode program ranks found.outcomes found.choices marks
    → GoesOnAt mode program ranks cycle → IsSummary synchronous found left marks cycle runs before → text ≡ before ++ safety_behind synchronous told
    → IsMarkedSummary synchronous lines program ranks found told runs text
is_marked_summary synchronous mode lines program ranks found told left marks cycle runs before text by_mode lined marked goes_on printed whole = record {
  marks = marks;
  marked = subst (λ m. AreMarked m program ranks found.outcomes found.choices marks) by_mode marked;
  cycle = cycle;
  goes_on = subst (λ m. GoesOnAt m program ranks cycle) by_mode goes_on;
  before = before;
  left = left;
  lined = subst (λ m. AreLined m program ranks lines found.outcomes found.left left) by_mode lined;
  printed = printed;
  whole = whole;
}

-- as many outcomes as are seen were found
pub as_many : (xs : List FoundOutcomeValue) → length (rank_outcomes xs) ≡ length xs
as_many xs = length-map xs (λ (x : FoundOutcomeValue). x.ranks)

-- the outcome of this number is seen at the index before it
pub numbered : (xs : List FoundOutcomeValue) (number index : ℕ) (x : FoundOutcomeValue) → number ≡ index + 1 → slice_get xs index ≡ Some x
    → (i : ℕ) × (number ≡ i + 1) × (slice_get (rank_outcomes xs) i ≡ Some x.ranks)
numbered xs number index x same there = (index, same, seen_at xs index x there)
