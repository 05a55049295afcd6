-- How the lines are found at which a rank parts.
use Rattle.std.proofs.Common.{◌≡◌, ◌≢◌, ◌<◌, ◌-◌, ℕ, zero, suc, ℤ, List, [], ◌∷◌, Option, Some, None, ap, arith, refl, reverse, slice_get, subst, sym, ◌∙◌}
use Rattle.audit.specs.FinalRuns.Maximal.{RankOutcome}
use Rattle.explore.specs.Sending.{IsOutcomeUnder}
use Rattle.explore.specs.declared.send_mode.SendMode.TheVariants.{Buffered}
use Rattle.crash_free.specs.Runs.{Passed}
use Rattle.crash_free.specs.Sim.{start_of}
use Rattle.rank_language.specs.Program.{ProgramValue}
use Rattle.run_shown.specs.Trace.Places.{AreFound}
use Rattle.run_shown.specs.declared.trace.place.Place.{Place}
use Rattle.runner.specs.Apart.{AreLinesApart, IsLineOfPrint, print_at, values_in, values_of}
use Rattle.runner.specs.SentLines.{line_of}

-- a rank's values stand where it stands
values_there : (outcome : List RankOutcome) (rank : ℕ) (x : RankOutcome) → slice_get outcome rank ≡ Some x → values_of outcome rank ≡ x.lines
values_there outcome rank x there = ap values_in there

-- ranks that printed the same values before this one
pub same_values : (one other : List RankOutcome) (rank number : ℕ) (x y : RankOutcome) → slice_get one rank ≡ Some x → slice_get other rank ≡ Some y
    → ((i : ℕ) → i < number → slice_get x.lines i ≡ slice_get y.lines i)
    → (i : ℕ) → i < number → slice_get (values_of one rank) i ≡ slice_get (values_of other rank) i
same_values one other rank number x y here there same i low =
    ap (λ (l : List ℤ). slice_get l i) (values_there one rank x here) ∙ same i low ∙ sym (ap (λ (l : List ℤ). slice_get l i) (values_there other rank y there))

-- and another one here
pub apart_values : (one other : List RankOutcome) (rank number : ℕ) (x y : RankOutcome) → slice_get one rank ≡ Some x → slice_get other rank ≡ Some y
    → ((v w : ℤ) → slice_get x.lines number ≡ Some v → slice_get y.lines number ≡ Some w → v ≢ w)
    → (v w : ℤ) → slice_get (values_of one rank) number ≡ Some v → slice_get (values_of other rank) number ≡ Some w → v ≢ w
apart_values one other rank number x y here there apart v w is_one is_other =
    apart v w (sym (ap (λ (l : List ℤ). slice_get l number) (values_there one rank x here)) ∙ is_one)
    (sym (ap (λ (l : List ℤ). slice_get l number) (values_there other rank y there)) ∙ is_other)

-- a rank that isn't there has no first value
pub no_value : (outcome : List RankOutcome) (rank : ℕ) (v : ℤ) → slice_get outcome rank ≡ None → slice_get (values_of outcome rank) 0 ≡ Some v → ⊥
no_value outcome rank v none is =
    let e : None ≡ Some v = sym (ap (λ (o : Option RankOutcome). slice_get (values_in o) 0) none) ∙ is in
    absurd cc

-- what stands behind the first has a place less among the rest
pub behind_first : (x : Option ℕ) (xs : List (Option ℕ)) (left : ℕ) → (left ≡ 0 → ⊥) → slice_get xs (left - 1) ≡ slice_get (x ∷ xs) left
behind_first x xs zero some = absurd (some refl)
behind_first x xs (suc left) some = (let e : suc left - 1 ≡ left = omega arith in ap (slice_get xs) e)

-- no run is made again
pub unknown_line : (program : ProgramValue) (lines : List ℕ) (n : ℕ) (outcome : List RankOutcome) (rank number : ℕ)
    → IsLineOfPrint program lines n outcome rank number None
unknown_line program lines n outcome rank number = IsLineOfPrint.unknown

-- one is
pub known_line : (program : ProgramValue) (lines : List ℕ) (n : ℕ) (outcome : List RankOutcome) (rank number : ℕ) (run : List Passed) (line : Option ℕ)
    → IsOutcomeUnder Buffered (start_of program n) n run outcome
    → (places : List Place) × AreFound program n (reverse run) places × (line ≡ line_of lines (print_at rank places (reverse run) number))
    → IsLineOfPrint program lines n outcome rank number line
known_line program lines n outcome rank number run line is there = IsLineOfPrint.known run there.0 is there.1 there.2

-- the acts of a run, the oldest first, have their places
pub line_there : (program : ProgramValue) (lines : List ℕ) (n rank number : ℕ) (run acts : List Passed) (places : List Place) (position line : Option ℕ)
    → acts ≡ reverse run → AreFound program n acts places → position ≡ print_at rank places acts number → line ≡ line_of lines position
    → (places : List Place) × AreFound program n (reverse run) places × (line ≡ line_of lines (print_at rank places (reverse run) number))
line_there program lines n rank number run acts places position line these found at told = (
  places,
  subst (λ a. AreFound program n a places) these found,
  told ∙ ap (line_of lines) at ∙ ap (λ a. line_of lines (print_at rank places a number)) these,
)

-- both lines
pub are_lines_apart : (program : ProgramValue) (lines : List ℕ) (n rank number : ℕ) (one other : List RankOutcome) (first second : Option ℕ)
    → ((i : ℕ) → i < number → slice_get (values_of one rank) i ≡ slice_get (values_of other rank) i)
    → ((x y : ℤ) → slice_get (values_of one rank) number ≡ Some x → slice_get (values_of other rank) number ≡ Some y → x ≢ y)
    → IsLineOfPrint program lines n one rank number first → IsLineOfPrint program lines n other rank number second
    → AreLinesApart program lines n one other (record { rank = rank; one = first; other = second })
are_lines_apart program lines n rank number one other first second same differ here there =
    record { number = number; same = same; differ = differ; one_line = here; other_line = there }
