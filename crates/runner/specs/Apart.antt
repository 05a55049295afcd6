-- At which lines a rank of a telling program first prints another value in one run than in another: there
-- its sends, or its receptions, aren't the same (Cappello, Guermouche and Snir, 2010).
use Rattle.std.specs.Prelude.{◌≡◌, ◌≢◌, ◌<◌, ◌==◌, ◌&&◌, ◌+◌, ℕ, ℤ, Bool, true, false, if◌then◌else◌, List, [], ◌∷◌, Option, Some, None, reverse, slice_get}
use Rattle.audit.specs.FinalRuns.Maximal.{RankOutcome}
use Rattle.explore.specs.Sending.{IsOutcomeUnder}
use Rattle.explore.specs.declared.send_mode.SendMode.TheVariants.{Buffered}
use Rattle.crash_free.specs.Runs.{Passed}
use Rattle.crash_free.specs.Sim.{start_of}
use Rattle.rank_language.specs.Program.{ProgramValue}
use Rattle.rank_machine.specs.Acts.{Act, sends, takes, hits, misses, prints}
use Rattle.run_shown.specs.Trace.Places.{AreFound}
use Rattle.run_shown.specs.declared.trace.place.Place.{Place}
use Rattle.runner.specs.SentLines.{line_of, position_at}
use Rattle.runner.specs.declared.commands.apart.Apart.{Apart}

-- what was printed, if someone stands there
abbrev pub values_in : Option RankOutcome → List ℤ
values_in None = []
values_in (Some seen) = seen.lines

-- the values that this rank printed
abbrev pub values_of : List RankOutcome → ℕ → List ℤ
values_of outcome rank = values_in (slice_get outcome rank)

-- the act is a print
abbrev pub is_print : Act → Bool
is_print (sends dest context tag items) = false
is_print (takes source place) = false
is_print (hits source place) = false
is_print misses = false
is_print (prints value) = true

-- it is one of this rank
abbrev pub is_print_of : Passed → ℕ → Bool
is_print_of p rank = p.rank == rank && is_print p.act

-- the positions of the rank's prints among these acts, of which the first has this number and each was
-- made at its place; None for one whose place isn't there
abbrev pub prints_from : ℕ → List Place → ℕ → List Passed → List (Option ℕ)
prints_from rank places number [] = []
prints_from rank places number (p ∷ acts) =
    if is_print_of p rank then position_at places number ∷ prints_from rank places (number + 1) acts else prints_from rank places (number + 1) acts

-- the position, if there is one
abbrev pub if_there : Option (Option ℕ) → Option ℕ
if_there None = None
if_there (Some position) = position

-- that of the rank's print of this number
abbrev pub print_at : ℕ → List Place → List Passed → ℕ → Option ℕ
print_at rank places acts number = if_there (slice_get (prints_from rank places 0 acts) number)

-- The line at which the rank makes its print of this number in some run that has the outcome; or none is
-- told.
pub data IsLineOfPrint (program : ProgramValue) (lines : List ℕ) (n : ℕ) (outcome : List RankOutcome) (rank number : ℕ) : Option ℕ → Type 0 where
  unknown : IsLineOfPrint program lines n outcome rank number None
  known : {line : Option ℕ} (run : List Passed) (places : List Place) → IsOutcomeUnder Buffered (start_of program n) n run outcome
      → AreFound program n (reverse run) places → line ≡ line_of lines (print_at rank places (reverse run) number)
      → IsLineOfPrint program lines n outcome rank number line

-- The rank's values before this one are the same in both outcomes, and this one isn't, or one of them has
-- none. These are the lines at which it is printed.
pub record AreLinesApart (program : ProgramValue) (lines : List ℕ) (n : ℕ) (one other : List RankOutcome) (apart : Apart) : Type 0 where
  pub number : ℕ
  pub same : (i : ℕ) → i < number → slice_get (values_of one apart.rank) i ≡ slice_get (values_of other apart.rank) i
  pub differ : (x y : ℤ) → slice_get (values_of one apart.rank) number ≡ Some x → slice_get (values_of other apart.rank) number ≡ Some y → x ≢ y
  pub one_line : IsLineOfPrint program lines n one apart.rank number apart.one
  pub other_line : IsLineOfPrint program lines n other apart.rank number apart.other
