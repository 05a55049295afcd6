-- How the lines of sends are found.
use Rattle.std.proofs.Common.{◌≡◌, ◌∙◌, ℕ, ◌+◌, List, [], ◌∷◌, ◌++◌, Some, ap, reverse, slice_get, subst, sym}
use Rattle.audit.specs.FinalRuns.Maximal.{RankOutcome}
use Rattle.crash_free.specs.Leftovers.{join_below, left_in}
use Rattle.crash_free.specs.Runs.{Passed}
use Rattle.crash_free.specs.Sim.{start_of}
use Rattle.crash_free.specs.declared.leftover.Leftover.{Leftover}
use Rattle.explore.specs.Endings.{IsEndingOf}
use Rattle.rank_language.specs.Program.{ProgramValue}
use Rattle.run_shown.specs.Trace.Places.{AreFound}
use Rattle.run_shown.specs.declared.trace.place.Place.{Place}
use Rattle.runner.specs.SentLines.{AreLinedUpTo, AreListed, AreListedUpTo, AreSentAt, HaveLines, sent_at, sent_to, unlined, with_lines}
use Rattle.runner.specs.declared.explored.lined.LinedLeftover.{LinedLeftover}
use Rattle.explore.specs.declared.send_mode.SendMode.{SendMode}

-- nothing was left
pub none_sent : (program : ProgramValue) (n machines : ℕ) (lines : List ℕ) (run : List Passed) (left : List Leftover) (lined : List LinedLeftover)
    → machines ≡ n → left ≡ left_in machines run → left ≡ [] → lined ≡ unlined left → AreSentAt program n lines run lined
none_sent program n machines lines run left lined size is empty told =
    AreSentAt.none (ap (λ m. left_in m run) (sym size) ∙ sym is ∙ empty) (told ∙ ap unlined empty)

-- the acts have their places, and of these messages the positions of the sends were found
some_sent : (program : ProgramValue) (n machines : ℕ) (lines : List ℕ) (run : List Passed) (left : List Leftover) (places : List Place)
    (positions : List ℕ) (lined : List LinedLeftover) → machines ≡ n → left ≡ left_in machines run → AreFound program n (reverse run) places
    → positions ≡ sent_at n (reverse run) places left → lined ≡ with_lines lines positions left → AreSentAt program n lines run lined
some_sent program n machines lines run left places positions lined size is found sent told =
    let these : left ≡ left_in n run = is ∙ ap (λ m. left_in m run) size in
    AreSentAt.some places found (told ∙ ap (λ ps. with_lines lines ps left) sent
    ∙ ap (λ (xs : List Leftover). with_lines lines (sent_at n (reverse run) places xs) xs) these)

-- so they were, rank by rank up to the last one
pub all_sent : (program : ProgramValue) (n machines rank : ℕ) (lines : List ℕ) (run acts : List Passed) (left messages : List Leftover) (places : List Place)
    (positions found : List ℕ) (lined : List LinedLeftover) → machines ≡ n → left ≡ left_in machines run → acts ≡ reverse run
    → AreFound program n acts places → positions ≡ join_below (sent_to n (reverse run) places left) rank → rank ≡ n → messages ≡ left
    → found ≡ positions → lined ≡ with_lines lines found messages → AreSentAt program n lines run lined
all_sent program n machines rank lines run acts left messages places positions found lined size is made there sent all these those told =
    some_sent program n machines lines run left places positions lined size is (subst (λ a. AreFound program n a places) made there)
    (sent ∙ ap (join_below (sent_to n (reverse run) places left)) all) (told ∙ ap (λ m. with_lines lines found m) these ∙ ap (λ ps. with_lines lines ps left) those)

-- no run is made again
pub unknown_lines : (mode : SendMode) (program : ProgramValue) (n : ℕ) (lines : List ℕ) (outcome : List RankOutcome) (left : List Leftover) (lined : List LinedLeftover)
    → lined ≡ unlined left → HaveLines mode program n lines outcome left lined
unknown_lines mode program n lines outcome left lined is = HaveLines.unknown is

-- one is
pub known_lines : (mode : SendMode) (program : ProgramValue) (n : ℕ) (lines : List ℕ) (outcome : List RankOutcome) (left : List Leftover) (run : List Passed)
    (lined : List LinedLeftover) → IsEndingOf mode (start_of program n) n run (record { ranks = outcome; left = left })
    → AreSentAt program n lines run lined → HaveLines mode program n lines outcome left lined
known_lines mode program n lines outcome left run lined ends sent = HaveLines.known run ends sent

-- of no list
pub none_listed : (mode : SendMode) (program : ProgramValue) (n : ℕ) (lines : List ℕ) (outcome : List RankOutcome) (listed : List (List Leftover))
    (lined : List (List LinedLeftover)) → lined ≡ [] → AreListedUpTo mode program n lines outcome listed 0 lined
none_listed mode program n lines outcome listed lined empty = subst (AreListedUpTo mode program n lines outcome listed 0) (sym empty) AreListedUpTo.none

-- of one list more
pub one_more_listed : (mode : SendMode) (program : ProgramValue) (n : ℕ) (lines : List ℕ) (outcome : List RankOutcome) (listed : List (List Leftover)) (count : ℕ)
    (before after : List (List LinedLeftover)) (left : List Leftover) (told : List LinedLeftover)
    → AreListedUpTo mode program n lines outcome listed count before → slice_get listed count ≡ Some left
    → HaveLines mode program n lines outcome left told → after ≡ before ++ told ∷ [] → AreListedUpTo mode program n lines outcome listed (count + 1) after
one_more_listed mode program n lines outcome listed count before after left told so_far there have added =
    subst (AreListedUpTo mode program n lines outcome listed (count + 1)) (sym added) (AreListedUpTo.more left told so_far there have)

-- of no outcome
pub none_lined : (mode : SendMode) (program : ProgramValue) (n : ℕ) (lines : List ℕ) (outcomes : List (List RankOutcome)) (left : List (List (List Leftover)))
    (lined : List (List (List LinedLeftover))) → lined ≡ [] → AreLinedUpTo mode program n lines outcomes left 0 lined
none_lined mode program n lines outcomes left lined empty = subst (AreLinedUpTo mode program n lines outcomes left 0) (sym empty) AreLinedUpTo.none

-- of one outcome more
pub one_more_lined : (mode : SendMode) (program : ProgramValue) (n : ℕ) (lines : List ℕ) (outcomes : List (List RankOutcome)) (left : List (List (List Leftover)))
    (count : ℕ) (before after : List (List (List LinedLeftover))) (outcome : List RankOutcome) (listed : List (List Leftover))
    (told : List (List LinedLeftover)) → AreLinedUpTo mode program n lines outcomes left count before → slice_get outcomes count ≡ Some outcome
    → slice_get left count ≡ Some listed → AreListed mode program n lines outcome listed told → after ≡ before ++ told ∷ []
    → AreLinedUpTo mode program n lines outcomes left (count + 1) after
one_more_lined mode program n lines outcomes left count before after outcome listed told so_far there listed_there have added =
    subst (AreLinedUpTo mode program n lines outcomes left (count + 1)) (sym added) (AreLinedUpTo.more outcome listed told so_far there listed_there have)
