-- The lines of acts, written one after another.
use Rattle.std.proofs.Common.{◌≡◌, ℕ, ◌+◌, ◌<◌, ◌≤◌, List, [], ◌++◌, refl, sym, ap, ◌∙◌, arith, Option, Some, length, reverse, take, slice_get}
use Rattle.std.specs.Prelude.{get_or}
use Rattle.std.proofs.lemmas.List.{append_assoc, take_all}
use Rattle.std.proofs.lemmas.Option.{slice_get_within, slice_get-get_or}
use Rattle.rank_language.specs.Program.{ProgramValue}
use Rattle.rank_language.specs.StandOn.{IsLinedOf}
use Rattle.rank_machine.specs.Acts.{Message}
use Rattle.crash_free.specs.Runs.{Passed}
use Rattle.crash_free.proofs.Lists.{one_more}
use Rattle.crash_free.specs.SendIndex.Sends.{run_before}
use Rattle.run_shown.specs.Trace.Deliveries.{as_told, delivered}
use Rattle.run_shown.specs.Trace.Columns.{head_text}
use Rattle.run_shown.specs.Trace.Lines.{BeginsWithActs, acts_text, clock_width, line_text, lines_text, order_text}
use Rattle.run_shown.specs.Trace.Places.{AreFound}
use Rattle.run_shown.specs.declared.trace.place.Place.{Place}

-- the lines of the acts before the one of an index
abbrev pub lines_before : ℕ → List ℕ → List Passed → List Place → ℕ → List ℕ
lines_before width lines acts places i = lines_text width lines (reverse (take i acts)) (reverse (take i places))

-- the lines with that of one act more
lines_more : (width : ℕ) (lines : List ℕ) (acts : List Passed) (places : List Place) (i : ℕ) (p : Passed) (place : Place) → slice_get acts i ≡ Some p
    → slice_get places i ≡ Some place
    → lines_before width lines acts places (i + 1)
    ≡ lines_before width lines acts places i ++ line_text width lines p place (as_told (delivered (run_before acts i) p))
lines_more width lines acts places i p place here there = rw (one_more acts i p here, one_more places i place there) refl

-- a text goes on by the line of an act
pub goes_on : (width : ℕ) (lines : List ℕ) (acts : List Passed) (places : List Place) (i : ℕ) (p : Passed) (d : Place) (message : Option Message)
    (start text now : List ℕ) → slice_get acts i ≡ Some p → length places ≡ length acts
    → message ≡ as_told (delivered (run_before acts i) p)
    → text ≡ start ++ lines_before width lines acts places i → now ≡ text ++ line_text width lines p (get_or places i d) message
    → now ≡ start ++ lines_before width lines acts places (i + 1)
goes_on width lines acts places i p d message start text now here as_many is so_far more =
    let low : i < length places = omega (arith, slice_get_within acts i p here, as_many) in
    more
    ∙ ap (λ z. z ++ line_text width lines p (get_or places i d) message) so_far
    ∙ append_assoc start (lines_before width lines acts places i) (line_text width lines p (get_or places i d) message)
    ∙ ap (λ z. start ++ (lines_before width lines acts places i ++ line_text width lines p (get_or places i d) z)) is
    ∙ ap (λ z. start ++ z) (sym (lines_more width lines acts places i p (get_or places i d) here (slice_get-get_or places i d low)))

-- all lines are those of the whole run
all_lines : (width : ℕ) (lines : List ℕ) (acts : List Passed) (places : List Place) (i : ℕ) → length acts ≤ i → length places ≡ length acts
    → lines_before width lines acts places i ≡ lines_text width lines (reverse acts) (reverse places)
all_lines width lines acts places i past as_many =
    ap (λ z. lines_text width lines (reverse z) (reverse (take i places))) (take_all i acts past)
    ∙ ap (λ z. lines_text width lines (reverse acts) (reverse z)) (take_all i places (omega (arith, past, as_many)))

-- what is said of the order, the head and all lines are the whole
pub whole : (width : ℕ) (lines : List ℕ) (acts : List Passed) (places : List Place) (i : ℕ) (start said head now : List ℕ) → length acts ≤ i
    → length places ≡ length acts → width ≡ clock_width places → said ≡ start ++ order_text → head ≡ said ++ head_text width
    → now ≡ head ++ lines_before width lines acts places i → now ≡ start ++ acts_text lines acts places
whole width lines acts places i start said head now past as_many wide first second third =
    third
    ∙ ap (λ z. z ++ lines_before width lines acts places i) (second ∙ ap (λ z. z ++ head_text width) first)
    ∙ append_assoc (start ++ order_text) (head_text width) (lines_before width lines acts places i)
    ∙ append_assoc start order_text (head_text width ++ lines_before width lines acts places i)
    ∙ ap (λ z. start ++ (order_text ++ (head_text width ++ z))) (all_lines width lines acts places i past as_many)
    ∙ ap (λ w. start ++ (order_text ++ (head_text w ++ lines_text w lines (reverse acts) (reverse places)))) wide

-- a text that has the acts first, at places that were found, begins with them whatever follows
pub begins : (source : List ℕ) (program : ProgramValue) (ranks : ℕ) (lines : List ℕ) (acts : List Passed) (places : List Place)
    (empty start rest text : List ℕ) → IsLinedOf source program lines → AreFound program ranks acts places → empty ≡ []
    → start ≡ empty ++ acts_text lines acts places → text ≡ start ++ rest → BeginsWithActs source program ranks acts text
begins source program ranks lines acts places empty start rest text lined found none first second = record {
  lines = lines;
  lined = lined;
  places = places;
  found = found;
  rest = rest;
  written = second ∙ ap (λ z. z ++ rest) (first ∙ ap (λ z. z ++ acts_text lines acts places) none);
}
