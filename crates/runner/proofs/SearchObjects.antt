-- No number in what a search found is a float, so its text is that of its parts.
use Rattle.std.proofs.Common.{◌≡◌, ℕ, ◌+◌, ℤ, pos, negsuc, Bool, true, false, ◌||◌, List, [], ◌∷◌, ◌++◌, Option, Some, None, map, codes, refl, ap, ◌∙◌}
use Rattle.std.specs.Prelude.{if◌then◌else◌}
use Rattle.std.proofs.Common.{slice_get, slice_index_or, Ordering, Less, Equal, Greater, nat_cmp}
use Rattle.std.proofs.lemmas.Bool.{or_from, or_parts}
use Rattle.std.specs.Cmp.Lexicographic.{slice_cmp}
use Rattle.std.specs.Ordering.{match_ordering}
use Rattle.audit.specs.declared.outcome.End.{End}
use Rattle.audit.specs.declared.outcome.End.TheVariants as end
use Rattle.crash_free.specs.declared.choice.Choice.{Choice}
use Rattle.crash_free.specs.declared.choice.Choice.TheVariants as choice
use Rattle.crash_free.specs.declared.leftover.MessageMark.{MessageMark}
use Rattle.crash_free.specs.declared.leftover.MessageMark.TheVariants as known
use Rattle.explore.specs.declared.moves.Noted.{Noted}
use Rattle.explore.specs.Explored.{ExploredValue}
use Rattle.audit.specs.FinalRuns.Maximal.{RankOutcome}
use Rattle.serde_json.specs.Data.{Data, Items, Members, put}
use Rattle.serde_json.specs.Data as json
use Rattle.serde_json.specs.View.{items_of, items_view, view}
use Rattle.serde_json.specs.declared.value.Value.{Value}
use Rattle.serde_json.specs.Written.{compact_text, has_float, items_have_float, members_have_float}
use Rattle.runner.specs.SearchObject.{IsSearchObject, array_of, choice_members, choice_object, closed_members, count, count_members, end_members, mark_at}
use Rattle.runner.specs.SearchObject.{mark_value, object_of, outcome_object, outcome_objects, place_members, rank_object, rank_objects}
use Rattle.runner.specs.SearchObject.{behind_first, first_of, found_members, is_safe_if_known, known_members, left_array, left_members, left_object}
use Rattle.runner.specs.SearchObject.{safety_members, says_none, search_object, value, wait_object, waits_objects, with_members}
use Rattle.runner.specs.declared.explored.lined.LinedLeftover.{LinedLeftover}
use Rattle.runner.specs.declared.explored.safety.Safety.{Safety}
use Rattle.runner.specs.declared.explored.safety.Safety.TheVariants as safety
use Rattle.runner.specs.declared.explored.safety.WaitingRank.{WaitingRank}

-- of three lists of members without a float the order picks one
no_float-put_at : (o : Ordering) (a b c : Members) → members_have_float a ≡ false → members_have_float b ≡ false → members_have_float c ≡ false
    → members_have_float (match_ordering o a b c) ≡ false
no_float-put_at Less a b c x y z = x
no_float-put_at Equal a b c x y z = y
no_float-put_at Greater a b c x y z = z

-- members to which one without a float is put have none either
no_float-put : (k : List ℕ) (d : Data) (members : Members) → has_float d ≡ false → members_have_float members ≡ false
    → members_have_float (put k d members) ≡ false
no_float-put k d json.no_members clean rest = or_from (has_float d) false clean refl
no_float-put k d (json.member l e members) clean rest =
    let held = or_parts (has_float e) (members_have_float members) rest in
    no_float-put_at (slice_cmp nat_cmp k l) (json.member k d (json.member l e members)) (json.member l d members) (json.member l e (put k d members))
    (or_from (has_float d) (has_float e || members_have_float members) clean rest)
    (or_from (has_float d) (members_have_float members) clean held.1)
    (or_from (has_float e) (members_have_float (put k d members)) held.0 (no_float-put k d members clean held.1))

-- none of these members has a float
abbrev pub HaveNoFloat : List (List ℕ × Data) → Type 0
HaveNoFloat [] = Unit {0}
HaveNoFloat (first ∷ others) = (has_float first.1 ≡ false) × HaveNoFloat others

-- put one after another they leave none
no_float-with_members : (more : List (List ℕ × Data)) (held : Members) → HaveNoFloat more → members_have_float held ≡ false
    → members_have_float (with_members more held) ≡ false
no_float-with_members [] held clean rest = rest
no_float-with_members (first ∷ others) held clean rest =
    no_float-with_members others (put first.0 first.1 held) clean.1 (no_float-put first.0 first.1 held clean.0 rest)

-- so an object of them has none
no_float-object_of : (members : List (List ℕ × Data)) → HaveNoFloat members → has_float (object_of members) ≡ false
no_float-object_of members clean = no_float-with_members members json.no_members clean refl

-- two lists of members one after the other
both_clean : (xs ys : List (List ℕ × Data)) → HaveNoFloat xs → HaveNoFloat ys → HaveNoFloat (xs ++ ys)
both_clean [] ys x y = y
both_clean (first ∷ others) ys x y = (x.0, both_clean others ys x.1 y)

-- a value that a rank printed is no float
no_float-value : (z : ℤ) → has_float (value z) ≡ false
no_float-value (pos n) = refl
no_float-value (negsuc n) = refl

-- nor is one of the values of its lines
no_float-values : (zs : List ℤ) → items_have_float (items_of (map value zs)) ≡ false
no_float-values [] = refl
no_float-values (z ∷ zs) = or_from (has_float (value z)) (items_have_float (items_of (map value zs))) (no_float-value z) (no_float-values zs)

-- how a rank ended
no_float-end : (e : End) → HaveNoFloat (end_members e)
no_float-end end.Halted = (refl, tt)
no_float-end end.Stalled = (refl, tt)
no_float-end end.Unfinished = (refl, tt)
no_float-end (end.Faulted fault) = (refl, (refl, (refl, tt)))

-- what a rank printed, and how it ended
no_float-rank : (rank : ℕ) (seen : RankOutcome) → has_float (rank_object rank seen) ≡ false
no_float-rank rank seen = no_float-object_of
    ((codes "rank", count rank) ∷ (codes "lines", array_of (map value seen.lines)) ∷ end_members seen.end)
    (refl, (no_float-values seen.lines, no_float-end seen.end))

-- so of all ranks
no_float-ranks : (rank : ℕ) (seen : List RankOutcome) → items_have_float (items_of (rank_objects rank seen)) ≡ false
no_float-ranks rank [] = refl
no_float-ranks rank (first ∷ others) =
    or_from (has_float (rank_object rank first)) (items_have_float (items_of (rank_objects (rank + 1) others))) (no_float-rank rank first) (no_float-ranks (rank + 1) others)

-- at which rank and line a choice was made
no_float-place : (rank : ℕ) (line : Option ℕ) → HaveNoFloat (place_members rank line)
no_float-place rank (Some line) = (refl, (refl, tt))
no_float-place rank None = (refl, tt)

-- what was chosen there
no_float-chosen : (chosen : Choice) (probes : Bool) → HaveNoFloat (choice_members chosen probes)
no_float-chosen (choice.Take source index) probes = (refl, (refl, tt))
no_float-chosen choice.Miss probes = (refl, tt)
no_float-chosen choice.Next probes = tt

-- both are one choice
no_float-choice : (lines : List ℕ) (noted : Noted) → has_float (choice_object lines noted) ≡ false
no_float-choice lines noted =
    let place = place_members noted.chosen.rank (slice_get lines noted.position) in
    let chosen = choice_members noted.chosen.choice noted.probes in
    no_float-object_of (place ++ chosen) (both_clean place chosen (no_float-place _ _) (no_float-chosen _ _))

-- so of all choices of a run
no_float-choices : (lines : List ℕ) (choices : List Noted) → items_have_float (items_of (map (choice_object lines) choices)) ≡ false
no_float-choices lines [] = refl
no_float-choices lines (first ∷ others) =
    or_from (has_float (choice_object lines first)) (items_have_float (items_of (map (choice_object lines) others))) (no_float-choice lines first) (no_float-choices lines others)

-- an outcome's mark is a truth value, or null
no_float-mark : (mark : Option Bool) → has_float (mark_value mark) ≡ false
no_float-mark (Some mark) = refl
no_float-mark None = refl

-- by what a message is known
no_float-known : (x : MessageMark) → HaveNoFloat (known_members x)
no_float-known (known.Tag tag) = (refl, tt)
no_float-known (known.Call kind (Some ordinal)) = (refl, (no_float-value ordinal, tt))
no_float-known (known.Call kind None) = (refl, tt)

-- a message that was never received
no_float-left : (x : LinedLeftover) → has_float (left_object x) ≡ false
no_float-left x =
    let place = place_members x.message.rank x.line in
    let known = (codes "source", count x.message.source) ∷ known_members x.message.mark in
    no_float-object_of (place ++ known) (both_clean place known (no_float-place _ _) (refl, no_float-known x.message.mark))

-- those of a run
no_float-messages : (xs : List LinedLeftover) → items_have_float (items_of (map left_object xs)) ≡ false
no_float-messages [] = refl
no_float-messages (x ∷ xs) = or_from (has_float (left_object x)) (items_have_float (items_of (map left_object xs))) (no_float-left x) (no_float-messages xs)

-- of each of some runs
no_float-listed : (listed : List (List LinedLeftover)) → items_have_float (items_of (map left_array listed)) ≡ false
no_float-listed [] = refl
no_float-listed (xs ∷ others) =
    or_from (has_float (left_array xs)) (items_have_float (items_of (map left_array others))) (no_float-messages xs) (no_float-listed others)

-- so if something is said of it
no_float-left_members : (listed : List (List LinedLeftover)) → HaveNoFloat (left_members listed)
no_float-left_members listed = go (says_none listed)
  where
    go : (b : Bool) → HaveNoFloat (if b then [] else ((codes "unreceived", array_of (map left_array listed)) ∷ []))
    go true = tt
    go false = (no_float-listed listed, tt)

-- an outcome, with its choices, its mark and its leftovers
no_float-outcome : (lines : List ℕ) (number : ℕ) (outcome : List RankOutcome) (choices : List Noted) (mark : Option Bool) (listed : List (List LinedLeftover))
    → has_float (outcome_object lines number outcome choices mark listed) ≡ false
no_float-outcome lines number outcome choices mark listed =
    no_float-object_of
    ((codes "outcome", count number) ∷ (codes "ranks", array_of (rank_objects 0 outcome))
    ∷ (codes "choices", array_of (map (choice_object lines) choices)) ∷ (codes "misses_shown", mark_value mark)
    ∷ left_members listed)
    (refl, (no_float-ranks 0 outcome, (no_float-choices lines choices, (no_float-mark mark, no_float-left_members listed))))

-- so of all outcomes
no_float-outcomes : (lines : List ℕ) (left : List (List (List LinedLeftover))) (marks : List (Option Bool)) (index : ℕ)
    (outcomes : List (List RankOutcome)) (choices : List (List Noted))
    → items_have_float (items_of (outcome_objects lines left marks index outcomes choices)) ≡ false
no_float-outcomes lines left marks index [] choices = refl
no_float-outcomes lines left marks index (outcome ∷ outcomes) choices =
    or_from _ _ (no_float-outcome lines (index + 1) outcome (first_of choices) (mark_at marks index) (slice_index_or left index []))
    (no_float-outcomes lines left marks (index + 1) outcomes (behind_first choices))

-- that a search is closed
no_float-closed : (closed : Bool) → HaveNoFloat (closed_members closed)
no_float-closed true = (refl, tt)
no_float-closed false = tt

-- nor is there one in what was found, if there is none in the races
no_float-found : (found : ExploredValue) (left : List (List (List LinedLeftover))) (marks : List (Option Bool)) (lines : List ℕ) (races : Items)
    → items_have_float races ≡ false → members_have_float (found_members found left marks lines races) ≡ false
no_float-found found left marks lines races clean =
    no_float-with_members
    ((codes "outcomes", array_of (outcome_objects lines left marks 0 found.outcomes found.choices)) ∷ (codes "races", json.array races)
    ∷ count_members found) json.no_members
    (no_float-outcomes lines left marks 0 found.outcomes found.choices, (clean, (refl, (refl, (refl, (refl, (refl, no_float-closed found.closed))))))) refl

-- ranks that wait, and their lines
no_float-wait_objects : (waits : List WaitingRank) → items_have_float (items_of (map wait_object waits)) ≡ false
no_float-wait_objects [] = refl
no_float-wait_objects (wait ∷ waits) =
    or_from (has_float (wait_object wait)) (items_have_float (items_of (map wait_object waits)))
    (no_float-object_of (place_members wait.rank wait.line) (no_float-place _ _)) (no_float-wait_objects waits)

-- those that wait, if some do
no_float-waits : (told : Safety) → items_have_float (items_of (waits_objects told)) ≡ false
no_float-waits safety.Untold = refl
no_float-waits safety.Safe = refl
no_float-waits (safety.NotSafe waits) = no_float-wait_objects waits.ranks.items
no_float-waits (safety.Unknown why) = refl

-- nor is there one in all, if there is none in the races
no_float-search : (found : ExploredValue) (left : List (List (List LinedLeftover))) (marks : List (Option Bool)) (lines : List ℕ) (races : Items)
    (told : Safety) → items_have_float races ≡ false → has_float (search_object found left marks lines races told) ≡ false
no_float-search found left marks lines races told clean =
    no_float-with_members (safety_members told) (found_members found left marks lines races)
    (no_float-mark (is_safe_if_known told), (no_float-waits told, tt)) (no_float-found found left marks lines races clean)

-- a value without a float is pushed to some without
pub pushed : (list : List Value) (one : Value) → items_have_float (items_view list) ≡ false → has_float (view one) ≡ false
    → items_have_float (items_view (list ++ one ∷ [])) ≡ false
pushed [] one rest clean = or_from (has_float (view one)) false clean refl
pushed (first ∷ others) one rest clean =
    let list = or_parts (has_float (view first)) (items_have_float (items_view others)) rest in
    or_from (has_float (view first)) (items_have_float (items_view (others ++ one ∷ []))) list.0 (pushed others one list.1 clean)

-- the object's text and a line feed
pub is_search_object : (found : ExploredValue) (left : List (List (List LinedLeftover))) (marks : List (Option Bool)) (lines : List ℕ) (told : Safety)
    (races : Items) (before : Members) (all : Data) (written text : List ℕ) → items_have_float races ≡ false
    → before ≡ found_members found left marks lines races
    → all ≡ json.object (with_members (safety_members told) before) → (has_float all ≡ false → written ≡ compact_text all) → text ≡ written ++ 10 ∷ []
    → IsSearchObject found left marks lines told text
is_search_object found left marks lines told races before all written text clean first last says whole =
    let is : all ≡ search_object found left marks lines races told = last ∙ ap (λ held. json.object (with_members (safety_members told) held)) first in
    let none : has_float all ≡ false = ap has_float is ∙ no_float-search found left marks lines races told clean in
    record {
      races = races;
      no_fractions = clean;
      whole = whole ∙ ap (λ xs. xs ++ 10 ∷ []) (says none ∙ ap compact_text is);
    }
