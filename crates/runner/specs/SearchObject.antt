-- What a search found, as an object of JSON (RFC 8259; docs/FORMATS.md, "Standard output of
-- `explore`"). The object's text has its members sorted by their names.
use Rattle.std.specs.Prelude.{◌≡◌, ◌==◌, ℕ, ℤ, ◌+◌, Bool, true, false, if◌then◌else◌, List, [], ◌∷◌, ◌++◌, Option, Some, None, length, map, slice_get, slice_index_or, codes}
use Rattle.std.specs.Option.{option_flatten}
use Rattle.audit.specs.declared.outcome.End.{End}
use Rattle.audit.specs.declared.outcome.End.TheVariants as end
use Rattle.crash_free.specs.declared.choice.Choice.{Choice}
use Rattle.crash_free.specs.declared.choice.Choice.TheVariants as choice
use Rattle.crash_free.specs.declared.leftover.MessageMark.{MessageMark}
use Rattle.crash_free.specs.declared.leftover.MessageMark.TheVariants as known
use Rattle.explore.specs.declared.moves.Noted.{Noted}
use Rattle.explore.specs.Explored.{ExploredValue}
use Rattle.audit.specs.FinalRuns.Maximal.{RankOutcome}
use Rattle.rank_machine.specs.Faults.{fault_name, fault_number}
use Rattle.run_shown.specs.Trace.Words.{name_text}
use Rattle.runner.specs.declared.explored.lined.LinedLeftover.{LinedLeftover}
use Rattle.runner.specs.declared.explored.safety.Safety.{Safety}
use Rattle.runner.specs.declared.explored.safety.Safety.TheVariants as safety
use Rattle.runner.specs.declared.explored.safety.WaitingRank.{WaitingRank}
use Rattle.serde_json.specs.Data.{Data, Items, Members, put}
use Rattle.serde_json.specs.Data as json
use Rattle.serde_json.specs.Find.{of_integer}
use Rattle.serde_json.specs.View.{items_of}
use Rattle.serde_json.specs.Written.{compact_text, items_have_float}

-- these members, put to others one after another
abbrev pub with_members : List (List ℕ × Data) → Members → Members
with_members [] members = members
with_members (first ∷ others) members = with_members others (put first.0 first.1 members)

-- the object with these members
abbrev pub object_of : List (List ℕ × Data) → Data
object_of members = json.object (with_members members json.no_members)

-- an array of these
abbrev pub array_of : List Data → Data
array_of items = json.array (items_of items)

-- a number from 0 on
abbrev pub count : ℕ → Data
count number = json.number (json.unsigned number)

-- a value that a rank printed
abbrev pub value : ℤ → Data
value printed = json.number (of_integer printed)

-- how a rank ended; with a fault its number and its name
abbrev pub end_members : End → List (List ℕ × Data)
end_members end.Halted = (codes "end", json.string (codes "halted")) ∷ []
end_members end.Stalled = (codes "end", json.string (codes "stalled")) ∷ []
end_members end.Unfinished = (codes "end", json.string (codes "unfinished")) ∷ []
end_members (end.Faulted fault) =
    (codes "end", json.string (codes "fault")) ∷ (codes "fault", count (fault_number fault)) ∷ (codes "name", json.string (fault_name fault)) ∷ []

-- the rank of this number: the values that it printed, and how it ended
abbrev pub rank_object : ℕ → RankOutcome → Data
rank_object rank seen =
    object_of ((codes "rank", count rank) ∷ (codes "lines", array_of (map value seen.lines)) ∷ end_members seen.end)

-- the ranks from this one on
abbrev pub rank_objects : ℕ → List RankOutcome → List Data
rank_objects rank [] = []
rank_objects rank (seen ∷ others) = rank_object rank seen ∷ rank_objects (rank + 1) others

-- a rank, and the line of the program where it stands, if that is known
abbrev pub place_members : ℕ → Option ℕ → List (List ℕ × Data)
place_members rank (Some line) = (codes "rank", count rank) ∷ (codes "line", count line) ∷ []
place_members rank None = (codes "rank", count rank) ∷ []

-- what was chosen, by a receive or by a probe; of a step of the rank's own nothing is said
abbrev pub choice_members : Choice → Bool → List (List ℕ × Data)
choice_members (choice.Take source index) probes =
    (codes "act", json.string (if probes then codes "hit" else codes "reception")) ∷ (codes "source", count source) ∷ []
choice_members choice.Miss probes = (codes "act", json.string (codes "miss")) ∷ []
choice_members choice.Next probes = []

-- a choice: a rank, where it stands, and what it chose; the statement at position K stands on line K
-- of these
abbrev pub choice_object : List ℕ → Noted → Data
choice_object lines noted =
    object_of (place_members noted.chosen.rank (slice_get lines noted.position) ++ choice_members noted.chosen.choice noted.probes)

-- a mark, null for none
abbrev pub mark_value : Option Bool → Data
mark_value (Some mark) = json.boolean mark
mark_value None = json.null

-- the number of a collective among those of its rank, if a packet has it
abbrev pub ordinal_members : Option ℤ → List (List ℕ × Data)
ordinal_members (Some ordinal) = (codes "number", value ordinal) ∷ []
ordinal_members None = []

-- by what to know a message: its tag, or the collective that it is of
abbrev pub known_members : MessageMark → List (List ℕ × Data)
known_members (known.Tag tag) = (codes "tag", count tag) ∷ []
known_members (known.Call kind ordinal) = (codes "collective", json.string (name_text kind)) ∷ ordinal_members ordinal

-- a message that was never received, with the line at which it was sent, if that is known
abbrev pub left_object : LinedLeftover → Data
left_object x = object_of (place_members x.message.rank x.line ++ (codes "source", count x.message.source) ∷ known_members x.message.mark)

-- those of a run
abbrev pub left_array : List LinedLeftover → Data
left_array messages = array_of (map left_object messages)

-- what is listed is one run, in which nothing was left
abbrev pub says_none : List (List LinedLeftover) → Bool
says_none [] = true
says_none (messages ∷ []) = length messages == 0
says_none (messages ∷ others ∷ more) = false

-- what was never received in runs that have an outcome, if something was
abbrev pub left_members : List (List LinedLeftover) → List (List ℕ × Data)
left_members listed = if says_none listed then [] else ((codes "unreceived", array_of (map left_array listed)) ∷ [])

-- the outcome of this number: what is seen of its ranks, the choices that are noted with it, its mark,
-- and what was never received in runs that have it
abbrev pub outcome_object : List ℕ → ℕ → List RankOutcome → List Noted → Option Bool → List (List LinedLeftover) → Data
outcome_object lines number outcome choices mark listed =
    object_of ((codes "outcome", count number) ∷ (codes "ranks", array_of (rank_objects 0 outcome))
    ∷ (codes "choices", array_of (map (choice_object lines) choices)) ∷ (codes "misses_shown", mark_value mark)
    ∷ left_members listed)

-- the first of these, and none if there is none
abbrev pub first_of : {A : Type 0} → List (List A) → List A
first_of [] = []
first_of (x ∷ xs) = x

-- those behind the first
abbrev pub behind_first : {A : Type 0} → List A → List A
behind_first [] = []
behind_first (x ∷ xs) = xs

-- the mark of the outcome at this index, if there is one
abbrev pub mark_at : List (Option Bool) → ℕ → Option Bool
mark_at marks index = option_flatten (slice_get marks index)

-- the outcomes from this index on, with their choices and with what was never received; numbers are
-- from 1, an index from 0
abbrev pub outcome_objects : List ℕ → List (List (List LinedLeftover)) → List (Option Bool) → ℕ → List (List RankOutcome) → List (List Noted)
    → List Data
outcome_objects lines left marks index [] choices = []
outcome_objects lines left marks index (outcome ∷ outcomes) choices =
    outcome_object lines (index + 1) outcome (first_of choices) (mark_at marks index) (slice_index_or left index [])
    ∷ outcome_objects lines left marks (index + 1) outcomes (behind_first choices)

-- that the outcomes of all runs that end were found, while the ranks may go on for ever
abbrev pub closed_members : Bool → List (List ℕ × Data)
closed_members closed = if closed then ((codes "closed", json.boolean true) ∷ []) else []

-- how the search ended, and how many runs it looked at and states it kept
abbrev pub count_members : ExploredValue → List (List ℕ × Data)
count_members found =
    (codes "complete", json.boolean found.complete) ∷ (codes "out_of_steps", json.boolean found.out_of_steps)
    ∷ (codes "runs", count found.runs) ∷ (codes "states", count found.states) ∷ (codes "all_states_kept", json.boolean found.kept_all) ∷ closed_members found.closed

-- the members on what a search found, with what was never received, these marks and these races
abbrev pub found_members : ExploredValue → List (List (List LinedLeftover)) → List (Option Bool) → List ℕ → Items → Members
found_members found left marks lines races =
    with_members ((codes "outcomes", array_of (outcome_objects lines left marks 0 found.outcomes found.choices))
    ∷ (codes "races", json.array races) ∷ count_members found) json.no_members

-- whether it is safe, if it is known
abbrev pub is_safe_if_known : Safety → Option Bool
is_safe_if_known safety.Untold = None
is_safe_if_known safety.Safe = Some true
is_safe_if_known (safety.NotSafe waits) = Some false
is_safe_if_known (safety.Unknown why) = None

-- a rank that waits, and the line at which it does
abbrev pub wait_object : WaitingRank → Data
wait_object wait = object_of (place_members wait.rank wait.line)

-- those that wait, if it isn't safe
abbrev pub waits_objects : Safety → List Data
waits_objects safety.Untold = []
waits_objects safety.Safe = []
waits_objects (safety.NotSafe waits) = map wait_object waits.ranks.items
waits_objects (safety.Unknown why) = []

-- both members
abbrev pub safety_members : Safety → List (List ℕ × Data)
safety_members told = (codes "safe", mark_value (is_safe_if_known told)) ∷ (codes "waits", array_of (waits_objects told)) ∷ []

-- all that a search found, with what was never received, these marks and these races, and whether the
-- program is safe
abbrev pub search_object : ExploredValue → List (List (List LinedLeftover)) → List (Option Bool) → List ℕ → Items → Safety → Data
search_object found left marks lines races told =
    json.object (with_members (safety_members told) (found_members found left marks lines races))

-- The text is this object on a line of its own. Of the races it only says that they are an array in
-- which no number has a fraction or an exponent.
pub record IsSearchObject (found : ExploredValue) (left : List (List (List LinedLeftover))) (marks : List (Option Bool)) (lines : List ℕ)
    (told : Safety) (text : List ℕ) : Type 0 where
  pub races : Items
  pub no_fractions : items_have_float races ≡ false
  pub whole : text ≡ compact_text (search_object found left marks lines races told) ++ codes "\n"
