-- For what the ranks of an outcome wait that stall: for a message, or in a send that is synchronous
-- until its message is received (MPI 1.1, section 3.4; docs/FORMATS.md, "Standard output of
-- `explore`").
use Rattle.std.specs.Prelude.{◌==◌, ℕ, Bool, true, false, not, if◌then◌else◌, length, filter, filter_map, List, [], ◌∷◌, ◌++◌, Option, None, codes}
use Rattle.std.specs.List.{list_any}
use Rattle.std.specs.Fmt.{decimal}
use Rattle.runner.specs.Enumerations.{named_lines, named_ranks}
use Rattle.runner.specs.Waits.{is_sent_by}
use Rattle.runner.specs.declared.explored.lined.LinedLeftover.{LinedLeftover}

-- the rank waits in its send: a message that it sent is among those that were never received
abbrev pub is_held : List LinedLeftover → ℕ → Bool
is_held left rank = list_any (λ (x : LinedLeftover). is_sent_by rank x.message) left

-- the line of that send, if it is known
abbrev pub line_of_hold : List LinedLeftover → ℕ → Option ℕ
line_of_hold [] rank = None
line_of_hold (x ∷ xs) rank = if is_sent_by rank x.message then x.line else line_of_hold xs rank

-- those of these ranks that wait in their sends
abbrev pub held_ranks : List LinedLeftover → List ℕ → List ℕ
held_ranks left ranks = filter (is_held left) ranks

-- the others
abbrev pub unheld_ranks : List LinedLeftover → List ℕ → List ℕ
unheld_ranks left ranks = filter (λ (rank : ℕ). not (is_held left rank)) ranks

-- the lines of the sends in which some of these wait
abbrev pub held_lines : List LinedLeftover → List ℕ → List ℕ
held_lines left ranks = filter_map (line_of_hold left) ranks

-- what stands before the ranks of the outcome of this number that stall
unfoldable pub stall_words : ℕ → List ℕ
stall_words number = codes "# outcome " ++ decimal number ++ codes " stalls: "

-- that these ranks wait for messages
abbrev pub message_words : List ℕ → List ℕ
message_words ranks = if length ranks == 1 then codes " waits for a message that doesn't come\n" else codes " wait for messages that don't come\n"

-- that these of it do
abbrev pub message_line : ℕ → List ℕ → List ℕ
message_line number ranks = stall_words number ++ named_ranks ranks ++ message_words ranks

-- this line, if some do
abbrev pub message_text : ℕ → List ℕ → List ℕ
message_text number ranks = if length ranks == 0 then [] else message_line number ranks

-- at which lines, as far as they are known
abbrev pub at_lines : List ℕ → List ℕ
at_lines lines = if length lines == 0 then [] else codes ", at " ++ named_lines lines

-- that these ranks wait in their sends, at these lines
abbrev pub send_line : ℕ → List ℕ → List ℕ → List ℕ
send_line number ranks lines = stall_words number ++ named_ranks ranks
    ++ (if length ranks == 1 then codes " waits in its send" else codes " wait in their sends") ++ at_lines lines ++ codes "\n"

-- this line, if some do
abbrev pub send_text : ℕ → List ℕ → List ℕ → List ℕ
send_text number ranks lines = if length ranks == 0 then [] else send_line number ranks lines

-- that these ranks wait for messages, or in their sends
abbrev pub either_words : List ℕ → List ℕ
either_words ranks = if length ranks == 1 then codes " waits for a message that doesn't come, or in its send\n"
    else codes " wait for messages that don't come, or in their sends\n"

-- that these of the outcome do
abbrev pub either_line : ℕ → List ℕ → List ℕ
either_line number ranks = stall_words number ++ named_ranks ranks ++ either_words ranks

-- this line, if some do
abbrev pub either_text : ℕ → List ℕ → List ℕ
either_text number ranks = if length ranks == 0 then [] else either_line number ranks

-- For what the ranks wait that stall in the outcome of this number, of synchronous runs or of others. Who
-- waits in its send is told if all runs that have it and were looked at left the same.
abbrev pub stalls_text : Bool → ℕ → List ℕ → List (List LinedLeftover) → List ℕ
stalls_text false number ranks listed = message_text number ranks
stalls_text true number ranks [] = either_text number ranks
stalls_text true number ranks (left ∷ []) =
    send_text number (held_ranks left ranks) (held_lines left ranks) ++ message_text number (unheld_ranks left ranks)
stalls_text true number ranks (left ∷ another ∷ others) = either_text number ranks
