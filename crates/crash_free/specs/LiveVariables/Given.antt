-- Whether each message has an item, as messages have between ranks of a program (docs/LANGUAGE.md:
-- no array is empty). Only then a receive into a variable surely writes it.
use Rattle.std.specs.Prelude.{◌≡◌, ◌≢◌, ℕ, ◌==◌, Bool, true, false, ◌||◌, [], Option, Some, None, slice_index_or}
use Rattle.rank_language.specs.Placed.{Payload, one, all_of, Simple, declare, declare_array, assign, assign_item}
use Rattle.rank_language.specs.Placed.{send, receive, probe, try_probe, print, collect}
use Rattle.rank_language.specs.Block.{Block, done, plain, if_only, if_else, loop}
use Rattle.rank_machine.specs.States.{State}
use Rattle.rank_machine.specs.Acts.{Message}

-- the payload is all items of the array at this place
abbrev pub gives_all : ℕ → Payload → Bool
gives_all p (one e) = false
gives_all p (all_of q) = q == p

-- the statement sends all items of the array at this place
abbrev pub sends_all : ℕ → Simple → Bool
sends_all p (declare q) = false
sends_all p (declare_array q) = false
sends_all p (assign q e) = false
sends_all p (assign_item q i e) = false
sends_all p (send d t payload) = gives_all p payload
sends_all p (receive c t b) = false
sends_all p (probe c t) = false
sends_all p (try_probe c t flag) = false
sends_all p (print e) = false
sends_all p (collect c) = false

-- some of these statements does
abbrev pub some_sends_all : ℕ → Block → Bool
some_sends_all p done = false
some_sends_all p (plain s r) = sends_all p s || some_sends_all p r
some_sends_all p (if_only e y r) = some_sends_all p y || some_sends_all p r
some_sends_all p (if_else e y o r) = some_sends_all p y || (some_sends_all p o || some_sends_all p r)
some_sends_all p (loop e y r) = some_sends_all p y || some_sends_all p r

-- each array of which the statements that remain may send all items has one
abbrev pub GivesItems : State → Type 0
GivesItems a = (p : ℕ) → some_sends_all p a.rest ≡ true → slice_index_or a.store.arrays p [] ≢ []

-- a message, if there is one, has an item
abbrev pub HasItem : Option Message → Type 0
HasItem None = Unit {0}
HasItem (Some m) = m.items ≢ []
