-- The text of a world's run: a line for each reply, and then the lines that each rank printed
-- (docs/FORMATS.md, "Events of a world").
use Rattle.std.specs.Prelude.{◌≡◌, ℕ, ℤ, zero, suc, List, [], ◌∷◌, ◌++◌, codes}
use Rattle.std.specs.Fmt.{decimal, signed_decimal}
use Rattle.matching.specs.declared.line.Line.{Line}
use Rattle.bare_world.specs.declared.event.WorldEvent.{WorldEvent}
use Rattle.bare_world.specs.declared.reply.Reply.{Reply}
use Rattle.bare_world.specs.declared.reply.Reply.TheVariants.{Moved, Blocked, Held, Ended, PutData, PutAsk, PutKept, Accepted, Repeated, Gap, Noted}
use Rattle.bare_world.specs.declared.reply.Reply.TheVariants.{Stored, Acked, Imaged, Crashed, Restarted, Released, Refused}
use Rattle.bare_world.specs.Headline.{lines_of}
use Rattle.bare_world.specs.World.{WorldValue, size}
use Rattle.bare_world.specs.Sequences.{FollowsAll}

-- a reply's word, with its numbers behind it
abbrev pub reply_text : Reply → List ℕ
reply_text Moved = codes "moved"
reply_text Blocked = codes "blocked"
reply_text Held = codes "held"
reply_text Ended = codes "ended"
reply_text (PutData index number) = codes "put " ++ decimal index ++ codes " data " ++ decimal number
reply_text (PutAsk index from) = codes "put " ++ decimal index ++ codes " ask " ++ decimal from
reply_text (PutKept index upto) = codes "put " ++ decimal index ++ codes " kept " ++ decimal upto
reply_text Accepted = codes "accepted"
reply_text Repeated = codes "repeated"
reply_text Gap = codes "gap"
reply_text Noted = codes "noted"
reply_text (Stored count) = codes "stored " ++ decimal count
reply_text Acked = codes "acked"
reply_text Imaged = codes "imaged"
reply_text Crashed = codes "crashed"
reply_text (Restarted left) = codes "restarted " ++ decimal left
reply_text (Released clock) = codes "released " ++ decimal clock
reply_text Refused = codes "refused"

-- the replies in their order, one a line
abbrev pub replies_text : List Reply → List ℕ
replies_text [] = []
replies_text (reply ∷ replies) = reply_text reply ++ codes "\n" ++ replies_text replies

-- a line that a rank printed
abbrev pub line_text : ℕ → ℤ → List ℕ
line_text rank value = decimal rank ++ codes "> " ++ signed_decimal value ++ codes "\n"

-- what a rank printed, each line with its clock, in this order
abbrev pub printed_text : ℕ → List (ℕ × ℤ) → List ℕ
printed_text rank [] = []
printed_text rank (line ∷ lines) = line_text rank line.1 ++ printed_text rank lines

-- the lines of the first n ranks, rank by rank; those of one rank keep the console's order, in
-- which their clocks rise
abbrev pub ranks_text : ℕ → List Line → List ℕ
ranks_text zero lines = []
ranks_text (suc n) lines = ranks_text n lines ++ printed_text n (lines_of n lines)

-- the replies, and then the lines of n ranks
abbrev pub world_text : List Reply → ℕ → List Line → List ℕ
world_text replies n lines = replies_text replies ++ ranks_text n lines

-- The text of a world's run from one world to another: these events were answered in their order,
-- and the text is that of all the answers and of the lines of all ranks.
pub record IsRunText (before : WorldValue) (events : List WorldEvent) (after : WorldValue) (text : List ℕ) : Type 0 where
  pub replies : List Reply
  pub follows : FollowsAll before events replies after
  pub written : text ≡ world_text replies (size after) after.lines
