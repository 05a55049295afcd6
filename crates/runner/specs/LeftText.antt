-- What is told of messages that were never received (docs/FORMATS.md, "Standard output of
-- `explore`").
use Rattle.std.specs.Prelude.{◌==◌, ◌&&◌, ℕ, ◌+◌, Bool, true, false, if◌then◌else◌, List, [], ◌∷◌, ◌++◌, Option, Some, None, codes, nat_eq}
use Rattle.std.specs.Fmt.{decimal}
use Rattle.std.specs.Option.{option_eq}
use Rattle.std.specs.Ordering.{int_eq}
use Rattle.crash_free.specs.declared.leftover.MessageMark.{MessageMark}
use Rattle.crash_free.specs.declared.leftover.MessageMark.TheVariants as mark
use Rattle.run_shown.specs.Trace.Words.{name_text, ordinal_text}
use Rattle.runner.specs.declared.explored.lined.LinedLeftover.{LinedLeftover}

-- by what to know a message: its tag, or the collective that it is of
abbrev pub mark_words : MessageMark → List ℕ
mark_words (mark.Tag tag) = codes ", tag " ++ decimal tag
mark_words (mark.Call kind number) = codes ", " ++ name_text kind ++ ordinal_text number

-- both have one tag, or are of one collective
abbrev pub same_mark : MessageMark → MessageMark → Bool
same_mark (mark.Tag tag) (mark.Tag other) = tag == other
same_mark (mark.Call kind number) (mark.Call kind' number') = option_eq int_eq kind kind' && option_eq int_eq number number'
same_mark (mark.Tag tag) (mark.Call kind number) = false
same_mark (mark.Call kind number) (mark.Tag tag) = false

-- both went to one rank, are of one, have one mark, and were sent at one line, or of neither the line is known
abbrev pub are_alike : LinedLeftover → LinedLeftover → Bool
are_alike x y =
    x.message.rank == y.message.rank && x.message.source == y.message.source && same_mark x.message.mark y.message.mark
    && option_eq nat_eq x.line y.line

-- the first of these is like this one
abbrev pub begin_alike : LinedLeftover → List LinedLeftover → Bool
begin_alike x [] = false
begin_alike x (y ∷ ys) = are_alike x y

-- how many messages were never received
abbrev pub number_words : ℕ → List ℕ
number_words count = if count == 1 then codes "1 message was" else (decimal count ++ codes " messages were")

-- at which line a message was sent, if that is known
abbrev pub line_words : Option ℕ → List ℕ
line_words (Some line) = codes ", sent at line " ++ decimal line
line_words None = []

-- by what to know a message, and at which line it was sent
abbrev pub known_words : LinedLeftover → List ℕ
known_words x = mark_words x.message.mark ++ line_words x.line

-- the line on so many messages like this one, behind these words
abbrev pub left_line : List ℕ → LinedLeftover → ℕ → List ℕ
left_line before x count = before ++ codes "rank " ++ decimal x.message.rank ++ codes ": " ++ number_words count
    ++ codes " never received, from " ++ decimal x.message.source ++ known_words x ++ codes "\n"

-- the lines on these, one for those that are alike, one after another; so many like the first stood
-- right before it
abbrev pub lines_behind : List ℕ → ℕ → List LinedLeftover → List ℕ
lines_behind before count [] = []
lines_behind before count (x ∷ xs) =
    if begin_alike x xs then lines_behind before (count + 1) xs else (left_line before x (count + 1) ++ lines_behind before 0 xs)

-- the lines on these
abbrev pub left_text : List ℕ → List LinedLeftover → List ℕ
left_text before xs = lines_behind before 0 xs

-- what was never received in some of the runs that have an outcome, and not in all
abbrev pub some_text : List ℕ → List LinedLeftover → List ℕ
some_text before [] = before ++ codes "in some runs: each message was received\n"
some_text before (x ∷ xs) = before ++ codes "in some runs:\n" ++ left_text before (x ∷ xs)

-- this of each of these
abbrev pub each_text : List ℕ → List (List LinedLeftover) → List ℕ
each_text before [] = []
each_text before (xs ∷ others) = some_text before xs ++ each_text before others

-- what was never received in the runs that have an outcome, of which these are listed: one, of all
-- runs that were looked at, or several
abbrev pub listed_text : List ℕ → List (List LinedLeftover) → List ℕ
listed_text before [] = []
listed_text before (xs ∷ []) = left_text before xs
listed_text before (xs ∷ ys ∷ others) = each_text before (xs ∷ ys ∷ others)

-- what is listed of the outcome of this number, in short
abbrev pub short_text : ℕ → List (List LinedLeftover) → List ℕ
short_text number listed = listed_text (codes "# outcome " ++ decimal number ++ codes ": ") listed

-- the same of the outcomes from this number on
abbrev pub shorts_text : ℕ → List (List (List LinedLeftover)) → List ℕ
shorts_text number [] = []
shorts_text number (listed ∷ others) = short_text number listed ++ shorts_text (number + 1) others
