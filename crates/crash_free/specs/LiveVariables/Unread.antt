-- What is never read before it is written again (dead variables: Aho, Lam, Sethi and Ullman 2006,
-- section 9.2.5; in a search of states: Yorav and Grumberg 2004).
use Rattle.std.specs.Prelude.{◌≡◌, Bool, true, false, not, ◌||◌, ◌&&◌}
use Rattle.rank_language.specs.Block.{Block, done, plain, if_only, if_else, loop}
use Rattle.crash_free.specs.LiveVariables.Names.{StoredName, mentions, reads, writes}

-- some way through these statements doesn't surely write it
abbrev pub passes : StoredName → Block → Bool
passes x done = true
passes x (plain s r) = not (writes x s) && passes x r
passes x (if_only e y r) = passes x r
passes x (if_else e y o r) = (passes x y || passes x o) && passes x r
passes x (loop e y r) = passes x r

-- some way through these statements reads it before it surely writes it
abbrev pub reads_first : StoredName → Block → Bool
reads_first x done = false
reads_first x (plain s r) = reads x s || (not (writes x s) && reads_first x r)
reads_first x (if_only e y r) = mentions x e || (reads_first x y || reads_first x r)
reads_first x (if_else e y o r) =
    mentions x e || ((reads_first x y || reads_first x o) || ((passes x y || passes x o) && reads_first x r))
reads_first x (loop e y r) = mentions x e || (reads_first x y || reads_first x r)

-- no way through these statements reads it before it is written again
abbrev pub IsUnread : StoredName → Block → Type 0
IsUnread x b = reads_first x b ≡ false
