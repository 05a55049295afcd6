-- What a statement reads, and what it surely writes (uses and definitions of live variable
-- analysis: Aho, Lam, Sethi and Ullman 2006, section 9.2.5). Arrays always count as read, and are
-- left out here.
use Rattle.std.specs.Prelude.{ℕ, ◌==◌, Bool, true, false, ◌||◌, ◌&&◌}
use Rattle.rank_text.specs.declared.grammar.token.Reading.{Reading}
use Rattle.rank_text.specs.declared.grammar.token.Reading.TheVariants.{Rank, Size, Source, Tag, Count}
use Rattle.rank_language.specs.Placed.{Placed, number, variable, item, reading, negation, operation, Pattern, any, value, Payload}
use Rattle.rank_language.specs.Placed.{one, all_of, Buffer, into_variable, into_array, Simple, declare, declare_array, assign, assign_item}
use Rattle.rank_language.specs.Placed.{send, receive, probe, try_probe, print, Collective, barrier, broadcast, reduce, collect}

-- what may be read and written: a variable by its place, or the status, which is source, tag and
-- count of the last message together
pub data StoredName : Type 0 where
  place : (p : ℕ) → StoredName
  status : StoredName

-- it is the variable at this place
abbrev pub is_place : ℕ → StoredName → Bool
is_place p (place q) = q == p
is_place p status = false

-- it is the status
abbrev pub is_status : StoredName → Bool
is_status (place q) = false
is_status status = true

-- the word reads the status
abbrev pub reads_status : Reading → Bool
reads_status Rank = false
reads_status Size = false
reads_status Source = true
reads_status Tag = true
reads_status Count = true

-- an expression reads it
abbrev pub mentions : StoredName → Placed → Bool
mentions x (number n) = false
mentions x (variable p) = is_place p x
mentions x (item p e) = mentions x e
mentions x (reading r) = is_status x && reads_status r
mentions x (negation e) = mentions x e
mentions x (operation o a b) = mentions x a || mentions x b

-- a source or a tag that is asked for reads it
abbrev pub pattern_reads : StoredName → Pattern → Bool
pattern_reads x any = false
pattern_reads x (value e) = mentions x e

-- what a send gives reads it
abbrev pub payload_reads : StoredName → Payload → Bool
payload_reads x (one e) = mentions x e
payload_reads x (all_of p) = false

-- it is the variable that a buffer is
abbrev pub is_buffer : StoredName → Buffer → Bool
is_buffer x (into_variable p) = is_place p x
is_buffer x (into_array p) = false

-- a collective reads it: a broadcast reads its buffer too, which the root gives
abbrev pub collective_reads : StoredName → Collective → Bool
collective_reads x barrier = false
collective_reads x (broadcast root b) = mentions x root || is_buffer x b
collective_reads x (reduce f root e p) = mentions x root || mentions x e

-- a statement reads it
abbrev pub reads : StoredName → Simple → Bool
reads x (declare p) = false
reads x (declare_array p) = false
reads x (assign p e) = mentions x e
reads x (assign_item p i e) = mentions x i || mentions x e
reads x (send d t p) = mentions x d || (mentions x t || payload_reads x p)
reads x (receive c t b) = pattern_reads x c || pattern_reads x t
reads x (probe c t) = pattern_reads x c || pattern_reads x t
reads x (try_probe c t flag) = pattern_reads x c || pattern_reads x t
reads x (print e) = mentions x e
reads x (collect c) = collective_reads x c

-- A statement surely writes it, if it is done without a fault. A probe that doesn't wait may miss
-- and leave the status, and a reduction writes the variable of its root alone, so neither is sure;
-- a declaration writes nothing.
abbrev pub writes : StoredName → Simple → Bool
writes x (declare p) = false
writes x (declare_array p) = false
writes x (assign p e) = is_place p x
writes x (assign_item p i e) = false
writes x (send d t p) = false
writes x (receive c t b) = is_buffer x b || is_status x
writes x (probe c t) = is_status x
writes x (try_probe c t flag) = is_place flag x
writes x (print e) = false
writes x (collect c) = false
