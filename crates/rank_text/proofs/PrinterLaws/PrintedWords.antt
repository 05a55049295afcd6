-- What is printed of a statement's own words has their tokens.
use Rattle.std.proofs.Common.{[], ◌∷◌, ◌++◌, codes}
use Rattle.std.proofs.Common.{refl}
use Rattle.rank_text.specs.declared.grammar.token.Keyword.TheVariants as k
use Rattle.rank_text.specs.declared.grammar.token.Reduction.{Reduction}
use Rattle.rank_text.specs.declared.grammar.token.Reduction.TheVariants as reduces
use Rattle.rank_text.specs.declared.grammar.token.Token.TheVariants as t
use Rattle.rank_text.specs.Grammar.Tokens.{control_words, message_words, reading_words, argument_words}
use Rattle.rank_text.specs.Printer.Canonical.{reduction_text}
use Rattle.rank_text.proofs.PrinterLaws.PrintedPieces.{Closed, Reads, closed_then, then_closed, comma_closed, word_reads, word_closed}

-- `var` with a space behind it is its statement word, whatever follows
pub var_closed : Closed (codes "var ") (t.Keyword k.Var ∷ [])
unfolding control_words message_words reading_words argument_words
var_closed = λ line ts l. word_closed (codes "var") (t.Keyword k.Var) (refl, (refl, (refl, tt))) refl line ts l

-- so is `array`
pub array_closed : Closed (codes "array ") (t.Keyword k.Array ∷ [])
unfolding control_words message_words reading_words argument_words
array_closed = λ line ts l. word_closed (codes "array") (t.Keyword k.Array) (refl, (refl, (refl, (refl, (refl, tt))))) refl line ts l

-- so is `let`
pub let_closed : Closed (codes "let ") (t.Keyword k.Let ∷ [])
unfolding control_words message_words reading_words argument_words
let_closed = λ line ts l. word_closed (codes "let") (t.Keyword k.Let) (refl, (refl, (refl, tt))) refl line ts l

-- so is `if`
pub if_closed : Closed (codes "if ") (t.Keyword k.If ∷ [])
unfolding control_words message_words reading_words argument_words
if_closed = λ line ts l. word_closed (codes "if") (t.Keyword k.If) (refl, (refl, tt)) refl line ts l

-- so is `while`
pub while_closed : Closed (codes "while ") (t.Keyword k.While ∷ [])
unfolding control_words message_words reading_words argument_words
while_closed = λ line ts l. word_closed (codes "while") (t.Keyword k.While) (refl, (refl, (refl, (refl, (refl, tt))))) refl line ts l

-- so is `send`
pub send_closed : Closed (codes "send ") (t.Keyword k.Send ∷ [])
unfolding control_words message_words reading_words argument_words
send_closed = λ line ts l. word_closed (codes "send") (t.Keyword k.Send) (refl, (refl, (refl, (refl, tt)))) refl line ts l

-- so is `recv`
pub recv_closed : Closed (codes "recv ") (t.Keyword k.Recv ∷ [])
unfolding control_words message_words reading_words argument_words
recv_closed = λ line ts l. word_closed (codes "recv") (t.Keyword k.Recv) (refl, (refl, (refl, (refl, tt)))) refl line ts l

-- so is `probe`
pub probe_closed : Closed (codes "probe ") (t.Keyword k.Probe ∷ [])
unfolding control_words message_words reading_words argument_words
probe_closed = λ line ts l. word_closed (codes "probe") (t.Keyword k.Probe) (refl, (refl, (refl, (refl, (refl, tt))))) refl line ts l

-- so is `iprobe`
pub try_probe_closed : Closed (codes "iprobe ") (t.Keyword k.Iprobe ∷ [])
unfolding control_words message_words reading_words argument_words
try_probe_closed = λ line ts l. word_closed (codes "iprobe") (t.Keyword k.Iprobe) (refl, (refl, (refl, (refl, (refl, (refl, tt)))))) refl line ts l

-- so is `print`
pub print_closed : Closed (codes "print ") (t.Keyword k.Print ∷ [])
unfolding control_words message_words reading_words argument_words
print_closed = λ line ts l. word_closed (codes "print") (t.Keyword k.Print) (refl, (refl, (refl, (refl, (refl, tt))))) refl line ts l

-- so is `bcast`
pub bcast_closed : Closed (codes "bcast ") (t.Keyword k.Bcast ∷ [])
unfolding control_words message_words reading_words argument_words
bcast_closed = λ line ts l. word_closed (codes "bcast") (t.Keyword k.Bcast) (refl, (refl, (refl, (refl, (refl, tt))))) refl line ts l

-- so is `reduce`
reduce_closed : Closed (codes "reduce ") (t.Keyword k.Reduce ∷ [])
unfolding control_words message_words reading_words argument_words
reduce_closed = λ line ts l. word_closed (codes "reduce") (t.Keyword k.Reduce) (refl, (refl, (refl, (refl, (refl, (refl, tt)))))) refl line ts l

-- the words for how a reduction combines two values
reduction_reads : (o : Reduction) → Reads (reduction_text o) (t.Reduction o ∷ [])
unfolding control_words message_words reading_words argument_words
reduction_reads reduces.Sum = word_reads (codes "sum") (t.Reduction reduces.Sum) (refl, (refl, (refl, tt))) refl
reduction_reads reduces.Max = word_reads (codes "max") (t.Reduction reduces.Max) (refl, (refl, (refl, tt))) refl
reduction_reads reduces.Min = word_reads (codes "min") (t.Reduction reduces.Min) (refl, (refl, (refl, tt))) refl

-- the statement word of a reduction, how it combines, and a comma
pub reduction_closed : (o : Reduction) → Closed (codes "reduce " ++ reduction_text o ++ codes ", ") (t.Keyword k.Reduce ∷ t.Reduction o ∷ t.Comma ∷ [])
reduction_closed o =
    let front = closed_then (codes "reduce ") (reduction_text o) (t.Keyword k.Reduce ∷ []) (t.Reduction o ∷ []) reduce_closed (reduction_reads o) in
    then_closed (codes "reduce " ++ reduction_text o) (codes ", ") (t.Keyword k.Reduce ∷ t.Reduction o ∷ []) (t.Comma ∷ []) front
    comma_closed (λ line. refl)

-- `else` is its statement word, where what follows doesn't go on with it
pub else_reads : Reads (codes "else") (t.Keyword k.Else ∷ [])
unfolding control_words message_words reading_words argument_words
else_reads = word_reads (codes "else") (t.Keyword k.Else) (refl, (refl, (refl, (refl, tt)))) refl

-- so is `end`
pub end_reads : Reads (codes "end") (t.Keyword k.End ∷ [])
unfolding control_words message_words reading_words argument_words
end_reads = word_reads (codes "end") (t.Keyword k.End) (refl, (refl, (refl, tt))) refl

-- so is `barrier`
pub barrier_reads : Reads (codes "barrier") (t.Keyword k.Barrier ∷ [])
unfolding control_words message_words reading_words argument_words
barrier_reads = word_reads (codes "barrier") (t.Keyword k.Barrier) (refl, (refl, (refl, (refl, (refl, (refl, (refl, tt))))))) refl
