-- What is printed of an expression has its tokens, and so has that of a source, a tag or what a send gives.
use Rattle.std.proofs.Common.{ℕ, Bool, true, false, List, [], ◌∷◌, ◌++◌, codes}
use Rattle.std.proofs.Common.{refl}
use Rattle.std.specs.Prelude.{if◌then◌else◌}
use Rattle.rank_text.specs.declared.grammar.token.Reading.{Reading}
use Rattle.rank_text.specs.declared.grammar.token.Reading.TheVariants as reads
use Rattle.rank_text.specs.declared.grammar.token.Token.{Token}
use Rattle.rank_text.specs.declared.grammar.token.Token.TheVariants as t
use Rattle.rank_text.specs.Grammar.Tokens.{control_words, message_words, reading_words, argument_words}
use Rattle.rank_text.specs.Grammar.Grammar.{minus}
use Rattle.rank_text.specs.Grammar.Tree.{Tree, number, variable, item, reading, negation, operation}
use Rattle.rank_text.specs.Grammar.Forms.{Pattern, any, value, Payload, lone, one}
use Rattle.rank_text.specs.Printer.Canonical.{operator_text, reading_text, is_operation, operand_text, expression_text}
use Rattle.rank_text.specs.Printer.Canonical.{pattern_text, payload_text}
use Rattle.rank_text.proofs.PrinterLaws.PrintedTokens.{operand_tokens, expression_tokens, pattern_tokens, payload_tokens}
use Rattle.rank_text.proofs.PrinterLaws.Fitting.{IsPlain, PatternFits, PayloadFits}
use Rattle.rank_text.proofs.PrinterLaws.PrintedPieces.{Reads, closed_then, then_closed, closed_reads, between, open_closed, close_closed}
use Rattle.rank_text.proofs.PrinterLaws.PrintedPieces.{bracket_closed, unbracket_closed, minus_closed, operator_closed, operator_ends, word_reads}
use Rattle.rank_text.proofs.PrinterLaws.PrintedPieces.{name_reads}
use Rattle.rank_text.proofs.PrinterLaws.PrintedNumbers.{number_reads}

-- the words for what a rank can only read
reading_reads : (r : Reading) → Reads (reading_text r) (t.Reading r ∷ [])
unfolding control_words message_words reading_words argument_words
reading_reads reads.Rank = word_reads (codes "rank") (t.Reading reads.Rank) (refl, (refl, (refl, (refl, tt)))) refl
reading_reads reads.Size = word_reads (codes "size") (t.Reading reads.Size) (refl, (refl, (refl, (refl, tt)))) refl
reading_reads reads.Source = word_reads (codes "source") (t.Reading reads.Source) (refl, (refl, (refl, (refl, (refl, (refl, tt)))))) refl
reading_reads reads.Tag = word_reads (codes "gottag") (t.Reading reads.Tag) (refl, (refl, (refl, (refl, (refl, (refl, tt)))))) refl
reading_reads reads.Count = word_reads (codes "count") (t.Reading reads.Count) (refl, (refl, (refl, (refl, (refl, tt))))) refl

-- a text in parentheses where a test says so
wrapped_reads : (z : Bool) (text : List ℕ) (ts : List Token) → Reads text ts
    → Reads (if z then codes "(" ++ text ++ codes ")" else text) (if z then t.OpenParenthesis ∷ (ts ++ t.CloseParenthesis ∷ []) else ts)
wrapped_reads false text ts r = r
wrapped_reads true text ts r =
    let inner : Reads (codes "(" ++ text) (t.OpenParenthesis ∷ ts) = closed_then (codes "(") text (t.OpenParenthesis ∷ []) ts open_closed r in
    closed_reads (codes "(" ++ text ++ codes ")") (t.OpenParenthesis ∷ (ts ++ t.CloseParenthesis ∷ [])) (
    then_closed (codes "(" ++ text) (codes ")") (t.OpenParenthesis ∷ ts) (t.CloseParenthesis ∷ []) inner close_closed (λ line. refl))

-- a name and an index in brackets
pub indexed_reads : (x index : List ℕ) (xs is : List Token) → Reads x xs → Reads index is
    → Reads (x ++ codes "[" ++ index ++ codes "]") ((xs ++ t.OpenBracket ∷ is) ++ t.CloseBracket ∷ [])
indexed_reads x index xs is p q =
    closed_reads (x ++ codes "[" ++ index ++ codes "]") ((xs ++ t.OpenBracket ∷ is) ++ t.CloseBracket ∷ []) (
    then_closed (x ++ codes "[" ++ index) (codes "]") (xs ++ t.OpenBracket ∷ is) (t.CloseBracket ∷ [])
    (between x (codes "[") index xs (t.OpenBracket ∷ []) is p bracket_closed (λ line. refl) q) unbracket_closed (λ line. refl))

-- an expression has its tokens
pub expression_reads : (e : Tree) → IsPlain e → Reads (expression_text e) (expression_tokens e)
expression_reads (number n) h = number_reads n h
expression_reads (variable x) h = name_reads x h
expression_reads (item x e) h =
    indexed_reads x (expression_text e) (t.Name x ∷ []) (expression_tokens e) (name_reads x h.0) (expression_reads e h.1)
expression_reads (reading r) h = reading_reads r
expression_reads (negation e) h =
    closed_then (codes "-") (operand_text e (expression_text e)) (minus ∷ []) (operand_tokens e (expression_tokens e)) minus_closed
    (wrapped_reads (is_operation e) (expression_text e) (expression_tokens e) (expression_reads e h))
expression_reads (operation o a b) h =
    between (operand_text a (expression_text a)) (operator_text o) (operand_text b (expression_text b))
    (operand_tokens a (expression_tokens a)) (t.Operator o ∷ []) (operand_tokens b (expression_tokens b))
    (wrapped_reads (is_operation a) (expression_text a) (expression_tokens a) (expression_reads a h.0)) (operator_closed o) (operator_ends o)
    (wrapped_reads (is_operation b) (expression_text b) (expression_tokens b) (expression_reads b h.1))

-- a source or a tag
pub pattern_reads : (c : Pattern) → PatternFits c → Reads (pattern_text c) (pattern_tokens c)
unfolding control_words message_words reading_words argument_words
pattern_reads any h = word_reads (codes "any") t.Any (refl, (refl, (refl, tt))) refl
pattern_reads (value e) h = expression_reads e h.0

-- what a send gives
pub payload_reads : (p : Payload) → PayloadFits p → Reads (payload_text p) (payload_tokens p)
payload_reads (lone x) h = name_reads x h
payload_reads (one e) h = expression_reads e h.0
