-- Pieces of printed text have their tokens.
--
-- A piece of text has its tokens in each line where what follows doesn't go on with its last word, number or sign
-- (`Reads`), or in each line at all (`Closed`); pieces are put together from the left.
use Rattle.std.proofs.Common.{◌≡◌, ℕ, Bool, false, ◌||◌, List, [], ◌∷◌, ◌++◌, take, codes}
use Rattle.std.proofs.Common.{Some, None, refl, ap, ◌∙◌, sym, subst, append_assoc, arith}
use Rattle.std.specs.Prelude.{nat_eq}
use Rattle.std.proofs.lemmas.List.{take_all}
use Rattle.std.proofs.lemmas.Bool.{or_parts}
use Rattle.rank_text.specs.declared.grammar.token.Operator.{Operator}
use Rattle.rank_text.specs.declared.grammar.token.Operator.TheVariants.{Add, Subtract, Multiply, Divide, Remainder}
use Rattle.rank_text.specs.declared.grammar.token.Operator.TheVariants.{Equal, NotEqual, Less, LessEqual, Greater, GreaterEqual}
use Rattle.rank_text.specs.declared.grammar.token.Token.{Token}
use Rattle.rank_text.specs.declared.grammar.token.Token.TheVariants as t
use Rattle.rank_text.specs.Grammar.Tokens.{is_letter, is_digit, is_word_byte}
use Rattle.rank_text.specs.Grammar.Lexes.{space, StopsAt, IsWord, word_token, Symbol, extends}
use Rattle.rank_text.specs.Grammar.Lexes.{Lexes, is_space, is_word, is_symbol}
use Rattle.rank_text.specs.Grammar.Lexes.{is_add, is_subtract, is_multiply, is_divide, is_remainder}
use Rattle.rank_text.specs.Grammar.Lexes.{is_open_parenthesis, is_close_parenthesis, is_open_bracket, is_close_bracket, is_comma, is_assign}
use Rattle.rank_text.specs.Grammar.Lexes.{is_less, is_greater, is_equal, is_not_equal, is_less_equal, is_greater_equal}
use Rattle.rank_text.specs.Grammar.Grammar.{minus}
use Rattle.rank_text.proofs.GrammarLaws.LexLaws.{stops_never}
use Rattle.rank_text.specs.Printer.Canonical.{operator_text}
use Rattle.rank_text.proofs.PrinterLaws.Fitting.{IsShortName}

-- the byte may go on with a word, a number or a sign
abbrev goes_on : ℕ → Bool
goes_on b = is_word_byte b || nat_eq b 61

-- what follows doesn't
abbrev pub Ends : List ℕ → Type 0
Ends line = StopsAt goes_on line

-- the text has these tokens, whatever follows
abbrev pub Closed : List ℕ → List Token → Type 0
Closed text tokens = (line : List ℕ) (ts : List Token) → Lexes line ts → Lexes (text ++ line) (tokens ++ ts)

-- the text has these tokens, where what follows doesn't go on with it
abbrev pub Reads : List ℕ → List Token → Type 0
Reads text tokens = (line : List ℕ) (ts : List Token) → Ends line → Lexes line ts → Lexes (text ++ line) (tokens ++ ts)

-- two texts, one behind the other
joined : (a b line : List ℕ) (xs ys ts : List Token) → Lexes (a ++ (b ++ line)) (xs ++ (ys ++ ts)) → Lexes ((a ++ b) ++ line) ((xs ++ ys) ++ ts)
joined a b line xs ys ts l =
    subst (λ z. Lexes z ((xs ++ ys) ++ ts)) (sym (append_assoc a b line)) (subst (λ z. Lexes (a ++ (b ++ line)) z) (sym (append_assoc xs ys ts)) l)

-- a text that takes anything behind it, and another
pub closed_then : (a b : List ℕ) (xs ys : List Token) → Closed a xs → Reads b ys → Reads (a ++ b) (xs ++ ys)
closed_then a b xs ys p q = λ line ts e l. joined a b line xs ys ts (p (b ++ line) (ys ++ ts) (q line ts e l))

-- a text with one behind it that doesn't go on with it and that takes anything
pub then_closed : (a b : List ℕ) (xs ys : List Token) → Reads a xs → Closed b ys → ((line : List ℕ) → Ends (b ++ line)) → Closed (a ++ b) (xs ++ ys)
then_closed a b xs ys p q e = λ line ts l. joined a b line xs ys ts (p (b ++ line) (ys ++ ts) (e line) (q line ts l))

-- what takes anything takes what doesn't go on
pub closed_reads : (a : List ℕ) (xs : List Token) → Closed a xs → Reads a xs
closed_reads a xs p = λ line ts e l. p line ts l

-- two texts with a third between them
pub between : (a m b : List ℕ) (xs ms ys : List Token) → Reads a xs → Closed m ms → ((line : List ℕ) → Ends (m ++ line)) → Reads b ys
    → Reads (a ++ m ++ b) (xs ++ (ms ++ ys))
between a m b xs ms ys p q e r =
    subst (λ z. Reads (a ++ m ++ b) z) (append_assoc xs ms ys) (closed_then (a ++ m) b (xs ++ ms) ys (then_closed a m xs ms p q e) r)

-- what doesn't go on with anything doesn't go on with a word
ends_word : (line : List ℕ) → Ends line → StopsAt is_word_byte line
ends_word [] e = tt
ends_word (b ∷ bs) e = (or_parts (is_word_byte b) (nat_eq b 61) e).0

-- nor with a number
pub ends_number : (line : List ℕ) → Ends line → StopsAt is_digit line
ends_number [] e = tt
ends_number (b ∷ bs) e = (or_parts (is_letter b) (is_digit b) (or_parts (is_word_byte b) (nat_eq b 61) e).0).1

-- a symbol that no byte makes longer
symbol_closed : (w : List ℕ) (token : Token) → Symbol w token → ((b : ℕ) → extends w b ≡ false) → Closed w (token ∷ [])
symbol_closed w token y never = λ line ts l. is_symbol w line y (stops_never (extends w) never line) l

-- an opening parenthesis is a token, whatever follows
pub open_closed : Closed (codes "(") (t.OpenParenthesis ∷ [])
open_closed = symbol_closed (codes "(") t.OpenParenthesis is_open_parenthesis (λ b. refl)

-- so is a closing parenthesis
pub close_closed : Closed (codes ")") (t.CloseParenthesis ∷ [])
close_closed = symbol_closed (codes ")") t.CloseParenthesis is_close_parenthesis (λ b. refl)

-- so is the bracket in front of an index
pub bracket_closed : Closed (codes "[") (t.OpenBracket ∷ [])
bracket_closed = symbol_closed (codes "[") t.OpenBracket is_open_bracket (λ b. refl)

-- so is the bracket behind it
pub unbracket_closed : Closed (codes "]") (t.CloseBracket ∷ [])
unbracket_closed = symbol_closed (codes "]") t.CloseBracket is_close_bracket (λ b. refl)

-- so is the sign of a negation
pub minus_closed : Closed (codes "-") (minus ∷ [])
minus_closed = symbol_closed (codes "-") minus is_subtract (λ b. refl)

-- a comma and a space
pub comma_closed : Closed (codes ", ") (t.Comma ∷ [])
comma_closed = λ line ts l. is_symbol (codes ",") (space ∷ line) is_comma refl (is_space l)

-- `=` between spaces
pub assign_closed : Closed (codes " = ") (t.Assign ∷ [])
assign_closed = λ line ts l. is_space (is_symbol (codes "=") (space ∷ line) is_assign refl (is_space l))

-- the end of an index and `=` between spaces
pub assign_item_closed : Closed (codes "] = ") (t.CloseBracket ∷ t.Assign ∷ [])
assign_item_closed = λ line ts l. unbracket_closed (codes " = " ++ line) (t.Assign ∷ ts) (assign_closed line ts l)

-- a symbol between spaces
spaced : (w : List ℕ) (token : Token) → Symbol w token → extends w space ≡ false → (line : List ℕ) (ts : List Token) → Lexes line ts
    → Lexes (space ∷ (w ++ space ∷ line)) (token ∷ ts)
spaced w token y q line ts l = is_space (is_symbol w (space ∷ line) y q (is_space l))

-- an operator between spaces
pub operator_closed : (o : Operator) → Closed (operator_text o) (t.Operator o ∷ [])
operator_closed Add = λ line ts l. spaced (codes "+") _ is_add refl line ts l
operator_closed Subtract = λ line ts l. spaced (codes "-") _ is_subtract refl line ts l
operator_closed Multiply = λ line ts l. spaced (codes "*") _ is_multiply refl line ts l
operator_closed Divide = λ line ts l. spaced (codes "/") _ is_divide refl line ts l
operator_closed Remainder = λ line ts l. spaced (codes "%") _ is_remainder refl line ts l
operator_closed Equal = λ line ts l. spaced (codes "==") _ is_equal refl line ts l
operator_closed NotEqual = λ line ts l. spaced (codes "!=") _ is_not_equal refl line ts l
operator_closed Less = λ line ts l. spaced (codes "<") _ is_less refl line ts l
operator_closed LessEqual = λ line ts l. spaced (codes "<=") _ is_less_equal refl line ts l
operator_closed Greater = λ line ts l. spaced (codes ">") _ is_greater refl line ts l
operator_closed GreaterEqual = λ line ts l. spaced (codes ">=") _ is_greater_equal refl line ts l

-- which doesn't go on with the operand before it
pub operator_ends : (o : Operator) (line : List ℕ) → Ends (operator_text o ++ line)
operator_ends Add line = refl
operator_ends Subtract line = refl
operator_ends Multiply line = refl
operator_ends Divide line = refl
operator_ends Remainder line = refl
operator_ends Equal line = refl
operator_ends NotEqual line = refl
operator_ends Less line = refl
operator_ends LessEqual line = refl
operator_ends Greater line = refl
operator_ends GreaterEqual line = refl

-- a word with this token
pub word_reads : (w : List ℕ) (token : Token) → IsWord w → word_token w ≡ token → Reads w (token ∷ [])
word_reads w token h q = λ line ts e l. subst (λ z. Lexes (w ++ line) (z ∷ ts)) q (is_word w line h (ends_word line e) l)

-- and with a space behind it
pub word_closed : (w : List ℕ) (token : Token) → IsWord w → word_token w ≡ token → (line : List ℕ) (ts : List Token) → Lexes line ts
    → Lexes (w ++ space ∷ line) (token ∷ ts)
word_closed w token h q line ts l = word_reads w token h q (space ∷ line) ts refl (is_space l)

-- a short name is kept whole
name_token : (x : List ℕ) → IsShortName x → word_token x ≡ t.Name x
name_token x h =
    ap (λ o. elim o [ None ↦ t.Name (take 17 x) | Some token ↦ token ]) h.0.1 ∙ ap t.Name (take_all 17 x (omega (arith, h.1)))

-- a short name is the token of that name
pub name_reads : (x : List ℕ) → IsShortName x → Reads x (t.Name x ∷ [])
name_reads x h = word_reads x (t.Name x) h.0.0 (name_token x h)
