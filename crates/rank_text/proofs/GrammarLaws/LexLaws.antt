-- The tokens that are read from a line are those of the grammar, and no others.
--
-- What the grammar has is read (`lexed`): each word, number or symbol is read from a
-- fresh start up to its end, and the rest likewise. What is read is what the grammar has
-- (`spelled`): what is pending stands for the bytes since its token began (`Stands`), and
-- where it stops those bytes are a token as long as it can be.
use Rattle.std.proofs.Common.{◌≡◌, ℕ, ◌+◌, ◌-◌, ◌*◌, ◌^◌, min, Bool, true, false, ◌||◌, List, [], ◌∷◌, ◌++◌, take, Option, Some, None}
use Rattle.std.proofs.Common.{Result, Ok, Err, IfOk, IfSome, refl, ap, ◌∙◌, sym, subst, append_assoc, arith, inl, inr}
use Rattle.std.specs.Prelude.{nat_eq, if◌then◌else◌}
use Rattle.std.specs.declared.alloc.AllocError.{AllocError}
use Rattle.std.specs.Global.{Vec}
use Rattle.std.proofs.lemmas.Bool.{eqb-true, and_right}
use Rattle.std.proofs.lemmas.Bool.Decides.{nat_tests, eqb_tells}
use Rattle.rank_text.specs.declared.grammar.token.Operator.TheVariants.{Add, Subtract, Multiply, Divide, Remainder}
use Rattle.rank_text.specs.declared.grammar.token.Operator.TheVariants.{Equal, NotEqual, Less, LessEqual, Greater, GreaterEqual}
use Rattle.rank_text.specs.declared.grammar.token.Token.{Token}
use Rattle.rank_text.specs.declared.grammar.token.Token.TheVariants as t
use Rattle.rank_text.specs.Grammar.Tokens.{is_letter, is_digit, is_word_byte, is_sign, word_or_name, with_digit, Pending, nothing, word, digits, sign, whole}
use Rattle.rank_text.specs.Grammar.Tokens.{lone_sign, with_equal, single, listed, held, flushed, begun, grown, and_after, tokens_from, tokens_of}
use Rattle.rank_text.specs.Grammar.Lexes.{AllAre, StopsAt, IsWord, word_token, IsNumber, number_token, value_behind, Symbol, extends}
use Rattle.rank_text.specs.Grammar.Lexes.{Lexes, is_end, is_space, is_word, is_number, is_symbol}
use Rattle.rank_text.specs.Grammar.Lexes.{is_add, is_subtract, is_multiply, is_divide, is_remainder}
use Rattle.rank_text.specs.Grammar.Lexes.{is_open_parenthesis, is_close_parenthesis, is_open_bracket, is_close_bracket, is_comma, is_assign}
use Rattle.rank_text.specs.Grammar.Lexes.{is_less, is_greater, is_equal, is_not_equal, is_less_equal, is_greater_equal}
use Rattle.rank_text.specs.Grammar.SeenTokens.{tokens_in}
use Rattle.rank_text.proofs.GrammarLaws.Lexing.{none_before, after_byte, begins, Stops, stops, failed_where, take_push, min_digit, refused_after, none_after}
use Rattle.rank_text.proofs.GrammarLaws.Lexing.{word_run, digits_run, word_stops, digits_stop, whole_stops, sign_stops, letter_begins, digit_begins}
use Rattle.rank_text.proofs.GrammarLaws.ReservedWords.{same_token}

-- a token in front of the tokens of the rest
abbrev Goes : Token → List ℕ → List ℕ → Type 0
Goes token w line = tokens_from nothing (w ++ line) ≡ and_after (Some (token ∷ [])) (tokens_from nothing line)

-- a word is read up to its end
word_read : (w line : List ℕ) → IsWord w → StopsAt is_word_byte line → Goes (word_token w) w line
word_read [] line h s = absurd h
word_read (b ∷ w) line h s =
    begins (word (b ∷ [])) b (w ++ line) (letter_begins b h.0)
    ∙ word_run w (b ∷ []) line h.1
    ∙ stops (word (take 17 (b ∷ w))) line (word_stops (take 17 (b ∷ w)) line s)
    ∙ ap (λ z. and_after (Some (z ∷ [])) (tokens_from nothing line)) (same_token (b ∷ w))

-- the value of one digit
abbrev first_value : ℕ → ℕ
first_value b = 10 * 0 + (b - 48)

-- a digit by itself is kept whole
digit_value : (b : ℕ) → is_digit b ≡ true → b - 48 ≡ min (first_value b) (2 ^ 63)
digit_value b h = grind (arith, nat_tests)

-- a number is read up to its end
number_read : (ds line : List ℕ) → IsNumber ds → StopsAt is_digit line → Goes (number_token ds) ds line
number_read [] line h s = absurd h
number_read (b ∷ ds) line h s =
    begins (digits (b - 48)) b (ds ++ line) (digit_begins b h.0)
    ∙ ap (λ z. tokens_from (digits z) (ds ++ line)) (digit_value b h.0)
    ∙ digits_run ds (first_value b) line h.1
    ∙ stops (digits (min (value_behind (first_value b) ds) (2 ^ 63))) line (digits_stop (min (value_behind (first_value b) ds) (2 ^ 63)) line s)

-- a token of one byte, or of two that can't be fewer
whole_read : (token : Token) (line : List ℕ) → and_after (Some []) (tokens_from (whole token) line) ≡ and_after (Some (token ∷ [])) (tokens_from nothing line)
whole_read token line = none_before (tokens_from (whole token) line) ∙ stops (whole token) line (whole_stops token line)

-- a sign that `=` doesn't follow
sign_read : (c : ℕ) (token : Token) (line : List ℕ) → lone_sign c ≡ Some token → StopsAt (λ b. nat_eq b 61) line
    → and_after (Some []) (tokens_from (sign c) line) ≡ and_after (Some (token ∷ [])) (tokens_from nothing line)
sign_read c token line q s =
    none_before (tokens_from (sign c) line) ∙ stops (sign c) line (sign_stops c line s) ∙ ap (λ o. and_after (listed o) (tokens_from nothing line)) q

-- a symbol is read up to its end
symbol_read : {w : List ℕ} {token : Token} → Symbol w token → (line : List ℕ) → StopsAt (extends w) line → Goes token w line
symbol_read is_add line s = whole_read (t.Operator Add) line
symbol_read is_subtract line s = whole_read (t.Operator Subtract) line
symbol_read is_multiply line s = whole_read (t.Operator Multiply) line
symbol_read is_divide line s = whole_read (t.Operator Divide) line
symbol_read is_remainder line s = whole_read (t.Operator Remainder) line
symbol_read is_open_parenthesis line s = whole_read t.OpenParenthesis line
symbol_read is_close_parenthesis line s = whole_read t.CloseParenthesis line
symbol_read is_open_bracket line s = whole_read t.OpenBracket line
symbol_read is_close_bracket line s = whole_read t.CloseBracket line
symbol_read is_comma line s = whole_read t.Comma line
symbol_read is_assign line s = sign_read 61 t.Assign line refl s
symbol_read is_less line s = sign_read 60 (t.Operator Less) line refl s
symbol_read is_greater line s = sign_read 62 (t.Operator Greater) line refl s
symbol_read is_equal line s = whole_read (t.Operator Equal) line
symbol_read is_not_equal line s = whole_read (t.Operator NotEqual) line
symbol_read is_less_equal line s = whole_read (t.Operator LessEqual) line
symbol_read is_greater_equal line s = whole_read (t.Operator GreaterEqual) line

-- the tokens of the grammar are those that are read
pub lexed : {line : List ℕ} {ts : List Token} → Lexes line ts → tokens_of line ≡ Some ts
lexed is_end = refl
lexed (is_space {line} d) = none_before (tokens_from nothing line) ∙ lexed d
lexed (is_word w line h s d) = word_read w line h s ∙ ap (λ o. and_after (Some (word_token w ∷ [])) o) (lexed d)
lexed (is_number ds line h s d) = number_read ds line h s ∙ ap (λ o. and_after (Some (number_token ds ∷ [])) o) (lexed d)
lexed (is_symbol w line {token} h s d) = symbol_read h line s ∙ ap (λ o. and_after (Some (token ∷ [])) o) (lexed d)

-- the bytes since the token began that is pending
abbrev Stands : Pending → List ℕ → Type 0
Stands nothing front = (line : List ℕ) (ts : List Token) → Lexes line ts → Lexes (front ++ line) ts
Stands (word w) front = IsWord front × (w ≡ take 17 front)
Stands (digits n) front = IsNumber front × (n ≡ min (value_behind 0 front) (2 ^ 63))
Stands (sign c) front = (is_sign c ≡ true) × (front ≡ c ∷ [])
Stands (whole token) front = Symbol front token × ((b : ℕ) → extends front b ≡ false)

-- the same where something is pending
abbrev StandsIn : Option Pending → List ℕ → Type 0
StandsIn None front = Unit {0}
StandsIn (Some p) front = Stands p front

-- a line has the tokens, where there are any
abbrev pub LexedIs : Option (List Token) → List ℕ → Type 0
LexedIs None line = Unit {0}
LexedIs (Some ts) line = Lexes line ts

-- what holds on both sides of a test
by_cases : (P : Option Pending → Type 0) (z : Bool) (a o : Option Pending) → (z ≡ true → P a) → (z ≡ false → P o) → P (if z then a else o)
by_cases P true a o f g = f refl
by_cases P false a o f g = g refl

-- what holds of a byte's token, and else of the rest
by_byte : (P : ℕ → Option Token → Type 0) (b n : ℕ) (token : Token) (rest : Option Token) → P n (Some token) → P b rest
    → P b (if nat_eq b n then Some token else rest)
by_byte P b n token rest y h =
    elim (eqb_tells b n) [
      | inl e ↦ subst (λ z. P b (if z then Some token else rest)) (sym e.0) (subst (λ x. P x (Some token)) (sym e.1) y)
      | inr e ↦ subst (λ z. P b (if z then Some token else rest)) (sym e.0) h
    ]

-- the bytes are a symbol, where there is a token
abbrev SymbolIs : Option Token → List ℕ → Type 0
SymbolIs None front = Unit {0}
SymbolIs (Some token) front = Symbol front token

-- a sign by itself is a symbol, where it is a token
lone_is : (c : ℕ) → SymbolIs (lone_sign c) (c ∷ [])
lone_is c =
    let P : ℕ → Option Token → Type 0 = λ b o. SymbolIs o (b ∷ []) in
    by_byte P c 61 _ _ is_assign (by_byte P c 60 _ _ is_less (by_byte P c 62 _ _ is_greater tt))

-- what holds of a sign's token and `=`, and else of the rest
by_sign : (P : ℕ → Token → Type 0) (c n : ℕ) (token rest : Token) → P n token → (nat_eq c n ≡ false → P c rest) → P c (if nat_eq c n then token else rest)
by_sign P c n token rest y h =
    elim (eqb_tells c n) [
      | inl e ↦ subst (λ z. P c (if z then token else rest)) (sym e.0) (subst (λ x. P x token) (sym e.1) y)
      | inr e ↦ subst (λ z. P c (if z then token else rest)) (sym e.0) (h e.0)
    ]

-- the last of the signs is `!`
last_sign : (c : ℕ) → is_sign c ≡ true → nat_eq c 61 ≡ false → nat_eq c 60 ≡ false → nat_eq c 62 ≡ false → 33 ≡ c
last_sign c h e f g = grind (arith, nat_tests)

-- a sign and `=` are a symbol
equal_is : (c : ℕ) → is_sign c ≡ true → Symbol (c ∷ 61 ∷ []) (with_equal c)
equal_is c h =
    let P : ℕ → Token → Type 0 = λ b token. Symbol (b ∷ 61 ∷ []) token in
    by_sign P c 61 _ _ is_equal (λ e.
    by_sign P c 60 _ _ is_less_equal (λ f.
    by_sign P c 62 _ _ is_greater_equal (λ g.
    subst (λ x. Symbol (x ∷ 61 ∷ []) (t.Operator NotEqual)) (last_sign c h e f g) is_not_equal)))

-- a byte that stands for itself is a symbol, and none is longer
single_stands : (b : ℕ) → StandsIn (held (single b)) (b ∷ [])
single_stands b =
    let P : ℕ → Option Token → Type 0 = λ b o. StandsIn (held o) (b ∷ []) in
    by_byte P b 43 _ _ (is_add, λ c. refl) (
    by_byte P b 45 _ _ (is_subtract, λ c. refl) (
    by_byte P b 42 _ _ (is_multiply, λ c. refl) (
    by_byte P b 47 _ _ (is_divide, λ c. refl) (
    by_byte P b 37 _ _ (is_remainder, λ c. refl) (
    by_byte P b 40 _ _ (is_open_parenthesis, λ c. refl) (
    by_byte P b 41 _ _ (is_close_parenthesis, λ c. refl) (
    by_byte P b 91 _ _ (is_open_bracket, λ c. refl) (
    by_byte P b 93 _ _ (is_close_bracket, λ c. refl) (
    by_byte P b 44 _ _ (is_comma, λ c. refl) tt)))))))))

-- what begins with a byte stands for it
begins_standing : (b : ℕ) → StandsIn (begun b) (b ∷ [])
begins_standing b =
    let P : Option Pending → Type 0 = λ o. StandsIn o (b ∷ []) in
    by_cases P (nat_eq b 32) _ _ (λ e. λ line ts d. subst (λ x. Lexes (x ∷ line) ts) (sym (eqb-true b 32 e)) (is_space d)) (λ e.
    by_cases P (is_letter b) _ _ (λ h. ((h, tt), refl)) (λ f.
    by_cases P (is_digit b) _ _ (λ h. ((h, tt), digit_value b h)) (λ g.
    by_cases P (is_sign b) _ _ (λ h. (h, refl)) (λ h. single_stands b))))

-- a run goes on by one byte
all_push : (test : ℕ → Bool) (bs : List ℕ) (b : ℕ) → AllAre test bs → test b ≡ true → AllAre test (bs ++ b ∷ [])
all_push test [] b h e = (e, tt)
all_push test (c ∷ bs) b h e = (h.0, all_push test bs b h.1 e)

-- a word goes on by one byte
word_push : (w : List ℕ) (b : ℕ) → IsWord w → is_word_byte b ≡ true → IsWord (w ++ b ∷ [])
word_push [] b h e = absurd h
word_push (c ∷ w) b h e = (h.0, all_push is_word_byte w b h.1 e)

-- a number goes on by one digit
pub number_push : (ds : List ℕ) (b : ℕ) → IsNumber ds → is_digit b ≡ true → IsNumber (ds ++ b ∷ [])
number_push [] b h e = absurd h
number_push (c ∷ ds) b h e = (h.0, all_push is_digit ds b h.1 e)

-- the value of a number with one digit more
pub value_push : (n : ℕ) (ds : List ℕ) (b : ℕ) → value_behind n (ds ++ b ∷ []) ≡ 10 * value_behind n ds + (b - 48)
value_push n [] b = refl
value_push n (d ∷ ds) b = value_push (10 * n + (d - 48)) ds b

-- what goes on with a byte stands for one byte more
grows_standing : (p : Pending) (front : List ℕ) (b : ℕ) → Stands p front → StandsIn (grown p b) (front ++ b ∷ [])
grows_standing nothing front b h = tt
grows_standing (word w) front b h =
    by_cases (λ o. StandsIn o (front ++ b ∷ [])) (is_word_byte b) _ _ (λ e.
    (word_push front b h.0 e, ap (λ z. take 17 (z ++ b ∷ [])) h.1 ∙ take_push 17 front b)) (λ e. tt)
grows_standing (digits n) front b h =
    by_cases (λ o. StandsIn o (front ++ b ∷ [])) (is_digit b) _ _ (λ e. (
      number_push front b h.0 e,
      ap (λ z. with_digit z b) h.1
          ∙ min_digit (value_behind 0 front) (b - 48) (2 ^ 63)
          ∙ ap (λ z. min z (2 ^ 63)) (sym (value_push 0 front b)),
    )) (λ e. tt)
grows_standing (sign c) front b h =
    by_cases (λ o. StandsIn o (front ++ b ∷ [])) (nat_eq b 61) _ _ (λ e.
    subst (λ f. Stands (whole (with_equal c)) (f ++ b ∷ [])) (sym h.1)
    (subst (λ x. Stands (whole (with_equal c)) (c ∷ x ∷ [])) (sym (eqb-true b 61 e)) (equal_is c h.0, λ x. refl))) (λ e. tt)
grows_standing (whole token) front b h = tt

-- a test that always fails stops at once
pub stops_never : (test : ℕ → Bool) → ((b : ℕ) → test b ≡ false) → (line : List ℕ) → StopsAt test line
stops_never test h [] = tt
stops_never test h (b ∷ bs) = h b

-- a word that doesn't grow is as long as it can be
word_ends : (w line : List ℕ) → Stops (word w) line → StopsAt is_word_byte line
word_ends w [] h = tt
word_ends w (b ∷ bs) h = failed_where (is_word_byte b) (word (take 17 (w ++ b ∷ []))) h

-- a number that doesn't grow is as long as it can be
number_ends : (n : ℕ) (line : List ℕ) → Stops (digits n) line → StopsAt is_digit line
number_ends n [] h = tt
number_ends n (b ∷ bs) h = failed_where (is_digit b) (digits (with_digit n b)) h

-- a sign that doesn't grow is as long as it can be
sign_ends : (c : ℕ) (line : List ℕ) → Stops (sign c) line → StopsAt (extends (c ∷ [])) line
sign_ends c [] h = tt
sign_ends c (b ∷ bs) h = and_right (nat_eq c 61 || nat_eq c 60 || nat_eq c 62) (nat_eq b 61) (failed_where (nat_eq b 61) (whole (with_equal c)) h)

-- a symbol, and the tokens of the rest
symbol_ends : (o : Option Token) (front line : List ℕ) (ts : List Token) → SymbolIs o front → StopsAt (extends front) line → Lexes line ts
    → LexedIs (and_after (listed o) (Some ts)) (front ++ line)
symbol_ends None front line ts y s d = tt
symbol_ends (Some token) front line ts y s d = is_symbol front line y s d

-- what is pending, where it stops, and the tokens of the rest
finishes : (p : Pending) (front line : List ℕ) (ts : List Token) → Stands p front → Stops p line → Lexes line ts
    → LexedIs (and_after (flushed p) (Some ts)) (front ++ line)
finishes nothing front line ts h s d = h line ts d
finishes (word w) front line ts h s d =
    subst (λ z. Lexes (front ++ line) (z ∷ ts)) (sym (same_token front) ∙ ap word_or_name (sym h.1)) (is_word front line h.0 (word_ends w line s) d)
finishes (digits n) front line ts h s d =
    subst (λ z. Lexes (front ++ line) (t.Number z ∷ ts)) (sym h.1) (is_number front line h.0 (number_ends n line s) d)
finishes (sign c) front line ts h s d =
    subst (λ f. LexedIs (and_after (listed (lone_sign c)) (Some ts)) (f ++ line)) (sym h.1)
    (symbol_ends (lone_sign c) (c ∷ []) line ts (lone_is c) (sign_ends c line s) d)
finishes (whole token) front line ts h s d = is_symbol front line h.0 (stops_never (extends front) h.1 line) d

-- the same, where the rest may have no tokens
finished : (p : Pending) (front line : List ℕ) (o : Option (List Token)) → Stands p front → Stops p line → LexedIs o line
    → LexedIs (and_after (flushed p) o) (front ++ line)
finished p front line None h s d = subst (λ z. LexedIs z (front ++ line)) (sym (refused_after (flushed p))) tt
finished p front line (Some ts) h s d = finishes p front line ts h s d

-- a byte goes on with what is pending, or begins something behind it
turned : (p : Pending) (front : List ℕ) (b : ℕ) (bs : List ℕ) → Stands p front
    → (g n : Option Pending) → (g ≡ None → grown p b ≡ None) → StandsIn g (front ++ b ∷ []) → StandsIn n (b ∷ [])
    → ((q : Pending) (f : List ℕ) → Stands q f → LexedIs (tokens_from q bs) (f ++ bs)) → LexedIs (after_byte p g n bs) (front ++ b ∷ bs)
turned p front b bs h (Some q) n e k l more = subst (λ z. LexedIs (tokens_from q bs) z) (append_assoc front (b ∷ []) bs) (more q (front ++ b ∷ []) k)
turned p front b bs h None None e k l more = tt
turned p front b bs h None (Some q) e k l more = finished p front (b ∷ bs) (tokens_from q bs) h (e refl) (more q (b ∷ []) l)

-- what is read behind what is pending is what the grammar has
spelled : (line : List ℕ) (p : Pending) (front : List ℕ) → Stands p front → LexedIs (tokens_from p line) (front ++ line)
spelled [] p front h = subst (λ z. LexedIs z (front ++ [])) (none_after (flushed p)) (finishes p front [] [] h tt is_end)
spelled (b ∷ bs) p front h =
    turned p front b bs h (grown p b) (begun b) (λ e. e) (grows_standing p front b h) (begins_standing b) (λ q f k. spelled bs q f k)

-- the tokens that are read from a line are its tokens
pub read_is : (line : List ℕ) → LexedIs (tokens_of line) line
read_is line = spelled line nothing [] (λ line ts d. d)

-- no line has two lists of tokens
pub one_lexing : (line : List ℕ) (ts us : List Token) → Lexes line ts → Lexes line us → ts ≡ us
one_lexing line ts us d e = let q : Some ts ≡ Some us = sym (lexed d) ∙ lexed e in cc

-- what the code has read are the line's tokens
found_of : (o : Option (Vec Token)) (line : List ℕ) → tokens_in o ≡ tokens_of line → IfSome o (λ ts. Lexes line ts.items)
found_of None line q = tt
found_of (Some ts) line q = subst (λ o. LexedIs o line) (sym q) (read_is line)

-- the same of the code's result, unless memory ran out
pub found : (r : Result (Option (Vec Token)) AllocError) (line : List ℕ) → IfOk r (λ o. tokens_in o ≡ tokens_of line)
    → IfOk r (λ o. IfSome o (λ ts. Lexes line ts.items))
found (Ok o) line h = found_of o line h
found (Err e) line h = tt

-- the line's tokens are what the code has read
pub only : (r : Result (Option (Vec Token)) AllocError) (line : List ℕ) → IfOk r (λ o. tokens_in o ≡ tokens_of line)
    → IfOk r (λ o. (ts : List Token) → Lexes line ts → tokens_in o ≡ Some ts)
only (Ok o) line h = λ ts d. h ∙ lexed d
only (Err e) line h = tt
