-- What a statement declares has a name that isn't reserved: a line's words become names only where the table of reserved words
-- hasn't got them.
use Rattle.std.specs.Prelude.{◌≡◌, ℕ, ◌≤◌, List, [], ◌∷◌, Bool, true, false, take, length, Option, Some, None, if◌then◌else◌}
use Rattle.std.specs.Str.{bytes_eq}
use Rattle.std.proofs.Common.{refl, sym, subst, arith, length-take}
use Rattle.std.proofs.lemmas.List.{take_all}
use Rattle.std.proofs.lemmas.Bool.Decides.{nat_tests}
use Rattle.limits.specs.Limits.{most_name_bytes}
use Rattle.rank_text.specs.Grammar.Name.{kept_bytes}
use Rattle.rank_text.specs.declared.grammar.token.Token.{Token}
use Rattle.rank_text.specs.declared.grammar.token.Token.TheVariants as t
use Rattle.rank_text.specs.Grammar.Tokens.{found_in, reserved, control_words, message_words, reading_words, argument_words}
use Rattle.rank_text.specs.Grammar.Lexes.{IsWord, IsName, word_token, Symbol, is_add, is_subtract, is_multiply}
use Rattle.rank_text.specs.Grammar.Lexes.{is_divide, is_remainder, is_open_parenthesis, is_close_parenthesis}
use Rattle.rank_text.specs.Grammar.Lexes.{is_open_bracket, is_close_bracket, is_comma, is_assign, is_less}
use Rattle.rank_text.specs.Grammar.Lexes.{is_greater, is_equal, is_not_equal, is_less_equal, is_greater_equal, Lexes}
use Rattle.rank_text.specs.Grammar.Lexes.{is_end, is_space, is_word, is_number, is_symbol}
use Rattle.rank_text.specs.Grammar.Forms.{Form, var_form, array_form, IsForm, is_var, is_array, is_let, is_let_item}
use Rattle.rank_text.specs.Grammar.Forms.{is_if, is_else, is_end as is_end_form, is_while, is_send, is_recv, is_probe, is_try_probe}
use Rattle.rank_text.specs.Grammar.Forms.{is_print, is_barrier, is_bcast, is_reduce}
use Rattle.rank_text.specs.Checker.Scope.{Scope, is_past_table, IsNamed}

-- the token is no name
abbrev NoName : Token → Type 0
NoName (t.Name x) = ⊥
NoName _ = Unit {0}

-- what a table has for a word is no name
abbrev FoundNoName : Option Token → Type 0
FoundNoName None = Unit {0}
FoundNoName (Some token) = NoName token

-- no token of a table is a name
abbrev AllNoName : List (List ℕ × Token) → Type 0
AllNoName [] = Unit {0}
AllNoName (r ∷ rs) = NoName r.1 × AllNoName rs

-- a row of the table decides, or the rows behind it
found_either : (b : Bool) (token : Token) (o : Option Token) → NoName token → FoundNoName o → FoundNoName (if b then Some token else o)
found_either true token o h k = h
found_either false token o h k = k

-- what is found in such a table is no name
found_none : (rs : List (List ℕ × Token)) (w : List ℕ) → AllNoName rs → FoundNoName (found_in rs w)
found_none [] w h = tt
found_none (r ∷ rs) w h = found_either (bytes_eq w r.0) r.1 (found_in rs w) h.0 (found_none rs w h.1)

-- no reserved word's token is a name
reserved_none : AllNoName reserved
unfolding control_words message_words reading_words argument_words
reserved_none =
    (tt, (tt, (tt, (tt, (tt, (tt, (tt, (tt, (tt, (tt, (tt, (tt, (tt, (tt, (tt, (tt, (tt, (tt, (tt, (tt, (tt, (tt, (tt, (tt, tt))))))))))))))))))))))))

-- a token that is a name of at most as many bytes as a name may have is a name's
abbrev pub IsNamedToken : Token → Type 0
IsNamedToken (t.Name x) = length x ≤ most_name_bytes → IsName x
IsNamedToken _ = Unit {0}

-- each token is
abbrev pub AllNamedTokens : List Token → Type 0
AllNamedTokens [] = Unit {0}
AllNamedTokens (token ∷ ts) = IsNamedToken token × AllNamedTokens ts

-- of a token that is no name nothing is asked
other_token : (token : Token) → NoName token → IsNamedToken token
other_token (t.Name x) h = absurd h
other_token _ h = tt

-- of at most as many bytes as a name may have none is cut off
uncut : (w : List ℕ) → length (take kept_bytes w) ≤ most_name_bytes → take kept_bytes w ≡ w
uncut w h = take_all kept_bytes w (omega (arith, length-take kept_bytes w))

-- the token of a word, where the table has this for it
word_named_by : (w : List ℕ) (o : Option Token) → IsWord w → found_in reserved w ≡ o → FoundNoName o
    → IsNamedToken (elim o [ None ↦ t.Name (take kept_bytes w) | Some token ↦ token ])
word_named_by w None h q k = λ l. subst IsName (sym (uncut w l)) (h, q)
word_named_by w (Some token) h q k = other_token token k

-- the token of a word
word_named : (w : List ℕ) → IsWord w → IsNamedToken (word_token w)
word_named w h = word_named_by w (found_in reserved w) h refl (found_none reserved w reserved_none)

-- the token of a symbol is no name
symbol_named : {w : List ℕ} {token : Token} → Symbol w token → IsNamedToken token
symbol_named is_add = tt
symbol_named is_subtract = tt
symbol_named is_multiply = tt
symbol_named is_divide = tt
symbol_named is_remainder = tt
symbol_named is_open_parenthesis = tt
symbol_named is_close_parenthesis = tt
symbol_named is_open_bracket = tt
symbol_named is_close_bracket = tt
symbol_named is_comma = tt
symbol_named is_assign = tt
symbol_named is_less = tt
symbol_named is_greater = tt
symbol_named is_equal = tt
symbol_named is_not_equal = tt
symbol_named is_less_equal = tt
symbol_named is_greater_equal = tt

-- the tokens of a line
pub tokens_named : {line : List ℕ} {ts : List Token} → Lexes line ts → AllNamedTokens ts
tokens_named is_end = tt
tokens_named (is_space d) = tokens_named d
tokens_named (is_word w line h s d) = (word_named w h, tokens_named d)
tokens_named (is_number ds line h s d) = (tt, tokens_named d)
tokens_named (is_symbol w line y s d) = (symbol_named y, tokens_named d)

-- a table that has room for a variable has it for a short name
pub short_variable : (s : Scope) (x : List ℕ) → is_past_table s (var_form x) ≡ false → length x ≤ most_name_bytes
short_variable s x q = grind (arith, nat_tests)

-- and one for an array
pub short_array : (s : Scope) (x : List ℕ) (n : ℕ) → is_past_table s (array_form x n) ≡ false → length x ≤ most_name_bytes
short_array s x n q = grind (arith, nat_tests)

-- what a statement of such tokens declares has a name
pub form_named : (s : Scope) {ts : List Token} {f : Form} → IsForm ts f → AllNamedTokens ts → is_past_table s f ≡ false → IsNamed f
form_named s (is_var {x}) h q = h.1.0 (short_variable s x q)
form_named s (is_array {x} {n}) h q = h.1.0 (short_array s x n q)
form_named s (is_let d) h q = tt
form_named s (is_let_item d e) h q = tt
form_named s (is_if d) h q = tt
form_named s is_else h q = tt
form_named s is_end_form h q = tt
form_named s (is_while d) h q = tt
form_named s (is_send d e p) h q = tt
form_named s (is_recv c e) h q = tt
form_named s (is_probe c e) h q = tt
form_named s (is_try_probe c e) h q = tt
form_named s (is_print d) h q = tt
form_named s is_barrier h q = tt
form_named s (is_bcast d) h q = tt
form_named s (is_reduce d e) h q = tt
