-- A printed line is text, begins with a statement word, and is cut off where its LF stands.
use Rattle.std.proofs.Common.{◌≡◌, ℕ, zero, suc, Bool, true, false, List, [], ◌∷◌, ◌++◌, codes, refl, ap, ◌∙◌, append_assoc, arith}
use Rattle.std.specs.Prelude.{nat_eq, if◌then◌else◌}
use Rattle.std.proofs.lemmas.Bool.{and_from, and_parts}
use Rattle.std.proofs.lemmas.Bool.Decides.{nat_tests}
use Rattle.rank_text.specs.declared.grammar.token.Token.{Token}
use Rattle.rank_text.specs.Grammar.Tokens.{is_letter, is_digit, is_word_byte, is_between, control_words, message_words, reading_words, argument_words}
use Rattle.rank_text.specs.Grammar.Lexes.{AllAre, IsWord, IsNumber, Symbol, Lexes, is_end, is_space, is_word, is_number, is_symbol}
use Rattle.rank_text.specs.Grammar.Lexes.{is_add, is_subtract, is_multiply, is_divide, is_remainder}
use Rattle.rank_text.specs.Grammar.Lexes.{is_open_parenthesis, is_close_parenthesis, is_open_bracket, is_close_bracket, is_comma, is_assign}
use Rattle.rank_text.specs.Grammar.Lexes.{is_less, is_greater, is_equal, is_not_equal, is_less_equal, is_greater_equal}
use Rattle.rank_text.specs.Grammar.Forms.{Form, var_form, array_form, let_form, item_form, if_form, else_form, end_form, while_form}
use Rattle.rank_text.specs.Grammar.Forms.{send_form, recv_form, probe_form, try_probe_form, print_form, barrier_form, bcast_form, reduce_form}
use Rattle.rank_text.specs.Lines.Pieces.{pieces_of, onto_first, without_front}
use Rattle.rank_text.specs.Checker.Lines.{begins_comment, is_skipped, is_text, front_word, is_keyword, is_statement}
use Rattle.rank_text.specs.Grammar.Tokens.{found_in, reserved}
use Rattle.rank_text.specs.Printer.Canonical.{form_text, indentation}

-- two texts, one behind the other
text_append : (a b : List ℕ) → is_text a ≡ true → is_text b ≡ true → is_text (a ++ b) ≡ true
text_append [] b p q = q
text_append (c ∷ a) b p q =
    let h = and_parts (is_between 32 126 c) (is_text a) p in
    and_from (is_between 32 126 c) (is_text (a ++ b)) h.0 (text_append a b h.1 q)

-- each letter is a character of text
letter_text : (b : ℕ) → is_letter b ≡ true → is_between 32 126 b ≡ true
letter_text b h = grind (arith, nat_tests)

-- so is each digit
digit_text : (b : ℕ) → is_digit b ≡ true → is_between 32 126 b ≡ true
digit_text b h = grind (arith, nat_tests)

-- and each byte of a word
word_byte_text : (b : ℕ) → is_word_byte b ≡ true → is_between 32 126 b ≡ true
word_byte_text b h = grind (arith, nat_tests)

-- a run of characters of text is text
run_text : (test : ℕ → Bool) → ((b : ℕ) → test b ≡ true → is_between 32 126 b ≡ true) → (w : List ℕ) → AllAre test w → is_text w ≡ true
run_text test each [] h = refl
run_text test each (b ∷ w) h = and_from (is_between 32 126 b) (is_text w) (each b h.0) (run_text test each w h.1)

-- so is a word
word_text : (w : List ℕ) → IsWord w → is_text w ≡ true
word_text [] h = absurd h
word_text (b ∷ w) h = and_from (is_between 32 126 b) (is_text w) (letter_text b h.0) (run_text is_word_byte word_byte_text w h.1)

-- and a number
number_text : (ds : List ℕ) → IsNumber ds → is_text ds ≡ true
number_text [] h = absurd h
number_text (b ∷ ds) h = and_from (is_between 32 126 b) (is_text ds) (digit_text b h.0) (run_text is_digit digit_text ds h.1)

-- and a symbol
symbol_text : {w : List ℕ} {token : Token} → Symbol w token → is_text w ≡ true
symbol_text is_add = refl
symbol_text is_subtract = refl
symbol_text is_multiply = refl
symbol_text is_divide = refl
symbol_text is_remainder = refl
symbol_text is_open_parenthesis = refl
symbol_text is_close_parenthesis = refl
symbol_text is_open_bracket = refl
symbol_text is_close_bracket = refl
symbol_text is_comma = refl
symbol_text is_assign = refl
symbol_text is_less = refl
symbol_text is_greater = refl
symbol_text is_equal = refl
symbol_text is_not_equal = refl
symbol_text is_less_equal = refl
symbol_text is_greater_equal = refl

-- a line that has tokens is text
pub lexes_text : {line : List ℕ} {ts : List Token} → Lexes line ts → is_text line ≡ true
lexes_text is_end = refl
lexes_text (is_space l) = lexes_text l
lexes_text (is_word w line h s l) = text_append w line (word_text w h) (lexes_text l)
lexes_text (is_number ds line h s l) = text_append ds line (number_text ds h) (lexes_text l)
lexes_text (is_symbol w line y s l) = text_append w line (symbol_text y) (lexes_text l)

-- a statement begins with its word
form_states : (f : Form) → is_keyword (found_in reserved (front_word (without_front 32 (form_text f)))) ≡ true
unfolding control_words message_words reading_words argument_words
form_states (var_form x) = refl
form_states (array_form x n) = refl
form_states (let_form x e) = refl
form_states (item_form x i e) = refl
form_states (if_form e) = refl
form_states else_form = refl
form_states end_form = refl
form_states (while_form e) = refl
form_states (send_form d g p) = refl
form_states (recv_form s g x) = refl
form_states (probe_form s g) = refl
form_states (try_probe_form s g x) = refl
form_states (print_form e) = refl
form_states barrier_form = refl
form_states (bcast_form r x) = refl
form_states (reduce_form o r e x) = refl

-- and so isn't skipped
form_unskipped : (f : Form) → begins_comment (without_front 32 (form_text f)) ≡ false
form_unskipped (var_form x) = refl
form_unskipped (array_form x n) = refl
form_unskipped (let_form x e) = refl
form_unskipped (item_form x i e) = refl
form_unskipped (if_form e) = refl
form_unskipped else_form = refl
form_unskipped end_form = refl
form_unskipped (while_form e) = refl
form_unskipped (send_form d g p) = refl
form_unskipped (recv_form s g x) = refl
form_unskipped (probe_form s g) = refl
form_unskipped (try_probe_form s g x) = refl
form_unskipped (print_form e) = refl
form_unskipped barrier_form = refl
form_unskipped (bcast_form r x) = refl
form_unskipped (reduce_form o r e x) = refl

-- the indentation is only spaces
unindented : (depth : ℕ) (line : List ℕ) → without_front 32 (indentation depth ++ line) ≡ without_front 32 line
unindented zero line = refl
unindented (suc depth) line = unindented depth line

-- a line begins with a statement word
pub line_states : (depth : ℕ) (f : Form) → is_statement (indentation depth ++ form_text f) ≡ true
line_states depth f = ap (λ z. is_keyword (found_in reserved (front_word z))) (unindented depth (form_text f)) ∙ form_states f

-- and isn't skipped
pub line_unskipped : (depth : ℕ) (f : Form) → is_skipped (indentation depth ++ form_text f) ≡ false
line_unskipped depth f = ap begins_comment (unindented depth (form_text f)) ∙ form_unskipped f

-- a character of text is no LF
text_no_lf : (b : ℕ) → is_between 32 126 b ≡ true → nat_eq b 10 ≡ false
text_no_lf b h = grind (arith, nat_tests)

-- a line of text ends at its LF
cut_at : (line rest : List ℕ) → is_text line ≡ true → pieces_of 10 (line ++ 10 ∷ rest) ≡ line ∷ pieces_of 10 rest
cut_at [] rest p = refl
cut_at (b ∷ line) rest p =
    let h = and_parts (is_between 32 126 b) (is_text line) p in
    ap (λ z. if z then [] ∷ pieces_of 10 (line ++ 10 ∷ rest) else onto_first b (pieces_of 10 (line ++ 10 ∷ rest))) (text_no_lf b h.0)
    ∙ ap (onto_first b) (cut_at line rest h.1)

-- the same, where the LF is written as a text of its own
pub line_cut : (line rest : List ℕ) → is_text line ≡ true → pieces_of 10 (line ++ codes "\n" ++ rest) ≡ line ∷ pieces_of 10 rest
line_cut line rest p = ap (pieces_of 10) (append_assoc line (codes "\n") rest) ∙ cut_at line rest p
