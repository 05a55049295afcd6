-- A code of placed expressions: lists of words, each word after what it works on. By it a proof tells programs apart.
use Rattle.std.specs.Prelude.{◌≡◌, ℕ, ℤ, pos, List, [], ◌∷◌, ◌⊎◌, refl}
use Rattle.std.proofs.Common.{inl, inr, ap, ◌∙◌}
use Rattle.std.specs.Coded.{Coded, code_by, coded_ℕ, coded_ℤ, coded_list, coded⊎}
use base.Stored.{coded_unit}
use Rattle.rank_text.specs.declared.grammar.token.Operator.{Operator}
use Rattle.rank_text.specs.declared.grammar.token.Reading.{Reading}
use Rattle.rank_text.specs.contracts.grammar.token.Operator as operators
use Rattle.rank_text.specs.contracts.grammar.token.Reading as readings
use Rattle.rank_language.specs.Placed.{Placed, number, variable, item, reading, negation, operation}

-- a number, a variable's place, an array's place, a read-only word, a negation, an operator
abbrev Word : Type 0
Word = ℤ ⊎ (ℕ ⊎ (ℕ ⊎ (Reading ⊎ (Unit {0} ⊎ Operator))))

-- the words of an expression, and others behind them
abbrev words : Placed → List Word → List Word
words (number n) ws = inl n ∷ ws
words (variable p) ws = inr (inl p) ∷ ws
words (item p e) ws = words e (inr (inr (inl p)) ∷ ws)
words (reading r) ws = inr (inr (inr (inl r))) ∷ ws
words (negation e) ws = words e (inr (inr (inr (inr (inl tt)))) ∷ ws)
words (operation o a b) ws = words a (words b (inr (inr (inr (inr (inr o)))) ∷ ws))

-- an index by the last expression
abbrev indexed : ℕ → List Placed → List Placed
indexed p [] = []
indexed p (e ∷ es) = item p e ∷ es

-- the last expression negated
abbrev negated : List Placed → List Placed
negated [] = []
negated (e ∷ es) = negation e ∷ es

-- an operation on the last two expressions
abbrev operated : Operator → List Placed → List Placed
operated o (b ∷ (a ∷ es)) = operation o a b ∷ es
operated o [] = []
operated o (b ∷ []) = []

-- a word after these expressions, the last of them first
abbrev built : Word → List Placed → List Placed
built (inl n) es = number n ∷ es
built (inr (inl p)) es = variable p ∷ es
built (inr (inr (inl p))) es = indexed p es
built (inr (inr (inr (inl r)))) es = reading r ∷ es
built (inr (inr (inr (inr (inl u))))) es = negated es
built (inr (inr (inr (inr (inr o))))) es = operated o es

-- words after these expressions
abbrev read : List Word → List Placed → List Placed
read [] es = es
read (w ∷ ws) es = read ws (built w es)

-- the expression read last
abbrev last_read : List Placed → Placed
last_read [] = number (pos 0)
last_read (e ∷ es) = e

-- reading the words of an expression puts it before what was read
read_words : (e : Placed) (ws : List Word) (es : List Placed) → read (words e ws) es ≡ read ws (e ∷ es)
read_words (number n) ws es = refl
read_words (variable p) ws es = refl
read_words (item p e) ws es = read_words e (inr (inr (inl p)) ∷ ws) es
read_words (reading r) ws es = refl
read_words (negation e) ws es = read_words e (inr (inr (inr (inr (inl tt)))) ∷ ws) es
read_words (operation o a b) ws es =
    let w : Word = inr (inr (inr (inr (inr o)))) in
    read_words a (words b (w ∷ ws)) es ∙ read_words b (w ∷ ws) (a ∷ es)

-- an expression is read back from its words
pub words_back : (e : Placed) → last_read (read (words e []) []) ≡ e
words_back e = ap last_read (read_words e [] [])

-- the code of placed expressions
abbrev pub placed_code : Coded Placed
placed_code =
    code_by (List Word)
    (coded_list (coded⊎ coded_ℤ (coded⊎ coded_ℕ (coded⊎ coded_ℕ (coded⊎ readings.the_row.coded (coded⊎ coded_unit operators.the_row.coded))))))
    (λ e. words e []) (λ ws. last_read (read ws [])) words_back
