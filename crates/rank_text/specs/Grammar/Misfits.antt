-- Where a line's tokens stop to be a statement (the language's own manual, docs/LANGUAGE.md).
use Rattle.std.specs.Prelude.{◌≡◌, List, [], ◌∷◌, ◌++◌}
use Rattle.rank_text.specs.declared.grammar.token.Token.{Token}
use Rattle.rank_text.specs.Grammar.Forms.{Form, IsForm}

-- some form begins with the tokens
abbrev pub BeginsForm : List Token → Type 0
BeginsForm ts = (more : List Token) × (f : Form) × IsForm (ts ++ more) f

-- behind the tokens in front no form goes on: with the next one no form begins, or no next one follows and they are none
abbrev pub EndsForm : List Token → List Token → Type 0
EndsForm front [] = (f : Form) → IsForm front f → ⊥
EndsForm front (token ∷ rest) = BeginsForm (front ++ token ∷ []) → ⊥

-- the line doesn't fit from the rest on: a form begins with the tokens before that, and none goes on there
pub record IsMisfit (tokens rest : List Token) : Type 0 where
  pub front : List Token
  pub is : tokens ≡ front ++ rest
  pub begun : BeginsForm front
  pub ended : EndsForm front rest
