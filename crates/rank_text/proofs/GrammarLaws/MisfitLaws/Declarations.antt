-- Where declarations, assignments and statements of one expression stop.
use Rattle.std.proofs.Common.{ℕ, List, [], ◌∷◌, Ok, refl}
use Rattle.rank_text.specs.declared.grammar.token.Token.TheVariants as t
use Rattle.rank_text.specs.Grammar.Tree.{number}
use Rattle.rank_text.specs.Grammar.Reader.{expression_at, ◌>>=◌, whole_expression}
use Rattle.rank_text.specs.Grammar.Forms.{var_form, array_form, let_form, item_form, if_form, while_form, print_form, bracket_assign, lone_name}
use Rattle.rank_text.specs.Grammar.Forms.{var_of, array_of, let_of, item_of, if_of, while_of, print_of}
use Rattle.rank_text.proofs.GrammarLaws.MisfitLaws.Stopping.{Good, stops_behind}
use Rattle.rank_text.proofs.GrammarLaws.MisfitLaws.Expressions.{expression_front}
use Rattle.rank_text.proofs.GrammarLaws.MisfitLaws.InTurn.{then_good}
use Rattle.rank_text.proofs.GrammarLaws.MisfitLaws.Alike.{made_good}
use Rattle.rank_text.proofs.GrammarLaws.MisfitLaws.Signs.{bracket_good, bracket_needs}
use Rattle.rank_text.proofs.GrammarLaws.MisfitLaws.Arguments.{whole_good, name_good}

-- the reader of an item behind the name of its array is good: an index, a closing bracket, `=` and a value
item_good : (x : List ℕ) → Good (item_of x)
unfolding item_of
item_good x =
    then_good expression_at (λ i us. bracket_assign us >>= (λ vs. whole_expression vs >>= (λ e. Ok (item_form x i e)))) expression_front (λ i. (
      bracket_good (λ vs. whole_expression vs >>= (λ e. Ok (item_form x i e))) (made_good whole_expression (item_form x i) whole_good)
          (t.Number 0 ∷ []) (item_form x i (number 0)) refl,
      bracket_needs (λ vs. whole_expression vs >>= (λ e. Ok (item_form x i e))),
      t.CloseBracket ∷ t.Assign ∷ t.Number 0 ∷ [],
      item_form x i (number 0),
      refl,
    ))

-- the reader of the arguments of `array` is good: a name, and in brackets a number
pub array_good : Good array_of
unfolding array_of
array_good [] = ([], t.Name [] ∷ t.OpenBracket ∷ t.Number 0 ∷ t.CloseBracket ∷ [], array_form [] 0, refl, refl, tt)
array_good (t.Name x ∷ []) = (t.Name x ∷ [], t.OpenBracket ∷ t.Number 0 ∷ t.CloseBracket ∷ [], array_form x 0, refl, refl, tt)
array_good (t.Name x ∷ (t.OpenBracket ∷ [])) = (t.Name x ∷ t.OpenBracket ∷ [], t.Number 0 ∷ t.CloseBracket ∷ [], array_form x 0, refl, refl, tt)
array_good (t.Name x ∷ (t.OpenBracket ∷ (t.Number n ∷ []))) =
    (t.Name x ∷ t.OpenBracket ∷ t.Number n ∷ [], t.CloseBracket ∷ [], array_form x n, refl, refl, tt)
array_good (t.Name x ∷ (t.OpenBracket ∷ (t.Number n ∷ (t.CloseBracket ∷ [])))) = tt
array_good (t.Name x ∷ (t.OpenBracket ∷ (t.Number n ∷ (t.CloseBracket ∷ (token ∷ ts))))) =
    (t.Name x ∷ t.OpenBracket ∷ t.Number n ∷ t.CloseBracket ∷ [], [], array_form x n, refl, refl, λ more. tt)
array_good (t.Name x ∷ (t.OpenBracket ∷ (t.Number n ∷ (token ∷ ts)))) =
    (t.Name x ∷ t.OpenBracket ∷ t.Number n ∷ [], t.CloseBracket ∷ [], array_form x n, refl, refl, λ more. tt)
array_good (t.Name x ∷ (t.OpenBracket ∷ (token ∷ ts))) =
    (t.Name x ∷ t.OpenBracket ∷ [], t.Number 0 ∷ t.CloseBracket ∷ [], array_form x 0, refl, refl, λ more. tt)
array_good (t.Name x ∷ (token ∷ ts)) = (t.Name x ∷ [], t.OpenBracket ∷ t.Number 0 ∷ t.CloseBracket ∷ [], array_form x 0, refl, refl, λ more. tt)
array_good (token ∷ ts) = ([], t.Name [] ∷ t.OpenBracket ∷ t.Number 0 ∷ t.CloseBracket ∷ [], array_form [] 0, refl, refl, λ more. tt)

-- the reader of the arguments of `let` is good: a name or an item, `=` and a value
pub let_good : Good let_of
unfolding let_of
let_good [] = ([], t.Name [] ∷ t.Assign ∷ t.Number 0 ∷ [], let_form [] (number 0), refl, refl, tt)
let_good (t.Name x ∷ []) = (t.Name x ∷ [], t.Assign ∷ t.Number 0 ∷ [], let_form x (number 0), refl, refl, tt)
let_good (t.Name x ∷ (t.Assign ∷ ts)) =
    stops_behind let_of (λ us. let_of (t.Name x ∷ us)) (t.Name x) (λ us. refl) (t.Assign ∷ ts) (whole_expression ts >>= (λ e. Ok (let_form x e)))
    (stops_behind (λ us. let_of (t.Name x ∷ us)) (λ us. whole_expression us >>= (λ e. Ok (let_form x e))) t.Assign (λ us. refl) ts
    (whole_expression ts >>= (λ e. Ok (let_form x e))) (made_good whole_expression (let_form x) whole_good ts))
let_good (t.Name x ∷ (t.OpenBracket ∷ ts)) =
    stops_behind let_of (λ us. let_of (t.Name x ∷ us)) (t.Name x) (λ us. refl) (t.OpenBracket ∷ ts) (item_of x ts)
    (stops_behind (λ us. let_of (t.Name x ∷ us)) (item_of x) t.OpenBracket (λ us. refl) ts (item_of x ts) (item_good x ts))
let_good (t.Name x ∷ (token ∷ ts)) = (t.Name x ∷ [], t.Assign ∷ t.Number 0 ∷ [], let_form x (number 0), refl, refl, λ more. tt)
let_good (token ∷ ts) = ([], t.Name [] ∷ t.Assign ∷ t.Number 0 ∷ [], let_form [] (number 0), refl, refl, λ more. tt)

-- the reader of the arguments of `var` is good
pub var_good : Good var_of
unfolding var_of
var_good = made_good lone_name var_form name_good

-- the reader of the arguments of `if` is good
pub if_good : Good if_of
unfolding if_of
if_good = made_good whole_expression if_form whole_good

-- the reader of the arguments of `while` is good
pub while_good : Good while_of
unfolding while_of
while_good = made_good whole_expression while_form whole_good

-- the reader of the arguments of `print` is good
pub print_good : Good print_of
unfolding print_of
print_good = made_good whole_expression print_form whole_good
