-- Signs between arguments, and the end of the line: with what follows them they may stand behind a front.
use Rattle.std.proofs.Common.{◌≡◌, List, [], ◌∷◌, Ok, refl}
use Rattle.rank_text.specs.declared.grammar.token.Token.{Token}
use Rattle.rank_text.specs.declared.grammar.token.Token.TheVariants as t
use Rattle.rank_text.specs.Grammar.Reader.{Read, bare, ◌>>=◌}
use Rattle.rank_text.specs.Grammar.Forms.{comma, bracket_assign}
use Rattle.rank_text.proofs.GrammarLaws.Complete.{Ends}
use Rattle.rank_text.proofs.GrammarLaws.MisfitLaws.Stopping.{Good, stops_behind}
use Rattle.rank_text.proofs.GrammarLaws.MisfitLaws.InTurn.{Follows}

-- the reader of nothing, which gives a value, is good
pub bare_good : {A : Type 0} (a : A) → Good (bare a)
bare_good a [] = tt
bare_good a (token ∷ ts) = ([], [], a, refl, refl, λ more. tt)

-- it reads only where the tokens end
bare_needs : {A : Type 0} (a : A) (ts : List Token) (b : A) → bare a ts ≡ Ok b → Ends ts
bare_needs a [] b q = tt
bare_needs a (token ∷ ts) b q = absurd cc

-- so it may follow a front
pub bare_follows : {A : Type 0} (a : A) → Follows (bare a)
bare_follows a = (bare_good a, bare_needs a, [], a, refl)

-- the reader of a comma and of what a good reader reads is good
comma_good : {B : Type 0} (f : List Token → Read B) → Good f → (more : List Token) (b : B) → f more ≡ Ok b → Good (λ ts. comma ts >>= f)
comma_good f g more b q [] = ([], t.Comma ∷ more, b, refl, q, tt)
comma_good f g more b q (t.Comma ∷ ts) = stops_behind (λ us. comma us >>= f) f t.Comma (λ us. refl) ts (f ts) (g ts)
comma_good f g more b q (token ∷ ts) = ([], t.Comma ∷ more, b, refl, q, λ us. tt)

-- it reads only tokens that begin with a comma
comma_needs : {B : Type 0} (f : List Token → Read B) (ts : List Token) (b : B) → (comma ts >>= f) ≡ Ok b → Ends ts
comma_needs f [] b q = tt
comma_needs f (t.Comma ∷ ts) b q = tt
comma_needs f (token ∷ ts) b q = absurd cc

-- so it may follow a front
pub comma_follows : {B : Type 0} (f : List Token → Read B) → Good f → (more : List Token) (b : B) → f more ≡ Ok b → Follows (λ ts. comma ts >>= f)
comma_follows f g more b q = (comma_good f g more b q, comma_needs f, t.Comma ∷ more, b, q)

-- the reader of a closing bracket, `=` and of what a good reader reads is good
pub bracket_good : {B : Type 0} (f : List Token → Read B) → Good f → (more : List Token) (b : B) → f more ≡ Ok b → Good (λ ts. bracket_assign ts >>= f)
bracket_good f g more b q [] = ([], t.CloseBracket ∷ t.Assign ∷ more, b, refl, q, tt)
bracket_good f g more b q (t.CloseBracket ∷ []) = (t.CloseBracket ∷ [], t.Assign ∷ more, b, refl, q, tt)
bracket_good f g more b q (t.CloseBracket ∷ (t.Assign ∷ ts)) =
    stops_behind (λ us. bracket_assign us >>= f) (λ us. bracket_assign (t.CloseBracket ∷ us) >>= f) t.CloseBracket (λ us. refl) (t.Assign ∷ ts) (f ts)
    (stops_behind (λ us. bracket_assign (t.CloseBracket ∷ us) >>= f) f t.Assign (λ us. refl) ts (f ts) (g ts))
bracket_good f g more b q (t.CloseBracket ∷ (token ∷ ts)) = (t.CloseBracket ∷ [], t.Assign ∷ more, b, refl, q, λ us. tt)
bracket_good f g more b q (token ∷ ts) = ([], t.CloseBracket ∷ t.Assign ∷ more, b, refl, q, λ us. tt)

-- it reads only tokens that begin with a closing bracket
pub bracket_needs : {B : Type 0} (f : List Token → Read B) (ts : List Token) (b : B) → (bracket_assign ts >>= f) ≡ Ok b → Ends ts
bracket_needs f [] b q = tt
bracket_needs f (t.CloseBracket ∷ ts) b q = tt
bracket_needs f (token ∷ ts) b q = absurd cc
