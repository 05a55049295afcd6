-- A table in two parts has what the first has, and else what the second has.
use Rattle.std.proofs.Common.{◌≡◌, ℕ, Bool, true, false, List, [], ◌∷◌, ◌++◌, Option, Some, refl}
use Rattle.std.specs.Option.{option_or}
use Rattle.std.specs.Prelude.{if◌then◌else◌}
use Rattle.std.specs.Str.{bytes_eq}
use Rattle.rank_text.specs.declared.grammar.token.Token.{Token}
use Rattle.rank_text.specs.Grammar.Tokens.{found_in}

-- an entry that is met, or what the rest has
entry_or : (z : Bool) (token : Token) (o p q : Option Token) → q ≡ option_or o p → (if z then Some token else q) ≡ option_or (if z then Some token else o) p
entry_or true token o p q h = refl
entry_or false token o p q h = h

-- what two parts of a table have
pub found_in_parts : (rs us : List (List ℕ × Token)) (w : List ℕ) → found_in (rs ++ us) w ≡ option_or (found_in rs w) (found_in us w)
found_in_parts [] us w = refl
found_in_parts (r ∷ rs) us w = entry_or (bytes_eq w r.0) r.1 (found_in rs w) (found_in us w) (found_in (rs ++ us) w) (found_in_parts rs us w)
