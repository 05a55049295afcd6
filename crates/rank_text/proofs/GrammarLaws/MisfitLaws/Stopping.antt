-- What it is that a reader stops at a token, and not before.
--
-- It could have gone on behind the tokens before, and stops there whatever follows.
use Rattle.std.proofs.Common.{◌≡◌, List, [], ◌∷◌, ◌++◌, Ok, Err, ap, ◌∙◌, sym, subst}
use Rattle.rank_text.specs.declared.grammar.misfit.Expected.{Expected}
use Rattle.rank_text.specs.declared.grammar.token.Token.{Token}
use Rattle.rank_text.specs.Grammar.Reader.{Read}
use Rattle.rank_text.proofs.GrammarLaws.Complete.{Ends}

-- nothing was read
abbrev pub Fails : {A : Type 0} → Read A → Type 0
Fails (Ok a) = ⊥
Fails (Err m) = Unit {0}

-- behind the tokens in front the reader stops at the rest, whatever follows the first token of it
abbrev pub Blocks : {A : Type 0} → (List Token → Read A) → List Token → List Token → Type 0
Blocks h front [] = Fails (h front)
Blocks h front (token ∷ rest) = (more : List Token) → Fails (h (front ++ token ∷ more))

-- the reader of all of the tokens stops at the rest, and not before: it reads the tokens in front with some others
abbrev pub Stops : {A : Type 0} → (List Token → Read A) → List Token → List Token → Type 0
Stops {A} h ts rest = (front more : List Token) × (a : A) × (ts ≡ front ++ rest) × (h (front ++ more) ≡ Ok a) × Blocks h front rest

-- so it is where it stops
abbrev pub StopsIf : {A : Type 0} → (List Token → Read A) → List Token → Read A → Type 0
StopsIf h ts (Ok a) = Unit {0}
StopsIf h ts (Err m) = Stops h ts m.0

-- a good reader of all of the tokens: that holds of it
abbrev pub Good : {A : Type 0} → (List Token → Read A) → Type 0
Good h = (ts : List Token) → StopsIf h ts (h ts)

-- what was read from the front is read so before the same next token
abbrev pub AtToken : {A : Type 0} → (List Token → Read (A × List Token)) → List Token → A → List Token → Type 0
AtToken h front a [] = Unit {0}
AtToken h front a (token ∷ rest) = (more : List Token) → h (front ++ token ∷ more) ≡ Ok (a, token ∷ more)

-- the same of a reader of the front: what it reads it reads before all that ends an expression, too
abbrev pub FrontIs : {A : Type 0} → (List Token → Read (A × List Token)) → List Token → Read (A × List Token) → Type 0
FrontIs {A} h ts (Ok r) =
    (front : List Token) × (ts ≡ front ++ r.1) × ((more : List Token) → Ends more → h (front ++ more) ≡ Ok (r.0, more)) × AtToken h front r.0 r.1
FrontIs {A} h ts (Err m) =
    (front more : List Token) × (a : A) × (ts ≡ front ++ m.0)
    × ((tail : List Token) → Ends tail → h (front ++ (more ++ tail)) ≡ Ok (a, tail)) × Blocks h front m.0

-- a good reader of the front: that holds of it
abbrev pub GoodFront : {A : Type 0} → (List Token → Read (A × List Token)) → Type 0
GoodFront h = (ts : List Token) → FrontIs h ts (h ts)

-- the reading fails where there is a misfit
pub fails : {A : Type 0} {o : Read A} {m : List Token × Expected} → o ≡ Err m → Fails o
fails q = subst (λ z. Fails z) (sym q) tt

-- the reader goes on with the rest as another does
abbrev GoesOn : {A : Type 0} → (h k : List Token → Read A) → Token → Type 0
GoesOn h k token = (ts : List Token) → h (token ∷ ts) ≡ k ts

-- so it stops where the other does
blocks_behind : {A : Type 0} (h k : List Token → Read A) (token : Token) → GoesOn h k token → (front rest : List Token)
    → Blocks k front rest → Blocks h (token ∷ front) rest
blocks_behind h k token g front [] b = subst (λ z. Fails z) (sym (g front)) b
blocks_behind h k token g front (x ∷ rest) b = λ more. subst (λ z. Fails z) (sym (g (front ++ x ∷ more))) (b more)

-- and has read the same where the other has
token_behind : {A : Type 0} (h k : List Token → Read (A × List Token)) (token : Token) → GoesOn h k token → (front : List Token) (a : A) (rest : List Token)
    → AtToken k front a rest → AtToken h (token ∷ front) a rest
token_behind h k token g front a [] b = tt
token_behind h k token g front a (x ∷ rest) b = λ more. g (front ++ x ∷ more) ∙ b more

-- so it is a good reader of the front where the other is one
pub front_behind : {A : Type 0} (h k : List Token → Read (A × List Token)) (token : Token) → GoesOn h k token
    → (ts : List Token) (o : Read (A × List Token)) → FrontIs k ts o → FrontIs h (token ∷ ts) o
front_behind h k token g ts (Ok r) b = (
  token ∷ b.0,
  ap (λ z. token ∷ z) b.1,
  λ more e. g (b.0 ++ more) ∙ b.2 more e,
  token_behind h k token g b.0 r.0 r.1 b.3,
)
front_behind h k token g ts (Err m) b = (
  token ∷ b.0,
  b.1,
  b.2,
  ap (λ z. token ∷ z) b.3,
  λ tail e. g (b.0 ++ (b.1 ++ tail)) ∙ b.4 tail e,
  blocks_behind h k token g b.0 m.0 b.5,
)

-- behind a token a reader stops where the one behind the token does
pub stops_behind : {A : Type 0} (h k : List Token → Read A) (token : Token) → GoesOn h k token
    → (ts : List Token) (o : Read A) → StopsIf k ts o → StopsIf h (token ∷ ts) o
stops_behind h k token g ts (Ok a) s = tt
stops_behind h k token g ts (Err m) s =
    (token ∷ s.0, s.1, s.2, ap (λ z. token ∷ z) s.3, g (s.0 ++ s.1) ∙ s.4, blocks_behind h k token g s.0 m.0 s.5)
