-- Where names, payloads and patterns stop.
use Rattle.std.proofs.Common.{◌≡◌, List, [], ◌∷◌, ◌++◌, Ok, Err, refl, sym, subst, append-nil}
use Rattle.rank_text.specs.declared.grammar.token.Token.{Token}
use Rattle.rank_text.specs.declared.grammar.token.Token.TheVariants as t
use Rattle.rank_text.specs.Grammar.Tree.{Tree}
use Rattle.rank_text.specs.Grammar.Reader.{Read, expression_at, bare, whole_expression}
use Rattle.rank_text.specs.Grammar.Forms.{any, value, one, lone_name, value_at, pattern_at, whole_pattern, payload_of}
use Rattle.rank_text.proofs.GrammarLaws.FormLaws.{of_value}
use Rattle.rank_text.proofs.GrammarLaws.MisfitLaws.Stopping.{Fails, Blocks, Good, AtToken, FrontIs, GoodFront}
use Rattle.rank_text.proofs.GrammarLaws.MisfitLaws.Expressions.{expression_front}
use Rattle.rank_text.proofs.GrammarLaws.MisfitLaws.InTurn.{then_good}
use Rattle.rank_text.proofs.GrammarLaws.MisfitLaws.Alike.{Alike, good_alike, made_alike}
use Rattle.rank_text.proofs.GrammarLaws.MisfitLaws.Signs.{bare_follows}

-- the reader of a whole expression is good
pub whole_good : Good whole_expression
whole_good = then_good expression_at bare expression_front bare_follows

-- the reader of a lone name is good
pub name_good : Good lone_name
name_good [] = ([], t.Name [] ∷ [], [], refl, refl, tt)
name_good (t.Name x ∷ []) = tt
name_good (t.Name x ∷ (token ∷ ts)) = (t.Name x ∷ [], [], x, refl, refl, λ more. tt)
name_good (token ∷ ts) = ([], t.Name [] ∷ [], [], refl, refl, λ more. tt)

-- a payload stops as an expression does
payload_alike : (ts : List Token) → Alike (whole_expression ts) (payload_of ts)
payload_alike [] = refl
payload_alike (t.Name x ∷ []) = tt
payload_alike (t.Name x ∷ (y ∷ ts)) = made_alike (whole_expression (t.Name x ∷ (y ∷ ts))) one
payload_alike (token ∷ ts) = made_alike (whole_expression (token ∷ ts)) one

-- so the reader of a payload is good
pub payload_good : Good payload_of
payload_good = good_alike whole_expression payload_of payload_alike whole_good

-- the tokens don't begin with `any`
abbrev NotAny : List Token → Type 0
NotAny [] = Unit {0}
NotAny (t.Any ∷ ts) = ⊥
NotAny (_ ∷ ts) = Unit {0}

-- whether they do says their first token
not_any_first : (token : Token) (ts us : List Token) → NotAny (token ∷ ts) → NotAny (token ∷ us)
not_any_first t.Any ts us h = absurd h
not_any_first _ ts us h = tt

-- so it is behind a front: the tokens after the same next token may be any
not_any_at : (front : List Token) (token : Token) (ts us : List Token) → NotAny (front ++ token ∷ ts) → NotAny (front ++ token ∷ us)
not_any_at [] token ts us h = not_any_first token ts us h
not_any_at (x ∷ front) token ts us h = not_any_first x (front ++ token ∷ ts) (front ++ token ∷ us) h

-- then a pattern is an expression
pattern_value : (ts : List Token) → NotAny ts → pattern_at ts ≡ value_at ts (expression_at ts)
pattern_value [] h = refl
pattern_value (t.Any ∷ ts) h = absurd h
pattern_value (_ ∷ ts) h = refl

-- where no expression is read, no pattern is made of one
value_fails : (ts : List Token) (o : Read (Tree × List Token)) → Fails o → Fails (value_at ts o)
value_fails ts (Ok e) h = absurd h
value_fails ts (Err m) h = tt

-- so no pattern is read there, if the tokens don't begin with `any`
pattern_fails : (ts : List Token) → NotAny ts → Fails (expression_at ts) → Fails (pattern_at ts)
pattern_fails ts n h = subst (λ z. Fails z) (sym (pattern_value ts n)) (value_fails ts (expression_at ts) h)

-- where an expression stops whatever follows, the pattern does
pattern_blocks : (front rest : List Token) → NotAny (front ++ rest) → Blocks expression_at front rest → Blocks pattern_at front rest
pattern_blocks front [] n b = pattern_fails front (subst (λ z. NotAny z) (append-nil front) n) b
pattern_blocks front (token ∷ rest) n b = λ more. pattern_fails (front ++ token ∷ more) (not_any_at front token rest more n) (b more)

-- before the token where an expression was read, the pattern is read too
pattern_token : (front : List Token) (e : Tree) (rest : List Token) → AtToken expression_at front e rest → AtToken pattern_at front (value e) rest
pattern_token front e [] b = tt
pattern_token front e (token ∷ rest) b = λ more. of_value (front ++ token ∷ more) (token ∷ more) (b more)

-- so where the tokens don't begin with `any`, a pattern is read from the front as an expression is
value_front : (ts : List Token) → NotAny ts → (o : Read (Tree × List Token)) → FrontIs expression_at ts o → FrontIs pattern_at ts (value_at ts o)
value_front ts n (Ok e) w = (w.0, w.1, λ more h. of_value (w.0 ++ more) more (w.2 more h), pattern_token w.0 e.0 e.1 w.3)
value_front ts n (Err m) w = (
  w.0,
  w.1,
  value w.2,
  w.3,
  λ tail h. of_value (w.0 ++ (w.1 ++ tail)) tail (w.4 tail h),
  pattern_blocks w.0 m.0 (subst (λ z. NotAny z) w.3 n) w.5,
)

-- behind `any` all is left
any_token : (ts : List Token) → AtToken pattern_at (t.Any ∷ []) any ts
any_token [] = tt
any_token (token ∷ ts) = λ more. refl

-- the reader of a pattern is a good reader of the front
pub pattern_front : GoodFront pattern_at
pattern_front [] = value_front [] tt (expression_at []) (expression_front [])
pattern_front (t.Any ∷ ts) = (t.Any ∷ [], refl, λ more h. refl, any_token ts)
pattern_front (token ∷ ts) = value_front (token ∷ ts) tt (expression_at (token ∷ ts)) (expression_front (token ∷ ts))

-- the reader of a whole pattern is good
pub whole_pattern_good : Good whole_pattern
whole_pattern_good = then_good pattern_at bare pattern_front bare_follows
