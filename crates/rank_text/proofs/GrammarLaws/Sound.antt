-- What is read is spelled.
use Rattle.std.proofs.Common.{◌≡◌, ℕ, zero, suc, List, [], ◌∷◌, ◌++◌, Option, Some, None, Ok, Err, refl, ap, ◌∙◌, sym, subst, append_assoc, append-nil, replicate}
use Rattle.rank_text.specs.declared.grammar.token.Operator.{Operator}
use Rattle.rank_text.specs.declared.grammar.token.Operator.TheVariants.{Subtract}
use Rattle.rank_text.specs.declared.grammar.token.Strength.{Strength}
use Rattle.rank_text.specs.declared.grammar.token.Strength.TheVariants.{Compares, Adds, Multiplies}
use Rattle.rank_text.specs.declared.grammar.token.Token.{Token}
use Rattle.rank_text.specs.declared.grammar.token.Token.TheVariants as t
use Rattle.rank_text.specs.Grammar.Tree.{Tree, number, variable, item, reading, negation}
use Rattle.rank_text.specs.Grammar.Grammar.{strength, minus, Rule, whole, sum, product, unary, atom}
use Rattle.rank_text.specs.Grammar.Grammar.{Spells, is_number, is_variable, is_reading, is_item, in_parentheses, is_atom, negated, is_unary}
use Rattle.rank_text.specs.Grammar.Grammar.{multiplied, is_product, added, is_sum, compared}
use Rattle.rank_text.specs.Grammar.Reader.{Left, Level, Bracket, parenthesis, index_of, Stack, State, wants, named, has}
use Rattle.rank_text.specs.Grammar.Reader.{join, negate, fresh, arrive, all_of, operate, close, have_next, sign, next, end_tree, end_before, with_rest, go_on, Read, read, expression_at}

-- a left operand and its operator stand there
abbrev pub LeftIs : Rule → Strength → Left → List Token → Type 0
LeftIs r k None ts = ts ≡ []
LeftIs r k (Some l) ts = (xs : List Token) × Spells r xs l.0 × (strength l.1 ≡ k) × (ts ≡ xs ++ t.Operator l.1 ∷ [])

-- what stands before an operand is spelled by these: three left operands, the loosest first, and the signs
pub record LevelIs (f : Level) (ts : List Token) : Type 0 where
  pub cs : List Token
  pub xs : List Token
  pub ms : List Token
  pub c : LeftIs sum Compares f.compared cs
  pub a : LeftIs sum Adds f.added xs
  pub m : LeftIs product Multiplies f.multiplied ms
  pub is : ts ≡ cs ++ (xs ++ (ms ++ replicate f.minuses minus))

-- the tokens that open the bracket
abbrev pub opening : Bracket → List Token
opening parenthesis = t.OpenParenthesis ∷ []
opening (index_of x) = t.Name x ∷ t.OpenBracket ∷ []

-- the tokens up to the innermost open bracket, with it
abbrev pub StackIs : Stack → List Token → Type 0
StackIs [] ts = ts ≡ []
StackIs (b ∷ s) ts = (us vs : List Token) × StackIs s us × LevelIs b.1 vs × (ts ≡ us ++ (vs ++ opening b.0))

-- the tokens that have led to a state
abbrev pub StateIs : State → List Token → Type 0
StateIs (wants f s) ts = (us vs : List Token) × StackIs s us × LevelIs f vs × (ts ≡ us ++ vs)
StateIs (named f s x) ts = (us vs : List Token) × StackIs s us × LevelIs f vs × (ts ≡ us ++ (vs ++ t.Name x ∷ []))
StateIs (has c a s e) ts =
    (us cs xs ps : List Token) × StackIs s us × LeftIs sum Compares c cs × LeftIs sum Adds a xs × Spells product ps e × (ts ≡ us ++ (cs ++ (xs ++ ps)))

-- the same tokens spell the same expression
respelled : {r : Rule} {e : Tree} {ts us : List Token} → ts ≡ us → Spells r ts e → Spells r us e
respelled {r} {e} q d = subst (λ z. Spells r z e) q d

-- a left operand, its operator, and what follows
left_front : (xs ts : List Token) (o : Operator) (ys : List Token) → ts ≡ xs ++ t.Operator o ∷ [] → xs ++ (t.Operator o ∷ ys) ≡ ts ++ ys
left_front xs ts o ys q = sym (append_assoc xs (t.Operator o ∷ []) ys) ∙ ap (λ z. z ++ ys) (sym q)

-- behind the product that waits for it a unary expression makes a product
join_product : (m : Left) (ms ps : List Token) (e : Tree) → LeftIs product Multiplies m ms → Spells unary ps e → Spells product (ms ++ ps) (join m e)
join_product None ms ps e h d = respelled (ap (λ z. z ++ ps) (sym h)) (is_unary d)
join_product (Some l) ms ps e h d = respelled (left_front h.0 ms l.1 ps h.3) (multiplied h.2 h.1 d)

-- behind the sum that waits for it a product makes a sum
join_sum : (a : Left) (xs ps : List Token) (e : Tree) → LeftIs sum Adds a xs → Spells product ps e → Spells sum (xs ++ ps) (join a e)
join_sum None xs ps e h d = respelled (ap (λ z. z ++ ps) (sym h)) (is_product d)
join_sum (Some l) xs ps e h d = respelled (left_front h.0 xs l.1 ps h.3) (added h.2 h.1 d)

-- behind what is compared with it a sum makes a whole expression
join_whole : (c : Left) (cs ps : List Token) (e : Tree) → LeftIs sum Compares c cs → Spells sum ps e → Spells whole (cs ++ ps) (join c e)
join_whole None cs ps e h d = respelled (ap (λ z. z ++ ps) (sym h)) (is_sum d)
join_whole (Some l) cs ps e h d = respelled (left_front h.0 cs l.1 ps h.3) (compared h.2 h.1 d)

-- a sign behind others is the same as one in front of them
minus_inside : (n : ℕ) (ts : List Token) → replicate n minus ++ (minus ∷ ts) ≡ minus ∷ (replicate n minus ++ ts)
minus_inside zero ts = refl
minus_inside (suc n) ts = ap (λ z. minus ∷ z) (minus_inside n ts)

-- signs in front of a unary expression negate it, each once
with_signs : (n : ℕ) (ts : List Token) (e : Tree) → Spells unary ts e → Spells unary (replicate n minus ++ ts) (negate n e)
with_signs zero ts e d = d
with_signs (suc n) ts e d = respelled (minus_inside n ts) (with_signs n (minus ∷ ts) (negation e) (negated d))

-- an operand arrives
arrives : (f : Level) (s : Stack) (us vs ts : List Token) (e : Tree) → StackIs s us → LevelIs f vs → Spells atom ts e
    → StateIs (arrive f s e) ((us ++ vs) ++ ts)
arrives f s us vs ts e hs hf d =
    let ps = hf.ms ++ (replicate f.minuses minus ++ ts) in
    let dp = join_product f.multiplied hf.ms (replicate f.minuses minus ++ ts) (negate f.minuses e) hf.m (with_signs f.minuses ts e (is_atom d)) in
    (us, hf.cs, hf.xs, ps, hs, hf.c, hf.a, dp, append_assoc us vs ts ∙ ap (λ z. us ++ (z ++ ts)) hf.is ∙ simp append_assoc)

-- a name that arrives is a variable
named_is : (f : Level) (s : Stack) (x : List ℕ) (done : List Token) → StateIs (named f s x) done → StateIs (arrive f s (variable x)) done
named_is f s x done h =
    subst (λ z. StateIs (arrive f s (variable x)) z) (append_assoc h.0 h.1 (t.Name x ∷ []) ∙ sym h.4)
    (arrives f s h.0 h.1 (t.Name x ∷ []) (variable x) h.2 h.3 is_variable)

-- the same, where there is a state
abbrev NextIs : Option State → List Token → Type 0
NextIs None ts = Unit {0}
NextIs (Some st) ts = StateIs st ts

-- the tokens from the last bracket on are a whole expression
whole_is : (c a : Left) (s : Stack) (e : Tree) (done : List Token) → StateIs (has c a s e) done
    → (us ts : List Token) × StackIs s us × Spells whole ts (all_of c a e) × (done ≡ us ++ ts)
whole_is c a s e done h =
    (h.0, h.1 ++ (h.2 ++ h.3), h.4, join_whole c h.1 (h.2 ++ h.3) (join a e) h.5 (join_sum a h.2 h.3 e h.6 h.7), h.8)

-- an operator behind a product has on its left what was read, back to what binds less strongly
operated : (o : Operator) (k : Strength) → strength o ≡ k → (c a : Left) (s : Stack) (e : Tree) (done : List Token) → StateIs (has c a s e) done
    → NextIs (operate k o c a s e) (done ++ t.Operator o ∷ [])
operated o Multiplies q c a s e done h = (
  h.0,
  h.1 ++ (h.2 ++ (h.3 ++ t.Operator o ∷ [])),
  h.4,
  record {
    cs = h.1;
    xs = h.2;
    ms = h.3 ++ t.Operator o ∷ [];
    c = h.5;
    a = h.6;
    m = (h.3, h.7, q, refl);
    is = ap (λ z. h.1 ++ (h.2 ++ z)) (sym (append-nil (h.3 ++ t.Operator o ∷ [])));
  },
  ap (λ z. z ++ t.Operator o ∷ []) h.8 ∙ simp append_assoc,
)
operated o Adds q c a s e done h =
    let d = join_sum a h.2 h.3 e h.6 h.7 in (
      h.0,
      h.1 ++ ((h.2 ++ h.3) ++ t.Operator o ∷ []),
      h.4,
      record {
        cs = h.1;
        xs = (h.2 ++ h.3) ++ t.Operator o ∷ [];
        ms = [];
        c = h.5;
        a = (h.2 ++ h.3, d, q, refl);
        m = refl;
        is = ap (λ z. h.1 ++ z) (sym (append-nil ((h.2 ++ h.3) ++ t.Operator o ∷ [])));
      },
      ap (λ z. z ++ t.Operator o ∷ []) h.8 ∙ simp append_assoc,
    )
operated o Compares q None a s e done h =
    let d = join_sum a h.2 h.3 e h.6 h.7 in (
      h.0,
      (h.2 ++ h.3) ++ t.Operator o ∷ [],
      h.4,
      record {
        cs = (h.2 ++ h.3) ++ t.Operator o ∷ [];
        xs = [];
        ms = [];
        c = (h.2 ++ h.3, d, q, refl);
        a = refl;
        m = refl;
        is = sym (append-nil ((h.2 ++ h.3) ++ t.Operator o ∷ []));
      },
      ap (λ z. z ++ t.Operator o ∷ []) (h.8 ∙ ap (λ z. h.0 ++ (z ++ (h.2 ++ h.3))) h.5) ∙ simp append_assoc,
    )
operated o Compares q (Some l) a s e done h = tt

-- the tokens of a bracket, from the one that opens it to the one that closes it, stand behind those before it
reopened : (us vs xs ts ys : List Token) → us ≡ xs ++ (vs ++ ts) → (zs : List Token) → (xs ++ vs) ++ (ts ++ (ys ++ zs)) ≡ (us ++ ys) ++ zs
reopened us vs xs ts ys q zs =
    let r : (xs ++ vs) ++ (ts ++ (ys ++ zs)) ≡ ((xs ++ (vs ++ ts)) ++ ys) ++ zs = simp append_assoc in
    r ∙ ap (λ z. (z ++ ys) ++ zs) (sym q)

-- a bracket that closes makes an operand of the expression behind the one that opens
closes : (token : Token) (s : Stack) (e : Tree) (us ts : List Token) → StackIs s us → Spells whole ts e → NextIs (close token s e) ((us ++ ts) ++ token ∷ [])
closes t.CloseParenthesis ((parenthesis, f) ∷ s) e us ts hs d =
    subst (λ z. StateIs (arrive f s e) z) (reopened us hs.1 hs.0 (t.OpenParenthesis ∷ []) ts hs.4 (t.CloseParenthesis ∷ []))
    (arrives f s hs.0 hs.1 (t.OpenParenthesis ∷ (ts ++ t.CloseParenthesis ∷ [])) e hs.2 hs.3 (in_parentheses d))
closes t.CloseBracket ((index_of x, f) ∷ s) e us ts hs d =
    subst (λ z. StateIs (arrive f s (item x e)) z) (reopened us hs.1 hs.0 (t.Name x ∷ t.OpenBracket ∷ []) ts hs.4 (t.CloseBracket ∷ []))
    (arrives f s hs.0 hs.1 (t.Name x ∷ t.OpenBracket ∷ (ts ++ t.CloseBracket ∷ [])) (item x e) hs.2 hs.3 (is_item d))
closes _ _ e us ts hs d = tt

-- a bracket that closes behind a product makes an operand of it and what waits for it
closed : (token : Token) (c a : Left) (s : Stack) (e : Tree) (done : List Token) → StateIs (has c a s e) done
    → NextIs (close token s (all_of c a e)) (done ++ token ∷ [])
closed token c a s e done h =
    let w = whole_is c a s e done h in
    subst (λ z. NextIs (close token s (all_of c a e)) (z ++ token ∷ [])) (sym w.4) (closes token s (all_of c a e) w.0 w.1 w.2 w.3)

-- each token behind a product leads to the next state
has_next : (token : Token) (c a : Left) (s : Stack) (e : Tree) (done : List Token) → StateIs (has c a s e) done
    → NextIs (have_next c a s e token) (done ++ token ∷ [])
has_next (t.Operator o) c a s e done h = operated o (strength o) refl c a s e done h
has_next token c a s e done h = closed token c a s e done h

-- nothing stands before a first operand, and no tokens spell that
fresh_is : LevelIs fresh []
fresh_is = record { cs = []; xs = []; ms = []; c = refl; a = refl; m = refl; is = refl }

-- a bracket that opens is the innermost, and an operand is wanted in it
opens : (b : Bracket) (f : Level) (s : Stack) (us vs : List Token) → StackIs s us → LevelIs f vs
    → (ts : List Token) → ts ≡ us ++ (vs ++ opening b) → StateIs (wants fresh ((b, f) ∷ s)) ts
opens b f s us vs hs hf ts q = (ts, [], (us, vs, hs, hf, q), fresh_is, sym (append-nil ts))

-- a sign behind others, with nothing after it, is the same as one in front of them
replicate-push : (n : ℕ) → replicate n minus ++ minus ∷ [] ≡ minus ∷ replicate n minus
replicate-push n = minus_inside n [] ∙ ap (λ z. minus ∷ z) (append-nil (replicate n minus))

-- a minus where an operand is wanted is one sign more
signed : (o : Operator) (f : Level) (s : Stack) (done : List Token) → StateIs (wants f s) done → NextIs (sign o f s) (done ++ t.Operator o ∷ [])
signed Subtract f s done h =
    let g = h.3 in
    let q : (h.0 ++ h.1) ++ minus ∷ [] ≡ h.0 ++ (h.1 ++ minus ∷ []) = append_assoc h.0 h.1 (minus ∷ []) in
    let r : (g.cs ++ (g.xs ++ (g.ms ++ replicate f.minuses minus))) ++ minus ∷ [] ≡ g.cs ++ (g.xs ++ (g.ms ++ (replicate f.minuses minus ++ minus ∷ []))) =
    simp append_assoc in (
      h.0,
      h.1 ++ minus ∷ [],
      h.2,
      record {
        cs = g.cs;
        xs = g.xs;
        ms = g.ms;
        c = g.c;
        a = g.a;
        m = g.m;
        is = ap (λ z. z ++ minus ∷ []) g.is ∙ r ∙ ap (λ z. g.cs ++ (g.xs ++ (g.ms ++ z))) (replicate-push f.minuses);
      },
      ap (λ z. z ++ minus ∷ []) h.4 ∙ q,
    )
signed _ f s done h = tt

-- a token that is an operand by itself arrives
arrived : (f : Level) (s : Stack) (token : Token) (e : Tree) (done : List Token) → StateIs (wants f s) done → Spells atom (token ∷ []) e
    → StateIs (arrive f s e) (done ++ token ∷ [])
arrived f s token e done h d =
    subst (λ z. StateIs (arrive f s e) (z ++ token ∷ [])) (sym h.4) (arrives f s h.0 h.1 (token ∷ []) e h.2 h.3 d)

-- one token more leads from a state to the next one
next_is : (st : State) (token : Token) (done : List Token) → StateIs st done → NextIs (next st token) (done ++ token ∷ [])
next_is (wants f s) (t.Number n) done h = arrived f s (t.Number n) (number n) done h is_number
next_is (wants f s) (t.Name x) done h = (h.0, h.1, h.2, h.3, ap (λ z. z ++ t.Name x ∷ []) h.4 ∙ append_assoc h.0 h.1 (t.Name x ∷ []))
next_is (wants f s) (t.Reading r) done h = arrived f s (t.Reading r) (reading r) done h is_reading
next_is (wants f s) t.OpenParenthesis done h =
    opens parenthesis f s h.0 h.1 h.2 h.3 (done ++ t.OpenParenthesis ∷ [])
    (ap (λ z. z ++ t.OpenParenthesis ∷ []) h.4 ∙ append_assoc h.0 h.1 (t.OpenParenthesis ∷ []))
next_is (wants f s) (t.Operator o) done h = signed o f s done h
next_is (wants f s) _ done h = tt
next_is (named f s x) t.OpenBracket done h =
    let q : (h.0 ++ (h.1 ++ t.Name x ∷ [])) ++ t.OpenBracket ∷ [] ≡ h.0 ++ (h.1 ++ (t.Name x ∷ t.OpenBracket ∷ [])) = simp append_assoc in
    opens (index_of x) f s h.0 h.1 h.2 h.3 (done ++ t.OpenBracket ∷ []) (ap (λ z. z ++ t.OpenBracket ∷ []) h.4 ∙ q)
next_is (named f s x) token done h = has_next token f.compared f.added s (join f.multiplied (negate f.minuses (variable x))) done (named_is f s x done h)
next_is (has c a s e) token done h = has_next token c a s e done h

-- of what was read, the tokens so far and some more spell the expression
abbrev pub ReadIs : Read (Tree × List Token) → List Token → List Token → Type 0
ReadIs (Err m) done ts = Unit {0}
ReadIs (Ok r) done ts = (us : List Token) × Spells whole us r.0 × (done ++ ts ≡ us ++ r.1)

-- outside brackets a product, with what waits for it, is all of the expression
ended_has : (c a : Left) (s : Stack) (e : Tree) (done rest : List Token) → StateIs (has c a s e) done
    → ReadIs (with_rest (end_tree (has c a s e)) rest) done rest
ended_has c a [] e done rest h =
    let w = whole_is c a [] e done h in
    (w.1, w.3, ap (λ z. z ++ rest) (w.4 ∙ ap (λ z. z ++ w.1) w.2))
ended_has c a (b ∷ s) e done rest h = tt

-- where a reader has an expression, the tokens that led there spell it
ended : (st : State) (done rest : List Token) → StateIs st done → ReadIs (with_rest (end_tree st) rest) done rest
ended (wants f s) done rest h = tt
ended (named f [] x) done rest h = ended_has f.compared f.added [] (join f.multiplied (negate f.minuses (variable x))) done rest (named_is f [] x done h)
ended (named f (b ∷ s) x) done rest h = tt
ended (has c a s e) done rest h = ended_has c a s e done rest h

-- so it is before a token that can't come
stopped : (st : State) (token : Token) (done rest : List Token) → StateIs st done → ReadIs (with_rest (end_before st token) rest) done rest
stopped (wants f s) token done rest h = tt
stopped (named f s x) (t.Operator o) done rest h = tt
stopped (named f s x) _ done rest h = ended (named f s x) done rest h
stopped (has c a s e) (t.Operator o) done rest h = tt
stopped (has c a s e) _ done rest h = ended (has c a s e) done rest h

-- whether a token is read already or still to come, the tokens are the same
shifted : (r : Read (Tree × List Token)) (done : List Token) (token : Token) (ts : List Token) → ReadIs r (done ++ token ∷ []) ts → ReadIs r done (token ∷ ts)
shifted (Err m) done token ts h = tt
shifted (Ok r) done token ts h = (h.0, h.1, sym (append_assoc done (token ∷ []) ts) ∙ h.2)

-- the token is read and the rest with it, or the expression ends before it
gone_on : (ts : List Token) (token : Token) (o : Option State) (st : State) (done : List Token) → StateIs st done
    → NextIs o (done ++ token ∷ [])
    → ((st' : State) → StateIs st' (done ++ token ∷ []) → ReadIs (read st' ts) (done ++ token ∷ []) ts)
    → ReadIs (go_on o (λ st'. read st' ts) (with_rest (end_before st token) (token ∷ ts))) done (token ∷ ts)
gone_on ts token None st done h k more = stopped st token done (token ∷ ts) h
gone_on ts token (Some st') st done h k more = shifted (read st' ts) done token ts (more st' k)

-- what is read from a state on spells an expression, by induction on the tokens that follow
read_is : (ts : List Token) (st : State) (done : List Token) → StateIs st done → ReadIs (read st ts) done ts
read_is [] st done h = ended st done [] h
read_is (token ∷ ts) st done h = gone_on ts token (next st token) st done h (next_is st token done h) (λ st' k. read_is ts st' (done ++ token ∷ []) k)

-- what is read spells the expression, and is the front of the tokens
pub sound : (ts : List Token) → ReadIs (expression_at ts) [] ts
sound ts = read_is ts (wants fresh []) [] ([], [], refl, fresh_is, refl)
