-- What is spelled is read.
use Rattle.std.proofs.Common.{◌≡◌, ℕ, suc, List, [], ◌∷◌, ◌++◌, Some, None, Ok, Err, refl, ap, ◌∙◌, append_assoc}
use Rattle.rank_text.specs.declared.grammar.token.Operator.{Operator}
use Rattle.rank_text.specs.declared.grammar.token.Strength.{Strength}
use Rattle.rank_text.specs.declared.grammar.token.Strength.TheVariants.{Compares, Adds, Multiplies}
use Rattle.rank_text.specs.declared.grammar.token.Token.{Token}
use Rattle.rank_text.specs.declared.grammar.token.Token.TheVariants as t
use Rattle.rank_text.specs.declared.grammar.misfit.Expected.TheVariants.{OneComparison}
use Rattle.rank_text.specs.Grammar.Tree.{Tree, variable, item, operation}
use Rattle.rank_text.specs.Grammar.Grammar.{strength, Rule, whole, sum, product, unary, atom}
use Rattle.rank_text.specs.Grammar.Grammar.{Spells, is_number, is_variable, is_reading, is_item, in_parentheses, is_atom, negated, is_unary}
use Rattle.rank_text.specs.Grammar.Grammar.{multiplied, is_product, added, is_sum, compared}
use Rattle.rank_text.specs.Grammar.Reader.{Left, Level, parenthesis, index_of, Stack, wants, named, has}
use Rattle.rank_text.specs.Grammar.Reader.{join, fresh, arrive, all_of, operate, next, with_rest, go_on, read, expression_at}
use Rattle.rank_text.proofs.GrammarLaws.Stacks.{end_named, before_named}

-- what follows doesn't make an item of a name
abbrev pub NoBracket : List Token → Type 0
NoBracket [] = Unit {0}
NoBracket (t.OpenBracket ∷ ts) = ⊥
NoBracket (_ ∷ ts) = Unit {0}

-- what stands before an operand: these left operands, and as many signs
abbrev pub level : Left → Left → Left → ℕ → Level
level c a m n = record { compared = c; added = a; multiplied = m; minuses = n }

-- read so far: what the reader then has, and how it stands for the tree
abbrev pub Reads : Rule → List Token → Tree → Type 0
Reads atom ts e = (f : Level) (s : Stack) (rest : List Token) → NoBracket rest → read (wants f s) (ts ++ rest) ≡ read (arrive f s e) rest
Reads unary ts e = (f : Level) (s : Stack) (rest : List Token) → NoBracket rest → read (wants f s) (ts ++ rest) ≡ read (arrive f s e) rest
Reads product ts e = (c a : Left) (s : Stack) (rest : List Token) → NoBracket rest → read (wants (level c a None 0) s) (ts ++ rest) ≡ read (has c a s e) rest
Reads sum ts e =
    (c : Left) (s : Stack) (rest : List Token) → NoBracket rest
    → (a : Left) × (p : Tree) × (join a p ≡ e) × (read (wants (level c None None 0) s) (ts ++ rest) ≡ read (has c a s p) rest)
Reads whole ts e =
    (s : Stack) (rest : List Token) → NoBracket rest
    → (c a : Left) × (p : Tree) × (all_of c a p ≡ e) × (read (wants fresh s) (ts ++ rest) ≡ read (has c a s p) rest)

-- a name that no bracket follows is read on as a variable
pub read_named : (f : Level) (s : Stack) (x : List ℕ) (rest : List Token) → NoBracket rest → read (named f s x) rest ≡ read (arrive f s (variable x)) rest
read_named f s x [] h = ap (λ z. with_rest z []) (end_named f s x)
read_named f s x (t.OpenBracket ∷ ts) h = absurd h
read_named f s x (token ∷ ts) h =
    ap (λ z. go_on (next (named f s x) token) (λ st. read st ts) (with_rest z (token ∷ ts))) (before_named f s x token)

-- an operator behind a product is read by its strength
after_operator : (r : Strength) (o : Operator) → strength o ≡ r → (c a : Left) (s : Stack) (e : Tree) (ts : List Token)
    → read (has c a s e) (t.Operator o ∷ ts) ≡ go_on (operate r o c a s e) (λ st. read st ts) (Err (t.Operator o ∷ ts, OneComparison))
after_operator r o q c a s e ts = ap (λ z. go_on (operate z o c a s e) (λ st. read st ts) (Err (t.Operator o ∷ ts, OneComparison))) q

-- what is spelled by a rule is read as its tree, by induction on how it is spelled
pub reads : {r : Rule} {ts : List Token} {e : Tree} → Spells r ts e → Reads r ts e
reads is_number = λ f s rest h. refl
reads (is_variable {x}) = λ f s rest h. read_named f s x rest h
reads is_reading = λ f s rest h. refl
reads (is_item {x} {ts} {e} d) = λ f s rest h.
    let ih = reads d ((index_of x, f) ∷ s) (t.CloseBracket ∷ rest) tt in
    ap (λ z. read (wants fresh ((index_of x, f) ∷ s)) z) (append_assoc ts (t.CloseBracket ∷ []) rest) ∙ ih.4 ∙ ap (λ z. read (arrive f s (item x z)) rest) ih.3
reads (in_parentheses {ts} {e} d) = λ f s rest h.
    let ih = reads d ((parenthesis, f) ∷ s) (t.CloseParenthesis ∷ rest) tt in
    ap (λ z. read (wants fresh ((parenthesis, f) ∷ s)) z) (append_assoc ts (t.CloseParenthesis ∷ []) rest) ∙ ih.4 ∙ ap (λ z. read (arrive f s z) rest) ih.3
reads (is_atom d) = reads d
reads (negated d) = λ f s rest h. reads d (record f { minuses = suc f.minuses }) s rest h
reads (is_unary d) = λ c a s rest h. reads d (level c a None 0) s rest h
reads (multiplied {o} {xs} {ys} {a = x} {b = y} q dx dy) = λ c a s rest h.
    ap (λ z. read (wants (level c a None 0) s) z) (append_assoc xs (t.Operator o ∷ ys) rest)
    ∙ reads dx c a s (t.Operator o ∷ (ys ++ rest)) tt
    ∙ after_operator Multiplies o q c a s x (ys ++ rest)
    ∙ reads dy (level c a (Some (x, o)) 0) s rest h
reads (is_product {ts} {e} d) = λ c s rest h. (None, e, refl, reads d c None s rest h)
reads (added {o} {xs} {ys} {a = x} {b = y} q dx dy) = λ c s rest h.
    let ih = reads dx c s (t.Operator o ∷ (ys ++ rest)) tt in
    let a = ih.0 in (
      Some (x, o),
      y,
      refl,
      ap (λ z. read (wants (level c None None 0) s) z) (append_assoc xs (t.Operator o ∷ ys) rest)
          ∙ ih.3
          ∙ after_operator Adds o q c ih.0 s ih.1 (ys ++ rest)
          ∙ ap (λ z. read (wants (level c (Some (z, o)) None 0) s) (ys ++ rest)) ih.2
          ∙ reads dy c (Some (x, o)) s rest h,
    )
reads (is_sum {ts} {e} d) = λ s rest h. let ih = reads d None s rest h in (None, ih.0, ih.1, ih.2, ih.3)
reads (compared {o} {xs} {ys} {a = x} {b = y} q dx dy) = λ s rest h.
    let ih = reads dx None s (t.Operator o ∷ (ys ++ rest)) tt in
    let ij = reads dy (Some (x, o)) s rest h in (
      Some (x, o),
      ij.0,
      ij.1,
      ap (λ z. operation o x z) ij.2,
      ap (λ z. read (wants fresh s) z) (append_assoc xs (t.Operator o ∷ ys) rest)
          ∙ ih.3
          ∙ after_operator Compares o q None ih.0 s ih.1 (ys ++ rest)
          ∙ ap (λ z. read (wants (level (Some (z, o)) None None 0) s) (ys ++ rest)) ih.2
          ∙ ij.3,
    )

-- what ends an expression outside brackets of its own: the line, a comma, or the bracket that closes an index
abbrev pub Ends : List Token → Type 0
Ends [] = Unit {0}
Ends (t.Comma ∷ ts) = Unit {0}
Ends (t.CloseBracket ∷ ts) = Unit {0}
Ends (_ ∷ ts) = ⊥

-- what ends an expression makes no item of a name
pub no_bracket : (rest : List Token) → Ends rest → NoBracket rest
no_bracket [] h = tt
no_bracket (t.Comma ∷ ts) h = tt
no_bracket (t.CloseBracket ∷ ts) h = tt
no_bracket (_ ∷ ts) h = absurd h

-- outside brackets the reader stops at what ends an expression, and has all of it
pub stops : (c a : Left) (p : Tree) (rest : List Token) → Ends rest → read (has c a [] p) rest ≡ Ok (all_of c a p, rest)
stops c a p [] h = refl
stops c a p (t.Comma ∷ ts) h = refl
stops c a p (t.CloseBracket ∷ ts) h = refl
stops c a p (_ ∷ ts) h = absurd h

-- what is spelled is read, where it ends
pub complete : {ts : List Token} {e : Tree} → Spells whole ts e → (rest : List Token) → Ends rest → expression_at (ts ++ rest) ≡ Ok (e, rest)
complete d rest h =
    let r = reads d [] rest (no_bracket rest h) in
    r.4 ∙ stops r.0 r.1 r.2 rest h ∙ ap (λ z. Ok (z, rest)) r.3
