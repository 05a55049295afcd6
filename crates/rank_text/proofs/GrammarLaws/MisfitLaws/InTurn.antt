-- One reader behind another: both stop where one of them does.
use Rattle.std.proofs.Common.{◌≡◌, List, [], ◌∷◌, ◌++◌, Ok, Err, refl, ap, ◌∙◌, sym, subst, append_assoc, append-nil}
use Rattle.rank_text.specs.declared.grammar.token.Token.{Token}
use Rattle.rank_text.specs.Grammar.Reader.{Read, ◌>>=◌}
use Rattle.rank_text.proofs.GrammarLaws.Complete.{Ends}
use Rattle.rank_text.proofs.GrammarLaws.MisfitLaws.Stopping.{Fails, Blocks, StopsIf, Good, AtToken, FrontIs, GoodFront, fails}

-- a reader that may follow a front: it is good, reads only what begins with what ends an expression, and reads something
abbrev pub Follows : {B : Type 0} → (List Token → Read B) → Type 0
Follows {B} h = Good h × ((ts : List Token) (b : B) → h ts ≡ Ok b → Ends ts) × (more : List Token) × (b : B) × (h more ≡ Ok b)

-- where the first reader fails, both do
fails_then : {A B : Type 0} (o : Read A) (f : A → Read B) → Fails o → Fails (o >>= f)
fails_then (Ok a) f h = absurd h
fails_then (Err m) f h = tt

-- where the first reader stops, both do
blocks_then : {A B : Type 0} (h : List Token → Read A) (f : A → Read B) (front rest : List Token) → Blocks h front rest
    → Blocks (λ ts. h ts >>= f) front rest
blocks_then h f front [] b = fails_then (h front) f b
blocks_then h f front (token ∷ rest) b = λ more. fails_then (h (front ++ token ∷ more)) f (b more)

-- behind the front the second reader begins, with the token that did or with what ends an expression
begins : {A : Type 0} (h : List Token → Read (A × List Token)) (front : List Token) (a : A) (us vs rest : List Token)
    → us ≡ vs ++ rest → ((more : List Token) → Ends more → h (front ++ more) ≡ Ok (a, more)) → AtToken h front a us
    → (more : List Token) → (vs ≡ [] → Ends more) → h (front ++ (vs ++ more)) ≡ Ok (a, vs ++ more)
begins h front a us [] rest q e b more n = e more (n refl)
begins h front a us (token ∷ vs) rest q e b more n = subst (AtToken h front a) q b (vs ++ more)

-- so it does before the token at which it stops
begins_at : {A : Type 0} (h : List Token → Read (A × List Token)) (front : List Token) (a : A) (us vs : List Token) (token : Token) (rest : List Token)
    → us ≡ vs ++ token ∷ rest → AtToken h front a us → (more : List Token) → h (front ++ (vs ++ token ∷ more)) ≡ Ok (a, vs ++ token ∷ more)
begins_at h front a us [] token rest q b more = subst (AtToken h front a) q b more
begins_at h front a us (x ∷ vs) token rest q b more = subst (AtToken h front a) q b (vs ++ token ∷ more)

-- two readers, one behind the other
abbrev both : {A B : Type 0} → (List Token → Read (A × List Token)) → (A → List Token → Read B) → List Token → Read B
both h f ts = h ts >>= (λ r. f r.0 r.1)

-- where the second stops, both do
blocks_both : {A B : Type 0} (h : List Token → Read (A × List Token)) (f : A → List Token → Read B) (front : List Token) (a : A) (us vs rest : List Token)
    → us ≡ vs ++ rest → AtToken h front a us → Fails (both h f (front ++ us)) → Blocks (f a) vs rest → Blocks (both h f) (front ++ vs) rest
blocks_both h f front a us vs [] q at none b = subst (λ z. Fails (both h f (front ++ z))) (q ∙ append-nil vs) none
blocks_both h f front a us vs (token ∷ rest) q at none b = λ more.
    let r : both h f ((front ++ vs) ++ token ∷ more) ≡ f a (vs ++ token ∷ more) =
    ap (both h f) (append_assoc front vs (token ∷ more)) ∙ ap (λ o. o >>= (λ r. f r.0 r.1)) (begins_at h front a us vs token rest q at more) in
    subst (λ z. Fails z) (sym r) (b more)

-- the second reader stops, or reads
second : {A B : Type 0} (h : List Token → Read (A × List Token)) (f : A → List Token → Read B) (ts : List Token) (a : A) (us : List Token)
    → h ts ≡ Ok (a, us) → FrontIs h ts (Ok (a, us)) → ((vs : List Token) (b : B) → f a vs ≡ Ok b → Ends vs)
    → (o : Read B) → f a us ≡ o → StopsIf (f a) us o → StopsIf (both h f) ts o
second h f ts a us q w needs (Ok b) p s = tt
second h f ts a us q w needs (Err m) p s =
    let none : Fails (both h f (w.0 ++ us)) =
    fails (ap (both h f) (sym w.1) ∙ ap (λ o. o >>= (λ r. f r.0 r.1)) q ∙ p) in
    let front = begins h w.0 a us s.0 m.0 s.3 w.2 w.3 s.1 (λ n. needs s.1 s.2 (ap (λ z. f a (z ++ s.1)) (sym n) ∙ s.4)) in (
      w.0 ++ s.0,
      s.1,
      s.2,
      w.1 ∙ ap (λ z. w.0 ++ z) s.3 ∙ sym (append_assoc w.0 s.0 m.0),
      ap (both h f) (append_assoc w.0 s.0 s.1) ∙ ap (λ o. o >>= (λ r. f r.0 r.1)) front ∙ s.4,
      blocks_both h f w.0 a us s.0 m.0 s.3 w.3 none s.5,
    )

-- the first reader stops, or reads
first : {A B : Type 0} (h : List Token → Read (A × List Token)) (f : A → List Token → Read B) (ts : List Token)
    → ((a : A) → Follows (f a)) → (o : Read (A × List Token)) → h ts ≡ o → FrontIs h ts o → StopsIf (both h f) ts (o >>= (λ r. f r.0 r.1))
first h f ts follow (Ok (a, us)) q w = second h f ts a us q w (follow a).1 (f a us) refl ((follow a).0 us)
first h f ts follow (Err m) q w =
    let s = follow w.2 in (
      w.0,
      w.1 ++ s.2,
      s.3,
      w.3,
      ap (λ o. o >>= (λ r. f r.0 r.1)) (w.4 s.2 (s.1 s.2 s.3 s.4)) ∙ s.4,
      blocks_then h (λ r. f r.0 r.1) w.0 m.0 w.5,
    )

-- both stop where one of them does
pub then_good : {A B : Type 0} (h : List Token → Read (A × List Token)) (f : A → List Token → Read B) → GoodFront h → ((a : A) → Follows (f a)) → Good (both h f)
then_good h f g follow ts = first h f ts follow (h ts) refl (g ts)
