-- Readers that stop alike: if one is good, so is the other.
use Rattle.std.proofs.Common.{◌≡◌, List, [], ◌∷◌, ◌++◌, Ok, Err, refl, ap, ◌∙◌, subst}
use Rattle.rank_text.specs.declared.grammar.token.Token.{Token}
use Rattle.rank_text.specs.Grammar.Reader.{Read, ◌>>=◌}
use Rattle.rank_text.proofs.GrammarLaws.MisfitLaws.Stopping.{Fails, Blocks, StopsIf, Good}

-- both have read something, or stop at the same place
abbrev pub Alike : {A B : Type 0} → Read A → Read B → Type 0
Alike (Ok a) (Ok b) = Unit {0}
Alike (Ok a) (Err m) = ⊥
Alike (Err m) (Ok b) = ⊥
Alike (Err m) (Err n) = m.0 ≡ n.0

-- if one of them fails, so does the other
fails_alike : {A B : Type 0} (o : Read A) (p : Read B) → Alike o p → Fails o → Fails p
fails_alike (Ok a) p h f = absurd f
fails_alike (Err m) (Ok b) h f = absurd h
fails_alike (Err m) (Err n) h f = tt

-- if one of them reads something, so does the other
reads_alike : {A B : Type 0} (a : A) (p : Read B) → Alike (Ok a) p → (b : B) × (p ≡ Ok b)
reads_alike a (Ok b) h = (b, refl)
reads_alike a (Err m) h = absurd h

-- if one stops behind a front whatever follows, so does the other
blocks_alike : {A B : Type 0} (h : List Token → Read A) (k : List Token → Read B) → ((ts : List Token) → Alike (h ts) (k ts))
    → (front rest : List Token) → Blocks h front rest → Blocks k front rest
blocks_alike h k same front [] b = fails_alike (h front) (k front) (same front) b
blocks_alike h k same front (token ∷ rest) b = λ more. fails_alike (h (front ++ token ∷ more)) (k (front ++ token ∷ more)) (same (front ++ token ∷ more)) (b more)

-- so where one stops, the other does
stops_alike : {A B : Type 0} (h : List Token → Read A) (k : List Token → Read B) → ((ts : List Token) → Alike (h ts) (k ts))
    → (ts : List Token) (o : Read A) (p : Read B) → Alike o p → StopsIf h ts o → StopsIf k ts p
stops_alike h k same ts o (Ok b) w s = tt
stops_alike h k same ts (Ok a) (Err n) w s = absurd w
stops_alike h k same ts (Err m) (Err n) w s =
    let r = reads_alike s.2 (k (s.0 ++ s.1)) (subst (λ o. Alike o (k (s.0 ++ s.1))) s.4 (same (s.0 ++ s.1))) in
    (s.0, s.1, r.0, s.3 ∙ ap (λ z. s.0 ++ z) w, r.1, subst (Blocks k s.0) w (blocks_alike h k same s.0 m.0 s.5))

-- of two that stop alike both are good
pub good_alike : {A B : Type 0} (h : List Token → Read A) (k : List Token → Read B) → ((ts : List Token) → Alike (h ts) (k ts)) → Good h → Good k
good_alike h k same g ts = stops_alike h k same ts (h ts) (k ts) (same ts) (g ts)

-- what is made of what was read stops alike
pub made_alike : {A B : Type 0} (o : Read A) (make : A → B) → Alike o (o >>= (λ a. Ok (make a)))
made_alike (Ok a) make = tt
made_alike (Err m) make = refl

-- so a reader that makes something of what a good one read is good
pub made_good : {A B : Type 0} (h : List Token → Read A) (make : A → B) → Good h → Good (λ ts. h ts >>= (λ a. Ok (make a)))
made_good h make g = good_alike h (λ ts. h ts >>= (λ a. Ok (make a))) (λ ts. made_alike (h ts) make) g

-- what was read is alike itself
pub alike_itself : {A : Type 0} (o : Read A) → Alike o o
alike_itself (Ok a) = tt
alike_itself (Err m) = refl
