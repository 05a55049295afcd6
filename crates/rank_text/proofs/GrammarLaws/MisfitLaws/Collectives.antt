-- Where collectives stop.
use Rattle.std.proofs.Common.{◌≡◌, List, [], ◌∷◌, Ok, refl}
use Rattle.rank_text.specs.declared.grammar.token.Reduction.{Reduction}
use Rattle.rank_text.specs.declared.grammar.token.Token.{Token}
use Rattle.rank_text.specs.declared.grammar.token.Token.TheVariants as t
use Rattle.rank_text.specs.Grammar.Tree.{number}
use Rattle.rank_text.specs.Grammar.Reader.{expression_at, ◌>>=◌}
use Rattle.rank_text.specs.Grammar.Forms.{bcast_form, reduce_form, comma, lone_name, bcast_of, reduced_of, reduce_of}
use Rattle.rank_text.proofs.GrammarLaws.MisfitLaws.Stopping.{Good, stops_behind}
use Rattle.rank_text.proofs.GrammarLaws.MisfitLaws.Expressions.{expression_front}
use Rattle.rank_text.proofs.GrammarLaws.MisfitLaws.InTurn.{then_good}
use Rattle.rank_text.proofs.GrammarLaws.MisfitLaws.Alike.{made_good}
use Rattle.rank_text.proofs.GrammarLaws.MisfitLaws.Signs.{comma_follows}
use Rattle.rank_text.proofs.GrammarLaws.MisfitLaws.Arguments.{name_good}

-- the reader of the arguments of `bcast` is good: a root and a name
pub bcast_good : Good bcast_of
unfolding bcast_of
bcast_good =
    then_good expression_at (λ d us. comma us >>= (λ vs. lone_name vs >>= (λ x. Ok (bcast_form d x)))) expression_front (λ d.
    comma_follows (λ vs. lone_name vs >>= (λ x. Ok (bcast_form d x))) (made_good lone_name (bcast_form d) name_good)
    (t.Name [] ∷ []) (bcast_form d []) refl)

-- the reader of the arguments of `reduce` from the root on is good: a root, a value and a name
reduced_good : (r : Reduction) → Good (reduced_of r)
unfolding reduced_of
reduced_good r =
    then_good expression_at (λ d us. comma us >>= (λ vs. expression_at vs >>= (λ e. comma e.1 >>= (λ ws. lone_name ws >>= (λ x. Ok (reduce_form r d e.0 x))))))
    expression_front (λ d.
    comma_follows (λ vs. expression_at vs >>= (λ e. comma e.1 >>= (λ ws. lone_name ws >>= (λ x. Ok (reduce_form r d e.0 x)))))
    (then_good expression_at (λ e us. comma us >>= (λ ws. lone_name ws >>= (λ x. Ok (reduce_form r d e x)))) expression_front (λ e.
    comma_follows (λ ws. lone_name ws >>= (λ x. Ok (reduce_form r d e x))) (made_good lone_name (reduce_form r d e) name_good)
    (t.Name [] ∷ []) (reduce_form r d e []) refl))
    (t.Number 0 ∷ t.Comma ∷ t.Name [] ∷ []) (reduce_form r d (number 0) []) refl)

-- the tokens that make a reduce with 0 for its root and its value
abbrev zeros : List Token
zeros = t.Number 0 ∷ t.Comma ∷ t.Number 0 ∷ t.Comma ∷ t.Name [] ∷ []

-- they do so
zeros_reduced : (r : Reduction) → reduced_of r zeros ≡ Ok (reduce_form r (number 0) (number 0) [])
unfolding reduced_of
zeros_reduced r = refl

-- the reader of the arguments of `reduce` is good, whatever reduction completes them
pub reduce_good : (other : Reduction) → Good reduce_of
unfolding reduce_of
reduce_good other [] = ([], t.Reduction other ∷ t.Comma ∷ zeros, reduce_form other (number 0) (number 0) [], refl, zeros_reduced other, tt)
reduce_good other (t.Reduction r ∷ []) = (t.Reduction r ∷ [], t.Comma ∷ zeros, reduce_form r (number 0) (number 0) [], refl, zeros_reduced r, tt)
reduce_good other (t.Reduction r ∷ (t.Comma ∷ ts)) =
    stops_behind reduce_of (λ us. reduce_of (t.Reduction r ∷ us)) (t.Reduction r) (λ us. refl) (t.Comma ∷ ts) (reduced_of r ts)
    (stops_behind (λ us. reduce_of (t.Reduction r ∷ us)) (reduced_of r) t.Comma (λ us. refl) ts (reduced_of r ts) (reduced_good r ts))
reduce_good other (t.Reduction r ∷ (token ∷ ts)) =
    (t.Reduction r ∷ [], t.Comma ∷ zeros, reduce_form r (number 0) (number 0) [], refl, zeros_reduced r, λ more. tt)
reduce_good other (token ∷ ts) = ([], t.Reduction other ∷ t.Comma ∷ zeros, reduce_form other (number 0) (number 0) [], refl, zeros_reduced other, λ more. tt)
