-- Where an envelope and the name behind it stop.
--
-- The code reads the envelope first, and then the name. That is the same as the three in turn.
use Rattle.std.proofs.Common.{◌≡◌, ℕ, List, [], ◌∷◌, Ok, Err, refl, subst}
use Rattle.rank_text.specs.declared.grammar.token.Token.{Token}
use Rattle.rank_text.specs.declared.grammar.token.Token.TheVariants as t
use Rattle.rank_text.specs.Grammar.Reader.{Read, ◌>>=◌}
use Rattle.rank_text.specs.Grammar.Forms.{Pattern, any, Form, comma, lone_name, pattern_at, envelope_at}
use Rattle.rank_text.proofs.GrammarLaws.MisfitLaws.Stopping.{Good}
use Rattle.rank_text.proofs.GrammarLaws.MisfitLaws.InTurn.{then_good}
use Rattle.rank_text.proofs.GrammarLaws.MisfitLaws.Alike.{Alike, good_alike, made_good, alike_itself}
use Rattle.rank_text.proofs.GrammarLaws.MisfitLaws.Signs.{comma_follows}
use Rattle.rank_text.proofs.GrammarLaws.MisfitLaws.Arguments.{name_good, pattern_front}

-- a source, a tag and a name, one behind the other
abbrev in_turn : (Pattern → Pattern → List ℕ → Form) → List Token → Read Form
in_turn make ts =
    pattern_at ts >>= (λ s. comma s.1 >>= (λ us. pattern_at us >>= (λ g. comma g.1 >>= (λ vs. lone_name vs >>= (λ x. Ok (make s.0 g.0 x))))))

-- the reader of the three is good
in_turn_good : (make : Pattern → Pattern → List ℕ → Form) → Good (in_turn make)
in_turn_good make =
    then_good pattern_at (λ s us. comma us >>= (λ vs. pattern_at vs >>= (λ g. comma g.1 >>= (λ ws. lone_name ws >>= (λ x. Ok (make s g.0 x))))))
    pattern_front (λ s.
    comma_follows (λ vs. pattern_at vs >>= (λ g. comma g.1 >>= (λ ws. lone_name ws >>= (λ x. Ok (make s g.0 x)))))
    (then_good pattern_at (λ g us. comma us >>= (λ ws. lone_name ws >>= (λ x. Ok (make s g x)))) pattern_front (λ g.
    comma_follows (λ ws. lone_name ws >>= (λ x. Ok (make s g x))) (made_good lone_name (make s g) name_good) (t.Name [] ∷ []) (make s g []) refl))
    (t.Any ∷ t.Comma ∷ t.Name [] ∷ []) (make s any []) refl)

-- the source and the tag in front, and what is behind them
abbrev with_tag : Pattern → Pattern → List Token → Read (Pattern × Pattern × List Token)
with_tag s g vs = Ok (s, g, vs)

-- the envelope first and then a name is the same as the three in turn: so it is from the second comma on
flat_tag : (make : Pattern → Pattern → List ℕ → Form) (s g : Pattern) (o : Read (List Token))
    → (o >>= (λ vs. lone_name vs >>= (λ x. Ok (make s g x))))
    ≡ ((o >>= with_tag s g) >>= (λ e. lone_name e.2 >>= (λ x. Ok (make e.0 e.1 x))))
flat_tag make s g (Ok vs) = refl
flat_tag make s g (Err m) = refl

-- so it is from the tag on
flat_second : (make : Pattern → Pattern → List ℕ → Form) (s : Pattern) (o : Read (Pattern × List Token))
    → (o >>= (λ g. comma g.1 >>= (λ vs. lone_name vs >>= (λ x. Ok (make s g.0 x)))))
    ≡ ((o >>= (λ g. comma g.1 >>= with_tag s g.0)) >>= (λ e. lone_name e.2 >>= (λ x. Ok (make e.0 e.1 x))))
flat_second make s (Ok g) = flat_tag make s g.0 (comma g.1)
flat_second make s (Err m) = refl

-- and from the first comma on
flat_comma : (make : Pattern → Pattern → List ℕ → Form) (s : Pattern) (o : Read (List Token))
    → (o >>= (λ us. pattern_at us >>= (λ g. comma g.1 >>= (λ vs. lone_name vs >>= (λ x. Ok (make s g.0 x))))))
    ≡ ((o >>= (λ us. pattern_at us >>= (λ g. comma g.1 >>= with_tag s g.0))) >>= (λ e. lone_name e.2 >>= (λ x. Ok (make e.0 e.1 x))))
flat_comma make s (Ok us) = flat_second make s (pattern_at us)
flat_comma make s (Err m) = refl

-- and from the source on
flat_first : (make : Pattern → Pattern → List ℕ → Form) (o : Read (Pattern × List Token))
    → (o >>= (λ s. comma s.1 >>= (λ us. pattern_at us >>= (λ g. comma g.1 >>= (λ vs. lone_name vs >>= (λ x. Ok (make s.0 g.0 x)))))))
    ≡ ((o >>= (λ s. comma s.1 >>= (λ us. pattern_at us >>= (λ g. comma g.1 >>= with_tag s.0 g.0))))
    >>= (λ e. lone_name e.2 >>= (λ x. Ok (make e.0 e.1 x))))
flat_first make (Ok s) = flat_comma make s.0 (comma s.1)
flat_first make (Err m) = refl

-- so it is of all of the tokens
envelope_flat : (make : Pattern → Pattern → List ℕ → Form) (ts : List Token)
    → in_turn make ts ≡ (envelope_at ts >>= (λ e. lone_name e.2 >>= (λ x. Ok (make e.0 e.1 x))))
unfolding envelope_at
envelope_flat make ts = flat_first make (pattern_at ts)

-- so the reader of an envelope and a name is good
pub envelope_good : (make : Pattern → Pattern → List ℕ → Form) → Good (λ ts. envelope_at ts >>= (λ e. lone_name e.2 >>= (λ x. Ok (make e.0 e.1 x))))
envelope_good make =
    good_alike (in_turn make) (λ ts. envelope_at ts >>= (λ e. lone_name e.2 >>= (λ x. Ok (make e.0 e.1 x))))
    (λ ts. subst (Alike (in_turn make ts)) (envelope_flat make ts) (alike_itself (in_turn make ts))) (in_turn_good make)
