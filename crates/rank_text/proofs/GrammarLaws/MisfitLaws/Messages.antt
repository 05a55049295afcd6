-- Where sends, receives and probes stop.
use Rattle.std.proofs.Common.{[], ◌∷◌, Ok, refl}
use Rattle.rank_text.specs.declared.grammar.token.Token.TheVariants as t
use Rattle.rank_text.specs.Grammar.Tree.{number}
use Rattle.rank_text.specs.Grammar.Reader.{expression_at, ◌>>=◌}
use Rattle.rank_text.specs.Grammar.Forms.{any, one, send_form, recv_form, probe_form, try_probe_form, comma, pattern_at, whole_pattern, payload_of}
use Rattle.rank_text.specs.Grammar.Forms.{send_of, recv_of, probe_of, try_probe_of}
use Rattle.rank_text.proofs.GrammarLaws.MisfitLaws.Stopping.{Good}
use Rattle.rank_text.proofs.GrammarLaws.MisfitLaws.Expressions.{expression_front}
use Rattle.rank_text.proofs.GrammarLaws.MisfitLaws.InTurn.{then_good}
use Rattle.rank_text.proofs.GrammarLaws.MisfitLaws.Alike.{made_good}
use Rattle.rank_text.proofs.GrammarLaws.MisfitLaws.Signs.{comma_follows}
use Rattle.rank_text.proofs.GrammarLaws.MisfitLaws.Arguments.{payload_good, pattern_front, whole_pattern_good}
use Rattle.rank_text.proofs.GrammarLaws.MisfitLaws.Envelopes.{envelope_good}

-- the reader of the arguments of `send` is good: a destination, a tag and a payload
pub send_good : Good send_of
unfolding send_of
send_good =
    then_good expression_at (λ d us. comma us >>= (λ vs. expression_at vs >>= (λ g. comma g.1 >>= (λ ws. payload_of ws >>= (λ p. Ok (send_form d g.0 p))))))
    expression_front (λ d.
    comma_follows (λ vs. expression_at vs >>= (λ g. comma g.1 >>= (λ ws. payload_of ws >>= (λ p. Ok (send_form d g.0 p)))))
    (then_good expression_at (λ g us. comma us >>= (λ ws. payload_of ws >>= (λ p. Ok (send_form d g p)))) expression_front (λ g.
    comma_follows (λ ws. payload_of ws >>= (λ p. Ok (send_form d g p))) (made_good payload_of (send_form d g) payload_good)
    (t.Number 0 ∷ []) (send_form d g (one (number 0))) refl))
    (t.Number 0 ∷ t.Comma ∷ t.Number 0 ∷ []) (send_form d (number 0) (one (number 0))) refl)

-- the reader of the arguments of `recv` is good
pub recv_good : Good recv_of
unfolding recv_of
recv_good = envelope_good recv_form

-- the reader of the arguments of `iprobe` is good
pub try_probe_good : Good try_probe_of
unfolding try_probe_of
try_probe_good = envelope_good try_probe_form

-- the reader of the arguments of `probe` is good: a source and a tag
pub probe_good : Good probe_of
unfolding probe_of
probe_good =
    then_good pattern_at (λ s us. comma us >>= (λ vs. whole_pattern vs >>= (λ g. Ok (probe_form s g)))) pattern_front (λ s.
    comma_follows (λ vs. whole_pattern vs >>= (λ g. Ok (probe_form s g))) (made_good whole_pattern (probe_form s) whole_pattern_good)
    (t.Any ∷ []) (probe_form s any) refl)
