-- A line's tokens have the form that is read from them, and no other.
--
-- What has a form is read as that form (`form_read`), because what spells an
-- expression is read up to the comma or the end behind it. What is read as a form
-- has it (`form_spelled`), because what is read spells its expression. So no
-- tokens have two forms (`one_form`).
use Rattle.std.proofs.Common.{◌≡◌, ℕ, List, [], ◌∷◌, ◌++◌, Option, Some, None, Result, Ok, Err, IfOk, refl, ap, ◌∙◌, sym, subst, append-nil}
use Rattle.std.specs.declared.alloc.AllocError.{AllocError}
use Rattle.rank_text.specs.declared.grammar.token.Keyword.{Keyword}
use Rattle.rank_text.specs.declared.grammar.token.Keyword.TheVariants as k
use Rattle.rank_text.specs.declared.grammar.token.Reduction.{Reduction}
use Rattle.rank_text.specs.declared.grammar.token.Token.{Token}
use Rattle.rank_text.specs.declared.grammar.token.Token.TheVariants as t
use Rattle.rank_text.specs.declared.grammar.form.Form as source_form
use Rattle.rank_text.specs.Grammar.Tree.{Tree}
use Rattle.rank_text.specs.Grammar.Grammar.{Spells, whole}
use Rattle.rank_text.specs.declared.grammar.misfit.Expected.{Expected}
use Rattle.rank_text.specs.declared.grammar.misfit.Expected.TheVariants as w
use Rattle.rank_text.specs.declared.grammar.misfit.Misfit.{Misfit}
use Rattle.rank_text.specs.Grammar.Reader.{Read, ◌>>=◌, bare, expression_at, whole_expression}
use Rattle.rank_text.specs.Grammar.Forms.{Pattern, value, Payload, one}
use Rattle.rank_text.specs.Grammar.Forms.{Form, let_form, item_form, if_form, while_form}
use Rattle.rank_text.specs.Grammar.Forms.{send_form, recv_form, probe_form, try_probe_form, print_form, bcast_form, reduce_form}
use Rattle.rank_text.specs.Grammar.Forms.{IsPattern, is_any, is_value, IsNoName, IsPayload, is_lone, is_one}
use Rattle.rank_text.specs.Grammar.Forms.{IsForm, is_var, is_array, is_let, is_let_item, is_if, is_else, is_end, is_while}
use Rattle.rank_text.specs.Grammar.Forms.{is_send, is_recv, is_probe, is_try_probe, is_print, is_barrier, is_bcast, is_reduce}
use Rattle.rank_text.specs.Grammar.Forms.{comma, bracket_assign, lone_name, value_at, pattern_at, envelope_at, whole_pattern, payload_of}
use Rattle.rank_text.specs.Grammar.Forms.{var_of, array_of, let_of, item_of, if_of, while_of}
use Rattle.rank_text.specs.Grammar.Forms.{send_of, recv_of, probe_of, try_probe_of, print_of, bcast_of, reduced_of, reduce_of, read_form, ok_of, form_of}
use Rattle.rank_text.specs.Grammar.SeenForms.{form_in, form_seen}
use Rattle.rank_text.proofs.GrammarLaws.Complete.{complete}
use Rattle.rank_text.proofs.GrammarLaws.Sound.{sound, ReadIs}
use Rattle.rank_text.proofs.GrammarLaws.Exact.{AloneIs, whole_spelled, read_whole}

-- an expression that is more than a name is the payload of its tokens
of_one : (ts : List Token) {e : Tree} → IsNoName ts → whole_expression ts ≡ Ok e → payload_of ts ≡ Ok (one e)
of_one [] h q = ap (λ o. o >>= (λ e. Ok (one e))) q
of_one (t.Name x ∷ []) h q = absurd h
of_one (t.Name x ∷ (y ∷ ts)) h q = ap (λ o. o >>= (λ e. Ok (one e))) q
of_one (_ ∷ ts) h q = ap (λ o. o >>= (λ e. Ok (one e))) q

-- an expression in front is the pattern in front
pub of_value : (ts rest : List Token) {e : Tree} → expression_at ts ≡ Ok (e, rest) → pattern_at ts ≡ Ok (value e, rest)
of_value [] rest q = ap (value_at []) q
of_value (t.Any ∷ ts) rest q = absurd cc
of_value (token ∷ ts) rest q = ap (value_at (token ∷ ts)) q

-- what is a payload is read as that payload
payload_read : {ts : List Token} {p : Payload} → IsPayload ts p → payload_of ts ≡ Ok p
payload_read is_lone = refl
payload_read (is_one {ts} {e} h d) = of_one ts h (read_whole ts e d)

-- what is a pattern is read as that pattern, up to the comma
pattern_read : {ts : List Token} {c : Pattern} → IsPattern ts c → (rest : List Token) → pattern_at (ts ++ t.Comma ∷ rest) ≡ Ok (c, t.Comma ∷ rest)
pattern_read is_any rest = refl
pattern_read (is_value {ts} d) rest = of_value (ts ++ t.Comma ∷ rest) (t.Comma ∷ rest) (complete d (t.Comma ∷ rest) tt)

-- what is a pattern and nothing more is read as that pattern
whole_pattern_read : {ts : List Token} {c : Pattern} → IsPattern ts c → whole_pattern ts ≡ Ok c
whole_pattern_read is_any = refl
whole_pattern_read (is_value {ts} {e} d) =
    let q : expression_at ts ≡ Ok (e, []) = ap expression_at (sym (append-nil ts)) ∙ complete d [] tt in
    ap (λ o. o >>= (λ c. bare c.0 c.1)) (of_value ts [] q)

-- a source, a tag and a comma behind each are read as that envelope
envelope_read : {ss gs : List Token} {s g : Pattern} → IsPattern ss s → IsPattern gs g → (vs : List Token)
    → envelope_at (ss ++ t.Comma ∷ (gs ++ t.Comma ∷ vs)) ≡ Ok (s, g, vs)
unfolding envelope_at
envelope_read {ss} {gs} {s} {g} ds dg vs =
    ap (λ o. o >>= (λ s. comma s.1 >>= (λ us. pattern_at us >>= (λ g. comma g.1 >>= (λ vs. Ok (s.0, g.0, vs)))))) (pattern_read ds (gs ++ t.Comma ∷ vs))
    ∙ ap (λ o. o >>= (λ g. comma g.1 >>= (λ vs. Ok (s, g.0, vs)))) (pattern_read dg vs)

-- what has a form is read as that form
pub form_is_read : {ts : List Token} {f : Form} → IsForm ts f → read_form ts ≡ Ok f
unfolding var_of array_of let_of item_of if_of while_of send_of recv_of probe_of try_probe_of print_of bcast_of reduced_of reduce_of
form_is_read is_var = refl
form_is_read is_array = refl
form_is_read (is_let {x} {ts} {e} d) = ap (λ o. o >>= (λ e. Ok (let_form x e))) (read_whole ts e d)
form_is_read (is_let_item {x} {is} {ts} {i} {e} di de) =
    ap (λ o. o >>= (λ i. bracket_assign i.1 >>= (λ us. whole_expression us >>= (λ e. Ok (item_form x i.0 e)))))
    (complete di (t.CloseBracket ∷ t.Assign ∷ ts) tt)
    ∙ ap (λ o. o >>= (λ e. Ok (item_form x i e))) (read_whole ts e de)
form_is_read (is_if {ts} {e} d) = ap (λ o. o >>= (λ e. Ok (if_form e))) (read_whole ts e d)
form_is_read is_else = refl
form_is_read is_end = refl
form_is_read (is_while {ts} {e} d) = ap (λ o. o >>= (λ e. Ok (while_form e))) (read_whole ts e d)
form_is_read (is_send {ds} {gs} {ps} {d} {g} {p} dd dg dp) =
    ap (λ o. o >>= (λ d. comma d.1 >>= (λ us. expression_at us >>= (λ g. comma g.1 >>= (λ vs. payload_of vs >>= (λ p. Ok (send_form d.0 g.0 p)))))))
    (complete dd (t.Comma ∷ (gs ++ t.Comma ∷ ps)) tt)
    ∙ ap (λ o. o >>= (λ g. comma g.1 >>= (λ vs. payload_of vs >>= (λ p. Ok (send_form d g.0 p))))) (complete dg (t.Comma ∷ ps) tt)
    ∙ ap (λ o. o >>= (λ p. Ok (send_form d g p))) (payload_read dp)
form_is_read (is_recv {x = x} ds dg) =
    ap (λ o. o >>= (λ e. lone_name e.2 >>= (λ x. Ok (recv_form e.0 e.1 x)))) (envelope_read ds dg (t.Name x ∷ []))
form_is_read (is_probe {ss} {gs} {s} {g} ds dg) =
    ap (λ o. o >>= (λ s. comma s.1 >>= (λ us. whole_pattern us >>= (λ g. Ok (probe_form s.0 g))))) (pattern_read ds gs)
    ∙ ap (λ o. o >>= (λ g. Ok (probe_form s g))) (whole_pattern_read dg)
form_is_read (is_try_probe {x = x} ds dg) =
    ap (λ o. o >>= (λ e. lone_name e.2 >>= (λ x. Ok (try_probe_form e.0 e.1 x)))) (envelope_read ds dg (t.Name x ∷ []))
form_is_read (is_print {ts} {e} d) = ap (λ o. o >>= (λ e. Ok (print_form e))) (read_whole ts e d)
form_is_read is_barrier = refl
form_is_read (is_bcast {rs} {root} {x} d) =
    ap (λ o. o >>= (λ d. comma d.1 >>= (λ us. lone_name us >>= (λ x. Ok (bcast_form d.0 x))))) (complete d (t.Comma ∷ (t.Name x ∷ [])) tt)
form_is_read (is_reduce {r} {rs} {es} {root} {e} {x} dd de) =
    ap (λ o. o >>= (λ d. comma d.1 >>= (λ us. expression_at us >>= (λ e. comma e.1 >>= (λ vs. lone_name vs >>= (λ x. Ok (reduce_form r d.0 e.0 x)))))))
    (complete dd (t.Comma ∷ (es ++ t.Comma ∷ (t.Name x ∷ []))) tt)
    ∙ ap (λ o. o >>= (λ e. comma e.1 >>= (λ vs. lone_name vs >>= (λ x. Ok (reduce_form r root e.0 x))))) (complete de (t.Comma ∷ (t.Name x ∷ [])) tt)

-- so it is by the function that leaves out where the others stop
pub form_read : {ts : List Token} {f : Form} → IsForm ts f → form_of ts ≡ Some f
form_read d = ap ok_of (form_is_read d)

-- the tokens have the form, where there is one
abbrev pub FormReadIs : Read Form → List Token → Type 0
FormReadIs (Err m) ts = Unit {0}
FormReadIs (Ok f) ts = IsForm ts f

-- a statement word, an expression and nothing more
ended : (o : Read Tree) (ts : List Token) (make : Tree → Form) (all : List Token) → AloneIs o ts
    → ((e : Tree) → Spells whole ts e → IsForm all (make e))
    → FormReadIs (o >>= (λ e. Ok (make e))) all
ended (Err m) ts make all h build = tt
ended (Ok e) ts make all h build = build e h

-- an expression, a comma and more
then_comma : (o : Read (Tree × List Token)) (ts : List Token) (next : Tree → List Token → Read Form) (all : List Token)
    → ReadIs o [] ts
    → ((e : Tree) (ds us : List Token) → Spells whole ds e → ts ≡ ds ++ t.Comma ∷ us → FormReadIs (next e us) all)
    → FormReadIs (o >>= (λ d. comma d.1 >>= (λ us. next d.0 us))) all
then_comma (Err m) ts next all h build = tt
then_comma (Ok (e, (t.Comma ∷ us))) ts next all h build = build e h.0 us h.1 h.2
then_comma (Ok (e, _)) ts next all h build = tt

-- the tokens are the payload, where there is one
abbrev PayloadIs : Read Payload → List Token → Type 0
PayloadIs (Err m) ts = Unit {0}
PayloadIs (Ok p) ts = IsPayload ts p

-- an expression that is no name by itself
one_ended : (o : Read Tree) (ts : List Token) → IsNoName ts → AloneIs o ts → PayloadIs (o >>= (λ e. Ok (one e))) ts
one_ended (Err m) ts h r = tt
one_ended (Ok e) ts h r = is_one h r

-- what is read as a payload is one
payload_spelled : (ts : List Token) → PayloadIs (payload_of ts) ts
payload_spelled [] = tt
payload_spelled (t.Name x ∷ []) = is_lone
payload_spelled (t.Name x ∷ (y ∷ ts)) = one_ended (whole_expression (t.Name x ∷ (y ∷ ts))) (t.Name x ∷ (y ∷ ts)) tt (whole_spelled (t.Name x ∷ (y ∷ ts)))
payload_spelled (token ∷ ts) = one_ended (whole_expression (token ∷ ts)) (token ∷ ts) tt (whole_spelled (token ∷ ts))

-- the payload of a send and nothing more
given : (o : Read Payload) (vs : List Token) (d g : Tree) (all : List Token) → PayloadIs o vs
    → ((p : Payload) → IsPayload vs p → IsForm all (send_form d g p))
    → FormReadIs (o >>= (λ p. Ok (send_form d g p))) all
given (Err m) vs d g all h build = tt
given (Ok p) vs d g all h build = build p h

-- what is read as a send is one
send_spelled : (ts : List Token) → FormReadIs (send_of ts) (t.Keyword k.Send ∷ ts)
unfolding send_of
send_spelled ts =
    then_comma (expression_at ts) ts
    (λ d us. expression_at us >>= (λ g. comma g.1 >>= (λ vs. payload_of vs >>= (λ p. Ok (send_form d g.0 p)))))
    (t.Keyword k.Send ∷ ts) (sound ts) (λ d ds us dd q.
    then_comma (expression_at us) us (λ g vs. payload_of vs >>= (λ p. Ok (send_form d g p))) (t.Keyword k.Send ∷ ts) (sound us) (λ g gs vs dg r.
    given (payload_of vs) vs d g (t.Keyword k.Send ∷ ts) (payload_spelled vs) (λ p dp.
    subst (λ z. IsForm (t.Keyword k.Send ∷ z) (send_form d g p)) (sym (q ∙ ap (λ z. ds ++ t.Comma ∷ z) r)) (is_send dd dg dp))))

-- the tokens begin with the pattern, where there is one, and end with what is behind it
abbrev PatternIs : Read (Pattern × List Token) → List Token → Type 0
PatternIs (Err m) ts = Unit {0}
PatternIs (Ok c) ts = (us : List Token) × IsPattern us c.0 × (ts ≡ us ++ c.1)

-- an expression in front is a pattern in front
valued : (o : Read (Tree × List Token)) (ts : List Token) → ReadIs o [] ts → PatternIs (value_at ts o) ts
valued (Err m) ts h = tt
valued (Ok e) ts h = (h.0, is_value h.1, h.2)

-- what is read as the pattern in front is one
pattern_spelled : (ts : List Token) → PatternIs (pattern_at ts) ts
pattern_spelled [] = valued (expression_at []) [] (sound [])
pattern_spelled (t.Any ∷ ts) = (t.Any ∷ [], is_any, refl)
pattern_spelled (token ∷ ts) = valued (expression_at (token ∷ ts)) (token ∷ ts) (sound (token ∷ ts))

-- a pattern, a comma and more
pattern_comma : {B : Type 0} (Holds : Read B → Type 0) → ((m : List Token × Expected) → Holds (Err m))
    → (o : Read (Pattern × List Token)) (ts : List Token) (next : Pattern → List Token → Read B)
    → PatternIs o ts
    → ((c : Pattern) (ds us : List Token) → IsPattern ds c → ts ≡ ds ++ t.Comma ∷ us → Holds (next c us))
    → Holds (o >>= (λ d. comma d.1 >>= (λ us. next d.0 us)))
pattern_comma Holds none (Err m) ts next h build = none m
pattern_comma Holds none (Ok (c, (t.Comma ∷ us))) ts next h build = build c h.0 us h.1 h.2
pattern_comma Holds none (Ok (c, us)) ts next h build = none (us, w.Comma)

-- the tokens begin with the source and the tag, where there are both, and end with what is behind them
abbrev EnvelopeIs : Read (Pattern × Pattern × List Token) → List Token → Type 0
EnvelopeIs (Err m) ts = Unit {0}
EnvelopeIs (Ok e) ts = (ss gs : List Token) × IsPattern ss e.0 × IsPattern gs e.1 × (ts ≡ ss ++ t.Comma ∷ (gs ++ t.Comma ∷ e.2))

-- what is read as the source and the tag in front are both
envelope_spelled : (ts : List Token) → EnvelopeIs (envelope_at ts) ts
unfolding envelope_at
envelope_spelled ts =
    pattern_comma (λ o. EnvelopeIs o ts) (λ m. tt) (pattern_at ts) ts (λ s us. pattern_at us >>= (λ g. comma g.1 >>= (λ vs. Ok (s, g.0, vs))))
    (pattern_spelled ts) (λ s ss us ds q.
    pattern_comma (λ o. EnvelopeIs o ts) (λ m. tt) (pattern_at us) us (λ g vs. Ok (s, g, vs)) (pattern_spelled us) (λ g gs vs dg r.
    (ss, gs, ds, dg, q ∙ ap (λ z. ss ++ t.Comma ∷ z) r)))

-- a name and nothing more
last_name : (vs : List Token) (make : List ℕ → Form) (all : List Token)
    → ((x : List ℕ) → vs ≡ t.Name x ∷ [] → IsForm all (make x)) → FormReadIs (lone_name vs >>= (λ x. Ok (make x))) all
last_name (t.Name x ∷ []) make all build = build x refl
last_name (t.Name x ∷ (y ∷ vs)) make all build = tt
last_name _ make all build = tt

-- a source, a tag and a name, and nothing more
envelope_name : (o : Read (Pattern × Pattern × List Token)) (ts : List Token) (word : Keyword) (make : Pattern → Pattern → List ℕ → Form)
    → EnvelopeIs o ts
    → ((ss gs : List Token) (s g : Pattern) (x : List ℕ) → IsPattern ss s → IsPattern gs g
    → IsForm (t.Keyword word ∷ (ss ++ t.Comma ∷ (gs ++ t.Comma ∷ (t.Name x ∷ [])))) (make s g x))
    → FormReadIs (o >>= (λ e. lone_name e.2 >>= (λ x. Ok (make e.0 e.1 x)))) (t.Keyword word ∷ ts)
envelope_name (Err m) ts word make h build = tt
envelope_name (Ok (s, g, vs)) ts word make h build =
    last_name vs (make s g) (t.Keyword word ∷ ts) (λ x l.
    subst (λ z. IsForm (t.Keyword word ∷ z) (make s g x)) (sym (h.4 ∙ ap (λ z. h.0 ++ t.Comma ∷ (h.1 ++ t.Comma ∷ z)) l))
    (build h.0 h.1 s g x h.2 h.3))

-- what is read as a receive is one
recv_spelled : (ts : List Token) → FormReadIs (read_form (t.Keyword k.Recv ∷ ts)) (t.Keyword k.Recv ∷ ts)
unfolding recv_of
recv_spelled ts = envelope_name (envelope_at ts) ts k.Recv recv_form (envelope_spelled ts) (λ ss gs s g x ds dg. is_recv ds dg)

-- what is read as an `iprobe` is one
try_probe_spelled : (ts : List Token) → FormReadIs (read_form (t.Keyword k.Iprobe ∷ ts)) (t.Keyword k.Iprobe ∷ ts)
unfolding try_probe_of
try_probe_spelled ts = envelope_name (envelope_at ts) ts k.Iprobe try_probe_form (envelope_spelled ts) (λ ss gs s g x ds dg. is_try_probe ds dg)

-- the tokens are the pattern, where there is one
abbrev WholePatternIs : Read Pattern → List Token → Type 0
WholePatternIs (Err m) ts = Unit {0}
WholePatternIs (Ok c) ts = IsPattern ts c

-- a pattern in front, with nothing after it, is a pattern of all of the tokens
whole_in_front : (o : Read (Pattern × List Token)) (ts : List Token) → PatternIs o ts → WholePatternIs (o >>= (λ c. bare c.0 c.1)) ts
whole_in_front (Err m) ts h = tt
whole_in_front (Ok (c, [])) ts h = subst (λ z. IsPattern z c) (sym (h.2 ∙ append-nil h.0)) h.1
whole_in_front (Ok (c, (x ∷ xs))) ts h = tt

-- what is read as a pattern and nothing more is one
whole_pattern_spelled : (ts : List Token) → WholePatternIs (whole_pattern ts) ts
whole_pattern_spelled ts = whole_in_front (pattern_at ts) ts (pattern_spelled ts)

-- a pattern and nothing more
last_pattern : (o : Read Pattern) (us : List Token) (make : Pattern → Form) (all : List Token) → WholePatternIs o us
    → ((g : Pattern) → IsPattern us g → IsForm all (make g)) → FormReadIs (o >>= (λ g. Ok (make g))) all
last_pattern (Err m) us make all h build = tt
last_pattern (Ok g) us make all h build = build g h

-- what is read as a probe is one
probe_spelled : (ts : List Token) → FormReadIs (read_form (t.Keyword k.Probe ∷ ts)) (t.Keyword k.Probe ∷ ts)
unfolding probe_of
probe_spelled ts =
    pattern_comma (λ o. FormReadIs o (t.Keyword k.Probe ∷ ts)) (λ m. tt) (pattern_at ts) ts (λ s us. whole_pattern us >>= (λ g. Ok (probe_form s g)))
    (pattern_spelled ts) (λ s ds us dd q.
    last_pattern (whole_pattern us) us (probe_form s) (t.Keyword k.Probe ∷ ts) (whole_pattern_spelled us) (λ g dg.
    subst (λ z. IsForm (t.Keyword k.Probe ∷ z) (probe_form s g)) (sym q) (is_probe dd dg)))

-- an expression, a bracket and `=`, and more
then_bracket : (o : Read (Tree × List Token)) (ts : List Token) (next : Tree → List Token → Read Form) (all : List Token)
    → ReadIs o [] ts
    → ((e : Tree) (is us : List Token) → Spells whole is e → ts ≡ is ++ t.CloseBracket ∷ t.Assign ∷ us → FormReadIs (next e us) all)
    → FormReadIs (o >>= (λ i. bracket_assign i.1 >>= (λ us. next i.0 us))) all
then_bracket (Err m) ts next all h build = tt
then_bracket (Ok (e, (t.CloseBracket ∷ (t.Assign ∷ us)))) ts next all h build = build e h.0 us h.1 h.2
then_bracket (Ok (e, _)) ts next all h build = tt

-- what is read as a `let` of an item is one
item_spelled : (x : List ℕ) (ts : List Token) → FormReadIs (item_of x ts) (t.Keyword k.Let ∷ t.Name x ∷ t.OpenBracket ∷ ts)
unfolding item_of
item_spelled x ts =
    then_bracket (expression_at ts) ts (λ i us. whole_expression us >>= (λ e. Ok (item_form x i e)))
    (t.Keyword k.Let ∷ t.Name x ∷ t.OpenBracket ∷ ts) (sound ts) (λ i is us di q.
    ended (whole_expression us) us (item_form x i) (t.Keyword k.Let ∷ t.Name x ∷ t.OpenBracket ∷ ts) (whole_spelled us) (λ e de.
    subst (λ z. IsForm (t.Keyword k.Let ∷ t.Name x ∷ t.OpenBracket ∷ z) (item_form x i e)) (sym q) (is_let_item di de)))

-- what is read as a broadcast is one
bcast_spelled : (ts : List Token) → FormReadIs (bcast_of ts) (t.Keyword k.Bcast ∷ ts)
unfolding bcast_of
bcast_spelled ts =
    then_comma (expression_at ts) ts (λ d us. lone_name us >>= (λ x. Ok (bcast_form d x))) (t.Keyword k.Bcast ∷ ts) (sound ts) (λ d ds us dd q.
    last_name us (bcast_form d) (t.Keyword k.Bcast ∷ ts) (λ x l.
    subst (λ z. IsForm (t.Keyword k.Bcast ∷ z) (bcast_form d x)) (sym (q ∙ ap (λ z. ds ++ t.Comma ∷ z) l)) (is_bcast dd)))

-- what is read as a reduce from its root on is one, behind its reduction
reduce_spelled : (r : Reduction) (ts : List Token)
    → FormReadIs (reduced_of r ts) (t.Keyword k.Reduce ∷ t.Reduction r ∷ t.Comma ∷ ts)
unfolding reduced_of
reduce_spelled r ts =
    let all : List Token = t.Keyword k.Reduce ∷ t.Reduction r ∷ t.Comma ∷ ts in
    then_comma (expression_at ts) ts
    (λ d us. expression_at us >>= (λ e. comma e.1 >>= (λ vs. lone_name vs >>= (λ x. Ok (reduce_form r d e.0 x))))) all (sound ts) (λ d ds us dd p.
    then_comma (expression_at us) us (λ e vs. lone_name vs >>= (λ x. Ok (reduce_form r d e x))) all (sound us) (λ e es vs de q.
    last_name vs (reduce_form r d e) all (λ x l.
    subst (λ z. IsForm (t.Keyword k.Reduce ∷ t.Reduction r ∷ t.Comma ∷ z) (reduce_form r d e x))
    (sym (p ∙ ap (λ z. ds ++ t.Comma ∷ z) (q ∙ ap (λ z. es ++ t.Comma ∷ z) l))) (is_reduce dd de))))

-- what is read as a form has it
pub form_read_spelled : (ts : List Token) → FormReadIs (read_form ts) ts
unfolding var_of array_of let_of if_of while_of print_of reduce_of
form_read_spelled (t.Keyword k.Array ∷ (t.Name x ∷ (t.OpenBracket ∷ (t.Number n ∷ (t.CloseBracket ∷ []))))) = is_array
form_read_spelled (t.Keyword k.Let ∷ (t.Name x ∷ (t.OpenBracket ∷ ts))) = item_spelled x ts
form_read_spelled (t.Keyword k.Let ∷ (t.Name x ∷ (t.Assign ∷ ts))) =
    ended (whole_expression ts) ts (let_form x) (t.Keyword k.Let ∷ t.Name x ∷ t.Assign ∷ ts) (whole_spelled ts) (λ e d. is_let d)
form_read_spelled (t.Keyword k.While ∷ ts) = ended (whole_expression ts) ts while_form (t.Keyword k.While ∷ ts) (whole_spelled ts) (λ e d. is_while d)
form_read_spelled (t.Keyword k.If ∷ ts) = ended (whole_expression ts) ts if_form (t.Keyword k.If ∷ ts) (whole_spelled ts) (λ e d. is_if d)
form_read_spelled (t.Keyword k.Print ∷ ts) = ended (whole_expression ts) ts print_form (t.Keyword k.Print ∷ ts) (whole_spelled ts) (λ e d. is_print d)
form_read_spelled (t.Keyword k.Else ∷ []) = is_else
form_read_spelled (t.Keyword k.End ∷ []) = is_end
form_read_spelled (t.Keyword k.Var ∷ (t.Name x ∷ [])) = is_var
form_read_spelled (t.Keyword k.Send ∷ ts) = send_spelled ts
form_read_spelled (t.Keyword k.Recv ∷ ts) = recv_spelled ts
form_read_spelled (t.Keyword k.Probe ∷ ts) = probe_spelled ts
form_read_spelled (t.Keyword k.Iprobe ∷ ts) = try_probe_spelled ts
form_read_spelled (t.Keyword k.Barrier ∷ []) = is_barrier
form_read_spelled (t.Keyword k.Bcast ∷ ts) = bcast_spelled ts
form_read_spelled (t.Keyword k.Reduce ∷ (t.Reduction r ∷ (t.Comma ∷ ts))) = reduce_spelled r ts
form_read_spelled _ = tt

-- the tokens have the form, where there is one
abbrev pub FormIs : Option Form → List Token → Type 0
FormIs None ts = Unit {0}
FormIs (Some f) ts = IsForm ts f

-- the same, without where the others stop
form_is : (o : Read Form) (ts : List Token) → FormReadIs o ts → FormIs (ok_of o) ts
form_is (Err m) ts h = tt
form_is (Ok f) ts h = h

-- what is read as a form has it
pub form_spelled : (ts : List Token) → FormIs (form_of ts) ts
form_spelled ts = form_is (read_form ts) ts (form_read_spelled ts)

-- no tokens have two forms
pub one_form : (ts : List Token) (f g : Form) → IsForm ts f → IsForm ts g → f ≡ g
one_form ts f g d e = let q : Some f ≡ Some g = sym (form_read d) ∙ form_read e in cc

-- what the code has read is a form of the tokens
found_of : (o : Result source_form.Form Misfit) (ts : List Token) → form_in o ≡ read_form ts → IfOk o (λ f. IsForm ts (form_seen f))
found_of (Err m) ts q = tt
found_of (Ok f) ts q = subst (λ o. FormReadIs o ts) (sym q) (form_read_spelled ts)

-- the same of the code's result, unless memory ran out
pub found : (r : Result (Result source_form.Form Misfit) AllocError) (ts : List Token) → IfOk r (λ o. form_in o ≡ read_form ts)
    → IfOk r (λ o. IfOk o (λ f. IsForm ts (form_seen f)))
found (Ok o) ts h = found_of o ts h
found (Err e) ts h = tt

-- what has a form is what the code has read
pub only : (r : Result (Result source_form.Form Misfit) AllocError) (ts : List Token) → IfOk r (λ o. form_in o ≡ read_form ts)
    → IfOk r (λ o. (f : Form) → IsForm ts f → form_in o ≡ Ok f)
only (Ok o) ts h = λ f d. h ∙ form_is_read d
only (Err e) ts h = tt
