-- What forms in the code stand for.
use Rattle.std.specs.Prelude.{ℕ, List, Result, Ok, Err}
use Rattle.std.specs.Borrow.{Bor}
use Rattle.rank_text.specs.declared.grammar.name.Name.{Name}
use Rattle.rank_text.specs.declared.grammar.token.Token.{Token}
use Rattle.rank_text.specs.declared.grammar.form.Pattern as source_pattern
use Rattle.rank_text.specs.declared.grammar.form.Payload as source_payload
use Rattle.rank_text.specs.declared.grammar.form.Form as source_form
use Rattle.rank_text.specs.declared.grammar.misfit.Misfit.{Misfit}
use Rattle.rank_text.specs.Grammar.Tree.{tree_of}
use Rattle.rank_text.specs.Grammar.Reader.{Read}
use Rattle.rank_text.specs.Grammar.Seen.{misfit_of}
use Rattle.rank_text.specs.Grammar.Forms.{Pattern, any, value, Payload, lone, one}
use Rattle.rank_text.specs.Grammar.Forms.{Form, var_form, array_form, let_form, item_form, if_form, else_form, end_form, while_form}
use Rattle.rank_text.specs.Grammar.Forms.{send_form, recv_form, probe_form, try_probe_form, print_form, barrier_form, bcast_form, reduce_form}

-- a source or a tag
abbrev pub pattern_of : source_pattern.Pattern → Pattern
pattern_of source_pattern.TheVariants.Any = any
pattern_of (source_pattern.TheVariants.Value e) = value (tree_of e)

-- what a send gives
abbrev pub payload_seen : source_payload.Payload → Payload
payload_seen (source_payload.TheVariants.Lone x) = lone x
payload_seen (source_payload.TheVariants.One e) = one (tree_of e)

-- the statement of a line
abbrev pub form_seen : source_form.Form → Form
form_seen (source_form.TheVariants.Var x) = var_form x
form_seen (source_form.TheVariants.Array x n) = array_form x n
form_seen (source_form.TheVariants.Let x e) = let_form x (tree_of e)
form_seen (source_form.TheVariants.LetItem x i e) = item_form x (tree_of i) (tree_of e)
form_seen (source_form.TheVariants.If e) = if_form (tree_of e)
form_seen source_form.TheVariants.Else = else_form
form_seen source_form.TheVariants.End = end_form
form_seen (source_form.TheVariants.While e) = while_form (tree_of e)
form_seen (source_form.TheVariants.Send d g p) = send_form (tree_of d) (tree_of g) (payload_seen p)
form_seen (source_form.TheVariants.Recv s g x) = recv_form (pattern_of s) (pattern_of g) x
form_seen (source_form.TheVariants.Probe s g) = probe_form (pattern_of s) (pattern_of g)
form_seen (source_form.TheVariants.TryProbe s g x) = try_probe_form (pattern_of s) (pattern_of g) x
form_seen (source_form.TheVariants.Print e) = print_form (tree_of e)
form_seen source_form.TheVariants.Barrier = barrier_form
form_seen (source_form.TheVariants.Bcast e x) = bcast_form (tree_of e) x
form_seen (source_form.TheVariants.Reduce r d e x) = reduce_form r (tree_of d) (tree_of e) x

-- the statement of a line, if it has one
abbrev pub form_in : Result source_form.Form Misfit → Read Form
form_in (Ok f) = Ok (form_seen f)
form_in (Err m) = Err (misfit_of m)

-- what a send gives, if it is one
abbrev pub payload_in : Result source_payload.Payload Misfit → Read Payload
payload_in (Ok p) = Ok (payload_seen p)
payload_in (Err m) = Err (misfit_of m)

-- the pattern in front, and the tokens after it
abbrev pub pattern_in : Result (source_pattern.Pattern × Bor (List Token)) Misfit → Read (Pattern × List Token)
pattern_in (Ok c) = Ok (pattern_of c.0, c.1.now)
pattern_in (Err m) = Err (misfit_of m)

-- the source and the tag in front, and the tokens after them
abbrev pub envelope_in : Result (source_pattern.Pattern × source_pattern.Pattern × Bor (List Token)) Misfit → Read (Pattern × Pattern × List Token)
envelope_in (Ok e) = Ok (pattern_of e.0, pattern_of e.1, e.2.now)
envelope_in (Err m) = Err (misfit_of m)

-- the pattern that all of the tokens are
abbrev pub whole_pattern_in : Result source_pattern.Pattern Misfit → Read Pattern
whole_pattern_in (Ok c) = Ok (pattern_of c)
whole_pattern_in (Err m) = Err (misfit_of m)

-- the tokens that are left
abbrev pub rest_in : Result (Bor (List Token)) Misfit → Read (List Token)
rest_in (Ok r) = Ok r.now
rest_in (Err m) = Err (misfit_of m)

-- the bytes of a name, if there is one
abbrev pub lone_in : Result Name Misfit → Read (List ℕ)
lone_in (Ok x) = Ok x
lone_in (Err m) = Err (misfit_of m)
