-- Where the reading of a line stops is its misfit: no form goes on there.
use Rattle.std.proofs.Common.{◌≡◌, List, [], ◌∷◌, ◌++◌, Result, Ok, Err, IfOk, IfErr, refl, sym, subst, append_assoc}
use Rattle.std.specs.declared.alloc.AllocError.{AllocError}
use Rattle.rank_text.specs.declared.grammar.form.Form as source_form
use Rattle.rank_text.specs.declared.grammar.misfit.Misfit.{Misfit}
use Rattle.rank_text.specs.declared.grammar.token.Keyword.{Keyword}
use Rattle.rank_text.specs.declared.grammar.token.Keyword.TheVariants as k
use Rattle.rank_text.specs.declared.grammar.token.Reduction.TheVariants as rt
use Rattle.rank_text.specs.declared.grammar.token.Token.{Token}
use Rattle.rank_text.specs.declared.grammar.token.Token.TheVariants as t
use Rattle.rank_text.specs.Grammar.Forms.{Form, IsForm, else_form, end_form, barrier_form, form_with, read_form}
use Rattle.rank_text.specs.Grammar.Misfits.{EndsForm, IsMisfit}
use Rattle.rank_text.specs.Grammar.SeenForms.{form_in}
use Rattle.rank_text.proofs.GrammarLaws.FormLaws.{FormReadIs, form_is_read, form_read_spelled}
use Rattle.rank_text.proofs.GrammarLaws.MisfitLaws.Stopping.{Fails, Blocks, Stops, StopsIf, Good, stops_behind}
use Rattle.rank_text.proofs.GrammarLaws.MisfitLaws.Signs.{bare_good}
use Rattle.rank_text.proofs.GrammarLaws.MisfitLaws.Messages.{send_good, recv_good, try_probe_good, probe_good}
use Rattle.rank_text.proofs.GrammarLaws.MisfitLaws.Collectives.{bcast_good, reduce_good}
use Rattle.rank_text.proofs.GrammarLaws.MisfitLaws.Declarations.{array_good, let_good, var_good, if_good, while_good, print_good}

-- the reader of the arguments of each statement word is good
with_good : (word : Keyword) → Good (form_with word)
with_good k.Var = var_good
with_good k.Array = array_good
with_good k.Let = let_good
with_good k.If = if_good
with_good k.Else = bare_good else_form
with_good k.End = bare_good end_form
with_good k.While = while_good
with_good k.Send = send_good
with_good k.Recv = recv_good
with_good k.Print = print_good
with_good k.Probe = probe_good
with_good k.Iprobe = try_probe_good
with_good k.Barrier = bare_good barrier_form
with_good k.Bcast = bcast_good
with_good k.Reduce = reduce_good rt.Sum

-- so the reader of a form is good
form_good : Good read_form
form_good [] = ([], t.Keyword k.Else ∷ [], else_form, refl, refl, tt)
form_good (t.Keyword word ∷ ts) = stops_behind read_form (form_with word) (t.Keyword word) (λ us. refl) ts (form_with word ts) (with_good word ts)
form_good (token ∷ ts) = ([], t.Keyword k.Else ∷ [], else_form, refl, refl, λ more. tt)

-- what a form has been read from is a form
formed : (ts : List Token) (f : Form) → read_form ts ≡ Ok f → IsForm ts f
formed ts f q = subst (λ o. FormReadIs o ts) q (form_read_spelled ts)

-- where the reading fails there is no form
unformed : (ts : List Token) (f : Form) → Fails (read_form ts) → IsForm ts f → ⊥
unformed ts f h d = subst (λ z. Fails z) (form_is_read d) h

-- so no form goes on where the reading stops
form_ends : (front rest : List Token) → Blocks read_form front rest → EndsForm front rest
form_ends front [] b = λ f d. unformed front f b d
form_ends front (token ∷ rest) b = λ w. (
    let more = w.0 in
    unformed (front ++ token ∷ more) w.1 (b more) (subst (λ z. IsForm z w.1) (append_assoc front (token ∷ []) more) w.2))

-- where the reading stops is the misfit
misfit_in : (ts rest : List Token) → Stops read_form ts rest → IsMisfit ts rest
misfit_in ts rest s = record {
  front = s.0;
  is = s.3;
  begun = (s.1, s.2, formed (s.0 ++ s.1) s.2 s.4);
  ended = form_ends s.0 rest s.5;
}

-- so it is of the code's result
misfit_of_result : (o : Result source_form.Form Misfit) (ts : List Token) → form_in o ≡ read_form ts → IfErr o (λ m. IsMisfit ts m.rest.now)
misfit_of_result (Ok f) ts q = tt
misfit_of_result (Err m) ts q = misfit_in ts m.rest.now (subst (StopsIf read_form ts) (sym q) (form_good ts))

-- unless memory ran out
pub misfit : (r : Result (Result source_form.Form Misfit) AllocError) (ts : List Token) → IfOk r (λ o. form_in o ≡ read_form ts)
    → IfOk r (λ o. IfErr o (λ m. IsMisfit ts m.rest.now))
misfit (Ok o) ts h = misfit_of_result o ts h
misfit (Err e) ts h = tt
