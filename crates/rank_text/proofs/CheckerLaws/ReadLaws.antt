-- A reader that takes a text line by line gives what the whole text gives: what it has, in front of what the rest
-- gives, stays the same with each line, until a line at fault or the end decides.
use Rattle.std.specs.Prelude.{◌≡◌, ℕ, ◌+◌, ◌≤◌, List, [], ◌∷◌, ◌++◌, Option, Some, None, Result, Ok, Err, IfOk, IfErr}
use Rattle.std.proofs.Common.{refl, sym, ap, subst, ◌∙◌, append_assoc}
use Rattle.limits.specs.Limits.{most_lines}
use Rattle.rank_text.specs.declared.grammar.form.Form as source_form
use Rattle.rank_text.specs.Grammar.Forms.{Form}
use Rattle.rank_text.specs.Grammar.SeenForms.{form_seen}
use Rattle.rank_text.specs.declared.checker.draft.Draft.{Draft}
use Rattle.rank_text.specs.declared.checker.fault.FaultKind.{FaultKind}
use Rattle.rank_text.specs.declared.checker.fault.ParseFault.{ParseFault}
use Rattle.rank_text.specs.declared.checker.fault.ParseFault.TheVariants.{Fault, Memory}
use Rattle.rank_text.specs.declared.checker.fault.ProgramFault.{ProgramFault}
use Rattle.rank_text.specs.Checker.Faults.{IsText, IsFaultOf}
use Rattle.rank_text.specs.Checker.Scope.{Scope, IsWhole, nothing_yet, after, after_all}
use Rattle.rank_text.specs.Checker.SeenLines.{forms_seen}
use Rattle.rank_text.specs.Checker.Verdict.{verdict_on, onto_forms, after_line, statements_of, reading_of}
use Rattle.rank_text.specs.Checker.Progress.{StatementsRead, taken, with_line, step, with_front, going, IsLed, Reads}
use Rattle.rank_text.proofs.CheckerLaws.TextLaws.{read_text, read_fault, program_or_fault}
use Rattle.rank_text.proofs.CheckerLaws.LineLaws.{Answers, line_answers}
use Rattle.rank_text.proofs.CheckerLaws.WholeLaws.{in_time, text_whole}

-- a statement more at the end
pub forms_push : (fs : List source_form.Form) (f : source_form.Form) → forms_seen (fs ++ f ∷ []) ≡ forms_seen fs ++ form_seen f ∷ []
forms_push [] f = refl
forms_push (g ∷ fs) f = ap (λ z. form_seen g ∷ z) (forms_push fs f)

-- a skipped line adds no statement
front_skipped : (fs : List Form) (x : Result (List Form) (ℕ × FaultKind)) → with_front fs x ≡ with_front fs (onto_forms None x)
front_skipped fs (Ok gs) = refl
front_skipped fs (Err e) = refl

-- a statement goes last of those in front, or first of those behind
front_taken : (fs : List Form) (f : Form) (x : Result (List Form) (ℕ × FaultKind))
    → with_front (fs ++ f ∷ []) x ≡ with_front fs (onto_forms (Some f) x)
front_taken fs f (Ok gs) = ap Ok (append_assoc fs (f ∷ []) gs)
front_taken fs f (Err e) = refl

-- a line more, by how it is judged
abbrev step_by : StatementsRead → Result (Option Form) FaultKind → Result StatementsRead FaultKind
step_by r a = elim a [ Err k ↦ Err k | Ok o ↦ Ok (with_line r o) ]

-- what the whole text gives, by how the line is judged
abbrev going_by : StatementsRead → ℕ → List (List ℕ) → Result (Option Form) FaultKind → Result (List Form) (ℕ × FaultKind)
going_by r n ls a = with_front r.forms (elim a [ Err k ↦ Err (n, k) | Ok f ↦ onto_forms f (statements_of (after_line r.scope f) (n + 1) ls) ])

-- each judgment without fault goes on with the rest
goes_by : (r r' : StatementsRead) (n : ℕ) (ls : List (List ℕ)) (a : Result (Option Form) FaultKind) → step_by r a ≡ Ok r'
    → going r' (n + 1) ls ≡ going_by r n ls a
goes_by r r' n ls (Err k) q = absurd cc
goes_by r r' n ls (Ok None) q =
    let e : r' ≡ r = cc in
    ap (λ z. going z (n + 1) ls) e ∙ front_skipped r.forms (statements_of r.scope (n + 1) ls)
goes_by r r' n ls (Ok (Some f)) q =
    let e : r' ≡ taken r f = cc in
    ap (λ z. going z (n + 1) ls) e ∙ front_taken r.forms f (statements_of (after r.scope f) (n + 1) ls)

-- a line without fault: the rest gives what the whole gave
pub step_goes : (r r' : StatementsRead) (n : ℕ) (line : List ℕ) (ls : List (List ℕ)) → Ok r' ≡ step r n line
    → going r' (n + 1) ls ≡ going r n (line ∷ ls)
step_goes r r' n line ls q = goes_by r r' n ls (verdict_on r.scope n line) (sym q)

-- each fault ends the text
stops_by : (r : StatementsRead) (n : ℕ) (ls : List (List ℕ)) (a : Result (Option Form) FaultKind) (k : FaultKind) → step_by r a ≡ Err k
    → Err (n, k) ≡ going_by r n ls a
stops_by r n ls (Err j) k q = let e : k ≡ j = cc in ap (λ z. Err (n, z)) e
stops_by r n ls (Ok o) k q = absurd cc

-- a line at fault ends the text
pub step_stops : (r : StatementsRead) (n : ℕ) (line : List ℕ) (ls : List (List ℕ)) (k : FaultKind) → Err k ≡ step r n line
    → Err (n, k) ≡ going r n (line ∷ ls)
step_stops r n line ls k q = stops_by r n ls (verdict_on r.scope n line) k (sym q)

-- a line judged without fault is among the first thousand
early_by : (s : Scope) (n : ℕ) (line : List ℕ) (a : Result (Option Form) FaultKind) → Answers s n line a → (r r' : StatementsRead)
    → step_by r a ≡ Ok r' → n ≤ most_lines
early_by s n line (Err k) h r r' q = absurd cc
early_by s n line (Ok o) h r r' q = in_time h

-- a line without fault is among the first thousand
pub step_in_time : (r r' : StatementsRead) (n : ℕ) (line : List ℕ) → Ok r' ≡ step r n line → n ≤ most_lines
step_in_time r r' n line q = early_by r.scope n line (verdict_on r.scope n line) (line_answers r.scope n line) r r' (sym q)

-- a last statement comes after the others
after_push : (s : Scope) (fs : List Form) (f : Form) → after_all s (fs ++ f ∷ []) ≡ after (after_all s fs) f
after_push s [] f = refl
after_push s (g ∷ fs) f = after_push (after s g) fs f

-- each judgment without fault leaves what its statement does
leads_by : (r r' : StatementsRead) (a : Result (Option Form) FaultKind) → step_by r a ≡ Ok r' → IsLed r → IsLed r'
leads_by r r' (Err k) q h = absurd cc
leads_by r r' (Ok None) q h = let e : r ≡ r' = cc in subst IsLed e h
leads_by r r' (Ok (Some f)) q h =
    let e : taken r f ≡ r' = cc in
    subst IsLed e (ap (λ z. after z f) h ∙ sym (after_push nothing_yet r.forms f))

-- and leaves what its statement does
pub step_leads : (r r' : StatementsRead) (n : ℕ) (line : List ℕ) → Ok r' ≡ step r n line → IsLed r → IsLed r'
step_leads r r' n line q h = leads_by r r' (verdict_on r.scope n line) (sym q) h

-- what is read is the text's statements
pub program_of : (r : Result Draft ParseFault) (text : List ℕ) → Reads r (reading_of text)
    → IfOk r (λ d. IsText text (forms_seen d.forms.items))
program_of (Ok d) text h = read_text text _ h
program_of (Err e) text h = tt

-- and they are whole
pub whole_of : (r : Result Draft ParseFault) (text : List ℕ) → Reads r (reading_of text) → IfOk r (λ d. IsWhole (forms_seen d.forms.items))
whole_of (Ok d) text h = text_whole text _ (read_text text _ h)
whole_of (Err e) text h = tt

-- a fault that is answered is the first
pub fault_of : (r : Result Draft ParseFault) (text : List ℕ) → Reads r (reading_of text) → (f : ProgramFault) → r ≡ Err (Fault f)
    → IsFaultOf text f.line f.kind
fault_of r text h f q = read_fault text f.line f.kind (subst (λ z. Reads z (reading_of text)) q h)

-- and a text of statements has none
pub accepted_of : (r : Result Draft ParseFault) (text : List ℕ) → Reads r (reading_of text) → (fs : List Form) → IsText text fs
    → IfErr r (λ e. e ≡ Memory)
accepted_of (Ok d) text h fs t = tt
accepted_of (Err Memory) text h fs t = refl
accepted_of (Err (Fault f)) text h fs t = absurd (program_or_fault text fs f.line f.kind t (read_fault text f.line f.kind h))
