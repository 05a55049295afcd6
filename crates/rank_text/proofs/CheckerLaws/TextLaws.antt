-- What is answered for a text is its statements, or its first fault; no text has two answers.
-- Line by line: a line without fault goes on with what it leaves, and the first other one ends the text with its
-- lowest fault. A line that has a statement, is skipped or is at fault is only one of these.
use Rattle.std.specs.Prelude.{◌≡◌, ℕ, ◌+◌, List, [], ◌∷◌, Option, Some, None, Result, Ok, Err, if◌then◌else◌}
use Rattle.std.proofs.Common.{◌⊎◌, inl, inr, refl, sym, ap, subst, ◌∙◌, arith, eqb}
use Rattle.rank_text.specs.declared.checker.fault.FaultKind.{FaultKind}
use Rattle.rank_text.specs.declared.checker.fault.FaultKind.TheVariants.{NotText, NotAStatement, BadForm}
use Rattle.rank_text.specs.declared.checker.fault.FaultKind.TheVariants.{Undeclared, DeclaredTwice, BlockOpen}
use Rattle.rank_text.specs.declared.checker.fault.FaultKind.TheVariants.{BlockStray, Limit, NumberRange}
use Rattle.rank_text.specs.Grammar.Forms.{Form}
use Rattle.rank_text.specs.Lines.Pieces.{pieces_of}
use Rattle.rank_text.specs.Checker.Scope.{Scope, Opened, nothing_yet, is_empty, after}
use Rattle.rank_text.specs.Checker.Faults.{fault_number, IsClean, IsLowest, IsLine, skipped, stated, AreLines, none}
use Rattle.rank_text.specs.Checker.Faults.{skipped_line, taken, IsText, HasFirstFault, at_end, here, past_skipped}
use Rattle.rank_text.specs.Checker.Faults.{past_stated, IsFaultOf}
use Rattle.rank_text.specs.Checker.Verdict.{verdict_on, onto_forms, after_line, statements_of, reading_of}
use Rattle.rank_text.proofs.CheckerLaws.LineLaws.{form_one, Answers, line_answers}

-- a line with a statement or none has no fault
clean_of : {s : Scope} {n : ℕ} {l : List ℕ} {o : Option Form} → IsLine s n l o → IsClean s n l
clean_of (skipped q c) = c
clean_of (stated d c) = c

-- a line has one statement, or none
line_one : {s : Scope} {n : ℕ} {l : List ℕ} {o p : Option Form} → IsLine s n l o → IsLine s n l p → o ≡ p
line_one (skipped q c) (skipped r d) = refl
line_one (skipped q c) (stated d e) = let r = d.looked.not_skipped in cc
line_one (stated d e) (skipped q c) = let r = d.looked.not_skipped in cc
line_one (stated d e) (stated d' e') = ap Some (form_one d d').1

-- lines without fault have no first fault
no_fault : {s s' : Scope} {n m k : ℕ} {ls : List (List ℕ)} {fs : List Form} {kind : FaultKind} → AreLines s n ls fs s' m → s'.blocks ≡ []
    → HasFirstFault s n ls k kind → ⊥
no_fault none e (at_end q) = cc
no_fault (skipped_line a r) e (here w) = clean_of a _ w.holds
no_fault (skipped_line a r) e (past_skipped b h) = no_fault r e h
no_fault (skipped_line a r) e (past_stated b h) = let q = line_one a b in cc
no_fault (taken a r) e (here w) = clean_of a _ w.holds
no_fault (taken a r) e (past_skipped b h) = let q = line_one a b in cc
no_fault (taken {s = s} {n = n} {ls = ls} {f = f} a r) e (past_stated {m = m} {f = g} {k = kind} b h) =
    let q : g ≡ f = let p = line_one b a in cc in
    no_fault r e (subst (λ z. HasFirstFault (after s z) (n + 1) ls m kind) q h)

-- no text is both a program and faulty
pub program_or_fault : (text : List ℕ) (fs : List Form) (line : ℕ) (kind : FaultKind) → IsText text fs → IsFaultOf text line kind → ⊥
program_or_fault text fs line kind a h = no_fault a.lines a.closed h

-- lines have one list of statements
lines_one : {s a b : Scope} {n m k : ℕ} {ls : List (List ℕ)} {fs gs : List Form} → AreLines s n ls fs a m → AreLines s n ls gs b k → fs ≡ gs
lines_one none none = refl
lines_one (skipped_line a r) (skipped_line b h) = lines_one r h
lines_one (skipped_line a r) (taken b h) = let q = line_one a b in cc
lines_one (taken a r) (skipped_line b h) = let q = line_one a b in cc
lines_one (taken {s = s} {n = n} {ls = ls} {f = f} a r) (taken {s' = s'} {m = m} {f = g} {fs = gs} b h) =
    let q : g ≡ f = let p = line_one b a in cc in
    let e = lines_one r (subst (λ z. AreLines (after s z) (n + 1) ls gs s' m) q h) in
    cc

-- a text has one list of statements
pub one_program : (text : List ℕ) (fs gs : List Form) → IsText text fs → IsText text gs → fs ≡ gs
one_program text fs gs a b = lines_one a.lines b.lines

-- the kind of a fault's number
kind_of : ℕ → FaultKind
kind_of n =
    if eqb n 1 then NotText else (if eqb n 2 then NotAStatement else (if eqb n 3 then BadForm
    else (if eqb n 4 then Undeclared else (if eqb n 5 then DeclaredTwice else (if eqb n 6 then BlockOpen
    else (if eqb n 7 then BlockStray else (if eqb n 8 then Limit else NumberRange)))))))

-- a fault is known by its number
kind_of_number : (k : FaultKind) → kind_of (fault_number k) ≡ k
unfolding kind_of
kind_of_number NotText = refl
kind_of_number NotAStatement = refl
kind_of_number BadForm = refl
kind_of_number Undeclared = refl
kind_of_number DeclaredTwice = refl
kind_of_number BlockOpen = refl
kind_of_number BlockStray = refl
kind_of_number Limit = refl
kind_of_number NumberRange = refl

-- a line has one lowest fault
lowest_one : {s : Scope} {n : ℕ} {l : List ℕ} {j k : FaultKind} → IsLowest s n l j → IsLowest s n l k → j ≡ k
lowest_one {j = j} {k = k} a b =
    let below = a.lowest k b.holds in
    let above = b.lowest j a.holds in
    let e : fault_number j ≡ fault_number k = omega arith in
    sym (kind_of_number j) ∙ ap kind_of e ∙ kind_of_number k

-- lines have one first fault
first_one : {s : Scope} {n m k : ℕ} {ls : List (List ℕ)} {kind other : FaultKind} → HasFirstFault s n ls m kind
    → HasFirstFault s n ls k other → (m ≡ k) × (kind ≡ other)
first_one (at_end q) (at_end r) = (refl, refl)
first_one (here a) (here b) = (refl, lowest_one a b)
first_one (here a) (past_skipped b h) = absurd (clean_of b _ a.holds)
first_one (here a) (past_stated b h) = absurd (clean_of b _ a.holds)
first_one (past_skipped a r) (here b) = absurd (clean_of a _ b.holds)
first_one (past_skipped a r) (past_skipped b h) = first_one r h
first_one (past_skipped a r) (past_stated b h) = let q = line_one a b in absurd cc
first_one (past_stated a r) (here b) = absurd (clean_of a _ b.holds)
first_one (past_stated a r) (past_skipped b h) = let q = line_one a b in absurd cc
first_one (past_stated {s = s} {n = n} {ls = ls} {f = f} a r) (past_stated {m = k} {f = g} {k = other} b h) =
    let q : g ≡ f = let p = line_one b a in cc in
    first_one r (subst (λ z. HasFirstFault (after s z) (n + 1) ls k other) q h)

-- a text has one first fault
pub one_fault : (text : List ℕ) (m k : ℕ) (kind other : FaultKind) → IsFaultOf text m kind → IsFaultOf text k other
    → (m ≡ k) × (kind ≡ other)
one_fault text m k kind other a b = first_one a b

-- what is answered for lines, as the relations have it
abbrev TextAnswers : Scope → ℕ → List (List ℕ) → Result (List Form) (ℕ × FaultKind) → Type 0
TextAnswers s n ls (Ok fs) = (end : Scope) × (count : ℕ) × AreLines s n ls fs end count × (end.blocks ≡ [])
TextAnswers s n ls (Err e) = HasFirstFault s n ls e.0 e.1

-- a text ends with its blocks closed, or with the fault of an open one
ended : (s : Scope) (n : ℕ) (bs : List Opened) → s.blocks ≡ bs → TextAnswers s n [] (if is_empty bs then Ok [] else Err (n, BlockOpen))
ended s n [] q = (s, n, none, q)
ended s n (b ∷ bs) q = at_end q

-- a skipped line goes on with the rest
after_skipped : (s : Scope) (n : ℕ) (l : List ℕ) (ls : List (List ℕ)) → IsLine s n l None → (r : Result (List Form) (ℕ × FaultKind))
    → TextAnswers s (n + 1) ls r → TextAnswers s n (l ∷ ls) (onto_forms None r)
after_skipped s n l ls a (Ok fs) h = (h.0, h.1, skipped_line a h.2, h.3)
after_skipped s n l ls a (Err e) h = past_skipped a h

-- so does a statement, with what it leaves
after_stated : (s : Scope) (n : ℕ) (l : List ℕ) (ls : List (List ℕ)) (f : Form) → IsLine s n l (Some f)
    → (r : Result (List Form) (ℕ × FaultKind)) → TextAnswers (after s f) (n + 1) ls r → TextAnswers s n (l ∷ ls) (onto_forms (Some f) r)
after_stated s n l ls f a (Ok fs) h = (h.0, h.1, taken a h.2, h.3)
after_stated s n l ls f a (Err e) h = past_stated a h

-- a line goes on with the rest, or ends the text
after_answer : (s : Scope) (n : ℕ) (l : List ℕ) (ls : List (List ℕ)) (r : Result (Option Form) FaultKind) → Answers s n l r
    → ((o : Option Form) → TextAnswers (after_line s o) (n + 1) ls (statements_of (after_line s o) (n + 1) ls))
    → TextAnswers s n (l ∷ ls) (elim r [ Err k ↦ Err (n, k) | Ok f ↦ onto_forms f (statements_of (after_line s f) (n + 1) ls) ])
after_answer s n l ls (Err k) a more = here a
after_answer s n l ls (Ok None) a more = after_skipped s n l ls a (statements_of s (n + 1) ls) (more None)
after_answer s n l ls (Ok (Some f)) a more = after_stated s n l ls f a (statements_of (after s f) (n + 1) ls) (more (Some f))

-- lines are answered as the relations have it
lines_answer : (s : Scope) (n : ℕ) (ls : List (List ℕ)) → TextAnswers s n ls (statements_of s n ls)
lines_answer s n [] = ended s n s.blocks refl
lines_answer s n (l ∷ ls) = after_answer s n l ls (verdict_on s n l) (line_answers s n l) (λ o. lines_answer (after_line s o) (n + 1) ls)

-- what is read as statements is a text of them
pub read_text : (text : List ℕ) (fs : List Form) → reading_of text ≡ Ok fs → IsText text fs
read_text text fs q =
    let h = subst (TextAnswers nothing_yet 1 (pieces_of 10 text)) q (lines_answer nothing_yet 1 (pieces_of 10 text)) in
    record { end = h.0; count = h.1; lines = h.2; closed = h.3 }

-- what is read as a fault is the first one
pub read_fault : (text : List ℕ) (line : ℕ) (kind : FaultKind) → reading_of text ≡ Err (line, kind) → IsFaultOf text line kind
read_fault text line kind q = subst (TextAnswers nothing_yet 1 (pieces_of 10 text)) q (lines_answer nothing_yet 1 (pieces_of 10 text))

-- what is answered shows which of the two a text is
one_or_other : (text : List ℕ) (r : Result (List Form) (ℕ × FaultKind)) → reading_of text ≡ r
    → ((fs : List Form) × IsText text fs) ⊎ ((line : ℕ) × (kind : FaultKind) × IsFaultOf text line kind)
one_or_other text (Ok fs) q = inl (fs, read_text text fs q)
one_or_other text (Err e) q = inr (e.0, e.1, read_fault text e.0 e.1 q)

-- each text is a program or has a first fault
pub one_of_both : (text : List ℕ) → ((fs : List Form) × IsText text fs) ⊎ ((line : ℕ) × (kind : FaultKind) × IsFaultOf text line kind)
one_of_both text = one_or_other text (reading_of text) refl
