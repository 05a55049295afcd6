-- What is answered for a line is its statement, or the lowest fault that holds of it.
-- A line is judged by tests in the order of the faults' numbers; each test that fails shows its fault, and each
-- that passes rules its fault out for the tests behind it.
use Rattle.std.specs.Prelude.{◌≡◌, ℕ, ◌<◌, ◌≤◌, List, [], ◌∷◌, Bool, true, false, ◌||◌, not, nat_lt, length, Option, Some, None, Result, Ok, Err, if◌then◌else◌}
use Rattle.std.proofs.Common.{◌⊎◌, inl, inr, refl, sym, ap, subst, ◌∙◌, arith}
use Rattle.std.proofs.lemmas.Bool.{ltb-true, or_left, or_right, or_cases}
use Rattle.std.proofs.lemmas.Bool.Decides.{nat_tests}
use Rattle.limits.specs.Limits.{most_lines, most_line_bytes}
use Rattle.rank_text.specs.declared.checker.fault.FaultKind.{FaultKind}
use Rattle.rank_text.specs.declared.checker.fault.FaultKind.TheVariants.{NotText, NotAStatement, BadForm}
use Rattle.rank_text.specs.declared.checker.fault.FaultKind.TheVariants.{Undeclared, DeclaredTwice, BlockOpen}
use Rattle.rank_text.specs.declared.checker.fault.FaultKind.TheVariants.{BlockStray, Limit, NumberRange}
use Rattle.rank_text.specs.declared.grammar.token.Token.{Token}
use Rattle.rank_text.specs.Grammar.Tokens.{tokens_of}
use Rattle.rank_text.specs.Grammar.Forms.{Form, form_of}
use Rattle.rank_text.proofs.GrammarLaws.LexLaws.{lexed, one_lexing, read_is}
use Rattle.rank_text.proofs.GrammarLaws.FormLaws.{form_read, form_spelled}
use Rattle.rank_text.specs.Checker.Lines.{is_text, is_skipped, is_statement}
use Rattle.rank_text.specs.Checker.Scope.{Scope, declared_in, is_twice, is_stray, is_over, has_great_number}
use Rattle.rank_text.specs.Checker.Faults.{fault_number, IsLooked, IsFormed, Holds, other_byte, no_word, no_form}
use Rattle.rank_text.specs.Checker.Faults.{unknown_name, known_name, no_block, long_line, late_line, over}
use Rattle.rank_text.specs.Checker.Faults.{great_number, IsLowest, IsLine, skipped, stated}
use Rattle.rank_text.specs.Checker.Verdict.{first_of, unless_fault, form_fault, formed, looked, skipped_of, measured, verdict_on}

-- a test that gives false shows that the number isn't below
ltb-false : (a b : ℕ) → nat_lt a b ≡ false → b ≤ a
ltb-false a b q = grind (arith, nat_tests)

-- a line has one form
pub form_one : {line : List ℕ} {ts us : List Token} {f g : Form} → IsFormed line ts f → IsFormed line us g → (ts ≡ us) × (f ≡ g)
form_one {line = line} {ts = ts} {us = us} {f = f} {g = g} a b =
    let e = one_lexing line ts us a.tokens b.tokens in
    let r : Some f ≡ Some g = sym (form_read a.form) ∙ ap form_of e ∙ form_read b.form in
    (e, cc)

-- the five tests of a line that has its form, by the fault that each is for
abbrev pick : (a b c d e : Bool) → FaultKind → Bool
pick a b c d e Undeclared = a
pick a b c d e DeclaredTwice = b
pick a b c d e BlockStray = c
pick a b c d e Limit = d
pick a b c d e NumberRange = e
pick a b c d e _ = false

-- the fault's test gives true, and that of no lower one does
abbrev IsLeast : (a b c d e : Bool) → FaultKind → Type 0
IsLeast a b c d e k = (pick a b c d e k ≡ true) × ((j : FaultKind) → pick a b c d e j ≡ true → fault_number k ≤ fault_number j)

-- where the tests before it give false, a fault whose test gives true is 4 or more
at_least_4 : (a b c d e : Bool) (j : FaultKind) → pick a b c d e j ≡ true → 4 ≤ fault_number j
at_least_4 a b c d e NotText q = absurd cc
at_least_4 a b c d e NotAStatement q = absurd cc
at_least_4 a b c d e BadForm q = absurd cc
at_least_4 a b c d e _ q = omega arith

-- where the tests before it give false, a fault whose test gives true is 5 or more
at_least_5 : (b c d e : Bool) (j : FaultKind) → pick false b c d e j ≡ true → 5 ≤ fault_number j
at_least_5 b c d e NotText q = absurd cc
at_least_5 b c d e NotAStatement q = absurd cc
at_least_5 b c d e BadForm q = absurd cc
at_least_5 b c d e Undeclared q = absurd cc
at_least_5 b c d e _ q = omega arith

-- where the tests before it give false, a fault whose test gives true is 7 or more
at_least_7 : (c d e : Bool) (j : FaultKind) → pick false false c d e j ≡ true → 7 ≤ fault_number j
at_least_7 c d e BlockStray q = omega arith
at_least_7 c d e Limit q = omega arith
at_least_7 c d e NumberRange q = omega arith
at_least_7 c d e _ q = absurd cc

-- where the tests before it give false, a fault whose test gives true is 8 or more
at_least_8 : (d e : Bool) (j : FaultKind) → pick false false false d e j ≡ true → 8 ≤ fault_number j
at_least_8 d e Limit q = omega arith
at_least_8 d e NumberRange q = omega arith
at_least_8 d e _ q = absurd cc

-- where the tests before it give false, a fault whose test gives true is 9 or more
at_least_9 : (e : Bool) (j : FaultKind) → pick false false false false e j ≡ true → 9 ≤ fault_number j
at_least_9 e NumberRange q = omega arith
at_least_9 e _ q = absurd cc

-- the same in the order of the faults
abbrev tests : (a b c d e : Bool) → List (Bool × FaultKind)
tests a b c d e = (a, Undeclared) ∷ (b, DeclaredTwice) ∷ (c, BlockStray) ∷ (d, Limit) ∷ (e, NumberRange) ∷ []

-- the first test that gives true is that of the lowest fault
first_is_least : (a b c d e : Bool) (k : FaultKind) → first_of (tests a b c d e) ≡ Some k → IsLeast a b c d e k
first_is_least true b c d e k q = let r : Undeclared ≡ k = cc in subst (IsLeast true b c d e) r (refl, at_least_4 true b c d e)
first_is_least false true c d e k q = let r : DeclaredTwice ≡ k = cc in subst (IsLeast false true c d e) r (refl, at_least_5 true c d e)
first_is_least false false true d e k q = let r : BlockStray ≡ k = cc in subst (IsLeast false false true d e) r (refl, at_least_7 true d e)
first_is_least false false false true e k q = let r : Limit ≡ k = cc in subst (IsLeast false false false true e) r (refl, at_least_8 true e)
first_is_least false false false false true k q = let r : NumberRange ≡ k = cc in subst (IsLeast false false false false true) r (refl, at_least_9 true)
first_is_least false false false false false k q = absurd cc

-- where no test gives true there is no fault
none_is_picked : (a b c d e : Bool) → first_of (tests a b c d e) ≡ None → (j : FaultKind) → pick a b c d e j ≡ true → ⊥
none_is_picked false false false false false q Undeclared r = cc
none_is_picked false false false false false q DeclaredTwice r = cc
none_is_picked false false false false false q BlockStray r = cc
none_is_picked false false false false false q Limit r = cc
none_is_picked false false false false false q NumberRange r = cc
none_is_picked false false false false false q _ r = cc
none_is_picked true b c d e q j r = cc
none_is_picked false true c d e q j r = cc
none_is_picked false false true d e q j r = cc
none_is_picked false false false true e q j r = cc
none_is_picked false false false false true q j r = cc

-- the tests of a statement
abbrev picked : Scope → ℕ → List Token → Form → FaultKind → Bool
picked s n ts f j = pick (not (declared_in s f)) (is_twice s f) (is_stray s f) (nat_lt most_lines n || is_over s ts f) (has_great_number f) j

-- a fault of a line that has its form is one of the five, and its test gives true
holds_picked : {s : Scope} {n : ℕ} {line : List ℕ} {ts : List Token} {f : Form}
    → IsFormed line ts f → is_statement line ≡ true → (j : FaultKind) → Holds s n line j → picked s n ts f j ≡ true
holds_picked d w _ (other_byte q) = let r = d.looked.text in absurd cc
holds_picked d w _ (no_word l q) = absurd cc
holds_picked {ts = ts} {f = f} d w _ (no_form l q h) = absurd (h ts f d)
holds_picked {s = s} d w _ (unknown_name b q) = ap not (ap (declared_in s) (form_one d b).1 ∙ q)
holds_picked {s = s} d w _ (known_name b q) = ap (is_twice s) (form_one d b).1 ∙ q
holds_picked {s = s} d w _ (no_block b q) = ap (is_stray s) (form_one d b).1 ∙ q
holds_picked d w _ (long_line h) = let r = d.looked.short in absurd (omega arith)
holds_picked {s = s} {n = n} {ts = ts} {f = f} d w _ (late_line h) = or_left (nat_lt most_lines n) (is_over s ts f) (grind (arith, nat_tests))
holds_picked {s = s} {n = n} {ts = ts} {f = f} d w _ (over {ts = us} b q) =
    let e = form_one d b in
    or_right (nat_lt most_lines n) (is_over s ts f) (ap (λ z. is_over s z f) e.0 ∙ ap (λ z. is_over s us z) e.1 ∙ q)
holds_picked d w _ (great_number b q) = ap has_great_number (form_one d b).1 ∙ q

-- a late line and one over a limit both have fault 8
limit_holds : {s : Scope} {n : ℕ} {line : List ℕ} {ts : List Token} {f : Form}
    → IsFormed line ts f → (nat_lt most_lines n ≡ true) ⊎ (is_over s ts f ≡ true) → Holds s n line Limit
limit_holds {n = n} d (inl q) = late_line (ltb-true most_lines n q)
limit_holds d (inr q) = over d q

-- and where its test gives true the fault holds
picked_holds : {s : Scope} {n : ℕ} {line : List ℕ} {ts : List Token} {f : Form}
    → IsFormed line ts f → (j : FaultKind) → picked s n ts f j ≡ true → Holds s n line j
picked_holds d Undeclared q = unknown_name d (grind arith)
picked_holds d DeclaredTwice q = known_name d q
picked_holds d BlockStray q = no_block d q
picked_holds {s = s} {n = n} {ts = ts} {f = f} d Limit q = limit_holds d (or_cases (nat_lt most_lines n) (is_over s ts f) q)
picked_holds d NumberRange q = great_number d q
picked_holds d _ q = absurd cc

-- faults are numbered from 1
at_least_1 : (j : FaultKind) → 1 ≤ fault_number j
at_least_1 NotText = omega arith
at_least_1 NotAStatement = omega arith
at_least_1 BadForm = omega arith
at_least_1 Undeclared = omega arith
at_least_1 DeclaredTwice = omega arith
at_least_1 BlockOpen = omega arith
at_least_1 BlockStray = omega arith
at_least_1 Limit = omega arith
at_least_1 NumberRange = omega arith

-- a line of characters of text has no fault 1
not_1 : {s : Scope} {n : ℕ} {line : List ℕ} → is_text line ≡ true → (j : FaultKind) → Holds s n line j → 2 ≤ fault_number j
not_1 p _ (other_byte q) = absurd cc
not_1 p _ (no_word l q) = omega arith
not_1 p _ (no_form l q h) = omega arith
not_1 p _ (unknown_name b q) = omega arith
not_1 p _ (known_name b q) = omega arith
not_1 p _ (no_block b q) = omega arith
not_1 p _ (long_line h) = omega arith
not_1 p _ (late_line h) = omega arith
not_1 p _ (over b q) = omega arith
not_1 p _ (great_number b q) = omega arith

-- one that begins with a statement word has no fault 2 either
not_2 : {s : Scope} {n : ℕ} {line : List ℕ} → is_text line ≡ true → is_statement line ≡ true → (j : FaultKind) → Holds s n line j
    → 3 ≤ fault_number j
not_2 p w _ (other_byte q) = absurd cc
not_2 p w _ (no_word l q) = absurd cc
not_2 p w _ (no_form l q h) = omega arith
not_2 p w _ (unknown_name b q) = omega arith
not_2 p w _ (known_name b q) = omega arith
not_2 p w _ (no_block b q) = omega arith
not_2 p w _ (long_line h) = omega arith
not_2 p w _ (late_line h) = omega arith
not_2 p w _ (over b q) = omega arith
not_2 p w _ (great_number b q) = omega arith

-- a line that is too long, or skipped, has no fault but 1 and 8
only_8 : {s : Scope} {n : ℕ} {line : List ℕ} → is_text line ≡ true → (IsLooked line → ⊥) → (j : FaultKind) → Holds s n line j → j ≡ Limit
only_8 p h _ (other_byte q) = absurd cc
only_8 p h _ (no_word l q) = absurd (h l)
only_8 p h _ (no_form l q k) = absurd (h l)
only_8 p h _ (unknown_name b q) = absurd (h b.looked)
only_8 p h _ (known_name b q) = absurd (h b.looked)
only_8 p h _ (no_block b q) = absurd (h b.looked)
only_8 p h _ (long_line k) = refl
only_8 p h _ (late_line k) = refl
only_8 p h _ (over b q) = absurd (h b.looked)
only_8 p h _ (great_number b q) = absurd (h b.looked)

-- and fault 8 of a line that is skipped and short is that it is late
only_late : {s : Scope} {n : ℕ} {line : List ℕ} → length line ≤ most_line_bytes → (IsLooked line → ⊥) → Holds s n line Limit → most_lines < n
only_late p h (long_line k) = absurd (omega arith)
only_late p h (late_line k) = k
only_late p h (over b q) = absurd (h b.looked)

-- what is answered, as the relations have it
abbrev pub Answers : Scope → ℕ → List ℕ → Result (Option Form) FaultKind → Type 0
Answers s n line (Ok o) = IsLine s n line o
Answers s n line (Err k) = IsLowest s n line k

-- a line that has its form is answered by its five tests
at_fault : (s : Scope) (n : ℕ) (line : List ℕ) (ts : List Token) (f : Form) → IsFormed line ts f → is_statement line ≡ true
    → (o : Option FaultKind) → form_fault s n ts f ≡ o → Answers s n line (unless_fault o (Some f))
at_fault s n line ts f d w None q = stated d (λ j h. none_is_picked _ _ _ _ _ q j (holds_picked d w j h))
at_fault s n line ts f d w (Some k) q =
    let limit = nat_lt most_lines n || is_over s ts f in
    let l = first_is_least (not (declared_in s f)) (is_twice s f) (is_stray s f) limit (has_great_number f) k q in
    record { holds = picked_holds d k l.0; lowest = λ j h. l.1 j (holds_picked d w j h) }

-- a line whose tokens have no form has fault 3
at_form : (s : Scope) (n : ℕ) (line : List ℕ) (ts : List Token) → IsLooked line → is_statement line ≡ true → tokens_of line ≡ Some ts
    → (o : Option Form) → form_of ts ≡ o
    → Answers s n line (elim o [ None ↦ Err BadForm | Some f ↦ unless_fault (form_fault s n ts f) (Some f) ])
at_form s n line ts l w p None q =
    let none : (us : List Token) (f : Form) → IsFormed line us f → ⊥ = λ us f d. (
    let r = lexed d.tokens in
    let e : us ≡ ts = cc in
    let g = form_read d.form in
    let m : form_of us ≡ None = ap form_of e ∙ q in
    cc) in
    record { holds = no_form l w none; lowest = not_2 l.text w }
at_form s n line ts l w p (Some f) q =
    let d : IsFormed line ts f = record { looked = l; tokens = rw p at (read_is line); form = rw q at (form_spelled ts) } in
    at_fault s n line ts f d w (form_fault s n ts f) refl

-- a line with a character that stands in no token has fault 3
at_tokens : (s : Scope) (n : ℕ) (line : List ℕ) → IsLooked line → is_statement line ≡ true
    → (o : Option (List Token)) → tokens_of line ≡ o → Answers s n line (formed s n o)
at_tokens s n line l w None q = record { holds = no_form l w (λ us f d. (let r = lexed d.tokens in cc)); lowest = not_2 l.text w }
at_tokens s n line l w (Some ts) q = at_form s n line ts l w q (form_of ts) refl

-- a line that doesn't begin with a statement word has fault 2
at_word : (s : Scope) (n : ℕ) (line : List ℕ) → IsLooked line → (b : Bool) → is_statement line ≡ b
    → Answers s n line (if b then formed s n (tokens_of line) else Err NotAStatement)
at_word s n line l false q = record { holds = no_word l q; lowest = not_1 l.text }
at_word s n line l true q = at_tokens s n line l q (tokens_of line) refl

-- a skipped line has fault 8 where it is late, and else none
at_number : (s : Scope) (n : ℕ) (line : List ℕ) → is_text line ≡ true → length line ≤ most_line_bytes → is_skipped line ≡ true
    → (b : Bool) → nat_lt most_lines n ≡ b → Answers s n line (if b then Err Limit else Ok None)
at_number s n line p h r true q = record {
  holds = late_line (ltb-true most_lines n q);
  lowest = λ j k. (
      let e = only_8 p (λ l. let u = l.not_skipped in cc) j k in
      subst (λ z. 8 ≤ fault_number z) (sym e) (omega arith));
}
at_number s n line p h r false q =
    let unlooked : IsLooked line → ⊥ = λ l. (let u = l.not_skipped in cc) in
    skipped r (λ j k. (
    let e = only_8 p unlooked j k in
    let m = only_late {s = s} h unlooked (subst (λ z. Holds s n line z) e k) in
    let c = ltb-false most_lines n q in
    omega arith))

-- a line is skipped, or looked at
at_skipped : (s : Scope) (n : ℕ) (line : List ℕ) → is_text line ≡ true → length line ≤ most_line_bytes
    → (b : Bool) → is_skipped line ≡ b → Answers s n line (if b then skipped_of n else looked s n line)
at_skipped s n line p h true q = at_number s n line p h q (nat_lt most_lines n) refl
at_skipped s n line p h false q = at_word s n line (record { text = p; short = h; not_skipped = q }) (is_statement line) refl

-- a line that is too long has fault 8
at_length : (s : Scope) (n : ℕ) (line : List ℕ) → is_text line ≡ true → (b : Bool) → nat_lt most_line_bytes (length line) ≡ b
    → Answers s n line (if b then Err Limit else (if is_skipped line then skipped_of n else looked s n line))
at_length s n line p true q =
    let long = ltb-true most_line_bytes (length line) q in record {
      holds = long_line long;
      lowest = λ j k. (
          let e = only_8 p (λ l. let u = l.short in omega arith) j k in
          subst (λ z. 8 ≤ fault_number z) (sym e) (omega arith));
    }
at_length s n line p false q = at_skipped s n line p (ltb-false most_line_bytes (length line) q) (is_skipped line) refl

-- a line with a byte outside has fault 1
at_text : (s : Scope) (n : ℕ) (line : List ℕ) → (b : Bool) → is_text line ≡ b
    → Answers s n line (if not b then Err NotText else measured s n line)
at_text s n line false q = record { holds = other_byte q; lowest = λ j k. at_least_1 j }
at_text s n line true q = at_length s n line q (nat_lt most_line_bytes (length line)) refl

-- a line is answered as the relations have it
pub line_answers : (s : Scope) (n : ℕ) (line : List ℕ) → Answers s n line (verdict_on s n line)
line_answers s n line = at_text s n line (is_text line) refl
