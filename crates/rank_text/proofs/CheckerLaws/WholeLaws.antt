-- The statements of a text are whole: each may stand where it does, and their blocks are closed.
-- A line without fault shows each fact that its statement needs, since the fault of the opposite would hold.
use Rattle.std.specs.Prelude.{◌≡◌, ℕ, ◌+◌, ◌<◌, ◌≤◌, List, true, false, length, Option, Some}
use Rattle.std.proofs.Common.{refl, sym, ap, ◌∙◌, arith}
use Rattle.std.proofs.lemmas.Bool.{false_from_ne_true, true_from_ne_false}
use Rattle.limits.specs.Limits.{most_lines}
use Rattle.rank_text.specs.declared.grammar.token.Token.{Token}
use Rattle.rank_text.specs.Grammar.Forms.{Form}
use Rattle.rank_text.specs.Checker.Scope.{Scope, declared_in, is_twice, is_stray, is_past_table, has_large, is_over}
use Rattle.rank_text.specs.Checker.Scope.{has_great_number, after_all, MayStand, AllMayStand, IsWhole}
use Rattle.rank_text.proofs.CheckerLaws.NameLaws.{tokens_named, form_named}
use Rattle.rank_text.specs.Checker.Faults.{IsFormed, unknown_name, known_name, no_block, late_line, over}
use Rattle.rank_text.specs.Checker.Faults.{great_number, IsClean, IsLine, skipped, stated, AreLines, none, skipped_line}
use Rattle.rank_text.specs.Checker.Faults.{taken, IsText}

-- a statement with a large expression is over a limit
large_is_over : (s : Scope) (ts : List Token) (f : Form) → has_large f ≡ true → is_over s ts f ≡ true
large_is_over s ts f q = grind arith

-- a statement for which a table has no room is over a limit
full_is_over : (s : Scope) (ts : List Token) (f : Form) → is_past_table s f ≡ true → is_over s ts f ≡ true
full_is_over s ts f q = grind arith

-- a statement without fault may stand where it does
stands : {s : Scope} {n : ℕ} {l : List ℕ} {ts : List Token} {f : Form} → IsFormed l ts f → IsClean s n l → MayStand s f
stands {s = s} {ts = ts} {f = f} d c =
    let room : is_past_table s f ≡ false = false_from_ne_true (is_past_table s f) (λ q. c _ (over d (full_is_over s ts f q))) in record {
      declared = true_from_ne_false (declared_in s f) (λ q. c _ (unknown_name d q));
      once = false_from_ne_true (is_twice s f) (λ q. c _ (known_name d q));
      placed = false_from_ne_true (is_stray s f) (λ q. c _ (no_block d q));
      within = room;
      named = form_named s d.form (tokens_named d.tokens) room;
      sized = false_from_ne_true (has_large f) (λ q. c _ (over d (large_is_over s ts f q)));
      fitting = false_from_ne_true (has_great_number f) (λ q. c _ (great_number d q));
    }

-- the statement of a line without fault may stand there
line_stands : {s : Scope} {n : ℕ} {l : List ℕ} {f : Form} → IsLine s n l (Some f) → MayStand s f
line_stands (stated d c) = stands d c

-- a line without fault is among the first thousand
pub in_time : {s : Scope} {n : ℕ} {l : List ℕ} {o : Option Form} → IsLine s n l o → n ≤ most_lines
in_time (skipped q c) = let h : most_lines < _ → ⊥ = λ k. c _ (late_line k) in omega arith
in_time (stated d c) = let h : most_lines < _ → ⊥ = λ k. c _ (late_line k) in omega arith

-- the statements of lines may stand where they do
lines_stand : {s s' : Scope} {n m : ℕ} {ls : List (List ℕ)} {fs : List Form} → AreLines s n ls fs s' m → AllMayStand s fs
lines_stand none = tt
lines_stand (skipped_line a r) = lines_stand r
lines_stand (taken a r) = (line_stands a, lines_stand r)

-- the scope behind lines is what their statements leave
lines_leave : {s s' : Scope} {n m : ℕ} {ls : List (List ℕ)} {fs : List Form} → AreLines s n ls fs s' m → s' ≡ after_all s fs
lines_leave none = refl
lines_leave (skipped_line a r) = lines_leave r
lines_leave (taken a r) = lines_leave r

-- lines have at most as many statements as there are lines up to the thousandth
lines_few : {s s' : Scope} {n m : ℕ} {ls : List (List ℕ)} {fs : List Form} → AreLines s n ls fs s' m → n ≤ most_lines + 1 → n + length fs ≤ most_lines + 1
lines_few none h = omega arith
lines_few (skipped_line a r) h = let k = in_time a in let l = lines_few r (omega arith) in omega arith
lines_few (taken a r) h = let k = in_time a in let l = lines_few r (omega arith) in omega arith

-- the statements of a text are whole
pub text_whole : (text : List ℕ) (fs : List Form) → IsText text fs → IsWhole fs
text_whole text fs t = record {
  standing = lines_stand t.lines;
  closed = ap (λ z. z.blocks) (sym (lines_leave t.lines)) ∙ t.closed;
  few = let h = lines_few t.lines (omega arith) in omega arith;
}
