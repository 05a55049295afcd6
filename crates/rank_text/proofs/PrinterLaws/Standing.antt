-- A statement that may stand where it does fits: its names are declared, so they are names that aren't too long, and its
-- numbers and expressions are within their limits. No fault holds of a line that has it.
use Rattle.std.proofs.Common.{◌≡◌, ℕ, ◌-◌, ◌^◌, ◌<◌, ◌≤◌, inl, inr, Bool, true, false, ◌&&◌, ◌||◌, List, [], ◌∷◌, ◌++◌, length, map}
use Rattle.std.proofs.Common.{refl, sym, ap, subst, ◌∙◌, arith}
use Rattle.std.specs.Prelude.{nat_le, nat_lt}
use Rattle.std.specs.Str.{bytes_eq}
use Rattle.std.proofs.lemmas.Slice.Eq.{bytes_eq-Decides}
use Rattle.std.proofs.lemmas.Bool.{and_parts, or_cases, or_parts}
use Rattle.std.proofs.lemmas.Bool.Decides.{nat_tests}
use Rattle.limits.specs.Limits.{most_lines, most_blocks, most_nodes, most_parentheses}
use Rattle.rank_text.specs.declared.grammar.token.Token.{Token}
use Rattle.rank_text.specs.Grammar.Tree.{Tree, number, variable, item, reading, negation, operation}
use Rattle.rank_text.specs.Grammar.Forms.{Pattern, any, value, Payload, lone, one}
use Rattle.rank_text.specs.Grammar.Forms.{Form, var_form, array_form, let_form, item_form, if_form, else_form, end_form, while_form}
use Rattle.rank_text.specs.Grammar.Forms.{send_form, recv_form, probe_form, try_probe_form, print_form, barrier_form, bcast_form, reduce_form}
use Rattle.rank_text.specs.declared.checker.fault.FaultKind.{FaultKind}
use Rattle.rank_text.specs.Checker.Lines.{is_statement}
use Rattle.rank_text.specs.Checker.Faults.{IsFormed, Holds, other_byte, no_word, no_form, unknown_name, known_name}
use Rattle.rank_text.specs.Checker.Faults.{no_block, long_line, late_line, over, great_number}
use Rattle.rank_text.specs.Checker.Scope.{Scope, Opened, is_name_in, is_variable, is_array, is_declared}
use Rattle.rank_text.specs.Checker.Scope.{all_declared, pattern_declared, payload_declared, declared_in}
use Rattle.rank_text.specs.Checker.Scope.{is_twice, is_stray, nodes, is_large, pattern_is_large, payload_is_large, has_large, deepest, is_past_table, is_over}
use Rattle.rank_text.specs.Checker.Scope.{is_great, pattern_is_great, payload_is_great, has_great_number, other_branch, outer, after, MayStand}
use Rattle.rank_text.proofs.CheckerLaws.LineLaws.{form_one}
use Rattle.rank_text.proofs.CheckerLaws.NameLaws.{short_variable, short_array}
use Rattle.rank_text.specs.Printer.Canonical.{depth_of, depth_after}
use Rattle.rank_text.proofs.PrinterLaws.Fitting.{IsShortName, IsPlain, IsFit, PatternFits, PayloadFits, FormFits}

-- each name is a name that isn't too long
abbrev pub AllShort : List (List ℕ) → Type 0
AllShort [] = Unit {0}
AllShort (x ∷ xs) = IsShortName x × AllShort xs

-- each declared name is one
abbrev pub IsNamedWell : Scope → Type 0
IsNamedWell s = AllShort s.variables × AllShort (map (λ a. a.0) s.arrays)

-- a name among such names is one
short_in : (ys : List (List ℕ)) (x : List ℕ) → AllShort ys → is_name_in ys x ≡ true → IsShortName x
short_in [] x h q = absurd cc
short_in (y ∷ ys) x h q =
    elim (or_cases (bytes_eq y x) (is_name_in ys x) q) [
      | inl e ↦ subst IsShortName ((bytes_eq-Decides y x).0 e) h.0
      | inr e ↦ short_in ys x h.1 e
    ]

-- so a declared variable has such a name
variable_short : (s : Scope) (x : List ℕ) → IsNamedWell s → is_variable s x ≡ true → IsShortName x
variable_short s x h q = short_in s.variables x h.0 q

-- and a declared array
array_short : (s : Scope) (x : List ℕ) → IsNamedWell s → is_array s x ≡ true → IsShortName x
array_short s x h q = short_in (map (λ a. a.0) s.arrays) x h.1 q

-- and whatever is declared as one of them
declared_short : (s : Scope) (x : List ℕ) → IsNamedWell s → is_declared s x ≡ true → IsShortName x
declared_short s x h q =
    elim (or_cases (is_variable s x) (is_array s x) q) [ inl e ↦ variable_short s x h e | inr e ↦ array_short s x h e ]

-- a number that isn't above the greatest
in_range : (n : ℕ) → nat_le (2 ^ 63) n ≡ false → n < 2 ^ 63
in_range n q = grind (arith, nat_tests)

-- an expression whose names are declared and whose numbers are in range
plain_of : (s : Scope) (e : Tree) → IsNamedWell s → all_declared s e ≡ true → is_great e ≡ false → IsPlain e
plain_of s (number n) h d g = in_range n g
plain_of s (variable x) h d g = variable_short s x h d
plain_of s (item x e) h d g =
    let p = and_parts (is_array s x) (all_declared s e) d in
    (array_short s x h p.0, plain_of s e h p.1 g)
plain_of s (reading r) h d g = tt
plain_of s (negation e) h d g = plain_of s e h d g
plain_of s (operation o a b) h d g =
    let p = and_parts (all_declared s a) (all_declared s b) d in
    let q = or_parts (is_great a) (is_great b) g in
    (plain_of s a h p.0 q.0, plain_of s b h p.1 q.1)

-- what isn't too large has no more nodes than an expression may have
few_nodes : (n : ℕ) → nat_lt most_nodes n ≡ false → n ≤ most_nodes
few_nodes n q = grind (arith, nat_tests)

-- an expression whose names are declared, whose numbers are in range and that isn't too large fits
fit_of : (s : Scope) (e : Tree) → IsNamedWell s → all_declared s e ≡ true → is_large e ≡ false → is_great e ≡ false → IsFit e
fit_of s e h d l g = (plain_of s e h d g, few_nodes (nodes e) l)

-- a source or a tag fits, as its expression does
pattern_fits : (s : Scope) (c : Pattern) → IsNamedWell s → pattern_declared s c ≡ true → pattern_is_large c ≡ false → pattern_is_great c ≡ false
    → PatternFits c
pattern_fits s any h d l g = tt
pattern_fits s (value e) h d l g = fit_of s e h d l g

-- so does what a send gives
payload_fits : (s : Scope) (p : Payload) → IsNamedWell s → payload_declared s p ≡ true → payload_is_large p ≡ false → payload_is_great p ≡ false
    → PayloadFits p
payload_fits s (lone x) h d l g = declared_short s x h d
payload_fits s (one e) h d l g = fit_of s e h d l g

-- a statement that may stand where it does fits
pub fits_of : (s : Scope) (f : Form) → IsNamedWell s → MayStand s f → FormFits f
fits_of s (var_form x) h m = (m.named, short_variable s x m.within)
fits_of s (array_form x n) h m = ((m.named, short_array s x n m.within), in_range n m.fitting)
fits_of s (let_form x e) h m =
    let p = and_parts (is_variable s x) (all_declared s e) m.declared in
    (variable_short s x h p.0, fit_of s e h p.1 m.sized m.fitting)
fits_of s (item_form x i e) h m =
    let p = and_parts (is_array s x && all_declared s i) (all_declared s e) m.declared in
    let q = and_parts (is_array s x) (all_declared s i) p.0 in
    let l = or_parts (is_large i) (is_large e) m.sized in
    let g = or_parts (is_great i) (is_great e) m.fitting in
    (array_short s x h q.0, fit_of s i h q.1 l.0 g.0, fit_of s e h p.1 l.1 g.1)
fits_of s (if_form e) h m = fit_of s e h m.declared m.sized m.fitting
fits_of s else_form h m = tt
fits_of s end_form h m = tt
fits_of s (while_form e) h m = fit_of s e h m.declared m.sized m.fitting
fits_of s (send_form d g p) h m =
    let a = and_parts (all_declared s d && all_declared s g) (payload_declared s p) m.declared in
    let b = and_parts (all_declared s d) (all_declared s g) a.0 in
    let l = or_parts (is_large d || is_large g) (payload_is_large p) m.sized in
    let k = or_parts (is_large d) (is_large g) l.0 in
    let i = or_parts (is_great d || is_great g) (payload_is_great p) m.fitting in
    let j = or_parts (is_great d) (is_great g) i.0 in
    (fit_of s d h b.0 k.0 j.0, fit_of s g h b.1 k.1 j.1, payload_fits s p h a.1 l.1 i.1)
fits_of s (recv_form c g x) h m =
    let a = and_parts (pattern_declared s c && pattern_declared s g) (is_declared s x) m.declared in
    let b = and_parts (pattern_declared s c) (pattern_declared s g) a.0 in
    let l = or_parts (pattern_is_large c) (pattern_is_large g) m.sized in
    let j = or_parts (pattern_is_great c) (pattern_is_great g) m.fitting in
    (pattern_fits s c h b.0 l.0 j.0, pattern_fits s g h b.1 l.1 j.1, declared_short s x h a.1)
fits_of s (probe_form c g) h m =
    let a = and_parts (pattern_declared s c) (pattern_declared s g) m.declared in
    let l = or_parts (pattern_is_large c) (pattern_is_large g) m.sized in
    let j = or_parts (pattern_is_great c) (pattern_is_great g) m.fitting in
    (pattern_fits s c h a.0 l.0 j.0, pattern_fits s g h a.1 l.1 j.1)
fits_of s (try_probe_form c g x) h m =
    let a = and_parts (pattern_declared s c && pattern_declared s g) (is_variable s x) m.declared in
    let b = and_parts (pattern_declared s c) (pattern_declared s g) a.0 in
    let l = or_parts (pattern_is_large c) (pattern_is_large g) m.sized in
    let j = or_parts (pattern_is_great c) (pattern_is_great g) m.fitting in
    (pattern_fits s c h b.0 l.0 j.0, pattern_fits s g h b.1 l.1 j.1, variable_short s x h a.1)
fits_of s (print_form e) h m = fit_of s e h m.declared m.sized m.fitting
fits_of s barrier_form h m = tt
fits_of s (bcast_form r x) h m =
    let a = and_parts (all_declared s r) (is_declared s x) m.declared in
    (fit_of s r h a.0 m.sized m.fitting, declared_short s x h a.1)
fits_of s (reduce_form o r e x) h m =
    let a = and_parts (all_declared s r && all_declared s e) (is_variable s x) m.declared in
    let b = and_parts (all_declared s r) (all_declared s e) a.0 in
    let l = or_parts (is_large r) (is_large e) m.sized in
    let j = or_parts (is_great r) (is_great e) m.fitting in
    (fit_of s r h b.0 l.0 j.0, fit_of s e h b.1 l.1 j.1, variable_short s x h a.1)

-- a name more
short_push : (ys : List (List ℕ)) (x : List ℕ) → AllShort ys → IsShortName x → AllShort (ys ++ x ∷ [])
short_push [] x h k = (k, tt)
short_push (y ∷ ys) x h k = (h.0, short_push ys x h.1 k)

-- an array more
array_push : (arrays : List (List ℕ × ℕ)) (x : List ℕ) (n : ℕ) → AllShort (map (λ a. a.0) arrays) → IsShortName x
    → AllShort (map (λ a. a.0) (arrays ++ (x, n) ∷ []))
array_push [] x n h k = (k, tt)
array_push (a ∷ arrays) x n h k = (h.0, array_push arrays x n h.1 k)

-- what a statement leaves is named so too
pub named_after : (s : Scope) (f : Form) → IsNamedWell s → MayStand s f → IsNamedWell (after s f)
named_after s (var_form x) h m = (short_push s.variables x h.0 (m.named, short_variable s x m.within), h.1)
named_after s (array_form x n) h m = (h.0, array_push s.arrays x n h.1 (m.named, short_array s x n m.within))
named_after s (let_form x e) h m = h
named_after s (item_form x i e) h m = h
named_after s (if_form e) h m = h
named_after s else_form h m = h
named_after s end_form h m = h
named_after s (while_form e) h m = h
named_after s (send_form d g p) h m = h
named_after s (recv_form c g x) h m = h
named_after s (probe_form c g) h m = h
named_after s (try_probe_form c g x) h m = h
named_after s (print_form e) h m = h
named_after s barrier_form h m = h
named_after s (bcast_form r x) h m = h
named_after s (reduce_form o r e x) h m = h

-- the other branch is as deep as the first
other_length : (bs : List Opened) → length (other_branch bs) ≡ length bs
other_length [] = refl
other_length (b ∷ bs) = refl

-- a closed block leaves one less
outer_length : (bs : List Opened) → length (outer bs) ≡ length bs - 1
outer_length [] = refl
outer_length (b ∷ bs) = omega arith

-- a line is indented by the blocks that are open
pub depth_goes : (s : Scope) (f : Form) (depth : ℕ) → depth ≡ length s.blocks → depth_after depth f ≡ length (after s f).blocks
depth_goes s (var_form x) depth q = q
depth_goes s (array_form x n) depth q = q
depth_goes s (let_form x e) depth q = q
depth_goes s (item_form x i e) depth q = q
depth_goes s (if_form e) depth q = omega (arith, q)
depth_goes s else_form depth q = q ∙ sym (other_length s.blocks)
depth_goes s end_form depth q = omega (arith, q, outer_length s.blocks)
depth_goes s (while_form e) depth q = omega (arith, q)
depth_goes s (send_form d g p) depth q = q
depth_goes s (recv_form c g x) depth q = q
depth_goes s (probe_form c g) depth q = q
depth_goes s (try_probe_form c g x) depth q = q
depth_goes s (print_form e) depth q = q
depth_goes s barrier_form depth q = q
depth_goes s (bcast_form r x) depth q = q
depth_goes s (reduce_form o r e x) depth q = q

-- a table of blocks that has room
room_in : (n : ℕ) → nat_le most_blocks n ≡ false → n < most_blocks
room_in n q = grind (arith, nat_tests)

-- no more are open behind a statement that may stand
pub blocks_few : (s : Scope) (f : Form) → MayStand s f → length s.blocks ≤ most_blocks → length (after s f).blocks ≤ most_blocks
blocks_few s (var_form x) m h = h
blocks_few s (array_form x n) m h = h
blocks_few s (let_form x e) m h = h
blocks_few s (item_form x i e) m h = h
blocks_few s (if_form e) m h = omega (arith, room_in (length s.blocks) m.within)
blocks_few s else_form m h = omega (arith, h, other_length s.blocks)
blocks_few s end_form m h = omega (arith, h, outer_length s.blocks)
blocks_few s (while_form e) m h = omega (arith, room_in (length s.blocks) m.within)
blocks_few s (send_form d g p) m h = h
blocks_few s (recv_form c g x) m h = h
blocks_few s (probe_form c g) m h = h
blocks_few s (try_probe_form c g x) m h = h
blocks_few s (print_form e) m h = h
blocks_few s barrier_form m h = h
blocks_few s (bcast_form r x) m h = h
blocks_few s (reduce_form o r e x) m h = h

-- a line isn't indented deeper
pub depth_least : (depth : ℕ) (f : Form) → depth_of depth f ≤ depth
depth_least depth (var_form x) = omega arith
depth_least depth (array_form x n) = omega arith
depth_least depth (let_form x e) = omega arith
depth_least depth (item_form x i e) = omega arith
depth_least depth (if_form e) = omega arith
depth_least depth else_form = omega arith
depth_least depth end_form = omega arith
depth_least depth (while_form e) = omega arith
depth_least depth (send_form d g p) = omega arith
depth_least depth (recv_form c g x) = omega arith
depth_least depth (probe_form c g) = omega arith
depth_least depth (try_probe_form c g x) = omega arith
depth_least depth (print_form e) = omega arith
depth_least depth barrier_form = omega arith
depth_least depth (bcast_form r x) = omega arith
depth_least depth (reduce_form o r e x) = omega arith

-- parentheses that nest no deeper than they may aren't too many
shallow_test : (n : ℕ) → n ≤ most_parentheses → nat_lt most_parentheses n ≡ false
shallow_test n h = grind (arith, nat_tests)

-- three tests that fail
none_holds : (a b c : Bool) → a ≡ false → b ≡ false → c ≡ false → (a || b || c) ≡ false
none_holds a b c p q r = grind arith

-- no limit is passed
within_limits : (s : Scope) (ts : List Token) (f : Form) → MayStand s f → deepest 0 ts ≤ most_parentheses → is_over s ts f ≡ false
within_limits s ts f m h =
    none_holds (is_past_table s f) (has_large f) (nat_lt most_parentheses (deepest 0 ts)) m.within m.sized (shallow_test (deepest 0 ts) h)

-- the same test can't give both
not_both : (b : Bool) → b ≡ true → b ≡ false → ⊥
not_both b p q = cc

-- no fault holds of a line that has a statement which may stand there
pub clean_of : {s : Scope} {n : ℕ} {line : List ℕ} {ts : List Token} {f : Form} → IsFormed line ts f → is_statement line ≡ true → n ≤ most_lines
    → deepest 0 ts ≤ most_parentheses → MayStand s f → (k : FaultKind) → Holds s n line k → ⊥
clean_of {line = line} d w early shallow m _ (other_byte q) = not_both _ d.looked.text q
clean_of d w early shallow m _ (no_word l q) = not_both _ w q
clean_of {ts = ts} {f = f} d w early shallow m _ (no_form l q h) = h ts f d
clean_of {s = s} d w early shallow m _ (unknown_name b q) = not_both _ m.declared (ap (declared_in s) (form_one d b).1 ∙ q)
clean_of {s = s} d w early shallow m _ (known_name b q) = not_both _ (ap (is_twice s) (form_one d b).1 ∙ q) m.once
clean_of {s = s} d w early shallow m _ (no_block b q) = not_both _ (ap (is_stray s) (form_one d b).1 ∙ q) m.placed
clean_of d w early shallow m _ (long_line h) = let r = d.looked.short in absurd (omega arith)
clean_of d w early shallow m _ (late_line h) = absurd (omega arith)
clean_of {s = s} {ts = ts} {f = f} d w early shallow m _ (over {ts = us} b q) =
    let e = form_one d b in
    not_both _ (ap (λ z. is_over s z f) e.0 ∙ ap (λ z. is_over s us z) e.1 ∙ q) (within_limits s ts f m shallow)
clean_of d w early shallow m _ (great_number b q) = not_both _ (ap has_great_number (form_one d b).1 ∙ q) m.fitting
