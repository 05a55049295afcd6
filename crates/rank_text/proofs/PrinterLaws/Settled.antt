-- Statements and the canonical ones for them have the same text, and are both whole or neither. So what is printed of a whole program
-- is always a text, of the canonical statements.
use Rattle.std.proofs.Common.{◌≡◌, ℕ, Bool, true, false, ◌&&◌, ◌||◌, List, [], ◌∷◌, ◌++◌, length, codes, refl, sym, ap, subst, ◌∙◌, arith}
use Rattle.rank_text.specs.Grammar.Tree.{number, variable, item, reading, negation, operation}
use Rattle.rank_text.specs.Grammar.Forms.{Payload, lone, one, Form, var_form, array_form, let_form, item_form, if_form, else_form, end_form, while_form}
use Rattle.rank_text.specs.Grammar.Forms.{send_form, recv_form, probe_form, try_probe_form, print_form, barrier_form, bcast_form, reduce_form}
use Rattle.rank_text.specs.Checker.Faults.{IsText}
use Rattle.rank_text.specs.Checker.Scope.{Scope, nothing_yet, is_array, all_declared, payload_declared, is_large, payload_is_large, is_great, payload_is_great}
use Rattle.rank_text.specs.Checker.Scope.{after, after_all, MayStand, AllMayStand, IsWhole}
use Rattle.rank_text.specs.Printer.Canonical.{expression_text, payload_text, form_text, depth_of, depth_after, indentation, text_from, program_text}
use Rattle.rank_text.specs.Printer.Canonical.{IsCanonicalPayload, IsCanonical, AllCanonical, canonical_payload, canonical, all_canonical}
use Rattle.rank_text.proofs.PrinterLaws.PrintedText.{reads_back}

-- a payload's text is the canonical one's
payload_same : (p : Payload) → payload_text (canonical_payload p) ≡ payload_text p
payload_same (lone x) = refl
payload_same (one (number n)) = refl
payload_same (one (variable x)) = refl
payload_same (one (item x e)) = refl
payload_same (one (reading r)) = refl
payload_same (one (negation e)) = refl
payload_same (one (operation o a b)) = refl

-- and it is canonical
payload_canonical : (p : Payload) → IsCanonicalPayload (canonical_payload p)
payload_canonical (lone x) = tt
payload_canonical (one (number n)) = tt
payload_canonical (one (variable x)) = tt
payload_canonical (one (item x e)) = tt
payload_canonical (one (reading r)) = tt
payload_canonical (one (negation e)) = tt
payload_canonical (one (operation o a b)) = tt

-- declared where the payload is
payload_known : (s : Scope) (p : Payload) → payload_declared s p ≡ true → payload_declared s (canonical_payload p) ≡ true
payload_known s (lone x) q = q
payload_known s (one (number n)) q = q
payload_known s (one (variable x)) q = ap (λ z. z || is_array s x) q
payload_known s (one (item x e)) q = q
payload_known s (one (reading r)) q = q
payload_known s (one (negation e)) q = q
payload_known s (one (operation o a b)) q = q

-- and no larger
payload_size : (p : Payload) → payload_is_large (canonical_payload p) ≡ payload_is_large p
payload_size (lone x) = refl
payload_size (one (number n)) = refl
payload_size (one (variable x)) = refl
payload_size (one (item x e)) = refl
payload_size (one (reading r)) = refl
payload_size (one (negation e)) = refl
payload_size (one (operation o a b)) = refl

-- and its numbers are in range where they were
payload_range : (p : Payload) → payload_is_great (canonical_payload p) ≡ payload_is_great p
payload_range (lone x) = refl
payload_range (one (number n)) = refl
payload_range (one (variable x)) = refl
payload_range (one (item x e)) = refl
payload_range (one (reading r)) = refl
payload_range (one (negation e)) = refl
payload_range (one (operation o a b)) = refl

-- where the first of two tests stays, the second may change
and_behind : (a b c : Bool) → (b ≡ true → c ≡ true) → (a && b) ≡ true → (a && c) ≡ true
and_behind true b c h q = h q
and_behind false b c h q = q

-- a statement stands where it stood
form_stands : (s : Scope) (f : Form) → MayStand s f → MayStand s (canonical f)
form_stands s (var_form x) m = m
form_stands s (array_form x n) m = m
form_stands s (let_form x e) m = m
form_stands s (item_form x i e) m = m
form_stands s (if_form e) m = m
form_stands s else_form m = m
form_stands s end_form m = m
form_stands s (while_form e) m = m
form_stands s (send_form d g p) m = record {
  declared =
      and_behind (all_declared s d && all_declared s g) (payload_declared s p) (payload_declared s (canonical_payload p)) (payload_known s p)
      m.declared;
  once = m.once;
  placed = m.placed;
  within = m.within;
  named = m.named;
  sized = ap (λ z. is_large d || is_large g || z) (payload_size p) ∙ m.sized;
  fitting = ap (λ z. is_great d || is_great g || z) (payload_range p) ∙ m.fitting;
}
form_stands s (recv_form c g x) m = m
form_stands s (probe_form c g) m = m
form_stands s (try_probe_form c g x) m = m
form_stands s (print_form e) m = m
form_stands s barrier_form m = m
form_stands s (bcast_form r x) m = m
form_stands s (reduce_form o r e x) m = m

-- and leaves what it left
form_leaves : (s : Scope) (f : Form) → after s (canonical f) ≡ after s f
form_leaves s (var_form x) = refl
form_leaves s (array_form x n) = refl
form_leaves s (let_form x e) = refl
form_leaves s (item_form x i e) = refl
form_leaves s (if_form e) = refl
form_leaves s else_form = refl
form_leaves s end_form = refl
form_leaves s (while_form e) = refl
form_leaves s (send_form d g p) = refl
form_leaves s (recv_form c g x) = refl
form_leaves s (probe_form c g) = refl
form_leaves s (try_probe_form c g x) = refl
form_leaves s (print_form e) = refl
form_leaves s barrier_form = refl
form_leaves s (bcast_form r x) = refl
form_leaves s (reduce_form o r e x) = refl

-- and is canonical
form_canonical : (f : Form) → IsCanonical (canonical f)
form_canonical (var_form x) = tt
form_canonical (array_form x n) = tt
form_canonical (let_form x e) = tt
form_canonical (item_form x i e) = tt
form_canonical (if_form e) = tt
form_canonical else_form = tt
form_canonical end_form = tt
form_canonical (while_form e) = tt
form_canonical (send_form d g p) = payload_canonical p
form_canonical (recv_form c g x) = tt
form_canonical (probe_form c g) = tt
form_canonical (try_probe_form c g x) = tt
form_canonical (print_form e) = tt
form_canonical barrier_form = tt
form_canonical (bcast_form r x) = tt
form_canonical (reduce_form o r e x) = tt

-- its line is the same, and so is where the next one begins
abbrev IsSameLine : ℕ → Form → Type 0
IsSameLine depth f =
    (form_text (canonical f) ≡ form_text f)
    × (depth_of depth (canonical f) ≡ depth_of depth f)
    × (depth_after depth (canonical f) ≡ depth_after depth f)

-- so it is for each statement
same_line : (depth : ℕ) (f : Form) → IsSameLine depth f
same_line depth (var_form x) = (refl, refl, refl)
same_line depth (array_form x n) = (refl, refl, refl)
same_line depth (let_form x e) = (refl, refl, refl)
same_line depth (item_form x i e) = (refl, refl, refl)
same_line depth (if_form e) = (refl, refl, refl)
same_line depth else_form = (refl, refl, refl)
same_line depth end_form = (refl, refl, refl)
same_line depth (while_form e) = (refl, refl, refl)
same_line depth (send_form d g p) =
    (ap (λ z. codes "send " ++ expression_text d ++ codes ", " ++ expression_text g ++ codes ", " ++ z) (payload_same p), refl, refl)
same_line depth (recv_form c g x) = (refl, refl, refl)
same_line depth (probe_form c g) = (refl, refl, refl)
same_line depth (try_probe_form c g x) = (refl, refl, refl)
same_line depth (print_form e) = (refl, refl, refl)
same_line depth barrier_form = (refl, refl, refl)
same_line depth (bcast_form r x) = (refl, refl, refl)
same_line depth (reduce_form o r e x) = (refl, refl, refl)

-- the text is the same
same_text : (depth : ℕ) (fs : List Form) → text_from depth (all_canonical fs) ≡ text_from depth fs
same_text depth [] = refl
same_text depth (f ∷ fs) =
    let h = same_line depth f in
    let rest = all_canonical fs in
    ap (λ z. indentation (depth_of depth (canonical f)) ++ z ++ codes "\n" ++ text_from (depth_after depth (canonical f)) rest) h.0
    ∙ ap (λ z. indentation z ++ form_text f ++ codes "\n" ++ text_from (depth_after depth (canonical f)) rest) h.1
    ∙ ap (λ z. indentation (depth_of depth f) ++ form_text f ++ codes "\n" ++ text_from z rest) h.2
    ∙ ap (λ z. indentation (depth_of depth f) ++ form_text f ++ codes "\n" ++ z) (same_text (depth_after depth f) fs)

-- the statements stand where they stood
all_stand : (s : Scope) (fs : List Form) → AllMayStand s fs → AllMayStand s (all_canonical fs)
all_stand s [] h = tt
all_stand s (f ∷ fs) h =
    (form_stands s f h.0, subst (λ z. AllMayStand z (all_canonical fs)) (sym (form_leaves s f)) (all_stand (after s f) fs h.1))

-- and leave what they left
pub all_leave : (s : Scope) (fs : List Form) → after_all s (all_canonical fs) ≡ after_all s fs
all_leave s [] = refl
all_leave s (f ∷ fs) = ap (λ z. after_all z (all_canonical fs)) (form_leaves s f) ∙ all_leave (after s f) fs

-- they are as many
all_many : (fs : List Form) → length (all_canonical fs) ≡ length fs
all_many [] = refl
all_many (f ∷ fs) = omega (arith, all_many fs)

-- and are canonical
pub all_are : (fs : List Form) → AllCanonical (all_canonical fs)
all_are [] = tt
all_are (f ∷ fs) = (form_canonical f, all_are fs)

-- the canonical statements are a whole program's too
pub stays_whole : (fs : List Form) → IsWhole fs → IsWhole (all_canonical fs)
stays_whole fs w = record {
  standing = all_stand nothing_yet fs w.standing;
  closed = ap (λ z. z.blocks) (all_leave nothing_yet fs) ∙ w.closed;
  few = let k = w.few in omega (arith, all_many fs);
}

-- with the same text
pub stays_text : (fs : List Form) → program_text (all_canonical fs) ≡ program_text fs
stays_text fs = same_text 0 fs

-- which is a text of them
pub is_settled : (fs : List Form) → IsWhole fs → IsText (program_text fs) (all_canonical fs)
is_settled fs w = subst (λ z. IsText z (all_canonical fs)) (stays_text fs) (reads_back (all_canonical fs) (stays_whole fs w) (all_are fs))
