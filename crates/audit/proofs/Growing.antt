-- What a history has of events and lines: a longer one has more of both, or as many, and sends leave both.
use Rattle.std.proofs.Common.{◌≡◌, ℕ, ℤ, ◌+◌, List, [], ◌∷◌, ◌++◌, Option, length, refl, sym, ap, subst, ◌∙◌}
use Rattle.std.proofs.Common.{arith}
use Rattle.std.proofs.lemmas.List.{append-nil, append_assoc}
use Rattle.event_logger.specs.Sequential.Event.{EventValue}
use Rattle.rank_machine.specs.Acts.{Act, Message, sends, takes, hits, misses, prints}
use Rattle.crash_free.specs.Runs.{Passed, History, history, printed, prints_from, print_at}
use Rattle.crash_free.specs.Parts.{IsBeginning}
use Rattle.crash_free.proofs.Lists.{prints_from-push}
use Rattle.crash_free.proofs.Reorder.{IsBeginning-trans, history_grows}
use Rattle.audit.specs.Rows.{row, event_at, events_from, cons_some}
use Rattle.audit.specs.Following.{IsSendAct, AreSends}
use Rattle.audit.proofs.Rows.{events_from-push, no_event, IsEffect}

-- the events of more acts begin with those of the first ones
events_grow : (h later : History) → IsBeginning (events_from 0 h) (events_from 0 (h ++ later))
events_grow h [] = ([], ap (λ z. events_from 0 z) (append-nil h) ∙ sym (append-nil (events_from 0 h)))
events_grow h (x ∷ later) =
    let one : List EventValue = cons_some (event_at (0 + length h + 1) x.0 x.1) [] in
    IsBeginning-trans (events_from 0 h) (events_from 0 (h ++ x ∷ [])) (events_from 0 (h ++ x ∷ later)) (one, events_from-push 0 h x)
    (subst (λ z. IsBeginning (events_from 0 (h ++ x ∷ [])) (events_from 0 z)) (append_assoc h (x ∷ []) later) (events_grow (h ++ x ∷ []) later))

-- so do their lines
pub prints_grow : (h later : History) → IsBeginning (prints_from 0 h) (prints_from 0 (h ++ later))
prints_grow h [] = ([], ap (λ z. prints_from 0 z) (append-nil h) ∙ sym (append-nil (prints_from 0 h)))
prints_grow h (x ∷ later) =
    let one : List (ℕ × ℤ) = print_at (0 + length h + 1) x.0 [] in
    IsBeginning-trans (prints_from 0 h) (prints_from 0 (h ++ x ∷ [])) (prints_from 0 (h ++ x ∷ later)) (one, prints_from-push 0 h x)
    (subst (λ z. IsBeginning (prints_from 0 (h ++ x ∷ [])) (prints_from 0 z)) (append_assoc h (x ∷ []) later) (prints_grow (h ++ x ∷ []) later))

-- the event of the next act of a history comes after those of the acts before
pub next_event : (h later : History) (x : Act × Option Message)
    → IsBeginning (events_from 0 h ++ cons_some (event_at (length h + 1) x.0 x.1) []) (events_from 0 (h ++ x ∷ later))
next_event h later x =
    let z : 0 + length h ≡ length h = omega arith in
    subst (λ es. IsBeginning es (events_from 0 (h ++ x ∷ later)))
    (events_from-push 0 h x ∙ ap (λ k. events_from 0 h ++ cons_some (event_at (k + 1) x.0 x.1) []) z)
    (subst (λ k. IsBeginning (events_from 0 (h ++ x ∷ [])) (events_from 0 k)) (append_assoc h (x ∷ []) later) (events_grow (h ++ x ∷ []) later))

-- so does its line
pub next_line : (h later : History) (x : Act × Option Message)
    → IsBeginning (prints_from 0 h ++ print_at (length h + 1) x.0 []) (prints_from 0 (h ++ x ∷ later))
next_line h later x =
    let z : 0 + length h ≡ length h = omega arith in
    subst (λ ls. IsBeginning ls (prints_from 0 (h ++ x ∷ later)))
    (prints_from-push 0 h x ∙ ap (λ k. prints_from 0 h ++ print_at (k + 1) x.0 []) z)
    (subst (λ k. IsBeginning (prints_from 0 (h ++ x ∷ [])) (prints_from 0 k)) (append_assoc h (x ∷ []) later) (prints_grow (h ++ x ∷ []) later))

-- a send is an effect
pub send_is_effect : (a : Act) → IsSendAct a → IsEffect a
send_is_effect (sends d c t items) i = tt
send_is_effect (takes s j) i = i
send_is_effect (hits s j) i = i
send_is_effect misses i = i
send_is_effect (prints v) i = tt

-- it prints nothing
pub no_line : (c : ℕ) (a : Act) → IsSendAct a → print_at c a [] ≡ []
no_line c (sends d context t items) i = refl
no_line c (takes s j) i = absurd i
no_line c (hits s j) i = absurd i
no_line c misses i = absurd i
no_line c (prints v) i = absurd i

-- sends leave the row
pub events_of_sends : (h later : History) → AreSends later → events_from 0 (h ++ later) ≡ events_from 0 h
events_of_sends h [] i = ap (λ z. events_from 0 z) (append-nil h)
events_of_sends h (x ∷ later) i =
    ap (λ z. events_from 0 z) (sym (append_assoc h (x ∷ []) later)) ∙ events_of_sends (h ++ x ∷ []) later i.1 ∙ events_from-push 0 h x
    ∙ ap (λ o. events_from 0 h ++ cons_some o []) (no_event (0 + length h + 1) x.0 x.1 (send_is_effect x.0 i.0)) ∙ append-nil (events_from 0 h)

-- and the lines
pub prints_of_sends : (h later : History) → AreSends later → prints_from 0 (h ++ later) ≡ prints_from 0 h
prints_of_sends h [] i = ap (λ z. prints_from 0 z) (append-nil h)
prints_of_sends h (x ∷ later) i =
    ap (λ z. prints_from 0 z) (sym (append_assoc h (x ∷ []) later)) ∙ prints_of_sends (h ++ x ∷ []) later i.1 ∙ prints_from-push 0 h x
    ∙ ap (λ z. prints_from 0 h ++ z) (no_line (0 + length h + 1) x.0 i.0) ∙ append-nil (prints_from 0 h)

-- one more send
pub AreSends-push : (later : History) (x : Act × Option Message) → AreSends later → IsSendAct x.0 → AreSends (later ++ x ∷ [])
AreSends-push [] x i s = (s, tt)
AreSends-push (y ∷ later) x i s = (i.0, AreSends-push later x i.1 s)

-- a run has of a rank the row, and the lines, that it had before
pub row_grows : (P : List Passed) (p : Passed) (r : ℕ) → IsBeginning (row P r) (row (p ∷ P) r)
row_grows P p r =
    let b = history_grows P p r in
    subst (λ h. IsBeginning (row P r) (events_from 0 h)) (sym b.1) (events_grow (history P r) b.0)

-- its lines begin with those that it had before, too
pub lines_grow : (P : List Passed) (p : Passed) (r : ℕ) → IsBeginning (printed P r) (printed (p ∷ P) r)
lines_grow P p r =
    let b = history_grows P p r in
    subst (λ h. IsBeginning (printed P r) (prints_from 0 h)) (sym b.1) (prints_grow (history P r) b.0)
