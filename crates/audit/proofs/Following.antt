-- Rows and lines determine a run: where of each rank the row and the lines of one run begin those of another, each rank does in
-- the one what it does in the other, as far as it comes, or all of that and then sends alone. For a rank is deterministic: before
-- each act both stand at one state, which asks for a send, a print, a reception or a probe; a send and a print are as the state
-- has them, and an event names its message by the sender's clock, and so by its place.
use Rattle.std.proofs.Common.{◌≡◌, ℕ, ℤ, suc, ◌+◌, List, [], ◌∷◌, ◌++◌, Option, Some, None, length, ◌⊎◌, inl, inr, refl, sym, ap, subst, ◌∙◌}
use Rattle.std.proofs.lemmas.Bool.{cases_eq}
use Rattle.std.proofs.lemmas.List.{append-nil, append_assoc, append_cancel_left}
use Rattle.event_logger.specs.Sequential.Event.{EventValue}
use Rattle.rank_machine.specs.States.{State, Inners}
use Rattle.rank_machine.specs.Wants.{wants, payload}
use Rattle.rank_machine.specs.Acts.{Act, Message, Fits, Makes, Runs}
use Rattle.rank_machine.proofs.Determined.{still, same_stop, same_runs}
use Rattle.crash_free.specs.Runs.{Passed, History, history, sent, printed, prints_from, print_at, looked_up, MayMake, IsRun}
use Rattle.crash_free.specs.Parts.{IsBeginning, IsAlong}
use Rattle.crash_free.proofs.Lists.{history-own, history-other, printed-own}
use Rattle.crash_free.proofs.Sound.{Has}
use Rattle.crash_free.proofs.Senders.{Cut, cut, runs_of}
use Rattle.crash_free.proofs.Reorder.{IsBeginning-trans, found_there, same_place}
use Rattle.audit.specs.Rows.{row, event_at, events_from, cons_some}
use Rattle.audit.specs.Following.{GoesBeyond, Follows}
use Rattle.audit.proofs.Rows.{row-own}
use Rattle.audit.proofs.Growing.{next_event, events_of_sends, prints_of_sends, AreSends-push, row_grows, lines_grow}
use Rattle.audit.proofs.Alike.{send_left, none_in_front, none_found, same_act}

-- two beginnings of one list, that begin alike, go on alike
go_on_alike : {A : Type 0} (xs ys zs whole : List A) → IsBeginning (xs ++ ys) whole → IsBeginning (xs ++ zs) whole
    → (u v : List A) × (ys ++ u ≡ zs ++ v)
go_on_alike xs ys zs whole a b =
    (a.0, b.0, append_cancel_left xs (ys ++ a.0) (zs ++ b.0) (sym (append_assoc xs ys a.0) ∙ sym a.1 ∙ b.1 ∙ append_assoc xs zs b.0))

-- what goes on after the whole list is nothing
nothing_more : {A : Type 0} (xs ys whole : List A) → IsBeginning (xs ++ ys) whole → whole ≡ xs → ys ≡ []
nothing_more {A} xs ys whole b same = empty ys b.0 (append_cancel_left xs (ys ++ b.0) [] (sym (append_assoc xs ys b.0) ∙ sym b.1 ∙ same ∙ sym (append-nil xs)))
  where
    empty : (ys zs : List A) → ys ++ zs ≡ [] → ys ≡ []
    empty [] zs e = refl
    empty (y ∷ ys) zs e = cc

-- an act of a history is one that it has
Has-at : (h later : History) (x : Act × Option Message) → Has (h ++ x ∷ later) x
Has-at [] later x = (0, refl)
Has-at (y ∷ h) later x = let a = Has-at h later x in (suc a.0, a.1)

-- the histories of a run that follows another are along its own
pub along : (P C : List Passed) → ((r : ℕ) → Follows P C r) → IsAlong P (λ r. history C r)
along P C follows r = go (follows r)
  where
    go : Follows P C r → IsBeginning (history P r) (history C r) ⊎ IsBeginning (history C r) (history P r)
    go (inl b) = inl b
    go (inr g) = inr (g.later, g.whole)

-- an act with what it takes or hits
abbrev with_message : Act → Option Message → Act × Option Message
with_message a o = (a, o)

-- one more act
module _ (start : ℕ → State) (n : ℕ) (P C : List Passed) (p : Passed) (run : IsRun start n (p ∷ P)) (whole : IsRun start n C)
    (before : (q : ℕ) → Follows P C q) (rows : IsBeginning (row (p ∷ P) p.rank) (row C p.rank))
    (lines : IsBeginning (printed (p ∷ P) p.rank) (printed C p.rank)) where
  abbrev made : Act × Option Message
  made = (p.act, looked_up (λ s. sent P s p.rank) p.act)

  abbrev event_made : List EventValue
  event_made = cons_some (event_at (length (history P p.rank) + 1) made.0 made.1) []

  abbrev line_made : List (ℕ × ℤ)
  line_made = print_at (length (history P p.rank) + 1) p.act []

  may : MayMake (start p.rank) (λ s. sent P s p.rank) (history P p.rank) p.act
  may = run.2

  rows_begin : IsBeginning (row P p.rank ++ event_made) (row C p.rank)
  rows_begin = subst (λ es. IsBeginning es (row C p.rank)) (row-own P p.rank p.act) rows

  lines_begin : IsBeginning (printed P p.rank ++ line_made) (printed C p.rank)
  lines_begin = subst (λ ls. IsBeginning ls (printed C p.rank)) (printed-own P p.rank p.act) lines

  -- where the other run goes on, it does so by the same act
  same_next : (x : Act × Option Message) (later : History) → history C p.rank ≡ history P p.rank ++ x ∷ later → x ≡ made
  same_next x later e =
      let runs = runs_of start n C whole p.rank in
      let c : Cut (start p.rank) (history P p.rank) x =
      cut (start p.rank) runs.0 (history P p.rank) x later (subst (λ h. Runs (start p.rank) h runs.0) e runs.1) in
      let m : MayMake (start p.rank) (λ s. sent P s p.rank) (history P p.rank) p.act = run.2 in
      let reached : c.reached ≡ m.after = same_runs (start p.rank) c.reached m.after (history P p.rank) c.runs m.reached in
      let stood : c.does.0 ≡ m.stands =
      same_stop (subst (λ z. Inners z c.does.0) reached c.does.1) m.inner (still c.does.0 x.0 x.1 c.does.2) (still m.stands made.0 made.1 m.makes) in
      let fits : Fits (wants m.stands) (payload m.stands) x.0 x.1 = subst (λ z. Makes z x.0 x.1) stood c.does.2 in
      let begins = next_event (history P p.rank) later x in
      let alike =
      go_on_alike (row P p.rank) event_made (cons_some (event_at (length (history P p.rank) + 1) x.0 x.1) []) (row C p.rank) rows_begin
      (subst (λ h. IsBeginning (row P p.rank ++ cons_some (event_at (length (history P p.rank) + 1) x.0 x.1) []) (events_from 0 h)) (sym e) begins) in
      let same =
      same_act (λ s. sent P s p.rank) (λ s. sent C s p.rank) (λ s j j' m m' f g k. same_place P C s p.rank j j' m m' (along P C before s) f g k)
      (length (history P p.rank) + 1) p.act x.0 made.1 x.1 refl
      (found x.1 refl fits) alike.0 alike.1 alike.2 (wants m.stands) (payload m.stands) m.makes fits in
      sym (ap (λ a. with_message a made.1) same.0 ∙ ap (with_message x.0) same.1)
    where
      pair : (m : Option Message) → x.1 ≡ m → x ≡ (x.0, m)
      pair m q = ap (with_message x.0) q

      found : (o : Option Message) → x.1 ≡ o → Fits (wants run.2.stands) (payload run.2.stands) x.0 x.1 → x.1 ≡ looked_up (λ s. sent C s p.rank) x.0
      found None q f =
          q ∙ none_found (λ s. sent C s p.rank) (wants run.2.stands) (payload run.2.stands) x.0
          (subst (λ o. Fits (wants run.2.stands) (payload run.2.stands) x.0 o) q f)
      found (Some m) q f =
          let whole_x : x ≡ (x.0, Some m) = pair (Some m) q in
          let has = subst (λ h. Has h x) (sym e) (Has-at (history P p.rank) later x) in
          q ∙ sym (found_there C p.rank x.0 m (subst (λ y. Has (history C p.rank) y) whole_x has))

  -- where it doesn't, this is a send
  ahead : GoesBeyond (history P p.rank) (history C p.rank) → GoesBeyond (history (p ∷ P) p.rank) (history C p.rank)
  ahead g =
      let m : MayMake (start p.rank) (λ s. sent P s p.rank) (history P p.rank) p.act = run.2 in
      let row_same : row C p.rank ≡ row P p.rank = sym (ap (λ h. events_from 0 h) g.whole ∙ events_of_sends (history C p.rank) g.later g.sends) in
      let lines_same : printed C p.rank ≡ printed P p.rank = sym (ap (λ h. prints_from 0 h) g.whole ∙ prints_of_sends (history C p.rank) g.later g.sends) in
      let more = nothing_more (row P p.rank) event_made (row C p.rank) rows_begin row_same in
      let none = none_in_front (event_at (length (history P p.rank) + 1) made.0 made.1) more in
      let no_print = nothing_more (printed P p.rank) line_made (printed C p.rank) lines_begin lines_same in
      let send = send_left (wants m.stands) (payload m.stands) (length (history P p.rank) + 1) p.act made.1 m.makes none no_print in
      record {
        later = g.later ++ made ∷ [];
        whole = history-own P p.rank p.act ∙ ap (λ h. h ++ made ∷ []) g.whole ∙ append_assoc (history C p.rank) g.later (made ∷ []);
        sends = AreSends-push g.later made g.sends send;
      }

  follows_on : Follows (p ∷ P) C p.rank
  follows_on = go (before p.rank)
    where
      by_later : (later : History) → history C p.rank ≡ history P p.rank ++ later → Follows (p ∷ P) C p.rank
      by_later [] e =
          inr (ahead (record { later = []; whole = sym (e ∙ append-nil (history P p.rank)) ∙ sym (append-nil (history C p.rank)); sends = tt }))
      by_later (x ∷ later) e =
          inl (
            later,
            e ∙ ap (λ z. history P p.rank ++ z ∷ later) (same_next x later e) ∙ sym (append_assoc (history P p.rank) (made ∷ []) later)
                ∙ ap (λ h. h ++ later) (sym (history-own P p.rank p.act)),
          )

      go : Follows P C p.rank → Follows (p ∷ P) C p.rank
      go (inl b) = by_later b.0 b.1
      go (inr g) = inr (ahead g)

-- A run whose rows and lines begin those of another follows it.
pub follows : (start : ℕ → State) (n : ℕ) (P C : List Passed) → IsRun start n P → IsRun start n C
    → ((r : ℕ) → IsBeginning (row P r) (row C r)) → ((r : ℕ) → IsBeginning (printed P r) (printed C r)) → (r : ℕ) → Follows P C r
follows start n [] C run whole rows lines r = inl (history C r, refl)
follows start n (p ∷ P) C run whole rows lines r =
    by_rank
    (λ q. follows start n P C run.0 whole (λ z. IsBeginning-trans (row P z) (row (p ∷ P) z) (row C z) (row_grows P p z) (rows z))
    (λ z. IsBeginning-trans (printed P z) (printed (p ∷ P) z) (printed C z) (lines_grow P p z) (lines z)) q)
    (cases_eq p.rank r)
  where
    by_rank : ((q : ℕ) → Follows P C q) → (p.rank ≡ r) ⊎ (p.rank ≡ r → ⊥) → Follows (p ∷ P) C r
    by_rank before (inl own) = subst (λ z. Follows (p ∷ P) C z) own (follows_on start n P C p run whole before (rows p.rank) (lines p.rank))
    by_rank before (inr other) = rw (history-other P p r other) (before r)
