-- In a run each message has an item, where each rank gives items from its beginning on.
use Rattle.std.proofs.Common.{◌≡◌, ◌≢◌, ℕ, ℤ, zero, suc, ◌+◌, ◌==◌, ◌<◌, ◌≤◌, Bool, true}
use Rattle.std.proofs.Common.{false, List, [], ◌∷◌, Some, refl, sym, subst, ◌⊎◌, inl, inr, slice_get}
use Rattle.std.proofs.lemmas.Bool.{cases_lt}
use Rattle.matching.specs.declared.packet.Context.{Context}
use Rattle.rank_machine.specs.States.{State}
use Rattle.rank_machine.specs.Acts.{Act, Message, sends, takes, hits, misses, prints, Makes, Runs}
use Rattle.crash_free.specs.LiveVariables.Given.{GivesItems, HasItem}
use Rattle.crash_free.proofs.LiveVariablesLaws.Giving.{inners_give}
use Rattle.crash_free.proofs.LiveVariablesLaws.GivingActs.{sent_has_item, does_give}
use Rattle.crash_free.specs.Runs.{Passed, History, history, sent, at_place, cons_if, send_at, sends_from, looked_up, IsRun}
use Rattle.crash_free.specs.Alike.{StandAlike}
use Rattle.crash_free.proofs.Taking.{no_history}

-- each of these messages has one
abbrev AllHave : List Message → Type 0
AllHave [] = Unit {0}
AllHave (m ∷ ms) = HasItem (Some m) × AllHave ms

-- so has the one at a place
have_index : (ms : List Message) (i : ℕ) → AllHave ms → HasItem (slice_get ms i)
have_index [] i h = tt
have_index (m ∷ ms) zero h = h.0
have_index (m ∷ ms) (suc i) h = have_index ms i h.1

-- nor is the one at a place
have_at : (ms : List Message) (j : ℕ) → AllHave ms → HasItem (at_place ms j)
have_at ms zero h = tt
have_at ms (suc i) h = have_index ms i h

-- with one more, or without
have_more : (b : Bool) (m : Message) (ms : List Message) → HasItem (Some m) → AllHave ms → AllHave (cons_if b m ms)
have_more true m ms h k = (h, k)
have_more false m ms h k = k

-- what a history sends
sent_have : (k r : ℕ) (a : State) (h : History) (after : State) → GivesItems a → Runs a h after → AllHave (sends_from k r h)
sent_have k r a [] after gives runs = tt
sent_have k r a (x ∷ h) after gives runs =
    by_act x.0 (λ dest context tag items e. sent_has_item runs.1.0 dest context tag items x.1 (inners_give runs.1.1 gives) (subst (λ z. Makes runs.1.0 z x.1) e runs.1.2)) refl
    (sent_have (k + 1) r runs.0 h after (does_give a runs.0 x.0 x.1 runs.1 gives) runs.2)
  where
    by_act : (act : Act) → ((dest : ℕ) (context : Context) (tag : ℕ) (items : List ℤ) → x.0 ≡ sends dest context tag items → items ≢ []) → x.0 ≡ act
        → AllHave (sends_from (k + 1) r h) → AllHave (send_at (k + 1) r act (sends_from (k + 1) r h))
    by_act (sends dest context tag items) some e rest =
        have_more (dest == r) (record { clock = k + 1; context = context; tag = tag; items = items }) (sends_from (k + 1) r h) (some dest context tag items e) rest
    by_act (takes source place) some e rest = rest
    by_act (hits source place) some e rest = rest
    by_act misses some e rest = rest
    by_act (prints value) some e rest = rest

-- so what one rank sent to another, in the second of two runs that stand alike
sent_too : (start : ℕ → State) (n : ℕ) (P Q : List Passed) → IsRun start n Q → StandAlike start n P Q → (s r : ℕ) → AllHave (sent Q s r)
sent_too start n P Q run alike s r = go (cases_lt s n)
  where
    go : (s < n) ⊎ (n ≤ s) → AllHave (sent Q s r)
    go (inl low) = let a = alike s low in sent_have 0 r (start s) (history Q s) a.comes_too.0 a.items a.comes_too.1
    go (inr high) = subst (λ h. AllHave (sends_from 0 r h)) (sym (no_history start n Q run s high)) tt

-- so the message that an act takes or hits
pub looked_up_has : (start : ℕ → State) (n : ℕ) (P Q : List Passed) (r : ℕ) (act : Act) → IsRun start n Q → StandAlike start n P Q
    → HasItem (looked_up (λ s. sent Q s r) act)
looked_up_has start n P Q r (takes s j) run alike = have_at (sent Q s r) j (sent_too start n P Q run alike s r)
looked_up_has start n P Q r (hits s j) run alike = have_at (sent Q s r) j (sent_too start n P Q run alike s r)
looked_up_has start n P Q r (sends dest context tag items) run alike = tt
looked_up_has start n P Q r misses run alike = tt
looked_up_has start n P Q r (prints value) run alike = tt
