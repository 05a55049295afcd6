-- Where two runs stand alike, the acts of a rank are persistent after the one if they are after the other. As others go on from the one, others go on
-- from the other to a run that stands alike. What the rank may do there it may do before; and the partner of that is the act with which it began, as of
-- each source one message is eligible.
use Rattle.std.proofs.Common.{◌≡◌, ℕ, List, Option, Some, None, refl, sym, ap, subst}
use Rattle.matching.specs.declared.selector.Selector.{Selector}
use Rattle.rank_machine.specs.States.{State}
use Rattle.rank_machine.specs.Wants.{wants}
use Rattle.rank_machine.specs.Acts.{Act, Message, takes, hits}
use Rattle.crash_free.specs.Runs.{Passed, History, history, sent, IsEligible, IsFree, MayMake, receives, probes}
use Rattle.explore.specs.Sending.{IsRunUnder}
use Rattle.std.specs.Prelude.{IsSomeAnd}
use Rattle.crash_free.specs.Alike.{StandAlike, IsPartner, sends_too, takes_too, hits_too, misses_too, prints_too}
use Rattle.crash_free.proofs.Alike.{alike_back}
use Rattle.explore.specs.AndThen.{and_then}
use Rattle.explore.specs.Persistent.{GoesOnWithout, there, further, IsPersistent}
use Rattle.explore.specs.Sending.{MayFollowUnder}
use Rattle.explore.proofs.Alone.{without_part}
use Rattle.explore.proofs.Exploring.{follows_both}
use Rattle.explore.proofs.Fixed.{one_eligible, same_state}
use Rattle.explore.specs.declared.send_mode.SendMode.{SendMode}
use Rattle.explore.proofs.Sending.{partner_under}

-- A run to which others than rank r go on from Q, and that stands alike with one to which they go on from the first.
record OnwardWithout (mode : SendMode) (start : ℕ → State) (n r : ℕ) (Q C : List Passed) : Type 0 where
  run : List Passed
  is_run : IsRunUnder mode start n run
  onward : GoesOnWithout mode start n r Q run
  alike : StandAlike start n C run

-- for each run to which they go on from the first there is one
without_too : (mode : SendMode) → (start : ℕ → State) (n r : ℕ) (P Q C : List Passed) → IsRunUnder mode start n P → IsRunUnder mode start n Q → StandAlike start n P Q
    → GoesOnWithout mode start n r P C → OnwardWithout mode start n r Q C
without_too mode start n r P Q C run run' alike there = record { run = Q; is_run = run'; onward = there; alike = alike }
without_too mode start n r P Q C run run' alike (further q act other may on) =
    let f = partner_under mode start n P Q run run' alike q act may.0 may.1 may.2 in
    let next = without_too mode start n r (and_then P q act) (and_then Q q f.other) C (run, may.0, may.1, may.2) (run', may.0, f.may, f.released) f.alike on in
    record { run = next.run; is_run = next.is_run; onward = further q f.other other (may.0, f.may, f.released) next.onward; alike = next.alike }

-- of one source one message is eligible, if one is for what a rank wants
one_place : (o : Option Selector) (inbound : ℕ → List Message) (h : History) (s i j : ℕ) → IsSomeAnd o (λ w. IsEligible inbound h s i w)
    → IsSomeAnd o (λ w. IsEligible inbound h s j w) → i ≡ j
one_place (Some w) inbound h s i j a b = one_eligible inbound h s i j w a b
one_place None inbound h s i j a b = absurd a

-- the partner of a partner is the act, where a rank may make both next
same_partner : (start : State) (inbound : ℕ → List Message) (h : History) (a b c : Act) → IsPartner a b → IsPartner b c → MayMake start inbound h a
    → MayMake start inbound h c → a ≡ c
same_partner start inbound h a b c sends_too sends_too may may' = refl
same_partner start inbound h a b c (takes_too {source = source} {place = place}) (takes_too {other = place'}) may may' =
    let free : IsFree (wants may.stands) (takes source place') inbound h =
    subst (λ z. IsFree (wants z) (takes source place') inbound h)
    (same_state start inbound inbound h (takes source place) (takes source place') may may') may'.free in
    ap (λ j. takes source j) (one_place (receives (wants may.stands)) inbound h source place place' may.free free)
same_partner start inbound h a b c (hits_too {source = source} {place = place}) (hits_too {other = place'}) may may' =
    let free : IsFree (wants may.stands) (hits source place') inbound h =
    subst (λ z. IsFree (wants z) (hits source place') inbound h)
    (same_state start inbound inbound h (hits source place) (hits source place') may may') may'.free in
    ap (λ j. hits source j) (one_place (probes (wants may.stands)) inbound h source place place' may.free free)
same_partner start inbound h a b c misses_too misses_too may may' = refl
same_partner start inbound h a b c prints_too prints_too may may' = refl

-- what a rank may make it may make by another name
same_follows : (mode : SendMode) → (start : ℕ → State) (n : ℕ) (Q : List Passed) (r : ℕ) (a b : Act) → a ≡ b → MayFollowUnder mode start n Q r b → MayFollowUnder mode start n Q r a
same_follows mode start n Q r a b e may = subst (λ z. MayFollowUnder mode start n Q r z) (sym e) may

-- so the acts of a rank that are persistent after P are so after Q
pub persistent_too : (mode : SendMode) → (start : ℕ → State) (n : ℕ) (P Q : List Passed) (r : ℕ) → IsRunUnder mode start n P → IsRunUnder mode start n Q → StandAlike start n P Q
    → IsPersistent mode start n P r → IsPersistent mode start n Q r
persistent_too mode start n P Q r run run' alike persistent C act onward may =
    let is = without_part mode start n r Q C run' onward in
    let next = without_too mode start n r Q P C run' run (alike_back start n P Q alike) onward in
    let then = partner_under mode start n C next.run is.is_run next.is_run next.alike r act may.0 may.1 may.2 in
    let now = persistent next.run then.other next.onward (may.0, then.may, then.released) in
    let back = partner_under mode start n P Q run run' alike r then.other now.0 now.1 now.2 in
    let still = follows_both mode start n Q C r back.other is.part is.same (now.0, back.may, back.released) in
    let same : act ≡ back.other =
    same_partner (start r) (λ s. sent C s r) (history C r) act then.other back.other then.partner back.partner may.1 still.0.1 in
    same_follows mode start n Q r act back.other same (now.0, back.may, back.released)
