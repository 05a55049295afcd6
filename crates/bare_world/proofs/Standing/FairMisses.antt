-- A miss that a rank makes misses nothing that it was shown: what it was shown it accepted, so what it hasn't taken of that is in its inbox, where
-- its probe found nothing. Acts that are no misses miss nothing.
use Rattle.std.proofs.Common.{◌≡◌, ℕ, ◌+◌, ◌<◌, ◌≤◌, zero, suc, Bool, true, false, nat_lt, if◌then◌else◌, List, [], ◌∷◌, ◌++◌, Some, None, length, take}
use Rattle.std.proofs.Common.{refl, sym, ap, subst, ◌∙◌, arith, slice_get, position}
use Rattle.std.specs.List.{position_or_len}
use Rattle.std.proofs.lemmas.Bool.{ltb-false, both_ways}
use Rattle.std.proofs.lemmas.List.Sums.{fails_before_first}
use Rattle.std.proofs.lemmas.List.Quantifiers.{position-Some}
use Rattle.std.proofs.lemmas.Option.{get_or_from_slice_get, slice_get_within}
use Rattle.matching.specs.declared.selector.Selector.{Selector}
use Rattle.matching.specs.PacketValue as packet
use Rattle.matching.specs.Matching.{matches}
use Rattle.rank_machine.specs.States.{State, Inners}
use Rattle.rank_machine.specs.Wants.{wants}
use Rattle.rank_machine.specs.Acts.{Act, Message, sends, takes, hits, misses, prints, carried, Matches, Runs}
use Rattle.rank_machine.specs.Machine.{state_of, machine_want}
use Rattle.rank_machine.specs.declared.want.Want.TheVariants as want
use Rattle.rank_machine.proofs.Determined.{still, same_stop, same_runs}
use Rattle.crash_free.specs.Runs.{Passed, History, at_place, history, sent, taken, continue}
use Rattle.crash_free.proofs.Lists.{at_place-append}
use Rattle.bare_world.specs.World.{Rank}
use Rattle.bare_world.specs.Misses.{Shows, MissesNoneShown}
use Rattle.bare_world.specs.Stands.{InboxStands, StandsIn}
use Rattle.bare_world.proofs.Rows.{IsEffect}
use Rattle.bare_world.proofs.Runs.ActFitsWant.{wanted, stopped}
use Rattle.bare_world.proofs.Lists.Beginnings.{take_whole}
use Rattle.bare_world.proofs.Standing.Inboxes.{matches_if_named}
use Rattle.bare_world.proofs.Standing.Pending.{sent_continued}

-- ---- acts that are no misses

-- an effect shows no message
pub effect_shows_none : (a : Act) (s j : ℕ) → IsEffect a → Shows s j a → ⊥
effect_shows_none (sends d c t items) s j e shows = shows
effect_shows_none (takes source place) s j e shows = e
effect_shows_none (hits source place) s j e shows = e
effect_shows_none misses s j e shows = e
effect_shows_none (prints x) s j e shows = shows

-- an act that is no miss misses nothing
pub event_is_fair : (start : ℕ → State) (C : List Passed) (r : ℕ) (a : Act) → (a ≡ misses → ⊥) → MissesNoneShown start C r a
event_is_fair start C r a not same = absurd (not same)

-- nor does an effect
pub effect_is_fair : (start : ℕ → State) (C : List Passed) (r : ℕ) (a : Act) → IsEffect a → MissesNoneShown start C r a
effect_is_fair start C r (sends d c t items) e same = absurd cc
effect_is_fair start C r (takes source place) e same = absurd e
effect_is_fair start C r (hits source place) e same = absurd e
effect_is_fair start C r misses e same = absurd e
effect_is_fair start C r (prints x) e same = absurd cc

-- ---- a probe that finds nothing

-- where no place passes, nothing does
pub found_none : (test : packet.PacketValue → Bool) (ms : List packet.PacketValue) → position test ms ≡ None
    → (i : ℕ) (p : packet.PacketValue) → slice_get ms i ≡ Some p → test p ≡ false
found_none test ms none i p at = go (nat_lt (position_or_len test ms) (length ms)) refl none
  where
    go : (b : Bool) → nat_lt (position_or_len test ms) (length ms) ≡ b → (if b then Some (position_or_len test ms) else None) ≡ None → test p ≡ false
    go true e q = absurd cc
    go false e q =
        let l = slice_get_within ms i p at in
        let past = ltb-false (position_or_len test ms) (length ms) e in
        subst (λ z. test z ≡ false) (get_or_from_slice_get ms i p p at) (fails_before_first test ms i p (omega (arith, l, past)))

-- a place that passes is one of the list
pub found_some : (test : packet.PacketValue → Bool) (ms : List packet.PacketValue) (i : ℕ) → position test ms ≡ Some i → slice_get ms i ≡ None → ⊥
found_some test [] i some none = cc
found_some test (m ∷ ms) i some none = absent (m ∷ ms) i (position-Some test (m ∷ ms) i m some).0 none
  where
    absent : (xs : List packet.PacketValue) (k : ℕ) → k < length xs → slice_get xs k ≡ None → ⊥
    absent [] k l e = omega (arith, l)
    absent (x ∷ xs) zero l e = cc
    absent (x ∷ xs) (suc k) l e = absent xs k (omega (arith, l)) e

-- ---- a miss

-- A rank that has made all its acts, and those that it owes, and whose probe finds nothing.
pub miss_is_fair : (start : ℕ → State) (n : ℕ) (C : List Passed) (r : ℕ) (v : Rank) (acts : List Act)
    → StandsIn (start r) n r (λ q. sent C q r) (history (continue C r acts) r) v.clock v.machine v.inbox v.log
    → v.clock ≡ length (history (continue C r acts) r)
    → (selector : Selector) → machine_want v.machine ≡ want.TryProbe selector
    → ((i : ℕ) (p : packet.PacketValue) → slice_get v.inbox.packets i ≡ Some p → matches selector p ≡ false)
    → MissesNoneShown start (continue C r acts) r misses
miss_is_fair start n C r v acts at clock selector is nothing same may other probes s j one shown free =
    (carried p, rw more.1 (at_place-append (sent C s r) more.0 j (carried p) there), unnamed)
  where
    h : History
    h = history (continue C r acts) r

    whole : take v.clock h ≡ h
    whole = subst (λ z. take z h ≡ h) (sym clock) (take_whole h)

    box : InboxStands v.inbox (λ q. sent C q r) h
    box = subst (λ z. InboxStands v.inbox (λ q. sent C q r) z) whole at.inbox

    -- what it was shown and hasn't taken is in its inbox
    x : (k : ℕ) × (q : packet.PacketValue) × (slice_get v.inbox.packets k ≡ Some q) × (q.source ≡ s) × (q.number ≡ j)
    x = box.each s j one (box.shown_accepted s j shown) free

    p : packet.PacketValue
    p = x.1

    there : at_place (sent C s r) j ≡ Some (carried p)
    there =
        subst (λ z. at_place (sent C s r) z ≡ Some (carried p)) x.4
        (subst (λ z. at_place (sent C z r) p.number ≡ Some (carried p)) x.3 (box.real x.0 p x.2))

    more : (extra : List Message) × (sent (continue C r acts) s r ≡ sent C s r ++ extra)
    more = sent_continued C r acts s r

    -- it stands where the miss is made, at this probe
    stands : may.stands ≡ state_of v.machine
    stands =
        same_stop (subst (λ z. Inners z may.stands) (same_runs (start r) may.after at.after h may.reached (subst (λ z. Runs (start r) z at.after) whole at.reached))
        may.inner) at.inner (still may.stands misses None may.makes) (stopped v.machine (want.TryProbe selector) is (λ z. cc))

    its : other ≡ selector
    its =
        let q : want.TryProbe other ≡ want.TryProbe selector =
        sym probes ∙ ap (λ z. wants z) stands ∙ wanted v.machine (want.TryProbe selector) is (λ z. cc) in
        cc

    unnamed : Matches other s (carried p) → ⊥
    unnamed named =
        both_ways (matches selector p) (nothing x.0 p x.2)
        (matches_if_named selector p (subst (λ z. Matches selector z (carried p)) (sym x.3) (subst (λ z. Matches z s (carried p)) its named)))
