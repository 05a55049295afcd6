-- Misses of an execution: a probe never misses a message that its rank was shown. Messages of one
-- source don't overtake one another, so a rank that took or hit a message has accepted all before it
-- too, and they stay in its inbox until they are taken (MPI 1.1, sections 3.5 and 3.8). A
-- crash-free run may miss there, as of a miss it asks nothing.
use Rattle.std.specs.Prelude.{◌≡◌, ◌≤◌, ◌⊎◌, ℕ, false, List, [], ◌∷◌, Some}
use Rattle.matching.specs.declared.selector.Selector.{Selector}
use Rattle.rank_machine.specs.declared.want.Want.TheVariants as want
use Rattle.rank_machine.specs.States.{State}
use Rattle.rank_machine.specs.Wants.{wants}
use Rattle.rank_machine.specs.Acts.{Act, Message, sends, takes, hits, misses, prints, Matches}
use Rattle.crash_free.specs.Runs.{Passed, History, at_place, history, sent, taken, MayMake}

-- the act takes or hits the message at this place of this source, or a later one of it
abbrev pub Shows : ℕ → ℕ → Act → Type 0
Shows s j (takes source place) = (source ≡ s) × (j ≤ place)
Shows s j (hits source place) = (source ≡ s) × (j ≤ place)
Shows s j (sends dest context tag items) = ⊥
Shows s j misses = ⊥
Shows s j (prints value) = ⊥

-- a rank with this history was shown that message: one of its acts took or hit it, or a later one
-- of its source
abbrev pub IsShown : History → ℕ → ℕ → Type 0
IsShown [] s j = ⊥
IsShown (x ∷ h) s j = Shows s j x.0 ⊎ IsShown h s j

-- the selector names no message that the rank was shown and hasn't taken, each of which was sent
abbrev pub NamesNoneShown : Selector → (ℕ → List Message) → History → Type 0
NamesNoneShown selector inbound h =
    (s j : ℕ) → 1 ≤ j → IsShown h s j → taken h s j ≡ false
    → (m : Message) × (at_place (inbound s) j ≡ Some m) × (Matches selector s m → ⊥)

-- if this act of a rank, made after a run, is a miss, its probe names no message that the rank was
-- shown
abbrev pub MissesNoneShown : (ℕ → State) → List Passed → ℕ → Act → Type 0
MissesNoneShown start C r a =
    a ≡ misses → (may : MayMake (start r) (λ s. sent C s r) (history C r) misses) (selector : Selector) → wants may.stands ≡ want.TryProbe selector
    → NamesNoneShown selector (λ s. sent C s r) (history C r)

-- so it is of each act of a run
abbrev pub NoneMissed : (ℕ → State) → List Passed → Type 0
NoneMissed start [] = Unit {0}
NoneMissed start (p ∷ C) = NoneMissed start C × MissesNoneShown start C p.rank p.act
