-- The clocks of what a rank sent to another in a run.
--
-- They rise, so that the place of a clock is that of one message.
use Rattle.std.proofs.Common.{◌≡◌, ℕ, zero, suc, ◌+◌, ◌<◌, ◌≤◌, ◌==◌, Bool, true, false, List, [], ◌∷◌, length, map, refl, sym}
use Rattle.std.proofs.Common.{arith, get_or}
use Rattle.std.proofs.lemmas.Option.{slice_get-map}
use Rattle.rank_machine.specs.Acts.{Act, Message, sends, takes, hits, misses, prints}
use Rattle.crash_free.specs.Runs.{Passed, History, at_place, history, sent, sends_from, send_at, cons_if}
use Rattle.audit.specs.Trace.{AreInOrder}
use Rattle.bare_world.specs.RunIndex.{clocks, clock_at}

-- the clocks of a list of messages are above k, and each is above the ones before
Above : ℕ → List Message → Type 0
Above k [] = Unit {0}
Above k (m ∷ ms) = (k < m.clock) × Above m.clock ms

-- what is above k + 1 is above k
Above-down : (k : ℕ) (ms : List Message) → Above (k + 1) ms → Above k ms
unfolding Above
Above-down k [] a = tt
Above-down k (m ∷ ms) a = (let z : k + 1 < m.clock = a.0 in omega arith, a.1)

-- a send is above what came before, and below what comes after
Above-at : (k r : ℕ) (act : Act) (ms : List Message) → Above (k + 1) ms → Above k (send_at (k + 1) r act ms)
unfolding Above
Above-at k r (sends d context tag items) ms a = split (d == r)
  where
    split : (b : Bool) → Above k (cons_if b (record { clock = k + 1; context = context; tag = tag; items = items }) ms)
    split true = (omega arith, a)
    split false = Above-down k ms a
Above-at k r (takes s j) ms a = Above-down k ms a
Above-at k r (hits s j) ms a = Above-down k ms a
Above-at k r misses ms a = Above-down k ms a
Above-at k r (prints v) ms a = Above-down k ms a

-- all that a history sends after clock k is above k, and rises
sends-above : (k r : ℕ) (h : History) → Above k (sends_from k r h)
unfolding Above
sends-above k r [] = tt
sends-above k r (x ∷ h) = Above-at k r x.0 (sends_from (k + 1) r h) (sends-above (k + 1) r h)

-- each clock of a list that is above k is above k
above_each : (k : ℕ) (ms : List Message) (j : ℕ) → Above k ms → j < length (map (λ m. m.clock) ms) → k ≤ get_or (map (λ m. m.clock) ms) j 0
unfolding Above
above_each k [] j a l = absurd (omega arith)
above_each k (m ∷ ms) zero a l = let z : k < m.clock = a.0 in omega arith
above_each k (m ∷ ms) (suc j) a l =
    let more = above_each m.clock ms j a.1 (omega arith) in
    let z : k < m.clock = a.0 in omega (arith, more)

-- where each message is above the ones before, the clocks rise
above_rising : (k : ℕ) (ms : List Message) → Above k ms → AreInOrder (map (λ m. m.clock) ms)
unfolding Above
above_rising k [] a i j le l = absurd (omega arith)
above_rising k (m ∷ ms) a zero zero le l = omega arith
above_rising k (m ∷ ms) a zero (suc j) le l = above_each m.clock ms j a.1 (omega arith)
above_rising k (m ∷ ms) a (suc i) zero le l = absurd (omega arith)
above_rising k (m ∷ ms) a (suc i) (suc j) le l = above_rising m.clock ms a.1 i j (omega arith) (omega arith)

-- the clocks of what was sent rise
pub clocks-rise : (C : List Passed) (s d : ℕ) → AreInOrder (clocks C s d)
clocks-rise C s d = above_rising 0 (sent C s d) (sends-above 0 d (history C s))

-- the clock at a place is that of the message there
pub clock_at-place : (C : List Passed) (s d j : ℕ) → clock_at C s d j ≡ at_place (clocks C s d) j
clock_at-place C s d zero = refl
clock_at-place C s d (suc k) = sym (slice_get-map (λ m. m.clock) (sent C s d) k)
