-- Why no execution misses what it was shown: what a search calls shown is what the rank's own acts
-- took or hit, of which the world says that no probe that misses names it.
use Rattle.std.proofs.Common.{◌≡◌, ℕ, suc, ◌+◌, ◌<◌, ◌≤◌, ◌⊎◌, inl, inr, ⊎_elim, Bool, true, false, ◌==◌, ◌&&◌, ◌||◌, nat_lt, List, [], ◌∷◌, ◌++◌}
use Rattle.std.proofs.Common.{Some, Option, sym, subst, ◌∙◌, arith}
use Rattle.std.proofs.lemmas.Bool.{eqb-true, ltb-true, and_parts, or_cases}
use Rattle.rank_machine.specs.States.{State}
use Rattle.rank_machine.specs.Acts.{Act, Message, sends, takes, hits, misses, prints, Matches}
use Rattle.crash_free.specs.Runs.{Passed, History, at_place, history, sent, sends_from, looked_up, add_if}
use Rattle.crash_free.specs.Sim.{start_of}
use Rattle.explore.specs.Shown.{shows_it, shows_to, was_shown, MissesShown}
use Rattle.bare_world.specs.World.{WorldValue, size}
use Rattle.bare_world.specs.Misses.{Shows, IsShown, NoneMissed}
use Rattle.run_events.specs.Missing.{MissesNothingShown}

-- ---- what was shown

-- an act that shows a message shows it
shows : (s i : ℕ) (a : Act) → shows_it s i a ≡ true → Shows s (suc i) a
shows s i (takes source place) e =
    let q = and_parts (source == s) (nat_lt i place) e in
    let l = ltb-true i place q.1 in
    (eqb-true source s q.0, omega (arith, l))
shows s i (hits source place) e =
    let q = and_parts (source == s) (nat_lt i place) e in
    let l = ltb-true i place q.1 in
    (eqb-true source s q.0, omega (arith, l))
shows s i (sends d c t items) e = absurd cc
shows s i misses e = absurd cc
shows s i (prints x) e = absurd cc

-- what was shown is shown still after one act more
shown_still : (h : History) (x : Act × Option Message) (s j : ℕ) → IsShown h s j → IsShown (h ++ x ∷ []) s j
shown_still [] x s j t = absurd t
shown_still (y ∷ h) x s j (inl t) = inl t
shown_still (y ∷ h) x s j (inr t) = inr (shown_still h x s j t)

-- and so is what that act shows
shown_last : (h : History) (x : Act × Option Message) (s j : ℕ) → Shows s j x.0 → IsShown (h ++ x ∷ []) s j
shown_last [] x s j t = inl t
shown_last (y ∷ h) x s j t = inr (shown_last h x s j t)

-- what a rank was shown in a run its history shows
shown_there : (P : List Passed) (r s i : ℕ) → was_shown P r s i ≡ true → IsShown (history P r) s (suc i)
shown_there [] r s i e = absurd cc
shown_there (p ∷ P) r s i e = at (or_cases (shows_to r s i p) (was_shown P r s i) e) (shown_there P r s i)
  where
    x : Act × Option Message
    x = (p.act, looked_up (λ q. sends_from 0 p.rank (history P q)) p.act)

    own : (b : Bool) → (b && shows_it s i p.act) ≡ true → IsShown (add_if b (history P r) x) s (suc i)
    own true f = shown_last (history P r) x s (suc i) (shows s i p.act f)
    own false f = absurd cc

    older : (b : Bool) → IsShown (history P r) s (suc i) → IsShown (add_if b (history P r) x) s (suc i)
    older true t = shown_still (history P r) x s (suc i) t
    older false t = t

    at : (shows_to r s i p ≡ true) ⊎ (was_shown P r s i ≡ true) → (was_shown P r s i ≡ true → IsShown (history P r) s (suc i))
        → IsShown (history (p ∷ P) r) s (suc i)
    at (inl f) before = own (p.rank == r) f
    at (inr f) before = older (p.rank == r) (before f)

-- ---- so none is missed

-- a run that misses nothing has no miss of what was shown
misses_no_shown : (start : ℕ → State) (C : List Passed) → NoneMissed start C → MissesShown start C → ⊥
misses_no_shown start [] none m = m
misses_no_shown start (p ∷ P) none (inr m) = misses_no_shown start P none.0 m
misses_no_shown start (p ∷ P) none (inl m) =
    let past = m.1.past in
    let k =
    none.1 m.0 m.1.may m.1.selector m.1.probes past.source (suc past.index) (omega arith) (shown_there P p.rank past.source past.index past.shown)
    past.eligible.untaken in
    let same : past.eligible.message ≡ k.0 = same_message (at_place (sent P past.source p.rank) (suc past.index)) past.eligible.message k.0
    past.eligible.there k.1 in
    k.2 (subst (λ z. Matches m.1.selector past.source z) same past.eligible.matching)
  where
    same_message : (o : Option Message) (x y : Message) → o ≡ Some x → o ≡ Some y → x ≡ y
    same_message o x y e f = (let q : Some x ≡ Some y = sym e ∙ f in cc)

-- so no execution misses what it was shown
pub world_misses_none : (w : WorldValue) → NoneMissed (start_of w.program (size w)) w.run → MissesNothingShown w
world_misses_none w none missed = misses_no_shown (start_of w.program (size w)) w.run none missed
