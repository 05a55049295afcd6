-- A rank that rests does so until it acts itself or something is sent to it: what others do leaves its
-- machine, its history and what was sent to it.
use Rattle.std.proofs.Common.{◌≡◌, ◌≢◌, ℕ, suc, Bool, true, false, List, [], ◌∷◌, ◌++◌, Some, length, reverse, slice_get, ◌⊎◌, inl, inr, refl, sym, ap, subst, ◌∙◌}
use Rattle.std.specs.Prelude.{IsSomeAnd}
use Rattle.std.proofs.lemmas.Bool.{cases_eq}
use Rattle.std.proofs.lemmas.List.{length-set, length-reverse, reverse-reverse}
use Rattle.rank_machine.specs.Acts.{Act, Message}
use Rattle.rank_machine.specs.Machine.{MachineValue}
use Rattle.rank_machine.specs.States.{State}
use Rattle.rank_machine.specs.Wants.{wants}
use Rattle.crash_free.specs.declared.choice.Choice.{Choice}
use Rattle.crash_free.specs.Inside.{GoesInside}
use Rattle.crash_free.specs.Runs.{Passed, history, sent, MayMake}
use Rattle.crash_free.specs.Sim.{SimValue, Simulates, start_of, Allows, Does, Meaning, ended, other, own_step, makes, meant, with_machine, with_act}
use Rattle.crash_free.specs.Wanted.{StandsAtAct, Wants}
use Rattle.crash_free.proofs.Choosing.{run_push}
use Rattle.crash_free.proofs.Keeping.{set_apart}
use Rattle.crash_free.proofs.Lists.{history-other}
use Rattle.audit.proofs.Reaching.{some_there}
use Rattle.explore.specs.Counts.{StopsAtAct}
use Rattle.explore.specs.Exploring.{IsFixed, HasOneAnswer}
use Rattle.explore.specs.LastState.{sends_to}
use Rattle.explore.specs.Making.{HasEndedAt}
use Rattle.explore.specs.Resting.{AreResting, Rests, WakesReceiver}
use Rattle.explore.specs.declared.send_mode.SendMode.{SendMode}
use Rattle.explore.specs.declared.send_mode.SendMode.TheVariants.{Buffered}
use Rattle.explore.proofs.ActLeaves.{sent_to_other}
use Rattle.explore.proofs.AfterTheEnd.{ended_still, ended_none}
use Rattle.explore.proofs.Making.{none_fixed}
use Rattle.explore.proofs.Sending.{buffered, none_under}

-- an act that is fixed is so by another run in which its rank has the same history and was sent the same
fixed_same : (start : ℕ → State) (n : ℕ) (C C' : List Passed) (r : ℕ) (act : Act) → history C' r ≡ history C r → ((q : ℕ) → sent C' q r ≡ sent C q r)
    → IsFixed Buffered start n C' r act → IsFixed Buffered start n C r act
fixed_same start n C C' r act histories sends fix =
    let inbound : (λ (q : ℕ). sent C' q r) ≡ (λ (q : ℕ). sent C q r) = λ i q. sends q i in
    let both = subst (λ h. (m : MayMake (start r) (λ q. sent C q r) h act) × HasOneAnswer (wants m.stands)) histories
    (subst (λ (f : ℕ → List Message). (m : MayMake (start r) f (history C' r) act) × HasOneAnswer (wants m.stands)) inbound (fix.may, fix.one)) in
    record { low = fix.low; may = both.0; one = both.1; released = buffered n C r }

-- so a rank rests where its machine, its history and what was sent to it are the same
rests_same : (s s' : SimValue) (r : ℕ) → s'.program ≡ s.program → length s'.machines ≡ length s.machines
    → slice_get s'.machines r ≡ slice_get s.machines r → history s'.run r ≡ history s.run r → ((q : ℕ) → sent s'.run q r ≡ sent s.run q r) → Rests s r
    → Rests s' r
rests_same s s' r program ranks machine histories sends rests =
    record {
      at = (rests.at.0, subst (λ o. IsSomeAnd o (λ m. Wants m rests.at.0)) (sym machine) rests.at.1, rests.at.2);
      none =
          λ act fix.
          rests.none act
          (fixed_same (start_of s.program (length s.machines)) (length s.machines) s.run s'.run r act histories sends
          (subst (λ n. IsFixed Buffered (start_of s.program n) n s'.run r act) ranks
          (subst (λ p. IsFixed Buffered (start_of p (length s'.machines)) (length s'.machines) s'.run r act) program fix)));
    }

-- steps of another rank's own leave a rank that rests
rests_inside : (s s' : SimValue) (r q k : ℕ) → GoesInside s q k s' → r ≢ q → Rests s r → Rests s' r
rests_inside s s' r q k goes apart =
    rests_same s s' r goes.program goes.ranks (goes.others r apart) (ap (λ C. history C r) goes.run) (λ c. ap (λ C. sent C c r) goes.run)

-- the newest act of a run sends a rank nothing
abbrev pub SentNothing : List Passed → ℕ → Type 0
SentNothing C r = (p : Passed) (D : List Passed) → C ≡ p ∷ D → sends_to p.act r ≡ false

-- so does what another rank chose
rests_beside : (s s' : SimValue) (q r : ℕ) (c : Choice) → Allows s q c s' → r ≢ q → SentNothing s'.run r → Rests s r → Rests s' r
rests_beside s s' q r c allows apart nothing rests =
    let m = some_there (slice_get s.machines q) (λ m. IsSomeAnd (slice_get s'.machines q) (λ m'. Does (meant m c) s q m m' s')) allows in
    let m' = some_there (slice_get s'.machines q) (λ m'. Does (meant m.0 c) s q m.0 m' s') m.2 in
    by (meant m.0 c) m.0 m'.0 m'.2
  where
    by : (k : Meaning) (m m' : MachineValue) → Does k s q m m' s' → Rests s' r
    by ended m m' does = absurd does
    by other m m' does = absurd does
    by own_step m m' does =
        subst (λ z. Rests z r) (sym does.1)
        (rests_same s (with_machine s q m') r refl (length-set s.machines q m') (set_apart s.machines q m' r apart) refl (λ x. refl) rests)
    by (makes act) m m' does =
        let p : Passed = record { rank = q; act = act } in
        let quiet = nothing p s.run (ap (λ (z : SimValue). z.run) does.2) in
        subst (λ z. Rests z r) (sym does.2)
        (rests_same s (with_act s q m' act) r refl (length-set s.machines q m') (set_apart s.machines q m' r apart)
        (history-other s.run p r (λ e. apart (sym e))) (λ x. sent_to_other s.run p x r quiet) rests)

-- what is put at the end of a list stands there
at_end : (xs : List Passed) (p : Passed) → slice_get (xs ++ p ∷ []) (length xs) ≡ Some p
at_end [] p = refl
at_end (x ∷ xs) p = at_end xs p

-- so the newest act is the last that is shown
last_shown : (p : Passed) (D : List Passed) → slice_get (reverse (p ∷ D)) (length D) ≡ Some p
last_shown p D =
    let shape : reverse (p ∷ D) ≡ reverse D ++ p ∷ [] =
    sym (ap reverse (run_push (reverse D) p ∙ ap (λ z. p ∷ z) (reverse-reverse D))) ∙ reverse-reverse (reverse D ++ p ∷ []) in
    subst (λ k. slice_get (reverse (p ∷ D)) k ≡ Some p) (length-reverse D)
    (subst (λ xs. slice_get xs (length (reverse D)) ≡ Some p) (sym shape) (at_end (reverse D) p))

-- the marks are right behind it, if those of the rank and of whom it sent something are taken away
pub resting_beside : (s s' : SimValue) (q : ℕ) (c : Choice) (acts : List Passed) (old mid new : List Bool) → Allows s q c s' → acts ≡ reverse s'.run
    → (slice_get mid q ≢ Some true) → ((r : ℕ) → r ≢ q → slice_get mid r ≡ slice_get old r) → WakesReceiver acts mid new → AreResting s old
    → AreResting s' new
resting_beside s s' q c acts old mid new allows same own others wakes resting r marked =
    let before = wakes.before r marked in
    let apart : r ≢ q = λ e. own (subst (λ k. slice_get mid k ≡ Some true) e before) in
    rests_beside s s' q r c allows apart nothing (resting r (sym (others r apart) ∙ before))
  where
    nothing : SentNothing s'.run r
    nothing p D e =
        let shown : acts ≡ reverse (p ∷ D) = same ∙ ap reverse e in
        let size : length acts ≡ suc (length D) = ap length shown ∙ length-reverse (p ∷ D) in
        wakes.nothing r marked (length D) p (sym size) (subst (λ xs. slice_get xs (length D) ≡ Some p) (sym shown) (last_shown p D))

-- and behind steps of its own
pub resting_inside : (s s' : SimValue) (q k : ℕ) (old new : List Bool) → GoesInside s q k s' → (slice_get new q ≢ Some true)
    → ((r : ℕ) → r ≢ q → slice_get new r ≡ slice_get old r) → AreResting s old → AreResting s' new
resting_inside s s' q k old new goes own others resting r marked =
    let apart : r ≢ q = λ e. own (subst (λ j. slice_get new j ≡ Some true) e marked) in
    rests_inside s s' r q k goes apart (resting r (sym (others r apart) ∙ marked))

-- so they are with one more, of a rank that rests
pub resting_more : (s : SimValue) (q : ℕ) (old new : List Bool) → Rests s q → ((r : ℕ) → r ≢ q → slice_get new r ≡ slice_get old r) → AreResting s old
    → AreResting s new
resting_more s q old new rests others resting r marked = go (cases_eq r q)
  where
    go : (r ≡ q) ⊎ (r ≡ q → ⊥) → Rests s r
    go (inl e) = subst (λ k. Rests s k) (sym e) rests
    go (inr apart) = resting r (sym (others r apart) ∙ marked)

-- a rank that rests has stopped, whatever the mode
pub rests_stops : (mode : SendMode) (s : SimValue) (r : ℕ) → Rests s r → StopsAtAct mode s r
rests_stops mode s r rests free = (rests.at, none_under mode s r rests.none)

-- one that has ended rests
pub ended_rests : (s : SimValue) (r : ℕ) → Simulates s → HasEndedAt s.machines r → Rests s r
ended_rests s r stands gone =
    let at : StandsAtAct s.machines r = (gone.0, gone.1, ended_still gone.0 gone.2) in
    record { at = at; none = none_fixed s r gone.0 stands gone.1 (ended_none gone.0 gone.2) at }
