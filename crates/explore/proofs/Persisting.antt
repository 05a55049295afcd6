-- The choices of a rank are persistent where of each source the same stays eligible for it: of the
-- rank itself, as it makes no act; of one that has a message there, as others come behind it; of
-- one that has sent all of the context and the tag; and of one that isn't named, or isn't there,
-- none is.
use Rattle.std.proofs.Common.{◌≡◌, ◌≢◌, ℕ, suc, ◌+◌, ◌<◌, ◌≤◌, List, [], Some, length}
use Rattle.std.proofs.Common.{slice_get, ◌⊎◌, inl, inr, refl, sym, ap, subst, ◌∙◌, arith}
use Rattle.std.specs.Prelude.{Bool, true, false, IsSomeAnd}
use Rattle.std.proofs.lemmas.Bool.{cases_eq, cases_lt}
use Rattle.std.proofs.lemmas.List.{append-nil}
use Rattle.std.proofs.lemmas.Option.{slice_get_within}
use Rattle.matching.specs.declared.selector.Selector.{Selector}
use Rattle.rank_machine.specs.declared.want.Want.{Want}
use Rattle.rank_machine.specs.declared.want.Want.TheVariants as want
use Rattle.rank_machine.specs.States.{State, Inners}
use Rattle.rank_machine.specs.Wants.{wants}
use Rattle.rank_machine.specs.Acts.{Act, Message, sends, takes, hits, misses, prints, Makes}
use Rattle.rank_machine.specs.Machine.{MachineValue, state_of}
use Rattle.rank_machine.proofs.Determined.{still, same_stop, same_runs}
use Rattle.crash_free.specs.Grows.{Grows, Extends}
use Rattle.crash_free.specs.Runs.{Passed, History, at_place, history, sent, sends_from, looked_up, taken, receives, probes, IsEligible, IsFree, MayMake}
use Rattle.crash_free.specs.Runs.{IsRun}
use Rattle.crash_free.specs.Sim.{SimValue, Simulates, start_of, inbound_of}
use Rattle.crash_free.specs.Wanted.{Wants, WantsAt}
use Rattle.crash_free.proofs.Lists.{at_place-append}
use Rattle.crash_free.proofs.Going.{IsEligible-longer, free_silent, Extends-by_other}
use Rattle.audit.proofs.FinalRunsLaws.Simulating.{wanted, sender_there}
use Rattle.explore.specs.Exploring.{and_then}
use Rattle.explore.specs.Counting.{HasMade, begins, inside, acts}
use Rattle.explore.specs.Counts.{Counts}
use Rattle.explore.specs.Persistent.{GoesOnWithout, there, further, IsPersistent}
use Rattle.explore.specs.Settled.{AreOfProgram, OthersGoOn, HasSentAll, IsSettled}
use Rattle.explore.proofs.Fixed.{one_eligible}
use Rattle.explore.proofs.Same.{grows_on}
use Rattle.audit.proofs.Offering.{no_inner}
use Rattle.audit.proofs.Reaching.{some_there}
use Rattle.explore.specs.declared.send_mode.SendMode.TheVariants.{Buffered}
use Rattle.explore.proofs.Sending.{buffered}

-- How other ranks go on

-- to a run
run_on : (start : ℕ → State) (n r : ℕ) {P C : List Passed} → GoesOnWithout Buffered start n r P C → IsRun start n P → IsRun start n C
run_on start n r there run = run
run_on start n r (further q act apart may more) run = run_on start n r more (run, may.0, may.1)

-- that extends the one before, as this rank makes no act
extends_on : (start : ℕ → State) (n r : ℕ) {P C : List Passed} → GoesOnWithout Buffered start n r P C → Extends r P C
extends_on start n r {P = P} there = record { same = refl; grows = λ s. ([], sym (append-nil (sent P s r))) }
extends_on start n r {P = P} {C = C} (further q act apart may more) =
    let one = Extends-by_other r P (record { rank = q; act = act }) apart in
    let rest = extends_on start n r more in
    record {
      same = rest.same ∙ one.same;
      grows = λ s. grows_on (sent P s r) (sent (and_then P q act) s r) (sent C s r) (one.grows s) (rest.grows s);
    }

-- What is eligible

-- the same of a source that sent the same
eligible_by : (inbound inbound' : ℕ → List Message) (h h' : History) (q j : ℕ) (w : Selector) → inbound' q ≡ inbound q → h' ≡ h
    → IsEligible inbound' h' q j w → IsEligible inbound h q j w
eligible_by inbound inbound' h h' q j w same own e =
    record {
      message = e.message;
      there = subst (λ xs. at_place xs j ≡ Some e.message) same e.there;
      untaken = subst (λ k. taken k q j ≡ false) own e.untaken;
      matching = e.matching;
      not_overtaking = λ i m low f k. subst (λ z. taken z q i ≡ true) own
          (e.not_overtaking i m low (subst (λ xs. at_place xs i ≡ Some m) (sym same) f) k);
    }

module _ (s : SimValue) (r : ℕ) where
  goes : (C : List Passed) → OthersGoOn s r C → Extends r s.run C
  goes C way = extends_on (start_of s.program (length s.machines)) (length s.machines) r way

  module _ (w : Selector) where
    -- of the rank itself
    own_settled : IsSettled s r w r
    own_settled C place way e =
        let same = (goes C way).same in
        eligible_by (inbound_of s.run r) (inbound_of C r) (history s.run r) (history C r) r place w (ap (λ h. sends_from 0 r h) same) same e

    pub itself_settled : (q : ℕ) → q ≡ r → IsSettled s r w q
    itself_settled q same = subst (λ z. IsSettled s r w z) (sym same) own_settled

    -- of a rank that has sent this one all messages of the context and the tag, if the answer says so
    pub sent_settled : (q : ℕ) (answer : Bool) → (answer ≡ true → HasSentAll s r w.context w.tag q) → answer ≡ true → IsSettled s r w q
    sent_settled q answer all said_so C place way e =
        let x = goes C way in
        let more = x.grows q in
        record {
          message = e.message;
          there = all said_so C place e.message way (e.matching.0, e.matching.2) e.there;
          untaken = subst (λ k. taken k q place ≡ false) x.same e.untaken;
          matching = e.matching;
          not_overtaking = λ i m low f k. subst (λ h. taken h q i ≡ true) x.same
              (e.not_overtaking i m low
              (subst (λ xs. at_place xs i ≡ Some m) (sym more.1) (at_place-append (inbound_of s.run r q) more.0 i m f)) k);
        }

    -- of one that has a message there
    pub first_settled : (q i : ℕ) → IsEligible (inbound_of s.run r) (history s.run r) q (suc i) w → IsSettled s r w q
    first_settled q i first C place way e =
        let x = goes C way in
        let then : IsEligible (inbound_of C r) (history s.run r) q place w = subst (λ h. IsEligible (inbound_of C r) h q place w) x.same e in
        let still_first = IsEligible-longer (inbound_of s.run r) (inbound_of C r) (history s.run r) q (suc i) w (x.grows q) first in
        subst (λ k. IsEligible (inbound_of s.run r) (history s.run r) q k w)
        (one_eligible (inbound_of C r) (history s.run r) q (suc i) place w still_first then) first

    -- of one source more, if the answer says so
    pub settled_further : (k : ℕ) (answer : Bool) → ((q : ℕ) → q < k → IsSettled s r w q) → (answer ≡ true → IsSettled s r w k) → answer ≡ true
        → (q : ℕ) → q < k + 1 → IsSettled s r w q
    settled_further k answer before this said_so q low = go (cases_eq q k)
      where
        go : (q ≡ k) ⊎ (q ≡ k → ⊥) → IsSettled s r w q
        go (inl same) = subst (λ z. IsSettled s r w z) (sym same) (this said_so)
        go (inr apart) = before q (omega (arith, low, apart))

    -- of all, where it is so of each rank that there is
    pub all_settled : (k : ℕ) → Simulates s → length s.machines ≤ k → ((q : ℕ) → q < k → IsSettled s r w q) → (q : ℕ) → IsSettled s r w q
    all_settled k now many each q = go (cases_lt q k)
      where
        go : (q < k) ⊎ (k ≤ q) → IsSettled s r w q
        go (inl low) = each q low
        go (inr high) = λ C place way e. (
            let low =
            sender_there (start_of s.program (length s.machines)) (length s.machines) C
            (run_on (start_of s.program (length s.machines)) (length s.machines) r way now.is_run) q r place e.message e.there in
            absurd (omega (arith, low, high, many)))

-- Acts

-- an act that is free then is free now, and finds the same message
freed : (w : Want) (act : Act) (inbound inbound' : ℕ → List Message) (h : History) → ((q : ℕ) → Grows (inbound q) (inbound' q))
    → ((x : Selector) → (receives w ≡ Some x) ⊎ (probes w ≡ Some x) → (q j : ℕ) → IsEligible inbound' h q j x → IsEligible inbound h q j x)
    → IsFree w act inbound' h → IsFree w act inbound h × (looked_up inbound' act ≡ looked_up inbound act)
freed w (takes q j) inbound inbound' h g settled f =
    let o = some_there (receives w) (λ x. IsEligible inbound' h q j x) f in
    let e = settled o.0 (inl o.1) q j o.2 in (
      subst (λ z. IsSomeAnd z (λ x. IsEligible inbound h q j x)) (sym o.1) e,
      subst (λ xs. at_place xs j ≡ Some e.message) (sym (g q).1) (at_place-append (inbound q) (g q).0 j e.message e.there) ∙ sym e.there,
    )
freed w (hits q j) inbound inbound' h g settled f =
    let o = some_there (probes w) (λ x. IsEligible inbound' h q j x) f in
    let e = settled o.0 (inr o.1) q j o.2 in (
      subst (λ z. IsSomeAnd z (λ x. IsEligible inbound h q j x)) (sym o.1) e,
      subst (λ xs. at_place xs j ≡ Some e.message) (sym (g q).1) (at_place-append (inbound q) (g q).0 j e.message e.there) ∙ sym e.there,
    )
freed w (sends dest context tag items) inbound inbound' h g settled f = (free_silent w (sends dest context tag items) inbound h tt, refl)
freed w misses inbound inbound' h g settled f = (free_silent w misses inbound h tt, refl)
freed w (prints value) inbound inbound' h g settled f = (free_silent w (prints value) inbound h tt, refl)

-- the selector for which a rank that wants this takes or hits a message
abbrev pub Selects : Want → Selector → Type 0
Selects w x = (receives w ≡ Some x) ⊎ (probes w ≡ Some x)

-- so where all sources are settled, each act that the rank may make then it may make now
persists : (s : SimValue) (r : ℕ) (w : Want) → Simulates s → WantsAt s.machines r w → w ≢ want.Internal
    → ((x : Selector) → Selects w x → (q : ℕ) → IsSettled s r x q)
    → IsPersistent Buffered (start_of s.program (length s.machines)) (length s.machines) s.run r
persists s r w now asked apart settled C act way may = (
  may.0,
  record {
    after = k.after;
    stands = k.stands;
    reached = k.reached;
    inner = k.inner;
    makes = subst (λ o. Makes k.stands act o) free.1 k.makes;
    free = subst (λ v. IsFree v act (inbound_of s.run r) (history s.run r)) (sym wants_this) free.0;
  },
  buffered (length s.machines) s.run r,
)
  where
    x : Extends r s.run C
    x = goes s r C way

    k : MayMake (start_of s.program (length s.machines) r) (inbound_of C r) (history s.run r) act
    k = subst (λ h. MayMake (start_of s.program (length s.machines) r) (inbound_of C r) h act) x.same may.1

    m : (m : MachineValue) × (slice_get s.machines r ≡ Some m) × Wants m w
    m = some_there (slice_get s.machines r) (λ y. Wants y w) asked

    here : wants (state_of m.0) ≡ w
    here = wanted s r m.0 w now m.1 m.2 apart

    stands_there : k.stands ≡ state_of m.0
    stands_there =
        let at = now.ranks r m.0 m.1 in
        let after : k.after ≡ at.0 =
        same_runs (start_of s.program (length s.machines) r) k.after at.0 (history s.run r) k.reached at.1 in
        same_stop (subst (λ a. Inners a k.stands) after k.inner) at.2 (still k.stands act (looked_up (inbound_of C r) act) k.makes)
        (no_inner (state_of m.0) (λ q. apart (sym here ∙ q)))

    wants_this : wants k.stands ≡ w
    wants_this = ap wants stands_there ∙ here

    free : IsFree w act (inbound_of s.run r) (history s.run r) × (looked_up (inbound_of C r) act ≡ looked_up (inbound_of s.run r) act)
    free =
        freed w act (inbound_of s.run r) (inbound_of C r) (history s.run r) x.grows
        (λ y selects q j e. settled y selects q C j way (subst (λ h. IsEligible (inbound_of C r) h q j y) (sym x.same) e))
        (subst (λ v. IsFree v act (inbound_of C r) (history s.run r)) wants_this k.free)

module _ (s : SimValue) (r : ℕ) (now : Simulates s) where
  module _ (w : Selector) (answer : Bool) (all : answer ≡ true → (q : ℕ) → IsSettled s r w q) (said_so : answer ≡ true) where
    by_selector : (x : Selector) → x ≡ w → (q : ℕ) → IsSettled s r x q
    by_selector x same q = subst (λ y. IsSettled s r y q) (sym same) (all said_so q)

    -- so of a receive
    pub persists_receive : WantsAt s.machines r (want.Receive w) → IsPersistent Buffered (start_of s.program (length s.machines)) (length s.machines) s.run r
    persists_receive asked = persists s r (want.Receive w) now asked (λ e. cc) go
      where
        go : (x : Selector) → Selects (want.Receive w) x → (q : ℕ) → IsSettled s r x q
        go x (inl e) = by_selector x (cc)
        go x (inr e) = absurd cc

    -- of a probe that waits
    pub persists_probe : WantsAt s.machines r (want.Probe w) → IsPersistent Buffered (start_of s.program (length s.machines)) (length s.machines) s.run r
    persists_probe asked = persists s r (want.Probe w) now asked (λ e. cc) go
      where
        go : (x : Selector) → Selects (want.Probe w) x → (q : ℕ) → IsSettled s r x q
        go x (inl e) = absurd cc
        go x (inr e) = by_selector x (cc)

    -- and of one that doesn't, which may miss whatever was sent
    pub persists_try : WantsAt s.machines r (want.TryProbe w) → IsPersistent Buffered (start_of s.program (length s.machines)) (length s.machines) s.run r
    persists_try asked = persists s r (want.TryProbe w) now asked (λ e. cc) go
      where
        go : (x : Selector) → Selects (want.TryProbe w) x → (q : ℕ) → IsSettled s r x q
        go x (inl e) = absurd cc
        go x (inr e) = by_selector x (cc)

  -- what is no step of the rank's own and asks for no message
  abbrev pub AsksForNone : Want → Type 0
  AsksForNone (want.Send dest context tag) = Unit {0}
  AsksForNone (want.Print value) = Unit {0}
  AsksForNone want.Halted = Unit {0}
  AsksForNone (want.Faulted fault) = Unit {0}
  AsksForNone (want.Receive selector) = ⊥
  AsksForNone (want.Probe selector) = ⊥
  AsksForNone (want.TryProbe selector) = ⊥
  AsksForNone want.Internal = ⊥

  selects_none : (w : Want) (x : Selector) → AsksForNone w → Selects w x → ⊥
  selects_none (want.Send d c t) x none (inl e) = absurd cc
  selects_none (want.Send d c t) x none (inr e) = absurd cc
  selects_none (want.Print v) x none (inl e) = absurd cc
  selects_none (want.Print v) x none (inr e) = absurd cc
  selects_none want.Halted x none (inl e) = absurd cc
  selects_none want.Halted x none (inr e) = absurd cc
  selects_none (want.Faulted k) x none (inl e) = absurd cc
  selects_none (want.Faulted k) x none (inr e) = absurd cc
  selects_none (want.Receive w) x none selects = none
  selects_none (want.Probe w) x none selects = none
  selects_none (want.TryProbe w) x none selects = none
  selects_none want.Internal x none selects = none

  -- of a rank that asks for no message
  pub persists_unasked : (w : Want) → WantsAt s.machines r w → AsksForNone w
      → IsPersistent Buffered (start_of s.program (length s.machines)) (length s.machines) s.run r
  persists_unasked w asked none =
      persists s r w now asked (λ e. (let z : AsksForNone want.Internal = subst AsksForNone e none in z))
      (λ x selects. absurd (selects_none w x none selects))

-- Programs

-- the machine that a rank comes to is one of the program at which it began
made_program : {program : _} {n r : ℕ} {h : History} {k : ℕ} {m : MachineValue} → HasMade program n r h k m → m.program ≡ program
made_program (begins b) = b.program_same
made_program (inside made asks on) = on.program ∙ made_program made
made_program (acts act message made fits after) = after.stays.program ∙ made_program made

-- where the steps of each rank are counted, each machine is one of the program
pub counted_programs : (s : SimValue) (steps : ℕ) (left : List ℕ) → Counts steps s left → AreOfProgram s
counted_programs s steps left counts r m is =
    let low = slice_get_within s.machines r m is in
    let c = counts r low in
    let made : HasMade s.program (length s.machines) r (history s.run r) c.0 m =
    subst (λ o. IsSomeAnd o (λ x. HasMade s.program (length s.machines) r (history s.run r) c.0 x)) is c.1 in
    made_program made
