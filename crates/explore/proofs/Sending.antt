-- A rank that no send holds stays so while the others go on, and whether one does depends on what is left to receive. So what is proved of runs in
-- which no send waits goes over to those by a mode.
use Rattle.std.proofs.Common.{◌≡◌, ℕ, zero, suc, ◌+◌, ◌<◌, ◌||◌, Bool, true, false, List, [], ◌∷◌, ◌++◌, Some, None, length, slice_get, ◌⊎◌, inl, inr, refl, sym, ap, subst, ◌∙◌, arith}
use Rattle.std.proofs.lemmas.Bool.{cases_eq}
use Rattle.matching.specs.PacketValue as packet
use Rattle.matching.specs.declared.packet.Context.TheVariants.{PointToPoint}
use Rattle.matching.specs.declared.selector.Selector.{Selector}
use Rattle.rank_machine.specs.States.{State}
use Rattle.rank_machine.specs.Wants.{wants}
use Rattle.rank_machine.specs.Acts.{Act, Message, Matches}
use Rattle.crash_free.specs.Alike.{StandAlike, IsPartner, packets_in, unreceived}
use Rattle.crash_free.specs.Parts.{IsPartOf}
use Rattle.crash_free.specs.Runs.{Passed, History, history, sent, sends_from, at_place, taken, takes_it, IsEligible, MayMake, IsRun}
use Rattle.crash_free.specs.Sim.{SimValue, inbound_of, start_of}
use Rattle.crash_free.specs.Slots.{packet_of, slot_of, slots_from}
use Rattle.crash_free.proofs.Alike.{each_follows_too}
use Rattle.audit.specs.FinalRuns.Maximal.{MayFollow}
use Rattle.explore.specs.AndThen.{and_then}
use Rattle.explore.specs.Counts.{NoneIsFixed}
use Rattle.explore.specs.Exploring.{IsFixed}
use Rattle.explore.specs.Outcomes.{IsAmong}
use Rattle.explore.specs.Persistent.{GoesOnWithout, there, further, IsPersistent}
use Rattle.explore.specs.Sending.{AreReceivedBy, IsReleased, IsReleasedAt, MayFollowUnder, IsRunUnder, HasRunUnder}
use Rattle.explore.specs.declared.send_mode.SendMode.{SendMode}
use Rattle.explore.specs.declared.send_mode.SendMode.TheVariants.{Buffered}

-- Runs by a mode are runs

-- no send holds a rank where they are buffered
pub buffered : (n : ℕ) (C : List Passed) (r : ℕ) → IsReleased Buffered n C r
buffered n C r = record { received = λ e. absurd cc }

-- what may follow does so by the buffered mode
pub buffered_act : (start : ℕ → State) (n : ℕ) (P : List Passed) (r : ℕ) (act : Act) → MayFollow start n P r act
    → MayFollowUnder Buffered start n P r act
buffered_act start n P r act may = (may.0, may.1, buffered n P r)

-- a run by a mode is a run
pub plain_run : (mode : SendMode) → (start : ℕ → State) (n : ℕ) (C : List Passed) → IsRunUnder mode start n C → IsRun start n C
plain_run mode start n [] run = tt
plain_run mode start n (p ∷ C) run = (plain_run mode start n C run.0, run.1, run.2)

-- each run is one by the buffered mode
pub buffered_run : (start : ℕ → State) (n : ℕ) (C : List Passed) → IsRun start n C → IsRunUnder Buffered start n C
buffered_run start n [] run = tt
buffered_run start n (p ∷ C) run = (buffered_run start n C run.0, run.1, run.2, buffered n C p.rank)

-- so is each beginning of one
pub run_before : (mode : SendMode) → (start : ℕ → State) (n : ℕ) (later C : List Passed) → IsRunUnder mode start n (later ++ C) → IsRunUnder mode start n C
run_before mode start n [] C run = run
run_before mode start n (p ∷ later) C run = run_before mode start n later C run.0

-- a run by the mode is one of a simulation of the same program that has it
pub run_by : (mode : SendMode) → (s s' : SimValue) (C : List Passed) → s'.program ≡ s.program → length s'.machines ≡ length s.machines → s'.run ≡ C
    → IsRunUnder mode (start_of s.program (length s.machines)) (length s.machines) C → HasRunUnder mode s'
run_by mode s s' C program ranks run it =
    subst (λ D. IsRunUnder mode (start_of s'.program (length s'.machines)) (length s'.machines) D) (sym run)
    (subst (λ n. IsRunUnder mode (start_of s'.program n) n C) (sym ranks)
    (subst (λ p. IsRunUnder mode (start_of p (length s.machines)) (length s.machines) C) (sym program) it))

-- where the run is the same the same ranks are held
pub released_by : (mode : SendMode) → (s s' : SimValue) (r : ℕ) → length s'.machines ≡ length s.machines → s'.run ≡ s.run → IsReleasedAt mode s r
    → IsReleasedAt mode s' r
released_by mode s s' r ranks run free =
    subst (λ C. IsReleased mode (length s'.machines) C r) (sym run) (subst (λ n. IsReleased mode n s.run r) (sym ranks) free)

-- While others go on

-- what is taken stays taken
taken_still : (h later : History) (s j : ℕ) → taken h s j ≡ true → taken (h ++ later) s j ≡ true
taken_still [] later s j e = absurd cc
taken_still (x ∷ h) later s j e = go (λ e'. taken_still h later s j e') (takes_it s j x.0) e
  where
    go : (taken h s j ≡ true → taken (h ++ later) s j ≡ true) → (b : Bool) → (b || taken h s j) ≡ true → (b || taken (h ++ later) s j) ≡ true
    go rest true e' = refl
    go rest false e' = rest e'

-- no send holds the rank in a run where it made no more
pub released_still : (mode : SendMode) → (n : ℕ) (P C : List Passed) (r : ℕ) → IsPartOf P C → history C r ≡ history P r → IsReleased mode n P r
    → IsReleased mode n C r
released_still mode n P C r part same released =
    record {
      received = λ e q low place m at context.
          (let before : at_place (sent P r q) place ≡ Some m = ap (λ h. at_place (sends_from 0 q h) place) (sym same) ∙ at in
          subst (λ h. taken h r place ≡ true) (sym (part q).1)
          (taken_still (history P q) (part q).0 r place (released.received e q low place m before context)));
    }

-- What is left to receive

-- a message that isn't taken is left
left_there : (k s : ℕ) (h : History) (ms : List Message) (i : ℕ) (m : Message) → slice_get ms i ≡ Some m → taken h s (k + i + 1) ≡ false
    → IsAmong (packets_in (slots_from k s h ms)) (packet_of s m)
left_there k s h [] i m e free = absurd cc
left_there k s h (x ∷ ms) zero m e free =
    let same : x ≡ m = cc in
    let z : k + 0 + 1 ≡ k + 1 = omega arith in
    let none : taken h s (k + 1) ≡ false = subst (λ j. taken h s j ≡ false) z free in
    subst (λ b. IsAmong (packets_in (slot_of s b x ∷ slots_from (k + 1) s h ms)) (packet_of s m)) (sym none)
    (subst (λ y. IsAmong (packets_in (slot_of s false x ∷ slots_from (k + 1) s h ms)) (packet_of s y)) same (0, refl))
left_there k s h (x ∷ ms) (suc i) m e free =
    go (taken h s (k + 1)) (left_there (k + 1) s h ms i m e (subst (λ j. taken h s j ≡ false) z free))
  where
    z : k + suc i + 1 ≡ k + 1 + i + 1
    z = omega arith

    go : (b : Bool) → IsAmong (packets_in (slots_from (k + 1) s h ms)) (packet_of s m)
        → IsAmong (packets_in (slot_of s b x ∷ slots_from (k + 1) s h ms)) (packet_of s m)
    go true a = a
    go false a = (suc a.0, a.1)

-- A message of which this is the packet, at a place behind the first k, and it isn't taken.
record IsLeft (k s : ℕ) (h : History) (ms : List Message) (p : packet.PacketValue) : Type 0 where
  index : ℕ
  message : Message
  there : slice_get ms index ≡ Some message
  free : taken h s (k + index + 1) ≡ false
  is : p ≡ packet_of s message

-- what is left is such a message
left_back : (k s : ℕ) (h : History) (ms : List Message) (p : packet.PacketValue) → IsAmong (packets_in (slots_from k s h ms)) p → IsLeft k s h ms p
left_back k s h [] p a = absurd (let e = a.1 in cc)
left_back k s h (x ∷ ms) p a = go (λ a'. left_back (k + 1) s h ms p a') (taken h s (k + 1)) refl a
  where
    Rest : Type 0
    Rest = IsAmong (packets_in (slots_from (k + 1) s h ms)) p → IsLeft (k + 1) s h ms p

    later : IsLeft (k + 1) s h ms p → IsLeft k s h (x ∷ ms) p
    later l =
        record {
          index = suc l.index;
          message = l.message;
          there = l.there;
          free = (let z : k + 1 + l.index + 1 ≡ k + suc l.index + 1 = omega arith in subst (λ j. taken h s j ≡ false) z l.free);
          is = l.is;
        }

    go : Rest → (b : Bool) → taken h s (k + 1) ≡ b → IsAmong (packets_in (slot_of s b x ∷ slots_from (k + 1) s h ms)) p → IsLeft k s h (x ∷ ms) p
    go rest true e a' = later (rest a')
    go rest false e a' = here a'.0 a'.1
      where
        here : (i : ℕ) → slice_get (packet_of s x ∷ packets_in (slots_from (k + 1) s h ms)) i ≡ Some p → IsLeft k s h (x ∷ ms) p
        here zero f =
            record {
              index = 0;
              message = x;
              there = refl;
              free = (let z : k + 1 ≡ k + 0 + 1 = omega arith in subst (λ j. taken h s j ≡ false) z e);
              is = (let g : packet_of s x ≡ p = cc in sym g);
            }
        here (suc i) f = later (rest (i, f))

-- where the same is left in two runs of what a rank sent to another, and all is received in the one, all is in the other
received_too : (P Q : List Passed) (r q : ℕ) → unreceived P r q ≡ unreceived Q r q → AreReceivedBy P r q → AreReceivedBy Q r q
received_too P Q r q left received zero m at context = absurd cc
received_too P Q r q left received (suc i) m at context = go (taken (history Q q) r (suc i)) refl
  where
    go : (b : Bool) → taken (history Q q) r (suc i) ≡ b → b ≡ true
    go true e = refl
    go false e =
        let z : suc i ≡ 0 + i + 1 = omega arith in
        let here : IsAmong (unreceived Q r q) (packet_of r m) =
        left_there 0 r (history Q q) (sent Q r q) i m at (subst (λ j. taken (history Q q) r j ≡ false) z e) in
        let l = left_back 0 r (history P q) (sent P r q) (packet_of r m) (subst (λ ps. IsAmong ps (packet_of r m)) (sym left) here) in
        let same : m.context ≡ l.message.context = ap (λ (p : packet.PacketValue). p.context) l.is in
        let z' : 0 + l.index + 1 ≡ suc l.index = omega arith in
        let took : taken (history P q) r (suc l.index) ≡ true = received (suc l.index) l.message l.there (sym same ∙ context) in
        let not : taken (history P q) r (suc l.index) ≡ false = subst (λ j. taken (history P q) r j ≡ false) z' l.free in
        sym not ∙ took

-- so in runs that stand alike the same ranks are held
pub released_too : (mode : SendMode) → (start : ℕ → State) (n : ℕ) (P Q : List Passed) (r : ℕ) → r < n → StandAlike start n P Q → IsReleased mode n P r
    → IsReleased mode n Q r
released_too mode start n P Q r low alike released =
    record { received = λ e q low'. received_too P Q r q ((alike q low').left r low) (released.received e q low') }

-- The partner of an act that rank r may make after one run by the mode: it may make the partner after the other, and then they stand alike again.
pub record PartnerUnder (mode : SendMode) (start : ℕ → State) (n : ℕ) (P Q : List Passed) (r : ℕ) (act : Act) (stands : State) : Type 0 where
  pub other : Act
  pub partner : IsPartner act other
  pub may : MayMake (start r) (λ s. sent Q s r) (history Q r) other
  pub wants_same : wants may.stands ≡ wants stands
  pub alike : StandAlike start n (and_then P r act) (and_then Q r other)
  pub released : IsReleased mode n Q r

-- each act that may follow the one by the mode has one
pub partner_under : (mode : SendMode) → (start : ℕ → State) (n : ℕ) (P Q : List Passed) → IsRunUnder mode start n P → IsRunUnder mode start n Q
    → StandAlike start n P Q → (r : ℕ) (act : Act) → r < n → (may : MayMake (start r) (λ s. sent P s r) (history P r) act) → IsReleased mode n P r
    → PartnerUnder mode start n P Q r act may.stands
partner_under mode start n P Q run run' alike r act low may released =
    let f = each_follows_too start n P Q (plain_run mode start n P run) (plain_run mode start n Q run') alike r act low may in
    record {
      other = f.other;
      partner = f.partner;
      may = f.may;
      wants_same = f.wants_same;
      alike = f.alike;
      released = released_too mode start n P Q r low alike released;
    }

-- What is persistent and fixed

-- others that go on by the mode go on
plain_without : (mode : SendMode) → (start : ℕ → State) (n r : ℕ) (P C : List Passed) → GoesOnWithout mode start n r P C
    → GoesOnWithout Buffered start n r P C
plain_without mode start n r P C there = there
plain_without mode start n r P C (further q act other may on) =
    further q act other (buffered_act start n P q act (may.0, may.1)) (plain_without mode start n r (and_then P q act) C on)

-- acts that are persistent where no send waits are so by the mode, of a rank that no send holds
pub persistent_under : (mode : SendMode) → (start : ℕ → State) (n : ℕ) (P : List Passed) (r : ℕ) → IsReleased mode n P r
    → IsPersistent Buffered start n P r → IsPersistent mode start n P r
persistent_under mode start n P r released persistent C act onward may =
    let now = persistent C act (plain_without mode start n r P C onward) (buffered_act start n C r act (may.0, may.1)) in
    (now.0, now.1, released)

-- so it is with an act that is fixed
pub fixed_under : (mode : SendMode) → (start : ℕ → State) (n : ℕ) (P : List Passed) (r : ℕ) (act : Act) → IsReleased mode n P r
    → IsFixed Buffered start n P r act → IsFixed mode start n P r act
fixed_under mode start n P r act released fix = record { low = fix.low; may = fix.may; one = fix.one; released = released }

-- and where none is fixed none is by the mode
pub none_under : (mode : SendMode) → (s : SimValue) (r : ℕ) → NoneIsFixed Buffered s r → NoneIsFixed mode s r
none_under mode s r none act fix = none act (record { low = fix.low; may = fix.may; one = fix.one; released = buffered (length s.machines) s.run r })

-- What is eligible

-- the selector names each point-to-point message
abbrev pub NamesAll : Selector → Type 0
NamesAll w = (w.context ≡ PointToPoint) × (w.source ≡ None) × (w.tag ≡ None)

-- so it matches each
matches_each : (w : Selector) (s : ℕ) (m : Message) → NamesAll w → m.context ≡ PointToPoint → Matches w s m
matches_each w s m names context = (context ∙ sym names.0, rw names.1 tt, rw names.2 tt)

module _ (inbound : ℕ → List Message) (h : History) (s : ℕ) (w : Selector) (names : NamesAll w) where
  -- those before a place are taken
  abbrev TakenBelow : ℕ → Type 0
  TakenBelow k = (place : ℕ) (m : Message) → place < k → at_place (inbound s) place ≡ Some m → m.context ≡ PointToPoint → taken h s place ≡ true

  -- where none is eligible
  taken_below : ((place : ℕ) → IsEligible inbound h s place w → ⊥) → (k : ℕ) → TakenBelow k
  taken_below none zero place m low at context = absurd (omega (arith, low))
  taken_below none (suc k) place m low at context = by_place (taken_below none k) (cases_eq place k)
    where
      by_place : TakenBelow k → (place ≡ k) ⊎ (place ≡ k → ⊥) → taken h s place ≡ true
      by_place before (inr apart) = before place m (omega (arith, low, apart)) at context
      by_place before (inl same) = go (taken h s place) refl
        where
          go : (b : Bool) → taken h s place ≡ b → b ≡ true
          go true e = refl
          go false e =
              absurd
              (none place
              (record {
                message = m;
                there = at;
                untaken = e;
                matching = matches_each w s m names context;
                not_overtaking = λ i m' less at' matching.
                    before i m' (omega (arith, less, same)) at' (matching.0 ∙ names.0);
              }))

-- where no message of r is eligible for q by such a selector, all of r are received by q
pub received_by : (C : List Passed) (r q : ℕ) (w : Selector) → NamesAll w → ((place : ℕ) → IsEligible (inbound_of C q) (history C q) r place w → ⊥)
    → AreReceivedBy C r q
received_by C r q w names none place m at context =
    taken_below (inbound_of C q) (history C q) r w names none (suc place) place m (omega arith) at context

-- where one is, not all are
pub not_received_by : (C : List Passed) (r q place : ℕ) (w : Selector) → NamesAll w → IsEligible (inbound_of C q) (history C q) r place w
    → AreReceivedBy C r q → ⊥
not_received_by C r q place w names e received =
    let took : taken (history C q) r place ≡ true = received place e.message e.there (e.matching.0 ∙ names.0) in
    let not : true ≡ false = sym took ∙ e.untaken in
    cc

-- with one receiver more
pub one_more_received : (C : List Passed) (r k : ℕ) → ((q : ℕ) → q < k → AreReceivedBy C r q) → AreReceivedBy C r k → (q : ℕ) → q < k + 1
    → AreReceivedBy C r q
one_more_received C r k before here q low = go (cases_eq q k)
  where
    go : (q ≡ k) ⊎ (q ≡ k → ⊥) → AreReceivedBy C r q
    go (inl e) = subst (λ z. AreReceivedBy C r z) (sym e) here
    go (inr apart) = before q (omega (arith, low, apart))
