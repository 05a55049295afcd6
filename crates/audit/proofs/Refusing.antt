-- What is refused: where the auditor makes no act of a rank, none is offered, that is, none that the rank may make is one that the
-- outcome has next.
use Rattle.std.proofs.Common.{◌≡◌, ◌≢◌, ℕ, ℤ, ◌+◌, ◌≤◌, List, Option, Some, None, length, slice_get}
use Rattle.std.proofs.Common.{sym, ap, subst, ◌∙◌, arith}
use Rattle.std.specs.Prelude.{Result, Ok, Err, IsSomeAnd, IfNone, IfErr, is_ok, false}
use Rattle.limits.specs.Limits.{greatest_clock}
use Rattle.event_logger.specs.Sequential.Event.{EventValue}
use Rattle.rank_machine.specs.declared.want.Want.{Want}
use Rattle.rank_machine.specs.declared.want.Want.TheVariants as want
use Rattle.rank_machine.specs.Wants.{payload}
use Rattle.rank_machine.specs.Acts.{Act, Message, Fits}
use Rattle.rank_machine.specs.Machine.{MachineValue, state_of}
use Rattle.crash_free.specs.declared.choice.Choice.{Choice}
use Rattle.crash_free.specs.declared.choice.Choice.TheVariants as choice
use Rattle.crash_free.specs.declared.not_allowed.NotAllowed.{NotAllowed}
use Rattle.crash_free.specs.declared.not_allowed.NotAllowed.TheVariants as refusal
use Rattle.crash_free.specs.Runs.{history, looked_up}
use Rattle.crash_free.specs.Sim.{SimValue, Simulates, makes, meaning, inbound_of, Refuses}
use Rattle.crash_free.specs.Wanted.{Wants, WantsAt, StandsAtAct}
use Rattle.audit.specs.Outcome.{OutcomeValue}
use Rattle.audit.specs.Audits.{IsSendTo, Suits, Repeats}
use Rattle.audit.specs.Playing.{IsOffered, NoneIsOffered, IsNextEvent, IsNextLine, IsOfMessage}
use Rattle.audit.proofs.Fitting.{send_fits, print_fits}
use Rattle.audit.proofs.Offering.{IsAsked, is_asked, not_refused}
use Rattle.audit.proofs.Picking.{one_choice, picked, some_event, line_offered}
use Rattle.audit.proofs.Reaching.{some_there}
use Rattle.audit.proofs.Playing.{send_apart}

-- where there is no clock no act is offered
pub no_clock : (o : OutcomeValue) (s : SimValue) (r : ℕ) → greatest_clock ≤ length (history s.run r) → NoneIsOffered o s r
no_clock o s r none act offered = let clocked = offered.clocked in omega (arith, clocked, none)

-- What is asked of an act that is offered: the rank's machine, and that the act answers it.
record AskedFor (s : SimValue) (r : ℕ) (w : Want) (act : Act) : Type 0 where
  machine : MachineValue
  there : slice_get s.machines r ≡ Some machine
  asks : Wants machine w
  is : IsAsked s r machine w act

-- an act that is offered to a rank is one that it asks for
asked_for : (o : OutcomeValue) (s : SimValue) (r : ℕ) (w : Want) (act : Act) → Simulates s → WantsAt s.machines r w → w ≢ want.Internal → IsOffered o s r act
    → AskedFor s r w act
asked_for o s r w act simulates wanted apart offered =
    let m = some_there (slice_get s.machines r) (λ m. Wants m w) wanted in
    record { machine = m.0; there = m.1; asks = m.2; is = is_asked s r m.0 w act simulates m.1 m.2 apart offered.may }

-- where a send is refused, but not when out of memory, no act is offered
pub no_send : (o : OutcomeValue) (s : SimValue) (r d : ℕ) (w : Want) (why : NotAllowed) → Simulates s → WantsAt s.machines r w → IsSendTo d w
    → Refuses s r choice.Next why → why ≢ refusal.Memory → NoneIsOffered o s r
no_send o s r d w why simulates wanted to refuses memory act offered =
    let i = asked_for o s r w act simulates wanted (send_apart d w to) offered in
    not_refused s r i.machine w choice.Next act why i.there i.asks (means w to i.machine i.is.fits) i.is.free refuses memory
  where
    means : (w : Want) → IsSendTo d w → (m : MachineValue) → Fits w (payload (state_of m)) act (looked_up (inbound_of s.run r) act)
        → meaning w (payload (state_of m)) choice.Next ≡ makes act
    means (want.Send dest context tag) to m f = ap makes (sym (send_fits dest context tag (payload (state_of m)) act (looked_up (inbound_of s.run r) act) f).0)
    means want.Internal to m f = absurd to
    means (want.Receive w) to m f = absurd to
    means (want.Probe w) to m f = absurd to
    means (want.TryProbe w) to m f = absurd to
    means (want.Print v) to m f = absurd to
    means want.Halted to m f = absurd to
    means (want.Faulted k) to m f = absurd to

-- where a print is
pub no_print : (o : OutcomeValue) (s : SimValue) (r : ℕ) (value : ℤ) (why : NotAllowed) → Simulates s → WantsAt s.machines r (want.Print value)
    → Refuses s r choice.Next why → why ≢ refusal.Memory → NoneIsOffered o s r
no_print o s r value why simulates wanted refuses memory act offered =
    let i = asked_for o s r (want.Print value) act simulates wanted (λ e. cc) offered in
    not_refused s r i.machine (want.Print value) choice.Next act why i.there i.asks
    (ap makes (sym (print_fits value (payload (state_of i.machine)) act (looked_up (inbound_of s.run r) act) i.is.fits).0)) i.is.free refuses memory

-- where the outcome doesn't have the line next that a rank wants to print
pub no_line_next : (o : OutcomeValue) (s : SimValue) (r : ℕ) (value : ℤ) → Simulates s → WantsAt s.machines r (want.Print value)
    → (IsNextLine o s r value → greatest_clock ≤ length (history s.run r)) → NoneIsOffered o s r
no_line_next o s r value simulates wanted none act offered =
    let i = asked_for o s r (want.Print value) act simulates wanted (λ e. cc) offered in
    no_clock o s r (none (line_offered o s r i.machine value act i.is offered)) act offered

-- what is asked for of a message is no step of its own
of_message_apart : (w : Want) → IsOfMessage w → w ≢ want.Internal
of_message_apart w of e = subst IsOfMessage e of

-- where the next event is none that fits what is asked for: another kind, another clock, or a message that wasn't sent
pub no_fitting_event : (o : OutcomeValue) (s : SimValue) (r : ℕ) (w : Want) (e : EventValue) → Simulates s → WantsAt s.machines r w → IsOfMessage w
    → IsNextEvent o s r e
    → (Suits w e.kind → e.receiver_clock ≡ length (history s.run r) + 1 → ((x : Choice) → Repeats s.run r e x → ⊥)) → NoneIsOffered o s r
no_fitting_event o s r w e simulates wanted of next none act offered =
    let i = asked_for o s r w act simulates wanted (of_message_apart w of) offered in
    let p = picked o s r i.machine w e act of i.is offered next in
    none p.suits p.clock p.choice p.repeats

-- where the choice that repeats it is refused, but not when out of memory
pub no_event_allowed : (o : OutcomeValue) (s : SimValue) (r : ℕ) (w : Want) (e : EventValue) (x : Choice) (why : NotAllowed) → Simulates s
    → WantsAt s.machines r w → IsOfMessage w → IsNextEvent o s r e → Repeats s.run r e x → Refuses s r x why → why ≢ refusal.Memory → NoneIsOffered o s r
no_event_allowed o s r w e x why simulates wanted of next repeats refuses memory act offered =
    let i = asked_for o s r w act simulates wanted (of_message_apart w of) offered in
    let p = picked o s r i.machine w e act of i.is offered next in
    let same : p.choice ≡ x = one_choice s.run r e p.choice x p.repeats repeats in
    not_refused s r i.machine w x act why i.there i.asks
    (subst (λ c. meaning w (payload (state_of i.machine)) c ≡ makes act) same p.means) i.is.free refuses memory

-- where there is no next event
pub no_event_next : (o : OutcomeValue) (s : SimValue) (r : ℕ) (w : Want) → Simulates s → WantsAt s.machines r w → IsOfMessage w
    → ((e : EventValue) → IsNextEvent o s r e → ⊥) → NoneIsOffered o s r
no_event_next o s r w simulates wanted of none act offered =
    let i = asked_for o s r w act simulates wanted (of_message_apart w of) offered in
    let e = some_event o s r i.machine w act of i.is offered in
    none e.0 e.1

-- a rank that has ended
no_act_left : (o : OutcomeValue) (s : SimValue) (r : ℕ) (w : Want) → Simulates s → WantsAt s.machines r w → w ≢ want.Internal
    → ((items : List ℤ) (a : Act) (m : Option Message) → Fits w items a m → ⊥) → NoneIsOffered o s r
no_act_left o s r w simulates wanted apart none act offered =
    let i = asked_for o s r w act simulates wanted apart offered in
    none (payload (state_of i.machine)) act (looked_up (inbound_of s.run r) act) i.is.fits

-- a result that is no `Ok` is an `Err`
pub why_refused : {T E : Type 0} (result : Result T E) (P Q : E → Type 0) → is_ok result ≡ false → IfErr result P → IfErr result Q → (why : E) × P why × Q why
why_refused (Ok x) P Q e p q = absurd cc
why_refused (Err why) P Q e p q = (why, p, q)

-- what holds anyhow holds where there is nothing
pub if_none : {A : Type 0} (o : Option A) (P : Type 0) → P → IfNone o P
if_none None P p = p
if_none (Some x) P p = tt

-- a rank that stands at an act asks for no step of its own
stands_apart : (s : SimValue) (r : ℕ) (w : Want) → WantsAt s.machines r w → StandsAtAct s.machines r → w ≢ want.Internal
stands_apart s r w wanted stands own =
    let m = some_there (slice_get s.machines r) (λ m. Wants m w) wanted in
    let asks : Wants m.0 stands.0 = subst (λ o. IsSomeAnd o (λ m. Wants m stands.0)) m.1 stands.1 in
    stands.2 (sym asks.at_want ∙ m.2.at_want ∙ own)

-- what no act answers
abbrev pub IsActless : Want → Type 0
IsActless want.Internal = Unit {0}
IsActless want.Halted = Unit {0}
IsActless (want.Faulted k) = Unit {0}
IsActless (want.Send d c t) = ⊥
IsActless (want.Receive w) = ⊥
IsActless (want.Probe w) = ⊥
IsActless (want.TryProbe w) = ⊥
IsActless (want.Print v) = ⊥

-- so a rank that asks for it, and for no step of its own, is offered none
pub no_act_wanted : (o : OutcomeValue) (s : SimValue) (r : ℕ) (w : Want) → Simulates s → WantsAt s.machines r w → StandsAtAct s.machines r → IsActless w
    → NoneIsOffered o s r
no_act_wanted o s r w simulates wanted stands actless =
    no_act_left o s r w simulates wanted (stands_apart s r w wanted stands) (λ items a m f. none w actless items a m f)
  where
    none : (w : Want) → IsActless w → (items : List ℤ) (a : Act) (m : Option Message) → Fits w items a m → ⊥
    none want.Internal i items a m f = f
    none want.Halted i items a m f = f
    none (want.Faulted k) i items a m f = f
    none (want.Send d c t) i items a m f = i
    none (want.Receive w) i items a m f = i
    none (want.Probe w) i items a m f = i
    none (want.TryProbe w) i items a m f = i
    none (want.Print v) i items a m f = i
