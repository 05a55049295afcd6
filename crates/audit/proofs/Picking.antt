-- Which choice repeats the outcome's next event of a rank: just one, by which the rank makes the act that is offered.
use Rattle.std.proofs.Common.{◌≡◌, ℕ, ℤ, zero, suc, ◌+◌, ◌<◌, ◌≤◌, List, [], ◌∷◌, ◌++◌, length, map, slice_get, get_or, Option, Some, None}
use Rattle.std.proofs.Common.{refl, sym, ap, subst, ◌∙◌, arith, ◌⊎◌, inl, inr}
use Rattle.std.specs.Prelude.{IsSomeAnd, IfSome, IfNone, option_map, is_some, nat_lt, Bool, true, false, not}
use Rattle.std.proofs.lemmas.Bool.Decides.{nat_tests}
use Rattle.std.proofs.lemmas.List.{append-nil, append_assoc, length-map}
use Rattle.std.proofs.lemmas.Option.{slice_get-get_or, slice_get-map, slice_get_read, slice_get_past, slice_get_within, get_or_from_slice_get}
use Rattle.event_logger.specs.Sequential.Event.{EventValue, event_of}
use Rattle.event_logger.specs.declared.sequential.kind.Kind.TheVariants as kind
use Rattle.matching.specs.declared.packet.Context.TheVariants.{PointToPoint}
use Rattle.matching.specs.declared.selector.Selector.{Selector}
use Rattle.rank_machine.specs.declared.want.Want.{Want}
use Rattle.rank_machine.specs.declared.want.Want.TheVariants as want
use Rattle.rank_machine.specs.States.{State}
use Rattle.rank_machine.specs.Wants.{payload}
use Rattle.rank_machine.specs.Acts.{Act, Message, misses, Fits}
use Rattle.rank_machine.specs.Machine.{MachineValue, state_of}
use Rattle.crash_free.specs.declared.choice.Choice.{Choice}
use Rattle.crash_free.specs.declared.choice.Choice.TheVariants as choice
use Rattle.crash_free.specs.Runs.{Passed, History, at_place, history, sent, sends_from, printed, print_at, looked_up, IsRun}
use Rattle.crash_free.specs.Sim.{SimValue, makes, meaning, inbound_of}
use Rattle.crash_free.specs.Parts.{IsBeginning}
use Rattle.crash_free.proofs.Clocks.{one_clock, in_order}
use Rattle.crash_free.proofs.Lists.{printed-own}
use Rattle.crash_free.proofs.Taking.{no_history}
use Rattle.audit.specs.Outcome.{OutcomeValue, lines_of}
use Rattle.audit.specs.Lines.{IsSorted}
use Rattle.audit.specs.Rows.{row, event_at, cons_some, expand}
use Rattle.audit.specs.Counts.{ends_from, AreCounted}
use Rattle.audit.specs.Trace.{TraceValue, clocks_to, AreInOrder}
use Rattle.audit.specs.Audits.{Keeps, Suits, Repeats, HasRow}
use Rattle.audit.specs.Playing.{IsWithin, IsOffered, IsNextEvent, IsNextLine, IsOfMessage}
use Rattle.audit.proofs.Rows.{row-own}
use Rattle.audit.proofs.Fitting.{IsTake, IsHit, take_fits, hit_fits, try_fits, print_fits}
use Rattle.audit.proofs.Alike.{take_event, hit_event, miss_event}
use Rattle.audit.proofs.Offering.{IsAsked}
use Rattle.audit.proofs.Reaching.{some_there}
use Rattle.audit.proofs.Steps.{trace_there}

-- a beginning with one element more has it next
next_of_beginning : {A : Type 0} (xs whole : List A) (x : A) → IsBeginning (xs ++ x ∷ []) whole → slice_get whole (length xs) ≡ Some x
next_of_beginning {A} xs whole x b = ap (λ ys. slice_get ys (length xs)) (b.1 ∙ append_assoc xs (x ∷ []) b.0) ∙ at_end xs b.0
  where
    at_end : (ys later : List A) → slice_get (ys ++ x ∷ later) (length ys) ≡ Some x
    at_end [] later = refl
    at_end (y ∷ ys) later = at_end ys later

-- where the next element is this, the beginning may have it too
pub beginning_of_next : {A : Type 0} (xs whole : List A) (x : A) → IsBeginning xs whole → slice_get whole (length xs) ≡ Some x
    → IsBeginning (xs ++ x ∷ []) whole
beginning_of_next {A} xs whole x b there = go b.0 b.1
  where
    after : (ys later : List A) → slice_get (ys ++ later) (length ys) ≡ slice_get later 0
    after [] later = refl
    after (y ∷ ys) later = after ys later

    go : (later : List A) → whole ≡ xs ++ later → IsBeginning (xs ++ x ∷ []) whole
    go [] e = absurd (let none : slice_get {X = A} [] 0 ≡ Some x = sym (ap (λ ys. slice_get ys (length xs)) e ∙ after xs []) ∙ there in cc)
    go (y ∷ later) e =
        let first : Some y ≡ Some x = sym (ap (λ ys. slice_get ys (length xs)) e ∙ after xs (y ∷ later)) ∙ there in
        let same : y ≡ x = cc in
        (later, e ∙ ap (λ z. xs ++ z ∷ later) same ∙ sym (append_assoc xs (x ∷ []) later))

-- the clocks of what a rank sent are in order
clocks_in_order : (d : ℕ) (h : History) → AreInOrder (clocks_to d h)
clocks_in_order d h = λ i j le low.
    let sent : List Message = sends_from 0 d h in
    let wide = length-map sent (λ (m : Message). m.clock) in
    let none : Message = record { clock = 0; context = PointToPoint; tag = 0; items = [] } in
    let first = slice_get-get_or sent i none (omega (arith, wide, low, le)) in
    let second = slice_get-get_or sent j none (omega (arith, wide, low)) in
    let ordered = in_order 0 d h i j (get_or sent i none) (get_or sent j none) first second le in
    let clock : (k : ℕ) → slice_get sent k ≡ Some (get_or sent k none) → get_or (map (λ (m : Message). m.clock) sent) k 0 ≡ (get_or sent k none).clock
    = λ k there. get_or_from_slice_get (map (λ (m : Message). m.clock) sent) k (get_or sent k none).clock 0
    (slice_get-map (λ (m : Message). m.clock) sent k ∙ ap (option_map (λ (m : Message). m.clock)) there) in
    let clock_i = clock i first in
    let clock_j = clock j second in
    omega (arith, ordered, clock_i, clock_j)

-- a message's clock is among those of what its sender sent
clock_there : (d : ℕ) (h : History) (j : ℕ) (m : Message) → at_place (sends_from 0 d h) j ≡ Some m → at_place (clocks_to d h) j ≡ Some m.clock
clock_there d h zero m e = absurd cc
clock_there d h (suc j) m e = slice_get-map (λ (m : Message). m.clock) (sends_from 0 d h) j ∙ ap (option_map (λ (m : Message). m.clock)) e

-- an event is repeated by just one choice
pub one_choice : (C : List Passed) (r : ℕ) (e : EventValue) (x y : Choice) → Repeats C r e x → Repeats C r e y → x ≡ y
one_choice C r e choice.Next y p q = absurd p
one_choice C r e choice.Miss choice.Next p q = absurd q
one_choice C r e choice.Miss choice.Miss p q = refl
one_choice C r e choice.Miss (choice.Take s j) p q = absurd (q.0 p)
one_choice C r e (choice.Take s j) choice.Next p q = absurd q
one_choice C r e (choice.Take s j) choice.Miss p q = absurd (p.0 q)
one_choice C r e (choice.Take s j) (choice.Take t k) p q =
    let source : s ≡ t = p.1 ∙ sym q.1 in
    let m = some_there (at_place (sent C s r) j) (λ m. m.clock ≡ e.sender_clock) p.2 in
    let m' = some_there (at_place (sent C t r) k) (λ m. m.clock ≡ e.sender_clock) q.2 in
    let place = one_clock 0 r (history C s) j k m.0 m'.0 m.1 (ap (λ z. at_place (sent C z r) k) source ∙ m'.1) (m.2 ∙ sym m'.2) in
    rw (source, place) refl

-- The next event of a rank of which an act is offered that takes, hits or misses: it suits what is asked for, has the clock of the
-- rank's next act, and a choice repeats it that means the act.
pub record IsPicked (s : SimValue) (r : ℕ) (m : MachineValue) (w : Want) (e : EventValue) (act : Act) : Type 0 where
  pub suits : Suits w e.kind
  pub clock : e.receiver_clock ≡ length (history s.run r) + 1
  pub choice : Choice
  pub repeats : Repeats s.run r e choice
  pub means : meaning w (payload (state_of m)) choice ≡ makes act

-- the next event is that of the act that is offered
event_offered : (o : OutcomeValue) (s : SimValue) (r : ℕ) (e x : EventValue) (act : Act) → IsOffered o s r act → IsNextEvent o s r e
    → event_at (length (history s.run r) + 1) act (looked_up (inbound_of s.run r) act) ≡ Some x → e ≡ x
event_offered o s r e x act offered next is =
    let rows = some_there (slice_get o.rows r) (λ events. IsBeginning (row (record { rank = r; act = act } ∷ s.run) r) (expand events)) offered.rows in
    let at = some_there (slice_get o.rows r) (λ events. slice_get (expand events) (length (row s.run r)) ≡ Some e) next in
    let same : Some rows.0 ≡ Some at.0 = sym rows.1 ∙ at.1 in
    let events : rows.0 ≡ at.0 = cc in
    let further : IsBeginning (row s.run r ++ x ∷ []) (expand rows.0) =
    subst (λ es. IsBeginning es (expand rows.0)) (row-own s.run r act ∙ ap (λ z. row s.run r ++ cons_some z []) is) rows.2 in
    let there = next_of_beginning (row s.run r) (expand rows.0) x further in
    let both : Some e ≡ Some x = sym at.2 ∙ ap (λ es. slice_get (expand es) (length (row s.run r))) (sym events) ∙ there in
    cc

-- a reception
picked_take : (s : SimValue) (r : ℕ) (m : MachineValue) (w : Selector) (e : EventValue) (act : Act) (found : Option Message)
    → found ≡ looked_up (inbound_of s.run r) act → (i : IsTake act found)
    → e ≡ event_of kind.Reception i.source i.message.clock (length (history s.run r) + 1) → IsPicked s r m (want.Receive w) e act
picked_take s r m w e act found is i same = record {
  suits = rw same tt;
  clock = ap (λ (x : EventValue). x.receiver_clock) same;
  choice = choice.Take i.source i.place;
  repeats =
      let there : at_place (sent s.run i.source r) i.place ≡ Some i.message = sym (ap (looked_up (inbound_of s.run r)) i.act) ∙ sym is ∙ i.found in
      rw (same, there) ((λ q. cc), refl, refl);
  means = ap makes (sym i.act);
}

-- a hit of a probe that waits
picked_hit : (s : SimValue) (r : ℕ) (m : MachineValue) (w : Selector) (e : EventValue) (act : Act) (found : Option Message)
    → found ≡ looked_up (inbound_of s.run r) act → (i : IsHit act found)
    → e ≡ event_of kind.Hit i.source i.message.clock (length (history s.run r) + 1)
    → IsPicked s r m (want.Probe w) e act × IsPicked s r m (want.TryProbe w) e act
picked_hit s r m w e act found is i same =
    let there : at_place (sent s.run i.source r) i.place ≡ Some i.message = sym (ap (looked_up (inbound_of s.run r)) i.act) ∙ sym is ∙ i.found in
    let again : Repeats s.run r e (choice.Take i.source i.place) = rw (same, there) ((λ q. cc), refl, refl) in
    let clock = ap (λ (x : EventValue). x.receiver_clock) same in (
      record { suits = rw same tt; clock = clock; choice = choice.Take i.source i.place; repeats = again; means = ap makes (sym i.act) },
      record { suits = rw same tt; clock = clock; choice = choice.Take i.source i.place; repeats = again; means = ap makes (sym i.act) },
    )

-- a miss
picked_miss : (s : SimValue) (r : ℕ) (m : MachineValue) (w : Selector) (e : EventValue) (act : Act) → act ≡ misses
    → e ≡ event_of kind.Miss 0 0 (length (history s.run r) + 1) → IsPicked s r m (want.TryProbe w) e act
picked_miss s r m w e act is same = record {
  suits = rw same tt;
  clock = ap (λ (x : EventValue). x.receiver_clock) same;
  choice = choice.Miss;
  repeats = ap (λ (x : EventValue). x.kind) same;
  means = ap makes (sym is);
}

-- so the next event picks the act that is offered
pub picked : (o : OutcomeValue) (s : SimValue) (r : ℕ) (m : MachineValue) (w : Want) (e : EventValue) (act : Act) → IsOfMessage w → IsAsked s r m w act
    → IsOffered o s r act → IsNextEvent o s r e → IsPicked s r m w e act
picked o s r m (want.Receive w) e act of asked offered next =
    let found = looked_up (inbound_of s.run r) act in
    let i = take_fits w (payload (state_of m)) act found asked.fits in
    picked_take s r m w e act found refl i
    (event_offered o s r e _ act offered next (take_event (length (history s.run r) + 1) act found i))
picked o s r m (want.Probe w) e act of asked offered next =
    let found = looked_up (inbound_of s.run r) act in
    let i = hit_fits w (payload (state_of m)) act found asked.fits in
    (picked_hit s r m w e act found refl i
    (event_offered o s r e _ act offered next (hit_event (length (history s.run r) + 1) act found i))).0
picked o s r m (want.TryProbe w) e act of asked offered next = go (try_fits w (payload (state_of m)) act (looked_up (inbound_of s.run r) act) asked.fits)
  where
    found : Option Message
    found = looked_up (inbound_of s.run r) act

    go : IsHit act (looked_up (inbound_of s.run r) act) ⊎ ((act ≡ misses) × (looked_up (inbound_of s.run r) act ≡ None))
        → IsPicked s r m (want.TryProbe w) e act
    go (inl i) =
        (picked_hit s r m w e act (looked_up (inbound_of s.run r) act) refl i
        (event_offered o s r e _ act offered next (hit_event (length (history s.run r) + 1) act (looked_up (inbound_of s.run r) act) i))).1
    go (inr i) =
        picked_miss s r m w e act i.0
        (event_offered o s r e _ act offered next (miss_event (length (history s.run r) + 1) act (looked_up (inbound_of s.run r) act) i.0))
picked o s r m want.Internal e act of asked offered next = absurd of
picked o s r m (want.Send d c t) e act of asked offered next = absurd of
picked o s r m (want.Print v) e act of asked offered next = absurd of
picked o s r m want.Halted e act of asked offered next = absurd of
picked o s r m (want.Faulted k) e act of asked offered next = absurd of

-- where such an act is offered there is a next event
pub some_event : (o : OutcomeValue) (s : SimValue) (r : ℕ) (m : MachineValue) (w : Want) (act : Act) → IsOfMessage w → IsAsked s r m w act
    → IsOffered o s r act → (e : EventValue) × IsNextEvent o s r e
some_event o s r m w act of asked offered = by_want w of asked.fits
  where
    found : Option Message
    found = looked_up (inbound_of s.run r) act

    by_event : (x : EventValue) → event_at (length (history s.run r) + 1) act (looked_up (inbound_of s.run r) act) ≡ Some x
        → (e : EventValue) × IsNextEvent o s r e
    by_event x is =
        let rows = some_there (slice_get o.rows r) (λ events. IsBeginning (row (record { rank = r; act = act } ∷ s.run) r) (expand events)) offered.rows in
        let further : IsBeginning (row s.run r ++ x ∷ []) (expand rows.0) =
        subst (λ es. IsBeginning es (expand rows.0)) (row-own s.run r act ∙ ap (λ z. row s.run r ++ cons_some z []) is) rows.2 in
        (x, rw rows.1 (next_of_beginning (row s.run r) (expand rows.0) x further))

    by_want : (w : Want) → IsOfMessage w → Fits w (payload (state_of m)) act (looked_up (inbound_of s.run r) act) → (e : EventValue) × IsNextEvent o s r e
    by_want (want.Receive w) of f = by_event _ (take_event (length (history s.run r) + 1) act _ (take_fits w (payload (state_of m)) act _ f))
    by_want (want.Probe w) of f = by_event _ (hit_event (length (history s.run r) + 1) act _ (hit_fits w (payload (state_of m)) act _ f))
    by_want (want.TryProbe w) of f = by_try (try_fits w (payload (state_of m)) act _ f)
      where
        by_try : IsHit act (looked_up (inbound_of s.run r) act) ⊎ ((act ≡ misses) × (looked_up (inbound_of s.run r) act ≡ None))
            → (e : EventValue) × IsNextEvent o s r e
        by_try (inl i) = by_event _ (hit_event (length (history s.run r) + 1) act _ i)
        by_try (inr i) = by_event _ (miss_event (length (history s.run r) + 1) act _ i.0)
    by_want want.Internal of f = absurd of
    by_want (want.Send d c t) of f = absurd of
    by_want (want.Print v) of f = absurd of
    by_want want.Halted of f = absurd of
    by_want (want.Faulted k) of f = absurd of

-- where a print is offered the next line is its
pub line_offered : (o : OutcomeValue) (s : SimValue) (r : ℕ) (m : MachineValue) (value : ℤ) (act : Act) → IsAsked s r m (want.Print value) act
    → IsOffered o s r act → IsNextLine o s r value
line_offered o s r m value act asked offered =
    let is = (print_fits value (payload (state_of m)) act (looked_up (inbound_of s.run r) act) asked.fits).0 in
    next_of_beginning (printed s.run r) (lines_of r o.lines) (length (history s.run r) + 1, value)
    (subst (λ ls. IsBeginning ls (lines_of r o.lines))
    (printed-own s.run r act ∙ ap (λ a. printed s.run r ++ print_at (length (history s.run r) + 1) a []) is) offered.lines)

-- an event whose sender is no rank is repeated by no choice
pub no_such_sender : (start : ℕ → State) (n : ℕ) (C : List Passed) (r : ℕ) (e : EventValue) → IsRun start n C → n ≤ e.sender → (e.kind ≡ kind.Miss → ⊥)
    → (x : Choice) → Repeats C r e x → ⊥
no_such_sender start n C r e run beyond apart choice.Next p = p
no_such_sender start n C r e run beyond apart choice.Miss p = apart p
no_such_sender start n C r e run beyond apart (choice.Take s j) p =
    let source = p.1 in
    let none : sent C s r ≡ [] = ap (λ h. sends_from 0 r h) (no_history start n C run s (omega (arith, beyond, source))) in
    let m = some_there (at_place (sent C s r) j) (λ m. m.clock ≡ e.sender_clock) p.2 in
    nowhere j m.0 (ap (λ ms. at_place ms j) (sym none) ∙ m.1)
  where
    nowhere : (j : ℕ) (m : Message) → at_place [] j ≡ Some m → ⊥
    nowhere zero m e = cc
    nowhere (suc j) m e = cc

-- neither is one whose message isn't among those that its sender sent
pub unsent : (s : SimValue) (traces : List TraceValue) (r q k : ℕ) (t : TraceValue) (e : EventValue) (c : ℕ) → Keeps s traces
    → r < length s.machines → q < length s.machines → k ≡ q → t ≡ get_or traces k t → q ≡ e.sender → c ≡ e.sender_clock
    → (e.kind ≡ kind.Miss → ⊥) → (AreInOrder (get_or t.sent r []) → (j : ℕ) → at_place (get_or t.sent r []) j ≡ Some c → ⊥)
    → (x : Choice) → Repeats s.run r e x → ⊥
unsent s traces r q k t e c kept low from at is sender clock apart none choice.Next p = p
unsent s traces r q k t e c kept low from at is sender clock apart none choice.Miss p = apart p
unsent s traces r q k t e c kept low from at is sender clock apart none (choice.Take source j) p =
    let trace = trace_there s traces q k t kept from at is in
    let wide = trace.width in
    let clocks : get_or t.sent r [] ≡ clocks_to r (history s.run q) =
    trace.sent r (get_or t.sent r []) (slice_get-get_or t.sent r [] (omega (arith, low, wide))) in
    let m = some_there (at_place (sent s.run source r) j) (λ m. m.clock ≡ e.sender_clock) p.2 in
    let there = clock_there r (history s.run source) j m.0 m.1 in
    none (subst AreInOrder (sym clocks) (clocks_in_order r (history s.run q))) j
    (ap (λ ks. at_place ks j) (clocks ∙ ap (λ z. clocks_to r (history s.run z)) (sender ∙ sym p.1)) ∙ there ∙ ap Some (m.2 ∙ sym clock))

-- what `get` lends is the element at the index
item_got : {R X : Type 0} (now : R → X) (xs : List X) (i : ℕ) (r : Option R) → is_some r ≡ nat_lt i (length xs)
    → IfSome r (λ x. now x ≡ get_or xs i (now x))
    → option_map now r ≡ slice_get xs i
item_got now xs i None is at = sym (slice_get_past xs i (let past : length xs ≤ i = grind (arith, nat_tests) in past))
item_got now xs i (Some x) is at = sym (slice_get_read xs (length xs) i (now x) refl (let low : i < length xs = grind (arith, nat_tests) in low) at)

-- what is at a place of a mapped list
pub mapped_at : {A B : Type 0} (f : A → B) (xs : List A) (r k : ℕ) (x : A) → k ≡ r → x ≡ get_or xs k x → k < length xs → slice_get (map f xs) r ≡ Some (f x)
mapped_at f xs r k x at is low =
    subst (λ i. slice_get (map f xs) i ≡ Some (f x)) at
    (slice_get-map f xs k ∙ ap (option_map f) (slice_get_read xs (length xs) k x refl low is))

-- what is at a place of a list that was mapped
pub row_read : {A : Type 0} (f : A → List EventValue) (items : List A) (rows : List (List EventValue)) (r k : ℕ) (x : A) → map f items ≡ rows → k ≡ r
    → x ≡ get_or items k x → k < length items → slice_get rows r ≡ Some (f x)
row_read f items rows r k x all at is low = ap (λ es. slice_get es r) (sym all) ∙ mapped_at f items r k x at is low

-- what stands next in the row of a rank is its next event
pub next_of_row : (o : OutcomeValue) (s : SimValue) (r : ℕ) (events : List EventValue) (result : Option EventValue) → slice_get o.rows r ≡ Some events
    → result ≡ slice_get (expand events) (length (row s.run r)) → IfSome result (IsNextEvent o s r) × IfNone result ((e : EventValue) → IsNextEvent o s r e → ⊥)
next_of_row o s r events (Some e) there is = (rw there (sym is), tt)
next_of_row o s r events None there is = (tt, λ e next. (let at : slice_get (expand events) (length (row s.run r)) ≡ Some e = rw there at next in cc))

-- the numbers of a rank's row
pub counted_there : (rows : List (List EventValue)) (counts : List (List ℕ)) (r k : ℕ) (events : List EventValue) (found : List ℕ) → AreCounted rows counts
    → slice_get rows r ≡ Some events → k ≡ r → found ≡ get_or counts k found → found ≡ ends_from 0 events
counted_there rows counts r k events found counted there at is =
    let one : slice_get counts r ≡ Some (ends_from 0 events) =
    ap (λ cs. slice_get cs r) counted ∙ slice_get-map (ends_from 0) rows r ∙ ap (option_map (ends_from 0)) there in
    is ∙ ap (λ q. get_or counts q found) at ∙ get_or_from_slice_get counts r (ends_from 0 events) found one

-- a rank that has no next event has all of the outcome's row
pub has_all : (o : OutcomeValue) (s : SimValue) (r : ℕ) → IsWithin o s → ((e : EventValue) → IsNextEvent o s r e → ⊥) → HasRow s o r
has_all o s r within none events there = go b.0 b.1
  where
    b : IsBeginning (row s.run r) (expand events)
    b = within.rows r events there

    go : (later : List EventValue) → expand events ≡ row s.run r ++ later → expand events ≡ row s.run r
    go [] e = e ∙ append-nil (row s.run r)
    go (x ∷ later) e =
        absurd (none x (rw there (next_of_beginning (row s.run r) (expand events) x (later, e ∙ sym (append_assoc (row s.run r) (x ∷ []) later)))))

-- and one that has a next event has not
has_more : (o : OutcomeValue) (s : SimValue) (r : ℕ) (e : EventValue) → IsNextEvent o s r e → HasRow s o r → ⊥
has_more o s r e next has =
    let at = some_there (slice_get o.rows r) (λ events. slice_get (expand events) (length (row s.run r)) ≡ Some e) next in
    let low : length (row s.run r) < length (row s.run r) =
    slice_get_within (row s.run r) (length (row s.run r)) e (ap (λ es. slice_get es (length (row s.run r))) (sym (has at.0 at.1)) ∙ at.2) in
    omega (arith, low)

-- whether a rank has a next event says whether it has all of the outcome's row
pub row_told : (o : OutcomeValue) (s : SimValue) (r : ℕ) (result : Option EventValue) (none : Bool) → is_some result ≡ not none
    → IfSome result (IsNextEvent o s r) → IfNone result ((e : EventValue) → IsNextEvent o s r e → ⊥) → IsWithin o s
    → (none ≡ true → HasRow s o r) × (none ≡ false → HasRow s o r → ⊥)
row_told o s r None true is some nothing within = (λ e. has_all o s r within nothing, λ e. cc)
row_told o s r None false is some nothing within = absurd cc
row_told o s r (Some x) true is some nothing within = absurd cc
row_told o s r (Some x) false is some nothing within = (λ e. cc, λ e. has_more o s r x some)

-- where there is no row there is no next event
pub no_row : (o : OutcomeValue) (s : SimValue) (r : ℕ) → length o.rows ≤ r → (e : EventValue) → IsNextEvent o s r e → ⊥
no_row o s r past e next =
    subst (λ rows. IsSomeAnd rows (λ events. slice_get (expand events) (length (row s.run r)) ≡ Some e)) (slice_get_past o.rows r past) next

-- what is read of the outcome's lines of a rank, as far as the run's, is its next line, if it has one
pub read_line : {R : Type 0} (s : SimValue) (traces : List TraceValue) (r k : ℕ) (t : TraceValue) (o : OutcomeValue) (sorted : List (List (ℕ × ℤ)))
    (found lines done : List (ℕ × ℤ)) (now : R → ℕ × ℤ) (got : Option R) → Keeps s traces → r < length s.machines → IsSorted (length s.machines) o.lines sorted
    → k ≡ r → t ≡ get_or traces k t → found ≡ get_or sorted k found → lines ≡ get_or sorted k found → done ≡ t.lines
    → is_some got ≡ nat_lt (length done) (length lines) → IfSome got (λ x. now x ≡ get_or lines (length done) (now x))
    → option_map now got ≡ slice_get (lines_of r o.lines) (length (printed s.run r))
read_line s traces r k t o sorted found lines done now got kept low is_sorted at is found_is lines_is done_is some item =
    let trace = trace_there s traces r k t kept low at is in
    let wide = is_sorted.width in
    let there = slice_get_read sorted (length sorted) r found refl (omega (arith, low, wide)) (found_is ∙ ap (λ q. get_or sorted q found) at) in
    let same : lines ≡ lines_of r o.lines = lines_is ∙ sym found_is ∙ is_sorted.each r found there in
    item_got now lines (length done) got some item ∙ ap (λ ls. slice_get ls (length done)) same
    ∙ ap (λ ls. slice_get (lines_of r o.lines) (length ls)) (done_is ∙ trace.lines)

-- a line with another clock and value that are the same
pub same_line : (a b : ℕ) (v w : ℤ) → a ≡ b → v ≡ w → ◌≡◌ {A = ℕ × ℤ} (a, v) (b, w)
same_line a b v w p q = rw (p, q) refl
