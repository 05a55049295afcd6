-- Where an audit can't go on it has come to a right outcome. Its run follows the run that has the outcome. If that has an act more,
-- the oldest such act is one that its rank may make, and one that the outcome has next: so the rank isn't stuck, and it has a step
-- left for it, as its part of the other run takes no more steps than it had.
use Rattle.std.proofs.Common.{◌≡◌, ◌≢◌, ℕ, ℤ, ◌+◌, ◌<◌, ◌≤◌, List, [], ◌∷◌, ◌++◌, Option, Some, None, length, slice_get, get_or, ◌⊎◌, inl, inr}
use Rattle.std.proofs.Common.{refl, sym, ap, subst, ◌∙◌, arith}
use Rattle.std.specs.Prelude.{IsSomeAnd}
use Rattle.std.proofs.lemmas.Bool.{cases_lt}
use Rattle.std.proofs.lemmas.List.{append-nil, length-append}
use Rattle.std.proofs.lemmas.Option.{slice_get-get_or}
use Rattle.rank_machine.specs.declared.fault.MachineFault.{MachineFault}
use Rattle.rank_machine.specs.declared.want.Want.{Want}
use Rattle.rank_machine.specs.declared.want.Want.TheVariants as want
use Rattle.rank_machine.specs.States.{State}
use Rattle.rank_machine.specs.Wants.{wants, payload}
use Rattle.rank_machine.specs.Acts.{Act, Message, Fits}
use Rattle.rank_machine.specs.Machine.{MachineValue, state_of, line_at, machine_want}
use Rattle.rank_machine.proofs.Making.{asked_or}
use Rattle.crash_free.specs.Runs.{Passed, History, history, sent, printed, prints_from, print_at, looked_up}
use Rattle.crash_free.specs.Sim.{SimValue, Simulates, start_of}
use Rattle.crash_free.specs.Wanted.{Wants, WantsAt}
use Rattle.crash_free.specs.Parts.{IsBeginning, IsNext}
use Rattle.crash_free.specs.Advances.{Advances, first_machine}
use Rattle.crash_free.proofs.Lists.{printed-own, there_is}
use Rattle.crash_free.proofs.Taking.{no_history}
use Rattle.crash_free.proofs.Reorder.{next_act}
use Rattle.crash_free.proofs.Advancing.{behind, IsUpTo, up_to}
use Rattle.audit.specs.declared.outcome.End.{End}
use Rattle.audit.specs.declared.outcome.End.TheVariants as end
use Rattle.audit.specs.Outcome.{OutcomeValue, lines_of, IsWaiting, MayWant, IsOutcome}
use Rattle.audit.specs.Rows.{row, event_at, events_from, cons_some, expand}
use Rattle.audit.specs.Audits.{HasEnd, AreReached}
use Rattle.audit.specs.Following.{IsSendAct, AreSends, GoesBeyond, Follows}
use Rattle.audit.specs.Playing.{IsWithin, IsOffered, HasLeft, AreStuck}
use Rattle.audit.specs.Reachable.{IsWithinSteps, IsReachable}
use Rattle.audit.proofs.Rows.{row-own}
use Rattle.audit.proofs.Fitting.{take_fits, hit_fits}
use Rattle.audit.proofs.Growing.{next_event, next_line, events_of_sends, prints_of_sends}
use Rattle.audit.proofs.Following.{along, follows}

-- what holds of what is there
pub some_there : {A : Type 0} (o : Option A) (P : A → Type 0) → IsSomeAnd o P → (x : A) × (o ≡ Some x) × P x
some_there None P h = absurd h
some_there (Some x) P h = (x, refl, h)

-- two lists that each begin with the other are one
both_begin : {A : Type 0} (xs ys : List A) → IsBeginning xs ys → IsBeginning ys xs → xs ≡ ys ++ []
both_begin {A} xs ys a b = go b.0 b.1
  where
    go : (later : List A) → xs ≡ ys ++ later → xs ≡ ys ++ []
    go [] e = e
    go (z ∷ later) e =
        let long = ap length e in
        let sum = length-append ys (z ∷ later) in
        let long' = ap length a.1 in
        let sum' = length-append xs a.0 in
        absurd (omega arith)

-- a machine asks for what it wants
asks : (m : MachineValue) → Wants m (machine_want m)
asks m = record { at_want = refl; from_state = asked_or (line_at m) m.fault (wants (state_of m)) }

-- a rank that waits makes no send
waits_no_send : (w : Want) (items : List ℤ) (a : Act) (o : Option Message) → IsWaiting w → IsSendAct a → Fits w items a o → ⊥
waits_no_send (want.Receive w) items a o i s f = subst IsSendAct (take_fits w items a o f).act s
waits_no_send (want.Probe w) items a o i s f = subst IsSendAct (hit_fits w items a o f).act s
waits_no_send want.Internal items a o i s f = i
waits_no_send (want.Send d c t) items a o i s f = i
waits_no_send (want.TryProbe w) items a o i s f = i
waits_no_send (want.Print v) items a o i s f = i
waits_no_send want.Halted items a o i s f = i
waits_no_send (want.Faulted k) items a o i s f = i

-- what a rank wants that has ended is no step of its own, and is answered by no send
record IsAtEnd (w : Want) : Type 0 where
  apart : w ≢ want.Internal
  no_send : (items : List ℤ) (a : Act) (o : Option Message) → IsSendAct a → Fits w items a o → ⊥

-- a rank that waits is at its end
waits : (w : Want) → IsWaiting w → IsAtEnd w
waits w i = record { apart = λ e. subst IsWaiting e i; no_send = λ items a o s f. waits_no_send w items a o i s f }

-- so is one that has halted
halts : (w : Want) → w ≡ want.Halted → IsAtEnd w
halts w e = record { apart = λ q. cc; no_send = λ items a o s f. subst (λ z. Fits z items a o) e f }

-- so is one that has met a fault
faults : (w : Want) (k : MachineFault) → w ≡ want.Faulted k → IsAtEnd w
faults w k e = record { apart = λ q. cc; no_send = λ items a o s f. subst (λ z. Fits z items a o) e f }

module _ (o : OutcomeValue) (s : SimValue) (left : List ℕ) (steps : ℕ) (C : List Passed) (simulates : Simulates s) (within : IsWithin o s)
    (width : length left ≡ length s.machines) (counted : (r k : ℕ) → slice_get left r ≡ Some k → HasLeft s r steps k)
    (stuck : AreStuck o left s) (outcome : IsOutcome (start_of s.program (length s.machines)) (length s.machines) C o)
    (reach : (r : ℕ) (e : End) → slice_get o.ends r ≡ Some e → IsWithinSteps s.program (length s.machines) steps C r e) where
  abbrev n : ℕ
  n = length s.machines

  abbrev start : ℕ → State
  start = start_of s.program (length s.machines)

  -- the rows and the lines of the run begin those of the other
  rows_begin : (r : ℕ) → IsBeginning (row s.run r) (row C r)
  rows_begin r = go (cases_lt r n)
    where
      go : (r < n) ⊎ (n ≤ r) → IsBeginning (row s.run r) (row C r)
      go (inl low) =
          let many = outcome.as_many_rows in
          let there = there_is o.rows r (omega (arith, low, many)) in
          subst (λ es. IsBeginning (row s.run r) es) (outcome.rows r there.0 there.1) (within.rows r there.0 there.1)
      go (inr beyond) =
          let none : row s.run r ≡ [] = ap (λ h. events_from 0 h) (no_history start n s.run simulates.is_run r beyond) in
          subst (λ es. IsBeginning es (row C r)) (sym none) (row C r, refl)

  follows_it : (r : ℕ) → Follows s.run C r
  follows_it r =
      follows start n s.run C simulates.is_run outcome.is_run rows_begin
      (λ q. subst (λ ls. IsBeginning (printed s.run q) ls) (outcome.lines q) (within.lines q)) r

  -- the steps that a rank has left, and its machine
  record Now (r : ℕ) : Type 0 where
    k : ℕ
    there : slice_get left r ≡ Some k
    made : ℕ
    sum : made + k ≡ steps
    machine : MachineValue
    stands : slice_get s.machines r ≡ Some machine
    advances : Advances made (first_machine s.program n r) (history s.run r) machine

  now : (r : ℕ) → r < n → Now r
  now r low =
      let there = slice_get-get_or left r 0 (omega (arith, low, width)) in
      let has = counted r (get_or left r 0) there in
      let at = some_there (slice_get s.machines r) (λ m. Advances has.made (first_machine s.program n r) (history s.run r) m) has.advances in
      record { k = get_or left r 0; there = there; made = has.made; sum = has.sum; machine = at.0; stands = at.1; advances = at.2 }

  -- an act that goes on is offered
  offered : (r : ℕ) (act : Act) → IsNext start n s.run (λ q. history C q) r act → IsOffered o s r act
  offered r act next =
      let low = next.low in
      let rows = outcome.as_many_rows in
      let ends = outcome.as_many_ends in
      let there = there_is o.rows r (omega (arith, low, rows)) in
      let last = there_is o.ends r (omega (arith, low, ends)) in
      let x : Act × Option Message = (act, looked_up (λ q. sent s.run q r) act) in
      let row_goes_on : IsBeginning (row (record { rank = r; act = act } ∷ s.run) r) (expand there.0) =
      subst (λ es. IsBeginning es (expand there.0)) (sym (row-own s.run r act))
      (subst (λ es. IsBeginning (row s.run r ++ cons_some (event_at (length (history s.run r) + 1) act x.1) []) es)
      (sym (outcome.rows r there.0 there.1 ∙ ap (λ h. events_from 0 h) next.whole)) (next_event (history s.run r) next.later x)) in
      let lines_go_on : IsBeginning (printed (record { rank = r; act = act } ∷ s.run) r) (lines_of r o.lines) =
      subst (λ ls. IsBeginning ls (lines_of r o.lines)) (sym (printed-own s.run r act))
      (subst (λ ls. IsBeginning (printed s.run r ++ print_at (length (history s.run r) + 1) act []) ls)
      (sym (outcome.lines r ∙ ap (λ h. prints_from 0 h) next.whole)) (next_line (history s.run r) next.later x)) in
      let long = ap length next.whole in
      let sum = length-append (history s.run r) (x ∷ next.later) in
      let clocked = (reach r last.0 last.1).clocked in
      record {
        may = next.may;
        rows = rw there.1 row_goes_on;
        lines = lines_go_on;
        clocked = omega (arith, long, sum, clocked);
      }

  -- so there is none
  not_next : (r : ℕ) (act : Act) → IsNext start n s.run (λ q. history C q) r act → ⊥
  not_next r act next = go (cases_lt 0 i.k)
    where
      i : Now r
      i = now r next.low

      go : (0 < i.k) ⊎ (i.k ≤ 0) → ⊥
      go (inl some) = (stuck r i.k i.there some).none act (offered r act next)
      go (inr none) =
          let ends = outcome.as_many_ends in
          let low = next.low in
          let last = there_is o.ends r (omega (arith, low, ends)) in
          let w = reach r last.0 last.1 in
          let less =
          behind i.made w.count (first_machine s.program n r) i.machine w.last (history s.run r) (history C r) next.later
          (act, looked_up (λ q. sent s.run q r) act) i.advances w.advances next.whole in
          let fewer = less.fewer in
          let few = w.few in
          let sum = i.sum in
          omega (arith, fewer, few, sum, none)

  -- each rank has made all that it does in the other run, and perhaps sends more
  through : (r : ℕ) → GoesBeyond (history s.run r) (history C r)
  through r = go (next_act start n s.run (λ q. history C q) C outcome.is_run (λ q. ([], sym (append-nil (history C q)))) (along s.run C follows_it))
    where
      by_all : IsBeginning (history C r) (history s.run r) → Follows s.run C r → GoesBeyond (history s.run r) (history C r)
      by_all all (inl b) = record { later = []; whole = both_begin (history s.run r) (history C r) b all; sends = tt }
      by_all all (inr g) = g

      go : ((q : ℕ) → IsBeginning (history C q) (history s.run q)) ⊎ ((q : ℕ) × (act : Act) × IsNext start n s.run (λ q. history C q) q act)
          → GoesBeyond (history s.run r) (history C r)
      go (inl all) = by_all (all r) (follows_it r)
      go (inr next) = absurd (not_next next.0 next.1 next.2)

  -- a rank that has ended is where it is said to have
  at_end : (r : ℕ) (e : End) → r < n → slice_get o.ends r ≡ Some e → ((w : Want) → MayWant e w → IsAtEnd w) → (w : Want) × WantsAt s.machines r w × MayWant e w
  at_end r e low there ended = by_later g.later g.whole g.sends
    where
      g : GoesBeyond (history s.run r) (history C r)
      g = through r

      i : Now r
      i = now r low

      w : IsWithinSteps s.program n steps C r e
      w = reach r e there

      last : IsAtEnd (machine_want w.last)
      last = ended (machine_want w.last) w.ended

      is_last : i.machine ≡ w.last → (w : Want) × WantsAt s.machines r w × MayWant e w
      is_last same =
          (machine_want i.machine, rw i.stands (asks i.machine), subst (λ m. MayWant e (machine_want m)) (sym same) w.ended)

      no_more : (y : Act × Option Message) (later : History) → history s.run r ≡ history C r ++ y ∷ later → IsSendAct y.0 → ⊥
      no_more y later e send =
          let less =
          behind w.count i.made (first_machine s.program n r) w.last i.machine (history C r) (history s.run r) later y w.advances i.advances e in
          or_act less.next
        where
          or_act : (machine_want w.last ≡ want.Internal) ⊎ Fits (machine_want w.last) (payload (state_of w.last)) y.0 y.1 → ⊥
          or_act (inl own) = last.apart own
          or_act (inr fits) = last.no_send (payload (state_of w.last)) y.0 y.1 send fits

      same_as_last : IsUpTo i.made w.count i.machine w.last → (0 < i.k) ⊎ (i.k ≤ 0) → i.machine ≡ w.last
      same_as_last up (inl some) =
          let at = (stuck r i.k i.there some).stands in
          let asked : Wants i.machine at.0 = subst (λ o. IsSomeAnd o (λ m. Wants m at.0)) i.stands at.1 in
          up.stops (λ own. at.2 (sym asked.at_want ∙ own))
      same_as_last up (inr none) =
          let few = up.few in
          let most = w.few in
          let sum = i.sum in
          up.there (omega (arith, few, most, sum, none))

      by_later : (later : History) → history s.run r ≡ history C r ++ later → AreSends later → (w : Want) × WantsAt s.machines r w × MayWant e w
      by_later [] e sends =
          is_last (same_as_last (up_to i.made w.count (first_machine s.program n r) i.machine w.last (history s.run r) (history C r) i.advances w.advances
          (sym (e ∙ append-nil (history C r))) last.apart) (cases_lt 0 i.k))
      by_later (y ∷ later) e sends = absurd (no_more y later e sends.0)

  has_end : (r : ℕ) → r < n → HasEnd s o r
  has_end r low end.Halted there = at_end r end.Halted low there (λ w e. halts w e)
  has_end r low (end.Faulted k) there = at_end r (end.Faulted k) low there (λ w e. faults w k e)
  has_end r low end.Stalled there = at_end r end.Stalled low there (λ w e. waits w e)
  has_end r low end.Unfinished there =
      let i = now r low in
      (machine_want i.machine, rw i.stands (asks i.machine), tt)

  -- where an audit can't go on it has come to the outcome
  all_reached : AreReached s o
  all_reached r low =
      let g = through r in
      record {
        row = λ events there.
            outcome.rows r events there ∙ sym (ap (λ h. events_from 0 h) g.whole ∙ events_of_sends (history C r) g.later g.sends);
        lines = outcome.lines r ∙ sym (ap (λ h. prints_from 0 h) g.whole ∙ prints_of_sends (history C r) g.later g.sends);
        end = has_end r low;
      }

-- the same, of some run
pub comes_to : (o : OutcomeValue) (s : SimValue) (left : List ℕ) (steps : ℕ) → Simulates s → IsWithin o s → length left ≡ length s.machines
    → ((r k : ℕ) → slice_get left r ≡ Some k → HasLeft s r steps k) → AreStuck o left s → IsReachable s.program (length s.machines) o steps → AreReached s o
comes_to o s left steps simulates within width counted stuck reachable =
    all_reached o s left steps reachable.0 simulates within width counted stuck reachable.1 reachable.2
