-- Acts that are made: a rank that makes an act which the outcome has next keeps to the outcome, and each step and act of a rank is
-- counted.
use Rattle.std.proofs.Common.{◌≡◌, ◌≢◌, ℕ, ℤ, suc, ◌+◌, ◌<◌, ◌≤◌, List, [], ◌∷◌, ◌++◌, Option, Some, length, slice_get, slice_set, ◌⊎◌, inl, inr}
use Rattle.std.proofs.Common.{refl, sym, ap, subst, ◌∙◌, arith, length-set}
use Rattle.std.specs.Prelude.{IsSomeAnd}
use Rattle.std.proofs.lemmas.Bool.{cases_eq}
use Rattle.std.proofs.lemmas.List.{append-nil, length_push}
use Rattle.std.proofs.lemmas.Option.{slice_get_within}
use Rattle.limits.specs.Limits.{greatest_clock}
use Rattle.event_logger.specs.Sequential.Event.{EventValue, IsEvent}
use Rattle.event_logger.specs.declared.sequential.kind.Kind.{Kind}
use Rattle.rank_language.specs.Program.{ProgramValue}
use Rattle.rank_machine.specs.declared.want.Want.{Want}
use Rattle.rank_machine.specs.declared.want.Want.TheVariants as want
use Rattle.rank_machine.specs.Wants.{payload}
use Rattle.rank_machine.specs.Acts.{Act, Message, prints, Fits}
use Rattle.rank_machine.specs.Machine.{MachineValue, state_of, Strides}
use Rattle.rank_machine.proofs.Striding.{no_stride}
use Rattle.crash_free.specs.declared.choice.Choice.{Choice}
use Rattle.crash_free.specs.declared.choice.Choice.TheVariants as choice
use Rattle.crash_free.specs.Runs.{Passed, history, printed, looked_up}
use Rattle.crash_free.specs.Sim.{SimValue, meaning, inbound_of, with_act, Allows}
use Rattle.crash_free.specs.Inside.{GoesInside}
use Rattle.crash_free.specs.Wanted.{WantsAt}
use Rattle.crash_free.specs.Parts.{IsBeginning}
use Rattle.crash_free.specs.Advances.{Advances, first_machine}
use Rattle.crash_free.proofs.Lists.{history-own, history-other, printed-own, printed-other}
use Rattle.crash_free.proofs.Keeping.{set_there, set_apart}
use Rattle.crash_free.proofs.Advancing.{Advances-act, Advances-stride}
use Rattle.audit.specs.Outcome.{OutcomeValue, lines_of}
use Rattle.audit.specs.Rows.{row, event_at, expand}
use Rattle.audit.specs.Audits.{IsSendTo, Suits, Repeats}
use Rattle.audit.specs.Following.{IsSendAct}
use Rattle.audit.specs.Ahead.{Spends}
use Rattle.audit.specs.Playing.{IsWithin, IsNextEvent, IsNextLine, Plays}
use Rattle.audit.proofs.Rows.{row-other, row_of_effect, row_one_more, event_prints_none}
use Rattle.audit.proofs.Steps.{Did, repeated}
use Rattle.audit.proofs.Fitting.{send_fits, print_fits}
use Rattle.audit.proofs.Growing.{send_is_effect, no_line}
use Rattle.audit.proofs.Picking.{beginning_of_next}
use Rattle.audit.proofs.Reaching.{some_there}
use Rattle.audit.proofs.Acting.{Acted, acted}

-- what the outcome has of a rank begins with what the run has after this act, if it did before
pub record KeepsTo (o : OutcomeValue) (s : SimValue) (r : ℕ) (act : Act) : Type 0 where
  pub row : (events : List EventValue) → slice_get o.rows r ≡ Some events → IsBeginning (row s.run r) (expand events)
      → IsBeginning (row (record { rank = r; act = act } ∷ s.run) r) (expand events)
  pub lines : IsBeginning (printed s.run r) (lines_of r o.lines) → IsBeginning (printed (record { rank = r; act = act } ∷ s.run) r) (lines_of r o.lines)

-- so does what the outcome has of each rank
within_after : (o : OutcomeValue) (s : SimValue) (r : ℕ) (m' : MachineValue) (act : Act) → KeepsTo o s r act → IsWithin o s
    → IsWithin o (with_act s r m' act)
within_after o s r m' act keeps within = record {
  rows = λ q events there. of_rows q events there (cases_eq r q);
  lines = λ q. of_lines q (cases_eq r q);
}
  where
    of_rows : (q : ℕ) (events : List EventValue) → slice_get o.rows q ≡ Some events → (r ≡ q) ⊎ (r ≡ q → ⊥)
        → IsBeginning (row (record { rank = r; act = act } ∷ s.run) q) (expand events)
    of_rows q events there (inl own) =
        subst (λ z. IsBeginning (row (record { rank = r; act = act } ∷ s.run) z) (expand events)) own
        (keeps.row events (ap (slice_get o.rows) own ∙ there) (subst (λ z. IsBeginning (row s.run z) (expand events)) (sym own) (within.rows q events there)))
    of_rows q events there (inr apart) =
        subst (λ es. IsBeginning es (expand events)) (sym (row-other s.run (record { rank = r; act = act }) q apart)) (within.rows q events there)

    of_lines : (q : ℕ) → (r ≡ q) ⊎ (r ≡ q → ⊥) → IsBeginning (printed (record { rank = r; act = act } ∷ s.run) q) (lines_of q o.lines)
    of_lines q (inl own) =
        subst (λ z. IsBeginning (printed (record { rank = r; act = act } ∷ s.run) z) (lines_of z o.lines)) own (keeps.lines (within.lines r))
    of_lines q (inr apart) =
        subst (λ ls. IsBeginning ls (lines_of q o.lines)) (sym (printed-other s.run (record { rank = r; act = act }) q apart)) (within.lines q)

-- an act is one step of its rank
pub spends_act : (s s' : SimValue) (r : ℕ) (w : Want) (c : Choice) → (a : Acted s r w c s') → length (history s.run r) + 1 ≤ greatest_clock → (k : ℕ)
    → Spends r (k + 1) k s s'
spends_act s s' r w c a clocked k = subst (λ z. Spends r (k + 1) k s z) (sym a.now) spent
  where
    p : Passed
    p = record { rank = r; act = a.act }

    low : r < length s.machines
    low = slice_get_within s.machines r a.machine a.there

    width : length (slice_set s.machines r a.after) ≡ length s.machines
    width = length-set s.machines r a.after

    spent : Spends r (k + 1) k s (with_act s r a.after a.act)
    spent = record {
      own = λ total has.
          let sum = has.sum in
          let first = first_machine s.program (length s.machines) r in
          let before = subst (λ z. IsSomeAnd z (λ m. Advances has.made first (history s.run r) m)) a.there has.advances in
          let found : Act × Option Message = (a.act, looked_up (inbound_of s.run r) a.act) in
          let further =
          Advances-act has.made first a.machine a.after (history s.run r) found before
          (subst (λ v. Fits v (payload (state_of a.machine)) found.0 found.1) (sym a.asks.at_want) a.fits) a.makes_it in
          record {
            made = suc has.made;
            sum = omega (arith, sum);
            advances =
                rw (set_there s.machines r a.after low, width, history-own s.run r a.act) further;
            clocked = rw (history-own s.run r a.act, length_push (history s.run r) found) clocked;
          };
      others = λ q total i apart has. record {
        made = has.made;
        sum = has.sum;
        advances =
            rw (set_apart s.machines r a.after q apart, width, history-other s.run p q (λ e. apart (sym e))) has.advances;
        clocked = rw (history-other s.run p q (λ e. apart (sym e))) has.clocked;
      };
    }

-- by which it keeps to an outcome that has the act next
plays_act : (o : OutcomeValue) (s s' : SimValue) (r : ℕ) (w : Want) (c : Choice) → (a : Acted s r w c s') → KeepsTo o s r a.act
    → length (history s.run r) + 1 ≤ greatest_clock → (k : ℕ) → Plays o r (k + 1) k s s'
plays_act o s s' r w c a keeps clocked k =
    let spends = spends_act s s' r w c a clocked k in
    record {
      within = subst (λ z. IsWithin o s → IsWithin o z) (sym a.now) (within_after o s r a.after a.act keeps);
      own = spends.own;
      others = spends.others;
    }

-- a stride is as many steps
pub plays_stride : (o : OutcomeValue) (s s' : SimValue) (r made : ℕ) → GoesInside s r made s' → (k : ℕ) → Plays o r (k + made) k s s'
plays_stride o s s' r made inside k = record {
  within = λ within. record {
    rows = λ q events there. subst (λ C. IsBeginning (row C q) (expand events)) (sym inside.run) (within.rows q events there);
    lines = λ q. subst (λ C. IsBeginning (printed C q) (lines_of q o.lines)) (sym inside.run) (within.lines q);
  };
  own = λ total has.
      let sum = has.sum in
      let m = some_there (slice_get s.machines r) (λ m. IsSomeAnd (slice_get s'.machines r) (λ m'. Strides made m m')) inside.strides in
      let m' = some_there (slice_get s'.machines r) (λ m'. Strides made m.0 m') m.2 in
      let before : Advances has.made (first_machine s.program (length s.machines) r) (history s.run r) m.0 =
      subst (λ z. IsSomeAnd z (λ m. Advances has.made (first_machine s.program (length s.machines) r) (history s.run r) m)) m.1 has.advances in
      record {
        made = has.made + made;
        sum = omega (arith, sum);
        advances =
            rw (m'.1, inside.program, inside.ranks, inside.run)
            (Advances-stride has.made made (first_machine s.program (length s.machines) r) m.0 m'.0 (history s.run r) before m'.2);
        clocked = rw inside.run has.clocked;
      };
  others = λ q total i apart has. record {
    made = has.made;
    sum = has.sum;
    advances = rw (inside.others q apart, inside.program, inside.ranks, inside.run) has.advances;
    clocked = rw inside.run has.clocked;
  };
}

-- one after another
pub plays_on : (o : OutcomeValue) (r k j i : ℕ) (s mid s' : SimValue) → Plays o r k j s mid → Plays o r j i mid s' → Plays o r k i s s'
plays_on o r k j i s mid s' one two = record {
  within = λ w. two.within (one.within w);
  own = λ total h. two.own total (one.own total h);
  others = λ q total l apart h. two.others q total l apart (one.others q total l apart h);
}

-- a simulation that a stride of no steps led to
pub same_inside : (s s' : SimValue) (r made : ℕ) → GoesInside s r made s' → made ≡ 0 → s' ≡ s
same_inside s s' r made inside none =
    let machines : s'.machines ≡ s.machines = same_list s'.machines s.machines inside.ranks (λ q. at q (cases_eq q r)) in
    let program = inside.program in
    let run = inside.run in
    rebuilt program machines run
  where
    same_list : {A : Type 0} (xs ys : List A) → length xs ≡ length ys → ((i : ℕ) → slice_get xs i ≡ slice_get ys i) → xs ≡ ys
    same_list [] [] e f = refl
    same_list [] (y ∷ ys) e f = absurd (omega (arith, e))
    same_list (x ∷ xs) [] e f = absurd (omega (arith, e))
    same_list (x ∷ xs) (y ∷ ys) e f =
        let first : Some x ≡ Some y = f 0 in
        let rest : xs ≡ ys = same_list xs ys (omega (arith, e)) (λ i. f (suc i)) in
        cc

    at : (q : ℕ) → (q ≡ r) ⊎ (q ≡ r → ⊥) → slice_get s'.machines q ≡ slice_get s.machines q
    at q (inl own) =
        let m = some_there (slice_get s.machines r) (λ m. IsSomeAnd (slice_get s'.machines r) (λ m'. Strides made m m')) inside.strides in
        let m' = some_there (slice_get s'.machines r) (λ m'. Strides made m.0 m') m.2 in
        rw own (m'.1 ∙ ap Some (no_stride made m.0 m'.0 m'.2 none) ∙ sym m.1)
    at q (inr apart) = inside.others q apart

    rebuilt : s'.program ≡ s.program → s'.machines ≡ s.machines → s'.run ≡ s.run → s' ≡ s
    rebuilt p m c = value_same s'.program s.program s'.machines s.machines s'.run s.run p m c
      where
        value_same : (p q : ProgramValue) (m l : List MachineValue) (C D : List Passed) → p ≡ q → m ≡ l → C ≡ D
            → ◌≡◌ {A = SimValue} (record { program = p; machines = m; run = C }) (record { program = q; machines = l; run = D })
        value_same p q m l C D e f g = rw (e, f, g) refl

-- a send keeps to each outcome
keeps_send : (o : OutcomeValue) (s : SimValue) (r : ℕ) (a : Act) → IsSendAct a → KeepsTo o s r a
keeps_send o s r a i = record {
  row = λ events there b. subst (λ es. IsBeginning es (expand events)) (sym (row_of_effect s.run r r a (send_is_effect a i))) b;
  lines = λ b.
      subst (λ ls. IsBeginning ls (lines_of r o.lines))
      (sym (printed-own s.run r a ∙ ap (λ z. printed s.run r ++ z) (no_line (length (history s.run r) + 1) a i) ∙ append-nil (printed s.run r))) b;
}

-- a print keeps to an outcome that has its line next
keeps_print : (o : OutcomeValue) (s : SimValue) (r : ℕ) (value : ℤ) → IsNextLine o s r value → KeepsTo o s r (prints value)
keeps_print o s r value next = record {
  row = λ events there b. subst (λ es. IsBeginning es (expand events)) (sym (row_of_effect s.run r r (prints value) tt)) b;
  lines = λ b.
      subst (λ ls. IsBeginning ls (lines_of r o.lines)) (sym (printed-own s.run r (prints value)))
      (beginning_of_next (printed s.run r) (lines_of r o.lines) (length (history s.run r) + 1, value) b next);
}

-- an act that is an event keeps to an outcome that has the event next
keeps_event : (o : OutcomeValue) (s : SimValue) (r : ℕ) (a : Act) (e : EventValue)
    → event_at (length (history s.run r) + 1) a (looked_up (inbound_of s.run r) a) ≡ Some e
    → IsNextEvent o s r e → KeepsTo o s r a
keeps_event o s r a e is next = record {
  row = λ events there b.
      let at : slice_get (expand events) (length (row s.run r)) ≡ Some e =
      subst (λ z. IsSomeAnd z (λ events. slice_get (expand events) (length (row s.run r)) ≡ Some e)) there next in
      subst (λ es. IsBeginning es (expand events)) (sym (row_one_more s.run r a e is)) (beginning_of_next (row s.run r) (expand events) e b at);
  lines = λ b.
      subst (λ ls. IsBeginning ls (lines_of r o.lines))
      (sym (printed-own s.run r a ∙ ap (λ z. printed s.run r ++ z)
      (event_prints_none (length (history s.run r) + 1) (length (history s.run r) + 1) a (looked_up (inbound_of s.run r) a) e is)
      ∙ append-nil (printed s.run r))) b;
}

-- where a send is wanted, no step of its own is
pub send_apart : (d : ℕ) (w : Want) → IsSendTo d w → w ≢ want.Internal
send_apart d w to e = subst (λ v. IsSendTo d v) e to

-- a send that is made
pub plays_send : (s s' : SimValue) (r d : ℕ) (w : Want) → WantsAt s.machines r w → IsSendTo d w → Allows s r choice.Next s'
    → length (history s.run r) + 1 ≤ greatest_clock → (o : OutcomeValue) (k : ℕ) → Plays o r (k + 1) k s s'
plays_send s s' r d w wanted to allows clocked o k = plays_act o s s' r w choice.Next a (keeps_send o s r a.act (is_send w to a.fits)) clocked k
  where
    a : Acted s r w choice.Next s'
    a = acted s s' r choice.Next w wanted (send_apart d w to) allows

    is_send : (w : Want) → IsSendTo d w → Fits w (payload (state_of a.machine)) a.act (looked_up (inbound_of s.run r) a.act) → IsSendAct a.act
    is_send (want.Send dest context tag) to f =
        subst IsSendAct (sym (send_fits dest context tag (payload (state_of a.machine)) a.act (looked_up (inbound_of s.run r) a.act) f).0) tt
    is_send want.Internal to f = absurd to
    is_send (want.Receive w) to f = absurd to
    is_send (want.Probe w) to f = absurd to
    is_send (want.TryProbe w) to f = absurd to
    is_send (want.Print v) to f = absurd to
    is_send want.Halted to f = absurd to
    is_send (want.Faulted k) to f = absurd to

-- a print that is made
pub plays_print : (s s' : SimValue) (r : ℕ) (value : ℤ) → WantsAt s.machines r (want.Print value) → Allows s r choice.Next s'
    → length (history s.run r) + 1 ≤ greatest_clock → (o : OutcomeValue) → IsNextLine o s r value → (k : ℕ) → Plays o r (k + 1) k s s'
plays_print s s' r value wanted allows clocked o next k =
    let a = acted s s' r choice.Next (want.Print value) wanted (λ e. cc) allows in
    let is = (print_fits value (payload (state_of a.machine)) a.act (looked_up (inbound_of s.run r) a.act) a.fits).0 in
    plays_act o s s' r (want.Print value) choice.Next a (subst (λ x. KeepsTo o s r x) (sym is) (keeps_print o s r value next)) clocked k

-- what suits a step of its own is no event
pub suits_apart : (w : Want) (k : Kind) → Suits w k → w ≢ want.Internal
suits_apart w k suits e = subst (λ v. Suits v k) e suits

-- a reception, a hit or a miss that is made
pub plays_event : (s s' : SimValue) (r : ℕ) (w : Want) (x : Choice) (e : EventValue) → WantsAt s.machines r w → Suits w e.kind → Repeats s.run r e x → IsEvent e
    → e.receiver_clock ≡ length (history s.run r) + 1 → Allows s r x s' → length (history s.run r) + 1 ≤ greatest_clock → (o : OutcomeValue)
    → IsNextEvent o s r e → (k : ℕ) → Plays o r (k + 1) k s s'
plays_event s s' r w x e wanted suits repeats is clock allows clocked o next k =
    let a = acted s s' r x w wanted (suits_apart w e.kind suits) allows in
    let did : Did (meaning w (payload (state_of a.machine)) x) s r s' =
    subst (λ M. Did M s r s') (sym a.means) (ap (λ (v : SimValue). v.program) a.now, ap (λ (v : SimValue). v.run) a.now) in
    let i = repeated s s' r e.receiver_clock w e.kind e.sender e.sender_clock x (payload (state_of a.machine)) suits repeats is.message did in
    let same : record { rank = r; act = i.act } ∷ s.run ≡ record { rank = r; act = a.act } ∷ s.run =
    sym i.run ∙ ap (λ (v : SimValue). v.run) a.now in
    let act : i.act ≡ a.act = first_act i.act a.act s.run same in
    let event : event_at (length (history s.run r) + 1) a.act (looked_up (inbound_of s.run r) a.act) ≡ Some e =
    subst (λ z. event_at (length (history s.run r) + 1) z (looked_up (inbound_of s.run r) z) ≡ Some e) act
    (ap (λ c. event_at c i.act (looked_up (inbound_of s.run r) i.act)) (sym clock) ∙ i.event) in
    plays_act o s s' r w x a (keeps_event o s r a.act e event next) clocked k
  where
    first_act : (a b : Act) (C : List Passed) → record { rank = r; act = a } ∷ C ≡ record { rank = r; act = b } ∷ C → a ≡ b
    first_act a b C same = let p : ◌≡◌ {A = Passed} (record { rank = r; act = a }) (record { rank = r; act = b }) = cc in ap (λ (z : Passed). z.act) p
