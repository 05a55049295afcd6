-- An audit goes on before there is an outcome: each step and act of a rank is counted, and its row has its events.
use Rattle.std.proofs.Common.{◌≡◌, ◌≢◌, ℕ, ℤ, suc, ◌+◌, ◌-◌, ◌<◌, ◌≤◌, List, [], ◌∷◌, Option, Some, length, slice_get, slice_set, replicate, ◌⊎◌, inl, inr}
use Rattle.std.proofs.Common.{refl, sym, ap, subst, ◌∙◌, arith, length-set}
use Rattle.std.specs.Prelude.{Result, Ok, Err, IfOk}
use Rattle.std.proofs.lemmas.Bool.{cases_eq, cases_lt}
use Rattle.std.proofs.lemmas.List.{length-replicate}
use Rattle.std.proofs.lemmas.Option.{slice_get_within}
use Rattle.limits.specs.Limits.{greatest_clock}
use Rattle.event_logger.specs.Sequential.Event.{EventValue, IsEvent}
use Rattle.rank_machine.specs.declared.want.Want.{Want}
use Rattle.rank_machine.specs.declared.want.Want.TheVariants as want
use Rattle.rank_machine.specs.Wants.{payload}
use Rattle.rank_machine.specs.Acts.{Act, Message, Fits}
use Rattle.rank_machine.specs.Machine.{state_of}
use Rattle.crash_free.specs.declared.choice.Choice.{Choice}
use Rattle.crash_free.specs.declared.choice.Choice.TheVariants as choice
use Rattle.crash_free.specs.Runs.{history, looked_up, printed, prints_from}
use Rattle.crash_free.specs.Sim.{SimValue, AreBegun, Simulates, meaning, inbound_of, start_of, Allows}
use Rattle.crash_free.specs.Parts.{IsBeginning}
use Rattle.crash_free.specs.Wanted.{WantsAt}
use Rattle.crash_free.proofs.Keeping.{set_cases}
use Rattle.crash_free.proofs.Taking.{no_history}
use Rattle.audit.specs.Ahead.{AddsEvent, AheadValue, IsAhead, KeepsRows, ProgressValue, Spends}
use Rattle.audit.specs.Outcome.{OutcomeValue, lines_of}
use Rattle.audit.specs.Playing.{HasLeft, IsWithin, Plays}
use Rattle.audit.specs.Rows.{row, event_at, expand}
use Rattle.audit.specs.Audits.{Keeps, GoesTo, IsSendTo, Suits, Repeats}
use Rattle.audit.specs.Following.{IsSendAct}
use Rattle.audit.proofs.Rows.{row-other, row_of_effect, row_one_more}
use Rattle.audit.proofs.Steps.{Did, repeated}
use Rattle.audit.proofs.Fitting.{send_fits, print_fits}
use Rattle.audit.proofs.Growing.{send_is_effect}
use Rattle.audit.proofs.Playing.{send_apart, spends_act, suits_apart}
use Rattle.audit.proofs.Acting.{acted}
use Rattle.audit.proofs.Confirming.{begun_left, within_none}
use Rattle.audit.proofs.Traces.{replicate_each}

-- what fits a send is a send
is_send : (d : ℕ) (w : Want) (items : List ℤ) (act : Act) (found : Option Message) → IsSendTo d w → Fits w items act found → IsSendAct act
is_send d (want.Send dest context tag) items act found to f = subst IsSendAct (sym (send_fits dest context tag items act found f).0) tt
is_send d want.Internal items act found to f = absurd to
is_send d (want.Receive w) items act found to f = absurd to
is_send d (want.Probe w) items act found to f = absurd to
is_send d (want.TryProbe w) items act found to f = absurd to
is_send d (want.Print v) items act found to f = absurd to
is_send d want.Halted items act found to f = absurd to
is_send d (want.Faulted k) items act found to f = absurd to

-- a send leaves all rows
pub rows_sent : (s s' : SimValue) (r d : ℕ) (w : Want) → WantsAt s.machines r w → IsSendTo d w → Allows s r choice.Next s' → KeepsRows s s'
rows_sent s s' r d w wanted to allows q =
    let a = acted s s' r choice.Next w wanted (send_apart d w to) allows in
    ap (λ (v : SimValue). row v.run q) a.now
    ∙ row_of_effect s.run r q a.act
    (send_is_effect a.act (is_send d w (payload (state_of a.machine)) a.act (looked_up (inbound_of s.run r) a.act) to a.fits))

-- so does a print
pub rows_printed : (s s' : SimValue) (r : ℕ) (value : ℤ) → WantsAt s.machines r (want.Print value) → Allows s r choice.Next s' → KeepsRows s s'
rows_printed s s' r value wanted allows q =
    let a = acted s s' r choice.Next (want.Print value) wanted (λ e. cc) allows in
    let is = (print_fits value (payload (state_of a.machine)) a.act (looked_up (inbound_of s.run r) a.act) a.fits).0 in
    ap (λ (v : SimValue). row v.run q) a.now ∙ row_of_effect s.run r q a.act (rw is tt)

-- a reception, a hit or a miss comes to the row of its rank
pub event_added : (s s' : SimValue) (r : ℕ) (w : Want) (x : Choice) (e : EventValue) → WantsAt s.machines r w → Suits w e.kind → Repeats s.run r e x → IsEvent e
    → e.receiver_clock ≡ length (history s.run r) + 1 → Allows s r x s' → AddsEvent r e s s'
event_added s s' r w x e wanted suits repeats is clock allows =
    let a = acted s s' r x w wanted (suits_apart w e.kind suits) allows in
    let did : Did (meaning w (payload (state_of a.machine)) x) s r s' =
    subst (λ M. Did M s r s') (sym a.means) (ap (λ (v : SimValue). v.program) a.now, ap (λ (v : SimValue). v.run) a.now) in
    let i = repeated s s' r e.receiver_clock w e.kind e.sender e.sender_clock x (payload (state_of a.machine)) suits repeats is.message did in
    let event : event_at (length (history s.run r) + 1) i.act (looked_up (inbound_of s.run r) i.act) ≡ Some e =
    ap (λ c. event_at c i.act (looked_up (inbound_of s.run r) i.act)) (sym clock) ∙ i.event in
    record {
      own = ap (λ C. row C r) i.run ∙ row_one_more s.run r i.act e event;
      others = λ q apart. ap (λ C. row C q) i.run ∙ row-other s.run (record { rank = r; act = i.act }) q (λ e. apart (sym e));
    }

-- who plays by some outcome spends as many steps
spends_as : (o : OutcomeValue) (r k j : ℕ) (s s' : SimValue) → Plays o r k j s s' → Spends r k j s s'
spends_as o r k j s s' plays = record { own = plays.own; others = plays.others }

-- of what isn't a step of its own an allowed choice is one step
pub spends_allowed : (s s' : SimValue) (r : ℕ) (c : Choice) (w : Want) → WantsAt s.machines r w → w ≢ want.Internal → Allows s r c s'
    → length (history s.run r) + 1 ≤ greatest_clock → (k : ℕ) → Spends r (k + 1) k s s'
spends_allowed s s' r c w wanted apart allows clocked k = spends_act s s' r w c (acted s s' r c w wanted apart allows) clocked k

-- one after another
pub spends_on : (r k j i : ℕ) (s mid s' : SimValue) → Spends r k j s mid → Spends r j i mid s' → Spends r k i s s'
spends_on r k j i s mid s' one two = record {
  own = λ total h. two.own total (one.own total h);
  others = λ q total l apart h. two.others q total l apart (one.others q total l apart h);
}

-- steps of its own behind that
pub spends_stride : (s mid s' : SimValue) (r left now made : ℕ) → made ≤ now → Spends r left now s mid → ((o : OutcomeValue) (k : ℕ) → Plays o r (k + made) k mid s')
    → Spends r left (now - made) s s'
spends_stride s mid s' r left now made few one plays =
    let all : now - made + made ≡ now = omega (arith, few) in
    let none : OutcomeValue = record { rows = []; lines = []; ends = [] } in
    spends_on r left now (now - made) s mid s' one
    (subst (λ k. Spends r k (now - made) mid s') all (spends_as none r (now - made + made) (now - made) mid s' (plays none (now - made))))

-- before the first step
pub ahead_none : (a : AheadValue) (p : ProgressValue) → Keeps p.sim p.traces → p.sim.program ≡ a.program → length p.sim.machines ≡ a.ranks
    → AreBegun a.program a.ranks p.sim.machines → p.sim.run ≡ [] → p.left ≡ replicate a.ranks a.steps → p.taken ≡ replicate a.ranks [] → IsAhead a p
ahead_none a p keeps same size begun run each none = record {
  program = same;
  size = size;
  progress = record {
    keeps = keeps;
    left = wide ∙ sym size;
    taken = ap length none ∙ length-replicate a.ranks [] ∙ sym size;
    rows = λ r events there. replicate_each a.ranks [] r events (ap (λ es. slice_get es r) (sym none) ∙ there) ∙ sym (ap (λ C. row C r) run);
  };
  counts = λ r k there.
      let low = slice_get_within p.left r k there in
      let all : k ≡ a.steps = replicate_each a.ranks a.steps r k (ap (λ ks. slice_get ks r) (sym each) ∙ there) in
      subst (λ i. HasLeft p.sim r a.steps i) (sym all) (begun_left p.sim r a.steps begins run (omega (arith, low, wide, size)));
}
  where
    wide : length p.left ≡ a.ranks
    wide = ap length each ∙ length-replicate a.ranks a.steps

    begins : AreBegun p.sim.program (length p.sim.machines) p.sim.machines
    begins = rw (same, size) begun

-- one rank goes on
pub ahead_on : (a : AheadValue) (p p' : ProgressValue) (r k j : ℕ) → GoesTo p.sim p'.sim p'.traces → slice_get p.left r ≡ Some k → Spends r k j p.sim p'.sim
    → p'.left ≡ slice_set p.left r j → p'.taken ≡ slice_set p.taken r (row p'.sim.run r) → ((q : ℕ) → q ≢ r → row p'.sim.run q ≡ row p.sim.run q)
    → IsAhead a p → IsAhead a p'
ahead_on a p p' r k j goes at spends left taken others ahead = record {
  program = goes.program ∙ ahead.program;
  size = goes.size ∙ ahead.size;
  progress = record {
    keeps = goes.keeps;
    left = ap length left ∙ length-set p.left r j ∙ ahead.progress.left ∙ sym goes.size;
    taken = ap length taken ∙ length-set p.taken r (row p'.sim.run r) ∙ ahead.progress.taken ∙ sym goes.size;
    rows = λ q events there. row_at q events (set_cases p.taken r (row p'.sim.run r) q events (ap (λ es. slice_get es q) (sym taken) ∙ there));
  };
  counts = λ q i there. count_at q i (set_cases p.left r j q i (ap (λ ks. slice_get ks q) (sym left) ∙ there));
}
  where
    row_at : (q : ℕ) (events : List EventValue) → ((r ≡ q) × (events ≡ row p'.sim.run r)) ⊎ ((r ≡ q → ⊥) × (slice_get p.taken q ≡ Some events))
        → events ≡ row p'.sim.run q
    row_at q events (inl own) = own.1 ∙ ap (λ z. row p'.sim.run z) own.0
    row_at q events (inr apart) = ahead.progress.rows q events apart.1 ∙ sym (others q (λ e. apart.0 (sym e)))

    count_at : (q i : ℕ) → ((r ≡ q) × (i ≡ j)) ⊎ ((r ≡ q → ⊥) × (slice_get p.left q ≡ Some i)) → HasLeft p'.sim q a.steps i
    count_at q i (inl own) =
        subst (λ l. HasLeft p'.sim q a.steps l) (sym own.1) (subst (λ z. HasLeft p'.sim z a.steps j) own.0 (spends.own a.steps (ahead.counts r k at)))
    count_at q i (inr apart) = spends.others q a.steps i (λ e. apart.0 (sym e)) (ahead.counts q i apart.1)

-- what each row and the lines of each rank of the run begin with is within the outcome
pub within_all : (o : OutcomeValue) (s : SimValue) → Simulates s
    → ((r : ℕ) (events : List EventValue) → r < length o.rows → slice_get o.rows r ≡ Some events → IsBeginning (row s.run r) (expand events))
    → ((r : ℕ) → r < length s.machines → IsBeginning (printed s.run r) (lines_of r o.lines)) → IsWithin o s
within_all o s simulates rows lines = record {
  rows = λ r events there. rows r events (slice_get_within o.rows r events there) there;
  lines = λ r. lines_at r (cases_lt r (length s.machines));
}
  where
    lines_at : (r : ℕ) → (r < length s.machines) ⊎ (length s.machines ≤ r) → IsBeginning (printed s.run r) (lines_of r o.lines)
    lines_at r (inl low) = lines r low
    lines_at r (inr beyond) =
        let none : printed s.run r ≡ [] =
        ap (λ h. prints_from 0 h) (no_history (start_of s.program (length s.machines)) (length s.machines) s.run simulates.is_run r beyond) in
        subst (λ ls. IsBeginning ls (lines_of r o.lines)) (sym none) (lines_of r o.lines, refl)

-- so is a run without acts
pub within_new : {E : Type 0} (o : OutcomeValue) (result : Result ProgressValue E) → IfOk result (λ p. p.sim.run ≡ []) → IfOk result (λ p. IsWithin o p.sim)
within_new o (Ok p) run = within_none o p.sim run
within_new o (Err e) run = tt

-- one rank more whose row begins so
pub one_row_more : (P : (r : ℕ) → List EventValue → Type 0) (rows : List (List EventValue)) (n : ℕ)
    → ((r : ℕ) (events : List EventValue) → r < n → slice_get rows r ≡ Some events → P r events) → ((events : List EventValue) → slice_get rows n ≡ Some events → P n events)
    → (r : ℕ) (events : List EventValue) → r < n + 1 → slice_get rows r ≡ Some events → P r events
one_row_more P rows n before this r events low there = go (cases_eq r n)
  where
    go : (r ≡ n) ⊎ (r ≡ n → ⊥) → P r events
    go (inl e) = subst (λ z. P z events) (sym e) (this events (ap (λ z. slice_get rows z) (sym e) ∙ there))
    go (inr apart) = before r events (omega (arith, low, apart)) there

-- one rank more whose lines begin so
pub one_rank_more : (P : ℕ → Type 0) (n : ℕ) → ((r : ℕ) → r < n → P r) → P n → (r : ℕ) → r < n + 1 → P r
one_rank_more P n before this r low = go (cases_eq r n)
  where
    go : (r ≡ n) ⊎ (r ≡ n → ⊥) → P r
    go (inl e) = subst P (sym e) this
    go (inr apart) = before r (omega (arith, low, apart))

-- a list that is the same at each place of another begins with it
pub begins_by : {A : Type 0} (xs ys : List A) → ((i : ℕ) → i < length xs → slice_get ys i ≡ slice_get xs i) → IsBeginning xs ys
begins_by [] ys same = (ys, refl)
begins_by (x ∷ xs) [] same = absurd (let first = same 0 (omega arith) in cc)
begins_by (x ∷ xs) (y ∷ ys) same =
    let rest = begins_by xs ys (λ i low. same (suc i) (omega (arith, low))) in
    let first : Some y ≡ Some x = same 0 (omega arith) in
    let head : y ≡ x = cc in
    (rest.0, ap (λ z. z ∷ ys) head ∙ ap (λ zs. x ∷ zs) rest.1)
