-- What a simulation shows of what may follow its run: each act that a rank may make answers what its machine asks for, once it asks for no
-- step of its own.
use Rattle.std.proofs.Common.{◌≡◌, ◌≢◌, ℕ, ℤ, zero, suc, ◌<◌, ◌≤◌, List, [], Option, Some, None, length, slice_get, ◌⊎◌, inl, inr, refl, sym, ap, subst, ◌∙◌}
use Rattle.std.specs.Prelude.{map}
use Rattle.std.proofs.lemmas.Bool.{cases_lt}
use Rattle.std.proofs.lemmas.Option.{slice_get_within}
use Rattle.matching.specs.declared.selector.Selector.{Selector}
use Rattle.rank_machine.specs.declared.want.Want.{Want}
use Rattle.rank_machine.specs.declared.want.Want.TheVariants as want
use Rattle.rank_machine.specs.States.{State, Inners, inner}
use Rattle.rank_machine.specs.Wants.{wants, payload}
use Rattle.rank_machine.specs.Acts.{Act, Message, takes, hits, misses, Fits}
use Rattle.rank_machine.specs.Machine.{MachineValue, state_of}
use Rattle.rank_machine.proofs.Determined.{still, inner_wants, same_stop, same_runs}
use Rattle.crash_free.specs.Runs.{Passed, at_place, history, sent, sends_from, looked_up, IsEligible, IsFree, MayMake, prints_from, IsRun}
use Rattle.crash_free.specs.Sim.{SimValue, Simulates, start_of, inbound_of}
use Rattle.crash_free.specs.Wanted.{Wants}
use Rattle.crash_free.proofs.Choosing.{wants_it}
use Rattle.crash_free.proofs.Taking.{no_history}
use Rattle.audit.proofs.Fitting.{IsHit, take_fits, hit_fits, try_fits}
use Rattle.audit.proofs.Offering.{no_inner}
use Rattle.audit.specs.declared.outcome.End.{End}
use Rattle.audit.specs.FinalRuns.Maximal.{MayFollow, RankOutcome, IsRankOutcome, end_of}

module _ (s : SimValue) (r : ℕ) (m : MachineValue) (w : Want) (simulates : Simulates s) (there : slice_get s.machines r ≡ Some m) (asks : Wants m w)
    (apart : w ≢ want.Internal) where
  pub wanted : wants (state_of m) ≡ w
  wanted = wants_it m w asks (λ q. apart (sym q))

  -- an act that the rank may make is one of the state at which its machine stands
  pub stands_there : (act : Act) (may : MayMake (start_of s.program (length s.machines) r) (inbound_of s.run r) (history s.run r) act)
      → may.stands ≡ state_of m
  stands_there act may =
      let at = simulates.ranks r m there in
      let after : may.after ≡ at.0 = same_runs (start_of s.program (length s.machines) r) may.after at.0 (history s.run r) may.reached at.1 in
      same_stop (subst (λ a. Inners a may.stands) after may.inner) at.2 (still may.stands act (looked_up (inbound_of s.run r) act) may.makes)
      (no_inner (state_of m) (λ q. apart (sym wanted ∙ q)))

  -- it answers what is asked for
  pub answers : (act : Act) → MayFollow (start_of s.program (length s.machines)) (length s.machines) s.run r act
      → Fits w (payload (state_of m)) act (looked_up (inbound_of s.run r) act) × IsFree w act (inbound_of s.run r) (history s.run r)
  answers act may =
      let here = stands_there act may.1 in
      let fits = subst (λ a. Fits (wants a) (payload a) act (looked_up (inbound_of s.run r) act)) here may.1.makes in
      let free = subst (λ a. IsFree (wants a) act (inbound_of s.run r) (history s.run r)) here may.1.free in (
        subst (λ v. Fits v (payload (state_of m)) act (looked_up (inbound_of s.run r) act)) wanted fits,
        subst (λ v. IsFree v act (inbound_of s.run r) (history s.run r)) wanted free,
      )

  -- where it has ended, so is the outcome of the rank
  pub outcome_there : (x : RankOutcome) → x.lines ≡ map (λ (line : ℕ × ℤ). line.1) (prints_from 0 (history s.run r)) → end_of w ≡ Some x.end
      → IsRankOutcome (start_of s.program (length s.machines) r) (history s.run r) x
  outcome_there x lines ended =
      let at = simulates.ranks r m there in
      record {
        lines = lines;
        after = at.0;
        stands = state_of m;
        reached = at.1;
        inner = at.2;
        ended = ap end_of wanted ∙ ended;
      }

-- The next ones say which acts these are: for a receive a reception, for a probe a hit, of a message that is eligible, of a rank that there is.

-- what was sent was sent by a rank that there is
pub sender_there : (start : ℕ → State) (n : ℕ) (C : List Passed) → IsRun start n C → (q r j : ℕ) (m : Message) → at_place (sent C q r) j ≡ Some m → q < n
sender_there start n C run q r j m e = go (cases_lt q n)
  where
    nothing : (k : ℕ) → at_place {A = Message} [] k ≡ Some m → ⊥
    nothing zero f = cc
    nothing (suc k) f = cc

    go : (q < n) ⊎ (n ≤ q) → q < n
    go (inl l) = l
    go (inr high) =
        let none : history C q ≡ [] = no_history start n C run q high in
        absurd (nothing j (subst (λ h. at_place (sends_from 0 r h) j ≡ Some m) none e))

-- the act is of this kind, of a message that is eligible
pub record IsOfEligible (s : SimValue) (r : ℕ) (w : Selector) (kind : ℕ → ℕ → Act) (act : Act) : Type 0 where
  pub source : ℕ
  pub place : ℕ
  pub low : source < length s.machines
  pub eligible : IsEligible (inbound_of s.run r) (history s.run r) source place w
  pub same : act ≡ kind source place

module _ (s : SimValue) (r : ℕ) (m : MachineValue) (w : Selector) (act : Act) (simulates : Simulates s) (there : slice_get s.machines r ≡ Some m)
    (may : MayFollow (start_of s.program (length s.machines)) (length s.machines) s.run r act) where
  low_of : (q j : ℕ) → IsEligible (inbound_of s.run r) (history s.run r) q j w → q < length s.machines
  low_of q j e = sender_there (start_of s.program (length s.machines)) (length s.machines) s.run simulates.is_run q r j e.message e.there

  pub takes_eligible : Wants m (want.Receive w) → IsOfEligible s r w takes act
  takes_eligible asks =
      let a = answers s r m (want.Receive w) simulates there asks (λ q. cc) act may in
      let i = take_fits w (payload (state_of m)) act (looked_up (inbound_of s.run r) act) a.0 in
      let e : IsFree (want.Receive w) (takes i.source i.place) (inbound_of s.run r) (history s.run r) =
      subst (λ z. IsFree (want.Receive w) z (inbound_of s.run r) (history s.run r)) i.act a.1 in
      record { source = i.source; place = i.place; low = low_of i.source i.place e; eligible = e; same = i.act }

  pub hits_eligible : Wants m (want.Probe w) → IsOfEligible s r w hits act
  hits_eligible asks =
      let a = answers s r m (want.Probe w) simulates there asks (λ q. cc) act may in
      let i = hit_fits w (payload (state_of m)) act (looked_up (inbound_of s.run r) act) a.0 in
      let e : IsFree (want.Probe w) (hits i.source i.place) (inbound_of s.run r) (history s.run r) =
      subst (λ z. IsFree (want.Probe w) z (inbound_of s.run r) (history s.run r)) i.act a.1 in
      record { source = i.source; place = i.place; low = low_of i.source i.place e; eligible = e; same = i.act }

  pub tries_eligible : Wants m (want.TryProbe w) → IsOfEligible s r w hits act ⊎ (act ≡ misses)
  tries_eligible asks =
      let a = answers s r m (want.TryProbe w) simulates there asks (λ q. cc) act may in
      go a.1 (try_fits w (payload (state_of m)) act (looked_up (inbound_of s.run r) act) a.0)
    where
      go : IsFree (want.TryProbe w) act (inbound_of s.run r) (history s.run r)
          → IsHit act (looked_up (inbound_of s.run r) act) ⊎ ((act ≡ misses) × (looked_up (inbound_of s.run r) act ≡ None))
          → IsOfEligible s r w hits act ⊎ (act ≡ misses)
      go free (inl i) =
          let e : IsFree (want.TryProbe w) (hits i.source i.place) (inbound_of s.run r) (history s.run r) =
          subst (λ z. IsFree (want.TryProbe w) z (inbound_of s.run r) (history s.run r)) i.act free in
          inl (record { source = i.source; place = i.place; low = low_of i.source i.place e; eligible = e; same = i.act })
      go free (inr i) = inr i.0

-- who has halted makes no act
pub none_of_halted : (s : SimValue) (r : ℕ) (m : MachineValue) (act : Act) → Simulates s → slice_get s.machines r ≡ Some m → Wants m want.Halted
    → MayFollow (start_of s.program (length s.machines)) (length s.machines) s.run r act → ⊥
none_of_halted s r m act simulates there asks may = (answers s r m want.Halted simulates there asks (λ q. cc) act may).0

-- nor does who has faulted
pub none_of_faulted : (s : SimValue) (r : ℕ) (m : MachineValue) (fault : _) (act : Act) → Simulates s → slice_get s.machines r ≡ Some m
    → Wants m (want.Faulted fault)
    → MayFollow (start_of s.program (length s.machines)) (length s.machines) s.run r act → ⊥
none_of_faulted s r m fault act simulates there asks may = (answers s r m (want.Faulted fault) simulates there asks (λ q. cc) act may).0

-- an act that answers what is asked for, and what is free, may be made
pub may_be : (s : SimValue) (r : ℕ) (m : MachineValue) (w : Want) (act : Act) → Simulates s → slice_get s.machines r ≡ Some m → Wants m w → w ≢ want.Internal
    → Fits w (payload (state_of m)) act (looked_up (inbound_of s.run r) act) → IsFree w act (inbound_of s.run r) (history s.run r)
    → MayFollow (start_of s.program (length s.machines)) (length s.machines) s.run r act
may_be s r m w act simulates there asks apart fits free =
    let at = simulates.ranks r m there in
    let wants_it : w ≡ wants (state_of m) = sym (wanted s r m w simulates there asks apart) in (
      slice_get_within s.machines r m there,
      record {
        after = at.0;
        stands = state_of m;
        reached = at.1;
        inner = at.2;
        makes = subst (λ v. Fits v (payload (state_of m)) act (looked_up (inbound_of s.run r) act)) wants_it fits;
        free = subst (λ v. IsFree v act (inbound_of s.run r) (history s.run r)) wants_it free;
      },
    )

-- so may a reception of a message that is eligible
pub may_take : (s : SimValue) (r : ℕ) (m : MachineValue) (w : Selector) (source place : ℕ) → Simulates s → slice_get s.machines r ≡ Some m
    → Wants m (want.Receive w) → IsEligible (inbound_of s.run r) (history s.run r) source place w
    → MayFollow (start_of s.program (length s.machines)) (length s.machines) s.run r (takes source place)
may_take s r m w source place simulates there asks one =
    may_be s r m (want.Receive w) (takes source place) simulates there asks (λ q. cc)
    (subst (λ o. Fits (want.Receive w) (payload (state_of m)) (takes source place) o) (sym one.there) one.matching) one

-- and a hit
pub may_hit : (s : SimValue) (r : ℕ) (m : MachineValue) (w : Selector) (source place : ℕ) → Simulates s → slice_get s.machines r ≡ Some m
    → Wants m (want.Probe w) → IsEligible (inbound_of s.run r) (history s.run r) source place w
    → MayFollow (start_of s.program (length s.machines)) (length s.machines) s.run r (hits source place)
may_hit s r m w source place simulates there asks one =
    may_be s r m (want.Probe w) (hits source place) simulates there asks (λ q. cc)
    (subst (λ o. Fits (want.Probe w) (payload (state_of m)) (hits source place) o) (sym one.there) one.matching) one

-- a state that has ended makes no step of its own
pub no_step : (a : State) (e : End) → end_of (wants a) ≡ Some e → inner a ≡ None
no_step a e ended = go (inner a) refl
  where
    go : (o : Option State) → inner a ≡ o → inner a ≡ None
    go None q = q
    go (Some b) q =
        let none : end_of want.Internal ≡ Some e = subst (λ w. end_of w ≡ Some e) (inner_wants a b q) ended in
        cc
