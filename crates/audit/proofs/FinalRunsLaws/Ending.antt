-- A rank that has ended makes no act, unless it has stalled: so where no rank is unfinished, an outcome that is final is that of a maximal run.
use Rattle.std.proofs.Common.{◌≡◌, ◌≢◌, ℕ, ℤ, ◌+◌, List, Option, Some, slice_get, refl, ap, subst, ◌∙◌, ◌⊎◌, inl, inr, arith}
use Rattle.std.specs.Prelude.{map}
use Rattle.rank_language.specs.Program.{ProgramValue}
use Rattle.rank_machine.specs.declared.want.Want.{Want}
use Rattle.rank_machine.specs.declared.want.Want.TheVariants as want
use Rattle.rank_machine.specs.States.{State, Inners}
use Rattle.rank_machine.specs.Wants.{wants, payload}
use Rattle.rank_machine.specs.Acts.{Act, Message, Fits, sends, takes, hits, misses, prints}
use Rattle.rank_machine.proofs.Determined.{still, same_stop, same_runs}
use Rattle.crash_free.specs.Runs.{Passed, History, history, sent, looked_up, MayMake}
use Rattle.crash_free.specs.Sim.{start_of}
use Rattle.crash_free.proofs.Lists.{there_is}
use Rattle.audit.specs.declared.outcome.End.{End}
use Rattle.audit.specs.declared.outcome.End.TheVariants as end
use Rattle.audit.specs.Outcome.{OutcomeValue, lines_of, IsWaiting, MayWant, HasEnded, IsOutcome}
use Rattle.audit.proofs.Fitting.{IsTake, IsHit, take_fits, hit_fits}
use Rattle.audit.specs.FinalRuns.Maximal.{MayFollow, IsMaximal, end_of, IsOutcomeOf, IsPossible}
use Rattle.audit.specs.FinalRuns.Final.{IsOfUnfinished, HaveStalled, IsFinal, NoneIsUnfinished, seen_of}
use Rattle.audit.proofs.FinalRunsLaws.Simulating.{no_step}
use Rattle.audit.proofs.FinalRunsLaws.Seen.{length_seen, seen_there}

-- a rank that waits stalls
waiting_ends : (w : Want) → IsWaiting w → end_of w ≡ Some end.Stalled
waiting_ends (want.Receive s) i = refl
waiting_ends (want.Probe s) i = refl
waiting_ends want.Internal i = absurd i
waiting_ends (want.Send d c t) i = absurd i
waiting_ends (want.TryProbe s) i = absurd i
waiting_ends (want.Print v) i = absurd i
waiting_ends want.Halted i = absurd i
waiting_ends (want.Faulted k) i = absurd i

-- a rank that wants what one may want that ended so has ended so, where it isn't unfinished
pub ends_so : (e : End) (w : Want) → MayWant e w → e ≢ end.Unfinished → end_of w ≡ Some e
ends_so end.Halted w may known = ap end_of may
ends_so (end.Faulted k) w may known = ap end_of may
ends_so end.Stalled w may known = waiting_ends w may
ends_so end.Unfinished w may known = absurd (known refl)

-- so it makes no step of its own, and stands where each act of it is made
pub stands_at_end : (start : State) (inbound : ℕ → List Message) (h : History) (e : End) (act : Act) (x : HasEnded start h e) → e ≢ end.Unfinished
    → (m : MayMake start inbound h act) → m.stands ≡ x.stands
stands_at_end start inbound h e act x known m =
    let after : m.after ≡ x.after = same_runs start m.after x.after h m.reached x.reached in
    same_stop (subst (λ a. Inners a m.stands) after m.inner) x.inner (still m.stands act (looked_up inbound act) m.makes)
    (no_step x.stands e (ends_so e (wants x.stands) x.ended known))

-- what a rank that waits is answered by
fits_waiting : (w : Want) (items : List ℤ) (a : Act) (o : Option Message) → IsWaiting w → Fits w items a o → IsTake a o ⊎ IsHit a o
fits_waiting (want.Receive s) items a o i f = inl (take_fits s items a o f)
fits_waiting (want.Probe s) items a o i f = inr (hit_fits s items a o f)
fits_waiting want.Internal items a o i f = absurd i
fits_waiting (want.Send d c t) items a o i f = absurd i
fits_waiting (want.TryProbe s) items a o i f = absurd i
fits_waiting (want.Print v) items a o i f = absurd i
fits_waiting want.Halted items a o i f = absurd i
fits_waiting (want.Faulted k) items a o i f = absurd i

-- what a rank that has ended is answered by: only one that has stalled is, by a reception or a hit
pub fits_at_end : (e : End) (w : Want) (items : List ℤ) (a : Act) (o : Option Message) → MayWant e w → e ≢ end.Unfinished → Fits w items a o
    → IsTake a o ⊎ IsHit a o
fits_at_end end.Halted w items a o may known f = absurd (let z : Fits want.Halted items a o = subst (λ v. Fits v items a o) may f in z)
fits_at_end (end.Faulted k) w items a o may known f = absurd (let z : Fits (want.Faulted k) items a o = subst (λ v. Fits v items a o) may f in z)
fits_at_end end.Stalled w items a o may known f = fits_waiting w items a o may f
fits_at_end end.Unfinished w items a o may known f = absurd (known refl)

-- of unfinished ranks there are no messages where there are no such ranks
of_unfinished : (ends : List End) (act : Act) → NoneIsUnfinished ends → IsOfUnfinished ends act → ⊥
of_unfinished ends (takes q j) none i = none q i
of_unfinished ends (hits q j) none i = none q i
of_unfinished ends (sends d c t items) none i = i
of_unfinished ends misses none i = i
of_unfinished ends (prints v) none i = i

module _ (start : ℕ → State) (n : ℕ) (C : List Passed) (o : OutcomeValue) (outcome : IsOutcome start n C o) (stalled : HaveStalled start n C o.ends)
    (none : NoneIsUnfinished o.ends) where
  -- an end that there is isn't that of an unfinished rank
  known : (r : ℕ) (e : End) → slice_get o.ends r ≡ Some e → e ≢ end.Unfinished
  known r e there same = none r (there ∙ ap Some same)

  -- no act of a rank is left that ended so
  none_left : (r : ℕ) (act : Act) → MayFollow start n C r act → (e : End) → slice_get o.ends r ≡ Some e → ⊥
  none_left r act may end.Halted there =
      let x = outcome.ends r end.Halted there in
      let at = stands_at_end (start r) (λ s. sent C s r) (history C r) end.Halted act x (known r end.Halted there) may.1 in
      let wanted : wants may.1.stands ≡ want.Halted = ap wants at ∙ x.ended in
      let z : Fits want.Halted (payload may.1.stands) act (looked_up (λ s. sent C s r) act) =
      subst (λ v. Fits v (payload may.1.stands) act (looked_up (λ s. sent C s r) act)) wanted may.1.makes in
      z
  none_left r act may (end.Faulted k) there =
      let x = outcome.ends r (end.Faulted k) there in
      let at = stands_at_end (start r) (λ s. sent C s r) (history C r) (end.Faulted k) act x (known r (end.Faulted k) there) may.1 in
      let wanted : wants may.1.stands ≡ want.Faulted k = ap wants at ∙ x.ended in
      let z : Fits (want.Faulted k) (payload may.1.stands) act (looked_up (λ s. sent C s r) act) =
      subst (λ v. Fits v (payload may.1.stands) act (looked_up (λ s. sent C s r) act)) wanted may.1.makes in
      z
  none_left r act may end.Stalled there = of_unfinished o.ends act none (stalled r there act may)
  none_left r act may end.Unfinished there = none r there

  -- so the run is maximal
  maximal : IsMaximal start n C
  maximal r act may =
      let low = may.0 in
      let many = outcome.as_many_ends in
      let e = there_is o.ends r (omega (arith, low, many)) in
      none_left r act may e.0 e.1

  -- and has what is seen of the outcome
  pub outcome_of_run : IsOutcomeOf start n C (seen_of o)
  outcome_of_run = record {
    is_run = outcome.is_run;
    maximal = maximal;
    as_many = length_seen 0 o.lines o.ends ∙ outcome.as_many_ends;
    each = λ r x there.
        let seen = seen_there 0 o.lines o.ends r x there in
        let ended = outcome.ends r x.end seen.1 in
        let here : 0 + r ≡ r = omega arith in
        record {
          lines = seen.0 ∙ ap (λ q. map (λ (line : ℕ × ℤ). line.1) (lines_of q o.lines)) here ∙ ap (map (λ (line : ℕ × ℤ). line.1)) (outcome.lines r);
          after = ended.after;
          stands = ended.stands;
          reached = ended.reached;
          inner = ended.inner;
          ended = ends_so x.end (wants ended.stands) ended.ended (known r x.end seen.1);
        };
  }

-- so where no rank is unfinished, an outcome that is final is one that the program may have
pub final_is_possible : (program : ProgramValue) (n : ℕ) (o : OutcomeValue) → IsFinal program n o → NoneIsUnfinished o.ends → IsPossible program n (seen_of o)
final_is_possible program n o final none = (final.0, outcome_of_run (start_of program n) n final.0 o final.1 final.2 none)
