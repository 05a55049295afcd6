-- What an audit found, and what its ranks may still take, says whether an outcome is final.
use Rattle.std.proofs.Common.{◌≡◌, ◌≢◌, ℕ, suc, ◌+◌, ◌<◌, List, Option, Some, None, length, slice_get, ◌⊎◌, inl, inr, refl, sym, ap, subst, ◌∙◌, arith}
use Rattle.std.proofs.lemmas.Bool.{cases_eq}
use Rattle.std.proofs.lemmas.Option.{slice_get_within}
use Rattle.matching.specs.declared.selector.Selector.{Selector}
use Rattle.rank_language.specs.Program.{ProgramValue}
use Rattle.rank_machine.specs.declared.want.Want.{Want}
use Rattle.rank_machine.specs.declared.want.Want.TheVariants as want
use Rattle.rank_machine.specs.Acts.{takes, hits}
use Rattle.crash_free.specs.Runs.{Passed, history, IsEligible}
use Rattle.crash_free.specs.Sim.{SimValue, Simulates, start_of, inbound_of}
use Rattle.crash_free.specs.Wanted.{Wants, WantsAt}
use Rattle.crash_free.proofs.Choosing.{wants_there}
use Rattle.audit.specs.declared.outcome.End.{End}
use Rattle.audit.specs.declared.outcome.End.TheVariants as end
use Rattle.audit.specs.Found.{IsFound}
use Rattle.audit.specs.Outcome.{OutcomeValue, IsWaiting, IsOutcome}
use Rattle.audit.specs.Reachable.{IsReachable}
use Rattle.audit.proofs.Reaching.{some_there}
use Rattle.audit.specs.FinalRuns.Final.{AreWaiting, HasNotStalled, HasStalled, HaveStalled, IsConfirmed, IsFinal, IsOfUnfinished}
use Rattle.audit.specs.FinalRuns.Stills.{NoneIsThere, OneIsThere}
use Rattle.audit.proofs.FinalRunsLaws.Simulating.{takes_eligible, hits_eligible, may_take, may_hit}
use Rattle.audit.proofs.FinalRunsLaws.Alike.{not_stalled_too}

-- a message that is eligible, of a source that isn't unfinished
pub one_there : (s : SimValue) (ends : List End) (r : ℕ) (w : Selector) (source index : ℕ) → slice_get ends source ≢ Some end.Unfinished
    → IsEligible (inbound_of s.run r) (history s.run r) source (suc index) w → OneIsThere s ends r w
one_there s ends r w source index known e = record { source = source; place = suc index; known = known; eligible = e }

-- none of one source more, where that is unfinished
pub none_of_unfinished : (s : SimValue) (ends : List End) (r : ℕ) (w : Selector) (k : ℕ) → slice_get ends k ≡ Some end.Unfinished
    → NoneIsThere s ends r w k → NoneIsThere s ends r w (k + 1)
none_of_unfinished s ends r w k is before q j low known e = go (cases_eq q k)
  where
    go : (q ≡ k) ⊎ (q ≡ k → ⊥) → ⊥
    go (inl same) = known (ap (slice_get ends) same ∙ is)
    go (inr apart) = before q j (omega (arith, low, apart)) known e

-- or has none
pub none_further : (s : SimValue) (ends : List End) (r : ℕ) (w : Selector) (k : ℕ)
    → ((j : ℕ) → IsEligible (inbound_of s.run r) (history s.run r) k j w → ⊥) → NoneIsThere s ends r w k → NoneIsThere s ends r w (k + 1)
none_further s ends r w k here before q j low known e = go (cases_eq q k)
  where
    go : (q ≡ k) ⊎ (q ≡ k → ⊥) → ⊥
    go (inl same) = here j (subst (λ z. IsEligible (inbound_of s.run r) (history s.run r) z j w) same e)
    go (inr apart) = before q j (omega (arith, low, apart)) known e

-- what isn't anything but this is this
unfinished_or_not : (o : Option End) → (o ≢ Some end.Unfinished → ⊥) → o ≡ Some end.Unfinished
unfinished_or_not None n = absurd (n (λ q. cc))
unfinished_or_not (Some end.Halted) n = absurd (n (λ q. cc))
unfinished_or_not (Some (end.Faulted k)) n = absurd (n (λ q. cc))
unfinished_or_not (Some end.Stalled) n = absurd (n (λ q. cc))
unfinished_or_not (Some end.Unfinished) n = refl

module _ (s : SimValue) (ends : List End) (r : ℕ) (w : Selector) (simulates : Simulates s) where
  -- a receive that something is there for
  pub receives_one : WantsAt s.machines r (want.Receive w) → OneIsThere s ends r w
      → HasNotStalled (start_of s.program (length s.machines)) (length s.machines) s.run ends r
  receives_one wanted one =
      let m = some_there (slice_get s.machines r) (λ m. Wants m (want.Receive w)) wanted in
      record { act = takes one.source one.place; may = may_take s r m.0 w one.source one.place simulates m.1 m.2 one.eligible; other = one.known }

  -- a probe that something is there for
  pub probes_one : WantsAt s.machines r (want.Probe w) → OneIsThere s ends r w
      → HasNotStalled (start_of s.program (length s.machines)) (length s.machines) s.run ends r
  probes_one wanted one =
      let m = some_there (slice_get s.machines r) (λ m. Wants m (want.Probe w)) wanted in
      record { act = hits one.source one.place; may = may_hit s r m.0 w one.source one.place simulates m.1 m.2 one.eligible; other = one.known }

  -- a receive that nothing is there for
  pub receives_none : WantsAt s.machines r (want.Receive w) → NoneIsThere s ends r w (length s.machines)
      → HasStalled (start_of s.program (length s.machines)) (length s.machines) s.run ends r
  receives_none wanted none act may =
      let m = some_there (slice_get s.machines r) (λ m. Wants m (want.Receive w)) wanted in
      let e = takes_eligible s r m.0 w act simulates m.1 may m.2 in
      subst (IsOfUnfinished ends) (sym e.same)
      (unfinished_or_not (slice_get ends e.source) (λ known. none e.source e.place e.low known e.eligible))

  -- a probe that nothing is there for
  pub probes_none : WantsAt s.machines r (want.Probe w) → NoneIsThere s ends r w (length s.machines)
      → HasStalled (start_of s.program (length s.machines)) (length s.machines) s.run ends r
  probes_none wanted none act may =
      let m = some_there (slice_get s.machines r) (λ m. Wants m (want.Probe w)) wanted in
      let e = hits_eligible s r m.0 w act simulates m.1 may m.2 in
      subst (IsOfUnfinished ends) (sym e.same)
      (unfinished_or_not (slice_get ends e.source) (λ known. none e.source e.place e.low known e.eligible))

-- a rank that waits asks for what waits
pub waits_so : (s : SimValue) (ends : List End) (r : ℕ) (w : Want) → AreWaiting s ends → slice_get ends r ≡ Some end.Stalled → WantsAt s.machines r w
    → IsWaiting w
waits_so s ends r w waits said wanted =
    let at = waits r said in
    let m = some_there (slice_get s.machines r) (λ m. Wants m w) wanted in
    let asks = wants_there s.machines r at.0 m.0 at.1 m.1 in
    subst IsWaiting (sym asks.at_want ∙ m.2.at_want) at.2

-- where one more rank has stalled that is said to have, each up to it has
pub stalled_further : (s : SimValue) (ends : List End) (k : ℕ)
    → ((r : ℕ) → r < k → slice_get ends r ≡ Some end.Stalled → HasStalled (start_of s.program (length s.machines)) (length s.machines) s.run ends r)
    → (slice_get ends k ≡ Some end.Stalled → HasStalled (start_of s.program (length s.machines)) (length s.machines) s.run ends k)
    → (r : ℕ) → r < k + 1 → slice_get ends r ≡ Some end.Stalled
    → HasStalled (start_of s.program (length s.machines)) (length s.machines) s.run ends r
stalled_further s ends k before here r low said = go (cases_eq r k)
  where
    go : (r ≡ k) ⊎ (r ≡ k → ⊥) → HasStalled (start_of s.program (length s.machines)) (length s.machines) s.run ends r
    go (inl same) =
        subst (λ q. HasStalled (start_of s.program (length s.machines)) (length s.machines) s.run ends q) (sym same)
        (here (ap (slice_get ends) (sym same) ∙ said))
    go (inr apart) = before r (omega (arith, low, apart)) said

-- a rank that there isn't makes no act
pub all_stalled : (s : SimValue) (ends : List End) (k : ℕ) → length s.machines ≡ k
    → ((r : ℕ) → r < k → slice_get ends r ≡ Some end.Stalled → HasStalled (start_of s.program (length s.machines)) (length s.machines) s.run ends r)
    → HaveStalled (start_of s.program (length s.machines)) (length s.machines) s.run ends
all_stalled s ends k size each r said act may =
    let low = may.0 in
    each r (omega (arith, low, size)) said act may

-- what was confirmed is final
pub confirmed_is_final : (program : ProgramValue) (n : ℕ) (o : OutcomeValue) (steps : ℕ) (s : SimValue) → IsConfirmed program n o steps s → IsFinal program n o
confirmed_is_final program n o steps s c = (s.run, c.found.outcome, c.stalled)

module _ (program : ProgramValue) (n : ℕ) (o : OutcomeValue) (steps : ℕ) (s : SimValue) (found : IsFound program n o steps s) where
  -- each rank that is said to have stalled waits in what was found
  pub are_waiting : AreWaiting s o.ends
  are_waiting r said =
      let low = slice_get_within o.ends r end.Stalled said in
      let many = found.outcome.as_many_ends in
      let size = found.size in
      (found.reached r (omega (arith, low, many, size))).end end.Stalled said

  -- where each has stalled the outcome is final
  pub is_final : HaveStalled (start_of s.program (length s.machines)) (length s.machines) s.run o.ends → IsFinal program n o
  is_final stalled = (
    s.run,
    found.outcome,
    subst (λ p. HaveStalled (start_of p n) n s.run o.ends) found.program
        (subst (λ k. HaveStalled (start_of s.program k) k s.run o.ends) found.size stalled),
  )

  -- and it confirms it
  pub is_confirmed : HaveStalled (start_of s.program (length s.machines)) (length s.machines) s.run o.ends → IsConfirmed program n o steps s
  unfolding is_final
  is_confirmed stalled = record { found = found; stalled = (is_final stalled).2 }

  -- it is within reach
  pub is_reachable : IsReachable program n o steps
  is_reachable = (s.run, found.outcome, found.within)

  -- one that has not stalled in what was found has in no run
  pub never_stalled : (r : ℕ) → slice_get o.ends r ≡ Some end.Stalled
      → HasNotStalled (start_of s.program (length s.machines)) (length s.machines) s.run o.ends r
      → ((D : List Passed) → IsOutcome (start_of program n) n D o → HasNotStalled (start_of program n) n D o.ends r)
  never_stalled r said not D d =
      let here : HasNotStalled (start_of program n) n s.run o.ends r =
      subst (λ p. HasNotStalled (start_of p n) n s.run o.ends r) found.program
      (subst (λ k. HasNotStalled (start_of s.program k) k s.run o.ends r) found.size not) in
      not_stalled_too (start_of program n) n s.run D o found.outcome d r said here
