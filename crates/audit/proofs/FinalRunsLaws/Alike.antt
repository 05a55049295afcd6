-- In each run that has an outcome a rank does the same that isn't unfinished. So where such a rank may go on by a message of another such
-- rank in one of these runs, it may in each.
use Rattle.std.proofs.Common.{◌≡◌, ◌≢◌, ℕ, ◌+◌, ◌<◌, ◌≤◌, List, [], ◌∷◌, ◌++◌, Option, Some, None, length, slice_get, ◌⊎◌, inl, inr, sym, ap, subst, ◌∙◌, arith}
use Rattle.std.specs.Prelude.{IsSomeAnd}
use Rattle.std.proofs.lemmas.Bool.{cases_lt}
use Rattle.std.proofs.lemmas.List.{append-nil, length-append}
use Rattle.matching.specs.declared.selector.Selector.{Selector}
use Rattle.event_logger.specs.Sequential.Event.{EventValue, event_of}
use Rattle.event_logger.specs.declared.sequential.kind.Kind.TheVariants as kind
use Rattle.rank_machine.specs.States.{State, Inners}
use Rattle.rank_machine.specs.Wants.{wants, payload}
use Rattle.rank_machine.specs.Acts.{Act, Message, Fits, Makes, Runs, takes, hits}
use Rattle.rank_machine.proofs.Determined.{still, same_stop, same_runs}
use Rattle.crash_free.specs.Runs.{Passed, History, history, sent, sends_from, printed, at_place, looked_up, taken, receives, probes, IsEligible, MayMake}
use Rattle.crash_free.proofs.Senders.{Cut, cut, runs_of}
use Rattle.crash_free.proofs.Taking.{no_history}
use Rattle.crash_free.proofs.Lists.{there_is}
use Rattle.audit.specs.declared.outcome.End.{End}
use Rattle.audit.specs.declared.outcome.End.TheVariants as end
use Rattle.audit.specs.Outcome.{OutcomeValue, HasEnded, IsOutcome}
use Rattle.audit.specs.Rows.{row, event_at, events_from, cons_some}
use Rattle.audit.specs.Following.{IsSendAct, AreSends, Follows}
use Rattle.audit.proofs.Alike.{take_event, hit_event}
use Rattle.audit.proofs.Fitting.{IsTake, IsHit}
use Rattle.audit.proofs.Following.{follows}
use Rattle.audit.proofs.Growing.{next_event}
use Rattle.audit.specs.FinalRuns.Maximal.{MayFollow}
use Rattle.audit.specs.FinalRuns.Final.{IsOfUnfinished, HasNotStalled}
use Rattle.audit.proofs.FinalRunsLaws.Simulating.{no_step, sender_there}
use Rattle.audit.proofs.FinalRunsLaws.Ending.{ends_so, stands_at_end, fits_at_end}

-- a rank that has ended goes on by a reception or a hit alone
goes_on : (start a : State) (h later : History) (x : Act × Option Message) (e : End) → HasEnded start h e → e ≢ end.Unfinished
    → Runs start (h ++ x ∷ later) a → IsTake x.0 x.1 ⊎ IsHit x.0 x.1
goes_on start a h later x e ended known runs =
    let c : Cut start h x = cut start a h x later runs in
    let reached : c.reached ≡ ended.after = same_runs start c.reached ended.after h c.runs ended.reached in
    let stood : c.does.0 ≡ ended.stands =
    same_stop (subst (λ z. Inners z c.does.0) reached c.does.1) ended.inner (still c.does.0 x.0 x.1 c.does.2)
    (no_step ended.stands e (ends_so e (wants ended.stands) ended.ended known)) in
    let fits : Fits (wants ended.stands) (payload ended.stands) x.0 x.1 = subst (λ z. Makes z x.0 x.1) stood c.does.2 in
    fits_at_end e (wants ended.stands) (payload ended.stands) x.0 x.1 ended.ended known fits

-- a reception and a hit leave an event
leaves_event : (c : ℕ) (a : Act) (o : Option Message) → IsTake a o ⊎ IsHit a o → (v : EventValue) × (event_at c a o ≡ Some v)
leaves_event c a o (inl i) = (event_of kind.Reception i.source i.message.clock c, take_event c a o i)
leaves_event c a o (inr i) = (event_of kind.Hit i.source i.message.clock c, hit_event c a o i)

-- so a row is longer behind it
longer : (h later : History) (x : Act × Option Message) (v : EventValue) → event_at (length h + 1) x.0 x.1 ≡ Some v
    → events_from 0 (h ++ x ∷ later) ≡ events_from 0 h → ⊥
longer h later x v is same =
    let more = next_event h later x in
    let whole : events_from 0 h ≡ (events_from 0 h ++ v ∷ []) ++ more.0 =
    sym same ∙ more.1 ∙ ap (λ o. (events_from 0 h ++ cons_some o []) ++ more.0) is in
    let long = ap length whole in
    let sum = length-append (events_from 0 h ++ v ∷ []) more.0 in
    let sum' = length-append (events_from 0 h) (v ∷ []) in
    omega (arith, long, sum, sum')

-- neither is a send
no_send : (a : Act) (o : Option Message) → IsTake a o ⊎ IsHit a o → IsSendAct a → ⊥
no_send a o (inl i) s = (let z : IsSendAct (takes i.source i.place) = subst IsSendAct i.act s in z)
no_send a o (inr i) s = (let z : IsSendAct (hits i.source i.place) = subst IsSendAct i.act s in z)

-- what is eligible depends on what its source sent, and on the rank's own history
eligible_too : (inbound inbound' : ℕ → List Message) (h h' : History) (q j : ℕ) (w : Selector) → inbound q ≡ inbound' q → h ≡ h'
    → IsEligible inbound h q j w → IsEligible inbound' h' q j w
eligible_too inbound inbound' h h' q j w mail same e = record {
  message = e.message;
  there = ap (λ xs. at_place xs j) (sym mail) ∙ e.there;
  untaken = ap (λ k. taken k q j) (sym same) ∙ e.untaken;
  matching = e.matching;
  not_overtaking = λ i m low there matching.
      ap (λ k. taken k q i) (sym same) ∙ e.not_overtaking i m low (ap (λ xs. at_place xs i) mail ∙ there) matching;
}

-- the same where some selector stands
some_eligible_too : (o : Option Selector) (inbound inbound' : ℕ → List Message) (h h' : History) (q j : ℕ) → inbound q ≡ inbound' q → h ≡ h'
    → IsSomeAnd o (λ w. IsEligible inbound h q j w) → IsSomeAnd o (λ w. IsEligible inbound' h' q j w)
some_eligible_too None inbound inbound' h h' q j mail same e = e
some_eligible_too (Some w) inbound inbound' h h' q j mail same e = eligible_too inbound inbound' h h' q j w mail same e

-- so does a reception
take_too : (start : State) (inbound inbound' : ℕ → List Message) (h h' : History) (q j : ℕ) → inbound q ≡ inbound' q → h ≡ h'
    → MayMake start inbound h (takes q j) → MayMake start inbound' h' (takes q j)
take_too start inbound inbound' h h' q j mail same m = record {
  after = m.after;
  stands = m.stands;
  reached = subst (λ k. Runs start k m.after) same m.reached;
  inner = m.inner;
  makes = subst (λ xs. Makes m.stands (takes q j) (at_place xs j)) mail m.makes;
  free = some_eligible_too (receives (wants m.stands)) inbound inbound' h h' q j mail same m.free;
}

-- and a hit
hit_too : (start : State) (inbound inbound' : ℕ → List Message) (h h' : History) (q j : ℕ) → inbound q ≡ inbound' q → h ≡ h'
    → MayMake start inbound h (hits q j) → MayMake start inbound' h' (hits q j)
hit_too start inbound inbound' h h' q j mail same m = record {
  after = m.after;
  stands = m.stands;
  reached = subst (λ k. Runs start k m.after) same m.reached;
  inner = m.inner;
  makes = subst (λ xs. Makes m.stands (hits q j) (at_place xs j)) mail m.makes;
  free = some_eligible_too (probes (wants m.stands)) inbound inbound' h h' q j mail same m.free;
}

module _ (start : ℕ → State) (n : ℕ) (C D : List Passed) (o : OutcomeValue) (c : IsOutcome start n C o) (d : IsOutcome start n D o) where
  rows_same : (r : ℕ) → row C r ≡ row D r
  rows_same r = go (cases_lt r n)
    where
      go : (r < n) ⊎ (n ≤ r) → row C r ≡ row D r
      go (inl low) =
          let many = c.as_many_rows in
          let there = there_is o.rows r (omega (arith, low, many)) in
          sym (c.rows r there.0 there.1) ∙ d.rows r there.0 there.1
      go (inr beyond) = ap (λ h. events_from 0 h) (no_history start n C c.is_run r beyond ∙ sym (no_history start n D d.is_run r beyond))

  follows_it : (r : ℕ) → Follows C D r
  follows_it r =
      follows start n C D c.is_run d.is_run (λ q. ([], sym (rows_same q) ∙ sym (append-nil (row C q))))
      (λ q. ([], sym (d.lines q) ∙ c.lines q ∙ sym (append-nil (printed C q)))) r

  -- a rank that isn't unfinished has one history in both runs
  pub same_history : (r : ℕ) (e : End) → slice_get o.ends r ≡ Some e → e ≢ end.Unfinished → history C r ≡ history D r
  same_history r e there known = go (follows_it r)
    where
      less : (later : History) → history D r ≡ history C r ++ later → history C r ≡ history D r
      less [] whole = sym (whole ∙ append-nil (history C r))
      less (x ∷ later) whole =
          let runs = runs_of start n D d.is_run r in
          let next = goes_on (start r) runs.0 (history C r) later x e (c.ends r e there) known (subst (λ h. Runs (start r) h runs.0) whole runs.1) in
          let event = leaves_event (length (history C r) + 1) x.0 x.1 next in
          absurd (longer (history C r) later x event.0 event.1 (ap (λ h. events_from 0 h) (sym whole) ∙ sym (rows_same r)))

      more : (later : History) → history C r ≡ history D r ++ later → AreSends later → history C r ≡ history D r
      more [] whole given = whole ∙ append-nil (history D r)
      more (x ∷ later) whole given =
          let runs = runs_of start n C c.is_run r in
          let next = goes_on (start r) runs.0 (history D r) later x e (d.ends r e there) known (subst (λ h. Runs (start r) h runs.0) whole runs.1) in
          absurd (no_send x.0 x.1 next given.0)

      go : Follows C D r → history C r ≡ history D r
      go (inl b) = less b.0 b.1
      go (inr g) = more g.later g.whole g.sends

  -- what such a rank sent to another is the same
  same_sent : (q r : ℕ) (e : End) → slice_get o.ends q ≡ Some e → e ≢ end.Unfinished → sent C q r ≡ sent D q r
  same_sent q r e there known = ap (λ h. sends_from 0 r h) (same_history q e there known)

  -- a message that there is is of a rank with an end
  source_there : (q r j : ℕ) (m : Message) → at_place (sent C q r) j ≡ Some m → (slice_get o.ends q ≡ Some end.Unfinished → ⊥)
      → (e : End) × (slice_get o.ends q ≡ Some e) × (e ≢ end.Unfinished)
  source_there q r j m there other =
      let low = sender_there start n C c.is_run q r j m there in
      let many = c.as_many_ends in
      let last = there_is o.ends q (omega (arith, low, many)) in
      (last.0, last.1, λ same. other (last.1 ∙ ap Some same))

  -- so in both such a rank goes on by the message of another
  by_act : (r : ℕ) (e : End) (act : Act) → slice_get o.ends r ≡ Some e → e ≢ end.Unfinished
      → IsTake act (looked_up (λ s. sent C s r) act) ⊎ IsHit act (looked_up (λ s. sent C s r) act)
      → MayFollow start n C r act → (IsOfUnfinished o.ends act → ⊥) → HasNotStalled start n D o.ends r
  by_act r e act there known (inl i) may other =
      let own = same_history r e there known in
      let found : at_place (sent C i.source r) i.place ≡ Some i.message = sym (ap (looked_up (λ s. sent C s r)) i.act) ∙ i.found in
      let source = source_there i.source r i.place i.message found (λ is. other (subst (IsOfUnfinished o.ends) (sym i.act) is)) in
      let given = same_sent i.source r source.0 source.1 source.2 in
      record {
        act = takes i.source i.place;
        may = (
          may.0,
          take_too (start r) (λ s. sent C s r) (λ s. sent D s r) (history C r) (history D r) i.source i.place given own
              (subst (λ a. MayMake (start r) (λ s. sent C s r) (history C r) a) i.act may.1),
        );
        other = λ is. other (subst (IsOfUnfinished o.ends) (sym i.act) is);
      }
  by_act r e act there known (inr i) may other =
      let own = same_history r e there known in
      let found : at_place (sent C i.source r) i.place ≡ Some i.message = sym (ap (looked_up (λ s. sent C s r)) i.act) ∙ i.found in
      let source = source_there i.source r i.place i.message found (λ is. other (subst (IsOfUnfinished o.ends) (sym i.act) is)) in
      let given = same_sent i.source r source.0 source.1 source.2 in
      record {
        act = hits i.source i.place;
        may = (
          may.0,
          hit_too (start r) (λ s. sent C s r) (λ s. sent D s r) (history C r) (history D r) i.source i.place given own
              (subst (λ a. MayMake (start r) (λ s. sent C s r) (history C r) a) i.act may.1),
        );
        other = λ is. other (subst (IsOfUnfinished o.ends) (sym i.act) is);
      }

  -- a rank that has not stalled in the one run has not in the other
  pub not_stalled_too : (r : ℕ) → slice_get o.ends r ≡ Some end.Stalled → HasNotStalled start n C o.ends r → HasNotStalled start n D o.ends r
  not_stalled_too r there not =
      let x = c.ends r end.Stalled there in
      let at = stands_at_end (start r) (λ s. sent C s r) (history C r) end.Stalled not.act x (λ same. cc) not.may.1 in
      let fits : Fits (wants x.stands) (payload x.stands) not.act (looked_up (λ s. sent C s r) not.act) =
      subst (λ z. Makes z not.act (looked_up (λ s. sent C s r) not.act)) at not.may.1.makes in
      let kind = fits_at_end end.Stalled (wants x.stands) (payload x.stands) not.act (looked_up (λ s. sent C s r) not.act) x.ended (λ same. cc) fits in
      by_act r end.Stalled not.act there (λ same. cc) kind not.may not.other
