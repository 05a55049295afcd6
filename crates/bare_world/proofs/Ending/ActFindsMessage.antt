-- A rank that may make an act next, and has all messages that were sent to it: what its machine wants fits the act, and what it may take or
-- be shown stands in its inbox.
use Rattle.std.proofs.Common.{◌≡◌, ℕ, ◌≤◌, List, [], Some, length, sym, ap, subst, ◌∙◌, arith}
use Rattle.std.proofs.Common.{slice_index_or, take, option_and_then, position}
use Rattle.std.proofs.lemmas.List.Quantifiers.{position-Some}
use Rattle.std.proofs.lemmas.Option.{slice_get-get_or}
use Rattle.matching.specs.PacketValue as packet
use Rattle.matching.specs.Inbox.{Mailbox, accepted_from}
use Rattle.matching.specs.Matching.{matches}
use Rattle.matching.specs.declared.selector.Selector.{Selector}
use Rattle.rank_machine.specs.declared.want.Want.{Want}
use Rattle.rank_machine.specs.declared.want.Want.TheVariants as want
use Rattle.rank_machine.specs.States.{State, Inners}
use Rattle.rank_machine.specs.Wants.{wants, payload}
use Rattle.rank_machine.specs.Acts.{Act, Message, Matches, Fits, carried, Runs}
use Rattle.rank_machine.specs.Machine.{state_of, machine_want}
use Rattle.rank_machine.proofs.Determined.{still, same_stop, same_runs}
use Rattle.rank_node.specs.Steps.{at_index, found}
use Rattle.crash_free.specs.Runs.{Passed, History, at_place, history, sent, looked_up, MayMake, IsEligible, IsFree}
use Rattle.bare_world.specs.World.{Live, WorldValue, size, start_of, IsLive}
use Rattle.bare_world.specs.Plain.{plain}
use Rattle.bare_world.specs.Stands.{start_at, InboxStands, RankStands, StandsIn}
use Rattle.bare_world.specs.Onward.{IsWorld}
use Rattle.bare_world.proofs.Runs.ActFitsWant.{fits_receive, fits_probe, wanted, stopped}
use Rattle.bare_world.proofs.Standing.Inboxes.{matches_if_named}
use Rattle.bare_world.proofs.Lists.Beginnings.{take_whole}
use Rattle.bare_world.proofs.Standing.LiveRanks.{RankStands-settled, at_run}
use Rattle.bare_world.proofs.Plain.Ranks.{none_waits_plainly}
use Rattle.bare_world.proofs.Plain.Worlds.{rank_of}
use Rattle.bare_world.proofs.Again.StepBehindRun.{position_found}
use Rattle.bare_world.proofs.Again.PacketIsInInbox.{at_place_within}

-- ---- what is eligible is found

-- what stands at the first place that is named is found
found_first : (x : Selector) (ms : List packet.PacketValue) (i : ℕ) (d : packet.PacketValue) → position (matches x) ms ≡ Some i
    → (f : ℕ × packet.PacketValue) × (found x ms ≡ Some f)
found_first x ms i d e =
    let l = (position-Some (matches x) ms i d e).0 in (
      (i, slice_index_or ms i d),
      ap (λ z. option_and_then (at_index ms) z) e ∙ ap (λ z. option_and_then (λ q. Some (i, q)) z) (slice_get-get_or ms i d l),
    )

-- a message that is eligible, of those that were accepted, is found in the inbox, it or another
in_inbox : (box : Mailbox) (inbound : ℕ → List Message) (h : History) (s j : ℕ) (x : Selector) → InboxStands box inbound h
    → length (inbound s) ≤ accepted_from box s → IsEligible inbound h s j x
    → (f : ℕ × packet.PacketValue) × (found x box.packets ≡ Some f)
in_inbox box inbound h s j x stands all e =
    let l = at_place_within (inbound s) j e.message e.there in
    let low = l.0 in
    let high = l.1 in
    let p = stands.each s j (omega (arith, low)) (omega (arith, high, all)) e.untaken in
    let real = stands.real p.0 p.1 p.2 in
    let same : Some e.message ≡ Some (carried p.1) =
    sym e.there ∙ sym (ap (λ z. at_place (inbound z) j) p.3) ∙ sym (ap (λ z. at_place (inbound p.1.source) z) p.4) ∙ real in
    let one : e.message ≡ carried p.1 = cc in
    let i = position_found (matches x) box.packets p.0 p.1 p.2
    (matches_if_named x p.1 (subst (λ z. Matches x z (carried p.1)) (sym p.3) (subst (λ z. Matches x s z) one e.matching))) in
    found_first x box.packets i.0 p.1 i.1

-- ---- a rank that may make an act

-- A rank stands where it may make its next act after a run: nothing waits, it has made its acts of the run and has all messages that were
-- sent to it.
pub record Placed (C : List Passed) (a : State) (r : ℕ) (w : WorldValue) (v : Live) : Type 0 where
  pub is_world : IsWorld w
  pub run : w.run ≡ C
  pub start : start_of w r ≡ a
  pub live : IsLive w r v
  pub none : v.rank.pending ≡ []
  pub clock : v.rank.clock ≡ length (history C r)
  pub has : (s : ℕ) → length (sent C s r) ≤ accepted_from v.rank.inbox s

module _ (C : List Passed) (a : State) (r : ℕ) (act : Act) (w : WorldValue) (v : Live) (may : MayMake a (λ s. sent C s r) (history C r) act)
    (p : Placed C a r w v) where
  -- where the rank stands in the run
  s : RankStands (start_at w (size w)) (size w) w.run r (plain v)
  s = rank_of p.is_world.stands r v p.live

  -- where it stands in the run
  at_w : StandsIn (start_at w (size w) r) (size w) r (λ q. sent w.run q r) (history w.run r) v.rank.clock v.rank.machine v.rank.inbox v.rank.log
  at_w =
      at_run (start_at w (size w)) (size w) w.run r (plain v) s
      (RankStands-settled (start_at w (size w)) (size w) w.run r (plain v) s (none_waits_plainly v p.none))

  -- the same of the run and the first state that are given
  at_a : StandsIn a (size w) r (λ q. sent C q r) (history C r) v.rank.clock v.rank.machine v.rank.inbox v.rank.log
  at_a =
      subst (λ D. StandsIn a (size w) r (λ q. sent D q r) (history D r) v.rank.clock v.rank.machine v.rank.inbox v.rank.log) p.run
      (subst (λ z. StandsIn z (size w) r (λ q. sent w.run q r) (history w.run r) v.rank.clock v.rank.machine v.rank.inbox v.rank.log) p.start at_w)

  -- it has made all its acts there
  whole : take v.rank.clock (history C r) ≡ history C r
  whole = ap (λ k. take k (history C r)) p.clock ∙ take_whole (history C r)

  -- so its inbox has what it has not taken
  inbox : InboxStands v.rank.inbox (λ q. sent C q r) (history C r)
  inbox = subst (λ h. InboxStands v.rank.inbox (λ q. sent C q r) h) whole at_a.inbox

  -- by these acts it gets to the state from which the act can be reached
  after : at_a.after ≡ may.after
  after = same_runs a at_a.after may.after (history C r) (subst (λ h. Runs a h at_a.after) whole at_a.reached) may.reached

  -- and from there to where its machine is
  inners : Inners may.after (state_of v.rank.machine)
  inners = subst (λ z. Inners z (state_of v.rank.machine)) after at_a.inner

  -- where it stops it stands at the act
  stands_at : (x : Want) → machine_want v.rank.machine ≡ x → (x ≡ want.Internal → ⊥) → wants may.stands ≡ x
  stands_at x is ne =
      let same = same_stop inners may.inner (stopped v.rank.machine x is ne) (still may.stands act _ may.makes) in
      ap wants (sym same) ∙ wanted v.rank.machine x is ne

  -- what it makes fits what it wants
  pub fits : (x : Want) → machine_want v.rank.machine ≡ x → (x ≡ want.Internal → ⊥) → Fits x (payload may.stands) act (looked_up (λ q. sent C q r) act)
  fits x is ne = subst (λ z. Fits z (payload may.stands) act (looked_up (λ q. sent C q r) act)) (stands_at x is ne) may.makes

  -- and what it takes or hits is eligible for it
  free : (x : Want) → machine_want v.rank.machine ≡ x → (x ≡ want.Internal → ⊥) → IsFree x act (λ q. sent C q r) (history C r)
  free x is ne = subst (λ z. IsFree z act (λ q. sent C q r) (history C r)) (stands_at x is ne) may.free

  -- a receive finds what it may take
  pub receive_finds : (x : Selector) → machine_want v.rank.machine ≡ want.Receive x → (f : ℕ × packet.PacketValue) × (found x v.rank.inbox.packets ≡ Some f)
  receive_finds x is =
      let f = fits_receive x (payload may.stands) act (looked_up (λ q. sent C q r) act) (fits (want.Receive x) is (λ e. cc)) in
      in_inbox v.rank.inbox (λ q. sent C q r) (history C r) f.source f.place x inbox (p.has f.source)
      (subst (λ z. IsFree (want.Receive x) z (λ q. sent C q r) (history C r)) f.act (free (want.Receive x) is (λ e. cc)))

  -- a probe finds what it may be shown
  pub probe_finds : (x : Selector) → machine_want v.rank.machine ≡ want.Probe x → (f : ℕ × packet.PacketValue) × (found x v.rank.inbox.packets ≡ Some f)
  probe_finds x is =
      let f = fits_probe x (payload may.stands) act (looked_up (λ q. sent C q r) act) (fits (want.Probe x) is (λ e. cc)) in
      in_inbox v.rank.inbox (λ q. sent C q r) (history C r) f.source f.place x inbox (p.has f.source)
      (subst (λ z. IsFree (want.Probe x) z (λ q. sent C q r) (history C r)) f.act (free (want.Probe x) is (λ e. cc)))
