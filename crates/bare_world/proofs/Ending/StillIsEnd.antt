-- In a world that is still every rank is at rest, if no rank is spent. Nobody lacks a packet that was transmitted, as it is on its wire and would be
-- accepted; nothing is outgoing, so all that was sent was transmitted. So each rank can make the run's next act again, and has made it. It has
-- all messages, nothing waits, and its machine moves no more.
use Rattle.std.proofs.Common.{◌≡◌, ◌≢◌, ℕ, ◌+◌, ◌<◌, ◌≤◌, ◌==◌, nat_le, ◌⊎◌, inl, inr, Bool, true, false, if◌then◌else◌, List, [], ◌∷◌, ◌++◌, Option}
use Rattle.std.proofs.Common.{Some, None, length, take, refl, sym, ap, subst, ◌∙◌, arith, append_assoc, slice_get, option_and_then, position}
use Rattle.std.specs.Prelude.{is_some}
use Rattle.std.proofs.lemmas.Bool.{cases_lt, eq-eqb, leb-true}
use Rattle.std.proofs.lemmas.Option.{slice_get_within}
use Rattle.matching.specs.PacketValue as packet
use Rattle.matching.specs.Inbox.{accepted_from, answer_to}
use Rattle.matching.specs.Matching.{matches}
use Rattle.matching.specs.declared.inbox.Accept.TheVariants as accept
use Rattle.payload_log.specs.Backlog.{backlog, next_of}
use Rattle.event_logger.specs.Sequential.Event.{EventValue}
use Rattle.rank_machine.specs.declared.want.Want.{Want}
use Rattle.rank_machine.specs.declared.want.Want.TheVariants as want
use Rattle.rank_machine.specs.Machine.{machine_want}
use Rattle.rank_node.specs.declared.fault.NodeFault.{NodeFault}
use Rattle.rank_node.specs.declared.frame.Frame.{Frame}
use Rattle.rank_node.specs.declared.frame.Frame.TheVariants as frame
use Rattle.rank_node.specs.declared.turn.Arrived.TheVariants as arrived
use Rattle.rank_node.specs.declared.turn.Turn.TheVariants as turn
use Rattle.rank_node.specs.declared.waiting.Waiting.{Waiting}
use Rattle.rank_node.specs.declared.waiting.Waiting.TheVariants as waits
use Rattle.rank_node.specs.Frames as frames
use Rattle.rank_node.specs.Frames.{due_to, outgoing_of, arrival_of}
use Rattle.rank_node.specs.Waiting.{event_in, has_room}
use Rattle.rank_node.specs.Releasing.{effect_of, next_effect}
use Rattle.rank_node.specs.Steps.{turn_of, turn_at, refusal_of}
use Rattle.rank_node.specs.Storing.{next_unstored}
use Rattle.crash_free.specs.Runs.{Passed, history, sent, sends_from, IsRun}
use Rattle.crash_free.proofs.Lists.{run_begins}
use Rattle.bare_world.specs.declared.event.WorldEvent.{WorldEvent}
use Rattle.bare_world.specs.declared.event.WorldEvent.TheVariants.{Step, Put, Arrive, Store, Ack, Restart, Release}
use Rattle.bare_world.specs.declared.reply.Reply.{Reply}
use Rattle.bare_world.specs.declared.reply.Reply.TheVariants as reply
use Rattle.bare_world.specs.World.{Rank, Live, WorldValue, size, IsLive}
use Rattle.bare_world.specs.Stands.{RankStands, sends_of, start_at}
use Rattle.bare_world.specs.Plain.{plain}
use Rattle.bare_world.specs.Follows.{CanNot, Happens, StepFollows, ReplayFollows, stepped, arrived_as}
use Rattle.bare_world.specs.Wires.{wire_of}
use Rattle.bare_world.specs.Onward.{OnWire, IsWorld}
use Rattle.bare_world.specs.Driven.{AllLive, is_refused, Ready}
use Rattle.bare_world.specs.Finished.{leaves_all, is_idle, IsQuiet, HasHeard, AllRest, IsNowhereSpent, IsInVain, IsStill}
use Rattle.bare_world.proofs.Calls.RankOfEvent.{one_live}
use Rattle.bare_world.proofs.Calls.Frames.{has_wire, wire_is}
use Rattle.bare_world.proofs.Alike.OneEventMore.{happened}
use Rattle.bare_world.proofs.Ending.LeavesAll.{put_not}
use Rattle.bare_world.proofs.Lists.Beginnings.{take_whole}
use Rattle.bare_world.proofs.Plain.Ranks.{none_waits_plainly}
use Rattle.bare_world.proofs.Plain.ReplaySteps.{none_waiting}
use Rattle.bare_world.proofs.Plain.Worlds.{rank_of}
use Rattle.bare_world.proofs.Standing.LiveRanks.{RankStands-settled, at_run}
use Rattle.bare_world.proofs.Again.Calls.{refused_or, refused_same}
use Rattle.bare_world.proofs.Way.Cursors.{nothing_next}
use Rattle.bare_world.proofs.Again.GoesOn.{caught_up_at_end}
use Rattle.bare_world.proofs.Again.NextActIsMade.{make_next, made_already, ready_first}
use Rattle.bare_world.proofs.Way.FramesPassNoRank.{none_next, log_of, above_of, base_of}
use Rattle.bare_world.proofs.Way.AllAreLive.{live_or_down}

-- ---- an event in vain

-- it can't happen, or it happens with a reply that leaves all as it was
in_vain : (w : WorldValue) (event : WorldEvent) → IsInVain w event
    → CanNot w event ⊎ ((answer : Reply) × (leaves_all answer ≡ true) × Happens w event answer w)
in_vain w event v = go (refused_or v.0)
  where
    go : (v.0 ≡ reply.Refused) ⊎ ((v.0 ≢ reply.Refused) × (is_refused v.0 ≡ false)) → CanNot w event ⊎ ((answer : Reply) × (leaves_all answer ≡ true) × Happens w event answer w)
    go (inl e) = inl (refused_same w event v.0 w e v.2).0
    go (inr ne) = inr (v.0, v.1, happened w event v.0 w ne.0 v.2)

-- a packet that is the next of its source is accepted
accepts : (v : Rank) (s : ℕ) (p : packet.PacketValue) → p.source ≡ s → p.number ≡ accepted_from v.inbox s + 1
    → arrived_as (arrival_of v s (frame.Data p)) ≡ Some reply.Accepted
accepts v s p source number =
    ap (λ b. arrived_as (if b then frames.arrived_as (answer_to v.inbox p) else arrived.Foreign)) (eq-eqb p.source s source)
    ∙ go (nat_le p.number (accepted_from v.inbox p.source)) refl
  where
    here : p.number ≡ accepted_from v.inbox p.source + 1
    here = number ∙ ap (λ z. accepted_from v.inbox z + 1) (sym source)

    go : (b : Bool) → nat_le p.number (accepted_from v.inbox p.source) ≡ b → arrived_as (frames.arrived_as (answer_to v.inbox p)) ≡ Some reply.Accepted
    go true e = absurd (let l = leb-true p.number (accepted_from v.inbox p.source) e in let n = here in omega (arith, l, n))
    go false e =
        ap (λ b. arrived_as (frames.arrived_as (if b then accept.Repeated else (if p.number == accepted_from v.inbox p.source + 1 then accept.Accepted else accept.Gap)))) e
        ∙ ap (λ b. arrived_as (frames.arrived_as (if b then accept.Accepted else accept.Gap))) (eq-eqb p.number (accepted_from v.inbox p.source + 1) here)

-- a machine at whose gate nothing waits, and which doesn't move, is idle
stays_idle : (v : Rank) (x : Want) → v.pending ≡ [] → leaves_all (stepped (turn_at v x)) ≡ true → is_idle (turn_at v x) ≡ true
stays_idle v want.Internal none l = absurd cc
stays_idle v (want.Send d c t) none l = effect (has_room v.pending) (ap has_room none) l
  where
    effect : (b : Bool) → b ≡ true → leaves_all (stepped (if b then turn.Moved else turn.Held)) ≡ true → is_idle (if b then turn.Moved else turn.Held) ≡ true
    effect true e k = absurd cc
    effect false e k = absurd cc
stays_idle v (want.Receive x) none l = waits_for (is_some (position (matches x) v.inbox.packets)) l
  where
    waits_for : (b : Bool) → leaves_all (stepped (if b then turn.Moved else turn.Blocked)) ≡ true → is_idle (if b then turn.Moved else turn.Blocked) ≡ true
    waits_for true k = absurd cc
    waits_for false k = refl
stays_idle v (want.Probe x) none l = waits_for (is_some (position (matches x) v.inbox.packets)) l
  where
    waits_for : (b : Bool) → leaves_all (stepped (if b then turn.Moved else turn.Blocked)) ≡ true → is_idle (if b then turn.Moved else turn.Blocked) ≡ true
    waits_for true k = absurd cc
    waits_for false k = refl
stays_idle v (want.TryProbe x) none l = absurd cc
stays_idle v (want.Print z) none l = effect (has_room v.pending) (ap has_room none) l
  where
    effect : (b : Bool) → b ≡ true → leaves_all (stepped (if b then turn.Moved else turn.Held)) ≡ true → is_idle (if b then turn.Moved else turn.Held) ≡ true
    effect true e k = absurd cc
    effect false e k = absurd cc
stays_idle v want.Halted none l = refl
stays_idle v (want.Faulted k) none l = refl

-- ---- a still world

module _ (w : WorldValue) (i : IsWorld w) (still : IsStill w) where
  -- each rank is live: none starts again
  all_live : AllLive w
  all_live r l = live_or_down w r l (down (in_vain w (Restart r) (still.steps r l).0))
    where
      down : CanNot w (Restart r) ⊎ ((answer : Reply) × (leaves_all answer ≡ true) × Happens w (Restart r) answer w) → CanNot w (Restart r)
      down (inl never) = never
      down (inr h) = absurd (let q = subst (λ z. leaves_all z ≡ true) h.2.answered h.1 in cc)

  -- nothing of a rank is to be stored
  stored : (r : ℕ) (v : Live) → IsLive w r v → next_unstored v.rank ≡ None
  stored r v live = go (in_vain w (Store r) (still.gates r (slice_get_within w.ranks r (Some v) live)).0)
    where
      go : CanNot w (Store r) ⊎ ((answer : Reply) × (leaves_all answer ≡ true) × Happens w (Store r) answer w) → next_unstored v.rank ≡ None
      go (inl never) = never v live
      go (inr h) = absurd (let q = subst (λ z. leaves_all z ≡ true) h.2.answered h.1 in cc)

  -- nor acknowledged
  acked : (r : ℕ) (v : Live) → IsLive w r v → v.rank.stored ≡ 0
  acked r v live = go (in_vain w (Ack r) (still.gates r (slice_get_within w.ranks r (Some v) live)).1)
    where
      go : CanNot w (Ack r) ⊎ ((answer : Reply) × (leaves_all answer ≡ true) × Happens w (Ack r) answer w) → v.rank.stored ≡ 0
      go (inl never) = never v live
      go (inr h) = absurd (let q = subst (λ z. leaves_all z ≡ true) h.2.answered h.1 in cc)

  -- nor released
  released : (r : ℕ) (v : Live) → IsLive w r v → v.left ≡ [] → next_effect v.rank ≡ None
  released r v live left = go (in_vain w (Release r) (still.gates r (slice_get_within w.ranks r (Some v) live)).2)
    where
      go : CanNot w (Release r) ⊎ ((answer : Reply) × (leaves_all answer ≡ true) × Happens w (Release r) answer w) → next_effect v.rank ≡ None
      go (inl never) = never v live left
      go (inr h) = absurd (let q = subst (λ z. leaves_all z ≡ true) h.2.answered h.1 in cc)

  -- so nothing waits at its gate
  settled : (r : ℕ) (v : Live) → IsLive w r v → v.rank.pending ≡ []
  settled r v live = replays v.left refl
    where
      first : (o : Option Waiting) → slice_get v.rank.pending 0 ≡ o → v.left ≡ [] → o ≡ None
      first None e left = refl
      first (Some (waits.Event x)) e left =
          absurd (let q : Some x ≡ None =
          sym (ap (λ k. option_and_then event_in (slice_get v.rank.pending k)) (acked r v live) ∙ ap (λ o. option_and_then event_in o) e) ∙ stored r v live in cc)
      first (Some (waits.Send d c)) e left =
          absurd (let q : Some (waits.Send d c) ≡ None = sym (ap (λ o. option_and_then effect_of o) e) ∙ released r v live left in cc)
      first (Some (waits.Line c z)) e left =
          absurd (let q : Some (waits.Line c z) ≡ None = sym (ap (λ o. option_and_then effect_of o) e) ∙ released r v live left in cc)

      nothing : (xs : List Waiting) → slice_get xs 0 ≡ None → xs ≡ []
      nothing [] e = refl
      nothing (x ∷ xs) e = absurd cc

      replays : (left : List EventValue) → v.left ≡ left → v.rank.pending ≡ []
      replays [] e = nothing v.rank.pending (first (slice_get v.rank.pending 0) refl e)
      replays (x ∷ rest) e = none_waiting w r v i.stands live x rest e

  -- nothing is outgoing
  gone : (s d : ℕ) (u : Live) → IsLive w s u → d < size w → outgoing_of u.rank d ≡ None
  gone s d u live l = go (in_vain w (Put s d) (still.puts s (slice_get_within w.ranks s (Some u) live) d l))
    where
      go : CanNot w (Put s d) ⊎ ((answer : Reply) × (leaves_all answer ≡ true) × Happens w (Put s d) answer w) → outgoing_of u.rank d ≡ None
      go (inl never) = never u live l
      go (inr h) = absurd (put_not (length h.2.frames) h.2.frame (subst (λ z. leaves_all z ≡ true) h.2.answered h.1))

  -- no packet on a wire is the next to be accepted
  not_next : (s d : ℕ) (v : Live) (p : packet.PacketValue) → s < size w → IsLive w d v → OnWire w s d (frame.Data p)
      → p.number ≡ accepted_from v.rank.inbox s + 1 → ⊥
  not_next s d v p ls live on number = go (in_vain w (Arrive s d on.1) (still.packets s ls d ld on.1 (slice_get_within (wire_of w.wires s d) on.1 (frame.Data p) at) p at))
    where
      ld : d < size w
      ld = slice_get_within w.ranks d (Some v) live

      at : slice_get (wire_of w.wires s d) on.1 ≡ Some (frame.Data p)
      at = ap (λ z. slice_get z on.1) (sym (wire_is w s d on.0 (has_wire w s d i.stands ls ld) on.2)) ∙ on.3

      source : p.source ≡ s
      source = (i.stands.run.packets s d on.1 on.0 (frame.Data p) on.2 on.3).0

      same : (x y : Frame) → Some x ≡ Some y → x ≡ y
      same x y e = cc

      not_accepted : (answer : Reply) → leaves_all answer ≡ true → ◌≡◌ {A = Option Reply} (Some reply.Accepted) (Some answer) → ⊥
      not_accepted answer l e = (let z : reply.Accepted ≡ answer = cc in let q = subst (λ y. leaves_all y ≡ true) (sym z) l in cc)

      go : CanNot w (Arrive s d on.1) ⊎ ((answer : Reply) × (leaves_all answer ≡ true) × Happens w (Arrive s d on.1) answer w) → ⊥
      go (inl never) = never v on.0 (frame.Data p) live on.2 on.3
      go (inr h) =
          let f = h.2 in
          let x : f.frame ≡ frame.Data p =
          same f.frame (frame.Data p)
          (sym f.there ∙ ap (λ z. slice_get z on.1) (wire_is w s d f.frames (has_wire w s d i.stands ls ld) f.wire) ∙ at) in
          let u : f.before ≡ v = one_live w d v f.before live f.live in
          let answered : arrived_as (arrival_of v.rank s (frame.Data p)) ≡ Some h.0 =
          subst (λ z. arrived_as (arrival_of v.rank s z) ≡ Some h.0) x (subst (λ (z : Live). arrived_as (arrival_of z.rank s f.frame) ≡ Some h.0) u f.answered) in
          not_accepted h.0 h.1 (sym (accepts v.rank s p source number) ∙ answered)

  -- so what a rank transmits next to another isn't beyond the next that this accepts
  near : (s d : ℕ) (u v : Live) → IsLive w s u → IsLive w d v → (backlog u.rank.log d).cursor ≤ accepted_from v.rank.inbox s + 1
  near s d u v lu lv = go (cases_lt (accepted_from v.rank.inbox s + 1) (backlog u.rank.log d).cursor)
    where
      go : (accepted_from v.rank.inbox s + 1 < (backlog u.rank.log d).cursor) ⊎ ((backlog u.rank.log d).cursor ≤ accepted_from v.rank.inbox s + 1)
          → (backlog u.rank.log d).cursor ≤ accepted_from v.rank.inbox s + 1
      go (inr l) = l
      go (inl l) =
          let b = base_of w s d u v i.stands lu lv in
          let p = i.wired s d (accepted_from v.rank.inbox s + 1) u lu (slice_get_within w.ranks d (Some v) lv) (omega (arith, b)) l in
          absurd (not_next s d v p.0 (slice_get_within w.ranks s (Some u) lu) lv p.1 p.2)

  -- and it has accepted all that was sent to it
  accepted : (s d : ℕ) (u v : Live) → IsLive w s u → IsLive w d v → (backlog u.rank.log d).sent ≤ accepted_from v.rank.inbox s
  accepted s d u v lu lv =
      let l : d < size w = slice_get_within w.ranks d (Some v) lv in
      nothing_next s (accepted_from v.rank.inbox s) (sends_from 0 d (take u.rank.clock (history w.run s)))
      (sends_of (length (history w.run s)) d (rank_of i.stands s u lu).acts) (backlog u.rank.log d)
      (log_of w s d u i.stands lu l) (none_next (due_to u.rank d).ask (due_to u.rank d).kept (next_of (backlog u.rank.log d)) (gone s d u lu l))
      (above_of w s d u i.stands i.onward lu l) (base_of w s d u v i.stands lu lv) (near s d u v lu lv)

  -- ---- each rank has made its acts

  -- a rank whose next act of the run could be made would make it
  has_made : (early late : List Passed) (p : Passed) (v : Live) → Ready w early → w.run ≡ late ++ p ∷ early → IsLive w p.rank v
      → length (history early p.rank) + 1 ≤ v.rank.clock
  has_made early late p v g run live = go (cases_lt v.rank.clock (length (history early p.rank) + 1))
    where
      vain : IsInVain w (Step p.rank)
      vain = (still.steps p.rank (slice_get_within w.ranks p.rank (Some v) live)).1

      go : (v.rank.clock < length (history early p.rank) + 1) ⊎ (length (history early p.rank) + 1 ≤ v.rank.clock)
          → length (history early p.rank) + 1 ≤ v.rank.clock
      go (inr l) = l
      go (inl l) =
          let m = make_next w early late p.rank p.act v vain.0 w g run live l vain.2 in
          absurd (let q = subst (λ z. leaves_all z ≡ true) m.moved vain.1 in cc)

  -- so the run was gone through
  ready : (early late : List Passed) → w.run ≡ late ++ early → Ready w early
  ready [] late run =
      ready_first w i all_live (λ s d u v ok lu lv b. near s d u v lu lv) (λ s d ls ld a b u v ok lu lv behind. accepted a b u v lu lv)
  ready (p ∷ early) late run =
      let g = ready early (late ++ p ∷ []) (run ∙ sym (append_assoc late (p ∷ []) early)) in
      let v = all_live p.rank below in
      let m = made_already w early late p v.0 g run v.1 (has_made early late p v.0 g run v.1) in
      record {
        is_world = i;
        all_live = all_live;
        no_gaps = m.no_gaps;
        drained = λ a b u x ok lu lx behind. accepted a b u x lu lx;
        through = m.through;
      }
    where
      below : p.rank < size w
      below = (run_begins (start_at w (size w)) (size w) late (p ∷ early) (subst (λ z. IsRun (start_at w (size w)) (size w) z) run i.stands.run.is_run)).1

-- ---- and no rank is spent

module _ (w : WorldValue) (i : IsWorld w) (still : IsStill w) (unspent : IsNowhereSpent w) where
  -- a rank is quiet
  quiet : (r : ℕ) → r < size w → IsQuiet w r
  quiet r l =
      record {
        rank = v;
        live = live;
        left = c.2;
        none = settled w i still r v live;
        made = (let a = within in let b = c.3 in omega (arith, a, b));
        idle = idle (in_vain w (Step r) (still.steps r l).1);
      }
    where
      c : (v : Live) × IsLive w r v × (v.left ≡ []) × (length (history w.run r) ≤ v.rank.clock)
      c = caught_up_at_end w (ready w i still w.run [] refl) r l

      v : Live
      v = c.0

      live : IsLive w r v
      live = c.1

      s : RankStands (start_at w (size w)) (size w) w.run r (plain v)
      s = rank_of i.stands r v live

      within : v.rank.clock ≤ length (history w.run r)
      within =
          (at_run (start_at w (size w)) (size w) w.run r (plain v) s
          (RankStands-settled (start_at w (size w)) (size w) w.run r (plain v) s (none_waits_plainly v (settled w i still r v live)))).within

      allowed : (o : Option NodeFault) → refusal_of v.rank ≡ o → o ≢ None → ⊥
      allowed None e ne = ne refl
      allowed (Some f) e ne = unspent r l f (record { rank = v; live = live; left = c.2; refused = e })

      stays : (u : Live) → u ≡ v → leaves_all (stepped (turn_of u.rank)) ≡ true → is_idle (turn_of v.rank) ≡ true
      stays u e k =
          stays_idle v.rank (machine_want v.rank.machine) (settled w i still r v live) (subst (λ (z : Live). leaves_all (stepped (turn_of z.rank)) ≡ true) e k)

      idle : CanNot w (Step r) ⊎ ((answer : Reply) × (leaves_all answer ≡ true) × Happens w (Step r) answer w) → is_idle (turn_of v.rank) ≡ true
      idle (inl never) = absurd (allowed (refusal_of v.rank) refl (never v live).1)
      idle (inr h) = step h.0 h.1 h.2
        where
          step : (answer : Reply) → leaves_all answer ≡ true → StepFollows w r answer w ⊎ ReplayFollows w r answer w → is_idle (turn_of v.rank) ≡ true
          step answer k (inl f) = stays f.before (one_live w r v f.before live f.live) (subst (λ z. leaves_all z ≡ true) f.answered k)
          step answer k (inr f) =
              absurd (let q : f.event ∷ f.rest ≡ [] = sym f.replaying ∙ ap (λ (z : Live). z.left) (one_live w r v f.before live f.live) ∙ c.2 in cc)

  -- it has accepted all that was sent to it in the run
  heard : (s d : ℕ) → s < size w → HasHeard w s d
  heard s d l v live =
      let u = quiet s l in
      let ld : d < size w = slice_get_within w.ranks d (Some v) live in
      let a = accepted w i still s d u.rank v u.live live in
      let n = (log_of w s d u.rank i.stands u.live ld).sent in
      let e : length (sends_from 0 d (take u.rank.rank.clock (history w.run s))) ≡ length (sent w.run s d) =
      ap (λ k. length (sends_from 0 d (take k (history w.run s)))) u.made ∙ ap (λ z. length (sends_from 0 d z)) (take_whole (history w.run s)) in
      omega (arith, a, n, e)

  -- so every rank is at rest
  pub still_rests : AllRest w
  still_rests r l = (quiet r l, λ s m. heard s r m)
