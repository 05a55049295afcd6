-- A step keeps that the ranks of a world can get on, be it replayed or not.
use Rattle.std.proofs.Common.{◌≡◌, ◌≢◌, ℕ, ℤ, ◌+◌, ◌<◌, ◌≤◌, ◌⊎◌, inl, inr, ⊎_elim, Bool, true, false, ◌==◌, nat_lt, if◌then◌else◌, is_some, []}
use Rattle.std.proofs.Common.{Option, Some, None, length, refl, sym, ap, subst, ◌∙◌, arith, slice_set, slice_index, slice_index_or, position}
use Rattle.std.proofs.Common.{option_and_then}
use Rattle.std.proofs.lemmas.Bool.{cases_lt, eq-eqb}
use Rattle.limits.specs.Limits.{greatest_clock, most_events}
use Rattle.event_logger.specs.Sequential.Event.{EventValue}
use Rattle.event_logger.specs.declared.sequential.kind.Kind.{Kind}
use Rattle.event_logger.specs.declared.sequential.kind.Kind.TheVariants as kind
use Rattle.matching.specs.declared.packet.Context.{Context}
use Rattle.matching.specs.declared.selector.Selector.{Selector}
use Rattle.matching.specs.PacketValue as packet
use Rattle.matching.specs.Matching.{matches}
use Rattle.payload_log.specs.Backlog.{backlog, saved, hold}
use Rattle.rank_machine.specs.declared.want.Want.{Want}
use Rattle.rank_machine.specs.declared.want.Want.TheVariants as want
use Rattle.rank_machine.specs.Acts.{Act}
use Rattle.rank_machine.specs.Machine.{MachineValue, machine_want}
use Rattle.rank_node.specs.declared.fault.NodeFault.TheVariants as fault
use Rattle.rank_node.specs.declared.turn.Turn.{Turn}
use Rattle.rank_node.specs.declared.turn.Turn.TheVariants as turn
use Rattle.rank_node.specs.Node.{no_due}
use Rattle.rank_node.specs.Waiting.{has_room, is_settled, joins}
use Rattle.rank_node.specs.Steps.{message_of, with_machine, after_send, after_print, after_hold, after_wait, made_send, made_print, after_reception}
use Rattle.rank_node.specs.Steps.{after_probe, after_miss, received, probed, tried, step_at, turn_at, refusal_at, clock_refusal, event_refusal, try_refusal}
use Rattle.rank_node.specs.Steps.{at_index, found}
use Rattle.rank_node.specs.Replay.{named, replayed_at, taken_named, shown_named, tried_named, left_after}
use Rattle.crash_free.specs.Runs.{history}
use Rattle.bare_world.specs.declared.reply.Reply.{Reply}
use Rattle.bare_world.specs.World.{Rank, Live, WorldValue, IsLive}
use Rattle.bare_world.specs.Stands.{Stands}
use Rattle.bare_world.specs.Follows.{effect_at, passed_at, StepFollows, ReplayFollows}
use Rattle.bare_world.specs.Onward.{AreAbove, RankOnward, Onward}
use Rattle.bare_world.proofs.Plain.ReplaySteps.{is_behind as behind_run}
use Rattle.bare_world.proofs.Onward.OneRankChanges.{same_wires, OneChanged, GetsOn, onward_gets_on}
use Rattle.bare_world.proofs.Onward.KeptByFrames.{above_set}
use Rattle.bare_world.proofs.Onward.KeptByPasses.{others_passed, passed_count}

-- ---- what a step leaves

-- A step makes one act at most; it accepts nothing, asks for nothing, and lets nothing go.
pub record Turned (v y : Rank) : Type 0 where
  clock : (y.clock ≡ v.clock) ⊎ (y.clock ≡ v.clock + 1)
  pub accepted : y.inbox.accepted ≡ v.inbox.accepted
  pub dues : y.dues ≡ v.dues
  above : AreAbove v.log → AreAbove y.log

-- where nothing changes
turned_not : (v : Rank) → Turned v v
turned_not v = record { clock = inl refl; accepted = refl; dues = refl; above = λ all. all }

-- where the machine alone changes
turned_inside : (v : Rank) (m : MachineValue) → Turned v (with_machine v m)
turned_inside v m = record { clock = inl refl; accepted = refl; dues = refl; above = λ all. all }

-- an act that leaves the payload log
turned_act : (v y : Rank) → y.clock ≡ v.clock + 1 → y.inbox.accepted ≡ v.inbox.accepted → y.dues ≡ v.dues → y.log ≡ v.log → Turned v y
turned_act v y clock accepted dues log =
    record { clock = inr clock; accepted = accepted; dues = dues; above = λ all. subst (λ z. AreAbove z) (sym log) all }

-- a print that passes
turned_print : (v : Rank) (m : MachineValue) → Turned v (after_print v m)
turned_print v m = turned_act v (after_print v m) refl refl refl refl

-- a send that passes
turned_send : (v : Rank) (m : MachineValue) (d : ℕ) (c : Context) (t : ℕ) → Turned v (after_send v m d c t)
turned_send v m d c t =
    record {
      clock = inr refl;
      accepted = refl;
      dues = refl;
      above = λ all. above_set v.log d (saved (backlog v.log d) (message_of v d c t)) (all d) all;
    }

-- a send that waits
turned_hold : (v : Rank) (m : MachineValue) (d : ℕ) (c : Context) (t : ℕ) → Turned v (after_hold v m d c t)
turned_hold v m d c t =
    record {
      clock = inr refl;
      accepted = refl;
      dues = refl;
      above = λ all. above_set v.log d (hold (backlog v.log d) (message_of v d c t)) (all d) all;
    }

-- a named packet that is taken
turned_taken : (v : Rank) (m : MachineValue) (o : Option (ℕ × packet.PacketValue)) → Turned v (taken_named v m o)
turned_taken v m None = turned_not v
turned_taken v m (Some f) = turned_act v (taken_named v m (Some f)) refl refl refl refl

-- a named packet that is shown
turned_shown : (v : Rank) (m : MachineValue) (o : Option (ℕ × packet.PacketValue)) → Turned v (shown_named v m o)
turned_shown v m None = turned_not v
turned_shown v m (Some f) = turned_print v m

-- a probe that doesn't wait
turned_tried : (v : Rank) (m : MachineValue) (o : Option (ℕ × packet.PacketValue)) (k : Kind) → Turned v (tried_named v m o k)
turned_tried v m o kind.Hit = turned_shown v m o
turned_tried v m o kind.Miss = turned_print v m
turned_tried v m o kind.Misses = turned_print v m
turned_tried v m o kind.Reception = turned_not v

-- each replayed step
pub turned_replayed : (v : Rank) (e : EventValue) (x : Want) (m : MachineValue) → Turned v (replayed_at v e x m)
turned_replayed v e want.Internal m = turned_inside v m
turned_replayed v e (want.Send d c t) m = turned_send v m d c t
turned_replayed v e (want.Receive s) m = turned_taken v m (named v e)
turned_replayed v e (want.Probe s) m = turned_shown v m (named v e)
turned_replayed v e (want.TryProbe s) m = turned_tried v m (named v e) e.kind
turned_replayed v e (want.Print z) m = turned_print v m
turned_replayed v e want.Halted m = turned_not v
turned_replayed v e (want.Faulted k) m = turned_not v

-- a replayed act that passes has the next clock
replayed_passes : (v : Rank) (e : EventValue) (x : Want) (m : MachineValue) (t : Turn) (a : Act)
    → effect_at v x t ≡ Some a → (replayed_at v e x m).clock ≡ v.clock + 1
replayed_passes v e (want.Send d c k) m t a is = refl
replayed_passes v e (want.Print z) m t a is = refl
replayed_passes v e want.Internal m t a is = absurd cc
replayed_passes v e (want.Receive s) m t a is = absurd cc
replayed_passes v e (want.Probe s) m t a is = absurd cc
replayed_passes v e (want.TryProbe s) m t a is = absurd cc
replayed_passes v e want.Halted m t a is = absurd cc
replayed_passes v e (want.Faulted k) m t a is = absurd cc

-- ---- a step that isn't replayed

-- Its clock stays within its limit, and an act that passes has the next clock.
pub record Stepped (v y : Rank) (x : Want) (t : Turn) : Type 0 where
  pub turned : Turned v y
  unspent : (y.clock ≡ v.clock) ⊎ (v.clock ≢ greatest_clock)
  passes : (a : Act) → effect_at v x t ≡ Some a → y.clock ≡ v.clock + 1

-- an act that isn't refused is made before the greatest clock
unspent_act : (v : Rank) → clock_refusal v ≡ None → v.clock ≢ greatest_clock
unspent_act v e q =
    let b : (v.clock == greatest_clock) ≡ true = eq-eqb v.clock greatest_clock q in
    let z : Some fault.ClockSpent ≡ None = sym (ap (λ y. if y then Some fault.ClockSpent else None) b) ∙ e in
    cc

-- so is one that makes an event
unspent_event : (v : Rank) → event_refusal v ≡ None → v.clock ≢ greatest_clock
unspent_event v e q =
    let b : (v.clock == greatest_clock) ≡ true = eq-eqb v.clock greatest_clock q in
    let z : Some fault.ClockSpent ≡ None =
    sym (ap (λ y. if y then Some fault.ClockSpent else (if nat_lt v.made most_events then None else Some fault.Log)) b) ∙ e in
    cc

-- and one that does or may find nothing
unspent_try : (v : Rank) (o : Option ℕ) → try_refusal v o ≡ None → v.clock ≢ greatest_clock
unspent_try v (Some index) e = unspent_event v e
unspent_try v None e = go (joins v.stored v.pending) e
  where
    go : (b : Bool) → (if b then clock_refusal v else event_refusal v) ≡ None → v.clock ≢ greatest_clock
    go true f = unspent_act v f
    go false f = unspent_event v f

-- where no act is made
stepped_not : (v : Rank) (x : Want) (t : Turn) → effect_at v x t ≡ None → Stepped v v x t
stepped_not v x t none = record { turned = turned_not v; unspent = inl refl; passes = λ a e. absurd (let z : Some a ≡ None = sym e ∙ none in cc) }

-- where one is
stepped_act : (v y : Rank) (x : Want) (t : Turn) → Turned v y → y.clock ≡ v.clock + 1 → v.clock ≢ greatest_clock → Stepped v y x t
stepped_act v y x t turned clock few = record { turned = turned; unspent = inr few; passes = λ a e. clock }

-- a send: it passes or waits, or there is no room
stepped_send : (v : Rank) (d : ℕ) (c : Context) (t : ℕ) (m : MachineValue) → refusal_at v (want.Send d c t) ≡ None
    → Stepped v (step_at v (want.Send d c t) m) (want.Send d c t) (turn_at v (want.Send d c t))
stepped_send v d c t m e = room (has_room v.pending) e
  where
    made : (b : Bool) → v.clock ≢ greatest_clock → Stepped v (if b then after_send v m d c t else after_hold v m d c t) (want.Send d c t) turn.Moved
    made true few = stepped_act v (after_send v m d c t) (want.Send d c t) turn.Moved (turned_send v m d c t) refl few
    made false few = stepped_act v (after_hold v m d c t) (want.Send d c t) turn.Moved (turned_hold v m d c t) refl few

    room : (b : Bool) → (if b then clock_refusal v else None) ≡ None
        → Stepped v (if b then made_send v m d c t else v) (want.Send d c t) (if b then turn.Moved else turn.Held)
    room true f = made (is_settled v.pending) (unspent_act v f)
    room false f = stepped_not v (want.Send d c t) turn.Held refl

-- a print likewise
stepped_print : (v : Rank) (z : ℤ) (m : MachineValue) → refusal_at v (want.Print z) ≡ None
    → Stepped v (step_at v (want.Print z) m) (want.Print z) (turn_at v (want.Print z))
stepped_print v z m e = room (has_room v.pending) e
  where
    made : (b : Bool) → v.clock ≢ greatest_clock → Stepped v (if b then after_print v m else after_wait v m z) (want.Print z) turn.Moved
    made true few = stepped_act v (after_print v m) (want.Print z) turn.Moved (turned_print v m) refl few
    made false few = stepped_act v (after_wait v m z) (want.Print z) turn.Moved (turned_act v (after_wait v m z) refl refl refl refl) refl few

    room : (b : Bool) → (if b then clock_refusal v else None) ≡ None
        → Stepped v (if b then made_print v m z else v) (want.Print z) (if b then turn.Moved else turn.Held)
    room true f = made (is_settled v.pending) (unspent_act v f)
    room false f = stepped_not v (want.Print z) turn.Held refl

-- a receive: it takes what was found
stepped_receive : (v : Rank) (s : Selector) (m : MachineValue) → refusal_at v (want.Receive s) ≡ None
    → Stepped v (step_at v (want.Receive s) m) (want.Receive s) (turn_at v (want.Receive s))
stepped_receive v s m e = go (position (matches s) v.inbox.packets) e
  where
    at : (o : Option (ℕ × packet.PacketValue)) → event_refusal v ≡ None → Stepped v (received v m o) (want.Receive s) (turn_at v (want.Receive s))
    at None f = stepped_not v (want.Receive s) (turn_at v (want.Receive s)) refl
    at (Some g) f =
        stepped_act v (after_reception v m g.0 g.1) (want.Receive s) (turn_at v (want.Receive s))
        (turned_act v (after_reception v m g.0 g.1) refl refl refl refl) refl (unspent_event v f)

    go : (o : Option ℕ) → (if is_some o then event_refusal v else None) ≡ None
        → Stepped v (received v m (option_and_then (at_index v.inbox.packets) o)) (want.Receive s) (turn_at v (want.Receive s))
    go None f = stepped_not v (want.Receive s) (turn_at v (want.Receive s)) refl
    go (Some i) f = at (option_and_then (at_index v.inbox.packets) (Some i)) f

-- a probe shows it
stepped_probe : (v : Rank) (s : Selector) (m : MachineValue) → refusal_at v (want.Probe s) ≡ None
    → Stepped v (step_at v (want.Probe s) m) (want.Probe s) (turn_at v (want.Probe s))
stepped_probe v s m e = go (position (matches s) v.inbox.packets) e
  where
    at : (o : Option (ℕ × packet.PacketValue)) → event_refusal v ≡ None → Stepped v (probed v m o) (want.Probe s) (turn_at v (want.Probe s))
    at None f = stepped_not v (want.Probe s) (turn_at v (want.Probe s)) refl
    at (Some g) f =
        stepped_act v (after_probe v m kind.Hit g.1.source g.1.clock) (want.Probe s) (turn_at v (want.Probe s))
        (turned_act v (after_probe v m kind.Hit g.1.source g.1.clock) refl refl refl refl) refl (unspent_event v f)

    go : (o : Option ℕ) → (if is_some o then event_refusal v else None) ≡ None
        → Stepped v (probed v m (option_and_then (at_index v.inbox.packets) o)) (want.Probe s) (turn_at v (want.Probe s))
    go None f = stepped_not v (want.Probe s) (turn_at v (want.Probe s)) refl
    go (Some i) f = at (option_and_then (at_index v.inbox.packets) (Some i)) f

-- a probe that doesn't wait
stepped_try : (v : Rank) (s : Selector) (m : MachineValue) → refusal_at v (want.TryProbe s) ≡ None
    → Stepped v (step_at v (want.TryProbe s) m) (want.TryProbe s) (turn_at v (want.TryProbe s))
stepped_try v s m e = at (found s v.inbox.packets)
  where
    at : (o : Option (ℕ × packet.PacketValue)) → Stepped v (tried v m o) (want.TryProbe s) turn.Moved
    at None =
        stepped_act v (after_miss v m) (want.TryProbe s) turn.Moved
        (turned_act v (after_miss v m) refl refl refl refl) refl (unspent_try v (position (matches s) v.inbox.packets) e)
    at (Some g) =
        stepped_act v (after_probe v m kind.Hit g.1.source g.1.clock) (want.TryProbe s) turn.Moved
        (turned_act v (after_probe v m kind.Hit g.1.source g.1.clock) refl refl refl refl) refl
        (unspent_try v (position (matches s) v.inbox.packets) e)

-- each step
pub stepped_all : (v : Rank) (x : Want) (m : MachineValue) → refusal_at v x ≡ None → Stepped v (step_at v x m) x (turn_at v x)
stepped_all v want.Internal m e = record { turned = turned_inside v m; unspent = inl refl; passes = λ a h. absurd cc }
stepped_all v (want.Send d c t) m e = stepped_send v d c t m e
stepped_all v (want.Print z) m e = stepped_print v z m e
stepped_all v (want.Receive s) m e = stepped_receive v s m e
stepped_all v (want.Probe s) m e = stepped_probe v s m e
stepped_all v (want.TryProbe s) m e = stepped_try v s m e
stepped_all v want.Halted m e = stepped_not v want.Halted turn.Ended refl
stepped_all v (want.Faulted k) m e = stepped_not v (want.Faulted k) turn.Ended refl

-- ---- the world after a step

-- A rank makes a step, and an act passes with it or none does: all can get on still.
module _ (w w' : WorldValue) (r : ℕ) (v y : Live) (o : Option Act) (t : Stands w') (live : IsLive w r v)
    (ranks : w'.ranks ≡ slice_set w.ranks r (Some y)) (images : w'.images ≡ w.images) (wires : w'.wires ≡ w.wires)
    (run : w'.run ≡ passed_at w.run r (v.rank.clock + 1) o) (turned : Turned v.rank y.rank) (few : y.rank.clock ≤ greatest_clock)
    (passes : (a : Act) → o ≡ Some a → y.rank.clock ≡ v.rank.clock + 1) where
  -- no clock goes back
  later : v.rank.clock ≤ y.rank.clock
  later = ⊎_elim (λ e. omega (arith, e)) (λ e. omega (arith, e)) turned.clock

  -- the run has as many acts of the rank as before, or no more than the rank has made
  acts : (length (history w'.run r) ≡ length (history w.run r)) ⊎ (length (history w'.run r) ≤ y.rank.clock)
  acts =
      let e = ap (λ C. length (history C r)) run in
      ⊎_elim (λ same. inl (e ∙ same))
      (λ p. (let c = passes p.act p.passed in let one = p.one_more in let l = p.above in inr (omega (arith, c, one, l, e))))
      (passed_count w.run r (v.rank.clock + 1) o)

  -- one rank changed, and the run has no more acts than its clock may count
  changed : Onward w → OneChanged w w' r (Some y)
  changed k =
      record {
        ranks = ranks;
        images = images;
        wires = same_wires w w' wires;
        others = λ q ne. ap (λ C. history C q) run ∙ others_passed w.run r (v.rank.clock + 1) o q ne;
        few = (let l = k.acts r in ⊎_elim (λ e. omega (arith, e, l)) (λ e. omega (arith, e, few)) acts);
      }

  -- its new value owes nothing more
  owes : RankOnward w r v → GetsOn w w' r v y
  owes before =
      record {
        clock = few;
        above = turned.above before.above;
        behind = λ b. (let l = later in ⊎_elim (λ e. omega (arith, e, l, b)) (λ e. absurd (omega (arith, e, b))) acts);
        accepted = λ s. (let e = ap (λ z. slice_index z s) turned.accepted in omega (arith, e));
        asks = λ s from e. inl (ap (λ z. (slice_index_or z s no_due).ask) turned.dues ∙ e);
      }

  -- so all can get on
  onward_turned : Onward w → Onward w'
  onward_turned k = onward_gets_on w w' r v y t live (changed k) (owes (k.ranks r v live)) k

-- a replayed step: the rank is behind the run, so its clock stays within that
pub Onward-replay : (w : WorldValue) (r : ℕ) (answer : Reply) (w' : WorldValue) → Stands w → Stands w' → ReplayFollows w r answer w'
    → Onward w → Onward w'
Onward-replay w r answer w' t t' f k =
    onward_turned w w' r f.before
    (record {
      rank = replayed_at f.before.rank f.event (machine_want f.before.rank.machine) f.machine;
      left = left_after f.before.rank (machine_want f.before.rank.machine) f.turn f.event f.rest;
    })
    (effect_at f.before.rank (machine_want f.before.rank.machine) f.turn) t' f.live
    (ap (λ z. z.ranks) f.after) (ap (λ z. z.images) f.after) (ap (λ z. z.wires) f.after)
    (ap (λ z. z.run) f.after) turned few
    (λ a e. replayed_passes f.before.rank f.event (machine_want f.before.rank.machine) f.machine f.turn a e) k
  where
    turned : Turned f.before.rank (replayed_at f.before.rank f.event (machine_want f.before.rank.machine) f.machine)
    turned = turned_replayed f.before.rank f.event (machine_want f.before.rank.machine) f.machine

    is_behind : f.before.rank.clock < length (history w.run r)
    is_behind = behind_run w r f.before t f.live f.event f.rest f.replaying

    few : (replayed_at f.before.rank f.event (machine_want f.before.rank.machine) f.machine).clock ≤ greatest_clock
    few =
        let l = k.acts r in
        let b = is_behind in
        ⊎_elim (λ e. omega (arith, e, l, b)) (λ e. omega (arith, e, l, b)) turned.clock

-- a step that isn't: it isn't refused, so its clock stays within the greatest
pub Onward-step : (w : WorldValue) (r : ℕ) (answer : Reply) (w' : WorldValue) → Stands w' → StepFollows w r answer w' → Onward w → Onward w'
Onward-step w r answer w' t f k =
    onward_turned w w' r f.before (record { rank = step_at f.before.rank (machine_want f.before.rank.machine) f.machine; left = [] })
    (effect_at f.before.rank (machine_want f.before.rank.machine) (turn_at f.before.rank (machine_want f.before.rank.machine))) t f.live
    (ap (λ z. z.ranks) f.after) (ap (λ z. z.images) f.after) (ap (λ z. z.wires) f.after) (ap (λ z. z.run) f.after) stepped.turned few stepped.passes k
  where
    stepped : Stepped f.before.rank (step_at f.before.rank (machine_want f.before.rank.machine) f.machine) (machine_want f.before.rank.machine)
        (turn_at f.before.rank (machine_want f.before.rank.machine))
    stepped = stepped_all f.before.rank (machine_want f.before.rank.machine) f.machine f.allowed

    below : (c : ℕ) → c ≤ greatest_clock → c ≢ greatest_clock → c < greatest_clock
    below c l ne = ⊎_elim (λ z. z) (λ z. absurd (ne (omega (arith, l, z)))) (cases_lt c greatest_clock)

    few : (step_at f.before.rank (machine_want f.before.rank.machine) f.machine).clock ≤ greatest_clock
    few =
        let c = (k.ranks r f.before f.live).clock in
        let one : ((step_at f.before.rank (machine_want f.before.rank.machine) f.machine).clock ≡ f.before.rank.clock)
        ⊎ ((step_at f.before.rank (machine_want f.before.rank.machine) f.machine).clock ≡ f.before.rank.clock + 1) = stepped.turned.clock in
        ⊎_elim (λ same. omega (arith, same, c))
        (λ ne. (let l = below f.before.rank.clock c ne in ⊎_elim (λ e. omega (arith, e, c)) (λ e. omega (arith, e, l)) one)) stepped.unspent
