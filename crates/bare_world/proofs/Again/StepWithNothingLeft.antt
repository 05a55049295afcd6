-- A step of a rank that has nothing left to replay and is behind the run makes only sends and prints again; and what any
-- step of a rank behind the run comes to.
use Rattle.std.proofs.Common.{◌≡◌, ℕ, ◌<◌, inl, inr, true, if◌then◌else◌, []}
use Rattle.std.proofs.Common.{Some, None, length, refl, sym, ap, subst, ◌∙◌, arith, slice_set}
use Rattle.std.proofs.lemmas.Bool.{ne_eqb}
use Rattle.limits.specs.Limits.{greatest_clock}
use Rattle.rank_machine.specs.declared.want.Want.{Want}
use Rattle.rank_machine.specs.declared.want.Want.TheVariants as want
use Rattle.rank_machine.specs.Wants.{payload}
use Rattle.rank_machine.specs.Acts.{Fits}
use Rattle.rank_machine.specs.Machine.{MachineValue, state_of, machine_want}
use Rattle.rank_node.specs.declared.fault.NodeFault.TheVariants as fault
use Rattle.rank_node.specs.declared.turn.Turn.TheVariants as turn
use Rattle.rank_node.specs.Waiting.{has_room, is_settled}
use Rattle.rank_node.specs.Steps.{after_send, after_print, made_send, made_print, after_hold, after_wait, MachineStepAt}
use Rattle.rank_node.specs.Steps.{step_at, turn_at, clock_refusal, refusal_at}
use Rattle.crash_free.specs.Runs.{history, sent, continue}
use Rattle.bare_world.specs.World.{Live}
use Rattle.bare_world.specs.Follows.{effect_at}
use Rattle.rank_node.specs.Replay.{replayed_at}
use Rattle.bare_world.specs.World.{WorldValue, size, IsLive}
use Rattle.bare_world.specs.Stands.{RankStands, Stands, start_at}
use Rattle.bare_world.proofs.Standing.InRun.{NextAct, next_act, run_reaches}
use Rattle.bare_world.proofs.Standing.LiveRanks.{RankStands-settled, at_run}
use Rattle.bare_world.proofs.Runs.ActFitsWant.{fits_ended, wanted, stopped}
use Rattle.bare_world.specs.Plain.{plain}
use Rattle.bare_world.proofs.Plain.Ranks.{none_left_plainly, none_waits_plainly}
use Rattle.bare_world.proofs.Plain.Worlds.{rank_of}
use Rattle.bare_world.specs.declared.event.WorldEvent.TheVariants.{Step}
use Rattle.bare_world.specs.declared.reply.Reply.{Reply}
use Rattle.bare_world.specs.declared.reply.Reply.TheVariants as reply
use Rattle.bare_world.specs.Follows.{stepped}
use Rattle.bare_world.specs.Follows.{StepFollows, ReplayFollows, CanNot}
use Rattle.bare_world.proofs.Standing.StepsAtWork.{IsEventWant, caught_up}
use Rattle.bare_world.proofs.Standing.PassesOnce.{passed_again}
use Rattle.bare_world.specs.Onward.{Behind, Onward}
use Rattle.bare_world.proofs.Again.StepBehindRun.{replay_moves, Went, went_internal, went_send, went_print, Provides, Moves}

-- ---- a step where nothing is left to replay: only sends and prints are made again

module _ (w : WorldValue) (r : ℕ) (v : Live) (m : MachineValue) (t : Stands w) (live : IsLive w r v) (behind : v.rank.clock < length (history w.run r))
    (left : v.left ≡ []) (none : v.rank.pending ≡ []) (early : v.rank.clock < greatest_clock) where
  s : RankStands (start_at w (size w)) (size w) w.run r (plain v)
  s = rank_of t r v live

  owes : s.acts ≡ []
  owes = RankStands-settled (start_at w (size w)) (size w) w.run r (plain v) s (none_waits_plainly v none)

  no_event : (x : Want) → machine_want v.rank.machine ≡ x → IsEventWant x → ⊥
  no_event x is i =
      let a = caught_up (start_at w (size w)) (size w) w.run r (plain v) x t.run.is_run s (none_left_plainly v left) is i in
      let c = ap (λ z. length (history (continue w.run r z) r)) owes in
      omega (arith, a, c, behind)

  next_one : (x : Want) → machine_want v.rank.machine ≡ x → (x ≡ want.Internal → ⊥) → NextAct (history w.run r) v.rank.clock v.rank.machine
  next_one x is ne =
      let z = run_reaches (start_at w (size w)) (size w) w.run r t.run.is_run in
      next_act (start_at w (size w) r) (size w) r (λ q. sent w.run q r) (history w.run r) v.rank.clock v.rank.machine v.rank.inbox v.rank.log z.0 z.1 behind
      (stopped v.rank.machine x is ne)
      (at_run (start_at w (size w)) (size w) w.run r (plain v) s owes)

  gate : is_settled v.rank.pending ≡ true
  gate = ap (λ z. is_settled z) none

  room : has_room v.rank.pending ≡ true
  room = ap (λ z. has_room z) none

  pub step_moves : (x : Want) → machine_want v.rank.machine ≡ x → MachineStepAt v.rank x m → Moves v.rank (step_at v.rank x m) (turn_at v.rank x)
  step_moves want.Internal is steps = record { moved = refl; went = went_internal v.rank m is steps }
  step_moves (want.Send d c y) is steps =
      record {
        moved = ap (λ b. if b then turn.Moved else turn.Held) room;
        went =
            subst (λ b. Went v.rank (if b then made_send v.rank m d c y else v.rank)) (sym room)
            (subst (λ b. Went v.rank (if b then after_send v.rank m d c y else after_hold v.rank m d c y)) (sym gate) (went_send v.rank m d c y));
      }
  step_moves (want.Print z) is steps =
      record {
        moved = ap (λ b. if b then turn.Moved else turn.Held) room;
        went =
            subst (λ b. Went v.rank (if b then made_print v.rank m z else v.rank)) (sym room)
            (subst (λ b. Went v.rank (if b then after_print v.rank m else after_wait v.rank m z)) (sym gate) (went_print v.rank m));
      }
  step_moves (want.Receive y) is steps = absurd (no_event (want.Receive y) is tt)
  step_moves (want.Probe y) is steps = absurd (no_event (want.Probe y) is tt)
  step_moves (want.TryProbe y) is steps = absurd (no_event (want.TryProbe y) is tt)
  step_moves want.Halted is steps =
      let y = next_one want.Halted is (λ z. cc) in
      absurd (fits_ended want.Halted (payload (state_of v.rank.machine)) y.act y.message (inl refl)
      (subst (λ z. Fits z (payload (state_of v.rank.machine)) y.act y.message) (wanted v.rank.machine want.Halted is (λ z. cc)) y.makes))
  step_moves (want.Faulted k) is steps =
      let y = next_one (want.Faulted k) is (λ z. cc) in
      absurd (fits_ended (want.Faulted k) (payload (state_of v.rank.machine)) y.act y.message (inr (k, refl))
      (subst (λ z. Fits z (payload (state_of v.rank.machine)) y.act y.message) (wanted v.rank.machine (want.Faulted k) is (λ z. cc)) y.makes))

  unspent : clock_refusal v.rank ≡ None
  unspent = ap (λ b. if b then Some fault.ClockSpent else None) (ne_eqb v.rank.clock greatest_clock (λ z. omega (arith, z, early)))

  -- and it isn't refused
  pub step_allowed : (x : Want) → machine_want v.rank.machine ≡ x → refusal_at v.rank x ≡ None
  step_allowed want.Internal is = refl
  step_allowed (want.Send d c y) is = ap (λ b. if b then clock_refusal v.rank else None) room ∙ unspent
  step_allowed (want.Print z) is = ap (λ b. if b then clock_refusal v.rank else None) room ∙ unspent
  step_allowed (want.Receive y) is = absurd (no_event (want.Receive y) is tt)
  step_allowed (want.Probe y) is = absurd (no_event (want.Probe y) is tt)
  step_allowed (want.TryProbe y) is = absurd (no_event (want.TryProbe y) is tt)
  step_allowed want.Halted is = refl
  step_allowed (want.Faulted k) is = refl

-- ---- the event

-- A step of a rank behind the run: it moved, and nothing changed but this rank.
pub record StepOn (w : WorldValue) (r : ℕ) (v : Live) (answer : Reply) (w' : WorldValue) : Type 0 where
  pub moved : answer ≡ reply.Moved
  pub new : Live
  pub ranks : w'.ranks ≡ slice_set w.ranks r (Some new)
  pub run : w'.run ≡ w.run
  pub images : w'.images ≡ w.images
  pub wires : w'.wires ≡ w.wires
  pub went : Went v.rank new.rank

-- a replayed step of a rank behind the run goes on in the run
pub replays_on : (w : WorldValue) (r : ℕ) (answer : Reply) (w' : WorldValue) (f : ReplayFollows w r answer w') → Stands w → Behind w.run r f.before
    → Provides w.run r f.before → StepOn w r f.before answer w'
replays_on w r answer w' f t behind given =
    let m = replay_moves w r f.before f.machine t f.live given f.event f.rest f.replaying f.turn (machine_want f.before.rank.machine) refl f.turned f.steps in
    record {
      moved = f.answered ∙ ap (λ z. stepped z) m.moved;
      new = record { rank = replayed_at f.before.rank f.event (machine_want f.before.rank.machine) f.machine; left = _ };
      ranks = ap (λ z. z.ranks) f.after;
      run = ap (λ z. z.run) f.after ∙ passed_again w.run r f.before.rank.clock (effect_at f.before.rank (machine_want f.before.rank.machine) f.turn) behind;
      images = ap (λ z. z.images) f.after;
      wires = ap (λ z. z.wires) f.after;
      went = m.went;
    }

-- so does a step of a rank behind the run that has nothing left to replay
pub steps_on : (w : WorldValue) (r : ℕ) (answer : Reply) (w' : WorldValue) (f : StepFollows w r answer w') → Stands w → Onward w → Behind w.run r f.before
    → StepOn w r f.before answer w'
steps_on w r answer w' f t o behind =
    let few = o.acts r in
    let m = step_moves w r f.before f.machine t f.live behind f.running ((o.ranks r f.before f.live).settled behind) (omega (arith, behind, few))
    (machine_want f.before.rank.machine) refl f.steps in
    record {
      moved = f.answered ∙ ap (λ z. stepped z) m.moved;
      new = record { rank = step_at f.before.rank (machine_want f.before.rank.machine) f.machine; left = [] };
      ranks = ap (λ z. z.ranks) f.after;
      run = ap (λ z. z.run) f.after ∙ passed_again w.run r f.before.rank.clock
          (effect_at f.before.rank (machine_want f.before.rank.machine) (turn_at f.before.rank (machine_want f.before.rank.machine))) behind;
      images = ap (λ z. z.images) f.after;
      wires = ap (λ z. z.wires) f.after;
      went = m.went;
    }

-- it isn't refused
pub step_can : (w : WorldValue) (r : ℕ) (v : Live) → Stands w → Onward w → IsLive w r v → Behind w.run r v → CanNot w (Step r) → ⊥
step_can w r v t o live behind no_way =
    let c = no_way v live in
    let few = o.acts r in
    c.1
    (step_allowed w r v v.rank.machine t live behind c.0 ((o.ranks r v live).settled behind) (omega (arith, behind, few)) (machine_want v.rank.machine) refl)
