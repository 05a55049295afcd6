-- What a step comes to, of a rank at work and of one that replays.
use Rattle.std.proofs.Common.{◌≡◌, ◌≢◌, ℕ, ℤ, ◌+◌, ◌<◌, ◌≤◌, inl, inr, Bool, true, false, List, [], ◌∷◌, Option, Some, None, Ok, Err, length, refl, sym}
use Rattle.std.proofs.Common.{ap, subst, ◌∙◌, slice_get, slice_set, IsSome, IsSomeAnd, if◌then◌else◌}
use Rattle.matching.specs.declared.packet.Context.{Context}
use Rattle.event_logger.specs.Sequential.Event.{EventValue}
use Rattle.matching.specs.declared.line.Line.{Line}
use Rattle.ports.specs.Console.{after_line}
use Rattle.rank_machine.specs.Acts.{Act, sends, prints}
use Rattle.rank_machine.specs.declared.want.Want.{Want}
use Rattle.rank_machine.specs.declared.want.Want.TheVariants as want
use Rattle.rank_machine.specs.Wants.{payload}
use Rattle.rank_machine.specs.declared.want.Wanted.{Wanted}
use Rattle.rank_machine.specs.Machine.{machine_want, state_of, IsWantedBy}
use Rattle.rank_node.specs.declared.fault.NodeFault.{NodeFault}
use Rattle.rank_node.specs.declared.fault.NodeFault.TheVariants.{Replay}
use Rattle.rank_node.specs.declared.turn.Turn.{Turn}
use Rattle.rank_node.specs.declared.turn.Turn.TheVariants as turn
use Rattle.rank_node.specs.Waiting.{is_settled, has_room}
use Rattle.rank_node.specs.Steps.{turn_of, turn_at, refusal_of, takes_memory, takes_memory_at}
use Rattle.rank_node.specs.Replay.{replay_turn_at, replay_takes_memory, is_before, ShowsReplayAt}
use Rattle.crash_free.specs.Runs.{history}
use Rattle.bare_world.specs.World.{Rank, Live, WorldValue, size}
use Rattle.bare_world.specs.Seats.{at_work, AtRank, IsFitting, IsReplayed, IsNotAtWork, IsNotInReplay, MakesStep, ReplaysStep}
use Rattle.bare_world.specs.Follows.{CanNot, Happens, Follows, StepFollows, ReplayFollows}
use Rattle.bare_world.specs.Follows.{lines_after, shown_where_moved, effect_at, where_moved, at_once}
use Rattle.bare_world.specs.Memory.{TakesNoMemory}
use Rattle.bare_world.specs.Follows.{passed_at, stepped}
use Rattle.bare_world.specs.Memory.{step_takes_memory}
use Rattle.bare_world.specs.Stands.{Stands}
use Rattle.bare_world.specs.declared.event.WorldEvent.{WorldEvent}
use Rattle.bare_world.specs.declared.event.WorldEvent.TheVariants.{Step}
use Rattle.bare_world.specs.declared.reply.Reply.TheVariants as reply
use Rattle.bare_world.proofs.Calls.RankOfEvent.{none_live, same_live, at_value, value_at, live_at, not_down, is_then_down, same_world}
use Rattle.bare_world.proofs.Plain.ReplaySteps.{fitting, none_waiting, is_behind}
use Rattle.bare_world.proofs.Plain.Worlds.{rank_of}
use Rattle.bare_world.proofs.Standing.PassesOnce.{passed_again}
use Rattle.bare_world.proofs.Calls.Console.{Shows}

-- the reply to a step is none of another event's
turn_cases : (event : WorldEvent) (w w' : WorldValue) (u : Turn) → Happens w event (stepped u) w' → Follows w event (stepped u) w'
turn_cases event w w' turn.Moved f = f
turn_cases event w w' turn.Blocked f = f
turn_cases event w w' turn.Held f = f
turn_cases event w w' turn.Ended f = f

-- ---- a rank at work

-- no rank is there to step
pub step_nowhere : (w : WorldValue) (r : ℕ) → size w ≤ r → Follows w (Step r) reply.Refused w
step_nowhere w r past = (λ v live. absurd (none_live w r v past live), refl)

-- a refusal is one
some_refusal : (o : Option NodeFault) (k : NodeFault) → o ≡ Some k → o ≡ None → ⊥
some_refusal o k e z = (let both : Some k ≡ None = sym e ∙ z in cc)

-- a rank that is down makes no step
pub step_down : (w : WorldValue) (r : ℕ) → IsSomeAnd (slice_get w.ranks r) IsNotAtWork → IsSomeAnd (slice_get w.ranks r) IsNotInReplay
    → Follows w (Step r) reply.Refused w
step_down w r h g = (λ v live. absurd (not_down w r v (is_then_down w r h g) live), refl)

-- a step that is refused by name
pub step_refused : (w : WorldValue) (r : ℕ) (x : Rank) (k : NodeFault) → slice_get w.ranks r ≡ Some (at_work x) → refusal_of x ≡ Some k
    → Follows w (Step r) reply.Refused w
step_refused w r x k at e =
    (λ v live. subst (λ z. (z.left ≡ []) × (refusal_of z.rank ≢ None)) (sym (same_live w r x v at live)) (refl, some_refusal (refusal_of x) k e), refl)

-- a step that isn't
pub step_allowed : (ranks : List (Option Live)) (r : ℕ) (x : Rank) → slice_get ranks r ≡ Some (at_work x) → refusal_of x ≡ None
    → AtRank ranks r (λ v. refusal_of v.rank ≡ None)
step_allowed ranks r x at e = value_at ranks r x (λ v. refusal_of v.rank ≡ None) at e

-- what was found of its machine
pub step_found : (ranks : List (Option Live)) (r : ℕ) (x : Rank) (found : Wanted) → slice_get ranks r ≡ Some (at_work x) → IsWantedBy x.machine found
    → AtRank ranks r (λ v. IsWantedBy v.rank.machine found)
step_found ranks r x found at h = value_at ranks r x (λ v. IsWantedBy v.rank.machine found) at h

-- a rank at work makes a step
pub step_some : (w w' : WorldValue) (r : ℕ) (x : Rank) (t : Turn) → Stands w
    → slice_get w.ranks r ≡ Some (at_work x) → refusal_of x ≡ None
    → AtRank w.ranks r (λ v. (y : Option Live) × MakesStep w.lines w'.lines t v y × (w'.ranks ≡ slice_set w.ranks r y))
    → w'.run ≡ passed_at w.run r (x.clock + 1) (effect_at x (machine_want x.machine) (turn_of x))
    → w'.program ≡ w.program → w'.images ≡ w.images → w'.logger ≡ w.logger → w'.wires ≡ w.wires
    → Follows w (Step r) (stepped t) w'
step_some w w' r x t s at none step run program images logger wires = turn_cases (Step r) w w' t (inl follows)
  where
    is : (y : Option Live) × MakesStep w.lines w'.lines t (record { rank = x; left = [] }) y × (w'.ranks ≡ slice_set w.ranks r y)
    is = at_value w.ranks r x (λ v. (y : Option Live) × MakesStep w.lines w'.lines t v y × (w'.ranks ≡ slice_set w.ranks r y)) at step

    number : x.stable.rank ≡ r
    number = (rank_of s r (record { rank = x; left = [] }) at).number

    lines : w'.lines ≡ lines_after w.lines r x (machine_want x.machine) (turn_of x)
    lines = is.1.1.shown ∙ ap (λ z. lines_after w.lines z x (machine_want x.machine) (turn_of x)) number

    follows : StepFollows w r (stepped t) w'
    follows = record {
      before = record { rank = x; left = [] };
      live = at;
      running = refl;
      allowed = none;
      machine = is.1.1.machine;
      steps = is.1.1.steps;
      answered = ap stepped is.1.0;
      after = same_world w' _ program (is.2 ∙ ap (λ z. slice_set w.ranks r z) is.1.1.after) images logger wires lines run;
    }

-- where memory ends a step could happen
pub step_possible : (w : WorldValue) (r : ℕ) (x : Rank) → slice_get w.ranks r ≡ Some (at_work x) → refusal_of x ≡ None → CanNot w (Step r) → ⊥
step_possible w r x at none cannot = (cannot (record { rank = x; left = [] }) at).1 none

-- a step with an effect takes memory: where nothing waits there is room
passes_takes : (v : Rank) (act a : Act) (has : Bool) → has_room v.pending ≡ has
    → Some a ≡ where_moved (if has then turn.Moved else turn.Held) (at_once v act) → has ≡ true
passes_takes v act a true r e = refl
passes_takes v act a false r e = absurd cc

-- whatever it wants
effect_takes : (v : Rank) (w : Want) (a : Act) → Some a ≡ effect_at v w (turn_at v w) → takes_memory_at v w ≡ true
effect_takes v want.Internal a e = absurd cc
effect_takes v (want.Send d c t) a e = passes_takes v (sends d c t (payload (state_of v.machine))) a (has_room v.pending) refl e
effect_takes v (want.Receive s) a e = absurd cc
effect_takes v (want.Probe s) a e = absurd cc
effect_takes v (want.TryProbe s) a e = absurd cc
effect_takes v (want.Print x) a e = passes_takes v (prints x) a (has_room v.pending) refl e
effect_takes v want.Halted a e = absurd cc
effect_takes v (want.Faulted k) a e = absurd cc

-- a send that moves takes memory
pub send_takes : (v : Rank) (d t : ℕ) (c : Context) → want.Send d c t ≡ machine_want v.machine → turn.Moved ≡ turn_of v → takes_memory v ≡ true
send_takes v d t c e moved = subst (λ w. takes_memory_at v w ≡ true) e (go (has_room v.pending) (moved ∙ ap (λ w. turn_at v w) (sym e)))
  where
    go : (b : Bool) → turn.Moved ≡ (if b then turn.Moved else turn.Held) → b ≡ true
    go true e = refl
    go false e = absurd cc

-- so does any step with an effect
pub pass_takes : (x : Rank) (o : Option Act) → o ≡ effect_at x (machine_want x.machine) (turn_of x) → IsSome o → takes_memory x ≡ true
pass_takes x None e i = absurd cc
pass_takes x (Some a) e i = effect_takes x (machine_want x.machine) a e

-- what takes memory at a rank
pub takes_at : (ranks : List (Option Live)) (r : ℕ) (x : Rank) → slice_get ranks r ≡ Some (at_work x) → takes_memory x ≡ true
    → AtRank ranks r (λ v. step_takes_memory v.rank v.left ≡ true)
takes_at ranks r x at e = value_at ranks r x (λ v. step_takes_memory v.rank v.left ≡ true) at e

-- what takes memory of a rank at work does of the rank
pub work_takes : (ranks : List (Option Live)) (r : ℕ) (x : Rank) → slice_get ranks r ≡ Some (at_work x) → AtRank ranks r (λ v. takes_memory v.rank ≡ true)
    → AtRank ranks r (λ v. step_takes_memory v.rank v.left ≡ true)
work_takes ranks r x at h = takes_at ranks r x at (at_value ranks r x (λ v. takes_memory v.rank ≡ true) at h)

-- a step that takes memory isn't one that takes none
pub step_takes : (w : WorldValue) (r : ℕ) → AtRank w.ranks r (λ v. step_takes_memory v.rank v.left ≡ true) → TakesNoMemory w (Step r) → ⊥
step_takes w r h none =
    let v = live_at w.ranks r _ h in
    let both : true ≡ false = sym v.2 ∙ none v.0 v.1 in
    cc

-- a step that doesn't move its machine has no effect, nor has one where something waits
pub unmoved : (v : Rank) (w : Want) (t : Turn) → t ≢ turn.Moved → ◌≡◌ {A = Option Act} None (effect_at v w t)
unmoved v w turn.Moved ne = absurd (ne refl)
unmoved v want.Internal turn.Blocked ne = refl
unmoved v (want.Send d c t) turn.Blocked ne = refl
unmoved v (want.Receive s) turn.Blocked ne = refl
unmoved v (want.Probe s) turn.Blocked ne = refl
unmoved v (want.TryProbe s) turn.Blocked ne = refl
unmoved v (want.Print x) turn.Blocked ne = refl
unmoved v want.Halted turn.Blocked ne = refl
unmoved v (want.Faulted k) turn.Blocked ne = refl
unmoved v want.Internal turn.Held ne = refl
unmoved v (want.Send d c t) turn.Held ne = refl
unmoved v (want.Receive s) turn.Held ne = refl
unmoved v (want.Probe s) turn.Held ne = refl
unmoved v (want.TryProbe s) turn.Held ne = refl
unmoved v (want.Print x) turn.Held ne = refl
unmoved v want.Halted turn.Held ne = refl
unmoved v (want.Faulted k) turn.Held ne = refl
unmoved v want.Internal turn.Ended ne = refl
unmoved v (want.Send d c t) turn.Ended ne = refl
unmoved v (want.Receive s) turn.Ended ne = refl
unmoved v (want.Probe s) turn.Ended ne = refl
unmoved v (want.TryProbe s) turn.Ended ne = refl
unmoved v (want.Print x) turn.Ended ne = refl
unmoved v want.Halted turn.Ended ne = refl
unmoved v (want.Faulted k) turn.Ended ne = refl

-- nothing passes at once where something waits
pub waits_behind : (v : Rank) (w : Want) (t : Turn) → is_settled v.pending ≡ false → ◌≡◌ {A = Option Act} None (effect_at v w t)
waits_behind v w turn.Blocked e = unmoved v w turn.Blocked (λ z. cc)
waits_behind v w turn.Held e = unmoved v w turn.Held (λ z. cc)
waits_behind v w turn.Ended e = unmoved v w turn.Ended (λ z. cc)
waits_behind v want.Internal turn.Moved e = refl
waits_behind v (want.Send d c t) turn.Moved e = ap (λ b. if b then Some (sends d c t (payload (state_of v.machine))) else None) (sym e)
waits_behind v (want.Receive s) turn.Moved e = refl
waits_behind v (want.Probe s) turn.Moved e = refl
waits_behind v (want.TryProbe s) turn.Moved e = refl
waits_behind v (want.Print x) turn.Moved e = ap (λ b. if b then Some (prints x) else None) (sym e)
waits_behind v want.Halted turn.Moved e = refl
waits_behind v (want.Faulted k) turn.Moved e = refl

-- ---- a rank that replays

-- its replay is never refused
pub replay_fits : (w : WorldValue) (r : ℕ) → Stands w → AtRank w.ranks r (λ v. v.left ≢ []) → AtRank w.ranks r IsFitting
replay_fits w r s h =
    let v = live_at w.ranks r _ h in
    subst (λ z. IsSomeAnd z (λ y. IsSomeAnd y IsFitting)) (sym v.1)
    (λ e rest left. fitting w r v.0 s v.1 e rest left (machine_want v.0.rank.machine) refl)

-- a print that is replayed moves
print_moves : (v : Rank) (e : EventValue) (x : ℤ) (t : Turn) (b : Bool) → (if b then Ok turn.Moved else Err Replay) ≡ Ok t → t ≡ turn.Moved
print_moves v e x t true q = (let z : Ok turn.Moved ≡ Ok t = q in cc)
print_moves v e x t false q = absurd cc

-- what is shown again
shown_again : (v : Rank) (w : Want) (e : EventValue) (t : Turn) (old new : List Line) → v.pending ≡ [] → replay_turn_at v e w ≡ Ok t
    → ShowsReplayAt Shows v w old new
    → new ≡ lines_after old v.stable.rank v w t
shown_again v want.Internal e t old new none turned shows = shows
shown_again v (want.Send d c k) e t old new none turned shows = shows
shown_again v (want.Receive s) e t old new none turned shows = shows
shown_again v (want.Probe s) e t old new none turned shows = shows
shown_again v (want.TryProbe s) e t old new none turned shows = shows
shown_again v (want.Print x) e t old new none turned shows =
    shows ∙ ap (λ z. if is_settled z then after_line old v.stable.rank (v.clock + 1) x else old) (sym none)
    ∙ ap (λ z. shown_where_moved old v.stable.rank v x z) (sym (print_moves v e x t (is_before v e) turned))
shown_again v want.Halted e t old new none turned shows = shows
shown_again v (want.Faulted k) e t old new none turned shows = shows

-- a rank that replays makes a step
pub replay_some : (w w' : WorldValue) (r : ℕ) (t : Turn) → Stands w
    → AtRank w.ranks r (λ v. (y : Option Live) × ReplaysStep w.lines w'.lines t v y × (w'.ranks ≡ slice_set w.ranks r y))
    → w'.run ≡ w.run → w'.program ≡ w.program → w'.images ≡ w.images → w'.logger ≡ w.logger → w'.wires ≡ w.wires
    → Follows w (Step r) (stepped t) w'
replay_some w w' r t s step run program images logger wires = turn_cases (Step r) w w' t (inr follows)
  where
    x : (v : Live) × (slice_get w.ranks r ≡ Some (Some v)) × ((y : Option Live) × ReplaysStep w.lines w'.lines t v y × (w'.ranks ≡ slice_set w.ranks r y))
    x = live_at w.ranks r _ step

    v : Live
    v = x.0

    is : IsReplayed x.0 t x.2.0
    is = x.2.1.0

    none : x.0.rank.pending ≡ []
    none = none_waiting w r x.0 s x.1 x.2.1.0.event x.2.1.0.rest x.2.1.0.replaying

    behind_run : x.0.rank.clock < length (history w.run r)
    behind_run = is_behind w r x.0 s x.1 x.2.1.0.event x.2.1.0.rest x.2.1.0.replaying

    lines : w'.lines ≡ lines_after w.lines r x.0.rank (machine_want x.0.rank.machine) t
    lines =
        shown_again x.0.rank (machine_want x.0.rank.machine) x.2.1.0.event t w.lines w'.lines none x.2.1.0.turned x.2.1.1
        ∙ ap (λ z. lines_after w.lines z x.0.rank (machine_want x.0.rank.machine) t) (rank_of s r x.0 x.1).number

    follows : ReplayFollows w r (stepped t) w'
    follows = record {
      before = x.0;
      live = x.1;
      event = x.2.1.0.event;
      rest = x.2.1.0.rest;
      replaying = x.2.1.0.replaying;
      turn = t;
      turned = x.2.1.0.turned;
      machine = x.2.1.0.machine;
      steps = x.2.1.0.steps;
      answered = refl;
      after = same_world w' _ program (x.2.2 ∙ ap (λ z. slice_set w.ranks r z) x.2.1.0.after) images logger wires lines
          (run ∙ sym (passed_again w.run r x.0.rank.clock (effect_at x.0.rank (machine_want x.0.rank.machine) t) behind_run));
    }

-- where memory ends a replayed step could happen, and takes memory
pub replay_possible : (w : WorldValue) (r : ℕ) → AtRank w.ranks r (λ v. v.left ≢ []) → CanNot w (Step r) → ⊥
replay_possible w r h cannot = let v = live_at w.ranks r _ h in v.2 (cannot v.0 v.1).0

-- what takes memory of a replay does of the rank
pub replay_takes : (ranks : List (Option Live)) (r : ℕ) → AtRank ranks r (λ v. v.left ≢ []) → AtRank ranks r (λ v. replay_takes_memory v.rank ≡ true)
    → AtRank ranks r (λ v. step_takes_memory v.rank v.left ≡ true)
replay_takes ranks r h g = go (slice_get ranks r) h g
  where
    one : (v : Rank) (left : List EventValue) → left ≢ [] → replay_takes_memory v ≡ true → step_takes_memory v left ≡ true
    one v [] ne e = absurd (ne refl)
    one v (x ∷ left) ne e = e

    go : (o : Option (Option Live)) → IsSomeAnd o (λ y. IsSomeAnd y (λ (v : Live). v.left ≢ []))
        → IsSomeAnd o (λ y. IsSomeAnd y (λ (v : Live). replay_takes_memory v.rank ≡ true))
        → IsSomeAnd o (λ y. IsSomeAnd y (λ (v : Live). step_takes_memory v.rank v.left ≡ true))
    go None h g = absurd h
    go (Some None) h g = absurd h
    go (Some (Some v)) h g = one v.rank v.left h g

-- what a step of a rank at work comes to, and which steps take memory
pub ruleset step_laws = (step_down, step_refused, step_some, step_allowed, step_found, step_possible, step_takes, pass_takes, takes_at, work_takes)

-- what a step of a rank that replays comes to, and which steps take memory
pub ruleset replay_laws = (replay_fits, replay_some, replay_possible, replay_takes, step_takes)
