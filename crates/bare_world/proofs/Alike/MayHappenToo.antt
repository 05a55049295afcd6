-- What happens in the one of two worlds that are alike may happen in the other: no event of the way asks for a shelf but by its
-- image, or for the logger's history.
use Rattle.std.proofs.Common.{◌≡◌, ℕ, inl, inr, [], ◌∷◌, ◌++◌, length, Some, refl, sym, ap, subst, ◌∙◌, slice_get, slice_set}
use Rattle.checkpoint.specs.Shelf.{image_bytes}
use Rattle.checkpoint.specs.declared.memory_shelf.MemoryShelf.{MemoryShelf}
use Rattle.event_logger.specs.Sequential.History.{above, row, state_after, next_call}
use Rattle.event_logger.specs.declared.sequential.call.Call.TheVariants.{Fetch}
use Rattle.event_logger.specs.declared.sequential.call.Reply.TheVariants.{Events}
use Rattle.rank_machine.specs.Machine.{machine_want}
use Rattle.rank_node.specs.declared.frame.Frame.{Frame}
use Rattle.rank_node.specs.declared.frame.Frame.TheVariants as frame
use Rattle.rank_node.specs.Frames.{outgoing_of, after_passed, arrival_of, after_frame}
use Rattle.rank_node.specs.Image.{begins_at, image_on}
use Rattle.rank_node.specs.Replay.{restarted, left_of, left_after, replay_turn_of, after_replay, ReplayStep}
use Rattle.rank_node.specs.Steps.{refusal_of, turn_of, after_step, MachineStep}
use Rattle.bare_world.specs.declared.event.WorldEvent.{WorldEvent}
use Rattle.bare_world.specs.declared.event.WorldEvent.TheVariants.{Step, Put, Arrive, Store, Ack, Image, Crash, Restart, Release}
use Rattle.bare_world.specs.declared.reply.Reply.{Reply}
use Rattle.bare_world.specs.declared.reply.Reply.TheVariants as reply
use Rattle.bare_world.specs.World.{Rank, WorldValue, size}
use Rattle.bare_world.specs.Headline.{stable_of}
use Rattle.bare_world.specs.Follows.{Happens, StepFollows, ReplayFollows, PutFollows, ArriveFollows, RestartFollows}
use Rattle.bare_world.specs.Follows.{arrived_as, stepped, put_as, after_turn, with_rank}
use Rattle.bare_world.specs.Driven.{on_shelf, Alike, IsUsed}
use Rattle.bare_world.proofs.Alike.SameEvents.{refusal_shelf, step_shelf, replay_shelf, replay_turn_shelf}
use Rattle.bare_world.proofs.Alike.ListLeadsToo.{alike_size, alike_live, alike_down}

-- some course that an event takes
abbrev pub HasCourse : WorldValue → WorldEvent → Type 0
HasCourse w event = (answer : Reply) × (after : WorldValue) × Happens w event answer after

-- a step of a rank at work
step_too : (a b : WorldValue) (r : ℕ) (y : Reply) (b' : WorldValue) → Alike a b → StepFollows b r y b' → HasCourse a (Step r)
step_too a b r y b' k g =
    let was = alike_live a b r g.before k g.live in (
      stepped (turn_of was.rank.rank),
      after_turn a r was.rank (turn_of was.rank.rank) (after_step was.rank.rank g.machine) [],
      inl (record {
        before = was.rank;
        live = was.live;
        running = sym (ap (λ z. z.left) was.same) ∙ g.running;
        allowed = sym (refusal_shelf was.rank.rank was.shelf (machine_want was.rank.rank.machine)) ∙ sym (ap (λ z. refusal_of z.rank) was.same) ∙ g.allowed;
        machine = g.machine;
        steps = step_shelf was.rank.rank was.shelf (machine_want was.rank.rank.machine) g.machine
            (subst (λ z. MachineStep z.rank g.machine) was.same g.steps);
        answered = refl;
        after = refl;
      }),
    )

-- a replayed step
replay_too : (a b : WorldValue) (r : ℕ) (y : Reply) (b' : WorldValue) → Alike a b → ReplayFollows b r y b' → HasCourse a (Step r)
replay_too a b r y b' k g =
    let was = alike_live a b r g.before k g.live in (
      stepped g.turn,
      after_turn a r was.rank g.turn (after_replay was.rank.rank g.event g.machine)
          (left_after was.rank.rank (machine_want was.rank.rank.machine) g.turn g.event g.rest),
      inr (record {
        before = was.rank;
        live = was.live;
        event = g.event;
        rest = g.rest;
        replaying = sym (ap (λ z. z.left) was.same) ∙ g.replaying;
        turn = g.turn;
        turned =
            sym (replay_turn_shelf was.rank.rank was.shelf g.event (machine_want was.rank.rank.machine))
            ∙ sym (ap (λ z. replay_turn_of z.rank g.event) was.same) ∙ g.turned;
        machine = g.machine;
        steps = replay_shelf was.rank.rank was.shelf g.event (machine_want was.rank.rank.machine) g.machine
            (subst (λ z. ReplayStep z.rank g.event g.machine) was.same g.steps);
        answered = refl;
        after = refl;
      }),
    )

-- a put
put_too : (a b : WorldValue) (s d : ℕ) (y : Reply) (b' : WorldValue) → Alike a b → PutFollows b s d y b' → HasCourse a (Put s d)
put_too a b s d y b' k g =
    let was = alike_live a b s g.before k g.live in (
      put_as (length g.frames) g.frame,
      record a {
        ranks = slice_set a.ranks s (Some (record { rank = after_passed was.rank.rank d; left = was.rank.left }));
        wires = slice_set a.wires s (slice_set g.of_s d (g.frames ++ g.frame ∷ []));
      },
      record {
        before = was.rank;
        live = was.live;
        frame = g.frame;
        next = sym (ap (λ z. outgoing_of z.rank d) was.same) ∙ g.next;
        of_s = g.of_s;
        wires = ap (λ z. slice_get z s) (sym k.wires) ∙ g.wires;
        frames = g.frames;
        wire = g.wire;
        answered = refl;
        after = refl;
      },
    )

-- what an arrival comes to doesn't depend on the shelf
arrival_shelf : (v : Rank) (shelf : MemoryShelf) (s : ℕ) (f : Frame) → arrival_of (on_shelf v shelf) s f ≡ arrival_of v s f
arrival_shelf v shelf s (frame.Ask n) = refl
arrival_shelf v shelf s (frame.Kept n) = refl
arrival_shelf v shelf s (frame.Data p) = refl

-- an arrival
arrive_too : (a b : WorldValue) (s d i : ℕ) (y : Reply) (b' : WorldValue) → Alike a b → ArriveFollows b s d i y b' → HasCourse a (Arrive s d i)
arrive_too a b s d i y b' k g =
    let was = alike_live a b d g.before k g.live in (
      y,
      with_rank a d (Some (record { rank = after_frame was.rank.rank s g.frame; left = was.rank.left })),
      record {
        before = was.rank;
        live = was.live;
        frames = g.frames;
        wire = (g.wire.0, ap (λ z. slice_get z s) (sym k.wires) ∙ g.wire.1, g.wire.2);
        frame = g.frame;
        there = g.there;
        answered =
            ap arrived_as (sym (arrival_shelf was.rank.rank was.shelf s g.frame))
            ∙ sym (ap (λ z. arrived_as (arrival_of z.rank s g.frame)) was.same) ∙ g.answered;
        after = refl;
      },
    )

-- a restart
restart_too : (a b : WorldValue) (r : ℕ) (y : Reply) (b' : WorldValue) → Alike a b → RestartFollows b r y b' → HasCourse a (Restart r)
restart_too a b r y b' k g =
    let n : size b ≡ size a = alike_size a b k in (
      reply.Restarted (length (left_of g.image g.events)),
      record a {
        ranks = slice_set a.ranks r
            (Some (record { rank = restarted (stable_of (size a) r g.shelf) g.image (length g.events); left = left_of g.image g.events }));
        logger = state_after a.logger (next_call a.logger.history r (Fetch 0) (Events g.events));
      },
      record {
        down = alike_down a b r k g.down;
        events = g.events;
        fetches = record { replied = g.fetches.replied ∙ ap (λ z. Events (above 0 (row z r))) k.rows; logged = refl };
        image = g.image;
        begins = (
          g.begins.0,
          ap (λ z. slice_get z r) (sym k.images) ∙ g.begins.1,
          g.begins.2 ∙ ap (λ z. begins_at z r (size b) g.begins.0) k.program ∙ ap (λ z. begins_at a.program r z g.begins.0) n,
        );
        shelf = g.shelf;
        held =
            ap (λ z. image_on z r (size a) (image_bytes g.shelf.image)) (sym k.program)
            ∙ ap (λ z. image_on b.program r z (image_bytes g.shelf.image)) (sym n) ∙ g.held;
        answered = refl;
        after = refl;
      },
    )

-- any event of the way
pub happens_too : (a b : WorldValue) (event : WorldEvent) (y : Reply) (b' : WorldValue) → Alike a b → IsUsed event → Happens b event y b'
    → HasCourse a event
happens_too a b (Step r) y b' k used (inl g) = step_too a b r y b' k g
happens_too a b (Step r) y b' k used (inr g) = replay_too a b r y b' k g
happens_too a b (Put s d) y b' k used g = put_too a b s d y b' k g
happens_too a b (Arrive s d i) y b' k used g = arrive_too a b s d i y b' k g
happens_too a b (Restart r) y b' k used g = restart_too a b r y b' k g
happens_too a b (Store r) y b' k used g = absurd used
happens_too a b (Ack r) y b' k used g = absurd used
happens_too a b (Image r) y b' k used g = absurd used
happens_too a b (Crash r) y b' k used g = absurd used
happens_too a b (Release r) y b' k used g = absurd used
