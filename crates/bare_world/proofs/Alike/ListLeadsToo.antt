-- Two worlds that are alike stay so: an event of the way that happens in both leaves them alike, and where it can't happen in
-- the one it can't in the other. So however a world goes through a list by which one like it was driven, the list leads it on.
use Rattle.std.proofs.Common.{◌≡◌, ℕ, zero, suc, ◌+◌, inl, inr, List, [], ◌∷◌, ◌++◌, Option, Some, None, Ok, length, refl, sym, ap}
use Rattle.std.proofs.Common.{subst, ◌∙◌, slice_get, slice_set}
use Rattle.checkpoint.specs.declared.memory_shelf.MemoryShelf.{MemoryShelf}
use Rattle.event_logger.specs.Sequential.Event.{EventValue}
use Rattle.rank_machine.specs.Machine.{machine_want}
use Rattle.rank_node.specs.declared.frame.Frame.{Frame}
use Rattle.rank_node.specs.declared.turn.Turn.{Turn}
use Rattle.rank_node.specs.Frames.{outgoing_of, after_passed, after_frame}
use Rattle.rank_node.specs.Replay.{left_after, replay_turn_of, after_replay, ReplayStep}
use Rattle.rank_node.specs.Steps.{turn_of, MachineStep, after_step}
use Rattle.bare_world.specs.declared.event.WorldEvent.TheVariants.{Step}
use Rattle.bare_world.specs.declared.reply.Reply.{Reply}
use Rattle.bare_world.specs.World.{Rank, Live, WorldValue, size, IsLive, IsDown, IsWire}
use Rattle.bare_world.specs.Follows.{effect_at, lines_after, passed_at, after_turn, Happens, StepFollows, ReplayFollows, PutFollows, ArriveFollows}
use Rattle.bare_world.specs.Driven.{on_shelf, shelved, IsAlike, AreAlike, Alike}
use Rattle.bare_world.proofs.Alike.SameEvents.{step_one, replay_one, step_shelf, replay_shelf, turn_shelf, replay_turn_shelf, stepped_shelf}
use Rattle.bare_world.proofs.Alike.SameEvents.{replayed_shelf, effect_shelf, lines_shelf, sent_shelf, frame_shelf}
use Rattle.bare_world.proofs.Lists.Places.{one_there}

-- ---- ranks that are alike

-- what stands in the one stands in the other
alike_at : (xs ys : List (Option Live)) (r : ℕ) (y : Option Live) → AreAlike xs ys → slice_get ys r ≡ Some y
    → (x : Option Live) × (slice_get xs r ≡ Some x) × IsAlike x y
alike_at [] [] r y a e = absurd cc
alike_at [] (z ∷ ys) r y a e = absurd a
alike_at (x ∷ xs) [] r y a e = absurd a
alike_at (x ∷ xs) (z ∷ ys) zero y a e = (x, refl, (let q : z ≡ y = cc in subst (λ k. IsAlike x k) q a.0))
alike_at (x ∷ xs) (z ∷ ys) (suc r) y a e = alike_at xs ys r y a.1 e

-- lists of ranks stay alike where the same place of both is set to ranks alike
pub alike_set : (xs ys : List (Option Live)) (r : ℕ) (x y : Option Live) → AreAlike xs ys → IsAlike x y → AreAlike (slice_set xs r x) (slice_set ys r y)
alike_set [] [] r x y a b = tt
alike_set [] (z ∷ ys) r x y a b = absurd a
alike_set (z ∷ xs) [] r x y a b = absurd a
alike_set (z ∷ xs) (k ∷ ys) zero x y a b = (b, a.1)
alike_set (z ∷ xs) (k ∷ ys) (suc r) x y a b = (a.0, alike_set xs ys r x y a.1 b)

-- lists alike are as long
pub alike_length : (xs ys : List (Option Live)) → AreAlike xs ys → length ys ≡ length xs
alike_length [] [] a = refl
alike_length [] (y ∷ ys) a = absurd a
alike_length (x ∷ xs) [] a = absurd a
alike_length (x ∷ xs) (y ∷ ys) a = ap suc (alike_length xs ys a.1)

-- worlds alike have as many ranks
pub alike_size : (a b : WorldValue) → Alike a b → size b ≡ size a
alike_size a b k = alike_length a.ranks b.ranks k.ranks

-- a live rank of the second is one of the first
pub record Was (a : WorldValue) (r : ℕ) (v : Live) : Type 0 where
  pub rank : Live
  pub live : IsLive a r rank
  pub shelf : MemoryShelf
  pub same : v ≡ shelved rank shelf

-- a rank that is live in the second world is in the first the same on another shelf
pub alike_live : (a b : WorldValue) (r : ℕ) (v : Live) → Alike a b → IsLive b r v → Was a r v
alike_live a b r v k live = go (alike_at a.ranks b.ranks r (Some v) k.ranks live)
  where
    of : (o : Option Live) → slice_get a.ranks r ≡ Some o → IsAlike o (Some v) → Was a r v
    of None e i = absurd i
    of (Some u) e i = record { rank = u; live = e; shelf = i.0; same = i.1 }

    go : (x : Option Live) × (slice_get a.ranks r ≡ Some x) × IsAlike x (Some v) → Was a r v
    go f = of f.0 f.1 f.2

-- a rank that is down in the second world is down in the first
pub alike_down : (a b : WorldValue) (r : ℕ) → Alike a b → IsDown b r → IsDown a r
alike_down a b r k down = go (alike_at a.ranks b.ranks r None k.ranks down)
  where
    of : (o : Option Live) → slice_get a.ranks r ≡ Some o → IsAlike o None → IsDown a r
    of None e i = e
    of (Some u) e i = absurd i

    go : (x : Option (Live)) × (slice_get a.ranks r ≡ Some x) × IsAlike x None → IsDown a r
    go f = of f.0 f.1 f.2

-- one live rank stands at a place
one_rank : (ranks : List (Option Live)) (r : ℕ) (u v : Live) → slice_get ranks r ≡ Some (Some u) → slice_get ranks r ≡ Some (Some v) → v ≡ u
one_rank ranks r u v e f = one (sym f ∙ e)
  where
    one : ◌≡◌ {A = Option (Option Live)} (Some (Some v)) (Some (Some u)) → v ≡ u
    one q = cc

-- ---- steps

-- after a turn of a rank
turn_alike : (a b : WorldValue) (r : ℕ) (u : Live) (shelf : MemoryShelf) (t : Turn) (x y : Rank) (left : List EventValue) → Alike a b → y ≡ on_shelf x shelf
    → Alike (after_turn a r u t x left) (after_turn b r (shelved u shelf) t y left)
turn_alike a b r u shelf t x y left k e =
    record {
      program = k.program;
      ranks =
          alike_set a.ranks b.ranks r (Some (record { rank = x; left = left })) (Some (record { rank = y; left = left })) k.ranks
          (shelf, ap (λ z. record { rank = z; left = left }) e);
      images = k.images;
      rows = k.rows;
      wires = k.wires;
      lines = lines_shelf b.lines r u.rank shelf (machine_want u.rank.machine) t ∙ ap (λ z. lines_after z r u.rank (machine_want u.rank.machine) t) k.lines;
      run =
          ap (λ z. passed_at b.run r (u.rank.clock + 1) z) (effect_shelf u.rank shelf (machine_want u.rank.machine) t)
          ∙ ap (λ z. passed_at z r (u.rank.clock + 1) (effect_at u.rank (machine_want u.rank.machine) t)) k.run;
    }

-- worlds that are equal to worlds alike are alike
same_alike : (a b a' b' c d : WorldValue) → a' ≡ c → b' ≡ d → Alike c d → Alike a' b'
same_alike a b a' b' c d e f k = subst (λ z. Alike z b') (sym e) (subst (λ z. Alike c z) (sym f) k)

-- a step of a rank at work leaves worlds alike
steps_alike : (a b : WorldValue) (r : ℕ) (x y : Reply) (a' b' : WorldValue) → Alike a b → StepFollows a r x a' → StepFollows b r y b' → Alike a' b'
steps_alike a b r x y a' b' k f g = go (alike_live a b r g.before k g.live)
  where
    go : Was a r g.before → Alike a' b'
    go was =
        let u : Live = f.before in
        let same : g.before ≡ shelved u was.shelf = was.same ∙ ap (λ z. shelved z was.shelf) (one_rank a.ranks r u was.rank f.live was.live) in
        let did : MachineStep (on_shelf u.rank was.shelf) g.machine = subst (λ z. MachineStep z.rank g.machine) same g.steps in
        let machine : g.machine ≡ f.machine =
        step_one u.rank (machine_want u.rank.machine) f.machine g.machine refl f.steps
        (step_shelf u.rank was.shelf (machine_want u.rank.machine) g.machine did) in
        let after : b' ≡ after_turn b r (shelved u was.shelf) (turn_of (on_shelf u.rank was.shelf)) (after_step (on_shelf u.rank was.shelf) g.machine) [] =
        g.after ∙ ap (λ z. after_turn b r z (turn_of z.rank) (after_step z.rank g.machine) []) same in
        let turn : b' ≡ after_turn b r (shelved u was.shelf) (turn_of u.rank) (after_step (on_shelf u.rank was.shelf) g.machine) [] =
        after ∙ ap (λ z. after_turn b r (shelved u was.shelf) z (after_step (on_shelf u.rank was.shelf) g.machine) [])
        (turn_shelf u.rank was.shelf (machine_want u.rank.machine)) in
        let rank : after_step (on_shelf u.rank was.shelf) g.machine ≡ on_shelf (after_step u.rank f.machine) was.shelf =
        ap (λ z. after_step (on_shelf u.rank was.shelf) z) machine ∙ stepped_shelf u.rank was.shelf (machine_want u.rank.machine) f.machine in
        same_alike a b a' b' (after_turn a r u (turn_of u.rank) (after_step u.rank f.machine) [])
        (after_turn b r (shelved u was.shelf) (turn_of u.rank) (after_step (on_shelf u.rank was.shelf) g.machine) []) f.after turn
        (turn_alike a b r u was.shelf (turn_of u.rank) (after_step u.rank f.machine) (after_step (on_shelf u.rank was.shelf) g.machine) [] k rank)

-- a replayed step leaves worlds alike
replays_alike : (a b : WorldValue) (r : ℕ) (x y : Reply) (a' b' : WorldValue) → Alike a b → ReplayFollows a r x a' → ReplayFollows b r y b' → Alike a' b'
replays_alike a b r x y a' b' k f g = go (alike_live a b r g.before k g.live)
  where
    first : (e e' : EventValue) (rest rest' : List EventValue) → ◌≡◌ {A = List EventValue} (e' ∷ rest') (e ∷ rest) → (e' ≡ e) × (rest' ≡ rest)
    first e e' rest rest' q = (cc, cc)

    go : Was a r g.before → Alike a' b'
    go was =
        let u : Live = f.before in
        let s = was.shelf in
        let same : g.before ≡ shelved u s = was.same ∙ ap (λ z. shelved z s) (one_rank a.ranks r u was.rank f.live was.live) in
        let left = first f.event g.event f.rest g.rest (sym g.replaying ∙ ap (λ z. z.left) same ∙ f.replaying) in
        let did : ReplayStep (on_shelf u.rank s) f.event g.machine =
        subst (λ z. ReplayStep (on_shelf u.rank s) z g.machine) left.0 (subst (λ z. ReplayStep z.rank g.event g.machine) same g.steps) in
        let machine : g.machine ≡ f.machine =
        replay_one u.rank f.event (machine_want u.rank.machine) f.machine g.machine refl f.steps
        (replay_shelf u.rank s f.event (machine_want u.rank.machine) g.machine did) in
        let turned : Ok g.turn ≡ Ok f.turn =
        sym g.turned ∙ ap (λ z. replay_turn_of z.rank g.event) same ∙ ap (λ z. replay_turn_of (on_shelf u.rank s) z) left.0
        ∙ replay_turn_shelf u.rank s f.event (machine_want u.rank.machine) ∙ f.turned in
        let turn : g.turn ≡ f.turn = cc in
        let after : b' ≡ after_turn b r (shelved u s) g.turn (after_replay (on_shelf u.rank s) g.event g.machine)
        (left_after u.rank (machine_want u.rank.machine) g.turn g.event g.rest) =
        g.after ∙ ap
        (λ z. after_turn b r z g.turn (after_replay z.rank g.event g.machine) (left_after z.rank (machine_want z.rank.machine) g.turn g.event g.rest)) same in
        let at : b' ≡ after_turn b r (shelved u s) f.turn (after_replay (on_shelf u.rank s) f.event f.machine)
        (left_after u.rank (machine_want u.rank.machine) f.turn f.event f.rest) =
        after
        ∙ ap (λ z. after_turn b r (shelved u s) z (after_replay (on_shelf u.rank s) g.event g.machine)
        (left_after u.rank (machine_want u.rank.machine) z g.event g.rest)) turn
        ∙ ap (λ z. after_turn b r (shelved u s) f.turn (after_replay (on_shelf u.rank s) g.event z)
        (left_after u.rank (machine_want u.rank.machine) f.turn g.event g.rest)) machine
        ∙ ap (λ z. after_turn b r (shelved u s) f.turn (after_replay (on_shelf u.rank s) z f.machine)
        (left_after u.rank (machine_want u.rank.machine) f.turn z g.rest)) left.0
        ∙ ap (λ z. after_turn b r (shelved u s) f.turn (after_replay (on_shelf u.rank s) f.event f.machine)
        (left_after u.rank (machine_want u.rank.machine) f.turn f.event z)) left.1 in
        same_alike a b a' b'
        (after_turn a r u f.turn (after_replay u.rank f.event f.machine) (left_after u.rank (machine_want u.rank.machine) f.turn f.event f.rest))
        (after_turn b r (shelved u s) f.turn (after_replay (on_shelf u.rank s) f.event f.machine)
        (left_after u.rank (machine_want u.rank.machine) f.turn f.event f.rest)) f.after at
        (turn_alike a b r u s f.turn (after_replay u.rank f.event f.machine) (after_replay (on_shelf u.rank s) f.event f.machine)
        (left_after u.rank (machine_want u.rank.machine) f.turn f.event f.rest) k (replayed_shelf u.rank s f.event (machine_want u.rank.machine) f.machine))

-- the one replays where the other does
left_alike : (a b : WorldValue) (r : ℕ) (u v : Live) → Alike a b → IsLive a r u → IsLive b r v → v.left ≡ u.left
left_alike a b r u v k lu lv =
    let was = alike_live a b r v k lv in
    ap (λ z. z.left) was.same ∙ ap (λ z. z.left) (one_rank a.ranks r u was.rank lu was.live)

-- an empty list of events has no first one
none_some : (e : EventValue) (rest : List EventValue) → ◌≡◌ {A = List EventValue} [] (e ∷ rest) → ⊥
none_some e rest q = cc

-- a step leaves worlds alike, at work or in replay
pub step_alike : (a b : WorldValue) (r : ℕ) (x y : Reply) (a' b' : WorldValue) → Alike a b → Happens a (Step r) x a' → Happens b (Step r) y b' → Alike a' b'
step_alike a b r x y a' b' k (inl f) (inl g) = steps_alike a b r x y a' b' k f g
step_alike a b r x y a' b' k (inr f) (inr g) = replays_alike a b r x y a' b' k f g
step_alike a b r x y a' b' k (inl f) (inr g) =
    absurd (none_some g.event g.rest (sym f.running ∙ sym (left_alike a b r f.before g.before k f.live g.live) ∙ g.replaying))
step_alike a b r x y a' b' k (inr f) (inl g) =
    absurd (none_some f.event f.rest (sym g.running ∙ left_alike a b r f.before g.before k f.live g.live ∙ f.replaying))

-- ---- frames

-- a put leaves worlds alike
pub put_alike : (a b : WorldValue) (s d : ℕ) (x y : Reply) (a' b' : WorldValue) → Alike a b → PutFollows a s d x a' → PutFollows b s d y b' → Alike a' b'
put_alike a b s d x y a' b' k f g = go (alike_live a b s g.before k g.live)
  where
    go : Was a s g.before → Alike a' b'
    go was =
        let u : Live = f.before in
        let h = was.shelf in
        let same : g.before ≡ shelved u h = was.same ∙ ap (λ z. shelved z h) (one_rank a.ranks s u was.rank f.live was.live) in
        let frame : g.frame ≡ f.frame = one_there g.frame f.frame (outgoing_of u.rank d) (ap (λ z. outgoing_of z.rank d) (sym same) ∙ g.next) f.next in
        let of : g.of_s ≡ f.of_s = one_there g.of_s f.of_s (slice_get a.wires s) (ap (λ z. slice_get z s) (sym k.wires) ∙ g.wires) f.wires in
        let frames : g.frames ≡ f.frames = one_there g.frames f.frames (slice_get f.of_s d) (ap (λ z. slice_get z d) (sym of) ∙ g.wire) f.wire in
        let rank : after_passed (on_shelf u.rank h) d ≡ on_shelf (after_passed u.rank d) h = sent_shelf u.rank h d (outgoing_of u.rank d) in
        let ranks : b'.ranks ≡ slice_set b.ranks s (Some (shelved (record { rank = after_passed u.rank d; left = u.left }) h)) =
        ap (λ z. z.ranks) g.after ∙ ap (λ z. slice_set b.ranks s (Some (record { rank = after_passed z.rank d; left = z.left }))) same
        ∙ ap (λ z. slice_set b.ranks s (Some (record { rank = z; left = u.left }))) rank in
        let ranks_a : a'.ranks ≡ slice_set a.ranks s (Some (record { rank = after_passed u.rank d; left = u.left })) = ap (λ z. z.ranks) f.after in
        record {
          program = ap (λ z. z.program) g.after ∙ k.program ∙ sym (ap (λ z. z.program) f.after);
          ranks =
              subst (λ z. AreAlike z b'.ranks) (sym ranks_a)
              (subst (λ z. AreAlike (slice_set a.ranks s (Some (record { rank = after_passed u.rank d; left = u.left }))) z) (sym ranks)
              (alike_set a.ranks b.ranks s (Some (record { rank = after_passed u.rank d; left = u.left }))
              (Some (shelved (record { rank = after_passed u.rank d; left = u.left }) h)) k.ranks (h, refl)));
          images = ap (λ z. z.images) g.after ∙ k.images ∙ sym (ap (λ z. z.images) f.after);
          rows = ap (λ z. z.logger.rows) g.after ∙ k.rows ∙ sym (ap (λ z. z.logger.rows) f.after);
          wires =
              ap (λ z. z.wires) g.after ∙ ap (λ z. slice_set z s (slice_set g.of_s d (g.frames ++ g.frame ∷ []))) k.wires
              ∙ ap (λ z. slice_set a.wires s (slice_set z d (g.frames ++ g.frame ∷ []))) of
              ∙ ap (λ z. slice_set a.wires s (slice_set f.of_s d (z ++ g.frame ∷ []))) frames
              ∙ ap (λ z. slice_set a.wires s (slice_set f.of_s d (f.frames ++ z ∷ []))) frame ∙ sym (ap (λ z. z.wires) f.after);
          lines = ap (λ z. z.lines) g.after ∙ k.lines ∙ sym (ap (λ z. z.lines) f.after);
          run = ap (λ z. z.run) g.after ∙ k.run ∙ sym (ap (λ z. z.run) f.after);
        }

-- one wire goes from the one to the other
wire_one : (w w' : WorldValue) (s d : ℕ) (x y : List Frame) → w'.wires ≡ w.wires → IsWire w s d x → IsWire w' s d y → y ≡ x
wire_one w w' s d x y e f g =
    let of : g.0 ≡ f.0 = one_there g.0 f.0 (slice_get w.wires s) (ap (λ z. slice_get z s) (sym e) ∙ g.1) f.1 in
    one_there y x (slice_get f.0 d) (ap (λ z. slice_get z d) (sym of) ∙ g.2) f.2

-- an arrival leaves worlds alike
pub arrive_alike : (a b : WorldValue) (s d i : ℕ) (x y : Reply) (a' b' : WorldValue) → Alike a b → ArriveFollows a s d i x a' → ArriveFollows b s d i y b'
    → Alike a' b'
arrive_alike a b s d i x y a' b' k f g = go (alike_live a b d g.before k g.live)
  where
    go : Was a d g.before → Alike a' b'
    go was =
        let u : Live = f.before in
        let h = was.shelf in
        let same : g.before ≡ shelved u h = was.same ∙ ap (λ z. shelved z h) (one_rank a.ranks d u was.rank f.live was.live) in
        let frames : g.frames ≡ f.frames = wire_one a b s d f.frames g.frames k.wires f.wire g.wire in
        let frame : g.frame ≡ f.frame = one_there g.frame f.frame (slice_get f.frames i) (ap (λ z. slice_get z i) (sym frames) ∙ g.there) f.there in
        let ranks : b'.ranks ≡ slice_set b.ranks d (Some (shelved (record { rank = after_frame u.rank s f.frame; left = u.left }) h)) =
        ap (λ z. z.ranks) g.after ∙ ap (λ z. slice_set b.ranks d (Some (record { rank = after_frame z.rank s g.frame; left = z.left }))) same
        ∙ ap (λ z. slice_set b.ranks d (Some (record { rank = after_frame (on_shelf u.rank h) s z; left = u.left }))) frame
        ∙ ap (λ z. slice_set b.ranks d (Some (record { rank = z; left = u.left }))) (frame_shelf u.rank h s f.frame) in
        let ranks_a : a'.ranks ≡ slice_set a.ranks d (Some (record { rank = after_frame u.rank s f.frame; left = u.left })) = ap (λ z. z.ranks) f.after in
        record {
          program = ap (λ z. z.program) g.after ∙ k.program ∙ sym (ap (λ z. z.program) f.after);
          ranks =
              subst (λ z. AreAlike z b'.ranks) (sym ranks_a)
              (subst (λ z. AreAlike (slice_set a.ranks d (Some (record { rank = after_frame u.rank s f.frame; left = u.left }))) z) (sym ranks)
              (alike_set a.ranks b.ranks d (Some (record { rank = after_frame u.rank s f.frame; left = u.left }))
              (Some (shelved (record { rank = after_frame u.rank s f.frame; left = u.left }) h)) k.ranks (h, refl)));
          images = ap (λ z. z.images) g.after ∙ k.images ∙ sym (ap (λ z. z.images) f.after);
          rows = ap (λ z. z.logger.rows) g.after ∙ k.rows ∙ sym (ap (λ z. z.logger.rows) f.after);
          wires = ap (λ z. z.wires) g.after ∙ k.wires ∙ sym (ap (λ z. z.wires) f.after);
          lines = ap (λ z. z.lines) g.after ∙ k.lines ∙ sym (ap (λ z. z.lines) f.after);
          run = ap (λ z. z.run) g.after ∙ k.run ∙ sym (ap (λ z. z.run) f.after);
        }
