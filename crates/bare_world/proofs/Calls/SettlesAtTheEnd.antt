-- A rank that replays settles exactly where nothing is left.
use Rattle.std.proofs.Common.{◌≡◌, ◌≢◌, ℕ, List, [], ◌∷◌, Result, Ok, Err, refl, sym, ◌∙◌}
use Rattle.std.proofs.Common.{ap, true, Some, IfErr, OnErr, IsErrOf}
use Rattle.event_logger.specs.Sequential.Event.{EventValue}
use Rattle.rank_node.specs.declared.fault.NodeFault.{NodeFault}
use Rattle.rank_node.specs.declared.fault.NodeFault.TheVariants.{NotSettled, Shelf, Image, Replay, ClockSpent, Log, Memory}
use Rattle.rank_machine.specs.Machine.{machine_want}
use Rattle.checkpoint.specs.declared.memory_shelf.MemoryShelf.{MemoryShelf}
use Rattle.rank_node.specs.declared.turn.Turn.{Turn}
use Rattle.rank_node.specs.Replay.{replay_turn_of, replay_takes_memory, after_replay, left_after, ReplayStep}
use Rattle.rank_node.specs.Replay as replay
use Rattle.rank_language.specs.Program.{ProgramValue}
use Rattle.rank_node.specs.Phases.{settled_in, settled_replay}
use Rattle.rank_node.specs.declared.phase.Phase.TheVariants.{Running, Replaying, Down}
use Rattle.bare_world.specs.World.{Live}
use Rattle.bare_world.specs.Seat.{live_of, HasLeft, IsStanding, Phase}
use Rattle.bare_world.specs.Seats.{in_replay, IsFitting, IsReplayed}

-- a rank is settled where nothing is left, and is live as it was
pub settled_live : (p : Phase) → live_of (settled_in p) ≡ live_of p
settled_live (Running v) = refl
settled_live (Down s) = refl
settled_live (Replaying r) = go r.left refl
  where
    go : (left : List EventValue) → r.left ≡ left → live_of (settled_replay r left) ≡ in_replay r
    go [] e = ap (λ z. Some (record { rank = r.node; left = z })) (sym e)
    go (x ∷ left) e = refl

-- it stays of its seat
pub settled_standing : (program : ProgramValue) (r n : ℕ) (p : Phase) → IsStanding program r n p → IsStanding program r n (settled_in p)
settled_standing program r n (Running v) k = k
settled_standing program r n (Down s) k = k
settled_standing program r n (Replaying v) k = go v.left
  where
    go : (left : List EventValue) → IsStanding program r n (settled_replay v left)
    go [] = k
    go (x ∷ left) = k

-- one that replays still has something left
pub settled_left : (p : Phase) → HasLeft (settled_in p)
settled_left (Running v) = tt
settled_left (Down s) = tt
settled_left (Replaying r) = go r.left refl
  where
    go : (left : List EventValue) → r.left ≡ left → HasLeft (settled_replay r left)
    go [] e = tt
    go (x ∷ left) e = λ none. (let q : x ∷ left ≡ [] = sym e ∙ none in cc)

-- a step of a replay that fits is refused when out of memory alone
pub replay_refused : {A : Type 0} (v : Live) (result : Result A NodeFault) → v.left ≢ [] → IsFitting v
    → IfErr result (λ fault. fault ≢ Memory → (e : EventValue) (rest : List EventValue) → v.left ≡ e ∷ rest → replay_turn_of v.rank e ≡ Err fault)
    → (IsErrOf result Memory → replay_takes_memory v.rank ≡ true) → OnErr result (replay_takes_memory v.rank ≡ true)
replay_refused {A = A} v (Ok x) some fits refused memory = tt
replay_refused {A = A} v (Err fault) some fits refused memory = go fault refused memory
  where
    next : (left : List EventValue) → left ≢ [] → (e : EventValue) × (rest : List EventValue) × (left ≡ e ∷ rest)
    next [] ne = absurd (ne refl)
    next (e ∷ rest) ne = (e, rest, refl)

    no : (fault : NodeFault) → ((e : EventValue) (rest : List EventValue) → v.left ≡ e ∷ rest → replay_turn_of v.rank e ≡ Err fault) → ⊥
    no fault all =
        let n = next v.left some in
        let f = fits n.0 n.1 n.2 in
        let q : Ok f.0 ≡ Err fault = sym f.1 ∙ all n.0 n.1 n.2 in
        cc

    go : (fault : NodeFault) → (fault ≢ Memory → (e : EventValue) (rest : List EventValue) → v.left ≡ e ∷ rest → replay_turn_of v.rank e ≡ Err fault)
        → (IsErrOf {T = A} (Err fault) Memory → replay_takes_memory v.rank ≡ true) → replay_takes_memory v.rank ≡ true
    go Memory refused memory = memory refl
    go NotSettled refused memory = absurd (no NotSettled (refused (λ z. cc)))
    go Shelf refused memory = absurd (no Shelf (refused (λ z. cc)))
    go Image refused memory = absurd (no Image (refused (λ z. cc)))
    go Replay refused memory = absurd (no Replay (refused (λ z. cc)))
    go ClockSpent refused memory = absurd (no ClockSpent (refused (λ z. cc)))
    go Log refused memory = absurd (no Log (refused (λ z. cc)))

-- a step of a replay, as a world sees it
pub replayed_is : (r after : replay.Replay MemoryShelf (Unit {0})) (t : Turn) → r.left ≢ []
    → ((e : EventValue) (rest : List EventValue) → r.left ≡ e ∷ rest → replay_turn_of r.node e ≡ Ok t)
    → ((e : EventValue) (rest : List EventValue) → r.left ≡ e ∷ rest
    → after ≡ record { node = after_replay r.node e after.node.machine; left = left_after r.node (machine_want r.node.machine) t e rest })
    → ((e : EventValue) (rest : List EventValue) → r.left ≡ e ∷ rest → ReplayStep r.node e after.node.machine)
    → IsReplayed (record { rank = r.node; left = r.left }) t (in_replay after)
replayed_is r after t some turned is steps = go r.left refl
  where
    go : (left : List EventValue) → r.left ≡ left → IsReplayed (record { rank = r.node; left = r.left }) t (in_replay after)
    go [] e = absurd (some e)
    go (x ∷ rest) e = record {
      event = x;
      rest = rest;
      replaying = e;
      turned = turned x rest e;
      machine = after.node.machine;
      steps = steps x rest e;
      after = ap in_replay (is x rest e);
    }
