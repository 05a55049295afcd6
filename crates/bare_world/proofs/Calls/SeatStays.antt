-- What a call on a rank leaves of its seat: the machine keeps its program, and what is stable stays,
-- except for the shelf where an image is taken.
use Rattle.std.proofs.Common.{◌≡◌, ◌≢◌, ℕ, Bool, true, false, ◌==◌, length, List, [], ◌∷◌, Option, Some, None, Result, Ok, Err}
use Rattle.std.proofs.Common.{refl, sym, ap, subst, ◌∙◌, ◌⊎◌, inl, inr}
use Rattle.checkpoint.specs.Image.{ImageValue}
use Rattle.checkpoint.specs.Reading.{reading}
use Rattle.checkpoint.specs.Shelf.{image_bytes}
use Rattle.checkpoint.specs.declared.fault.ImageFault.{ImageFault}
use Rattle.checkpoint.specs.declared.memory_shelf.MemoryShelf.{MemoryShelf}
use Rattle.matching.specs.PacketValue as packet
use Rattle.event_logger.specs.Sequential.Event.{EventValue}
use Rattle.event_logger.specs.declared.sequential.kind.Kind.{Kind}
use Rattle.event_logger.specs.declared.sequential.kind.Kind.TheVariants as kind
use Rattle.std.specs.Prelude.{OnOk, OnErr, MatchBool, if◌then◌else◌}
use Rattle.rank_language.specs.Block.{lines_at}
use Rattle.rank_language.specs.Program.{ProgramValue, block_of}
use Rattle.rank_machine.specs.declared.want.Want.{Want}
use Rattle.rank_machine.specs.declared.want.Want.TheVariants as want
use Rattle.rank_machine.specs.Machine.{MachineValue, machine_want}
use Rattle.rank_node.specs.declared.fault.NodeFault.{NodeFault}
use Rattle.rank_node.specs.declared.fault.NodeFault.TheVariants.{NotSettled, Shelf, Image, Replay, ClockSpent, Log, Memory}
use Rattle.rank_node.specs.Image.{image_of, image_on, begins_at, where_read, IsImaged, BeginsAgain, Reads}
use Rattle.rank_node.specs.Stored.{Stored}
use Rattle.rank_node.specs.Steps.{DidAct, found, TakesFound, IsShownFound, TriesFound, MachineStepAt}
use Rattle.rank_node.specs.Waiting.{has_room}
use Rattle.rank_node.specs.Replay as replay
use Rattle.rank_node.specs.Replay.{named, left_of, restarted, ReplayStep, ReplayStepAt, TriesNamed}
use Rattle.bare_world.specs.World.{Rank, Live}
use Rattle.rank_node.specs.declared.phase.Phase.TheVariants.{Running, Replaying, Down}
use Rattle.matching.specs.Inbox.{after_arrival}
use Rattle.rank_node.specs.Frames.{after_frame, with_inbox}
use Rattle.rank_node.specs.declared.frame.Frame.{Frame}
use Rattle.rank_node.specs.declared.frame.Frame.TheVariants as frame
use Rattle.rank_node.specs.Phases.{arrived_in, settled_in, stable_in}
use Rattle.bare_world.specs.Stocked.{IsSeatStocked}
use Rattle.bare_world.specs.Seat.{seat_of, shelf_of, HasLeft, IsKept, IsOf, IsOwn, IsSeated, IsStanding, Phase}
use Rattle.bare_world.specs.Seats.{in_replay, IsRestarted}
use Rattle.bare_world.proofs.Alike.ImageIsOfProgram.{read_program}
use Rattle.bare_world.proofs.Calls.SettlesAtTheEnd.{settled_left, settled_standing}

-- ---- the machine keeps its program

-- a receive takes what was found
may_take : (f : Option (ℕ × packet.PacketValue)) (m m' : MachineValue) → TakesFound f m m' → m'.program ≡ m.program
may_take None m m' s = ap (λ (z : MachineValue). z.program) s
may_take (Some f) m m' s = s.stays.program

-- a blocking probe is shown it
may_show : (f : Option (ℕ × packet.PacketValue)) (m m' : MachineValue) → IsShownFound f m m' → m'.program ≡ m.program
may_show None m m' s = ap (λ (z : MachineValue). z.program) s
may_show (Some f) m m' s = s.stays.program

-- a probe that doesn't wait is shown what the event names, or misses
may_try_named : (f : Option (ℕ × packet.PacketValue)) (k : Kind) (m m' : MachineValue) → TriesNamed f k m m' → m'.program ≡ m.program
may_try_named f kind.Reception m m' s = ap (λ (z : MachineValue). z.program) s
may_try_named f kind.Hit m m' s = may_show f m m' s
may_try_named f kind.Miss m m' s = s.stays.program
may_try_named f kind.Misses m m' s = s.stays.program

-- a probe that doesn't wait is shown what was found, or misses
may_try : (f : Option (ℕ × packet.PacketValue)) (m m' : MachineValue) → TriesFound f m m' → m'.program ≡ m.program
may_try None m m' s = s.stays.program
may_try (Some f) m m' s = s.stays.program

-- an act is made where there is room for it, and else the machine stays
may_act : (b : Bool) (m m' : MachineValue) → MatchBool b (DidAct m m') (m' ≡ m) → m'.program ≡ m.program
may_act true m m' s = s.stays.program
may_act false m m' s = ap (λ (z : MachineValue). z.program) s

-- whatever the machine wants, in a step of a rank that runs
step_program_at : (v : Rank) (w : Want) (m : MachineValue) → MachineStepAt v w m → m.program ≡ v.machine.program
step_program_at v want.Internal m s = s.program
step_program_at v (want.Send dest context tag) m s = may_act (has_room v.pending) v.machine m s
step_program_at v (want.Receive selector) m s = may_take (found selector v.inbox.packets) v.machine m s
step_program_at v (want.Probe selector) m s = may_show (found selector v.inbox.packets) v.machine m s
step_program_at v (want.TryProbe selector) m s = may_try (found selector v.inbox.packets) v.machine m s
step_program_at v (want.Print value) m s = may_act (has_room v.pending) v.machine m s
step_program_at v want.Halted m s = ap (λ (z : MachineValue). z.program) s
step_program_at v (want.Faulted k) m s = ap (λ (z : MachineValue). z.program) s

-- and in a step of a replay
replay_program_at : (v : Rank) (e : EventValue) (w : Want) (m : MachineValue) → ReplayStepAt v e w m → m.program ≡ v.machine.program
replay_program_at v e want.Internal m s = s.program
replay_program_at v e (want.Send dest context tag) m s = s.stays.program
replay_program_at v e (want.Receive selector) m s = may_take (named v e) v.machine m s
replay_program_at v e (want.Probe selector) m s = may_show (named v e) v.machine m s
replay_program_at v e (want.TryProbe selector) m s = may_try_named (named v e) e.kind v.machine m s
replay_program_at v e (want.Print value) m s = s.stays.program
replay_program_at v e want.Halted m s = ap (λ (z : MachineValue). z.program) s
replay_program_at v e (want.Faulted k) m s = ap (λ (z : MachineValue). z.program) s

-- ---- a rank is of its seat after each call

-- where what is stable and the program stay
of_again : (p : ProgramValue) (r n : ℕ) (v x : Rank) → x.stable ≡ v.stable → x.machine.program ≡ v.machine.program → IsOf p r n v → IsOf p r n x
of_again p r n v x stable program o = record { same_program = program ∙ o.same_program; own = subst (λ z. IsOwn p r n z) (sym stable) o.own }

-- after a step of the replay
of_replay : (p : ProgramValue) (r n : ℕ) (v x : replay.Replay MemoryShelf (Unit {0})) → v.left ≢ [] → x.node.stable ≡ v.node.stable
    → ((e : EventValue) (rest : List EventValue) → v.left ≡ e ∷ rest → ReplayStep v.node e x.node.machine) → IsOf p r n v.node → IsOf p r n x.node
of_replay p r n v x some stable s o = go v.left refl
  where
    go : (left : List EventValue) → v.left ≡ left → IsOf p r n x.node
    go [] e = absurd (some e)
    go (e ∷ rest) is = of_again p r n v.node x.node stable (replay_program_at v.node e (machine_want v.node.machine) x.node.machine (s e rest is)) o

-- after a frame
of_frame : (p : ProgramValue) (r n : ℕ) (v : Rank) (from : ℕ) (f : Frame) → IsOf p r n v → IsOf p r n (after_frame v from f)
of_frame p r n v from (frame.Ask number) k = record { same_program = k.same_program; own = k.own }
of_frame p r n v from (frame.Kept number) k = record { same_program = k.same_program; own = k.own }
of_frame p r n v from (frame.Data packet) k = go (packet.source == from)
  where
    go : (b : Bool) → IsOf p r n (if b then with_inbox v (after_arrival v.inbox packet) else v)
    go true = record { same_program = k.same_program; own = k.own }
    go false = k

-- ---- images

-- what reads is an image
reads_of : (p : ProgramValue) (r n : ℕ) (bytes : Option (List ℕ)) (i : ImageValue) → image_on p r n bytes ≡ Some i → Reads p r n bytes
reads_of p r n None i e = tt
reads_of p r n (Some bytes) i e = go (reading p r n bytes) e
  where
    go : (read : Result ImageValue ImageFault) → where_read read ≡ Some i → (j : ImageValue) × (read ≡ Ok j)
    go (Ok j) q = (j, refl)
    go (Err k) q = absurd cc

-- the shelf holds the image that was taken
image_read : (p : ProgramValue) (r n : ℕ) (v x : Rank) (is : IsImaged (λ (s : MemoryShelf). image_bytes s.image) v x) → IsOf p r n v
    → image_on p r n (image_bytes is.shelf.image) ≡ Some (image_of v)
image_read p r n v x is o =
    subst (λ z. image_on z r n (image_bytes is.shelf.image) ≡ Some (image_of v)) o.same_program
    (subst (λ z. image_on v.machine.program z n (image_bytes is.shelf.image) ≡ Some (image_of v)) o.own.rank
    (subst (λ z. image_on v.machine.program v.stable.rank z (image_bytes is.shelf.image) ≡ Some (image_of v)) o.own.size is.reads))

-- after an image was taken
pub of_image : (p : ProgramValue) (r n : ℕ) (v x : Rank) → IsImaged (λ (s : MemoryShelf). image_bytes s.image) v x → IsOf p r n v → IsOf p r n x
of_image p r n v x is o = record {
  same_program = ap (λ (z : Rank). z.machine.program) is.after ∙ o.same_program;
  own = record {
    rank = ap (λ (z : Rank). z.stable.rank) is.after ∙ o.own.rank;
    size = ap (λ (z : Rank). z.stable.size) is.after ∙ o.own.size;
    reads = subst (λ z. Reads p r n z) (sym (ap (λ (z : Rank). shelf_of z.stable) is.after))
        (reads_of p r n (image_bytes is.shelf.image) (image_of v) (image_read p r n v x is o));
  };
}

-- where a rank begins, its machine has the program
pub begins_program : (p : ProgramValue) (r n : ℕ) (bytes : Option (List ℕ)) → (begins_at p r n (image_on p r n bytes)).machine.program ≡ p
begins_program p r n None = refl
begins_program p r n (Some bytes) = go (reading p r n bytes) refl
  where
    go : (read : Result ImageValue ImageFault) → reading p r n bytes ≡ read → (begins_at p r n (where_read read)).machine.program ≡ p
    go (Ok i) e = read_program p r n bytes i e
    go (Err k) e = refl

-- after a restart
pub of_restart : (p : ProgramValue) (r n : ℕ) (row : List EventValue) (d : Stored MemoryShelf (Unit {0})) (x : replay.Replay MemoryShelf (Unit {0}))
    → BeginsAgain (λ (s : MemoryShelf). image_bytes s.image) p row d x → IsOwn p r n d → IsOf p r n x.node
of_restart p r n row d x again o = record {
  same_program = ap (λ (z : Rank). z.machine.program) again.node ∙ begins_program p d.rank d.size (image_bytes d.shelf.image);
  own = record {
    rank = ap (λ (z : Stored MemoryShelf (Unit {0})). z.rank) again.kept.same ∙ o.rank;
    size = ap (λ (z : Stored MemoryShelf (Unit {0})). z.size) again.kept.same ∙ o.size;
    reads = subst (λ z. Reads p r n z) (sym (ap shelf_of again.kept.same ∙ again.kept.image)) o.reads;
  };
}

-- and what is live then is the rank of its image, or of the beginning, with what of its row is above that
pub restarted_is : (p : ProgramValue) (r n : ℕ) (row : List EventValue) (d : Stored MemoryShelf (Unit {0})) (x : replay.Replay MemoryShelf (Unit {0}))
    → BeginsAgain (λ (s : MemoryShelf). image_bytes s.image) p row d x → IsOwn p r n d → IsRestarted p n r (image_on p r n (shelf_of d)) row (in_replay x)
restarted_is p r n row d x again own = record {
  shelf = again.kept.shelf;
  after = ap (λ (y : Rank). up y x.left) node ∙ ap (λ z. up (restarted (stored n r) (begins r n) (length row)) z) left;
  held = ap (λ z. image_on p r n z) again.kept.image;
}
  where
    up : Rank → List EventValue → Option Live
    up y l = Some (record { rank = y; left = l })

    stored : ℕ → ℕ → Stored MemoryShelf (Unit {0})
    stored m k = record { desk = tt; shelf = again.kept.shelf; rank = k; size = m }

    begins : ℕ → ℕ → ImageValue
    begins k m = begins_at p k m (image_on p k m (shelf_of d))

    node : x.node ≡ restarted (stored n r) (begins r n) (length row)
    node =
        again.node ∙ ap (λ z. restarted z (begins d.rank d.size) (length row)) again.kept.same
        ∙ ap (λ z. restarted (stored d.size z) (begins z d.size) (length row)) own.rank
        ∙ ap (λ z. restarted (stored z r) (begins r z) (length row)) own.size

    left : x.left ≡ left_of (begins r n) row
    left = again.left ∙ ap (λ z. left_of (begins z d.size) row) own.rank ∙ ap (λ z. left_of (begins r z) row) own.size

-- ---- what stands at a seat

-- of a rank that stands at its seat that holds
pub kept_there : (p : ProgramValue) (r n : ℕ) (occupant : Option Phase) (x : Phase) → IsSeated p r n occupant → occupant ≡ Some x → IsKept p r n x
kept_there p r n occupant x seated is = subst (λ z. IsSeated p r n z) is seated

-- and of what is put there
seated_there : (p : ProgramValue) (r n : ℕ) (occupant : Option Phase) (x : Phase) → IsKept p r n x → occupant ≡ Some x → IsSeated p r n occupant
seated_there p r n occupant x kept is = subst (λ z. IsSeated p r n z) (sym is) kept

-- a frame keeps it
kept_arrived : (p : ProgramValue) (r n : ℕ) (x : Phase) (from : ℕ) (f : Frame) → IsKept p r n x → IsKept p r n (arrived_in x from f)
kept_arrived p r n (Running v) from f k = record { standing = of_frame p r n v from f k.standing; left = tt }
kept_arrived p r n (Replaying v) from f k = record { standing = of_frame p r n v.node from f k.standing; left = k.left }
kept_arrived p r n (Down s) from f k = k

-- and so does one that is refused
pub arrive_kept : {A B : Type 0} (p : ProgramValue) (r n : ℕ) (occupant : Option Phase) (x y : Phase) (from : ℕ) (f : Frame) (result : Result A B)
    → IsSeated p r n occupant → occupant ≡ Some x → OnOk result (y ≡ arrived_in x from f) → OnErr result (y ≡ x) → IsKept p r n y
arrive_kept {A = A} {B = B} p r n occupant x y from f (Ok a) seated is ok err =
    subst (λ z. IsKept p r n z) (sym ok) (kept_arrived p r n x from f (kept_there p r n occupant x seated is))
arrive_kept {A = A} {B = B} p r n occupant x y from f (Err b) seated is ok err = subst (λ z. IsKept p r n z) (sym err) (kept_there p r n occupant x seated is)

-- where a rank runs, it is of its seat
pub as_running : (p : ProgramValue) (r n : ℕ) (occupant : Option Phase) (v : Rank) → IsSeated p r n occupant → occupant ≡ Some (Running v) → IsOf p r n v
as_running p r n occupant v seated is = (kept_there p r n occupant (Running v) seated is).standing

-- and after a step it is still
pub kept_step : (p : ProgramValue) (r n : ℕ) (occupant : Option Phase) (v x : Rank) → IsSeated p r n occupant → occupant ≡ Some (Running v)
    → x.stable ≡ v.stable → MachineStepAt v (machine_want v.machine) x.machine → IsKept p r n (Running x)
kept_step p r n occupant v x seated is stable stepped = record {
  standing = of_again p r n v x stable (step_program_at v (machine_want v.machine) x.machine stepped) (as_running p r n occupant v seated is);
  left = tt;
}

-- what is stable of a rank is this rank's, whatever it does
own_of : (p : ProgramValue) (r n : ℕ) (x : Phase) → IsStanding p r n x → IsOwn p r n (stable_in x)
own_of p r n (Running v) k = k.own
own_of p r n (Replaying v) k = k.own
own_of p r n (Down s) k = k

-- so it is where the rank was taken from its seat, and crashed
pub own_down : (p : ProgramValue) (r n : ℕ) (occupant : Option Phase) (x : Phase) (down : Stored MemoryShelf (Unit {0}))
    → IsSeated p r n occupant → occupant ≡ Some x → down ≡ stable_in x → IsOwn p r n down
own_down p r n occupant x down seated is crashed = subst (λ z. IsOwn p r n z) (sym crashed) (own_of p r n x (kept_there p r n occupant x seated is).standing)

-- a rank that is down keeps its seat
pub seated_down : (p : ProgramValue) (r n : ℕ) (occupant : Option Phase) (down : Stored MemoryShelf (Unit {0})) → IsOwn p r n down → occupant ≡ Some (Down down)
    → IsSeated p r n occupant
seated_down p r n occupant down own is = seated_there p r n occupant (Down down) (record { standing = own; left = tt }) is

-- that is no other fault
pub is_memory : (fault : NodeFault) → fault ≡ Memory
    → (fault ≡ NotSettled) ⊎ ((fault ≡ Shelf) ⊎ ((fault ≡ Image) ⊎ ((fault ≡ Replay) ⊎ ((fault ≡ ClockSpent) ⊎ (fault ≡ Log))))) → ⊥
is_memory fault memory (inl e) = (let q : Memory ≡ NotSettled = sym memory ∙ e in cc)
is_memory fault memory (inr (inl e)) = (let q : Memory ≡ Shelf = sym memory ∙ e in cc)
is_memory fault memory (inr (inr (inl e))) = (let q : Memory ≡ Image = sym memory ∙ e in cc)
is_memory fault memory (inr (inr (inr (inl e)))) = (let q : Memory ≡ Replay = sym memory ∙ e in cc)
is_memory fault memory (inr (inr (inr (inr (inl e))))) = (let q : Memory ≡ ClockSpent = sym memory ∙ e in cc)
is_memory fault memory (inr (inr (inr (inr (inr e))))) = (let q : Memory ≡ Log = sym memory ∙ e in cc)

-- a rank that started again keeps its seat
pub seated_again : (p : ProgramValue) (r n : ℕ) (occupant : Option Phase) (x : Phase) → IsStanding p r n x → HasLeft x → occupant ≡ Some x
    → IsSeated p r n occupant
seated_again p r n occupant x standing left is = seated_there p r n occupant x (record { standing = standing; left = left }) is

-- so does one that replayed a step, and was settled
pub replayed_then : (p : ProgramValue) (r n : ℕ) (old new : Option Phase) (v x : replay.Replay MemoryShelf (Unit {0})) → IsSeated p r n old
    → old ≡ Some (Replaying v) → x.node.stable ≡ v.node.stable
    → ((e : EventValue) (rest : List EventValue) → v.left ≡ e ∷ rest → ReplayStep v.node e x.node.machine)
    → new ≡ Some (settled_in (Replaying x)) → IsSeated p r n new
replayed_then p r n old new v x seated was stable steps is =
    seated_there p r n new (settled_in (Replaying x)) (record { standing = settled_standing p r n (Replaying x) after; left = settled_left (Replaying x) }) is
  where
    before : IsKept p r n (Replaying v)
    before = kept_there p r n old (Replaying v) seated was

    after : IsOf p r n x.node
    after = of_replay p r n v x before.left stable steps before.standing

-- ---- what is at hand

-- the lines of the program, that it is the rank's, and the shelf
pub stocked_of : (program : ProgramValue) (r n : ℕ) (occupant : Option Phase) → IsSeated program r n occupant
    → program.statements ≡ lines_at 0 (block_of program) → IsSeatStocked (seat_of program r n occupant)
stocked_of program r n None k e = absurd k
stocked_of program r n (Some (Running node)) k e =
    record { lines = e; runs = k.standing.same_program; shelf = (node.stable.shelf, refl) }
stocked_of program r n (Some (Replaying replay)) k e =
    record { lines = e; runs = k.standing.same_program; shelf = (replay.node.stable.shelf, refl) }
stocked_of program r n (Some (Down stable)) k e = record { lines = e; runs = tt; shelf = (stable.shelf, refl) }
