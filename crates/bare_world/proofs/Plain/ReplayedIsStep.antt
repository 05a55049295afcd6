-- A step of a rank that replays is a step of the rank without runs of misses, which replays the next part of the next event.
use Rattle.std.proofs.Common.{◌≡◌, ℕ, ◌+◌, ◌<◌, ◌⊎◌, inl, inr, Bool, true, false, if◌then◌else◌}
use Rattle.std.proofs.Common.{Option, Some, None, Result, Ok, Err, refl, sym, ap, subst, ◌∙◌, arith}
use Rattle.std.proofs.lemmas.Bool.{ltb-true}
use Rattle.matching.specs.PacketValue as packet
use Rattle.matching.specs.Matching.{matches}
use Rattle.event_logger.specs.Sequential.Event.{EventValue, event_of, first_clock}
use Rattle.event_logger.specs.declared.sequential.kind.Kind.{Kind}
use Rattle.event_logger.specs.declared.sequential.kind.Kind.TheVariants as kind
use Rattle.event_logger.proofs.SequentialLaws.NextParts.{part, Fits as FitsPart}
use Rattle.event_logger.proofs.SequentialLaws.RowLaws.{first_low}
use Rattle.rank_machine.specs.declared.want.Want.{Want}
use Rattle.rank_machine.specs.declared.want.Want.TheVariants as want
use Rattle.rank_machine.specs.Machine.{MachineValue}
use Rattle.rank_node.specs.declared.fault.NodeFault.{NodeFault}
use Rattle.rank_node.specs.declared.fault.NodeFault.TheVariants as fault
use Rattle.rank_node.specs.declared.turn.Turn.{Turn}
use Rattle.rank_node.specs.declared.turn.Turn.TheVariants as turn
use Rattle.rank_node.specs.Steps.{TakesFound, IsShownFound}
use Rattle.rank_node.specs.Replay.{named, is_now, is_before, has_moved, uses_event, receive_turn, probe_turn, try_turn}
use Rattle.rank_node.specs.Replay.{replay_turn_at, ReplayStepAt, replayed_at, taken_named, shown_named, tried_named, TriesNamed}
use Rattle.bare_world.specs.World.{Rank}
use Rattle.bare_world.specs.Plain.{plain_rank}

-- ---- the part is replayed as the event is

-- nothing is replayed where all is a fault
never : (b : Bool) (t : Turn) → (if b then Err fault.Replay else Err fault.Replay) ≡ Ok t → ⊥
never true t e = cc
never false t e = cc

-- the step does the same
pub turn_of_part : (v : Rank) (e : EventValue) → FitsPart v.clock e (part v.clock e) → (x : Want)
    → replay_turn_at (plain_rank v) (part v.clock e) x ≡ replay_turn_at v e x
turn_of_part v e fits want.Internal = refl
turn_of_part v e fits (want.Send d c t) = ap (λ b. if b then Ok turn.Moved else Err fault.Replay) (sym fits.before)
turn_of_part v e fits (want.Print z) = ap (λ b. if b then Ok turn.Moved else Err fault.Replay) (sym fits.before)
turn_of_part v e fits (want.Receive s) =
    ap (λ b. if b then receive_turn s (named v (part v.clock e)) (part v.clock e).kind else Err fault.Replay) (sym fits.now)
    ∙ ap (λ y. if is_now v e then y else Err fault.Replay) (go e.kind e.sender e.sender_clock e.receiver_clock)
  where
    go : (k : Kind) (q n l : ℕ)
        → receive_turn s (named v (part v.clock (event_of k q n l))) (part v.clock (event_of k q n l)).kind ≡ receive_turn s (named v (event_of k q n l)) k
    go kind.Reception q n l = refl
    go kind.Hit q n l = refl
    go kind.Miss q n l = refl
    go kind.Misses q n l = refl
turn_of_part v e fits (want.Probe s) =
    ap (λ b. if b then probe_turn s (named v (part v.clock e)) (part v.clock e).kind else Err fault.Replay) (sym fits.now)
    ∙ ap (λ y. if is_now v e then y else Err fault.Replay) (go e.kind e.sender e.sender_clock e.receiver_clock)
  where
    go : (k : Kind) (q n l : ℕ)
        → probe_turn s (named v (part v.clock (event_of k q n l))) (part v.clock (event_of k q n l)).kind ≡ probe_turn s (named v (event_of k q n l)) k
    go kind.Reception q n l = refl
    go kind.Hit q n l = refl
    go kind.Miss q n l = refl
    go kind.Misses q n l = refl
turn_of_part v e fits (want.TryProbe s) =
    ap (λ b. if b then try_turn s (named v (part v.clock e)) (part v.clock e).kind else Err fault.Replay) (sym fits.now)
    ∙ ap (λ y. if is_now v e then y else Err fault.Replay) (go e.kind e.sender e.sender_clock e.receiver_clock)
  where
    go : (k : Kind) (q n l : ℕ)
        → try_turn s (named v (part v.clock (event_of k q n l))) (part v.clock (event_of k q n l)).kind ≡ try_turn s (named v (event_of k q n l)) k
    go kind.Reception q n l = refl
    go kind.Hit q n l = refl
    go kind.Miss q n l = refl
    go kind.Misses q n l = refl
turn_of_part v e fits want.Halted = refl
turn_of_part v e fits (want.Faulted k) = refl

-- the machine makes the same step
pub step_of_part : (v : Rank) (e : EventValue) (x : Want) (t : Turn) (m : MachineValue) → replay_turn_at v e x ≡ Ok t → ReplayStepAt v e x m
    → ReplayStepAt (plain_rank v) (part v.clock e) x m
step_of_part v e want.Internal t m turned f = f
step_of_part v e (want.Send d c y) t m turned f = f
step_of_part v e (want.Print z) t m turned f = f
step_of_part v e (want.Receive s) t m turned f = go e.kind e.sender e.sender_clock e.receiver_clock turned f
  where
    go : (k : Kind) (q n l : ℕ) → (if is_now v (event_of k q n l) then receive_turn s (named v (event_of k q n l)) k else Err fault.Replay) ≡ Ok t
        → TakesFound (named v (event_of k q n l)) v.machine m → TakesFound (named v (part v.clock (event_of k q n l))) v.machine m
    go kind.Reception q n l turned f = f
    go kind.Hit q n l turned f = f
    go kind.Miss q n l turned f = f
    go kind.Misses q n l turned f = absurd (never (is_now v (event_of kind.Misses q n l)) t turned)
step_of_part v e (want.Probe s) t m turned f = go e.kind e.sender e.sender_clock e.receiver_clock turned f
  where
    go : (k : Kind) (q n l : ℕ) → (if is_now v (event_of k q n l) then probe_turn s (named v (event_of k q n l)) k else Err fault.Replay) ≡ Ok t
        → IsShownFound (named v (event_of k q n l)) v.machine m → IsShownFound (named v (part v.clock (event_of k q n l))) v.machine m
    go kind.Reception q n l turned f = f
    go kind.Hit q n l turned f = f
    go kind.Miss q n l turned f = f
    go kind.Misses q n l turned f = absurd (never (is_now v (event_of kind.Misses q n l)) t turned)
step_of_part v e (want.TryProbe s) t m turned f = go e.kind e.sender e.sender_clock e.receiver_clock f
  where
    go : (k : Kind) (q n l : ℕ) → TriesNamed (named v (event_of k q n l)) k v.machine m
        → TriesNamed (named v (part v.clock (event_of k q n l))) (part v.clock (event_of k q n l)).kind v.machine m
    go kind.Reception q n l f = f
    go kind.Hit q n l f = f
    go kind.Miss q n l f = f
    go kind.Misses q n l f = f
step_of_part v e want.Halted t m turned f = f
step_of_part v e (want.Faulted k) t m turned f = f

-- a named packet that is taken, and one that is shown
taken_plainly : (v : Rank) (m : MachineValue) (o : Option (ℕ × packet.PacketValue)) → plain_rank (taken_named v m o) ≡ taken_named (plain_rank v) m o
taken_plainly v m None = refl
taken_plainly v m (Some f) = refl

-- a replayed hit leaves the same rank where each event is of one act
shown_plainly : (v : Rank) (m : MachineValue) (o : Option (ℕ × packet.PacketValue)) → plain_rank (shown_named v m o) ≡ shown_named (plain_rank v) m o
shown_plainly v m None = refl
shown_plainly v m (Some f) = refl

-- the rank after it is the same
pub after_of_part : (v : Rank) (e : EventValue) (x : Want) (t : Turn) (m : MachineValue) → replay_turn_at v e x ≡ Ok t
    → plain_rank (replayed_at v e x m) ≡ replayed_at (plain_rank v) (part v.clock e) x m
after_of_part v e want.Internal t m turned = refl
after_of_part v e (want.Send d c y) t m turned = refl
after_of_part v e (want.Print z) t m turned = refl
after_of_part v e (want.Receive s) t m turned = go e.kind e.sender e.sender_clock e.receiver_clock turned
  where
    go : (k : Kind) (q n l : ℕ) → (if is_now v (event_of k q n l) then receive_turn s (named v (event_of k q n l)) k else Err fault.Replay) ≡ Ok t
        → plain_rank (taken_named v m (named v (event_of k q n l))) ≡ taken_named (plain_rank v) m (named v (part v.clock (event_of k q n l)))
    go kind.Reception q n l turned = taken_plainly v m (named v (event_of kind.Reception q n l))
    go kind.Hit q n l turned = taken_plainly v m (named v (event_of kind.Hit q n l))
    go kind.Miss q n l turned = taken_plainly v m (named v (event_of kind.Miss q n l))
    go kind.Misses q n l turned = absurd (never (is_now v (event_of kind.Misses q n l)) t turned)
after_of_part v e (want.Probe s) t m turned = go e.kind e.sender e.sender_clock e.receiver_clock turned
  where
    go : (k : Kind) (q n l : ℕ) → (if is_now v (event_of k q n l) then probe_turn s (named v (event_of k q n l)) k else Err fault.Replay) ≡ Ok t
        → plain_rank (shown_named v m (named v (event_of k q n l))) ≡ shown_named (plain_rank v) m (named v (part v.clock (event_of k q n l)))
    go kind.Reception q n l turned = shown_plainly v m (named v (event_of kind.Reception q n l))
    go kind.Hit q n l turned = shown_plainly v m (named v (event_of kind.Hit q n l))
    go kind.Miss q n l turned = shown_plainly v m (named v (event_of kind.Miss q n l))
    go kind.Misses q n l turned = absurd (never (is_now v (event_of kind.Misses q n l)) t turned)
after_of_part v e (want.TryProbe s) t m turned = go e.kind e.sender e.sender_clock e.receiver_clock
  where
    go : (k : Kind) (q n l : ℕ)
        → plain_rank (tried_named v m (named v (event_of k q n l)) k)
        ≡ tried_named (plain_rank v) m (named v (part v.clock (event_of k q n l))) (part v.clock (event_of k q n l)).kind
    go kind.Reception q n l = refl
    go kind.Hit q n l = shown_plainly v m (named v (event_of kind.Hit q n l))
    go kind.Miss q n l = refl
    go kind.Misses q n l = refl
after_of_part v e want.Halted t m turned = refl
after_of_part v e (want.Faulted k) t m turned = refl

-- nothing waits after it, where nothing did
pub still_waits : (v : Rank) (e : EventValue) (x : Want) (m : MachineValue) → (replayed_at v e x m).pending ≡ v.pending
still_waits v e want.Internal m = refl
still_waits v e (want.Send d c t) m = refl
still_waits v e (want.Print z) m = refl
still_waits v e (want.Receive s) m = go (named v e)
  where
    go : (o : Option (ℕ × packet.PacketValue)) → (taken_named v m o).pending ≡ v.pending
    go None = refl
    go (Some f) = refl
still_waits v e (want.Probe s) m = go (named v e)
  where
    go : (o : Option (ℕ × packet.PacketValue)) → (shown_named v m o).pending ≡ v.pending
    go None = refl
    go (Some f) = refl
still_waits v e (want.TryProbe s) m = go (named v e) e.kind
  where
    shown : (o : Option (ℕ × packet.PacketValue)) → (shown_named v m o).pending ≡ v.pending
    shown None = refl
    shown (Some f) = refl

    go : (o : Option (ℕ × packet.PacketValue)) (k : Kind) → (tried_named v m o k).pending ≡ v.pending
    go o kind.Reception = refl
    go o kind.Hit = shown o
    go o kind.Miss = refl
    go o kind.Misses = refl
still_waits v e want.Halted m = refl
still_waits v e (want.Faulted k) m = refl

-- ---- the clock

-- No act is made, and none of the event's; or one is, which is one of the event's or comes before it.
abbrev pub Acts : Rank → EventValue → Want → Turn → MachineValue → Type 0
Acts v e x t m =
    (((replayed_at v e x m).clock ≡ v.clock) × (uses_event x t ≡ false))
    ⊎ (((replayed_at v e x m).clock ≡ v.clock + 1) × ((uses_event x t ≡ true) ⊎ (v.clock + 1 < e.receiver_clock)))

-- a fitting packet was taken or shown
moved_by : (b : Bool) (t : Turn) → (if b then Ok turn.Moved else Err fault.Replay) ≡ Ok t → has_moved t ≡ true
moved_by true t q = (let z : turn.Moved ≡ t = cc in subst (λ y. has_moved y ≡ true) z refl)
moved_by false t q = absurd cc

-- or it wasn't there
blocked_by : (t : Turn) → ◌≡◌ {A = Result Turn NodeFault} (Ok turn.Blocked) (Ok t) → has_moved t ≡ false
blocked_by t q = (let z : turn.Blocked ≡ t = cc in subst (λ y. has_moved y ≡ false) z refl)

-- what comes before the event's first act comes before its last
before_last : (v : Rank) (e : EventValue) (b : Bool) (t : Turn) → is_before v e ≡ b → (if b then Ok turn.Moved else Err fault.Replay) ≡ Ok t
    → v.clock + 1 < e.receiver_clock
before_last v e true t is q =
    let l = ltb-true (v.clock + 1) (first_clock e) is in
    let low = first_low e.kind e.sender_clock e.receiver_clock in
    omega (arith, l, low)
before_last v e false t is q = absurd cc

-- a replayed step makes the acts that its turn says
pub acts_of_step : (v : Rank) (e : EventValue) (x : Want) (t : Turn) (m : MachineValue) → replay_turn_at v e x ≡ Ok t → Acts v e x t m
acts_of_step v e want.Internal t m turned = inl (refl, refl)
acts_of_step v e (want.Send d c y) t m turned = inr (refl, inr (before_last v e (is_before v e) t refl turned))
acts_of_step v e (want.Print z) t m turned = inr (refl, inr (before_last v e (is_before v e) t refl turned))
acts_of_step v e (want.Receive s) t m turned = go (is_now v e) (named v e) e.kind turned
  where
    go : (b : Bool) (o : Option (ℕ × packet.PacketValue)) (k : Kind) → (if b then receive_turn s o k else Err fault.Replay) ≡ Ok t
        → (((taken_named v m o).clock ≡ v.clock) × (has_moved t ≡ false))
        ⊎ (((taken_named v m o).clock ≡ v.clock + 1) × ((has_moved t ≡ true) ⊎ (v.clock + 1 < e.receiver_clock)))
    go false o k q = absurd cc
    go true None kind.Reception q = inl (refl, blocked_by t q)
    go true (Some f) kind.Reception q = inr (refl, inl (moved_by (matches s f.1) t q))
    go true o kind.Hit q = absurd cc
    go true o kind.Miss q = absurd cc
    go true o kind.Misses q = absurd cc
acts_of_step v e (want.Probe s) t m turned = go (is_now v e) (named v e) e.kind turned
  where
    go : (b : Bool) (o : Option (ℕ × packet.PacketValue)) (k : Kind) → (if b then probe_turn s o k else Err fault.Replay) ≡ Ok t
        → (((shown_named v m o).clock ≡ v.clock) × (has_moved t ≡ false))
        ⊎ (((shown_named v m o).clock ≡ v.clock + 1) × ((has_moved t ≡ true) ⊎ (v.clock + 1 < e.receiver_clock)))
    go false o k q = absurd cc
    go true None kind.Hit q = inl (refl, blocked_by t q)
    go true (Some f) kind.Hit q = inr (refl, inl (moved_by (matches s f.1) t q))
    go true o kind.Reception q = absurd cc
    go true o kind.Miss q = absurd cc
    go true o kind.Misses q = absurd cc
acts_of_step v e (want.TryProbe s) t m turned = go (is_now v e) (named v e) e.kind turned
  where
    missed : ◌≡◌ {A = Result Turn NodeFault} (Ok turn.Moved) (Ok t) → has_moved t ≡ true
    missed q = moved_by true t q

    go : (b : Bool) (o : Option (ℕ × packet.PacketValue)) (k : Kind) → (if b then try_turn s o k else Err fault.Replay) ≡ Ok t
        → (((tried_named v m o k).clock ≡ v.clock) × (has_moved t ≡ false))
        ⊎ (((tried_named v m o k).clock ≡ v.clock + 1) × ((has_moved t ≡ true) ⊎ (v.clock + 1 < e.receiver_clock)))
    go false o k q = absurd cc
    go true None kind.Hit q = inl (refl, blocked_by t q)
    go true (Some f) kind.Hit q = inr (refl, inl (moved_by (matches s f.1) t q))
    go true o kind.Reception q = absurd cc
    go true o kind.Miss q = inr (refl, inl (missed q))
    go true o kind.Misses q = inr (refl, inl (missed q))
acts_of_step v e want.Halted t m turned = inl (refl, refl)
acts_of_step v e (want.Faulted k) t m turned = inl (refl, refl)
