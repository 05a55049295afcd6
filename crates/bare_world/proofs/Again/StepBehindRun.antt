-- A step of a rank behind the run: it moves, and it makes an internal step or the run's next act again.
use Rattle.std.proofs.Common.{◌≡◌, ℕ, zero, suc, ◌+◌, ◌<◌, ◌≤◌, ◌⊎◌, inl, inr, ⊎_elim, Bool, true, false, ◌==◌, ◌&&◌, if◌then◌else◌, List, [], ◌∷◌, Option}
use Rattle.std.proofs.Common.{Some, None, Ok, Err, length, refl, sym, ap, subst, ◌∙◌, arith, slice_get, slice_set, slice_index_or, position, option_and_then}
use Rattle.std.proofs.lemmas.Bool.{cases_lt, eq-eqb, lt-ltb}
use Rattle.std.proofs.lemmas.List.Sums.{prefix_len_passes}
use Rattle.std.specs.List.{position_or_len}
use Rattle.std.proofs.Common.{not}
use Rattle.std.proofs.lemmas.List.Quantifiers.{position-Some}
use Rattle.std.proofs.lemmas.Option.{slice_get_within, slice_get-get_or, get_or_from_slice_get}
use Rattle.event_logger.specs.Sequential.Event.{EventValue, event_of, finds_none}
use Rattle.event_logger.proofs.SequentialLaws.NextParts.{part}
use Rattle.event_logger.specs.declared.sequential.kind.Kind.{Kind}
use Rattle.event_logger.specs.declared.sequential.kind.Kind.TheVariants as kind
use Rattle.matching.specs.declared.packet.Context.{Context}
use Rattle.matching.specs.declared.selector.Selector.{Selector}
use Rattle.matching.specs.PacketValue as packet
use Rattle.matching.specs.Matching.{matches, is_named}
use Rattle.payload_log.specs.Backlog.{BacklogValue, backlog, saved}
use Rattle.rank_machine.specs.declared.want.Want.{Want}
use Rattle.rank_machine.specs.declared.want.Want.TheVariants as want
use Rattle.rank_machine.specs.Wants.{payload}
use Rattle.rank_machine.specs.Acts.{Message, takes, hits, misses, Fits}
use Rattle.rank_machine.specs.Machine.{MachineValue, state_of, machine_want, GoesOn}
use Rattle.rank_node.specs.declared.fault.NodeFault.TheVariants as fault
use Rattle.rank_node.specs.declared.turn.Turn.{Turn}
use Rattle.rank_node.specs.declared.turn.Turn.TheVariants as turn
use Rattle.rank_node.specs.Steps.{at_index, message_of, with_machine, after_send, after_print}
use Rattle.crash_free.specs.Runs.{Passed, history}
use Rattle.bare_world.specs.Rows.{event_at, events_from, cons_some}
use Rattle.bare_world.specs.World.{Rank, Live}
use Rattle.rank_node.specs.Replay.{named, is_now, is_before, replay_turn_at, replayed_at, ReplayStepAt, named_turn, receive_turn, probe_turn, try_turn}
use Rattle.rank_node.specs.Replay.{taken_named, shown_named, tried_named}
use Rattle.bare_world.specs.World.{WorldValue, size, IsLive}
use Rattle.bare_world.specs.Stands.{Stands, start_at}
use Rattle.bare_world.proofs.Standing.InRun.{NextAct}
use Rattle.bare_world.proofs.Standing.LiveRanks.{RankStands-settled, left_run}
use Rattle.bare_world.proofs.Runs.ActFitsWant.{FitsTakes, fits_receive, FitsHits, fits_probe, fits_try, fits_ended, wanted, stopped}
use Rattle.bare_world.specs.Plain.{plain}
use Rattle.bare_world.proofs.Standing.ReplayGoesOn.{next_is}
use Rattle.bare_world.proofs.Plain.Ranks.{none_waits_plainly}
use Rattle.bare_world.proofs.Plain.ReplaySteps.{others, left_plainly, none_waiting}
use Rattle.bare_world.proofs.Plain.Worlds.{rank_of}
use Rattle.bare_world.proofs.Again.PacketIsInInbox.{IsThere}

-- ---- what a step leaves

-- Of what the other ranks rely on, a step of a rank behind the run changes nothing but that more is sent; it is an internal step, or its clock goes on.
pub record Went (v u : Rank) : Type 0 where
  pub accepted : u.inbox.accepted ≡ v.inbox.accepted
  pub cursors : (d : ℕ) → (backlog u.log d).cursor ≡ (backlog v.log d).cursor
  pub bases : (d : ℕ) → (backlog u.log d).base ≡ (backlog v.log d).base
  pub dues : u.dues ≡ v.dues
  pub pending : u.pending ≡ v.pending
  pub either : ((u.clock ≡ v.clock) × (u.log ≡ v.log) × (machine_want v.machine ≡ want.Internal) × GoesOn v.machine u.machine) ⊎ (u.clock ≡ v.clock + 1)

-- a packet that is saved leaves every cursor
saved_cursor : (log : List BacklogValue) (d e : ℕ) (p : packet.PacketValue)
    → (backlog (slice_set log d (saved (backlog log d) p)) e).cursor ≡ (backlog log e).cursor
saved_cursor [] d e p = refl
saved_cursor (b ∷ log) zero zero p = refl
saved_cursor (b ∷ log) zero (suc e) p = refl
saved_cursor (b ∷ log) (suc d) zero p = refl
saved_cursor (b ∷ log) (suc d) (suc e) p = saved_cursor log d e p

-- and every base
saved_base : (log : List BacklogValue) (d e : ℕ) (p : packet.PacketValue)
    → (backlog (slice_set log d (saved (backlog log d) p)) e).base ≡ (backlog log e).base
saved_base [] d e p = refl
saved_base (b ∷ log) zero zero p = refl
saved_base (b ∷ log) zero (suc e) p = refl
saved_base (b ∷ log) (suc d) zero p = refl
saved_base (b ∷ log) (suc d) (suc e) p = saved_base log d e p

-- a step of the machine's own leaves inbox, cursors, bases, dues and what waits
pub went_internal : (v : Rank) (m : MachineValue) → machine_want v.machine ≡ want.Internal → GoesOn v.machine m → Went v (with_machine v m)
went_internal v m is goes =
    record { accepted = refl; cursors = λ d. refl; bases = λ d. refl; dues = refl; pending = refl; either = inl (refl, refl, is, goes) }

-- so does a replayed send, which saves its packet
pub went_send : (v : Rank) (m : MachineValue) (d : ℕ) (c : Context) (t : ℕ) → Went v (after_send v m d c t)
went_send v m d c t = record {
  accepted = refl;
  cursors = λ e. saved_cursor v.log d e (message_of v d c t);
  bases = λ e. saved_base v.log d e (message_of v d c t);
  dues = refl;
  pending = refl;
  either = inr refl;
}

-- so does a replayed print
pub went_print : (v : Rank) (m : MachineValue) → Went v (after_print v m)
went_print v m = record { accepted = refl; cursors = λ d. refl; bases = λ d. refl; dues = refl; pending = refl; either = inr refl }

-- ---- the named packet is found where it is there

-- where an element passes a test, some first one does
pub position_found : (f : packet.PacketValue → Bool) (xs : List packet.PacketValue) (k : ℕ) (x : packet.PacketValue) → slice_get xs k ≡ Some x → f x ≡ true
    → (i : ℕ) × (position f xs ≡ Some i)
position_found f xs k x there passes = go (cases_lt (position_or_len f xs) (length xs))
  where
    go : (position_or_len f xs < length xs) ⊎ (length xs ≤ position_or_len f xs) → (i : ℕ) × (position f xs ≡ Some i)
    go (inl l) = (position_or_len f xs, ap (λ b. if b then Some (position_or_len f xs) else None) (lt-ltb (position_or_len f xs) (length xs) l))
    go (inr l) =
        absurd (let lt = slice_get_within xs k x there in
        let fails : not (f (slice_index_or xs k x)) ≡ true = prefix_len_passes (λ z. not (f z)) xs k x (omega (arith, lt, l)) in
        let same : slice_index_or xs k x ≡ x = get_or_from_slice_get xs k x x there in
        let q : false ≡ true = ap not (sym (ap f same ∙ passes)) ∙ fails in cc)

-- the packet that an event names is found in the inbox where its source and its clock are there
named_is_there : (v : Rank) (e : EventValue) (k : ℕ) (p : packet.PacketValue) → slice_get v.inbox.packets k ≡ Some p → p.source ≡ e.sender
    → p.clock ≡ e.sender_clock
    → (g : ℕ × packet.PacketValue) × (named v e ≡ Some g)
named_is_there v e k p there source clock =
    let f = position_found (is_named e.sender e.sender_clock) v.inbox.packets k p there
    (ap (λ b. b && (p.clock == e.sender_clock)) (eq-eqb p.source e.sender source) ∙ eq-eqb p.clock e.sender_clock clock) in
    let first = position-Some (is_named e.sender e.sender_clock) v.inbox.packets f.0 p f.1 in
    let at : slice_get v.inbox.packets f.0 ≡ Some (slice_index_or v.inbox.packets f.0 p) = slice_get-get_or v.inbox.packets f.0 p first.0 in (
      (f.0, slice_index_or v.inbox.packets f.0 p),
      ap (λ o. option_and_then (at_index v.inbox.packets) o) f.1
          ∙ ap (λ o. option_and_then {U = ℕ × packet.PacketValue} (λ z. Some (f.0, z)) o) at,
    )

-- ---- a step of the replay

-- the packet of the rank's next act is in its inbox, where that takes or hits one
abbrev pub Provides : List Passed → ℕ → Live → Type 0
Provides C r v = (x : NextAct (history C r) v.rank.clock v.rank.machine) (s j : ℕ) (m : Message) → (x.act ≡ takes s j) ⊎ (x.act ≡ hits s j) → x.message ≡ Some m
    → IsThere v s m

-- the step moved, and left this
pub record Moves (v u : Rank) (t : Turn) : Type 0 where
  pub moved : t ≡ turn.Moved
  pub went : Went v u

-- a turn that is allowed at all moved
if_ok : (b : Bool) (t : Turn) → (if b then Ok turn.Moved else Err fault.Replay) ≡ Ok t → t ≡ turn.Moved
if_ok true t e = cc
if_ok false t e = absurd cc

-- a replayed event that has its packet moved
named_ok : (s : Selector) (g : ℕ × packet.PacketValue) (t : Turn) → named_turn s (Some g) ≡ Ok t → t ≡ turn.Moved
named_ok s g t e = if_ok (matches s g.1) t e

-- so did a replayed reception
receive_ok : (b : Bool) (s : Selector) (g : ℕ × packet.PacketValue) (k : Kind) (t : Turn) → (if b then receive_turn s (Some g) k else Err fault.Replay) ≡ Ok t
    → t ≡ turn.Moved
receive_ok false s g k t e = absurd cc
receive_ok true s g kind.Reception t e = named_ok s g t e
receive_ok true s g kind.Hit t e = absurd cc
receive_ok true s g kind.Miss t e = absurd cc
receive_ok true s g kind.Misses t e = absurd cc

-- so did a replayed hit
probe_ok : (b : Bool) (s : Selector) (g : ℕ × packet.PacketValue) (k : Kind) (t : Turn) → (if b then probe_turn s (Some g) k else Err fault.Replay) ≡ Ok t
    → t ≡ turn.Moved
probe_ok false s g k t e = absurd cc
probe_ok true s g kind.Hit t e = named_ok s g t e
probe_ok true s g kind.Reception t e = absurd cc
probe_ok true s g kind.Miss t e = absurd cc
probe_ok true s g kind.Misses t e = absurd cc

-- a replayed reception takes its packet and leaves all else that others rely on
went_taken : (v : Rank) (m : MachineValue) (g : ℕ × packet.PacketValue) → Went v (taken_named v m (Some g))
went_taken v m g = record { accepted = refl; cursors = λ d. refl; bases = λ d. refl; dues = refl; pending = refl; either = inr refl }

-- an event whose next part found a message is that part
part_found : (c : ℕ) (e k : EventValue) → finds_none k.kind ≡ false → part c e ≡ k → e ≡ k
part_found c e k some is = go e.kind e.sender e.sender_clock e.receiver_clock is
  where
    go : (j : Kind) (s n l : ℕ) → part c (event_of j s n l) ≡ k → event_of j s n l ≡ k
    go kind.Reception s n l q = q
    go kind.Hit s n l q = q
    go kind.Miss s n l q = q
    go kind.Misses s n l q = absurd (let z : true ≡ false = ap (λ y. finds_none y.kind) q ∙ some in cc)

-- one whose next part is a miss is a miss or a run of misses
part_missed : (c : ℕ) (e : EventValue) → (part c e).kind ≡ kind.Miss → finds_none e.kind ≡ true
part_missed c e is = go e.kind e.sender e.sender_clock e.receiver_clock is
  where
    go : (j : Kind) (s n l : ℕ) → (part c (event_of j s n l)).kind ≡ kind.Miss → finds_none j ≡ true
    go kind.Reception s n l q = absurd cc
    go kind.Hit s n l q = absurd cc
    go kind.Miss s n l q = refl
    go kind.Misses s n l q = refl

module _ (w : WorldValue) (r : ℕ) (v : Live) (m : MachineValue) (t : Stands w) (live : IsLive w r v) (given : Provides w.run r v)
    (e : EventValue) (rest : List EventValue) (left : v.left ≡ e ∷ rest) (turned : Turn) where
  next : (x : Want) → machine_want v.rank.machine ≡ x → (x ≡ want.Internal → ⊥) → NextAct (history w.run r) v.rank.clock v.rank.machine
  next x is ne =
      next_is (start_at w (size w)) (size w) w.run r (plain v) t.run.is_run (rank_of t r v live) (part v.rank.clock e) (others w r v t live e rest left)
      (left_plainly w r v t live e rest left) (stopped v.rank.machine x is ne)

  fits : (x : Want) (is : machine_want v.rank.machine ≡ x) (ne : x ≡ want.Internal → ⊥)
      → Fits x (payload (state_of v.rank.machine)) (next x is ne).act (next x is ne).message
  fits x is ne =
      subst (λ z. Fits z (payload (state_of v.rank.machine)) (next x is ne).act (next x is ne).message) (wanted v.rank.machine x is ne) (next x is ne).makes

  -- the next part is the next act's event
  same_part : (y : NextAct (history w.run r) v.rank.clock v.rank.machine) (k : EventValue) → event_at (v.rank.clock + 1) y.act y.message ≡ Some k
      → part v.rank.clock e ≡ k
  same_part y k is =
      let owes : (rank_of t r v live).acts ≡ [] =
      RankStands-settled (start_at w (size w)) (size w) w.run r (plain v) (rank_of t r v live) (none_waits_plainly v (none_waiting w r v t live e rest left)) in
      let q : part v.rank.clock e ∷ others w r v t live e rest left ≡ k ∷ events_from (v.rank.clock + 1) y.rest =
      sym (left_plainly w r v t live e rest left) ∙ left_run (start_at w (size w)) (size w) w.run r (plain v) (rank_of t r v live) owes
      ∙ ap (λ z. events_from v.rank.clock z) y.is_next
      ∙ ap (λ z. cons_some z (events_from (v.rank.clock + 1) y.rest)) is in
      cc

  -- so is the event, where that found a message
  same_event : (y : NextAct (history w.run r) v.rank.clock v.rank.machine) (k : EventValue) → finds_none k.kind ≡ false
      → event_at (v.rank.clock + 1) y.act y.message ≡ Some k → e ≡ k
  same_event y k some is = part_found v.rank.clock e k some (same_part y k is)

  found : (k : Kind) (s : ℕ) (m : Message) → IsThere v s m → e ≡ event_of k s m.clock (v.rank.clock + 1)
      → (g : ℕ × packet.PacketValue) × (named v.rank e ≡ Some g)
  found k s m there is = named_is_there v.rank e there.index there.packet there.there (there.source ∙ ap (λ z. z.sender) (sym is))
      (there.clock ∙ ap (λ z. z.sender_clock) (sym is))

  found_taken : (s : Selector) (y : NextAct (history w.run r) v.rank.clock v.rank.machine) → FitsTakes s y.act y.message
      → (g : ℕ × packet.PacketValue) × (named v.rank e ≡ Some g)
  found_taken s y f =
      found kind.Reception f.source f.message (given y f.source f.place f.message (inl f.act) f.found)
      (same_event y (event_of kind.Reception f.source f.message.clock (v.rank.clock + 1)) refl
      (ap (λ z. event_at (v.rank.clock + 1) z y.message) f.act ∙ ap (λ z. event_at (v.rank.clock + 1) (takes f.source f.place) z) f.found))

  hit_event : (s : Selector) (y : NextAct (history w.run r) v.rank.clock v.rank.machine) (f : FitsHits s y.act y.message)
      → e ≡ event_of kind.Hit f.source f.message.clock (v.rank.clock + 1)
  hit_event s y f = same_event y (event_of kind.Hit f.source f.message.clock (v.rank.clock + 1)) refl
      (ap (λ z. event_at (v.rank.clock + 1) z y.message) f.act ∙ ap (λ z. event_at (v.rank.clock + 1) (hits f.source f.place) z) f.found)

  found_hit : (s : Selector) (y : NextAct (history w.run r) v.rank.clock v.rank.machine) → FitsHits s y.act y.message
      → (g : ℕ × packet.PacketValue) × (named v.rank e ≡ Some g)
  found_hit s y f = found kind.Hit f.source f.message (given y f.source f.place f.message (inr f.act) f.found) (hit_event s y f)

  pub replay_moves : (x : Want) → machine_want v.rank.machine ≡ x → replay_turn_at v.rank e x ≡ Ok turned → ReplayStepAt v.rank e x m
      → Moves v.rank (replayed_at v.rank e x m) turned
  replay_moves want.Internal is to steps = record { moved = cc; went = went_internal v.rank m is steps }
  replay_moves (want.Send d c y) is to steps = record { moved = if_ok (is_before v.rank e) turned to; went = went_send v.rank m d c y }
  replay_moves (want.Print z) is to steps = record { moved = if_ok (is_before v.rank e) turned to; went = went_print v.rank m }
  replay_moves (want.Receive s) is to steps =
      let y = next (want.Receive s) is (λ z. cc) in
      let g = found_taken s y (fits_receive s (payload (state_of v.rank.machine)) y.act y.message (fits (want.Receive s) is (λ z. cc))) in
      record {
        moved = receive_ok (is_now v.rank e) s g.0 e.kind turned
            (subst (λ o. (if is_now v.rank e then receive_turn s o e.kind else Err fault.Replay) ≡ Ok turned) g.1 to);
        went = subst (λ o. Went v.rank (taken_named v.rank m o)) (sym g.1) (went_taken v.rank m g.0);
      }
  replay_moves (want.Probe s) is to steps =
      let y = next (want.Probe s) is (λ z. cc) in
      let g = found_hit s y (fits_probe s (payload (state_of v.rank.machine)) y.act y.message (fits (want.Probe s) is (λ z. cc))) in
      record {
        moved = probe_ok (is_now v.rank e) s g.0 e.kind turned
            (subst (λ o. (if is_now v.rank e then probe_turn s o e.kind else Err fault.Replay) ≡ Ok turned) g.1 to);
        went = subst (λ o. Went v.rank (shown_named v.rank m o)) (sym g.1) (went_print v.rank m);
      }
  replay_moves (want.TryProbe s) is to steps =
      ⊎_elim hit miss (fits_try s (payload (state_of v.rank.machine)) y.act y.message (fits (want.TryProbe s) is (λ z. cc)))
    where
      y : NextAct (history w.run r) v.rank.clock v.rank.machine
      y = next (want.TryProbe s) is (λ z. cc)

      try_hit : (b : Bool) (g : ℕ × packet.PacketValue) → (if b then try_turn s (Some g) kind.Hit else Err fault.Replay) ≡ Ok turned → turned ≡ turn.Moved
      try_hit true g q = named_ok s g turned q
      try_hit false g q = absurd cc

      try_miss : (b : Bool) (o : Option (ℕ × packet.PacketValue)) (k : Kind) → finds_none k ≡ true
          → (if b then try_turn s o k else Err fault.Replay) ≡ Ok turned → turned ≡ turn.Moved
      try_miss true o kind.Miss n q = cc
      try_miss true o kind.Misses n q = cc
      try_miss true o kind.Reception n q = absurd cc
      try_miss true o kind.Hit n q = absurd cc
      try_miss false o k n q = absurd cc

      went_missed : (o : Option (ℕ × packet.PacketValue)) (k : Kind) → finds_none k ≡ true → Went v.rank (tried_named v.rank m o k)
      went_missed o kind.Miss n = went_print v.rank m
      went_missed o kind.Misses n = went_print v.rank m
      went_missed o kind.Reception n = absurd cc
      went_missed o kind.Hit n = absurd cc

      hit : FitsHits s y.act y.message → Moves v.rank (tried_named v.rank m (named v.rank e) e.kind) turned
      hit f =
          let g = found_hit s y f in
          let k : e.kind ≡ kind.Hit = ap (λ z. z.kind) (hit_event s y f) in
          record {
            moved = try_hit (is_now v.rank e) g.0 (subst (λ o. (if is_now v.rank e then try_turn s o kind.Hit else Err fault.Replay) ≡ Ok turned) g.1
                (subst (λ z. (if is_now v.rank e then try_turn s (named v.rank e) z else Err fault.Replay) ≡ Ok turned) k to));
            went = subst (λ z. Went v.rank (tried_named v.rank m (named v.rank e) z)) (sym k)
                (subst (λ o. Went v.rank (shown_named v.rank m o)) (sym g.1) (went_print v.rank m));
          }

      miss : (y.act ≡ misses) × (y.message ≡ None) → Moves v.rank (tried_named v.rank m (named v.rank e) e.kind) turned
      miss f =
          let k : finds_none e.kind ≡ true =
          part_missed v.rank.clock e
          (ap (λ z. z.kind) (same_part y (event_of kind.Miss 0 0 (v.rank.clock + 1)) (ap (λ z. event_at (v.rank.clock + 1) z y.message) f.0))) in
          record { moved = try_miss (is_now v.rank e) (named v.rank e) e.kind k to; went = went_missed (named v.rank e) e.kind k }
  replay_moves want.Halted is to steps =
      let y = next want.Halted is (λ z. cc) in
      absurd (fits_ended want.Halted (payload (state_of v.rank.machine)) y.act y.message (inl refl) (fits want.Halted is (λ z. cc)))
  replay_moves (want.Faulted k) is to steps =
      let y = next (want.Faulted k) is (λ z. cc) in
      absurd (fits_ended (want.Faulted k) (payload (state_of v.rank.machine)) y.act y.message (inr (k, refl)) (fits (want.Faulted k) is (λ z. cc)))
