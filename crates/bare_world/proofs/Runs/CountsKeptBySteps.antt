-- A step keeps what its rank counts: of a rank at work, and of one that replays.
use Rattle.std.proofs.lemmas.List.{append-nil, length_push, drop-append-le}
use Rattle.std.proofs.Common.{◌≡◌, ℕ, zero, suc, ◌+◌, ◌<◌, ◌≤◌, Bool, true, false, ◌==◌, nat_lt, if◌then◌else◌}
use Rattle.std.proofs.Common.{is_some, List, [], ◌∷◌, ◌++◌, Option, Some, None, length, drop, refl, sym, ap, ◌∙◌, arith}
use Rattle.std.proofs.Common.{option_and_then, position}
use Rattle.std.proofs.lemmas.Bool.{ltb-true}
use Rattle.event_logger.specs.Sequential.Event.{EventValue, event_of}
use Rattle.event_logger.specs.declared.sequential.kind.Kind.{Kind}
use Rattle.event_logger.specs.declared.sequential.kind.Kind.TheVariants as kind
use Rattle.matching.specs.PacketValue as packet
use Rattle.limits.specs.Limits.{greatest_clock, most_events}
use Rattle.matching.specs.Matching.{matches}
use Rattle.rank_machine.specs.Machine.{MachineValue, machine_want}
use Rattle.rank_machine.specs.declared.want.Want.{Want}
use Rattle.rank_machine.specs.declared.want.Want.TheVariants as want
use Rattle.rank_node.specs.Waiting.{is_settled, events_in, has_room, joins, with_joined, with_miss}
use Rattle.rank_node.specs.declared.fault.NodeFault.TheVariants.{ClockSpent, Log}
use Rattle.rank_node.specs.Steps.{step_at, refusal_at, event_refusal, received, probed, tried, at_index, after_send, after_print, made_send}
use Rattle.rank_node.specs.Steps.{made_print, after_hold, after_wait, after_reception, after_probe, after_miss, try_refusal, clock_refusal}
use Rattle.bare_world.specs.World.{Live, unpassed, unstored, WorldValue, IsLive}
use Rattle.rank_node.specs.declared.waiting.Waiting.{Waiting}
use Rattle.rank_node.specs.declared.waiting.Waiting.TheVariants as waits
use Rattle.bare_world.specs.Follows.{StepFollows, ReplayFollows}
use Rattle.bare_world.specs.declared.reply.Reply.{Reply}
use Rattle.rank_node.specs.Replay.{replayed_at, taken_named, shown_named, tried_named, named}
use Rattle.bare_world.specs.Counts.{RankCounts, Counts}
use Rattle.bare_world.proofs.Runs.CountsKept.{Counts-rank, one}
use Rattle.bare_world.proofs.Lists.Beginnings.{drop_zero}
use Rattle.bare_world.proofs.Plain.EffectsAndLeft.{events_append}

-- with a miss more in the last of them there are as many events
joined_length : (xs : List Waiting) → length (events_in (with_joined xs)) ≡ length (events_in xs)
joined_length [] = refl
joined_length (waits.Event e ∷ []) = refl
joined_length (waits.Send d c ∷ []) = refl
joined_length (waits.Line c v ∷ []) = refl
joined_length (waits.Event e ∷ (y ∷ xs)) = ap suc (joined_length (y ∷ xs))
joined_length (waits.Send d c ∷ (y ∷ xs)) = joined_length (y ∷ xs)
joined_length (waits.Line c v ∷ (y ∷ xs)) = joined_length (y ∷ xs)

-- also of those behind the first
joined_drop : (k : ℕ) (xs : List Waiting) → length (events_in (drop k (with_joined xs))) ≡ length (events_in (drop k xs))
joined_drop zero xs =
    ap (λ z. length (events_in z)) (drop_zero (with_joined xs)) ∙ joined_length xs ∙ sym (ap (λ z. length (events_in z)) (drop_zero xs))
joined_drop (suc k) [] = refl
joined_drop (suc k) (x ∷ []) = refl
joined_drop (suc k) (x ∷ (y ∷ xs)) = joined_drop k (y ∷ xs)

module _ (v : Live) (m : MachineValue) (left : List EventValue)
    (events : List EventValue) (k : RankCounts v events) (low : v.rank.stored ≤ length v.rank.pending) where
  stays : RankCounts (record { rank = v.rank; left = left }) events
  stays = record { made = k.made; few = k.few }

  pushed : (y : Waiting) → events_in (drop v.rank.stored (v.rank.pending ++ y ∷ [])) ≡ unstored v.rank ++ events_in (y ∷ [])
  pushed y = ap events_in (drop-append-le v.rank.stored v.rank.pending (y ∷ []) low) ∙ events_append (unpassed v.rank) (y ∷ [])

  one_more : (x : EventValue) → v.rank.made < most_events
      → (v.rank.made + 1 ≡ length events + length (events_in (drop v.rank.stored (v.rank.pending ++ waits.Event x ∷ [])))) × (v.rank.made + 1 ≤ most_events)
  one_more x l =
      let a = k.made in
      let b = ap length (pushed (waits.Event x)) ∙ length_push (unstored v.rank) x in
      (omega (arith, a, b), omega (arith, l))

  -- an effect that waits is no event
  none_more : (y : Waiting) → events_in (y ∷ []) ≡ [] → v.rank.made ≡ length events + length (events_in (drop v.rank.stored (v.rank.pending ++ y ∷ [])))
  none_more y e =
      let a = k.made in
      let b = ap length (pushed y ∙ ap (λ z. unstored v.rank ++ z) e ∙ append-nil (unstored v.rank)) in
      omega (arith, a, b)

  few_made : (b c : Bool) → (if b then Some ClockSpent else (if c then None else Some Log)) ≡ None → c ≡ true
  few_made true c e = absurd cc
  few_made false true e = refl
  few_made false false e = absurd cc

  allowed_few : event_refusal v.rank ≡ None → v.rank.made < most_events
  allowed_few e = ltb-true v.rank.made most_events (few_made (v.rank.clock == greatest_clock) (nat_lt v.rank.made most_events) e)

  probe_counts : (w : Kind) (s c : ℕ) → event_refusal v.rank ≡ None → RankCounts (record { rank = after_probe v.rank m w s c; left = left }) events
  probe_counts w s c e = (let z = one_more (event_of w s c (v.rank.clock + 1)) (allowed_few e) in record { made = z.0; few = z.1 })

  receive_counts : (f : ℕ × packet.PacketValue) → event_refusal v.rank ≡ None
      → RankCounts (record { rank = after_reception v.rank m f.0 f.1; left = left }) events
  receive_counts f e = (let z = one_more (event_of kind.Reception f.1.source f.1.clock (v.rank.clock + 1)) (allowed_few e) in record { made = z.0; few = z.1 })

  received_counts : (o : Option ℕ) → (if is_some o then event_refusal v.rank else None) ≡ None → (f : Option (ℕ × packet.PacketValue))
      → f ≡ option_and_then (at_index v.rank.inbox.packets) o
      → RankCounts (record { rank = received v.rank m f; left = left }) events
  received_counts o e None q = stays
  received_counts None e (Some f) q = absurd cc
  received_counts (Some i) e (Some f) q = receive_counts f e

  probed_counts : (o : Option ℕ) → (if is_some o then event_refusal v.rank else None) ≡ None → (f : Option (ℕ × packet.PacketValue))
      → f ≡ option_and_then (at_index v.rank.inbox.packets) o
      → RankCounts (record { rank = probed v.rank m f; left = left }) events
  probed_counts o e None q = stays
  probed_counts None e (Some f) q = absurd cc
  probed_counts (Some i) e (Some f) q = probe_counts kind.Hit f.1.source f.1.clock e

  -- a miss that joins what waits last is no event more
  missed_counts : (joins v.rank.stored v.rank.pending ≡ false → event_refusal v.rank ≡ None)
      → RankCounts (record { rank = after_miss v.rank m; left = left }) events
  missed_counts may = go (joins v.rank.stored v.rank.pending) refl
    where
      go : (b : Bool) → joins v.rank.stored v.rank.pending ≡ b → RankCounts (record { rank = after_miss v.rank m; left = left }) events
      go true is =
          let a = k.made in
          let b = k.few in
          let same : (if joins v.rank.stored v.rank.pending then v.rank.made else v.rank.made + 1) ≡ v.rank.made =
          ap (λ y. if y then v.rank.made else v.rank.made + 1) is in
          let l : length (events_in (drop v.rank.stored (with_miss v.rank.stored v.rank.pending (v.rank.clock + 1)))) ≡ length (unstored v.rank) =
          ap (λ y. length (events_in (drop v.rank.stored (if y then with_joined v.rank.pending
          else v.rank.pending ++ waits.Event (event_of kind.Miss 0 0 (v.rank.clock + 1)) ∷ [])))) is ∙ joined_drop v.rank.stored v.rank.pending in
          record { made = omega (arith, a, same, l); few = omega (arith, b, same) }
      go false is =
          let z = one_more (event_of kind.Miss 0 0 (v.rank.clock + 1)) (allowed_few (may is)) in
          let z0 = z.0 in
          let z1 = z.1 in
          let same : (if joins v.rank.stored v.rank.pending then v.rank.made else v.rank.made + 1) ≡ v.rank.made + 1 =
          ap (λ y. if y then v.rank.made else v.rank.made + 1) is in
          let l : length (events_in (drop v.rank.stored (with_miss v.rank.stored v.rank.pending (v.rank.clock + 1))))
          ≡ length (events_in (drop v.rank.stored (v.rank.pending ++ waits.Event (event_of kind.Miss 0 0 (v.rank.clock + 1)) ∷ []))) =
          ap (λ y. length (events_in (drop v.rank.stored (if y then with_joined v.rank.pending
          else v.rank.pending ++ waits.Event (event_of kind.Miss 0 0 (v.rank.clock + 1)) ∷ [])))) is in
          record { made = omega (arith, z0, same, l); few = omega (arith, z1, same) }

  tried_counts : (o : Option ℕ) → try_refusal v.rank o ≡ None → (f : Option (ℕ × packet.PacketValue))
      → f ≡ option_and_then (at_index v.rank.inbox.packets) o
      → RankCounts (record { rank = tried v.rank m f; left = left }) events
  tried_counts None e None q =
      missed_counts (λ is. sym (ap (λ b. if b then clock_refusal v.rank else event_refusal v.rank) is) ∙ e)
  tried_counts (Some i) e None q = missed_counts (λ is. e)
  tried_counts None e (Some f) q = absurd cc
  tried_counts (Some i) e (Some f) q = probe_counts kind.Hit f.1.source f.1.clock e

  pub step_counts : (w : Want) → refusal_at v.rank w ≡ None → RankCounts (record { rank = step_at v.rank w m; left = left }) events
  step_counts want.Internal e = record { made = k.made; few = k.few }
  step_counts (want.Send d x t) e = go (has_room v.rank.pending)
    where
      made : (b : Bool) → RankCounts (record { rank = if b then after_send v.rank m d x t else after_hold v.rank m d x t; left = left }) events
      made true = record { made = k.made; few = k.few }
      made false = record { made = none_more (waits.Send d (v.rank.clock + 1)) refl; few = k.few }

      go : (b : Bool) → RankCounts (record { rank = if b then made_send v.rank m d x t else v.rank; left = left }) events
      go true = made (is_settled v.rank.pending)
      go false = stays
  step_counts (want.Receive s) e = received_counts (position (matches s) v.rank.inbox.packets) e _ refl
  step_counts (want.Probe s) e = probed_counts (position (matches s) v.rank.inbox.packets) e _ refl
  step_counts (want.TryProbe s) e = tried_counts (position (matches s) v.rank.inbox.packets) e _ refl
  step_counts (want.Print z) e = go (has_room v.rank.pending)
    where
      made : (b : Bool) → RankCounts (record { rank = if b then after_print v.rank m else after_wait v.rank m z; left = left }) events
      made true = record { made = k.made; few = k.few }
      made false = record { made = none_more (waits.Line (v.rank.clock + 1) z) refl; few = k.few }

      go : (b : Bool) → RankCounts (record { rank = if b then made_print v.rank m z else v.rank; left = left }) events
      go true = made (is_settled v.rank.pending)
      go false = stays
  step_counts want.Halted e = stays
  step_counts (want.Faulted f) e = stays

  print_counts : RankCounts (record { rank = after_print v.rank m; left = left }) events
  print_counts = record { made = k.made; few = k.few }

  taken_counts : (f : Option (ℕ × packet.PacketValue)) → RankCounts (record { rank = taken_named v.rank m f; left = left }) events
  taken_counts None = stays
  taken_counts (Some f) = record { made = k.made; few = k.few }

  shown_counts : (f : Option (ℕ × packet.PacketValue)) → RankCounts (record { rank = shown_named v.rank m f; left = left }) events
  shown_counts None = stays
  shown_counts (Some f) = print_counts

  tried_named_counts : (f : Option (ℕ × packet.PacketValue)) (w : Kind) → RankCounts (record { rank = tried_named v.rank m f w; left = left }) events
  tried_named_counts f kind.Hit = shown_counts f
  tried_named_counts f kind.Miss = print_counts
  tried_named_counts f kind.Misses = print_counts
  tried_named_counts f kind.Reception = stays

  -- what is replayed is stored already
  pub replay_counts : (e : EventValue) (w : Want) → RankCounts (record { rank = replayed_at v.rank e w m; left = left }) events
  replay_counts e want.Internal = record { made = k.made; few = k.few }
  replay_counts e (want.Send d x t) = record { made = k.made; few = k.few }
  replay_counts e (want.Receive s) = taken_counts (named v.rank e)
  replay_counts e (want.Probe s) = shown_counts (named v.rank e)
  replay_counts e (want.TryProbe s) = tried_named_counts (named v.rank e) e.kind
  replay_counts e (want.Print z) = print_counts
  replay_counts e want.Halted = stays
  replay_counts e (want.Faulted f) = stays

-- a step of a rank at work
pub Counts-step : (w : WorldValue) (r : ℕ) (answer : Reply) (w' : WorldValue) → ((v : Live) → IsLive w r v → v.rank.stored ≤ length v.rank.pending)
    → Counts w → StepFollows w r answer w' → Counts w'
Counts-step w r answer w' low c f =
    Counts-rank w w' r (Some (record { rank = step_at f.before.rank (machine_want f.before.rank.machine) f.machine; left = [] })) (ap (λ z. z.ranks) f.after)
    (ap (λ z. z.logger.rows) f.after)
    (λ x events e there. one _ x events (step_counts f.before f.machine [] events (c.ranks r f.before events f.live there) (low f.before f.live)
    (machine_want f.before.rank.machine) f.allowed) e) c

-- a step of the replay
pub Counts-replay : (w : WorldValue) (r : ℕ) (answer : Reply) (w' : WorldValue) → ((v : Live) → IsLive w r v → v.rank.stored ≤ length v.rank.pending)
    → Counts w → ReplayFollows w r answer w' → Counts w'
Counts-replay w r answer w' low c f =
    Counts-rank w w' r _ (ap (λ z. z.ranks) f.after) (ap (λ z. z.logger.rows) f.after)
    (λ x events e there. one _ x events (replay_counts f.before f.machine _ events (c.ranks r f.before events f.live there)
    (low f.before f.live) f.event (machine_want f.before.rank.machine)) e) c
