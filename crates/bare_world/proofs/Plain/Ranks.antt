-- A rank without runs of misses: what a rank does, the rank without runs does by one event for each act.
use Rattle.std.proofs.Common.{◌≡◌, ℕ, ℤ, ◌+◌, ◌≤◌, ⊎_elim, Bool, true, false, if◌then◌else◌, nat_lt, List, [], ◌∷◌, ◌++◌}
use Rattle.std.proofs.Common.{map, Option, Some, None, length, slice_get, refl, sym, ap, subst, ◌∙◌, append_assoc}
use Rattle.std.proofs.lemmas.List.{append-nil, length_push}
use Rattle.matching.specs.PacketValue as packet
use Rattle.matching.specs.declared.packet.Context.{Context}
use Rattle.limits.specs.Limits.{most_effects}
use Rattle.event_logger.specs.Sequential.Event.{EventValue, event_of}
use Rattle.event_logger.specs.Sequential.Misses.{parts_of, expand, IsCounted}
use Rattle.event_logger.specs.Sequential.History.{above}
use Rattle.event_logger.specs.declared.sequential.kind.Kind.TheVariants as kind
use Rattle.event_logger.proofs.SequentialLaws.NextParts.{part, next_part}
use Rattle.rank_machine.specs.declared.want.Want.{Want}
use Rattle.rank_machine.specs.declared.want.Want.TheVariants as want
use Rattle.rank_machine.specs.States.{State}
use Rattle.rank_machine.specs.Wants.{payload}
use Rattle.rank_machine.specs.Acts.{Act, sends, prints}
use Rattle.rank_machine.specs.Machine.{MachineValue, state_of}
use Rattle.rank_node.specs.declared.turn.Turn.{Turn}
use Rattle.rank_node.specs.declared.turn.Turn.TheVariants as turn
use Rattle.rank_node.specs.declared.waiting.Waiting.{Waiting}
use Rattle.rank_node.specs.declared.waiting.Waiting.TheVariants as waits
use Rattle.rank_node.specs.Waiting.{expanded, has_room, is_settled, joins, with_joined}
use Rattle.rank_node.specs.Steps.{step_at, turn_at, tried, found, after_send, after_hold, after_print, after_wait, made_send, made_print, after_miss}
use Rattle.rank_node.specs.Steps.{received, probed}
use Rattle.crash_free.specs.Runs.{Passed, history, sent, looked_up, continue}
use Rattle.crash_free.proofs.Lists.{history-own}
use Rattle.matching.specs.declared.line.Line.{Line}
use Rattle.ports.specs.Console.{after_line}
use Rattle.bare_world.specs.World.{Rank, Live, unpassed}
use Rattle.bare_world.specs.Plain.{plainly, plain_rank, plain, RankRuns}
use Rattle.bare_world.specs.Stands.{Pending, RankStands}
use Rattle.bare_world.specs.Follows.{effect_at, lines_after}
use Rattle.bare_world.proofs.Rows.{event_clock}
use Rattle.bare_world.proofs.Standing.LiveRanks.{nothing_unpassed}
use Rattle.bare_world.proofs.Plain.ActsOfEvents.{LastPart, last_part}
use Rattle.bare_world.proofs.Plain.EffectsAndLeft.{expanded_append, unpassed_plain, plainly_effects, plainly_push, plainly_settled, plainly_none, none_plainly}
use Rattle.bare_world.proofs.Plain.EffectsAndLeft.{plainly_joined, LastMiss, last_miss, last_counted}
use Rattle.bare_world.proofs.Standing.KeptByNewEvents.{plain_step_at, plain_tried, uncounted}

-- ---- what waits, and what is left

-- where nothing waits at the rank without runs nothing does
pub none_waits : (v : Live) → RankRuns v → (plain v).rank.pending ≡ [] → v.rank.pending ≡ []
none_waits v k e = none_plainly v.rank.stored v.rank.pending k.unstored e

-- and the other way around
pub none_waits_plainly : (v : Live) → v.rank.pending ≡ [] → (plain v).rank.pending ≡ []
none_waits_plainly v e = plainly_none v.rank.stored v.rank.pending e

-- where nothing is left to replay
pub none_left_plainly : (v : Live) → v.left ≡ [] → (plain v).left ≡ []
none_left_plainly v e = ap (λ z. above v.rank.clock (expand z)) e

-- what is left to the rank without runs begins with the next part of the next event
pub next_left : (v : Live) (e : EventValue) (rest : List EventValue) → RankRuns v → v.left ≡ e ∷ rest
    → (others : List EventValue) × ((plain v).left ≡ part v.rank.clock e ∷ others)
next_left v e rest k is =
    let counted : IsCounted e = k.left 0 e (ap (λ z. slice_get z 0) is) in
    let n = next_part v.rank.clock e rest counted (k.later 0 e (ap (λ z. slice_get z 0) is)) in
    (n.0, ap (λ z. above v.rank.clock (expand z)) is ∙ n.1)

-- so something is, where something is
pub none_left : (v : Live) → RankRuns v → (plain v).left ≡ [] → v.left ≡ []
none_left v k e = go v.left refl
  where
    go : (es : List EventValue) → v.left ≡ es → es ≡ []
    go [] is = refl
    go (x ∷ rest) is = absurd (let n = next_left v x rest k is in let q : [] ≡ part v.rank.clock x ∷ n.0 = sym e ∙ n.1 in cc)

-- ---- the event that waits last

-- it is of the last act that its rank has made
last_waits : (start : ℕ → State) (C : List Passed) (r : ℕ) (acts : List Act) (xs : List Waiting) (e : EventValue)
    → Pending start C r acts (xs ++ waits.Event e ∷ []) → e.receiver_clock ≡ length (history (continue C r acts) r)
last_waits start C r [] [] e p = absurd p
last_waits start C r (a ∷ []) [] e p =
    event_clock (length (history C r) + 1) a (looked_up (λ s. sent C s r) a) e p.1
    ∙ sym (ap length (history-own C r a) ∙ length_push (history C r) (a, looked_up (λ s. sent C s r) a))
last_waits start C r (a ∷ (b ∷ acts)) [] e p = absurd p.2
last_waits start C r [] (x ∷ xs) e p = absurd p
last_waits start C r (a ∷ acts) (x ∷ xs) e p = last_waits start (record { rank = r; act = a } ∷ C) r acts xs e p.2

-- what waits ends with the last part of an event that waits last
expanded_last : (before : List Waiting) (e : EventValue) (l : LastPart e)
    → expanded (before ++ waits.Event e ∷ []) ≡ (expanded before ++ map waits.Event l.front) ++ waits.Event l.last ∷ []
expanded_last before e l =
    expanded_append before (waits.Event e ∷ [])
    ∙ ap (λ z. expanded before ++ z) (append-nil (map waits.Event (parts_of e)) ∙ ap (λ z. map waits.Event z) l.parts
    ∙ push l.front) ∙ sym (append_assoc (expanded before) (map waits.Event l.front) (waits.Event l.last ∷ []))
  where
    push : (es : List EventValue) → map waits.Event (es ++ l.last ∷ []) ≡ map waits.Event es ++ waits.Event l.last ∷ []
    push [] = refl
    push (x ∷ es) = ap (λ z. waits.Event x ∷ z) (push es)

-- so a miss or run of misses that waits last ends at the clock of its rank
pub joins_clock : (start : ℕ → State) (n : ℕ) (C : List Passed) (r : ℕ) (v : Live) → RankStands start n C r (plain v)
    → (l : LastMiss v.rank.clock (unpassed v.rank)) → IsCounted l.last → l.last.receiver_clock ≡ v.rank.clock
joins_clock start n C r v s l counted =
    let z = last_part l.last counted in
    let is : unpassed (plain_rank v.rank) ≡ (expanded l.before ++ map waits.Event z.front) ++ waits.Event z.last ∷ [] =
    unpassed_plain v.rank ∙ ap expanded l.is ∙ expanded_last l.before l.last z in
    let c = last_waits start C r s.acts (expanded l.before ++ map waits.Event z.front) z.last (subst (λ y. Pending start C r s.acts y) is s.pending) in
    sym z.clock ∙ c ∙ sym (⊎_elim
    (λ (none : (plain v).rank.pending ≡ []). absurd
    (some (expanded l.before ++ map waits.Event z.front) (waits.Event z.last) (sym is ∙ nothing_unpassed (plain_rank v.rank) none)))
    (λ all. all) s.all_made)
  where
    some : (xs : List Waiting) (x : Waiting) → xs ++ x ∷ [] ≡ [] → ⊥
    some [] x e = cc
    some (y ∷ xs) x e = cc

-- ---- a step

module _ (v : Live) (runs : RankRuns v) (low : v.rank.stored ≤ length v.rank.pending) where
  -- the rank without runs finds its gate settled, and with room, just where the rank does
  pub same_gate : is_settled (plain_rank v.rank).pending ≡ is_settled v.rank.pending
  same_gate = plainly_settled v.rank.stored v.rank.pending runs.unstored

  pub same_room : has_room (plain_rank v.rank).pending ≡ has_room v.rank.pending
  same_room = ap (λ n. nat_lt n most_effects) (plainly_effects v.rank.stored v.rank.pending)

  -- so it makes the same turn
  pub same_turn : (x : Want) → turn_at (plain_rank v.rank) x ≡ turn_at v.rank x
  same_turn want.Internal = refl
  same_turn (want.Send d c t) = ap (λ b. if b then turn.Moved else turn.Held) same_room
  same_turn (want.Receive s) = refl
  same_turn (want.Probe s) = refl
  same_turn (want.TryProbe s) = refl
  same_turn (want.Print z) = ap (λ b. if b then turn.Moved else turn.Held) same_room
  same_turn want.Halted = refl
  same_turn (want.Faulted k) = refl

  -- the same passes with it
  pub same_effect : (x : Want) (t : Turn) → effect_at (plain_rank v.rank) x t ≡ effect_at v.rank x t
  same_effect want.Internal t = refl
  same_effect (want.Send d c k) turn.Moved = ap (λ b. if b then Some (sends d c k (payload (state_of v.rank.machine))) else None) same_gate
  same_effect (want.Send d c k) turn.Blocked = refl
  same_effect (want.Send d c k) turn.Held = refl
  same_effect (want.Send d c k) turn.Ended = refl
  same_effect (want.Receive s) t = refl
  same_effect (want.Probe s) t = refl
  same_effect (want.TryProbe s) t = refl
  same_effect (want.Print z) turn.Moved = ap (λ b. if b then Some (prints z) else None) same_gate
  same_effect (want.Print z) turn.Blocked = refl
  same_effect (want.Print z) turn.Held = refl
  same_effect (want.Print z) turn.Ended = refl
  same_effect want.Halted t = refl
  same_effect (want.Faulted k) t = refl

  -- and the same is shown
  pub same_lines : (lines : List Line) (r : ℕ) (x : Want) (t : Turn) → lines_after lines r (plain_rank v.rank) x t ≡ lines_after lines r v.rank x t
  same_lines lines r want.Internal t = refl
  same_lines lines r (want.Send d c k) t = refl
  same_lines lines r (want.Receive s) t = refl
  same_lines lines r (want.Probe s) t = refl
  same_lines lines r (want.TryProbe s) t = refl
  same_lines lines r (want.Print z) turn.Moved = ap (λ b. if b then after_line lines r (v.rank.clock + 1) z else lines) same_gate
  same_lines lines r (want.Print z) turn.Blocked = refl
  same_lines lines r (want.Print z) turn.Held = refl
  same_lines lines r (want.Print z) turn.Ended = refl
  same_lines lines r want.Halted t = refl
  same_lines lines r (want.Faulted k) t = refl

  -- the rank with one more that waits, without runs
  pushed : (u : Rank) (x : Waiting) → expanded (x ∷ []) ≡ x ∷ []
      → plain_rank (record u { pending = v.rank.pending ++ x ∷ []; stored = v.rank.stored })
      ≡ record u { made = 0; pending = plainly v.rank.stored v.rank.pending ++ x ∷ []; stored = v.rank.stored }
  pushed u x one =
      ap (λ z. record u { made = 0; pending = z; stored = v.rank.stored })
      (plainly_push v.rank.stored v.rank.pending x low ∙ ap (λ z. plainly v.rank.stored v.rank.pending ++ z) one)

  -- a send that stands, as its rank's gate is
  sent_plainly : (m : MachineValue) (d : ℕ) (c : Context) (t : ℕ) (b : Bool)
      → plain_rank (if b then after_send v.rank m d c t else after_hold v.rank m d c t)
      ≡ (if b then after_send (plain_rank v.rank) m d c t else after_hold (plain_rank v.rank) m d c t)
  sent_plainly m d c t true = refl
  sent_plainly m d c t false = pushed (after_hold v.rank m d c t) (waits.Send d (v.rank.clock + 1)) refl

  -- a print that stands
  printed_plainly : (m : MachineValue) (z : ℤ) (b : Bool)
      → plain_rank (if b then after_print v.rank m else after_wait v.rank m z)
      ≡ (if b then after_print (plain_rank v.rank) m else after_wait (plain_rank v.rank) m z)
  printed_plainly m z true = refl
  printed_plainly m z false = pushed (after_wait v.rank m z) (waits.Line (v.rank.clock + 1) z) refl

  -- what a receive finds
  received_plainly : (m : MachineValue) (o : Option (ℕ × packet.PacketValue))
      → plain_rank (received v.rank m o) ≡ uncounted (plain_rank v.rank) (received (plain_rank v.rank) m o)
  received_plainly m None = refl
  received_plainly m (Some f) = pushed (received v.rank m (Some f)) (waits.Event (event_of kind.Reception f.1.source f.1.clock (v.rank.clock + 1))) refl

  -- what a blocking probe finds
  probed_plainly : (m : MachineValue) (o : Option (ℕ × packet.PacketValue))
      → plain_rank (probed v.rank m o) ≡ uncounted (plain_rank v.rank) (probed (plain_rank v.rank) m o)
  probed_plainly m None = refl
  probed_plainly m (Some f) = pushed (probed v.rank m (Some f)) (waits.Event (event_of kind.Hit f.1.source f.1.clock (v.rank.clock + 1))) refl

  -- a miss, be it that it joins what waits last, or not
  missed_plainly : (m : MachineValue) → ((l : LastMiss v.rank.clock (unpassed v.rank)) → IsCounted l.last → l.last.receiver_clock ≡ v.rank.clock)
      → plain_rank (after_miss v.rank m) ≡ uncounted (plain_rank v.rank) (plain_tried (plain_rank v.rank) m None)
  missed_plainly m clock = go (joins v.rank.stored v.rank.pending) refl
    where
      waiting : (b : Bool) → joins v.rank.stored v.rank.pending ≡ b
          → plainly v.rank.stored (if b then with_joined v.rank.pending else v.rank.pending ++ waits.Event (event_of kind.Miss 0 0 (v.rank.clock + 1)) ∷ [])
          ≡ plainly v.rank.stored v.rank.pending ++ waits.Event (event_of kind.Miss 0 0 (v.rank.clock + 1)) ∷ []
      waiting false is = plainly_push v.rank.stored v.rank.pending (waits.Event (event_of kind.Miss 0 0 (v.rank.clock + 1))) low
      waiting true is =
          let l = last_miss v.rank.clock (unpassed v.rank) is in
          let counted = last_counted v.rank.clock (unpassed v.rank) l runs.unstored in
          plainly_joined v.rank.clock v.rank.stored v.rank.pending is counted (clock l counted)

      go : (b : Bool) → joins v.rank.stored v.rank.pending ≡ b
          → plain_rank (after_miss v.rank m) ≡ uncounted (plain_rank v.rank) (plain_tried (plain_rank v.rank) m None)
      go b is =
          ap (λ z. record v.rank { machine = m; clock = v.rank.clock + 1; made = 0; pending = z })
          (ap (λ y. plainly v.rank.stored (if y then with_joined v.rank.pending
          else v.rank.pending ++ waits.Event (event_of kind.Miss 0 0 (v.rank.clock + 1)) ∷ [])) is
          ∙ waiting b is)

  -- what a probe that doesn't wait finds
  tried_plainly : (m : MachineValue) → ((l : LastMiss v.rank.clock (unpassed v.rank)) → IsCounted l.last → l.last.receiver_clock ≡ v.rank.clock)
      → (o : Option (ℕ × packet.PacketValue)) → plain_rank (tried v.rank m o) ≡ uncounted (plain_rank v.rank) (plain_tried (plain_rank v.rank) m o)
  tried_plainly m clock None = missed_plainly m clock
  tried_plainly m clock (Some f) = pushed (tried v.rank m (Some f)) (waits.Event (event_of kind.Hit f.1.source f.1.clock (v.rank.clock + 1))) refl

  -- each step
  pub stepped_plainly : (m : MachineValue) → ((l : LastMiss v.rank.clock (unpassed v.rank)) → IsCounted l.last → l.last.receiver_clock ≡ v.rank.clock)
      → (x : Want) → plain_rank (step_at v.rank x m) ≡ plain_step_at (plain_rank v.rank) x m
  stepped_plainly m clock want.Internal = refl
  stepped_plainly m clock (want.Send d c t) = room (has_room v.rank.pending) refl
    where
      made : (b : Bool) → is_settled v.rank.pending ≡ b → plain_rank (made_send v.rank m d c t) ≡ made_send (plain_rank v.rank) m d c t
      made b is =
          ap (λ y. plain_rank (if y then after_send v.rank m d c t else after_hold v.rank m d c t)) is ∙ sent_plainly m d c t b
          ∙ ap (λ y. (if y then after_send (plain_rank v.rank) m d c t else after_hold (plain_rank v.rank) m d c t)) (sym (same_gate ∙ is))

      room : (b : Bool) → has_room v.rank.pending ≡ b → plain_rank (step_at v.rank (want.Send d c t) m) ≡ plain_step_at (plain_rank v.rank) (want.Send d c t) m
      room b is =
          ap (λ y. plain_rank (if y then made_send v.rank m d c t else v.rank)) is ∙ inside b
          ∙ ap (λ y. (if y then made_send (plain_rank v.rank) m d c t else plain_rank v.rank)) (sym (same_room ∙ is))
        where
          inside : (b : Bool) → plain_rank (if b then made_send v.rank m d c t else v.rank)
              ≡ (if b then made_send (plain_rank v.rank) m d c t else plain_rank v.rank)
          inside true = made (is_settled v.rank.pending) refl
          inside false = refl
  stepped_plainly m clock (want.Receive s) = received_plainly m (found s v.rank.inbox.packets)
  stepped_plainly m clock (want.Probe s) = probed_plainly m (found s v.rank.inbox.packets)
  stepped_plainly m clock (want.TryProbe s) = tried_plainly m clock (found s v.rank.inbox.packets)
  stepped_plainly m clock (want.Print z) = room (has_room v.rank.pending) refl
    where
      made : (b : Bool) → is_settled v.rank.pending ≡ b → plain_rank (made_print v.rank m z) ≡ made_print (plain_rank v.rank) m z
      made b is =
          ap (λ y. plain_rank (if y then after_print v.rank m else after_wait v.rank m z)) is ∙ printed_plainly m z b
          ∙ ap (λ y. (if y then after_print (plain_rank v.rank) m else after_wait (plain_rank v.rank) m z)) (sym (same_gate ∙ is))

      room : (b : Bool) → has_room v.rank.pending ≡ b → plain_rank (step_at v.rank (want.Print z) m) ≡ plain_step_at (plain_rank v.rank) (want.Print z) m
      room b is =
          ap (λ y. plain_rank (if y then made_print v.rank m z else v.rank)) is ∙ inside b
          ∙ ap (λ y. (if y then made_print (plain_rank v.rank) m z else plain_rank v.rank)) (sym (same_room ∙ is))
        where
          inside : (b : Bool) → plain_rank (if b then made_print v.rank m z else v.rank)
              ≡ (if b then made_print (plain_rank v.rank) m z else plain_rank v.rank)
          inside true = made (is_settled v.rank.pending) refl
          inside false = refl
  stepped_plainly m clock want.Halted = refl
  stepped_plainly m clock (want.Faulted k) = refl
