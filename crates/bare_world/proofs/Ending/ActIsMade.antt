-- A rank that may make an act next, and has all messages that were sent to it, steps until it makes one: a send or a print passes at once, as
-- nothing waits, and an event is stored then.
use Rattle.std.proofs.Common.{◌≡◌, ◌≢◌, ℕ, zero, suc, ◌+◌, ◌-◌, ◌<◌, ◌≤◌, ◌⊎◌, inl, inr}
use Rattle.std.proofs.Common.{Bool, true, false, if◌then◌else◌, List, [], ◌∷◌, ◌++◌, length, Option, Some, None}
use Rattle.std.proofs.Common.{refl, sym, ap, subst, ◌∙◌, arith, position}
use Rattle.std.proofs.lemmas.Bool.{lt-ltb, ne_eqb}
use Rattle.std.specs.Prelude.{is_some, nat_lt}
use Rattle.limits.specs.Limits.{greatest_clock, most_events}
use Rattle.matching.specs.PacketValue as packet
use Rattle.matching.specs.Inbox.{accepted_from}
use Rattle.matching.specs.Matching.{matches}
use Rattle.matching.specs.declared.selector.Selector.{Selector}
use Rattle.rank_machine.specs.declared.want.Want.{Want}
use Rattle.rank_machine.specs.declared.want.Want.TheVariants as want
use Rattle.rank_machine.specs.States as states
use Rattle.rank_machine.specs.States.{State}
use Rattle.rank_machine.specs.Wants.{payload}
use Rattle.rank_machine.specs.Acts.{Act, sends, prints}
use Rattle.rank_machine.specs.Machine.{MachineValue, state_of, machine_want}
use Rattle.rank_node.specs.declared.fault.NodeFault.TheVariants as fault
use Rattle.rank_node.specs.declared.turn.Turn.TheVariants as turn
use Rattle.rank_node.specs.declared.waiting.Waiting.{Waiting}
use Rattle.rank_node.specs.Waiting.{has_room, is_settled, with_miss, joins}
use Rattle.rank_node.specs.Steps.{found, turn_of, turn_at, refusal_of, refusal_at, clock_refusal, event_refusal}
use Rattle.rank_node.specs.Steps.{try_refusal, after_step, step_at, received, probed, tried, MachineStepAt}
use Rattle.crash_free.specs.Runs.{Passed, history, sent, looked_up, MayMake}
use Rattle.bare_world.specs.declared.event.WorldEvent.TheVariants.{Step}
use Rattle.bare_world.specs.World.{Live, WorldValue, size, start_of, IsLive}
use Rattle.bare_world.specs.Follows.{stepped, after_turn, where_moved, effect_at, passed_at}
use Rattle.bare_world.specs.Onward.{IsWorld}
use Rattle.bare_world.specs.Stocked.{IsStocked}
use Rattle.bare_world.specs.Measures.{Nears}
use Rattle.bare_world.proofs.Runs.ActFitsWant.{fits_ended}
use Rattle.bare_world.proofs.Standing.PassesOnce.{passed_first}
use Rattle.bare_world.proofs.Plain.Worlds.{stored_low}
use Rattle.bare_world.proofs.Lists.Places.{set_get_same}
use Rattle.bare_world.proofs.Again.StepBringsNearer.{nearer}
use Rattle.bare_world.proofs.Way.EventIsPossible.{step_goes, live_lines, live_staged}
use Rattle.bare_world.proofs.Ending.LeadsOn.{Led, led_one}
use Rattle.bare_world.proofs.Ending.ActFindsMessage as placed
use Rattle.bare_world.proofs.Ending.ActFindsMessage.{Placed}
use Rattle.bare_world.proofs.Ending.GatesOpen.{Goes, longer, goes_first, gate_moves}

-- ---- a step that makes an event

-- a rank where something waits that isn't stored goes on
event_goes : (w : WorldValue) (r : ℕ) (u : Live) → IsWorld w → IsStocked w → IsLive w r u → u.left ≡ []
    → u.rank.pending ≢ [] → u.rank.stored ≡ 0 → Goes w
event_goes w r u i k live left some none = go (gate_moves w r u i k live left some)
  where
    go : Goes w ⊎ (u.rank.stored ≢ 0) → Goes w
    go (inl g) = g
    go (inr ne) = absurd (ne none)

-- something stands behind the others
last_some : (xs : List Waiting) (y : Waiting) → xs ++ y ∷ [] ≢ []
last_some [] y e = cc
last_some (x ∷ xs) y e = cc

-- a miss that nothing waits before waits
miss_some : (stored : ℕ) (xs : List Waiting) (clock : ℕ) → stored ≡ 0 → xs ≡ [] → with_miss stored xs clock ≢ []
miss_some stored xs clock e q z =
    (let y = sym (ap (λ k. with_miss k xs clock) e ∙ ap (λ k. with_miss 0 k clock) q) ∙ z in last_some [] _ y)

-- ---- one step

-- A rank stands so that it may make this act next: nothing waits, it has made its acts of the run and has all messages that were sent to it.
pub record Poised (C : List Passed) (a : State) (r : ℕ) (act : Act) (n : ℕ) (w : WorldValue) (v : Live) : Type 0 where
  pub is_world : IsWorld w
  pub stocked : IsStocked w
  pub run : w.run ≡ C
  pub start : start_of w r ≡ a
  pub live : IsLive w r v
  pub left : v.left ≡ []
  pub none : v.rank.pending ≡ []
  pub clock : v.rank.clock ≡ length (history C r)
  pub early : v.rank.clock < greatest_clock
  pub few : v.rank.made < most_events
  pub has : (s : ℕ) → length (sent C s r) ≤ accepted_from v.rank.inbox s
  pub nears : Nears n v.rank.machine

module _ (C : List Passed) (a : State) (r : ℕ) (act : Act) (n : ℕ) (w : WorldValue) (v : Live) (may : MayMake a (λ s. sent C s r) (history C r) act)
    (p : Poised C a r act n w v) where
  -- it is placed so
  at : Placed C a r w v
  at =
      record {
        is_world = p.is_world;
        run = p.run;
        start = p.start;
        live = p.live;
        none = p.none;
        clock = p.clock;
        has = p.has;
      }

  -- nothing is stored
  none_stored : v.rank.stored ≡ 0
  none_stored =
      let l = stored_low w r p.is_world.stands v p.live in
      let e = ap length p.none in
      omega (arith, l, e)

  -- ---- the world after its step
  m : (n : MachineValue) × MachineStepAt v.rank (machine_want v.rank.machine) n
  m = step_goes v.rank (machine_want v.rank.machine) (live_lines w r v p.stocked p.live) (live_staged w r v p.is_world.stands p.live) refl

  -- the world, the rank, and that the one leads to the other
  abbrev next : WorldValue
  next = after_turn w r v (turn_of v.rank) (after_step v.rank m.0) []

  abbrev new : Live
  new = record { rank = after_step v.rank m.0; left = [] }

  led : refusal_of v.rank ≡ None → Led w next
  led allowed =
      led_one w (Step r) (stepped (turn_of v.rank)) next p.is_world p.stocked tt
      (inl (record {
        before = v;
        live = p.live;
        running = p.left;
        allowed = allowed;
        machine = m.0;
        steps = m.1;
        answered = refl;
        after = refl;
      }))

  new_live : IsLive next r new
  new_live = set_get_same w.ranks r (Some v) (Some new) p.live

  -- an act that passes at once makes the run longer
  passes : (f : refusal_of v.rank ≡ None) (b : Act) → effect_at v.rank (machine_want v.rank.machine) (turn_of v.rank) ≡ Some b → Goes w
  passes f b e =
      let same = ap length p.run in
      let c = p.clock in
      let d = ap (λ D. length (history D r)) p.run in
      let run : next.run ≡ record { rank = r; act = b } ∷ w.run =
      ap (λ z. passed_at w.run r (v.rank.clock + 1) z) e ∙ passed_first w.run r v.rank.clock b (omega (arith, c, d)) in
      let q = ap length run in
      (next, led f, longer w.run next.run (led f).later (omega (arith, q)))

  -- an event waits, and is stored
  waits : (f : refusal_of v.rank ≡ None) → new.rank.pending ≢ [] → new.rank.stored ≡ v.rank.stored → Goes w
  waits f some same =
      goes_first w next (led f)
      (event_goes next r new (led f).is_world (led f).stocked new_live refl some (same ∙ none_stored))

  -- ---- the step

  -- what was found is taken, and an event waits
  took : (o : Option (ℕ × packet.PacketValue)) (y : MachineValue) → o ≢ None → ((received v.rank y o).pending ≢ []) × ((received v.rank y o).stored ≡ v.rank.stored)
  took None y some = absurd (some refl)
  took (Some f) y some = (last_some v.rank.pending _, refl)

  -- what was found is shown, and an event waits
  showed : (o : Option (ℕ × packet.PacketValue)) (y : MachineValue) → o ≢ None → ((probed v.rank y o).pending ≢ []) × ((probed v.rank y o).stored ≡ v.rank.stored)
  showed None y some = absurd (some refl)
  showed (Some f) y some = (last_some v.rank.pending _, refl)

  -- a hit or a miss: an event waits either way
  looked : (o : Option (ℕ × packet.PacketValue)) (y : MachineValue) → ((tried v.rank y o).pending ≢ []) × ((tried v.rank y o).stored ≡ v.rank.stored)
  looked None y = (miss_some v.rank.stored v.rank.pending (v.rank.clock + 1) none_stored p.none, refl)
  looked (Some f) y = (last_some v.rank.pending _, refl)

  -- what was found is there
  some_found : (x : Selector) → (f : ℕ × packet.PacketValue) × (found x v.rank.inbox.packets ≡ Some f) → found x v.rank.inbox.packets ≢ None
  some_found x f none = (let y : Some f.0 ≡ None = sym f.1 ∙ none in cc)

  -- the rank after its step, by what it wanted
  new_is : (x : Want) → machine_want v.rank.machine ≡ x → new.rank ≡ step_at v.rank x m.0
  new_is x is = ap (λ z. step_at v.rank z m.0) is

  -- what passes, by what it wanted
  effect_is : (x : Want) → machine_want v.rank.machine ≡ x
      → effect_at v.rank (machine_want v.rank.machine) (turn_of v.rank) ≡ effect_at v.rank x (turn_at v.rank x)
  effect_is x is = ap (λ z. effect_at v.rank z (turn_at v.rank z)) is

  -- a step of its own leaves it poised, and brings the act nearer
  poised_on : (allowed : refusal_of v.rank ≡ None) → machine_want v.rank.machine ≡ want.Internal → Poised C a r act (n - 1) next new
  poised_on allowed is =
      let f = led allowed in
      let e = new_is want.Internal is in
      record {
        is_world = f.is_world;
        stocked = f.stocked;
        run = ap (λ z. passed_at w.run r (v.rank.clock + 1) z) (effect_is want.Internal is) ∙ p.run;
        start = ap (λ z. states.opening z r (size next)) f.program ∙ ap (λ z. states.opening w.program r z) f.same_size ∙ p.start;
        live = new_live;
        left = refl;
        none = ap (λ z. z.pending) e ∙ p.none;
        clock = ap (λ z. z.clock) e ∙ p.clock;
        early = (let l = p.early in let q = ap (λ z. z.clock) e in omega (arith, l, q));
        few = (let l = p.few in let q = ap (λ z. z.made) e in omega (arith, l, q));
        has = λ q. (let h = p.has q in let k = ap (λ z. accepted_from z.inbox q) e in omega (arith, h, k));
        nears = subst (λ z. Nears (n - 1) z.machine) (sym e)
            (nearer n v.rank.machine m.0 is (subst (λ z. MachineStepAt v.rank z m.0) is m.1) p.nears);
      }

  -- one step: it goes on, or is poised still
  stepped_once : (allowed : refusal_of v.rank ≡ None) (x : Want) → machine_want v.rank.machine ≡ x
      → Goes w ⊎ ((w' : WorldValue) × (v' : Live) × Led w w' × Poised C a r act (n - 1) w' v')
  stepped_once allowed want.Internal is = inr (next, new, led allowed, poised_on allowed is)
  stepped_once allowed (want.Send d c t) is =
      inl
      (passes allowed (sends d c t (payload (state_of v.rank.machine)))
      (effect_is (want.Send d c t) is
      ∙ ap (λ z. where_moved (if has_room z then turn.Moved else turn.Held)
      (if is_settled z then Some (sends d c t (payload (state_of v.rank.machine))) else None)) p.none))
  stepped_once allowed (want.Print z) is =
      inl
      (passes allowed (prints z)
      (effect_is (want.Print z) is
      ∙ ap (λ y. where_moved (if has_room y then turn.Moved else turn.Held) (if is_settled y then Some (prints z) else None)) p.none))
  stepped_once allowed (want.Receive x) is =
      let e = new_is (want.Receive x) is in
      let t = took (found x v.rank.inbox.packets) m.0 (some_found x (placed.receive_finds C a r act w v may at x is)) in
      inl (waits allowed (subst (λ z. z.pending ≢ []) (sym e) t.0) (ap (λ z. z.stored) e ∙ t.1))
  stepped_once allowed (want.Probe x) is =
      let e = new_is (want.Probe x) is in
      let t = showed (found x v.rank.inbox.packets) m.0 (some_found x (placed.probe_finds C a r act w v may at x is)) in
      inl (waits allowed (subst (λ z. z.pending ≢ []) (sym e) t.0) (ap (λ z. z.stored) e ∙ t.1))
  stepped_once allowed (want.TryProbe x) is =
      let e = new_is (want.TryProbe x) is in
      let t = looked (found x v.rank.inbox.packets) m.0 in
      inl (waits allowed (subst (λ z. z.pending ≢ []) (sym e) t.0) (ap (λ z. z.stored) e ∙ t.1))
  stepped_once allowed want.Halted is =
      absurd (fits_ended want.Halted (payload may.stands) act (looked_up (λ q. sent C q r) act) (inl refl) (placed.fits C a r act w v may at want.Halted is (λ e. cc)))
  stepped_once allowed (want.Faulted k) is =
      absurd
      (fits_ended (want.Faulted k) (payload may.stands) act (looked_up (λ q. sent C q r) act) (inr (k, refl)) (placed.fits C a r act w v may at (want.Faulted k) is (λ e. cc)))

  -- ---- which isn't refused

  -- a clock that is early isn't spent
  no_clock : clock_refusal v.rank ≡ None
  no_clock =
      ap (λ b. if b then Some fault.ClockSpent else None)
      (ne_eqb v.rank.clock greatest_clock (λ e. (let l = p.early in omega (arith, e, l))))

  -- nor are the events
  no_event : event_refusal v.rank ≡ None
  no_event =
      ap (λ b. if b then Some fault.ClockSpent else (if nat_lt v.rank.made most_events then None else Some fault.Log))
      (ne_eqb v.rank.clock greatest_clock (λ e. (let l = p.early in omega (arith, e, l))))
      ∙ ap (λ b. if b then None else Some fault.Log) (lt-ltb v.rank.made most_events p.few)

  where_clock : (b : Bool) → (if b then clock_refusal v.rank else None) ≡ None
  where_clock true = no_clock
  where_clock false = refl

  where_event : (b : Bool) → (if b then event_refusal v.rank else None) ≡ None
  where_event true = no_event
  where_event false = refl

  -- a miss that joins one, and any other look
  where_tried : (b : Bool) (o : Option ℕ) → joins v.rank.stored v.rank.pending ≡ b → try_refusal v.rank o ≡ None
  where_tried b (Some i) e = no_event
  where_tried true None e = ap (λ z. if z then clock_refusal v.rank else event_refusal v.rank) e ∙ no_clock
  where_tried false None e = ap (λ z. if z then clock_refusal v.rank else event_refusal v.rank) e ∙ no_event

  -- whatever it wants
  allowed_at : (x : Want) → refusal_at v.rank x ≡ None
  allowed_at want.Internal = refl
  allowed_at (want.Send d c t) = where_clock (has_room v.rank.pending)
  allowed_at (want.Receive x) = where_event (is_some (position (matches x) v.rank.inbox.packets))
  allowed_at (want.Probe x) = where_event (is_some (position (matches x) v.rank.inbox.packets))
  allowed_at (want.TryProbe x) = where_tried (joins v.rank.stored v.rank.pending) (position (matches x) v.rank.inbox.packets) refl
  allowed_at (want.Print z) = where_clock (has_room v.rank.pending)
  allowed_at want.Halted = refl
  allowed_at (want.Faulted k) = refl

  -- one step
  pub poised_step : Goes w ⊎ ((w' : WorldValue) × (v' : Live) × Led w w' × Poised C a r act (n - 1) w' v')
  poised_step = stepped_once (allowed_at (machine_want v.rank.machine)) (machine_want v.rank.machine) refl

-- ---- until the act

-- so until it goes on
pub act_goes : (n : ℕ) (C : List Passed) (a : State) (r : ℕ) (act : Act) (w : WorldValue) (v : Live) → MayMake a (λ s. sent C s r) (history C r) act
    → Poised C a r act n w v → Goes w
act_goes zero C a r act w v may p = (let few = p.nears.few in absurd (omega (arith, few)))
act_goes (suc n) C a r act w v may p = go (poised_step C a r act (suc n) w v may p)
    (λ w' v' q. act_goes n C a r act w' v' may q)
  where
    go : Goes w ⊎ ((w' : WorldValue) × (v' : Live) × Led w w' × Poised C a r act (suc n - 1) w' v')
        → ((w' : WorldValue) (v' : Live) → Poised C a r act n w' v' → Goes w') → Goes w
    go (inl g) again = g
    go (inr x) again = goes_first w x.0 x.2 (again x.0 x.1 (subst (λ k. Poised C a r act k x.0 x.1) (let e : suc n - 1 ≡ n = omega arith in e) x.3))
