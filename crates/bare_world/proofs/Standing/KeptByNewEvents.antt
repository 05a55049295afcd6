-- A rank that runs, changed where nothing passes, keeps what a world stands for: so does each new reception, hit or miss. In
-- a world without runs of misses each is an event of its own, and how many events a rank has made isn't told.
use Rattle.std.proofs.Common.{◌≡◌, ℕ, ◌+◌, ◌<◌, ◌⊎◌, inl, inr, ⊎_elim, false, []}
use Rattle.std.proofs.Common.{Option, Some, None, length, take, refl, sym, subst, ◌∙◌, slice_get}
use Rattle.std.proofs.Common.{option_and_then, position}
use Rattle.event_logger.specs.Sequential.Event.{event_of}
use Rattle.event_logger.specs.declared.sequential.kind.Kind.TheVariants as kind
use Rattle.matching.specs.declared.selector.Selector.{Selector}
use Rattle.matching.specs.PacketValue as packet
use Rattle.matching.specs.Matching.{matches}
use Rattle.matching.specs.Inbox.{without}
use Rattle.rank_machine.specs.Wants.{wants, payload}
use Rattle.rank_machine.specs.Acts.{takes, hits, misses, carried, Fits, Makes}
use Rattle.rank_machine.specs.Machine.{MachineValue, state_of, machine_want}
use Rattle.rank_machine.specs.declared.want.Want.{Want}
use Rattle.rank_machine.specs.declared.want.Want.TheVariants as want
use Rattle.rank_node.specs.Steps.{Missed, Took, WasShown, TakesFound, IsShownFound}
use Rattle.rank_node.specs.Steps.{TriesFound, received, probed, found, step_at, at_index}
use Rattle.rank_node.specs.Steps.{after_reception, after_probe}
use Rattle.crash_free.specs.Runs.{History, history, sent, IsFree, continue}
use Rattle.crash_free.proofs.Going.{free_silent}
use Rattle.bare_world.specs.World.{Rank, Live, WorldValue, IsLive}
use Rattle.bare_world.specs.Misses.{MissesNoneShown}
use Rattle.bare_world.specs.Stands.{InboxStands, RankStands, start_at, StandsAt}
use Rattle.bare_world.proofs.Standing.Inboxes.{Found, found_at, found_is_eligible, InboxStands-taken, InboxStands-noted, shows_accepted}
use Rattle.bare_world.proofs.Standing.FairMisses.{event_is_fair, miss_is_fair, found_none, found_some}
use Rattle.bare_world.proofs.Lists.Beginnings.{take_whole}
use Rattle.bare_world.proofs.Runs.ActFitsWant.{wanted}
use Rattle.bare_world.proofs.Standing.StepsAtWork.{IsEventWant, caught_up, RankStands-event}
use Rattle.bare_world.proofs.Standing.Worlds.{changed, Stands-rank}

-- the second rank, which has made as many events as the first
abbrev pub uncounted : Rank → Rank → Rank
uncounted v u = record u { made = v.made }

-- a probe that doesn't wait hits what was found, and misses where nothing was: each miss is an event
abbrev pub plain_tried : Rank → MachineValue → Option (ℕ × packet.PacketValue) → Rank
plain_tried v m None = after_probe v m kind.Miss 0 0
plain_tried v m (Some f) = after_probe v m kind.Hit f.1.source f.1.clock

-- a step without runs of misses
abbrev pub plain_step_at : Rank → Want → MachineValue → Rank
plain_step_at v want.Internal m = step_at v want.Internal m
plain_step_at v (want.Send d c t) m = step_at v (want.Send d c t) m
plain_step_at v (want.Receive selector) m = uncounted v (step_at v (want.Receive selector) m)
plain_step_at v (want.Probe selector) m = uncounted v (step_at v (want.Probe selector) m)
plain_step_at v (want.TryProbe selector) m = uncounted v (plain_tried v m (found selector v.inbox.packets))
plain_step_at v (want.Print x) m = step_at v (want.Print x) m
plain_step_at v want.Halted m = step_at v want.Halted m
plain_step_at v (want.Faulted k) m = step_at v (want.Faulted k) m

module _ (n : ℕ) (w : WorldValue) (r : ℕ) (v : Live) (m : MachineValue) (s : StandsAt n w) (live : IsLive w r v) (lt : r < n) (running : v.left ≡ []) where
  k : RankStands (start_at w n) n w.run r v
  k = s.ranks r v live

  one : (u : Live) → RankStands (start_at w n) n w.run r u → (x : Live) → ◌≡◌ {A = Option Live} (Some u) (Some x) → RankStands (start_at w n) n w.run r x
  one u h x e = (let q : u ≡ x = cc in subst (λ z. RankStands (start_at w n) n w.run r z) q h)

  -- the rank changes, and nothing passes
  pub alone : (x : Rank) → RankStands (start_at w n) n w.run r (record { rank = x; left = [] })
      → StandsAt n (changed w r (Some (record { rank = x; left = [] })) w.images w.logger w.lines w.run)
  alone x h = Stands-rank n w r (Some (record { rank = x; left = [] })) w.logger s refl (one (record { rank = x; left = [] }) h)

  pub stays : RankStands (start_at w n) n w.run r (record { rank = v.rank; left = [] })
  stays = subst (λ z. RankStands (start_at w n) n w.run r (record { rank = v.rank; left = z })) running (s.ranks r v live)

  pub Stands-still : StandsAt n (changed w r (Some (record { rank = v.rank; left = [] })) w.images w.logger w.lines w.run)
  Stands-still = alone v.rank stays

  -- a new reception, hit or miss
  eventful : (x : Want) → machine_want v.rank.machine ≡ x → IsEventWant x → v.rank.clock ≡ length (history (continue w.run r (s.ranks r v live).acts) r)
  eventful x e i = caught_up (start_at w n) n w.run r v x s.is_run (s.ranks r v live) running e i

  h : History
  h = history (continue w.run r (s.ranks r v live).acts) r

  inbox_now : (x : Want) → machine_want v.rank.machine ≡ x → IsEventWant x
      → InboxStands v.rank.inbox (λ q. sent w.run q r) (history (continue w.run r (s.ranks r v live).acts) r)
  inbox_now x e i =
      subst (λ z. InboxStands v.rank.inbox (λ q. sent w.run q r) z)
      (subst (λ z. take z (history (continue w.run r (s.ranks r v live).acts) r) ≡ history (continue w.run r (s.ranks r v live).acts) r)
      (sym (eventful x e i)) (take_whole (history (continue w.run r (s.ranks r v live).acts) r)))
      (s.ranks r v live).at.inbox

  receiving : (selector : Selector) → machine_want v.rank.machine ≡ want.Receive selector → (i : ℕ) (p : packet.PacketValue)
      → position (matches selector) v.rank.inbox.packets ≡ Some i → slice_get v.rank.inbox.packets i ≡ Some p
      → Took p v.rank.machine m
      → StandsAt n (changed w r (Some (record { rank = uncounted v.rank (after_reception v.rank m i p); left = [] })) w.images w.logger w.lines w.run)
  receiving selector e i p first there took =
      alone (uncounted v.rank (after_reception v.rank m i p))
      (RankStands-event (start_at w n) n w.run r v (s.ranks r v live) (takes p.source p.number) (Some (carried p)) m running
      (eventful (want.Receive selector) e tt)
      (subst (λ z. Fits z (payload (state_of v.rank.machine)) (takes p.source p.number) (Some (carried p))) (sym wants_it) here.matching)
      ((s.ranks r v live).at.inbox.real i p there)
      (subst (λ z. IsFree z (takes p.source p.number) (λ q. sent w.run q r) (history (continue w.run r (s.ranks r v live).acts) r)) (sym wants_it)
      (found_is_eligible selector v.rank.inbox (λ q. sent w.run q r) (history (continue w.run r (s.ranks r v live).acts) r) i p
      (inbox_now (want.Receive selector) e tt) here))
      (event_of kind.Reception p.source p.clock (v.rank.clock + 1)) (without v.rank.inbox i) refl
      (event_is_fair (start_at w n) (continue w.run r (s.ranks r v live).acts) r (takes p.source p.number) (λ z. cc))
      (took.state p.number)
      (s.ranks r v live).at.counted
      (InboxStands-taken v.rank.inbox (λ q. sent w.run q r) (take v.rank.clock (history (continue w.run r (s.ranks r v live).acts) r)) i p
      (Some (carried p)) there (s.ranks r v live).at.inbox))
    where
      here : Found selector v.rank.inbox.packets i p
      here = found_at selector v.rank.inbox.packets i p first there

      wants_it : wants (state_of v.rank.machine) ≡ want.Receive selector
      wants_it = wanted v.rank.machine (want.Receive selector) e (λ z. cc)

  -- a hit, of a probe of either kind
  hitting : (x : Want) (selector : Selector) → machine_want v.rank.machine ≡ x → (x ≡ want.Probe selector) ⊎ (x ≡ want.TryProbe selector)
      → (i : ℕ) (p : packet.PacketValue)
      → position (matches selector) v.rank.inbox.packets ≡ Some i → slice_get v.rank.inbox.packets i ≡ Some p
      → WasShown p v.rank.machine m
      → StandsAt n
      (changed w r (Some (record { rank = uncounted v.rank (after_probe v.rank m kind.Hit p.source p.clock); left = [] })) w.images w.logger w.lines w.run)
  hitting x selector e which i p first there did =
      alone (uncounted v.rank (after_probe v.rank m kind.Hit p.source p.clock))
      (RankStands-event (start_at w n) n w.run r v (s.ranks r v live) (hits p.source p.number) (Some (carried p)) m running
      (eventful x e (⊎_elim (λ q. subst (λ z. IsEventWant z) (sym q) tt) (λ q. subst (λ z. IsEventWant z) (sym q) tt) which))
      (⊎_elim (λ q. subst (λ z. Fits z (payload (state_of v.rank.machine)) (hits p.source p.number) (Some (carried p)))
      (sym (wanted v.rank.machine (want.Probe selector) (e ∙ q) (λ z. cc))) here.matching)
      (λ q. subst (λ z. Fits z (payload (state_of v.rank.machine)) (hits p.source p.number) (Some (carried p)))
      (sym (wanted v.rank.machine (want.TryProbe selector) (e ∙ q) (λ z. cc))) here.matching) which)
      ((s.ranks r v live).at.inbox.real i p there)
      (⊎_elim (λ q. subst (λ z. IsFree z (hits p.source p.number) (λ y. sent w.run y r) (history (continue w.run r (s.ranks r v live).acts) r))
      (sym (wanted v.rank.machine (want.Probe selector) (e ∙ q) (λ z. cc)))
      (found_is_eligible selector v.rank.inbox (λ y. sent w.run y r) (history (continue w.run r (s.ranks r v live).acts) r) i p
      (inbox_now (want.Probe selector) (e ∙ q) tt) here))
      (λ q. subst (λ z. IsFree z (hits p.source p.number) (λ y. sent w.run y r) (history (continue w.run r (s.ranks r v live).acts) r))
      (sym (wanted v.rank.machine (want.TryProbe selector) (e ∙ q) (λ z. cc)))
      (found_is_eligible selector v.rank.inbox (λ y. sent w.run y r) (history (continue w.run r (s.ranks r v live).acts) r) i p
      (inbox_now (want.TryProbe selector) (e ∙ q) tt) here)) which)
      (event_of kind.Hit p.source p.clock (v.rank.clock + 1)) v.rank.inbox refl
      (event_is_fair (start_at w n) (continue w.run r (s.ranks r v live).acts) r (hits p.source p.number) (λ z. cc))
      (did.state p.number)
      (s.ranks r v live).at.counted
      (InboxStands-noted v.rank.inbox (λ q. sent w.run q r) (take v.rank.clock (history (continue w.run r (s.ranks r v live).acts) r))
      (hits p.source p.number, Some (carried p)) (λ q j. refl)
      (λ q j shows. shows_accepted v.rank.inbox (λ y. sent w.run y r) (take v.rank.clock (history (continue w.run r (s.ranks r v live).acts) r)) i p
      there (s.ranks r v live).at.inbox q j shows)
      (s.ranks r v live).at.inbox))
    where
      here : Found selector v.rank.inbox.packets i p
      here = found_at selector v.rank.inbox.packets i p first there

  -- nothing in the inbox matches, so nothing that the rank was shown does
  missing : (selector : Selector) → machine_want v.rank.machine ≡ want.TryProbe selector
      → ((i : ℕ) (p : packet.PacketValue) → slice_get v.rank.inbox.packets i ≡ Some p → matches selector p ≡ false) → Missed v.rank.machine m
      → StandsAt n (changed w r (Some (record { rank = uncounted v.rank (after_probe v.rank m kind.Miss 0 0); left = [] })) w.images w.logger w.lines w.run)
  missing selector e nothing did =
      alone (uncounted v.rank (after_probe v.rank m kind.Miss 0 0))
      (RankStands-event (start_at w n) n w.run r v (s.ranks r v live) misses None m running (eventful (want.TryProbe selector) e tt)
      makes refl
      (free_silent (wants (state_of v.rank.machine)) misses (λ q. sent w.run q r) (history (continue w.run r (s.ranks r v live).acts) r) tt)
      (event_of kind.Miss 0 0 (v.rank.clock + 1)) v.rank.inbox refl
      fair
      did.state
      (s.ranks r v live).at.counted
      (InboxStands-noted v.rank.inbox (λ q. sent w.run q r) (take v.rank.clock (history (continue w.run r (s.ranks r v live).acts) r)) (misses, None)
      (λ q j. refl) (λ q j shows. absurd shows) (s.ranks r v live).at.inbox))
    where
      makes : Makes (state_of v.rank.machine) misses None
      makes = subst (λ z. Fits z (payload (state_of v.rank.machine)) misses None) (sym (wanted v.rank.machine (want.TryProbe selector) e (λ z. cc))) tt

      fair : MissesNoneShown (start_at w n) (continue w.run r (s.ranks r v live).acts) r misses
      fair =
          miss_is_fair (start_at w n) n w.run r v.rank (s.ranks r v live).acts (s.ranks r v live).at (eventful (want.TryProbe selector) e tt) selector e
          nothing

  -- what is found, if anything is
  pub finding : (selector : Selector) → machine_want v.rank.machine ≡ want.Receive selector → (o : Option ℕ)
      → position (matches selector) v.rank.inbox.packets ≡ o
      → TakesFound (option_and_then (at_index v.rank.inbox.packets) o) v.rank.machine m
      → StandsAt n (changed w r (Some (record { rank = uncounted v.rank (received v.rank m (option_and_then (at_index v.rank.inbox.packets) o)); left = [] }))
      w.images w.logger w.lines w.run)
  finding selector e None there steps = Stands-still
  finding selector e (Some i) there steps = go (slice_get v.rank.inbox.packets i) refl steps
    where
      go : (o : Option packet.PacketValue) → slice_get v.rank.inbox.packets i ≡ o
          → TakesFound (option_and_then {U = ℕ × packet.PacketValue} (λ p. Some (i, p)) o) v.rank.machine m
          → StandsAt n (changed w r
          (Some (record { rank = uncounted v.rank (received v.rank m (option_and_then {U = ℕ × packet.PacketValue} (λ p. Some (i, p)) o)); left = [] }))
          w.images w.logger w.lines w.run)
      go None f t = Stands-still
      go (Some p) f t = receiving selector e i p there f t

  pub probing : (selector : Selector) → machine_want v.rank.machine ≡ want.Probe selector → (o : Option ℕ)
      → position (matches selector) v.rank.inbox.packets ≡ o
      → IsShownFound (option_and_then (at_index v.rank.inbox.packets) o) v.rank.machine m
      → StandsAt n (changed w r (Some (record { rank = uncounted v.rank (probed v.rank m (option_and_then (at_index v.rank.inbox.packets) o)); left = [] }))
      w.images w.logger w.lines w.run)
  probing selector e None there steps = Stands-still
  probing selector e (Some i) there steps = go (slice_get v.rank.inbox.packets i) refl steps
    where
      go : (o : Option packet.PacketValue) → slice_get v.rank.inbox.packets i ≡ o
          → IsShownFound (option_and_then {U = ℕ × packet.PacketValue} (λ p. Some (i, p)) o) v.rank.machine m
          → StandsAt n (changed w r
          (Some (record { rank = uncounted v.rank (probed v.rank m (option_and_then {U = ℕ × packet.PacketValue} (λ p. Some (i, p)) o)); left = [] }))
          w.images w.logger w.lines w.run)
      go None f t = Stands-still
      go (Some p) f t = hitting (want.Probe selector) selector e (inl refl) i p there f t

  pub trying : (selector : Selector) → machine_want v.rank.machine ≡ want.TryProbe selector → (o : Option ℕ)
      → position (matches selector) v.rank.inbox.packets ≡ o
      → TriesFound (option_and_then (at_index v.rank.inbox.packets) o) v.rank.machine m
      → StandsAt n
      (changed w r (Some (record { rank = uncounted v.rank (plain_tried v.rank m (option_and_then (at_index v.rank.inbox.packets) o)); left = [] }))
      w.images w.logger w.lines w.run)
  trying selector e None there steps = missing selector e (λ i p at. found_none (matches selector) v.rank.inbox.packets there i p at) steps
  trying selector e (Some i) there steps = go (slice_get v.rank.inbox.packets i) refl steps
    where
      go : (o : Option packet.PacketValue) → slice_get v.rank.inbox.packets i ≡ o
          → TriesFound (option_and_then {U = ℕ × packet.PacketValue} (λ p. Some (i, p)) o) v.rank.machine m
          → StandsAt n (changed w r
          (Some (record { rank = uncounted v.rank (plain_tried v.rank m (option_and_then {U = ℕ × packet.PacketValue} (λ p. Some (i, p)) o)); left = [] }))
          w.images w.logger w.lines w.run)
      go None f t = absurd (found_some (matches selector) v.rank.inbox.packets i there f)
      go (Some p) f t = hitting (want.TryProbe selector) selector e (inr refl) i p there f t
