-- A world of which every rank is at rest has ended: a rank that may make an act makes a step, or has the message that it waits for.
use Rattle.std.proofs.Common.{◌≡◌, ℕ, ◌<◌, ◌≤◌, ◌⊎◌, inl, inr, Bool, true, false, if◌then◌else◌, List, Option, Some, None}
use Rattle.std.proofs.Common.{length, refl, sym, ap, subst, ◌∙◌, arith, option_and_then, position}
use Rattle.std.proofs.lemmas.Bool.{cases_lt}
use Rattle.std.specs.Prelude.{is_some}
use Rattle.matching.specs.PacketValue as packet
use Rattle.matching.specs.Inbox.{accepted_from}
use Rattle.matching.specs.Matching.{matches}
use Rattle.matching.specs.declared.selector.Selector.{Selector}
use Rattle.rank_machine.specs.declared.want.Want.{Want}
use Rattle.rank_machine.specs.declared.want.Want.TheVariants as want
use Rattle.rank_machine.specs.Wants.{payload}
use Rattle.rank_machine.specs.Acts.{Act}
use Rattle.rank_machine.specs.Machine.{machine_want}
use Rattle.rank_node.specs.declared.turn.Turn.TheVariants as turn
use Rattle.rank_node.specs.Waiting.{has_room}
use Rattle.rank_node.specs.Steps.{at_index, found, turn_at}
use Rattle.crash_free.specs.Runs.{history, sent, sends_from, looked_up, MayMake}
use Rattle.audit.specs.FinalRuns.Maximal.{IsMaximal}
use Rattle.bare_world.specs.World.{Live, WorldValue, size, start_of}
use Rattle.bare_world.specs.Stands.{start_at}
use Rattle.bare_world.specs.Onward.{IsWorld}
use Rattle.bare_world.specs.ToTheEnd.{IsSettled, HasEnded}
use Rattle.bare_world.specs.Finished.{is_idle, AllRest}
use Rattle.bare_world.proofs.Runs.ActFitsWant.{fits_ended}
use Rattle.bare_world.proofs.Headline.{stands_for}
use Rattle.bare_world.proofs.Calls.OldestUnstored.{sends_none}
use Rattle.bare_world.proofs.Ending.ActFindsMessage as placed
use Rattle.bare_world.proofs.Ending.ActFindsMessage.{Placed}

-- what is found stands somewhere
found_is : (x : Selector) (ms : List packet.PacketValue) (f : ℕ × packet.PacketValue) (o : Option ℕ) → position (matches x) ms ≡ o → found x ms ≡ Some f
    → is_some o ≡ true
found_is x ms f None e q =
    (let z : ◌≡◌ {A = Option (ℕ × packet.PacketValue)} None (Some f) = sym (ap (λ y. option_and_then (at_index ms) y) e) ∙ q in absurd cc)
found_is x ms f (Some i) e q = refl

-- so a rank that waits for it isn't idle
not_blocked : (b : Bool) → b ≡ true → is_idle (if b then turn.Moved else turn.Blocked) ≡ true → ⊥
not_blocked true e q = cc
not_blocked false e q = cc

module _ (w : WorldValue) (i : IsWorld w) (all : AllRest w) where
  -- a rank has all messages that were sent to it
  has_all : (r : ℕ) (l : r < size w) (s : ℕ) → length (sent w.run s r) ≤ accepted_from (all r l).0.rank.rank.inbox s
  has_all r l s = at (cases_lt s (size w))
    where
      at : (s < size w) ⊎ (size w ≤ s) → length (sent w.run s r) ≤ accepted_from (all r l).0.rank.rank.inbox s
      at (inl m) = (all r l).1 s m (all r l).0.rank (all r l).0.live
      at (inr m) =
          let e = ap (λ z. length (sends_from 0 r z)) (sends_none (start_at w (size w)) (size w) w.run s m i.stands.run.is_run) in
          omega (arith, e)

  -- it is where it may make its next act
  stands : (r : ℕ) (l : r < size w) → Placed w.run (start_of w r) r w (all r l).0.rank
  stands r l =
      record {
        is_world = i;
        run = refl;
        start = refl;
        live = (all r l).0.live;
        none = (all r l).0.none;
        clock = (all r l).0.made;
        has = λ s. has_all r l s;
      }

  -- but it makes none
  stops : (r : ℕ) (l : r < size w) (act : Act) → MayMake (start_of w r) (λ s. sent w.run s r) (history w.run r) act → ⊥
  stops r l act may = go (machine_want v.rank.machine) refl
    where
      v : Live
      v = (all r l).0.rank

      idle : (x : Want) → machine_want v.rank.machine ≡ x → is_idle (turn_at v.rank x) ≡ true
      idle x is = subst (λ z. is_idle (turn_at v.rank z) ≡ true) is (all r l).0.idle

      moves : (y : Bool) → y ≡ true → is_idle (if y then turn.Moved else turn.Held) ≡ true → ⊥
      moves true e q = cc
      moves false e q = cc

      room : has_room v.rank.pending ≡ true
      room = ap has_room (all r l).0.none

      waits : (x : Selector) → (f : ℕ × packet.PacketValue) × (found x v.rank.inbox.packets ≡ Some f)
          → is_some (position (matches x) v.rank.inbox.packets) ≡ true
      waits x f = found_is x v.rank.inbox.packets f.0 (position (matches x) v.rank.inbox.packets) refl f.1

      go : (x : Want) → machine_want v.rank.machine ≡ x → ⊥
      go want.Internal is = (let q = idle want.Internal is in cc)
      go (want.Send d c t) is = moves (has_room v.rank.pending) room (idle (want.Send d c t) is)
      go (want.Print z) is = moves (has_room v.rank.pending) room (idle (want.Print z) is)
      go (want.Receive x) is =
          not_blocked (is_some (position (matches x) v.rank.inbox.packets))
          (waits x (placed.receive_finds w.run (start_of w r) r act w v may (stands r l) x is)) (idle (want.Receive x) is)
      go (want.Probe x) is =
          not_blocked (is_some (position (matches x) v.rank.inbox.packets))
          (waits x (placed.probe_finds w.run (start_of w r) r act w v may (stands r l) x is)) (idle (want.Probe x) is)
      go (want.TryProbe x) is = (let q = idle (want.TryProbe x) is in cc)
      go want.Halted is =
          fits_ended want.Halted (payload may.stands) act (looked_up (λ q. sent w.run q r) act) (inl refl)
          (placed.fits w.run (start_of w r) r act w v may (stands r l) want.Halted is (λ e. cc))
      go (want.Faulted k) is =
          fits_ended (want.Faulted k) (payload may.stands) act (looked_up (λ q. sent w.run q r) act) (inr (k, refl))
          (placed.fits w.run (start_of w r) r act w v may (stands r l) (want.Faulted k) is (λ e. cc))

  maximal : IsMaximal (start_of w) (size w) w.run
  maximal r act may = stops r may.0 act may.1

  settled : IsSettled w
  settled r l = ((all r l).0.rank, (all r l).0.live, (all r l).0.left, (all r l).0.none, (all r l).0.made)

  -- so the world has ended
  pub all_rest : HasEnded w
  all_rest = record { stands = stands_for w i.stands; maximal = maximal; settled = settled }
