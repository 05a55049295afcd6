-- What waits at the gate of a rank leaves it: a stored event is acknowledged, an event that isn't stored is stored, an effect is released. The
-- last two make the run longer.
use Rattle.std.proofs.Common.{◌≡◌, ◌≢◌, ℕ, ℤ, zero, suc, ◌+◌, ◌<◌, ◌⊎◌, inl, inr, ⊎_elim, Bool, true, false, List, [], ◌∷◌, ◌++◌, length, Option}
use Rattle.std.proofs.Common.{Some, None, refl, sym, ap, subst, ◌∙◌, arith, slice_get, slice_set, drop, option_map, option_and_then, IsSomeAnd}
use Rattle.std.proofs.lemmas.Bool.{eq-eqb}
use Rattle.std.proofs.lemmas.List.{length-append, append-nil}
use Rattle.std.proofs.lemmas.Option.{slice_get-get_or, slice_get_within}
use Rattle.matching.specs.declared.packet.Context.{Context}
use Rattle.matching.specs.PacketValue as packet
use Rattle.payload_log.specs.Backlog.{backlog, new_backlog}
use Rattle.event_logger.specs.Sequential.Event.{EventValue, finds_none}
use Rattle.event_logger.specs.Sequential.Misses.{parts_of}
use Rattle.event_logger.specs.Sequential.History.{state_after, next_call}
use Rattle.event_logger.specs.declared.sequential.call.Call.TheVariants.{Append}
use Rattle.event_logger.specs.declared.sequential.call.Reply.TheVariants.{Length}
use Rattle.rank_machine.specs.declared.want.Want.{Want}
use Rattle.rank_machine.specs.declared.want.Want.TheVariants as want
use Rattle.rank_machine.specs.Wants.{wants, payload}
use Rattle.rank_machine.specs.Acts.{Act, Message, Fits, sends, takes, hits, misses, prints}
use Rattle.rank_node.specs.declared.waiting.Waiting.{Waiting}
use Rattle.rank_node.specs.declared.waiting.Waiting.TheVariants as waits
use Rattle.rank_node.specs.Waiting.{event_in, effect_clock, expanded}
use Rattle.rank_node.specs.Storing.{next_unstored, after_store, after_ack}
use Rattle.rank_node.specs.Releasing.{next_effect, effect_of, after_release}
use Rattle.crash_free.specs.Runs.{Passed, history, sent, MayMake, continue, cons_if}
use Rattle.crash_free.proofs.Going.{count_continued}
use Rattle.bare_world.specs.Rows.{Noted}
use Rattle.bare_world.specs.declared.event.WorldEvent.TheVariants.{Store, Ack, Release}
use Rattle.bare_world.specs.declared.reply.Reply.TheVariants as reply
use Rattle.bare_world.specs.World.{Live, WorldValue, size, start_of, IsLive, unpassed}
use Rattle.bare_world.specs.Seats.{IsAccepted, AtRank}
use Rattle.bare_world.specs.Follows.{with_rank, passed_at, released_act, oldest_held, send_of, lines_released, StoreFollows, ReleaseFollows}
use Rattle.bare_world.specs.Plain.{plain, plain_rank}
use Rattle.bare_world.specs.Stands.{start_at, Pending, LogsStand, RankStands, Stands}
use Rattle.bare_world.specs.Onward.{IsWorld}
use Rattle.bare_world.specs.Stocked.{IsStocked}
use Rattle.bare_world.specs.ToTheEnd.{IsLonger}
use Rattle.bare_world.proofs.Lists.Beginnings.{drop_zero}
use Rattle.bare_world.proofs.Standing.PayloadLogs.{held_first}
use Rattle.bare_world.proofs.Standing.PassesOnce.{passed_first}
use Rattle.bare_world.proofs.Plain.EffectsAndLeft.{unpassed_plain}
use Rattle.bare_world.proofs.Plain.Ranks.{none_waits}
use Rattle.bare_world.proofs.Plain.Worlds.{rank_of}
use Rattle.bare_world.proofs.Standing.FirstPasses.{message_there}
use Rattle.bare_world.proofs.Calls.OldestUnstored.{accepts, oldest_act, oldest_counted, oldest_first, misses_noted}
use Rattle.bare_world.proofs.Calls.Stores.{found_act, noted_one}
use Rattle.bare_world.proofs.Ending.SendsToRanks.{sends_among}
use Rattle.bare_world.proofs.Ending.LeadsOn.{Led, IsLater, led_more, led_one}

-- ---- the run gets longer

-- By events of which none is a crash the run gets longer.
abbrev pub Goes : WorldValue → Type 0
Goes w = (w' : WorldValue) × Led w w' × IsLonger w.run w'.run

-- a later run of more acts is longer
pub longer : (C D : List Passed) → IsLater C D → length C < length D → IsLonger C D
longer C D l less = go l.0 l.1
  where
    go : (late : List Passed) → D ≡ late ++ C → IsLonger C D
    go [] e = absurd (let n = ap length e in omega (arith, n, less))
    go (p ∷ late) e = (p, late, e)

-- what goes on after some events goes on
pub goes_first : (a b : WorldValue) → Led a b → Goes b → Goes a
goes_first a b f g =
    let n = ap length f.later.1 ∙ length-append f.later.0 a.run in
    let m = ap length g.2.2 in
    let k = length-append g.2.1 b.run in
    let both = led_more a b g.0 f g.1 in
    (g.0, both, longer a.run g.0.run both.later (omega (arith, n, m, k)))

-- a run that goes on by acts has so many more
continued_length : (C : List Passed) (r : ℕ) (acts : List Act) → length (continue C r acts) ≡ length C + length acts
continued_length C r [] = (let e : length C ≡ length C + 0 = omega arith in e)
continued_length C r (a ∷ acts) = (let k = continued_length (record { rank = r; act = a } ∷ C) r acts in omega (arith, k))

-- ---- an acknowledgment

-- where an event is stored
pub acked : (w : WorldValue) (r : ℕ) (v : Live) → IsWorld w → IsStocked w → IsLive w r v → v.rank.stored ≢ 0
    → Led w (with_rank w r (Some (record { rank = after_ack v.rank; left = v.left })))
acked w r v i k live some =
    led_one w (Ack r) reply.Acked (with_rank w r (Some (record { rank = after_ack v.rank; left = v.left }))) i k tt
    (record { before = v; live = live; some = some; answered = refl; after = refl })

-- ---- a store

-- the acts of the oldest unstored event, one at least
noted : (w : WorldValue) (r : ℕ) (v : Live) (x : EventValue) → Stands w → IsLive w r v → next_unstored v.rank ≡ Some x
    → (acts : List Act) × Noted w.run r acts x × (0 < length acts)
noted w r v x s live oldest = go (finds_none x.kind) refl
  where
    there : AtRank w.ranks r (λ u. next_unstored u.rank ≡ Some x)
    there = subst (λ o. IsSomeAnd o (λ y. IsSomeAnd y (λ (u : Live). next_unstored u.rank ≡ Some x))) (sym live) oldest

    some : (acts : List Act) → Noted w.run r acts x → 0 < length acts
    some acts n =
        let a = oldest_act w r v x s live oldest in
        let e = n.as_many ∙ ap length (append-nil (parts_of x) ∙ a.3) in
        omega (arith, e)

    go : (b : Bool) → finds_none x.kind ≡ b → (acts : List Act) × Noted w.run r acts x × (0 < length acts)
    go true e =
        let n = misses_noted w.run r x e (oldest_counted w r v x s live oldest) (oldest_first w r v x s live oldest) in
        (_, n, some _ n)
    go false e =
        let a = found_act w r x s there e in
        let n = (noted_one w r x a.0 (record { rank = r; act = a.0 } ∷ w.run) e a.1 refl) in
        (n.acts, n.noted, some n.acts n.noted)

-- an event that isn't stored is stored
pub stored : (w : WorldValue) (r : ℕ) (v : Live) (x : EventValue) → IsWorld w → IsStocked w → IsLive w r v → next_unstored v.rank ≡ Some x → Goes w
stored w r v x i k live oldest =
    let f = led_one w (Store r) (reply.Stored a.0) w' i k tt h in
    let n = continued_length w.run r m.0 in
    let l = m.2 in
    (w', f, longer w.run w'.run f.later (omega (arith, n, l)))
  where
    a : IsAccepted w.logger r (Some x)
    a = subst (λ z. IsAccepted w.logger r z) oldest (accepts w r v x i.stands live oldest)

    m : (acts : List Act) × Noted w.run r acts x × (0 < length acts)
    m = noted w r v x i.stands live oldest

    w' : WorldValue
    w' = record w {
      ranks = slice_set w.ranks r (Some (record { rank = after_store v.rank; left = v.left }));
      logger = state_after w.logger (next_call w.logger.history r (Append x) (Length a.0));
      run = continue w.run r m.0;
    }

    h : StoreFollows w r (reply.Stored a.0) w'
    h = record {
      before = v;
      live = live;
      event = x;
      oldest = oldest;
      count = a.0;
      answered = refl;
      appends = record { replied = sym a.1; logged = refl };
      acts = m.0;
      noted = m.1;
      after = refl;
    }

-- ---- a release

-- who makes a send wants it
wants_send : (x : Want) (items : List ℤ) (d : ℕ) (c : Context) (t : ℕ) (xs : List ℤ) (m : Option Message) → Fits x items (sends d c t xs) m → x ≡ want.Send d c t
wants_send want.Internal items d c t xs m f = absurd f
wants_send (want.Send e c' t') items d c t xs None f = rw (f.0, f.1, f.2) refl
wants_send (want.Send e c' t') items d c t xs (Some m) f = absurd f
wants_send (want.Receive w) items d c t xs m f = absurd f
wants_send (want.Probe w) items d c t xs m f = absurd f
wants_send (want.TryProbe w) items d c t xs m f = absurd f
wants_send (want.Print v) items d c t xs m f = absurd f
wants_send want.Halted items d c t xs m f = absurd f
wants_send (want.Faulted k) items d c t xs m f = absurd f

module _ (w : WorldValue) (r : ℕ) (v : Live) (x : Waiting) (xs : List Waiting) (i : IsWorld w) (k : IsStocked w) (live : IsLive w r v) (left : v.left ≡ [])
    (none : v.rank.stored ≡ 0) (first : v.rank.pending ≡ x ∷ xs) where
  -- where the rank stands in the run
  s : RankStands (start_at w (size w)) (size w) w.run r (plain v)
  s = rank_of i.stands r v live

  -- what waits there, one for each act
  whole : unpassed (plain_rank v.rank) ≡ expanded (x ∷ xs)
  whole = unpassed_plain v.rank ∙ ap (λ z. expanded z) (ap (λ z. drop z v.rank.pending) none ∙ drop_zero v.rank.pending ∙ first)

  -- what may be released
  oldest : next_effect v.rank ≡ effect_of x
  oldest = ap (λ z. option_and_then effect_of (slice_get z 0)) first

  -- the rank has made just the acts that wait
  counts : v.rank.clock ≡ length (history w.run r) + length s.acts
  counts =
      ⊎_elim
      (λ (e : (plain v).rank.pending ≡ []). absurd
      (let q : x ∷ xs ≡ [] = sym first ∙ none_waits v (i.stands.runs.ranks r v live) e in cc))
      (λ (e : v.rank.clock ≡ length (history (continue w.run r s.acts) r)). e ∙ count_continued w.run r s.acts) s.all_made

  -- an effect of the next act goes
  goes : (act : Act) → released_act v.rank x ≡ Some act → effect_of x ≡ Some x → effect_clock x ≡ Some (length (history w.run r) + 1) → Goes w
  goes act passes is clock =
      let f = led_one w (Release r) (reply.Released (length (history w.run r) + 1)) w' i k tt h in
      let e = ap length (passed_first w.run r (length (history w.run r)) act refl) in
      (w', f, longer w.run w'.run f.later (omega (arith, e)))
    where
      w' : WorldValue
      w' = record w {
        ranks = slice_set w.ranks r (Some (record { rank = after_release v.rank x; left = v.left }));
        lines = lines_released w.lines r x;
        run = passed_at w.run r (length (history w.run r) + 1) (Some act);
      }

      h : ReleaseFollows w r (reply.Released (length (history w.run r) + 1)) w'
      h = record {
        before = v;
        live = live;
        effect = x;
        oldest = oldest ∙ is;
        clock = length (history w.run r) + 1;
        of_it = clock;
        answered = refl;
        act = act;
        passes = passes;
        after = refl;
      }

  -- the packet of a send that waits first is held
  held : (dest d : ℕ) (c : Context) (t : ℕ) (items : List ℤ) (acts : List Act) → s.acts ≡ sends d c t items ∷ acts → d ≡ dest
      → MayMake (start_of w r) (λ q. sent w.run q r) (history w.run r) (sends d c t items)
      → (p : packet.PacketValue) × (oldest_held v.rank dest ≡ Some p)
  held dest d c t items acts is same may =
      let wanted = wants_send (wants may.stands) (payload may.stands) d c t items _ may.makes in
      let below = sends_among w.program (size w) r (history w.run r) may.after may.stands d c t (slice_get_within w.ranks r (Some v) live) may.reached may.inner wanted in
      let many : length v.rank.log ≡ size w = s.at.logged in
      let b = backlog v.rank.log dest in
      let at : slice_get v.rank.log dest ≡ Some b = slice_get-get_or v.rank.log dest new_backlog (omega (arith, below, same, many)) in
      let m : Message = record { clock = length (history w.run r) + 1; context = c; tag = t; items = items } in
      let logs = subst (λ z. LogsStand r (history w.run r) v.rank.clock z v.rank.log) is s.logs in
      let there = message_there w.run r v.rank.clock (sends d c t items) acts (counts ∙ ap (λ z. length (history w.run r) + length z) is) dest b m
      (ap (λ z. cons_if z m []) (eq-eqb d dest same)) (logs dest b at) in
      (_, held_first r _ _ b m there)

  -- the act that waits first
  act_for : (acts : List Act) → s.acts ≡ acts → (y : Waiting) (ys : List Waiting) → x ≡ y → event_in y ≡ None
      → Pending (start_at w (size w)) w.run r acts (y ∷ ys) → Goes w
  act_for [] is y ys same n p = absurd p
  act_for (a ∷ acts) is (waits.Event e) ys same n p = absurd cc
  act_for (prints z ∷ acts) is (waits.Line clock value) ys same n p =
      goes (prints value) (ap (λ y. released_act v.rank y) same) (ap effect_of same ∙ ap Some (sym same)) (ap effect_clock same ∙ ap Some p.1.1)
  act_for (sends d c t items ∷ acts) is (waits.Line clock value) ys same n p = absurd p.1
  act_for (takes q j ∷ acts) is (waits.Line clock value) ys same n p = absurd p.1
  act_for (hits q j ∷ acts) is (waits.Line clock value) ys same n p = absurd p.1
  act_for (misses ∷ acts) is (waits.Line clock value) ys same n p = absurd p.1
  act_for (prints z ∷ acts) is (waits.Send dest clock) ys same n p = absurd p.1
  act_for (takes q j ∷ acts) is (waits.Send dest clock) ys same n p = absurd p.1
  act_for (hits q j ∷ acts) is (waits.Send dest clock) ys same n p = absurd p.1
  act_for (misses ∷ acts) is (waits.Send dest clock) ys same n p = absurd p.1
  act_for (sends d c t items ∷ acts) is (waits.Send dest clock) ys same n p =
      let h = held dest d c t items acts is p.1.0 p.0 in
      goes (send_of dest h.0) (ap (λ y. released_act v.rank y) same ∙ ap (λ o. option_map (send_of dest) o) h.1)
      (ap effect_of same ∙ ap Some (sym same)) (ap effect_clock same ∙ ap Some p.1.1)

  -- so an effect that waits first is released
  pub released_first : event_in x ≡ None → Goes w
  released_first n = go x refl n
    where
      go : (y : Waiting) → x ≡ y → event_in y ≡ None → Goes w
      go (waits.Event e) same m = absurd cc
      go (waits.Send d c) same m =
          act_for s.acts refl (waits.Send d c) (expanded xs) same m
          (subst (λ z. Pending (start_at w (size w)) w.run r s.acts z) (whole ∙ ap (λ z. expanded (z ∷ xs)) same) s.pending)
      go (waits.Line c z) same m =
          act_for s.acts refl (waits.Line c z) (expanded xs) same m
          (subst (λ z. Pending (start_at w (size w)) w.run r s.acts z) (whole ∙ ap (λ z. expanded (z ∷ xs)) same) s.pending)

-- ---- the gate of a rank

-- something that waits makes the run longer, or is acknowledged
pub gate_moves : (w : WorldValue) (r : ℕ) (v : Live) → IsWorld w → IsStocked w → IsLive w r v → v.left ≡ []
    → v.rank.pending ≢ [] → Goes w ⊎ (v.rank.stored ≢ 0)
gate_moves w r v i k live left some = go v.rank.stored refl v.rank.pending refl
  where
    go : (n : ℕ) → v.rank.stored ≡ n → (xs : List Waiting) → v.rank.pending ≡ xs → Goes w ⊎ (v.rank.stored ≢ 0)
    go (suc n) e xs q = inr (λ z. omega (arith, e, z))
    go zero e [] q = absurd (some q)
    go zero e (waits.Event x ∷ xs) q =
        inl
        (stored w r v x i k live
        (ap (λ z. option_and_then event_in (slice_get v.rank.pending z)) e ∙ ap (λ z. option_and_then event_in (slice_get z 0)) q))
    go zero e (waits.Send d c ∷ xs) q = inl (released_first w r v (waits.Send d c) xs i k live left e q refl)
    go zero e (waits.Line c z ∷ xs) q = inl (released_first w r v (waits.Line c z) xs i k live left e q refl)
