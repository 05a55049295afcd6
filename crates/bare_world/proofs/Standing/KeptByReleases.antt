-- A release keeps what a world stands for, whether its rank replays or not.
use Rattle.std.proofs.Common.{◌≡◌, ℕ, zero, suc, ◌+◌, ◌<◌, ◌≤◌, List, []}
use Rattle.std.proofs.Common.{◌∷◌, Option, Some, None, length, take, drop, refl, sym, ap, subst, ◌∙◌, slice_get, slice_set}
use Rattle.std.proofs.Common.{slice_index_or, option_and_then, option_map, ℤ}
use Rattle.std.proofs.lemmas.List.{length-set}
use Rattle.std.proofs.lemmas.Option.{slice_get_within, get_or_from_slice_get}
use Rattle.matching.specs.PacketValue as packet
use Rattle.payload_log.specs.Backlog.{BacklogValue, backlog, new_backlog, freed, freed_of}
use Rattle.rank_machine.specs.Acts.{Act, Message, sends, takes, hits, misses, prints}
use Rattle.crash_free.specs.Runs.{Passed, history, printed, sends_from, cons_if}
use Rattle.bare_world.specs.World.{Live, WorldValue, size, covered}
use Rattle.bare_world.specs.Headline.{lines_of}
use Rattle.rank_node.specs.declared.waiting.Waiting.{Waiting}
use Rattle.rank_node.specs.Waiting.{event_in, effect_clock, BeginsWithEvents}
use Rattle.rank_node.specs.declared.waiting.Waiting.TheVariants as waits
use Rattle.std.proofs.lemmas.Bool.{eq-eqb, ne_eqb}
use Rattle.rank_node.specs.Releasing.{effect_of, released_log, after_release}
use Rattle.bare_world.specs.Follows.{ReleaseFollows, lines_released, released_act, oldest_held, send_of, passed_at}
use Rattle.bare_world.proofs.Rows.{IsEffect, row_of_effect}
use Rattle.bare_world.proofs.Standing.Lines.{lines_after_print, printed_same}
use Rattle.ports.specs.Console.{after_line}
use Rattle.matching.specs.declared.packet.Context.{Context}
use Rattle.bare_world.proofs.Standing.PassesOnce.{passed_first}
use Rattle.bare_world.proofs.Standing.PayloadLogs.{held_first}
use Rattle.bare_world.specs.declared.reply.Reply.{Reply}
use Rattle.bare_world.proofs.Standing.Pending.{begins_effect, effect_for}
use Rattle.bare_world.proofs.Lists.Replaced.{replaced_keeps}
use Rattle.bare_world.specs.Stands.{LogStands, LogsStand, sends_of, packet_of, IsFor, RankStands, start_at, StandsAt}
use Rattle.bare_world.specs.Stands.{RankCovers}
use Rattle.bare_world.proofs.Lists.Beginnings.{drop_zero}
use Rattle.bare_world.proofs.Covers.KeptByEvents.{Covers-rank, bases_with, base_at}
use Rattle.bare_world.proofs.Standing.Worlds.{Goes, changed, Stands-passed}
use Rattle.bare_world.proofs.Standing.KeptByCrashes.{resized}
use Rattle.bare_world.proofs.Standing.KeptByFrames.{one_cover}
use Rattle.bare_world.proofs.Standing.FirstPasses.{LogPasses, First, RankStands-passes, quiet_there, message_there, freed_there}

-- an effect that is oldest stands first
pub effect_there : (xs : List Waiting) (x : Waiting) → option_and_then effect_of (slice_get xs 0) ≡ Some x → (xs ≡ x ∷ drop 1 xs) × (event_in x ≡ None)
effect_there [] x e = absurd cc
effect_there (waits.Event y ∷ xs) x e = absurd cc
effect_there (waits.Send d c ∷ xs) x e =
    (let q : waits.Send d c ≡ x = cc in (ap (λ z. z ∷ xs) q ∙ ap (λ z. x ∷ z) (sym (drop_zero xs)), subst (λ z. event_in z ≡ None) q refl))
effect_there (waits.Line c v ∷ xs) x e =
    (let q : waits.Line c v ≡ x = cc in (ap (λ z. z ∷ xs) q ∙ ap (λ z. x ∷ z) (sym (drop_zero xs)), subst (λ z. event_in z ≡ None) q refl))

-- what isn't there is the default
missing_default : {A : Type 0} (xs : List A) (i : ℕ) (d : A) → slice_get xs i ≡ None → slice_index_or xs i d ≡ d
missing_default [] i d e = refl
missing_default (x ∷ xs) zero d e = absurd cc
missing_default (x ∷ xs) (suc i) d e = missing_default xs i d e

-- the message of a send that waits
module _ (C : List Passed) (r c : ℕ) (log : List BacklogValue) where
  send_passes : (dest clock : ℕ) → LogPasses C r c (waits.Send dest clock) log (slice_set log dest (freed (backlog log dest)))
  send_passes dest clock (takes s j) acts is_for counts logs = absurd is_for
  send_passes dest clock (hits s j) acts is_for counts logs = absurd is_for
  send_passes dest clock misses acts is_for counts logs = absurd is_for
  send_passes dest clock (prints v) acts is_for counts logs = absurd is_for
  send_passes dest clock (sends d context t items) acts is_for counts logs =
      replaced_keeps (λ e b. LogStands r (sends_from 0 e (take c (history (record { rank = r; act = a } ∷ C) r)))
      (sends_of (length (history (record { rank = r; act = a } ∷ C) r)) e acts) b) log dest (freed (backlog log dest))
      (λ e b ne at. quiet_there C r c a acts counts e b (ap (λ z. cons_if z
      (record { clock = length (history C r) + 1; context = context; tag = t; items = items }) []) (ne_eqb d e (λ z. ne (sym z ∙ is_for.0)))) (logs e b at))
      (λ b at. (let had : backlog log dest ≡ b = get_or_from_slice_get log dest b new_backlog at in
      freed_there C r c a acts counts dest (backlog log dest) (record { clock = length (history C r) + 1; context = context; tag = t; items = items })
      (ap (λ z. cons_if z (record { clock = length (history C r) + 1; context = context; tag = t; items = items }) []) (eq-eqb d dest is_for.0))
      (subst (λ z. LogStands r (sends_from 0 dest (take c (history C r))) (sends_of (length (history C r)) dest (a ∷ acts)) z) (sym had) (logs dest b at))))
    where
      a : Act
      a = sends d context t items

  line_passes : (clock : ℕ) (value : ℤ) → LogPasses C r c (waits.Line clock value) log log
  line_passes clock value (takes s j) acts is_for counts logs = absurd is_for
  line_passes clock value (hits s j) acts is_for counts logs = absurd is_for
  line_passes clock value misses acts is_for counts logs = absurd is_for
  line_passes clock value (sends d context t items) acts is_for counts logs = absurd is_for
  line_passes clock value (prints v) acts is_for counts logs = λ d b at. quiet_there C r c (prints v) acts counts d b refl (logs d b at)

  effect_passes : (x : Waiting) → event_in x ≡ None → LogPasses C r c x log (released_log log x)
  effect_passes (waits.Event e) n = absurd cc
  effect_passes (waits.Send dest clock) n = send_passes dest clock
  effect_passes (waits.Line clock value) n = line_passes clock value

-- a release keeps the payload log's length
released_length : (log : List BacklogValue) (x : Waiting) → length (released_log log x) ≡ length log
released_length log (waits.Event e) = refl
released_length log (waits.Send dest clock) = length-set log dest _
released_length log (waits.Line clock value) = refl

-- a packet that is freed moves no base
freed_base : (b : BacklogValue) → (freed b).base ≡ b.base
freed_base b = go b.held
  where
    go : (ms : List packet.PacketValue) → (freed_of b ms).base ≡ b.base
    go [] = refl
    go (m ∷ ms) = refl

-- the oldest effect is released
pub Stands-release : (w : WorldValue) (r : ℕ) (answer : Reply) (w' : WorldValue) → Goes w → ReleaseFollows w r answer w' → Goes w'
Stands-release w r answer w' s f =
    subst (λ z. Goes z) (sym f.after)
    (record {
      run =
          resized w (changed w r (Some after) w.images w.logger (lines_released w.lines r f.effect) (passed_at w.run r f.clock (Some f.act)))
          (length-set w.ranks r _)
          (subst (λ z. StandsAt (size w) (changed w r (Some after) w.images w.logger (lines_released w.lines r f.effect) z)) (sym passed)
          (Stands-passed (size w) w r o.act after w.logger (lines_released w.lines r f.effect) s.run below o.can o.fair o.stands s.run.as_many_rows
          (λ q x e. s.run.rows q x e ∙ sym (row_of_effect w.run r q o.act is_effect))
          (shown f.effect o.act o.is_for there.1)));
      covers =
          Covers-rank w (changed w r (Some after) w.images w.logger (lines_released w.lines r f.effect) (passed_at w.run r f.clock (Some f.act))) r
          (Some after) refl refl refl
          (one_cover w.images r after
          (let c = s.covers.ranks r f.before f.live in record { bases = covered_bases c f.effect; dues = c.dues; since = c.since })) s.covers;
    })
  where
    after : Live
    after = record { rank = after_release f.before.rank f.effect; left = f.before.left }

    below : r < size w
    below = slice_get_within w.ranks r (Some f.before) f.live

    k : RankStands (start_at w (size w)) (size w) w.run r f.before
    k = s.run.ranks r f.before f.live

    there : (f.before.rank.pending ≡ f.effect ∷ drop 1 f.before.rank.pending) × (event_in f.effect ≡ None)
    there = effect_there f.before.rank.pending f.effect f.oldest

    none_stored : f.before.rank.stored ≡ 0
    none_stored =
        begins_effect f.before.rank.stored f.effect (drop 1 f.before.rank.pending) there.1
        (subst (λ z. BeginsWithEvents f.before.rank.stored z) there.0 (s.run.ranks r f.before f.live).stored)

    o : First (start_at w (size w)) (size w) w.run r f.effect f.before.rank.log (record { rank = after_release f.before.rank f.effect; left = f.before.left })
    o =
        RankStands-passes (start_at w (size w)) (size w) w.run r f.before (s.run.ranks r f.before f.live) f.effect (drop 1 f.before.rank.pending)
        (drop 1 f.before.rank.pending) f.before.rank.stored (released_log f.before.rank.log f.effect)
        (λ e. (let q : [] ≡ f.effect ∷ drop 1 f.before.rank.pending = sym e ∙ there.0 in cc))
        (ap (λ z. drop z f.before.rank.pending) none_stored ∙ drop_zero f.before.rank.pending ∙ there.0)
        (ap (λ z. drop z (drop 1 f.before.rank.pending)) none_stored ∙ drop_zero (drop 1 f.before.rank.pending))
        (subst (λ z. BeginsWithEvents z (drop 1 f.before.rank.pending)) (sym none_stored) tt)
        (released_length f.before.rank.log f.effect ∙ (s.run.ranks r f.before f.live).at.logged)
        (effect_passes w.run r f.before.rank.clock f.before.rank.log f.effect there.1)

    is_effect : IsEffect o.act
    is_effect = effect_for w.run r o.act f.effect there.1 o.is_for

    -- the act is the one that waited
    sent_is : (dest d : ℕ) (c : Context) (t : ℕ) (items : List ℤ) (act : Act) → d ≡ dest
        → LogsStand r (history w.run r) f.before.rank.clock (sends d c t items ∷ o.acts) f.before.rank.log
        → (x : Option BacklogValue) → slice_get f.before.rank.log dest ≡ x
        → option_map (send_of dest) (oldest_held f.before.rank dest) ≡ Some act → act ≡ sends d c t items
    sent_is dest d c t items act same logs None at e =
        let none : oldest_held f.before.rank dest ≡ None = ap (λ z. slice_get z.held 0) (missing_default f.before.rank.log dest new_backlog at) in
        let q : None ≡ Some act = ap (λ z. option_map (send_of dest) z) (sym none) ∙ e in
        absurd cc
    sent_is dest d c t items act same logs (Some b) at e =
        let had : backlog f.before.rank.log dest ≡ b = get_or_from_slice_get f.before.rank.log dest b new_backlog at in
        let m : Message = record { clock = length (history w.run r) + 1; context = c; tag = t; items = items } in
        let there = message_there w.run r f.before.rank.clock (sends d c t items) o.acts counts dest b m
        (ap (λ z. cons_if z m []) (eq-eqb d dest same)) (logs dest b at) in
        let held = held_first r (sends_from 0 dest (take f.before.rank.clock (history w.run r)))
        (sends_of (length (history w.run r) + 1) dest o.acts) b m there in
        let is : oldest_held f.before.rank dest ≡ Some (packet_of r (length (sends_from 0 dest (take f.before.rank.clock (history w.run r))) + 1) m) =
        ap (λ z. slice_get z.held 0) had ∙ held in
        let q : Some (sends dest c t items) ≡ Some act = ap (λ z. option_map (send_of dest) z) (sym is) ∙ e in
        (let y : sends dest c t items ≡ act = cc in sym y ∙ ap (λ z. sends z c t items) (sym same))
      where
        counts : f.before.rank.clock ≡ length (history w.run r) + length (sends d c t items ∷ o.acts)
        counts = o.counts

    act_is : (x : Waiting) (a act : Act) → IsFor w.run r a x → event_in x ≡ None
        → LogsStand r (history w.run r) f.before.rank.clock (a ∷ o.acts) f.before.rank.log → released_act f.before.rank x ≡ Some act
        → (act ≡ a) × (effect_clock x ≡ Some (length (history w.run r) + 1))
    act_is (waits.Event e) a act is n logs p = absurd cc
    act_is (waits.Line clock value) (prints v) act is n logs p = (let q : prints value ≡ act = cc in (sym q ∙ ap prints (sym is.0), ap Some is.1))
    act_is (waits.Line clock value) (sends d c t i) act is n logs p = absurd is
    act_is (waits.Line clock value) (takes q j) act is n logs p = absurd is
    act_is (waits.Line clock value) (hits q j) act is n logs p = absurd is
    act_is (waits.Line clock value) misses act is n logs p = absurd is
    act_is (waits.Send dest clock) (prints v) act is n logs p = absurd is
    act_is (waits.Send dest clock) (takes q j) act is n logs p = absurd is
    act_is (waits.Send dest clock) (hits q j) act is n logs p = absurd is
    act_is (waits.Send dest clock) misses act is n logs p = absurd is
    act_is (waits.Send dest clock) (sends d c t i) act is n logs p =
        (sent_is dest d c t i act is.0 logs (slice_get f.before.rank.log dest) refl p, ap Some is.1)

    same_act : (f.act ≡ o.act) × (effect_clock f.effect ≡ Some (length (history w.run r) + 1))
    same_act = act_is f.effect o.act f.act o.is_for there.1 o.logs f.passes

    passed : passed_at w.run r f.clock (Some f.act) ≡ record { rank = r; act = o.act } ∷ w.run
    passed =
        let q : Some f.clock ≡ Some (length (history w.run r) + 1) = sym f.of_it ∙ same_act.1 in
        let c : f.clock ≡ length (history w.run r) + 1 = cc in
        ap (λ z. passed_at w.run r z (Some f.act)) c ∙ passed_first w.run r (length (history w.run r)) f.act refl ∙ ap
        (λ z. record { rank = r; act = z } ∷ w.run) same_act.0

    shown : (x : Waiting) (a : Act) → IsFor w.run r a x → event_in x ≡ None → (q : ℕ)
        → lines_of q (lines_released w.lines r x) ≡ printed (record { rank = r; act = a } ∷ w.run) q
    shown (waits.Event e) a is n q = absurd cc
    shown (waits.Line clock value) (prints v) is n q =
        subst (λ z. lines_of q z ≡ printed (record { rank = r; act = prints v } ∷ w.run) q)
        (ap (λ z. after_line w.lines r (length (history w.run r) + 1) z) is.0 ∙ ap (λ z. after_line w.lines r z value) (sym is.1))
        (lines_after_print w.lines w.run r (length (history w.run r)) v refl s.run.lines q)
    shown (waits.Line clock value) (sends d c t i) is n q = absurd is
    shown (waits.Line clock value) (takes s' j) is n q = absurd is
    shown (waits.Line clock value) (hits s' j) is n q = absurd is
    shown (waits.Line clock value) misses is n q = absurd is
    shown (waits.Send dest clock) (sends d c t i) is n q = s.run.lines q ∙ sym (printed_same w.run r q (sends d c t i) refl)
    shown (waits.Send dest clock) (prints v) is n q = absurd is
    shown (waits.Send dest clock) (takes s' j) is n q = absurd is
    shown (waits.Send dest clock) (hits s' j) is n q = absurd is
    shown (waits.Send dest clock) misses is n q = absurd is

    covered_bases : RankCovers w.images r f.before → (x : Waiting) → (d : ℕ) (b : BacklogValue) → slice_get (released_log f.before.rank.log x) d ≡ Some b
        → b.base ≤ covered w.images d r
    covered_bases c (waits.Event e) = c.bases
    covered_bases c (waits.Line clock value) = c.bases
    covered_bases c (waits.Send dest clock) =
        bases_with w.images r f.before.rank.log dest (freed (backlog f.before.rank.log dest))
        (subst (λ z. z ≤ covered w.images dest r) (sym (freed_base (backlog f.before.rank.log dest)))
        (base_at w.images r f.before.rank.log dest c.bases)) c.bases
