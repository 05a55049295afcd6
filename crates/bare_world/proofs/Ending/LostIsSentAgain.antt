-- What may be lost is sent again: where a rank has asked for it, the sender goes back to what it lacks, and each packet arrives as soon as it is put.
use Rattle.std.proofs.Common.{◌≡◌, ℕ, zero, suc, ◌+◌, ◌<◌, ◌≤◌, ◌⊎◌, inl, inr, List, [], ◌∷◌, length, Option, Some, None}
use Rattle.std.proofs.Common.{refl, sym, ap, subst, ◌∙◌, arith, slice_get, slice_set}
use Rattle.std.proofs.lemmas.List.{get_or-set_same}
use Rattle.std.proofs.lemmas.Option.{slice_get_within}
use Rattle.matching.specs.Inbox.{accepted_from, after_arrival}
use Rattle.matching.specs.PacketValue as packet
use Rattle.payload_log.specs.Backlog.{BacklogValue, backlog, new_backlog, passed, asked, next_of}
use Rattle.rank_node.specs.declared.frame.Frame.{Frame}
use Rattle.rank_node.specs.declared.frame.Frame.TheVariants as frame
use Rattle.rank_node.specs.Frames.{due_to, outgoing_of, sent_off, after_passed, after_frame, with_inbox}
use Rattle.bare_world.specs.declared.event.WorldEvent.TheVariants.{Arrive}
use Rattle.bare_world.specs.declared.reply.Reply.{Reply}
use Rattle.bare_world.specs.declared.reply.Reply.TheVariants as reply
use Rattle.bare_world.specs.World.{Live, WorldValue, IsLive, IsWire}
use Rattle.bare_world.specs.Follows.{PutFollows, ArriveFollows, with_rank}
use Rattle.bare_world.specs.Onward.{IsWorld}
use Rattle.bare_world.specs.Stocked.{IsStocked}
use Rattle.bare_world.specs.Measures.{outstanding_at}
use Rattle.bare_world.specs.Driven.{IsGone}
use Rattle.bare_world.specs.ToTheEnd.{NeedsNothingLost}
use Rattle.bare_world.proofs.Calls.RankOfEvent.{one_live}
use Rattle.bare_world.proofs.Plain.Worlds.{rank_of}
use Rattle.bare_world.proofs.Again.Calls.{put_there}
use Rattle.bare_world.proofs.Way.Cursors.{asked_reaches, next_number, arrival_reaches}
use Rattle.bare_world.proofs.Way.AsksAreHeard.{same_wire}
use Rattle.bare_world.proofs.Way.OutstandingFalls.{round_less}
use Rattle.bare_world.proofs.Way.FramesPassNoRank.{who, packet_next, log_of, above_of, base_of}
use Rattle.bare_world.proofs.Lists.Places.{set_get_same}
use Rattle.bare_world.proofs.Ending.NeedsNothingLost.{Longer, longer_more}
use Rattle.bare_world.proofs.Ending.LeadsOn.{from_one}
use Rattle.bare_world.proofs.Ending.FramesKeepSettled.{Milder, milder_none, milder_more, milder_set, Got, put_one, arrive_one}

-- The next packet that one rank transmits to another isn't beyond the next that this accepts.
abbrev pub Near : ℕ → ℕ → WorldValue → Type 0
Near s r w = (u v : Live) → IsLive w s u → IsLive w r v → (backlog u.rank.log r).cursor ≤ accepted_from v.rank.inbox s + 1

-- so it is still where one rank changes that transmits nothing later and has accepted no less
near_kept : (s r : ℕ) (w w' : WorldValue) (q : ℕ) (x y : Live) → IsLive w q x → w'.ranks ≡ slice_set w.ranks q (Some y)
    → (backlog y.rank.log r).cursor ≤ (backlog x.rank.log r).cursor → accepted_from x.rank.inbox s ≤ accepted_from y.rank.inbox s → Near s r w → Near s r w'
near_kept s r w w' q x y live ranks low more near u v lu lv =
    let a = sender (who w w' q y ranks s u lu) in
    let b = taker (who w w' q y ranks r v lv) in
    let n = near a.0 b.0 a.1 b.1 in
    let c = a.2 in
    let d = b.2 in
    omega (arith, n, c, d)
  where
    sender : ((s ≡ q) × (u ≡ y)) ⊎ ((s ≡ q → ⊥) × IsLive w s u)
        → (z : Live) × IsLive w s z × ((backlog u.rank.log r).cursor ≤ (backlog z.rank.log r).cursor)
    sender (inl h) =
        (x, subst (λ k. IsLive w k x) (sym h.0) live, (let e = ap (λ (k : Live). (backlog k.rank.log r).cursor) h.1 in omega (arith, e, low)))
    sender (inr h) = (u, h.1, omega arith)

    taker : ((r ≡ q) × (v ≡ y)) ⊎ ((r ≡ q → ⊥) × IsLive w r v) → (z : Live) × IsLive w r z × (accepted_from z.rank.inbox s ≤ accepted_from v.rank.inbox s)
    taker (inl h) =
        (x, subst (λ k. IsLive w k x) (sym h.0) live, (let e = ap (λ (k : Live). accepted_from k.rank.inbox s) h.1 in omega (arith, e, more)))
    taker (inr h) = (v, h.1, omega arith)

-- ---- one frame

-- a cursor goes on by one at most
cursor_passed : (log : List BacklogValue) (d : ℕ) → (backlog (slice_set log d (passed (backlog log d))) d).cursor ≤ (backlog log d).cursor + 1
cursor_passed [] d = omega arith
cursor_passed (b ∷ log) zero = omega arith
cursor_passed (b ∷ log) (suc d) = cursor_passed log d

-- a packet that was put arrives at once
module _ (start w : WorldValue) (s r : ℕ) (answer : Reply) (mid : WorldValue) (f : PutFollows w s r answer mid) (longer : Longer start w)
    (i : IsWorld w) (m : Milder start w mid) (v : Live) (lv : IsLive w r v) (near : Near s r w) (p : packet.PacketValue) (is : f.frame ≡ frame.Data p) where
  -- the receiver, as the frame is on its wire
  x : (x : Live) × IsLive mid r x × (x.left ≡ v.left) × (x.rank.pending ≡ v.rank.pending) × (x.rank.clock ≡ v.rank.clock)
      × ((q : ℕ) → accepted_from v.rank.inbox q ≤ accepted_from x.rank.inbox q)
  x = m.ranks r v lv

  -- which came there after the start
  needs : NeedsNothingLost start mid (Arrive s r (length f.frames))
  needs g frames old wire there was =
      let new = longer s r old was in
      let same = same_wire w s r f.frames new.0 (f.of_s, f.wires, f.wire) new.1 in
      let e = ap length same in
      let n = new.2 in
      inl (omega (arith, e, n))

  got : Got start mid s r (length f.frames) x.0 p
  got =
      let there = put_there w s r answer mid f in
      arrive_one start mid s r (length f.frames) x.0 p there.0 m.led.is_world m.led.stocked x.1 there.1 (there.2 ∙ ap Some is) needs

  less : outstanding_at s r got.after < outstanding_at s r w
  less = round_less w mid got.after s r answer got.answer f got.follows i

  -- what the sender transmits next
  abbrev put : Live
  put = record { rank = after_passed f.before.rank r; left = f.before.left }

  put_is : slice_get mid.ranks s ≡ Some (Some put)
  put_is = ap (λ z. slice_get z.ranks s) f.after ∙ set_get_same w.ranks s (Some f.before) (Some put) f.live

  next : (u : Live) → IsLive mid s u → (backlog u.rank.log r).cursor ≤ (backlog f.before.rank.log r).cursor + 1
  next u lu =
      let same = ap (λ (z : Live). (backlog z.rank.log r).cursor) (one_live mid s put u put_is lu) in
      let e = ap (λ o. (backlog (sent_off f.before.rank r o).log r).cursor) (f.next ∙ ap Some is) in
      let l = cursor_passed f.before.rank.log r in
      omega (arith, same, e, l)

  next_got : (u : Live) → IsLive got.after s u → (backlog u.rank.log r).cursor ≤ (backlog f.before.rank.log r).cursor + 1
  next_got u lu = go (who mid got.after r _ got.ranks s u lu)
    where
      go : ((s ≡ r) × (u ≡ record { rank = with_inbox x.0.rank (after_arrival x.0.rank.inbox p); left = x.0.left })) ⊎ ((s ≡ r → ⊥) × IsLive mid s u)
          → (backlog u.rank.log r).cursor ≤ (backlog f.before.rank.log r).cursor + 1
      go (inr h) = next u h.1
      go (inl h) =
          let e = ap (λ (z : Live). (backlog z.rank.log r).cursor) h.1 in
          let l = next x.0 (subst (λ z. IsLive mid z x.0) (sym h.0) x.1) in
          omega (arith, e, l)

  -- and what the receiver has accepted
  number : p.number ≡ (backlog f.before.rank.log r).cursor
  number =
      let lr = slice_get_within w.ranks r (Some v) lv in
      next_number s _ _ (backlog f.before.rank.log r) p (log_of w s r f.before i.stands f.live lr)
      (above_of w s r f.before i.stands i.onward f.live lr)
      (packet_next (due_to f.before.rank r).ask (due_to f.before.rank r).kept (next_of (backlog f.before.rank.log r)) p (f.next ∙ ap Some is))

  accepts : (y : Live) → IsLive got.after r y → (backlog f.before.rank.log r).cursor ≤ accepted_from y.rank.inbox s
  accepts y ly =
      let here = ap (λ z. slice_get z r) got.ranks ∙ set_get_same mid.ranks r (Some x.0) (Some _) x.1 in
      let same = ap (λ (z : Live). accepted_from z.rank.inbox s) (one_live got.after r _ y here ly) in
      let ls = slice_get_within w.ranks s (Some f.before) f.live in
      let within : s < length x.0.rank.inbox.accepted =
      (let e = (rank_of m.led.is_world.stands r x.0 x.1).at.counted in let n = m.led.same_size in omega (arith, ls, e, n)) in
      let n = near f.before v f.live lv in
      let more = x.5 s in
      let a = arrival_reaches x.0.rank.inbox p s (backlog f.before.rank.log r).cursor got.source number within (omega (arith, n, more)) in
      omega (arith, same, a)

  near_got : Near s r got.after
  near_got u y lu ly = (let a = next_got u lu in let b = accepts y ly in omega (arith, a, b))

-- Frames went from one rank to another: nothing that was sent was passed by.
record Sent (start : WorldValue) (s r : ℕ) (w w' : WorldValue) : Type 0 where
  mild : Milder start w w'
  near : Near s r w'

-- one that is outgoing is put, and arrives if it is a packet
send_one : (start w : WorldValue) (s r : ℕ) (u v : Live) (f : Frame) → Longer start w → IsWorld w → IsStocked w → IsLive w s u → IsLive w r v
    → outgoing_of u.rank r ≡ Some f → Near s r w → (w' : WorldValue) × Sent start s r w w' × (outstanding_at s r w' < outstanding_at s r w)
send_one start w s r u v f longer i k lu lv out near = go p.3.1.frame refl
  where
    p : (w' : WorldValue) × Milder start w w' × (outstanding_at s r w' < outstanding_at s r w) × ((answer : Reply) × PutFollows w s r answer w')
    p = put_one start w s r u f i k lu (slice_get_within w.ranks r (Some v) lv) out

    g : PutFollows w s r p.3.0 p.0
    g = p.3.1

    -- what is no packet stays on its wire
    stays : (y : Frame) → g.frame ≡ y → (backlog (sent_off g.before.rank r (Some y)).log r).cursor ≤ (backlog g.before.rank.log r).cursor
        → accepted_from g.before.rank.inbox s ≤ accepted_from (sent_off g.before.rank r (Some y)).inbox s
        → (w' : WorldValue) × Sent start s r w w' × (outstanding_at s r w' < outstanding_at s r w)
    stays y e low more =
        let n = g.next ∙ ap Some e in
        let same = ap (λ o. (backlog (sent_off g.before.rank r o).log r).cursor) n in
        let box = ap (λ o. accepted_from (sent_off g.before.rank r o).inbox s) n in (
          p.0,
          record {
            mild = p.1;
            near =
                near_kept s r w p.0 s g.before (record { rank = after_passed g.before.rank r; left = g.before.left }) g.live (ap (λ z. z.ranks) g.after)
                (omega (arith, same, low)) (omega (arith, box, more)) near;
          },
          p.2,
        )

    go : (y : Frame) → g.frame ≡ y → (w' : WorldValue) × Sent start s r w w' × (outstanding_at s r w' < outstanding_at s r w)
    go (frame.Ask n) e = stays (frame.Ask n) e (omega arith) (omega arith)
    go (frame.Kept n) e = stays (frame.Kept n) e (omega arith) (omega arith)
    go (frame.Data q) e =
        let a = got start w s r p.3.0 p.0 g longer i p.1 v lv near q e in (
          a.after,
          record { mild = milder_more start w p.0 a.after p.1 a.mild; near = near_got start w s r p.3.0 p.0 g longer i p.1 v lv near q e },
          less start w s r p.3.0 p.0 g longer i p.1 v lv near q e,
        )

-- all that is outgoing
pub send_all : (start : WorldValue) (n : ℕ) (w : WorldValue) (s r : ℕ) (u v : Live) → outstanding_at s r w < n → Longer start w → IsWorld w → IsStocked w
    → IsLive w s u → IsLive w r v → Near s r w → (w' : WorldValue) × Milder start w w' × IsGone s r w' × Near s r w'
send_all start zero w s r u v l longer i k lu lv near = absurd (omega (arith, l))
send_all start (suc n) w s r u v l longer i k lu lv near = go (outgoing_of u.rank r) refl
    (λ b x y m o j t e a c. send_all start n b s r x y m o j t e a c)
  where
    go : (o : Option Frame) → outgoing_of u.rank r ≡ o
        → ((b : WorldValue) (x y : Live) → outstanding_at s r b < n → Longer start b → IsWorld b → IsStocked b → IsLive b s x → IsLive b r y → Near s r b
        → (w' : WorldValue) × Milder start b w' × IsGone s r w' × Near s r w')
        → (w' : WorldValue) × Milder start w w' × IsGone s r w' × Near s r w'
    go None e again = (w, milder_none start w i k, (λ x lx. ap (λ (z : Live). outgoing_of z.rank r) (one_live w s u x lu lx) ∙ e), near)
    go (Some f) e again =
        let p = send_one start w s r u v f longer i k lu lv e near in
        let less = p.2 in
        let f = p.1.mild in
        let x = f.ranks s u lu in
        let y = f.ranks r v lv in
        let q = again p.0 x.0 y.0 (omega (arith, l, less)) (longer_more start w p.0 longer f.led.longer) f.led.is_world f.led.stocked x.1 y.1 p.1.near in
        (q.0, milder_more start w p.0 q.0 f q.1, q.2, q.3)

-- ---- an Ask

-- an Ask of the wire arrives at the rank that is asked: it transmits from there on again
pub hear_one : (start w : WorldValue) (s r k n : ℕ) (frames : List Frame) (u v : Live) → IsWorld w → IsStocked w → IsLive w s u → IsLive w r v
    → IsWire w r s frames → slice_get frames k ≡ Some (frame.Ask n) → n ≤ accepted_from v.rank.inbox s + 1
    → (w' : WorldValue) × Milder start w w' × Near s r w'
hear_one start w s r k n frames u v i t lu lv wire there low = (next, mild, near)
  where
    new : Live
    new = record { rank = after_frame u.rank r (frame.Ask n); left = u.left }

    next : WorldValue
    next = with_rank w s (Some new)

    follows : ArriveFollows w r s k reply.Noted next
    follows = record { before = u; live = lu; frames = frames; wire = wire; frame = frame.Ask n; there = there; answered = refl; after = refl }

    needs : NeedsNothingLost start w (Arrive r s k)
    needs f fs old wire2 there2 was =
        let same = same_wire w r s frames fs wire wire2 in
        inr (inl (n, one (sym there2 ∙ ap (λ z. slice_get z k) same ∙ there)))
      where
        one : ◌≡◌ {A = Option Frame} (Some f) (Some (frame.Ask n)) → f ≡ frame.Ask n
        one q = cc

    mild : Milder start w next
    mild =
        milder_set start w next s u new (from_one start w (Arrive r s k) reply.Noted next i t needs follows) refl lu refl refl refl refl
        (λ q. omega arith)

    near : Near s r next
    near x y lx ly =
        let l = slice_get_within w.ranks r (Some v) lv in
        let e = (rank_of i.stands s u lu).at.logged in
        let here = set_get_same w.ranks s (Some u) (Some new) lu in
        let a = ap (λ (z : Live). (backlog z.rank.log r).cursor) (one_live next s new x here lx) in
        let b = ap (λ z. z.cursor) (get_or-set_same u.rank.log r (asked (backlog u.rank.log r) n) new_backlog (omega (arith, l, e))) in
        let c = asked_reaches (backlog u.rank.log r) n (accepted_from v.rank.inbox s) (base_of w s r u v i.stands lu lv) low in
        let z = mild.ranks r v lv in
        let more = z.5 s in
        let same = ap (λ (j : Live). accepted_from j.rank.inbox s) (one_live next r z.0 y z.1 ly) in
        omega (arith, a, b, c, more, same)
