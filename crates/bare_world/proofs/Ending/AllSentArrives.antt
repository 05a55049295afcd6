-- Where all are settled, all that was sent to a rank is put on the wires and arrives: what may be lost is put again, as the rank has asked for it, and
-- the rest is on the wires.
use Rattle.std.proofs.Common.{◌≡◌, ℕ, zero, suc, ◌+◌, ◌<◌, ◌≤◌, ◌⊎◌, inl, inr, List, [], ◌∷◌, length, Option, Some, None}
use Rattle.std.proofs.Common.{refl, sym, ap, subst, ◌∙◌, arith, slice_get, slice_set}
use Rattle.std.proofs.lemmas.Bool.{cases_eq, cases_lt}
use Rattle.std.proofs.lemmas.Option.{slice_get_within}
use Rattle.matching.specs.Inbox.{accepted_from, after_arrival}
use Rattle.matching.specs.PacketValue as packet
use Rattle.payload_log.specs.Backlog.{backlog}
use Rattle.rank_node.specs.declared.frame.Frame.{Frame}
use Rattle.rank_node.specs.declared.frame.Frame.TheVariants as frame
use Rattle.rank_node.specs.Frames.{due_to, outgoing_of, with_inbox}
use Rattle.crash_free.specs.Runs.{history, sent}
use Rattle.bare_world.specs.World.{Live, WorldValue, size, IsLive, IsWire}
use Rattle.bare_world.specs.Wires.{wire_of}
use Rattle.bare_world.specs.Onward.{OnWire, IsWorld}
use Rattle.bare_world.specs.Stocked.{IsStocked}
use Rattle.bare_world.specs.Measures.{outstanding_at}
use Rattle.bare_world.specs.Driven.{IsGone}
use Rattle.bare_world.specs.ToTheEnd.{IsSettled, MayBeLost}
use Rattle.bare_world.proofs.Calls.RankOfEvent.{one_live}
use Rattle.bare_world.proofs.Calls.Frames.{has_wire, the_wire}
use Rattle.bare_world.proofs.Plain.Worlds.{rank_of}
use Rattle.bare_world.proofs.Way.Cursors.{arrival_reaches}
use Rattle.bare_world.proofs.Way.PairIsDrained.{gone_asks}
use Rattle.bare_world.proofs.Way.AsksAreHeard.{same_wire}
use Rattle.bare_world.proofs.Way.FramesPassNoRank.{who, base_of}
use Rattle.bare_world.proofs.Lists.Places.{set_get_same}
use Rattle.bare_world.proofs.Ending.NeedsNothingLost.{Longer, longer_more}
use Rattle.bare_world.proofs.Ending.FramesKeepSettled.{Milder, milder_none, milder_more, settled_milder, HasFrom, has_milder, put_one, arrive_one, gone_has}
use Rattle.bare_world.proofs.Ending.LostIsSentAgain.{send_all, hear_one}

-- ---- what is outgoing is put

-- all that is outgoing from one rank to another
put_all : (start : WorldValue) (n : ℕ) (w : WorldValue) (s r : ℕ) (u : Live) → outstanding_at s r w < n → IsWorld w → IsStocked w → IsLive w s u → r < size w
    → (w' : WorldValue) × Milder start w w' × IsGone s r w'
put_all start zero w s r u l i k live lr = absurd (omega (arith, l))
put_all start (suc n) w s r u l i k live lr = go (outgoing_of u.rank r) refl
    (λ b x m j t e o. put_all start n b s r x m j t e o)
  where
    go : (o : Option Frame) → outgoing_of u.rank r ≡ o
        → ((b : WorldValue) (x : Live) → outstanding_at s r b < n → IsWorld b → IsStocked b → IsLive b s x → r < size b
        → (w' : WorldValue) × Milder start b w' × IsGone s r w')
        → (w' : WorldValue) × Milder start w w' × IsGone s r w'
    go None e again = (w, milder_none start w i k, λ x lx. ap (λ (z : Live). outgoing_of z.rank r) (one_live w s u x live lx) ∙ e)
    go (Some f) e again =
        let p = put_one start w s r u f i k live lr e in
        let less = p.2 in
        let x = p.1.ranks s u live in
        let same = p.1.led.same_size in
        let q = again p.0 x.0 (omega (arith, l, less)) p.1.led.is_world p.1.led.stocked x.1 (omega (arith, lr, same)) in
        (q.0, milder_more start w p.0 q.0 p.1 q.1, q.2)

-- ---- what was put arrives

-- nothing is outgoing still from a rank where a packet arrives at another, or at itself
gone_got : (w w' : WorldValue) (s r : ℕ) (v : Live) (p : packet.PacketValue) → IsLive w r v
    → w'.ranks ≡ slice_set w.ranks r (Some (record { rank = with_inbox v.rank (after_arrival v.rank.inbox p); left = v.left })) → IsGone s r w → IsGone s r w'
gone_got w w' s r v p lv ranks gone x live = go (who w w' r _ ranks s x live)
  where
    go : ((s ≡ r) × (x ≡ record { rank = with_inbox v.rank (after_arrival v.rank.inbox p); left = v.left })) ⊎ ((s ≡ r → ⊥) × IsLive w s x)
        → outgoing_of x.rank r ≡ None
    go (inr h) = gone x h.1
    go (inl h) = ap (λ (z : Live). outgoing_of z.rank r) h.1 ∙ gone v (subst (λ z. IsLive w z v) (sym h.0) lv)

-- what a rank has accepted after a packet with the next number arrived
one_more : (w w' : WorldValue) (s r : ℕ) (v x : Live) (p : packet.PacketValue) → IsWorld w → IsLive w r v → s < size w
    → w'.ranks ≡ slice_set w.ranks r (Some (record { rank = with_inbox v.rank (after_arrival v.rank.inbox p); left = v.left })) → p.source ≡ s
    → p.number ≤ accepted_from v.rank.inbox s + 1 → IsLive w' r x → p.number ≤ accepted_from x.rank.inbox s
one_more w w' s r v x p i lv ls ranks source low live =
    let here = ap (λ z. slice_get z r) ranks ∙ set_get_same w.ranks r (Some v) (Some _) lv in
    let same = ap (λ (z : Live). accepted_from z.rank.inbox s) (one_live w' r _ x here live) in
    let within : s < length v.rank.inbox.accepted = (let e = (rank_of i.stands r v lv).at.counted in omega (arith, ls, e)) in
    let m = arrival_reaches v.rank.inbox p s p.number source refl within low in
    omega (arith, same, m)

-- all that was sent from one rank to another arrives, where all of it was put and nothing of it may be lost at the start
arrive_all : (start : WorldValue) (n : ℕ) (w : WorldValue) (s r : ℕ) (u v : Live) → (MayBeLost start s r → ⊥)
    → length (sent w.run s r) < accepted_from v.rank.inbox s + n
    → IsWorld w → IsStocked w → IsSettled w → IsLive w s u → IsLive w r v → IsGone s r w
    → (w' : WorldValue) × Milder start w w' × HasFrom s r w'
arrive_all start zero w s r u v never l i k settled lu lv gone =
    (w, milder_none start w i k, λ x lx. (let e = ap (λ (z : Live). accepted_from z.rank.inbox s) (one_live w r v x lv lx) in omega (arith, l, e)))
arrive_all start (suc n) w s r u v never l i k settled lu lv gone =
    go (cases_lt (accepted_from v.rank.inbox s + 1) (backlog u.rank.log r).cursor)
    (λ b x y m j t e a c g. arrive_all start n b s r x y never m j t e a c g)
  where
    ls : s < size w
    ls = slice_get_within w.ranks s (Some u) lu

    lr : r < size w
    lr = slice_get_within w.ranks r (Some v) lv

    -- the next packet that is accepted is on the wire
    go : (accepted_from v.rank.inbox s + 1 < (backlog u.rank.log r).cursor) ⊎ ((backlog u.rank.log r).cursor ≤ accepted_from v.rank.inbox s + 1)
        → ((b : WorldValue) (x y : Live) → length (sent b.run s r) < accepted_from y.rank.inbox s + n → IsWorld b → IsStocked b → IsSettled b
        → IsLive b s x → IsLive b r y → IsGone s r b → (w' : WorldValue) × Milder start b w' × HasFrom s r w')
        → (w' : WorldValue) × Milder start w w' × HasFrom s r w'
    go (inr near) again =
        let done = gone_has w s r u v i settled lu lv ls lr gone near in
        (w, milder_none start w i k, λ x lx. (let e = ap (λ (z : Live). accepted_from z.rank.inbox s) (one_live w r v x lv lx) in omega (arith, done, e)))
    go (inl less) again =
        let base = base_of w s r u v i.stands lu lv in
        let p = i.wired s r (accepted_from v.rank.inbox s + 1) u lu lr (omega (arith, base)) less in
        let a = arrive_one start w s r p.1.1 v p.0 p.1.0 i k lv p.1.2 p.1.3 (λ f frames old wire there was. inr (inr never)) in
        let x = a.mild.ranks s u lu in
        let y = a.mild.ranks r v lv in
        let number = p.2 in
        let m = one_more w a.after s r v y.0 p.0 i lv ls a.ranks a.source (omega (arith, number)) y.1 in
        let c = ap (λ C. length (sent C s r)) a.mild.run in
        let q = again a.after x.0 y.0 (omega (arith, l, m, c, number)) a.mild.led.is_world a.mild.led.stocked
        (settled_milder start w a.after a.mild settled) x.1 y.1 (gone_got w a.after s r v p.0 lv a.ranks gone) in
        (q.0, milder_more start w a.after q.0 a.mild q.1, q.2)

-- ---- from one rank

-- an Ask among these frames for no more than this, or none
find_ask : (a : ℕ) (frames : List Frame)
    → ((k : ℕ) × (n : ℕ) × (slice_get frames k ≡ Some (frame.Ask n)) × (n ≤ a)) ⊎ ((k n : ℕ) → slice_get frames k ≡ Some (frame.Ask n) → n ≤ a → ⊥)
find_ask a [] = inr (λ k n e l. cc)
find_ask a (x ∷ frames) = go x (find_ask a frames)
  where
    later : (y : Frame) → ((n : ℕ) → y ≡ frame.Ask n → n ≤ a → ⊥)
        → ((k : ℕ) × (n : ℕ) × (slice_get frames k ≡ Some (frame.Ask n)) × (n ≤ a)) ⊎ ((k n : ℕ) → slice_get frames k ≡ Some (frame.Ask n) → n ≤ a → ⊥)
        → ((k : ℕ) × (n : ℕ) × (slice_get (y ∷ frames) k ≡ Some (frame.Ask n)) × (n ≤ a))
        ⊎ ((k n : ℕ) → slice_get (y ∷ frames) k ≡ Some (frame.Ask n) → n ≤ a → ⊥)
    later y not (inl h) = inl (suc h.0, h.1, h.2, h.3)
    later y not (inr never) = inr (λ k n e l. all k n e l)
      where
        all : (k n : ℕ) → slice_get (y ∷ frames) k ≡ Some (frame.Ask n) → n ≤ a → ⊥
        all zero n e l = not n (let q : y ≡ frame.Ask n = cc in q) l
        all (suc k) n e l = never k n e l

    go : (y : Frame) → ((k : ℕ) × (n : ℕ) × (slice_get frames k ≡ Some (frame.Ask n)) × (n ≤ a)) ⊎ ((k n : ℕ) → slice_get frames k ≡ Some (frame.Ask n) → n ≤ a → ⊥)
        → ((k : ℕ) × (n : ℕ) × (slice_get (y ∷ frames) k ≡ Some (frame.Ask n)) × (n ≤ a))
        ⊎ ((k n : ℕ) → slice_get (y ∷ frames) k ≡ Some (frame.Ask n) → n ≤ a → ⊥)
    go (frame.Data p) h = later (frame.Data p) (λ n e l. (let q : frame.Data p ≡ frame.Ask n = e in cc)) h
    go (frame.Kept m) h = later (frame.Kept m) (λ n e l. (let q : frame.Kept m ≡ frame.Ask n = e in cc)) h
    go (frame.Ask m) h = at (cases_lt a m)
      where
        at : (a < m) ⊎ (m ≤ a) → ((k : ℕ) × (n : ℕ) × (slice_get (frame.Ask m ∷ frames) k ≡ Some (frame.Ask n)) × (n ≤ a))
            ⊎ ((k n : ℕ) → slice_get (frame.Ask m ∷ frames) k ≡ Some (frame.Ask n) → n ≤ a → ⊥)
        at (inr l) = inl (0, m, refl, l)
        at (inl l) = later (frame.Ask m) (λ n e low. (let q : m ≡ n = (let z : frame.Ask m ≡ frame.Ask n = e in cc) in omega (arith, l, low, q))) h

-- all that one rank sent to another arrives
mail_from : (start w : WorldValue) (s r : ℕ) → Milder start start w → IsSettled w → s < size w → r < size w
    → (w' : WorldValue) × Milder start w w' × HasFrom s r w'
mail_from start w s r f settled ls lr = go (find_ask (accepted_from v.0.rank.inbox s + 1) frames)
  where
    -- what the receiver has to put goes first, so that its Ask isn't due
    d : (v : Live) × IsLive w r v × (v.left ≡ []) × (v.rank.pending ≡ []) × (v.rank.clock ≡ length (history w.run r))
    d = settled r lr

    p : (b : WorldValue) × Milder start w b × IsGone r s b
    p = put_all start (outstanding_at r s w + 1) w r s d.0 (omega arith) f.led.is_world f.led.stocked d.1 ls

    b : WorldValue
    b = p.0

    i : IsWorld b
    i = p.1.led.is_world

    still : IsSettled b
    still = settled_milder start w b p.1 settled

    ls' : s < size b
    ls' = (let n = p.1.led.same_size in omega (arith, ls, n))

    lr' : r < size b
    lr' = (let n = p.1.led.same_size in omega (arith, lr, n))

    u : (u : Live) × IsLive b s u × (u.left ≡ []) × (u.rank.pending ≡ []) × (u.rank.clock ≡ length (history b.run s))
    u = still s ls'

    v : (v : Live) × IsLive b r v × (v.left ≡ []) × (v.rank.pending ≡ []) × (v.rank.clock ≡ length (history b.run r))
    v = still r lr'

    frames : List Frame
    frames = wire_of b.wires r s

    wire : IsWire b r s frames
    wire = the_wire b r s (has_wire b r s i.stands lr' ls')

    longer : Longer start b
    longer = longer_more start w b f.led.longer p.1.led.longer

    -- an Ask is there: it arrives again, and what it asks for is sent again
    heard : (k n : ℕ) → slice_get frames k ≡ Some (frame.Ask n) → n ≤ accepted_from v.0.rank.inbox s + 1 → (w' : WorldValue) × Milder start w w' × HasFrom s r w'
    heard k n there low =
        let h = hear_one start b s r k n frames u.0 v.0 i p.1.led.stocked u.1 v.1 wire there low in
        let x = h.1.ranks s u.0 u.1 in
        let y = h.1.ranks r v.0 v.1 in
        let q = send_all start (outstanding_at s r h.0 + 1) h.0 s r x.0 y.0 (omega arith) (longer_more start b h.0 longer h.1.led.longer) h.1.led.is_world
        h.1.led.stocked x.1 y.1 h.2 in
        let all = milder_more start w h.0 q.0 (milder_more start w b h.0 p.1 h.1) q.1 in
        let n1 = all.led.same_size in (
          q.0,
          all,
          λ z lz.
              (let o = settled_milder start w q.0 all settled in
              let c = o s (omega (arith, ls, n1)) in
              gone_has q.0 s r c.0 z q.1.led.is_world o c.1 lz (omega (arith, ls, n1)) (omega (arith, lr, n1)) q.2 (q.3 c.0 z c.1 lz)),
        )

    -- none is there: nothing may be lost at the start, and all that was put may arrive
    kept : ((k n : ℕ) → slice_get frames k ≡ Some (frame.Ask n) → n ≤ accepted_from v.0.rank.inbox s + 1 → ⊥) → (w' : WorldValue) × Milder start w w' × HasFrom s r w'
    kept none =
        let q = put_all start (outstanding_at s r b + 1) b s r u.0 (omega arith) i p.1.led.stocked u.1 lr' in
        let x = q.1.ranks s u.0 u.1 in
        let y = q.1.ranks r v.0 v.1 in
        let e = arrive_all start (length (sent q.0.run s r) + 1) q.0 s r x.0 y.0 never (omega arith) q.1.led.is_world q.1.led.stocked
        (settled_milder start b q.0 q.1 still) x.1 y.1 q.2 in
        (e.0, milder_more start w q.0 e.0 (milder_more start w b q.0 p.1 q.1) e.1, e.2)
      where
        lost : MayBeLost b s r → ⊥
        lost (inl down) = (let z : Some (Some v.0) ≡ Some None = sym v.1 ∙ down in cc)
        lost (inr a) = at a.2.2
          where
            low : a.2.0 ≤ accepted_from v.0.rank.inbox s + 1
            low = (let l = a.2.1 in let e = ap (λ (z : Live). accepted_from z.rank.inbox s) (one_live b r v.0 a.0 v.1 a.1) in omega (arith, l, e))

            at : ((due_to a.0.rank s).ask ≡ Some a.2.0) ⊎ OnWire b r s (frame.Ask a.2.0) → ⊥
            at (inl due) = (let z : Some a.2.0 ≡ None = sym due ∙ gone_asks b r s p.2 a.0 a.1 in cc)
            at (inr on) =
                let same = same_wire b r s on.0 frames on.2 wire in
                none on.1 a.2.0 (ap (λ z. slice_get z on.1) same ∙ on.3) low

        never : MayBeLost start s r → ⊥
        never h =
            let n = f.led.same_size in
            let m = p.1.led.lost s r ls (f.led.lost s r (omega (arith, ls, n)) h) in
            lost m

    go : ((k : ℕ) × (n : ℕ) × (slice_get frames k ≡ Some (frame.Ask n)) × (n ≤ accepted_from v.0.rank.inbox s + 1))
        ⊎ ((k n : ℕ) → slice_get frames k ≡ Some (frame.Ask n) → n ≤ accepted_from v.0.rank.inbox s + 1 → ⊥)
        → (w' : WorldValue) × Milder start w w' × HasFrom s r w'
    go (inl h) = heard h.0 h.1 h.2 h.3
    go (inr none) = kept none

-- ---- from all ranks

-- a rank gets what the first k have sent it
mail_to : (w : WorldValue) (r : ℕ) (k : ℕ) → IsWorld w → IsStocked w → IsSettled w → r < size w → k ≤ size w
    → (w' : WorldValue) × Milder w w w' × ((s : ℕ) → s < k → HasFrom s r w')
mail_to w r zero i t settled lr l = (w, milder_none w w i t, λ s m. absurd (omega (arith, m)))
mail_to w r (suc k) i t settled lr l =
    let p = mail_to w r k i t settled lr (omega (arith, l)) in
    let f = p.1 in
    let n = f.led.same_size in
    let still = settled_milder w w p.0 f settled in
    let b = mail_from w p.0 k r f still (omega (arith, l, n)) (omega (arith, lr, n)) in
    let v = still r (omega (arith, lr, n)) in
    (b.0, milder_more w w p.0 b.0 f b.1, λ s m. all p.0 b.0 v.0 v.1 b.1 p.2 b.2 s (omega (arith, m)) (cases_eq s k))
  where
    all : (b c : WorldValue) (v : Live) → IsLive b r v → Milder w b c → ((s : ℕ) → s < k → HasFrom s r b) → HasFrom k r c → (s : ℕ) → s < k + 1
        → (s ≡ k) ⊎ (s ≡ k → ⊥) → HasFrom s r c
    all b c v live f before last s m (inl e) = subst (λ z. HasFrom z r c) (sym e) last
    all b c v live f before last s m (inr ne) = has_milder w b c s r v f live (before s (omega (arith, m, ne)))

-- what all have sent it
pub mailed : (w : WorldValue) (r : ℕ) → IsWorld w → IsStocked w → IsSettled w → r < size w
    → (w' : WorldValue) × Milder w w w' × ((s : ℕ) → s < size w → HasFrom s r w')
mailed w r i t settled lr = mail_to w r (size w) i t settled lr (omega arith)
