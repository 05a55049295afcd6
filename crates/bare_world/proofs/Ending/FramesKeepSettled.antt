-- Where all are settled, frames go from rank to rank, and all stays settled: each rank has accepted no less, and stands and waits as it did.
use Rattle.std.proofs.Common.{◌≡◌, ℕ, ◌+◌, ◌<◌, ◌≤◌, ◌⊎◌, inl, inr, if◌then◌else◌, List, length, Option, Some, None}
use Rattle.std.proofs.Common.{refl, sym, ap, subst, ◌∙◌, arith, slice_get, slice_set, take}
use Rattle.std.proofs.lemmas.Bool.{cases_eq, eq-eqb}
use Rattle.matching.specs.PacketValue as packet
use Rattle.matching.specs.Inbox.{accepted_from, after_arrival}
use Rattle.payload_log.specs.Backlog.{backlog, next_of}
use Rattle.rank_node.specs.declared.frame.Frame.{Frame}
use Rattle.rank_node.specs.declared.frame.Frame.TheVariants as frame
use Rattle.rank_node.specs.Frames.{due_to, outgoing_of, sent_off, after_passed, after_frame, arrival_of, with_inbox}
use Rattle.crash_free.specs.Runs.{history, sent, sends_from}
use Rattle.bare_world.specs.declared.event.WorldEvent.TheVariants.{Put, Arrive}
use Rattle.bare_world.specs.declared.reply.Reply.{Reply}
use Rattle.bare_world.specs.World.{Rank, Live, WorldValue, size, IsLive, IsWire}
use Rattle.bare_world.specs.Headline.{IsReal}
use Rattle.bare_world.specs.Follows.{PutFollows, ArriveFollows, with_rank, put_as, arrived_as}
use Rattle.bare_world.specs.Stands.{sends_of}
use Rattle.bare_world.specs.Onward.{IsWorld}
use Rattle.bare_world.specs.Stocked.{IsStocked}
use Rattle.bare_world.specs.Measures.{outstanding, outstanding_of, outstanding_at}
use Rattle.bare_world.specs.Driven.{IsGone}
use Rattle.bare_world.specs.ToTheEnd.{IsSettled, NeedsNothingLost}
use Rattle.bare_world.proofs.Calls.RankOfEvent.{one_live}
use Rattle.bare_world.proofs.Covers.KeptByEvents.{arrival_more}
use Rattle.bare_world.proofs.Lists.Beginnings.{take_whole}
use Rattle.bare_world.proofs.Plain.Worlds.{rank_of}
use Rattle.bare_world.proofs.Way.Cursors.{nothing_next}
use Rattle.bare_world.proofs.Way.FramesPassNoRank.{none_next, log_of, above_of, base_of}
use Rattle.bare_world.proofs.Lists.Places.{set_get_same, set_get_other}
use Rattle.bare_world.proofs.Way.OutstandingFalls.{put_falls}
use Rattle.bare_world.proofs.Way.EventIsPossible.{put_happens, arrival_answers}
use Rattle.bare_world.proofs.Ending.LeadsOn.{LedFrom, from_none, from_more, from_one}

-- ---- what stays

-- One world leads to the other, where each rank has accepted no less, and stands and waits as it did.
pub record Milder (start w w' : WorldValue) : Type 0 where
  pub led : LedFrom start w w'
  pub run : w'.run ≡ w.run
  pub ranks : (q : ℕ) (v : Live) → IsLive w q v → (x : Live) × IsLive w' q x × (x.left ≡ v.left) × (x.rank.pending ≡ v.rank.pending)
      × (x.rank.clock ≡ v.rank.clock) × ((s : ℕ) → accepted_from v.rank.inbox s ≤ accepted_from x.rank.inbox s)

-- a world and itself
pub milder_none : (start w : WorldValue) → IsWorld w → IsStocked w → Milder start w w
milder_none start w i k = record { led = from_none start w i k; run = refl; ranks = λ q v live. (v, live, refl, refl, refl, λ s. omega arith) }

-- one after another
pub milder_more : (start a b c : WorldValue) → Milder start a b → Milder start b c → Milder start a c
milder_more start a b c f g =
    record {
      led = from_more start a b c f.led g.led;
      run = g.run ∙ f.run;
      ranks = λ q v live.
          (let x = f.ranks q v live in
          let y = g.ranks q x.0 x.1 in (
            y.0,
            y.1,
            y.2 ∙ x.2,
            y.3 ∙ x.3,
            y.4 ∙ x.4,
            λ s. (let m = x.5 s in let n = y.5 s in omega (arith, m, n)),
          ));
    }

-- where one rank changes
pub milder_set : (start w w' : WorldValue) (r : ℕ) (u y : Live) → LedFrom start w w' → w'.run ≡ w.run → IsLive w r u → w'.ranks ≡ slice_set w.ranks r (Some y)
    → y.left ≡ u.left → y.rank.pending ≡ u.rank.pending → y.rank.clock ≡ u.rank.clock
    → ((s : ℕ) → accepted_from u.rank.inbox s ≤ accepted_from y.rank.inbox s) → Milder start w w'
milder_set start w w' r u y f run live ranks left pending clock more = record { led = f; run = run; ranks = λ q v at. go q v at (cases_eq q r) }
  where
    go : (q : ℕ) (v : Live) → IsLive w q v → (q ≡ r) ⊎ (q ≡ r → ⊥) → (x : Live) × IsLive w' q x × (x.left ≡ v.left) × (x.rank.pending ≡ v.rank.pending)
        × (x.rank.clock ≡ v.rank.clock) × ((s : ℕ) → accepted_from v.rank.inbox s ≤ accepted_from x.rank.inbox s)
    go q v at (inr ne) = (v, ap (λ z. slice_get z q) ranks ∙ set_get_other w.ranks r q (Some y) ne ∙ at, refl, refl, refl, λ s. omega arith)
    go q v at (inl e) =
        let same : v ≡ u = one_live w r u v live (subst (λ z. IsLive w z v) e at) in (
          y,
          subst (λ z. IsLive w' z y) (sym e) (ap (λ z. slice_get z r) ranks ∙ set_get_same w.ranks r (Some u) (Some y) live),
          left ∙ ap (λ z. z.left) (sym same),
          pending ∙ ap (λ z. z.rank.pending) (sym same),
          clock ∙ ap (λ z. z.rank.clock) (sym same),
          λ s. (let m = more s in let n = ap (λ z. accepted_from z.rank.inbox s) same in omega (arith, m, n)),
        )

-- all stay settled
pub settled_milder : (start w w' : WorldValue) → Milder start w w' → IsSettled w → IsSettled w'
settled_milder start w w' f settled r l =
    let n = f.led.same_size in
    let v = settled r (omega (arith, l, n)) in
    let x = f.ranks r v.0 v.1 in
    (x.0, x.1, x.2 ∙ v.2, x.3 ∙ v.3, x.4 ∙ v.4 ∙ ap (λ C. length (history C r)) (sym f.run))

-- a rank has accepted all that another sent it
abbrev pub HasFrom : ℕ → ℕ → WorldValue → Type 0
HasFrom s r w = (v : Live) → IsLive w r v → length (sent w.run s r) ≤ accepted_from v.rank.inbox s

-- it has still
pub has_milder : (start w w' : WorldValue) (s r : ℕ) (u : Live) → Milder start w w' → IsLive w r u → HasFrom s r w → HasFrom s r w'
has_milder start w w' s r u f lu has v live =
    let x = f.ranks r u lu in
    let same = ap (λ (z : Live). accepted_from z.rank.inbox s) (one_live w' r x.0 v x.1 live) in
    let a = has u lu in
    let b = x.5 s in
    let c = ap (λ C. length (sent C s r)) f.run in
    omega (arith, same, a, b, c)

-- ---- what is outgoing is put

-- what is put leaves its rank as it was, except for what is due and the cursor
passed_keeps : (v : Rank) (d : ℕ) (o : Option Frame) → ((sent_off v d o).pending ≡ v.pending) × ((sent_off v d o).clock ≡ v.clock)
    × ((sent_off v d o).inbox ≡ v.inbox)
passed_keeps v d None = (refl, refl, refl)
passed_keeps v d (Some (frame.Ask n)) = (refl, refl, refl)
passed_keeps v d (Some (frame.Kept n)) = (refl, refl, refl)
passed_keeps v d (Some (frame.Data p)) = (refl, refl, refl)

-- one frame
pub put_one : (start w : WorldValue) (s r : ℕ) (u : Live) (f : Frame) → IsWorld w → IsStocked w → IsLive w s u → r < size w
    → outgoing_of u.rank r ≡ Some f
    → (w' : WorldValue) × Milder start w w' × (outstanding_at s r w' < outstanding_at s r w) × ((answer : Reply) × PutFollows w s r answer w')
put_one start w s r u f i k live l out = (p.1, mild, less, (put_as p.0 f, p.2))
  where
    p : (n : ℕ) × (w' : WorldValue) × PutFollows w s r (put_as n f) w'
    p = put_happens w s r u f i.stands live l out

    keeps : ((sent_off p.2.before.rank r (outgoing_of p.2.before.rank r)).pending ≡ p.2.before.rank.pending)
        × ((sent_off p.2.before.rank r (outgoing_of p.2.before.rank r)).clock ≡ p.2.before.rank.clock)
        × ((sent_off p.2.before.rank r (outgoing_of p.2.before.rank r)).inbox ≡ p.2.before.rank.inbox)
    keeps = passed_keeps p.2.before.rank r (outgoing_of p.2.before.rank r)

    ranks : p.1.ranks ≡ slice_set w.ranks s (Some (record { rank = after_passed p.2.before.rank r; left = p.2.before.left }))
    ranks = ap (λ z. z.ranks) p.2.after

    mild : Milder start w p.1
    mild =
        milder_set start w p.1 s p.2.before (record { rank = after_passed p.2.before.rank r; left = p.2.before.left })
        (from_one start w (Put s r) (put_as p.0 f) p.1 i k tt p.2) (ap (λ z. z.run) p.2.after) p.2.live ranks refl keeps.0 keeps.1
        (λ q. (let e = ap (λ z. accepted_from z q) keeps.2 in omega (arith, e)))

    less : outstanding_at s r p.1 < outstanding_at s r w
    less =
        let a = put_falls p.2.before.rank r p.2.frame ((i.onward.ranks s p.2.before p.2.live).above r) p.2.next in
        let b = ap (λ o. outstanding_of o r) (ap (λ z. slice_get z s) ranks ∙ set_get_same w.ranks s (Some p.2.before) (Some _) p.2.live) in
        let c = ap (λ o. outstanding (sent_off p.2.before.rank r o) r) p.2.next in
        let d = ap (λ o. outstanding_of o r) p.2.live in
        omega (arith, a, b, c, d)

-- ---- what was put arrives

-- A packet of the wire arrived at the rank.
pub record Got (start w : WorldValue) (s r k : ℕ) (v : Live) (p : packet.PacketValue) : Type 0 where
  pub after : WorldValue
  pub answer : Reply
  pub follows : ArriveFollows w s r k answer after
  pub mild : Milder start w after
  pub source : p.source ≡ s
  pub ranks : after.ranks ≡ slice_set w.ranks r (Some (record { rank = with_inbox v.rank (after_arrival v.rank.inbox p); left = v.left }))

-- one that needs nothing that may be lost at the start
pub arrive_one : (start w : WorldValue) (s r k : ℕ) (v : Live) (p : packet.PacketValue) (frames : List Frame) → IsWorld w → IsStocked w → IsLive w r v
    → IsWire w s r frames → slice_get frames k ≡ Some (frame.Data p) → NeedsNothingLost start w (Arrive s r k) → Got start w s r k v p
arrive_one start w s r k v p frames i t lv wire there needs =
    record {
      after = next;
      answer = a.0;
      follows = follows;
      mild = mild;
      source = real.0;
      ranks = ap (λ z. slice_set w.ranks r (Some (record { rank = z; left = v.left }))) own;
    }
  where
    real : IsReal w.run s r (frame.Data p)
    real = i.stands.run.packets s r k frames (frame.Data p) wire there

    own : after_frame v.rank s (frame.Data p) ≡ with_inbox v.rank (after_arrival v.rank.inbox p)
    own = ap (λ b. if b then with_inbox v.rank (after_arrival v.rank.inbox p) else v.rank) (eq-eqb p.source s real.0)

    new : Live
    new = record { rank = after_frame v.rank s (frame.Data p); left = v.left }

    next : WorldValue
    next = with_rank w r (Some new)

    a : (answer : Reply) × (arrived_as (arrival_of v.rank s (frame.Data p)) ≡ Some answer)
    a = arrival_answers v.rank s (frame.Data p) w.run r real

    follows : ArriveFollows w s r k a.0 next
    follows = record { before = v; live = lv; frames = frames; wire = wire; frame = frame.Data p; there = there; answered = a.1; after = refl }

    mild : Milder start w next
    mild =
        milder_set start w next r v new (from_one start w (Arrive s r k) a.0 next i t needs follows) refl lv refl refl
        (ap (λ z. z.pending) own) (ap (λ z. z.clock) own)
        (λ q. (let e = ap (λ z. accepted_from z.inbox q) own in let m = arrival_more v.rank.inbox p q in omega (arith, e, m)))

-- ---- all that was sent

-- a rank that has made its acts of the run has sent all of the run's messages
all_sent : (w : WorldValue) (s r : ℕ) (u : Live) → IsWorld w → IsSettled w → IsLive w s u → s < size w → r < size w
    → (backlog u.rank.log r).sent ≡ length (sent w.run s r)
all_sent w s r u i settled lu ls lr =
    let x = settled s ls in
    let clock : u.rank.clock ≡ length (history w.run s) = ap (λ (z : Live). z.rank.clock) (one_live w s x.0 u x.1 lu) ∙ x.4 in
    (log_of w s r u i.stands lu lr).sent
    ∙ ap (λ h. length (sends_from 0 r h)) (ap (λ c. take c (history w.run s)) clock ∙ take_whole (history w.run s))

-- where nothing is outgoing, and the next packet to transmit isn't beyond the next that is accepted, all was accepted
pub gone_has : (w : WorldValue) (s r : ℕ) (u v : Live) → IsWorld w → IsSettled w → IsLive w s u → IsLive w r v → s < size w → r < size w → IsGone s r w
    → (backlog u.rank.log r).cursor ≤ accepted_from v.rank.inbox s + 1 → length (sent w.run s r) ≤ accepted_from v.rank.inbox s
gone_has w s r u v i settled lu lv ls lr gone near =
    let m = nothing_next s (accepted_from v.rank.inbox s) (sends_from 0 r (take u.rank.clock (history w.run s)))
    (sends_of (length (history w.run s)) r (rank_of i.stands s u lu).acts) (backlog u.rank.log r) (log_of w s r u i.stands lu lr)
    (none_next (due_to u.rank r).ask (due_to u.rank r).kept (next_of (backlog u.rank.log r)) (gone u lu))
    (above_of w s r u i.stands i.onward lu lr) (base_of w s r u v i.stands lu lv) near in
    let e = all_sent w s r u i settled lu ls lr in
    omega (arith, m, e)
