-- Nothing needed is gone: it follows from where ranks and images stand, and from what senders may drop. What a sender's base
-- lets go, the receiver's image has; what is above the base and was sent by the sender's first acts, the payload log keeps;
-- and what its later acts sent it sends again.
use Rattle.std.proofs.Common.{◌≡◌, ℕ, zero, suc, ◌+◌, ◌-◌, ◌<◌, ◌≤◌, ◌⊎◌, inl, inr, ⊎_elim, Bool, true, false, List, [], ◌∷◌, Option, Some, None}
use Rattle.std.proofs.Common.{length, take, refl, sym, ap, subst, ◌∙◌, arith, slice_get, ◌==◌}
use Rattle.std.proofs.lemmas.Bool.{cases_lt, cases_order}
use Rattle.std.proofs.lemmas.Option.{slice_get-get_or}
use Rattle.checkpoint.specs.Image.{ImageValue}
use Rattle.matching.specs.Inbox.{Mailbox}
use Rattle.payload_log.specs.Backlog.{BacklogValue, backlog, new_backlog}
use Rattle.rank_machine.specs.States.{State}
use Rattle.rank_machine.specs.Acts.{Act, Message, sends, takes, hits, misses, prints, carried}
use Rattle.rank_machine.specs.Machine.{MachineValue}
use Rattle.rank_node.specs.declared.frame.Frame.TheVariants as frame
use Rattle.rank_node.specs.Image.{begins_at}
use Rattle.crash_free.specs.Runs.{Passed, History, at_place, history, sent, sends_from, send_at, cons_if, continue}
use Rattle.bare_world.specs.World.{Live, WorldValue, size, IsLive, BeginsAt, covered}
use Rattle.bare_world.specs.Stands.{packet_of, packets_from, LogStands, LogsStand, sends_of, StandsIn, ImageStands, RankStands, start_at, BasesCovered}
use Rattle.bare_world.specs.Stands.{Stands}
use Rattle.bare_world.specs.Plain.{plain}
use Rattle.bare_world.proofs.Plain.Worlds.{rank_of}
use Rattle.bare_world.specs.Retained.{Needed, Retains, Holds, NothingGone}
use Rattle.bare_world.proofs.Lists.Beginnings.{get_dropped, packets_there}
use Rattle.bare_world.proofs.Headline.{stands_for, stands_acts}
use Rattle.bare_world.proofs.Standing.KeptByFrames.{send_more}
use Rattle.audit.proofs.Traces.{replicate_each}

-- ---- what the first acts sent

-- a message of acts after j acts has a clock above j
send_late : (j d : ℕ) (a : Act) (rest : List Message) (k : ℕ) (m : Message) → ((i : ℕ) → slice_get rest i ≡ Some m → j < m.clock)
    → slice_get (send_at (j + 1) d a rest) k ≡ Some m → j < m.clock
send_late j d (sends d' context t items) rest k m f e = go (d' == d) k e
  where
    go : (b : Bool) (k : ℕ) → slice_get (cons_if b (record { clock = j + 1; context = context; tag = t; items = items }) rest) k ≡ Some m → j < m.clock
    go false k e = f k e
    go true zero e =
        let q : record { clock = j + 1; context = context; tag = t; items = items } ≡ m = cc in
        let z : j + 1 ≡ m.clock = ap (λ y. y.clock) q in
        omega (arith, z)
    go true (suc k) e = f k e
send_late j d (takes s i) rest k m f e = f k e
send_late j d (hits s i) rest k m f e = f k e
send_late j d misses rest k m f e = f k e
send_late j d (prints v) rest k m f e = f k e

-- so has each of a history
sends_late : (j d : ℕ) (h : History) (k : ℕ) (m : Message) → slice_get (sends_from j d h) k ≡ Some m → j < m.clock
sends_late j d [] k m e = absurd cc
sends_late j d (x ∷ h) k m e =
    send_late j d x.0 (sends_from (j + 1) d h) k m (λ i f. (let b = sends_late (j + 1) d h i m f in omega (arith, b))) e

-- a message with a clock up to c is among what the first c acts sent, at its place
sent_early : (j d c : ℕ) (h : History) (k : ℕ) (m : Message) → slice_get (sends_from j d h) k ≡ Some m → m.clock ≤ j + c
    → slice_get (sends_from j d (take c h)) k ≡ Some m
sent_early j d c [] k m e l = absurd cc
sent_early j d zero (x ∷ h) k m e l = absurd (let b = sends_late j d (x ∷ h) k m e in omega (arith, l, b))
sent_early j d (suc c) (x ∷ h) k m e l =
    send_more j d x.0 (sends_from (j + 1) d h) (sends_from (j + 1) d (take c h)) k m (λ i f. sent_early (j + 1) d c h i m f (omega (arith, l))) e

-- the same by its number
placed_early : (d c : ℕ) (h : History) (k : ℕ) (m : Message) → at_place (sends_from 0 d h) k ≡ Some m → m.clock ≤ c
    → at_place (sends_from 0 d (take c h)) k ≡ Some m
placed_early d c h zero m e l = absurd cc
placed_early d c h (suc k) m e l = sent_early 0 d c h k m e (omega (arith, l))

-- ---- payload logs

-- what was sent above the base is kept, under its number
kept_above : (r : ℕ) (messages later : List Message) (b : BacklogValue) (k : ℕ) (m : Message) → LogStands r messages later b → b.base < k
    → at_place messages k ≡ Some m → (i : ℕ) × (slice_get b.kept i ≡ Some (packet_of r k m))
kept_above r messages later b zero m s l e = absurd cc
kept_above r messages later b (suc k) m s l e = (
  k - b.base,
  subst (λ z. slice_get z (k - b.base) ≡ Some (packet_of r (suc k) m)) (sym s.kept)
      (get_dropped b.base (packets_from r 0 messages) (k - b.base) (packet_of r (suc k) m)
      (let z : k ≡ b.base + (k - b.base) = omega arith in
      subst (λ j. slice_get (packets_from r 0 messages) j ≡ Some (packet_of r (suc k) m)) z
      (packets_there r 0 messages k m e ∙ (let y : 0 + k + 1 ≡ suc k = omega arith in ap (λ j. Some (packet_of r j m)) y)))),
)

-- a holder of which the base is covered retains what is needed: what waits isn't in the run, and nobody needs it
retains : (s : ℕ) (h : History) (c : ℕ) (acts : List Act) (log : List BacklogValue) (n r k : ℕ) (m : Message)
    → LogsStand s h c acts log → length log ≡ n → r < n → at_place (sends_from 0 r h) k ≡ Some m → (backlog log r).base < k → Retains c log s r k m
retains s h c acts log n r k m i logged lt there above = go (cases_lt c m.clock)
  where
    stands : LogStands s (sends_from 0 r (take c h)) (sends_of (length h) r acts) (backlog log r)
    stands = i r (backlog log r) (slice_get-get_or log r new_backlog (omega (arith, lt, logged)))

    go : (c < m.clock) ⊎ (m.clock ≤ c) → Retains c log s r k m
    go (inl l) = inl l
    go (inr l) =
        let x = kept_above s (sends_from 0 r (take c h)) (sends_of (length h) r acts) (backlog log r) k m stands above (placed_early r c h k m there l) in
        inr (record { packet = packet_of s k m; index = x.0; there = x.1; source = refl; number = refl; content = refl })

-- where the log has no entry for a rank nothing was let go
none_let_go : (log : List BacklogValue) (r : ℕ) → length log ≤ r → (backlog log r).base ≡ 0
none_let_go [] r l = refl
none_let_go (x ∷ xs) zero l = absurd (omega arith)
none_let_go (x ∷ xs) (suc r) l = none_let_go xs r (omega arith)

-- what is needed is above each base that is covered
below_needed : (w : WorldValue) (C : List Passed) (s r k : ℕ) (m : Message) (log : List BacklogValue) → Needed w C s r k m
    → BasesCovered w.images s log → (backlog log r).base < k
below_needed w C s r k m log needed bases = go (cases_lt r (length log))
  where
    go : (r < length log) ⊎ (length log ≤ r) → (backlog log r).base < k
    go (inl l) = (let a = bases r (backlog log r) (slice_get-get_or log r new_backlog l) in let b = needed.above in omega (arith, a, b))
    go (inr l) = (let a = none_let_go log r l in let b = needed.above in omega (arith, a, b))

-- ---- inboxes

-- a message has a number from 1 on
placed : (xs : List Message) (x : Message) (j : ℕ) → at_place xs j ≡ Some x → 1 ≤ j
placed xs x zero e = absurd cc
placed xs x (suc j) e = omega arith

-- an inbox that goes with a history holds what was accepted and isn't taken
holds : (start : State) (n r : ℕ) (C : List Passed) (h : History) (c : ℕ) (mv : MachineValue) (box : Mailbox) (log : List BacklogValue)
    → StandsIn start n r (λ s. sent C s r) h c mv box log → Holds C r (take c h) box
holds start n r C h c mv box log i =
    record {
      within = i.inbox.within;
      just = λ k p e. (placed (sent C p.source r) (carried p) p.number (i.inbox.real k p e), i.inbox.accepted k p e, i.inbox.untaken k p e, i.inbox.real k p e);
      all = i.inbox.each;
      once =
          λ k l p q e f s t. ⊎_elim (λ same. same)
          (λ o. absurd (⊎_elim (λ lt. let z = i.inbox.rising k l p q lt e f s in omega (arith, z, t))
          (λ gt. let z = i.inbox.rising l k q p gt f e (sym s) in omega (arith, z, t)) o))
          (cases_order k l);
    }

-- ---- the statement

module _ (w : WorldValue) (s : Stands w) where
  -- where a rank begins that starts again
  image_stands : (r : ℕ) (i : ImageValue) → BeginsAt w r i → ImageStands (start_at w (size w)) (size w) w.run r i
  image_stands r i b = subst (λ z. ImageStands (start_at w (size w)) (size w) w.run r z) (sym b.2) (s.run.images r b.0 b.1)

  -- its bases are covered
  image_bases : (r : ℕ) (i : ImageValue) → BeginsAt w r i → BasesCovered w.images r i.log
  image_bases r i b = subst (λ z. BasesCovered w.images r z.log) (sym b.2) (go b.0 b.1)
    where
      go : (o : Option ImageValue) → slice_get w.images r ≡ Some o → BasesCovered w.images r (begins_at w.program r (size w) o).log
      go None e d x at = subst (λ z. z.base ≤ covered w.images d r) (sym (replicate_each (size w) new_backlog d x at)) (omega arith)
      go (Some i) e d x at = s.covers.images r i e d x at

  -- a live rank retains what is needed
  live_retains : (q r k : ℕ) (m : Message) (v : Live) → Needed w w.run q r k m → IsLive w q v
      → RankStands (start_at w (size w)) (size w) w.run q (plain v) → Retains v.rank.clock v.rank.log q r k m
  live_retains q r k m v needed live i =
      retains q (history w.run q) v.rank.clock i.acts v.rank.log (size w) r k m i.logs i.at.logged needed.to needed.there
      (below_needed w w.run q r k m v.rank.log needed (s.covers.ranks q v live).bases)

  -- so does its image
  image_retains : (q r k : ℕ) (m : Message) (i : ImageValue) → Needed w w.run q r k m → BeginsAt w q i
      → ImageStands (start_at w (size w)) (size w) w.run q i → Retains i.clock i.log q r k m
  image_retains q r k m i needed b stands =
      retains q (history w.run q) i.clock [] i.log (size w) r k m stands.logs stands.at.logged needed.to needed.there
      (below_needed w w.run q r k m i.log needed (image_bases q i b))

  -- a live rank's inbox
  live_holds : (r : ℕ) (v : Live) (live : IsLive w r v)
      → Holds w.run r (take v.rank.clock (history (continue w.run r ((stands_for w s).ranks r v live).acts) r)) v.rank.inbox
  live_holds r v live =
      subst (λ z. Holds w.run r (take v.rank.clock (history (continue w.run r z) r)) v.rank.inbox) (sym (stands_acts w r v s live))
      (in_place r v (rank_of s r v live))
    where
      in_place : (r : ℕ) (v : Live) (i : RankStands (start_at w (size w)) (size w) w.run r (plain v))
          → Holds w.run r (take v.rank.clock (history (continue w.run r i.acts) r)) v.rank.inbox
      in_place r v i =
          holds (start_at w (size w) r) (size w) r w.run (history (continue w.run r i.acts) r) v.rank.clock v.rank.machine v.rank.inbox v.rank.log i.at

  -- the inbox of an image
  image_holds : (r : ℕ) (i : ImageValue) → BeginsAt w r i → Holds w.run r (take i.clock (history w.run r)) i.inbox
  image_holds r i b = holds (start_at w (size w) r) (size w) r w.run (history w.run r) i.clock i.machine i.inbox i.log (image_stands r i b).at

  -- the invariant says that nothing needed is gone
  pub nothing_gone : NothingGone w w.run
  nothing_gone = record {
    stands = stands_for w s;
    live = λ q r k m v needed live. live_retains q r k m v needed live (rank_of s q v live);
    images = λ q r k m i needed b. image_retains q r k m i needed b (image_stands q i b);
    kept = λ r q k upto frames at e. s.covers.wires r q k frames (frame.Kept upto) at e;
    live_inbox = live_holds;
    image_inbox = image_holds;
  }
