-- Each packet that a live rank transmitted and still keeps is on its wire: each event keeps that.
use Rattle.std.proofs.Common.{◌≡◌, ℕ, zero, suc, ◌<◌, ◌⊎◌, inl, inr, ⊎_elim, List, [], ◌∷◌, Option}
use Rattle.std.proofs.Common.{Some, None, length, refl, sym, ap, subst, ◌∙◌, arith, slice_get, slice_set}
use Rattle.std.proofs.lemmas.Bool.{cases_eq}
use Rattle.std.proofs.lemmas.List.{length-set}
use Rattle.std.proofs.lemmas.Option.{slice_get_within}
use Rattle.checkpoint.specs.Image.{ImageValue}
use Rattle.matching.specs.PacketValue as packet
use Rattle.payload_log.specs.Backlog.{BacklogValue, backlog, passed, next_of}
use Rattle.rank_language.specs.Program.{ProgramValue}
use Rattle.rank_machine.specs.Machine.{machine_want}
use Rattle.rank_node.specs.declared.frame.Frame.{Frame}
use Rattle.rank_node.specs.declared.frame.Frame.TheVariants as frame
use Rattle.rank_node.specs.Frames.{due_to, outgoing_of, sent_off}
use Rattle.rank_node.specs.Image.{begins_at}
use Rattle.bare_world.specs.declared.event.WorldEvent.{WorldEvent}
use Rattle.bare_world.specs.declared.event.WorldEvent.TheVariants.{Step, Put, Arrive, Store, Ack, Image, Crash, Restart, Release}
use Rattle.bare_world.specs.declared.reply.Reply.{Reply}
use Rattle.bare_world.specs.declared.reply.Reply.TheVariants as reply
use Rattle.bare_world.specs.World.{Live, WorldValue, size, IsLive}
use Rattle.bare_world.specs.Headline.{IsFresh}
use Rattle.bare_world.specs.Follows.{Happens, Follows, PutFollows, RestartFollows}
use Rattle.bare_world.specs.Memory.{Fetched, Unchanged}
use Rattle.bare_world.specs.Stands.{Stands}
use Rattle.bare_world.specs.Onward.{OnWire, Onward, Wired}
use Rattle.bare_world.proofs.Lists.Replaced.{slice_set-get}
use Rattle.bare_world.proofs.Onward.OneRankChanges.{WiresGrow, same_wires}
use Rattle.bare_world.proofs.Onward.KeptByFrames.{put_there, put_grows}
use Rattle.bare_world.proofs.Way.FramesPassNoRank.{who, log_of, packet_next}
use Rattle.bare_world.proofs.Way.Cursors.{next_number}
use Rattle.bare_world.proofs.Onward.KeepsNoMore.{Between, Narrower, narrow_step, narrow_replay, narrow_arrived, narrow_released, none_between, none_new}

-- ---- one rank changes

-- where that rank's packets between are on the wires
wired_changed : (w w' : WorldValue) (r : ℕ) (y : Live) → w'.ranks ≡ slice_set w.ranks r (Some y) → WiresGrow w w'
    → ((d j : ℕ) → d < size w → Between (backlog y.rank.log d) j → (p : packet.PacketValue) × OnWire w' r d (frame.Data p) × (p.number ≡ j))
    → Wired w → Wired w'
wired_changed w w' r y ranks grows here k s d j u live l low high = go (who w w' r y ranks s u live)
  where
    l' : d < size w
    l' = (let e = ap length ranks ∙ length-set w.ranks r (Some y) in omega (arith, l, e))

    go : ((s ≡ r) × (u ≡ y)) ⊎ ((s ≡ r → ⊥) × IsLive w s u) → (p : packet.PacketValue) × OnWire w' s d (frame.Data p) × (p.number ≡ j)
    go (inl h) =
        subst (λ z. (p : packet.PacketValue) × OnWire w' z d (frame.Data p) × (p.number ≡ j)) (sym h.0)
        (here d j l' (subst (λ (z : Live). Between (backlog z.rank.log d) j) h.1 (low, high)))
    go (inr h) =
        let p = k s d j u h.1 l' low high in
        (p.0, grows s d (frame.Data p.0) p.1, p.2)

-- where it has no more of them than it had
wired_narrow : (w w' : WorldValue) (r : ℕ) (v y : Live) → IsLive w r v → w'.ranks ≡ slice_set w.ranks r (Some y) → w'.wires ≡ w.wires
    → Narrower v.rank.log y.rank.log → Wired w → Wired w'
wired_narrow w w' r v y live ranks wires narrow k =
    wired_changed w w' r y ranks (same_wires w w' wires)
    (λ d j l h.
    (let b = narrow d j h in
    let p = k r d j v live l b.0 b.1 in
    (p.0, same_wires w w' wires r d (frame.Data p.0) p.1, p.2))) k

-- where it goes
wired_less : (w w' : WorldValue) (r : ℕ) → w'.ranks ≡ slice_set w.ranks r None → w'.wires ≡ w.wires → Wired w → Wired w'
wired_less w w' r ranks wires k s d j u live l low high =
    go (slice_set-get w.ranks r s (Some u) None (subst (λ z. slice_get z s ≡ Some (Some u)) ranks live))
  where
    go : ((s ≡ r) × (◌≡◌ {A = Option Live} (Some u) None)) ⊎ ((s ≡ r → ⊥) × (slice_get w.ranks s ≡ Some (Some u)))
        → (p : packet.PacketValue) × OnWire w' s d (frame.Data p) × (p.number ≡ j)
    go (inl h) = absurd (let q : ◌≡◌ {A = Option Live} (Some u) None = h.1 in cc)
    go (inr h) =
        let e = ap length ranks ∙ length-set w.ranks r None in
        let p = k s d j u h.1 (omega (arith, l, e)) low high in
        (p.0, same_wires w w' wires s d (frame.Data p.0) p.1, p.2)

-- ---- a frame is put

-- what stands at another place
other : (log : List BacklogValue) (d e : ℕ) (b : BacklogValue) → (e ≡ d → ⊥) → backlog (slice_set log d b) e ≡ backlog log e
other [] d e b ne = refl
other (x ∷ log) zero zero b ne = absurd (ne refl)
other (x ∷ log) zero (suc e) b ne = refl
other (x ∷ log) (suc d) zero b ne = refl
other (x ∷ log) (suc d) (suc e) b ne = other log d e b (λ q. ne (ap suc q))

-- at this place stands what was put there, or what stood there
either : (log : List BacklogValue) (d : ℕ) (b : BacklogValue) (j : ℕ) → Between (backlog (slice_set log d b) d) j → Between b j ⊎ Between (backlog log d) j
either [] d b j h = inr h
either (x ∷ log) zero b j h = inl h
either (x ∷ log) (suc d) b j h = either log d b j h

-- each frame
wired_put : (w : WorldValue) (s d : ℕ) (answer : Reply) (w' : WorldValue) → Stands w → Onward w → PutFollows w s d answer w' → d < size w → Wired w → Wired w'
wired_put w s d answer w' t o f ld k =
    wired_changed w w' s (record { rank = sent_off f.before.rank d (outgoing_of f.before.rank d); left = f.before.left }) (ap (λ z. z.ranks) f.after) grows
    (λ e j l h. here e j l (subst (λ q. Between (backlog (sent_off f.before.rank d q).log e) j) f.next h)) k
  where
    grows : WiresGrow w w'
    grows = put_grows w w' s d f.of_s f.frames f.frame f.wires f.wire (ap (λ z. z.wires) f.after)

    old : (e j : ℕ) → e < size w → Between (backlog f.before.rank.log e) j → (p : packet.PacketValue) × OnWire w' s e (frame.Data p) × (p.number ≡ j)
    old e j l h =
        let p = k s e j f.before f.live l h.0 h.1 in
        (p.0, grows s e (frame.Data p.0) p.1, p.2)

    here : (e j : ℕ) → e < size w → Between (backlog (sent_off f.before.rank d (Some f.frame)).log e) j
        → (p : packet.PacketValue) × OnWire w' s e (frame.Data p) × (p.number ≡ j)
    here e j l = go f.frame refl
      where
        go : (x : Frame) → f.frame ≡ x → Between (backlog (sent_off f.before.rank d (Some x)).log e) j
            → (p : packet.PacketValue) × OnWire w' s e (frame.Data p) × (p.number ≡ j)
        go (frame.Ask n) is h = old e j l h
        go (frame.Kept n) is h = old e j l h
        go (frame.Data p) is h = at (cases_eq e d)
          where
            at : (e ≡ d) ⊎ (e ≡ d → ⊥) → (p : packet.PacketValue) × OnWire w' s e (frame.Data p) × (p.number ≡ j)
            at (inr ne) = old e j l (subst (λ z. Between z j) (other f.before.rank.log d e (passed (backlog f.before.rank.log d)) ne) h)
            at (inl q) = last (cases_eq j (backlog f.before.rank.log d).cursor)
              where
                b : Between (passed (backlog f.before.rank.log d)) j ⊎ Between (backlog f.before.rank.log d) j
                b = either f.before.rank.log d (passed (backlog f.before.rank.log d)) j (subst (λ z. Between (backlog (slice_set f.before.rank.log d
                    (passed (backlog f.before.rank.log d))) z) j) q h)

                last : (j ≡ (backlog f.before.rank.log d).cursor) ⊎ (j ≡ (backlog f.before.rank.log d).cursor → ⊥)
                    → (p : packet.PacketValue) × OnWire w' s e (frame.Data p) × (p.number ≡ j)
                last (inl c) =
                    let next = packet_next (due_to f.before.rank d).ask (due_to f.before.rank d).kept (next_of (backlog f.before.rank.log d)) p
                    (f.next ∙ ap Some is) in
                    let number = next_number s _ _ (backlog f.before.rank.log d) p (log_of w s d f.before t f.live ld) ((o.ranks s f.before f.live).above d) next in (
                      p,
                      subst (λ z. OnWire w' s z (frame.Data p)) (sym q)
                          (subst (λ z. OnWire w' s d z) is (put_there w w' s d f.of_s f.frames f.frame f.wires f.wire (ap (λ z. z.wires) f.after))),
                      number ∙ sym c,
                    )
                last (inr c) = old e j l (subst (λ z. Between (backlog f.before.rank.log z) j) (sym q) (in_old b))
                  where
                    in_old : Between (passed (backlog f.before.rank.log d)) j ⊎ Between (backlog f.before.rank.log d) j → Between (backlog f.before.rank.log d) j
                    in_old (inr h) = h
                    in_old (inl h) = (let low = h.0 in let high = h.1 in (low, omega (arith, high, c)))

-- ---- each event

-- a rank that starts again
wired_restart : (w : WorldValue) (r : ℕ) (answer : Reply) (w' : WorldValue) → Onward w → RestartFollows w r answer w' → Wired w → Wired w'
wired_restart w r answer w' o f k =
    wired_changed w w' r _ (ap (λ z. z.ranks) f.after) (same_wires w w' (ap (λ z. z.wires) f.after))
    (λ d j l h. absurd (none f.begins.0 f.begins.1 d j (subst (λ (z : ImageValue). Between (backlog z.log d) j) f.begins.2 h))) k
  where
    none : (x : Option ImageValue) → slice_get w.images r ≡ Some x → (d j : ℕ) → Between (backlog (begins_at w.program r (size w) x).log d) j → ⊥
    none None e = none_new (size w)
    none (Some i) e = none_between i.log (λ d b is. o.images r d i b e is)

-- what happens keeps it
wired_happens : (w : WorldValue) (event : WorldEvent) (answer : Reply) (w' : WorldValue) → Happens w event answer w' → Stands w → Onward w → Wired w → Wired w'
wired_happens w (Step r) answer w' (inl f) t o k =
    wired_narrow w w' r f.before _ f.live (ap (λ z. z.ranks) f.after) (ap (λ z. z.wires) f.after)
    (narrow_step f.before.rank (machine_want f.before.rank.machine) f.machine) k
wired_happens w (Step r) answer w' (inr f) t o k =
    wired_narrow w w' r f.before _ f.live (ap (λ z. z.ranks) f.after) (ap (λ z. z.wires) f.after)
    (narrow_replay f.before.rank f.event (machine_want f.before.rank.machine) f.machine) k
wired_happens w (Put s d) answer w' f t o k =
    let l = slice_get_within f.of_s d f.frames f.wire in
    let e = t.run.wires_to_all s f.of_s f.wires in
    wired_put w s d answer w' t o f (omega (arith, l, e)) k
wired_happens w (Arrive s d i) answer w' f t o k =
    wired_narrow w w' d f.before _ f.live (ap (λ z. z.ranks) f.after) (ap (λ z. z.wires) f.after) (narrow_arrived f.before.rank s f.frame) k
wired_happens w (Store r) answer w' f t o k =
    wired_narrow w w' r f.before _ f.live (ap (λ z. z.ranks) f.after) (ap (λ z. z.wires) f.after) (λ d j h. h) k
wired_happens w (Ack r) answer w' f t o k =
    wired_narrow w w' r f.before _ f.live (ap (λ z. z.ranks) f.after) (ap (λ z. z.wires) f.after) (λ d j h. h) k
wired_happens w (Image r) answer w' f t o k =
    wired_narrow w w' r f.before _ f.live (ap (λ z. z.ranks) f.after) (ap (λ z. z.wires) f.after) (λ d j h. h) k
wired_happens w (Crash r) answer w' f t o k = wired_less w w' r (ap (λ z. z.ranks) f.after) (ap (λ z. z.wires) f.after) k
wired_happens w (Restart r) answer w' f t o k = wired_restart w r answer w' o f k
wired_happens w (Release r) answer w' f t o k =
    wired_narrow w w' r f.before _ f.live (ap (λ z. z.ranks) f.after) (ap (λ z. z.wires) f.after) (narrow_released f.before.rank.log f.effect) k

-- each event keeps it
pub wired_after : (w : WorldValue) (event : WorldEvent) (answer : Reply) (w' : WorldValue) → Follows w event answer w' → Stands w → Onward w → Wired w → Wired w'
wired_after w event answer w' f t o k = go answer f
  where
    go : (x : Reply) → Follows w event x w' → Wired w'
    go reply.Refused h = subst (λ z. Wired z) (sym h.1) k
    go reply.Moved h = wired_happens w event reply.Moved w' h t o k
    go reply.Blocked h = wired_happens w event reply.Blocked w' h t o k
    go reply.Held h = wired_happens w event reply.Held w' h t o k
    go reply.Ended h = wired_happens w event reply.Ended w' h t o k
    go (reply.PutData index number) h = wired_happens w event (reply.PutData index number) w' h t o k
    go (reply.PutAsk index from) h = wired_happens w event (reply.PutAsk index from) w' h t o k
    go (reply.PutKept index upto) h = wired_happens w event (reply.PutKept index upto) w' h t o k
    go reply.Accepted h = wired_happens w event reply.Accepted w' h t o k
    go reply.Repeated h = wired_happens w event reply.Repeated w' h t o k
    go reply.Gap h = wired_happens w event reply.Gap w' h t o k
    go reply.Noted h = wired_happens w event reply.Noted w' h t o k
    go (reply.Stored count) h = wired_happens w event (reply.Stored count) w' h t o k
    go reply.Acked h = wired_happens w event reply.Acked w' h t o k
    go reply.Imaged h = wired_happens w event reply.Imaged w' h t o k
    go reply.Crashed h = wired_happens w event reply.Crashed w' h t o k
    go (reply.Restarted count) h = wired_happens w event (reply.Restarted count) w' h t o k
    go (reply.Released clock) h = wired_happens w event (reply.Released clock) w' h t o k

-- a fetch that was answered leaves it
fetched_wired : (w : WorldValue) (r : ℕ) (w' : WorldValue) → Fetched w r w' → Wired w → Wired w'
fetched_wired w r w' f k = subst (λ z. Wired z) (sym f.after) (λ s d j u live l low high. k s d j u live l low high)

-- refused memory leaves it
pub wired_unchanged : (w : WorldValue) (event : WorldEvent) (w' : WorldValue) → Unchanged w event w' → Wired w → Wired w'
wired_unchanged w (Restart r) w' u k = ⊎_elim (λ e. subst (λ z. Wired z) (sym e) k) (λ f. fetched_wired w r w' f k) u
wired_unchanged w (Step r) w' u k = subst (λ z. Wired z) (sym u) k
wired_unchanged w (Put s d) w' u k = subst (λ z. Wired z) (sym u) k
wired_unchanged w (Arrive s d i) w' u k = subst (λ z. Wired z) (sym u) k
wired_unchanged w (Store r) w' u k = subst (λ z. Wired z) (sym u) k
wired_unchanged w (Ack r) w' u k = subst (λ z. Wired z) (sym u) k
wired_unchanged w (Image r) w' u k = subst (λ z. Wired z) (sym u) k
wired_unchanged w (Crash r) w' u k = subst (λ z. Wired z) (sym u) k
wired_unchanged w (Release r) w' u k = subst (λ z. Wired z) (sym u) k

-- ---- a new world

-- in a new world nothing was transmitted
pub wired_fresh : (program : ProgramValue) (n : ℕ) (w : WorldValue) → IsFresh program n w → Wired w
wired_fresh program n w f s d j u live l low high =
    absurd (none_new n d j (subst (λ (z : Live). Between (backlog z.rank.log d) j) (f.ranks s (Some u) live).0 (low, high)))
