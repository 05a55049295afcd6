-- What may be lost may be lost still, as long as no rank crashes: a rank that is down asks all others once it starts again, and an Ask
-- stays due until it is on its wire, where it stays.
use Rattle.std.proofs.Common.{◌≡◌, ℕ, ◌+◌, ◌<◌, ◌≤◌, ◌⊎◌, inl, inr, Bool, true, false, ◌==◌, if◌then◌else◌, Option, Some, None}
use Rattle.std.proofs.Common.{length, refl, sym, ap, subst, ◌∙◌, arith, slice_get, slice_set, slice_index, slice_index_or}
use Rattle.std.proofs.lemmas.Bool.{cases_eq}
use Rattle.std.proofs.lemmas.List.{get_or-set_other}
use Rattle.matching.specs.Inbox.{accepted_from, after_arrival}
use Rattle.payload_log.specs.Backlog.{backlog, next_of}
use Rattle.rank_machine.specs.Machine.{machine_want}
use Rattle.rank_node.specs.declared.due.Due.{Due}
use Rattle.rank_node.specs.declared.frame.Frame.{Frame}
use Rattle.rank_node.specs.declared.frame.Frame.TheVariants as frame
use Rattle.rank_node.specs.Node.{no_due}
use Rattle.rank_node.specs.Frames.{due_to, with_inbox, with_dues, sent_off, after_passed, after_frame}
use Rattle.bare_world.specs.declared.event.WorldEvent.{WorldEvent}
use Rattle.bare_world.specs.declared.event.WorldEvent.TheVariants.{Step, Put, Arrive, Store, Ack, Image, Crash, Restart, Release}
use Rattle.bare_world.specs.declared.reply.Reply.{Reply}
use Rattle.bare_world.specs.World.{Rank, Live, WorldValue, size, IsLive}
use Rattle.bare_world.specs.Follows.{Happens, PutFollows, RestartFollows}
use Rattle.bare_world.specs.Onward.{OnWire, IsWorld}
use Rattle.bare_world.specs.ToTheEnd.{IsNoCrash, MayBeLost}
use Rattle.bare_world.proofs.Covers.KeptByEvents.{arrival_more}
use Rattle.bare_world.proofs.Calls.RankOfEvent.{one_live}
use Rattle.bare_world.proofs.Onward.OneRankChanges.{WiresGrow, same_wires}
use Rattle.bare_world.proofs.Onward.KeptByFrames.{put_there, put_grows, ask_next, due_set}
use Rattle.bare_world.proofs.Onward.KeptByImages.{kepts_ask}
use Rattle.bare_world.proofs.Onward.KeptByPasses.{asks_all, begun}
use Rattle.bare_world.proofs.Onward.KeptBySteps.{stepped_all, turned_replayed}
use Rattle.bare_world.proofs.Lists.Places.{set_get_same, set_get_other}

-- ---- one rank changes

-- the rank has accepted no less, and each Ask that was due is due still or on its wire
record Asking (w' : WorldValue) (r : ℕ) (v y : Rank) : Type 0 where
  accepted : (s : ℕ) → accepted_from v.inbox s ≤ accepted_from y.inbox s
  asks : (s from : ℕ) → (due_to v s).ask ≡ Some from → ((due_to y s).ask ≡ Some from) ⊎ OnWire w' r s (frame.Ask from)

-- where nothing changes of that
asking_same : (w' : WorldValue) (r : ℕ) (v y : Rank) → y.inbox.accepted ≡ v.inbox.accepted → y.dues ≡ v.dues → Asking w' r v y
asking_same w' r v y accepted dues =
    record {
      accepted = λ s. (let e = ap (λ z. slice_index z s) accepted in omega (arith, e));
      asks = λ s from e. inl (ap (λ z. (slice_index_or z s no_due).ask) dues ∙ e);
    }

-- what may be lost on the way to another rank than the one that changes
lost_other : (w w' : WorldValue) (r : ℕ) (o : Option Live) → w'.ranks ≡ slice_set w.ranks r o → WiresGrow w w' → (s d : ℕ) → (d ≡ r → ⊥)
    → MayBeLost w s d → MayBeLost w' s d
lost_other w w' r o ranks grows s d ne (inl down) = inl (ap (λ z. slice_get z d) ranks ∙ set_get_other w.ranks r d o ne ∙ down)
lost_other w w' r o ranks grows s d ne (inr a) =
    inr (a.0, ap (λ z. slice_get z d) ranks ∙ set_get_other w.ranks r d o ne ∙ a.1, (a.2.0, a.2.1, go a.2.2))
  where
    go : ((due_to a.0.rank s).ask ≡ Some a.2.0) ⊎ OnWire w d s (frame.Ask a.2.0) → ((due_to a.0.rank s).ask ≡ Some a.2.0) ⊎ OnWire w' d s (frame.Ask a.2.0)
    go (inl due) = inl due
    go (inr on) = inr (grows d s (frame.Ask a.2.0) on)

-- or to that one
lost_same : (w w' : WorldValue) (r : ℕ) (v y : Live) → IsLive w r v → w'.ranks ≡ slice_set w.ranks r (Some y) → WiresGrow w w'
    → Asking w' r v.rank y.rank → (s : ℕ) → MayBeLost w s r → MayBeLost w' s r
lost_same w w' r v y live ranks grows k s (inl down) = absurd (let q : Some (Some v) ≡ Some None = sym live ∙ down in cc)
lost_same w w' r v y live ranks grows k s (inr a) =
    inr (y, ap (λ z. slice_get z r) ranks ∙ set_get_same w.ranks r (Some v) (Some y) live, (a.2.0, low, go a.2.2))
  where
    same : a.0 ≡ v
    same = one_live w r v a.0 live a.1

    low : a.2.0 ≤ accepted_from y.rank.inbox s + 1
    low =
        let l = a.2.1 in
        let e = ap (λ (z : Live). accepted_from z.rank.inbox s) same in
        let m = k.accepted s in
        omega (arith, l, e, m)

    go : ((due_to a.0.rank s).ask ≡ Some a.2.0) ⊎ OnWire w r s (frame.Ask a.2.0) → ((due_to y.rank s).ask ≡ Some a.2.0) ⊎ OnWire w' r s (frame.Ask a.2.0)
    go (inl due) = k.asks s a.2.0 (ap (λ (z : Live). (due_to z.rank s).ask) (sym same) ∙ due)
    go (inr on) = inr (grows r s (frame.Ask a.2.0) on)

-- so to any
lost_set : (w w' : WorldValue) (r : ℕ) (v y : Live) → IsLive w r v → w'.ranks ≡ slice_set w.ranks r (Some y) → WiresGrow w w'
    → Asking w' r v.rank y.rank → (s d : ℕ) → MayBeLost w s d → MayBeLost w' s d
lost_set w w' r v y live ranks grows k s d lost = go (cases_eq d r)
  where
    go : (d ≡ r) ⊎ (d ≡ r → ⊥) → MayBeLost w' s d
    go (inl e) =
        subst (λ z. MayBeLost w' s z) (sym e) (lost_same w w' r v y live ranks grows k s (subst (λ z. MayBeLost w s z) e lost))
    go (inr ne) = lost_other w w' r (Some y) ranks grows s d ne lost

-- ---- frames

-- a frame is put: an Ask that was due is on the wire then
asking_put : (w : WorldValue) (s d : ℕ) (answer : Reply) (w' : WorldValue) (f : PutFollows w s d answer w')
    → Asking w' s f.before.rank (after_passed f.before.rank d)
asking_put w s d answer w' f =
    subst (λ q. Asking w' s f.before.rank (sent_off f.before.rank d q)) (sym f.next) (go f.frame refl)
  where
    gone : (x : Due) → ((q from : ℕ) → (due_to f.before.rank q).ask ≡ Some from
        → ((slice_index_or (slice_set f.before.rank.dues d x) q no_due).ask ≡ Some from) ⊎ OnWire w' s q (frame.Ask from))
        → Asking w' s f.before.rank (with_dues f.before.rank (slice_set f.before.rank.dues d x))
    gone x asks = record { accepted = λ q. omega arith; asks = asks }

    go : (x : Frame) → f.frame ≡ x → Asking w' s f.before.rank (sent_off f.before.rank d (Some x))
    go (frame.Data p) e = asking_same w' s f.before.rank (sent_off f.before.rank d (Some (frame.Data p))) refl refl
    go (frame.Kept upto) e =
        gone (record { ask = (due_to f.before.rank d).ask; kept = None })
        (λ q from h. inl (due_set f.before.rank.dues d q from (record { ask = (due_to f.before.rank d).ask; kept = None })
        (λ y. ap (λ z. (due_to f.before.rank z).ask) (sym y) ∙ h) h))
    go (frame.Ask n) e =
        gone (record { ask = None; kept = (due_to f.before.rank d).kept }) (λ q from h. asks q from h (cases_eq q d))
      where
        asks : (q from : ℕ) → (due_to f.before.rank q).ask ≡ Some from → (q ≡ d) ⊎ (q ≡ d → ⊥)
            → ((slice_index_or (slice_set f.before.rank.dues d (record { ask = None; kept = (due_to f.before.rank d).kept })) q no_due).ask ≡ Some from)
            ⊎ OnWire w' s q (frame.Ask from)
        asks q from h (inr ne) =
            inl (ap (λ z. z.ask) (get_or-set_other f.before.rank.dues d q (record { ask = None; kept = (due_to f.before.rank d).kept }) no_due ne) ∙ h)
        asks q from h (inl y) =
            let here : (due_to f.before.rank d).ask ≡ Some from = ap (λ z. (due_to f.before.rank z).ask) (sym y) ∙ h in
            let is : f.frame ≡ frame.Ask from =
            ask_next (due_to f.before.rank d).ask (due_to f.before.rank d).kept (next_of (backlog f.before.rank.log d)) from f.frame here f.next in
            inr (subst (λ z. OnWire w' s z (frame.Ask from)) (sym y)
            (subst (λ z. OnWire w' s d z) is (put_there w w' s d f.of_s f.frames f.frame f.wires f.wire (ap (λ z. z.wires) f.after))))

-- a frame arrives: the rank has accepted no less
asking_arrived : (w' : WorldValue) (d : ℕ) (v : Rank) (s : ℕ) (f : Frame) → Asking w' d v (after_frame v s f)
asking_arrived w' d v s (frame.Ask n) = asking_same w' d v (after_frame v s (frame.Ask n)) refl refl
asking_arrived w' d v s (frame.Kept n) = asking_same w' d v (after_frame v s (frame.Kept n)) refl refl
asking_arrived w' d v s (frame.Data p) = go (p.source == s)
  where
    go : (b : Bool) → Asking w' d v (if b then with_inbox v (after_arrival v.inbox p) else v)
    go true = record { accepted = λ q. arrival_more v.inbox p q; asks = λ q from e. inl e }
    go false = asking_same w' d v v refl refl

-- ---- a restart

-- the rank that was down asks each rank
lost_restarted : (w : WorldValue) (r : ℕ) (answer : Reply) (w' : WorldValue) → IsWorld w → RestartFollows w r answer w' → (s d : ℕ) → s < size w
    → MayBeLost w s d → MayBeLost w' s d
lost_restarted w r answer w' i f s d l lost = go (cases_eq d r)
  where
    counted : length f.image.inbox.accepted ≡ size w
    counted = ap (λ z. length z.inbox.accepted) f.begins.2 ∙ (i.stands.run.images r f.begins.0 f.begins.1).at.counted

    go : (d ≡ r) ⊎ (d ≡ r → ⊥) → MayBeLost w' s d
    go (inr ne) =
        lost_other w w' r (Some (begun (size w) r f.shelf f.image f.events)) (ap (λ z. z.ranks) f.after) (same_wires w w' (ap (λ z. z.wires) f.after)) s d ne lost
    go (inl e) =
        subst (λ z. MayBeLost w' s z) (sym e)
        (inr (
          begun (size w) r f.shelf f.image f.events,
          ap (λ z. slice_get z.ranks r) f.after ∙ set_get_same w.ranks r None (Some (begun (size w) r f.shelf f.image f.events)) f.down,
          (accepted_from f.image.inbox s + 1, omega arith, inl (asks_all f.image.inbox.accepted s (omega (arith, l, counted)))),
        ))

-- ---- each event

-- after any event but a crash
pub lost_after : (w : WorldValue) (event : WorldEvent) (answer : Reply) (w' : WorldValue) → IsWorld w → IsNoCrash event → Happens w event answer w'
    → (s d : ℕ) → s < size w → MayBeLost w s d → MayBeLost w' s d
lost_after w (Step r) answer w' i mild (inl f) s d l =
    let t = (stepped_all f.before.rank (machine_want f.before.rank.machine) f.machine f.allowed).turned in
    lost_set w w' r f.before _ f.live (ap (λ z. z.ranks) f.after) (same_wires w w' (ap (λ z. z.wires) f.after))
    (asking_same w' r f.before.rank _ t.accepted t.dues) s d
lost_after w (Step r) answer w' i mild (inr f) s d l =
    let t = turned_replayed f.before.rank f.event (machine_want f.before.rank.machine) f.machine in
    lost_set w w' r f.before _ f.live (ap (λ z. z.ranks) f.after) (same_wires w w' (ap (λ z. z.wires) f.after))
    (asking_same w' r f.before.rank _ t.accepted t.dues) s d
lost_after w (Put q e) answer w' i mild f s d l =
    lost_set w w' q f.before (record { rank = after_passed f.before.rank e; left = f.before.left }) f.live (ap (λ z. z.ranks) f.after)
    (put_grows w w' q e f.of_s f.frames f.frame f.wires f.wire (ap (λ z. z.wires) f.after)) (asking_put w q e answer w' f) s d
lost_after w (Arrive q e k) answer w' i mild f s d l =
    lost_set w w' e f.before (record { rank = after_frame f.before.rank q f.frame; left = f.before.left }) f.live (ap (λ z. z.ranks) f.after)
    (same_wires w w' (ap (λ z. z.wires) f.after)) (asking_arrived w' e f.before.rank q f.frame) s d
lost_after w (Store r) answer w' i mild f s d l =
    lost_set w w' r f.before _ f.live (ap (λ z. z.ranks) f.after) (same_wires w w' (ap (λ z. z.wires) f.after))
    (asking_same w' r f.before.rank _ refl refl) s d
lost_after w (Ack r) answer w' i mild f s d l =
    lost_set w w' r f.before _ f.live (ap (λ z. z.ranks) f.after) (same_wires w w' (ap (λ z. z.wires) f.after))
    (asking_same w' r f.before.rank _ refl refl) s d
lost_after w (Image r) answer w' i mild f s d l =
    lost_set w w' r f.before _ f.live (ap (λ z. z.ranks) f.after) (same_wires w w' (ap (λ z. z.wires) f.after))
    (record { accepted = λ q. omega arith; asks = λ q from e. inl (kepts_ask f.before.rank.inbox.accepted f.before.rank.dues q ∙ e) }) s d
lost_after w (Crash r) answer w' i mild f s d l = absurd mild
lost_after w (Restart r) answer w' i mild f s d l = lost_restarted w r answer w' i f s d l
lost_after w (Release r) answer w' i mild f s d l =
    lost_set w w' r f.before _ f.live (ap (λ z. z.ranks) f.after) (same_wires w w' (ap (λ z. z.wires) f.after))
    (asking_same w' r f.before.rank _ refl refl) s d
