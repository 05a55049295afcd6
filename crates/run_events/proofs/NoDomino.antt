-- Why there is no domino effect: each event changes one rank, whose clock falls only if it crashes, and adds acts to the run.
use Rattle.std.proofs.Common.{◌≡◌, ℕ, zero, suc, ◌+◌, ◌≤◌, ◌⊎◌, inl, inr, Bool, true, false, if◌then◌else◌, List, [], ◌∷◌, ◌++◌, Option, Some, None}
use Rattle.std.proofs.Common.{refl, sym, ap, subst, ◌∙◌, arith, slice_get, slice_set, replicate, ◌==◌, append_assoc}
use Rattle.std.proofs.lemmas.Bool.{cases_eq, cases_Bool}
use Rattle.std.proofs.lemmas.List.{append-nil}
use Rattle.checkpoint.specs.Image.{ImageValue}
use Rattle.matching.specs.PacketValue as packet
use Rattle.matching.specs.Inbox.{after_arrival}
use Rattle.event_logger.specs.Sequential.Event.{EventValue}
use Rattle.event_logger.specs.declared.sequential.kind.Kind.{Kind}
use Rattle.event_logger.specs.declared.sequential.kind.Kind.TheVariants as kind
use Rattle.rank_language.specs.Program.{ProgramValue}
use Rattle.rank_machine.specs.declared.want.Want.{Want}
use Rattle.rank_machine.specs.declared.want.Want.TheVariants as want
use Rattle.rank_machine.specs.Machine.{MachineValue, machine_want}
use Rattle.rank_node.specs.declared.frame.Frame.{Frame}
use Rattle.rank_node.specs.declared.frame.Frame.TheVariants as frame
use Rattle.rank_node.specs.Image.{begins_at, image_of, after_image}
use Rattle.rank_node.specs.Waiting.{has_room, is_settled}
use Rattle.rank_node.specs.Steps.{found, received, probed, tried, step_at, after_send, after_hold, after_print, after_wait}
use Rattle.rank_node.specs.Frames.{outgoing_of, sent_off, after_frame, with_inbox}
use Rattle.rank_node.specs.Replay.{named, replayed_at, taken_named, shown_named, tried_named}
use Rattle.crash_free.specs.Runs.{Passed, history}
use Rattle.crash_free.specs.Parts.{IsBeginning, IsPartOf}
use Rattle.crash_free.proofs.Reorder.{IsBeginning-trans, history_grows}
use Rattle.bare_world.specs.declared.event.WorldEvent.{WorldEvent}
use Rattle.bare_world.specs.declared.event.WorldEvent.TheVariants.{Step, Put, Arrive, Store, Ack, Image, Crash, Restart, Release}
use Rattle.bare_world.specs.declared.reply.Reply.{Reply}
use Rattle.bare_world.specs.declared.reply.Reply.TheVariants as reply
use Rattle.bare_world.specs.World.{Rank, Live, WorldValue, size, IsLive}
use Rattle.bare_world.specs.Headline.{IsFresh, stable_of}
use Rattle.bare_world.specs.Follows.{Happens, Follows}
use Rattle.bare_world.specs.Finished.{IsAfter, leaves_all}
use Rattle.bare_world.specs.Sequences.{FollowsAll}
use Rattle.bare_world.proofs.Alike.OneEventMore.{happened}
use Rattle.bare_world.proofs.Ending.LeadsOn.{later_after, program_after, size_same}
use Rattle.bare_world.proofs.Ending.LeavesAll.{leaves}
use Rattle.bare_world.proofs.Lists.Places.{set_get_same, set_get_other, one_there}
use Rattle.bare_world.proofs.Lists.Replaced.{slice_set-get}
use Rattle.run_events.specs.NoDomino.{IsCrashOf, HasNoCrashOf, IsNotTakenBack, image_clock, AreAboveImages, NoDomino}

-- ---- clocks

-- a rank that makes a send or a print, at once or later
made_clock : (v a b : Rank) → a.clock ≡ v.clock + 1 → b.clock ≡ v.clock + 1 → (settled room : Bool)
    → v.clock ≤ (if room then (if settled then a else b) else v).clock
made_clock v a b x y true true = omega (arith, x)
made_clock v a b x y false true = omega (arith, y)
made_clock v a b x y true false = omega arith
made_clock v a b x y false false = omega arith

-- the clock doesn't fall at a step that isn't replayed
step_clock : (v : Rank) (x : Want) (m : MachineValue) → v.clock ≤ (step_at v x m).clock
step_clock v want.Internal m = omega arith
step_clock v (want.Send d c t) m = made_clock v (after_send v m d c t) (after_hold v m d c t) refl refl (is_settled v.pending) (has_room v.pending)
step_clock v (want.Print z) m = made_clock v (after_print v m) (after_wait v m z) refl refl (is_settled v.pending) (has_room v.pending)
step_clock v want.Halted m = omega arith
step_clock v (want.Faulted k) m = omega arith
step_clock v (want.Receive s) m = go (found s v.inbox.packets)
  where
    go : (o : Option (ℕ × packet.PacketValue)) → v.clock ≤ (received v m o).clock
    go None = omega arith
    go (Some f) = omega arith
step_clock v (want.Probe s) m = go (found s v.inbox.packets)
  where
    go : (o : Option (ℕ × packet.PacketValue)) → v.clock ≤ (probed v m o).clock
    go None = omega arith
    go (Some f) = omega arith
step_clock v (want.TryProbe s) m = go (found s v.inbox.packets)
  where
    go : (o : Option (ℕ × packet.PacketValue)) → v.clock ≤ (tried v m o).clock
    go None = omega arith
    go (Some f) = omega arith

-- nor where a named packet is shown
shown_clock : (v : Rank) (m : MachineValue) (o : Option (ℕ × packet.PacketValue)) → v.clock ≤ (shown_named v m o).clock
shown_clock v m None = omega arith
shown_clock v m (Some f) = omega arith

-- nor at a step that is replayed
replay_clock : (v : Rank) (e : EventValue) (x : Want) (m : MachineValue) → v.clock ≤ (replayed_at v e x m).clock
replay_clock v e want.Internal m = omega arith
replay_clock v e (want.Send d c t) m = omega arith
replay_clock v e (want.Print z) m = omega arith
replay_clock v e want.Halted m = omega arith
replay_clock v e (want.Faulted k) m = omega arith
replay_clock v e (want.Probe s) m = shown_clock v m (named v e)
replay_clock v e (want.Receive s) m = go (named v e)
  where
    go : (o : Option (ℕ × packet.PacketValue)) → v.clock ≤ (taken_named v m o).clock
    go None = omega arith
    go (Some f) = omega arith
replay_clock v e (want.TryProbe s) m = go e.kind
  where
    go : (k : Kind) → v.clock ≤ (tried_named v m (named v e) k).clock
    go kind.Reception = omega arith
    go kind.Hit = shown_clock v m (named v e)
    go kind.Miss = omega arith
    go kind.Misses = omega arith

-- a frame that is put leaves it
put_clock : (v : Rank) (d : ℕ) (o : Option Frame) → (sent_off v d o).clock ≡ v.clock
put_clock v d None = refl
put_clock v d (Some (frame.Ask n)) = refl
put_clock v d (Some (frame.Kept n)) = refl
put_clock v d (Some (frame.Data p)) = refl

-- so does one that arrives
arrive_clock : (v : Rank) (s : ℕ) (f : Frame) → (after_frame v s f).clock ≡ v.clock
arrive_clock v s (frame.Ask n) = refl
arrive_clock v s (frame.Kept n) = refl
arrive_clock v s (frame.Data p) = go (p.source == s)
  where
    go : (b : Bool) → (if b then with_inbox v (after_arrival v.inbox p) else v).clock ≡ v.clock
    go true = refl
    go false = refl

-- what is the same doesn't fall
not_lower : (m n : ℕ) → n ≡ m → m ≤ n
not_lower m n e = omega (arith, e)

-- ---- one rank changes

-- the rank that changes, if it was live, is live still, and has made at least as many acts
abbrev Advances : WorldValue → ℕ → Option Live → Type 0
Advances w r o = (v : Live) → IsLive w r v → (later : Live) × (o ≡ Some later) × (v.rank.clock ≤ later.rank.clock)

-- a rank that gets this value
advances : (w : WorldValue) (r : ℕ) (x y : Live) → IsLive w r x → x.rank.clock ≤ y.rank.clock → Advances w r (Some y)
advances w r x y live le v here =
    let same : Some x ≡ Some v = one_there (Some x) (Some v) (slice_get w.ranks r) live here in
    let q : x ≡ v = cc in
    (y, refl, subst (λ (z : Live). z.rank.clock ≤ y.rank.clock) q le)

-- so is each other
not_taken_back : (w w' : WorldValue) (r : ℕ) (o : Option Live) → w'.ranks ≡ slice_set w.ranks r o
    → (q : ℕ) → (q ≡ r → Advances w r o) → IsNotTakenBack q w w'
not_taken_back w w' r o ranks q on v live = go (cases_eq q r)
  where
    go : (q ≡ r) ⊎ (q ≡ r → ⊥) → (later : Live) × IsLive w' q later × (v.rank.clock ≤ later.rank.clock)
    go (inl e) =
        let here : IsLive w r v = subst (λ k. IsLive w k v) e live in
        let more = on e v here in
        let at : slice_get (slice_set w.ranks r o) r ≡ Some o = set_get_same w.ranks r (Some v) o here in (
          more.0,
          subst (λ z. slice_get z q ≡ Some (Some more.0)) (sym ranks)
              (subst (λ k. slice_get (slice_set w.ranks r o) k ≡ Some (Some more.0)) (sym e) (at ∙ ap Some more.1)),
          more.2,
        )
    go (inr ne) = (v, subst (λ z. slice_get z q ≡ Some (Some v)) (sym ranks) (set_get_other w.ranks r q o ne ∙ live), omega arith)

-- no event takes back a rank that it doesn't crash
none_taken_back : (w : WorldValue) (event : WorldEvent) (answer : Reply) (w' : WorldValue) → Happens w event answer w'
    → (q : ℕ) → (IsCrashOf q event → ⊥) → IsNotTakenBack q w w'
none_taken_back w (Step r) answer w' (inl f) q other =
    not_taken_back w w' r _ (ap (λ z. z.ranks) f.after) q
    (λ e. advances w r f.before _ f.live (step_clock f.before.rank (machine_want f.before.rank.machine) f.machine))
none_taken_back w (Step r) answer w' (inr f) q other =
    not_taken_back w w' r _ (ap (λ z. z.ranks) f.after) q
    (λ e. advances w r f.before _ f.live (replay_clock f.before.rank f.event (machine_want f.before.rank.machine) f.machine))
none_taken_back w (Put s d) answer w' f q other =
    not_taken_back w w' s _ (ap (λ z. z.ranks) f.after) q
    (λ e. advances w s f.before _ f.live (not_lower _ _ (put_clock f.before.rank d (outgoing_of f.before.rank d))))
none_taken_back w (Arrive s d i) answer w' f q other =
    not_taken_back w w' d _ (ap (λ z. z.ranks) f.after) q (λ e. advances w d f.before _ f.live (not_lower _ _ (arrive_clock f.before.rank s f.frame)))
none_taken_back w (Store r) answer w' f q other =
    not_taken_back w w' r _ (ap (λ z. z.ranks) f.after) q (λ e. advances w r f.before _ f.live (omega arith))
none_taken_back w (Ack r) answer w' f q other =
    not_taken_back w w' r _ (ap (λ z. z.ranks) f.after) q (λ e. advances w r f.before _ f.live (omega arith))
none_taken_back w (Image r) answer w' f q other =
    not_taken_back w w' r _ (ap (λ z. z.ranks) f.after) q (λ e. advances w r f.before _ f.live (omega arith))
none_taken_back w (Crash r) answer w' f q other = not_taken_back w w' r None (ap (λ z. z.ranks) f.after) q (λ e. absurd (other (sym e)))
none_taken_back w (Restart r) answer w' f q other =
    not_taken_back w w' r _ (ap (λ z. z.ranks) f.after) q (λ e v here. absurd (let d = f.down in cc))
none_taken_back w (Release r) answer w' f q other =
    not_taken_back w w' r _ (ap (λ z. z.ranks) f.after) q (λ e. advances w r f.before _ f.live (omega arith))

-- ---- images

-- where the images stay, and one rank gets a value that isn't below its image
above_images : (w w' : WorldValue) (r : ℕ) (o : Option Live) → w'.ranks ≡ slice_set w.ranks r o → w'.images ≡ w.images
    → ((v : Live) (i : Option ImageValue) → o ≡ Some v → slice_get w.images r ≡ Some i → image_clock i ≤ v.rank.clock)
    → AreAboveImages w → AreAboveImages w'
above_images w w' r o ranks images own all q v i live at =
    go (slice_set-get w.ranks r q (Some v) o (subst (λ z. slice_get z q ≡ Some (Some v)) ranks live))
  where
    there : slice_get w.images q ≡ Some i
    there = subst (λ z. slice_get z q ≡ Some i) images at

    go : ((q ≡ r) × (Some v ≡ o)) ⊎ ((q ≡ r → ⊥) × (slice_get w.ranks q ≡ Some (Some v))) → image_clock i ≤ v.rank.clock
    go (inl h) = own v i (sym h.1) (subst (λ k. slice_get w.images k ≡ Some i) h.0 there)
    go (inr h) = all q v i h.1 there

-- where the rank was live, and has made at least as many acts
stays_above : (w w' : WorldValue) (r : ℕ) (x y : Live) → IsLive w r x → x.rank.clock ≤ y.rank.clock → w'.ranks ≡ slice_set w.ranks r (Some y)
    → w'.images ≡ w.images → AreAboveImages w → AreAboveImages w'
stays_above w w' r x y live le ranks images all =
    above_images w w' r (Some y) ranks images
    (λ v i e at. let low = all r x i live at in let q : y ≡ v = cc in subst (λ (z : Live). image_clock i ≤ z.rank.clock) q (omega (arith, low, le))) all

-- a rank begins again at the clock of its image
begins_clock : (p : ProgramValue) (r n : ℕ) (o : Option ImageValue) → (begins_at p r n o).clock ≡ image_clock o
begins_clock p r n None = refl
begins_clock p r n (Some i) = refl

-- so it isn't below that
begun_above : (x v : Live) (i j : Option ImageValue) → x.rank.clock ≡ image_clock j → Some x ≡ Some v → Some j ≡ Some i → image_clock i ≤ v.rank.clock
begun_above x v i j c e at =
    let q : x ≡ v = cc in
    let k : j ≡ i = cc in
    let low : image_clock j ≤ x.rank.clock = omega (arith, c) in
    subst (λ (z : Live). image_clock i ≤ z.rank.clock) q (subst (λ z. image_clock z ≤ x.rank.clock) k low)

-- a rank that takes an image is at it
imaged_above : (w : WorldValue) (r : ℕ) (y : Live) (img : ImageValue) → img.clock ≡ y.rank.clock → AreAboveImages w
    → (q : ℕ) (v : Live) (o : Option ImageValue) → slice_get (slice_set w.ranks r (Some y)) q ≡ Some (Some v)
    → slice_get (slice_set w.images r (Some img)) q ≡ Some o → image_clock o ≤ v.rank.clock
imaged_above w r y img c all q v o live at = go (slice_set-get w.ranks r q (Some v) (Some y) live) (slice_set-get w.images r q o (Some img) at)
  where
    go : ((q ≡ r) × (Some v ≡ Some y)) ⊎ ((q ≡ r → ⊥) × (slice_get w.ranks q ≡ Some (Some v)))
        → ((q ≡ r) × (o ≡ Some img)) ⊎ ((q ≡ r → ⊥) × (slice_get w.images q ≡ Some o)) → image_clock o ≤ v.rank.clock
    go (inl h) (inl k) = begun_above y v o (Some img) (sym c) (sym h.1) (ap Some (sym k.1))
    go (inl h) (inr k) = absurd (k.0 h.0)
    go (inr h) (inl k) = absurd (h.0 k.0)
    go (inr h) (inr k) = all q v o h.1 k.1

-- each event leaves all ranks at or above their images
images_kept : (w : WorldValue) (event : WorldEvent) (answer : Reply) (w' : WorldValue) → Happens w event answer w' → AreAboveImages w → AreAboveImages w'
images_kept w (Step r) answer w' (inl f) all =
    stays_above w w' r f.before _ f.live (step_clock f.before.rank (machine_want f.before.rank.machine) f.machine)
    (ap (λ z. z.ranks) f.after) (ap (λ z. z.images) f.after) all
images_kept w (Step r) answer w' (inr f) all =
    stays_above w w' r f.before _ f.live (replay_clock f.before.rank f.event (machine_want f.before.rank.machine) f.machine)
    (ap (λ z. z.ranks) f.after) (ap (λ z. z.images) f.after) all
images_kept w (Put s d) answer w' f all =
    stays_above w w' s f.before _ f.live (not_lower _ _ (put_clock f.before.rank d (outgoing_of f.before.rank d)))
    (ap (λ z. z.ranks) f.after) (ap (λ z. z.images) f.after) all
images_kept w (Arrive s d i) answer w' f all =
    stays_above w w' d f.before _ f.live (not_lower _ _ (arrive_clock f.before.rank s f.frame)) (ap (λ z. z.ranks) f.after) (ap (λ z. z.images) f.after) all
images_kept w (Store r) answer w' f all =
    stays_above w w' r f.before _ f.live (omega arith) (ap (λ z. z.ranks) f.after) (ap (λ z. z.images) f.after) all
images_kept w (Ack r) answer w' f all =
    stays_above w w' r f.before _ f.live (omega arith) (ap (λ z. z.ranks) f.after) (ap (λ z. z.images) f.after) all
images_kept w (Crash r) answer w' f all =
    above_images w w' r None (ap (λ z. z.ranks) f.after) (ap (λ z. z.images) f.after) (λ v i e at. absurd cc) all
images_kept w (Restart r) answer w' f all =
    above_images w w' r _ (ap (λ z. z.ranks) f.after) (ap (λ z. z.images) f.after)
    (λ v i e at.
    begun_above _ v i f.begins.0 (ap (λ z. z.clock) f.begins.2 ∙ begins_clock w.program r (size w) f.begins.0) e (sym f.begins.1 ∙ at)) all
images_kept w (Release r) answer w' f all =
    stays_above w w' r f.before _ f.live (omega arith) (ap (λ z. z.ranks) f.after) (ap (λ z. z.images) f.after) all
images_kept w (Image r) answer w' f all = λ q v o live at.
    imaged_above w r (record { rank = after_image f.before.rank (stable_of (size w) r f.shelf); left = [] }) (image_of f.before.rank) refl all q v o
    (subst (λ z. slice_get z q ≡ Some (Some v)) (ap (λ z. z.ranks) f.after) live)
    (subst (λ z. slice_get z q ≡ Some o) (ap (λ z. z.images) f.after) at)

-- nothing stands in a list of None but that
only_none : (n q : ℕ) (o : Option ImageValue) → slice_get (replicate n None) q ≡ Some o → o ≡ None
only_none zero q o at = absurd cc
only_none (suc n) zero o at = cc
only_none (suc n) (suc q) o at = only_none n q o at

-- the ranks of a new world are at the beginning, and so not below an image
pub fresh_above : (program : ProgramValue) (n : ℕ) (w : WorldValue) → IsFresh program n w → AreAboveImages w
fresh_above program n w f q v o live at =
    let none : o ≡ None = only_none n q o (subst (λ z. slice_get z q ≡ Some o) f.images at) in
    subst (λ z. image_clock z ≤ v.rank.clock) (sym none) (omega arith)

-- ---- the run

-- a run that goes on has what it had
goes_on : (late C : List Passed) → IsPartOf C (late ++ C)
goes_on [] C r = ([], sym (append-nil (history C r)))
goes_on (p ∷ late) C r =
    IsBeginning-trans (history C r) (history (late ++ C) r) (history (p ∷ late ++ C) r) (goes_on late C r) (history_grows (late ++ C) p r)

-- so it is part of one that is later
part_of_later : (C D : List Passed) (late : List Passed) → D ≡ late ++ C → IsPartOf C D
part_of_later C D late e r = subst (λ z. IsBeginning (history C r) (history z r)) (sym e) (goes_on late C r)

-- ---- events one after another

-- what each event does
record OneEvent (w : WorldValue) (event : WorldEvent) (w' : WorldValue) : Type 0 where
  ranks : (q : ℕ) → (IsCrashOf q event → ⊥) → IsNotTakenBack q w w'
  images : AreAboveImages w → AreAboveImages w'
  after : IsAfter w w'

-- if it is refused, all stays
unchanged : (w w' : WorldValue) (event : WorldEvent) → w' ≡ w → OneEvent w event w'
unchanged w w' event e =
    record {
      ranks = λ q other. subst (λ z. IsNotTakenBack q w z) (sym e) (λ v live. (v, live, omega arith));
      images = λ all. subst (λ z. AreAboveImages z) (sym e) all;
      after = record { program = ap (λ z. z.program) e; as_many = ap (λ z. size z) e; late = []; later = ap (λ z. z.run) e };
    }

-- if not, it happens
one_event : (w : WorldValue) (event : WorldEvent) (answer : Reply) (w' : WorldValue) → Follows w event answer w' → OneEvent w event w'
one_event w event answer w' f = go (cases_Bool (leaves_all answer))
  where
    takes_place : Happens w event answer w' → OneEvent w event w'
    takes_place h =
        let l = later_after w event answer w' h in
        record {
          ranks = none_taken_back w event answer w' h;
          images = images_kept w event answer w' h;
          after = record {
            program = program_after w event answer w' h;
            as_many = size_same w event answer w' h;
            late = l.0;
            later = l.1;
          };
        }

    go : (leaves_all answer ≡ true) ⊎ (leaves_all answer ≡ false) → OneEvent w event w'
    go (inl all) = unchanged w w' event (leaves w event answer w' all f)
    go (inr some) = takes_place (happened w event answer w' (λ e. let z : leaves_all reply.Refused ≡ false = subst (λ a. leaves_all a ≡ false) e some in cc) f)

-- where nothing happens
none : (w w' : WorldValue) → w' ≡ w → NoDomino w [] w'
none w w' e =
    let one = unchanged w w' (Step 0) e in
    record {
      ranks = λ q other. one.ranks q (λ z. z);
      images = one.images;
      after = one.after;
      acts = part_of_later w.run w'.run [] (ap (λ z. z.run) e);
    }

-- one event, and then others
one_more : (w mid w' : WorldValue) (event : WorldEvent) (events : List WorldEvent) → OneEvent w event mid → NoDomino mid events w'
    → NoDomino w (event ∷ events) w'
one_more w mid w' event events one more =
    let after : IsAfter w w' =
    record {
      program = more.after.program ∙ one.after.program;
      as_many = more.after.as_many ∙ one.after.as_many;
      late = more.after.late ++ one.after.late;
      later = more.after.later ∙ ap (λ z. more.after.late ++ z) one.after.later ∙ sym (append_assoc more.after.late one.after.late w.run);
    } in
    record {
      ranks = λ q other v live. further q other v (one.ranks q other.0 v live);
      images = λ all. more.images (one.images all);
      after = after;
      acts = part_of_later w.run w'.run after.late after.later;
    }
  where
    further : (q : ℕ) → HasNoCrashOf q (event ∷ events) → (v : Live) → (x : Live) × IsLive mid q x × (v.rank.clock ≤ x.rank.clock)
        → (later : Live) × IsLive w' q later × (v.rank.clock ≤ later.rank.clock)
    further q other v x =
        let y = more.ranks q other.1 x.0 x.1 in
        let a : v.rank.clock ≤ x.0.rank.clock = x.2 in
        let b : x.0.rank.clock ≤ y.0.rank.clock = y.2 in
        (y.0, y.1, omega (arith, a, b))

-- one event
pub event_has_no_domino : (w : WorldValue) (event : WorldEvent) (answer : Reply) (w' : WorldValue) → Follows w event answer w'
    → NoDomino w (event ∷ []) w'
event_has_no_domino w event answer w' f = one_more w w' w' event [] (one_event w event answer w' f) (none w' w' refl)

-- a list of events
pub events_have_no_domino : (w : WorldValue) (events : List WorldEvent) (answers : List Reply) (w' : WorldValue) → FollowsAll w events answers w'
    → NoDomino w events w'
events_have_no_domino w [] [] w' f = none w w' f
events_have_no_domino w [] (answer ∷ answers) w' f = absurd f
events_have_no_domino w (event ∷ events) [] w' f = absurd f
events_have_no_domino w (event ∷ events) (answer ∷ answers) w' f =
    one_more w f.0 w' event events (one_event w event answer f.0 f.1) (events_have_no_domino f.0 events answers w' f.4)
