-- A world that is driven by one event more.
use Rattle.std.proofs.Common.{◌≡◌, ◌≢◌, ℕ, ◌≤◌, ◌⊎◌, inl, inr, List, [], ◌∷◌, ◌++◌, length, refl, sym, ap, ◌∙◌}
use Rattle.std.proofs.Common.{arith, slice_get, slice_set}
use Rattle.std.proofs.lemmas.Bool.{cases_eq}
use Rattle.std.proofs.lemmas.List.{length-set, length-append}
use Rattle.bare_world.specs.declared.event.WorldEvent.{WorldEvent}
use Rattle.bare_world.specs.declared.event.WorldEvent.TheVariants.{Step, Put, Arrive, Store, Ack, Image, Crash, Restart, Release}
use Rattle.bare_world.specs.declared.reply.Reply.{Reply}
use Rattle.bare_world.specs.declared.reply.Reply.TheVariants as reply
use Rattle.bare_world.specs.World.{WorldValue, size}
use Rattle.bare_world.specs.Follows.{Happens, Follows, PutFollows}
use Rattle.bare_world.specs.Onward.{IsWorld}
use Rattle.bare_world.proofs.Headline.{stands_after}
use Rattle.bare_world.proofs.HeadlineKept.{happens_can}
use Rattle.bare_world.proofs.Onward.KeptByEvents.{onward_after}
use Rattle.bare_world.proofs.Onward.OnItsWire.{wired_after}
use Rattle.bare_world.specs.Way.{IsOwn}
use Rattle.bare_world.specs.Driven.{IsUsed, AreLonger, Driven}
use Rattle.bare_world.proofs.Lists.Places.{set_get_same, set_get_other, one_there}
use Rattle.bare_world.proofs.Alike.LeadsToo.{drove_push}

-- an event that wasn't refused happened
pub happened : (w : WorldValue) (event : WorldEvent) (answer : Reply) (w' : WorldValue) → answer ≢ reply.Refused → Follows w event answer w'
    → Happens w event answer w'
happened w event reply.Refused w' ne f = absurd (ne refl)
happened w event reply.Moved w' ne f = f
happened w event reply.Blocked w' ne f = f
happened w event reply.Held w' ne f = f
happened w event reply.Ended w' ne f = f
happened w event (reply.PutData index number) w' ne f = f
happened w event (reply.PutAsk index from) w' ne f = f
happened w event (reply.PutKept index upto) w' ne f = f
happened w event reply.Accepted w' ne f = f
happened w event reply.Repeated w' ne f = f
happened w event reply.Gap w' ne f = f
happened w event reply.Noted w' ne f = f
happened w event (reply.Stored count) w' ne f = f
happened w event reply.Acked w' ne f = f
happened w event reply.Imaged w' ne f = f
happened w event reply.Crashed w' ne f = f
happened w event (reply.Restarted count) w' ne f = f
happened w event (reply.Released clock) w' ne f = f

-- after an event a world is one still
pub world_after : (w : WorldValue) (event : WorldEvent) (answer : Reply) (w' : WorldValue) → IsWorld w → Follows w event answer w' → IsWorld w'
world_after w event answer w' i f =
    record {
      stands = stands_after w event answer w' i.stands f;
      onward = onward_after w event answer w' f i.stands i.onward;
      wired = wired_after w event answer w' f i.stands i.onward i.wired;
    }

-- ---- sizes

-- a used event leaves as many ranks
pub size_after : (w : WorldValue) (event : WorldEvent) (answer : Reply) (w' : WorldValue) → IsUsed event → Happens w event answer w' → size w' ≡ size w
size_after w (Step r) answer w' used (inl f) = ap (λ z. length z.ranks) f.after ∙ length-set w.ranks r _
size_after w (Step r) answer w' used (inr f) = ap (λ z. length z.ranks) f.after ∙ length-set w.ranks r _
size_after w (Put s d) answer w' used f = ap (λ z. length z.ranks) f.after ∙ length-set w.ranks s _
size_after w (Arrive s d i) answer w' used f = ap (λ z. length z.ranks) f.after ∙ length-set w.ranks d _
size_after w (Restart r) answer w' used f = ap (λ z. length z.ranks) f.after ∙ length-set w.ranks r _
size_after w (Store r) answer w' used f = absurd used
size_after w (Ack r) answer w' used f = absurd used
size_after w (Image r) answer w' used f = absurd used
size_after w (Crash r) answer w' used f = absurd used
size_after w (Release r) answer w' used f = absurd used

-- ---- wires

-- wires that stay as they are hold what they held at the start
same_longer : (start w w' : WorldValue) → w'.wires ≡ w.wires → AreLonger start w → AreLonger start w'
same_longer start w w' e l s d old frames was is = l s d old frames was (is.0, ap (λ z. slice_get z s) (sym e) ∙ is.1, is.2)

-- a frame put on its wire leaves in front of it what the wire held at the start
put_longer : (start w : WorldValue) (s d : ℕ) (answer : Reply) (w' : WorldValue) → PutFollows w s d answer w' → AreLonger start w → AreLonger start w'
put_longer start w s d answer w' f l q k old frames was is = go (cases_eq q s)
  where
    after : w'.wires ≡ slice_set w.wires s (slice_set f.of_s d (f.frames ++ f.frame ∷ []))
    after = ap (λ z. z.wires) f.after

    go : (q ≡ s) ⊎ (q ≡ s → ⊥) → length old ≤ length frames
    go (inr ne) = l q k old frames was (
      is.0,
      sym (set_get_other w.wires s q (slice_set f.of_s d (f.frames ++ f.frame ∷ [])) ne)
          ∙ ap (λ z. slice_get z q) (sym after) ∙ is.1,
      is.2,
    )
    go (inl e) = here (cases_eq k d)
      where
        of : is.0 ≡ slice_set f.of_s d (f.frames ++ f.frame ∷ [])
        of = one_there is.0 (slice_set f.of_s d (f.frames ++ f.frame ∷ [])) (slice_get w'.wires q) is.1
            (ap (λ z. slice_get w'.wires z) e ∙ ap (λ z. slice_get z s) after
            ∙ set_get_same w.wires s f.of_s (slice_set f.of_s d (f.frames ++ f.frame ∷ [])) f.wires)

        here : (k ≡ d) ⊎ (k ≡ d → ⊥) → length old ≤ length frames
        here (inr ne) =
            l q k old frames was (
              f.of_s,
              ap (λ z. slice_get w.wires z) e ∙ f.wires,
              sym (set_get_other f.of_s d k (f.frames ++ f.frame ∷ []) ne) ∙ ap (λ z. slice_get z k) (sym of) ∙ is.2,
            )
        here (inl j) =
            let new : frames ≡ f.frames ++ f.frame ∷ [] =
            one_there frames (f.frames ++ f.frame ∷ []) (slice_get is.0 k) is.2
            (ap (λ z. slice_get is.0 z) j ∙ ap (λ z. slice_get z d) of ∙ set_get_same f.of_s d f.frames (f.frames ++ f.frame ∷ []) f.wire) in
            let before = l q k old f.frames was (f.of_s, ap (λ z. slice_get w.wires z) e ∙ f.wires, ap (λ z. slice_get f.of_s z) j ∙ f.wire) in
            let a = ap length new in
            let b = length-append f.frames (f.frame ∷ []) in
            omega (arith, before, a, b)

-- after any used event the wires still begin with what they held at the start
longer_after : (start w : WorldValue) (event : WorldEvent) (answer : Reply) (w' : WorldValue) → IsUsed event → Happens w event answer w' → AreLonger start w
    → AreLonger start w'
longer_after start w (Step r) answer w' used (inl f) l = same_longer start w w' (ap (λ z. z.wires) f.after) l
longer_after start w (Step r) answer w' used (inr f) l = same_longer start w w' (ap (λ z. z.wires) f.after) l
longer_after start w (Put s d) answer w' used f l = put_longer start w s d answer w' f l
longer_after start w (Arrive s d i) answer w' used f l = same_longer start w w' (ap (λ z. z.wires) f.after) l
longer_after start w (Restart r) answer w' used f l = same_longer start w w' (ap (λ z. z.wires) f.after) l
longer_after start w (Store r) answer w' used f l = absurd used
longer_after start w (Ack r) answer w' used f l = absurd used
longer_after start w (Image r) answer w' used f l = absurd used
longer_after start w (Crash r) answer w' used f l = absurd used
longer_after start w (Release r) answer w' used f l = absurd used

-- ---- one event more

-- one more event that is the list's own drives on a world that was driven by a list
pub driven_push : (start : WorldValue) (events : List WorldEvent) (w : WorldValue) (event : WorldEvent) (answer : Reply) (w' : WorldValue)
    → Driven start events w
    → IsUsed event → IsOwn start w event → answer ≢ reply.Refused → Follows w event answer w' → w'.run ≡ w.run → Driven start (events ++ event ∷ []) w'
driven_push start events w event answer w' d used own ne f run =
    let h = happened w event answer w' ne f in
    record {
      first = d.first;
      alike = d.alike;
      drove = drove_push start d.first w events event answer w' d.drove used own (happens_can w event answer w' d.is_world.stands h) h;
      is_world = world_after w event answer w' d.is_world f;
      same_run = run ∙ d.same_run;
      same_size = size_after w event answer w' used h ∙ d.same_size;
      longer = longer_after start w event answer w' used h d.longer;
    }

-- ---- a frame that was put is the list's own

-- a frame that was just put stands behind what its wire held at the start, so its arrival is the list's own
pub put_own : (start w : WorldValue) (s d : ℕ) (answer : Reply) (mid : WorldValue) (f : PutFollows w s d answer mid) → AreLonger start w
    → IsOwn start mid (Arrive s d (length f.frames))
put_own start w s d answer mid f l g frames old is there was = inl (l s d old f.frames was (f.of_s, f.wires, f.wire))
