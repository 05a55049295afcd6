-- Each event keeps that the ranks of a world can get on; a new world has it, and refused memory leaves it.
use Rattle.std.proofs.Common.{◌≡◌, ℕ, ⊎_elim, Some, None, length, sym, ap, subst, arith, slice_get}
use Rattle.rank_language.specs.Program.{ProgramValue}
use Rattle.crash_free.specs.Runs.{history}
use Rattle.bare_world.specs.declared.event.WorldEvent.{WorldEvent}
use Rattle.bare_world.specs.declared.event.WorldEvent.TheVariants.{Step, Put, Arrive, Store, Ack, Image, Crash, Restart, Release}
use Rattle.bare_world.specs.declared.reply.Reply.{Reply}
use Rattle.bare_world.specs.declared.reply.Reply.TheVariants as reply
use Rattle.bare_world.specs.World.{Live, WorldValue, IsLive}
use Rattle.bare_world.specs.Headline.{IsFresh}
use Rattle.bare_world.specs.Stands.{Stands}
use Rattle.bare_world.specs.Follows.{Happens, Follows}
use Rattle.bare_world.specs.Memory.{Fetched, Unchanged}
use Rattle.bare_world.specs.Onward.{AreAbove, RankOnward, Onward}
use Rattle.bare_world.proofs.Headline.{stands_after}
use Rattle.bare_world.proofs.Onward.OneRankChanges.{Onward-crash, Onward-ack}
use Rattle.bare_world.proofs.Onward.KeptByFrames.{Onward-arrive, Onward-put}
use Rattle.bare_world.proofs.Onward.KeptByPasses.{above_new, Onward-restart, Onward-store, Onward-release}
use Rattle.bare_world.proofs.Onward.KeptBySteps.{Onward-step, Onward-replay}
use Rattle.bare_world.proofs.Onward.KeptByImages.{Onward-image}
use Rattle.audit.proofs.Traces.{replicate_each}

-- ---- each event

-- what happens keeps it, where the world stands before and after
onward_happens : (w : WorldValue) (event : WorldEvent) (answer : Reply) (w' : WorldValue)
    → Happens w event answer w' → Stands w → Stands w' → Onward w → Onward w'
onward_happens w (Step r) answer w' h t t' k = ⊎_elim (λ f. Onward-step w r answer w' t' f k) (λ f. Onward-replay w r answer w' t t' f k) h
onward_happens w (Put s d) answer w' h t t' k = Onward-put w s d answer w' t' h k
onward_happens w (Arrive s d i) answer w' h t t' k = Onward-arrive w s d i answer w' t' h k
onward_happens w (Store r) answer w' h t t' k = Onward-store w r answer w' t t' h k
onward_happens w (Ack r) answer w' h t t' k = Onward-ack w r answer w' t' h k
onward_happens w (Image r) answer w' h t t' k = Onward-image w r answer w' t' h k
onward_happens w (Crash r) answer w' h t t' k = Onward-crash w r answer w' t' h k
onward_happens w (Restart r) answer w' h t t' k = Onward-restart w r answer w' t t' h k
onward_happens w (Release r) answer w' h t t' k = Onward-release w r answer w' t t' h k

-- each event keeps it
pub onward_after : (w : WorldValue) (event : WorldEvent) (answer : Reply) (w' : WorldValue) → Follows w event answer w'
    → Stands w → Onward w → Onward w'
onward_after w event answer w' f t k = go answer f (stands_after w event answer w' t f)
  where
    go : (x : Reply) → Follows w event x w' → Stands w' → Onward w'
    go reply.Refused h t' = subst (λ z. Onward z) (sym h.1) k
    go reply.Moved h t' = onward_happens w event reply.Moved w' h t t' k
    go reply.Blocked h t' = onward_happens w event reply.Blocked w' h t t' k
    go reply.Held h t' = onward_happens w event reply.Held w' h t t' k
    go reply.Ended h t' = onward_happens w event reply.Ended w' h t t' k
    go (reply.PutData index number) h t' = onward_happens w event (reply.PutData index number) w' h t t' k
    go (reply.PutAsk index from) h t' = onward_happens w event (reply.PutAsk index from) w' h t t' k
    go (reply.PutKept index upto) h t' = onward_happens w event (reply.PutKept index upto) w' h t t' k
    go reply.Accepted h t' = onward_happens w event reply.Accepted w' h t t' k
    go reply.Repeated h t' = onward_happens w event reply.Repeated w' h t t' k
    go reply.Gap h t' = onward_happens w event reply.Gap w' h t t' k
    go reply.Noted h t' = onward_happens w event reply.Noted w' h t t' k
    go (reply.Stored count) h t' = onward_happens w event (reply.Stored count) w' h t t' k
    go reply.Acked h t' = onward_happens w event reply.Acked w' h t t' k
    go reply.Imaged h t' = onward_happens w event reply.Imaged w' h t t' k
    go reply.Crashed h t' = onward_happens w event reply.Crashed w' h t t' k
    go (reply.Restarted count) h t' = onward_happens w event (reply.Restarted count) w' h t t' k
    go (reply.Released clock) h t' = onward_happens w event (reply.Released clock) w' h t t' k

-- ---- refused memory

-- a fetch that was answered leaves all ranks
fetched_onward : (w : WorldValue) (r : ℕ) (w' : WorldValue) → Fetched w r w' → Onward w → Onward w'
fetched_onward w r w' f k =
    subst (λ z. Onward z) (sym f.after)
    (record {
      acts = k.acts;
      images = k.images;
      ranks = λ q v live. (let o = k.ranks q v live in record { clock = o.clock; above = o.above; settled = o.settled; asked = o.asked });
    })

-- refused memory leaves it
pub onward_unchanged : (w : WorldValue) (event : WorldEvent) (w' : WorldValue) → Unchanged w event w' → Onward w → Onward w'
onward_unchanged w (Restart r) w' u k = ⊎_elim (λ e. subst (λ z. Onward z) (sym e) k) (λ f. fetched_onward w r w' f k) u
onward_unchanged w (Step r) w' u k = subst (λ z. Onward z) (sym u) k
onward_unchanged w (Put s d) w' u k = subst (λ z. Onward z) (sym u) k
onward_unchanged w (Arrive s d i) w' u k = subst (λ z. Onward z) (sym u) k
onward_unchanged w (Store r) w' u k = subst (λ z. Onward z) (sym u) k
onward_unchanged w (Ack r) w' u k = subst (λ z. Onward z) (sym u) k
onward_unchanged w (Image r) w' u k = subst (λ z. Onward z) (sym u) k
onward_unchanged w (Crash r) w' u k = subst (λ z. Onward z) (sym u) k
onward_unchanged w (Release r) w' u k = subst (λ z. Onward z) (sym u) k

-- ---- a new world

-- in a new world no rank is behind
pub fresh_onward : (program : ProgramValue) (n : ℕ) (w : WorldValue) → IsFresh program n w → Onward w
fresh_onward program n w f =
    record {
      acts = λ r. (let e = none r in omega (arith, e));
      images = λ r d i b e is.
          absurd (let q : Some i ≡ None = replicate_each n None r (Some i) (subst (λ z. slice_get z r ≡ Some (Some i)) f.images e) in cc);
      ranks = λ r v live. rank r v live;
    }
  where
    none : (r : ℕ) → length (history w.run r) ≡ 0
    none r = ap (λ C. length (history C r)) f.run

    rank : (r : ℕ) (v : Live) → IsLive w r v → RankOnward w r v
    rank r v live =
        let opened = (f.ranks r (Some v) live).0 in
        let made = none r in
        let begun = ap (λ z. z.rank.clock) opened in
        record {
          clock = omega (arith, begun);
          above = subst (λ z. AreAbove z.rank.log) (sym opened) (above_new n);
          settled = λ b. absurd (omega (arith, b, made));
          asked = λ b s l. absurd (omega (arith, b, made));
        }
