-- Acknowledgments keep what a world stands for, whether their rank replays or not; and what a store passes is an event.
use Rattle.std.proofs.Common.{◌≡◌, ◌≢◌, ℕ, zero, suc, ◌+◌, ◌-◌, ◌≤◌, List, []}
use Rattle.std.proofs.Common.{◌∷◌, Option, Some, None, length, drop, refl, sym, ap, subst, ◌∙◌, arith, slice_get}
use Rattle.std.proofs.Common.{option_and_then}
use Rattle.std.proofs.lemmas.List.{length-set}
use Rattle.event_logger.specs.Sequential.Event.{EventValue}
use Rattle.payload_log.specs.Backlog.{BacklogValue}
use Rattle.rank_node.specs.Storing.{after_ack}
use Rattle.crash_free.specs.Runs.{Passed}
use Rattle.bare_world.specs.World.{WorldValue, size}
use Rattle.rank_node.specs.declared.waiting.Waiting.{Waiting}
use Rattle.rank_node.specs.Waiting.{event_in}
use Rattle.rank_node.specs.declared.waiting.Waiting.TheVariants as waits
use Rattle.rank_node.proofs.Gates.{begins_within, begins_less}
use Rattle.bare_world.specs.Follows.{AckFollows}
use Rattle.bare_world.proofs.Rows.{event_sends_none}
use Rattle.bare_world.specs.declared.reply.Reply.{Reply}
use Rattle.bare_world.specs.Stands.{RankStands, start_at}
use Rattle.bare_world.proofs.Lists.Beginnings.{drop_zero, drop_more}
use Rattle.bare_world.proofs.Covers.KeptByEvents.{Covers-rank}
use Rattle.bare_world.proofs.Standing.Worlds.{Goes, changed, Stands-rank}
use Rattle.bare_world.proofs.Standing.KeptByCrashes.{resized}
use Rattle.bare_world.proofs.Standing.KeptByFrames.{one_rank, one_cover}
use Rattle.bare_world.proofs.Standing.FirstPasses.{RankStands-acked, LogPasses, quiet_there}

-- what is unstored waits
pub some_pending : (xs : List Waiting) (k : ℕ) (x : Waiting) → slice_get xs k ≡ Some x → xs ≡ [] → ⊥
some_pending [] k x e f = cc
some_pending (y ∷ xs) k x e f = cc

-- an event that is oldest stands there
pub event_there : (xs : List Waiting) (k : ℕ) (e : EventValue) → option_and_then event_in (slice_get xs k) ≡ Some e → slice_get xs k ≡ Some (waits.Event e)
event_there xs k e f = go (slice_get xs k) f
  where
    go : (o : Option Waiting) → option_and_then event_in o ≡ Some e → o ≡ Some (waits.Event e)
    go None g = absurd cc
    go (Some (waits.Event x)) g = (let q : x ≡ e = cc in ap (λ z. Some (waits.Event z)) q)
    go (Some (waits.Send d c)) g = absurd cc
    go (Some (waits.Line c v)) g = absurd cc

-- it is the first of what is left
pub drop_first : (xs : List Waiting) (k : ℕ) (x : Waiting) → slice_get xs k ≡ Some x → drop k xs ≡ x ∷ drop (k + 1) xs
drop_first [] k x e = absurd cc
drop_first (y ∷ xs) zero x e = (let q : y ≡ x = cc in ap (λ z. z ∷ xs) q ∙ ap (λ z. x ∷ z) (sym (drop_zero xs)))
drop_first (y ∷ xs) (suc k) x e = drop_first xs k x e ∙ (let z : suc (k + 1) ≡ suc k + 1 = omega arith in ap (λ j. x ∷ drop j (y ∷ xs)) z)

-- an event that passes leaves the payload log
pub event_passes : (C : List Passed) (r c : ℕ) (e : EventValue) (log : List BacklogValue) → LogPasses C r c (waits.Event e) log log
event_passes C r c e log a acts is_for counts logs d b at =
    quiet_there C r c a acts counts d b (event_sends_none _ d _ a _ e is_for) (logs d b at)

-- the oldest stored event is acknowledged
pub Stands-ack : (w : WorldValue) (r : ℕ) (answer : Reply) (w' : WorldValue) → Goes w → AckFollows w r answer w' → Goes w'
Stands-ack w r answer w' s f =
    subst (λ z. Goes z) (sym f.after)
    (record {
      run =
          resized w (changed w r (Some (record { rank = after_ack f.before.rank; left = f.before.left })) w.images w.logger w.lines w.run)
          (length-set w.ranks r _)
          (Stands-rank (size w) w r (Some (record { rank = after_ack f.before.rank; left = f.before.left })) w.logger s.run refl
          (one_rank (size w) w r (record { rank = after_ack f.before.rank; left = f.before.left })
          (RankStands-acked (start_at w (size w)) (size w) w.run r f.before k (drop 1 f.before.rank.pending) (f.before.rank.stored - 1)
          (some f.before.rank.pending f.before.rank.stored f.some (begins_within f.before.rank.stored f.before.rank.pending k.stored))
          (drop_more (f.before.rank.stored - 1) 1 f.before.rank.pending ∙ ap (λ z. drop z f.before.rank.pending) (one_back f.before.rank.stored f.some))
          (begins_less f.before.rank.stored f.before.rank.pending k.stored))));
      covers =
          Covers-rank w (changed w r (Some (record { rank = after_ack f.before.rank; left = f.before.left })) w.images w.logger w.lines w.run) r
          (Some (record { rank = after_ack f.before.rank; left = f.before.left })) refl refl refl
          (one_cover w.images r (record { rank = after_ack f.before.rank; left = f.before.left })
          (let c = s.covers.ranks r f.before f.live in record { bases = c.bases; dues = c.dues; since = c.since })) s.covers;
    })
  where
    k : RankStands (start_at w (size w)) (size w) w.run r f.before
    k = s.run.ranks r f.before f.live

    one_back : (m : ℕ) → m ≢ 0 → 1 + (m - 1) ≡ m
    one_back zero ne = absurd (ne refl)
    one_back (suc m) ne = omega arith

    some : (xs : List Waiting) (m : ℕ) → m ≢ 0 → m ≤ length xs → xs ≡ [] → ⊥
    some [] zero ne l e = ne refl
    some [] (suc m) ne l e = omega (arith, l)
    some (x ∷ xs) m ne l e = cc
