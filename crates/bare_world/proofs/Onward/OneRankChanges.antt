-- That the ranks of a world can get on, where one rank changes: what is asked of its new value, and a crash and an
-- acknowledgment.
use Rattle.std.proofs.Common.{◌≡◌, ℕ, ◌≤◌, ◌⊎◌, inl, inr, ⊎_elim, List, [], Option, Some, None, length, refl, sym, ap, subst}
use Rattle.std.proofs.Common.{◌∙◌, arith, slice_get, slice_set}
use Rattle.std.proofs.lemmas.Bool.{cases_eq}
use Rattle.std.proofs.lemmas.List.{length-set}
use Rattle.limits.specs.Limits.{greatest_clock}
use Rattle.matching.specs.Inbox.{accepted_from}
use Rattle.rank_machine.specs.States.{State}
use Rattle.rank_node.specs.declared.frame.Frame.{Frame}
use Rattle.rank_node.specs.declared.frame.Frame.TheVariants as frame
use Rattle.rank_node.specs.Frames.{due_to}
use Rattle.rank_node.specs.Storing.{after_ack}
use Rattle.crash_free.specs.Runs.{Passed, history, continue}
use Rattle.crash_free.proofs.Going.{count_continued}
use Rattle.bare_world.specs.declared.reply.Reply.{Reply}
use Rattle.bare_world.specs.World.{Rank, Live, WorldValue, size, IsLive}
use Rattle.bare_world.specs.Stands.{RankStands, Stands, start_at}
use Rattle.bare_world.specs.Follows.{AckFollows, CrashFollows}
use Rattle.bare_world.specs.Onward.{Behind, OnWire, AreAbove, RankOnward, Onward}
use Rattle.bare_world.specs.Plain.{plain}
use Rattle.bare_world.proofs.Lists.Replaced.{slice_set-get}
use Rattle.bare_world.proofs.Plain.Ranks.{none_waits}
use Rattle.bare_world.proofs.Plain.Worlds.{rank_of}

-- ---- where a rank is behind the run

-- nothing waits at the gate of a rank that is behind the run
settled_behind_run : (start : ℕ → State) (n : ℕ) (C : List Passed) (r : ℕ) (v : Live) → RankStands start n C r v → Behind C r v
    → v.rank.pending ≡ []
settled_behind_run start n C r v s b =
    ⊎_elim (λ e. e)
    (λ (z : v.rank.clock ≡ length (history (continue C r s.acts) r)). absurd (let c = count_continued C r s.acts in omega (arith, z, c, b)))
    s.all_made

-- the same in a world
pub settled_in : (w : WorldValue) (r : ℕ) (v : Live) → Stands w → IsLive w r v → Behind w.run r v → v.rank.pending ≡ []
settled_in w r v t live b =
    none_waits v (t.runs.ranks r v live) (settled_behind_run (start_at w (size w)) (size w) w.run r (plain v) (rank_of t r v live) b)

-- ---- a change of one rank

-- each frame on a wire is on it still
abbrev pub WiresGrow : WorldValue → WorldValue → Type 0
WiresGrow w w' = (s d : ℕ) (f : Frame) → OnWire w s d f → OnWire w' s d f

-- wires that stay have their frames still
pub same_wires : (w w' : WorldValue) → w'.wires ≡ w.wires → WiresGrow w w'
same_wires w w' e s d f on = (on.0, on.1, (on.2.0, subst (λ z. slice_get z s ≡ Some on.2.0) (sym e) on.2.1, on.2.2), on.3)

-- a live rank with another value, and the same left to replay
abbrev pub valued : Live → Rank → Live
valued v x = record { rank = x; left = v.left }

-- Of a world one rank's value changed, or it goes or comes; wires may grow, and the run by acts of this rank alone.
pub record OneChanged (w w' : WorldValue) (r : ℕ) (o : Option Live) : Type 0 where
  pub ranks : w'.ranks ≡ slice_set w.ranks r o
  pub images : w'.images ≡ w.images
  pub wires : WiresGrow w w'
  pub others : (q : ℕ) → (q ≡ r → ⊥) → history w'.run q ≡ history w.run q
  pub few : length (history w'.run r) ≤ greatest_clock

-- What the new value of a live rank owes: it is behind the run only where the rank was, it has accepted at least as much,
-- and what was asked for is so still.
pub record GetsOn (w w' : WorldValue) (r : ℕ) (v y : Live) : Type 0 where
  pub clock : y.rank.clock ≤ greatest_clock
  pub above : AreAbove y.rank.log
  pub behind : Behind w'.run r y → Behind w.run r v
  pub accepted : (s : ℕ) → accepted_from v.rank.inbox s ≤ accepted_from y.rank.inbox s
  pub asks : (s from : ℕ) → (due_to v.rank s).ask ≡ Some from → ((due_to y.rank s).ask ≡ Some from) ⊎ OnWire w' r s (frame.Ask from)

-- a rank whose new value owes nothing more can get on as before
pub rank_gets_on : (w w' : WorldValue) (r : ℕ) (v y : Live) → size w' ≡ size w → WiresGrow w w' → (Behind w'.run r y → y.rank.pending ≡ [])
    → GetsOn w w' r v y → RankOnward w r v → RankOnward w' r y
rank_gets_on w w' r v y sizes wires settled g o =
    record {
      clock = g.clock;
      above = g.above;
      settled = settled;
      asked = λ b s l.
          (let k = o.asked (g.behind b) s (omega (arith, l, sizes)) in
          let m = g.accepted s in
          let n = k.1 in
          (k.0, omega (arith, m, n), ⊎_elim (λ due. g.asks s k.0 due) (λ on. inr (wires r s (frame.Ask k.0) on)) k.2));
    }

-- one rank changes: all can get on still, where that one can, if it is live
pub onward_changed : (w w' : WorldValue) (r : ℕ) (o : Option Live) → Stands w' → OneChanged w w' r o
    → ((y : Live) → o ≡ Some y → (Behind w'.run r y → y.rank.pending ≡ []) → RankOnward w' r y) → Onward w → Onward w'
onward_changed w w' r o t c new k =
    record {
      acts = λ q. acts q (cases_eq q r);
      images = λ q d i b e f. k.images q d i b (subst (λ z. slice_get z q ≡ Some (Some i)) c.images e) f;
      ranks = λ q z live. one q z live (slice_set-get w.ranks r q (Some z) o (subst (λ l. slice_get l q ≡ Some (Some z)) c.ranks live));
    }
  where
    sizes : size w' ≡ size w
    sizes = ap length c.ranks ∙ length-set w.ranks r o

    acts : (q : ℕ) → (q ≡ r) ⊎ (q ≡ r → ⊥) → length (history w'.run q) ≤ greatest_clock
    acts q (inl e) = subst (λ z. length (history w'.run z) ≤ greatest_clock) (sym e) c.few
    acts q (inr ne) = (let e = ap length (c.others q ne) in let l = k.acts q in omega (arith, e, l))

    own : (q : ℕ) (z : Live) → IsLive w' q z → q ≡ r → o ≡ Some z → RankOnward w' r z
    own q z live e f = new z f (λ b. settled_in w' r z t (subst (λ j. IsLive w' j z) e live) b)

    one : (q : ℕ) (z : Live) → IsLive w' q z → ((q ≡ r) × (Some z ≡ o)) ⊎ ((q ≡ r → ⊥) × (slice_get w.ranks q ≡ Some (Some z))) → RankOnward w' q z
    one q z live (inl h) = subst (λ j. RankOnward w' j z) (sym h.0) (own q z live h.0 (sym h.1))
    one q z live (inr h) =
        let before = k.ranks q z h.1 in
        rank_gets_on w w' q z z sizes c.wires (λ b. settled_in w' q z t live b)
        (record {
          clock = before.clock;
          above = before.above;
          behind = λ b. (let e = ap length (c.others q h.0) in omega (arith, b, e));
          accepted = λ s. omega arith;
          asks = λ s from e. inl e;
        })
        before

-- a live rank's value is one
pub live_is : (x y : Live) → ◌≡◌ {A = Option Live} (Some x) (Some y) → x ≡ y
live_is x y e = cc

-- a live rank changes, and its new value owes nothing more
pub onward_gets_on : (w w' : WorldValue) (r : ℕ) (v y : Live) → Stands w' → IsLive w r v → OneChanged w w' r (Some y) → GetsOn w w' r v y
    → Onward w → Onward w'
onward_gets_on w w' r v y t live c g k =
    onward_changed w w' r (Some y) t c
    (λ z e settled. own z (live_is y z e) settled) k
  where
    sizes : size w' ≡ size w
    sizes = ap length c.ranks ∙ length-set w.ranks r (Some y)

    own : (z : Live) → y ≡ z → (Behind w'.run r z → z.rank.pending ≡ []) → RankOnward w' r z
    own z e settled =
        rank_gets_on w w' r v z sizes c.wires settled (subst (λ j. GetsOn w w' r v j) e g) (k.ranks r v live)

-- where the run stays, no rank makes more acts in it
pub one_changed : (w w' : WorldValue) (r : ℕ) (o : Option Live) → w'.ranks ≡ slice_set w.ranks r o → w'.images ≡ w.images → WiresGrow w w'
    → w'.run ≡ w.run → Onward w → OneChanged w w' r o
one_changed w w' r o ranks images wires run k =
    record {
      ranks = ranks;
      images = images;
      wires = wires;
      others = λ q ne. ap (λ C. history C q) run;
      few = (let l = k.acts r in let e = ap (λ C. length (history C r)) run in omega (arith, l, e));
    }

-- and a rank with the same clock is behind it only where it was
pub same_behind : (w w' : WorldValue) (r : ℕ) (v y : Live) → w'.run ≡ w.run → y.rank.clock ≡ v.rank.clock → Behind w'.run r y → Behind w.run r v
same_behind w w' r v y run clock b = (let e = ap (λ C. length (history C r)) run in omega (arith, b, e, clock))

-- ---- crash and acknowledgment

-- a crash: the rank is down
pub Onward-crash : (w : WorldValue) (r : ℕ) (answer : Reply) (w' : WorldValue) → Stands w' → CrashFollows w r answer w' → Onward w → Onward w'
Onward-crash w r answer w' t f k = onward_changed w w' r None t changed (λ y e settled. absurd cc) k
  where
    changed : OneChanged w w' r None
    changed =
        one_changed w w' r None (ap (λ z. z.ranks) f.after) (ap (λ z. z.images) f.after)
        (same_wires w w' (ap (λ z. z.wires) f.after)) (ap (λ z. z.run) f.after) k

-- an acknowledgment: less waits
pub Onward-ack : (w : WorldValue) (r : ℕ) (answer : Reply) (w' : WorldValue) → Stands w' → AckFollows w r answer w' → Onward w → Onward w'
Onward-ack w r answer w' t f k = onward_gets_on w w' r f.before acked t f.live changed owes k
  where
    acked : Live
    acked = valued f.before (after_ack f.before.rank)

    changed : OneChanged w w' r (Some acked)
    changed =
        one_changed w w' r (Some acked) (ap (λ z. z.ranks) f.after) (ap (λ z. z.images) f.after)
        (same_wires w w' (ap (λ z. z.wires) f.after)) (ap (λ z. z.run) f.after) k

    owes : GetsOn w w' r f.before acked
    owes =
        let o = k.ranks r f.before f.live in
        record {
          clock = o.clock;
          above = o.above;
          behind = same_behind w w' r f.before acked (ap (λ z. z.run) f.after) refl;
          accepted = λ s. omega arith;
          asks = λ s from e. inl e;
        }
