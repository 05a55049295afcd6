-- A frame that is put or that arrives keeps that the ranks of a world can get on.
use Rattle.std.proofs.Common.{◌≡◌, ℕ, zero, suc, ◌+◌, ◌-◌, ◌<◌, ◌⊎◌, inl, inr, Bool, true, false, ◌==◌, nat_lt, if◌then◌else◌, max, List, []}
use Rattle.std.proofs.Common.{◌∷◌, ◌++◌, Option, Some, None, length, drop, refl, sym, ap, subst, ◌∙◌, arith, slice_get, slice_set, slice_index_or}
use Rattle.std.proofs.lemmas.Bool.{cases_eq}
use Rattle.std.proofs.lemmas.List.{get_or-set_other}
use Rattle.std.proofs.lemmas.Option.{slice_get_within}
use Rattle.matching.specs.PacketValue as packet
use Rattle.matching.specs.Inbox.{after_arrival}
use Rattle.payload_log.specs.Backlog.{BacklogValue, backlog, passed, asked, pruned, next_of}
use Rattle.rank_node.specs.declared.due.Due.{Due}
use Rattle.rank_node.specs.declared.frame.Frame.{Frame}
use Rattle.rank_node.specs.declared.frame.Frame.TheVariants as frame
use Rattle.rank_node.specs.Node.{no_due}
use Rattle.rank_node.specs.Frames.{with_inbox, with_log, with_dues, due_to, first_of, sent_off, after_passed, after_frame}
use Rattle.crash_free.proofs.Keeping.{set_there}
use Rattle.bare_world.specs.declared.reply.Reply.{Reply}
use Rattle.bare_world.specs.World.{WorldValue}
use Rattle.bare_world.specs.Stands.{Stands}
use Rattle.bare_world.specs.Follows.{PutFollows, ArriveFollows}
use Rattle.bare_world.specs.Onward.{OnWire, AreAbove, RankOnward, Onward}
use Rattle.bare_world.proofs.Covers.KeptByEvents.{arrival_more}
use Rattle.bare_world.proofs.Onward.OneRankChanges.{WiresGrow, same_wires, valued, OneChanged, GetsOn, onward_gets_on, one_changed, same_behind}
use Rattle.bare_world.proofs.Lists.Places.{set_get_other, get_last, one_there}
use Rattle.rank_machine.proofs.CollectiveParts.{longer_at}

-- ---- a frame arrives

-- one backlog above its base in the place of another
pub above_set : (log : List BacklogValue) (s : ℕ) (b : BacklogValue) → b.base < b.cursor → AreAbove log → AreAbove (slice_set log s b)
above_set [] s b l all d = all d
above_set (x ∷ log) zero b l all zero = l
above_set (x ∷ log) zero b l all (suc d) = all (suc d)
above_set (x ∷ log) (suc s) b l all zero = all 0
above_set (x ∷ log) (suc s) b l all (suc d) = above_set log s b l (λ e. all (suc e)) d

-- what is let go is below the cursor
above_pruned : (b : BacklogValue) (upto : ℕ) → b.base < b.cursor → (pruned b upto).base < (pruned b upto).cursor
above_pruned b upto l = go (nat_lt b.base upto)
  where
    go : (c : Bool) → (if c then record b { base = upto; cursor = max b.cursor (upto + 1); kept = drop (upto - b.base) b.kept } else b).base
        < (if c then record b { base = upto; cursor = max b.cursor (upto + 1); kept = drop (upto - b.base) b.kept } else b).cursor
    go true = omega arith
    go false = l

-- a frame arrives: the rank has accepted no less, and its cursors stay above the bases
pub Onward-arrive : (w : WorldValue) (s d i : ℕ) (answer : Reply) (w' : WorldValue) → Stands w' → ArriveFollows w s d i answer w'
    → Onward w → Onward w'
Onward-arrive w s d i answer w' t f k =
    onward_gets_on w w' d f.before (valued f.before (after_frame f.before.rank s f.frame)) t f.live changed (owes f.frame) k
  where
    run : w'.run ≡ w.run
    run = ap (λ z. z.run) f.after

    changed : OneChanged w w' d (Some (valued f.before (after_frame f.before.rank s f.frame)))
    changed =
        one_changed w w' d (Some (valued f.before (after_frame f.before.rank s f.frame))) (ap (λ z. z.ranks) f.after)
        (ap (λ z. z.images) f.after) (same_wires w w' (ap (λ z. z.wires) f.after)) run k

    o : RankOnward w d f.before
    o = k.ranks d f.before f.live

    logged : (b : BacklogValue) → b.base < b.cursor → GetsOn w w' d f.before (valued f.before (with_log f.before.rank (slice_set f.before.rank.log s b)))
    logged b l =
        record {
          clock = o.clock;
          above = above_set f.before.rank.log s b l o.above;
          behind = same_behind w w' d f.before (valued f.before (with_log f.before.rank (slice_set f.before.rank.log s b))) run refl;
          accepted = λ q. omega arith;
          asks = λ q from e. inl e;
        }

    owes : (x : Frame) → GetsOn w w' d f.before (valued f.before (after_frame f.before.rank s x))
    owes (frame.Ask from) = logged (asked (backlog f.before.rank.log s) from) (omega arith)
    owes (frame.Kept upto) = logged (pruned (backlog f.before.rank.log s) upto) (above_pruned (backlog f.before.rank.log s) upto (o.above s))
    owes (frame.Data p) = either (p.source == s)
      where
        either : (b : Bool)
            → GetsOn w w' d f.before (valued f.before (if b then with_inbox f.before.rank (after_arrival f.before.rank.inbox p) else f.before.rank))
        either true =
            record {
              clock = o.clock;
              above = o.above;
              behind = same_behind w w' d f.before (valued f.before (with_inbox f.before.rank (after_arrival f.before.rank.inbox p))) run refl;
              accepted = λ q. arrival_more f.before.rank.inbox p q;
              asks = λ q from e. inl e;
            }
        either false =
            record {
              clock = o.clock;
              above = o.above;
              behind = same_behind w w' d f.before (valued f.before (f.before.rank)) run refl;
              accepted = λ q. omega arith;
              asks = λ q from e. inl e;
            }

-- ---- a frame is put

-- a frame last on one wire: it is on that, and each frame that was on a wire is on it still
module _ (w w' : WorldValue) (s d : ℕ) (of_s : List (List Frame)) (frames : List Frame) (x : Frame)
    (has_s : slice_get w.wires s ≡ Some of_s) (has_d : slice_get of_s d ≡ Some frames)
    (after : w'.wires ≡ slice_set w.wires s (slice_set of_s d (frames ++ x ∷ []))) where
  -- the wires of the rank that put it
  from_s : slice_get w'.wires s ≡ Some (slice_set of_s d (frames ++ x ∷ []))
  from_s = ap (λ z. slice_get z s) after ∙ set_there w.wires s (slice_set of_s d (frames ++ x ∷ [])) (slice_get_within w.wires s of_s has_s)

  -- and the one on which it is
  to_d : slice_get (slice_set of_s d (frames ++ x ∷ [])) d ≡ Some (frames ++ x ∷ [])
  to_d = set_there of_s d (frames ++ x ∷ []) (slice_get_within of_s d frames has_d)

  -- the frame is on its wire
  pub put_there : OnWire w' s d x
  put_there = (frames ++ x ∷ [], length frames, (slice_set of_s d (frames ++ x ∷ []), from_s, to_d), get_last frames x)

  -- a frame from the same rank
  grow_from : (k : ℕ) (f : Frame) → OnWire w s k f → (k ≡ d) ⊎ (k ≡ d → ⊥) → OnWire w' s k f
  grow_from k f on (inr ne) =
      let is : on.2.0 ≡ of_s = one_there on.2.0 of_s (slice_get w.wires s) on.2.1 has_s in
      let there = set_get_other of_s d k (frames ++ x ∷ []) ne ∙ ap (λ z. slice_get z k) (sym is) ∙ on.2.2 in
      (on.0, on.1, (slice_set of_s d (frames ++ x ∷ []), from_s, there), on.3)
  grow_from k f on (inl j) =
      let is : on.2.0 ≡ of_s = one_there on.2.0 of_s (slice_get w.wires s) on.2.1 has_s in
      let there : slice_get of_s d ≡ Some on.0 = ap (λ z. slice_get of_s z) (sym j) ∙ ap (λ z. slice_get z k) (sym is) ∙ on.2.2 in
      let same : on.0 ≡ frames = one_there on.0 frames (slice_get of_s d) there has_d in (
        frames ++ x ∷ [],
        on.1,
        (slice_set of_s d (frames ++ x ∷ []), from_s, ap (λ z. slice_get (slice_set of_s d (frames ++ x ∷ [])) z) j ∙ to_d),
        longer_at frames (x ∷ []) on.1 f (subst (λ z. slice_get z on.1 ≡ Some f) same on.3),
      )

  -- a frame from any rank
  pub put_grows : WiresGrow w w'
  put_grows q k f on = go (cases_eq q s)
    where
      go : (q ≡ s) ⊎ (q ≡ s → ⊥) → OnWire w' q k f
      go (inl h) = subst (λ z. OnWire w' z k f) (sym h) (grow_from k f (subst (λ z. OnWire w z k f) h on) (cases_eq k d))
      go (inr ne) =
          let there = ap (λ z. slice_get z q) after ∙ set_get_other w.wires s q (slice_set of_s d (frames ++ x ∷ [])) ne ∙ on.2.1 in
          (on.0, on.1, (on.2.0, there, on.2.2), on.3)

-- an Ask that is due goes next
pub ask_next : (a b : Option ℕ) (o : Option packet.PacketValue) (from : ℕ) (f : Frame) → a ≡ Some from → first_of a b o ≡ Some f → f ≡ frame.Ask from
ask_next (Some x) b o from f e h = (let q : x ≡ from = cc in let z : frame.Ask x ≡ f = cc in sym z ∙ ap frame.Ask q)
ask_next None b o from f e h = absurd cc

-- an Ask that is due is due still, where the new due at its place has it too
pub due_set : (dues : List Due) (d s from : ℕ) (x : Due) → (s ≡ d → x.ask ≡ Some from) → (slice_index_or dues s no_due).ask ≡ Some from
    → (slice_index_or (slice_set dues d x) s no_due).ask ≡ Some from
due_set [] d s from x f e = e
due_set (y ∷ dues) zero zero from x f e = f refl
due_set (y ∷ dues) zero (suc s) from x f e = e
due_set (y ∷ dues) (suc d) zero from x f e = e
due_set (y ∷ dues) (suc d) (suc s) from x f e = due_set dues d s from x (λ q. f (ap suc q)) e

-- a frame is put: an Ask that was due is on the wire then, and others are due still
pub Onward-put : (w : WorldValue) (s d : ℕ) (answer : Reply) (w' : WorldValue) → Stands w' → PutFollows w s d answer w' → Onward w → Onward w'
Onward-put w s d answer w' t f k =
    onward_gets_on w w' s f.before (valued f.before (after_passed f.before.rank d)) t f.live changed
    (subst (λ q. GetsOn w w' s f.before (valued f.before (sent_off f.before.rank d q))) (sym f.next) (owes f.frame refl)) k
  where
    grown : WiresGrow w w'
    grown = put_grows w w' s d f.of_s f.frames f.frame f.wires f.wire (ap (λ z. z.wires) f.after)

    run : w'.run ≡ w.run
    run = ap (λ z. z.run) f.after

    changed : OneChanged w w' s (Some (valued f.before (after_passed f.before.rank d)))
    changed =
        one_changed w w' s (Some (valued f.before (after_passed f.before.rank d))) (ap (λ z. z.ranks) f.after)
        (ap (λ z. z.images) f.after) grown run k

    o : RankOnward w s f.before
    o = k.ranks s f.before f.live

    gone : (x : Due) → ((q from : ℕ) → (due_to f.before.rank q).ask ≡ Some from
        → ((slice_index_or (slice_set f.before.rank.dues d x) q no_due).ask ≡ Some from) ⊎ OnWire w' s q (frame.Ask from))
        → GetsOn w w' s f.before (valued f.before (with_dues f.before.rank (slice_set f.before.rank.dues d x)))
    gone x asks =
        record {
          clock = o.clock;
          above = o.above;
          behind = same_behind w w' s f.before (valued f.before (with_dues f.before.rank (slice_set f.before.rank.dues d x))) run refl;
          accepted = λ q. omega arith;
          asks = asks;
        }

    owes : (x : Frame) → f.frame ≡ x → GetsOn w w' s f.before (valued f.before (sent_off f.before.rank d (Some x)))
    owes (frame.Data p) e =
        record {
          clock = o.clock;
          above = above_set f.before.rank.log d (passed (backlog f.before.rank.log d)) (let l = o.above d in omega (arith, l)) o.above;
          behind = same_behind w w' s f.before (valued f.before (sent_off f.before.rank d (Some (frame.Data p)))) run refl;
          accepted = λ q. omega arith;
          asks = λ q from h. inl h;
        }
    owes (frame.Kept upto) e =
        gone (record { ask = (due_to f.before.rank d).ask; kept = None })
        (λ q from h. inl (due_set f.before.rank.dues d q from (record { ask = (due_to f.before.rank d).ask; kept = None })
        (λ y. ap (λ z. (due_to f.before.rank z).ask) (sym y) ∙ h) h))
    owes (frame.Ask n) e =
        gone (record { ask = None; kept = (due_to f.before.rank d).kept }) (λ q from h. asks q from h (cases_eq q d))
      where
        asks : (q from : ℕ) → (due_to f.before.rank q).ask ≡ Some from → (q ≡ d) ⊎ (q ≡ d → ⊥)
            → ((slice_index_or (slice_set f.before.rank.dues d (record { ask = None; kept = (due_to f.before.rank d).kept })) q no_due).ask ≡ Some from)
            ⊎ OnWire w' s q (frame.Ask from)
        asks q from h (inr ne) =
            inl (ap (λ z. z.ask) (get_or-set_other f.before.rank.dues d q (record { ask = None; kept = (due_to f.before.rank d).kept }) no_due ne) ∙ h)
        asks q from h (inl y) =
            let here : (due_to f.before.rank d).ask ≡ Some from = ap (λ z. (due_to f.before.rank z).ask) (sym y) ∙ h in
            let is : f.frame ≡ frame.Ask from =
            ask_next (due_to f.before.rank d).ask (due_to f.before.rank d).kept (next_of (backlog f.before.rank.log d)) from f.frame here f.next in
            inr (subst (λ z. OnWire w' s z (frame.Ask from)) (sym y)
            (subst (λ z. OnWire w' s d z) is (put_there w w' s d f.of_s f.frames f.frame f.wires f.wire (ap (λ z. z.wires) f.after))))
