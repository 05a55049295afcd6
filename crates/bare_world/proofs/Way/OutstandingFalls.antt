-- With each frame that is put and arrives at once, less is outstanding from its sender to its receiver, be they one rank.
use Rattle.std.proofs.Common.{◌≡◌, ℕ, zero, suc, ◌+◌, ◌-◌, ◌<◌, ◌≤◌, ◌⊎◌, inl, inr, Bool, true, false, ◌==◌, nat_lt, if◌then◌else◌, max, List, [], ◌∷◌, Option}
use Rattle.std.proofs.Common.{Some, None, length, drop, refl, sym, ap, subst, ◌∙◌, arith, slice_get, slice_set, slice_index_or}
use Rattle.std.proofs.lemmas.Bool.{cases_eq}
use Rattle.std.proofs.lemmas.List.{get_or-set_same, length-drop}
use Rattle.std.proofs.lemmas.Option.{slice_get_within}
use Rattle.matching.specs.PacketValue as packet
use Rattle.matching.specs.Inbox.{after_arrival}
use Rattle.payload_log.specs.Backlog.{BacklogValue, backlog, passed, asked, pruned, next_of, new_backlog}
use Rattle.rank_node.specs.declared.due.Due.{Due}
use Rattle.rank_node.specs.declared.frame.Frame.{Frame}
use Rattle.rank_node.specs.declared.frame.Frame.TheVariants as frame
use Rattle.rank_node.specs.Node.{no_due}
use Rattle.rank_node.specs.Frames.{with_inbox, with_dues, due_to, first_of, outgoing_of, sent_off, after_passed, after_frame}
use Rattle.bare_world.specs.declared.reply.Reply.{Reply}
use Rattle.bare_world.specs.World.{Rank, Live, WorldValue}
use Rattle.bare_world.specs.Follows.{PutFollows, ArriveFollows}
use Rattle.bare_world.specs.Onward.{IsWorld}
use Rattle.bare_world.specs.Measures.{for_ask, for_kept, to_transmit, outstanding, outstanding_of, outstanding_at}
use Rattle.bare_world.proofs.Way.RoundPassesNoRank.{put_frame}
use Rattle.bare_world.proofs.Lists.Places.{set_get_same, set_get_other}

-- ---- a frame is put

-- what is due is due to a rank that is there
ask_there : (dues : List Due) (d n : ℕ) → (slice_index_or dues d no_due).ask ≡ Some n → d < length dues
ask_there [] d n e = absurd cc
ask_there (x ∷ dues) zero n e = omega arith
ask_there (x ∷ dues) (suc d) n e = (let z = ask_there dues d n e in omega (arith, z))

-- a destination to which a Kept is due is one of the list
kept_there : (dues : List Due) (d n : ℕ) → (slice_index_or dues d no_due).kept ≡ Some n → d < length dues
kept_there [] d n e = absurd cc
kept_there (x ∷ dues) zero n e = omega arith
kept_there (x ∷ dues) (suc d) n e = (let z = kept_there dues d n e in omega (arith, z))

-- and so is what is transmitted
next_there : (log : List BacklogValue) (d : ℕ) (p : packet.PacketValue) → next_of (backlog log d) ≡ Some p → d < length log
next_there [] d p e = absurd cc
next_there (b ∷ log) zero p e = omega arith
next_there (b ∷ log) (suc d) p e = (let z = next_there log d p e in omega (arith, z))

-- so many packets more a frame may have transmitted that its own sender hears: an Ask may go back to the first that is kept
abbrev again : Frame → List packet.PacketValue → ℕ
again (frame.Ask from) kept = length kept
again (frame.Kept upto) kept = 0
again (frame.Data p) kept = 0

-- a frame that is put leaves less, even with what it may have transmitted again
pub put_falls : (v : Rank) (d : ℕ) (f : Frame) → (backlog v.log d).base < (backlog v.log d).cursor → outgoing_of v d ≡ Some f
    → outstanding (sent_off v d (Some f)) d + again f (backlog v.log d).kept < outstanding v d
put_falls v d f above e = go (due_to v d).ask (due_to v d).kept (next_of (backlog v.log d)) refl refl refl f e
  where
    due : (x : Due) → d < length v.dues → due_to (with_dues v (slice_set v.dues d x)) d ≡ x
    due x l = get_or-set_same v.dues d x no_due l

    go : (a k : Option ℕ) (o : Option packet.PacketValue) → (due_to v d).ask ≡ a → (due_to v d).kept ≡ k → next_of (backlog v.log d) ≡ o
        → (g : Frame) → first_of a k o ≡ Some g → outstanding (sent_off v d (Some g)) d + again g (backlog v.log d).kept < outstanding v d
    go (Some x) k o ea ek eo g h =
        let q : frame.Ask x ≡ g = cc in
        subst (λ z. outstanding (sent_off v d (Some z)) d + again z (backlog v.log d).kept < outstanding v d) q
        (let r = due (record { ask = None; kept = (due_to v d).kept }) (ask_there v.dues d x ea) in
        let a1 = ap (λ z. for_ask z.ask (backlog v.log d).kept) r in
        let a2 = ap (λ z. for_kept z.kept) r in
        let a3 = ap (λ z. for_ask z (backlog v.log d).kept) ea in
        omega (arith, a1, a2, a3))
    go None (Some x) o ea ek eo g h =
        let q : frame.Kept x ≡ g = cc in
        subst (λ z. outstanding (sent_off v d (Some z)) d + again z (backlog v.log d).kept < outstanding v d) q
        (let r = due (record { ask = (due_to v d).ask; kept = None }) (kept_there v.dues d x ek) in
        let a1 = ap (λ z. for_ask z.ask (backlog v.log d).kept) r in
        let a2 = ap (λ z. for_kept z.kept) r in
        let a3 = ap for_kept ek in
        omega (arith, a1, a2, a3))
    go None None (Some p) ea ek eo g h =
        let q : frame.Data p ≡ g = cc in
        subst (λ z. outstanding (sent_off v d (Some z)) d + again z (backlog v.log d).kept < outstanding v d) q
        (let r : backlog (slice_set v.log d (passed (backlog v.log d))) d ≡ passed (backlog v.log d) =
        get_or-set_same v.log d (passed (backlog v.log d)) new_backlog (next_there v.log d p eo) in
        let within = slice_get_within (backlog v.log d).kept ((backlog v.log d).cursor - ((backlog v.log d).base + 1)) p eo in
        let a1 = ap (λ z. for_ask (due_to v d).ask z.kept) r in
        let a2 = ap to_transmit r in
        omega (arith, within, a1, a2, above))
    go None None None ea ek eo g h = absurd cc

-- ---- and arrives

-- what is put in a place is there, unless the place isn't
set_or : (log : List BacklogValue) (d : ℕ) (b : BacklogValue) → (backlog (slice_set log d b) d ≡ b) ⊎ (backlog (slice_set log d b) d ≡ backlog log d)
set_or [] d b = inr refl
set_or (x ∷ log) zero b = inl refl
set_or (x ∷ log) (suc d) b = set_or log d b

-- an Ask is for no more packets where the first of those kept are gone
for_fewer : (a : Option ℕ) (k : ℕ) (kept : List packet.PacketValue) → for_ask a (drop k kept) ≤ for_ask a kept
for_fewer None k kept = omega arith
for_fewer (Some n) k kept = (let l = length-drop k kept in omega (arith, l))

-- a frame that its own sender hears has no more transmitted again
heard : (v : Rank) (d : ℕ) (f : Frame) → outstanding (after_frame v d f) d ≤ outstanding v d + again f (backlog v.log d).kept
heard v d (frame.Ask n) = go (set_or v.log d (asked (backlog v.log d) n))
  where
    go : (backlog (slice_set v.log d (asked (backlog v.log d) n)) d ≡ asked (backlog v.log d) n)
        ⊎ (backlog (slice_set v.log d (asked (backlog v.log d) n)) d ≡ backlog v.log d)
        → outstanding (after_frame v d (frame.Ask n)) d ≤ outstanding v d + length (backlog v.log d).kept
    go (inl r) = (let a1 = ap (λ z. for_ask (due_to v d).ask z.kept) r in let a2 = ap to_transmit r in omega (arith, a1, a2))
    go (inr r) = (let a1 = ap (λ z. for_ask (due_to v d).ask z.kept) r in let a2 = ap to_transmit r in omega (arith, a1, a2))
heard v d (frame.Kept n) = go (set_or v.log d (pruned (backlog v.log d) n))
  where
    less : (b : BacklogValue) (c : Bool)
        → let x = (if c then record b { base = n; cursor = max b.cursor (n + 1); kept = drop (n - b.base) b.kept } else b) in
        for_ask (due_to v d).ask x.kept + to_transmit x ≤ for_ask (due_to v d).ask b.kept + to_transmit b
    less b true = (let l = length-drop (n - b.base) b.kept in let f = for_fewer (due_to v d).ask (n - b.base) b.kept in omega (arith, l, f))
    less b false = omega arith

    go : (backlog (slice_set v.log d (pruned (backlog v.log d) n)) d ≡ pruned (backlog v.log d) n)
        ⊎ (backlog (slice_set v.log d (pruned (backlog v.log d) n)) d ≡ backlog v.log d)
        → outstanding (after_frame v d (frame.Kept n)) d ≤ outstanding v d + 0
    go (inl r) =
        let a1 = ap (λ z. for_ask (due_to v d).ask z.kept + to_transmit z) r in
        let l = less (backlog v.log d) (nat_lt (backlog v.log d).base n) in
        omega (arith, a1, l)
    go (inr r) = (let a1 = ap (λ z. for_ask (due_to v d).ask z.kept + to_transmit z) r in omega (arith, a1))
heard v d (frame.Data p) = go (p.source == d)
  where
    go : (b : Bool) → outstanding (if b then with_inbox v (after_arrival v.inbox p) else v) d ≤ outstanding v d + 0
    go true = omega arith
    go false = omega arith

-- what is put leaves what is kept
same_again : (v : Rank) (d : ℕ) (f : Frame) → again f (backlog (sent_off v d (Some f)).log d).kept ≡ again f (backlog v.log d).kept
same_again v d (frame.Ask n) = refl
same_again v d (frame.Kept n) = refl
same_again v d (frame.Data p) = refl

-- ---- both

-- a frame that is put and arrives leaves less outstanding for its pair
pub round_less : (w mid w' : WorldValue) (s d : ℕ) (a b : Reply) (f : PutFollows w s d a mid) → ArriveFollows mid s d (length f.frames) b w' → IsWorld w
    → outstanding_at s d w' < outstanding_at s d w
round_less w mid w' s d a b f h i = go (cases_eq s d)
  where
    v : Rank
    v = f.before.rank

    put : Live
    put = record { rank = after_passed v d; left = f.before.left }

    put_is : slice_get mid.ranks s ≡ Some (Some put)
    put_is = ap (λ z. slice_get z.ranks s) f.after ∙ set_get_same w.ranks s (Some f.before) (Some put) f.live

    was : outstanding_at s d w ≡ outstanding v d
    was = ap (λ o. outstanding_of o d) f.live

    above : (backlog v.log d).base < (backlog v.log d).cursor
    above = (i.onward.ranks s f.before f.live).above d

    less : outstanding (after_passed v d) d + again f.frame (backlog v.log d).kept < outstanding v d
    less =
        subst (λ o. outstanding (sent_off v d o) d + again f.frame (backlog v.log d).kept < outstanding v d) (sym f.next) (put_falls v d f.frame above f.next)

    arrived : Live
    arrived = record { rank = after_frame h.before.rank s h.frame; left = h.before.left }

    go : (s ≡ d) ⊎ (s ≡ d → ⊥) → outstanding_at s d w' < outstanding_at s d w
    go (inr ne) =
        let at : slice_get w'.ranks s ≡ Some (Some put) = ap (λ z. slice_get z.ranks s) h.after ∙ set_get_other mid.ranks d s (Some arrived) ne ∙ put_is in
        let now = ap (λ o. outstanding_of o d) at in
        omega (arith, now, was, less)
    go (inl e) =
        let at : slice_get w'.ranks d ≡ Some (Some arrived) =
        ap (λ z. slice_get z.ranks d) h.after ∙ set_get_same mid.ranks d (Some h.before) (Some arrived) h.live in
        let now = ap (λ k. outstanding_of (slice_get w'.ranks k) d) e ∙ ap (λ o. outstanding_of o d) at in
        let one : h.before ≡ put = same h.before put (sym h.live ∙ ap (λ k. slice_get mid.ranks k) (sym e) ∙ put_is) in
        let is : outstanding (after_frame h.before.rank s h.frame) d ≡ outstanding (after_frame (after_passed v d) d f.frame) d =
        ap (λ z. outstanding (after_frame z.rank s h.frame) d) one
        ∙ ap (λ k. outstanding (after_frame (after_passed v d) k h.frame) d) e
        ∙ ap (λ z. outstanding (after_frame (after_passed v d) d z) d) (put_frame w mid w' s d a b f h) in
        let more = heard (after_passed v d) d f.frame in
        let kept : again f.frame (backlog (after_passed v d).log d).kept ≡ again f.frame (backlog v.log d).kept =
        ap (λ o. again f.frame (backlog (sent_off v d o).log d).kept) f.next ∙ same_again v d f.frame in
        omega (arith, now, was, is, more, kept, less)
      where
        same : (x y : Live) → ◌≡◌ {A = Option (Option Live)} (Some (Some x)) (Some (Some y)) → x ≡ y
        same x y q = cc
