-- The parts of the way that one act of the run takes: it is made, what its rank has for each other is put and arrives, and the way is ready for the next act.
use Rattle.std.proofs.Common.{◌≡◌, ℕ, ◌≤◌, ◌⊎◌, inl, inr, ⊎_elim, List, [], ◌∷◌, ◌++◌, Some, length, refl, sym, ap, subst, ◌∙◌, arith}
use Rattle.std.proofs.Common.{slice_get, slice_set, slice_index}
use Rattle.std.proofs.lemmas.Bool.{cases_eq}
use Rattle.std.proofs.lemmas.List.{length-set}
use Rattle.matching.specs.Inbox.{accepted_from}
use Rattle.payload_log.specs.Backlog.{backlog}
use Rattle.crash_free.specs.Runs.{Passed, history}
use Rattle.bare_world.specs.declared.reply.Reply.{Reply}
use Rattle.bare_world.specs.World.{Live}
use Rattle.bare_world.specs.World.{WorldValue, IsLive}
use Rattle.bare_world.specs.Onward.{Behind}
use Rattle.bare_world.specs.Driven.{AllLive, DrainedIn, Drained, Through}
use Rattle.bare_world.proofs.Again.StepWithNothingLeft.{StepOn}
use Rattle.bare_world.proofs.Way.FramesPassNoRank.{who}
use Rattle.bare_world.proofs.Lists.Places.{set_get_same, set_get_other}

-- ---- a rank's value changes, and its clock doesn't go back

-- all ranks stay live where a live rank's place is set to a live rank
pub all_live_kept : (w w' : WorldValue) (r : ℕ) (x y : Live) → IsLive w r x → w'.ranks ≡ slice_set w.ranks r (Some y) → AllLive w → AllLive w'
all_live_kept w w' r x y live ranks all q l = go (cases_eq q r)
  where
    go : (q ≡ r) ⊎ (q ≡ r → ⊥) → (z : Live) × IsLive w' q z
    go (inl e) = (y, ap (λ z. slice_get z q) ranks ∙ ap (λ z. slice_get (slice_set w.ranks r (Some y)) z) e ∙ set_get_same w.ranks r (Some x) (Some y) live)
    go (inr ne) =
        let e1 = ap length ranks in
        let e2 = length-set w.ranks r (Some y) in
        let z = all q (omega (arith, l, e1, e2)) in
        (z.0, ap (λ k. slice_get k q) ranks ∙ set_get_other w.ranks r q (Some y) ne ∙ z.1)

-- each rank has still made its acts of an early part of the run where one rank changes and its clock doesn't fall
pub through_kept : (w w' : WorldValue) (r : ℕ) (x y : Live) (early : List Passed) → IsLive w r x → w'.ranks ≡ slice_set w.ranks r (Some y) → w'.run ≡ w.run
    → x.rank.clock ≤ y.rank.clock → Through w early → Through w' early
through_kept w w' r x y early live ranks run later t =
    record {
      late = t.late;
      parts = run ∙ t.parts;
      made = λ q z l. ⊎_elim (λ h. (let n = t.made r x live in let e = ap (λ k. k.rank.clock) h.1 in let f = ap (λ k. length (history early k)) h.0 in
          omega (arith, n, e, f, later))) (λ h. t.made q z h.1) (who w w' r y ranks q z l);
    }

-- ---- what the others had sent is accepted still

-- after the act of rank r all pairs but its own are drained
pub next_drained : (w : WorldValue) (r : ℕ) (v : Live) (answer : Reply) (w' : WorldValue) → IsLive w r v → (s : StepOn w r v answer w') → Drained w
    → DrainedIn (λ q d. q ≡ r → ⊥) w'
next_drained w r v answer w' live s g q d x y other lx ly b = go (who w w' r s.new s.ranks q x lx) (who w w' r s.new s.ranks d y ly)
  where
    before : Behind w.run d y
    before = subst (λ C. Behind C d y) s.run b

    later : v.rank.clock ≤ s.new.rank.clock
    later = ⊎_elim (λ h. (let z = h.0 in omega (arith, z))) (λ z. omega (arith, z)) s.went.either

    go : ((q ≡ r) × (x ≡ s.new)) ⊎ ((q ≡ r → ⊥) × IsLive w q x) → ((d ≡ r) × (y ≡ s.new)) ⊎ ((d ≡ r → ⊥) × IsLive w d y)
        → (backlog x.rank.log d).sent ≤ accepted_from y.rank.inbox q
    go (inl i) j = absurd (other i.0)
    go (inr i) (inr j) = g q d x y tt i.1 j.1 before
    go (inr i) (inl j) =
        let c = ap (λ k. k.rank.clock) j.1 in
        let n = g q d x v tt i.1 (subst (λ k. IsLive w k v) (sym j.0) live) (omega (arith, before, c, later)) in
        let a = ap (λ k. accepted_from k.rank.inbox q) j.1 in
        let e = ap (λ k. slice_index k q) s.went.accepted in
        omega (arith, n, a, e)

-- before the first act nothing was gone through
pub through_none : (w : WorldValue) → Through w []
through_none w = record { late = w.run; parts = sym (nothing w.run); made = λ r v l. omega arith }
  where
    nothing : (C : List Passed) → C ++ [] ≡ C
    nothing [] = refl
    nothing (p ∷ C) = ap (λ z. p ∷ z) (nothing C)
