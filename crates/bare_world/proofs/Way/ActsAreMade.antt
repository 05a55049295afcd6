-- The acts of a run are made again, one after another, by steps of their ranks.
use Rattle.std.proofs.Common.{◌≡◌, ℕ, zero, suc, ◌+◌, ◌-◌, ◌<◌, ◌≤◌, ◌⊎◌, inl, inr, List, [], ◌∷◌, ◌++◌, Some, length}
use Rattle.std.proofs.Common.{refl, sym, ap, subst, ◌∙◌, arith, add-one, take, drop}
use Rattle.std.specs.Prelude.{IsSomeAnd}
use Rattle.std.proofs.lemmas.Bool.{cases_lt}
use Rattle.rank_machine.specs.States.{State}
use Rattle.crash_free.specs.Runs.{Passed, history, IsRun}
use Rattle.bare_world.specs.declared.event.WorldEvent.{WorldEvent}
use Rattle.bare_world.specs.declared.event.WorldEvent.TheVariants.{Step}
use Rattle.bare_world.specs.declared.view.View.{View}
use Rattle.bare_world.specs.World.{Live, WorldValue, size, IsLive}
use Rattle.bare_world.specs.View.{shown_of, IsView}
use Rattle.crash_free.specs.Points.{first_acts}
use Rattle.bare_world.specs.RunIndex.{IsNext}
use Rattle.bare_world.specs.Stands.{start_at}
use Rattle.bare_world.specs.Onward.{Behind}
use Rattle.bare_world.specs.Stocked.{IsStocked}
use Rattle.bare_world.specs.Measures.{steps_of}
use Rattle.bare_world.specs.Driven.{Ready, MadeAt, IsNear, listed, Advanced}
use Rattle.bare_world.proofs.Lists.Beginnings.{drop_some, next_of_drop}
use Rattle.bare_world.proofs.Calls.RankOfEvent.{one_live}
use Rattle.bare_world.proofs.Again.GoesOn.{behind}
use Rattle.bare_world.proofs.Again.NextActIsMade.{at_act, ready_after}
use Rattle.bare_world.proofs.Again.Calls.{advanced_none, advanced_more}
use Rattle.bare_world.proofs.Again.EachActIsMade.{run_parts, one_more, step_next, near_made, made_before, next_ahead, nears_first, stocked_lines, ready_at, make_first}
use Rattle.bare_world.proofs.Way.EventIsAnswered.{step_drive}
use Rattle.bare_world.proofs.Way.AllIsDelivered.{Reach, flush_from}

-- what is shown of a live rank
shown : (w : WorldValue) (r : ℕ) (v : Live) → IsLive w r v → (view : View) × IsView w r view × (view.clock ≡ v.rank.clock)
shown w r v live = (
  shown_of (Some v) (length (history w.run r)),
  subst (λ o. IsSomeAnd o (λ x. shown_of (Some v) (length (history w.run r)) ≡ shown_of x (length (history w.run r)))) (sym live) refl,
  refl,
)

-- the clock at which a rank has made its next act
abbrev clock_of : List Passed → ℕ → ℕ → ℕ
clock_of C k r = length (history (first_acts k C) r) + 1

-- the rank of the next act makes a step, unless it has made it: so of a world that has fewer left, and so of this one
steps_on : (n : ℕ) (a b : WorldValue) (x y : List WorldEvent) (k r bound : ℕ) (next : IsNext a.run k r)
    → ((c : WorldValue) (z : List WorldEvent) → Advanced a x c z → IsNear a.run k r (bound - length z) c → IsStocked c → r < size c
    → bound - length z < n → Reach (λ d u. Advanced a x d u × MadeAt a.run k r d))
    → Advanced a x b y → IsNear a.run k r (bound - length y) b → IsStocked b → r < size b → bound - length y < n + 1
    → Reach (λ c z. Advanced a x c z × MadeAt a.run k r c)
steps_on n a b x y k r bound next again f near t lr l = go (cases_lt v.0.rank.clock (clock_of a.run k r)) near
  where
    live : IsNear a.run k r (bound - length y) b → (v : Live) × IsLive b r v
    live (inl h) = h.0.all_live r lr
    live (inr h) = h.2.all_live r lr

    v : (v : Live) × IsLive b r v
    v = live near

    view : (view : View) × IsView b r view × (view.clock ≡ v.0.rank.clock)
    view = shown b r v.0 v.1

    run : b.run ≡ take (length a.run - (k + 1)) a.run ++ record { rank = r; act = next.0 } ∷ first_acts k a.run
    run = f.same_run ∙ run_parts a.run k (record { rank = r; act = next.0 }) next.1

    on : v.0.rank.clock < clock_of a.run k r → Behind b.run r v.0 → Reach (λ c z. Advanced a x c z × MadeAt a.run k r c)
    on low late =
        let d = step_drive b r v.0 f.is_world t v.1 late in
        let z = listed y (Step r) d.0 in
        let e = view.2 in
        let s = step_next a b x y k r (clock_of a.run k r) view.0 next refl lr f view.1 bound d.1 z r d.0 refl near (omega (arith, low, e)) d.2 refl in
        let m = s.0.same_size in
        let o = f.same_size in
        let less = s.2 in
        again d.1 z s.0 s.1 d.3 (omega (arith, lr, m, o)) (omega (arith, l, less))

    go : (v.0.rank.clock < clock_of a.run k r) ⊎ (clock_of a.run k r ≤ v.0.rank.clock) → IsNear a.run k r (bound - length y) b
        → Reach (λ c z. Advanced a x c z × MadeAt a.run k r c)
    go (inr done) near2 =
        let e = view.2 in (
          b,
          y,
          (f, near_made a b x y k r (clock_of a.run k r) view.0 next refl lr f view.1 (bound - length y) near2 (omega (arith, done, e))),
          t,
        )
    go (inl low) (inl h) =
        on low
        (behind b (first_acts k a.run) (take (length a.run - (k + 1)) a.run) r next.0 v.0 h.0 run v.1 (at_act b (first_acts k a.run) r v.0 h.0 v.1 low))
    go (inl low) (inr h) =
        let made = h.2.through.made r v.0 v.1 in
        let m = one_more (first_acts k a.run) r h.0 in
        absurd (omega (arith, low, made, m))

-- it steps until it has made it
steps_to : (n : ℕ) (a b : WorldValue) (x y : List WorldEvent) (k r bound : ℕ) (next : IsNext a.run k r) → Advanced a x b y
    → IsNear a.run k r (bound - length y) b → IsStocked b → r < size b → bound - length y < n → Reach (λ c z. Advanced a x c z × MadeAt a.run k r c)
steps_to zero a b x y k r bound next f near t lr l = absurd (omega (arith, l))
steps_to (suc n) a b x y k r bound next f near t lr l =
    steps_on n a b x y k r bound next (λ c z g h s m o. steps_to n a c x z k r bound next g h s m o) f near t lr (omega (arith, l))

-- where it has made it already, or by steps
make : (b : WorldValue) (y : List WorldEvent) (k r : ℕ) → Ready b (first_acts k b.run) → IsStocked b → IsNext b.run k r → r < size b
    → Reach (λ c z. Advanced b y c z × MadeAt b.run k r c)
make b y k r ready t next lr = go (cases_lt v.0.rank.clock (clock_of b.run k r))
  where
    v : (v : Live) × IsLive b r v
    v = ready.all_live r lr

    view : (view : View) × IsView b r view × (view.clock ≡ v.0.rank.clock)
    view = shown b r v.0 v.1

    go : (v.0.rank.clock < clock_of b.run k r) ⊎ (clock_of b.run k r ≤ v.0.rank.clock) → Reach (λ c z. Advanced b y c z × MadeAt b.run k r c)
    go (inr done) =
        let e = view.2 in
        (b, y, (advanced_none b y ready.is_world, made_before b k r (clock_of b.run k r) view.0 next refl lr view.1 ready (omega (arith, done, e))), t)
    go (inl low) =
        let e = view.2 in
        let same : (u : Live) → IsLive b r u → v.0.rank.machine ≡ u.rank.machine =
        λ u live. sym (ap (λ z. z.rank.machine) (one_live b r v.0 u v.1 live)) in
        let j = next_ahead b k r (clock_of b.run k r) view.0 v.0.rank.machine next refl lr view.1 ready (omega (arith, low, e)) same in
        let bound = length y + 1 + steps_of j.0 v.0.rank.machine in
        steps_to (bound - length y + 1) b b y y k r bound next (advanced_none b y ready.is_world)
        (inl (ready, nears_first b r (length y) j.0 v.0.rank.machine j.1 same (λ u live. stocked_lines b r u t live))) t lr (omega arith)

-- after the first k acts of a run comes one
some_next : (C : List Passed) (k : ℕ) → k < length C → (p : Passed) × (first_acts (k + 1) C ≡ p ∷ first_acts k C)
some_next C k l =
    let d = drop_some (length C - (k + 1)) C (omega (arith, l)) in
    let n = next_of_drop (length C - (k + 1)) C d.0 d.1 d.2 in
    let same : length C - (k + 1) + 1 ≡ length C - k = omega (arith, l) in
    (d.0, d.2 ∙ ap (λ z. d.0 ∷ z) (sym n.dropped ∙ ap (λ z. drop z C) same))

-- it is of one of the ranks
rank_below : (start : ℕ → State) (n : ℕ) (late : List Passed) (p : Passed) (early : List Passed) → IsRun start n (late ++ p ∷ early) → p.rank < n
rank_below start n [] p early i = i.1
rank_below start n (q ∷ late) p early i = rank_below start n late p early i.0

-- the first k acts of the run
pub make_to : (a : WorldValue) (x : List WorldEvent) → Ready a [] → IsStocked a → (k : ℕ) → k ≤ length a.run
    → Reach (λ b y. Advanced a x b y × Ready b (first_acts k a.run))
make_to a x ready t zero l = (a, x, (advanced_none a x ready.is_world, make_first a ready), t)
make_to a x ready t (suc k) l =
    let p = make_to a x ready t k (omega (arith, l)) in
    let b = p.0 in
    let f = p.2.0 in
    let long = ap length f.same_run in
    let n = some_next b.run k (omega (arith, l, long)) in
    let lr = rank_below (start_at b (size b)) (size b) (take (length b.run - (k + 1)) b.run) n.0 (first_acts k b.run)
    (subst (λ C. IsRun (start_at b (size b)) (size b) C) (run_parts b.run k n.0 n.1) f.is_world.stands.run.is_run) in
    let m = make b p.1 k n.0.rank (ready_at a b x p.1 k f p.2.1) p.3 (n.0.act, n.1, omega (arith, l, long)) lr in
    let made = m.2.1 in
    let same = m.2.0.same_size in
    let q = flush_from m.0 m.1 n.0.rank m.2.0.is_world m.3 made.2.all_live (omega (arith, lr, same)) in (
      q.0,
      q.1,
      (
        advanced_more a m.0 q.0 x m.1 q.1 (advanced_more a b m.0 x p.1 m.1 f m.2.0) q.2.0.advanced,
        subst (λ j. Ready q.0 (first_acts j a.run)) (add-one k)
            (subst (λ C. Ready q.0 (first_acts (k + 1) C)) f.same_run
            (subst (λ early. Ready q.0 early) (sym made.1)
            (ready_after m.0 q.0 (record { rank = n.0.rank; act = made.0 }) (first_acts k b.run) made.2 q.2.0.advanced.is_world q.2.0.keeps
            (λ d j. (q.2.1 d j).drained made.2.no_gaps)))),
      ),
      q.3,
    )
