-- The acts of the run are made again, one after another.
use Rattle.std.proofs.Common.{◌≡◌, ℕ, zero, suc, ◌+◌, ◌-◌, ◌<◌, ◌≤◌, ◌⊎◌, inl, inr, ⊎_elim, List, [], ◌∷◌, ◌++◌, length, refl, sym, ap}
use Rattle.std.proofs.Common.{subst, ◌∙◌, arith, slice_set, slice_index_or, get_or, take, drop, replicate}
use Rattle.std.specs.Prelude.{IsSomeAnd}
use Rattle.std.proofs.lemmas.Bool.{cases_eq}
use Rattle.std.proofs.lemmas.List.{length-set, length_push, take-append-drop}
use Rattle.std.proofs.lemmas.Grind.{get_or_default_zero}
use Rattle.limits.specs.Limits.{greatest_clock}
use Rattle.rank_language.specs.Block.{lines_at}
use Rattle.rank_language.specs.Program.{ProgramValue, block_of}
use Rattle.rank_machine.specs.Acts.{Act}
use Rattle.rank_machine.specs.Machine.{MachineValue, state_of}
use Rattle.crash_free.specs.Runs.{Passed, history, sent, looked_up}
use Rattle.crash_free.proofs.Lists.{history-own, history-other}
use Rattle.bare_world.specs.declared.event.WorldEvent.{WorldEvent}
use Rattle.bare_world.specs.declared.event.WorldEvent.TheVariants.{Step}
use Rattle.bare_world.specs.declared.reply.Reply.{Reply}
use Rattle.bare_world.specs.declared.reply.Reply.TheVariants as reply
use Rattle.bare_world.specs.declared.view.View.{View}
use Rattle.bare_world.specs.World.{Live, WorldValue, size, IsLive}
use Rattle.bare_world.specs.View.{shown_of, IsView}
use Rattle.crash_free.specs.Points.{first_acts}
use Rattle.bare_world.specs.RunIndex.{IsNext}
use Rattle.bare_world.specs.Stocked.{IsStocked}
use Rattle.bare_world.specs.Follows.{Follows}
use Rattle.bare_world.specs.Measures.{StopsAfter, steps_of, RankNears, HasLines}
use Rattle.bare_world.specs.Driven.{Advanced, Flushed, Emptied, MadeAt, IsNear, IsCounted, Ready, listed}
use Rattle.bare_world.proofs.Lists.Beginnings.{drop_beyond}
use Rattle.bare_world.proofs.Again.NextActIsMade.{act_ahead, make_next, made_already, ready_after}
use Rattle.bare_world.proofs.Again.Calls.{advanced_by, advanced_more}

-- ---- the earlier acts

-- an act of a run stands between later ones and earlier ones
pub run_parts : (C : List Passed) (k : ℕ) (p : Passed) → first_acts (k + 1) C ≡ p ∷ first_acts k C → C ≡ take (length C - (k + 1)) C ++ p ∷ first_acts k C
run_parts C k p e = sym (take-append-drop (length C - (k + 1)) C) ∙ ap (λ z. take (length C - (k + 1)) C ++ z) e

-- none
no_first_acts : (C : List Passed) → first_acts 0 C ≡ []
no_first_acts C = drop_beyond (length C - 0) C (omega arith)

-- all
all_first_acts : (C : List Passed) (k : ℕ) → length C ≤ k → first_acts k C ≡ C
all_first_acts C k l = ap (λ z. drop z C) (let e : length C - k ≡ 0 = omega (arith, l) in e) ∙ whole C
  where
    whole : (xs : List Passed) → drop 0 xs ≡ xs
    whole [] = refl
    whole (x ∷ xs) = refl

-- ---- one step

-- the clock that is shown
clock_of : (w : WorldValue) (r : ℕ) (v : Live) (view : View) → IsView w r view → IsLive w r v → view.clock ≡ v.rank.clock
clock_of w r v view i l = ap (λ z. z.clock) (subst (λ o. IsSomeAnd o (λ x. view ≡ shown_of x (length (history w.run r)))) l i)

-- a rank's act comes last in its history
pub one_more : (early : List Passed) (r : ℕ) (a : Act) → length (history (record { rank = r; act = a } ∷ early) r) ≡ length (history early r) + 1
one_more early r a =
    let e = ap length (history-own early r a) in
    let n = length_push (history early r) (a, looked_up (λ k. sent early k r) a) in
    omega (arith, e, n)

-- an event that moved its rank is listed, so the list is longer by one
listed_moved : (events : List WorldEvent) (event : WorldEvent) (answer : Reply) → answer ≡ reply.Moved
    → length (listed events event answer) ≡ length events + 1
listed_moved events event answer e =
    let q = ap (λ z. length (listed events event z)) e in
    let n = length_push events event in
    omega (arith, q, n)

module _ (a b : WorldValue) (x y : List WorldEvent) (k r count : ℕ) (view : View) (next : IsNext a.run k r)
    (is : count ≡ length (history (first_acts k a.run) r) + 1) (lr : r < size b)
    (f : Advanced a x b y) (seen : IsView b r view) where
  abbrev p : Passed
  p = record { rank = r; act = next.0 }

  run : b.run ≡ take (length a.run - (k + 1)) a.run ++ p ∷ first_acts k a.run
  run = f.same_run ∙ run_parts a.run k p next.1

  -- the next act is nearer by a step, which goes on the list: fewer steps are left of those that were left when it began
  pub step_next : (bound : ℕ) (c : WorldValue) (z : List WorldEvent) (r1 : ℕ) (answer : Reply) → r1 ≡ r → IsNear a.run k r (bound - length y) b
      → view.clock < count → Follows b (Step r1) answer c → z ≡ listed y (Step r1) answer
      → Advanced a x c z × IsNear a.run k r (bound - length z) c × (bound - length z < bound - length y)
  step_next bound c z r1 answer e1 near low g1 ez1 = go near
    where
      g : Follows b (Step r) answer c
      g = subst (λ q. Follows b (Step q) answer c) e1 g1

      ez : listed y (Step r) answer ≡ z
      ez = sym (ez1 ∙ ap (λ q. listed y (Step q) answer) e1)

      go : IsNear a.run k r (bound - length y) b → Advanced a x c z × IsNear a.run k r (bound - length z) c × (bound - length z < bound - length y)
      go (inl near) =
          let ready = near.0 in
          let v = ready.all_live r lr in
          let few = (near.1 v.0 v.1).few in
          let shown = clock_of b r v.0 view seen v.1 in
          let s =
          make_next b (first_acts k a.run) (take (length a.run - (k + 1)) a.run) r next.0 v.0 answer c ready run v.1 (omega (arith, low, shown, is)) g in
          let more : length z ≡ length y + 1 = subst (λ q. length q ≡ length y + 1) ez (listed_moved y (Step r) answer s.moved) in
          let left : bound - length y - 1 ≡ bound - length z = omega (arith, more) in (
            advanced_more a b c x y z f
                (subst (λ q. Advanced b y c q) ez (advanced_by b y (Step r) answer c f.is_world tt (λ start d. tt) (λ ne. s.same_run) g)),
            ⊎_elim (λ h. inl (h.0, subst (λ n. RankNears n r c) left (h.1 (bound - length y) near.1))) (λ h. inr (next.0, next.1, h)) s.on,
            omega (arith, few, more),
          )
      go (inr made) =
          let v = made.2.all_live r lr in
          let shown = clock_of b r v.0 view seen v.1 in
          let there = made.2.through.made r v.0 v.1 in
          let n = one_more (first_acts k a.run) r made.0 in
          absurd (omega (arith, low, shown, is, there, n))

  -- a rank whose clock has come so far has made it
  pub near_made : (n : ℕ) → IsNear a.run k r n b → count ≤ view.clock → MadeAt a.run k r b
  near_made n (inr made) l = made
  near_made n (inl near) l =
      let ready = near.0 in
      let v = ready.all_live r lr in
      let shown = clock_of b r v.0 view seen v.1 in
      (next.0, next.1, made_already b (first_acts k a.run) (take (length a.run - (k + 1)) a.run) p v.0 ready run v.1 (omega (arith, l, shown, is)))

-- so has the rank of the next act, where its clock is shown to have come so far
pub made_before : (w : WorldValue) (k r count : ℕ) (view : View) → IsNext w.run k r → count ≡ length (history (first_acts k w.run) r) + 1 → r < size w
    → IsView w r view → Ready w (first_acts k w.run) → count ≤ view.clock → MadeAt w.run k r w
made_before w k r count view next is lr seen ready l =
    let v = ready.all_live r lr in
    let shown = clock_of w r v.0 view seen v.1 in
    let parts = run_parts w.run k (record { rank = r; act = next.0 }) next.1 in (
      next.0,
      next.1,
      made_already w (first_acts k w.run) (take (length w.run - (k + 1)) w.run) (record { rank = r; act = next.0 }) v.0 ready parts v.1
          (omega (arith, l, shown, is)),
    )

-- else its machine comes to the act by so many inner steps
pub next_ahead : (w : WorldValue) (k r count : ℕ) (view : View) (m : MachineValue) → IsNext w.run k r → count ≡ length (history (first_acts k w.run) r) + 1
    → r < size w → IsView w r view → Ready w (first_acts k w.run) → view.clock < count → ((v : Live) → IsLive w r v → m ≡ v.rank.machine)
    → (j : ℕ) × StopsAfter j (state_of m)
next_ahead w k r count view m next is lr seen ready low same =
    let v = ready.all_live r lr in
    let shown = clock_of w r v.0 view seen v.1 in
    let parts = run_parts w.run k (record { rank = r; act = next.0 }) next.1 in
    let there = act_ahead w (first_acts k w.run) (take (length w.run - (k + 1)) w.run) r next.0 v.0 ready parts v.1 (omega (arith, low, shown, is)) in
    (there.0, subst (λ z. StopsAfter there.0 (state_of z)) (sym (same v.0 v.1)) there.1)

-- the lines of a live rank's program are those of its tree, as those of the world's program are
pub stocked_lines : (w : WorldValue) (r : ℕ) (v : Live) → IsStocked w → IsLive w r v → HasLines v
stocked_lines w r v t live = subst (λ (z : ProgramValue). z.statements ≡ lines_at 0 (block_of z)) (sym (t.run r v live)) t.lines

-- a rank that is behind has its act ahead, and makes fewer steps of its own than these before it
pub nears_first : (w : WorldValue) (r length_before steps : ℕ) (m : MachineValue) → StopsAfter steps (state_of m)
    → ((v : Live) → IsLive w r v → m ≡ v.rank.machine) → ((v : Live) → IsLive w r v → HasLines v)
    → RankNears (length_before + 1 + steps_of steps m - length_before) r w
nears_first w r length_before steps m stops is lines v live =
    let e = is v live in
    record {
      inner_steps = steps;
      stops = subst (λ z. StopsAfter steps (state_of z)) e stops;
      lines = lines v live;
      few = let q = ap (λ z. steps_of steps z) e in omega (arith, q);
    }

-- ---- counting

-- what was set at an index is there
index_same : (xs : List ℕ) (i y : ℕ) → i < length xs → slice_index_or (slice_set xs i y) i 0 ≡ y
index_same [] i y l = absurd (omega (arith, l))
index_same (x ∷ xs) zero y l = refl
index_same (x ∷ xs) (suc i) y l = index_same xs i y (omega (arith, l))

-- another index has what it had
index_other : (xs : List ℕ) (i k y : ℕ) → (k ≡ i → ⊥) → slice_index_or (slice_set xs i y) k 0 ≡ slice_index_or xs k 0
index_other [] i k y ne = refl
index_other (x ∷ xs) zero zero y ne = absurd (ne refl)
index_other (x ∷ xs) zero (suc k) y ne = refl
index_other (x ∷ xs) (suc i) zero y ne = refl
index_other (x ∷ xs) (suc i) (suc k) y ne = index_other xs i k y (λ e. ne (ap suc e))

-- the counts of a run's first acts, with one more for the rank of the next act, are those of one act more
counted_next : (n : ℕ) (C : List Passed) (k r : ℕ) (counts : List ℕ) → r < n → IsNext C k r → IsCounted n (first_acts k C) counts
    → IsCounted n (first_acts (k + 1) C) (slice_set counts r (slice_index_or counts r 0 + 1))
counted_next n C k r counts l next c =
    subst (λ z. IsCounted n z (slice_set counts r (slice_index_or counts r 0 + 1))) (sym next.1)
    (record { width = length-set counts r (slice_index_or counts r 0 + 1) ∙ c.width; count = λ q m. count q m (cases_eq q r) })
  where
    count : (q : ℕ) → q < n → (q ≡ r) ⊎ (q ≡ r → ⊥)
        → slice_index_or (slice_set counts r (slice_index_or counts r 0 + 1)) q 0 ≡ length (history (record { rank = r; act = next.0 } ∷ first_acts k C) q)
    count q m (inl e) =
        let w = c.width in
        let h = ap (λ z. slice_index_or (slice_set counts r (slice_index_or counts r 0 + 1)) z 0) e in
        let s = index_same counts r (slice_index_or counts r 0 + 1) (omega (arith, l, w)) in
        let o = c.count r l in
        let t = one_more (first_acts k C) r next.0 in
        let u = ap (λ z. length (history (record { rank = r; act = next.0 } ∷ first_acts k C) z)) e in
        omega (arith, h, s, o, t, u)
    count q m (inr ne) =
        index_other counts r q (slice_index_or counts r 0 + 1) ne ∙ c.count q m
        ∙ sym (ap length (history-other (first_acts k C) (record { rank = r; act = next.0 }) q (λ e. ne (sym e))))

-- before the first act each rank's count is 0
pub counted_first : (n : ℕ) (C : List Passed) → IsCounted n (first_acts 0 C) (replicate n 0)
counted_first n C =
    subst (λ z. IsCounted n z (replicate n 0)) (sym (no_first_acts C)) (record { width = width n; count = λ r l. nothing n r })
  where
    width : (m : ℕ) → length {A = ℕ} (replicate m 0) ≡ m
    width zero = refl
    width (suc m) = ap suc (width m)

    nothing : (m r : ℕ) → let none : ℕ = 0 in slice_index_or (replicate m none) r none ≡ none
    nothing zero r = refl
    nothing (suc m) zero = refl
    nothing (suc m) (suc r) = nothing m r

-- what is read of the counts, and what is written
old_count : (n r f old : ℕ) (early : List Passed) (counts : List ℕ) → f ≡ r → r < n → IsCounted n early counts → old ≡ get_or counts f old
    → old ≡ slice_index_or counts r 0
old_count n r f old early counts e l c is =
    is ∙ ap (λ z. get_or counts z old) e ∙ get_or_default_zero counts r old (let w = c.width in omega (arith, l, w))

-- the count of the rank of the next act, with one more, says how many acts the rank has made once it makes that one
pub new_count : (n k r f g old new : ℕ) (C : List Passed) (counts : List ℕ) → f ≡ r → g ≡ r → r < n → IsCounted n (first_acts k C) counts
    → old ≡ get_or counts f old
    → new ≡ get_or (slice_set counts f (old + 1)) g new → new ≡ length (history (first_acts k C) r) + 1
new_count n k r f g old new C counts e1 e2 l c is now =
    let o = old_count n r f old (first_acts k C) counts e1 l c is in
    let w = c.width in
    let set = length-set counts r (old + 1) in
    let at = now ∙ ap (λ z. get_or (slice_set counts z (old + 1)) g new) e1 ∙ ap (λ z. get_or (slice_set counts r (old + 1)) z new) e2
    ∙ get_or_default_zero (slice_set counts r (old + 1)) r new (omega (arith, l, w, set)) ∙ index_same counts r (old + 1) (omega (arith, l, w)) in
    let h = c.count r l in
    omega (arith, at, o, h)

-- counts stay those of the run's first acts where the rank of the next act gets one more
pub counted_set : (n k r f old : ℕ) (C : List Passed) (counts : List ℕ) → f ≡ r → r < n → IsNext C k r → IsCounted n (first_acts k C) counts
    → old ≡ get_or counts f old
    → IsCounted n (first_acts (k + 1) C) (slice_set counts f (old + 1))
counted_set n k r f old C counts e l next c is =
    let o = old_count n r f old (first_acts k C) counts e l c is in
    subst (λ z. IsCounted n (first_acts (k + 1) C) (slice_set counts z (old + 1))) (sym e)
    (subst (λ z. IsCounted n (first_acts (k + 1) C) (slice_set counts r (z + 1))) (sym o) (counted_next n C k r counts l next c))

-- a count is a clock, or less
count_low : (w : WorldValue) (k r : ℕ) (counts : List ℕ) → Ready w (first_acts k w.run) → r < size w → IsCounted (size w) (first_acts k w.run) counts
    → slice_index_or counts r 0 ≤ greatest_clock
count_low w k r counts ready l c =
    let v = ready.all_live r l in
    let made = ready.through.made r v.0 v.1 in
    let most = (ready.is_world.onward.ranks r v.0 v.1).clock in
    let is = c.count r l in
    omega (arith, made, most, is)

-- what is counted is within the limit of clocks
pub low_count : (w : WorldValue) (k r f old : ℕ) (counts : List ℕ) → Ready w (first_acts k w.run) → f ≡ r → r < size w
    → IsCounted (size w) (first_acts k w.run) counts
    → old ≡ get_or counts f old → old ≤ greatest_clock
low_count w k r f old counts ready e l c is =
    let o = old_count (size w) r f old (first_acts k w.run) counts e l c is in
    let m = count_low w k r counts ready l c in
    omega (arith, o, m)

-- ---- one act after another

-- after one more act of the run is made and what is outgoing is flushed, the world is ready for the act after that, and the counts are right
pub make_all_next : (a b c d : WorldValue) (x y z u : List WorldEvent) (k r : ℕ) (counts : List ℕ) → Advanced a x b y → Advanced b y c z → MadeAt b.run k r c
    → IsCounted (size b) (first_acts (k + 1) b.run) counts → Flushed c z d u → ((t : ℕ) → t < size d → Emptied r t c d)
    → Advanced a x d u × Ready d (first_acts (k + 1) a.run) × IsCounted (size a) (first_acts (k + 1) a.run) counts
make_all_next a b c d x y z u k r counts f g made counted h emptied = (
  advanced_more a c d x z u (advanced_more a b c x y z f g) h.advanced,
  subst (λ C. Ready d (first_acts (k + 1) C)) f.same_run
      (subst (λ early. Ready d early) (sym made.1)
      (ready_after c d (record { rank = r; act = made.0 }) (first_acts k b.run) made.2 h.advanced.is_world h.keeps
      (λ t l. (emptied t l).drained made.2.no_gaps))),
  subst (λ n. IsCounted n (first_acts (k + 1) a.run) counts) f.same_size (subst (λ C. IsCounted (size b) (first_acts (k + 1) C) counts) f.same_run counted),
)

-- what the next call wants
pub ready_at : (a b : WorldValue) (x y : List WorldEvent) (k : ℕ) → Advanced a x b y → Ready b (first_acts k a.run) → Ready b (first_acts k b.run)
ready_at a b x y k f g = subst (λ C. Ready b (first_acts k C)) (sym f.same_run) g

-- counts of the first acts of a run are right in a world that advanced, as its run and its size are the same
pub counted_at : (a b : WorldValue) (x y : List WorldEvent) (k : ℕ) (counts : List ℕ) → Advanced a x b y → IsCounted (size a) (first_acts k a.run) counts
    → IsCounted (size b) (first_acts k b.run) counts
counted_at a b x y k counts f g =
    subst (λ n. IsCounted n (first_acts k b.run) counts) (sym f.same_size) (subst (λ C. IsCounted (size a) (first_acts k C) counts) (sym f.same_run) g)

-- before the first
pub make_first : (w : WorldValue) → Ready w [] → Ready w (first_acts 0 w.run)
make_first w g = subst (λ z. Ready w z) (sym (no_first_acts w.run)) g

-- after the last
pub make_last : (a b : WorldValue) (x y : List WorldEvent) (k : ℕ) → Advanced a x b y → length a.run ≤ k → Ready b (first_acts k a.run) → Ready b b.run
make_last a b x y k f l g = subst (λ z. Ready b z) (all_first_acts a.run k l ∙ sym f.same_run) g
